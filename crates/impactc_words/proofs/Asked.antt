-- Words ask for one command, or for none.
use Rattle.std.proofs.Common.{Option, Bool, true, false, inl, inr, refl, ◌≡◌, ℕ, List, [], ◌∷◌, Some, None, sym, ap, ◌∙◌, subst}
use Rattle.std.specs.Prelude.{◌⊎◌, bytes_eq, codes}
use Rattle.std.proofs.lemmas.Slice.Eq.{bytes_eq-Decides}
use Rattle.impactc_words.specs.declared.words.Command.{Command}
use Rattle.impactc_words.specs.declared.words.Command.TheVariants.{Check, Interp, Run}
use Rattle.impactc_words.specs.Words.{Ask, AskFor, Give, IsNone, HasParts, Parts, command_name, only_file}
use Rattle.impactc_words.specs.Reading.{parts_in}
use Rattle.impactc_words.proofs.Spelled.{gives, given_so}

pub asks_for : (words : List (List ℕ)) (name : List ℕ) (rest : List (List ℕ)) (parts : Parts) (command : Command) → words ≡ name ∷ rest → parts_in rest ≡ Some parts → name ≡ command_name command → HasParts command parts → AskFor words command
asks_for words name rest parts command all e is has = record { rest = rest; parts = parts; name = all ∙ ap (λ n. n ∷ rest) is; give = gives rest parts e; has = has }

pub asks_for_none : (words : List (List ℕ)) → words ≡ [] → Ask words None
asks_for_none words is command asks = let clash = sym is ∙ asks.name in cc

-- every command takes a file alone
pub not_only : (name : List ℕ) (parts : Parts) → ((file : List ℕ) → parts ≡ only_file file → ⊥) → IsNone name parts
not_only name parts other (Check file) is has = other file has
not_only name parts other (Interp file) is has = other file has
not_only name parts other (Run file) is has = other file has

one_parts : (rest : List (List ℕ)) (a b : Parts) → Give rest a → Give rest b → a ≡ b
one_parts rest a b one two = let same = sym (given_so rest a one) ∙ given_so rest b two in cc

pub asks_for_no : (words : List (List ℕ)) (name : List ℕ) (rest : List (List ℕ)) (parts : Parts) → words ≡ name ∷ rest → parts_in rest ≡ Some parts → IsNone name parts → Ask words None
asks_for_no words name rest parts all e none command asks =
    let same_name : name ≡ command_name command = let is = sym all ∙ asks.name in cc in
    let same_rest : rest ≡ asks.rest = let is = sym all ∙ asks.name in cc in
    let give = subst (λ r. Give r asks.parts) (sym same_rest) asks.give in
    none command same_name (subst (HasParts command) (one_parts rest asks.parts parts give (gives rest parts e)) asks.has)

pub asks_for_nothing : (words : List (List ℕ)) (name : List ℕ) (rest : List (List ℕ)) → words ≡ name ∷ rest → parts_in rest ≡ None → Ask words None
asks_for_nothing words name rest all e command asks =
    let same_rest : rest ≡ asks.rest = let is = sym all ∙ asks.name in cc in
    let clash = sym e ∙ given_so rest asks.parts (subst (λ r. Give r asks.parts) (sym same_rest) asks.give) in cc

some_same : {A : Type 0} {a b : A} → Some a ≡ Some b → a ≡ b
some_same e = cc

same_file : (a b : List ℕ) → only_file a ≡ only_file b → a ≡ b
same_file a b e = some_same (ap (λ (parts : Parts). parts.file) e)

one_command : (a b : Command) (parts : Parts) → command_name a ≡ command_name b → HasParts a parts → HasParts b parts → a ≡ b
one_command (Check f) (Check g) parts e one two = ap Check (same_file f g (sym one ∙ two))
one_command (Check f) (Interp g) parts e one two = cc
one_command (Check f) (Run g) parts e one two = cc
one_command (Interp f) (Check g) parts e one two = cc
one_command (Interp f) (Interp g) parts e one two = ap Interp (same_file f g (sym one ∙ two))
one_command (Interp f) (Run g) parts e one two = cc
one_command (Run f) (Check g) parts e one two = cc
one_command (Run f) (Interp g) parts e one two = cc
one_command (Run f) (Run g) parts e one two = ap Run (same_file f g (sym one ∙ two))

pub one_asked : (words : List (List ℕ)) (a b : Command) → AskFor words a → AskFor words b → a ≡ b
one_asked words a b one two =
    let same = sym one.name ∙ two.name in
    let name : command_name a ≡ command_name b = cc in
    let rest : one.rest ≡ two.rest = cc in
    let parts = one_parts two.rest one.parts two.parts (subst (λ r. Give r one.parts) rest one.give) two.give in
    one_command a b two.parts name (subst (HasParts a) parts one.has) two.has

-- ---- and for something, be it nothing

abbrev five : (file profile machine cycles to : Option (List ℕ)) → Parts
five file profile machine cycles to = record { file = file; profile = profile; machine = machine; cycles = cycles; to = to }

abbrev IsOnlyOrNot : Parts → Type 0
IsOnlyOrNot parts = ((file : List ℕ) × (parts ≡ only_file file)) ⊎ ((file : List ℕ) → parts ≡ only_file file → ⊥)

is_only : (file profile machine cycles to : Option (List ℕ)) → IsOnlyOrNot (five file profile machine cycles to)
is_only (Some file) None None None None = inl (file, refl)
is_only None profile machine cycles to = inr (λ name e. let clash = ap (λ (parts : Parts). parts.file) e in cc)
is_only (Some file) (Some profile) machine cycles to = inr (λ name e. let clash = ap (λ (parts : Parts). parts.profile) e in cc)
is_only (Some file) None (Some machine) cycles to = inr (λ name e. let clash = ap (λ (parts : Parts). parts.machine) e in cc)
is_only (Some file) None None (Some cycles) to = inr (λ name e. let clash = ap (λ (parts : Parts). parts.cycles) e in cc)
is_only (Some file) None None None (Some to) = inr (λ name e. let clash = ap (λ (parts : Parts). parts.to) e in cc)

module _ (words : List (List ℕ)) (name : List ℕ) (rest : List (List ℕ)) (parts : Parts) (all : words ≡ name ∷ rest) (give : parts_in rest ≡ Some parts) where
  by_name : (file : List ℕ) → parts ≡ only_file file → (check interp run : Bool) → bytes_eq name (codes "check") ≡ check → bytes_eq name (codes "interp") ≡ interp → bytes_eq name (codes "run") ≡ run → (read : Option Command) × Ask words read
  by_name file only true interp run c i r = (Some (Check file), asks_for words name rest parts (Check file) all give ((bytes_eq-Decides name (codes "check")).0 c) only)
  by_name file only false true run c i r = (Some (Interp file), asks_for words name rest parts (Interp file) all give ((bytes_eq-Decides name (codes "interp")).0 i) only)
  by_name file only false false true c i r = (Some (Run file), asks_for words name rest parts (Run file) all give ((bytes_eq-Decides name (codes "run")).0 r) only)
  by_name file only false false false c i r = (None, asks_for_no words name rest parts all give none)
    where
      none : IsNone name parts
      none (Check other) is has = let clash = sym c ∙ (bytes_eq-Decides name (codes "check")).1 is in cc
      none (Interp other) is has = let clash = sym i ∙ (bytes_eq-Decides name (codes "interp")).1 is in cc
      none (Run other) is has = let clash = sym r ∙ (bytes_eq-Decides name (codes "run")).1 is in cc

  by_parts : IsOnlyOrNot parts → (read : Option Command) × Ask words read
  by_parts (inl only) = by_name only.0 only.1 (bytes_eq name (codes "check")) (bytes_eq name (codes "interp")) (bytes_eq name (codes "run")) refl refl refl
  by_parts (inr other) = (None, asks_for_no words name rest parts all give (not_only name parts other))

by_given : (words : List (List ℕ)) (name : List ℕ) (rest : List (List ℕ)) (parts : Option Parts) → words ≡ name ∷ rest → parts_in rest ≡ parts → (read : Option Command) × Ask words read
by_given words name rest None all give = (None, asks_for_nothing words name rest all give)
by_given words name rest (Some parts) all give =
    by_parts words name rest parts all give (is_only parts.file parts.profile parts.machine parts.cycles parts.to)

-- words ask for a command, or for none
pub asked : (words : List (List ℕ)) → (read : Option Command) × Ask words read
asked [] = (None, asks_for_none [] refl)
asked (name ∷ rest) = by_given (name ∷ rest) name rest (parts_in rest) refl refl
