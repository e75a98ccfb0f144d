-- Words give just the parts that are read from them.
use Rattle.std.proofs.Common.{◌≡◌, ℕ, ◌<◌, Bool, true, false, List, [], ◌∷◌, ◌++◌, length, Option, Some, None, arith, refl, sym, ap, ◌∙◌, subst}
use Rattle.std.specs.Prelude.{◌&&◌, not, nat_lt, is_some, bytes_eq, codes, if◌then◌else◌}
use Rattle.std.specs.List.{position_or_len, before_first, after_first}
use Rattle.std.specs.Option.{option_map, option_and_then}
use Rattle.std.proofs.lemmas.List.Sums.{split_at_first, passes_at_first}
use Rattle.std.proofs.lemmas.Bool.Decides.{nat_tests}
use Rattle.std.proofs.lemmas.Bool.{eqb-true}
use Rattle.std.proofs.lemmas.List.{append-nil}
use Rattle.std.proofs.lemmas.Slice.Eq.{bytes_eq-Decides}
use Rattle.impactc_words.specs.declared.part.Part.{Part}
use Rattle.impactc_words.specs.declared.part.Part.TheVariants.{File, Profile, Machine, Cycles, To}
use Rattle.impactc_words.specs.Words.{Argument, Give, Parts, Spell, Nothing, ByItself, InTwo, InOne, given, is_same, is_value, listed, option_name, texts_for}
use Rattle.impactc_words.specs.Reading.{Progress, added, behind_option, behind_text, behind_word, behind_words, is_equals, no_parts, part_named, parts_at, parts_in, with_part}

some_same : {A : Type 0} {a b : A} → Some a ≡ Some b → a ≡ b
some_same e = cc

abbrev argument : Part → List ℕ → Argument
argument part text = record { part = part; text = text }

abbrev reading : Parts → Option Part → Progress
reading parts waits = record { parts = parts; waits = waits }

abbrev read_so : Parts → Progress
read_so parts = reading parts None

-- arguments added one after the other
abbrev add_all : Parts → List Argument → Option Parts
add_all parts [] = Some parts
add_all parts (a ∷ rest) = option_and_then (λ more. add_all more rest) (added a.part a.text parts)

-- ---- a text for a part

-- where it is added, it is a value, and the part had none
record Adds (part : Part) (text : List ℕ) (parts more : Parts) : Type 0 where
  value : is_value text ≡ true
  first : given parts part ≡ None
  is : more ≡ with_part part text parts

adds_by : (value : Bool) (before : Option (List ℕ)) (more last : Parts) → (if value && not (is_some before) then Some more else None) ≡ Some last → (value ≡ true) × (before ≡ None) × (last ≡ more)
adds_by false before more last e = cc
adds_by true (Some text) more last e = cc
adds_by true None more last e = (refl, refl, cc)

adds : (part : Part) (text : List ℕ) (parts more : Parts) → added part text parts ≡ Some more → Adds part text parts more
adds part text parts more e =
    let is = adds_by (is_value text) (given parts part) (with_part part text parts) more e in
    record { value = is.0; first = is.1; is = is.2 }

added_so : (part : Part) (text : List ℕ) (parts : Parts) → is_value text ≡ true → given parts part ≡ None → added part text parts ≡ Some (with_part part text parts)
added_so part text parts value first = rw value (rw first refl)

-- ---- names of options

named_by : (test : Bool) (name text : List ℕ) (part : Part) (rest : Option Part) (last : Part) → bytes_eq name text ≡ test → (if test then Some part else rest) ≡ Some last → (rest ≡ Some last → option_name last ≡ Some name) → option_name part ≡ Some text → option_name last ≡ Some name
named_by true name text part rest last is e other this =
    let same : name ≡ text = (bytes_eq-Decides name text).0 is in
    subst (λ p. option_name p ≡ Some name) (some_same e) (this ∙ ap Some (sym same))
named_by false name text part rest last is e other this = other e

pub named : (name : List ℕ) (part : Part) → part_named name ≡ Some part → option_name part ≡ Some name
named name part e =
    named_by (bytes_eq name (codes "--profile")) name (codes "--profile") Profile _ part refl e
    (λ e2. named_by (bytes_eq name (codes "--machine")) name (codes "--machine") Machine _ part refl e2
    (λ e3. named_by (bytes_eq name (codes "--cycles")) name (codes "--cycles") Cycles _ part refl e3
    (λ e4. named_by (bytes_eq name (codes "--to")) name (codes "--to") To _ part refl e4 (λ e5. cc) refl) refl) refl) refl

waits_for : (part : Part) (name : List ℕ) (parts : Parts) → option_name part ≡ Some name → behind_word (read_so parts) name ≡ Some (reading parts (Some part))
waits_for File name parts e = cc
waits_for Profile name parts e = subst (λ n. behind_word (read_so parts) n ≡ Some (reading parts (Some Profile))) (some_same e) refl
waits_for Machine name parts e = subst (λ n. behind_word (read_so parts) n ≡ Some (reading parts (Some Machine))) (some_same e) refl
waits_for Cycles name parts e = subst (λ n. behind_word (read_so parts) n ≡ Some (reading parts (Some Cycles))) (some_same e) refl
waits_for To name parts e = subst (λ n. behind_word (read_so parts) n ≡ Some (reading parts (Some To))) (some_same e) refl

lt_true : (a b : ℕ) → a < b → nat_lt a b ≡ true
lt_true a b lt = grind (arith, nat_tests)

split_so : (word name text : List ℕ) (part : Part) (parts : Parts) → is_value word ≡ false → position_or_len is_equals word < length word → before_first is_equals word ≡ name → after_first is_equals word ≡ text → part_named name ≡ Some part → behind_word (read_so parts) word ≡ behind_text parts part text
split_so word name text part parts value lt before after is = rw (value, lt_true _ _ lt, before, after, is) refl

has_value : (part : Part) (name text : List ℕ) (parts : Parts) → option_name part ≡ Some name → behind_word (read_so parts) (name ++ 61 ∷ text) ≡ behind_text parts part text
has_value File name text parts e = cc
has_value Profile name text parts e =
    let lt : position_or_len is_equals (codes "--profile" ++ 61 ∷ text) < length (codes "--profile" ++ 61 ∷ text) = omega arith in
    subst (λ n. behind_word (read_so parts) (n ++ 61 ∷ text) ≡ behind_text parts Profile text) (some_same e)
    (split_so (codes "--profile" ++ 61 ∷ text) (codes "--profile") text Profile parts refl lt refl refl refl)
has_value Machine name text parts e =
    let lt : position_or_len is_equals (codes "--machine" ++ 61 ∷ text) < length (codes "--machine" ++ 61 ∷ text) = omega arith in
    subst (λ n. behind_word (read_so parts) (n ++ 61 ∷ text) ≡ behind_text parts Machine text) (some_same e)
    (split_so (codes "--machine" ++ 61 ∷ text) (codes "--machine") text Machine parts refl lt refl refl refl)
has_value Cycles name text parts e =
    let lt : position_or_len is_equals (codes "--cycles" ++ 61 ∷ text) < length (codes "--cycles" ++ 61 ∷ text) = omega arith in
    subst (λ n. behind_word (read_so parts) (n ++ 61 ∷ text) ≡ behind_text parts Cycles text) (some_same e)
    (split_so (codes "--cycles" ++ 61 ∷ text) (codes "--cycles") text Cycles parts refl lt refl refl refl)
has_value To name text parts e =
    let lt : position_or_len is_equals (codes "--to" ++ 61 ∷ text) < length (codes "--to" ++ 61 ∷ text) = omega arith in
    subst (λ n. behind_word (read_so parts) (n ++ 61 ∷ text) ≡ behind_text parts To text) (some_same e)
    (split_so (codes "--to" ++ 61 ∷ text) (codes "--to") text To parts refl lt refl refl refl)

-- ---- words to arguments

-- words that are read to their end are spelled arguments, which are added one after the other
record Reads (words : List (List ℕ)) (parts last : Parts) : Type 0 where
  arguments : List Argument
  spelled : Spell words arguments
  adds_up : add_all parts arguments ≡ Some last

and_then_some : {A B : Type 0} (f : A → Option B) (r : Option A) (last : B) → option_and_then f r ≡ Some last → (x : A) × (r ≡ Some x) × (f x ≡ Some last)
and_then_some f None last e = cc
and_then_some f (Some x) last e = (x, refl, e)

map_some : {A B : Type 0} (f : A → B) (r : Option A) (last : B) → option_map f r ≡ Some last → (x : A) × (r ≡ Some x) × (f x ≡ last)
map_some f None last e = cc
map_some f (Some x) last e = (x, refl, some_same e)

-- one argument more at the front
more : (part : Part) (text : List ℕ) (words rest : List (List ℕ)) (parts mid last : Parts) → ((args : List Argument) → Spell rest args → Spell words (argument part text ∷ args)) → added part text parts ≡ Some mid → Reads rest mid last → Reads words parts last
more part text words rest parts mid last spells first reads = record {
  arguments = argument part text ∷ reads.arguments;
  spelled = spells reads.arguments reads.spelled;
  adds_up = subst (λ r. option_and_then (λ m. add_all m reads.arguments) r ≡ Some last) (sym first) reads.adds_up;
}

abbrev ReadTo : Progress → List (List ℕ) → Parts → Type 0
ReadTo progress words last = behind_words progress words ≡ Some (read_so last)

-- behind a text
record TextRead (part : Part) (text : List ℕ) (rest : List (List ℕ)) (parts last : Parts) : Type 0 where
  mid : Parts
  first : added part text parts ≡ Some mid
  then_so : ReadTo (read_so mid) rest last

text_read : (part : Part) (text : List ℕ) (rest : List (List ℕ)) (parts last : Parts) → option_and_then (λ next. behind_words next rest) (behind_text parts part text) ≡ Some (read_so last) → TextRead part text rest parts last
text_read part text rest parts last e =
    let at = and_then_some (λ next. behind_words next rest) (behind_text parts part text) (read_so last) e in
    let text_at = map_some (λ m. read_so m) (added part text parts) at.0 at.1 in
    record { mid = text_at.0; first = text_at.1; then_so = subst (λ next. behind_words next rest ≡ Some (read_so last)) (sym text_at.2) at.2 }

-- where the word of an option is read
data OptionRead (word : List ℕ) (parts : Parts) (next : Progress) : Type 0 where
  Alone : (part : Part) → option_name part ≡ Some word → next ≡ reading parts (Some part) → OptionRead word parts next
  Joined : (part : Part) (name text : List ℕ) → option_name part ≡ Some name → word ≡ name ++ 61 ∷ text → behind_text parts part text ≡ Some next → OptionRead word parts next

lt_of : (a b : ℕ) → nat_lt a b ≡ true → a < b
lt_of a b e = grind (arith, nat_tests)

cut : (word : List ℕ) → position_or_len is_equals word < length word → word ≡ before_first is_equals word ++ 61 ∷ after_first is_equals word
cut word lt =
    let is = split_at_first is_equals word 0 lt in
    let at = eqb-true _ _ (passes_at_first is_equals word 0 lt) in
    subst (λ b. word ≡ before_first is_equals word ++ b ∷ after_first is_equals word) at is

option_by : (test : Bool) (word : List ℕ) (parts : Parts) (next : Progress) → nat_lt (position_or_len is_equals word) (length word) ≡ test → (if test
    then option_and_then (λ part. behind_text parts part (after_first is_equals word)) (part_named (before_first is_equals word))
    else option_map (λ part. reading parts (Some part)) (part_named word)) ≡ Some next → OptionRead word parts next
option_by true word parts next test e =
    let name = before_first is_equals word in
    let text = after_first is_equals word in
    let at = and_then_some (λ part. behind_text parts part text) (part_named name) next e in
    Joined at.0 name text (named name at.0 at.1) (cut word (lt_of _ _ test)) at.2
option_by false word parts next test e =
    let at = map_some (λ part. reading parts (Some part)) (part_named word) next e in
    Alone at.0 (named word at.0 at.1) (sym at.2)

waiting_ends : (part : Part) (parts last : Parts) → Some (reading parts (Some part)) ≡ Some (read_so last) → ⊥
waiting_ends part parts last e = let clash : Some part ≡ None = ap (λ progress. progress.waits) (some_same e) in cc

abbrev AllRead : List (List ℕ) → Type 0
AllRead words = (parts last : Parts) → ReadTo (read_so parts) words last → Reads words parts last

abbrev behind_first : List (List ℕ) → List (List ℕ)
behind_first [] = []
behind_first (word ∷ words) = words

reads_waiting : (part : Part) (word : List ℕ) (words : List (List ℕ)) (parts last : Parts) → AllRead (behind_first words) → option_name part ≡ Some word → behind_words (reading parts (Some part)) words ≡ Some (read_so last) → Reads (word ∷ words) parts last
reads_waiting part word [] parts last rest name e = absurd (waiting_ends part parts last e)
reads_waiting part word (text ∷ words) parts last rest name e =
    let at = text_read part text words parts last e in
    let value = (adds part text parts at.mid at.first).value in
    more part text (word ∷ text ∷ words) words parts at.mid last (λ args. InTwo part word text words args name value) at.first (rest at.mid last at.then_so)

module _ (word : List ℕ) (words : List (List ℕ)) (parts last : Parts) (all : AllRead words) (rest : AllRead (behind_first words)) where
  reads_option : (next : Progress) → OptionRead word parts next → behind_words next words ≡ Some (read_so last) → Reads (word ∷ words) parts last
  reads_option next (Alone part name is) e =
      reads_waiting part word words parts last rest name (subst (λ n. behind_words n words ≡ Some (read_so last)) is e)
  reads_option next (Joined part name text is spelled behind) e =
      let at = text_read part text words parts last (subst (λ r. option_and_then (λ n. behind_words n words) r ≡ Some (read_so last)) (sym behind) e) in
      let value = (adds part text parts at.mid at.first).value in
      more part text (word ∷ words) words parts at.mid last (λ args. InOne part name text word words args is value spelled) at.first (all at.mid last at.then_so)

  reads_word : (test : Bool) → is_value word ≡ test → option_and_then (λ next. behind_words next words) (if test then behind_text parts File word else behind_option parts word) ≡ Some (read_so last) → Reads (word ∷ words) parts last
  reads_word true is e =
      let at = text_read File word words parts last e in
      more File word (word ∷ words) words parts at.mid last (λ args. ByItself word words args is) at.first (all at.mid last at.then_so)
  reads_word false is e =
      let at = and_then_some (λ next. behind_words next words) (behind_option parts word) (read_so last) e in
      reads_option at.0 (option_by _ word parts at.0 refl at.1) at.2

reads_none : AllRead []
reads_none parts last e = record { arguments = []; spelled = Nothing; adds_up = ap (λ r. option_map (λ p. p.parts) r) e }

-- of words and of those behind the first
all_read : (words : List (List ℕ)) → AllRead words × AllRead (behind_first words)
all_read [] = (reads_none, reads_none)
all_read (word ∷ words) =
    let rest = all_read words in
    (λ parts last e. reads_word word words parts last rest.0 rest.1 (is_value word) refl e, rest.0)

-- ---- arguments to words

behind_added : (r : Option Parts) (words : List (List ℕ)) (args : List Argument) → ((parts : Parts) → behind_words (read_so parts) words ≡ option_map read_so (add_all parts args)) → option_and_then (λ next. behind_words next words) (option_map read_so r) ≡ option_map read_so (option_and_then (λ m. add_all m args) r)
behind_added None words args so = refl
behind_added (Some parts) words args so = so parts

spelled_so : (words : List (List ℕ)) (args : List Argument) → Spell words args → (parts : Parts) → behind_words (read_so parts) words ≡ option_map read_so (add_all parts args)
spelled_so _ _ Nothing parts = refl
spelled_so _ _ (ByItself text words rest value spelled) parts =
    subst (λ test. option_and_then (λ next. behind_words next words) (if test then behind_text parts File text else behind_option parts text) ≡ option_map read_so (add_all parts (argument File text ∷ rest))) (sym value)
    (behind_added (added File text parts) words rest (spelled_so words rest spelled))
spelled_so _ _ (InTwo part name text words rest is value spelled) parts =
    subst (λ r. option_and_then (λ next. behind_words next (text ∷ words)) r ≡ option_map read_so (add_all parts (argument part text ∷ rest))) (sym (waits_for part name parts is))
    (behind_added (added part text parts) words rest (spelled_so words rest spelled))
spelled_so _ _ (InOne part name text word words rest is value spells spelled) parts =
    subst (λ r. option_and_then (λ next. behind_words next words) r ≡ option_map read_so (add_all parts (argument part text ∷ rest))) (sym (ap (behind_word (read_so parts)) spells ∙ has_value part name text parts is))
    (behind_added (added part text parts) words rest (spelled_so words rest spelled))

abbrev AllValues : List Argument → Type 0
AllValues [] = Unit {0}
AllValues (a ∷ rest) = (is_value a.text ≡ true) × AllValues rest

all_values : (words : List (List ℕ)) (args : List Argument) → Spell words args → AllValues args
all_values _ _ Nothing = tt
all_values _ _ (ByItself text words rest value spelled) = (value, all_values words rest spelled)
all_values _ _ (InTwo part name text words rest is value spelled) = (value, all_values words rest spelled)
all_values _ _ (InOne part name text word words rest is value spells spelled) = (value, all_values words rest spelled)

-- ---- arguments to parts, in any order

-- so many texts stand for a part, those that are given already among them
abbrev so_far : Parts → List Argument → Part → List (List ℕ)
so_far parts args part = listed (given parts part) ++ texts_for part args

first_of : (before : Option (List ℕ)) (text : List ℕ) (rest : List (List ℕ)) → before ≡ None → listed before ++ text ∷ rest ≡ listed (Some text) ++ rest
first_of before text rest e = rw e refl

one_more : (p part : Part) (text : List ℕ) (parts : Parts) (rest : List (List ℕ)) → given parts p ≡ None → listed (given parts part) ++ (if is_same p part then text ∷ rest else rest) ≡ listed (given (with_part p text parts) part) ++ rest
one_more File File text parts rest e = first_of (given parts File) text rest e
one_more File Profile text parts rest e = refl
one_more File Machine text parts rest e = refl
one_more File Cycles text parts rest e = refl
one_more File To text parts rest e = refl
one_more Profile File text parts rest e = refl
one_more Profile Profile text parts rest e = first_of (given parts Profile) text rest e
one_more Profile Machine text parts rest e = refl
one_more Profile Cycles text parts rest e = refl
one_more Profile To text parts rest e = refl
one_more Machine File text parts rest e = refl
one_more Machine Profile text parts rest e = refl
one_more Machine Machine text parts rest e = first_of (given parts Machine) text rest e
one_more Machine Cycles text parts rest e = refl
one_more Machine To text parts rest e = refl
one_more Cycles File text parts rest e = refl
one_more Cycles Profile text parts rest e = refl
one_more Cycles Machine text parts rest e = refl
one_more Cycles Cycles text parts rest e = first_of (given parts Cycles) text rest e
one_more Cycles To text parts rest e = refl
one_more To File text parts rest e = refl
one_more To Profile text parts rest e = refl
one_more To Machine text parts rest e = refl
one_more To Cycles text parts rest e = refl
one_more To To text parts rest e = first_of (given parts To) text rest e

all_so_far : (parts last : Parts) (args : List Argument) → add_all parts args ≡ Some last → (part : Part) → so_far parts args part ≡ listed (given last part)
all_so_far parts last [] e part = append-nil _ ∙ ap (λ p. listed (given p part)) (some_same e)
all_so_far parts last (a ∷ rest) e part =
    let at = and_then_some (λ m. add_all m rest) (added a.part a.text parts) last e in
    let is = adds a.part a.text parts at.0 at.1 in
    one_more a.part part a.text parts (texts_for part rest) is.first ∙ ap (λ p. listed (given p part) ++ texts_for part rest) (sym is.is) ∙ all_so_far at.0 last rest at.2 part

listed_same : (a b : Option (List ℕ)) → listed a ≡ listed b → a ≡ b
listed_same None None e = refl
listed_same None (Some t) e = cc
listed_same (Some s) None e = cc
listed_same (Some s) (Some t) e = cc

abbrev five : (file profile machine cycles to : Option (List ℕ)) → Parts
five file profile machine cycles to = record { file = file; profile = profile; machine = machine; cycles = cycles; to = to }

five_same : (f g p q m n c d t u : Option (List ℕ)) → f ≡ g → p ≡ q → m ≡ n → c ≡ d → t ≡ u → five f p m c t ≡ five g q n d u
five_same f g p q m n c d t u a b i j k = cc

same_parts : (a b : Parts) → ((part : Part) → given a part ≡ given b part) → a ≡ b
same_parts a b e = five_same a.file b.file a.profile b.profile a.machine b.machine a.cycles b.cycles a.to b.to (e File) (e Profile) (e Machine) (e Cycles) (e To)

one_at_most : (before after : Option (List ℕ)) (text : List ℕ) (rest : List (List ℕ)) → listed before ++ text ∷ rest ≡ listed after → before ≡ None
one_at_most None after text rest e = refl
one_at_most (Some t) None text rest e = cc
one_at_most (Some t) (Some u) text rest e = cc

same_self : (part : Part) → is_same part part ≡ true
same_self File = refl
same_self Profile = refl
same_self Machine = refl
same_self Cycles = refl
same_self To = refl

is_first : (parts last : Parts) (a : Argument) (rest : List Argument) → so_far parts (a ∷ rest) a.part ≡ listed (given last a.part) → given parts a.part ≡ None
is_first parts last a rest e =
    one_at_most (given parts a.part) (given last a.part) a.text (texts_for a.part rest)
    (subst (λ test. listed (given parts a.part) ++ (if test then a.text ∷ texts_for a.part rest else texts_for a.part rest) ≡ listed (given last a.part)) (same_self a.part) e)

all_added : (parts last : Parts) (args : List Argument) → AllValues args → ((part : Part) → so_far parts args part ≡ listed (given last part)) → add_all parts args ≡ Some last
all_added parts last [] values e = ap Some (same_parts parts last (λ part. listed_same _ _ (sym (append-nil _) ∙ e part)))
all_added parts last (a ∷ rest) values e =
    let none = is_first parts last a rest (e a.part) in
    subst (λ r. option_and_then (λ m. add_all m rest) r ≡ Some last) (sym (added_so a.part a.text parts values.0 none))
    (all_added (with_part a.part a.text parts) last rest values.1
    (λ part. sym (one_more a.part part a.text parts (texts_for part rest) none) ∙ e part))

-- ---- put together

all_first : (args : List Argument) (part : Part) → so_far no_parts args part ≡ texts_for part args
all_first args File = refl
all_first args Profile = refl
all_first args Machine = refl
all_first args Cycles = refl
all_first args To = refl

finished : (read : Parts) (waits : Option Part) (parts : Parts) → parts_at (reading read waits) ≡ Some parts → reading read waits ≡ read_so parts
finished read None parts e = ap read_so (some_same e)
finished read (Some part) parts e = cc

pub gives : (words : List (List ℕ)) (parts : Parts) → parts_in words ≡ Some parts → Give words parts
gives words parts e =
    let at = and_then_some parts_at (behind_words (read_so no_parts) words) parts e in
    let all = (all_read words).0 no_parts parts (at.1 ∙ ap Some (finished at.0.parts at.0.waits parts at.2)) in
    record {
      arguments = all.arguments;
      spelled = all.spelled;
      once = λ part. sym (all_first all.arguments part) ∙ all_so_far no_parts parts all.arguments all.adds_up part;
    }

pub given_so : (words : List (List ℕ)) (parts : Parts) → Give words parts → parts_in words ≡ Some parts
given_so words parts give =
    let added_all = all_added no_parts parts give.arguments (all_values words give.arguments give.spelled) (λ part. all_first give.arguments part ∙ give.once part) in
    ap (option_and_then parts_at) (spelled_so words give.arguments give.spelled no_parts ∙ ap (option_map read_so) added_all)
