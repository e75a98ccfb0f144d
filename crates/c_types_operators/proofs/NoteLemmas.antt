-- What one more string literal and one more breach leave.
use Rattle.std.proofs.Common.{◌≡◌, refl, ap, sym, List, [], ◌∷◌, ◌++◌, ℕ, map, Option, Some, Bool, true, false, cond, bytes_eq}
use Rattle.std.specs.Borrow.{Bor}
use Rattle.std.specs.Option.{option_map}
use Rattle.std.proofs.lemmas.List.{append-nil}
use Rattle.ib_meaning.specs.declared.place.Place.{Place}
use Rattle.c_scopes.specs.Scopes as s
use Rattle.c_types_operators.specs.declared.rule.Breach.{Breach}
use Rattle.c_types_operators.specs.declared.scope.Function as code_function
use Rattle.c_types_operators.specs.Rules.{with_breach}
use Rattle.c_layout.specs.Layout.{Texts}
use Rattle.c_types_operators.specs.Judging.{Noted, noted}
use Rattle.c_types_operators.specs.ScopeViews.{function_of, functions_of}

now-snoc : (texts : List (Bor (List ℕ))) (bytes : Bor (List ℕ)) → map (λ t. t.now) (texts ++ bytes ∷ []) ≡ map (λ t. t.now) texts ++ bytes.now ∷ []
now-snoc [] bytes = refl
now-snoc (t ∷ ts) bytes = ap (λ rest. t.now ∷ rest) (now-snoc ts bytes)

abbrev made : Texts → List Place → Option Breach → Noted
made texts places first = record { texts = texts; places = places; first = first }

pub noted_text : (texts : List (Bor (List ℕ))) (places : List Place) (first : Option Breach) (bytes : Bor (List ℕ)) →
    made (map (λ t. t.now) (texts ++ bytes ∷ [])) places first ≡ noted (made (map (λ t. t.now) texts) places first) (bytes.now ∷ []) []
unfolding noted
noted_text texts places first bytes = ap (λ all. made all places first) (now-snoc texts bytes)

pub noted_breach : (texts : Texts) (places : List Place) (first : Option Breach) (b : Breach) → made texts places (with_breach first b) ≡ noted (made texts places first) [] (b ∷ [])
unfolding noted
noted_breach texts places first b = ap (λ all. made all places (with_breach first b)) (sym (append-nil texts))

pub function_meaning : (name : List ℕ) (table : s.Scope code_function.Function) → s.meaning name (functions_of table) ≡ option_map function_of (s.meaning name table)
function_meaning name [] = refl
function_meaning name (entry ∷ table) = by_test (bytes_eq name entry.name) (function_meaning name table) where
  by_test : (b : Bool) → s.meaning name (functions_of table) ≡ option_map function_of (s.meaning name table) →
      cond b (Some (function_of entry.meant)) (s.meaning name (functions_of table)) ≡ option_map function_of (cond b (Some entry.meant) (s.meaning name table))
  by_test true rest = refl
  by_test false rest = rest
