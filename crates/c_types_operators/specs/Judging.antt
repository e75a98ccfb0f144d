-- What the code answers for a part of a tree, and what it keeps beside.
use Rattle.std.specs.Prelude.{◌≡◌, List, [], ◌∷◌, ◌++◌, Option, Some, None}
use Rattle.std.specs.Option.{option_map}
use Rattle.ib_meaning.specs.declared.place.Place.{Place}
use Rattle.c_types_operators.specs.declared.rule.Breach.{Breach}
use Rattle.c_types_operators.specs.Rules.{Judged, Fine, Broken, breaches, both, first_from}
use Rattle.c_layout.specs.Layout.{Texts}

-- the string literals and the statements' places so far, and the first breach so far
pub record Noted : Type 0 where
  pub texts : Texts
  pub places : List Place
  pub first : Option Breach

-- behind a part with these string literals that breaks these rules
unfoldable pub noted : Noted → Texts → List Breach → Noted
noted before texts found = record before { texts = before.texts ++ texts; first = first_from before.first found }

-- with one more statement's place
abbrev pub with_place : Place → Noted → Noted
with_place p before = record before { places = before.places ++ (p ∷ []) }

-- what a part means, if it breaks no rule
abbrev pub kept : {A : Type 0} → Judged A → Option A
kept (Fine a) = Some a
kept (Broken first more) = None

-- both, where both are there
abbrev pub both_some : {A B : Type 0} → Option A → Option B → Option (A × B)
both_some (Some a) (Some b) = Some (a, b)
both_some None b = None
both_some (Some a) None = None

-- The answer is what a part with these string literals means, and what is noted grows by them and by the breaches.
pub data Judges {X A : Type 0} (view : X → A) (before : Noted) (texts : Texts) (judged : Judged A) (answer : Option X) (now : Noted) : Type 0 where
  judges : option_map view answer ≡ kept judged → now ≡ noted before texts (breaches judged) → Judges view before texts judged answer now

-- Whatever judged a part, this judges the whole that is made of it.
pub record Carries {X A Y B : Type 0} (u : X → A) (v : Y → B) (part : Option X) (before : Noted) (f : Judged A → Judged B) (answer : Option Y) (now : Noted) : Type 0 where
  pub carries : (s : Noted) (xs : Texts) (j : Judged A) → Judges u s xs j part before → Judges v s xs (f j) answer now

-- Whatever judged two parts, one behind the other, this judges the whole that is made of them.
pub record CarriesBoth {X A Y B Z C : Type 0} (u : X → A) (v : Y → B) (w : Z → C) (one : Option X) (other : Option Y) (before : Noted) (f : A → B → Judged C) (answer : Option Z) (now : Noted) : Type 0 where
  pub carries :
      (s s1 : Noted) (xs ys : Texts) (j : Judged A) (K : Texts → Judged B) →
      Judges u s xs j one s1 → Judges v s1 ys (K s1.texts) other before → Judges w s (xs ++ ys) (both j (K (s.texts ++ xs)) f) answer now
