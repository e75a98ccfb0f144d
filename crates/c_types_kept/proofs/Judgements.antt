-- What holds of the meaning of a part that breaks no rule.
use Rattle.std.proofs.Common.{◌≡◌, Bool, true, false, List, [], ◌∷◌, ◌++◌, refl, subst, Option, Some, None}
use Rattle.ib_meaning.specs.declared.place.Place.{Place}
use Rattle.c_typed.specs.declared.rule.Rule.{Rule}
use Rattle.c_types_operators.specs.declared.rule.Breach.{Breach}
use Rattle.c_types_operators.specs.Rules.{Judged, Fine, Broken, ◌>>=◌, both, or_breaks}
use Rattle.c_types_operators.specs.Parts.{broken_if, ◌<*>◌, also}
pub use Rattle.c_kept.proofs.Cases.{differ, by_test, by_cases, Yields, some, none}

-- ---- what a part means

pub record Gives {A : Type 0} (P : A → Type 0) (j : Judged A) : Type 0 where
  pub by : (a : A) → j ≡ Fine a → P a

pub fine : {A : Type 0} {P : A → Type 0} {x : A} → P x → Gives P (Fine x)
fine {A = A} {P = P} {x = x} h = record { by = λ a e. let same : x ≡ a = cc in subst P same h }

pub broken : {A : Type 0} {P : A → Type 0} {first : Breach} {more : List Breach} → Gives P (Broken first more)
broken = record { by = λ a e. let z : ⊥ = cc in absurd z }

pub after : {A B : Type 0} {P : A → Type 0} {Q : B → Type 0} (j : Judged A) (f : A → Judged B) → Gives P j → ((a : A) → P a → Gives Q (f a)) → Gives Q (j >>= f)
after (Fine a) f h each = each a (h.by a refl)
after (Broken first more) f h each = broken

pub of_both : {A B C : Type 0} {P : A → Type 0} {Q : B → Type 0} {R : C → Type 0} (j : Judged A) (k : Judged B) (f : A → B → Judged C) → Gives P j → Gives Q k → ((a : A) (b : B) → P a → Q b → Gives R (f a b)) → Gives R (both j k f)
of_both (Fine a) (Fine b) f g h each = each a b (g.by a refl) (h.by b refl)
of_both (Fine a) (Broken first more) f g h each = broken
of_both (Broken first more) k f g h each = broken

pub of_one : {A B : Type 0} {P : A → Type 0} {Q : B → Type 0} (f : A → B) (j : Judged A) → Gives P j → ((a : A) → P a → Q (f a)) → Gives Q (Fine f <*> j)
of_one f (Fine a) h each = fine (each a (h.by a refl))
of_one f (Broken first more) h each = broken

pub of_two : {A B C : Type 0} {P : A → Type 0} {Q : B → Type 0} {R : C → Type 0} (f : A → B → C) (j : Judged A) (k : Judged B) → Gives P j → Gives Q k → ((a : A) (b : B) → P a → Q b → R (f a b)) → Gives R (Fine f <*> j <*> k)
of_two f (Fine a) (Fine b) g h each = fine (each a b (g.by a refl) (h.by b refl))
of_two f (Fine a) (Broken first more) g h each = broken
of_two f (Broken first more) k g h each = broken

pub with_part : {A B : Type 0} {P : A → Type 0} {Q : B → Type 0} (j : Judged (A → B)) (k : Judged A) → Gives (λ f. (a : A) → P a → Q (f a)) j → Gives P k → Gives Q (j <*> k)
with_part (Fine f) (Fine a) g h = fine (g.by f refl a (h.by a refl))
with_part (Fine f) (Broken first more) g h = broken
with_part (Broken first more) k g h = broken

pub beside : {A : Type 0} {P : A → Type 0} (found : List Breach) (j : Judged A) → (found ≡ [] → Gives P j) → Gives P (also found j)
beside [] j h = h refl
beside (x ∷ xs) j h = broken

pub if_there : {A : Type 0} {P : A → Type 0} (r : Rule) (p : Place) (o : Option A) → Yields P o → Gives P (or_breaks r p o)
if_there r p (Some a) h = fine (h.by a refl)
if_there r p None h = broken

-- ---- no breaches

pub first_none : (xs ys : List Breach) → xs ++ ys ≡ [] → xs ≡ []
first_none [] ys e = refl
first_none (x ∷ xs) ys e = let z : ⊥ = cc in absurd z

pub second_none : (xs ys : List Breach) → xs ++ ys ≡ [] → ys ≡ []
second_none [] ys e = e
second_none (x ∷ xs) ys e = let z : ⊥ = cc in absurd z

pub not_so : (b : Bool) (r : Rule) (p : Place) → broken_if b r p ≡ [] → b ≡ false
not_so false r p e = refl
not_so true r p e = let z : ⊥ = cc in absurd z

-- ---- parts of which the first is needed for the others

pub of_two_then : {A B C : Type 0} {P : A → Type 0} {Q : B → Type 0} {R : C → Type 0} (f : A → B → C) (j : Judged A) (k : Judged B) → Gives P j → ((a : A) → P a → Gives Q k) → ((a : A) (b : B) → P a → Q b → R (f a b)) → Gives R (Fine f <*> j <*> k)
of_two_then f (Fine a) (Fine b) g h each = fine (each a b (g.by a refl) ((h a (g.by a refl)).by b refl))
of_two_then f (Fine a) (Broken first more) g h each = broken
of_two_then f (Broken first more) k g h each = broken

pub of_three : {A B C D : Type 0} {P : A → Type 0} {Q : B → Type 0} {R : C → Type 0} {S : D → Type 0} (f : A → B → C → D) (j : Judged A) (k : Judged B) (l : Judged C) → Gives P j → Gives Q k → Gives R l → ((a : A) (b : B) (c : C) → P a → Q b → R c → S (f a b c)) → Gives S (Fine f <*> j <*> k <*> l)
of_three f (Fine a) (Fine b) (Fine c) g h i each = fine (each a b c (g.by a refl) (h.by b refl) (i.by c refl))
of_three f (Fine a) (Fine b) (Broken first more) g h i each = broken
of_three f (Fine a) (Broken first more) l g h i each = broken
of_three f (Broken first more) k l g h i each = broken

pub of_four : {A B C D E : Type 0} {P : A → Type 0} {Q : B → Type 0} {R : C → Type 0} {S : D → Type 0} {T : E → Type 0} (f : A → B → C → D → E) (j : Judged A) (k : Judged B) (l : Judged C) (m : Judged D)
    → Gives P j → ((a : A) → P a → Gives Q k) → ((a : A) → P a → Gives R l) → ((a : A) → P a → Gives S m) → ((a : A) (b : B) (c : C) (d : D) → P a → Q b → R c → S d → T (f a b c d)) → Gives T (Fine f <*> j <*> k <*> l <*> m)
of_four f (Fine a) (Fine b) (Fine c) (Fine d) g h i n each = let p = g.by a refl in fine (each a b c d p ((h a p).by b refl) ((i a p).by c refl) ((n a p).by d refl))
of_four f (Fine a) (Fine b) (Fine c) (Broken first more) g h i n each = broken
of_four f (Fine a) (Fine b) (Broken first more) m g h i n each = broken
of_four f (Fine a) (Broken first more) l m g h i n each = broken
of_four f (Broken first more) k l m g h i n each = broken
