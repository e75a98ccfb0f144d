-- What is found for the parts that are kept, as the whole's answer.
use Rattle.std.proofs.Common.{◌≡◌, refl, subst, List, [], ◌∷◌, Option, Some, None}
use Rattle.c_types_operators.specs.declared.rule.Breach.{Breach}
use Rattle.ib_meaning.specs.declared.place.Place.{Place}
use Rattle.c_ast.specs.declared.tree.UnaryOp.{UnaryOp}
use Rattle.c_ast.specs.declared.tree.UnaryOp.TheVariants as o
use Rattle.c_ast.specs.Trees as c
use Rattle.c_typed.specs.declared.types.ValueType.{ValueType}
use Rattle.c_types_operators.specs.Rules.{Judged, Fine, Broken, ◌>>=◌}
use Rattle.c_layout.specs.Layout.{Texts}
use Rattle.c_types_operators.specs.Operators.{unary_of, given_to}
use Rattle.c_types_operators.specs.Judging.{Noted, both_some, Judges, Carries, CarriesBoth}
use Rattle.c_types_operators.proofs.JudgingLemmas.{bound, carried, carried_none, both_fine, both_none}

-- a part that is kept, by the equation that says so
pub bound_when : {X A Y B : Type 0} {u : X → A} {v : Y → B} {s before now : Noted} {xs : Texts} {j : Judged A} {part : Option X} {x : X} {y : Option Y} (f : A → Judged B) →
    part ≡ Some x → Judges u s xs j part before → Judges v before [] (f (u x)) y now → Judges v s xs (j >>= f) y now
bound_when {u = u} {s = s} {before} {xs = xs} {j = j} f e h h2 = bound f (subst (λ o. Judges u s xs j o before) e h) h2

module _ {X A Y B : Type 0} {u : X → A} {v : Y → B} {part : Option X} where
  pub carries_some : {before now : Noted} {f : Judged A → Judged B} {x : X} {y : Option Y} → part ≡ Some x → Judges v before [] (f (Fine (u x))) y now → Carries u v part before f y now
  carries_some {before} {now} {f} e h = record { carries = λ s xs j h1. carried f (subst (λ o. Judges u s xs j o before) e h1) h }

  pub carries_none : {now : Noted} {f : Judged A → Judged B} → ((first : Breach) (more : List Breach) → f (Broken first more) ≡ Broken first more) → part ≡ None → Carries u v part now f None now
  carries_none {now} {f} stays e = record { carries = λ s xs j h1. carried_none f stays (subst (λ o. Judges u s xs j o now) e h1) }

module _ {X A Y B Z C : Type 0} {u : X → A} {v : Y → B} {w : Z → C} {one : Option X} {other : Option Y} where
  pub carries_both : {before now : Noted} {f : A → B → Judged C} {a : X} {b : Y} {z : Option Z} → both_some one other ≡ Some (a, b) → Judges w before [] (f (u a) (v b)) z now → CarriesBoth u v w one other before f z now
  carries_both {f = f} e h = record { carries = λ s s1 xs ys j K h1 h2. both_fine K f e h1 h2 h }

  pub carries_neither : {now : Noted} {f : A → B → Judged C} → both_some one other ≡ None → CarriesBoth u v w one other now f None now
  carries_neither {f = f} e = record { carries = λ s s1 xs ys j K h1 h2. both_none K f e h1 h2 }

pub unary_stays : (p : Place) (op : UnaryOp) (a : c.Exp) (first : Breach) (more : List Breach) → unary_of p op a (Broken first more) ≡ Broken first more
unary_stays p o.Increment a first more = refl
unary_stays p o.Decrement a first more = refl
unary_stays p o.AddressOf a first more = refl
unary_stays p o.Dereference a first more = refl
unary_stays p o.Plus a first more = refl
unary_stays p o.Minus a first more = refl
unary_stays p o.BitNot a first more = refl
unary_stays p o.Not a first more = refl

pub given_stays : (wanted : List ValueType) (e : c.Exp) (first : Breach) (more : List Breach) → given_to wanted e (Broken first more) ≡ Broken first more
given_stays [] e first more = refl
given_stays (ty ∷ others) e first more = refl
