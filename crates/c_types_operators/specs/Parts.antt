-- What is made of parts, all of which are judged, also where one breaks a rule.
use Rattle.std.specs.Prelude.{List, [], ◌∷◌, ◌++◌, Bool, if◌then◌else◌}
use Rattle.ib_meaning.specs.declared.place.Place.{Place}
use Rattle.c_typed.specs.declared.rule.Rule.{Rule}
use Rattle.c_types_operators.specs.declared.rule.Breach.{Breach}
use Rattle.c_types_operators.specs.Rules.{Judged, Fine, Broken, breaches}

abbrev pub breach : Rule → Place → Breach
breach rule place = record { rule = rule; place = place }

abbrev pub broken_if : Bool → Rule → Place → List Breach
broken_if b rule place = if b then breach rule place ∷ [] else []

-- with one part more
infixl 10 ◌<*>◌
abbrev pub ◌<*>◌ : {A B : Type 0} → Judged (A → B) → Judged A → Judged B
Fine f <*> Fine a = Fine (f a)
Fine f <*> Broken first more = Broken first more
Broken first more <*> k = Broken first (more ++ breaches k)

-- These rules are broken too.
abbrev pub also : {A : Type 0} → List Breach → Judged A → Judged A
also [] j = j
also (first ∷ more) j = Broken first (more ++ breaches j)

-- a part that stands where none may
abbrev pub misplaced : {A B : Type 0} → Rule → Place → Judged A → Judged B
misplaced rule place j = Broken (breach rule place) (breaches j)
