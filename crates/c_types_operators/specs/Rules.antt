-- What judging a part of a tree gives: what it means, or the rules of typing that it breaks.
use Rattle.std.specs.Prelude.{nat_lt, ◌==◌, ◌&&◌, ◌||◌, Bool, List, [], ◌∷◌, ◌++◌, Option, Some, None, if◌then◌else◌}
use Rattle.ib_meaning.specs.declared.place.Place.{Place}
use Rattle.c_typed.specs.declared.rule.Rule.{Rule}
use Rattle.c_typed.specs.Rules.{number_of}
use Rattle.c_types_operators.specs.declared.rule.Breach.{Breach}

-- what a part of a tree means, or the rules that it breaks, of which there is at least one
pub data Judged (A : Type 0) : Type 0 where
  Fine : A → Judged A
  Broken : (first : Breach) (more : List Breach) → Judged A

abbrev pub breaches : {A : Type 0} → Judged A → List Breach
breaches (Fine a) = []
breaches (Broken first more) = first ∷ more

abbrev pub breaks : {A : Type 0} → Rule → Place → Judged A
breaks rule place = Broken (record { rule = rule; place = place }) []

infixl 10 ◌>>=◌
abbrev pub ◌>>=◌ : {A B : Type 0} → Judged A → (A → Judged B) → Judged B
Fine a >>= f = f a
Broken first more >>= f = Broken first more

-- two parts are judged, also where one breaks a rule
abbrev pub both : {A B C : Type 0} → Judged A → Judged B → (A → B → Judged C) → Judged C
both (Fine a) (Fine b) f = f a b
both (Fine a) (Broken first more) f = Broken first more
both (Broken first more) k f = Broken first (more ++ breaches k)

abbrev pub pair : {A B : Type 0} → Judged A → Judged B → Judged (A × B)
pair j k = both j k (λ a b. Fine (a, b))

-- what it means, or the rule that it breaks there
abbrev pub or_breaks : {A : Type 0} → Rule → Place → Option A → Judged A
or_breaks rule place (Some a) = Fine a
or_breaks rule place None = breaks rule place

abbrev pub is_before : Place → Place → Bool
is_before p q = nat_lt p.line q.line || ((p.line == q.line) && nat_lt p.col q.col)

abbrev pub same_place : Place → Place → Bool
same_place p q = (p.line == q.line) && (p.col == q.col)

-- at an earlier anchor, or there with a lesser rule
abbrev pub goes_before : Breach → Breach → Bool
goes_before x y = is_before x.place y.place || (same_place x.place y.place && nat_lt (number_of x.rule) (number_of y.rule))

-- of two breaches the one that is answered
abbrev pub earlier : Breach → Breach → Breach
earlier x y = if goes_before y x then y else x

-- of these breaches the one that is answered: at the first anchor, with the least rule there
abbrev pub first_of : (first : Breach) (more : List Breach) → Breach
first_of x [] = x
first_of x (y ∷ ys) = first_of (earlier x y) ys

-- the same with one more, where there may be none before
abbrev pub with_breach : Option Breach → Breach → Option Breach
with_breach None y = Some y
with_breach (Some x) y = Some (earlier x y)

abbrev pub first_from : Option Breach → List Breach → Option Breach
first_from first [] = first
first_from first (y ∷ ys) = first_from (with_breach first y) ys

abbrev pub first_breach : List Breach → Option Breach
first_breach found = first_from None found
