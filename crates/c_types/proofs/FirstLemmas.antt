-- The breach that is answered is the first: it is one of those that are found, and none of them goes before it.
use Rattle.std.proofs.Common.{◌≡◌, inl, inr, refl, sym, ◌∙◌, subst, ℕ, nat_lt, ◌==◌, ◌&&◌, ◌||◌, Bool, true, false, cond, List, [], ◌∷◌, Some, None, arith}
use Rattle.std.proofs.lemmas.Bool.Decides.{nat_tests}
use Rattle.ib_meaning.proofs.Facts.{some_same}
use Rattle.ib_meaning.specs.declared.place.Place.{Place}
use Rattle.c_ast.specs.Trees as c
use Rattle.c_typed.specs.Rules.{number_of}
use Rattle.c_typed.specs.declared.rule.Rule.{Rule as BrokenRule}
use Rattle.c_types_operators.specs.declared.rule.Breach.{Breach}
use Rattle.c_types_operators.specs.Rules.{goes_before, earlier, first_of, first_breach, breaches}
use Rattle.c_types_operators.specs.Judging.{Noted}
use Rattle.c_types_operators.proofs.JudgingLemmas.{first_from-some}
use Rattle.c_program.specs.declared.error.CheckErr.{CheckErr}
use Rattle.c_program.specs.declared.error.CheckErr.TheVariants.{Rule, Globals, Frame, NoMemory}
use Rattle.c_program.specs.Limits.{Limited, Refuses}
use Rattle.c_types_units.specs.Units.{judged}
use Rattle.c_types_units.specs.Typing.{IsBreach, IsAmong, IsFirst, NamesFirst}
use Rattle.c_types.specs.Views.{Tells}

-- ---- an order of three numbers, the first of which decides first

abbrev less : (a b c d e f : ℕ) → Bool
less a b c d e f = (nat_lt a d || ((a == d) && nat_lt b e)) || (((a == d) && (b == e)) && nat_lt c f)

irreflexive : (a b c : ℕ) → less a b c a b c ≡ false
irreflexive a b c = grind (arith, nat_tests)

through : (a b c d e f g h i : ℕ) → less a b c d e f ≡ false → less d e f g h i ≡ false → less a b c g h i ≡ false
through a b c d e f g h i = grind (arith, nat_tests)

from-earlier : (a b c d e f g h i : ℕ) → less a b c d e f ≡ true → less a b c g h i ≡ false → less d e f g h i ≡ false
from-earlier a b c d e f g h i = grind (arith, nat_tests)

-- ---- breaches

never_itself : (x : Breach) → goes_before x x ≡ false
never_itself x = irreflexive x.place.line x.place.col (number_of x.rule)

not_through : (x y z : Breach) → goes_before x y ≡ false → goes_before y z ≡ false → goes_before x z ≡ false
not_through x y z = through x.place.line x.place.col (number_of x.rule) y.place.line y.place.col (number_of y.rule) z.place.line z.place.col (number_of z.rule)

behind_earlier : (x y z : Breach) → goes_before x y ≡ true → goes_before x z ≡ false → goes_before y z ≡ false
behind_earlier x y z = from-earlier x.place.line x.place.col (number_of x.rule) y.place.line y.place.col (number_of y.rule) z.place.line z.place.col (number_of z.rule)

-- behind one more that goes before the first so far
overtaken : (x y b : Breach) (ys : List Breach) → goes_before y x ≡ true → IsFirst (y ∷ ys) b → IsFirst (x ∷ (y ∷ ys)) b
overtaken x y b ys is h = record { among = inr h.among; none_before = (behind_earlier y x b is h.none_before.0, h.none_before) }

skipped : (x y b : Breach) (ys : List Breach) → IsAmong b (x ∷ ys) → IsAmong b (x ∷ (y ∷ ys))
skipped x y b ys (inl is) = inl is
skipped x y b ys (inr later) = inr (inr later)

-- or that does not
kept : (x y b : Breach) (ys : List Breach) → goes_before y x ≡ false → IsFirst (x ∷ ys) b → IsFirst (x ∷ (y ∷ ys)) b
kept x y b ys is h = record {
  among = skipped x y b ys h.among;
  none_before = (h.none_before.0, (not_through y x b is h.none_before.0, h.none_before.1));
}

-- What goes before decides which of the two stays.
behind_test : (x y : Breach) (ys : List Breach) (t : Bool) → goes_before y x ≡ t → IsFirst (cond t y x ∷ ys) (first_of (cond t y x) ys) → IsFirst (x ∷ (y ∷ ys)) (first_of (cond t y x) ys)
behind_test x y ys true is h = overtaken x y (first_of y ys) ys is h
behind_test x y ys false is h = kept x y (first_of x ys) ys is h

first_is_first : (x : Breach) (ys : List Breach) → IsFirst (x ∷ ys) (first_of x ys)
first_is_first x [] = record { among = inl refl; none_before = (never_itself x, tt) }
first_is_first x (y ∷ ys) = behind_test x y ys (goes_before y x) refl (first_is_first (earlier x y) ys)

-- ---- answers

named_first : (found : List Breach) (breach : Breach) (error : CheckErr) → IsFirst found breach → IsBreach breach error → NamesFirst found error
named_first found breach (Rule rule place) first is =
    subst (λ (p : Place). IsFirst found (record { rule = rule; place = p })) (sym is.1)
    (subst (λ (r : BrokenRule). IsFirst found (record { rule = r; place = breach.place })) (sym is.0) first)
named_first found breach (Globals bytes) first is = tt
named_first found breach (Frame bytes) first is = tt
named_first found breach NoMemory first is = tt

noted_first : (found : List Breach) (breach : Breach) → Some breach ≡ first_breach found → IsFirst found breach
noted_first [] breach is = let no : false ≡ true = cc in cc
noted_first (x ∷ xs) breach is = subst (IsFirst (x ∷ xs)) (sym (some_same (is ∙ first_from-some x xs))) (first_is_first x xs)

pub names_noted : {notes : Noted} {breach : Breach} (error : CheckErr) (unit : List c.Top) → Tells unit None notes → notes.first ≡ Some breach → IsBreach breach error → NamesFirst (breaches (judged unit)) error
names_noted {notes} {breach} error unit h first is = named_first (breaches (judged unit)) breach error (noted_first (breaches (judged unit)) breach (sym first ∙ h.first)) is

pub names_none : (error : CheckErr) (found : List Breach) (said : Limited) → Refuses said error → NamesFirst found error
names_none (Rule rule place) found said is = absurd is
names_none (Globals bytes) found said is = tt
names_none (Frame bytes) found said is = tt
names_none NoMemory found said is = tt

pub names_no_memory : (found : List Breach) → NamesFirst found NoMemory
names_no_memory found = tt
