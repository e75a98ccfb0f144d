-- Which numbers are values of `int`.
use Rattle.std.proofs.Common.{◌≡◌, ℕ, zero, suc, ◌*◌, ◌/◌, ◌<◌, ◌≤◌, ℤ, pos, negsuc, neg_ℤ, Bool, true, false, Result, Ok, Err, refl, sym, ap, ◌∙◌, subst, arith}
use Rattle.std.specs.Prelude.{nat_lt, if◌then◌else◌, ◌&&◌, FitsSigned, int_div}
use Rattle.std.specs.Int.{w32}
use Rattle.std.proofs.lemmas.Int.{SFits-int_wrap, quot_fits, ints}
use Rattle.std.proofs.lemmas.Bool.Decides.{nat_tests}
use Rattle.ib_base.specs.declared.integers.Width.TheVariants.{W4}
use Rattle.ib_base.specs.Integers.{wrapped, quotient, int_eq, least_of}
use Rattle.ib_meaning.specs.declared.fault.FaultKind.{FaultKind}
use Rattle.ib_meaning.specs.declared.fault.FaultKind.TheVariants.{DivZero, DivOverflow}

abbrev pub IsInt : ℤ → Type 0
IsInt z = FitsSigned w32 z

pub wrapped_int : (z : ℤ) → IsInt (wrapped W4 z)
wrapped_int z = SFits-int_wrap w32 z

pub number_int : (n : ℕ) → n ≤ 2147483647 → IsInt (pos n)
number_int n h = record { sfits = omega arith }

pub negative_int : (n : ℕ) → n ≤ 2147483648 → IsInt (neg_ℤ (pos n))
negative_int zero h = record { sfits = omega arith }
negative_int (suc n) h = record { sfits = omega arith }

record WasOk (zero_divisor overflow : Bool) (q z : ℤ) : Type 0 where
  divisor : zero_divisor ≡ false
  fits : overflow ≡ false
  same : q ≡ z

-- the three outcomes of a division
abbrev outcome : (zero_divisor overflow : Bool) → ℤ → Result ℤ FaultKind
outcome b c q = if b then Err DivZero else (if c then Err DivOverflow else Ok q)

was_ok : (b c : Bool) (q z : ℤ) → outcome b c q ≡ Ok z → WasOk b c q z
was_ok true c q z e = cc
was_ok false true q z e = cc
was_ok false false q z e = record { divisor = refl; fits = refl; same = cc }

quotient_less : (a b : ℕ) → a / suc b ≤ a
quotient_less a b = omega arith

quotient_half : (a b : ℕ) → 2 * (a / suc (suc b)) ≤ a
quotient_half a b = grind arith

not_least : (a : ℕ) → a < 2147483648 → int_eq (negsuc a) (negsuc 2147483647) ≡ false → a < 2147483647
not_least a h e = by_test (nat_lt a 2147483647) refl
  where
    at_least : a ≡ 2147483647 → int_eq (negsuc a) (negsuc 2147483647) ≡ true
    at_least same = ap (λ (n : ℕ). int_eq (negsuc n) (negsuc 2147483647)) same

    by_test : (b : Bool) → nat_lt a 2147483647 ≡ b → a < 2147483647
    by_test true less = grind (arith, nat_tests)
    by_test false less =
        let same : a ≡ 2147483647 = grind (arith, nat_tests) in
        let bad : true ≡ false = sym (at_least same) ∙ e in cc

divided_int : (x y : ℤ) → IsInt x → int_eq y (pos 0) ≡ false → (int_eq y (negsuc 0) && int_eq x (least_of W4)) ≡ false → IsInt (int_div x y)
divided_int x (pos zero) f nonzero small = cc
divided_int x (pos (suc b)) f nonzero small = quot_fits w32 x (pos (suc b)) f (omega (arith, ints))
divided_int (pos a) (negsuc b) f nonzero small = let h = f.sfits in let l = quotient_less a b in negative_int (a / suc b) (omega arith)
divided_int (negsuc a) (negsuc zero) f nonzero small = let h = f.sfits in let l = not_least a (omega arith) small in record { sfits = omega arith }
divided_int (negsuc a) (negsuc (suc b)) f nonzero small = let h = f.sfits in let l = quotient_half (suc a) b in record { sfits = omega arith }

pub quotient_int : (x y z : ℤ) → IsInt x → quotient W4 x y ≡ Ok z → IsInt z
quotient_int x y z f e =
    let was = was_ok (int_eq y (pos 0)) (int_eq y (negsuc 0) && int_eq x (least_of W4)) (int_div x y) z e in
    subst IsInt was.same (divided_int x y f was.divisor was.fits)
