-- Values lie in their widths.
use Rattle.std.proofs.Common.{◌≡◌, ◌<◌, ◌%◌, ℤ, pos, negsuc, Bool, true, false, refl, ap, subst, arith, w32, w64, FitsSigned, unsigned_abs}
use Rattle.std.specs.Int.{int_rem_euclid}
use Rattle.std.proofs.lemmas.Int.{ints, int_wrap_fits, SFits-int_wrap}
use Rattle.c_typed.specs.Values.{truth}
use Rattle.ib_base.specs.declared.integers.Width.{Width}
use Rattle.ib_base.specs.declared.integers.Width.TheVariants.{W1, W4, W8}
use Rattle.ib_base.specs.Integers.{wrapped}
use Rattle.tac_lowered.specs.Operators.{narrows}
use Rattle.tac_lowered.proofs.Relation.{Lies}

-- a byte
is_byte : (z : ℤ) → int_rem_euclid z (pos 256) ≡ z → FitsSigned w32 z
is_byte (pos a) e = let h : a % 256 ≡ a = ap unsigned_abs e in let small : a < 256 = omega (arith, h) in omega (arith, ints, small)
is_byte (negsuc a) e = let h : ⊥ = cc in absurd h

eight : (z : ℤ) → FitsSigned w32 z → FitsSigned w64 z
eight z f = omega (arith, ints)

pub of_four : (z : ℤ) → Lies W4 z → FitsSigned w32 z
of_four z e = subst (λ x. FitsSigned w32 x) e (SFits-int_wrap w32 z)

pub fits : (w : Width) (z : ℤ) → Lies w z → FitsSigned w64 z
fits W1 z e = eight z (is_byte z e)
fits W4 z e = eight z (of_four z e)
fits W8 z e = subst (λ x. FitsSigned w64 x) e (SFits-int_wrap w64 z)

-- 64 bits hold each value
pub in_eight : (w : Width) (z : ℤ) → Lies w z → Lies W8 z
in_eight w z e = int_wrap_fits w64 z (fits w z e)

-- where no width is lost, nothing is
pub wider : (w w' : Width) (z : ℤ) → narrows w w' ≡ false → Lies w z → Lies w' z
wider W1 W1 z n e = e
wider W1 W4 z n e = int_wrap_fits w32 z (is_byte z e)
wider W1 W8 z n e = in_eight W1 z e
wider W4 W1 z n e = let h : ⊥ = cc in absurd h
wider W4 W4 z n e = e
wider W4 W8 z n e = in_eight W4 z e
wider W8 W1 z n e = let h : ⊥ = cc in absurd h
wider W8 W4 z n e = let h : ⊥ = cc in absurd h
wider W8 W8 z n e = e

byte_again : (z : ℤ) → int_rem_euclid (int_rem_euclid z (pos 256)) (pos 256) ≡ int_rem_euclid z (pos 256)
byte_again (pos a) = ap pos (omega arith)
byte_again (negsuc a) = ap pos (omega arith)

pub wrapped_lies : (w : Width) (z : ℤ) → Lies w (wrapped w z)
wrapped_lies W1 z = byte_again z
wrapped_lies W4 z = int_wrap_fits w32 (wrapped W4 z) (SFits-int_wrap w32 z)
wrapped_lies W8 z = int_wrap_fits w64 (wrapped W8 z) (SFits-int_wrap w64 z)

pub truth_lies : (b : Bool) → Lies W1 (truth b)
truth_lies true = refl
truth_lies false = refl

pub one_lies : (w : Width) → Lies w (pos 1)
one_lies W1 = truth_lies true
one_lies W4 = wider W1 W4 (pos 1) refl (truth_lies true)
one_lies W8 = wider W1 W8 (pos 1) refl (truth_lies true)
