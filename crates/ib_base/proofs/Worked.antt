-- The integer rules at work, by numbers.
use Rattle.std.proofs.Common.{◌≡◌, true, false, pos, negsuc, Ok, Err, refl}
use Rattle.std.specs.Int.{int_wrap}
use Rattle.ib_meaning.specs.declared.fault.FaultKind.TheVariants.{DivZero, DivOverflow}
use Rattle.ib_base.specs.declared.integers.Cmp.TheVariants.{Eq, Ne, Lt, Le}
use Rattle.ib_base.specs.declared.integers.Width.TheVariants.{W1, W4, W8}
use Rattle.ib_base.specs.Integers.{wrapped, quotient, remainder, shifted_left, shifted_right, compared}

-- 300 and -1 in a byte; one past the greatest and one below the least number of four and of eight bytes
byte_wraps : wrapped W1 (pos 300) ≡ pos 44
byte_wraps = refl

byte_wraps_below : wrapped W1 (negsuc 0) ≡ pos 255
byte_wraps_below = refl

four_wrap : wrapped W4 (pos 2147483648) ≡ negsuc 2147483647
unfolding int_wrap
four_wrap = refl

four_wrap_below : wrapped W4 (negsuc 2147483648) ≡ pos 2147483647
unfolding int_wrap
four_wrap_below = refl

eight_wrap : wrapped W8 (pos 9223372036854775808) ≡ negsuc 9223372036854775807
unfolding int_wrap
eight_wrap = refl

-- quotients are rounded toward zero, and remainders have the sign of the dividend: -7 and 2, 7 and -2, -7 and -2, 6 and 3
quotient_below : quotient W4 (negsuc 6) (pos 2) ≡ Ok (negsuc 2)
quotient_below = refl

quotient_by_below : quotient W4 (pos 7) (negsuc 1) ≡ Ok (negsuc 2)
quotient_by_below = refl

quotient_of_both : quotient W4 (negsuc 6) (negsuc 1) ≡ Ok (pos 3)
quotient_of_both = refl

quotient_even : quotient W4 (pos 6) (pos 3) ≡ Ok (pos 2)
quotient_even = refl

remainder_below : remainder W8 (negsuc 6) (pos 2) ≡ Ok (negsuc 0)
remainder_below = refl

remainder_by_below : remainder W8 (pos 7) (negsuc 1) ≡ Ok (pos 1)
remainder_by_below = refl

remainder_of_both : remainder W8 (negsuc 6) (negsuc 1) ≡ Ok (negsuc 0)
remainder_of_both = refl

remainder_even : remainder W8 (pos 6) (pos 3) ≡ Ok (pos 0)
remainder_even = refl

quotient_by_zero : quotient W8 (pos 7) (pos 0) ≡ Err DivZero
quotient_by_zero = refl

remainder_overflows : remainder W4 (negsuc 2147483647) (negsuc 0) ≡ Err DivOverflow
remainder_overflows = refl

-- the least number of four bytes is none of eight
eight_do_not_overflow : quotient W8 (negsuc 2147483647) (negsuc 0) ≡ Ok (pos 2147483648)
eight_do_not_overflow = refl

-- counts are taken modulo the bits: 33 and -1 of 32, 64 of 64
shift_wraps : shifted_left W4 (pos 1) (pos 33) ≡ pos 2
unfolding int_wrap
shift_wraps = refl

shift_by_below : shifted_left W4 (pos 1) (negsuc 0) ≡ negsuc 2147483647
unfolding int_wrap
shift_by_below = refl

shift_of_eight : shifted_left W8 (pos 1) (pos 33) ≡ pos 8589934592
unfolding int_wrap
shift_of_eight = refl

shift_right_rounds_down : shifted_right W4 (negsuc 6) (pos 1) ≡ negsuc 3
shift_right_rounds_down = refl

shift_right_by_none : shifted_right W8 (negsuc 6) (pos 64) ≡ negsuc 6
shift_right_by_none = refl

-- -1 and 0
not_equal : compared Eq (negsuc 0) (pos 0) ≡ false
not_equal = refl

unequal : compared Ne (negsuc 0) (pos 0) ≡ true
unequal = refl

below : compared Lt (negsuc 0) (pos 0) ≡ true
below = refl

at_most : compared Le (negsuc 0) (pos 0) ≡ true
at_most = refl

-- 0 and 0, which two comparisons tell apart
not_below_itself : compared Lt (pos 0) (pos 0) ≡ false
not_below_itself = refl

at_most_itself : compared Le (pos 0) (pos 0) ≡ true
at_most_itself = refl
