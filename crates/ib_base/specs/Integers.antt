-- The integers of the language and of the machine: a value of a width, and what is left of a number in it.
use Rattle.std.specs.Prelude.{ℕ, ◌^◌, ◌&&◌, ℤ, pos, negsuc, ◌*ℤ◌, Bool, not, Result, Ok, Err, if◌then◌else◌, int_lt, int_le, int_div, int_rem, FitsSigned, unsigned_abs}
use Rattle.std.specs.Int.{w32, w64, FitsUnsignedBits, int_wrap, int_rem_euclid, int_shr}
use Rattle.ib_base.specs.declared.integers.Width.{Width}
use Rattle.ib_base.specs.declared.integers.Width.TheVariants.{W1, W4, W8}
use Rattle.ib_base.specs.declared.integers.Cmp.{Cmp}
use Rattle.ib_base.specs.declared.integers.Cmp.TheVariants.{Eq, Ne, Lt, Le}
use Rattle.ib_meaning.specs.declared.fault.FaultKind.{FaultKind}
use Rattle.ib_meaning.specs.declared.fault.FaultKind.TheVariants.{DivZero, DivOverflow}

-- z is a value of the width: from 0 to 255 at one byte, signed at four and eight
abbrev pub IsOfWidth : Width → ℤ → Type 0
IsOfWidth W1 z = FitsUnsignedBits 8 z
IsOfWidth W4 z = FitsSigned w32 z
IsOfWidth W8 z = FitsSigned w64 z

-- the value of the width that is z but for a multiple of 2 ^ 8, 2 ^ 32 or 2 ^ 64
abbrev pub wrapped : Width → ℤ → ℤ
wrapped W1 z = int_rem_euclid z (pos 256)
wrapped W4 z = int_wrap w32 z
wrapped W8 z = int_wrap w64 z

abbrev pub least_of : Width → ℤ
least_of W1 = pos 0
least_of W4 = negsuc 2147483647
least_of W8 = negsuc 9223372036854775807

-- both are the same number
abbrev pub int_eq : ℤ → ℤ → Bool
int_eq a b = int_le a b && int_le b a

-- x where a quotient of the width can be had, or the fault
abbrev pub divided : Width → ℤ → ℤ → ℤ → Result ℤ FaultKind
divided w a b x =
    if int_eq b (pos 0) then Err DivZero
    else if int_eq b (negsuc 0) && int_eq a (least_of w) then Err DivOverflow
    else Ok x

-- rounded toward zero
abbrev pub quotient : Width → ℤ → ℤ → Result ℤ FaultKind
quotient w a b = divided w a b (int_div a b)

-- with the sign of the dividend
abbrev pub remainder : Width → ℤ → ℤ → Result ℤ FaultKind
remainder w a b = divided w a b (int_rem a b)

abbrev pub bits_of : Width → ℕ
bits_of W1 = 8
bits_of W4 = 32
bits_of W8 = 64

-- how far a shift goes: the count modulo the width's bits
abbrev pub count_of : Width → ℤ → ℕ
count_of w b = unsigned_abs (int_rem_euclid b (pos (bits_of w)))

abbrev pub shifted_left : Width → ℤ → ℤ → ℤ
shifted_left w a b = wrapped w (a *ℤ pos (2 ^ count_of w b))

-- rounded down
abbrev pub shifted_right : Width → ℤ → ℤ → ℤ
shifted_right w a b = int_shr a (count_of w b)

abbrev pub compared : Cmp → ℤ → ℤ → Bool
compared Eq a b = int_eq a b
compared Ne a b = not (int_eq a b)
compared Lt a b = int_lt a b
compared Le a b = int_le a b
