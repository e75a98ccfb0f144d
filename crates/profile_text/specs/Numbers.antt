-- How numbers are read and compared by their digits.
use Rattle.std.specs.Prelude.{◌==◌, ℕ, ◌+◌, ◌-◌, ◌*◌, nat_lt, ◌&&◌, not, Bool, true, false, if◌then◌else◌, List, [], ◌∷◌, Option, Some, None}
use Rattle.std.specs.Str.{all_ascii_digits}

-- the number that the digits behind a number give with it
abbrev pub number_from : ℕ → List ℕ → ℕ
number_from n [] = n
number_from n (d ∷ ds) = number_from (10 * n + (d - 48)) ds

-- it does not begin with a 0 before other digits
abbrev pub is_short : List ℕ → Bool
is_short [] = false
is_short (d ∷ []) = true
is_short (d ∷ e ∷ ds) = not (d == 48)

-- decimal digits without leading zeros
abbrev pub is_number : List ℕ → Bool
is_number bs = all_ascii_digits bs && is_short bs

abbrev pub number_of : List ℕ → Option ℕ
number_of bs = if is_number bs then Some (number_from 0 bs) else None

-- a number that 64 bits hold
abbrev pub fits : ℕ → Option ℕ
fits n = if nat_lt n 18446744073709551616 then Some n else None

-- the first digits that differ rise
abbrev pub digits_less : List ℕ → List ℕ → Bool
digits_less [] ds = false
digits_less (c ∷ cs) [] = false
digits_less (c ∷ cs) (d ∷ ds) = if c == d then digits_less cs ds else nat_lt c d
