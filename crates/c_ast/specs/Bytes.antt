-- Classes of bytes.
use Rattle.std.specs.Prelude.{ℕ, Bool, ◌==◌, ◌&&◌, ◌||◌, nat_le, nat_lt}
use Rattle.std.specs.Char.{digit_value}

abbrev pub is_blank : ℕ → Bool
is_blank b = (b == 32) || (nat_le 9 b && nat_le b 13)

abbrev pub is_digit : ℕ → Bool
is_digit b = nat_le 48 b && nat_le b 57

-- a digit of a base; above 9 a letter of either case
abbrev pub is_digit_in : ℕ → ℕ → Bool
is_digit_in base b = nat_lt (digit_value b) base

abbrev pub is_capital : ℕ → Bool
is_capital b = nat_le 65 b && nat_le b 90

abbrev pub is_letter : ℕ → Bool
is_letter b = is_capital b || (nat_le 97 b && nat_le b 122) || (b == 95)

-- what names and numbers are made of
abbrev pub is_word_byte : ℕ → Bool
is_word_byte b = is_letter b || is_digit b

-- a byte that an element of a literal may be by itself, but for the closing quote and `\`
abbrev pub is_literal_byte : ℕ → Bool
is_literal_byte b = (b == 9) || (nat_le 32 b && nat_le b 126) || nat_le 128 b
