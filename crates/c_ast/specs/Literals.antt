-- Numbers, character constants and strings: how they are spelled, and their values.
use Rattle.std.specs.Prelude.{◌≡◌, ℕ, ◌-◌, suc, min, Bool, ◌==◌, ◌&&◌, ◌||◌, nat_le, nat_lt, if◌then◌else◌, List, [], ◌∷◌, length, take, drop, slice_index, Option, Some, None}
use Rattle.std.specs.List.{list_all, prefix_len}
use Rattle.std.specs.Option.{option_map}
use Rattle.std.specs.Str.Parse.{digits_value}
use Rattle.c_ast.specs.Bytes.{is_digit_in, is_literal_byte}

-- ---- numbers

-- the last byte is `l` or `L`
abbrev pub has_suffix : List ℕ → Bool
has_suffix bs = (slice_index bs (length bs - 1) == 108) || (slice_index bs (length bs - 1) == 76)

abbrev pub without_suffix : List ℕ → List ℕ
without_suffix bs = if has_suffix bs then take (length bs - 1) bs else bs

abbrev pub begins_hexadecimal : List ℕ → Bool
begins_hexadecimal bs = (slice_index bs 0 == 48) && ((slice_index bs 1 == 120) || (slice_index bs 1 == 88))

abbrev pub begins_octal : List ℕ → Bool
begins_octal bs = (slice_index bs 0 == 48) && nat_lt 1 (length bs)

-- 16 behind `0x` or `0X`, 8 with another leading zero, else 10
abbrev pub base_of : List ℕ → ℕ
base_of bs = if begins_hexadecimal bs then 16 else if begins_octal bs then 8 else 10

abbrev pub digits_of : List ℕ → List ℕ
digits_of bs = if begins_hexadecimal bs then drop 2 bs else bs

-- the value of digits of a base: there are some, and it is below 2^63
unfoldable pub value_in : ℕ → List ℕ → Option ℕ
value_in base ds =
    if nat_lt 0 (length ds) && list_all (is_digit_in base) ds && nat_lt (digits_value base ds) 9223372036854775808
    then Some (digits_value base ds) else None

-- the value of a number without its suffix
abbrev pub plain_value : List ℕ → Option ℕ
plain_value bs = value_in (base_of bs) (digits_of bs)

-- a number is a `long` by its suffix, or where an `int` cannot hold it
abbrev pub is_long : List ℕ → ℕ → Bool
is_long bs value = has_suffix bs || nat_lt 2147483647 value

-- ---- elements of character constants and strings

-- the value of an escape of one letter or mark
unfoldable pub letter_escape : ℕ → Option ℕ
letter_escape c =
    if c == 110 then Some 10 else if c == 116 then Some 9 else if c == 114 then Some 13 else if c == 97 then Some 7
    else if c == 98 then Some 8 else if c == 102 then Some 12 else if c == 118 then Some 11
    else if (c == 92) || (c == 39) || (c == 34) || (c == 63) then Some c else None

-- how many digits an escape takes: all that it may, octal ones up to three
abbrev pub octal_len : List ℕ → ℕ
octal_len bs = min (prefix_len (is_digit_in 8) bs) 3

abbrev pub hexadecimal_len : List ℕ → ℕ
hexadecimal_len bs = prefix_len (is_digit_in 16) bs

-- the value of an element's digits, up to 255, and the element's length
abbrev pub byte_of : Option ℕ → ℕ → Option (ℕ × ℕ)
byte_of None n = None
byte_of (Some value) n = if nat_le value 255 then Some (value, n) else None

abbrev pub behind_backslash : ℕ → List ℕ → Option (ℕ × ℕ)
behind_backslash c bs =
    if is_digit_in 8 c then byte_of (value_in 8 (take (octal_len (c ∷ bs)) (c ∷ bs))) (suc (octal_len (c ∷ bs)))
    else if c == 120 then byte_of (value_in 16 (take (hexadecimal_len bs) bs)) (suc (suc (hexadecimal_len bs)))
    else option_map (λ value. (value, 2)) (letter_escape c)

abbrev pub escape : List ℕ → Option (ℕ × ℕ)
escape [] = None
escape (c ∷ bs) = behind_backslash c bs

-- The element that stands first, between quotes of this kind: its value and its length.
abbrev pub element : ℕ → List ℕ → Option (ℕ × ℕ)
element quote [] = None
element quote (b ∷ bs) =
    if b == quote then None
    else if b == 92 then escape bs
    else if is_literal_byte b then Some (b, 1) else None

-- elements with these values, one after the other, and the closing quote
pub data Quoted (quote : ℕ) : List ℕ → List ℕ → Type 0 where
  closed : Quoted quote (quote ∷ []) []
  more : (bs : List ℕ) (value n : ℕ) {values : List ℕ} → element quote bs ≡ Some (value, n) → Quoted quote (drop n bs) values → Quoted quote bs (value ∷ values)
