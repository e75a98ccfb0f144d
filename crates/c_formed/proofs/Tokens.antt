-- The tokens of a source: a name is a name, and a number lies in its type.
use Rattle.std.proofs.Common.{◌≡◌, ℕ, zero, suc, ◌<◌, ◌==◌, nat_lt, nat_le, ◌&&◌, ◌||◌, Bool, true, false, pos, List, [], ◌∷◌, length, take, drop, refl, sym, subst, arith, ltb-false, ltb-true, leb-true, Option, Some, None}
use Rattle.std.specs.List.{list_all}
use Rattle.std.specs.Option.{option_map}
use Rattle.std.specs.Int.{w32, w64}
use Rattle.std.specs.Str.Parse.{digits_value}
use Rattle.std.proofs.lemmas.Int.{int_wrap_fits, fits_signed_from_abs}
use Rattle.ib_base.specs.declared.integers.Width.TheVariants.{W4, W8}
use Rattle.ib_base.specs.Integers.{wrapped}
use Rattle.c_ast.specs.declared.keyword.Keyword.{Keyword}
use Rattle.c_ast.specs.declared.token.Tok.{Tok}
use Rattle.c_ast.specs.declared.token.Tok.TheVariants as t
use Rattle.c_ast.specs.declared.token.Token.{Token}
use Rattle.c_ast.specs.Bytes.{is_digit_in, is_literal_byte}
use Rattle.c_ast.specs.Keywords.{keyword_spelled}
use Rattle.c_ast.specs.Literals.{has_suffix, without_suffix, base_of, digits_of, value_in, plain_value, is_long, letter_escape, byte_of, octal_len, hexadecimal_len, escape, element, Quoted, closed, more}
use Rattle.c_ast.specs.Pieces.{Piece, blank, line_comment, block_comment, open_comment, include_line, word, number, character, text, mark, Spells, token, is_reserved, word_or_name, word_tok, number_with, number_given, given}
use Rattle.c_ast.specs.Cut.{Front, Ending, IsCut, over, bare, broken, gap, spelling}
use Rattle.c_kept.specs.WellFormed.{IsName, IsNumber}
use Rattle.c_kept.proofs.Cases.{differ, by_test, Yields, some, none}

abbrev pub IsGood : Tok → Type 0
IsGood (t.Name n) = IsName n
IsGood (t.Number z long) = IsNumber z long
IsGood (t.Char n) = n < 256
IsGood tok = Unit {0}

abbrev pub AreGood : List Token → Type 0
AreGood [] = Unit {0}
AreGood (x ∷ xs) = IsGood x.kind × AreGood xs

-- ---- bytes

abbrev pub AreBytes : List ℕ → Type 0
AreBytes [] = Unit {0}
AreBytes (b ∷ bs) = (b < 256) × AreBytes bs

bytes_left : (n : ℕ) (bs : List ℕ) → AreBytes bs → AreBytes (drop n bs)
bytes_left zero bs h = h
bytes_left (suc n) [] h = tt
bytes_left (suc n) (b ∷ bs) h = bytes_left n bs h.1

bytes_first : (n : ℕ) (bs : List ℕ) → AreBytes bs → AreBytes (take n bs)
bytes_first zero bs h = tt
bytes_first (suc n) [] h = tt
bytes_first (suc n) (b ∷ bs) h = (h.0, bytes_first n bs h.1)

-- ---- numbers

and_last : (a b : Bool) → (a && b) ≡ true → b ≡ true
and_last true b h = h
and_last false b h = absurd (differ (sym h))

within_long : (base : ℕ) (ds : List ℕ) → Yields (λ value. value < 9223372036854775808) (value_in base ds)
unfolding value_in
within_long base ds =
    by_test (Yields (λ value. value < 9223372036854775808)) (nat_lt 0 (length ds) && list_all (is_digit_in base) ds && nat_lt (digits_value base ds) 9223372036854775808) (Some (digits_value base ds)) None
    (λ e. some (ltb-true (digits_value base ds) 9223372036854775808 (and_last (nat_lt 0 (length ds) && list_all (is_digit_in base) ds) (nat_lt (digits_value base ds) 9223372036854775808) e))) (λ e. none)

or_last : (a b : Bool) → (a || b) ≡ false → b ≡ false
or_last true b h = absurd (differ h)
or_last false b h = h

number_lies : (long : Bool) (value : ℕ) → value < 9223372036854775808 → IsNumber (pos value) (long || nat_lt 2147483647 value)
number_lies long value lt = by_test (λ w. wrapped w (pos value) ≡ pos value) (long || nat_lt 2147483647 value) W8 W4
    (λ e. int_wrap_fits w64 (pos value) (fits_signed_from_abs w64 (pos value) lt))
    (λ e. let small : value < 2147483648 = let le = ltb-false 2147483647 value (or_last long (nat_lt 2147483647 value) e) in omega (arith, le) in int_wrap_fits w32 (pos value) (fits_signed_from_abs w32 (pos value) small))

number_good : (bs : List ℕ) (found : Option ℕ) (tok : Tok) → Yields (λ value. value < 9223372036854775808) found → number_with bs found ≡ token tok → IsGood tok
number_good bs None tok h e = let z : ⊥ = cc in absurd z
number_good bs (Some value) tok h e =
    let same : t.Number (pos value) (is_long bs value) ≡ tok = cc in
    subst IsGood same (number_lies (has_suffix bs) value (h.by value refl))

-- ---- names

word_good : (bs : List ℕ) (found : Option Keyword) → IsName bs → IsGood (word_or_name bs found)
word_good bs (Some keyword) h = tt
word_good bs None h = by_test IsGood (is_reserved bs) (t.Reserved bs) (t.Name bs) (λ e. tt) (λ e. h)

-- ---- characters

-- the value of an element, which stands before its length
abbrev IsSmall : ℕ × ℕ → Type 0
IsSmall pair = pair.0 < 256

byte_small : (found : Option ℕ) (n : ℕ) → Yields IsSmall (byte_of found n)
byte_small None n = none
byte_small (Some value) n = by_test (Yields IsSmall) (nat_le value 255) (Some (value, n)) None (λ e. some (let le = leb-true value 255 e in omega (arith, le))) (λ e. none)

letter_small : (c : ℕ) → c < 256 → Yields (λ value. value < 256) (letter_escape c)
unfolding letter_escape
letter_small c lt =
    let P = Yields (λ value. value < 256) in
    by_test P (c == 110) _ _ (λ e. some (omega arith)) (λ e.
    by_test P (c == 116) _ _ (λ e. some (omega arith)) (λ e.
    by_test P (c == 114) _ _ (λ e. some (omega arith)) (λ e.
    by_test P (c == 97) _ _ (λ e. some (omega arith)) (λ e.
    by_test P (c == 98) _ _ (λ e. some (omega arith)) (λ e.
    by_test P (c == 102) _ _ (λ e. some (omega arith)) (λ e.
    by_test P (c == 118) _ _ (λ e. some (omega arith)) (λ e.
    by_test P ((c == 92) || (c == 39) || (c == 34) || (c == 63)) _ _ (λ e. some lt) (λ e. none))))))))

with_length : (found : Option ℕ) → Yields (λ value. value < 256) found → Yields IsSmall (option_map (λ value. (value, 2)) found)
with_length None h = none
with_length (Some value) h = some (h.by value refl)

escape_small : (bs : List ℕ) → AreBytes bs → Yields IsSmall (escape bs)
escape_small [] h = none
escape_small (c ∷ bs) h =
    by_test (Yields IsSmall) (is_digit_in 8 c) _ _ (λ e. byte_small (value_in 8 (take (octal_len (c ∷ bs)) (c ∷ bs))) (suc (octal_len (c ∷ bs)))) (λ e.
    by_test (Yields IsSmall) (c == 120) _ _ (λ e. byte_small (value_in 16 (take (hexadecimal_len bs) bs)) (suc (suc (hexadecimal_len bs)))) (λ e. with_length (letter_escape c) (letter_small c h.0)))

element_small : (quote : ℕ) (bs : List ℕ) → AreBytes bs → Yields IsSmall (element quote bs)
element_small quote [] h = none
element_small quote (b ∷ bs) h =
    by_test (Yields IsSmall) (b == quote) _ _ (λ e. none) (λ e.
    by_test (Yields IsSmall) (b == 92) _ _ (λ e. escape_small bs h.1) (λ e.
    by_test (Yields IsSmall) (is_literal_byte b) _ _ (λ e. some h.0) (λ e. none)))

quoted_small : {quote : ℕ} {bs values : List ℕ} → Quoted quote bs values → AreBytes bs → AreBytes values
quoted_small closed h = tt
quoted_small {quote = quote} (more bs value n e rest) h = ((element_small quote bs h).by (value, n) e, quoted_small rest (bytes_left n bs h))

-- ---- tokens

-- what stands behind a quote
quote_less : (cs bs : List ℕ) → bs ≡ 39 ∷ cs → AreBytes bs → AreBytes cs
quote_less cs bs e h = (subst AreBytes e h).1

piece_good : (clear : Bool) (piece : Piece) (bs : List ℕ) (tok : Tok) → Spells clear piece bs → given piece bs ≡ token tok → AreBytes bs → IsGood tok
unfolding word_tok number_given
piece_good clear blank bs tok s e h = let z : ⊥ = cc in absurd z
piece_good clear line_comment bs tok s e h = let z : ⊥ = cc in absurd z
piece_good clear block_comment bs tok s e h = let z : ⊥ = cc in absurd z
piece_good clear open_comment bs tok s e h = let z : ⊥ = cc in absurd z
piece_good clear include_line bs tok s e h = let z : ⊥ = cc in absurd z
piece_good clear word bs tok s e h =
    let same : word_or_name bs (keyword_spelled bs) ≡ tok = cc in
    subst IsGood same (word_good bs (keyword_spelled bs) (subst IsName (sym s.2) (s.3, s.4)))
piece_good clear number bs tok s e h = number_good bs (plain_value (without_suffix bs)) tok (within_long (base_of (without_suffix bs)) (digits_of (without_suffix bs))) e
piece_good clear (character value) bs tok s e h =
    let same : t.Char value ≡ tok = cc in
    let values : AreBytes (value ∷ []) = quoted_small s.2 (quote_less s.0 bs s.1 h) in
    subst IsGood same values.0
piece_good clear (text values) bs tok s e h = let same : t.Str values ≡ tok = cc in subst IsGood same tt
piece_good clear (mark m) bs tok s e h = let same : t.Mark m ≡ tok = cc in subst IsGood same tt

pub tokens_good : {front : Front} {tokens : List Token} {ending : Ending} → IsCut front tokens ending → AreBytes front.left → AreGood tokens
tokens_good (over front _) h = tt
tokens_good (bare front _) h = tt
tokens_good (broken front piece n kind stands is) h = tt
tokens_good (gap front piece n stands is rest) h = tokens_good rest (bytes_left n front.left h)
tokens_good (spelling front piece n tok stands is rest) h = (piece_good front.clear piece (take n front.left) tok stands.spells is (bytes_first n front.left h), tokens_good rest (bytes_left n front.left h))
