-- The value of digits, digit by digit.
use Rattle.std.proofs.Common.{◌≡◌, ℕ, ◌+◌, ◌*◌, ◌<◌, ◌≤◌, Bool, true, false, List, [], ◌∷◌, length, take, get_or, ap, refl, sym, subst, ◌∙◌, arith, cond, Some, None}
use Rattle.std.specs.Prelude.{◌&&◌, ◌==◌, nat_lt}
use Rattle.std.specs.List.{list_all}
use Rattle.std.specs.Str.Parse.{digits_value, AllDigits}
use Rattle.std.specs.Char.{digit_value}
use Rattle.std.proofs.Math.Seq.{take-length}
use Rattle.std.proofs.lemmas.Str.Parse.{digits_value-take-le}
use Rattle.std.proofs.lemmas.Int.Digits.{digits_value_more, digits_more}
use Rattle.std.proofs.lemmas.Bool.Decides.{nat_tests}
use Rattle.c_ast.specs.Bytes.{is_digit_in}
use Rattle.c_ast.specs.Literals.{value_in}

no_value : (base : ℕ) (ds : List ℕ) → nat_lt (digits_value base ds) 9223372036854775808 ≡ false → value_in base ds ≡ None
unfolding value_in
no_value base ds e = rw e (by_tests (nat_lt 0 (length ds)) (list_all (is_digit_in base) ds))
  where
    by_tests : (a b : Bool) → cond (a && b && false) (Some (digits_value base ds)) None ≡ None
    by_tests true true = refl
    by_tests true false = refl
    by_tests false b = refl

-- the first digits have too large a value
pub too_large : (base : ℕ) (ds : List ℕ) (i : ℕ) → 1 ≤ base → 9223372036854775808 ≤ digits_value base (take i ds) → value_in base ds ≡ None
too_large base ds i low h =
    let k = digits_value-take-le base ds i low in
    no_value base ds (grind (arith, nat_tests))

-- the same of one digit more
pub too_large_next : (base : ℕ) (ds : List ℕ) (i value digit : ℕ) → 1 ≤ base → i < length ds → value ≡ digits_value base (take i ds) → digit ≡ digit_value (get_or ds i 0) → 9223372036854775808 ≤ value * base + digit → value_in base ds ≡ None
too_large_next base ds i value digit low h v d large =
    let e : value * base + digit ≡ digits_value base (take i ds) * base + digit_value (get_or ds i 0) = cc in
    too_large base ds (i + 1) low (omega (arith, digits_value_more base ds i h))

are_digits : (base : ℕ) (ds : List ℕ) → AllDigits base ds → list_all (is_digit_in base) ds ≡ true
are_digits base [] h = refl
are_digits base (d ∷ ds) h =
    let e : is_digit_in base d ≡ true = grind (arith, nat_tests, h.0) in
    rw e (are_digits base ds h.1)

pub has_value : (base : ℕ) (ds : List ℕ) → 0 < length ds → AllDigits base ds → digits_value base ds < 9223372036854775808 → value_in base ds ≡ Some (digits_value base ds)
unfolding value_in
has_value base ds some digits small =
    let a : nat_lt 0 (length ds) ≡ true = grind (arith, nat_tests) in
    let b : nat_lt (digits_value base ds) 9223372036854775808 ≡ true = grind (arith, nat_tests) in
    rw (a, are_digits base ds digits, b) refl

-- one digit more keeps what the loop over the digits keeps
pub more_digits : (base : ℕ) (ds : List ℕ) (i digit : ℕ) → i < length ds → digit ≡ digit_value (get_or ds i 0) → digit < base → AllDigits base (take i ds) → AllDigits base (take (i + 1) ds)
more_digits base ds i digit h d low all = digits_more base ds i h all (omega arith)

pub more_value : (base : ℕ) (ds : List ℕ) (i value digit : ℕ) → i < length ds → value ≡ digits_value base (take i ds) → digit ≡ digit_value (get_or ds i 0) → value * base + digit ≡ digits_value base (take (i + 1) ds)
more_value base ds i value digit h v d =
    let e : value * base + digit ≡ digits_value base (take i ds) * base + digit_value (get_or ds i 0) = cc in
    omega (arith, digits_value_more base ds i h)

-- all digits were passed
pub all_digits : (base : ℕ) (ds : List ℕ) (i value : ℕ) → 0 < length ds → i ≡ length ds → AllDigits base (take i ds) → value ≡ digits_value base (take i ds) → value < 9223372036854775808 → Some value ≡ value_in base ds
all_digits base ds i value some e digits v small =
    let t : take i ds ≡ ds = ap (λ n. take n ds) e ∙ take-length ds in
    let is : value ≡ digits_value base ds = v ∙ ap (digits_value base) t in
    ap Some is ∙ sym (has_value base ds some (subst (AllDigits base) t digits) (omega arith))

pub some_digits : (n : ℕ) → (n == 0) ≡ false → 0 < n
some_digits n h = grind (arith, nat_tests)
