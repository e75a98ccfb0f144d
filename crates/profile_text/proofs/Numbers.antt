-- Numbers compare as their digits do.
use Rattle.std.proofs.Common.{◌≡◌, ℕ, ◌<◌, ◌≤◌, ◌+◌, ◌-◌, ◌*◌, Bool, true, false, List, [], ◌∷◌, length, drop, get_or, refl, sym, ap, ◌∙◌, arith, leb, Some, None, ⊎_elim, inl, inr}
use Rattle.std.specs.Prelude.{◌==◌, nat_lt, ◌&&◌, ◌⊎◌}
use Rattle.std.specs.Str.{all_ascii_digits}
use Rattle.std.specs.Char.{is_ascii_digit}
use Rattle.std.proofs.lemmas.Bool.{cases_lt, ne_eqb}
use Rattle.std.proofs.lemmas.List.{at_drop_more, at_drop_all}
use Rattle.std.proofs.lemmas.Bool.Decides.{nat_tests}
use Rattle.profile_text.specs.Numbers.{number_from, is_short, is_number, fits, digits_less}

pub number_grows : (n : ℕ) (ds : List ℕ) → n ≤ number_from n ds
number_grows n [] = omega arith
number_grows n (d ∷ ds) = omega (arith, number_grows (10 * n + (d - 48)) ds)

pub fits_not : (n m : ℕ) → n ≤ m → None ≡ fits n → None ≡ fits m
fits_not n m le none = grind (arith, nat_tests)

pub digit_bounds : (d : ℕ) → is_ascii_digit d ≡ true → (48 ≤ d) × (d ≤ 57)
digit_bounds d is = (grind (arith, nat_tests), grind (arith, nat_tests))

and_left : (a b : Bool) → a && b ≡ true → a ≡ true
and_left true b h = refl
and_left false b h = h

and_right : (a b : Bool) → a && b ≡ true → b ≡ true
and_right true b h = h
and_right false b h = absurd (cc)

pub first_digit : (d : ℕ) (ds : List ℕ) → all_ascii_digits (d ∷ ds) ≡ true → (48 ≤ d) × (d ≤ 57)
first_digit d ds are = digit_bounds d (and_left (is_ascii_digit d) (all_ascii_digits ds) are)

pub more_digits : (d : ℕ) (ds : List ℕ) → all_ascii_digits (d ∷ ds) ≡ true → all_ascii_digits ds ≡ true
more_digits d ds are = and_right (is_ascii_digit d) (all_ascii_digits ds) are

-- behind a lesser number, no more digits give a lesser number
less : (a b : ℕ) (cs ds : List ℕ) → a < b → length cs ≤ length ds → all_ascii_digits cs ≡ true → all_ascii_digits ds ≡ true → number_from a cs < number_from b ds
less a b [] ds lt le cs' ds' = omega (arith, number_grows b ds)
less a b (c ∷ cs) [] lt le cs' ds' = absurd (omega arith)
less a b (c ∷ cs) (d ∷ ds) lt le cs' ds' =
    let x = first_digit c cs cs' in
    let y = first_digit d ds ds' in
    less (10 * a + (c - 48)) (10 * b + (d - 48)) cs ds (omega arith) (omega arith) (more_digits c cs cs') (more_digits d ds ds')

pub lt_true : (a b : ℕ) → a < b → nat_lt a b ≡ true
lt_true a b lt = grind (arith, nat_tests)

pub lt_false : (a b : ℕ) → b ≤ a → nat_lt a b ≡ false
lt_false a b le = grind (arith, nat_tests)

eq_true : (a b : ℕ) → a ≡ b → (a == b) ≡ true
eq_true a b e = grind (arith, nat_tests)

eq_false : (a b : ℕ) → (a ≡ b → ⊥) → (a == b) ≡ false
eq_false a b ne = ne_eqb a b ne

digits_same : (c d : ℕ) (cs ds : List ℕ) → c ≡ d → digits_less (c ∷ cs) (d ∷ ds) ≡ digits_less cs ds
digits_same c d cs ds e = rw (eq_true c d e) refl

digits_differ : (c d : ℕ) (cs ds : List ℕ) → (c ≡ d → ⊥) → digits_less (c ∷ cs) (d ∷ ds) ≡ nat_lt c d
digits_differ c d cs ds ne = rw (eq_false c d ne) refl

order : (a b : ℕ) → (a < b) ⊎ ((b < a) ⊎ (a ≡ b))
order a b = ⊎_elim (λ lt. inl lt) (λ ge. ⊎_elim (λ lt. inr (inl lt)) (λ le. let e : a ≡ b = omega arith in inr (inr e)) (cases_lt b a)) (cases_lt a b)

pub less_by_digits : (n : ℕ) (cs ds : List ℕ) → length cs ≡ length ds → all_ascii_digits cs ≡ true → all_ascii_digits ds ≡ true → digits_less cs ds ≡ nat_lt (number_from n cs) (number_from n ds)
less_by_digits n [] [] e cs' ds' = sym (lt_false n n (omega arith))
less_by_digits n [] (d ∷ ds) e cs' ds' = absurd (omega arith)
less_by_digits n (c ∷ cs) [] e cs' ds' = absurd (omega arith)
less_by_digits n (c ∷ cs) (d ∷ ds) e cs' ds' =
    let x = first_digit c cs cs' in
    let y = first_digit d ds ds' in
    let xs = more_digits c cs cs' in
    let ys = more_digits d ds ds' in
    let p = 10 * n + (c - 48) in
    let q = 10 * n + (d - 48) in
    ⊎_elim
    (λ lt. digits_differ c d cs ds (λ same. omega arith) ∙ lt_true c d lt ∙ sym (lt_true _ _ (less p q cs ds (omega arith) (omega arith) xs ys)))
    (λ ge. ⊎_elim
    (λ gt.
    let below = less q p ds cs (omega arith) (omega arith) ys xs in
    digits_differ c d cs ds (λ same. omega arith) ∙ lt_false c d (omega arith) ∙ sym (lt_false _ _ (omega arith)))
    (λ same. digits_same c d cs ds same ∙ less_by_digits p cs ds (omega arith) xs ys ∙ ap (λ k. nat_lt (number_from p cs) (number_from (10 * n + (k - 48)) ds)) same)
    ge)
    (order c d)

pub digits_of : (ds : List ℕ) → is_number ds ≡ true → all_ascii_digits ds ≡ true
digits_of ds is = and_left (all_ascii_digits ds) (is_short ds) is

not_zero : (d e : ℕ) (ds : List ℕ) → is_short (d ∷ e ∷ ds) ≡ true → d ≡ 48 → ⊥
not_zero d e ds is same = grind (arith, nat_tests)

-- fewer digits give a lesser number
pub fewer : (cs ds : List ℕ) → is_number cs ≡ true → is_number ds ≡ true → length cs < length ds → number_from 0 cs < number_from 0 ds
fewer cs [] c' d' lt = absurd (omega arith)
fewer [] (d ∷ []) c' d' lt = absurd (cc)
fewer (c ∷ cs) (d ∷ []) c' d' lt = absurd (omega arith)
fewer cs (d ∷ e ∷ ds) c' d' lt =
    let digits = digits_of (d ∷ e ∷ ds) d' in
    let x = first_digit d (e ∷ ds) digits in
    let ne : d ≡ 48 → ⊥ = not_zero d e ds (and_right (all_ascii_digits (d ∷ e ∷ ds)) (is_short (d ∷ e ∷ ds)) d') in
    less 0 (10 * 0 + (d - 48)) cs (e ∷ ds) (omega arith) (omega arith) (digits_of cs c') (more_digits d (e ∷ ds) digits)

-- as many digits compare one by one
pub as_many : (cs ds : List ℕ) → is_number cs ≡ true → is_number ds ≡ true → length cs ≡ length ds → digits_less cs ds ≡ nat_lt (number_from 0 cs) (number_from 0 ds)
as_many cs ds c' d' e = less_by_digits 0 cs ds e (digits_of cs c') (digits_of ds d')

-- ---- as numbers that are read

pub first_less : (cs ds : List ℕ) (x y : ℕ) → x ≡ number_from 0 cs → y ≡ number_from 0 ds → is_number cs ≡ true → is_number ds ≡ true → length cs < length ds → nat_lt (length cs) (length ds) ≡ nat_lt x y
first_less cs ds x y ex ey c' d' lt =
    let below = fewer cs ds c' d' lt in
    lt_true _ _ lt ∙ sym (lt_true x y (omega arith))

pub first_more : (cs ds : List ℕ) (x y : ℕ) → x ≡ number_from 0 cs → y ≡ number_from 0 ds → is_number cs ≡ true → is_number ds ≡ true → length ds < length cs → false ≡ nat_lt x y
first_more cs ds x y ex ey c' d' gt =
    let below = fewer ds cs d' c' gt in
    sym (lt_false x y (omega arith))

pub same_length : (cs ds : List ℕ) (x y : ℕ) → x ≡ number_from 0 cs → y ≡ number_from 0 ds → is_number cs ≡ true → is_number ds ≡ true → length cs ≡ length ds → digits_less cs ds ≡ nat_lt x y
same_length cs ds x y ex ey c' d' e = as_many cs ds c' d' e ∙ sym (ap (λ k. nat_lt k y) ex ∙ ap (λ k. nat_lt (number_from 0 cs) k) ey)

pub too_great : (ds : List ℕ) (i n d : ℕ) → i < length ds → number_from n (drop i ds) ≡ number_from 0 ds → None ≡ fits (10 * n + (get_or ds i d - 48)) → None ≡ fits (number_from 0 ds)
too_great ds i n d lt so none =
    let e : number_from n (drop i ds) ≡ number_from (10 * n + (get_or ds i d - 48)) (drop (i + 1) ds) = at_drop_more (number_from n) ds i d lt in
    let le = number_grows (10 * n + (get_or ds i d - 48)) (drop (i + 1) ds) in
    fits_not (10 * n + (get_or ds i d - 48)) (number_from 0 ds) (omega arith) none

pub all_read : (ds : List ℕ) (i n : ℕ) → length ds ≤ i → number_from n (drop i ds) ≡ number_from 0 ds → fits n ≡ Some n → Some n ≡ fits (number_from 0 ds)
all_read ds i n le so fit =
    let e : n ≡ number_from 0 ds = sym (at_drop_all (number_from n) ds i le) ∙ so in
    sym (ap fits (sym e) ∙ fit)

pub fits_again : (n m : ℕ) → Some n ≡ fits m → fits n ≡ Some n
fits_again n m is = grind (arith, nat_tests)

pub not_equal : (a b : ℕ) → (a ≡ b → ⊥) → (a == b) ≡ false
not_equal a b ne = eq_false a b ne

pub count_tested : (n : ℕ) → leb n 9223372036854775807 ≡ nat_lt n 9223372036854775808
count_tested n = grind (arith, nat_tests)
