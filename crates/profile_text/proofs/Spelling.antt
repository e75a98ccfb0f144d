-- Lines are read as what they were written from, and written as they were read.
use Rattle.std.proofs.Common.{◌≡◌, ℕ, ◌<◌, ◌≤◌, ◌^◌, Bool, true, false, not, List, [], ◌∷◌, ◌++◌, length, get_or, refl, sym, ap, ◌∙◌, arith, rules, Some, None, inl, inr, ⊎_elim}
use Rattle.std.specs.Prelude.{if◌then◌else◌, ◌==◌, ◌&&◌, ◌⊎◌, decimal}
use Rattle.std.specs.Str.{all_ascii_digits}
use Rattle.std.proofs.lemmas.Bool.{cases_lt}
use Rattle.std.proofs.lemmas.Bool.Decides.{nat_tests}
use Rattle.std.proofs.lemmas.Str.Parse.{IsNumeralModel, numerals_by_fold}
use Rattle.std.proofs.lemmas.Fmt.{digits_decimal, digits_value-decimal, decimal-digits_value, decimal_nonempty, decimal_digit, first_decimal}
use Rattle.profile_text.specs.Numbers.{number_from, is_short, is_number, number_of}
use Rattle.profile_text.specs.Lines.{begun, parts}
use Rattle.profile_text.specs.ProfileText.{joined, ended}
use Rattle.profile_text.proofs.Numbers.{digits_of, first_digit, more_digits}
use Rattle.profile_text.proofs.Parts.{Some_parts, parts_some}

own : IsNumeralModel (λ ds. all_ascii_digits ds ≡ true) (number_from 0)
own = numerals_by_fold _ (search rules) number_from (search rules)

no_zero : (d : ℕ) → not (d == 48) ≡ true → d ≡ 48 → ⊥
no_zero d short first = grind (arith, nat_tests)

above : (d : ℕ) → 48 < d → not (d == 48) ≡ true
above d gt = grind (arith, nat_tests)

short_length : (ds : List ℕ) → is_short ds ≡ true → get_or ds 0 0 ≡ 48 → length ds ≡ 1
short_length [] short first = absurd (cc)
short_length (d ∷ []) short first = refl
short_length (d ∷ e ∷ ds) short first = absurd (no_zero d short first)

short_some : (ds : List ℕ) → is_short ds ≡ true → 0 < length ds
short_some [] short = absurd (cc)
short_some (d ∷ ds) short = omega arith

-- ---- numbers

zero_of : (n : ℕ) → n ≤ 0 → n ≡ 0
zero_of n le = omega arith

chosen : (t : Bool) (n : ℕ) → t ≡ true → (if t then Some n else None) ≡ Some n
chosen true n h = refl
chosen false n h = absurd (cc)

pub and_both : (a b : Bool) → a ≡ true → b ≡ true → (a && b) ≡ true
and_both true b h k = k
and_both false b h k = h

pub and_first : (a b : Bool) → (a && b) ≡ true → a ≡ true
and_first true b h = refl
and_first false b h = h

pub and_second : (a b : Bool) → (a && b) ≡ true → b ≡ true
and_second true b h = h
and_second false b h = absurd (cc)

pub record Spells (a : ℕ) (x : List ℕ) : Type 0 where
  pub is : is_number x ≡ true
  pub value : number_from 0 x ≡ a

some_number : (t : Bool) (n a : ℕ) → (if t then Some n else None) ≡ Some a → (t ≡ true) × (n ≡ a)
some_number true n a h = (refl, cc)
some_number false n a h = absurd (cc)

pub spells : (x : List ℕ) (a : ℕ) → number_of x ≡ Some a → Spells a x
spells x a h =
    let s = some_number (is_number x) (number_from 0 x) a h in
    record { is = s.0; value = s.1 }

-- a number is spelled in one way
pub spelled : (x : List ℕ) (a : ℕ) → number_of x ≡ Some a → a < 2 ^ 64 → decimal a ≡ x
spelled x a h lt =
    let s = spells x a h in
    let short = and_second (all_ascii_digits x) (is_short x) s.is in
    let bound : number_from 0 x < 2 ^ 64 = omega (arith, s.value) in
    ap decimal (sym s.value) ∙ decimal-digits_value own x (digits_of x s.is) (short_some x short) (short_length x short) bound

first_not_zero : (ds : List ℕ) → 0 < length ds → all_ascii_digits ds ≡ true → (48 < get_or ds 0 0) ⊎ (length ds ≡ 1) → is_short ds ≡ true
first_not_zero [] some digits h = absurd (omega arith)
first_not_zero (d ∷ []) some digits h = refl
first_not_zero (d ∷ e ∷ ds) some digits h = ⊎_elim (λ gt. above d gt) (λ one. absurd (omega arith)) h

decimal_first : (n : ℕ) → n < 2 ^ 64 → (48 < get_or (decimal n) 0 0) ⊎ (length (decimal n) ≡ 1)
decimal_first n lt = ⊎_elim (λ pos. inl (first_decimal n pos lt)) (λ le. inr (ap (λ k. length (decimal k)) (zero_of n le) ∙ ap length (decimal_digit 0 (omega arith)))) (cases_lt 0 n)

-- what `decimal` writes is read as its number
pub number_read : (n : ℕ) → n < 2 ^ 64 → number_of (decimal n) ≡ Some n
number_read n lt =
    let digits = digits_decimal own n lt in
    let is = and_both (all_ascii_digits (decimal n)) (is_short (decimal n)) digits (first_not_zero (decimal n) (decimal_nonempty n lt) digits (decimal_first n lt)) in
    chosen (is_number (decimal n)) (number_from 0 (decimal n)) is ∙ ap Some (digits_value-decimal own n lt)

-- ---- parts and what joins them

joined_begun : (c b : ℕ) (ps : List (List ℕ)) → joined c (begun b ps) ≡ b ∷ joined c ps
joined_begun c b [] = refl
joined_begun c b (p ∷ []) = refl
joined_begun c b (p ∷ q ∷ ps) = refl

joined_at : (c b : ℕ) (ps : List (List ℕ)) → Some_parts ps → b ≡ c → joined c ([] ∷ ps) ≡ b ∷ joined c ps
joined_at c b ps some e = ap (λ x. joined c ([] ∷ x)) some.are ∙ ap (λ x. x ∷ joined c (some.first ∷ some.rest)) (sym e) ∙ ap (λ x. b ∷ joined c x) (sym some.are)

joined_one : (c b : ℕ) (t : Bool) (ps : List (List ℕ)) → Some_parts ps → ((t ≡ true) → b ≡ c) → joined c (if t then [] ∷ ps else begun b ps) ≡ b ∷ joined c ps
joined_one c b true ps some same = joined_at c b ps some (same refl)
joined_one c b false ps some same = joined_begun c b ps

eq_of : (b c : ℕ) → (b == c) ≡ true → b ≡ c
eq_of b c h = grind (arith, nat_tests)

pub joined_parts : (c : ℕ) (bs : List ℕ) → joined c (parts c bs) ≡ bs
joined_parts c [] = refl
joined_parts c (b ∷ bs) = joined_one c b (b == c) (parts c bs) (parts_some c bs) (eq_of b c) ∙ ap (λ x. b ∷ x) (joined_parts c bs)

-- lines, and the empty part behind the last
pub joined_lines : (ls : List (List ℕ)) → joined 10 (ls ++ [] ∷ []) ≡ ended ls
joined_lines [] = refl
joined_lines (l ∷ []) = refl
joined_lines (l ∷ m ∷ ls) = ap (λ x. l ++ 10 ∷ x) (joined_lines (m ∷ ls))

-- the byte is not in the list
abbrev pub Lacks : ℕ → List ℕ → Type 0
Lacks c [] = Unit {0}
Lacks c (b ∷ bs) = ((b == c) ≡ false) × Lacks c bs

pub parts_whole : (c : ℕ) (bs : List ℕ) → Lacks c bs → parts c bs ≡ bs ∷ []
parts_whole c [] lacks = refl
parts_whole c (b ∷ bs) lacks = rw lacks.0 (ap (begun b) (parts_whole c bs lacks.1))

eq_self : (c : ℕ) → (c == c) ≡ true
eq_self c = grind (arith, nat_tests)

pub parts_behind : (c : ℕ) (bs rest : List ℕ) → Lacks c bs → parts c (bs ++ c ∷ rest) ≡ bs ∷ parts c rest
parts_behind c [] rest lacks = rw (eq_self c) refl
parts_behind c (b ∷ bs) rest lacks = rw lacks.0 (ap (begun b) (parts_behind c bs rest lacks.1))

pub lacks_append : (c : ℕ) (xs bs : List ℕ) → Lacks c xs → Lacks c bs → Lacks c (xs ++ bs)
lacks_append c [] bs lacks more = more
lacks_append c (a ∷ xs) bs lacks more = (lacks.0, lacks_append c xs bs lacks.1 more)

below_digit : (d c : ℕ) → c < 48 → 48 ≤ d → (d == c) ≡ false
below_digit d c lt le = grind (arith, nat_tests)

digits_lack : (c : ℕ) (ds : List ℕ) → c < 48 → all_ascii_digits ds ≡ true → Lacks c ds
digits_lack c [] lt digits = tt
digits_lack c (d ∷ ds) lt digits =
    let x = first_digit d ds digits in
    (below_digit d c lt x.0, digits_lack c ds lt (more_digits d ds digits))

pub decimal_lacks : (c n : ℕ) → c < 48 → n < 2 ^ 64 → Lacks c (decimal n)
decimal_lacks c n low lt = digits_lack c (decimal n) low (digits_decimal own n lt)
