-- A word of a set is changed: what becomes of the set.
use Rattle.std.proofs.Common.{◌≡◌, ◌≢◌, ◌↔◌, ◌⊎◌, ⊎_elim, inl, inr, ℕ, ◌+◌, ◌-◌, ◌*◌, ◌/◌, ◌%◌, ◌<◌, ◌≤◌, List, length, get_or, refl, sym, ap, ap₂, subst, ◌∙◌, arith, bit_and, bit_or, max, IsTrue, nat_eq, Bool, true, false}
use Rattle.std.specs.Prelude.{◌^◌}
use Rattle.std.specs.Int.{bit_at, w64, bit_not}
use Rattle.std.specs.List.{sum_by}
use Rattle.std.proofs.Math.ListN.{set, length-set, replicate, length-replicate}
use Rattle.std.proofs.lemmas.Bool.{cases_eq, cases_lt, eq-eqb, eqb-true}
use Rattle.std.proofs.lemmas.Grind.{get_or-set_at, get_or_default_zero}
use Rattle.std.proofs.lemmas.List.{get_or-set_other, get_or_past, get_or-replicate}
use Rattle.std.proofs.lemmas.Nat.{le_or_l}
use Rattle.std.proofs.lemmas.List.Sums.{sum_by-set}
use Rattle.std.proofs.lemmas.Nat.Bits.{bit_at-lt, bit_at-zero, bit_at_or, shr_and_one, bit_at_set_same, bit_at_set_other, bit_at_clear_same, bit_at_clear_other}
use Rattle.ib_bits.specs.Bits.{Has, IsEmpty, room}

-- the bit that stands for a number
abbrev pub bit_of : List ℕ → ℕ → ℕ
bit_of words k = bit_at (get_or words (k / 64) 0) (k % 64)

-- the bit of n in its word
abbrev pub mask : ℕ → ℕ
mask n = 1 * 2 ^ (n % 64) % 18446744073709551616

in_word : (n : ℕ) → n % 64 < 64
in_word n = omega arith

same_number : (k n : ℕ) → k / 64 ≡ n / 64 → k % 64 ≡ n % 64 → k ≡ n
same_number k n p q = omega arith

-- the word of n is replaced
word_at : (words : List ℕ) (n k w : ℕ) → n / 64 < length words → k / 64 ≡ n / 64 → bit_of (set words (n / 64) w) k ≡ bit_at w (k % 64)
word_at words n k w within same = ap (λ x. bit_at x (k % 64)) (get_or-set_at words (n / 64) (k / 64) w 0 same within)

word_elsewhere : (words : List ℕ) (n k w : ℕ) → k / 64 ≢ n / 64 → bit_of (set words (n / 64) w) k ≡ bit_of words k
word_elsewhere words n k w other = ap (λ x. bit_at x (k % 64)) (get_or-set_other words (n / 64) (k / 64) w 0 other)

-- the word of k, read at the word of n
word_of : (words : List ℕ) (n k w : ℕ) → w ≡ get_or words (n / 64) 0 → k / 64 ≡ n / 64 → bit_at w (k % 64) ≡ bit_of words k
word_of words n k w is same = ap (λ x. bit_at x (k % 64)) (is ∙ ap (λ i. get_or words i 0) (sym same))

pub has_past : (words : List ℕ) (k : ℕ) → length words ≤ k / 64 → Has words k → ⊥
unfolding Has
has_past words k past h =
    let e : bit_of words k ≡ 0 = ap (λ x. bit_at x (k % 64)) (get_or_past words (k / 64) 0 past) ∙ bit_at-zero (k % 64) in
    let z : 0 ≡ 1 = sym e ∙ h in omega (arith, z)

pub empty_new : (size : ℕ) → IsEmpty (replicate size 0)
unfolding Has
empty_new size n h =
    let word : get_or (replicate size 0) (n / 64) 0 ≡ 0 =
    ⊎_elim
    (λ lt. get_or-replicate size (n / 64) 0 0 lt)
    (λ past. get_or_past (replicate size 0) (n / 64) 0 (omega (arith, past, length-replicate {A = ℕ} size 0)))
    (cases_lt (n / 64) size) in
    let e : bit_of (replicate size 0) n ≡ 0 = ap (λ x. bit_at x (n % 64)) word ∙ bit_at-zero (n % 64) in
    let z : 0 ≡ 1 = sym e ∙ h in omega (arith, z)

-- a word that is read
pub read : (words now : List ℕ) (i w : ℕ) → words ≡ now → i < length words → w ≡ get_or words i w → w ≡ get_or now i 0
read words now i w same within is = is ∙ get_or_default_zero words i w within ∙ ap (λ ws. get_or ws i 0) same

pub has_tested : (words : List ℕ) (k w : ℕ) → w ≡ get_or words (k / 64) 0 → IsTrue (nat_eq (bit_and (w / 2 ^ (k % 64)) 1) 1) ↔ Has words k
unfolding Has
has_tested words k w is =
    let e : bit_and (w / 2 ^ (k % 64)) 1 ≡ bit_of words k = shr_and_one w (k % 64) ∙ ap (λ x. bit_at x (k % 64)) is in
    (λ t. sym e ∙ eqb-true _ _ t, λ h. eq-eqb _ _ (e ∙ h))

-- ---- a number is taken in

inserted_same : (words : List ℕ) (n w k : ℕ) → n / 64 < length words → k ≡ n → bit_of (set words (n / 64) (bit_or w (mask n))) k ≡ 1
inserted_same words n w k within e =
    word_at words n k _ within (ap (λ x. x / 64) e) ∙ ap (λ x. bit_at (bit_or w (mask n)) (x % 64)) e ∙ bit_at_set_same w64 w (n % 64) (in_word n)

inserted_other : (words : List ℕ) (n w k : ℕ) → n / 64 < length words → w ≡ get_or words (n / 64) 0 → k ≢ n → bit_of (set words (n / 64) (bit_or w (mask n))) k ≡ bit_of words k
inserted_other words n w k within is ne =
    ⊎_elim
    (λ same. word_at words n k _ within same ∙ bit_at_set_other w64 w (n % 64) (in_word n) (k % 64) (λ e. ne (same_number k n same e)) ∙ word_of words n k w is same)
    (λ other. word_elsewhere words n k _ other)
    (cases_eq (k / 64) (n / 64))

pub has_inserted : (words : List ℕ) (n w : ℕ) → n / 64 < length words → w ≡ get_or words (n / 64) 0 → (k : ℕ) → Has (set words (n / 64) (bit_or w (mask n))) k ↔ ((k ≡ n) ⊎ Has words k)
unfolding Has
has_inserted words n w within is k =
    ⊎_elim
    (λ e. (λ h. inl e, λ o. inserted_same words n w k within e))
    (λ ne. (λ h. inr (sym (inserted_other words n w k within is ne) ∙ h), λ o. ⊎_elim (λ e. absurd (ne e)) (λ h. inserted_other words n w k within is ne ∙ h) o))
    (cases_eq k n)

-- ---- a number is left out

removed_same : (words : List ℕ) (n w k : ℕ) → n / 64 < length words → k ≡ n → bit_of (set words (n / 64) (bit_and w (bit_not w64 (mask n)))) k ≡ 0
removed_same words n w k within e =
    word_at words n k _ within (ap (λ x. x / 64) e) ∙ ap (λ x. bit_at (bit_and w (bit_not w64 (mask n))) (x % 64)) e ∙ bit_at_clear_same w64 w (n % 64) (in_word n)

removed_other : (words : List ℕ) (n w k : ℕ) → n / 64 < length words → w ≡ get_or words (n / 64) 0 → k ≢ n → bit_of (set words (n / 64) (bit_and w (bit_not w64 (mask n)))) k ≡ bit_of words k
removed_other words n w k within is ne =
    ⊎_elim
    (λ same. word_at words n k _ within same ∙ bit_at_clear_other w64 w (n % 64) (in_word n) (k % 64) (in_word k) (λ e. ne (same_number k n same e)) ∙ word_of words n k w is same)
    (λ other. word_elsewhere words n k _ other)
    (cases_eq (k / 64) (n / 64))

pub has_removed : (words : List ℕ) (n w : ℕ) → n / 64 < length words → w ≡ get_or words (n / 64) 0 → (k : ℕ) → Has (set words (n / 64) (bit_and w (bit_not w64 (mask n)))) k ↔ ((k ≢ n) × Has words k)
unfolding Has
has_removed words n w within is k =
    ⊎_elim
    (λ e. (λ h. absurd (let z : 0 ≡ 1 = sym (removed_same words n w k within e) ∙ h in omega (arith, z)), λ p. absurd (p.0 e)))
    (λ ne. (λ h. (ne, sym (removed_other words n w k within is ne) ∙ h), λ p. removed_other words n w k within is ne ∙ p.1))
    (cases_eq k n)

pub has_not_past : (words : List ℕ) (n : ℕ) → length words ≤ n / 64 → (k : ℕ) → Has words k ↔ ((k ≢ n) × Has words k)
has_not_past words n past k = (λ h. (λ e. has_past words n past (subst (λ x. Has words x) e h), h), λ p. p.1)

-- ---- two sets are joined

joined_everywhere : (old other new : List ℕ) → length other ≡ length old → length new ≡ length old → ((i : ℕ) → i < length old → get_or new i 0 ≡ bit_or (get_or old i 0) (get_or other i 0)) → (i : ℕ) → get_or new i 0 ≡ bit_or (get_or old i 0) (get_or other i 0)
joined_everywhere old other new p q within i =
    ⊎_elim
    (λ lt. within i lt)
    (λ past. get_or_past new i 0 (omega arith) ∙ sym (ap₂ bit_or (get_or_past old i 0 past) (get_or_past other i 0 (omega arith))))
    (cases_lt i (length old))

greater : (a b c : ℕ) → a < 2 → b < 2 → c ≡ max a b → (c ≡ 1) ↔ ((a ≡ 1) ⊎ (b ≡ 1))
greater a b c p q is =
    (λ h. ⊎_elim (λ e. inl e) (λ ne. inr (omega arith)) (cases_eq a 1), λ o. ⊎_elim (λ e. omega arith) (λ e. omega arith) o)

pub has_joined : (old other new : List ℕ) → length other ≡ length old → length new ≡ length old → ((i : ℕ) → i < length old → get_or new i 0 ≡ bit_or (get_or old i 0) (get_or other i 0)) → (k : ℕ) → Has new k ↔ (Has old k ⊎ Has other k)
unfolding Has
has_joined old other new p q within k =
    greater (bit_of old k) (bit_of other k) (bit_of new k) (bit_at-lt _ _) (bit_at-lt _ _)
    (ap (λ x. bit_at x (k % 64)) (joined_everywhere old other new p q within (k / 64)) ∙ bit_at_or (get_or old (k / 64) 0) (get_or other (k / 64) 0) (k % 64))

-- a word grows
pub room_less : (words : List ℕ) (i w : ℕ) → i < length words → get_or words i 0 < w → w < 18446744073709551616 → room (set words i w) < room words
unfolding room
room_less words i w within more fits = omega (arith, sum_by-set (λ x. 18446744073709551615 - x) words i w 0 within)

-- so far, the words below i are joined
pub record Joins (old other now : List ℕ) (grown : Bool) (i : ℕ) : Type 0 where
  pub done : (k : ℕ) → k < i → get_or now k 0 ≡ bit_or (get_or old k 0) (get_or other k 0)
  pub rest : (k : ℕ) → i ≤ k → get_or now k 0 ≡ get_or old k 0
  pub same : grown ≡ false → now ≡ old
  pub less : grown ≡ true → room now < room old
  pub size : length now ≡ length old

room_most : (grown : Bool) (now old : List ℕ) → (grown ≡ false → now ≡ old) → (grown ≡ true → room now < room old) → room now ≤ room old
room_most true now old same less = omega (arith, less refl)
room_most false now old same less = omega (arith, ap room (same refl))

pub joins_none : (old other : List ℕ) → Joins old other old false 0
joins_none old other = record { done = λ k lt. absurd (omega arith); rest = λ k le. refl; same = λ e. refl; less = λ e. absurd (cc); size = refl }

pub joins_grow : (old other now : List ℕ) (grown : Bool) (i a b : ℕ) → Joins old other now grown i → i < length now → a ≡ get_or now i 0 → b ≡ get_or other i 0 → bit_or a b ≢ a → bit_or a b < 18446744073709551616 → Joins old other (set now i (bit_or a b)) true (i + 1)
joins_grow old other now grown i a b j within p q new fits =
    record {
      done = λ k lt.
          ⊎_elim
          (λ e. get_or-set_at now i k (bit_or a b) 0 e within ∙ ap₂ bit_or (p ∙ j.rest i (omega arith) ∙ ap (λ x. get_or old x 0) (sym e)) (q ∙ ap (λ x. get_or other x 0) (sym e)))
          (λ ne. get_or-set_other now i k (bit_or a b) 0 ne ∙ j.done k (omega arith))
          (cases_eq k i);
      rest = λ k le. get_or-set_other now i k (bit_or a b) 0 (omega arith) ∙ j.rest k (omega arith);
      same = λ e. absurd (cc);
      less = λ e.
          let more : get_or now i 0 < bit_or a b = let up = le_or_l a b in omega (arith, up, p, new) in
          let here = room_less now i (bit_or a b) within more fits in
          let before = room_most grown now old j.same j.less in omega (arith, here, before);
      size = length-set now i (bit_or a b) ∙ j.size;
    }

pub joins_keep : (old other now : List ℕ) (grown : Bool) (i a b : ℕ) → Joins old other now grown i → a ≡ get_or now i 0 → b ≡ get_or other i 0 → bit_or a b ≡ a → Joins old other now grown (i + 1)
joins_keep old other now grown i a b j p q old_is =
    record {
      done = λ k lt.
          ⊎_elim
          (λ e. ap (λ x. get_or now x 0) e ∙ sym p ∙ sym old_is ∙ ap₂ bit_or (p ∙ j.rest i (omega arith) ∙ ap (λ x. get_or old x 0) (sym e)) (q ∙ ap (λ x. get_or other x 0) (sym e)))
          (λ ne. j.done k (omega arith))
          (cases_eq k i);
      rest = λ k le. j.rest k (omega arith);
      same = j.same;
      less = j.less;
      size = j.size;
    }
