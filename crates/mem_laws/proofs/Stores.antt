-- A load behind a store that does not overlap reads what was there before, and an address below 2 ^ 20 was not wrapped.
use Prim.Native.Nat.{zero}
use Rattle.std.proofs.Common.{◌≡◌, ℕ, suc, ◌+◌, ◌-◌, ◌/◌, ◌%◌, ◌≤◌, Bool, true, false, ◌&&◌, ◌==◌, nat_le, List, [], ◌∷◌, ◌++◌, length, take, drop, true≢false, Some, None, refl, sym, ap, ◌∙◌, subst, if◌then◌else◌, arith, ℤ, pos, negsuc, ◌+ℤ◌, ◌-ℤ◌, ◌≤ℤ◌, w64, length-append, length-drop}
use Rattle.std.specs.Option.{unwrap_or}
use Rattle.std.specs.Int.{int_wrap}
use Rattle.std.proofs.lemmas.Int.{ints, by_lt_z, int_wrap_fits, int_wrap-sub_right}
use Rattle.std.proofs.lemmas.List.{take-append-le, drop-take, length-take-le}
use Rattle.std.proofs.Math.Seq.{drop-append-add}
use Rattle.std.proofs.lemmas.Bool.Decides.{nat_tests}
use Rattle.ib_mem.specs.Memory.{can_access, number_of, bytes_of, filled, loaded, stored}

both : (a b : Bool) → (a && b) ≡ true → (a ≡ true) × (b ≡ true)
both true b e = (refl, e)
both false b e = cc

true_le : (a b : ℕ) → nat_le a b ≡ true → a ≤ b
true_le a b h = grind (arith, nat_tests)

-- ---- lists

length-bytes : (count number : ℕ) → length (bytes_of count number) ≡ count
length-bytes zero number = refl
length-bytes (suc count) number = ap suc (length-bytes count (number / 256))

take-twice : (m : List ℕ) (n k : ℕ) → n ≤ k → take n (take k m) ≡ take n m
take-twice m zero k h = refl
take-twice [] (suc n) zero h = refl
take-twice (x ∷ m) (suc n) zero h = absurd (omega arith)
take-twice [] (suc n) (suc k) h = refl
take-twice (x ∷ m) (suc n) (suc k) h = ap (λ l. x ∷ l) (take-twice m n k (omega arith))

drop-nothing : (n : ℕ) → drop {A = ℕ} n [] ≡ []
drop-nothing zero = refl
drop-nothing (suc n) = refl

drop-twice : (m : List ℕ) (n k : ℕ) → drop k (drop n m) ≡ drop (n + k) m
drop-twice m zero k = let e : 0 + k ≡ k = omega arith in ap (λ j. drop j m) (sym e)
drop-twice [] (suc n) k = drop-nothing k ∙ sym (drop-nothing (suc n + k))
drop-twice (x ∷ m) (suc n) k = let e : suc n + k ≡ suc (n + k) = omega arith in drop-twice m n k ∙ ap (λ j. drop j (x ∷ m)) (sym e)

-- before what was written
read_before : (m bytes : List ℕ) (at b k : ℕ) → at ≤ length m → b + k ≤ at → take k (drop b (filled m at bytes)) ≡ take k (drop b m)
read_before m bytes at b k fits h =
    let front : List ℕ = take at m ++ bytes in
    let rest : List ℕ = drop (at + length bytes) m in
    let l : length (take at m) ≡ at = length-take-le at m fits in
    let whole : take (b + k) (filled m at bytes) ≡ take (b + k) m =
    take-append-le (b + k) front rest (omega (arith, length-append (take at m) bytes)) ∙ take-append-le (b + k) (take at m) bytes (omega arith) ∙ take-twice m (b + k) at h in
    sym (drop-take b k (filled m at bytes)) ∙ ap (drop b) whole ∙ drop-take b k m

-- behind what was written
read_behind : (m bytes : List ℕ) (at b k : ℕ) → at ≤ length m → at + length bytes ≤ b → take k (drop b (filled m at bytes)) ≡ take k (drop b m)
read_behind m bytes at b k fits h =
    let front : List ℕ = take at m ++ bytes in
    let rest : List ℕ = drop (at + length bytes) m in
    let l : length front ≡ at + length bytes = length-append (take at m) bytes ∙ ap (λ n. n + length bytes) (length-take-le at m fits) in
    let j = b - (at + length bytes) in
    let e : length front + j ≡ b = omega arith in
    let f : at + length bytes + j ≡ b = omega arith in
    ap (take k) (ap (λ n. drop n (filled m at bytes)) (sym e) ∙ drop-append-add front rest j ∙ drop-twice m (at + length bytes) j ∙ ap (λ n. drop n m) f)

-- ---- accesses

pub ends_within : (at width : ℕ) → can_access (pos at) width ≡ true → at + width ≤ 1048576
ends_within at width e =
    true_le (at + width) 1048576 (both (nat_le (at + width) 1048576) ((at % width) == 0) (both (nat_le 4096 at) (nat_le (at + width) 1048576 && ((at % width) == 0)) e).1).0

pub begins_within : (at width : ℕ) → can_access (pos at) width ≡ true → 4096 ≤ at
begins_within at width e = true_le 4096 at (both (nat_le 4096 at) (nat_le (at + width) 1048576 && ((at % width) == 0)) e).0

-- the memory behind a store, or the memory itself where the store faults
abbrev pub kept : List ℕ → ℤ → ℕ → ℕ → List ℕ
kept m a n v = unwrap_or (stored m a n v) m

-- a store keeps the length
pub kept_length : (m : List ℕ) (a : ℤ) (n v : ℕ) → 1048576 ≤ length m → 1048576 ≤ length (kept m a n v)
kept_length m (negsuc at) n v h = h
kept_length m (pos at) n v h = by_one (can_access (pos at) n) refl
  where
    by_one : (b : Bool) → can_access (pos at) n ≡ b → 1048576 ≤ length (unwrap_or (if b then Some (filled m at (bytes_of n v)) else None) m)
    by_one false e = h
    by_one true e =
        let w = ends_within at n e in
        let front : List ℕ = take at m ++ bytes_of n v in
        let a = length-append front (drop (at + length (bytes_of n v)) m) in
        let b = length-append (take at m) (bytes_of n v) in
        let c = length-take-le at m (omega arith) in
        let d = length-bytes n v in
        let l : length (drop (at + length (bytes_of n v)) m) ≡ length m - (at + length (bytes_of n v)) = length-drop (at + length (bytes_of n v)) m in
        omega arith

-- what is written and what is read are apart
pub data AreApart (a : ℤ) (m : ℕ) (b : ℤ) (n : ℕ) : Type 0 where
  FirstBelow : ((a +ℤ pos m) ≤ℤ b) → AreApart a m b n
  FirstAbove : ((b +ℤ pos n) ≤ℤ a) → AreApart a m b n

pub loaded_kept : (m : List ℕ) (a b : ℤ) (n k v : ℕ) → 1048576 ≤ length m → (can_access a n ≡ true → can_access b k ≡ true → AreApart a n b k) → loaded (kept m a n v) b k ≡ loaded m b k
loaded_kept m (negsuc x) b n k v h g = refl
loaded_kept m (pos x) (negsuc y) n k v h g = refl
loaded_kept m (pos x) (pos y) n k v h g = by_one (can_access (pos x) n) refl
  where
    apart : can_access (pos x) n ≡ true → AreApart (pos x) n (pos y) k → take k (drop y (filled m x (bytes_of n v))) ≡ take k (drop y m)
    apart e (FirstBelow l) =
        let w = ends_within x n e in
        let d = length-bytes n v in
        read_behind m (bytes_of n v) x y k (omega arith) (omega (arith, ints))
    apart e (FirstAbove l) =
        let w = ends_within x n e in
        read_before m (bytes_of n v) x y k (omega arith) (omega (arith, ints))

    by_two : can_access (pos x) n ≡ true → (b : Bool) → can_access (pos y) k ≡ b → (if b then Some (number_of (take k (drop y (filled m x (bytes_of n v))))) else None) ≡ (if b then Some (number_of (take k (drop y m))) else None)
    by_two e false f = refl
    by_two e true f = ap (λ l. Some (number_of l)) (apart e (g e f))

    by_one : (b : Bool) → can_access (pos x) n ≡ b → loaded (unwrap_or (if b then Some (filled m x (bytes_of n v)) else None) m) (pos y) k ≡ loaded m (pos y) k
    by_one false e = refl
    by_one true e = by_two e (can_access (pos y) k) refl

-- ---- addresses

-- a number that is hardly greater than a signed one of 64 bits
pub record IsNear (z : ℤ) : Type 0 where
  pub least : negsuc 9223372036863164415 ≤ℤ z
  pub most : z ≤ℤ pos 9223372036863164415

-- 2 ^ 64
abbrev turn : ℤ
turn = pos 18446744073709551616

turned : int_wrap w64 turn ≡ pos 0
unfolding int_wrap
turned = refl

turned_back : int_wrap w64 (negsuc 18446744073709551615) ≡ pos 0
unfolding int_wrap
turned_back = refl

wrap_down : (z : ℤ) → int_wrap w64 (z -ℤ turn) ≡ int_wrap w64 z
wrap_down z =
    let e : z -ℤ int_wrap w64 turn ≡ z = ap (λ x. z -ℤ x) turned ∙ omega (arith, ints) in
    sym (int_wrap-sub_right w64 z turn) ∙ ap (int_wrap w64) e

wrap_up : (z : ℤ) → int_wrap w64 (z +ℤ turn) ≡ int_wrap w64 z
wrap_up z =
    let f : z +ℤ turn ≡ z -ℤ negsuc 18446744073709551615 = omega (arith, ints) in
    let e : z -ℤ int_wrap w64 (negsuc 18446744073709551615) ≡ z = ap (λ x. z -ℤ x) turned_back ∙ omega (arith, ints) in
    ap (int_wrap w64) f ∙ sym (int_wrap-sub_right w64 z (negsuc 18446744073709551615)) ∙ ap (int_wrap w64) e

-- where a near number is wrapped to an address, nothing was wrapped
pub not_wrapped : (z : ℤ) (at : ℕ) → IsNear z → int_wrap w64 z ≡ pos at → at ≤ 1048576 → z ≡ pos at
not_wrapped z at near e small =
    let low = near.least in
    let high = near.most in
    by_lt_z {P = z ≡ pos at} z (negsuc 9223372036854775807)
    (λ f.
    let h = int_wrap_fits w64 (z +ℤ turn) (omega (arith, ints)) in
    let j : z +ℤ turn ≡ pos at = sym h ∙ wrap_up z ∙ e in absurd (omega (arith, ints)))
    (λ f. by_lt_z {P = z ≡ pos at} (pos 9223372036854775807) z
    (λ g.
    let h = int_wrap_fits w64 (z -ℤ turn) (omega (arith, ints)) in
    let j : z -ℤ turn ≡ pos at = sym h ∙ wrap_down z ∙ e in absurd (omega (arith, ints)))
    (λ g. sym (int_wrap_fits w64 z (omega (arith, ints))) ∙ e))

-- two addresses of accesses are as far apart as the numbers that they were made from
pub far_apart : (x y : ℤ) (n m : ℕ) (a b : ℤ) → a ≡ int_wrap w64 x → b ≡ int_wrap w64 y → IsNear x → IsNear y → AreApart x n y m → can_access a n ≡ true → can_access b m ≡ true → AreApart a n b m
far_apart x y n m (negsuc i) b e f h g d c k = absurd (true≢false (sym c))
far_apart x y n m (pos i) (negsuc j) e f h g d c k = absurd (true≢false (sym k))
far_apart x y n m (pos i) (pos j) e f h g d c k =
    let u = ends_within i n c in
    let v = ends_within j m k in
    let p : x ≡ pos i = not_wrapped x i h (sym e) (omega arith) in
    let q : y ≡ pos j = not_wrapped y j g (sym f) (omega arith) in
    subst (λ z. AreApart (pos i) n z m) q (subst (λ z. AreApart z n y m) p d)
