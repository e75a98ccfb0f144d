-- A sort of a list that rises gives that list again, whatever sorts came between.
use Rattle.std.proofs.Common.{◌≡◌, ℕ, zero, suc, ◌+◌, ◌<◌, ◌≢◌, ◌⊎◌, List, [], ◌∷◌, length, get_or, arith, refl, sym, ap, ap₂, subst, ◌∙◌, inl, inr, true, false, true≢false, Ordering, Less, Equal, Greater, is_lt, is_eq}
use Rattle.std.proofs.lemmas.Cmp.{tied_itself, eq_by_cmp_equiv}
use Rattle.std.proofs.lemmas.List.Elements.{All-contains, All-from_recursion}
use Rattle.std.proofs.lemmas.List.Sorted.{IsPermutation-sym, Contains-permutation}
use Rattle.std.proofs.lemmas.List.Elements.{Contains-get_or}
use Rattle.std.proofs.lemmas.Map.Keys.{sorted_from_all_adjacent, sorted_head, sorted_tail, IsDistinct-from_sorted, IsDistinct-IsPermutation, apart_from_distinct}
use Rattle.std.specs.Cmp.{IsTotalOrder}
use Rattle.std.specs.List.{All, Contains, IsDistinct}
use Rattle.std.specs.List.Sorted.{IsPermutation, IsSorted, IsStrictlySortedBy}
use Rattle.std.specs.Ordering.{eq_by_cmp, ordering_reverse}

module _ {X : Type 0} (R : X → X → Ordering) (o : IsTotalOrder R) where
  both_below : (x y : X) → R x y ≡ Less → R y x ≡ Less → ⊥
  both_below x y a b = true≢false (ap is_lt (sym a ∙ o.antisymm x y ∙ ap ordering_reverse b))

  not_below_itself : (x : X) → R x x ≡ Less → ⊥
  not_below_itself x a = both_below x x a a

  -- what a list holds that rises is its first element, or stands above that
  first_or_above : (x y : X) (ys : List X) → IsStrictlySortedBy R (y ∷ ys) → Contains (y ∷ ys) x → (y ≡ x) ⊎ (R y x ≡ Less)
  first_or_above x y ys up (zero, lt, is) = inl is
  first_or_above x y ys up (suc k, lt, is) =
      inr (All-contains (λ z. R y z ≡ Less) ys x (All-from_recursion (λ z. R y z ≡ Less) ys (sorted_head R y ys up)) (k, omega arith, is))

  same_first : (x y : X) → (y ≡ x) ⊎ (R y x ≡ Less) → (x ≡ y) ⊎ (R x y ≡ Less) → y ≡ x
  same_first x y (inl e) other = e
  same_first x y (inr a) (inl e) = sym e
  same_first x y (inr a) (inr b) = absurd (both_below y x a b)

  behind_first : (x z : X) (ys : List X) → R x z ≡ Less → Contains (x ∷ ys) z → Contains ys z
  behind_first x z ys a (zero, lt, is) = absurd (not_below_itself z (subst (λ w. R w z ≡ Less) is a))
  behind_first x z ys a (suc k, lt, is) = (k, omega arith, is)

  all_behind : (x : X) (xs ys : List X) → IsStrictlySortedBy R (x ∷ xs) → All (Contains (x ∷ ys)) (x ∷ xs) → All (Contains ys) xs
  all_behind x xs ys up all k d lt =
      behind_first x (get_or xs k d) ys (All-from_recursion (λ z. R x z ≡ Less) xs (sorted_head R x xs up) k d lt) (all (suc k) d (omega arith))

  same_if_same_first : (x y : X) (xs ys : List X) → y ≡ x → ((All (Contains ys) xs) → (All (Contains xs) ys) → xs ≡ ys) → IsStrictlySortedBy R (x ∷ xs) → IsStrictlySortedBy R (y ∷ ys) → All (Contains (y ∷ ys)) (x ∷ xs) → All (Contains (x ∷ xs)) (y ∷ ys) → x ∷ xs ≡ y ∷ ys
  same_if_same_first x y xs ys e rest upx upy inx iny =
      let upy' : IsStrictlySortedBy R (x ∷ ys) = subst (λ w. IsStrictlySortedBy R (w ∷ ys)) e upy in
      let inx' : All (Contains (x ∷ ys)) (x ∷ xs) = subst (λ w. All (Contains (w ∷ ys)) (x ∷ xs)) e inx in
      let iny' : All (Contains (x ∷ xs)) (x ∷ ys) = subst (λ w. All (Contains (x ∷ xs)) (w ∷ ys)) e iny in
      ap₂ (λ a b. a ∷ b) (sym e) (rest (all_behind x xs ys upx inx') (all_behind x ys xs upy' iny'))

  -- lists that rise and hold the same are the same
  pub same_members : (xs ys : List X) → IsStrictlySortedBy R xs → IsStrictlySortedBy R ys → All (Contains ys) xs → All (Contains xs) ys → xs ≡ ys
  same_members [] [] upx upy inx iny = refl
  same_members [] (y ∷ ys) upx upy inx iny = let none = iny 0 y (omega arith) in absurd (omega (arith, none.1))
  same_members (x ∷ xs) [] upx upy inx iny = let none = inx 0 x (omega arith) in absurd (omega (arith, none.1))
  same_members (x ∷ xs) (y ∷ ys) upx upy inx iny =
      let first : y ≡ x = same_first x y (first_or_above x y ys upy (inx 0 x (omega arith))) (first_or_above y x xs upx (iny 0 y (omega arith))) in
      same_if_same_first x y xs ys first (same_members xs ys (sorted_tail R x xs upx) (sorted_tail R y ys upy)) upx upy inx iny

  -- sorted neighbours that do not tie rise
  rise : (a b : Ordering) → a ≡ ordering_reverse b → is_lt b ≡ false → is_eq a ≡ false → a ≡ Less
  rise Less b e lt ne = refl
  rise Equal b e lt ne = absurd (true≢false ne)
  rise Greater Less e lt ne = absurd (true≢false lt)
  rise Greater Equal e lt ne = absurd (true≢false (sym (ap is_eq e)))
  rise Greater Greater e lt ne = absurd (true≢false (sym (ap is_lt e)))

  rises_at : (x y : X) → is_lt (R y x) ≡ false → eq_by_cmp R x y ≡ false → R x y ≡ Less
  rises_at x y lt ne = rise (R x y) (R y x) (o.antisymm x y) lt ne

  pub nothing_rises : IsStrictlySortedBy R []
  unfolding IsStrictlySortedBy
  nothing_rises = tt

  pub strictly_sorted : (xs : List X) → IsSorted R xs → IsDistinct (eq_by_cmp R) xs → IsStrictlySortedBy R xs
  strictly_sorted [] up apart = nothing_rises
  strictly_sorted (x ∷ xs) up apart =
      sorted_from_all_adjacent o (x ∷ xs) x (λ k lt.
      rises_at (get_or (x ∷ xs) k x) (get_or (x ∷ xs) (k + 1) x) (up k x (omega arith) lt)
      (apart_from_distinct (eq_by_cmp R) (x ∷ xs) k (k + 1) x apart (omega arith) lt))

  pub apart_permuted : (xs ys : List X) → IsPermutation xs ys → IsDistinct (eq_by_cmp R) xs → IsDistinct (eq_by_cmp R) ys
  apart_permuted xs ys moved apart = IsDistinct-IsPermutation (eq_by_cmp R) (eq_by_cmp_equiv o).symm xs ys moved apart

  pub restored : (xs ys : List X) → IsStrictlySortedBy R xs → IsPermutation xs ys → IsSorted R ys → xs ≡ ys
  restored xs ys up moved sorted =
      same_members xs ys up (strictly_sorted ys sorted (apart_permuted xs ys moved (IsDistinct-from_sorted R xs up)))
      (λ k d lt. Contains-permutation xs ys (get_or xs k d) moved (Contains-get_or xs k d lt))
      (λ k d lt. Contains-permutation ys xs (get_or ys k d) (IsPermutation-sym xs ys moved) (Contains-get_or ys k d lt))
