-- Pairs of a list, as a loop over it finds them.
use Rattle.std.proofs.Common.{◌≡◌, ℕ, ◌+◌, ◌<◌, List, [], ◌∷◌, ◌++◌, length, get_or, take, arith, subst, sym, ap, ◌∙◌}
use Rattle.std.proofs.lemmas.List.{get_or-take, get_or_default, length-take, take_more}
use Rattle.std.proofs.lemmas.List.Quantifiers.{all_pairs_push}
use Rattle.std.specs.List.{All, AllPairs}

module _ {X : Type 0} (R : X → X → Type 0) where
  -- each earlier element stands to the one at i
  pub pairs_earlier : (xs : List X) (i : ℕ) (x : X) → i < length xs → x ≡ get_or xs i x → AllPairs R xs → All (λ y. R y x) (take i xs)
  pairs_earlier xs i x lt is all k d h =
      let len = length-take i xs in
      let below : k < i = omega arith in
      let first : get_or (take i xs) k d ≡ get_or xs k d = get_or-take i xs k d below in
      let second : get_or xs i d ≡ x = get_or_default xs i d x lt ∙ sym is in
      subst (λ y. R y x) (sym first) (subst (λ y. R (get_or xs k d) y) second (all k i d below lt))

  pub pairs_more : (xs : List X) (i : ℕ) (x : X) → i < length xs → x ≡ get_or xs i x → AllPairs R (take i xs) → All (λ y. R y x) (take i xs) → AllPairs R (take (i + 1) xs)
  pairs_more xs i x lt is pairs all =
      let step : take i xs ++ x ∷ [] ≡ take (i + 1) xs = ap (λ y. take i xs ++ y ∷ []) is ∙ sym (take_more xs i x lt) in
      subst (AllPairs R) step (all_pairs_push R (take i xs) x pairs (λ k d h. all k d h))
