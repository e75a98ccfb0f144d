-- Facts of each element, element by element.
use Rattle.std.proofs.Common.{ℕ, ◌<◌, zero, suc, List, [], ◌∷◌, length, arith}
use Rattle.std.specs.Prelude.{slice_index_or}
use Rattle.std.specs.List.{All}

module _ {X : Type 0} (P : X → Type 0) where
  pub all_none : (k : ℕ) (d : X) → k < length {A = X} [] → P (slice_index_or [] k d)
  all_none k d lt = absurd (omega arith)

  pub all_more : (x : X) (xs : List X) → P x → All P xs → (k : ℕ) (d : X) → k < length (x ∷ xs) → P (slice_index_or (x ∷ xs) k d)
  all_more x xs first rest zero d lt = first
  all_more x xs first rest (suc k) d lt = rest k d (omega arith)

  pub all_first : (x : X) (xs : List X) → All P (x ∷ xs) → P x
  all_first x xs all = all 0 x (omega arith)

  pub all_rest : (x : X) (xs : List X) → All P (x ∷ xs) → All P xs
  all_rest x xs all = λ k d lt. all (suc k) d (omega arith)
