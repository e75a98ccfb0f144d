-- Lists of types.
use Rattle.std.proofs.Common.{◌≡◌, refl, ap, ℕ, suc, List, [], ◌∷◌, length, Bool, true, false, ◌&&◌, ◌≢◌}
use Rattle.c_typed.specs.declared.types.ValueType.{ValueType}
use Rattle.c_typed.specs.ValueTypes.{same_type}
use Rattle.c_types_functions.specs.Functions.{same_types}

-- The same types are as many.
pub unlike_lengths : (xs ys : List ValueType) → length xs ≢ length ys → false ≡ same_types xs ys
unlike_lengths [] [] ne = absurd (ne refl)
unlike_lengths [] (y ∷ ys) ne = refl
unlike_lengths (x ∷ xs) [] ne = refl
unlike_lengths (x ∷ xs) (y ∷ ys) ne = by_test (same_type x y) (unlike_lengths xs ys (λ e. ne (ap suc e))) where
  by_test : (b : Bool) → false ≡ same_types xs ys → false ≡ (b && same_types xs ys)
  by_test true e = e
  by_test false e = refl
