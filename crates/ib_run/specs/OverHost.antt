-- What happens over a host that tells its input and its output, one of them, or none.
use Rattle.std.specs.Prelude.{◌≡◌, ⊤, ℕ, List, [], ◌∷◌, ◌++◌, Option, Some, None, IfSome}
use Rattle.std.specs.Io.KnownBytes.{append_known}
use Rattle.ib_base.specs.World.{World}

-- where the input is told, it is this
abbrev pub HasInput : World → List ℕ → Type 0
HasInput w input = IfSome w.input (λ known. known ≡ input)

-- the same with more output, where it is told, and with what is told of the input
abbrev pub told : World → Option (List ℕ) → List ℕ → World
told w input out = record w { input = input; output = append_known w.output out }

-- what is left of an input is an end of it, where it is told: nothing was taken from behind
abbrev pub IsEndOf : (whole left : Option (List ℕ)) → Type 0
IsEndOf None left = ⊤
IsEndOf (Some whole) None = ⊥
IsEndOf (Some whole) (Some left) = (taken : List ℕ) × (whole ≡ taken ++ left)

-- the output became longer, and the input shorter, so that P holds of the input before, of what is left and of what was
-- printed. Where a host does not tell the input: whatever may be left, there is one from which it was left.
pub record OverHost (P : (input left out : List ℕ) → Type 0) (before after : World) : Type 0 where
  pub out : List ℕ
  pub world : after ≡ told before after.input out
  pub ends : IsEndOf before.input after.input
  pub from : (left : List ℕ) → HasInput after left → (input : List ℕ) × HasInput before input × P input left out

-- a byte was taken from the input, or its end was seen
abbrev pub Takes : Option ℕ → (input left : List ℕ) → Type 0
Takes None input left = (input ≡ []) × (left ≡ [])
Takes (Some byte) input left = input ≡ byte ∷ left
