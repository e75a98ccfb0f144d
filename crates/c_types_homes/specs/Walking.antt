-- What a walk through a function has seen.
use Rattle.std.specs.Prelude.{◌≡◌, ℕ, suc, ◌+◌, List, ◌++◌, length}
use Rattle.c_layout.specs.declared.shape.Shape.{Shape}
use Rattle.c_types_homes.specs.Addressed.{Names}

-- the names that are known, the number of the next variable, the variables so far, and those whose address was taken
pub record Seen : Type 0 where
  pub names : Names
  pub next : ℕ
  pub shapes : List Shape
  pub taken : List ℕ

-- a part with these variables, which takes the address of those, after which these names are known
pub record Walks (old new : Seen) (names : Names) (shapes : List Shape) (taken : List ℕ) : Type 0 where
  pub known : new.names ≡ names
  pub next : new.next ≡ old.next + length shapes
  pub declares : new.shapes ≡ old.shapes ++ shapes
  pub takes : new.taken ≡ old.taken ++ taken
