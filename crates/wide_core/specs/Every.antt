-- A fact about every item of a list.
use Rattle.std.specs.Prelude.{List, [], ◌∷◌}

pub data Every {A : Type 0} (P : A → Type 0) : List A → Type 0 where
  Nil : Every P []
  Cons : (x : A) (xs : List A) → P x → Every P xs → Every P (x ∷ xs)
