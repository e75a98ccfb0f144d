-- How many bytes variables take, and where they may begin.
use Rattle.std.specs.Prelude.{ℕ, zero, suc, ◌+◌, ◌*◌, ◌/◌}
use Rattle.c_typed.specs.ValueTypes.{size_of}
use Rattle.c_layout.specs.declared.shape.Shape.{Shape}
use Rattle.c_layout.specs.declared.shape.Shape.TheVariants.{Scalar, Array}

-- the first multiple of a size from a number on
abbrev pub aligned : (size : ℕ) → ℕ → ℕ
aligned zero n = n
aligned (suc m) n = (n + m) / suc m * suc m

abbrev pub element_size : Shape → ℕ
element_size (Scalar ty) = size_of ty
element_size (Array ty n) = size_of ty

abbrev pub bytes_of : Shape → ℕ
bytes_of (Scalar ty) = size_of ty
bytes_of (Array ty n) = n * size_of ty
