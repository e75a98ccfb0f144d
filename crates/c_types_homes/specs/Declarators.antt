-- What declarators and parameters declare.
use Rattle.std.specs.Prelude.{ℕ, ◌+◌, ◌==◌, nat_lt, ◌||◌, Bool, true, ℤ, pos, negsuc, List, length, Option, Some, None, if◌then◌else◌, unsigned_abs}
use Rattle.ib_meaning.specs.declared.place.Place.{Place}
use Rattle.c_ast.specs.declared.tree_unit.Length.{Length}
use Rattle.c_ast.specs.declared.tree_unit.Length.TheVariants as n
use Rattle.c_ast.specs.Trees as c
use Rattle.c_typed.specs.declared.types.ValueType.{ValueType}
use Rattle.c_typed.specs.ValueTypes.{written, pointer_to}
use Rattle.c_layout.specs.declared.shape.Shape.{Shape}
use Rattle.c_layout.specs.declared.shape.Shape.TheVariants.{Scalar, Array}

-- no length from 1 to 1048576
abbrev pub is_bad_length : ℤ → Bool
is_bad_length (pos m) = (m == 0) || nat_lt 1048576 m
is_bad_length (negsuc m) = true

-- how many elements an initialiser of an array has: those of its list, or a string's bytes with the closing zero
abbrev pub element_number : c.Initial → ℕ
element_number c.no_init = 0
element_number (c.value (c.string p bytes)) = length bytes + 1
element_number (c.value x) = 1
element_number (c.elements xs) = length xs

-- A length that breaks the rule counts as 1, so that what stands behind is judged.
abbrev pub given_length : ℤ → ℕ
given_length m = if is_bad_length m then 1 else unsigned_abs m

abbrev pub shape_of : ValueType → Length → c.Initial → Shape
shape_of ty n.Scalar init = Scalar ty
shape_of ty n.Missing init = Array ty (element_number init)
shape_of ty (n.Given m long) init = Array ty (given_length m)

abbrev pub declared_name : c.Decl → List ℕ
declared_name (c.declarator p ty name m init) = name

abbrev pub declared_place : c.Decl → Place
declared_place (c.declarator p ty name m init) = p

abbrev pub declared_shape : c.Decl → Shape
declared_shape (c.declarator p ty name m init) = shape_of (written ty) m init

abbrev pub init_of : c.Decl → c.Initial
init_of (c.declarator p ty name m init) = init

-- A parameter that is written as an array is a pointer to its elements.
abbrev pub param_type : c.Par → ValueType
param_type (c.param p ty name n.Scalar) = written ty
param_type (c.param p ty name m) = pointer_to (written ty)

abbrev pub param_name : c.Par → Option (List ℕ)
param_name (c.param p ty c.unnamed m) = None
param_name (c.param p ty (c.named name) m) = Some name

abbrev pub param_place : c.Par → Place
param_place (c.param p ty name m) = p
