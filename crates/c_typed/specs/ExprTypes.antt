-- The types of typed expressions.
use Rattle.c_ast.specs.declared.tree.Base.TheVariants.{Void, Char}
use Rattle.c_typed.specs.declared.types.ValueType.{ValueType}
use Rattle.c_typed.specs.declared.types.ValueType.TheVariants as v
use Rattle.c_typed.specs.ValueTypes.{int, pointer_to, ranked}
use Rattle.c_typed.specs.Tree as t
use Rattle.c_typed.specs.Tree.{Exp}

abbrev pub type_of : Exp → ValueType
type_of (t.constant ty v) = ty
type_of (t.text n) = pointer_to (v.Base Char)
type_of (t.address ty of) = ty
type_of (t.element ty storage n size reach i) = ty
type_of (t.slot ty n) = ty
type_of (t.load ty a) = ty
type_of (t.convert to a) = to
type_of (t.unary op rank a) = ranked rank
type_of (t.not a) = int
type_of (t.binary ty op x y) = ty
type_of (t.both x y) = int
type_of (t.either x y) = int
type_of (t.conditional ty x y z) = ty
type_of (t.set_slot ty n x) = ty
type_of (t.store ty a x) = ty
type_of (t.update_slot ty n within op x) = ty
type_of (t.update ty a within op x) = ty
type_of (t.step_slot ty n within op) = ty
type_of (t.step ty a within op) = ty
type_of (t.call ty g xs) = ty
type_of t.get_byte = int
type_of (t.put_byte x) = int
type_of (t.put_number x) = v.Base Void
type_of (t.comma xs x) = type_of x
