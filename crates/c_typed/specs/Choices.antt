-- Which operation an operator of two operands means, by their types.
use Rattle.std.specs.Prelude.{ℕ, ◌&&◌, ◌||◌, Bool, Option, Some, None, if◌then◌else◌}
use Rattle.c_ast.specs.declared.tree.BinaryOp.{BinaryOp}
use Rattle.c_ast.specs.declared.tree.BinaryOp.TheVariants as b
use Rattle.c_typed.specs.declared.types.ValueType.{ValueType}
use Rattle.c_typed.specs.declared.operation.Rank.{Rank}
use Rattle.c_typed.specs.declared.operation.Arithmetic.{Arithmetic}
use Rattle.c_typed.specs.declared.operation.Arithmetic.TheVariants as a
use Rattle.c_typed.specs.declared.operation.Comparison.{Comparison}
use Rattle.c_typed.specs.declared.operation.Comparison.TheVariants as c
use Rattle.c_typed.specs.declared.operation.Operation.{Operation}
use Rattle.c_typed.specs.declared.operation.Operation.TheVariants as o
use Rattle.c_typed.specs.declared.choice.Operand.{Operand}
use Rattle.c_typed.specs.declared.choice.Choice.{Choice}
use Rattle.c_typed.specs.ValueTypes.{int, long, size_of, pointee, is_integer, is_pointer, leads, same_type, promoted_rank, common_rank, ranked}

abbrev pub both_integers : Operand → Operand → Bool
both_integers x y = is_integer x.ty && is_integer y.ty

-- two integers, converted alike
abbrev pub at_rank : Arithmetic → Rank → Choice
at_rank op rank = record { op = o.Integer op rank; left = ranked rank; right = ranked rank; result = ranked rank }

abbrev pub arithmetic : Arithmetic → Operand → Operand → Option Choice
arithmetic op x y = if both_integers x y then Some (at_rank op (common_rank x.ty y.ty)) else None

-- the result has the promoted left type, and each operand is promoted by itself
abbrev pub shift : Arithmetic → Operand → Operand → Option Choice
shift op x y =
    if both_integers x y
    then Some (record { op = o.Integer op (promoted_rank x.ty); left = ranked (promoted_rank x.ty); right = ranked (promoted_rank y.ty); result = ranked (promoted_rank x.ty) })
    else None

-- a pointer and an index keep their types
abbrev pub stepped : (ℕ → Operation) → (pointer : ValueType) → Operand → Operand → Choice
stepped op pointer x y = record { op = op (size_of (pointee pointer)); left = x.ty; right = y.ty; result = pointer }

abbrev pub sum : Operand → Operand → Option Choice
sum x y =
    if both_integers x y then arithmetic a.Add x y
    else if leads x.ty && is_integer y.ty then Some (stepped (λ n. o.Advance n) x.ty x y)
    else if is_integer x.ty && leads y.ty then Some (stepped (λ n. o.AdvanceBy n) y.ty x y)
    else None

abbrev pub difference : Operand → Operand → Option Choice
difference x y =
    if both_integers x y then arithmetic a.Sub x y
    else if leads x.ty && is_integer y.ty then Some (stepped (λ n. o.Retreat n) x.ty x y)
    else if leads x.ty && same_type x.ty y.ty then Some (record { op = o.Distance (size_of (pointee x.ty)); left = x.ty; right = y.ty; result = long })
    else None

-- a comparison of two values of one type
abbrev pub compares : Comparison → ValueType → Choice
compares op ty = record { op = o.Compare op; left = ty; right = ty; result = int }

abbrev pub compared_in : Comparison → Option ValueType → Option Choice
compared_in op None = None
compared_in op (Some ty) = Some (compares op ty)

-- what two integers, or two pointers of one type, are converted to
abbrev pub alike : Operand → Operand → Option ValueType
alike x y =
    if both_integers x y then Some (ranked (common_rank x.ty y.ty))
    else if is_pointer x.ty && same_type x.ty y.ty then Some x.ty
    else None

-- or a pointer and a null constant; `?:` takes these for its last operands
abbrev pub branches : Operand → Operand → Option ValueType
branches x y = or_else (alike x y) where
  or_else : Option ValueType → Option ValueType
  or_else (Some ty) = Some ty
  or_else None = if is_pointer x.ty && y.is_null then Some x.ty else if x.is_null && is_pointer y.ty then Some y.ty else None

abbrev pub order : Comparison → Operand → Operand → Option Choice
order op x y = compared_in op (alike x y)

abbrev pub equality : Comparison → Operand → Operand → Option Choice
equality op x y = compared_in op (branches x y)

-- `None` where the operand types are others than those that the operator takes
abbrev pub chosen : BinaryOp → Operand → Operand → Option Choice
chosen b.Add x y = sum x y
chosen b.Sub x y = difference x y
chosen b.Mul x y = arithmetic a.Mul x y
chosen b.Div x y = arithmetic a.Div x y
chosen b.Rem x y = arithmetic a.Rem x y
chosen b.ShiftLeft x y = shift a.ShiftLeft x y
chosen b.ShiftRight x y = shift a.ShiftRight x y
chosen b.BitAnd x y = arithmetic a.BitAnd x y
chosen b.BitXor x y = arithmetic a.BitXor x y
chosen b.BitOr x y = arithmetic a.BitOr x y
chosen b.Less x y = order c.Less x y
chosen b.LessEqual x y = order c.LessEqual x y
chosen b.Greater x y = order c.Greater x y
chosen b.GreaterEqual x y = order c.GreaterEqual x y
chosen b.Equal x y = equality c.Equal x y
chosen b.NotEqual x y = equality c.NotEqual x y
chosen op x y = None

-- a value of this type can be stored there: an integer for an integer, for a pointer the same type or a null constant
abbrev pub fits : (target : ValueType) → Operand → Bool
fits target x = (is_integer target && is_integer x.ty) || (leads target && (same_type target x.ty || x.is_null))
