-- What operators give on numbers, and what types they take.
use Rattle.std.specs.Prelude.{◌≡◌, ℕ, ℤ, pos, negsuc, Bool, true, false, List, [], ◌∷◌, Option, Some, None, Result, Ok, Err}
use Rattle.std.proofs.Common.{refl}
use Rattle.std.specs.Int.{int_wrap}
use Rattle.std.specs.Option.{option_map}
use Rattle.ib_base.specs.declared.integers.Width.TheVariants.{W1, W4, W8}
use Rattle.ib_meaning.specs.declared.fault.FaultKind.{FaultKind}
use Rattle.ib_meaning.specs.declared.fault.FaultKind.TheVariants.{DivZero, DivOverflow, Bounds}
use Rattle.c_ast.specs.declared.tree.Base.TheVariants.{Void, Char, Int}
use Rattle.c_ast.specs.declared.tree.BinaryOp.{BinaryOp}
use Rattle.c_ast.specs.declared.tree.BinaryOp.TheVariants as b
use Rattle.c_typed.specs.declared.types.ValueType.{ValueType}
use Rattle.c_typed.specs.declared.types.ValueType.TheVariants.{Base, Pointer, Null}
use Rattle.c_typed.specs.declared.choice.Operand.{Operand}
use Rattle.c_typed.specs.declared.expr.Reach.{Reach}
use Rattle.c_typed.specs.declared.expr.Reach.TheVariants.{Inside, ToEnd}
use Rattle.c_typed.specs.declared.operation.Rank.{Rank}
use Rattle.c_typed.specs.declared.operation.Rank.TheVariants as r
use Rattle.c_typed.specs.declared.operation.Arithmetic.{Arithmetic}
use Rattle.c_typed.specs.declared.operation.Arithmetic.TheVariants as a
use Rattle.c_typed.specs.declared.operation.Comparison.{Comparison}
use Rattle.c_typed.specs.declared.operation.Comparison.TheVariants as c
use Rattle.c_typed.specs.declared.operation.Operation.TheVariants as o
use Rattle.c_typed.specs.declared.operation.Sign.TheVariants as s
use Rattle.c_typed.specs.ValueTypes.{int, long, size_of}
use Rattle.c_typed.specs.Choices.{chosen, branches, fits}
use Rattle.c_typed.specs.Values.{converted, width_of, is_true, operated, signed, element}

-- ---- what types operators take and give

abbrev char : ValueType
char = Base Char

abbrev ints : ValueType
ints = Pointer Int 1

abbrev chars : ValueType
chars = Pointer Char 1

abbrev of : ValueType → Operand
of ty = record { ty = ty; is_null = false }

abbrev null_int : Operand
null_int = record { ty = int; is_null = true }

abbrev given : BinaryOp → ValueType → ValueType → Option ValueType
given op x y = option_map (λ choice. choice.result) (chosen op (of x) (of y))

results : (given b.Add char char ∷ given b.Add char long ∷ given b.ShiftLeft int long ∷ given b.Add ints char ∷ given b.Add long chars ∷ given b.Sub ints ints ∷ given b.Less chars chars ∷ []) ≡ (Some int ∷ Some long ∷ Some int ∷ Some ints ∷ Some chars ∷ Some long ∷ Some int ∷ [])
results = refl

refused : (given b.Add ints ints ∷ given b.Sub ints chars ∷ given b.Sub int ints ∷ given b.Less ints chars ∷ given b.Mul ints int ∷ given b.Add Null int ∷ []) ≡ (None ∷ None ∷ None ∷ None ∷ None ∷ None ∷ [])
refused = refl

-- a null constant goes with a pointer
with_null : (branches (of ints) null_int ∷ branches null_int (of chars) ∷ branches (of ints) (of int) ∷ []) ≡ (Some ints ∷ Some chars ∷ None ∷ [])
with_null = refl

stored : (fits ints null_int ∷ fits long null_int ∷ fits char (of long) ∷ fits ints (of int) ∷ fits int (of ints) ∷ fits ints (of chars) ∷ []) ≡ (true ∷ true ∷ true ∷ false ∷ false ∷ false ∷ [])
stored = refl

-- `void` is as wide as it is large
widths : (width_of (Base Void) ∷ width_of char ∷ width_of int ∷ width_of long ∷ width_of ints ∷ width_of Null ∷ []) ≡ (W1 ∷ W1 ∷ W4 ∷ W8 ∷ W8 ∷ W8 ∷ [])
widths = refl

sizes : (size_of (Base Void) ∷ size_of char ∷ size_of int ∷ size_of long ∷ size_of ints ∷ size_of Null ∷ []) ≡ (1 ∷ 1 ∷ 4 ∷ 8 ∷ 8 ∷ 8 ∷ [])
sizes = refl

-- ---- integers

abbrev least_int : ℤ
least_int = negsuc 2147483647

abbrev least_long : ℤ
least_long = negsuc 9223372036854775807

abbrev integer : Arithmetic → Rank → ℤ → ℤ → Result ℤ FaultKind
integer op rank x y = operated (o.Integer op rank) x y

-- of numbers that they are divided by
abbrev divided : Arithmetic → List (Result ℤ FaultKind)
divided op =
    integer op r.Int (pos 7) (pos 0) ∷ integer op r.Long (pos 7) (pos 0) ∷ integer op r.Int (pos 7) (pos 4294967296)
    ∷ integer op r.Int least_int (negsuc 0) ∷ integer op r.Int (pos 2147483648) (negsuc 0) ∷ integer op r.Long least_int (negsuc 0)
    ∷ integer op r.Long least_long (negsuc 0) ∷ integer op r.Int (negsuc 6) (pos 2) ∷ integer op r.Long (pos 7) (negsuc 1) ∷ []

quotients : divided a.Div ≡ (Err DivZero ∷ Err DivZero ∷ Err DivZero ∷ Err DivOverflow ∷ Err DivOverflow ∷ Ok (pos 2147483648) ∷ Err DivOverflow ∷ Ok (negsuc 2) ∷ Ok (negsuc 2) ∷ [])
unfolding int_wrap
quotients = refl

remainders : divided a.Rem ≡ (Err DivZero ∷ Err DivZero ∷ Err DivZero ∷ Err DivOverflow ∷ Err DivOverflow ∷ Ok (pos 0) ∷ Err DivOverflow ∷ Ok (negsuc 0) ∷ Ok (pos 1) ∷ [])
unfolding int_wrap
remainders = refl

wraps : (integer a.Add r.Int (pos 2147483647) (pos 1) ∷ integer a.Add r.Long (pos 2147483647) (pos 1) ∷ integer a.Sub r.Long least_long (pos 1) ∷ integer a.Mul r.Int (pos 65536) (pos 65536) ∷ []) ≡ (Ok least_int ∷ Ok (pos 2147483648) ∷ Ok (pos 9223372036854775807) ∷ Ok (pos 0) ∷ [])
unfolding int_wrap
wraps = refl

bits : (integer a.BitAnd r.Int (pos 12) (negsuc 5) ∷ integer a.BitXor r.Int (pos 12) (pos 10) ∷ integer a.BitOr r.Long (pos 12) (pos 10) ∷ []) ≡ (Ok (pos 8) ∷ Ok (pos 6) ∷ Ok (pos 14) ∷ [])
unfolding int_wrap
bits = refl

signs : (signed s.Minus W4 least_int ∷ signed s.Minus W8 least_int ∷ signed s.Minus W8 least_long ∷ signed s.BitNot W4 (pos 5) ∷ signed s.BitNot W8 least_long ∷ []) ≡ (least_int ∷ pos 2147483648 ∷ least_long ∷ negsuc 5 ∷ pos 9223372036854775807 ∷ [])
unfolding int_wrap
signs = refl

-- 1 and -8, shifted by so much
abbrev shifted_by : Rank → ℤ → Result ℤ FaultKind × Result ℤ FaultKind
shifted_by rank n = (integer a.ShiftLeft rank (pos 1) n, integer a.ShiftRight rank (negsuc 7) n)

ints_shifted : (shifted_by r.Int (pos 31) ∷ shifted_by r.Int (pos 32) ∷ shifted_by r.Int (pos 33) ∷ shifted_by r.Int (pos 63) ∷ shifted_by r.Int (pos 64) ∷ shifted_by r.Int (negsuc 0) ∷ [])
    ≡ ((Ok least_int, Ok (negsuc 0)) ∷ (Ok (pos 1), Ok (negsuc 7)) ∷ (Ok (pos 2), Ok (negsuc 3)) ∷ (Ok least_int, Ok (negsuc 0)) ∷ (Ok (pos 1), Ok (negsuc 7)) ∷ (Ok least_int, Ok (negsuc 0)) ∷ [])
unfolding int_wrap
ints_shifted = refl

longs_shifted : (shifted_by r.Long (pos 31) ∷ shifted_by r.Long (pos 32) ∷ shifted_by r.Long (pos 33) ∷ shifted_by r.Long (pos 63) ∷ shifted_by r.Long (pos 64) ∷ shifted_by r.Long (negsuc 0) ∷ [])
    ≡ ((Ok (pos 2147483648), Ok (negsuc 0)) ∷ (Ok (pos 4294967296), Ok (negsuc 0)) ∷ (Ok (pos 8589934592), Ok (negsuc 0)) ∷ (Ok least_long, Ok (negsuc 0)) ∷ (Ok (pos 1), Ok (negsuc 7)) ∷ (Ok least_long, Ok (negsuc 0)) ∷ [])
unfolding int_wrap
longs_shifted = refl

values : (converted char (pos 255) ∷ converted char (pos 256) ∷ converted char (negsuc 0) ∷ converted int (pos 2147483648) ∷ converted int (negsuc 2147483648) ∷ converted long least_long ∷ converted chars (pos 4294967296) ∷ converted Null (pos 0) ∷ [])
    ≡ (pos 255 ∷ pos 0 ∷ pos 255 ∷ least_int ∷ pos 2147483647 ∷ least_long ∷ pos 4294967296 ∷ pos 0 ∷ [])
unfolding int_wrap
values = refl

truths : (is_true (negsuc 0) ∷ is_true (pos 0) ∷ []) ≡ (true ∷ false ∷ [])
truths = refl

-- of -1 and 0, and of two equal numbers
abbrev compared_by : Comparison → Result ℤ FaultKind × Result ℤ FaultKind
compared_by op = (operated (o.Compare op) (negsuc 0) (pos 0), operated (o.Compare op) (pos 0) (pos 0))

comparisons : (compared_by c.Equal ∷ compared_by c.NotEqual ∷ compared_by c.Less ∷ compared_by c.LessEqual ∷ compared_by c.Greater ∷ compared_by c.GreaterEqual ∷ [])
    ≡ ((Ok (pos 0), Ok (pos 1)) ∷ (Ok (pos 1), Ok (pos 0)) ∷ (Ok (pos 1), Ok (pos 0)) ∷ (Ok (pos 1), Ok (pos 1)) ∷ (Ok (pos 0), Ok (pos 0)) ∷ (Ok (pos 0), Ok (pos 1)) ∷ [])
comparisons = refl

-- ---- addresses

-- of an array of three numbers
abbrev third_array : Reach → ℤ → Result ℤ FaultKind
third_array reach i = element (pos 4096) 3 4 reach i

elements : (third_array Inside (negsuc 0) ∷ third_array Inside (pos 0) ∷ third_array Inside (pos 2) ∷ third_array Inside (pos 3) ∷ third_array ToEnd (negsuc 0) ∷ third_array ToEnd (pos 3) ∷ third_array ToEnd (pos 4) ∷ [])
    ≡ (Err Bounds ∷ Ok (pos 4096) ∷ Ok (pos 4104) ∷ Err Bounds ∷ Err Bounds ∷ Ok (pos 4108) ∷ Err Bounds ∷ [])
unfolding int_wrap
elements = refl

distances : (operated (o.Distance 4) (pos 4108) (pos 4096) ∷ operated (o.Distance 4) (pos 4096) (pos 4103) ∷ operated (o.Distance 8) (pos 9223372036854775807) (negsuc 0) ∷ operated (o.Distance 0) (pos 4108) (pos 4096) ∷ [])
    ≡ (Ok (pos 3) ∷ Ok (negsuc 0) ∷ Ok (negsuc 1152921504606846975) ∷ Err DivZero ∷ [])
unfolding int_wrap
distances = refl

-- also an address above 65,535
moved : (operated (o.Advance 4) (pos 4096) (pos 3) ∷ operated (o.AdvanceBy 4) (pos 3) (pos 4096) ∷ operated (o.Retreat 4) (pos 4108) (pos 3) ∷ operated (o.Retreat 4) (pos 4096) (pos 2000) ∷ operated (o.Advance 8) (pos 4096) (pos 2305843009213693952) ∷ operated (o.Advance 4) (pos 65532) (pos 3) ∷ [])
    ≡ (Ok (pos 4108) ∷ Ok (pos 4108) ∷ Ok (pos 4096) ∷ Ok (negsuc 3903) ∷ Ok (pos 4096) ∷ Ok (pos 65544) ∷ [])
unfolding int_wrap
moved = refl
