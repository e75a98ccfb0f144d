-- What operators give, and what is left of a number in a type.
use Rattle.std.specs.Prelude.{ℕ, zero, ℤ, pos, negsuc, ◌+ℤ◌, ◌-ℤ◌, ◌*ℤ◌, int_le, int_lt, Bool, true, false, ◌&&◌, Option, Some, None, Result, Ok, Err, if◌then◌else◌}
use Rattle.std.specs.Int.{w64, int_bit_and, int_bit_or, int_bit_xor}
use Rattle.ib_base.specs.declared.integers.Width.{Width}
use Rattle.ib_base.specs.declared.integers.Width.TheVariants.{W1, W4, W8}
use Rattle.ib_base.specs.declared.integers.Cmp.TheVariants.{Eq, Ne, Lt, Le}
use Rattle.ib_base.specs.Integers.{wrapped, quotient, remainder, shifted_left, shifted_right, compared}
use Rattle.ib_meaning.specs.declared.fault.FaultKind.{FaultKind}
use Rattle.ib_meaning.specs.declared.fault.FaultKind.TheVariants.{BadAddress, Bounds}
use Rattle.c_ast.specs.declared.tree.Base.TheVariants.{Void, Char, Int, Long}
use Rattle.c_typed.specs.declared.types.ValueType.{ValueType}
use Rattle.c_typed.specs.declared.types.ValueType.TheVariants as v
use Rattle.c_typed.specs.declared.expr.Reach.{Reach}
use Rattle.c_typed.specs.declared.expr.Reach.TheVariants.{Inside, ToEnd}
use Rattle.c_typed.specs.declared.operation.Rank.{Rank}
use Rattle.c_typed.specs.declared.operation.Rank.TheVariants as r
use Rattle.c_typed.specs.declared.operation.Arithmetic.{Arithmetic}
use Rattle.c_typed.specs.declared.operation.Arithmetic.TheVariants as a
use Rattle.c_typed.specs.declared.operation.Comparison.{Comparison}
use Rattle.c_typed.specs.declared.operation.Comparison.TheVariants as c
use Rattle.c_typed.specs.declared.operation.Operation.{Operation}
use Rattle.c_typed.specs.declared.operation.Operation.TheVariants as o
use Rattle.c_typed.specs.declared.operation.Sign.{Sign}
use Rattle.c_typed.specs.declared.operation.Sign.TheVariants as s

abbrev pub width_of : ValueType → Width
width_of (v.Base Void) = W1
width_of (v.Base Char) = W1
width_of (v.Base Int) = W4
width_of (v.Base Long) = W8
width_of (v.Pointer b stars) = W8
width_of v.Null = W8

-- as a value of the type
abbrev pub converted : ValueType → ℤ → ℤ
converted ty x = wrapped (width_of ty) x

abbrev pub is_true : ℤ → Bool
is_true (pos zero) = false
is_true x = true

abbrev pub truth : Bool → ℤ
truth true = pos 1
truth false = pos 0

abbrev pub ranked : Rank → Width
ranked r.Int = W4
ranked r.Long = W8

-- a rule of numbers of the width, which the operands of a typed program are
abbrev pub of_wrapped : (Width → ℤ → ℤ → Result ℤ FaultKind) → Width → ℤ → ℤ → Result ℤ FaultKind
of_wrapped rule w x y = rule w (wrapped w x) (wrapped w y)

abbrev pub arithmetic : Arithmetic → Width → ℤ → ℤ → Result ℤ FaultKind
arithmetic a.Add w x y = Ok (wrapped w (x +ℤ y))
arithmetic a.Sub w x y = Ok (wrapped w (x -ℤ y))
arithmetic a.Mul w x y = Ok (wrapped w (x *ℤ y))
arithmetic a.Div w x y = of_wrapped quotient w x y
arithmetic a.Rem w x y = of_wrapped remainder w x y
arithmetic a.ShiftLeft w x y = Ok (shifted_left w (wrapped w x) y)
arithmetic a.ShiftRight w x y = Ok (shifted_right w (wrapped w x) y)
arithmetic a.BitAnd w x y = Ok (int_bit_and w64 x y)
arithmetic a.BitXor w x y = Ok (int_bit_xor w64 x y)
arithmetic a.BitOr w x y = Ok (int_bit_or w64 x y)

abbrev pub comparison : Comparison → ℤ → ℤ → Bool
comparison c.Equal x y = compared Eq x y
comparison c.NotEqual x y = compared Ne x y
comparison c.Less x y = compared Lt x y
comparison c.LessEqual x y = compared Le x y
comparison c.Greater x y = compared Lt y x
comparison c.GreaterEqual x y = compared Le y x

-- the address so many bytes further on
abbrev pub further : ℤ → ℤ → ℤ
further address bytes = wrapped W8 (address +ℤ bytes)

-- so many elements, in bytes
abbrev pub scaled : (size : ℕ) → ℤ → ℤ
scaled size count = wrapped W8 (count *ℤ pos size)

-- operators of two operands, compound assignments, `++` and `--`
abbrev pub operated : Operation → ℤ → ℤ → Result ℤ FaultKind
operated (o.Integer op rank) x y = arithmetic op (ranked rank) x y
operated (o.Compare op) x y = Ok (truth (comparison op x y))
operated (o.Advance size) x y = Ok (further x (scaled size y))
operated (o.AdvanceBy size) x y = Ok (further y (scaled size x))
operated (o.Retreat size) x y = Ok (wrapped W8 (x -ℤ scaled size y))
operated (o.Distance size) x y = of_wrapped quotient W8 (x -ℤ y) (pos size)

abbrev pub signed : Sign → Width → ℤ → ℤ
signed s.Minus w x = wrapped w (pos 0 -ℤ x)
signed s.BitNot w x = wrapped w (negsuc 0 -ℤ x)

abbrev pub in_bounds : Reach → (length : ℕ) → ℤ → Bool
in_bounds Inside length i = int_le (pos 0) i && int_lt i (pos length)
in_bounds ToEnd length i = int_le (pos 0) i && int_le i (pos length)

-- the address of an element of the array that begins there
abbrev pub element : (array : ℤ) → (length size : ℕ) → Reach → ℤ → Result ℤ FaultKind
element array length size reach i = if in_bounds reach length i then Ok (further array (scaled size i)) else Err Bounds

-- what an access gives
abbrev pub accessed : {A : Type 0} → Option A → Result A FaultKind
accessed None = Err BadAddress
accessed (Some x) = Ok x
