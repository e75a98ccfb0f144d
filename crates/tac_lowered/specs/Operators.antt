-- The code of operators, over registers.
use Rattle.std.specs.Prelude.{ℕ, suc, ◌+◌, ◌==◌, ℤ, pos, negsuc, Option, Some, None, Bool, true, false, if◌then◌else◌}
use Rattle.ib_base.specs.declared.integers.Width.{Width}
use Rattle.ib_base.specs.declared.integers.Width.TheVariants.{W1, W4, W8}
use Rattle.ib_act.specs.declared.act.Size.{Size}
use Rattle.ib_act.specs.declared.act.Size.TheVariants.{Four, Eight}
use Rattle.ib_act.specs.declared.act.Act.{Act}
use Rattle.ib_act.specs.declared.act.Act.TheVariants.{Const, Mov, Add, Sub, And, Or, Xor, ShiftLeft, ShiftRight, Equal, NotEqual, Less, LessEqual, ExtByte, ExtFour, Mul, Div, Rem}
use Rattle.c_typed.specs.declared.types.ValueType.{ValueType}
use Rattle.c_typed.specs.declared.expr.Reach.{Reach}
use Rattle.c_typed.specs.declared.expr.Reach.TheVariants.{Inside, ToEnd}
use Rattle.c_typed.specs.declared.operation.Rank.{Rank}
use Rattle.c_typed.specs.declared.operation.Arithmetic.{Arithmetic}
use Rattle.c_typed.specs.declared.operation.Arithmetic.TheVariants as a
use Rattle.c_typed.specs.declared.operation.Comparison.{Comparison}
use Rattle.c_typed.specs.declared.operation.Comparison.TheVariants as c
use Rattle.c_typed.specs.declared.operation.Operation.{Operation}
use Rattle.c_typed.specs.declared.operation.Operation.TheVariants as o
use Rattle.c_typed.specs.declared.operation.Sign.{Sign}
use Rattle.c_typed.specs.declared.operation.Sign.TheVariants as s
use Rattle.c_typed.specs.Values.{width_of, ranked}
use Rattle.tac_lowered.specs.Code.{Code, nothing, does, ◌⨾◌}

-- x in `to`, where a value is wanted
abbrev pub moved : (s : ℕ) → (to : Option ℕ) → (x : ℕ) → Code
moved s None x = nothing
moved s (Some to) x = if to == x then nothing else does s (Mov to x)

-- a number, where one is wanted
abbrev pub number : (s : ℕ) → (to : Option ℕ) → ℤ → Code
number s None v = nothing
number s (Some to) v = does s (Const to v)

-- the wanted register, or another
abbrev pub or_else : Option ℕ → ℕ → ℕ
or_else None r = r
or_else (Some to) r = to

-- a value of the first width may lie outside of the second
abbrev pub narrows : Width → Width → Bool
narrows W4 W1 = true
narrows W8 W1 = true
narrows W8 W4 = true
narrows from w = false

abbrev pub cut : Width → (to x : ℕ) → Act
cut W1 to x = ExtByte to x
cut W4 to x = ExtFour to x
cut W8 to x = Mov to x

-- x, a value of the first width, as one of the second
abbrev pub converted : (from w : Width) → (s to x : ℕ) → Code
converted from w s to x = if narrows from w then does s (cut w to x) else moved s (Some to) x

abbrev pub size_of : Width → Size
size_of W8 = Eight
size_of w = Four

abbrev pub arithmetic : Arithmetic → Size → (to x y : ℕ) → Act
arithmetic a.Add size to x y = Add size to x y
arithmetic a.Sub size to x y = Sub size to x y
arithmetic a.Mul size to x y = Mul size to x y
arithmetic a.Div size to x y = Div size to x y
arithmetic a.Rem size to x y = Rem size to x y
arithmetic a.ShiftLeft size to x y = ShiftLeft size to x y
arithmetic a.ShiftRight size to x y = ShiftRight size to x y
arithmetic a.BitAnd size to x y = And to x y
arithmetic a.BitXor size to x y = Xor to x y
arithmetic a.BitOr size to x y = Or to x y

abbrev pub comparison : Comparison → (to x y : ℕ) → Act
comparison c.Equal to x y = Equal to x y
comparison c.NotEqual to x y = NotEqual to x y
comparison c.Less to x y = Less to x y
comparison c.LessEqual to x y = LessEqual to x y
comparison c.Greater to x y = Less to y x
comparison c.GreaterEqual to x y = LessEqual to y x

-- so many elements in bytes: those in x are then in r, or still in x
abbrev pub scaled : (s r size x : ℕ) → Code
scaled s r size x = if size == 1 then nothing else does s (Const r (pos size)) ⨾ does s (Mul Eight r x r)

abbrev pub scaled_in : (r size x : ℕ) → ℕ
scaled_in r size x = if size == 1 then x else r

-- an operator of the registers x and y; r and those behind are free
abbrev pub operated : Operation → (s to r x y : ℕ) → Code
operated (o.Integer op rank) s to r x y = does s (arithmetic op (size_of (ranked rank)) to x y)
operated (o.Compare op) s to r x y = does s (comparison op to x y)
operated (o.Advance size) s to r x y = scaled s r size y ⨾ does s (Add Eight to x (scaled_in r size y))
operated (o.AdvanceBy size) s to r x y = scaled s r size x ⨾ does s (Add Eight to y (scaled_in r size x))
operated (o.Retreat size) s to r x y = scaled s r size y ⨾ does s (Sub Eight to x (scaled_in r size y))
operated (o.Distance size) s to r x y = does s (Sub Eight r x y) ⨾ (does s (Const (suc r) (pos size)) ⨾ does s (Div Eight to r (suc r)))

-- the width that an operator's value lies in
abbrev pub given_by : Operation → Width
given_by (o.Integer op rank) = ranked rank
given_by (o.Compare op) = W1
given_by op = W8

-- The operator that an assignment holds, in `to`: of x, which is converted first, and y. Its value is of the assignment's type.
abbrev pub assigned : (ty within : ValueType) → Operation → (s to r x y : ℕ) → Code
assigned ty within op s to r x y =
    if narrows (width_of ty) (width_of within)
    then does s (cut (width_of within) r x) ⨾ (operated op s (r + 1) (r + 2) r y ⨾ converted (given_by op) (width_of ty) s to (r + 1))
    else if narrows (given_by op) (width_of ty) then operated op s r (r + 1) x y ⨾ does s (cut (width_of ty) to r)
    else operated op s to r x y

abbrev pub sign : Sign → Rank → (s to r x : ℕ) → Code
sign s.Minus rank s to r x = does s (Const r (pos 0)) ⨾ does s (Sub (size_of (ranked rank)) to r x)
sign s.BitNot rank s to r x = does s (Const r (negsuc 0)) ⨾ does s (Sub (size_of (ranked rank)) to r x)

abbrev pub bound : Reach → (count : ℕ) → ℤ
bound Inside count = pos count
bound ToEnd count = pos (suc count)
