-- What single tokens are, and which operators they may be.
use Rattle.std.specs.Prelude.{◌≡◌, ℕ, ℤ, Bool, List, Option, Some, None}
use Rattle.c_ast.specs.declared.mark.Mark.{Mark}
use Rattle.c_ast.specs.declared.mark.Mark.TheVariants as m
use Rattle.c_ast.specs.declared.keyword.Keyword.{Keyword}
use Rattle.c_ast.specs.declared.token.Tok.{Tok}
use Rattle.c_ast.specs.declared.token.Tok.TheVariants as t
use Rattle.c_ast.specs.declared.token.Token.{Token}
use Rattle.c_ast.specs.declared.tree.UnaryOp.{UnaryOp}
use Rattle.c_ast.specs.declared.tree.UnaryOp.TheVariants as u
use Rattle.c_ast.specs.declared.tree.PostfixOp.{PostfixOp}
use Rattle.c_ast.specs.declared.tree.PostfixOp.TheVariants as p
use Rattle.c_ast.specs.declared.tree.BinaryOp.{BinaryOp}
use Rattle.c_ast.specs.declared.tree.BinaryOp.TheVariants as b
use Rattle.c_ast.specs.declared.tree.AssignOp.{AssignOp}
use Rattle.c_ast.specs.declared.tree.AssignOp.TheVariants as a

abbrev pub IsMark : Token → Mark → Type 0
IsMark token mark = token.kind ≡ t.Mark mark

abbrev pub IsWord : Token → Keyword → Type 0
IsWord token word = token.kind ≡ t.Word word

abbrev pub IsName : Token → List ℕ → Type 0
IsName token name = token.kind ≡ t.Name name

abbrev pub IsNumber : Token → ℤ → Bool → Type 0
IsNumber token value long = token.kind ≡ t.Number value long

abbrev pub mark_of : {A : Type 0} → (Mark → Option A) → Tok → Option A
mark_of f (t.Mark mark) = f mark
mark_of f _ = None

abbrev pub binary_mark : Mark → Option BinaryOp
binary_mark m.Or = Some b.Or
binary_mark m.And = Some b.And
binary_mark m.BitOr = Some b.BitOr
binary_mark m.BitXor = Some b.BitXor
binary_mark m.BitAnd = Some b.BitAnd
binary_mark m.Equal = Some b.Equal
binary_mark m.NotEqual = Some b.NotEqual
binary_mark m.Less = Some b.Less
binary_mark m.LessEqual = Some b.LessEqual
binary_mark m.Greater = Some b.Greater
binary_mark m.GreaterEqual = Some b.GreaterEqual
binary_mark m.ShiftLeft = Some b.ShiftLeft
binary_mark m.ShiftRight = Some b.ShiftRight
binary_mark m.Plus = Some b.Add
binary_mark m.Minus = Some b.Sub
binary_mark m.Star = Some b.Mul
binary_mark m.Slash = Some b.Div
binary_mark m.Percent = Some b.Rem
binary_mark _ = None

abbrev pub binary_op : Token → Option BinaryOp
binary_op token = mark_of binary_mark token.kind

-- the precedence of a binary operator, lowest first
abbrev pub level : BinaryOp → ℕ
level b.Or = 1
level b.And = 2
level b.BitOr = 3
level b.BitXor = 4
level b.BitAnd = 5
level b.Equal = 6
level b.NotEqual = 6
level b.Less = 7
level b.LessEqual = 7
level b.Greater = 7
level b.GreaterEqual = 7
level b.ShiftLeft = 8
level b.ShiftRight = 8
level b.Add = 9
level b.Sub = 9
level b.Mul = 10
level b.Div = 10
level b.Rem = 10

abbrev pub assign_mark : Mark → Option AssignOp
assign_mark m.Assign = Some a.Set
assign_mark m.AddAssign = Some a.Add
assign_mark m.SubAssign = Some a.Sub
assign_mark m.MulAssign = Some a.Mul
assign_mark m.DivAssign = Some a.Div
assign_mark m.RemAssign = Some a.Rem
assign_mark m.ShiftLeftAssign = Some a.ShiftLeft
assign_mark m.ShiftRightAssign = Some a.ShiftRight
assign_mark m.BitAndAssign = Some a.BitAnd
assign_mark m.BitXorAssign = Some a.BitXor
assign_mark m.BitOrAssign = Some a.BitOr
assign_mark _ = None

abbrev pub assign_op : Token → Option AssignOp
assign_op token = mark_of assign_mark token.kind

-- `++` and `--`, whose operand is a unary expression
abbrev pub step_mark : Mark → Option UnaryOp
step_mark m.Increment = Some u.Increment
step_mark m.Decrement = Some u.Decrement
step_mark _ = None

abbrev pub step_op : Token → Option UnaryOp
step_op token = mark_of step_mark token.kind

-- the other marks that stand before their operand, which may be a cast
abbrev pub prefix_mark : Mark → Option UnaryOp
prefix_mark m.BitAnd = Some u.AddressOf
prefix_mark m.Star = Some u.Dereference
prefix_mark m.Plus = Some u.Plus
prefix_mark m.Minus = Some u.Minus
prefix_mark m.BitNot = Some u.BitNot
prefix_mark m.Not = Some u.Not
prefix_mark _ = None

abbrev pub prefix_op : Token → Option UnaryOp
prefix_op token = mark_of prefix_mark token.kind

abbrev pub postfix_mark : Mark → Option PostfixOp
postfix_mark m.Increment = Some p.Increment
postfix_mark m.Decrement = Some p.Decrement
postfix_mark _ = None

abbrev pub postfix_op : Token → Option PostfixOp
postfix_op token = mark_of postfix_mark token.kind
