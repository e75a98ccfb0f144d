-- Small trees, all in line 1, by their columns.
use Prim.Native.String.{String}
use Rattle.std.specs.Prelude.{ℕ, pos, false, List, codes}
use Rattle.ib_meaning.specs.declared.place.Place.{Place}
use Rattle.c_ast.specs.declared.tree.Base.TheVariants.{Void, Char, Int, Long}
use Rattle.c_ast.specs.declared.tree.AssignOp.TheVariants as w
use Rattle.c_ast.specs.declared.tree.BinaryOp.{BinaryOp}
use Rattle.c_ast.specs.declared.tree.UnaryOp.{UnaryOp}
use Rattle.c_ast.specs.declared.tree_unit.Length.TheVariants as n
use Rattle.c_ast.specs.Trees as c

abbrev pub at : ℕ → Place
at col = record { line = 1; col = col }

abbrev pub int : c.Ty
int = c.plain Int

abbrev pub char : c.Ty
char = c.plain Char

abbrev pub long : c.Ty
long = c.plain Long

abbrev pub void : c.Ty
void = c.plain Void

abbrev pub to_int : c.Ty
to_int = c.pointer int

abbrev pub to_char : c.Ty
to_char = c.pointer char

abbrev pub to_void : c.Ty
to_void = c.pointer void

abbrev pub name : ℕ → String → c.Exp
name col x = c.name (at col) (codes x)

abbrev pub number : ℕ → ℕ → c.Exp
number col m = c.number (at col) (pos m) false

abbrev pub text : ℕ → String → c.Exp
text col bytes = c.string (at col) (codes bytes)

abbrev pub call : ℕ → String → List c.Exp → c.Exp
call col x xs = c.call (at col) (codes x) (c.exps xs)

abbrev pub unary : ℕ → UnaryOp → c.Exp → c.Exp
unary col op x = c.unary (at col) op x

abbrev pub binary : ℕ → BinaryOp → c.Exp → c.Exp → c.Exp
binary col op x y = c.binary (at col) op x y

abbrev pub set : ℕ → c.Exp → c.Exp → c.Exp
set col x y = c.assign (at col) w.Set x y

abbrev pub scalar : ℕ → c.Ty → String → c.Initial → c.Decl
scalar col ty x init = c.declarator (at col) ty (codes x) n.Scalar init

abbrev pub array : ℕ → c.Ty → String → (length : ℕ) → c.Initial → c.Decl
array col ty x length init = c.declarator (at col) ty (codes x) (n.Given (pos length) false) init

abbrev pub doing : ℕ → c.Exp → c.Stm
doing col x = c.expression (at col) x

abbrev pub return : ℕ → c.Exp → c.Stm
return col x = c.return (at col) (c.given x)

abbrev pub local : ℕ → List c.Decl → c.Stm
local col ds = c.local (at col) ds

abbrev pub param : ℕ → c.Ty → String → c.Par
param col ty x = c.param (at col) ty (c.named (codes x)) n.Scalar

abbrev pub unnamed : ℕ → c.Ty → c.Par
unnamed col ty = c.param (at col) ty c.unnamed n.Scalar

abbrev pub prototype : ℕ → c.Ty → String → List c.Par → c.Top
prototype col ty x params = c.prototype (at col) ty (codes x) params

abbrev pub function : ℕ → c.Ty → String → List c.Par → List c.Stm → c.Top
function col ty x params body = c.function (at col) ty (codes x) params body
