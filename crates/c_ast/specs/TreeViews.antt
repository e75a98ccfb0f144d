-- The trees of the code as plain data.
use Rattle.std.specs.Prelude.{List, map}
use Rattle.c_ast.specs.declared.tree.CType.{CType}
use Rattle.c_ast.specs.declared.tree.CType as ty
use Rattle.c_ast.specs.declared.tree.Expr.{Expr, Row_of-Expr, end_of-Expr, more_of-Expr}
use Rattle.c_ast.specs.declared.tree.Expr as e
use Rattle.c_ast.specs.declared.tree_unit.Init.{Init}
use Rattle.c_ast.specs.declared.tree_unit.Init.TheVariants as i
use Rattle.c_ast.specs.declared.tree_unit.ParamName.{ParamName}
use Rattle.c_ast.specs.declared.tree_unit.ParamName.TheVariants as n
use Rattle.c_ast.specs.declared.tree_unit.Part.{Part}
use Rattle.c_ast.specs.declared.tree_unit.Part.TheVariants as p
use Rattle.c_ast.specs.declared.tree_unit.ForStart.{ForStart}
use Rattle.c_ast.specs.declared.tree_unit.ForStart.TheVariants as f
use Rattle.c_ast.specs.declared.tree_unit.Declarator.{Declarator}
use Rattle.c_ast.specs.declared.tree_unit.Param.{Param}
use Rattle.c_ast.specs.declared.tree_unit.Stmt.{Stmt, Row_of-Stmt, end_of-Stmt, more_of-Stmt}
use Rattle.c_ast.specs.declared.tree_unit.Stmt as s
use Rattle.c_ast.specs.declared.tree_unit.Item.{Item}
use Rattle.c_ast.specs.declared.tree_unit.Item.TheVariants as item
use Rattle.c_ast.specs.declared.tree_unit.Unit as code_unit
use Rattle.c_ast.specs.Trees.{Ty, plain, pointer, Exp, Exps, no_exp, an_exp, name, number, character, string, null, eof, call, index, postfix, unary, cast, binary, conditional, assign, comma, Initial, no_init, value, elements, Decl, declarator, ParName, unnamed, named, Par, param, Maybe, missing, given, Start, start_expr, start_local, Stm, Stms, no_stm, a_stm, block, empty, expression, if_then, if_else, while_loop, do_while, for_loop, break, continue, return, local, Top, prototype, function, variables}

abbrev pub type_of : CType → Ty
type_of (ty.Base b) = plain b
type_of (ty.Pointer' _ to) = pointer (type_of to)

abbrev mutual
  pub expr_of : Expr → Exp
  expr_of (e.Name place n) = name place n
  expr_of (e.Number place v long) = number place v long
  expr_of (e.Char place v) = character place v
  expr_of (e.Str place bytes) = string place bytes
  expr_of (e.Null place) = null place
  expr_of (e.Eof place) = eof place
  expr_of (e.Call' place n _ row) = call place n (row_exps row)
  expr_of (e.Index' place _ a _ x) = index place (expr_of a) (expr_of x)
  expr_of (e.Postfix' place op _ a) = postfix place op (expr_of a)
  expr_of (e.Unary' place op _ a) = unary place op (expr_of a)
  expr_of (e.Cast' place to _ a) = cast place (type_of to) (expr_of a)
  expr_of (e.Binary' place op _ a _ b) = binary place op (expr_of a) (expr_of b)
  expr_of (e.Conditional' place _ a _ b _ c) = conditional place (expr_of a) (expr_of b) (expr_of c)
  expr_of (e.Assign' place op _ a _ b) = assign place op (expr_of a) (expr_of b)
  expr_of (e.Comma' place _ row) = comma place (row_exps row)

  pub row_exps : {m : _} → Row_of-Expr m → Exps
  row_exps end_of-Expr = no_exp
  row_exps (more_of-Expr x rest) = an_exp (expr_of x) (row_exps rest)

abbrev pub init_of : Init → Initial
init_of i.Nothing = no_init
init_of (i.Value x) = value (expr_of x)
init_of (i.List xs) = elements (map expr_of xs.items)

abbrev pub decl_of : Declarator → Decl
decl_of d = declarator d.place (type_of d.kind) d.name d.length (init_of d.init)

abbrev pub param_name_of : ParamName → ParName
param_name_of n.Unnamed = unnamed
param_name_of (n.Named bytes) = named bytes

abbrev pub param_of : Param → Par
param_of d = param d.place (type_of d.kind) (param_name_of d.name) d.length

abbrev pub part_of : Part → Maybe
part_of p.Missing = missing
part_of (p.Given x) = given (expr_of x)

abbrev pub start_of : ForStart → Start
start_of (f.Expr x) = start_expr (part_of x)
start_of (f.Local ds) = start_local (map decl_of ds.items)

abbrev mutual
  pub stmt_of : Stmt → Stm
  stmt_of (s.Block' place _ row) = block place (row_stms row)
  stmt_of (s.Empty place) = empty place
  stmt_of (s.Expr place x) = expression place (expr_of x)
  stmt_of (s.If' place x _ a) = if_then place (expr_of x) (stmt_of a)
  stmt_of (s.IfElse' place x _ a _ b) = if_else place (expr_of x) (stmt_of a) (stmt_of b)
  stmt_of (s.While' place x _ a) = while_loop place (expr_of x) (stmt_of a)
  stmt_of (s.DoWhile' place _ a x) = do_while place (stmt_of a) (expr_of x)
  stmt_of (s.For' place start x y _ a) = for_loop place (start_of start) (part_of x) (part_of y) (stmt_of a)
  stmt_of (s.Break place) = break place
  stmt_of (s.Continue place) = continue place
  stmt_of (s.Return place x) = return place (part_of x)
  stmt_of (s.Local place ds) = local place (map decl_of ds.items)

  pub row_stms : {m : _} → Row_of-Stmt m → Stms
  row_stms end_of-Stmt = no_stm
  row_stms (more_of-Stmt x rest) = a_stm (stmt_of x) (row_stms rest)

abbrev pub item_of : Item → Top
item_of (item.Prototype h) = prototype h.place (type_of h.result) h.name (map param_of h.params.items)
item_of (item.Function h body) = function h.place (type_of h.result) h.name (map param_of h.params.items) (map stmt_of body.items)
item_of (item.Variables ds) = variables (map decl_of ds.items)

abbrev pub unit_of : code_unit.Unit → List Top
unit_of unit = map item_of unit.items.items
