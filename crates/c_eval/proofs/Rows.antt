-- The lists in trees, seen as lists.
use Rattle.std.proofs.Common.{◌≡◌, ap, refl, rules}
use Rattle.std.specs.Prelude.{map}
use Rattle.std.specs.declared.vec.Vec.{Vec}
use Rattle.std.specs.declared.alloc.Global.{Global}
use Rattle.c_typed.specs.declared.types.ValueType.{ValueType}
use Rattle.c_typed.specs.declared.expr.Expr.{Expr, Call, Comma, Row_of-Expr, end_of-Expr, more_of-Expr, items-the_row-Expr, the_lemmas}
use Rattle.c_typed.specs.declared.stmt.Stmt.{Stmt, Block, Row_of-Stmt, end_of-Stmt, more_of-Stmt, items-the_row-Stmt, the_lemmas as stmt_lemmas}
use Rattle.c_typed.specs.Tree.{an_exp, call, comma, block, stms, a_stm}
use Rattle.c_typed.specs.Views.{expr_of, row_exps, list_exps, stmt_of, row_stms}

pub exps_items : (m : _) (row : Row_of-Expr m) → row_exps row ≡ list_exps (items-the_row-Expr m row)
exps_items m end_of-Expr = refl
exps_items m (more_of-Expr {n = k} x rest) = ap (an_exp (expr_of x)) (exps_items k rest)

pub stms_items : (m : _) (row : Row_of-Stmt m) → row_stms row ≡ stms (map stmt_of (items-the_row-Stmt m row))
stms_items m end_of-Stmt = refl
stms_items m (more_of-Stmt {n = k} x rest) = ap (a_stm (stmt_of x)) (stms_items k rest)

pub view_call : (ty : ValueType) (f : _) (v : Vec Expr Global) → expr_of (Call ty f v) ≡ call ty f (list_exps v.items)
view_call ty f v = search (rules, the_lemmas, exps_items)

pub view_comma : (v : Vec Expr Global) (b : _) → expr_of (Comma v b) ≡ comma (list_exps v.items) (expr_of b.value)
view_comma v b = search (rules, the_lemmas, exps_items)

pub view_block : (v : Vec Stmt Global) → stmt_of (Block v) ≡ block (stms (map stmt_of v.items))
view_block v = search (rules, stmt_lemmas, stms_items)
