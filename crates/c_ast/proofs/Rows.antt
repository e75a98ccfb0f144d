-- The lists of a tree, as the code holds them and as plain data.
use Rattle.std.proofs.Common.{◌≡◌, ℕ, List, refl, ◌∙◌, ap, Vec, Global}
use Rattle.std.specs.Prelude.{map}
use mathlib.Core.Former.{Count}
use Rattle.c_ast.specs.declared.tree.Expr.{Expr, Call, Call', Comma, Comma', Row_of-Expr, end_of-Expr, more_of-Expr, items-the_row-Expr, items_hidden-the_row-Expr-0}
use Rattle.c_ast.specs.declared.tree_unit.Stmt.{Stmt, Block, Block', Row_of-Stmt, end_of-Stmt, more_of-Stmt, items-the_row-Stmt, items_hidden-the_row-Stmt-0}
use Rattle.ib_meaning.specs.declared.place.Place.{Place}
use Rattle.c_ast.specs.Trees.{exps, stms, call, comma, block, an_exp, a_stm}
use Rattle.c_ast.specs.TreeViews.{expr_of, row_exps, stmt_of, row_stms}

many_exprs : (n : Count) (row : Row_of-Expr n) → row_exps row ≡ exps (map expr_of (items-the_row-Expr n row))
many_exprs n end_of-Expr = refl
many_exprs n (more_of-Expr x rest) = ap (λ l. an_exp (expr_of x) l) (many_exprs _ rest)

many_stmts : (n : Count) (row : Row_of-Stmt n) → row_stms row ≡ stms (map stmt_of (items-the_row-Stmt n row))
many_stmts n end_of-Stmt = refl
many_stmts n (more_of-Stmt x rest) = ap (λ l. a_stm (stmt_of x) l) (many_stmts _ rest)

abbrev exprs_in : Expr → (n : Count) × Row_of-Expr n
exprs_in (Call' _ _ _ row) = (_, row)
exprs_in _ = (_, end_of-Expr)

pub call_exprs : (place : Place) (f : List ℕ) (xs : Vec Expr Global) → expr_of (Call place f xs) ≡ call place f (exps (map expr_of xs.items))
call_exprs place f xs =
    let row = exprs_in (Call place f xs) in
    ap (λ l. call place f l) (many_exprs row.0 row.1 ∙ ap (λ l. exps (map expr_of l)) (items_hidden-the_row-Expr-0 xs))

abbrev comma_in : Expr → (n : Count) × Row_of-Expr n
comma_in (Comma' _ _ row) = (_, row)
comma_in _ = (_, end_of-Expr)

pub comma_exprs : (place : Place) (xs : Vec Expr Global) → expr_of (Comma place xs) ≡ comma place (exps (map expr_of xs.items))
comma_exprs place xs =
    let row = comma_in (Comma place xs) in
    ap (λ l. comma place l) (many_exprs row.0 row.1 ∙ ap (λ l. exps (map expr_of l)) (items_hidden-the_row-Expr-0 xs))

abbrev stmts_in : Stmt → (n : Count) × Row_of-Stmt n
stmts_in (Block' _ _ row) = (_, row)
stmts_in _ = (_, end_of-Stmt)

pub block_stmts : (place : Place) (xs : Vec Stmt Global) → stmt_of (Block place xs) ≡ block place (stms (map stmt_of xs.items))
block_stmts place xs =
    let row = stmts_in (Block place xs) in
    ap (λ l. block place l) (many_stmts row.0 row.1 ∙ ap (λ l. stms (map stmt_of l)) (items_hidden-the_row-Stmt-0 xs))
