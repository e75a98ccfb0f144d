-- The lists of typed statements, as the code holds them and as plain data.
use Rattle.std.proofs.Common.{◌≡◌, List, [], ◌∷◌, ◌++◌, refl, ◌∙◌, ap, Vec, Global}
use Rattle.std.specs.Prelude.{map}
use mathlib.Core.Former.{Count}
use Rattle.c_typed.specs.declared.stmt.Stmt.{Stmt, Block, Block', Row_of-Stmt, end_of-Stmt, more_of-Stmt, items-the_row-Stmt, items_hidden-the_row-Stmt-0}
use Rattle.c_typed.specs.Tree as t
use Rattle.c_typed.specs.Views.{stmt_of, row_stms}
use Rattle.c_typed.specs.declared.expr.Expr.{Expr}
use Rattle.c_typed.specs.Views.{expr_of, list_exps}
use Rattle.c_types_operators.specs.Operators.{and_then}
use Rattle.c_types_statements.specs.Keeping.{rows_of, and_statement}

many_stmts : (n : Count) (row : Row_of-Stmt n) → row_stms row ≡ t.stms (map stmt_of (items-the_row-Stmt n row))
many_stmts n end_of-Stmt = refl
many_stmts n (more_of-Stmt x rest) = ap (λ l. t.a_stm (stmt_of x) l) (many_stmts _ rest)

abbrev stmts_in : Stmt → (n : Count) × Row_of-Stmt n
stmts_in (Block' _ row) = (_, row)
stmts_in _ = (_, end_of-Stmt)

pub block_rows : (xs : Vec Stmt Global) → stmt_of (Block xs) ≡ t.block (rows_of xs)
block_rows xs =
    let row = stmts_in (Block xs) in
    ap (λ l. t.block l) (many_stmts row.0 row.1 ∙ ap (λ l. t.stms (map stmt_of l)) (items_hidden-the_row-Stmt-0 xs))

pub stms_snoc : (xs : List Stmt) (x : Stmt) → t.stms (map stmt_of (xs ++ (x ∷ []))) ≡ and_statement (t.stms (map stmt_of xs)) (stmt_of x)
stms_snoc [] x = refl
stms_snoc (y ∷ ys) x = ap (λ l. t.a_stm (stmt_of y) l) (stms_snoc ys x)

pub exps_snoc : (xs : List Expr) (x : Expr) → list_exps (xs ++ (x ∷ [])) ≡ and_then (list_exps xs) (expr_of x)
exps_snoc [] x = refl
exps_snoc (y ∷ ys) x = ap (λ l. t.an_exp (expr_of y) l) (exps_snoc ys x)
