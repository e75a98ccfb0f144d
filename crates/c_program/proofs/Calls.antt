-- Expressions that hold a list of expressions.
use Rattle.std.proofs.Common.{◌≡◌, ℕ, suc, ◌+◌, ◌*◌, ◌<◌, List, map, sym, ap, ◌∙◌, arith, Vec, Global}
use Rattle.ib_meaning.specs.declared.place.Place.{Place}
use Rattle.c_ast.specs.declared.tree.Expr.{Expr, Call, Comma}
use Rattle.c_ast.specs.Trees.{exps}
use Rattle.c_ast.specs.TreeViews.{expr_of}
use Rattle.c_ast.proofs.Rows.{call_exprs, comma_exprs}
use Rattle.c_program.specs.Nodes.{nodes, nodes_of}

abbrev in_list : List Expr → ℕ
in_list list = nodes_of (exps (map expr_of list))

pub call_counted : (e : Expr) (list : List Expr) (place : Place) (f : List ℕ) (xs : Vec Expr Global) → e ≡ Call place f xs → list ≡ xs.items → nodes (expr_of e) ≡ suc (in_list list)
call_counted e list place f xs is same = ap nodes (ap expr_of is ∙ call_exprs place f xs) ∙ ap (λ l. suc (in_list l)) (sym same)

pub comma_counted : (e : Expr) (list : List Expr) (place : Place) (xs : Vec Expr Global) → e ≡ Comma place xs → list ≡ xs.items → nodes (expr_of e) ≡ suc (in_list list)
comma_counted e list place xs is same = ap nodes (ap expr_of is ∙ comma_exprs place xs) ∙ ap (λ l. suc (in_list l)) (sym same)

pub call_lighter : (e : Expr) (list : List Expr) (place : Place) (f : List ℕ) (xs : Vec Expr Global) → e ≡ Call place f xs → list ≡ xs.items → 3 * in_list list + 1 < 3 * nodes (expr_of e)
call_lighter e list place f xs is same = let counted = call_counted e list place f xs is same in omega arith

pub comma_lighter : (e : Expr) (list : List Expr) (place : Place) (xs : Vec Expr Global) → e ≡ Comma place xs → list ≡ xs.items → 3 * in_list list + 1 < 3 * nodes (expr_of e)
comma_lighter e list place xs is same = let counted = comma_counted e list place xs is same in omega arith
