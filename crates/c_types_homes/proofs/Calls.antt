-- Nodes that hold a list of expressions.
use Rattle.std.proofs.Common.{◌≡◌, ℕ, ◌+◌, ◌*◌, ◌<◌, List, map, sym, ap, ◌∙◌, subst, arith, Vec, Global}
use Rattle.ib_meaning.specs.declared.place.Place.{Place}
use Rattle.c_ast.specs.declared.tree.Expr.{Expr, Call, Comma}
use Rattle.c_ast.specs.Trees.{Exp, exps}
use Rattle.c_ast.specs.TreeViews.{expr_of}
use Rattle.c_ast.proofs.Rows.{call_exprs, comma_exprs}
use Rattle.c_types_homes.specs.Addressed.{Names, taken, taken_of}
use Rattle.c_types_homes.proofs.Weights.{weight, weights}

abbrev Lighter : List Expr → Exp → Type 0
Lighter list e = 3 * weights (exps (map expr_of list)) + 1 < 3 * weight e

pub call_lighter : (e : Expr) (list : List Expr) (place : Place) (f : List ℕ) (xs : Vec Expr Global) → e ≡ Call place f xs → list ≡ xs.items → Lighter list (expr_of e)
call_lighter e list place f xs is same =
    subst (λ l. Lighter l (expr_of e)) (sym same) (subst (λ x. Lighter xs.items x) (sym (ap expr_of is ∙ call_exprs place f xs)) (omega arith))

pub comma_lighter : (e : Expr) (list : List Expr) (place : Place) (xs : Vec Expr Global) → e ≡ Comma place xs → list ≡ xs.items → Lighter list (expr_of e)
comma_lighter e list place xs is same =
    subst (λ l. Lighter l (expr_of e)) (sym same) (subst (λ x. Lighter xs.items x) (sym (ap expr_of is ∙ comma_exprs place xs)) (omega arith))

pub call_taken : (names : Names) (e : Expr) (list : List Expr) (place : Place) (f : List ℕ) (xs : Vec Expr Global) → e ≡ Call place f xs → list ≡ xs.items → taken names (expr_of e) ≡ taken_of names (exps (map expr_of list))
call_taken names e list place f xs is same =
    ap (taken names) (ap expr_of is ∙ call_exprs place f xs) ∙ ap (λ l. taken_of names (exps (map expr_of l))) (sym same)

pub comma_taken : (names : Names) (e : Expr) (list : List Expr) (place : Place) (xs : Vec Expr Global) → e ≡ Comma place xs → list ≡ xs.items → taken names (expr_of e) ≡ taken_of names (exps (map expr_of list))
comma_taken names e list place xs is same =
    ap (taken names) (ap expr_of is ∙ comma_exprs place xs) ∙ ap (λ l. taken_of names (exps (map expr_of l))) (sym same)
