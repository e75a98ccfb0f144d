-- The lists of typed expressions, as the code holds them and as plain data.
use Rattle.std.proofs.Common.{◌≡◌, ℕ, refl, ◌∙◌, ap, Vec, Global, Box}
use Rattle.std.specs.Prelude.{map}
use mathlib.Core.Former.{Count}
use Rattle.c_typed.specs.declared.expr.Expr.{Expr, Call, Call', Comma, Comma', Row_of-Expr, end_of-Expr, more_of-Expr, items-the_row-Expr, items_hidden-the_row-Expr-0}
use Rattle.c_typed.specs.declared.types.ValueType.{ValueType}
use Rattle.c_typed.specs.Tree as t
use Rattle.c_typed.specs.Views.{expr_of, row_exps, list_exps}

many_exprs : (n : Count) (row : Row_of-Expr n) → row_exps row ≡ t.exps (map expr_of (items-the_row-Expr n row))
many_exprs n end_of-Expr = refl
many_exprs n (more_of-Expr x rest) = ap (λ l. t.an_exp (expr_of x) l) (many_exprs _ rest)

abbrev call_in : Expr → (n : Count) × Row_of-Expr n
call_in (Call' _ _ _ row) = (_, row)
call_in _ = (_, end_of-Expr)

pub call_exprs : (ty : ValueType) (f : ℕ) (xs : Vec Expr Global) → expr_of (Call ty f xs) ≡ t.call ty f (list_exps xs.items)
call_exprs ty f xs =
    let row = call_in (Call ty f xs) in
    ap (λ l. t.call ty f l) (many_exprs row.0 row.1 ∙ ap list_exps (items_hidden-the_row-Expr-0 xs))

abbrev parts_in : Expr → (n : Count) × Row_of-Expr n
parts_in (Comma' _ row _ _) = (_, row)
parts_in _ = (_, end_of-Expr)

pub comma_exprs : (xs : Vec Expr Global) (last : Box Expr Global) → expr_of (Comma xs last) ≡ t.comma (list_exps xs.items) (expr_of last.value)
comma_exprs xs last =
    let row = parts_in (Comma xs last) in
    ap (λ l. t.comma l (expr_of last.value)) (many_exprs row.0 row.1 ∙ ap list_exps (items_hidden-the_row-Expr-0 xs))
