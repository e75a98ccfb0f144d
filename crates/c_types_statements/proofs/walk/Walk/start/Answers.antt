use Rattle.c_ast.specs.TreeViews as source
use Rattle.c_types_statements.specs.Statements.{past_texts, literals_maybe, effect_part, as_list}
use Rattle.c_types_statements.proofs.Behind.{past_start_part}
use Rattle.c_types_statements.proofs.Typed.{makes, with_part, typed_as}
use Rattle.c_types_statements.proofs.walk.Walk.start.Goals as goal

pub returns-in_ok-list-in-Expr : goal.returns-in_ok-list-in-Expr
returns-in_ok-list-in-Expr c =
    let x = source.part_of c.in-Expr.part in
    rw c.in-Expr.is
    (typed_as (past_start_part x c.args.self.now.at) c.in_ok-list-in-Expr.ensures
    (with_part (λ Γ at. Γ) (λ Γ at. past_texts (literals_maybe x) at) (λ Γ at. effect_part Γ at.texts x) (makes as_list) c.in_ok-x-in-Expr.ensures))
