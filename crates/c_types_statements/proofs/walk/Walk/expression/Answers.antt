use Rattle.c_ast.specs.TreeViews as source
use Rattle.c_typed.specs.Tree as t
use Rattle.c_types_expressions.specs.Expressions.{literals, effect}
use Rattle.c_types_statements.specs.Statements.{past_texts}
use Rattle.c_types_statements.proofs.Behind.{past_expression}
use Rattle.c_types_statements.proofs.Typed.{begins, with_part, typed_as}
use Rattle.c_types_statements.proofs.walk.Walk.expression.Goals as goal

pub returns : goal.returns
returns c =
    let x = source.expr_of c.args.e.now in
    typed_as (past_expression c.args.place x c.args.self.now.at) c.expression.ensures
    (with_part (λ Γ at. Γ) (λ Γ at. past_texts (literals x) at) (λ Γ at. effect Γ at.texts x)
    (begins c.args.place (λ n. t.expression n) c.in_ok-number.ensures.number c.in_ok-number.ensures.noted) c.in_ok-x.ensures)
