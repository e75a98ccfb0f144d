use Rattle.c_ast.specs.TreeViews as source
use Rattle.c_types_expressions.specs.Expressions.{literals, value}
use Rattle.c_types_statements.specs.Statements.{past_texts}
use Rattle.c_types_statements.proofs.Typed.{passes_after}
use Rattle.c_types_statements.proofs.walk.Walk.wrong_value.Goals as goal

pub returns : goal.returns
returns c =
    let x = source.expr_of c.args.e.now in
    passes_after (λ Γ at. Γ) (λ Γ at. past_texts (literals x) at) (λ Γ at. value Γ at.texts x) c.keeps.ensures c.in_ok-value.ensures
