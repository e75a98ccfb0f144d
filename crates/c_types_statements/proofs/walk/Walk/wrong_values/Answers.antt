use Rattle.std.proofs.Common.{map}
use Rattle.c_ast.specs.TreeViews as source
use Rattle.c_ast.specs.Trees as tree
use Rattle.c_types_expressions.specs.Expressions.{literals_of, values}
use Rattle.c_types_statements.specs.Statements.{past_texts}
use Rattle.c_types_statements.proofs.Typed.{passes_after}
use Rattle.c_types_statements.proofs.walk.Walk.wrong_values.Goals as goal

pub returns : goal.returns
returns c =
    let xs = tree.exps (map source.expr_of c.args.list.now) in
    passes_after (λ Γ at. Γ) (λ Γ at. past_texts (literals_of xs) at) (λ Γ at. values Γ at.texts xs) c.keeps.ensures c.in_ok-values.ensures
