use Rattle.c_ast.specs.TreeViews as source
use Rattle.c_typed.specs.Tree as t
use Rattle.c_types_statements.specs.Statements.{past_texts, literals_maybe, returned}
use Rattle.c_types_statements.proofs.Behind.{past_return}
use Rattle.c_types_statements.proofs.Typed.{begins, with_part, typed_as}
use Rattle.c_types_statements.proofs.walk.Walk.return_stmt.Goals as goal

pub returns : goal.returns
returns c =
    let x = source.part_of c.args.value.now in
    typed_as (past_return c.args.place x c.args.self.now.at) c.return_of.ensures
    (with_part (λ Γ at. Γ) (λ Γ at. past_texts (literals_maybe x) at) (λ Γ at. returned c.args.gives Γ at.texts c.args.place x)
    (begins c.args.place (λ n. t.return n) c.in_ok-number.ensures.number c.in_ok-number.ensures.noted) c.in_ok-part.ensures)
