use Rattle.std.proofs.Common.{refl}
use Rattle.c_ast.specs.TreeViews as source
use Rattle.c_types_statements.specs.Statements.{past_texts, literals_init, given_stored, first_value}
use Rattle.c_types_statements.proofs.Typed.{makes, with_part, typed_as}
use Rattle.c_types_statements.proofs.walk.Walk.stored_first.Goals as goal

pub returns-in_ok-part-in-Scalar : goal.returns-in_ok-part-in-Scalar
returns-in_ok-part-in-Scalar c =
    let x = source.init_of c.args.init.now in
    let ty = c.in-Scalar.ty in
    rw c.in-Scalar.is
    (typed_as refl c.in_ok-part-in-Scalar.ensures
    (with_part (λ Γ at. Γ) (λ Γ at. past_texts (literals_init x) at) (λ Γ at. first_value Γ at.texts c.args.place ty x) (makes (given_stored ty c.args.home)) c.in_ok-x-in-Scalar.ensures))
