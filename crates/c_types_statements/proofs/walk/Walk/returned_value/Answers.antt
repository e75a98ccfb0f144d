use Rattle.std.proofs.Common.{◌≡◌, refl, false}
use Rattle.c_ast.specs.TreeViews as source
use Rattle.c_typed.specs.Tree as t
use Rattle.c_typed.specs.ValueTypes.{is_void}
use Rattle.c_types_expressions.specs.Expressions.{literals, stored_value}
use Rattle.c_types_statements.specs.Statements.{past_texts}
use Rattle.c_types_statements.proofs.Typed.{makes, with_part, typed_as}
use Rattle.c_types_statements.proofs.walk.Walk.returned_value.Goals as goal

pub returns : goal.returns
returns c =
    let x = source.expr_of c.args.e.now in
    let gives_value : is_void c.args.gives ≡ false = cc in
    rw gives_value (typed_as refl c.given.ensures
    (with_part (λ Γ at. Γ) (λ Γ at. past_texts (literals x) at) (λ Γ at. stored_value Γ at.texts c.args.gives x) (makes (λ y. t.given y)) c.in_ok-x.ensures))
