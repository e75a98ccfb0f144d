use Rattle.std.proofs.Common.{refl, map}
use Rattle.c_ast.specs.TreeViews as source
use Rattle.c_typed.specs.Tree as t
use Rattle.c_types_statements.specs.Statements.{locals, with_locals}
use Rattle.c_types_statements.specs.Keeping.{past_locals}
use Rattle.c_types_statements.proofs.Typed.{begins, with_part, typed_as}
use Rattle.c_types_statements.proofs.walk.Walk.local_stmt.Goals as goal

pub returns : goal.returns
returns c =
    let ds = map source.decl_of c.args.list.now in
    typed_as refl c.local.ensures
    (with_part (λ Γ at. with_locals c.args.homes.now at.variable ds Γ) (λ Γ at. past_locals ds at) (λ Γ at. locals c.args.homes.now Γ at.variable at.texts ds)
    (begins c.args.place (λ n. t.local n) c.in_ok-number.ensures.number c.in_ok-number.ensures.noted) c.in_ok-values.ensures)
