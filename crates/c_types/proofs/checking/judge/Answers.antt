use Rattle.c_ast.specs.TreeViews.{unit_of}
use Rattle.c_types_operators.specs.ScopeViews.{functions_of}
use Rattle.c_types_statements.proofs.Typed.{also_typed, kept_where}
use Rattle.c_types.specs.Making.{with_items}
use Rattle.c_types_units.specs.Units.{items, past_items}
use Rattle.c_types.specs.Views.{parts_of}
use Rattle.c_types.proofs.checking.judge.Goals as goal

pub returns : goal.returns
returns c =
    let xs = unit_of c.args.unit.now in
    also_typed (λ Γ at. with_items at xs Γ) (λ Γ at. past_items xs at) (λ Γ at. items (functions_of c.args.bodied.now) Γ at xs)
    c.in_ok-fine.ensures (rw c.deref.ensures.value at c.in_ok-made.ensures) (kept_where parts_of _ _ c.where_fine-answer.ensures)
