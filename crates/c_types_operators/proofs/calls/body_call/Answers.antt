use Rattle.std.proofs.Common.{ap, ◌∙◌}
use Rattle.c_typed.specs.Views.{expr_of}
use Rattle.c_types_operators.proofs.TypedRows.{call_exprs}
use Rattle.c_types_operators.proofs.calls.body_call.Goals as goal

pub returns : goal.returns
returns c = ap expr_of c.in_ok-made.ensures ∙ call_exprs c.args.gives c.args.number c.args.arguments
