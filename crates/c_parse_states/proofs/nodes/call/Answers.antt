use Rattle.std.proofs.Common.{◌∙◌, ap}
use Rattle.c_ast.specs.TreeViews.{expr_of}
use Rattle.c_ast.proofs.Rows.{call_exprs}
use Rattle.c_parse_states.proofs.nodes.call.Goals as goal

pub returns : goal.returns
returns c = ap expr_of c.in_ok-made.ensures ∙ call_exprs c.args.place c.args.name c.args.arguments
