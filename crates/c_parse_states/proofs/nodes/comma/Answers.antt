use Rattle.std.proofs.Common.{◌∙◌, ap}
use Rattle.c_ast.specs.TreeViews.{expr_of}
use Rattle.c_ast.proofs.Rows.{comma_exprs}
use Rattle.c_parse_states.proofs.nodes.comma.Goals as goal

pub returns : goal.returns
returns c = ap expr_of c.in_ok-made.ensures ∙ comma_exprs c.args.place c.args.parts
