use Rattle.std.proofs.Common.{◌∙◌, ap}
use Rattle.c_ast.specs.TreeViews.{stmt_of}
use Rattle.c_ast.proofs.Rows.{block_stmts}
use Rattle.c_parse_states.proofs.nodes.block.Goals as goal

pub returns : goal.returns
returns c = ap stmt_of c.in_ok-made.ensures ∙ block_stmts c.args.place c.args.stmts
