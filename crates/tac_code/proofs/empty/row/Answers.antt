use Rattle.std.proofs.Common.{◌∙◌, ap}
use Rattle.tac_code.specs.Views.{code_of}
use Rattle.tac_code.proofs.Rows.{view_row}
use Rattle.tac_code.proofs.empty.row.Goals as goal

pub returns : goal.returns
returns c = ap code_of c.in_ok-made.ensures ∙ view_row c.args.first c.args.last
