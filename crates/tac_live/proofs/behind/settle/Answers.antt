use Rattle.std.proofs.Common.{get_or}
use Rattle.tac_live.proofs.Closed.{settles_by}
use Rattle.tac_live.proofs.Steps.{read_row}
use Rattle.tac_live.proofs.behind.settle.Goals as goal

pub returns-clause-settles : goal.returns-clause-settles
returns-clause-settles c =
    let rows = c.args.rows.now in
    let old = get_or rows c.args.label c.index-rows-label.result in
    settles_by c.args.block.now rows c.args.label old c.take_anew.new.live c.join.new.self c.join.result c.requires.there (read_row rows c.args.label c.index-rows-label.result c.requires.there) c.take_anew.ensures.holds c.join.ensures.holds c.join.ensures.same c.join.ensures.grows c.join.ensures.size
