use Rattle.std.proofs.Common.{rules}
use Rattle.profile.proofs.Tables.{edges_step}
use Rattle.profile.proofs.tallies.all_edges.Goals as goal

pub loop-i-preserved : goal.loop-i-preserved
loop-i-preserved c =
    edges_step c.loop-i.i c.in_ok-from.from c.args.func.now.blocks c.block-item.result c.loop-i.edges c.push_edges.new.edges (search rules) (search rules) (search rules) (search rules) (search rules)
