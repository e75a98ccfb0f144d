use Rattle.tac_core.proofs.Found.{all_none_counted}
use Rattle.tac_core.proofs.counts.Counts.zero.Goals as goal

pub keep-requires : goal.keep-requires
keep-requires c = all_none_counted _ _ c.loop-func.invariant
