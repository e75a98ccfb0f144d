use Rattle.std.proofs.Common.{rules}
use Rattle.profile.proofs.Tables.{all_taken}
use Rattle.profile.proofs.tallies.Tallies.counts.Goals as goal

pub keep-requires : goal.keep-requires
keep-requires c = all_taken c.deref-tally-items.result.now c.loop-tally.funcs c.loop-tally.tally-index (search rules) (search rules) (search rules)
