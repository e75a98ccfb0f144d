use Rattle.std.proofs.Common.{rules}
use Rattle.profile.proofs.Tables.{all_untallied}
use Rattle.profile.proofs.tallies.Tallies.new.Goals as goal

pub invariant_of-result : goal.invariant_of-result
invariant_of-result c = all_untallied c.args.tac.now c.funcs-func-items.result.now c.before.loop-func.funcs.items c.before.loop-func.func-index (search rules) (search rules) (search rules) (search rules)
