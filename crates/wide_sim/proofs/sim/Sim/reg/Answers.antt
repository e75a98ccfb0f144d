use Rattle.std.proofs.Common.{rules}
use Rattle.wide_sim.proofs.Starts.{reg_is}
use Rattle.wide_sim.proofs.sim.Sim.reg.Goals as goal

pub returns-clause-value : goal.returns-clause-value
returns-clause-value g c = reg_is c.args.self.now c.args.reg c.reg.result (search rules)
