use Rattle.wide_sim.proofs.Runs.{run_begins, run_simulates}
use Rattle.wide_sim.proofs.from_start.simulate.Goals as goal

pub returns-in-Ok-clause-ok : goal.returns-in-Ok-clause-ok
returns-in-Ok-clause-ok g c =
    run_simulates g.M.Machine.latency_of c.args.code.now c.in-Ok.sim c.in-Ok.ensures c.run.new.self (g.H.Host.world c.args.host.now) (g.H.Host.world c.run.new.host) c.args.cycles c.run.result c.run.ensures.ok

pub returns-in-Ok-clause-broken : goal.returns-in-Ok-clause-broken
returns-in-Ok-clause-broken g c =
    run_begins g.M.Machine.latency_of c.args.code.now c.in-Ok.sim c.in-Ok.ensures c.run.new.self (g.H.Host.world c.args.host.now) (g.H.Host.world c.run.new.host) c.args.cycles c.run.result c.run.ensures.begins
