use Rattle.std.proofs.Common.{◌∙◌, refl, arith}
use Rattle.wide_sim.proofs.Runs.{begins_so, goes_on, leads_more, leads_none, ran_over, stops_here}
use Rattle.wide_sim.proofs.sim.Sim.run.Goals as goal

pub loop-done-init : goal.loop-done-init
loop-done-init g c = record {
  leads = leads_none g.M.Machine.latency_of c.args.self.now (g.H.Host.world c.args.host.now);
  going = goes_on c.args.self.now.stepped c.finished.result c.finished.ensures c.if-finished.false;
  same_code = refl;
  count = omega arith;
  count_stands = refl;
  sure = λ s. s;
}

pub returns-in-Err-clause-begins : goal.returns-in-Err-clause-begins
returns-in-Err-clause-begins g c =
    begins_so g.M.Machine.latency_of c.loop-done._done c.args.self.now c.loop-done.self c.go.new.self (g.H.Host.world c.args.host.now) (g.H.Host.world c.loop-done.host) (g.H.Host.world c.go.new.host) c.loop-done.invariant.same_code c.loop-done.invariant.leads c.args.cycles c.loop-done-test.true c.in-Err.ensures.broken

pub returns-then-finished-2-clause-ok : goal.returns-then-finished-2-clause-ok
returns-then-finished-2-clause-ok g c =
    λ going. ran_over g.M.Machine.latency_of c.loop-done._done c.args.self.now c.loop-done.self c.go.new.self (g.H.Host.world c.args.host.now) (g.H.Host.world c.loop-done.host) (g.H.Host.world c.go.new.host) c.loop-done.invariant.same_code c.loop-done.invariant.leads c.args.cycles c.outcome-then-finished-2.result c.go.new.self.cycle c.loop-done-test.true (let one = c.in-Ok.ensures.counted in let before = c.loop-done.invariant.count in omega arith)
    (stops_here c.go.new.self.stepped c.finished-in-loop-done.result c.finished-in-loop-done.ensures c.if-finished-2.true) c.outcome-then-finished-2.ensures c.in-Ok.ensures.cycle

pub loop-done-preserved : goal.loop-done-preserved
loop-done-preserved g c =
    let going = goes_on c.go.new.self.stepped c.finished-in-loop-done.result c.finished-in-loop-done.ensures c.if-finished-2.false in
    record {
      leads = leads_more g.M.Machine.latency_of c.loop-done._done c.args.self.now c.loop-done.self c.go.new.self (g.H.Host.world c.args.host.now) (g.H.Host.world c.loop-done.host) (g.H.Host.world c.go.new.host) c.loop-done.invariant.same_code c.loop-done.invariant.leads going c.in-Ok.ensures.cycle;
      going = going;
      same_code = c.in-Ok.ensures.code ∙ c.loop-done.invariant.same_code;
      count = let one = c.in-Ok.ensures.counted in let before = c.loop-done.invariant.count in omega arith;
      count_stands = c.in-Ok.ensures.cause.done refl ∙ c.loop-done.invariant.count_stands;
      sure = λ s. c.in-Ok.ensures.still_sure (c.loop-done.invariant.sure s);
    }
