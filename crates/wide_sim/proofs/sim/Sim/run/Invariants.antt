use Rattle.std.proofs.Common.{◌≡◌, ◌+◌}
use Rattle.ib_run.specs.OverHost.{OverHost}
use Rattle.wide_sim.specs.declared.outcome.Stepped.TheVariants.{Going}
use Rattle.wide_sim.specs.Simulation.{Leads}
use Rattle.wide_sim.proofs.sim.Sim.run.Given as goal

abbrev pub invariant-loop-done : goal.invariant-loop-done
invariant-loop-done g l = record {
  leads : OverHost (Leads g.M.Machine.latency_of l._done l.initial.self l.self) (g.H.Host.world l.initial.host) (g.H.Host.world l.host);
  going : l.self.stepped ≡ Going;
  same_code : l.self.code ≡ l.initial.self.code;
  count : l.self.cycle ≡ l.initial.self.cycle + l._done;
  count_stands : g.H.Host.faults l.host ≡ g.H.Host.faults l.initial.host;
  sure : g.H.Host.sure l.initial.host → g.H.Host.sure l.host;
}
