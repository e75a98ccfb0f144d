use Rattle.std.proofs.Common.{◌≡◌, drop, length, take}
use Rattle.wide_sim.specs.Effects.{Asked}
use Rattle.wide_sim.proofs.ask.ask.Given as goal

abbrev pub invariant-loop-i : goal.invariant-loop-i
invariant-loop-i g l = record {
  len : length l.plan ≡ length l.initial.plan;
  asked : Asked (take l.i l.initial.plan) (take l.i l.plan) (g.H.Host.world l.initial.host) (g.H.Host.world l.host);
  rest : drop l.i l.plan ≡ drop l.i l.initial.plan;
  count_stands : g.H.Host.faults l.host ≡ g.H.Host.faults l.initial.host;
  sure : g.H.Host.sure l.initial.host → g.H.Host.sure l.host;
}
