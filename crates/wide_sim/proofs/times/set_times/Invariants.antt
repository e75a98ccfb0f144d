use Rattle.std.proofs.Common.{◌≡◌, length, drop}
use Rattle.wide_core.specs.Cycle.{times_after}
use Rattle.wide_sim.specs.Store.{held}
use Rattle.wide_sim.proofs.times.set_times.Given as goal

abbrev pub invariant-loop-op : goal.invariant-loop-op
invariant-loop-op g l = record {
  times : times_after g.M.Machine.latency_of l.now (drop l.op-index l.ops) (held 0 l.ready) ≡ times_after g.M.Machine.latency_of l.now l.ops (held 0 l.initial.ready);
  regs : length l.ready.regs ≡ length l.initial.ready.regs;
  slots : length l.ready.slots ≡ length l.initial.ready.slots;
}
