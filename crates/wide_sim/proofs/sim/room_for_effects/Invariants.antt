use Rattle.std.proofs.Common.{◌≡◌, length}
use Rattle.wide_sim.proofs.sim.room_for_effects.Given as goal

abbrev pub invariant-loop-made : goal.invariant-loop-made
invariant-loop-made l = length l.plan.items ≡ l._made
