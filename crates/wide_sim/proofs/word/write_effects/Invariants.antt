use Rattle.std.proofs.Common.{◌≡◌, length, drop, pos}
use Rattle.wide_core.specs.declared.code.Tagged.TheVariants.{Clear}
use Rattle.wide_sim.specs.Effects.{memory_after, places_after}
use Rattle.wide_sim.specs.Store.{held}
use Rattle.wide_sim.proofs.word.write_effects.Given as goal

abbrev pub invariant-loop-effect : goal.invariant-loop-effect
invariant-loop-effect l = record {
  places : places_after (drop l.effect-index l.plan) (held (Clear (pos 0)) l.values) ≡ places_after l.plan (held (Clear (pos 0)) l.initial.values);
  memory : memory_after (drop l.effect-index l.plan) l.memory ≡ memory_after l.plan l.initial.memory;
  regs : length l.values.regs ≡ length l.initial.values.regs;
  slots : length l.values.slots ≡ length l.initial.values.slots;
}
