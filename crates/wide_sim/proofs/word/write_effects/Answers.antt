use Rattle.std.proofs.Common.{◌∙◌, sym, pos, arith}
use Rattle.wide_core.specs.declared.code.Tagged.TheVariants.{Clear}
use Rattle.wide_sim.specs.Store.{held}
use Rattle.wide_sim.proofs.Turns.{places_step, memory_step, places_end}
use Rattle.wide_sim.proofs.word.write_effects.Goals as goal

pub loop-effect-preserved : goal.loop-effect-preserved
loop-effect-preserved c =
    let i = c.loop-effect.invariant in
    let k = c.write_effect.ensures in
    record {
      places = places_step c.args.plan.now c.loop-effect.effect-index _ c.loop-effect-test.true (held (Clear (pos 0)) c.loop-effect.values) (held (Clear (pos 0)) c.write_effect.new.values) k.places ∙ i.places;
      memory = memory_step c.args.plan.now c.loop-effect.effect-index _ c.loop-effect-test.true c.loop-effect.memory c.write_effect.new.memory k.memory ∙ i.memory;
      regs = k.regs ∙ i.regs;
      slots = k.slots ∙ i.slots;
    }

pub returns-clause-places : goal.returns-clause-places
returns-clause-places c =
    sym (places_end c.args.plan.now c.loop-effect.effect-index (held (Clear (pos 0)) c.loop-effect.values) (omega arith)) ∙ c.loop-effect.invariant.places
