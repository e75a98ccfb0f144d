use Rattle.std.proofs.Common.{refl, sym, ap, pos}
use Rattle.wide_core.specs.declared.code.Tagged.TheVariants.{Clear}
use Rattle.wide_sim.specs.Effects.{written}
use Rattle.wide_sim.specs.Store.{held}
use Rattle.wide_sim.proofs.Turns.{written_by_others, saved_by_others}
use Rattle.wide_sim.proofs.word.write_effect.Goals as goal

pub returns-in-Save-clause-places : goal.returns-in-Save-clause-places
returns-in-Save-clause-places c = ap (λ f. written f (held (Clear (pos 0)) c.args.values.now)) (sym c.in-Save.is)

pub returns-in_default : goal.returns-in_default
returns-in_default c = record {
  places = written_by_others c.args.effect.now (held (Clear (pos 0)) c.args.values.now) c.in_default.not-Write;
  memory = saved_by_others c.args.effect.now c.args.memory.now c.in_default.not-Save;
  regs = refl;
  slots = refl;
}
