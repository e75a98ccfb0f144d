use Rattle.std.proofs.Common.{◌≡◌, drop}
use Rattle.wide_sim.specs.declared.planned.Planned.TheVariants.{Idle}
use Rattle.wide_sim.specs.Effects.{turn_after}
use Rattle.wide_sim.proofs.word.turn_of.Given as goal

abbrev pub invariant-loop-effect : goal.invariant-loop-effect
invariant-loop-effect l = turn_after l.turn (drop l.effect-index l.plan) ≡ turn_after Idle l.plan
