use Rattle.std.proofs.Common.{◌≡◌, drop}
use Rattle.std.specs.List.{list_any}
use Rattle.wide_sim.specs.Effects.{asks}
use Rattle.wide_sim.proofs.ask.any_asks.Given as goal

abbrev pub invariant-loop-effect : goal.invariant-loop-effect
invariant-loop-effect l = list_any asks (drop l.effect-index l.plan) ≡ list_any asks l.plan
