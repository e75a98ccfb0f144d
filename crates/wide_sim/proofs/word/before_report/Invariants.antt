use Rattle.std.proofs.Common.{◌≡◌, ◌++◌, drop, take}
use Rattle.wide_sim.specs.Effects.{before_report}
use Rattle.wide_sim.proofs.word.before_report.Given as goal

abbrev pub invariant-loop-i : goal.invariant-loop-i
invariant-loop-i l = before_report l.plan ≡ take l.i l.plan ++ before_report (drop l.i l.plan)
