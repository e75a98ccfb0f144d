use Rattle.std.proofs.Common.{◌≡◌, ◌+◌, drop}
use Rattle.wide_core.specs.Parts.{number_of_main}
use Rattle.wide_sim.proofs.start.number_of_main.Given as goal

abbrev pub invariant-loop-i : goal.invariant-loop-i
invariant-loop-i l = number_of_main l.funcs ≡ l.i + number_of_main (drop l.i l.funcs)
