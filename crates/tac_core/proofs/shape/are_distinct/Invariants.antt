use Rattle.std.proofs.Common.{take}
use Rattle.tac_core.specs.Rules.{AreDistinct}
use Rattle.tac_core.proofs.shape.are_distinct.Given as goal

abbrev pub invariant-loop-i : goal.invariant-loop-i
invariant-loop-i l = AreDistinct (take l.i l.params)
