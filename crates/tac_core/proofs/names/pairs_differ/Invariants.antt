use Rattle.std.proofs.Common.{take}
use Rattle.tac_core.specs.Rules.{NamesDiffer}
use Rattle.tac_core.proofs.names.pairs_differ.Given as goal

abbrev pub invariant-loop-i : goal.invariant-loop-i
invariant-loop-i l = NamesDiffer (take l.i l.funcs)
