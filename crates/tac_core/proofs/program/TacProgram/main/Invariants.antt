use Rattle.tac_core.proofs.Lists.{NoneNamed}
use Rattle.tac_core.proofs.program.TacProgram.main.Given as goal

abbrev pub invariant-loop-i : goal.invariant-loop-i
invariant-loop-i l = NoneNamed l.func-items l.i
