use Rattle.tac_live.proofs.Programs.{LiveSoFar}
use Rattle.tac_live.proofs.program.live_in.Given as goal

abbrev pub invariant-loop-func : goal.invariant-loop-func
invariant-loop-func l = LiveSoFar l.func-items l.sets l.func-index
