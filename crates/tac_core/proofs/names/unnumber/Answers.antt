use Rattle.std.proofs.Common.{arith}
use Rattle.tac_core.proofs.Named.{unnumbered_more}
use Rattle.tac_core.proofs.names.unnumber.Goals as goal

pub loop-func-preserved : goal.loop-func-preserved
loop-func-preserved c = unnumbered_more _ _ _ _ _ (omega (arith, c.loop-func-test.true, c.loop-func.auto.funcs)) c.without_number-func.ensures c.loop-func.invariant
