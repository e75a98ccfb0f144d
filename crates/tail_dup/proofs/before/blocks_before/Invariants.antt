use Rattle.tail_dup.proofs.Filled.{AreJoined}
use Rattle.tail_dup.proofs.before.blocks_before.Given as goal

abbrev pub invariant-loop-chain : goal.invariant-loop-chain
invariant-loop-chain l = AreJoined l.blocks l.chains l.chain-index l.before
