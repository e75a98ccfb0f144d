use Rattle.std.proofs.Common.{◌≡◌, take}
use Rattle.tail_dup.proofs.function.same_chains.Given as goal

abbrev pub invariant-loop-chain : goal.invariant-loop-chain
invariant-loop-chain l = l.list ≡ take l.chain-index l.chains
