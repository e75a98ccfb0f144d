use Rattle.std.proofs.Common.{◌≡◌, take}
use Rattle.tail_dup.specs.Duplicated.{tails}
use Rattle.tail_dup.specs.Tables.{is_entered}
use Rattle.tail_dup.proofs.copies.copied_blocks.Given as goal

abbrev pub invariant-loop-chain : goal.invariant-loop-chain
invariant-loop-chain l = l.copies ≡ tails (is_entered l.entered) (take l.chain-index l.chains)
