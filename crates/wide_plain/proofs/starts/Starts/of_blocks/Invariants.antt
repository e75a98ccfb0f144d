use Rattle.wide_plain.proofs.Tables.{Filled}
use Rattle.wide_plain.proofs.starts.Starts.of_blocks.Given as goal

abbrev pub invariant-loop-block : goal.invariant-loop-block
invariant-loop-block l = Filled l.homes.low l.blocks l.block-index l.of l.behind
