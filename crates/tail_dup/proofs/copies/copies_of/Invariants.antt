use Rattle.tail_dup.specs.Tables.{AreCopyLabels}
use Rattle.tail_dup.proofs.copies.copies_of.Given as goal

abbrev pub invariant-loop-i : goal.invariant-loop-i
invariant-loop-i l = AreCopyLabels l.blocks l.copies l.i l.of
