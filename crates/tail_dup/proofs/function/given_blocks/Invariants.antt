use Rattle.tail_dup.specs.Tables.{AreGiven}
use Rattle.tail_dup.proofs.function.given_blocks.Given as goal

abbrev pub invariant-loop-i : goal.invariant-loop-i
invariant-loop-i l = AreGiven l.blocks l.before l.copies l.i l.made
