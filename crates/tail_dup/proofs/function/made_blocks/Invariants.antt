use Rattle.tail_dup.specs.Tables.{AreMade}
use Rattle.tail_dup.proofs.function.made_blocks.Given as goal

abbrev pub invariant-loop-i : goal.invariant-loop-i
invariant-loop-i l = AreMade l.blocks l.copied l.before l.copies l.i l.made
