use Rattle.tail_dup.specs.Tables.{AreEntered}
use Rattle.tail_dup.proofs.entrances.side_entered.Given as goal

abbrev pub invariant-loop-i : goal.invariant-loop-i
invariant-loop-i l = AreEntered l.blocks l.before l.i l.entered
