use Rattle.tail_dup.specs.Tables.{AreParts}
use Rattle.tail_dup.proofs.program.duplicates.Given as goal

abbrev pub invariant-loop-i : goal.invariant-loop-i
invariant-loop-i l = AreParts l.all l.given l.i l.funcs l.traces l.origins
