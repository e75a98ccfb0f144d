use Rattle.std.proofs.Common.{drop}
use Rattle.first_code.proofs.Totals.{IsInTotal}
use Rattle.first_code.proofs.maker.CodeMaker.total.Given as goal

abbrev pub invariant-loop-addend : goal.invariant-loop-addend
invariant-loop-addend l = IsInTotal l.initial.self l.self l.initial.value l.rest l.value (drop l.addend-index l.rest)
