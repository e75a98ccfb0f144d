use Rattle.std.proofs.Common.{drop}
use Rattle.first_code.proofs.Statements.{IsInBody}
use Rattle.first_code.proofs.maker.CodeMaker.body.Given as goal

abbrev pub invariant-loop-stmt : goal.invariant-loop-stmt
invariant-loop-stmt l = IsInBody l.initial.self l.self l.body l.declared (drop l.stmt-index l.body)
