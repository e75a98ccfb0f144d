use Rattle.std.proofs.Common.{drop}
use Rattle.first_code.proofs.Products.{IsInProduct}
use Rattle.first_code.proofs.maker.CodeMaker.product.Given as goal

abbrev pub invariant-loop-multiplier : goal.invariant-loop-multiplier
invariant-loop-multiplier l = IsInProduct l.initial.self l.self l.initial.value l.rest l.value (drop l.multiplier-index l.rest)
