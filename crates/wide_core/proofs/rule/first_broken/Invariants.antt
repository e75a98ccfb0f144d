use Rattle.std.proofs.Common.{◌≡◌, drop, slice_get}
use Rattle.wide_core.specs.Valid.{broken}
use Rattle.wide_core.proofs.rule.first_broken.Given as goal

abbrev pub invariant-loop-rule : goal.invariant-loop-rule
invariant-loop-rule l = slice_get (broken l.line (drop l.rule-index l.rules)) 0 ≡ slice_get (broken l.line l.rules) 0
