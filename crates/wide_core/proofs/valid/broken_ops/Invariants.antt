use Rattle.std.proofs.Common.{◌≡◌, ◌+◌, ◌++◌, [], drop, take, slice_get}
use Rattle.wide_core.specs.Valid.{numbers_of, of_ops}
use Rattle.wide_core.proofs.valid.broken_ops.Given as goal

abbrev pub invariant-loop-i : goal.invariant-loop-i
invariant-loop-i l = record {
  first : slice_get (of_ops l.scope l.numbers (take l.i l.ops) (l.line + l.i) (drop l.i l.ops)) 0 ≡ slice_get (of_ops l.scope l.initial.numbers [] l.line l.ops) 0;
  numbers : l.numbers ++ numbers_of (drop l.i l.ops) ≡ l.initial.numbers ++ numbers_of l.ops;
}
