use Rattle.std.proofs.Common.{◌≡◌, length, drop}
use Rattle.c_types_functions.specs.Functions.{same_types}
use Rattle.c_types_functions.proofs.judging.same_types.Given as goal

abbrev pub invariant-loop-x : goal.invariant-loop-x
invariant-loop-x l = same_types (drop (length l.yielded) l.a) (drop (length l.yielded) l.b) ≡ same_types l.a l.b
