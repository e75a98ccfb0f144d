use Rattle.std.proofs.Common.{◌≤◌}
use Rattle.tail_dup.specs.Tables.{IsJoined}
use Rattle.tail_dup.proofs.before.join.Given as goal

abbrev pub invariant-loop-i : goal.invariant-loop-i
invariant-loop-i l = IsJoined l.chain l.i l.fn.before l.before
