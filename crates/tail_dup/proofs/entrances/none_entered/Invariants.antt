use Rattle.std.proofs.Common.{◌≡◌, false, replicate}
use Rattle.tail_dup.proofs.entrances.none_entered.Given as goal

abbrev pub invariant-loop-block : goal.invariant-loop-block
invariant-loop-block l = l.list ≡ replicate l._block false
