use Rattle.std.proofs.Common.{◌≡◌, drop}
use Rattle.tail_dup.specs.Duplicated.{from_first}
use Rattle.tail_dup.specs.Tables.{is_entered}
use Rattle.tail_dup.proofs.copies.first_entrance.Given as goal

abbrev pub invariant-loop-i : goal.invariant-loop-i
invariant-loop-i l = from_first (is_entered l.entered) (drop l.i l.chain) ≡ from_first (is_entered l.entered) l.chain
