use Rattle.std.proofs.Common.{◌≤◌, length}
use Rattle.sb_form.specs.Heads.{AreHeads}
use Rattle.sb_form.proofs.heads.heads_of.Given as goal

abbrev pub invariant-loop-left : goal.invariant-loop-left
invariant-loop-left l =
    record { heads : AreHeads l.blocks l.chains l.left l.heads; within : l.left ≤ length l.chains }

abbrev pub decreases-loop-left : goal.decreases-loop-left
decreases-loop-left l = l.left
