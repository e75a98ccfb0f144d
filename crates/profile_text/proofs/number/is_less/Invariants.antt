use Rattle.std.proofs.Common.{◌≡◌, drop}
use Rattle.profile_text.specs.Numbers.{digits_less}
use Rattle.profile_text.proofs.number.is_less.Given as goal

abbrev pub invariant-loop-i : goal.invariant-loop-i
invariant-loop-i l = digits_less (drop l.i l.left) (drop l.i l.right) ≡ digits_less l.left l.right
