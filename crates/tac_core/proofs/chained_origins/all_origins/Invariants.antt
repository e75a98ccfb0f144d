use Rattle.std.proofs.Common.{◌≡◌, take}
use Rattle.tac_core.specs.Cover.{all_through}
use Rattle.tac_core.proofs.chained_origins.all_origins.Given as goal

abbrev pub invariant-loop-i : goal.invariant-loop-i
invariant-loop-i l = l.lists ≡ all_through (take l.i l.first) (take l.i l.second)
