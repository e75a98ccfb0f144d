use Rattle.std.proofs.Common.{◌≡◌, take}
use Rattle.tac_core.specs.Cover.{origins_through}
use Rattle.tac_core.proofs.chained_origins.through.Given as goal

abbrev pub invariant-loop-label : goal.invariant-loop-label
invariant-loop-label l = l.list ≡ origins_through (take l.label-index l.first) l.second
