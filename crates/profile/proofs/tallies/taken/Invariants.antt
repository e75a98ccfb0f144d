use Rattle.std.proofs.Common.{◌≡◌, take}
use Rattle.std.specs.Prelude.{filter}
use Rattle.profile.specs.Tallies.{was_taken}
use Rattle.profile.proofs.tallies.taken.Given as goal

abbrev pub invariant-loop-edge : goal.invariant-loop-edge
invariant-loop-edge l = l.taken ≡ filter was_taken (take l.edge-index l.edges)
