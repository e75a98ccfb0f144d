use Rattle.std.proofs.Common.{◌≡◌, take}
use Rattle.profile.specs.Tallies.{edges_from}
use Rattle.profile.proofs.tallies.all_edges.Given as goal

abbrev pub invariant-loop-i : goal.invariant-loop-i
invariant-loop-i l = l.edges ≡ edges_from 0 (take l.i l.fn.func.blocks)
