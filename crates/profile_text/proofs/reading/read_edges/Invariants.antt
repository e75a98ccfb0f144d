use Rattle.std.proofs.Common.{◌≤◌, ◌+◌, length}
use Rattle.profile_text.specs.Matching.{lines_in}
use Rattle.profile_text.specs.Reading.{ReadsEdges}
use Rattle.profile_text.proofs.reading.read_edges.Given as goal

abbrev pub decreases-edges : goal.decreases-edges
decreases-edges l = length l.lines.left.now

abbrev pub invariant-edges : goal.invariant-edges
invariant-edges l = ReadsEdges l.func l.fn.lines.number l.lines.number (lines_in l.fn.lines.left.now) (lines_in l.lines.left.now) l.edges × (l.lines.number + length l.lines.left.now ≤ 33554434)
