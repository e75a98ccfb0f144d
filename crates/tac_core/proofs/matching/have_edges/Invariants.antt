use Rattle.std.proofs.Common.{ℕ, ◌<◌, slice_index_or}
use Rattle.tac_core.specs.declared.code.TacFunc.{TacFunc}
use Rattle.tac_core.specs.declared.counts.FuncCounts.{FuncCounts}
use Rattle.tac_core.specs.Counts.{HasEdges}
use Rattle.tac_core.proofs.matching.have_edges.Given as goal

abbrev pub invariant-loop-i : goal.invariant-loop-i
invariant-loop-i l = (k : ℕ) (c : FuncCounts) (f : TacFunc) → k < l.i → HasEdges (slice_index_or l.funcs k f) (slice_index_or l.counts k c).edges
