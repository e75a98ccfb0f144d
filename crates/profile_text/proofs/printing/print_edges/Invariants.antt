use Rattle.std.proofs.Common.{◌≡◌, ◌++◌, ◌<◌, ℕ, map, drop, slice_index_or}
use Rattle.tac_core.specs.declared.edges.Edge.{Edge}
use Rattle.profile_text.specs.ProfileText.{ended, edge_line, HasLabels}
use Rattle.profile_text.proofs.printing.print_edges.Given as goal

abbrev pub invariant-loop-edge : goal.invariant-loop-edge
invariant-loop-edge l = (l.text.items ++ ended (map edge_line (drop l.edge-index l.edges)) ≡ l.fn.text.items ++ ended (map edge_line l.edges)) × ((k : ℕ) (d : Edge) → k < l.edge-index → HasLabels (slice_index_or l.edges k d))
