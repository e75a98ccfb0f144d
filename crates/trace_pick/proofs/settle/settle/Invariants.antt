use Rattle.std.proofs.Common.{◌≡◌, ◌<◌, ℕ, List, Option, None, length}
use Rattle.std.specs.Prelude.{slice_set}
use Rattle.std.specs.List.{sum_by}
use Rattle.tac_core.specs.declared.code.TacFunc.{TacFunc}
use Rattle.tac_core.specs.declared.counts.FuncCounts.{FuncCounts}
use Rattle.trace_pick.specs.Settled.{CanSettle, IsSettlingAt}
use Rattle.trace_pick.specs.Tables.{AreLow}
use Rattle.trace_pick.proofs.Settling.{unsummed}
use Rattle.trace_pick.proofs.settle.settle.Given as goal

abbrev pub invariant-along : goal.invariant-along
invariant-along l =
    record {
      many : length l.sums ≡ length l.fn.sums;
      at_in : l.at < length l.fn.sums;
      low : AreLow l.sums;
      walked : (f : TacFunc) (c : FuncCounts) (cut : List (Option ℕ)) → CanSettle f c l.blocks l.next cut l.fn.sums l.first → IsSettlingAt f c (slice_set cut l.first None) l.fn.sums l.sums l.first l.at;
    }

abbrev pub decreases-along : goal.decreases-along
decreases-along l = sum_by unsummed l.sums
