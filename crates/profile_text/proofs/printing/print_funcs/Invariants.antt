use Rattle.std.proofs.Common.{◌≡◌, ◌++◌, ◌<◌, ◌^◌, ℕ, length, drop, slice_index_or}
use Rattle.std.specs.List.{All}
use Rattle.tac_core.specs.declared.code.TacFunc.{TacFunc}
use Rattle.tac_core.specs.declared.counts.FuncCounts.{FuncCounts}
use Rattle.profile_text.specs.ProfileText.{ended, funcs_lines, HasLabels}
use Rattle.profile_text.proofs.printing.print_funcs.Given as goal

abbrev pub invariant-loop-i : goal.invariant-loop-i
invariant-loop-i l =
    (l.text.items ++ ended (funcs_lines (drop l.i l.funcs) (drop l.i l.counts)) ≡ l.fn.text.items ++ ended (funcs_lines l.funcs l.counts))
    × ((k : ℕ) (d : FuncCounts) → k < l.i → All HasLabels (slice_index_or l.counts k d).edges)
    × ((k : ℕ) (d : TacFunc) → k < l.i → length (slice_index_or l.funcs k d).blocks < 2 ^ 64)
