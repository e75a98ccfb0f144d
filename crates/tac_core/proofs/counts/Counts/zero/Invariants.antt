use Rattle.std.proofs.Common.{◌≡◌, map, take}
use Rattle.tac_core.specs.Counts.{no_counts}
use Rattle.tac_core.proofs.counts.Counts.zero.Given as goal

abbrev pub invariant-loop-func : goal.invariant-loop-func
invariant-loop-func l = l.funcs ≡ map no_counts (take l._func-index l._func-items)
