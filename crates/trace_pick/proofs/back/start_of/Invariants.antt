use Rattle.std.proofs.Common.{◌≡◌, ◌<◌, length}
use Rattle.std.specs.List.{sum_by}
use Rattle.tac_core.specs.declared.code.TacFunc.{TacFunc}
use Rattle.tac_core.specs.declared.counts.FuncCounts.{FuncCounts}
use Rattle.trace_pick.specs.Settled.{CanWalkBack, IsWalkBack}
use Rattle.trace_pick.proofs.WalkedBack.{unpassed}
use Rattle.trace_pick.proofs.back.start_of.Given as goal

abbrev pub invariant-back : goal.invariant-back
invariant-back l =
    record {
      many : length l.seen ≡ length l.fn.seen;
      at_in : l.at < length l.fn.seen;
      first_in : l.first < length l.fn.seen;
      walked : (f : TacFunc) (c : FuncCounts) → CanWalkBack f c l.prior l.weights l.fn.seen l.label → IsWalkBack f c l.fn.seen l.seen l.label l.at l.first;
    }

abbrev pub decreases-back : goal.decreases-back
decreases-back l = sum_by unpassed l.seen
