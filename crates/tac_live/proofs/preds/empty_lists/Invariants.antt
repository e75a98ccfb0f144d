use Rattle.std.proofs.Common.{◌≡◌, length}
use Rattle.tac_live.proofs.preds.empty_lists.Given as goal

abbrev pub invariant-loop-label : goal.invariant-loop-label
invariant-loop-label l = length l.lists.items ≡ l._label
