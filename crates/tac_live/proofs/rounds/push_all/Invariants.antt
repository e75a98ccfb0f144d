use Rattle.std.proofs.Common.{◌≡◌, ◌++◌, take}
use Rattle.tac_live.proofs.rounds.push_all.Given as goal

abbrev pub invariant-loop-label : goal.invariant-loop-label
invariant-loop-label l = l.next ≡ l.fn.next ++ take l.label-index l.labels
