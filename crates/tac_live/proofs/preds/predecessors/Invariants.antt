use Rattle.tac_live.specs.Preds.{ArePreds}
use Rattle.tac_live.proofs.preds.predecessors.Given as goal

abbrev pub invariant-loop-label : goal.invariant-loop-label
invariant-loop-label l = ArePreds l.func.blocks l.label l.lists.items
