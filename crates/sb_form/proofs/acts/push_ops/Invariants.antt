use Rattle.std.proofs.Common.{map, drop}
use Rattle.sb_form.specs.Growing.{Lacks}
use Rattle.sb_formed.specs.Formed.{op_draft}
use Rattle.sb_form.proofs.acts.push_ops.Given as goal

abbrev pub invariant-loop-op : goal.invariant-loop-op
invariant-loop-op l =
    Lacks (map (op_draft l.places) (drop l.op-index l.ops)) (map (op_draft l.places) l.ops) l.fn.into.next l.fn.into.items l.into.next l.into.items
