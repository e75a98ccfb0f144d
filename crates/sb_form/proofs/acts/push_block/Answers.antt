use Rattle.std.proofs.Common.{map, subst}
use Rattle.sb_form.specs.Growing.{Grown}
use Rattle.sb_formed.specs.Formed.{op_draft, end_drafts}
use Rattle.sb_form.proofs.Copied.{ok_then}
use Rattle.sb_form.proofs.Growing.{grown_on}
use Rattle.sb_form.proofs.acts.push_block.Goals as goal

pub returns : goal.returns
returns c =
    ok_then c.push_end.result
    (λ g.
    grown_on (map (op_draft c.args.places.now) c.args.block.now.ops) (end_drafts c.args.places.now c.args.block.now c.args.next) c.args.into.now.next c.push_ops.new.into.next c.push_end.new.into.next c.args.into.now.items c.push_ops.new.into.items c.push_end.new.into.items
    (subst (λ xs. Grown (map (op_draft c.args.places.now) xs) c.args.into.now.next c.args.into.now.items c.push_ops.new.into.next c.push_ops.new.into.items) c.as_slice.ensures c.in_ok-push_ops.ensures)
    g)
    c.push_end.ensures
