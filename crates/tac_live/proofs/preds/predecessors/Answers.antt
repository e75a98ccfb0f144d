use Rattle.std.proofs.Common.{◌≡◌, ◌+◌, length, sym, subst, Some, rules}
use Rattle.std.specs.Prelude.{slice_get}
use Rattle.std.proofs.lemmas.Option.{slice_get_read}
use Rattle.tac_live.specs.Preds.{ArePreds}
use Rattle.tac_live.proofs.Closed.{preds_more}
use Rattle.tac_live.proofs.Steps.{whole}
use Rattle.tac_live.proofs.preds.predecessors.Goals as goal

pub loop-label-preserved : goal.loop-label-preserved
loop-label-preserved c =
    let l = c.loop-label in
    let blocks = c.args.func.now.blocks in
    let new = c.add_targets.new.lists in
    let old = c.as_mut_slice.result.now in
    let same : l.lists.items ≡ old = cc in
    let len : l.lists.len ≡ length new = search rules in
    let found : slice_get blocks l.label ≡ Some c.block-item.result = search (rules, slice_get_read) in
    subst (λ lists. ArePreds blocks (l.label + 1) lists) (sym (whole l.lists.len new l.lists.items len))
    (preds_more blocks l.label c.in_ok-from.from c.block-item.result old new c.in_ok-from.ensures.number found (subst (λ lists. ArePreds blocks l.label lists) same l.invariant) c.in_ok-add_targets.ensures.kept c.in_ok-add_targets.ensures.added c.add_targets.ensures.size)
