use Rattle.std.proofs.Common.{get_or}
use Rattle.std.proofs.lemmas.Option.{slice_get-get_or}
use Rattle.sb_form.proofs.Growing.{chain_left}
use Rattle.sb_form.proofs.chains.push_chain.Goals as goal

pub loop-i-preserved : goal.loop-i-preserved
loop-i-preserved c =
    chain_left c.args.places.now c.args.func.now c.args.chain.now c.loop-i.i (get_or c.args.chain.now c.loop-i.i 0) c.label_at-next.result c.args.into.now.next c.loop-i.into.next c.push_label.new.into.next c.args.into.now.items c.loop-i.into.items c.push_label.new.into.items
    (slice_get-get_or c.args.chain.now c.loop-i.i 0 c.loop-i-test.true) c.label_at-next.ensures c.loop-i.invariant c.in_ok-push_label.ensures
