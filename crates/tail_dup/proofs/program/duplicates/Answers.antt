use Rattle.std.proofs.Common.{◌≡◌, Some, length, refl, sym, ap, ◌∙◌}
use Rattle.std.specs.Prelude.{slice_get}
use Rattle.std.proofs.lemmas.Option.{slice_get_read}
use Rattle.tail_dup.proofs.Whole.{parts_more}
use Rattle.tail_dup.proofs.program.duplicates.Goals as goal

pub duplicate_func-requires-clause-chained : goal.duplicate_func-requires-clause-chained
duplicate_func-requires-clause-chained c =
    let at : slice_get c.args.all.now c.loop-i.i ≡ Some c.index-all-i.result =
    slice_get_read c.args.all.now _ c.loop-i.i c.index-all-i.result refl c.loop-i-test.true c.index-all-i.is in
    c.requires.chained.each c.loop-i.i c.index-all-i.result c.in-Some.chains.now at
    (ap (λ z. slice_get c.args.given.now z) (sym c.in_ok-number.ensures.number) ∙ sym c.in-Some.ensures.value)

pub duplicate_func-requires-clause-targets : goal.duplicate_func-requires-clause-targets
duplicate_func-requires-clause-targets c =
    let at : slice_get c.args.all.now c.loop-i.i ≡ Some c.index-all-i.result =
    slice_get_read c.args.all.now _ c.loop-i.i c.index-all-i.result refl c.loop-i-test.true c.index-all-i.is in
    c.requires.targets c.loop-i.i c.index-all-i.result at

pub loop-i-preserved : goal.loop-i-preserved
loop-i-preserved c =
    let at : slice_get c.args.all.now c.loop-i.i ≡ Some c.index-all-i.result =
    slice_get_read c.args.all.now _ c.loop-i.i c.index-all-i.result refl c.loop-i-test.true c.index-all-i.is in
    parts_more c.args.all.now c.args.given.now c.loop-i.i c.index-all-i.result c.in_ok-made.made.func c.in-Some.chains.now c.in_ok-made.made.chains c.in_ok-made.made.origins
    c.loop-i.funcs c.push.new.self c.loop-i.traces c.push-in-loop-i.new.self c.loop-i.origins c.push-in-loop-i-2.new.self at
    (ap (λ z. slice_get c.args.given.now z) (sym c.in_ok-number.ensures.number) ∙ sym c.in-Some.ensures.value)
    c.in_ok-made.ensures c.in_ok-push.ensures.ok c.in_ok-push-2.ensures.ok c.in_ok-push-3.ensures.ok c.loop-i.invariant
