use Rattle.std.proofs.Common.{◌≡◌, Some, refl, ap, ◌∙◌}
use Rattle.std.specs.Prelude.{slice_get}
use Rattle.std.proofs.lemmas.Option.{slice_get_read}
use Rattle.tail_dup.specs.Tables.{led_block}
use Rattle.tail_dup.proofs.Filled.{given_more}
use Rattle.tail_dup.proofs.function.given_blocks.Goals as goal

pub loop-i-preserved : goal.loop-i-preserved
loop-i-preserved c =
    let at : slice_get c.args.blocks.now c.loop-i.i ≡ Some c.index-blocks-i.result =
    slice_get_read c.args.blocks.now _ c.loop-i.i c.index-blocks-i.result refl c.loop-i-test.true c.index-blocks-i.is in
    given_more c.args.blocks.now c.args.before.now c.args.copies.now c.loop-i.i c.index-blocks-i.result c.in_ok-led_block.field-0 c.loop-i.made c.push.new.self at
    (c.in_ok-led_block.ensures ∙ ap (λ z. led_block c.args.before.now c.args.copies.now (Some z) c.index-blocks-i.result) c.in_ok-label.ensures.number)
    c.in_ok-push.ensures.ok c.loop-i.invariant
