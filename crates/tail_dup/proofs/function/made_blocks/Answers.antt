use Rattle.std.proofs.Common.{◌≡◌, ℕ, Some, get_or, refl}
use Rattle.std.specs.Prelude.{slice_get}
use Rattle.std.proofs.lemmas.Option.{slice_get_read, slice_get-get_or}
use Rattle.tail_dup.proofs.Filled.{made_more}
use Rattle.tail_dup.proofs.function.made_blocks.Goals as goal

pub loop-i-preserved : goal.loop-i-preserved
loop-i-preserved c =
    let m : ℕ = get_or c.args.copied.now c.loop-i.i 0 in
    let at : slice_get c.args.copied.now c.loop-i.i ≡ Some m = slice_get-get_or c.args.copied.now c.loop-i.i 0 c.loop-i-test.true in
    let is : slice_get c.args.blocks.now m ≡ Some c.index-blocks-at.result =
    slice_get_read c.args.blocks.now _ m c.index-blocks-at.result refl (c.requires c.loop-i.i m at) c.index-blocks-at.is in
    made_more c.args.blocks.now c.args.copied.now c.args.before.now c.args.copies.now c.loop-i.i m c.index-blocks-at.result c.in_ok-led_block.field-0 c.loop-i.made c.push.new.self at is
    c.in_ok-led_block.ensures c.in_ok-push.ensures.ok c.loop-i.invariant
