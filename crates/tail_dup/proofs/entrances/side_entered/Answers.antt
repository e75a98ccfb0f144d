use Rattle.std.proofs.Common.{◌≡◌, Some, length, refl, sym, ap, ◌∙◌}
use Rattle.std.specs.Prelude.{slice_get}
use Rattle.std.proofs.lemmas.Option.{slice_get_read}
use Rattle.tac_core.specs.declared.code.Block.{Block}
use Rattle.tail_dup.specs.Tables.{marked_end}
use Rattle.tail_dup.proofs.Filled.{entered_more}
use Rattle.tail_dup.proofs.entrances.side_entered.Goals as goal

pub loop-i-preserved : goal.loop-i-preserved
loop-i-preserved c =
    let at : slice_get c.args.blocks.now c.loop-i.i ≡ Some c.index-blocks-i.result =
    slice_get_read c.args.blocks.now _ c.loop-i.i c.index-blocks-i.result refl c.loop-i-test.true c.index-blocks-i.is in
    entered_more c.args.blocks.now c.args.before.now c.loop-i.i c.index-blocks-i.result c.loop-i.entered c.mark_end.new.entered at (c.requires c.loop-i.i c.index-blocks-i.result at) (c.mark_end.ensures ∙ ap (λ (z : Block). marked_end c.args.before.now c.loop-i.i c.loop-i.entered z.«end») (sym c.index-blocks-i.is)) c.loop-i.invariant
