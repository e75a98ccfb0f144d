use Rattle.plain_code.specs.Plain.{block_items}
use Rattle.wide_plain.specs.Emitted.{word_of}
use Rattle.wide_plain.proofs.Emitted.{emits_more}
use Rattle.wide_plain.proofs.emitter.Emitter.emit_blocks.Goals as goal

pub loop-block-preserved : goal.loop-block-preserved
loop-block-preserved c =
    emits_more (block_items c.args.homes.low c.args.places.now (word_of c.args.starts.now)) c.args.blocks.now c.loop-block.block-index c.block-item.result
    c.args.self.now c.loop-block.self c.emit_block.new.self c.loop-block-test.true c.block-item.is c.loop-block.invariant c.in_ok-emit_block.ensures
