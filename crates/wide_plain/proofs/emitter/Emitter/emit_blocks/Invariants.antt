use Rattle.std.proofs.Common.{take}
use Rattle.std.specs.List.{flat_map}
use Rattle.plain_code.specs.Plain.{block_items}
use Rattle.wide_plain.specs.Emitted.{Emits, word_of}
use Rattle.wide_plain.proofs.emitter.Emitter.emit_blocks.Given as goal

abbrev pub invariant-loop-block : goal.invariant-loop-block
invariant-loop-block l = Emits (flat_map (block_items l.homes.low l.places (word_of l.starts)) (take l.block-index l.blocks)) l.initial.self l.self
