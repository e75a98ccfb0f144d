use Rattle.std.proofs.Common.{take}
use Rattle.std.specs.List.{flat_map}
use Rattle.wide_plain.specs.Emitted.{Emits, word_of}
use Rattle.wide_plain.proofs.Emitted.{op_items}
use Rattle.wide_plain.proofs.emitter.Emitter.emit_block.Given as goal

abbrev pub invariant-loop-op : goal.invariant-loop-op
invariant-loop-op l = Emits (flat_map (op_items l.homes.low l.places (word_of l.starts)) (take l.op-index l.block.ops)) l.initial.self l.self
