use Rattle.std.proofs.Common.{◌++◌, length, refl, sym, ap, arith}
use Rattle.std.specs.List.{flat_map}
use Rattle.plain_code.specs.Plain.{end_acts, end_items, spread_all}
use Rattle.wide_plain.specs.Emitted.{word_of}
use Rattle.wide_plain.proofs.Emitted.{emits_all, emits_onto, on_same, op_items, ops_more, rest_flat}
use Rattle.wide_plain.proofs.emitter.Emitter.emit_block.Goals as goal

pub loop-op-preserved : goal.loop-op-preserved
loop-op-preserved c =
    ops_more c.args.homes.low c.args.places.now (word_of c.args.starts.now) c.args.block.now.ops c.as_slice-op-items.result.now c.loop-op.op-index _ c.place_of-home.result
    c.args.self.now c.loop-op.self c.emit_act.new.self c.as_slice-op-items.ensures c.loop-op-test.true c.place_of-home.ensures c.loop-op.invariant c.in_ok-emit_act.ensures

pub returns : goal.returns
returns c =
    let low = c.args.homes.low in
    let places = c.args.places.now in
    let at = word_of c.args.starts.now in
    let b = c.args.block.now in
    let ops = flat_map (op_items low places at) b.ops in
    on_same c.emit_end.result (ops ++ end_items low places at b) _ c.args.self.now c.emit_end.new.self
    (emits_onto c.emit_end.result ops _ (end_items low places at b) _ c.args.self.now c.loop-op.self c.emit_end.new.self
    (emits_all (op_items low places at) b.ops c.loop-op.op-index c.args.self.now c.loop-op.self (omega (arith, c.loop-op-test.false, ap length c.as_slice-op-items.ensures)) c.loop-op.invariant)
    c.emit_end.ensures refl
    (ap (λ home. spread_all low at home (end_acts b.«end»)) c.place_of-home-2.ensures))
    (sym (rest_flat low places at b.ops b))
