use Rattle.std.proofs.Common.{◌-◌, ◌<◌, length, arith, refl, sym, ◌∙◌}
use Rattle.std.proofs.lemmas.Option.{get_or_from_slice_get}
use Rattle.tac_live.proofs.Steps.{ops_none, ops_more}
use Rattle.tac_live.proofs.before.before_ops.Goals as goal

pub loop-left-init : goal.loop-left-init
loop-left-init c = (λ r. ops_none c.args.ops.now c.args.live.now r, refl, omega arith)

pub loop-left-preserved : goal.loop-left-preserved
loop-left-preserved c =
    let l = c.loop-left in
    let within : l.left - 1 < length c.args.ops.now = omega (arith, l.invariant.2, c.loop-left-test.true) in (
      ops_more c.args.ops.now (l.left - 1) l.left c.op_at-op.result.now c.args.live.now l.live c.before_op.new.live (omega (arith, c.loop-left-test.true)) within (sym (get_or_from_slice_get c.args.ops.now (l.left - 1) c.op_at-op.result.now c.op_at-op.result.now c.op_at-op.ensures)) l.invariant.0 c.before_op.ensures.holds,
      c.before_op.ensures.size ∙ l.invariant.1,
      omega (arith, l.invariant.2),
    )
