use Rattle.std.proofs.Common.{◌∙◌, length, sym}
use Rattle.wide_core.specs.Valid.{limits}
use Rattle.wide_sim.proofs.Cases.{fit_ready, waits_case}
use Rattle.wide_sim.proofs.tick.tick.Goals as goal

pub any_late-requires : goal.any_late-requires
any_late-requires g c =
    fit_ready g.M.Machine.latency_of (limits g.M.Machine.WIDTH g.M.Machine.REGS g.M.Machine.units_of) c.args.code.now c.args.call.now c.args.callers.now c.args.memory.now c.args.cycle (length c.args.plan.now) c.requires.sound c.ops_at_hand-ops.result.now c.ops_at_hand-ops.ensures.ops

pub returns-then-any_late-clause-ok : goal.returns-then-any_late-clause-ok
returns-then-any_late-clause-ok g c =
    waits_case g.M.Machine.latency_of (limits g.M.Machine.WIDTH g.M.Machine.REGS g.M.Machine.units_of) c.args.code.now c.args.call.now c.args.callers.now c.args.memory.now c.args.cycle (length c.args.plan.now) c.requires.sound c.ops_at_hand-ops.result.now c.ops_at_hand-ops.ensures.ops (g.H.Host.world c.args.host.now) (sym c.any_late.ensures ∙ c.if-any_late.true)
