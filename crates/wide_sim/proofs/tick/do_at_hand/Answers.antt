use Rattle.std.proofs.Common.{length}
use Rattle.wide_core.specs.Valid.{limits}
use Rattle.wide_sim.specs.Advance.{standing}
use Rattle.wide_sim.proofs.Cases.{broken_case, can_case, done_case, fit_done, fit_values, has_plan, once_case, params_case, sound_case, within_case}
use Rattle.wide_sim.proofs.tick.do_at_hand.Goals as goal

pub do_word-requires-clause-room : goal.do_word-requires-clause-room
do_word-requires-clause-room g c =
    has_plan g.M.Machine.latency_of (limits g.M.Machine.WIDTH g.M.Machine.REGS g.M.Machine.units_of) c.args.code.now c.args.call.now c.args.callers.now c.args.memory.now c.args.cycle (length c.args.plan.now) c.requires.sound c.args.ops.now c.requires.word g.met.M.Machine.is_table.most_width

pub do_word-requires-clause-fit : goal.do_word-requires-clause-fit
do_word-requires-clause-fit g c =
    fit_values g.M.Machine.latency_of (limits g.M.Machine.WIDTH g.M.Machine.REGS g.M.Machine.units_of) c.args.code.now c.args.call.now c.args.callers.now c.args.memory.now c.args.cycle (length c.args.plan.now) c.requires.sound c.args.ops.now c.requires.word

pub do_word-requires-clause-within : goal.do_word-requires-clause-within
do_word-requires-clause-within g c =
    within_case g.M.Machine.latency_of (limits g.M.Machine.WIDTH g.M.Machine.REGS g.M.Machine.units_of) c.args.code.now c.args.call.now c.args.callers.now c.args.memory.now c.args.cycle (length c.args.plan.now) c.requires.sound c.args.ops.now c.requires.word c.site_at-site.result c.site_at-site.ensures

pub do_word-requires-clause-once : goal.do_word-requires-clause-once
do_word-requires-clause-once g c =
    once_case g.M.Machine.latency_of (limits g.M.Machine.WIDTH g.M.Machine.REGS g.M.Machine.units_of) c.args.code.now c.args.call.now c.args.callers.now c.args.memory.now c.args.cycle (length c.args.plan.now) c.requires.sound c.args.ops.now c.requires.word g.met.M.Machine.is_table.one_io

pub do_word-requires-clause-params : goal.do_word-requires-clause-params
do_word-requires-clause-params g c =
    params_case g.M.Machine.latency_of (limits g.M.Machine.WIDTH g.M.Machine.REGS g.M.Machine.units_of) c.args.code.now c.args.call.now c.args.callers.now c.args.memory.now c.args.cycle (length c.args.plan.now) c.requires.sound c.args.ops.now c.requires.word c.site_at-site.result c.site_at-site.ensures

pub returns-in-Err-clause-broken : goal.returns-in-Err-clause-broken
returns-in-Err-clause-broken g c =
    broken_case g.M.Machine.latency_of (limits g.M.Machine.WIDTH g.M.Machine.REGS g.M.Machine.units_of) c.args.code.now c.args.call.now c.args.callers.now c.args.memory.now c.args.cycle (length c.args.plan.now) c.requires.sound c.args.ops.now c.requires.word c.site_at-site.result c.site_at-site.ensures c.requires.in_time (g.H.Host.world c.args.host.now) (g.H.Host.world c.do_word.new.host) c.in-Err.ensures.broken

pub set_times-requires-clause-fit : goal.set_times-requires-clause-fit
set_times-requires-clause-fit g c =
    fit_done g.M.Machine.latency_of (limits g.M.Machine.WIDTH g.M.Machine.REGS g.M.Machine.units_of) c.args.code.now c.args.call.now c.args.callers.now c.args.memory.now c.args.cycle (length c.args.plan.now) c.requires.sound c.args.ops.now c.requires.word c.in-Ok.behind.done

pub advance-requires : goal.advance-requires
advance-requires g c =
    can_case g.M.Machine.latency_of (limits g.M.Machine.WIDTH g.M.Machine.REGS g.M.Machine.units_of) c.args.code.now c.args.call.now c.args.callers.now c.args.memory.now c.args.cycle (length c.args.plan.now) c.requires.sound c.args.ops.now c.requires.word c.site_at-site.result c.site_at-site.ensures c.requires.in_time c.do_word.new.values c.do_word.new.memory c.in-Ok.behind.next c.in-Ok.behind.done (g.H.Host.world c.args.host.now) (g.H.Host.world c.do_word.new.host) c.in-Ok.ensures.ok

pub returns-clause-ok : goal.returns-clause-ok
returns-clause-ok g c =
    done_case g.M.Machine.latency_of (limits g.M.Machine.WIDTH g.M.Machine.REGS g.M.Machine.units_of) c.args.code.now c.args.call.now c.args.callers.now c.args.memory.now c.args.cycle (length c.args.plan.now) c.requires.sound c.args.ops.now c.requires.word c.site_at-site.result c.site_at-site.ensures c.requires.in_time c.do_word.new.values c.do_word.new.memory c.in-Ok.behind.next c.in-Ok.behind.done (g.H.Host.world c.args.host.now) (g.H.Host.world c.do_word.new.host) c.in-Ok.ensures.ok c.set_times.new.ready c.set_times.ensures.times (standing c.advance.new.call c.advance.new.callers c.advance.new.memory c.advance.result) c.advance.ensures

pub returns-clause-sound : goal.returns-clause-sound
returns-clause-sound g c =
    sound_case g.M.Machine.latency_of (limits g.M.Machine.WIDTH g.M.Machine.REGS g.M.Machine.units_of) c.args.code.now c.args.call.now c.args.callers.now c.args.memory.now c.args.cycle (length c.args.plan.now) c.requires.sound c.args.ops.now c.requires.word c.site_at-site.result c.site_at-site.ensures c.requires.in_time c.do_word.new.values c.do_word.new.memory c.in-Ok.behind.next c.in-Ok.behind.done (g.H.Host.world c.args.host.now) (g.H.Host.world c.do_word.new.host) c.in-Ok.ensures.ok c.set_times.new.ready c.set_times.ensures.times (standing c.advance.new.call c.advance.new.callers c.advance.new.memory c.advance.result) c.advance.ensures c.do_word.ensures.regs c.do_word.ensures.slots c.set_times.ensures.regs c.set_times.ensures.slots (length c.do_word.new.plan) c.do_word.ensures.len
