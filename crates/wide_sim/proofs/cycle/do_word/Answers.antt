use Rattle.std.proofs.Common.{◌∙◌, List, subst, ap, refl, pos, length, take, arith}
use Rattle.wide_core.specs.declared.code.Tagged.TheVariants.{Clear}
use Rattle.wide_core.specs.Word.{effects}
use Rattle.wide_sim.specs.Cycles.{scope_at}
use Rattle.wide_sim.specs.Site.{around, room_at}
use Rattle.wide_sim.specs.Store.{held}
use Rattle.wide_sim.proofs.Does.{all_take, breaks_word, does_word, plan_fits, turn_calls, turn_args, turn_quiet}
use Rattle.wide_sim.proofs.Asks.{nothing_printed}
use Rattle.wide_sim.proofs.Once.{asking_few, asking_take}
use Rattle.wide_sim.proofs.Turns.{all_planned_fit}
use Rattle.wide_sim.specs.Effects.{before_report, text}
use Rattle.wide_sim.specs.Fits.{planned_fits}
use Rattle.wide_sim.specs.Next.{IsNext, calls_well}
use Rattle.wide_sim.specs.Quiet.{is_quiet_plan}
use Rattle.wide_sim.specs.declared.planned.Planned.{Planned}
use Rattle.wide_core.specs.declared.code.WideFunc.{WideFunc}
use Rattle.wide_sim.proofs.cycle.do_word.Goals as goal

pub prepare-requires-clause-args : goal.prepare-requires-clause-args
prepare-requires-clause-args g c =
    turn_args (length c.args.values.now.regs) (length c.args.values.now.slots) (take (length c.args.ops.now) c.plan_word.new.plan) c.turn_of-turn.result c.turn_of-turn.ensures c.plan_word.ensures.args

pub ask-requires : goal.ask-requires
ask-requires g c =
    let effects = take (length c.args.ops.now) c.plan_word.new.plan in
    let fewer = asking_take c.before_report-count.result effects in
    let few = asking_few (around c.args.site.now c.args.memory.now) (held (Clear (pos 0)) c.args.values.now) effects c.args.ops.now c.plan_word.ensures.effects in
    let once = c.requires.once in
    omega arith

pub prepare-requires-clause-calls : goal.prepare-requires-clause-calls
prepare-requires-clause-calls g c =
    ap (λ fs. calls_well fs c.turn_of-turn.result) c.funcs.ensures
    ∙ turn_calls (scope_at (length c.args.values.now.regs) (length c.args.values.now.slots) c.requires.within.0 c.args.site.now) (room_at c.args.site.now) (held (Clear (pos 0)) c.args.values.now) (take (length c.args.ops.now) c.plan_word.new.plan) c.turn_of-turn.result c.turn_of-turn.ensures (plan_fits (scope_at (length c.args.values.now.regs) (length c.args.values.now.slots) c.requires.within.0 c.args.site.now) (room_at c.args.site.now) (held (Clear (pos 0)) c.args.values.now) (take (length c.args.ops.now) c.plan_word.new.plan) (effects (around c.args.site.now c.args.memory.now) (held (Clear (pos 0)) c.args.values.now) c.args.ops.now) c.plan_word.ensures.effects c.requires.within.1)

pub returns-in-Err-clause-broken : goal.returns-in-Err-clause-broken
returns-in-Err-clause-broken g c =
    breaks_word c.args.site.now c.args.ops.now (held (Clear (pos 0)) c.args.values.now) c.args.memory.now (take (length c.args.ops.now) c.plan_word.new.plan) (before_report (take (length c.args.ops.now) c.plan_word.new.plan)) c.plan_word.ensures.effects refl _ _ (nothing_printed (text (before_report (take (length c.args.ops.now) c.plan_word.new.plan))) (g.H.Host.world c.args.host.now) (g.H.Host.world c.args.host.now) refl)

pub write_effects-requires : goal.write_effects-requires
write_effects-requires g c =
    c.in-Ok-ask.ensures.ok.fits (length c.args.values.now.regs) (length c.args.values.now.slots) (all_take (planned_fits (length c.args.values.now.regs) (length c.args.values.now.slots)) (take (length c.args.ops.now) c.plan_word.new.plan) c.before_report-count.result (all_planned_fit (scope_at (length c.args.values.now.regs) (length c.args.values.now.slots) c.requires.within.0 c.args.site.now) (room_at c.args.site.now) (held (Clear (pos 0)) c.args.values.now) (take (length c.args.ops.now) c.plan_word.new.plan) (plan_fits (scope_at (length c.args.values.now.regs) (length c.args.values.now.slots) c.requires.within.0 c.args.site.now) (room_at c.args.site.now) (held (Clear (pos 0)) c.args.values.now) (take (length c.args.ops.now) c.plan_word.new.plan) (effects (around c.args.site.now c.args.memory.now) (held (Clear (pos 0)) c.args.values.now) c.args.ops.now) c.plan_word.ensures.effects c.requires.within.1)))

pub returns-in-Ok-ask-clause-ok : goal.returns-in-Ok-ask-clause-ok
returns-in-Ok-ask-clause-ok g c =
    does_word c.args.site.now c.args.ops.now (held (Clear (pos 0)) c.args.values.now) c.args.memory.now (take (length c.args.ops.now) c.plan_word.new.plan) (take c.before_report-count.result (take (length c.args.ops.now) c.plan_word.new.plan)) c.plan_word.ensures.effects c.before_report-count.ensures.before
    (length c.args.values.now.regs) c.args.at c.in-Ok.next c.ask.new.plan _ _ _ _
    (subst (λ (t : Planned). IsNext (length c.args.values.now.regs) c.args.site.now.funcs c.args.site.now.next_base c.args.at (held (Clear (pos 0)) c.args.values.now) t c.in-Ok.next) c.turn_of-turn.ensures
    (subst (λ n. IsNext (length c.args.values.now.regs) c.args.site.now.funcs n c.args.at (held (Clear (pos 0)) c.args.values.now) c.turn_of-turn.result c.in-Ok.next) c.next_base.ensures
    (subst (λ (fs : List WideFunc). IsNext (length c.args.values.now.regs) fs c.next_base.result c.args.at (held (Clear (pos 0)) c.args.values.now) c.turn_of-turn.result c.in-Ok.next) c.funcs.ensures
    (subst (λ r. IsNext r c.funcs.result.now c.next_base.result c.args.at (held (Clear (pos 0)) c.args.values.now) c.turn_of-turn.result c.in-Ok.next) c.len-regs.ensures c.in-Ok.ensures.next))))
    c.in-Ok-ask.ensures.ok c.write_effects.ensures.places c.write_effects.ensures.memory c.before_report-count.result refl

pub returns-in-Err-ask-clause-broken : goal.returns-in-Err-ask-clause-broken
returns-in-Err-ask-clause-broken g c =
    breaks_word c.args.site.now c.args.ops.now (held (Clear (pos 0)) c.args.values.now) c.args.memory.now (take (length c.args.ops.now) c.plan_word.new.plan) (take c.before_report-count.result (take (length c.args.ops.now) c.plan_word.new.plan)) c.plan_word.ensures.effects c.before_report-count.ensures.before _ _ c.in-Err-ask.ensures.err

pub returns-in-Err-clause-quiet : goal.returns-in-Err-clause-quiet
returns-in-Err-clause-quiet g c =
    λ quiet. c.in-Err.ensures.quiet (turn_quiet (take (length c.args.ops.now) c.plan_word.new.plan) c.turn_of-turn.result c.turn_of-turn.ensures (c.plan_word.ensures.quiet quiet))

pub returns-in-Err-ask-clause-quiet : goal.returns-in-Err-ask-clause-quiet
returns-in-Err-ask-clause-quiet g c =
    λ quiet. c.in-Err-ask.ensures.quiet (all_take is_quiet_plan (take (length c.args.ops.now) c.plan_word.new.plan) c.before_report-count.result (c.plan_word.ensures.quiet quiet))
