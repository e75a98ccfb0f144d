use Rattle.std.proofs.Common.{◌∙◌, ap, refl, pos, [], ◌∷◌, map}
use Rattle.wide_core.specs.declared.code.Loc.TheVariants.{Reg, Slot}
use Rattle.wide_core.specs.declared.code.Tagged.TheVariants.{Clear}
use Rattle.wide_core.specs.declared.code.WideAct.TheVariants.{Do, Spill, Reload, Check, Jump, Branch, BranchZero, Return}
use Rattle.wide_core.specs.Operation.{Write, by_rule, sources}
use Rattle.wide_sim.specs.Site.{around, room_at}
use Rattle.wide_sim.specs.Store.{held}
use Rattle.wide_sim.proofs.Plans.{effect_at, jump_goes, return_value, call_plans}
use Rattle.wide_sim.proofs.plan.plan_op.Goals as goal

pub returns-in-Do-clause-effect : goal.returns-in-Do-clause-effect
returns-in-Do-clause-effect c =
    c.plan_act.ensures.effect (held (Clear (pos 0)) c.args.values.now) (room_at c.args.site.now)
    ∙ ap (λ b. by_rule (Do c.in-Do.act) c.args.op.now (record { base = b; memory = c.args.memory.now; room = room_at c.args.site.now }) (map (held (Clear (pos 0)) c.args.values.now) (sources (Do c.in-Do.act)))) c.base.ensures
    ∙ effect_at (around c.args.site.now c.args.memory.now) (held (Clear (pos 0)) c.args.values.now) c.args.op.now (Do c.in-Do.act) c.in-Do.is

pub returns-in-Spill-clause-effect : goal.returns-in-Spill-clause-effect
returns-in-Spill-clause-effect c =
    ap (λ v. Write (Slot c.in-Spill.to) v) (c.get.ensures (Clear (pos 0))) ∙ effect_at (around c.args.site.now c.args.memory.now) (held (Clear (pos 0)) c.args.values.now) c.args.op.now (Spill c.in-Spill.to c.in-Spill.from) c.in-Spill.is

pub returns-in-Reload-clause-effect : goal.returns-in-Reload-clause-effect
returns-in-Reload-clause-effect c =
    ap (λ v. Write (Reg c.in-Reload.to) v) (c.get-in-Reload.ensures (Clear (pos 0))) ∙ effect_at (around c.args.site.now c.args.memory.now) (held (Clear (pos 0)) c.args.values.now) c.args.op.now (Reload c.in-Reload.to c.in-Reload.from) c.in-Reload.is

pub returns-in-Check-clause-effect : goal.returns-in-Check-clause-effect
returns-in-Check-clause-effect c =
    let act = Check c.in-Check.from in
    c.plan_check.ensures.effect (held (Clear (pos 0)) c.args.values.now) (around c.args.site.now c.args.memory.now) c.in-Check.from ∙ ap (λ v. by_rule act c.args.op.now (around c.args.site.now c.args.memory.now) (v ∷ [])) (c.get-in-Check.ensures (Clear (pos 0)))
    ∙ effect_at (around c.args.site.now c.args.memory.now) (held (Clear (pos 0)) c.args.values.now) c.args.op.now act c.in-Check.is

pub returns-in-Jump-clause-effect : goal.returns-in-Jump-clause-effect
returns-in-Jump-clause-effect c =
    jump_goes (around c.args.site.now c.args.memory.now) c.args.op.now c.in-Jump.to c.args.op.now.flagged refl ∙ effect_at (around c.args.site.now c.args.memory.now) (held (Clear (pos 0)) c.args.values.now) c.args.op.now (Jump c.in-Jump.to) c.in-Jump.is

pub returns-in-Branch-clause-effect : goal.returns-in-Branch-clause-effect
returns-in-Branch-clause-effect c =
    let act = Branch c.in-Branch.from c.in-Branch.to in
    c.plan_branch.ensures.effect (held (Clear (pos 0)) c.args.values.now) (around c.args.site.now c.args.memory.now) c.in-Branch.from ∙ ap (λ v. by_rule act c.args.op.now (around c.args.site.now c.args.memory.now) (v ∷ [])) (c.get-in-Branch.ensures (Clear (pos 0)))
    ∙ effect_at (around c.args.site.now c.args.memory.now) (held (Clear (pos 0)) c.args.values.now) c.args.op.now act c.in-Branch.is

pub returns-in-BranchZero-clause-effect : goal.returns-in-BranchZero-clause-effect
returns-in-BranchZero-clause-effect c =
    let act = BranchZero c.in-BranchZero.from c.in-BranchZero.to in
    c.plan_branch_zero.ensures.effect (held (Clear (pos 0)) c.args.values.now) (around c.args.site.now c.args.memory.now) c.in-BranchZero.from ∙ ap (λ v. by_rule act c.args.op.now (around c.args.site.now c.args.memory.now) (v ∷ [])) (c.get-in-BranchZero.ensures (Clear (pos 0)))
    ∙ effect_at (around c.args.site.now c.args.memory.now) (held (Clear (pos 0)) c.args.values.now) c.args.op.now act c.in-BranchZero.is

pub returns-in-Call-clause-effect : goal.returns-in-Call-clause-effect
returns-in-Call-clause-effect c =
    let k = c.in-Call in
    c.plan_call.ensures.effect (held (Clear (pos 0)) c.args.values.now)
    ∙ call_plans (around c.args.site.now c.args.memory.now) (held (Clear (pos 0)) c.args.values.now) c.args.op.now k.result k.func k.next k.args c.as_slice-args.result.now c.least_mark.result c.own_call.result c.evaluate-done.result c.as_slice-args.ensures c.least_mark.ensures c.own_call.ensures c.evaluate-done.ensures k.is

pub returns-in-Return-clause-effect : goal.returns-in-Return-clause-effect
returns-in-Return-clause-effect c =
    c.plan_return.ensures.effect (held (Clear (pos 0)) c.args.values.now) (around c.args.site.now c.args.memory.now) c.in-Return.from ∙ ap (λ v. by_rule (Return c.in-Return.from) c.args.op.now (around c.args.site.now c.args.memory.now) (v ∷ [])) c.value_if.ensures
    ∙ return_value (around c.args.site.now c.args.memory.now) (held (Clear (pos 0)) c.args.values.now) c.args.op.now c.in-Return.from ∙ effect_at (around c.args.site.now c.args.memory.now) (held (Clear (pos 0)) c.args.values.now) c.args.op.now (Return c.in-Return.from) c.in-Return.is
