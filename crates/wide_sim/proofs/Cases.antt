-- The ways that a cycle of the simulator goes.
use Rattle.std.proofs.Common.{◌≡◌, ℕ, suc, ◌+◌, ◌≤◌, pos, true, false, List, length, take, slice_get, Some, refl, sym, ap, ◌∙◌, subst, arith}
use Rattle.std.specs.List.{list_all}
use Rattle.ib_base.specs.World.{World}
use Rattle.ib_run.specs.OverHost.{OverHost}
use Rattle.machine_desc.specs.declared.machine.OpClass.{OpClass}
use Rattle.wide_core.specs.declared.code.Loc.{Loc}
use Rattle.wide_core.specs.declared.code.RawCode.{RawCode}
use Rattle.wide_core.specs.declared.code.Tagged.{Tagged}
use Rattle.wide_core.specs.declared.code.Tagged.TheVariants.{Clear}
use Rattle.wide_core.specs.declared.code.WideFunc.{WideFunc}
use Rattle.wide_core.specs.declared.code.WideOp.{WideOp}
use Rattle.wide_core.specs.Cycle.{any_late, times_after}
use Rattle.machine_desc.specs.declared.machine.OpClass.TheVariants.{Io}
use Rattle.wide_core.specs.Valid.{Limits, count_of, is_within, scope_of}
use Rattle.wide_core.specs.Word.{effects}
use Rattle.wide_core.proofs.Kept.{func_kept}
use Rattle.wide_sim.specs.declared.frame.Frame.{Frame}
use Rattle.wide_sim.specs.declared.frame.Suspended.{Suspended}
use Rattle.wide_sim.specs.declared.next.Next.{Next}
use Rattle.wide_sim.specs.declared.planned.Planned.TheVariants.{Idle}
use Rattle.wide_sim.specs.declared.store.Store.{Store}
use Rattle.wide_sim.specs.Advance.{CanAdvance, Standing, advanced}
use Rattle.wide_sim.specs.Cycles.{Breaks, Does, scope_at}
use Rattle.wide_sim.specs.EffectFits.{effect_fits}
use Rattle.wide_sim.specs.Effects.{turn_after}
use Rattle.wide_sim.specs.Fits.{op_fits}
use Rattle.wide_sim.specs.Frames.{ops_at}
use Rattle.wide_sim.specs.Planned.{effect_of}
use Rattle.wide_sim.specs.Simulation.{BreaksOff, Cycles, IsSound, going_at, sim_of}
use Rattle.wide_sim.specs.Site.{Site, around, room_at, site_of}
use Rattle.wide_sim.specs.Store.{held}
use Rattle.wide_sim.proofs.Advances.{broken_off, done, waited}
use Rattle.wide_sim.proofs.Does.{all_take}
use Rattle.wide_sim.proofs.Sound.{CallsFit, HasWord, can_advance, effects_within, few_of, few_ops, first_takes, goes_well, has_word, ops_fit, turn_fits, turn_leaves}

module _ (latency : OpClass → ℕ) (limits : Limits) (code : RawCode) (call : Frame) (callers : List Suspended) (memory : List ℕ) (cycle room : ℕ)
    (sound : IsSound limits code call callers room) (ops : List WideOp) (ops_is : ops ≡ ops_at code call) where
  word : HasWord code call sound.call_fits.func ops
  word = has_word limits.regs code call sound.call_fits ops ops_is

  same_ops : ops ≡ word.word.ops
  same_ops = word.ops_is

  soon_is : cycle + 1 ≡ suc cycle
  soon_is = omega arith

  pub waits_case : (w : World) → any_late (held 0 call.ready) cycle ops ≡ true → OverHost (Cycles latency (going_at code call callers memory cycle) (going_at code call callers memory (cycle + 1))) w w
  waits_case w late =
      waited latency limits.regs code call callers memory cycle sound.call_fits.func sound.call_fits.there word.word word.at_hand (cycle + 1) w soon_is
      (ap (λ os. any_late (held 0 call.ready) cycle os) (sym same_ops) ∙ late)

  -- what a word needs
  pub fit_values : list_all (op_fits (length call.values.regs) (length call.values.slots)) ops ≡ true
  fit_values = ops_fit limits code sound.valid call sound.call_fits word.word ops word.at same_ops (length call.values.regs) (length call.values.slots) sound.call_fits.regs_is sound.call_fits.slots_is

  pub fit_ready : list_all (op_fits (length call.ready.regs) (length call.ready.slots)) ops ≡ true
  fit_ready = ops_fit limits code sound.valid call sound.call_fits word.word ops word.at same_ops (length call.ready.regs) (length call.ready.slots) sound.call_fits.ready_regs sound.call_fits.ready_slots

  pub has_plan : limits.width ≤ 64 → length ops ≤ room
  has_plan most =
      let few : length ops ≤ limits.width = few_ops limits code sound.valid call sound.call_fits word.word ops word.at same_ops in
      let plan : 64 ≤ room = sound.plan_room in
      omega arith

  pub once_case : limits.units Io ≡ 1 → count_of Io ops ≤ 1
  once_case one =
      let few : count_of Io ops ≤ limits.units Io = few_of limits code sound.valid call sound.call_fits word.word ops word.at same_ops Io in omega arith

  pub fit_done : (count : ℕ) → list_all (op_fits (length call.ready.regs) (length call.ready.slots)) (take count ops) ≡ true
  fit_done count = all_take (op_fits (length call.ready.regs) (length call.ready.slots)) ops count fit_ready

  abbrev here : Site
  here = site_of code call callers

  abbrev places : Loc → Tagged
  places = held (Clear (pos 0)) call.values

  module _ (site : Site) (site_is : site ≡ here) where
    pub within_case : (words : ℕ) × (list_all (effect_fits (scope_at (length call.values.regs) (length call.values.slots) words site) (room_at site)) (effects (around site memory) places ops) ≡ true)
    within_case = (
      length sound.call_fits.func.words,
      effects_within limits code sound.valid call sound.call_fits word.word ops word.at same_ops site (ap (λ (s : Site). s.funcs) site_is) memory places (length call.values.regs) (length call.values.slots) sound.call_fits.regs_is sound.call_fits.slots_is,
    )

    pub params_case : (f : ℕ) (func : WideFunc) → slice_get site.funcs f ≡ Some func → list_all (is_within (length call.values.regs) func.slots) func.params ≡ true
    params_case f func at =
        ap (λ n. list_all (is_within n func.slots) func.params) sound.call_fits.regs_is
        ∙ (func_kept limits code sound.valid f func (ap (λ (s : Site). slice_get s.funcs f) (sym site_is) ∙ at)).params

    module _ (in_time : any_late (held 0 call.ready) cycle ops ≡ false) where
      word_in_time : any_late (held 0 call.ready) cycle word.word.ops ≡ false
      word_in_time = ap (λ os. any_late (held 0 call.ready) cycle os) (sym same_ops) ∙ in_time

      pub broken_case : (before behind : World) → OverHost (Breaks site ops places memory) before behind → OverHost (BreaksOff latency (going_at code call callers memory cycle)) before behind
      broken_case before behind some =
          broken_off latency limits.regs code call callers memory cycle sound.call_fits.func sound.call_fits.there word.word word.at_hand before behind word_in_time
          (subst (λ os. OverHost (Breaks here os places memory) before behind) same_ops (subst (λ s. OverHost (Breaks s ops places memory) before behind) site_is some))

      module _ (values : Store Tagged) (memory_behind : List ℕ) (next : Next) (count : ℕ) (before behind : World) (does : Does (length call.values.regs) call.at site ops places (held (Clear (pos 0)) values) memory memory_behind before behind next count) where
        does_here : Does limits.regs call.at here ops places (held (Clear (pos 0)) values) memory memory_behind before behind next count
        does_here =
            subst (λ s. Does limits.regs call.at s ops places (held (Clear (pos 0)) values) memory memory_behind before behind next count) site_is
            (subst (λ n. Does n call.at site ops places (held (Clear (pos 0)) values) memory memory_behind before behind next count) sound.call_fits.regs_is does)

        does_word : Does limits.regs call.at here word.word.ops places (held (Clear (pos 0)) values) memory memory_behind before behind next count
        does_word = subst (λ os. Does limits.regs call.at here os places (held (Clear (pos 0)) values) memory memory_behind before behind next count) same_ops does_here

        fits_turn : effect_fits (scope_of limits code.funcs sound.call_fits.func) (room_at here) (effect_of places (turn_after Idle does_here.plan)) ≡ true
        fits_turn = turn_fits limits code sound.valid call sound.call_fits word.word ops word.at same_ops here refl memory places does_here.plan does_here.planned

        pub can_case : CanAdvance code callers next
        can_case =
            can_advance limits code sound.valid call sound.call_fits word.word ops word.at same_ops callers sound.callers_fit places (turn_after Idle does_here.plan) next does_here.goes fits_turn

        module _ (ready : Store ℕ) (times : held 0 ready ≡ times_after latency cycle (take count ops) (held 0 call.ready)) (new : Standing)
            (new_is : new ≡ advanced code (cycle + 1) next (record call { values = values; ready = ready }) callers memory_behind) where
          pub done_case : OverHost (Cycles latency (going_at code call callers memory cycle) (sim_of code new (cycle + 1))) before behind
          done_case =
              subst (λ (n : Standing). OverHost (Cycles latency (going_at code call callers memory cycle) (sim_of code n (cycle + 1))) before behind) (sym new_is)
              (done latency limits.regs code call callers memory cycle sound.call_fits.func sound.call_fits.there word.word word.at_hand values ready memory_behind (cycle + 1) soon_is
              (times ∙ ap (λ os. times_after latency cycle (take count os) (held 0 call.ready)) same_ops ∙ ap (λ os. times_after latency cycle os (held 0 call.ready)) does_word.counted)
              next count before behind word_in_time (first_takes limits.regs code callers sound.callers_fit) does_word)

          pub sound_case : length values.regs ≡ length call.values.regs → length values.slots ≡ length call.values.slots → length ready.regs ≡ length call.ready.regs → length ready.slots ≡ length call.ready.slots → (room_behind : ℕ) → room_behind ≡ room → IsSound limits code new.call new.callers room_behind
          sound_case v_regs v_slots r_regs r_slots room_behind same_room =
              let good = goes_well limits code sound.valid call sound.call_fits word.word ops word.at same_ops callers sound.callers_fit values ready v_regs v_slots r_regs r_slots places (cycle + 1) memory_behind (turn_after Idle does_here.plan) next does_here.goes fits_turn
              (turn_leaves limits code sound.valid call sound.call_fits word.word ops word.at same_ops here refl memory places does_here.plan does_here.planned) in
              let fit = subst (λ (n : Standing). CallsFit limits.regs code n.call n.callers) (sym new_is) good in
              record { valid = sound.valid; call_fits = fit.call_fits; callers_fit = fit.callers_fit; plan_room = subst (λ n. 64 ≤ n) (sym same_room) sound.plan_room }
