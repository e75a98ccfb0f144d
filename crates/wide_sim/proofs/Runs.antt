-- Cycles one after the other.
use Rattle.std.proofs.Common.{◌≡◌, ℕ, zero, suc, ◌+◌, ◌<◌, ◌≤◌, ◌⊎◌, inl, inr, Bool, true, false, List, [], ◌++◌, refl, sym, ap, ◌∙◌, subst, arith}
use Rattle.std.specs.Prelude.{IsTrue, Result, Ok, Err, IfOk, OnErr}
use Rattle.ib_meaning.specs.Agreement.{Finish, Returned, Faulted, Meaning, More, IsPrefix, out_of}
use Rattle.ib_meaning.specs.Machine.{Machine, Stops, means}
use Rattle.ib_base.specs.World.{World}
use Rattle.ib_run.specs.OverHost.{OverHost}
use Rattle.ib_run.specs.Path.{Path, Start, Then, printed_of}
use Rattle.ib_run.proofs.OverHost.{over_join, over_none, over_weaken}
use Rattle.ib_run.proofs.Paths.{path_more, path_over, path_begins}
use Rattle.machine_desc.specs.declared.machine.OpClass.{OpClass}
use Rattle.wide_core.specs.declared.code.RawCode.{RawCode}
use Rattle.wide_core.specs.Meaning.{wide_step, wide_end, wide_meaning}
use Rattle.wide_sim.specs.declared.outcome.SimErr.{SimErr}
use Rattle.wide_sim.specs.declared.outcome.SimOutcome.{SimOutcome}
use Rattle.wide_sim.specs.declared.outcome.SimOutcome.TheVariants.{Ended as EndedAfter, Reported as ReportedAfter, Spent}
use Rattle.wide_sim.specs.declared.outcome.Stepped.{Stepped}
use Rattle.wide_sim.specs.declared.outcome.Stepped.TheVariants.{Going, Ended, Reported}
use Rattle.wide_sim.specs.Simulation.{Simulation, Begins, BreaksOff, ComesToEnd, Cycles, EndsAfter, IsLoaded, Leads, Ran, RunEnds, Simulates, is_over, meaning_from, outcome_by, state_of, step_to}

-- ---- before its end a path's machine goes on

split : (m k : ℕ) → m ≤ suc k → (m ≤ k) ⊎ (m ≡ suc k)
split zero k le = inl (omega arith)
split (suc m) zero le = inr (omega arith)
split (suc m) (suc k) le = further (split m k (omega arith))
  where
    further : (m ≤ k) ⊎ (m ≡ suc k) → (suc m ≤ suc k) ⊎ (suc m ≡ suc (suc k))
    further (inl lt) = inl (omega arith)
    further (inr is) = inr (ap (λ n. suc n) is)

abbrev GoesOn : Meaning → List ℕ → ℕ → Type 0
GoesOn meaning input m = (printed : List ℕ) × (rest : List ℕ) × (meaning input m ≡ More printed rest)

module _ {S : Type 0} (machine : Machine S) where
  not_over : {s : S} {input : List ℕ} {k : ℕ} {t : S} {left printed : List ℕ} → Path machine s input k t left printed → (m : ℕ) → m ≤ k → GoesOn (means machine s) input m
  not_over {s} {input} Start m le =
      let is : m ≡ 0 = omega arith in ([], input, ap (λ n. means machine s input n) is)
  not_over {s} {input} (Then {k} {t} {left} {printed} u rest more path is) m le = by_place (λ before. not_over path m before) (split m k le)
    where
      by_place : (m ≤ k → GoesOn (means machine s) input m) → (m ≤ k) ⊎ (m ≡ suc k) → GoesOn (means machine s) input m
      by_place sooner (inl before) = sooner before
      by_place sooner (inr here) = (printed ++ more, rest, ap (λ n. means machine s input n) here ∙ path_more machine (Then u rest more path is))

-- ---- runs

pub goes_on : (stepped : Stepped) (over : Bool) → over ≡ is_over stepped → over ≡ false → stepped ≡ Going
goes_on Going over is not_over = refl
goes_on (Ended result) over is not_over = cc
goes_on (Reported place kind) over is not_over = cc

pub stops_here : (stepped : Stepped) (over : Bool) → over ≡ is_over stepped → over ≡ true → stepped ≡ Going → ⊥
stops_here stepped over is over_now going = let no' : true ≡ false = sym over_now ∙ is ∙ ap is_over going in cc

module _ (latency : OpClass → ℕ) where
  pub leads_none : (sim : Simulation) (w : World) → OverHost (Leads latency 0 sim sim) w w
  leads_none sim w = over_none (Leads latency 0 sim sim) (λ left. Start) w

  module _ (k : ℕ) (old mid new : Simulation) (w0 w1 w2 : World) (same_code : mid.code ≡ old.code) (leads : OverHost (Leads latency k old mid) w0 w1) where
    cycle_is : (input left out : List ℕ) (stepped : Stepped) → new.stepped ≡ stepped → Cycles latency mid new input left out → wide_step latency old.code (state_of mid) input ≡ step_to stepped (state_of new) left out
    cycle_is input left out stepped is cycle =
        ap (λ code. wide_step latency code (state_of mid) input) (sym same_code) ∙ cycle.step ∙ ap (λ s. step_to s (state_of new) left out) is

    pub leads_more : new.stepped ≡ Going → OverHost (Cycles latency mid new) w1 w2 → OverHost (Leads latency (k + 1) old new) w0 w2
    leads_more going cycle =
        let one : suc k ≡ k + 1 = omega arith in
        subst (λ n. OverHost (Leads latency n old new) w0 w2) one
        (over_join (Leads latency k old mid) (Cycles latency mid new) (Leads latency (suc k) old new) w0 w1 w2 leads cycle
        (λ input rest left out more path goes. Then (state_of new) left more path (cycle_is rest left more Going going goes)))

    ends_so : (stepped : Stepped) (finish : Finish) → new.stepped ≡ stepped → is_over stepped ≡ true → ((left out : List ℕ) → step_to stepped (state_of new) left out ≡ Stops finish left out) → OverHost (Cycles latency mid new) w1 w2 → OverHost (ComesToEnd latency finish (k + 1) old new) w0 w2
    ends_so stepped finish is over stops cycle =
        over_join (Leads latency k old mid) (Cycles latency mid new) (ComesToEnd latency finish (k + 1) old new) w0 w1 w2 leads cycle
        (λ input rest left out more path goes. (
          record {
            over = path_over (wide_step latency old.code) path finish left more (cycle_is rest left more stepped is goes ∙ stops left more) (k + 1) (omega arith);
            sooner = λ m lt. not_over (wide_step latency old.code) path m (omega arith);
          },
          record {
            earlier = k;
            count = omega arith;
            state = state_of mid;
            rest = rest;
            printed = out;
            leads = path;
            stands = goes.last (ap is_over is ∙ over) ∙ ap (λ code. wide_end latency code (state_of mid) rest) same_code;
          },
        ))

    pub ran_over : (most : ℕ) (outcome : SimOutcome) (cycle : ℕ) → k < most → cycle ≡ old.cycle + (k + 1) → (new.stepped ≡ Going → ⊥) → outcome ≡ outcome_by new.stepped cycle → OverHost (Cycles latency mid new) w1 w2 → Ran latency outcome most old new w0 w2
    ran_over most outcome cycle lt count over is goes =
        subst (λ o. Ran latency o most old new w0 w2) (sym is) (by_end new.stepped refl)
      where
        by_end : (stepped : Stepped) → new.stepped ≡ stepped → Ran latency (outcome_by stepped cycle) most old new w0 w2
        by_end Going e = absurd (over e)
        by_end (Ended result) e = record { steps = k + 1; within = omega arith; count = count; over = ends_so (Ended result) (Returned result) e refl (λ left out. refl) goes }
        by_end (Reported place kind) e = record { steps = k + 1; within = omega arith; count = count; over = ends_so (Reported place kind) (Faulted place kind) e refl (λ left out. refl) goes }

    pub begins_so : (most : ℕ) → k < most → OverHost (BreaksOff latency mid) w1 w2 → OverHost (Begins (meaning_from latency old) most) w0 w2
    begins_so most lt broken =
        over_join (Leads latency k old mid) (BreaksOff latency mid) (Begins (meaning_from latency old) most) w0 w1 w2 leads broken
        (λ input rest left out more path part.
        path_begins (wide_step latency old.code) path more (subst (λ (code : RawCode). IsPrefix more (printed_of (wide_step latency code (state_of mid) rest))) same_code part.begins) most lt)

  pub ran_spent : (old new : Simulation) (most : ℕ) (outcome : SimOutcome) (w0 w1 : World) → new.stepped ≡ Going → outcome ≡ outcome_by new.stepped new.cycle → OverHost (Leads latency most old new) w0 w1 → Ran latency outcome most old new w0 w1
  ran_spent old new most outcome w0 w1 going is leads =
      subst (λ o. Ran latency o most old new w0 w1) (sym (is ∙ ap (λ s. outcome_by s new.cycle) going)) leads

  -- ---- from the start

  module _ (code : RawCode) (sim : Simulation) (loaded : IsLoaded latency code sim) where
    meaning_is : (input : List ℕ) (n : ℕ) → meaning_from latency sim input n ≡ wide_meaning latency code input n
    unfolding wide_meaning
    meaning_is input n =
        ap (λ c. means (wide_step latency c) (state_of sim) input n) loaded.same_code ∙ ap (λ s. means (wide_step latency code) s input n) loaded.start

    ended_so : (finish : Finish) (cycles : ℕ) (input left out : List ℕ) → EndsAfter (meaning_from latency sim) finish cycles input left out → EndsAfter (wide_meaning latency code) finish cycles input left out
    ended_so finish cycles input left out e = record {
      over = sym (meaning_is input cycles) ∙ e.over;
      sooner = λ m lt. let g = e.sooner m lt in (g.0, g.1, sym (meaning_is input m) ∙ g.2);
    }

    module _ (new : Simulation) (before after : World) (first : sim.cycle ≡ 0) where
      ended : (finish : Finish) (cycles most : ℕ) → RunEnds latency finish cycles most sim new before after → OverHost (λ input left out. (cycles ≤ most) × EndsAfter (wide_meaning latency code) finish cycles input left out) before after
      ended finish cycles most e =
          let count : e.steps ≡ cycles = let h = e.count in omega arith in
          let within = e.within in
          over_weaken (ComesToEnd latency finish e.steps sim new) (λ input left out. (cycles ≤ most) × EndsAfter (wide_meaning latency code) finish cycles input left out) before after e.over
          (λ input left out h. (omega arith, subst (λ n. EndsAfter (wide_meaning latency code) finish n input left out) count (ended_so finish e.steps input left out h.0)))

      spent : (most : ℕ) → OverHost (Leads latency most sim new) before after → OverHost (λ input left out. wide_meaning latency code input most ≡ More out left) before after
      spent most leads =
          over_weaken (Leads latency most sim new) (λ input left out. wide_meaning latency code input most ≡ More out left) before after leads
          (λ input left out path. sym (meaning_is input most) ∙ path_more (wide_step latency sim.code) path)

      pub simulates : (outcome : SimOutcome) (most : ℕ) → Ran latency outcome most sim new before after → OverHost (Simulates (wide_meaning latency code) most outcome) before after
      simulates (EndedAfter result cycles) most ran = ended (Returned result) cycles most ran
      simulates (ReportedAfter place kind cycles) most ran = ended (Faulted place kind) cycles most ran
      simulates Spent most ran = spent most ran

    pub begins_meaning : (most : ℕ) (before after : World) → OverHost (Begins (meaning_from latency sim) most) before after → OverHost (Begins (wide_meaning latency code) most) before after
    begins_meaning most before after over =
        over_weaken (Begins (meaning_from latency sim) most) (Begins (wide_meaning latency code) most) before after over
        (λ input left out p. subst (λ report. IsPrefix out (out_of report)) (meaning_is input most) p)

-- ---- a run from the start, however it comes out

module _ (latency : OpClass → ℕ) (code : RawCode) (sim : Simulation) (loaded : IsLoaded latency code sim) (new : Simulation) (before after : World) (most : ℕ) where
  pub run_simulates : (result : Result SimOutcome SimErr) → (sim.stepped ≡ Going → IfOk result (λ outcome. Ran latency outcome most sim new before after)) → IfOk result (λ outcome. OverHost (Simulates (wide_meaning latency code) most outcome) before after)
  run_simulates (Ok outcome) ran = simulates latency code sim loaded new before after loaded.first outcome most (ran loaded.going)
  run_simulates (Err error) ran = tt

  pub run_begins : (result : Result SimOutcome SimErr) → OnErr result (OverHost (Begins (meaning_from latency sim) most) before after) → OnErr result (OverHost (Begins (wide_meaning latency code) most) before after)
  run_begins (Ok outcome) begins = tt
  run_begins (Err error) begins = begins_meaning latency code sim loaded most before after begins

pub begins_nothing : (meaning : Meaning) (most : ℕ) (before after : World) → after ≡ before → OverHost (Begins meaning most) before after
begins_nothing meaning most before after is =
    subst (λ w. OverHost (Begins meaning most) before w) (sym is)
    (over_none (Begins meaning most) (λ left. (out_of (meaning left most), refl)) before)
