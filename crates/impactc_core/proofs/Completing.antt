-- What can be done is done, where memory and the host allow it.
use Rattle.std.proofs.Common.{◌≡◌, ◌⊎◌, inl, inr, ℕ, List, Option, Some, None, Result, Ok, Err, refl, sym, ap, ◌∙◌, subst}
use Rattle.std.specs.Prelude.{IsSomeAnd, IfSome}
use Rattle.std.specs.FinMap.{get}
use Rattle.ib_meaning.proofs.Facts.{some_same}
use Rattle.ib_base.specs.World.{World, Disk}
use Rattle.ib_base.specs.declared.outcome.Outcome.{Outcome}
use Rattle.ib_base.specs.declared.outcome.Outcome.TheVariants as outcome
use Rattle.wide_sim.specs.declared.outcome.SimOutcome.{SimOutcome}
use Rattle.wide_sim.specs.declared.outcome.SimOutcome.TheVariants.{Ended, Reported, Spent}
use Rattle.c_typed.specs.Program.{Program as Typed}
use Rattle.first_form.specs.declared.program.Program.{Program}
use Rattle.impactc_words.specs.declared.words.Command.{Command}
use Rattle.impactc_words.specs.declared.words.Command.TheVariants.{Check, Interp, Run}
use Rattle.impactc_core.specs.declared.core_err.CoreErr.{CoreErr}
use Rattle.impactc_core.specs.declared.core_err.CoreErr.TheVariants.{Usage as BadWords, Source, HostFault as Host, NoMemory as Memory, TooLarge as Large}
use Rattle.impactc_core.specs.declared.status.Status.{Status}
use Rattle.impactc_core.specs.declared.status.Status.TheVariants.{Done, Usage, SourceRefused, ProfileRefused, CodeRefused, HostFault, NoMemory, TooLarge, ProgramFault, CyclesSpent}
use Rattle.impactc_core.specs.declared.success.Success.{Success}
use Rattle.impactc_core.specs.Answers.{IsPlain, CanWork, CauseOf, HasWorked, RefusesInput, Succeeds, Answers}
use Rattle.impactc_core.specs.Notes.{outcome_status, status_of, success_status}
use Rattle.impactc_core.specs.RunAnswers.{HasFirstForm, IsNotCompiled, IsOver}
use Rattle.impactc_core.specs.Runs.{ran_so}
use Rattle.impactc_core.specs.Sources.{HasProgram, IsKnown, IsPast, IsFaulty, IsTooLarge, IsRefused}
use Rattle.impactc_core.proofs.Forms.{no_other_form}
use Rattle.impactc_core.proofs.Fronts.{no_fault, no_past}
use Rattle.impactc_core.proofs.Topped.{same_status}

same_content : (disk : Option Disk) (file a b : List ℕ) → IsSomeAnd disk (λ d. get d.files file ≡ Some a) → IfSome disk (λ d. get d.files file ≡ Some b) → a ≡ b
same_content None file a b h k = absurd h
same_content (Some disk) file a b h k = some_same (sym h ∙ k)

-- ---- what can be worked on is not refused

module _ (file content : List ℕ) (program : Typed) (w : World) (known : IsKnown file w content) (has : HasProgram content program) where
  not_faulty : (place : _) (reason : _) → IsFaulty file place reason w → ⊥
  not_faulty place reason faulty =
      let same : content ≡ faulty.content = same_content w.disk file content faulty.content known.there faulty.source.there in
      no_fault faulty.content program (subst (λ (bytes : List ℕ). HasProgram bytes program) same has) place reason faulty.has_fault

  not_large : (limit : _) → IsTooLarge file limit w → ⊥
  not_large limit large =
      let same : content ≡ large.content = same_content w.disk file content large.content known.there large.there in
      no_past content program has known.fits limit (subst (λ (bytes : List ℕ). IsPast bytes limit) (sym same) large.past)

  not_refused : (refusal : CoreErr) → IsRefused file refusal w → ⊥
  not_refused BadWords is = is
  not_refused (Source name place reason) is = not_faulty place reason is.1
  not_refused Host is = is
  not_refused Memory is = is
  not_refused (Large limit) is = not_large limit is

not_outside : (file content : List ℕ) (program : Program) (w : World) → IsKnown file w content → HasFirstForm content program → (refusal : CoreErr) → IsNotCompiled file refusal w → ⊥
not_outside file content program w known has refusal outside =
    let same : content ≡ outside.content = same_content w.disk file content outside.content known.there outside.source.there in
    no_other_form outside.content program (subst (λ (bytes : List ℕ). HasFirstForm bytes program) same has) outside.other

unrefused : (command : Command) (w : World) (refusal : CoreErr) → CanWork command w → RefusesInput command refusal w → ⊥
unrefused (Check file) w refusal can is = not_refused file can.0 can.1 w can.2 can.3 refusal is
unrefused (Interp file) w refusal can is = not_refused file can.0 can.1 w can.2 can.3 refusal is
unrefused (Run file) w refusal can (inl is) = not_refused file can.0 can.3.meant w can.2 can.3.typed refusal is
unrefused (Run file) w refusal can (inr outside) = not_outside file can.0 can.1 w can.2 can.3 refusal outside

-- ---- what succeeds has worked

interpreted_status : (file : List ℕ) (outcome : Outcome) → HasWorked (Interp file) (outcome_status outcome)
interpreted_status file (outcome.Ended result) = inl refl
interpreted_status file (outcome.Faulted place kind) = inr (inl refl)
interpreted_status file outcome.Spent = inr (inr refl)

run_status : (file : List ℕ) (most : ℕ) (outcome : SimOutcome) → IsOver outcome → HasWorked (Run file) (success_status (ran_so most outcome))
run_status file most (Ended result cycles) over = inl refl
run_status file most (Reported place kind cycles) over = inr refl
run_status file most Spent over = absurd over

succeeded : (command : Command) (success : Success) (old new : World) → Succeeds command success old new → HasWorked command (success_status success)
succeeded (Check file) success old new is = ap success_status is.is
succeeded (Interp file) success old new is = subst (λ (s : Success). HasWorked (Interp file) (success_status s)) (sym is.is) (interpreted_status file is.outcome)
succeeded (Run file) success old new is = subst (λ (s : Success). HasWorked (Run file) (success_status s)) (sym is.runs.is) (run_status file 100000000 is.runs.outcome is.over)

-- ---- the call

-- the work is done, or memory or the host hindered it
abbrev pub Comes : Command → Status → Type 0 → Type 0
Comes command status rose = HasWorked command status ⊎ ((status ≡ NoMemory) ⊎ rose)

by_cause : (command : Command) (old worked : World) (work : Result Success CoreErr) → CanWork command old → CauseOf (Some command) work old worked → HasWorked command (status_of work)
by_cause command old worked (Ok success) can cause = succeeded command success old worked cause
by_cause command old worked (Err refusal) can cause = absurd (unrefused command old refusal can cause.0)

kinds : (status : Status) → (status ≡ HostFault) ⊎ ((status ≡ NoMemory) ⊎ IsPlain status)
kinds Done = inr (inr tt)
kinds Usage = inr (inr tt)
kinds SourceRefused = inr (inr tt)
kinds ProfileRefused = inr (inr tt)
kinds CodeRefused = inr (inr tt)
kinds HostFault = inl refl
kinds NoMemory = inr (inl refl)
kinds TooLarge = inr (inr tt)
kinds ProgramFault = inr (inr tt)
kinds CyclesSpent = inr (inr tt)

module _ (command : Command) (old new : World) (status : Status) (rose : Type 0) (can : CanWork command old) (answers : Answers (Some command) old new status) (fault : status ≡ HostFault → rose) where
  plainly : IsPlain status → HasWorked command status
  plainly plain =
      let same = same_status answers.work status answers.leaves.whole plain answers.leaves.says in
      subst (HasWorked command) (sym same)
      (by_cause command old answers.worked answers.work can (answers.works.cause (subst IsPlain same plain)))

  by_kind : (status ≡ HostFault) ⊎ ((status ≡ NoMemory) ⊎ IsPlain status) → Comes command status rose
  by_kind (inl e) = inr (inr (fault e))
  by_kind (inr (inl e)) = inr (inl e)
  by_kind (inr (inr plain)) = inl (plainly plain)

  pub completes : Comes command status rose
  completes = by_kind (kinds status)
