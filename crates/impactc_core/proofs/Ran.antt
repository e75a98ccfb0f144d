-- The run of code.
use Rattle.std.proofs.Common.{◌≡◌, ℕ, zero, suc, ◌≤◌, List, [], Option, Some, None, Result, Ok, Err, IfOk, refl, sym, ◌∙◌, subst, arith}
use Rattle.std.specs.Prelude.{IfSome, OnErr}
use Rattle.ib_meaning.specs.Agreement.{Finish, Returned, Faulted, Report, More, Over, IsOver, IsPrefix, Meaning, Agrees, HasOver, out_of}
use Rattle.ib_meaning.proofs.Agreement.{prints, prefix_refl, prefix_trans, same_ends}
use Rattle.ib_base.specs.World.{World}
use Rattle.ib_run.specs.OverHost.{HasInput, OverHost}
use Rattle.ib_run.proofs.OverHost.{over_none, over_weaken}
use Rattle.machine_desc.specs.declared.machine.OpClass.{OpClass}
use Rattle.wide_core.specs.declared.code.RawCode.{RawCode}
use Rattle.wide_core.specs.Meaning.{wide_meaning}
use Rattle.wide_core.specs.Valid.{IsValid}
use Rattle.wide_sim.specs.declared.outcome.SimOutcome.{SimOutcome}
use Rattle.wide_sim.specs.declared.outcome.SimOutcome.TheVariants.{Ended, Reported, Spent}
use Rattle.wide_sim.specs.Simulation.{Begins, EndsAfter, Simulates}
use Rattle.first_form.specs.declared.program.Program.{Program}
use Rattle.first_form.specs.Meaning.{source_meaning}
use Rattle.first_code.specs.Plain.{IsPlain}
use Rattle.impactc_core.specs.declared.core_err.CoreErr.{CoreErr}
use Rattle.impactc_core.specs.declared.success.Success.{Success}
use Rattle.impactc_core.specs.Machines.{Table, four, limits_of, code_meaning}
use Rattle.impactc_core.specs.RunAnswers.{IsOver as IsOverOutcome}
use Rattle.impactc_core.specs.Runs.{BeginsOutput, MeansAlike, RunsAlike, RunsCode, RunsTo, cycles_of, ran_so}
use Rattle.impactc_core.specs.Work.{RunsProgram}

-- what a host tells of its input leaves some input
some_input : (input : Option (List ℕ)) → (left : List ℕ) × IfSome input (λ known. known ≡ left)
some_input None = ([], tt)
some_input (Some known) = (known, refl)

some_left : (w : World) → (left : List ℕ) × HasInput w left
some_left w = some_input w.input

-- what holds over a host holds of some input
of_some : (P : (input left out : List ℕ) → Type 0) (old new : World) → (over : OverHost P old new) → (input : List ℕ) × (left : List ℕ) × P input left over.out
of_some P old new over =
    let left = some_left new in
    let at = over.from left.0 left.1 in
    (at.0, left.0, at.2)

-- ---- how many cycles a run took

at_start : (latency : OpClass → ℕ) (code : RawCode) (input : List ℕ) → wide_meaning latency code input 0 ≡ More [] input
unfolding wide_meaning
at_start latency code input = refl

module _ (latency : OpClass → ℕ) (code : RawCode) (most : ℕ) (positive : 1 ≤ most) (input left out : List ℕ) where
  starts : (finish : Finish) (cycles : ℕ) → EndsAfter (wide_meaning latency code) finish cycles input left out → 1 ≤ cycles
  starts finish zero ends =
      let clash : Over finish out left ≡ More [] input = sym ends.over ∙ at_start latency code input in cc
  starts finish (suc cycles) ends = omega arith

  takes_some : (outcome : SimOutcome) → Simulates (wide_meaning latency code) most outcome input left out → 1 ≤ cycles_of most outcome
  takes_some (Ended result cycles) is = starts (Returned result) cycles is.1
  takes_some (Reported place kind cycles) is = starts (Faulted place kind) cycles is.1
  takes_some Spent is = positive

  takes_few : (outcome : SimOutcome) → Simulates (wide_meaning latency code) most outcome input left out → cycles_of most outcome ≤ most
  takes_few (Ended result cycles) is = is.0
  takes_few (Reported place kind cycles) is = is.0
  takes_few Spent is = omega arith

pub runs_code : (latency : OpClass → ℕ) (code : RawCode) (most : ℕ) (outcome : SimOutcome) (old new : World) → 1 ≤ most → OverHost (Simulates (wide_meaning latency code) most outcome) old new → RunsCode (wide_meaning latency code) most (ran_so most outcome) old new
runs_code latency code most outcome old new positive over =
    let at = of_some (Simulates (wide_meaning latency code) most outcome) old new over in
    record {
      outcome = outcome;
      is = refl;
      some = takes_some latency code most positive at.0 at.1 over.out outcome at.2;
      few = takes_few latency code most positive at.0 at.1 over.out outcome at.2;
      runs = over;
    }

-- ---- code that is over within its cycles is not spent

goes_on_over : (report : Report) (out left : List ℕ) → report ≡ More out left → IsOver report → ⊥
goes_on_over report out left e over = let is = over.is in cc

is_over : (code : Meaning) (most : ℕ) (outcome : SimOutcome) (old new : World) → ((input : List ℕ) → IsOver (code input most)) → OverHost (Simulates code most outcome) old new → IsOverOutcome outcome
is_over code most (Ended result cycles) old new ends over = tt
is_over code most (Reported place kind cycles) old new ends over = tt
is_over code most Spent old new ends over =
    let at = of_some (Simulates code most Spent) old new over in
    goes_on_over (code at.0 most) over.out at.1 at.2 (ends at.0)

-- ---- what code shows, its program does

-- what was printed with these cycles begins an output
pub begins_output : (meaning : Meaning) (most : ℕ) (old new : World) → OverHost (Begins meaning most) old new → OverHost (BeginsOutput meaning) old new
begins_output meaning most old new over = over_weaken (Begins meaning most) (BeginsOutput meaning) old new over (λ input left out begins. (most, begins))

-- what a code prints in part, its program does
prints_part : (source code : Meaning) (old new : World) → Agrees source code → OverHost (BeginsOutput code) old new → OverHost (BeginsOutput source) old new
prints_part source code old new agrees over =
    over_weaken (BeginsOutput code) (BeginsOutput source) old new over
    (λ input left out part.
    let at = prints agrees input part.0 in
    (at.0, prefix_trans out (out_of (code input part.0)) (out_of (source input at.0)) part.1 at.1))

pub prints_if_broken : (source code : Meaning) (result : Result Success CoreErr) (old new : World) → Agrees source code → OnErr result (OverHost (BeginsOutput code) old new) → OnErr result (OverHost (BeginsOutput source) old new)
prints_if_broken source code (Ok success) old new agrees part = tt
prints_if_broken source code (Err refusal) old new agrees part = prints_part source code old new agrees part

-- nothing is a part of all that is printed
pub prints_nothing : (program : Program) (old new : World) → new ≡ old → OverHost (BeginsOutput (source_meaning program)) old new
prints_nothing program old new same =
    subst (OverHost (BeginsOutput (source_meaning program)) old) (sym same)
    (over_none (BeginsOutput (source_meaning program)) (λ left. (0, (out_of (source_meaning program left 0), refl))) old)

module _ (source code : Meaning) (agrees : Agrees source code) where
  means_alike : (most : ℕ) (outcome : SimOutcome) (input left out : List ℕ) → Simulates code most outcome input left out → MeansAlike source outcome input left out
  means_alike most (Ended result cycles) input left out is = (same_ends agrees input (Returned result) out left).1 (cycles, is.1.over)
  means_alike most (Reported place kind cycles) input left out is = (same_ends agrees input (Faulted place kind) out left).1 (cycles, is.1.over)
  means_alike most Spent input left out is =
      let at = prints agrees input most in
      (at.0, subst (λ (report : Report). IsPrefix (out_of report) (out_of (source input at.0))) is at.1)

  alike : (most : ℕ) (outcome : SimOutcome) (old new : World) → OverHost (Simulates code most outcome) old new → OverHost (RunsAlike source code most outcome) old new
  alike most outcome old new over =
      over_weaken (Simulates code most outcome) (RunsAlike source code most outcome) old new over
      (λ input left out is. record { code_runs = is; source_means = means_alike most outcome input left out is })

over_begins : (source : Meaning) (finish : Finish) (input left out : List ℕ) → HasOver source input finish out left → BeginsOutput source input left out
over_begins source finish input left out has = (has.0, subst (λ (report : Report). IsPrefix out (out_of report)) (sym has.1) (prefix_refl out))

pub alike_begins : (source : Meaning) (outcome : SimOutcome) (input left out : List ℕ) → MeansAlike source outcome input left out → BeginsOutput source input left out
alike_begins source (Ended result cycles) input left out alike = over_begins source (Returned result) input left out alike
alike_begins source (Reported place kind cycles) input left out alike = over_begins source (Faulted place kind) input left out alike
alike_begins source Spent input left out alike = alike

-- code for a machine was run, and its program with it
abbrev runs_to : (machine : Table) (source : Meaning) (code : RawCode) (most : ℕ) (success : Success) (old new : World) → IsValid (limits_of machine) code → Agrees source (code_meaning machine code) → RunsCode (code_meaning machine code) most success old new → RunsTo machine source code most success old new
runs_to machine source code most success old new valid agrees ran = record {
  valid = valid;
  agrees = agrees;
  outcome = ran.outcome;
  is = ran.is;
  some = ran.some;
  few = ran.few;
  runs = alike source (code_meaning machine code) agrees most ran.outcome old new ran.runs;
}

runs_program : (program : Program) (code : RawCode) (success : Success) (old new : World) → IsPlain code → IsValid (limits_of four) code → Agrees (source_meaning program) (code_meaning four code) → ((input : List ℕ) → IsOver (code_meaning four code input 100000000)) → RunsCode (code_meaning four code) 100000000 success old new → RunsProgram program success old new
runs_program program code success old new plain valid agrees ends ran = record {
  code = code;
  plain = plain;
  runs = runs_to four (source_meaning program) code 100000000 success old new valid agrees ran;
  over = is_over (code_meaning four code) 100000000 ran.outcome old new ends ran.runs;
}

pub runs_if_done : (program : Program) (code : RawCode) (result : Result Success CoreErr) (old new : World) → IsPlain code → IsValid (limits_of four) code → Agrees (source_meaning program) (code_meaning four code) → ((input : List ℕ) → IsOver (code_meaning four code input 100000000)) → IfOk result (λ success. RunsCode (code_meaning four code) 100000000 success old new) → IfOk result (λ success. RunsProgram program success old new)
runs_if_done program code (Ok success) old new plain valid agrees ends ran = runs_program program code success old new plain valid agrees ends ran
runs_if_done program code (Err refusal) old new plain valid agrees ends ran = tt
