-- How `run F` succeeds, and what it refuses beside a source that has no program.
use Rattle.std.specs.Prelude.{◌≡◌, ◌⊎◌, ⊤, ℕ, List}
use Rattle.ib_base.specs.World.{World}
use Rattle.ib_run.specs.OverHost.{OverHost}
use Rattle.wide_core.specs.declared.code.RawCode.{RawCode}
use Rattle.wide_sim.specs.declared.outcome.SimOutcome.{SimOutcome}
use Rattle.wide_sim.specs.declared.outcome.SimOutcome.TheVariants.{Spent}
use Rattle.c_typed.specs.Program.{Program as Typed}
use Rattle.first_form.specs.declared.program.Program.{Program}
use Rattle.first_form.specs.FirstForm.{IsFirstForm}
use Rattle.first_form.specs.Meaning.{source_meaning}
use Rattle.first_code.specs.Plain.{IsPlain as IsPlainCode}
use Rattle.impactc_core.specs.declared.core_err.CoreErr.{CoreErr}
use Rattle.impactc_core.specs.declared.core_err.CoreErr.TheVariants.{Source}
use Rattle.impactc_core.specs.declared.core_err.SourceFault.TheVariants.{NotInThisVersion}
use Rattle.impactc_core.specs.declared.success.Success.{Success}
use Rattle.impactc_core.specs.Machines.{four}
use Rattle.impactc_core.specs.Runs.{BeginsOutput, RunsTo}
use Rattle.impactc_core.specs.Sources.{IsSource, HasProgram, IsRefused}

-- the content has a typed program within the limits, and its tokens are this program of the first form
pub record HasFirstForm (content : List ℕ) (program : Program) : Type 0 where
  pub meant : Typed
  pub typed : HasProgram content meant
  pub form : IsFirstForm content typed.tokens program

-- the content has a typed program within the limits, and its tokens are not in the first form
pub record HasOtherForm (content : List ℕ) : Type 0 where
  pub meant : Typed
  pub typed : HasProgram content meant
  pub none : (program : Program) → IsFirstForm content typed.tokens program → ⊥

abbrev pub IsOver : SimOutcome → Type 0
IsOver Spent = ⊥
IsOver outcome = ⊤

-- the file's program was run to its end: by plain code for the machine of four, within 100,000,000 cycles
pub record HasRun (file : List ℕ) (success : Success) (old new : World) : Type 0 where
  pub content : List ℕ
  pub program : Program
  pub source : IsSource file old content
  pub form : HasFirstForm content program
  pub code : RawCode
  pub plain : IsPlainCode code
  pub runs : RunsTo four (source_meaning program) code 100000000 success old new
  pub over : IsOver runs.outcome

-- a beginning of an output of the file's program was printed; what is left of the input is an end of it
pub record HasRunInPart (file : List ℕ) (old new : World) : Type 0 where
  pub content : List ℕ
  pub program : Program
  pub source : IsSource file old content
  pub form : HasFirstForm content program
  pub prints : OverHost (BeginsOutput (source_meaning program)) old new

-- the file's program is not in the first form, and so not compiled
pub record IsNotCompiled (file : List ℕ) (refusal : CoreErr) (w : World) : Type 0 where
  pub content : List ℕ
  pub source : IsSource file w content
  pub other : HasOtherForm content
  pub says : refusal ≡ Source file (record { line = 1; col = 1 }) NotInThisVersion

abbrev pub IsRefusedToRun : List ℕ → CoreErr → World → Type 0
IsRefusedToRun file refusal w = IsRefused file refusal w ⊎ IsNotCompiled file refusal w
