-- How `interp F` succeeds.
use Rattle.std.specs.Prelude.{◌≡◌, ℕ, List}
use Rattle.ib_base.specs.World.{World}
use Rattle.ib_base.specs.declared.outcome.Outcome.{Outcome}
use Rattle.ib_run.specs.OverHost.{OverHost}
use Rattle.c_typed.specs.Program.{Program}
use Rattle.c_eval.specs.Running.{MeansSo, Begins}
use Rattle.impactc_core.specs.declared.success.Success.{Success}
use Rattle.impactc_core.specs.declared.success.Success.TheVariants.{Interpreted}
use Rattle.impactc_core.specs.Sources.{IsSource, HasProgram}

-- the file's program means this with a budget of 10,000,000; what the meaning prints is printed, and what it leaves is left
pub record IsInterpreted (file : List ℕ) (success : Success) (old new : World) : Type 0 where
  pub content : List ℕ
  pub program : Program
  pub source : IsSource file old content
  pub typed : HasProgram content program
  pub outcome : Outcome
  pub is : success ≡ Interpreted outcome
  pub means : OverHost (MeansSo program 10000000 outcome) old new

-- a beginning of the output of the file's program was printed; what is left of the input is an end of it
pub record IsInterpretedInPart (file : List ℕ) (old new : World) : Type 0 where
  pub content : List ℕ
  pub program : Program
  pub source : IsSource file old content
  pub typed : HasProgram content program
  pub prints : OverHost (Begins program 10000000) old new
