-- How `check F` succeeds.
use Rattle.std.specs.Prelude.{◌≡◌, ℕ, List}
use Rattle.ib_base.specs.World.{World}
use Rattle.c_typed.specs.Program.{Program}
use Rattle.impactc_core.specs.declared.success.Success.{Success}
use Rattle.impactc_core.specs.declared.success.Success.TheVariants.{Checked}
use Rattle.impactc_core.specs.Sources.{IsSource, HasProgram}

-- the file has a program within the limits; nothing is printed, and the input is left
pub record IsChecked (file : List ℕ) (success : Success) (old new : World) : Type 0 where
  pub content : List ℕ
  pub program : Program
  pub source : IsSource file old content
  pub typed : HasProgram content program
  pub same : new ≡ old
  pub is : success ≡ Checked
