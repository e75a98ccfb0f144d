-- What becomes of the one file that a command writes.
use Rattle.std.specs.Prelude.{◌≡◌, ◌⊎◌, ℕ, List}
use Rattle.ib_base.specs.World.{World, SpoilsFile, with_file}
use Rattle.impactc_core.specs.declared.status.Status.{Status}
use Rattle.impactc_core.specs.declared.status.Status.TheVariants.{Done, HostFault, NoMemory, ProgramFault, CyclesSpent}

-- the file holds a text of which this is true, and nothing else changed
pub record WritesFile (file : List ℕ) (is_text : List ℕ → Type 0) (old new : World) : Type 0 where
  pub text : List ℕ
  pub is : is_text text
  pub world : new ≡ with_file old file text

-- whatever hindered the work: the file is as it was, holds such a text, or its write failed, and nothing is told of it but
-- that
abbrev pub LeavesFile : List ℕ → (List ℕ → Type 0) → World → World → Type 0
LeavesFile file is_text old new = (new ≡ old) ⊎ (WritesFile file is_text old new ⊎ SpoilsFile old new file)

-- by the status of the command: behind work that is done the file holds its text; with a failing host or want of memory it is
-- left in one of the three ways; a refusal leaves it as it was
abbrev pub BecomesOfFile : List ℕ → (List ℕ → Type 0) → Status → World → World → Type 0
BecomesOfFile file is_text Done old new = WritesFile file is_text old new
BecomesOfFile file is_text ProgramFault old new = WritesFile file is_text old new
BecomesOfFile file is_text CyclesSpent old new = WritesFile file is_text old new
BecomesOfFile file is_text HostFault old new = LeavesFile file is_text old new
BecomesOfFile file is_text NoMemory old new = LeavesFile file is_text old new
BecomesOfFile file is_text status old new = new ≡ old
