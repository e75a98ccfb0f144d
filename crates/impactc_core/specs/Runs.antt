-- What a run over a host shows, in terms of a program's meaning.
use Rattle.std.specs.Prelude.{◌≡◌, ◌≤◌, ℕ, List}
use Rattle.ib_meaning.specs.Agreement.{Agrees, Returned, Faulted, Meaning, HasOver, IsPrefix, out_of}
use Rattle.ib_base.specs.World.{World}
use Rattle.ib_base.specs.declared.outcome.Outcome.TheVariants as outcome
use Rattle.ib_run.specs.OverHost.{OverHost}
use Rattle.wide_core.specs.declared.code.RawCode.{RawCode}
use Rattle.wide_core.specs.Valid.{IsValid}
use Rattle.wide_sim.specs.declared.outcome.SimOutcome.{SimOutcome}
use Rattle.wide_sim.specs.declared.outcome.SimOutcome.TheVariants.{Ended, Reported, Spent}
use Rattle.wide_sim.specs.Simulation.{Simulates}
use Rattle.impactc_core.specs.declared.success.Success.{Success}
use Rattle.impactc_core.specs.declared.success.Success.TheVariants.{Ran}
use Rattle.impactc_core.specs.Machines.{Table, limits_of, code_meaning}

-- what was printed begins an output of the meaning
abbrev pub BeginsOutput : Meaning → (input left out : List ℕ) → Type 0
BeginsOutput meaning input left out = (n : ℕ) × IsPrefix out (out_of (meaning input n))

-- how many cycles a run took that may take this many; one that is spent took all
abbrev pub cycles_of : (most : ℕ) → SimOutcome → ℕ
cycles_of most (Ended result cycles) = cycles
cycles_of most (Reported place kind cycles) = cycles
cycles_of most Spent = most

-- how such a run is noted
abbrev pub ran_so : (most : ℕ) → SimOutcome → Success
ran_so most (Ended result cycles) = Ran (outcome.Ended result) cycles
ran_so most (Reported place kind cycles) = Ran (outcome.Faulted place kind) cycles
ran_so most Spent = Ran outcome.Spent most

-- code that has this meaning was run for so many cycles at most
pub record RunsCode (code : Meaning) (most : ℕ) (success : Success) (old new : World) : Type 0 where
  pub outcome : SimOutcome
  pub is : success ≡ ran_so most outcome
  pub some : 1 ≤ cycles_of most outcome
  pub few : cycles_of most outcome ≤ most
  pub runs : OverHost (Simulates code most outcome) old new

-- what a program means where code that agrees with it comes out so
abbrev pub MeansAlike : Meaning → SimOutcome → (input left out : List ℕ) → Type 0
MeansAlike source (Ended result cycles) input left out = HasOver source input (Returned result) out left
MeansAlike source (Reported place kind cycles) input left out = HasOver source input (Faulted place kind) out left
MeansAlike source Spent input left out = BeginsOutput source input left out

-- the code comes out so, in so many cycles at most, and the program alike, from the same input, with the same output and the
-- same input left
pub record RunsAlike (source code : Meaning) (most : ℕ) (outcome : SimOutcome) (input left out : List ℕ) : Type 0 where
  pub code_runs : Simulates code most outcome input left out
  pub source_means : MeansAlike source outcome input left out

-- a program was run for so many cycles at most, by this code for the machine, which agrees with it
pub record RunsTo (machine : Table) (source : Meaning) (code : RawCode) (most : ℕ) (success : Success) (old new : World) : Type 0 where
  pub valid : IsValid (limits_of machine) code
  pub agrees : Agrees source (code_meaning machine code)
  pub outcome : SimOutcome
  pub is : success ≡ ran_so most outcome
  pub some : 1 ≤ cycles_of most outcome
  pub few : cycles_of most outcome ≤ most
  pub runs : OverHost (RunsAlike source (code_meaning machine code) most outcome) old new
