-- How a run of a three-address program over a host comes out, and its steps.
use Rattle.std.specs.Prelude.{◌≡◌, ℕ, ℤ, pos, negsuc, List, [], ◌∷◌, Option, Some, None}
use Rattle.ib_base.specs.declared.outcome.Outcome.{Outcome}
use Rattle.ib_meaning.specs.declared.fault.FaultKind.{FaultKind}
use Rattle.ib_meaning.specs.declared.fault.FaultKind.TheVariants.{BadAddress}
use Rattle.ib_meaning.specs.Agreement.{Returned, Faulted, IsPrefix, out_of}
use Rattle.ib_meaning.specs.Machine.{Step, Goes, Stops}
use Rattle.ib_run.specs.Path.{printed_of}
use Rattle.ib_run.specs.Report.{report_of}
use Rattle.tac_core.specs.declared.counts.FuncCounts.{FuncCounts}
use Rattle.tac_core.specs.Program.{Program}
use Rattle.tac_core.specs.Meaning.{State, Effect, Does, Fails, tac_step, tac_meaning}
use Rattle.profile.specs.declared.progress.Progress.{Progress}
use Rattle.profile.specs.declared.progress.Progress.TheVariants.{Going, Done, Broken}
use Rattle.profile.specs.Counting.{AreCounted}

-- the meaning with the budget, and the counts of that run
pub record Runs (p : Program) (budget : ℕ) (outcome : Outcome) (counts : List FuncCounts) (input left out : List ℕ) : Type 0 where
  pub means_so : tac_meaning p input budget ≡ report_of outcome out left
  pub counted : AreCounted p input budget counts

-- what was printed begins an output of the meaning
abbrev pub Begins : Program → (budget : ℕ) → (input left out : List ℕ) → Type 0
Begins p budget input left out = IsPrefix out (out_of (tac_meaning p input budget))

-- ---- a step

-- the number that a read of the input gives, and the input behind it
abbrev pub next_of : List ℕ → ℤ
next_of [] = negsuc 0
next_of (byte ∷ rest) = pos byte

abbrev pub rest_of : List ℕ → List ℕ
rest_of [] = []
rest_of (byte ∷ rest) = rest

-- the fault of an access, by the memory behind it
abbrev pub access_fault : Option (List ℕ) → Option FaultKind
access_fault None = Some BadAddress
access_fault (Some memory) = None

-- an effect that depends on the input: it was done, or it failed
abbrev pub Takes : (List ℕ → Effect) → (regs : List ℤ) (memory : List ℕ) → Option FaultKind → (input left out : List ℕ) → Type 0
Takes effect regs memory None input left out = effect input ≡ Does regs memory left out
Takes effect regs memory (Some kind) input left out = (effect input ≡ Fails kind) × (input ≡ left) × (out ≡ [])

abbrev pub effect_prints : Effect → List ℕ
effect_prints (Does regs memory left printed) = printed
effect_prints (Fails kind) = []

-- a beginning of what the effect prints
abbrev pub TakesPart : (List ℕ → Effect) → (input left part : List ℕ) → Type 0
TakesPart effect input left part = IsPrefix part (effect_prints (effect input))

-- the step went so, with this input left and this printed
abbrev pub Did : Step State → State → Progress → (left out : List ℕ) → Type 0
Did step next Going left out = step ≡ Goes next left out
Did step next (Done result) left out = step ≡ Stops (Returned result) left out
Did step next (Broken place kind) left out = step ≡ Stops (Faulted place kind) left out

-- one step from a state to another, or the last one
abbrev pub Steps : Program → State → State → Progress → (input left out : List ℕ) → Type 0
Steps p s t progress input left out = Did (tac_step p.funcs p.places s input) t progress left out

-- a beginning of what the step prints
abbrev pub StepsPart : Program → State → (input left part : List ℕ) → Type 0
StepsPart p s input left part = IsPrefix part (printed_of (tac_step p.funcs p.places s input))
