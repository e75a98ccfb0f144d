-- How far a run has come, with its table of counts, and how it came out.
use Rattle.std.specs.Prelude.{◌≡◌, ℕ, List}
use Rattle.ib_base.specs.declared.outcome.Outcome.{Outcome}
use Rattle.ib_run.specs.Path.{Path}
use Rattle.tac_core.specs.declared.counts.FuncCounts.{FuncCounts}
use Rattle.tac_core.specs.Program.{Program}
use Rattle.tac_core.specs.Meaning.{State, tac_step, tac_meaning}
use Rattle.profile.specs.Counting.{start_of}
use Rattle.ib_run.specs.Report.{report_of}
use Rattle.profile.specs.Tallies.{IsTallied}

-- the run came so far, and the table has its counts
pub record Walked (p : Program) (k : ℕ) (s : State) (table : List FuncCounts) (input left out : List ℕ) : Type 0 where
  pub path : Path (tac_step p.funcs p.places) (start_of p) input k s left out
  pub counts : IsTallied p input k table

-- the run came out so
pub record Reported (p : Program) (budget : ℕ) (outcome : Outcome) (table : List FuncCounts) (input left out : List ℕ) : Type 0 where
  pub means_so : tac_meaning p input budget ≡ report_of outcome out left
  pub counts : IsTallied p input budget table
