-- Why a cycle was not done.
use Rattle.std.specs.Prelude.{◌≡◌, ℕ, ◌≤◌, Result, IsOk, IsErrOf}
use Rattle.ib_base.specs.Cause.{Rose}
use Rattle.wide_sim.specs.declared.outcome.SimErr.{SimErr}
use Rattle.wide_sim.specs.declared.outcome.SimErr.TheVariants.{HostFailed, NoMemory}

-- a count does not fall, and the host failed only where it rose; with any other answer it stands
pub record SimCause {T : Type 0} (before now : ℕ) (result : Result T SimErr) : Type 0 where
  pub later : before ≤ now
  pub failed : IsErrOf result HostFailed → Rose before now
  pub done : IsOk result → now ≡ before
  pub no_memory : IsErrOf result NoMemory → now ≡ before
