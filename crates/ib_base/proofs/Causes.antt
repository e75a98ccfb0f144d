-- The count of faults behind one thing after the other.
use Rattle.std.proofs.Common.{◌≡◌, ℕ, true, false, Result, Err, refl, subst}
use Rattle.ib_base.specs.declared.host.HostErr.{HostErr}
use Rattle.ib_base.specs.declared.host.HostErr.TheVariants.{Failed, NoMemory}
use Rattle.ib_base.specs.declared.outcome.RunErr.{RunErr}
use Rattle.ib_base.specs.Cause.{HasCause, RunCause, run_err}

-- behind what left the count as it was
pub cause_behind : {T : Type 0} (before middle now : ℕ) (result : Result T HostErr) → middle ≡ before → HasCause middle now result → HasCause before now result
cause_behind before middle now result same cause = subst (λ n. HasCause n now result) same cause

pub run_cause_behind : {T : Type 0} (before middle now : ℕ) (result : Result T RunErr) → middle ≡ before → RunCause middle now result → RunCause before now result
run_cause_behind before middle now result same cause = subst (λ n. RunCause n now result) same cause

no : false ≡ true → ⊥
no e = cc

-- a run breaks off as the host does
breaks_alike : {S T : Type 0} (before now : ℕ) (error : HostErr) → HasCause {T = S} before now (Err error) → RunCause {T = T} before now (Err (run_err error))
breaks_alike {S} {T} before now Failed cause =
    record { later = cause.later; failed = λ e. cause.failed refl; done = λ ok. absurd (no ok); no_room = λ e. cc }
breaks_alike {S} {T} before now NoMemory cause =
    record { later = cause.later; failed = λ e. cc; done = λ ok. absurd (no ok); no_room = λ e. cause.no_memory refl }

pub run_broke : {S T : Type 0} (before middle now : ℕ) (error : HostErr) → middle ≡ before → HasCause {T = S} middle now (Err error) → RunCause {T = T} before now (Err (run_err error))
run_broke {S} {T} before middle now error same cause =
    run_cause_behind before middle now (Err (run_err error)) same (breaks_alike {S = S} {T = T} middle now error cause)
