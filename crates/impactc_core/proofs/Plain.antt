-- Work that was done is no failure of the host, and not want of memory.
use Rattle.ib_base.specs.declared.outcome.Outcome.{Outcome}
use Rattle.ib_base.specs.declared.outcome.Outcome.TheVariants.{Ended, Faulted, Spent}
use Rattle.impactc_core.specs.declared.success.Success.{Success}
use Rattle.impactc_core.specs.declared.success.Success.TheVariants.{Checked, Interpreted, Ran}
use Rattle.impactc_core.specs.Answers.{IsPlain}
use Rattle.impactc_core.specs.Notes.{outcome_status, success_status}

outcome_plain : (outcome : Outcome) → IsPlain (outcome_status outcome)
outcome_plain (Ended result) = tt
outcome_plain (Faulted place kind) = tt
outcome_plain Spent = tt

pub success_plain : (success : Success) → IsPlain (success_status success)
success_plain Checked = tt
success_plain (Interpreted outcome) = outcome_plain outcome
success_plain (Ran outcome cycles) = outcome_plain outcome
