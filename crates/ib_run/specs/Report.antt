-- What the outcome of a run says of a meaning.
use Rattle.std.specs.Prelude.{ℕ, List}
use Rattle.ib_base.specs.declared.outcome.Outcome.{Outcome}
use Rattle.ib_base.specs.declared.outcome.Outcome.TheVariants.{Ended, Faulted as FaultedAt, Spent}
use Rattle.ib_meaning.specs.Agreement.{Report, More, Over, Returned, Faulted}

-- with what was printed and the input that is left
abbrev pub report_of : Outcome → (out left : List ℕ) → Report
report_of (Ended result) out left = Over (Returned result) out left
report_of (FaultedAt place kind) out left = Over (Faulted place kind) out left
report_of Spent out left = More out left
