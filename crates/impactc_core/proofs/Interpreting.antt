-- The work of `interp F`.
use Rattle.std.proofs.Common.{◌≡◌, inr, ℕ, List, Result, Ok, Err, IfOk, IfErr, Some, refl, sym, subst}
use Rattle.std.specs.Prelude.{OnErr}
use Rattle.ib_meaning.specs.Agreement.{IsPrefix, out_of}
use Rattle.ib_meaning.proofs.Agreement.{prefix_refl}
use Rattle.ib_base.specs.World.{World}
use Rattle.ib_base.specs.declared.outcome.Outcome.{Outcome}
use Rattle.ib_base.specs.declared.outcome.Outcome.TheVariants.{Ended, Faulted, Spent}
use Rattle.ib_run.specs.OverHost.{OverHost}
use Rattle.ib_run.specs.Report.{report_of}
use Rattle.ib_run.proofs.OverHost.{over_weaken}
use Rattle.c_typed.specs.Program.{Program}
use Rattle.c_eval.specs.Running.{MeansSo, Begins}
use Rattle.impactc_words.specs.declared.words.Command.TheVariants.{Interp}
use Rattle.impactc_core.specs.declared.core_err.CoreErr.{CoreErr}
use Rattle.impactc_core.specs.declared.success.Success.{Success}
use Rattle.impactc_core.specs.declared.success.Success.TheVariants.{Interpreted}
use Rattle.impactc_core.specs.Answers.{Works}
use Rattle.impactc_core.specs.Sources.{IsSource, HasProgram}
use Rattle.impactc_core.specs.Work.{Interprets, IsBreak}
use Rattle.impactc_core.proofs.Refusing.{works_broken}

pub interprets : (program : Program) (outcome : Outcome) (old new : World) → OverHost (MeansSo program 10000000 outcome) old new → Interprets program (Interpreted outcome) old new
interprets program outcome old new means = record { outcome = outcome; is = refl; means = means }

out-report : (outcome : Outcome) (out left : List ℕ) → out_of (report_of outcome out left) ≡ out
out-report (Ended result) out left = refl
out-report (Faulted place kind) out left = refl
out-report Spent out left = refl

prints_all : (program : Program) (outcome : Outcome) (old new : World) → OverHost (MeansSo program 10000000 outcome) old new → OverHost (Begins program 10000000) old new
prints_all program outcome old new means =
    over_weaken (MeansSo program 10000000 outcome) (Begins program 10000000) old new means
    (λ input left out is.
    subst (λ (report : _). IsPrefix out (out_of report)) (sym is)
    (subst (λ (printed : List ℕ). IsPrefix out printed) (sym (out-report outcome out left)) (prefix_refl out)))

-- a program that was interpreted, or broke off
pub works_interpreted : (file content : List ℕ) (program : Program) (result : Result Success CoreErr) (old new : World) → IsSource file old content → HasProgram content program → IfOk result (λ success. Interprets program success old new) → IfErr result IsBreak → OnErr result (OverHost (Begins program 10000000) old new) → Works (Some (Interp file)) result old new
works_interpreted file content program (Ok success) old new source has ran broke part = record {
  may = inr (record { content = content; program = program; source = source; typed = has; prints = prints_all program ran.outcome old new ran.means });
  cause = λ plain. record { content = content; program = program; source = source; typed = has; outcome = ran.outcome; is = ran.is; means = ran.means };
}
works_interpreted file content program (Err refusal) old new source has ran broke part =
    works_broken (Interp file) old refusal new broke
    (inr (record { content = content; program = program; source = source; typed = has; prints = part }))
