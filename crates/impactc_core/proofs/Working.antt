-- The work of `run F`.
use Rattle.std.proofs.Common.{inl, inr, ℕ, List, Result, Ok, Err, IfOk, IfErr, Some, refl, sym, subst}
use Rattle.std.specs.Prelude.{OnErr}
use Rattle.ib_base.specs.World.{World}
use Rattle.ib_run.specs.OverHost.{OverHost}
use Rattle.ib_run.proofs.OverHost.{over_weaken}
use Rattle.first_form.specs.declared.program.Program.{Program}
use Rattle.first_form.specs.Meaning.{source_meaning}
use Rattle.impactc_words.specs.declared.words.Command.TheVariants.{Run}
use Rattle.impactc_core.specs.declared.core_err.CoreErr.{CoreErr}
use Rattle.impactc_core.specs.declared.front.SourceErr.{SourceErr}
use Rattle.impactc_core.specs.declared.success.Success.{Success}
use Rattle.impactc_core.specs.Answers.{Works}
use Rattle.impactc_core.specs.Machines.{four, code_meaning}
use Rattle.impactc_core.specs.RunAnswers.{HasFirstForm}
use Rattle.impactc_core.specs.Runs.{BeginsOutput, RunsAlike}
use Rattle.impactc_core.specs.Sources.{IsSource}
use Rattle.impactc_core.specs.Work.{IsBreak, RefusesToRun, RunsProgram, of_file}
use Rattle.impactc_core.proofs.Ran.{alike_begins}
use Rattle.impactc_core.proofs.Refusing as refusing
use Rattle.impactc_core.proofs.Refusing.{works_broken}

prints_all : (program : Program) (success : Success) (old new : World) → RunsProgram program success old new → OverHost (BeginsOutput (source_meaning program)) old new
prints_all program success old new ran =
    let runs = ran.runs in
    over_weaken (RunsAlike (source_meaning program) (code_meaning four ran.code) 100000000 runs.outcome) (BeginsOutput (source_meaning program)) old new runs.runs
    (λ input left out alike. alike_begins (source_meaning program) runs.outcome input left out alike.source_means)

-- a program that was run, or broke off
pub works_ran : (file content : List ℕ) (program : Program) (result : Result Success CoreErr) (old new : World) → IsSource file old content → HasFirstForm content program → IfOk result (λ success. RunsProgram program success old new) → IfErr result IsBreak → OnErr result (OverHost (BeginsOutput (source_meaning program)) old new) → Works (Some (Run file)) result old new
works_ran file content program (Ok success) old new source form ran broke part = record {
  may = inr (record { content = content; program = program; source = source; form = form; prints = prints_all program success old new ran });
  cause = λ plain. record { content = content; program = program; source = source; form = form; code = ran.code; plain = ran.plain; runs = ran.runs; over = ran.over };
}
works_ran file content program (Err refusal) old new source form ran broke part =
    works_broken (Run file) old refusal new broke
    (inr (record { content = content; program = program; source = source; form = form; prints = part }))

-- a source that is not compiled
pub works_refused : (file content : List ℕ) (error : SourceErr) (old : World) → IsSource file old content → RefusesToRun content error → Works (Some (Run file)) (Err (of_file file error)) old old
works_refused file content error old source (inl why) = refusing.works_refused (Run file) old content error source why
works_refused file content error old source (inr outside) =
    subst (λ (e : SourceErr). Works (Some (Run file)) (Err (of_file file e)) old old) (sym outside.says)
    (record {
      may = inl refl;
      cause = λ plain. (inr (record { content = content; source = source; other = outside.other; says = refl }), refl);
    })
