use Rattle.std.proofs.lemmas.Result.{IfOk-weaker, on_err_weaker}
use Rattle.c_eval.specs.Machines.{machine_of}
use Rattle.c_eval.specs.Programs.{program_of}
use Rattle.c_eval.specs.Views.{move_of}
use Rattle.c_eval.proofs.Runs.{means_so, begins_so}
use Rattle.c_eval.proofs.interpreting.run.Goals as goal

pub returns-in-Ok-clause-ok : goal.returns-in-Ok-clause-ok
returns-in-Ok-clause-ok g c =
    IfOk-weaker c.run_within-outcome.result _ _
    (λ outcome came. means_so (program_of c.args.source.now) c.args.budget (move_of c.in-Ok.started.1 (machine_of c.in-Ok.started.0)) outcome _ _ c.in-Ok.ensures came)
    c.run_within-outcome.ensures.ok

pub returns-in-Ok-clause-broken : goal.returns-in-Ok-clause-broken
returns-in-Ok-clause-broken g c =
    on_err_weaker c.run_within-outcome.result
    (λ begun. begins_so (program_of c.args.source.now) c.args.budget (move_of c.in-Ok.started.1 (machine_of c.in-Ok.started.0)) _ _ c.in-Ok.ensures begun)
    c.run_within-outcome.ensures.broken
