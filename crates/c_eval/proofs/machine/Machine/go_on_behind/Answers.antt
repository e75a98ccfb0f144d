use Rattle.std.proofs.lemmas.Result.{IfOk-weaker, on_err_weaker}
use Rattle.c_eval.specs.Machines.{machine_of}
use Rattle.c_eval.specs.Programs.{program_of}
use Rattle.c_eval.specs.Running.{halt_run}
use Rattle.c_eval.specs.Views.{move_of}
use Rattle.c_eval.proofs.Runs.{over_behind, over_part_behind, nothing_behind}
use Rattle.c_eval.proofs.machine.Machine.go_on_behind.Goals as goal

pub returns-in-Ok-clause-ok : goal.returns-in-Ok-clause-ok
returns-in-Ok-clause-ok g c =
    let q = program_of c.args.source.now in
    IfOk-weaker c.go_on.result _ _
    (λ halt over. over_behind q c.args.want (machine_of c.args.self.now) (move_of c.in-Ok.next (machine_of c.spend.new.self)) (halt_run q halt (machine_of c.go_on.new.self)) _ _ c.in-Ok.ensures over)
    c.go_on.ensures.ok

pub returns-in-Ok-clause-broken : goal.returns-in-Ok-clause-broken
returns-in-Ok-clause-broken g c =
    on_err_weaker c.go_on.result
    (λ part. over_part_behind (program_of c.args.source.now) c.args.want (machine_of c.args.self.now) (move_of c.in-Ok.next (machine_of c.spend.new.self)) _ _ c.in-Ok.ensures part)
    c.go_on.ensures.broken

pub returns-in-Err-clause-broken : goal.returns-in-Err-clause-broken
returns-in-Err-clause-broken g c = nothing_behind (program_of c.args.source.now) c.args.want (machine_of c.args.self.now) _
