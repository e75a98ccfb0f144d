use Rattle.std.proofs.lemmas.Result.{IfOk-weaker}
use Rattle.c_eval.specs.Machines.{machine_of}
use Rattle.c_eval.specs.Views.{move_of}
use Rattle.c_eval.proofs.Mains.{started_so}
use Rattle.c_eval.proofs.interpreting.start.Goals as goal

pub returns : goal.returns
returns c =
    IfOk-weaker c.begin_at.result _ _
    (λ r is. started_so c.args.source.now c.number_of_main.result (machine_of c.args.machine.now) (move_of r (machine_of c.begin_at.new.machine)) c.number_of_main.ensures c.requires.before is)
    c.begin_at.ensures
