use Rattle.std.proofs.Common.{rules, refl}
use Rattle.c_eval.specs.Machines.{machine_of}
use Rattle.c_eval.specs.Programs.{program_of}
use Rattle.c_eval.specs.Running.{move_run}
use Rattle.c_eval.specs.Views.{move_of}
use Rattle.c_eval.proofs.Runs.{over_leads_none}
use Rattle.c_eval.proofs.Settling.{answered_next, answered_less, unanswered, broken_off}
use Rattle.c_eval.proofs.machine.Machine.go_on.Goals as goal

pub answers-init : goal.answers-init
answers-init g c = (
  over_leads_none (move_run (program_of c.args.source.now) (move_of c.args.first (machine_of c.args.self.now))) (g.H.Host.world c.args.host.now),
  refl,
  λ sure. sure,
)

pub answers-preserved : goal.answers-preserved
answers-preserved g c = (
  answered_next (program_of c.args.source.now) (move_run (program_of c.args.source.now) (move_of c.args.first (machine_of c.args.self.now))) c.answers.at (machine_of c.answers.self) (machine_of c.settle.new.self) _ _ c.answers.invariant.0 c.in-Ok-Asks.ask c.in-Ok-Asks.field-0 c.in-Ok.value _ c.give-at.result _ (search rules) c.in-Ok-Asks.ensures.settles c.in-Ok.ensures.ok (search rules) c.give-at.ensures,
  search rules,
  search rules,
)

pub answers-smaller : goal.answers-smaller
answers-smaller g c =
    answered_less c.in-Ok-Asks.ask c.in-Ok-Asks.field-0 _ c.give-at.result (machine_of c.settle.new.self) _ (search rules) c.give-at.ensures c.in-Ok-Asks.ensures.lighter

pub returns-in-Err-clause-broken : goal.returns-in-Err-clause-broken
returns-in-Err-clause-broken g c =
    broken_off (program_of c.args.source.now) (move_run (program_of c.args.source.now) (move_of c.args.first (machine_of c.args.self.now))) c.answers.at (machine_of c.answers.self) (machine_of c.answers.self) _ _ c.answers.invariant.0

pub returns-in-Err-answer-clause-broken : goal.returns-in-Err-answer-clause-broken
returns-in-Err-answer-clause-broken g c =
    unanswered (program_of c.args.source.now) (move_run (program_of c.args.source.now) (move_of c.args.first (machine_of c.args.self.now))) c.answers.at (machine_of c.answers.self) (machine_of c.settle.new.self) _ _ c.answers.invariant.0 c.in-Ok-Asks.ask c.in-Ok-Asks.field-0 _ (search rules) c.in-Ok-Asks.ensures.settles c.in-Err-answer.ensures.broken
