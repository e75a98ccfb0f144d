use Rattle.std.proofs.Common.{rules}
use Rattle.c_eval.specs.Machines.{machine_of}
use Rattle.c_eval.specs.Programs.{program_of}
use Rattle.c_eval.specs.Running.{move_run}
use Rattle.c_eval.specs.Views.{move_of}
use Rattle.c_eval.proofs.Spending.{unspent, spent_next, spent_over, spent_out, spent_part}
use Rattle.c_eval.proofs.Runs.{begun_first}
use Rattle.c_eval.proofs.interpreting.run_within.Goals as goal

pub returns-in-Err-clause-broken : goal.returns-in-Err-clause-broken
returns-in-Err-clause-broken g c = begun_first (move_run (program_of c.args.source.now) (move_of c.args.first (machine_of c.args.machine.now))) c.args.budget _ _ c.in-Err.ensures.broken

pub loop-spent-init : goal.loop-spent-init
loop-spent-init g c = (
  unspent (program_of c.args.source.now) (move_of c.args.first (machine_of c.args.machine.now)) c.args.budget c.in-Ok.halt (machine_of c.go_on.new.self) _ _ c.in-Ok.ensures.ok,
  search rules,
  search rules,
)

pub returns-in-Over-clause-ok : goal.returns-in-Over-clause-ok
returns-in-Over-clause-ok g c =
    spent_over (program_of c.args.source.now) (move_of c.args.first (machine_of c.args.machine.now)) c.args.budget c.loop-spent._spent c.loop-spent.at (machine_of c.loop-spent.machine) _ _ c.loop-spent.invariant.0 c.in-Over.outcome c.in-Over.is (search rules)

pub returns-in-Err-go_on_behind-clause-broken : goal.returns-in-Err-go_on_behind-clause-broken
returns-in-Err-go_on_behind-clause-broken g c =
    spent_part (program_of c.args.source.now) (move_of c.args.first (machine_of c.args.machine.now)) c.args.budget c.loop-spent._spent c.loop-spent.at (machine_of c.loop-spent.machine) _ _ c.loop-spent.invariant.0 c.in-Wants.want _ c.in-Wants.is (search rules) c.in-Err-go_on_behind.ensures.broken

pub loop-spent-preserved : goal.loop-spent-preserved
loop-spent-preserved g c = (
  spent_next (program_of c.args.source.now) (move_of c.args.first (machine_of c.args.machine.now)) c.args.budget c.loop-spent._spent c.loop-spent.at (machine_of c.loop-spent.machine) _ _ c.loop-spent.invariant.0 c.in-Wants.want c.in-Ok-go_on_behind.halt (machine_of c.go_on_behind.new.self) _ c.in-Wants.is c.in-Ok-go_on_behind.ensures.ok,
  search rules,
  search rules,
)

pub returns-in-Over-at-clause-ok : goal.returns-in-Over-at-clause-ok
returns-in-Over-at-clause-ok g c =
    spent_over (program_of c.args.source.now) (move_of c.args.first (machine_of c.args.machine.now)) c.args.budget c.loop-spent._spent c.loop-spent.at (machine_of c.loop-spent.machine) _ _ c.loop-spent.invariant.0 c.in-Over-at.outcome c.in-Over-at.is (search rules)

pub returns-in-Wants-at-clause-ok : goal.returns-in-Wants-at-clause-ok
returns-in-Wants-at-clause-ok g c =
    spent_out (program_of c.args.source.now) (move_of c.args.first (machine_of c.args.machine.now)) c.args.budget c.loop-spent._spent c.loop-spent.at (machine_of c.loop-spent.machine) _ _ c.loop-spent.invariant.0 c.in-Wants-at.want c.in-Wants-at.is (search rules)
