use Rattle.std.proofs.Common.{◌≡◌}
use Rattle.ib_run.specs.OverHost.{OverHost}
use Rattle.c_eval.specs.Machines.{machine_of}
use Rattle.c_eval.specs.Programs.{program_of}
use Rattle.c_eval.specs.Running.{Leads, move_run, move_work}
use Rattle.c_eval.specs.Views.{move_of}
use Rattle.c_eval.proofs.machine.Machine.go_on.Given as goal

abbrev pub invariant-answers : goal.invariant-answers
invariant-answers g l =
    OverHost (Leads (move_run (program_of l.source) (move_of l.initial.at (machine_of l.initial.self))) (move_run (program_of l.source) (move_of l.at (machine_of l.self)))) (g.H.Host.world l.initial.host) (g.H.Host.world l.host)
    × (g.H.Host.faults l.host ≡ g.H.Host.faults l.initial.host) × (g.H.Host.sure l.initial.host → g.H.Host.sure l.host)

abbrev pub decreases-answers : goal.decreases-answers
decreases-answers g l = move_work (move_of l.at (machine_of l.self))
