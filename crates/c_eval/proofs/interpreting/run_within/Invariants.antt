use Rattle.std.proofs.Common.{◌≡◌}
use Rattle.ib_run.specs.OverHost.{OverHost}
use Rattle.c_eval.specs.Machines.{machine_of}
use Rattle.c_eval.specs.Programs.{program_of}
use Rattle.c_eval.specs.Running.{Stands, move_run, halt_run}
use Rattle.c_eval.specs.Views.{move_of}
use Rattle.c_eval.proofs.interpreting.run_within.Given as goal

abbrev pub invariant-loop-spent : goal.invariant-loop-spent
invariant-loop-spent g l =
    OverHost (Stands (move_run (program_of l.source) (move_of l.fn.first (machine_of l.fn.machine))) (halt_run (program_of l.source) l.at (machine_of l.machine)) l.fn.budget l._spent) (g.H.Host.world l.fn.host) (g.H.Host.world l.host)
    × (g.H.Host.faults l.host ≡ g.H.Host.faults l.fn.host) × (g.H.Host.sure l.fn.host → g.H.Host.sure l.host)
