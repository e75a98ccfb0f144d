use Rattle.std.proofs.Common.{◌≤◌}
use Rattle.c_eval.specs.Machines.{machine_of}
use Rattle.c_eval.specs.Programs.{program_of}
use Rattle.c_eval.specs.Running.{Settles, move_run, move_work}
use Rattle.c_eval.specs.Views.{move_of}
use Rattle.c_eval.proofs.machine.Machine.settle.Given as goal

abbrev pub invariant-moves : goal.invariant-moves
invariant-moves l =
    Settles (move_run (program_of l.source) (move_of l.initial.at (machine_of l.initial.self))) (move_run (program_of l.source) (move_of l.at (machine_of l.self)))
    × (move_work (move_of l.at (machine_of l.self)) ≤ move_work (move_of l.initial.at (machine_of l.initial.self)))

abbrev pub decreases-moves : goal.decreases-moves
decreases-moves l = move_work (move_of l.at (machine_of l.self))
