use Rattle.std.proofs.Common.{rules}
use Rattle.c_eval.specs.Machines.{machine_of}
use Rattle.c_eval.specs.Programs.{program_of}
use Rattle.c_eval.specs.Running.{move_run}
use Rattle.c_eval.specs.Views.{move_of}
use Rattle.c_eval.proofs.Settling.{settle_next, settled_asks, settled_wants, settled_faults, settled_ends, settled_stops, less_next, no_more}
use Rattle.c_eval.proofs.machine.Machine.settle.Goals as goal

pub moves-preserved : goal.moves-preserved
moves-preserved c = (
  settle_next (program_of c.args.source.now) (move_run (program_of c.args.source.now) (move_of c.args.first (machine_of c.args.self.now))) c.moves.at (machine_of c.moves.self) c.moves.invariant.0 c.in-Goes.task c.in-Ok.next (machine_of c.advance.new.self) c.in-Goes.is c.in-Ok.ensures,
  no_more (program_of c.args.source.now) c.moves.at c.in-Goes.task c.in-Ok.next (machine_of c.moves.self) (machine_of c.advance.new.self) _ c.in-Goes.is c.in-Ok.ensures c.moves.invariant.1,
)

pub moves-smaller : goal.moves-smaller
moves-smaller c =
    less_next (program_of c.args.source.now) c.moves.at c.in-Goes.task c.in-Ok.next (machine_of c.moves.self) (machine_of c.advance.new.self) c.in-Goes.is c.in-Ok.ensures

pub returns-in-Asks-clause-settles : goal.returns-in-Asks-clause-settles
returns-in-Asks-clause-settles c =
    settled_asks (program_of c.args.source.now) (move_run (program_of c.args.source.now) (move_of c.args.first (machine_of c.args.self.now))) c.moves.at (machine_of c.moves.self) c.moves.invariant.0 c.in-Asks.ask c.in-Asks.is

pub returns-in-Wants-clause-settles : goal.returns-in-Wants-clause-settles
returns-in-Wants-clause-settles c =
    settled_wants (program_of c.args.source.now) (move_run (program_of c.args.source.now) (move_of c.args.first (machine_of c.args.self.now))) c.moves.at (machine_of c.moves.self) c.moves.invariant.0 c.in-Wants.want c.wanting.result c.in-Wants.is c.wanting.ensures

pub returns-in-Faults-clause-settles : goal.returns-in-Faults-clause-settles
returns-in-Faults-clause-settles c =
    settled_faults (program_of c.args.source.now) (move_run (program_of c.args.source.now) (move_of c.args.first (machine_of c.args.self.now))) c.moves.at (machine_of c.moves.self) c.moves.invariant.0 c.in-Faults.number c.in-Faults.kind c.place-place.result c.over.result c.in-Faults.is c.place-place.ensures c.over.ensures

pub returns-in-Ends-clause-settles : goal.returns-in-Ends-clause-settles
returns-in-Ends-clause-settles c =
    settled_ends (program_of c.args.source.now) (move_run (program_of c.args.source.now) (move_of c.args.first (machine_of c.args.self.now))) c.moves.at (machine_of c.moves.self) c.moves.invariant.0 c.in-Ends.value _ c.result_of.result _ c.over-in-Ends.result c.in-Ends.is (search rules) c.result_of.ensures (search rules) c.over-in-Ends.ensures

pub returns-in-Stops-clause-settles : goal.returns-in-Stops-clause-settles
returns-in-Stops-clause-settles c =
    settled_stops (program_of c.args.source.now) (move_run (program_of c.args.source.now) (move_of c.args.first (machine_of c.args.self.now))) c.moves.at (machine_of c.moves.self) c.moves.invariant.0 c.over-in-Stops.result c.in-Stops.is c.over-in-Stops.ensures
