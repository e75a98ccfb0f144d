use Rattle.std.proofs.Common.{map}
use Rattle.c_typed.specs.Views.{function_of}
use Rattle.c_types.specs.Views.{parts_of}
use Rattle.c_types.proofs.ItemLemmas.{and_nothing, and_function, and_globals}
use Rattle.c_types.proofs.items.with_piece.Goals as goal

pub returns-in-Nothing : goal.returns-in-Nothing
returns-in-Nothing c = rw c.in-Nothing.is (and_nothing (parts_of c.args.made))

pub returns-in_ok-push-in-Function : goal.returns-in_ok-push-in-Function
returns-in_ok-push-in-Function c = rw c.in-Function.is (and_function _ _ _ _ c.in_ok-push-in-Function.ensures.items)

pub returns-in_ok-append-in-Globals : goal.returns-in_ok-append-in-Globals
returns-in_ok-append-in-Globals c = rw c.in-Globals.is (and_globals (map function_of c.args.made.functions.items) c.args.made.globals.items _ c.in-Globals.more.items c.in_ok-append-in-Globals.ensures)
