use Rattle.c_types_initial.proofs.ArrayLemmas.{no_string}
use Rattle.c_types_initial.proofs.initial.array_given.Goals as goal

pub returns-in-Str : goal.returns-in-Str
returns-in-Str c = rw c.in-Str.is (rw c.list.ensures at c.array_string.ensures)

pub returns-in_default : goal.returns-in_default
returns-in_default c =
    let is = no_string c.args.scope.now c.args.notes.now.texts c.args.place c.args.ty c.args.count c.args.e.now c.in_default.not-Str in
    rw (is.0, is.1) c.array_value.ensures
