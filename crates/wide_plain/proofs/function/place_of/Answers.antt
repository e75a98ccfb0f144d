use Rattle.wide_plain.proofs.Tables.{read_none, read_some}
use Rattle.wide_plain.proofs.function.place_of.Goals as goal

pub returns-in-None : goal.returns-in-None
returns-in-None c = read_none c.args.places.now c.args.stmt _ c.in-None.ensures

pub returns-in-Some : goal.returns-in-Some
returns-in-Some c = read_some c.args.places.now c.args.stmt c.in-Some.place.now _ c.in-Some.ensures
