-- The places of statements.
use Rattle.ib_meaning.specs.declared.place.Place.{Place}
use Rattle.first_form.specs.declared.program.Stmt.{Stmt}
use Rattle.first_form.specs.declared.program.Stmt.TheVariants.{Declare, Assign, Print, Return}

abbrev pub place_of : Stmt → Place
place_of (Declare place value) = place
place_of (Assign place variable value) = place
place_of (Print place value) = place
place_of (Return place value) = place
