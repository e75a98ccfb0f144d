use Rattle.std.proofs.Common.{ap, ◌∙◌}
use Rattle.std.specs.Option.{unwrap_or}
use Rattle.ib_meaning.specs.declared.place.Place.{Place}
use Rattle.sb_form.proofs.ByLabel.{index_or}
use Rattle.sb_form.proofs.acts.place_at.Goals as goal

abbrev start : Place
start = record { line = 1; col = 1 }

pub returns-in-None : goal.returns-in-None
returns-in-None c = ap (λ o. unwrap_or o start) c.in-None.ensures ∙ index_or c.args.places.now c.args.stmt start

pub returns-in-Some : goal.returns-in-Some
returns-in-Some c = ap (λ o. unwrap_or o start) c.in-Some.ensures ∙ index_or c.args.places.now c.args.stmt start
