use Rattle.std.proofs.Common.{sym, ◌∙◌, bytes_eq}
use Rattle.first_form.proofs.Lists.{position-map}
use Rattle.first_form.proofs.names.Names.find.Goals as goal

pub returns-in-Some : goal.returns-in-Some
returns-in-Some c = rw (← c.self.view_is) (c.in-Some.ensures.index ∙ sym (position-map (bytes_eq c.args.name.now) (λ k. k.now) c.self.inside.names.keys))

pub returns-in-None : goal.returns-in-None
returns-in-None c = rw (← c.self.view_is) (c.in-None.ensures.index ∙ sym (position-map (bytes_eq c.args.name.now) (λ k. k.now) c.self.inside.names.keys))
