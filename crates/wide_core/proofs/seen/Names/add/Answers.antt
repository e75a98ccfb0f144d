use Rattle.std.proofs.Common.{sym, ◌∙◌, ap, not, bytes_eq, refl}
use Rattle.wide_core.proofs.Lists.{any_of_map, names_added}
use Rattle.wide_core.proofs.seen.Names.add.Goals as goal

pub returns-clause-added : goal.returns-clause-added
returns-clause-added c =
    rw (← c.self.view_is) (c.in_ok-added.ensures.added ∙ ap not (sym (any_of_map (bytes_eq c.args.name.now) (λ k. k.now) c.self.inside.names.keys)))

pub returns-clause-names : goal.returns-clause-names
returns-clause-names c added =
    rw (← c.self.view_is) (names_added c.self.inside.names.keys _ c.args.name _ refl c.in_ok-added.ensures.keys (sym c.in_ok-added.ensures.added ∙ added))
