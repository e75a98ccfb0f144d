use Rattle.std.proofs.Common.{sym, ◌∙◌}
use Rattle.c_scopes.proofs.TableLemmas.{meaning-lookup}
use Rattle.c_scopes.proofs.table.Table.find.Goals as goal

pub returns : goal.returns
returns g c = rw (← c.self.view_is) (c.copied.ensures ∙ (c.get.ensures.value ∙ sym (meaning-lookup c.args.name.now c.self.inside.meanings.entries)))
