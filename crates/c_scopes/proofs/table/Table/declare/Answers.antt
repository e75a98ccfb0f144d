use Rattle.std.proofs.Common.{sym, ◌∙◌, ap}
use Rattle.c_scopes.specs.Scopes.{scope_of}
use Rattle.c_scopes.proofs.TableLemmas.{declared_is}
use Rattle.c_scopes.proofs.table.Table.declare.Goals as goal

pub returns-clause-names : goal.returns-clause-names
returns-clause-names g c = ap scope_of c.in_ok-insert.ensures.entries ∙ declared_is c.self.inside.meanings c.args.name c.args.meant c.args.self.now c.find.result c.self.view_is c.find.ensures (sym c.is_some.ensures ∙ c.if-is_some.false)
