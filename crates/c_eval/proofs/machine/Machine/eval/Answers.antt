use Rattle.std.proofs.Common.{rules}
use Rattle.c_typed.specs.declared.expr.Expr.{the_lemmas}
use Rattle.c_eval.proofs.Rows.{exps_items}
use Rattle.c_eval.proofs.machine.Machine.eval.Goals as goal

pub returns-in-Call : goal.returns-in-Call
returns-in-Call c = search (rules, the_lemmas, exps_items)

pub returns-in-Comma : goal.returns-in-Comma
returns-in-Comma c = search (rules, the_lemmas, exps_items)
