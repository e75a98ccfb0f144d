use Rattle.std.proofs.Common.{rules}
use Rattle.c_typed.specs.declared.stmt.Stmt.{the_lemmas}
use Rattle.c_eval.proofs.Rows.{stms_items}
use Rattle.c_eval.proofs.machine.Machine.exec.Goals as goal

pub returns-in-Block : goal.returns-in-Block
returns-in-Block c = search (rules, the_lemmas, stms_items)
