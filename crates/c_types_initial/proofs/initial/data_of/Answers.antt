use Rattle.std.proofs.Common.{refl, ap, sym}
use Rattle.c_types_operators.specs.Rules.{Fine}
use Rattle.c_types_operators.proofs.JudgingLemmas.{fine}
use Rattle.c_types_initial.proofs.ListLemmas.{next_datum}
use Rattle.c_types_initial.proofs.initial.data_of.Goals as goal

pub loop-e-init : goal.loop-e-init
loop-e-init c = fine _ (ap (λ l. Fine l) (sym c.new.ensures)) refl

pub loop-e-preserved : goal.loop-e-preserved
loop-e-preserved c =
    next_datum c.args.scope.now c.args.place c.args.ty c.args.list.now c.loop-e.e-index c.e-item.result c.loop-e-test.true c.e-item.is
    c.loop-e.invariant c.in_ok-x.ensures c.in_ok-held.ensures
