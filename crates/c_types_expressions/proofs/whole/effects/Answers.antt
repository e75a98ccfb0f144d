use Rattle.std.proofs.Common.{refl, sym, ap}
use Rattle.c_typed.specs.Views.{list_exps}
use Rattle.c_types_operators.specs.Rules.{Fine}
use Rattle.c_types_operators.proofs.JudgingLemmas.{fine}
use Rattle.c_types_expressions.proofs.ArgumentLemmas.{next_effect}
use Rattle.c_types_expressions.proofs.whole.effects.Goals as goal

pub loop-e-init : goal.loop-e-init
loop-e-init c = fine _ (ap (λ xs. Fine (list_exps xs)) (sym c.new.ensures.items)) refl

pub loop-e-preserved : goal.loop-e-preserved
loop-e-preserved c =
    next_effect c.args.scope.now c.args.list.now c.loop-e.e-index c.e-item.result c.loop-e-test.true c.e-item.is
    c.loop-e.invariant c.in_ok-x.ensures c.in_ok-typed.ensures
