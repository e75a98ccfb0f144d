use Rattle.std.proofs.Common.{refl, map, ap, sym}
use Rattle.c_ast.specs.Trees as tree
use Rattle.c_ast.specs.TreeViews.{expr_of}
use Rattle.c_typed.specs.declared.rule.Rule.TheVariants.{WrongInitialiser}
use Rattle.c_types_operators.specs.Rules.{Fine}
use Rattle.c_types_operators.proofs.JudgingLemmas.{fine}
use Rattle.c_types_expressions.specs.Expressions.{values}
use Rattle.c_types_initial.proofs.AlsoLemmas.{misplaced_judged}
use Rattle.c_types_initial.proofs.initial.scalar_data.Goals as goal

pub returns-in-Nothing : goal.returns-in-Nothing
returns-in-Nothing c = rw c.in-Nothing.is (fine _ (ap (λ l. Fine l) (sym c.new.ensures)) refl)

pub returns-in_ok-answer-in-Value : goal.returns-in_ok-answer-in-Value
returns-in_ok-answer-in-Value c = rw c.in-Value.is ((c.in_ok-answer-in-Value.ensures _).carries _ _ _ c.in_ok-x-in-Value.ensures)

pub returns-in_ok-values-in-List : goal.returns-in_ok-values-in-List
returns-in_ok-values-in-List c =
    rw c.in-List.is
    (misplaced_judged WrongInitialiser c.args.place (λ texts. values c.args.scope.now texts (tree.exps (map expr_of c.in-List.list.items)))
    c.breaks.ensures (rw c.deref.ensures.value at c.in_ok-values-in-List.ensures))
