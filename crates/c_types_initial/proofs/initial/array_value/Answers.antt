use Rattle.std.proofs.Common.{ap, not}
use Rattle.c_ast.specs.TreeViews.{expr_of}
use Rattle.c_typed.specs.declared.rule.Rule.TheVariants.{WrongInitialiser}
use Rattle.c_types_expressions.specs.Expressions.{value}
use Rattle.c_types_initial.specs.Constants.{is_constant, unfit}
use Rattle.c_types_initial.proofs.AlsoLemmas.{also_judged}
use Rattle.c_types_initial.proofs.initial.array_value.Goals as goal

pub returns : goal.returns
returns c =
    also_judged (not c.is_constant-broken.result) (not (is_constant c.args.ty (expr_of c.args.e.now))) WrongInitialiser c.args.place
    (λ texts. unfit (expr_of c.args.e.now) (value c.args.scope.now texts (expr_of c.args.e.now)))
    (ap not c.is_constant-broken.ensures) c.note_if.ensures (c.unfit-held.ensures.carries _ _ _ c.in_ok-x.ensures) c.unless-answer.ensures
