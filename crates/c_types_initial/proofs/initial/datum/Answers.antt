use Rattle.std.proofs.Common.{ap, not}
use Rattle.c_ast.specs.TreeViews.{expr_of}
use Rattle.c_typed.specs.declared.rule.Rule.TheVariants.{WrongInitialiser}
use Rattle.c_types_operators.specs.Rules.{Fine}
use Rattle.c_types_operators.specs.Parts.{◌<*>◌}
use Rattle.c_types_expressions.specs.Expressions.{stored_value}
use Rattle.c_types_initial.specs.Constants.{is_constant, datum_of}
use Rattle.c_types_initial.proofs.AlsoLemmas.{also_judged}
use Rattle.c_types_initial.proofs.initial.datum.Goals as goal

pub returns : goal.returns
returns c =
    also_judged (not c.is_constant-broken.result) (not (is_constant c.args.ty (expr_of c.args.e.now))) WrongInitialiser c.args.place
    (λ texts. Fine datum_of <*> stored_value c.args.scope.now texts c.args.ty (expr_of c.args.e.now))
    (ap not c.is_constant-broken.ensures) c.note_if.ensures ((c.datum-held.ensures _).carries _ _ _ c.in_ok-x.ensures) c.unless-answer.ensures
