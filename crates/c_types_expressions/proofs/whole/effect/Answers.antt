use Rattle.std.proofs.Common.{rules, refl, subst}
use Rattle.c_ast.specs.TreeViews as source
use Rattle.c_typed.specs.Views.{boxed_of}
use Rattle.c_types_operators.specs.Judging.{Judges}
use Rattle.c_types_expressions.specs.Expressions.{literals, effect}
use Rattle.c_types_expressions.proofs.ListNodes.{comma_tree}
use Rattle.c_types_expressions.proofs.PlainEffects.{no_comma}
use Rattle.c_types_expressions.proofs.whole.effect.Goals as goal

pub returns-in_ok-answer-in-Comma : goal.returns-in_ok-answer-in-Comma
returns-in_ok-answer-in-Comma c =
    subst (λ e. Judges boxed_of c.args.notes.now (literals e) (effect c.args.scope.now c.args.notes.now.texts e) c.in_ok-answer-in-Comma.answer c.comma.new.notes)
    (comma_tree c.args.e.now c.deref.result.now c.in-Comma.place c.in-Comma.parts c.in-Comma.is (search rules))
    (c.in_ok-answer-in-Comma.ensures.carries _ _ _ c.in_ok-typed-in-Comma.ensures)

pub returns-in-Unary : goal.returns-in-Unary
returns-in-Unary c = let made = c.effect_of-in-Unary in no_comma c.args.notes.now made.new.notes made.result c.args.scope.now (source.expr_of c.args.e.now) (rw c.in-Unary.is refl) made.ensures

pub returns-in-Cast : goal.returns-in-Cast
returns-in-Cast c = let made = c.effect_of-in-Cast in no_comma c.args.notes.now made.new.notes made.result c.args.scope.now (source.expr_of c.args.e.now) (rw c.in-Cast.is refl) made.ensures

pub returns-in-Binary : goal.returns-in-Binary
returns-in-Binary c = let made = c.effect_of-in-Binary in no_comma c.args.notes.now made.new.notes made.result c.args.scope.now (source.expr_of c.args.e.now) (rw c.in-Binary.is refl) made.ensures

pub returns-in-Conditional : goal.returns-in-Conditional
returns-in-Conditional c = let made = c.effect_of-in-Conditional in no_comma c.args.notes.now made.new.notes made.result c.args.scope.now (source.expr_of c.args.e.now) (rw c.in-Conditional.is refl) made.ensures

pub returns-in-Assign : goal.returns-in-Assign
returns-in-Assign c = let made = c.effect_of-in-Assign in no_comma c.args.notes.now made.new.notes made.result c.args.scope.now (source.expr_of c.args.e.now) (rw c.in-Assign.is refl) made.ensures
