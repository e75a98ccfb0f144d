use Rattle.std.proofs.Common.{rules, refl, subst, IfOk}
use Rattle.c_ast.specs.TreeViews as source
use Rattle.c_typed.specs.Views.{boxed_of}
use Rattle.c_types_operators.specs.Judging.{Judges}
use Rattle.c_types_expressions.specs.Expressions.{literals, effect_of}
use Rattle.c_types_expressions.proofs.ListNodes.{call_tree}
use Rattle.c_types_expressions.proofs.PlainEffects.{no_call}
use Rattle.c_types_expressions.proofs.whole.effect_of.Goals as goal

pub returns-in-Call : goal.returns-in-Call
returns-in-Call c =
    subst (λ e. IfOk c.call.result (λ answer. Judges boxed_of c.args.notes.now (literals e) (effect_of c.args.scope.now c.args.notes.now.texts e) answer c.call.new.notes))
    (call_tree c.args.e.now c.deref.result.now c.in-Call.place c.in-Call.name c.in-Call.arguments c.in-Call.is (search rules)) c.call.ensures

pub returns-in-Unary : goal.returns-in-Unary
returns-in-Unary c = let made = c.value-in-Unary in no_call c.args.notes.now made.new.notes made.result c.args.scope.now (source.expr_of c.args.e.now) (rw c.in-Unary.is refl) made.ensures

pub returns-in-Cast : goal.returns-in-Cast
returns-in-Cast c = let made = c.value-in-Cast in no_call c.args.notes.now made.new.notes made.result c.args.scope.now (source.expr_of c.args.e.now) (rw c.in-Cast.is refl) made.ensures

pub returns-in-Binary : goal.returns-in-Binary
returns-in-Binary c = let made = c.value-in-Binary in no_call c.args.notes.now made.new.notes made.result c.args.scope.now (source.expr_of c.args.e.now) (rw c.in-Binary.is refl) made.ensures

pub returns-in-Conditional : goal.returns-in-Conditional
returns-in-Conditional c = let made = c.value-in-Conditional in no_call c.args.notes.now made.new.notes made.result c.args.scope.now (source.expr_of c.args.e.now) (rw c.in-Conditional.is refl) made.ensures

pub returns-in-Assign : goal.returns-in-Assign
returns-in-Assign c = let made = c.value-in-Assign in no_call c.args.notes.now made.new.notes made.result c.args.scope.now (source.expr_of c.args.e.now) (rw c.in-Assign.is refl) made.ensures
