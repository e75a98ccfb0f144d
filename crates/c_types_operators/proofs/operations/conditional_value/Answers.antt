use Rattle.std.proofs.Common.{◌≡◌, refl, ap, sym, ◌∙◌, Some}
use Rattle.c_typed.specs.Views.{expr_of}
use Rattle.c_ast.specs.TreeViews as source
use Rattle.c_typed.specs.Choices.{branches}
use Rattle.c_types_operators.specs.Operators.{operand}
use Rattle.c_types_operators.proofs.JudgingLemmas.{fine}
use Rattle.c_types_operators.proofs.operations.conditional_value.Goals as goal

pub returns : goal.returns
returns c =
    let d = source.expr_of c.args.«then».source.now in
    let e = source.expr_of c.args.other.source.now in
    let x : operand d (expr_of c.args.«then».value.value) ≡ c.operand-x.result = sym (c.operand-x.ensures ∙ ap (λ v. operand d (expr_of v)) c.deref.ensures) in
    let y : operand e (expr_of c.args.other.value.value) ≡ c.operand-y.result = sym (c.operand-y.ensures ∙ ap (λ v. operand e (expr_of v)) c.deref-2.ensures) in
    let chosen : branches (operand d (expr_of c.args.«then».value.value)) (operand e (expr_of c.args.other.value.value)) ≡ Some c.in-Some.ty =
    ap (λ o. branches o (operand e (expr_of c.args.other.value.value))) x ∙ (ap (branches c.operand-x.result) y ∙ (sym c.branches.ensures ∙ c.in-Some.is)) in
    fine _ (rw chosen (cc c.in_ok-value.ensures)) refl
