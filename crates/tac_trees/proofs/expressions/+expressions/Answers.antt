use Rattle.std.proofs.Common.{◌≡◌, ◌∙◌, ap, sym, subst, refl, map, take, IfOk, arith}
use Rattle.std.proofs.lemmas.List.{take_all}
use Rattle.c_typed.specs.Tree as tree
use Rattle.c_typed.specs.Views.{expr_of, list_exps}
use Rattle.c_program.specs.Checked.{program}
use Rattle.tac_lowered.specs.Expressions.{low, effects}
use Rattle.tac_code.specs.Views.{boxed_of, code_of, nested}
use Rattle.tac_trees.proofs.Rows.{call_tree, comma_tree}
use Rattle.tac_trees.proofs.Lists.{effect_of, row_effects, member_weighs, last_weighs}
use Rattle.tac_trees.proofs.expressions.+expressions.Goals as goal

pub low-returns-in-Address : goal.low-returns-in-Address
low-returns-in-Address t c =
    let is : tree.address c.in-Address.ty c.in-Address.of ≡ expr_of c.args.expr.now = rw c.in-Address.is refl in
    subst (λ e. IfOk c.wanted_address.result (λ made. boxed_of made ≡ low (program c.args.program.now) e c.args.at.stmt c.args.at.to c.args.at.free)) is (c.wanted_address.ensures c.in-Address.ty)

pub low-returns-in-Element : goal.low-returns-in-Element
low-returns-in-Element t c =
    let is : tree.element c.in-Element.ty c.in-Element.array c.in-Element.length c.in-Element.size c.in-Element.reach (expr_of c.deref.result.now) ≡ expr_of c.args.expr.now = rw (c.in-Element.is, c.deref.ensures) refl in
    subst (λ e. IfOk c.element.result (λ made. boxed_of made ≡ low (program c.args.program.now) e c.args.at.stmt c.args.at.to c.args.at.free)) is (c.element.ensures c.in-Element.ty)

pub low-returns-in-Binary : goal.low-returns-in-Binary
low-returns-in-Binary t c =
    let is : tree.binary c.in-Binary.ty c.in-Binary.op (expr_of c.deref-in-Binary.result.now) (expr_of c.deref-in-Binary-2.result.now) ≡ expr_of c.args.expr.now = rw (c.in-Binary.is, c.deref-in-Binary.ensures, c.deref-in-Binary-2.ensures) refl in
    subst (λ e. IfOk c.binary.result (λ made. boxed_of made ≡ low (program c.args.program.now) e c.args.at.stmt c.args.at.to c.args.at.free)) is (c.binary.ensures c.in-Binary.ty)

pub low-returns-in-Conditional : goal.low-returns-in-Conditional
low-returns-in-Conditional t c =
    let is : tree.conditional c.in-Conditional.ty (expr_of c.deref-in-Conditional.result.now) (expr_of c.deref-in-Conditional-2.result.now) (expr_of c.deref-in-Conditional-3.result.now) ≡ expr_of c.args.expr.now = rw (c.in-Conditional.is, c.deref-in-Conditional.ensures, c.deref-in-Conditional-2.ensures, c.deref-in-Conditional-3.ensures) refl in
    subst (λ e. IfOk c.conditional.result (λ made. boxed_of made ≡ low (program c.args.program.now) e c.args.at.stmt c.args.at.to c.args.at.free)) is (c.conditional.ensures c.in-Conditional.ty)

pub low-returns-in-SetSlot : goal.low-returns-in-SetSlot
low-returns-in-SetSlot t c =
    let is : tree.set_slot c.in-SetSlot.ty c.in-SetSlot.slot (expr_of c.deref-in-SetSlot.result.now) ≡ expr_of c.args.expr.now = rw (c.in-SetSlot.is, c.deref-in-SetSlot.ensures) refl in
    subst (λ e. IfOk c.set_slot.result (λ made. boxed_of made ≡ low (program c.args.program.now) e c.args.at.stmt c.args.at.to c.args.at.free)) is (c.set_slot.ensures c.in-SetSlot.ty)

pub low-returns-in-StepSlot : goal.low-returns-in-StepSlot
low-returns-in-StepSlot t c = rw c.in-StepSlot.is (c.step_slot.ensures (program c.args.program.now))

pub low-returns-in-Call : goal.low-returns-in-Call
low-returns-in-Call t c =
    let is : tree.call c.in-Call.ty c.in-Call.function (list_exps c.deref-in-Call.result.now) ≡ expr_of c.args.expr.now = sym (call_tree c.args.expr.now c.deref-in-Call.result.now c.in-Call.ty c.in-Call.function c.in-Call.arguments c.in-Call.is c.deref-in-Call.ensures.value) in
    subst (λ e. IfOk c.call.result (λ made. boxed_of made ≡ low (program c.args.program.now) e c.args.at.stmt c.args.at.to c.args.at.free)) is (c.call.ensures c.in-Call.ty)

pub low-returns-in-Comma : goal.low-returns-in-Comma
low-returns-in-Comma t c =
    let is : tree.comma (list_exps c.deref-in-Comma.result.now) (expr_of c.deref-in-Comma-2.result.now) ≡ expr_of c.args.expr.now
    = sym (comma_tree c.args.expr.now c.deref-in-Comma.result.now c.deref-in-Comma-2.result.now c.in-Comma.parts c.in-Comma.last c.in-Comma.is c.deref-in-Comma.ensures.value c.deref-in-Comma-2.ensures) in
    subst (λ e. IfOk c.comma.result (λ made. boxed_of made ≡ low (program c.args.program.now) e c.args.at.stmt c.args.at.to c.args.at.free)) is c.comma.ensures

pub effects-returns-in_ok-last-in-Some : goal.effects-returns-in_ok-last-in-Some
effects-returns-in_ok-last-in-Some t c =
    let p = program c.args.program.now in
    let s = c.args.stmt in
    let r = c.args.free in
    let first = c.in-Some.first.now in
    let last = c.in-Some.last.now in
    let whole : take c.loop-expr.expr-index first ≡ first = take_all c.loop-expr.expr-index first c.loop-expr-test.false in
    let done : map code_of c.loop-expr.made.items ≡ map (effect_of p s r) first = c.loop-expr.invariant ∙ ap (λ l. map (effect_of p s r) l) whole in
    let all : nested (map code_of c.loop-expr.made.items) (boxed_of c.in_ok-last-in-Some.last) ≡ effects p (list_exps c.args.list.now) s r
    = ap (λ l. nested l (boxed_of c.in_ok-last-in-Some.last)) done ∙ ap (λ b. nested (map (effect_of p s r) first) b) c.in_ok-last-in-Some.ensures ∙ row_effects p s r c.args.list.now last first c.in-Some.ensures in
    subst (λ x. IfOk c.row.result (λ made. boxed_of made ≡ x)) all c.row.ensures

pub effects-low-requires : goal.effects-low-requires
effects-low-requires t c =
    let e1 = member_weighs c.in-Some.first.now c.loop-expr.expr-index c.expr-item.result c.loop-expr-test.true c.expr-item.is in
    let e2 = last_weighs c.args.list.now c.in-Some.last.now c.in-Some.first.now c.in-Some.ensures in
    (omega (arith, e1, e2, c.decreases), tt)

pub effects-low-requires-in-Some : goal.effects-low-requires-in-Some
effects-low-requires-in-Some t c =
    let e2 = last_weighs c.args.list.now c.in-Some.last.now c.in-Some.first.now c.in-Some.ensures in
    (omega (arith, e2, c.decreases), tt)
