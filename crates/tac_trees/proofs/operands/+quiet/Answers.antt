use Rattle.std.proofs.Common.{◌≡◌, ◌∙◌, ap, sym, refl, true, false}
use Rattle.std.specs.Prelude.{◌&&◌}
use Rattle.c_typed.specs.Views.{expr_of, list_exps}
use Rattle.tac_lowered.specs.Expressions.{is_quiet, are_quiet}
use Rattle.tac_trees.proofs.Rows.{call_tree, comma_tree}
use Rattle.tac_trees.proofs.operands.+quiet.Goals as goal

pub is_quiet-returns-in-Call : goal.is_quiet-returns-in-Call
is_quiet-returns-in-Call t c =
    c.are_quiet.ensures ∙ sym (ap is_quiet (call_tree c.args.expr.now c.deref-in-Call.result.now c.in-Call.ty c.in-Call.function c.in-Call.arguments c.in-Call.is c.deref-in-Call.ensures.value))

pub is_quiet-returns-then-are_quiet : goal.is_quiet-returns-then-are_quiet
is_quiet-returns-then-are_quiet t c =
    let e1 : are_quiet (list_exps c.deref-in-Comma.result.now) ≡ true = sym c.are_quiet-in-Comma.ensures ∙ c.if-are_quiet.true in
    let e2 = comma_tree c.args.expr.now c.deref-in-Comma.result.now c.deref-then-are_quiet.result.now c.in-Comma.parts c.in-Comma.last c.in-Comma.is c.deref-in-Comma.ensures.value c.deref-then-are_quiet.ensures in
    c.is_quiet-then-are_quiet.ensures ∙ sym (ap is_quiet e2 ∙ ap (λ b. b && is_quiet (expr_of c.deref-then-are_quiet.result.now)) e1)

pub is_quiet-returns-else-are_quiet : goal.is_quiet-returns-else-are_quiet
is_quiet-returns-else-are_quiet t c =
    let e1 : are_quiet (list_exps c.deref-in-Comma.result.now) ≡ false = sym c.are_quiet-in-Comma.ensures ∙ c.if-are_quiet.false in
    let e2 = comma_tree c.args.expr.now c.deref-in-Comma.result.now c.in-Comma.last.value c.in-Comma.parts c.in-Comma.last c.in-Comma.is c.deref-in-Comma.ensures.value refl in
    c.if-are_quiet.false ∙ sym (ap is_quiet e2 ∙ ap (λ b. b && is_quiet (expr_of c.in-Comma.last.value)) e1)
