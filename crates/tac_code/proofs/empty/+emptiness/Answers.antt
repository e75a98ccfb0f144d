use Rattle.std.proofs.Common.{◌≡◌, ◌∙◌, ap, sym, refl, map, Bool, true, false}
use Rattle.std.specs.Prelude.{◌&&◌}
use Rattle.std.specs.List.{list_all}
use Rattle.tac_lowered.specs.Expressions.{is_empty}
use Rattle.tac_code.specs.Views.{code_of}
use Rattle.tac_code.proofs.Rows.{row_empty}
use Rattle.tac_code.proofs.empty.+emptiness.Goals as goal

pub is_empty-returns-then-are_empty : goal.is_empty-returns-then-are_empty
is_empty-returns-then-are_empty t c =
    let e1 : list_all is_empty (map code_of c.deref-in-Row.result.now) ≡ true = sym c.are_empty.ensures ∙ c.if-are_empty.true in
    let e2 = row_empty c.args.code.now c.deref-in-Row.result.now c.deref-then-are_empty.result.now c.in-Row.first c.in-Row.last c.in-Row.is c.deref-in-Row.ensures.value c.deref-then-are_empty.ensures in
    c.is_empty-then-are_empty.ensures ∙ sym (e2 ∙ ap (λ b. b && is_empty (code_of c.deref-then-are_empty.result.now)) e1)

pub is_empty-returns-else-are_empty : goal.is_empty-returns-else-are_empty
is_empty-returns-else-are_empty t c =
    let e1 : list_all is_empty (map code_of c.deref-in-Row.result.now) ≡ false = sym c.are_empty.ensures ∙ c.if-are_empty.false in
    let e2 = row_empty c.args.code.now c.deref-in-Row.result.now c.in-Row.last.value c.in-Row.first c.in-Row.last c.in-Row.is c.deref-in-Row.ensures.value refl in
    c.if-are_empty.false ∙ sym (e2 ∙ ap (λ b. b && is_empty (code_of c.in-Row.last.value)) e1)
