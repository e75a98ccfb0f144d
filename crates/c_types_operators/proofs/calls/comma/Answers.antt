use Rattle.std.proofs.Common.{◌≡◌, refl, ap, sym, ◌∙◌, [], ◌∷◌, ◌++◌}
use Rattle.c_typed.specs.Views.{expr_of, list_exps}
use Rattle.c_typed.specs.Tree as t
use Rattle.c_types_operators.specs.Rules.{Fine}
use Rattle.c_types_operators.specs.Operators.{comma_of}
use Rattle.c_types_operators.proofs.JudgingLemmas.{fine}
use Rattle.c_types_operators.proofs.TypedRows.{comma_exprs}
use Rattle.c_types_operators.proofs.CallLemmas.{comma_snoc}
use Rattle.c_types_operators.proofs.calls.comma.Goals as goal

pub returns : goal.returns
returns c =
    let items : c.args.parts.items ≡ c.pop.new.self.items ++ (c.in-Some.last ∷ []) = c.in-Some.ensures.items in
    let last : c.in_ok-last.last.value ≡ c.in-Some.last = c.in_ok-last.ensures in
    fine _
    (ap (λ xs. comma_of c.args.place (list_exps xs)) items
    ∙ (comma_snoc c.args.place c.pop.new.self.items c.in-Some.last
    ∙ ap (λ x. Fine x) (ap (λ y. t.comma (list_exps c.pop.new.self.items) (expr_of y)) (sym last) ∙ (sym (comma_exprs c.pop.new.self c.in_ok-last.last) ∙ sym (ap expr_of c.in_ok-value.ensures)))))
    refl
