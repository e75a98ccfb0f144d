use Rattle.std.proofs.Common.{◌≡◌, refl, ap, sym, ◌∙◌, Some}
use Rattle.c_types_operators.specs.Rules.{Fine}
use Rattle.c_types_operators.specs.Operators.{counted, updated, converted, a_value}
use Rattle.c_types_operators.specs.Views.{target_of}
use Rattle.c_types_operators.proofs.JudgingLemmas.{fine}
use Rattle.c_types_operators.proofs.unary.prefix_value.Goals as goal

pub returns : goal.returns
returns c =
    let e : counted c.args.op (target_of c.args.target) ≡ Some c.in-Some.choice = cc in
    fine _
    (rw e
    (ap (λ x. Fine (a_value x))
    (sym (c.in_ok-value.ensures ∙ ap (λ x. updated (target_of c.args.target) c.in-Some.choice x) (c.in_ok-one.ensures ∙ ap (λ x. converted c.in-Some.choice.right x) c.in_ok-step.ensures)))))
    refl
