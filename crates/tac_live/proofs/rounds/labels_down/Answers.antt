use Rattle.std.proofs.Common.{◌≡◌, ◌-◌, arith, sym, subst, ⊎_elim, ◌∙◌, [], ◌∷◌, ◌++◌}
use Rattle.std.specs.List.{Contains}
use Rattle.std.proofs.lemmas.Bool.{cases_eq}
use Rattle.std.proofs.lemmas.List.Elements.{Contains-append_left, Contains-push}
use Rattle.tac_live.proofs.rounds.labels_down.Goals as goal

pub loop-left-preserved : goal.loop-left-preserved
loop-left-preserved c =
    let l = c.loop-left in
    let x = c.in_ok-number_at.field-0 in
    let e : c.push.new.self ≡ l.labels ++ x ∷ [] = c.in_ok-push.ensures.ok in
    let is : x ≡ l.left - 1 = c.in_ok-number_at.ensures.number in
    λ k le lt.
    subst (λ labels. Contains labels k) (sym e)
    (⊎_elim
    (λ here. subst (λ y. Contains (l.labels ++ x ∷ []) y) (is ∙ sym here) (Contains-push l.labels x))
    (λ there. Contains-append_left l.labels (x ∷ []) k (l.invariant k (omega (arith, le, there)) lt))
    (cases_eq k (l.left - 1)))
