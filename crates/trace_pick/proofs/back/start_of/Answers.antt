use Rattle.std.proofs.Common.{◌≡◌, ◌<◌, Some, true, length, sym, ap, ◌∙◌, subst}
use Rattle.std.specs.List.{sum_by}
use Rattle.std.proofs.lemmas.List.{length-set}
use Rattle.trace_pick.specs.Settled.{unseen_before}
use Rattle.trace_pick.proofs.WalkedBack.{unpassed, passed_falls, unseen_is, earlier_in, walk_back_begins, walk_back_more, walk_back_ends, walk_back_closes, not_some}
use Rattle.trace_pick.proofs.back.start_of.Goals as goal

pub back-init : goal.back-init
back-init c = record {
  many = ap length c.set.ensures ∙ length-set c.args.seen.now c.args.label true;
  at_in = c.requires.within;
  first_in = c.requires.within;
  walked = λ f c' can. walk_back_begins f c' c.args.prior.now c.args.weights.now c.args.seen.now c.set.new.self c.args.label c.set.ensures c.requires.within can;
}

pub back-smaller : goal.back-smaller
back-smaller c =
    let is : Some c.in-Some.before ≡ unseen_before c.args.prior.now c.back.seen c.back.at = c.in-Some.ensures ∙ ap (λ z. unseen_before c.args.prior.now z c.back.at) c.as_slice.ensures in
    let told = unseen_is c.args.prior.now c.back.seen c.back.at c.in-Some.before is in
    let lt : c.in-Some.before < length c.args.seen.now = c.requires.inside c.back.at c.in-Some.before told.0 in
    subst (λ z. sum_by unpassed z < sum_by unpassed c.back.seen) (sym c.set-in-Some.ensures)
    (passed_falls c.back.seen c.in-Some.before (subst (λ n. c.in-Some.before < n) (sym c.back.invariant.many) lt) told.1)

pub back-preserved : goal.back-preserved
back-preserved c =
    let is : Some c.in-Some.before ≡ unseen_before c.args.prior.now c.back.seen c.back.at = c.in-Some.ensures ∙ ap (λ z. unseen_before c.args.prior.now z c.back.at) c.as_slice.ensures in
    let told = unseen_is c.args.prior.now c.back.seen c.back.at c.in-Some.before is in
    let lt : c.in-Some.before < length c.args.seen.now = c.requires.inside c.back.at c.in-Some.before told.0 in
    record {
      many = ap length c.set-in-Some.ensures ∙ length-set c.back.seen c.in-Some.before true ∙ c.back.invariant.many;
      at_in = lt;
      first_in = subst (λ z. z < length c.args.seen.now) (sym c.earlier-first.ensures) (earlier_in c.args.weights.now c.in-Some.before c.back.first (length c.args.seen.now) lt c.back.invariant.first_in);
      walked = λ f c' can. walk_back_more f c' c.args.prior.now c.args.weights.now c.args.seen.now c.back.seen c.set-in-Some.new.self c.args.label c.back.at c.back.first c.in-Some.before c.earlier-first.result
          (subst (λ n. c.in-Some.before < n) (sym c.back.invariant.many) lt) is c.set-in-Some.ensures c.earlier-first.ensures can (c.back.invariant.walked f c' can);
    }

pub returns-in-None-clause-found : goal.returns-in-None-clause-found
returns-in-None-clause-found c = λ f c' can. walk_back_ends f c' c.args.prior.now c.args.weights.now c.args.seen.now c.back.seen c.args.label c.back.at c.back.first c.in-None.ensures can (c.back.invariant.walked f c' can)

pub returns-in-Some-label_at-clause-found : goal.returns-in-Some-label_at-clause-found
returns-in-Some-label_at-clause-found c = λ f c' can.
    walk_back_closes f c' c.args.prior.now c.args.weights.now c.args.seen.now c.back.seen c.args.label c.back.at c.back.first c.in-Some-label_at.field-0 c.in-Some-label_at.ensures
    (not_some c.unseen_before.result c.in_default.not-Some ∙ c.unseen_before.ensures ∙ ap (λ z. unseen_before c.args.prior.now z c.back.at) c.as_slice.ensures) can (c.back.invariant.walked f c' can)
