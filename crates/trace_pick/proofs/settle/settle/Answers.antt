use Rattle.std.proofs.Common.{◌≡◌, ◌<◌, ◌≤◌, Some, None, length, sym, ap, ◌∙◌, subst}
use Rattle.std.specs.Prelude.{slice_set}
use Rattle.std.specs.List.{sum_by}
use Rattle.std.proofs.lemmas.List.{length-set}
use Rattle.trace_pick.specs.Settled.{sum_behind, unsettled_behind}
use Rattle.trace_pick.specs.Tables.{AreLow}
use Rattle.trace_pick.proofs.Settling.{unsummed, summed_falls, low_set, behind_low, behind_some, ops_some, unsettled_is, settle_begins, settle_more, settle_ends}
use Rattle.trace_pick.proofs.WalkedBack.{not_some}
use Rattle.trace_pick.proofs.settle.settle.Goals as goal

pub along-init : goal.along-init
along-init c = record {
  many = ap length c.set.ensures ∙ length-set c.args.sums.now c.args.first c.ops_at.result;
  at_in = c.requires.within;
  low = subst (λ z. AreLow z) (sym c.set.ensures)
      (low_set c.args.sums.now c.args.first c.ops_at.result c.requires.within (subst (λ z. z ≤ 2048) (sym c.ops_at.ensures) (c.requires.few c.args.first)) c.requires.low);
  walked = λ f c' cut can. settle_begins f c' c.args.blocks.now c.args.next.now cut c.args.sums.now c.set.new.self c.args.first (c.set.ensures ∙ ap (λ z. slice_set c.args.sums.now c.args.first z) c.ops_at.ensures) can;
}

pub along-smaller : goal.along-smaller
along-smaller c =
    let is : Some c.in-Some.label ≡ unsettled_behind c.args.next.now c.along.sums c.along.at = c.in-Some.ensures ∙ ap (λ z. unsettled_behind c.args.next.now z c.along.at) c.as_slice.ensures in
    let told = unsettled_is c.args.next.now c.along.sums c.along.at c.in-Some.label is in
    let lt : c.in-Some.label < length c.args.sums.now = c.requires.inside c.along.at c.in-Some.label told.0 in
    let some : 0 < sum_behind c.args.blocks.now c.as_slice-in-Some.result.now c.along.at c.in-Some.label = behind_some c.args.blocks.now c.as_slice-in-Some.result.now c.along.at c.in-Some.label (ops_some c.args.blocks.now c.in-Some.label (subst (λ n. c.in-Some.label < n) c.requires.many lt)) in
    subst (λ z. sum_by unsummed z < sum_by unsummed c.along.sums) (sym c.set-in-Some.ensures)
    (summed_falls c.along.sums c.in-Some.label c.sum_behind-sum.result (subst (λ n. c.in-Some.label < n) (sym c.along.invariant.many) lt) told.1 (subst (λ z. 0 < z) (sym c.sum_behind-sum.ensures) some))

pub along-preserved : goal.along-preserved
along-preserved c =
    let is : Some c.in-Some.label ≡ unsettled_behind c.args.next.now c.along.sums c.along.at = c.in-Some.ensures ∙ ap (λ z. unsettled_behind c.args.next.now z c.along.at) c.as_slice.ensures in
    let told = unsettled_is c.args.next.now c.along.sums c.along.at c.in-Some.label is in
    let lt : c.in-Some.label < length c.args.sums.now = c.requires.inside c.along.at c.in-Some.label told.0 in
    let lt' : c.in-Some.label < length c.along.sums = subst (λ n. c.in-Some.label < n) (sym c.along.invariant.many) lt in
    let sum : c.sum_behind-sum.result ≡ sum_behind c.args.blocks.now c.along.sums c.along.at c.in-Some.label = c.sum_behind-sum.ensures ∙ ap (λ z. sum_behind c.args.blocks.now z c.along.at c.in-Some.label) c.as_slice-in-Some.ensures in
    record {
      many = ap length c.set-in-Some.ensures ∙ length-set c.along.sums c.in-Some.label c.sum_behind-sum.result ∙ c.along.invariant.many;
      at_in = lt;
      low = subst (λ z. AreLow z) (sym c.set-in-Some.ensures)
          (low_set c.along.sums c.in-Some.label c.sum_behind-sum.result lt' (subst (λ z. z ≤ 2048) (sym sum) (behind_low c.args.blocks.now c.along.sums c.along.at c.in-Some.label c.requires.few)) c.along.invariant.low);
      walked = λ f c' cut can. settle_more f c' c.args.blocks.now c.args.next.now cut (slice_set cut c.args.first None) c.args.sums.now c.along.sums c.set-in-Some.new.self c.args.first c.along.at c.in-Some.label
          is (c.set-in-Some.ensures ∙ ap (λ z. slice_set c.along.sums c.in-Some.label z) sum) can (c.along.invariant.walked f c' cut can);
    }

pub returns-clause-settled : goal.returns-clause-settled
returns-clause-settled c = λ f c' cut can.
    settle_ends f c' c.args.blocks.now c.args.next.now cut (slice_set cut c.args.first None) c.args.sums.now c.along.sums c.args.first c.along.at
    (not_some c.unsettled_behind.result c.in_default.not-Some ∙ c.unsettled_behind.ensures ∙ ap (λ z. unsettled_behind c.args.next.now z c.along.at) c.as_slice.ensures) can (c.along.invariant.walked f c' cut can)
