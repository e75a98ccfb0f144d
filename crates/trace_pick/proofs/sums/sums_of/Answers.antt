use Rattle.std.proofs.Common.{◌≡◌, ◌+◌, ◌<◌, ◌≤◌, length, sym, ap, ◌∙◌, subst}
use Rattle.tac_core.specs.Weights.{AreByLabel, in_weight}
use Rattle.trace_pick.specs.Best.{IsMutuallyBest}
use Rattle.trace_pick.specs.Tables.{IsTable, sum_at}
use Rattle.trace_pick.specs.Settled.{label_at, IsStartOf, IsSettled, AreSettledUpto}
use Rattle.trace_pick.proofs.Cut.{inside_by, upto_none, upto_skip, upto_more, upto_all, can_walk_back, can_settle, not_zero}
use Rattle.trace_pick.proofs.sums.sums_of.Goals as goal
use Rattle.trace_pick.proofs.sums.sums_of.Goals.{then-sum_at-eq0, else-sum_at-eq0}

pub loop-i-init : goal.loop-i-init
loop-i-init c = upto_none c.args.func.now c.args.counts.now c.args.links.now.prior c.in_ok-cut.cut c.in_ok-seen.seen c.in_ok-sums.sums (length c.as_slice-blocks.result.now)
    (ap (λ z. length z) c.as_slice-blocks.ensures) (c.in_ok-cut.ensures ∙ c.as_slice-prior.ensures) c.in_ok-seen.ensures c.in_ok-sums.ensures c.requires.priors

pub start_of-first-requires-clause-inside : goal.start_of-first-requires-clause-inside
start_of-first-requires-clause-inside c = λ a b e.
    subst (λ n. b < n) (sym c.loop-i.invariant.many_seen)
    (inside_by (length c.args.func.now.blocks) (λ b a. IsMutuallyBest c.args.func.now c.args.counts.now a b) c.args.links.now.prior c.requires.priors (λ b a t. c.requires.known.leaves a b t) a b
    (sym (ap (λ z. label_at z a) c.as_slice-prior.ensures) ∙ e))

pub settle-requires-clause-inside : goal.settle-requires-clause-inside
settle-requires-clause-inside c = λ a b e.
    subst (λ n. b < n) (sym c.loop-i.invariant.all.many)
    (inside_by (length c.args.func.now.blocks) (IsMutuallyBest c.args.func.now c.args.counts.now) c.args.links.now.next c.requires.nexts (λ a b t. c.requires.known.enters a b t) a b
    (sym (ap (λ z. label_at z a) c.as_slice-next.ensures) ∙ e))

pub loop-i-preserved : goal.loop-i-preserved
loop-i-preserved c =
    let number : c.in_ok-label.label ≡ c.loop-i.i = c.in_ok-label.ensures.number in
    let sum : c.sum_at.result ≡ sum_at c.loop-i.sums c.in_ok-label.label = c.sum_at.ensures ∙ ap (λ z. sum_at z c.in_ok-label.label) c.as_slice.ensures in
    let long : length c.as_slice-blocks.result.now ≡ length c.args.func.now.blocks = ap (λ z. length z) c.as_slice-blocks.ensures in
    elim c.if-sum_at-eq0.branch [
      | then-sum_at-eq0 w ↦
          let none : sum_at c.loop-i.sums c.in_ok-label.label ≡ 0 = sym sum ∙ w.if-sum_at-eq0.true in
          let lt : c.in_ok-label.label < length c.args.func.now.blocks = subst (λ z. z < length c.args.func.now.blocks) (sym number) (subst (λ z. c.loop-i.i < z) long c.loop-i-test.true) in
          let found : IsStartOf c.args.func.now c.args.counts.now c.loop-i.seen w.start_of-first.new.seen c.in_ok-label.label w.start_of-first.result =
          w.start_of-first.ensures.found c.args.func.now c.args.counts.now
          (can_walk_back c.args.func.now c.args.counts.now c.loop-i.i c.in_ok-label.label c.as_slice-prior.result.now c.loop-i.cut w.as_slice-then-sum_at-eq0.result.now c.loop-i.seen c.loop-i.sums c.requires.known
          (subst (λ z. IsTable (length c.args.func.now.blocks) (λ b a. IsMutuallyBest c.args.func.now c.args.counts.now a b) z) (sym c.as_slice-prior.ensures) c.requires.priors)
          (subst (λ z. AreByLabel (in_weight c.args.counts.now) (length c.args.func.now.blocks) z) (sym w.as_slice-then-sum_at-eq0.ensures)
          (subst (λ n. AreByLabel (in_weight c.args.counts.now) n c.in_ok-weights.weights) long c.in_ok-weights.ensures))
          lt none c.loop-i.invariant) in
          subst (λ z. AreSettledUpto c.args.func.now c.args.counts.now (c.loop-i.i + 1) z c.if-sum_at-eq0.seen c.if-sum_at-eq0.sums) (sym w.cut-is)
          (subst (λ z. AreSettledUpto c.args.func.now c.args.counts.now (c.loop-i.i + 1) w.set.new.self z c.if-sum_at-eq0.sums) (sym w.seen-is)
          (subst (λ z. AreSettledUpto c.args.func.now c.args.counts.now (c.loop-i.i + 1) w.set.new.self w.start_of-first.new.seen z) (sym w.sums-is)
          (upto_more c.args.func.now c.args.counts.now c.loop-i.i c.in_ok-label.label w.start_of-first.result c.loop-i.cut w.set.new.self c.loop-i.seen w.start_of-first.new.seen c.loop-i.sums w.settle.new.sums number found
          w.set.ensures w.start_of-first.ensures.many w.settle.ensures.low
          (w.settle.ensures.settled c.args.func.now c.args.counts.now c.loop-i.cut
          (can_settle c.args.func.now c.args.counts.now c.loop-i.i c.in_ok-label.label w.start_of-first.result c.as_slice-blocks.result.now c.as_slice-next.result.now c.loop-i.cut c.loop-i.seen w.start_of-first.new.seen c.loop-i.sums c.requires.known c.as_slice-blocks.ensures
          (subst (λ z. IsTable (length c.args.func.now.blocks) (IsMutuallyBest c.args.func.now c.args.counts.now) z) (sym c.as_slice-next.ensures) c.requires.nexts)
          none found c.loop-i.invariant))
          c.loop-i.invariant)))
      | else-sum_at-eq0 w ↦
          let some : IsSettled c.loop-i.sums c.loop-i.i = subst (λ z. IsSettled c.loop-i.sums z) number (not_zero (sum_at c.loop-i.sums c.in_ok-label.label) (λ e. w.if-sum_at-eq0.false (sum ∙ e))) in
          subst (λ z. AreSettledUpto c.args.func.now c.args.counts.now (c.loop-i.i + 1) z c.if-sum_at-eq0.seen c.if-sum_at-eq0.sums) (sym w.cut-is)
          (subst (λ z. AreSettledUpto c.args.func.now c.args.counts.now (c.loop-i.i + 1) c.loop-i.cut z c.if-sum_at-eq0.sums) (sym w.seen-is)
          (subst (λ z. AreSettledUpto c.args.func.now c.args.counts.now (c.loop-i.i + 1) c.loop-i.cut c.loop-i.seen z) (sym w.sums-is)
          (upto_skip c.args.func.now c.args.counts.now c.loop-i.i c.loop-i.cut c.loop-i.seen c.loop-i.sums some c.loop-i.invariant)))
    ]

pub returns : goal.returns
returns c =
    let long : length c.as_slice-blocks.result.now ≡ length c.args.func.now.blocks = ap (λ z. length z) c.as_slice-blocks.ensures in
    upto_all c.args.func.now c.args.counts.now c.loop-i.i c.loop-i.cut c.loop-i.seen c.loop-i.sums (subst (λ n. n ≤ c.loop-i.i) long c.loop-i-test.false) c.loop-i.invariant
