use Rattle.std.proofs.Common.{◌+◌, drop, sym, ◌∙◌, ap, subst, arith}
use Rattle.c_ast.specs.Nesting as N
use Rattle.c_nesting.specs.NestingViews.{counts_of, AreWithin, most_grown}
use Rattle.c_nesting.proofs.GrowthLemmas.{are_wider, after_kind}
use Rattle.c_nesting.proofs.NestingLemmas.{goes_on, passes}
use Rattle.c_nesting.proofs.nesting.too_deep.Goals as goal

pub after_kind-requires : goal.after_kind-requires
after_kind-requires c = are_wider c.loop-i.i most_grown (counts_of c.loop-i.counts) (omega arith) c.loop-i.invariant.within

pub loop-i-preserved : goal.loop-i-preserved
loop-i-preserved c = record {
  same =
      let ts = c.args.tokens.now in
      let tok = c.index-tokens-i.result in
      c.loop-i.invariant.same
      ∙ goes_on ts c.loop-i.i tok c.loop-i.headed (counts_of c.loop-i.counts) (counts_of c.in_ok-counts.counts) c.loop-i-test.true c.index-tokens-i.is
      (c.in_ok-counts.ensures ∙ ap (λ n. N.after_kind tok.kind c.loop-i.headed n (counts_of c.loop-i.counts)) c.next_at-next.ensures) c.if-counts-gt-MOST_NESTING.false
      ∙ ap (λ h. N.first_deep (drop (c.loop-i.i + 1) ts) (N.tops h (counts_of c.in_ok-counts.counts) (drop (c.loop-i.i + 1) ts))) (sym c.heads-headed.ensures);
  within =
      subst (λ made. AreWithin (c.loop-i.i + 1) made) (sym c.in_ok-counts.ensures)
      (after_kind c.loop-i.i c.index-tokens-i.result.kind c.loop-i.headed _ (counts_of c.loop-i.counts) c.loop-i.invariant.within);
}

pub returns-then-counts-gt-MOST_NESTING : goal.returns-then-counts-gt-MOST_NESTING
returns-then-counts-gt-MOST_NESTING c =
    let ts = c.args.tokens.now in
    let tok = c.index-tokens-i.result in
    sym (c.loop-i.invariant.same
    ∙ passes ts c.loop-i.i tok c.loop-i.headed (counts_of c.loop-i.counts) (counts_of c.in_ok-counts.counts) c.loop-i-test.true c.index-tokens-i.is
    (c.in_ok-counts.ensures ∙ ap (λ n. N.after_kind tok.kind c.loop-i.headed n (counts_of c.loop-i.counts)) c.next_at-next.ensures) c.if-counts-gt-MOST_NESTING.true)
