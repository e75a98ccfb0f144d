use Rattle.std.proofs.Common.{◌≡◌, ◌∙◌, ◌+◌, ◌<◌, Some, length, get_or, sym, ap, subst, arith, true≢false}
use Rattle.std.specs.Prelude.{slice_get}
use Rattle.tac_core.specs.declared.edges.Edge.{Edge}
use Rattle.trace_pick.specs.Tables.{AreLinks}
use Rattle.trace_pick.proofs.Edges.{edge_counted}
use Rattle.trace_pick.proofs.Linked.{links_start, links_skip, links_more, edge_here}
use Rattle.trace_pick.proofs.links.links_of.Goals as goal
use Rattle.trace_pick.proofs.links.links_of.Goals.{then-is_best, else-is_best}

abbrev none : Edge
none = record { from = 0; to = 0; count = 0 }

pub loop-i-init : goal.loop-i-init
loop-i-init c = links_start c.args.func.now c.args.counts.now c.len-blocks.result c.in_ok-prior.prior c.in_ok-next.next c.len-blocks.ensures c.in_ok-prior.ensures c.in_ok-next.ensures

pub is_best-requires-clause-from : goal.is_best-requires-clause-from
is_best-requires-clause-from c =
    (c.requires.within c.loop-i.i (get_or c.as_slice-edges.result.now c.loop-i.i none) (edge_here c.as_slice-edges.result.now c.args.counts.now.edges c.loop-i.i none c.as_slice-edges.ensures c.loop-i-test.true)).0

pub is_best-requires-clause-to : goal.is_best-requires-clause-to
is_best-requires-clause-to c =
    (c.requires.within c.loop-i.i (get_or c.as_slice-edges.result.now c.loop-i.i none) (edge_here c.as_slice-edges.result.now c.args.counts.now.edges c.loop-i.i none c.as_slice-edges.ensures c.loop-i-test.true)).1

pub is_best-requires-clause-counted : goal.is_best-requires-clause-counted
is_best-requires-clause-counted c =
    edge_counted c.args.counts.now.edges c.loop-i.i (get_or c.as_slice-edges.result.now c.loop-i.i none) c.requires.counts.rise
    (edge_here c.as_slice-edges.result.now c.args.counts.now.edges c.loop-i.i none c.as_slice-edges.ensures c.loop-i-test.true)

pub link-requires-clause-to : goal.link-requires-clause-to
link-requires-clause-to c =
    let lt = (c.requires.within c.loop-i.i (get_or c.as_slice-edges.result.now c.loop-i.i none) (edge_here c.as_slice-edges.result.now c.args.counts.now.edges c.loop-i.i none c.as_slice-edges.ensures c.loop-i-test.true)).1 in
    subst (λ n. (get_or c.as_slice-edges.result.now c.loop-i.i none).to < n) (sym c.loop-i.invariant.priors.many) lt

pub link-requires-clause-from : goal.link-requires-clause-from
link-requires-clause-from c =
    let lt = (c.requires.within c.loop-i.i (get_or c.as_slice-edges.result.now c.loop-i.i none) (edge_here c.as_slice-edges.result.now c.args.counts.now.edges c.loop-i.i none c.as_slice-edges.ensures c.loop-i-test.true)).0 in
    subst (λ n. (get_or c.as_slice-edges.result.now c.loop-i.i none).from < n) (sym c.loop-i.invariant.nexts.many) lt

pub loop-i-preserved : goal.loop-i-preserved
loop-i-preserved c =
    let e : Edge = get_or c.as_slice-edges.result.now c.loop-i.i none in
    let at : slice_get c.args.counts.now.edges c.loop-i.i ≡ Some e = edge_here c.as_slice-edges.result.now c.args.counts.now.edges c.loop-i.i none c.as_slice-edges.ensures c.loop-i-test.true in
    let lt = c.requires.within c.loop-i.i e at in
    elim c.if-is_best.branch [
      | then-is_best w ↦
          links_more c.args.func.now c.args.counts.now c.loop-i.i e c.loop-i.prior c.loop-i.next c.if-is_best.prior c.if-is_best.next at (c.is_best.ensures.0 w.if-is_best.true) lt.0 lt.1
          (w.prior-is ∙ w.link.ensures.prior) (w.next-is ∙ w.link.ensures.next) c.loop-i.invariant
      | else-is_best w ↦
          subst (λ p. AreLinks c.args.func.now c.args.counts.now (c.loop-i.i + 1) p c.if-is_best.next) (sym w.prior-is)
          (subst (AreLinks c.args.func.now c.args.counts.now (c.loop-i.i + 1) c.loop-i.prior) (sym w.next-is)
          (links_skip c.args.func.now c.args.counts.now c.loop-i.i e c.loop-i.prior c.loop-i.next at (λ t. true≢false (sym (c.is_best.ensures.1 t) ∙ w.if-is_best.false)) c.loop-i.invariant))
    ]

pub returns : goal.returns
returns c =
    let long : length c.as_slice-edges.result.now ≡ length c.args.counts.now.edges = ap length c.as_slice-edges.ensures in
    let same : c.loop-i.i ≡ length c.args.counts.now.edges = omega (arith, long, c.loop-i-test.false, c.loop-i.auto.i-end) in
    subst (λ n. AreLinks c.args.func.now c.args.counts.now n c.loop-i.prior c.loop-i.next) same c.loop-i.invariant
