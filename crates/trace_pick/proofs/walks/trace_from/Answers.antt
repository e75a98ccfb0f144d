use Rattle.std.proofs.Common.{sym}
use Rattle.trace_pick.specs.Tables.{behind}
use Rattle.trace_pick.proofs.Grown.{walk_more}
use Rattle.trace_pick.proofs.walks.trace_from.Goals as goal

pub along-preserved : goal.along-preserved
along-preserved c =
    walk_more (behind c.args.blocks.now c.args.prior.now c.args.next.now c.args.sums.now) c.args.first c.along.at c.in-Some.label c.along.chain c.push-in-Some.new.self
    c.in_ok-push-2.ensures.ok (sym c.in-Some.ensures) c.along.invariant
