use Rattle.std.proofs.Common.{sym, subst, arith}
use Rattle.wide_plain.proofs.Tables.{Filled, filled_none, filled_more, filled_all}
use Rattle.wide_plain.proofs.starts.Starts.of_blocks.Goals as goal

pub loop-block-init : goal.loop-block-init
loop-block-init c = subst (λ of. Filled c.args.homes.low c.args.blocks.now 0 of 0) (sym c.new-of.ensures) (filled_none c.args.homes.low c.args.blocks.now)

pub loop-block-preserved : goal.loop-block-preserved
loop-block-preserved c =
    filled_more c.args.homes.low c.args.blocks.now c.loop-block.block-index c.block-item.result c.loop-block.of c.push.new.self c.loop-block.behind c.in_ok-behind.behind
    c.loop-block-test.true c.block-item.is c.loop-block.invariant c.in_ok-push.ensures.ok c.in_ok-behind.ensures

pub returns : goal.returns
returns c = filled_all c.args.homes.low c.args.blocks.now c.loop-block.block-index c.loop-block.of c.loop-block.behind (omega arith) c.loop-block.invariant
