use Rattle.std.proofs.Common.{ap, ◌∙◌}
use Rattle.tail_dup.specs.Duplicated.{from_first}
use Rattle.tail_dup.specs.Tables.{is_entered}
use Rattle.tail_dup.proofs.Tails.{tails_more, whole_drop}
use Rattle.tail_dup.proofs.copies.copied_blocks.Goals as goal

pub loop-chain-preserved : goal.loop-chain-preserved
loop-chain-preserved c =
    tails_more (is_entered c.args.entered.now) c.args.chains.now c.loop-chain.chain-index c.chain-item.result c.loop-chain.copies c.in_ok-from_slice.field-0 c.append.new.self
    c.loop-chain-test.true c.chain-item.is c.loop-chain.invariant
    (c.in_ok-from_slice.ensures ∙ whole_drop c.first_entrance-first.result c.list-list.result.now ∙ c.first_entrance-first.ensures.part ∙ ap (from_first (is_entered c.args.entered.now)) c.list-list.ensures)
    c.in_ok-append.ensures
