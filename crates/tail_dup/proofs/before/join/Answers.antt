use Rattle.std.proofs.Common.{◌<◌, ◌-◌, length, arith}
use Rattle.std.proofs.lemmas.Option.{slice_get-get_or}
use Rattle.tail_dup.proofs.Filled.{joined_more}
use Rattle.tail_dup.proofs.before.join.Goals as goal

pub loop-i-preserved : goal.loop-i-preserved
loop-i-preserved c =
    let lt : c.loop-i.i < length c.args.chain.now = c.loop-i-test.true in
    joined_more c.args.chain.now c.loop-i.i (c.loop-i.i - 1) _ _ c.args.before.now c.loop-i.before c.set.new.self c.requires.apart c.requires.within
    (omega (arith, c.loop-i.auto.i))
    (slice_get-get_or c.args.chain.now (c.loop-i.i - 1) 0 (omega arith))
    (slice_get-get_or c.args.chain.now c.loop-i.i 0 lt)
    c.set.ensures c.loop-i.invariant
