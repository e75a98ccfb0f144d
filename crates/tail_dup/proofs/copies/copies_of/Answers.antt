use Rattle.std.proofs.Common.{◌≡◌, ◌<◌, ℕ, Some, length, get_or, arith}
use Rattle.std.specs.Prelude.{slice_get}
use Rattle.std.proofs.lemmas.Option.{slice_get-get_or}
use Rattle.tail_dup.proofs.Filled.{labels_more}
use Rattle.tail_dup.proofs.copies.copies_of.Goals as goal

pub loop-i-preserved : goal.loop-i-preserved
loop-i-preserved c =
    let m : ℕ = get_or c.args.copies.now c.loop-i.i 0 in
    let at : slice_get c.args.copies.now c.loop-i.i ≡ Some m = slice_get-get_or c.args.copies.now c.loop-i.i 0 c.loop-i-test.true in
    labels_more c.args.blocks c.args.copies.now c.loop-i.i m c.in_ok-label.label c.loop-i.of c.set.new.self (c.requires c.loop-i.i m at) at c.in_ok-label.ensures c.set.ensures c.loop-i.invariant
