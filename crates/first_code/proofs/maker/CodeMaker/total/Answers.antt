use Rattle.first_code.proofs.Totals.{total_room, total_goes_on}
use Rattle.first_code.proofs.maker.CodeMaker.total.Goals as goal

pub add-requires : goal.add-requires
add-requires c =
    total_room c.args.self.now c.loop-addend.self c.args.first c.loop-addend.value c.args.rest.now c.loop-addend.addend-index c.addend-item.result
    c.loop-addend.invariant c.requires c.loop-addend-test.true c.addend-item.is

pub loop-addend-preserved : goal.loop-addend-preserved
loop-addend-preserved c =
    total_goes_on c.args.self.now c.loop-addend.self c.add.new.self c.args.first c.loop-addend.value c.in_ok-value.value c.args.rest.now
    c.loop-addend.addend-index c.addend-item.result c.loop-addend.invariant c.in_ok-value.ensures.made c.loop-addend-test.true c.addend-item.is
    c.in_ok-value.ensures.value
