use Rattle.wide_plain.proofs.Functions.{made_more}
use Rattle.wide_plain.proofs.program.plain_funcs.Goals as goal

pub loop-func-preserved : goal.loop-func-preserved
loop-func-preserved c =
    made_more c.args.homes.low c.args.places.now c.args.funcs.now c.loop-func.func-index c.func-item.result c.loop-func.list c.push.new.self c.in_ok-made.made.func c.loop-func.number c.in_ok-made.made.next
    c.loop-func-test.true c.func-item.is c.loop-func.invariant c.in_ok-made.ensures.made c.in_ok-made.ensures.few c.in_ok-push.ensures.ok
