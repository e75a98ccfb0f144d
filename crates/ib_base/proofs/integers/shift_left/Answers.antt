use Rattle.ib_base.proofs.Wrapping.{product_fits, shifted}
use Rattle.ib_base.proofs.integers.shift_left.Goals as goal

pub overflow_mul-from : goal.overflow_mul-from
overflow_mul-from c =
    product_fits c.args.a c.args.b _ _ _ c.ranges.a c.from.ensures c.power_of_two.ensures c.shift_count.ensures.below (record { sfits = c.power_of_two.type_inv })

pub returns : goal.returns
returns c =
    shifted c.args.a c.args.b _ _ _ c.ranges.a c.from.ensures c.power_of_two.ensures c.shift_count.ensures.below (record { sfits = c.power_of_two.type_inv })
    c.args.w _ c.ranges.b (record { sfits = c.wrap.type_inv }) c.shift_count.ensures.count c.wrap.ensures
