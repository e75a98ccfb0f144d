use Rattle.std.proofs.Common.{arith}
use Rattle.ib_mem.proofs.Bytes.{higher_small}
use Rattle.ib_mem.proofs.number.+read_number.Goals as goal

pub overflow_mul-result : goal.overflow_mul-result
overflow_mul-result t c =
    omega (arith, c.read_number.ensures, higher_small c.args.bytes.now (λ i. (c.type_inv.bytes i).fits) c.in-len1-up.len_at_least c.requires)

pub overflow_add-result : goal.overflow_add-result
overflow_add-result t c =
    omega (arith, c.from.ensures, (c.type_inv.bytes 0).fits, c.read_number.ensures, higher_small c.args.bytes.now (λ i. (c.type_inv.bytes i).fits) c.in-len1-up.len_at_least c.requires)
