use Rattle.std.proofs.Common.{arith}
use Rattle.ib_mem.proofs.Bytes.{written}
use Rattle.ib_mem.proofs.number.write_number.Goals as goal

pub loop-byte-preserved : goal.loop-byte-preserved
loop-byte-preserved c = written c.loop-byte.bytes c.loop-byte.byte-index c.loop-byte.left c.args.number (omega arith) c.loop-byte.invariant
