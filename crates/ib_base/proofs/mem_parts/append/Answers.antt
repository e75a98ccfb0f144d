use Rattle.std.proofs.Common.{take}
use Rattle.ib_base.proofs.Parts.{begins_take}
use Rattle.ib_base.proofs.mem_parts.append.Goals as goal

pub returns-in-Ok-clause-err : goal.returns-in-Ok-clause-err
returns-in-Ok-clause-err c = record {
  part = take c.min.result c.args.bytes.now;
  begins = begins_take c.min.result c.args.bytes.now;
  appended = c.in-Ok.ensures.ok;
}
