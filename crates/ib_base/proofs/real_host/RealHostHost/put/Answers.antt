use Rattle.ib_base.proofs.Parts.{on_err, silent_prints}
use Rattle.ib_base.proofs.real_host.RealHostHost.put.Goals as goal

pub returns-clause-err : goal.returns-clause-err
returns-clause-err g c = on_err c.counted.result (rw c.counted.ensures.same_input (silent_prints _ c.args.bytes.now))
