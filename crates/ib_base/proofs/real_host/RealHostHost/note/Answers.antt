use Rattle.ib_base.proofs.Parts.{on_err, silent_notes}
use Rattle.ib_base.proofs.real_host.RealHostHost.note.Goals as goal

pub returns-clause-err : goal.returns-clause-err
returns-clause-err g c = on_err c.counted.result (rw c.counted.ensures.same_input (rw c.flush.ensures.same_input (silent_notes _ c.args.bytes.now)))
