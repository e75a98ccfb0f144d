use Rattle.impactc_core.proofs.Noted.{no_memory_left}
use Rattle.impactc_core.proofs.notes.finish_plain.Goals as goal

pub returns-in-Err-clause-note : goal.returns-in-Err-clause-note
returns-in-Err-clause-note g c =
    no_memory_left c.args.work.now (g.H.Host.world c.args.host.now) (g.H.Host.world c.leave_note-in-Err.new.host) c.leave_note-in-Err.result
    c.leave_note-in-Err.ensures.left
