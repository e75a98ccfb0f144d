use Rattle.std.proofs.Common.{◌+◌, ap}
use Rattle.wide_core.specs.Classes.{class_of}
use Rattle.wide_core.specs.Places.{put_if}
use Rattle.wide_sim.specs.Store.{held}
use Rattle.wide_sim.proofs.times.set_time.Goals as goal

pub returns-in-None-clause-times : goal.returns-in-None-clause-times
returns-in-None-clause-times g c =
    ap (λ to. put_if to (c.args.now + g.M.Machine.latency_of (class_of c.args.op.now.act)) (held 0 c.args.ready.now)) c.in-None.ensures
