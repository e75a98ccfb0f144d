use Rattle.std.proofs.Common.{map, string_bytes}
use Rattle.impactc_core.proofs.Topped.{works_asked}
use Rattle.impactc_core.proofs.top.perform.Goals as goal

pub returns-in-Ok-clause-works : goal.returns-in-Ok-clause-works
returns-in-Ok-clause-works g c = λ read asked.
    works_asked (map string_bytes c.args.words.now) read c.in-Ok.command c.work.result (g.H.Host.world c.args.host.now) (g.H.Host.world c.work.new.host)
    c.in-Ok.ensures.command asked c.work.ensures.works
