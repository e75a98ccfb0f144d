use Rattle.impactc_core.proofs.Working.{works_ran}
use Rattle.impactc_core.proofs.run.run.Goals as goal

pub returns-in-Ok-clause-works : goal.returns-in-Ok-clause-works
returns-in-Ok-clause-works g c =
    let ran = c.run_program in
    works_ran c.args.file c.args.bytes.now c.in-Ok.program ran.result (g.H.Host.world c.args.host.now) (g.H.Host.world ran.new.host)
    c.requires c.in-Ok.ensures.program ran.ensures.ran ran.ensures.broke ran.ensures.printed
