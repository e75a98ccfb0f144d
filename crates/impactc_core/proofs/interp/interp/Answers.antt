use Rattle.c_program.specs.Checked.{program}
use Rattle.impactc_core.proofs.Interpreting.{works_interpreted}
use Rattle.impactc_core.proofs.interp.interp.Goals as goal

pub returns-in-Ok-clause-works : goal.returns-in-Ok-clause-works
returns-in-Ok-clause-works g c =
    let ran = c.interpret_program in
    works_interpreted c.args.file c.args.bytes.now (program c.in-Ok.checked) ran.result (g.H.Host.world c.args.host.now) (g.H.Host.world ran.new.host)
    c.requires c.in-Ok.ensures.program ran.ensures.means ran.ensures.broke ran.ensures.printed
