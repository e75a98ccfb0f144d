use Rattle.std.proofs.Common.{arith}
use Rattle.first_form.specs.Meaning.{source_meaning}
use Rattle.impactc_core.specs.Machines.{four, code_meaning}
use Rattle.impactc_core.proofs.Ran.{prints_if_broken, runs_if_done}
use Rattle.impactc_core.proofs.run.run_program.Goals as goal

pub returns-in-Ok-clause-ran : goal.returns-in-Ok-clause-ran
returns-in-Ok-clause-ran g c =
    runs_if_done c.args.program.now c.in-Ok.code c.run_code.result (g.H.Host.world c.args.host.now) (g.H.Host.world c.run_code.new.host)
    c.in-Ok.ensures.plain c.in-Ok.ensures.valid c.in-Ok.ensures.agrees (λ input. c.in-Ok.ensures.ends input 100000000 (omega arith)) c.run_code.ensures.ran

pub returns-in-Ok-clause-printed : goal.returns-in-Ok-clause-printed
returns-in-Ok-clause-printed g c =
    prints_if_broken (source_meaning c.args.program.now) (code_meaning four c.in-Ok.code) c.run_code.result (g.H.Host.world c.args.host.now)
    (g.H.Host.world c.run_code.new.host) c.in-Ok.ensures.agrees c.run_code.ensures.printed
