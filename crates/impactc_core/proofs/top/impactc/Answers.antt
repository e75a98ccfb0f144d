use Rattle.std.proofs.Common.{Some}
use Rattle.ib_base.specs.Cause.{Rose}
use Rattle.impactc_core.proofs.Topped.{topped, caused}
use Rattle.impactc_core.proofs.Completing.{completes}
use Rattle.impactc_core.proofs.top.impactc.Goals as goal

pub returns-clause-answers : goal.returns-clause-answers
returns-clause-answers g c = λ read asked.
    topped read c.perform-done.result (g.H.Host.world c.args.host.now) (g.H.Host.world c.perform-done.new.host) (g.H.Host.world c.finish.new.host) c.finish.result
    (c.perform-done.ensures.works read asked) c.finish.ensures.note

pub returns-clause-completes : goal.returns-clause-completes
returns-clause-completes g c command asked can =
    let before = g.H.Host.world c.args.host.now in
    let after = g.H.Host.world c.finish.new.host in
    let faults = g.H.Host.faults c.args.host.now in
    completes command before after c.finish.result (Rose faults (g.H.Host.faults c.finish.new.host)) can
    (topped (Some command) c.perform-done.result before (g.H.Host.world c.perform-done.new.host) after c.finish.result
    (c.perform-done.ensures.works (Some command) asked) c.finish.ensures.note)
    (caused c.perform-done.result c.finish.result faults (g.H.Host.faults c.perform-done.new.host)
    (g.H.Host.faults c.finish.new.host) c.perform-done.ensures.cause c.finish.ensures.cause (g.H.Host.world c.perform-done.new.host) after c.finish.ensures.note).rose

pub returns-clause-cause : goal.returns-clause-cause
returns-clause-cause g c =
    caused c.perform-done.result c.finish.result (g.H.Host.faults c.args.host.now) (g.H.Host.faults c.perform-done.new.host)
    (g.H.Host.faults c.finish.new.host) c.perform-done.ensures.cause c.finish.ensures.cause (g.H.Host.world c.perform-done.new.host) (g.H.Host.world c.finish.new.host) c.finish.ensures.note
