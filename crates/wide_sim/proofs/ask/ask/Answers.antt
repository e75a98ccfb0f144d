use Rattle.std.proofs.Common.{refl, ◌∙◌, ◌<◌, length, arith}
use Rattle.std.proofs.lemmas.List.{length-set}
use Rattle.wide_sim.proofs.Asks.{asked_none, asked_step, quiet_at, rest_step, some_step}
use Rattle.wide_sim.proofs.ask.ask.Goals as goal

pub loop-i-init : goal.loop-i-init
loop-i-init g c = record {
  len = refl;
  asked = asked_none (g.H.Host.world c.args.host.now);
  rest = refl;
  count_stands = refl;
  sure = λ s. s;
}

pub returns-in-Err-clause-err : goal.returns-in-Err-clause-err
returns-in-Err-clause-err g c =
    let i = c.loop-i.invariant in
    some_step c.loop-i.plan c.args.plan.now c.loop-i.i _ (g.H.Host.world c.args.host.now) (g.H.Host.world c.loop-i.host) (omega (arith, i.len, c.loop-i-test.true)) i.len i.rest i.asked _ c.in-Err.ensures.asks c.requires c.in-Err.ensures.err

pub loop-i-preserved : goal.loop-i-preserved
loop-i-preserved g c =
    let i = c.loop-i.invariant in
    let lt : c.loop-i.i < length c.loop-i.plan = omega (arith, i.len, c.loop-i-test.true) in
    record {
      len = length-set c.loop-i.plan c.loop-i.i c.in-Ok.effect ∙ i.len;
      asked = asked_step c.loop-i.plan c.args.plan.now c.loop-i.i _ (g.H.Host.world c.args.host.now) (g.H.Host.world c.loop-i.host) lt i.len i.rest i.asked c.in-Ok.effect _ c.in-Ok.ensures.ok;
      rest = rest_step c.loop-i.plan c.args.plan.now c.loop-i.i c.in-Ok.effect (g.H.Host.world c.args.host.now) (g.H.Host.world c.loop-i.host) lt i.len i.rest i.asked c.in-Ok.effect;
      count_stands = c.in-Ok.ensures.cause.done refl ∙ i.count_stands;
      sure = λ s. c.in-Ok.ensures.still_sure (i.sure s);
    }

pub returns-in-Err-clause-quiet : goal.returns-in-Err-clause-quiet
returns-in-Err-clause-quiet g c =
    let i = c.loop-i.invariant in
    λ quiet. c.in-Err.ensures.quiet (quiet_at c.loop-i.plan c.args.plan.now c.loop-i.i _ (omega (arith, i.len, c.loop-i-test.true)) i.len i.rest quiet)
