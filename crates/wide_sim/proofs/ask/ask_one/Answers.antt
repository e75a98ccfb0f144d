use Rattle.std.proofs.Common.{refl, sym, subst, rules}
use Rattle.wide_sim.specs.declared.planned.Planned.{Planned}
use Rattle.wide_sim.specs.declared.planned.Planned.TheVariants.{Take, PutByte, PutNumber}
use Rattle.wide_sim.specs.Effects.{AskedOne, text_of}
use Rattle.wide_sim.proofs.Asks.{byte_printed, number_printed, nothing_printed, others_asked, printed_some, some_of, taken_asked}
use Rattle.wide_sim.proofs.ask.ask_one.Goals as goal

pub returns-in-Ok-clause-ok : goal.returns-in-Ok-clause-ok
returns-in-Ok-clause-ok g c =
    let before = g.H.Host.world c.args.host.now in
    let after = g.H.Host.world c.get_byte.new.self in
    subst (λ (f : Planned). AskedOne f c.taken.result before after) (sym c.in-Take.is)
    (subst (λ (h : Planned). AskedOne (Take c.in-Take.to) h before after) (sym c.taken.ensures)
    (taken_asked c.in-Take.to c.in-Ok.byte before after c.in-Ok.ensures.ok))

pub returns-in-Ok-put-clause-ok : goal.returns-in-Ok-put-clause-ok
returns-in-Ok-put-clause-ok g c =
    byte_printed c.args.effect c.in-PutByte.byte (g.H.Host.world c.args.host.now) (g.H.Host.world c.put.new.self) c.in-PutByte.is c.in-Ok-put.ensures.ok

pub returns-in-Ok-put-2-clause-ok : goal.returns-in-Ok-put-2-clause-ok
returns-in-Ok-put-2-clause-ok g c = number_printed c.args.effect c.in-PutNumber.number (g.H.Host.world c.args.host.now) _ c.in-PutNumber.is (search rules)

pub returns-in_default : goal.returns-in_default
returns-in_default g c = record {
  ok = others_asked c.args.effect (g.H.Host.world c.args.host.now) c.in_default.not-Take c.in_default.not-PutByte c.in_default.not-PutNumber;
  err = tt;
  asks = tt;
  quiet = λ quiet. refl;
  cause = search rules;
  still_sure = λ s. s;
  never = search rules;
}

pub returns-in-Err-clause-err : goal.returns-in-Err-clause-err
returns-in-Err-clause-err g c =
    nothing_printed (text_of c.args.effect) (g.H.Host.world c.args.host.now) (g.H.Host.world c.get_byte.new.self) c.in-Err.ensures.err

pub returns-in-Err-put-clause-err : goal.returns-in-Err-put-clause-err
returns-in-Err-put-clause-err g c =
    let before = g.H.Host.world c.args.host.now in
    let after = g.H.Host.world c.put.new.self in
    some_of c.args.effect (PutByte c.in-PutByte.byte) before after c.in-PutByte.is (printed_some before after (text_of (PutByte c.in-PutByte.byte)) _ refl c.in-Err-put.ensures.err)

pub returns-in-Err-put-2-clause-err : goal.returns-in-Err-put-2-clause-err
returns-in-Err-put-2-clause-err g c =
    let before = g.H.Host.world c.args.host.now in
    let after = g.H.Host.world c.put-in-PutNumber.new.self in
    some_of c.args.effect (PutNumber c.in-PutNumber.number) before after c.in-PutNumber.is (printed_some before after (text_of (PutNumber c.in-PutNumber.number)) _ (search rules) c.in-Err-put-2.ensures.err)
