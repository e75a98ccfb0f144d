use Rattle.std.proofs.Common.{refl, sym, ap, ◌∙◌, length, pos}
use Rattle.std.proofs.lemmas.List.{length-replicate}
use Rattle.wide_core.specs.declared.code.Tagged.TheVariants.{Clear}
use Rattle.wide_sim.proofs.Places.{filled_held, put_none}
use Rattle.wide_sim.proofs.frame.fresh.Goals as goal

pub returns : goal.returns
returns c =
    let slots = c.args.callee.now.slots in
    let v = c.in_ok-values.ensures in
    let r = c.in_ok-ready.ensures in
    record {
      func_is = refl;
      base_is = refl;
      first = refl;
      places = filled_held (Clear (pos 0)) c.args.regs slots c.in_ok-values.values v.regs v.slots ∙ sym (put_none c.args.callee.now.params (λ loc. Clear (pos 0)));
      times = filled_held 0 c.args.regs slots c.in_ok-ready.ready r.regs r.slots;
      regs_is = ap length v.regs ∙ length-replicate c.args.regs (Clear (pos 0));
      slots_is = ap length v.slots ∙ length-replicate slots (Clear (pos 0));
      ready_regs = ap length r.regs ∙ length-replicate c.args.regs 0;
      ready_slots = ap length r.slots ∙ length-replicate slots 0;
    }
