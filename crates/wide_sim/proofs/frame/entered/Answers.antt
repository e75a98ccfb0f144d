use Rattle.std.proofs.Common.{ap, ◌∙◌, map, pos}
use Rattle.wide_core.specs.declared.code.Loc.TheVariants.{Reg}
use Rattle.wide_core.specs.declared.code.Tagged.TheVariants.{Clear}
use Rattle.wide_core.specs.Meaning.{put_all}
use Rattle.wide_core.specs.Tagged.{number_of}
use Rattle.wide_sim.specs.Store.{held}
use Rattle.wide_sim.proofs.Places.{put_none}
use Rattle.wide_sim.proofs.frame.entered.Goals as goal

pub returns : goal.returns
returns c =
    let numbers = map (λ r. number_of (held (Clear (pos 0)) c.args.caller.now (Reg r))) c.args.args.now in
    let f = c.in_ok-frame.ensures in
    record {
      func_is = f.func_is;
      base_is = f.base_is;
      first = f.first;
      places = c.pass.ensures.places
          ∙ ap (λ params. put_all params numbers (held (Clear (pos 0)) c.in_ok-frame.frame.values)) c.as_slice.ensures
          ∙ ap (λ places. put_all c.args.callee.now.params numbers places) (f.places ∙ put_none c.args.callee.now.params (λ loc. Clear (pos 0)));
      times = f.times;
      regs_is = c.pass.ensures.regs ∙ f.regs_is;
      slots_is = c.pass.ensures.slots ∙ f.slots_is;
      ready_regs = f.ready_regs;
      ready_slots = f.ready_slots;
    }
