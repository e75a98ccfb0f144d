use Rattle.std.proofs.Common.{◌∙◌, ◌∷◌, sym, ap, length, map, pos, arith}
use Rattle.wide_core.specs.declared.code.Loc.TheVariants.{Reg}
use Rattle.wide_core.specs.declared.code.Tagged.TheVariants.{Clear}
use Rattle.wide_core.specs.Tagged.{number_of}
use Rattle.wide_sim.specs.Store.{held}
use Rattle.wide_sim.proofs.Places.{pass_step, pass_end}
use Rattle.wide_sim.proofs.Plans.{arg_within}
use Rattle.wide_sim.proofs.frame.pass.Goals as goal

pub get-requires : goal.get-requires
get-requires c = arg_within (length c.args.caller.now.regs) (length c.args.caller.now.slots) c.args.args.now c.loop-i.i (omega (arith, c.requires.count)) c.requires.passed

pub loop-i-preserved : goal.loop-i-preserved
loop-i-preserved c =
    let numbers = map (λ r. number_of (held (Clear (pos 0)) c.args.caller.now (Reg r))) in
    record {
      places = pass_step c.args.params.now c.args.args.now numbers c.loop-i.i (Reg 0) 0 (number_of c.get.result) (held (Clear (pos 0)) c.loop-i.values) (held (Clear (pos 0)) c.pass_one.new.values) c.loop-i-test.true (omega (arith, c.requires.count))
          (λ rest. ap (λ v. number_of v ∷ numbers rest) (sym (c.get.ensures (Clear (pos 0))))) c.pass_one.ensures.places
          ∙ c.loop-i.invariant.places;
      regs = c.pass_one.ensures.regs ∙ c.loop-i.invariant.regs;
      slots = c.pass_one.ensures.slots ∙ c.loop-i.invariant.slots;
    }

pub returns-clause-places : goal.returns-clause-places
returns-clause-places c = sym (pass_end c.args.params.now _ c.loop-i.i (held (Clear (pos 0)) c.loop-i.values) (omega arith)) ∙ c.loop-i.invariant.places
