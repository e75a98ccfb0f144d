use Rattle.std.proofs.Common.{◌≡◌, length, drop, map, pos}
use Rattle.wide_core.specs.declared.code.Loc.TheVariants.{Reg}
use Rattle.wide_core.specs.declared.code.Tagged.TheVariants.{Clear}
use Rattle.wide_core.specs.Meaning.{put_all}
use Rattle.wide_core.specs.Tagged.{number_of}
use Rattle.wide_sim.specs.Store.{held}
use Rattle.wide_sim.proofs.frame.pass.Given as goal

abbrev pub invariant-loop-i : goal.invariant-loop-i
invariant-loop-i l = record {
  places : put_all (drop l.i l.params) (map (λ r. number_of (held (Clear (pos 0)) l.caller (Reg r))) (drop l.i l.args)) (held (Clear (pos 0)) l.values) ≡ put_all l.params (map (λ r. number_of (held (Clear (pos 0)) l.caller (Reg r))) l.args) (held (Clear (pos 0)) l.initial.values);
  regs : length l.values.regs ≡ length l.initial.values.regs;
  slots : length l.values.slots ≡ length l.initial.values.slots;
}
