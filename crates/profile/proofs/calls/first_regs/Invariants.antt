use Rattle.std.proofs.Common.{◌≡◌, length, drop}
use Rattle.std.specs.Prelude.{Some}
use Rattle.tac_core.specs.Meaning.{set_all, first_regs}
use Rattle.profile.proofs.calls.first_regs.Given as goal

abbrev pub invariant-loop-i : goal.invariant-loop-i
invariant-loop-i l = (length l.regs ≡ l.fn.func.regs) × (set_all l.regs (drop l.i l.fn.func.params) (drop l.i l.fn.values) ≡ first_regs (Some l.fn.func) l.fn.values)
