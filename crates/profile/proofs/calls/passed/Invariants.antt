use Rattle.std.proofs.Common.{◌≡◌, take}
use Rattle.std.specs.Prelude.{map}
use Rattle.tac_core.specs.Meaning.{reg_of}
use Rattle.profile.proofs.calls.passed.Given as goal

abbrev pub invariant-loop-register : goal.invariant-loop-register
invariant-loop-register l = l.values ≡ map (reg_of l.fn.regs) (take l.register-index l.fn.args)
