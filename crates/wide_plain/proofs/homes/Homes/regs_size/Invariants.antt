use Rattle.std.proofs.Common.{◌≡◌, ◌≤◌, ◌+◌, drop}
use Rattle.wide_plain.specs.Sizes.{regs_size}
use Rattle.wide_plain.proofs.homes.Homes.regs_size.Given as goal

abbrev pub invariant-loop-reg : goal.invariant-loop-reg
invariant-loop-reg l = (l.size ≤ l.reg-index) × (l.size + regs_size l.self.low (drop l.reg-index l.regs) ≡ regs_size l.self.low l.regs)
