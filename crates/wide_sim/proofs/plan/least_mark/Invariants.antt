use Rattle.std.proofs.Common.{◌≡◌, ◌≤◌, length, drop, map, pos}
use Rattle.wide_core.specs.Tagged.{least_mark}
use Rattle.wide_core.specs.declared.code.Loc.TheVariants.{Reg}
use Rattle.wide_core.specs.declared.code.Tagged.TheVariants.{Clear}
use Rattle.wide_sim.specs.Store.{held}
use Rattle.wide_sim.proofs.plan.least_mark.Given as goal

abbrev pub invariant-loop-behind : goal.invariant-loop-behind
invariant-loop-behind l =
    (l.behind ≤ length l.regs) × (l.least ≡ least_mark (map (held (Clear (pos 0)) l.values) (map (λ r. Reg r) (drop l.behind l.regs))))

abbrev pub decreases-loop-behind : goal.decreases-loop-behind
decreases-loop-behind l = l.behind
