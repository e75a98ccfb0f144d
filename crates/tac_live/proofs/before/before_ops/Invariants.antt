use Rattle.std.proofs.Common.{◌≡◌, ◌↔◌, ◌≤◌, ℕ, length, drop}
use Rattle.ib_bits.specs.Bits.{Has}
use Rattle.tac_live.specs.Before.{BeforeOps}
use Rattle.tac_live.proofs.before.before_ops.Given as goal

abbrev pub invariant-loop-left : goal.invariant-loop-left
invariant-loop-left l = ((r : ℕ) → Has l.live r ↔ BeforeOps (drop l.left l.ops) (Has l.fn.live) r) × (length l.live ≡ length l.fn.live) × (l.left ≤ length l.ops)

abbrev pub decreases-loop-left : goal.decreases-loop-left
decreases-loop-left l = l.left
