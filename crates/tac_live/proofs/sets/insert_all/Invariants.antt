use Rattle.std.proofs.Common.{◌≡◌, ◌↔◌, ◌⊎◌, ℕ, length, take}
use Rattle.std.specs.List.{Contains}
use Rattle.ib_bits.specs.Bits.{Has}
use Rattle.tac_live.proofs.sets.insert_all.Given as goal

abbrev pub invariant-loop-reg : goal.invariant-loop-reg
invariant-loop-reg l = ((r : ℕ) → Has l.live r ↔ (Contains (take l.reg-index l.regs) r ⊎ Has l.fn.live r)) × (length l.live ≡ length l.fn.live)
