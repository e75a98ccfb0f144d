-- Operands that need no code of their own.
use Rattle.std.specs.Prelude.{◌≡◌, ℕ, ◌+◌, Option, Some, None, Bool, true, MatchOption}
use Rattle.c_typed.specs.Tree as t
use Rattle.c_typed.specs.Tree.{Exp}
use Rattle.tac_lowered.specs.Code.{Code, nothing}
use Rattle.tac_lowered.specs.Expressions.{held, at, behind_operand}

-- the slot that an operand is read from where it lies, if nothing sets it before
abbrev pub own_slot : (is_kept : Bool) → Exp → Option ℕ
own_slot true (t.slot ty k) = Some k
own_slot is_kept e = None

-- With a slot of its own an operand needs no code, and else a register.
abbrev pub Held : Option ℕ → (is_kept : Bool) → Exp → Type 0
Held slot is_kept e =
    MatchOption slot
    ((code : Code) (r : ℕ) → (held is_kept e code ≡ code) × (at is_kept e r ≡ r) × (behind_operand is_kept e r ≡ r + 1))
    (λ k. (code : Code) (r : ℕ) → (held is_kept e code ≡ nothing) × (at is_kept e r ≡ k) × (behind_operand is_kept e r ≡ r))
