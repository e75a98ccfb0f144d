-- What is live before a block, from what is live behind it.
use Rattle.std.specs.Prelude.{◌⊎◌, ℕ, ◌<◌, List, slice_index_or, []}
use Rattle.std.specs.List.{All}
use Rattle.ib_act.specs.Acts.{first_source, second_source}
use Rattle.ib_bits.specs.Bits.{Has}
use Rattle.tac_core.specs.declared.code.TacOp.{TacOp}
use Rattle.tac_core.specs.declared.code.End.{End}
use Rattle.tac_core.specs.declared.code.End.TheVariants.{Jump, Branch, Call, Ret}
use Rattle.tac_core.specs.declared.code.Block.{Block}
use Rattle.tac_core.specs.Counts.{IsTargetOf}
use Rattle.tac_core.specs.Live.{EndReads, EndWrites, UsedIn, Passes}
use Rattle.tac_core.specs.Rules.{IsRegister}

-- the end reads it, or it is live behind the end, which does not define it
abbrev pub BeforeEnd : End → (behind : ℕ → Type 0) → ℕ → Type 0
BeforeEnd e behind r = EndReads e r ⊎ ((EndWrites e r → ⊥) × behind r)

-- the operations use it, or it is live behind them and none of them writes it
abbrev pub BeforeOps : List TacOp → (behind : ℕ → Type 0) → ℕ → Type 0
BeforeOps ops behind r = UsedIn r ops ⊎ (Passes r ops × behind r)

-- live before a block, from what is live behind it
abbrev pub LiveBefore : Block → (behind : ℕ → Type 0) → ℕ → Type 0
LiveBefore b behind r = BeforeOps b.ops (BeforeEnd b.«end» behind) r

-- a set of registers for each label
abbrev pub row : List (List ℕ) → ℕ → List ℕ
row rows l = slice_index_or rows l []

-- the set of the label holds the register
abbrev pub At : List (List ℕ) → (label reg : ℕ) → Type 0
At rows l r = Has (row rows l) r

-- live at a target of the end
abbrev pub LiveBehind : End → (live : ℕ → ℕ → Type 0) → ℕ → Type 0
LiveBehind e live r = (l : ℕ) × IsTargetOf e l × live l r

-- ---- the registers that are read are below n

pub record ReadsBelow (n : ℕ) (op : TacOp) : Type 0 where
  pub first : IsRegister n (first_source op.act)
  pub second : IsRegister n (second_source op.act)

abbrev pub EndReadsBelow : ℕ → End → Type 0
EndReadsBelow n (Jump l) = Unit {0}
EndReadsBelow n (Branch r y m) = r < n
EndReadsBelow n (Call d f args l) = All (λ a. a < n) args
EndReadsBelow n (Ret r) = IsRegister n r

pub record BlockReadsBelow (n : ℕ) (b : Block) : Type 0 where
  pub ops : All (ReadsBelow n) b.ops
  pub ends : EndReadsBelow n b.«end»
