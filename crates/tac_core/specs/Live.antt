-- Which registers are live at the start of a block.
use Rattle.std.specs.Prelude.{◌≡◌, ◌≢◌, ◌↔◌, ℕ, ◌⊎◌, List, ◌∷◌, Option, Some, None, slice_get}
use Rattle.std.specs.List.{All, Contains}
use Rattle.ib_act.specs.declared.act.Act.{Act}
use Rattle.tac_core.specs.declared.code.TacOp.{TacOp}
use Rattle.tac_core.specs.declared.code.End.{End}
use Rattle.tac_core.specs.declared.code.End.TheVariants.{Jump, Branch, Call, Ret}
use Rattle.tac_core.specs.declared.code.Block.{Block}
use Rattle.tac_core.specs.declared.code.TacFunc.{TacFunc}
use Rattle.ib_act.specs.Acts.{target, first_source, second_source}
use Rattle.ib_bits.specs.Bits.{Has}
use Rattle.tac_core.specs.Counts.{IsTargetOf}

abbrev pub Reads : Act → ℕ → Type 0
Reads act r = (first_source act ≡ Some r) ⊎ (second_source act ≡ Some r)

abbrev pub EndReads : End → ℕ → Type 0
EndReads (Jump l) r = ⊥
EndReads (Branch q y n) r = q ≡ r
EndReads (Call d f args l) r = Contains args r
EndReads (Ret q) r = q ≡ Some r

-- a call defines its destination before the next block runs
abbrev pub EndWrites : End → ℕ → Type 0
EndWrites (Call d f args l) r = d ≡ Some r
EndWrites end' r = ⊥

-- one of the operations reads the register, and none before that one writes it
pub data UsedIn (r : ℕ) : List TacOp → Type 0 where
  AtFirst : (op : TacOp) (ops : List TacOp) → Reads op.act r → UsedIn r (op ∷ ops)
  Later : (op : TacOp) (ops : List TacOp) → target op.act ≢ Some r → UsedIn r ops → UsedIn r (op ∷ ops)

-- none of the operations writes the register
abbrev pub Passes : (r : ℕ) → List TacOp → Type 0
Passes r ops = All (λ op. target op.act ≢ Some r) ops

-- a path from the block's start reaches a use of the register before a definition of it
pub data IsLive (f : TacFunc) (r : ℕ) : (label : ℕ) → Type 0 where
  UsedInside : (l : ℕ) (b : Block) → slice_get f.blocks l ≡ Some b → UsedIn r b.ops → IsLive f r l
  UsedAtEnd : (l : ℕ) (b : Block) → slice_get f.blocks l ≡ Some b → Passes r b.ops → EndReads b.«end» r → IsLive f r l
  UsedBehind : (l : ℕ) (b : Block) (next : ℕ) → slice_get f.blocks l ≡ Some b → Passes r b.ops → (EndWrites b.«end» r → ⊥) → IsTargetOf b.«end» next → IsLive f r next → IsLive f r l

-- a register is live at the label of a function that may be missing
abbrev pub IsLiveIn : Option TacFunc → (label reg : ℕ) → Type 0
IsLiveIn None label reg = ⊥
IsLiveIn (Some f) label reg = IsLive f reg label

-- the set of a label in a function
abbrev pub set_in : Option (List (List ℕ)) → (label : ℕ) → Option (List ℕ)
set_in None label = None
set_in (Some labels) label = slice_get labels label

abbrev pub Holds : Option (List ℕ) → (reg : ℕ) → Type 0
Holds None reg = ⊥
Holds (Some words) reg = Has words reg

-- the sets hold the register at the label
abbrev pub IsAt : List (List (List ℕ)) → (func label reg : ℕ) → Type 0
IsAt sets func label reg = Holds (set_in (slice_get sets func) label) reg

-- the sets hold a register at a label exactly where it is live there
abbrev pub AreLive : List TacFunc → List (List (List ℕ)) → Type 0
AreLive funcs sets = (func label reg : ℕ) → IsAt sets func label reg ↔ IsLiveIn (slice_get funcs func) label reg
