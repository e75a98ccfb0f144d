-- What superblocks keep, and what a program of them keeps.
use Rattle.std.specs.Prelude.{◌≡◌, ◌↔◌, ℕ, ◌<◌, Bool, true, false, ◌||◌, ◌&&◌, ◌==◌, nat_lt, List, [], ◌∷◌, length, Option, Some, None, slice_get}
use Rattle.std.specs.List.{list_any}
use Rattle.wide_core.specs.declared.code.WideAct.{WideAct}
use Rattle.wide_core.specs.declared.code.WideAct.TheVariants.{Do, Check, Jump, Branch, BranchZero, Call}
use Rattle.wide_core.specs.declared.code.WideOp.{WideOp}
use Rattle.wide_core.specs.Every.{Every}
use Rattle.wide_core.specs.Uses.{is_item}
use Rattle.ib_act.specs.Acts.{HasGoodNumber}
use Rattle.tac_core.specs.declared.code.TacFunc.{TacFunc}
use Rattle.tac_core.specs.Live.{IsLive}
use Rattle.tac_core.specs.Rules.{Takes}
use Rattle.sb_order.specs.Superblock.{FitsLive, Rises}
use Rattle.sb_order.specs.Order.{EndsLast, InRange}
use Rattle.sb_core.specs.Program.{SuperblockCode, is_of, all_items}

-- ---- of a superblock

-- an operation of source code: no check, and nothing that touches a slot
abbrev pub is_source : WideAct → Bool
is_source (Check from) = false
is_source act = is_item act

-- numbers rise, each number behind a trapping operation is free, exactly the register operations are flagged, none is a
-- check, and the last item, and no other, always leaves
pub record IsStraight (items : List WideOp) : Type 0 where
  pub rises : Rises 0 items
  pub sources : Every (λ (op : WideOp). is_source op.act ≡ true) items
  pub in_range : Every (λ (op : WideOp). InRange op.act) items
  pub last : EndsLast items

-- ---- of a program

-- the test tells which registers are live at the labels of the function
abbrev pub TellsLive : TacFunc → (ℕ → ℕ → Bool) → Type 0
TellsLive f heads = (l r : ℕ) → (heads l r ≡ true) ↔ IsLive f r l

-- what the superblock needs is live at its head
abbrev pub FitsFunc : Option TacFunc → SuperblockCode → Type 0
FitsFunc None b = ⊥
FitsFunc (Some f) b = (heads : ℕ → ℕ → Bool) → TellsLive f heads → FitsLive heads b.head b.items

-- the function has a superblock with this head
abbrev pub is_head : List SuperblockCode → (func label : ℕ) → Bool
is_head all func label = list_any (is_of func label) all

-- where it leads within its function, a head is
abbrev pub leads_to_heads : (is_head : ℕ → Bool) → WideAct → Bool
leads_to_heads is_head (Jump to) = is_head to
leads_to_heads is_head (Branch from to) = is_head to
leads_to_heads is_head (BranchZero from to) = is_head to
leads_to_heads is_head (Call result func next args) = is_head next
leads_to_heads is_head act = true

-- a called function is there and takes the arguments; offsets and bounds are in range
abbrev pub IsGood : List TacFunc → WideAct → Type 0
IsGood funcs (Do act) = HasGoodNumber act
IsGood funcs (Call result func next args) = Takes funcs func (length args)
IsGood funcs act = Unit {0}

pub record IsSuperblockOf (funcs : List TacFunc) (all : List SuperblockCode) (b : SuperblockCode) : Type 0 where
  pub straight : IsStraight b.items
  pub fits : FitsFunc (slice_get funcs b.func) b
  pub targets : Every (λ (op : WideOp). leads_to_heads (is_head all b.func) op.act ≡ true) b.items
  pub good : Every (λ (op : WideOp). IsGood funcs op.act) b.items

-- by function, then by head
abbrev pub stands_before : (a b : SuperblockCode) → Bool
stands_before a b = nat_lt a.func b.func || ((a.func == b.func) && nat_lt a.head b.head)

-- each stands before all later ones
pub data InOrder : List SuperblockCode → Type 0 where
  OrderedNone : InOrder []
  OrderedBy : (b : SuperblockCode) (bs : List SuperblockCode) → Every (λ c. stands_before b c ≡ true) bs → InOrder bs → InOrder (b ∷ bs)

-- each function's entry is a head, superblocks stand by function and rising head, and numbers rise over all of them
pub record AreSuperblocks (funcs : List TacFunc) (all : List SuperblockCode) : Type 0 where
  pub entries : (f : ℕ) → f < length funcs → is_head all f 0 ≡ true
  pub order : InOrder all
  pub rises : Rises 0 (all_items all)
  pub each : Every (IsSuperblockOf funcs all) all
