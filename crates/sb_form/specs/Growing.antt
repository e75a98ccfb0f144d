-- How numbered items and superblocks grow.
use Rattle.std.specs.Prelude.{◌≡◌, ℕ, ◌<◌, List, [], ◌∷◌, ◌++◌, map, Some, slice_get, if◌then◌else◌}
use Rattle.std.specs.List.{All}
use Rattle.ib_act.specs.Acts.{HasGoodNumber}
use Rattle.ib_meaning.specs.declared.place.Place.{Place}
use Rattle.wide_core.specs.declared.code.WideAct.{WideAct}
use Rattle.wide_core.specs.declared.code.WideOp.{WideOp}
use Rattle.wide_core.specs.Classes.{traps}
use Rattle.wide_core.specs.Every.{Every}
use Rattle.tac_core.specs.declared.code.Block.{Block}
use Rattle.tac_core.specs.declared.code.TacFunc.{TacFunc}
use Rattle.tac_core.specs.Traces.{Labels}
use Rattle.sb_order.specs.Order.{InRange}
use Rattle.sb_core.specs.Facts.{IsStraight}
use Rattle.sb_core.specs.Program.{SuperblockCode}
use Rattle.sb_formed.specs.Formed.{Draft, Drafted, numbered, number_behind, all_numbered, chain_drafts}

abbrev pub act_drafts : Place → List WideAct → List Draft
act_drafts home acts = map (λ act. record { home = home; act = act }) acts

abbrev pub HasGoodNumbers : Block → Type 0
HasGoodNumbers b = All (λ op. HasGoodNumber op.act) b.ops

abbrev pub AreInRange : List WideOp → Type 0
AreInRange items = Every (λ (op : WideOp). InRange op.act) items

-- how many numbers an operation takes: its own and, where it traps, that of its check
abbrev pub taken : WideAct → ℕ
taken act = if traps act then 2 else 1

-- items, with these behind them, numbered from where the old ones end
pub record Grown (ds : List Draft) (from : ℕ) (old : List WideOp) (to : ℕ) (new : List WideOp) : Type 0 where
  pub items : new ≡ old ++ numbered from ds
  pub next : to ≡ number_behind from ds
  pub ranges : AreInRange old → AreInRange new

-- items that lack the rest of what is to stand behind the old ones
pub record Lacks (rest whole : List Draft) (from : ℕ) (old : List WideOp) (to : ℕ) (new : List WideOp) : Type 0 where
  pub items : new ++ numbered to rest ≡ old ++ numbered from whole
  pub next : number_behind to rest ≡ number_behind from whole
  pub ranges : AreInRange old → AreInRange new

-- ---- superblocks

-- the number behind all of them
abbrev pub all_behind : ℕ → List Drafted → ℕ
all_behind n [] = n
all_behind n (d ∷ ds) = all_behind (number_behind n d.drafts) ds

abbrev pub AreAllInRange : List SuperblockCode → Type 0
AreAllInRange all = Every (λ (b : SuperblockCode). AreInRange b.items) all

-- superblocks, with these behind them
pub record GrownBy (ds : List Drafted) (from : ℕ) (old : List SuperblockCode) (to : ℕ) (new : List SuperblockCode) : Type 0 where
  pub all : new ≡ old ++ all_numbered from ds
  pub next : to ≡ all_behind from ds
  pub ranges : AreAllInRange old → AreAllInRange new

-- superblocks that lack the rest
pub record LacksBy (rest whole : List Drafted) (to : ℕ) (new : List SuperblockCode) : Type 0 where
  pub all : new ++ all_numbered to rest ≡ all_numbered 1 whole
  pub positive : 0 < to
  pub ranges : AreAllInRange new

-- wherever its numbers begin, the chain gives what a superblock has to keep
abbrev pub GivesStraight : List Place → TacFunc → Labels → Type 0
GivesStraight places f [] = Unit {0}
GivesStraight places f (l ∷ ls) = (n : ℕ) → 0 < n → AreInRange (numbered n (chain_drafts places f (l ∷ ls))) → IsStraight (numbered n (chain_drafts places f (l ∷ ls)))

-- a function whose operations' numbers are in range
abbrev pub HasGoodOps : TacFunc → Type 0
HasGoodOps f = (l : ℕ) (b : Block) → slice_get f.blocks l ≡ Some b → HasGoodNumbers b
