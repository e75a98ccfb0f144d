-- The items that an emitter's blocks were made of, and how code adds to them.
use Rattle.std.specs.Prelude.{◌≡◌, ℕ, suc, List, [], ◌∷◌, ◌++◌, length, if◌then◌else◌}
use Rattle.tac_core.specs.declared.code.TacOp.{TacOp}
use Rattle.tac_core.specs.declared.code.Block.{Block}
use Rattle.tac_core.specs.declared.code.End.TheVariants.{Jump}
use Rattle.tac_lowered.specs.Code as plain
use Rattle.tac_lowered.specs.Items as i
use Rattle.tac_lowered.specs.Items.{Item, Do, Close, Open, is_full, items, test_items, own_items}
use Rattle.tac_lowered.specs.Lowered.{registers}
use Rattle.tac_lowered.proofs.Geometry.{run}
use Rattle.tac_emit.specs.declared.survey.Targets.{Targets}
use Rattle.tac_emit.specs.declared.emitter.Emitter.{Emitter}
use Rattle.tac_emit.specs.declared.ways.Loop.{Loop}
use Rattle.tac_emit.specs.declared.ways.Next.{Next}
use Rattle.tac_emit.specs.declared.ways.Next.TheVariants as n
use Rattle.tac_emit.specs.Extents.{targets, targets_test}

abbrev pub loop_of : Loop → i.Loop
loop_of x = record { on_break = x.on_break; on_continue = x.on_continue }

abbrev pub next_of : Next → i.Next
next_of n.Onward = i.onward
next_of (n.Jump s l) = i.jump s l

abbrev pub dos : List TacOp → List Item
dos [] = []
dos (op ∷ ops) = Do op.stmt op.act ∷ dos ops

abbrev pub flat : List Block → List TacOp → List Item
flat [] ops = dos ops
flat (b ∷ bs) ops = dos b.ops ++ (Close b.end_stmt b.«end» ∷ flat bs ops)

abbrev pub items_in : Emitter → List Item
items_in e = flat e.blocks e.ops

abbrev pub open_in : Emitter → Open
open_in e = record { label = length e.blocks; count = length e.ops }

-- a full block goes on in the next
abbrev pub full_end : (s : ℕ) → Open → List Item
full_end s o = if is_full o then Close s (Jump (suc o.label)) ∷ [] else []

-- grown by these items, with these targets left
pub record Emits (a b : Emitter) (is : List Item) (rest : List Targets) : Type 0 where
  pub grown : items_in b ≡ items_in a ++ is
  pub opened : open_in b ≡ run (open_in a) is
  pub regs : b.regs ≡ registers is a.regs
  pub left : b.targets.now ≡ rest

abbrev pub Adds : (a b : Emitter) → List Item → Type 0
Adds a b is = Emits a b is a.targets.now

-- Where the next targets are these, they are used, and the items are added.
abbrev pub EmitsFrom : (a b : Emitter) → List Targets → List Item → Type 0
EmitsFrom a b ts is = (rest : List Targets) → a.targets.now ≡ ts ++ rest → Emits a b is rest

abbrev pub EmitsCode : (a b : Emitter) → plain.Code → i.Loop → i.Next → Type 0
EmitsCode a b code x n = EmitsFrom a b (targets code (open_in a)) (items code x n (open_in a))

abbrev pub EmitsOwned : (a b : Emitter) → plain.Code → i.Loop → i.Next → Type 0
EmitsOwned a b code x n = EmitsFrom a b (targets code (open_in a)) (own_items code (items code x n (open_in a)))

abbrev pub EmitsTest : (a b : Emitter) → plain.Test → (there other : ℕ) → Type 0
EmitsTest a b t there other = EmitsFrom a b (targets_test t (open_in a)) (test_items t there other (open_in a))

-- the next targets are taken, where there are any
pub record Takes (a b : Emitter) (m : Targets) (rest : List Targets) : Type 0 where
  pub same : items_in b ≡ items_in a
  pub opened : open_in b ≡ open_in a
  pub regs : b.regs ≡ a.regs
  pub left : b.targets.now ≡ rest

abbrev pub TakesNext : (a b : Emitter) → Targets → Type 0
TakesNext a b got = (m : Targets) (rest : List Targets) → a.targets.now ≡ m ∷ rest → (got ≡ m) × Takes a b m rest
