-- Orders of items that keep what depends on what, and the theorem of the schedule.
use Rattle.std.specs.Prelude.{◌≡◌, ℕ, ◌≤◌, Bool, true, false, List, [], ◌∷◌, ◌++◌, Some, FitsSigned}
use Rattle.std.specs.Int.{w64}
use Rattle.machine_desc.specs.declared.machine.OpClass.{OpClass}
use Rattle.machine_desc.specs.Machine.{IsTable}
use Rattle.ib_act.specs.declared.act.Act.TheVariants.{Const, FrameAddress, Load, Store}
use Rattle.ib_act.specs.Acts.{IsOffset}
use Rattle.wide_core.specs.Classes.{is_register, ends}
use Rattle.wide_core.specs.declared.code.WideAct.{WideAct}
use Rattle.wide_core.specs.declared.code.WideAct.TheVariants.{Do}
use Rattle.wide_core.specs.declared.code.WideOp.{WideOp}
use Rattle.wide_core.specs.Word.{Flow, Through}
use Rattle.wide_core.specs.Uses.{reads, in_list, is_item, is_target, written}
use Rattle.wide_core.specs.Flat.{at_exits, flat, run_words, joined}
use Rattle.wide_core.specs.Every.{Every}
use Rattle.sb_order.specs.Superblock.{Plain, plain, FitsLive, Rises}
use Rattle.sb_order.specs.Edges.{Item, apart, is_member}
use Rattle.sb_order.specs.Schedule.{Spot, is_legal, scheduled, SameEvent, Starts}

-- two items that may change places
pub record Free (heads : ℕ → ℕ → Bool) (a b : Item) : Type 0 where
  pub read_by : (r : ℕ) → written a.op.act ≡ Some r → in_list r (reads b.op.act) ≡ false
  pub reads_of : (r : ℕ) → written b.op.act ≡ Some r → in_list r (reads a.op.act) ≡ false
  pub differ : (r : ℕ) → written a.op.act ≡ Some r → is_target (written b.op.act) r ≡ false
  pub spares : (r : ℕ) → written a.op.act ≡ Some r → at_exits heads b.op.act r ≡ false
  pub spared : (r : ℕ) → written b.op.act ≡ Some r → at_exits heads a.op.act r ≡ false
  pub store_load : apart a b ≡ true
  pub load_store : apart b a ≡ true
  pub mobile : is_member a ≡ true → is_member b ≡ false

-- the second list is the first in another order, in which all that are not free keep their places
pub data Keeps (heads : ℕ → ℕ → Bool) : List Item → List Item → Type 0 where
  Empty : Keeps heads [] []
  Bring : (i : Item) (is xs ys : List Item) → Every (λ (a : Item). Free heads a i) xs → Keeps heads is (xs ++ ys) → Keeps heads (i ∷ is) (xs ++ i ∷ ys)

-- ---- the theorem: sentinel scheduling is invisible

pub data EndsLast : List WideOp → Type 0 where
  TheLast : (op : WideOp) → ends op.act ≡ true → EndsLast (op ∷ [])
  NotLast : (op : WideOp) (ops : List WideOp) → ends op.act ≡ false → EndsLast ops → EndsLast (op ∷ ops)

-- numbers that an operation holds: an access's offset is within 2 ^ 20 of 0, since two disjoint ranges may else overlap
-- once their addresses wrap; constants and a frame's offsets are signed numbers of 64 bits
abbrev pub InRange : WideAct → Type 0
InRange (Do (Const to value)) = FitsSigned w64 value
InRange (Do (FrameAddress to offset)) = FitsSigned w64 offset
InRange (Do (Load width to base offset)) = IsOffset offset
InRange (Do (Store width base offset from)) = IsOffset offset
InRange act = Unit {0}

pub record IsOperation (op : WideOp) : Type 0 where
  pub item : is_item op.act ≡ true
  pub flag : op.flagged ≡ true → is_register op.act ≡ true
  pub in_range : InRange op.act

-- neither a spill nor a reload, and a call's result goes to a register
pub record IsSource (op : WideOp) : Type 0 where
  pub item : is_item op.act ≡ true
  pub in_range : InRange op.act

pub record IsSuperblock (heads : ℕ → ℕ → Bool) (head : ℕ) (ops : List WideOp) : Type 0 where
  pub rises : Rises 0 ops
  pub fits : FitsLive heads head ops
  pub last : EndsLast ops
  pub sources : Every IsSource ops

-- over the items one after the other, in a frame that begins in memory: what the simulation of allocation begins with
unfoldable pub FlatInvisible : (heads : ℕ → ℕ → Bool) (one : Bool) (width regs : ℕ) (units latency : OpClass → ℕ) (base : ℕ) (room : ℕ → Bool) → Type 0
FlatInvisible heads one width regs units latency base room =
    IsTable width regs units latency → base ≤ 1048576 → (head : ℕ) (ops : List WideOp) (struck : ℕ → Bool) (spot : ℕ → Spot) → IsSuperblock heads head ops → is_legal heads one width units latency ops struck spot ≡ true
    → (s : Flow) (u : Plain) → Starts heads head s u → SameEvent heads (flat base room (joined (scheduled ops struck spot)) s) (plain base room ops u)

-- over the words
unfoldable pub Invisible : (heads : ℕ → ℕ → Bool) (one : Bool) (width regs : ℕ) (units latency : OpClass → ℕ) (base : ℕ) (room : ℕ → Bool) → Type 0
Invisible heads one width regs units latency base room =
    IsTable width regs units latency → base ≤ 1048576 → (head : ℕ) (ops : List WideOp) (struck : ℕ → Bool) (spot : ℕ → Spot) → IsSuperblock heads head ops → is_legal heads one width units latency ops struck spot ≡ true
    → (s : Flow) (u : Plain) → Starts heads head s u → SameEvent heads (run_words base room one (scheduled ops struck spot) (λ t. Through t) s) (plain base room ops u)
