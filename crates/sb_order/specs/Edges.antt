-- What a schedule has to keep: the delays from each item to each later one.
use Rattle.std.specs.Prelude.{ℕ, Bool, true, false, ◌&&◌, not, List, [], ◌∷◌, Option, Some, None, if◌then◌else◌}
use Rattle.machine_desc.specs.declared.machine.OpClass.{OpClass}
use Rattle.wide_core.specs.declared.code.WideOp.{WideOp}
use Rattle.wide_core.specs.Accesses.{Base, Known, apart_at, base_in, learn, load_of, store_of}
use Rattle.wide_core.specs.Classes.{class_of, is_control, is_register}
use Rattle.wide_core.specs.Uses.{reads, in_list, is_target, written}
use Rattle.wide_core.specs.Flat.{at_exits}

-- an operation with what is known of its base
pub record Item : Type 0 where
  pub op : WideOp
  pub base : Base

abbrev pub items : Known → List WideOp → List Item
items k [] = []
items k (op ∷ ops) = record { op = op; base = base_in k (reads op.act) } ∷ items (learn op k) ops

-- the store a does not write what b loads
abbrev pub apart : Item → Item → Bool
apart a b = apart_at (store_of a.op.act) (load_of b.op.act) a.base b.base

-- ---- the eight rows: x, the items between, y

-- whatever is not a flagged register operation
abbrev pub is_member : Item → Bool
is_member i = not (i.op.flagged && is_register i.op.act)

abbrev pub no_member : List Item → Bool
no_member [] = true
no_member (i ∷ is) = not (is_member i) && no_member is

abbrev pub unwritten : ℕ → List Item → Bool
unwritten r [] = true
unwritten r (i ∷ is) = not (is_target (written i.op.act) r) && unwritten r is

-- a register is written by the one, and used by the other, and not written between
abbrev pub meet : Option ℕ → (uses : ℕ → Bool) → List Item → Bool
meet None uses between = false
meet (Some r) uses between = uses r && unwritten r between

pub record Row : Type 0 where
  pub holds : Bool
  pub delay : ℕ

-- `heads w r` says that r is live at the superblock whose first word is w; `one` is the version with one place for control
module _ (heads : ℕ → ℕ → Bool) (one : Bool) (latency : OpClass → ℕ) where
  abbrev pub rows : Item → List Item → Item → List Row
  rows x m y =
      let a = x.op.act in
      let b = y.op.act in
      record { holds = meet (written a) (λ r. in_list r (reads b)) m; delay = latency (class_of a) }
      ∷ record { holds = meet (written b) (λ r. in_list r (reads a)) m; delay = 0 }
      ∷ record { holds = meet (written a) (λ r. is_target (written b) r) m; delay = 1 }
      ∷ record { holds = not (apart x y); delay = 1 }
      ∷ record { holds = not (apart y x); delay = 0 }
      ∷ record { holds = is_member x && (is_member y && no_member m); delay = if is_control a && one then 1 else 0 }
      ∷ record { holds = meet (written b) (λ r. at_exits heads a r) []; delay = if one then 1 else 0 }
      ∷ record { holds = meet (written a) (λ r. at_exits heads b r) m; delay = 0 }
      ∷ []

  abbrev pub present : List Row → List ℕ
  present [] = []
  present (row ∷ more) = if row.holds then row.delay ∷ present more else present more

  abbrev pub delays : Item → List Item → Item → List ℕ
  delays x m y = present (rows x m y)
