-- What is known of the addresses that operations reach, and which accesses do not overlap.
use Rattle.std.specs.Prelude.{ℕ, Bool, true, false, ◌&&◌, ◌||◌, ◌==◌, List, [], ◌∷◌, Option, Some, None, if◌then◌else◌, ℤ, pos, ◌+ℤ◌, int_le}
use Rattle.ib_act.specs.declared.act.Act.TheVariants.{Const, FrameAddress, Load, Store}
use Rattle.ib_act.specs.Acts.{bytes_in}
use Rattle.wide_core.specs.declared.code.WideAct.{WideAct}
use Rattle.wide_core.specs.declared.code.WideAct.TheVariants.{Do}
use Rattle.wide_core.specs.declared.code.WideOp.{WideOp}
use Rattle.wide_core.specs.Uses.{is_target, written}

-- ---- what is known of a base: a number from a root on

-- all constants have one root, all frame addresses another; any other value is its own
pub data Root : Type 0 where
  Number : Root
  Frame : Root
  Reaching : (definition register : ℕ) → Root

pub record Base : Type 0 where
  pub root : Root
  pub from : ℤ

abbrev pub Known : Type 0
Known = ℕ → Base

abbrev pub of_definition : (definition register : ℕ) → Base
of_definition n r = record { root = Reaching n r; from = pos 0 }

-- items' numbers begin with 1
abbrev pub at_head : Known
at_head r = of_definition 0 r

abbrev pub given_by : WideAct → (definition register : ℕ) → Base
given_by (Do (Const to v)) n r = record { root = Number; from = v }
given_by (Do (FrameAddress to o)) n r = record { root = Frame; from = o }
given_by act n r = of_definition n r

abbrev pub learn : WideOp → Known → Known
learn op k r = if is_target (written op.act) r then given_by op.act op.number r else k r

abbrev pub base_in : Known → List ℕ → Base
base_in k [] = of_definition 0 0
base_in k (r ∷ rs) = k r

-- ---- accesses that do not overlap

pub record Access : Type 0 where
  pub offset : ℤ
  pub bytes : ℕ

abbrev pub store_of : WideAct → Option Access
store_of (Do (Store width to offset from)) = Some (record { offset = offset; bytes = bytes_in width })
store_of act = None

abbrev pub load_of : WideAct → Option Access
load_of (Do (Load width to from offset)) = Some (record { offset = offset; bytes = bytes_in width })
load_of act = None

abbrev pub same_root : Root → Root → Bool
same_root Number Number = true
same_root Frame Frame = true
same_root (Reaching n r) (Reaching m q) = (n == m) && (r == q)
same_root x y = false

abbrev pub disjoint : (a : ℤ) (m : ℕ) (b : ℤ) (n : ℕ) → Bool
disjoint a m b n = int_le (a +ℤ pos m) b || int_le (b +ℤ pos n) a

abbrev pub apart_at : Option Access → Option Access → Base → Base → Bool
apart_at (Some s) (Some l) x y = same_root x.root y.root && disjoint (x.from +ℤ s.offset) s.bytes (y.from +ℤ l.offset) l.bytes
apart_at s l x y = true
