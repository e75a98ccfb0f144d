-- The definitions on small superblocks.
use Rattle.std.proofs.Common.{◌≡◌, ℕ, ◌≤◌, lit<, Bool, true, false, List, [], ◌∷◌, Some, pos, refl, if◌then◌else◌, ◌==◌, ◌&&◌, not}
use Rattle.ib_meaning.specs.declared.place.Place.{Place}
use Rattle.ib_base.specs.declared.integers.Width.TheVariants.{W4}
use Rattle.ib_act.specs.declared.act.Size.TheVariants.{Four}
use Rattle.ib_act.specs.declared.act.Act.TheVariants.{Add, Div, Load, PutNumber}
use Rattle.machine_desc.specs.Machine.{four_units, four_latency}
use Rattle.wide_core.specs.declared.code.WideAct.{WideAct}
use Rattle.wide_core.specs.declared.code.WideAct.TheVariants.{Do, Check, Branch, Return}
use Rattle.wide_core.specs.declared.code.WideOp.{WideOp}
use Rattle.std.specs.Int.Signed.{le_z_yes}
use Rattle.machine_desc.specs.Laws.{four_is_table}
use Rattle.wide_core.specs.Word.{Flow, Through}
use Rattle.wide_core.specs.Flat.{run_words}
use Rattle.wide_core.specs.Every.{Nil, Cons}
use Rattle.wide_core.specs.Accesses.{at_head}
use Rattle.sb_order.specs.Superblock.{Plain, plain, checked, RisesNot, RisesBy}
use Rattle.sb_order.specs.Order.{IsSource, IsSuperblock, TheLast, NotLast, Invisible}
use Rattle.sb_order.proofs.Invisible.{invisible}
use Rattle.sb_order.specs.Edges.{Item, items, delays}
use Rattle.sb_order.specs.Schedule.{Starts, SameEvent, Spot, is_legal, is_tight, with_struck, scheduled}

abbrev here : Place
here = record { line = 1; col = 1 }

abbrev op : ℕ → Bool → WideAct → WideOp
op number flagged act = record { number = number; home = here; flagged = flagged; act = act }

abbrev o1 : WideOp
o1 = op 1 true (Do (Load W4 2 0 (pos 0)))

abbrev o2 : WideOp
o2 = op 2 false (Check 2)

abbrev o3 : WideOp
o3 = op 3 true (Do (Div Four 3 0 1))

abbrev o5 : WideOp
o5 = op 5 true (Do (Add Four 4 2 3))

abbrev o5' : WideOp
o5' = op 5 true (Do (Add Four 4 3 3))

abbrev o6 : WideOp
o6 = op 6 false (Do (PutNumber 4))

abbrev o7 : WideOp
o7 = op 7 false (Return (Some 0))

abbrev row_d : List WideOp
row_d = o1 ∷ o3 ∷ o5 ∷ o6 ∷ o7 ∷ []

abbrev row_e : List WideOp
row_e = o1 ∷ o3 ∷ o5' ∷ o6 ∷ o7 ∷ []

abbrev none : ℕ → ℕ → Bool
none w r = false

-- the delays of all pairs, those from each item to each later one
abbrev from : Item → List Item → List Item → List (List ℕ)
from x m [] = []
from x m (y ∷ ys) = delays none true four_latency x m y ∷ from x (y ∷ m) ys

abbrev table : List Item → List (List (List ℕ))
table [] = []
table (x ∷ xs) = from x [] xs ∷ table xs

d_checked : checked row_d ≡ row_d
d_checked = refl

d_edges : table (items at_head row_d) ≡ ([] ∷ (2 ∷ []) ∷ [] ∷ [] ∷ []) ∷ ((4 ∷ []) ∷ [] ∷ [] ∷ []) ∷ ((1 ∷ []) ∷ [] ∷ []) ∷ ((0 ∷ []) ∷ []) ∷ [] ∷ []
d_edges = refl

e_checked : checked row_e ≡ o1 ∷ o2 ∷ o3 ∷ o5' ∷ o6 ∷ o7 ∷ []
e_checked = refl

-- 1 to 2 is 2, 2 to 6 is 0, 1 to 5 is none
e_edges : table (items at_head (checked row_e)) ≡ ((2 ∷ []) ∷ [] ∷ [] ∷ [] ∷ [] ∷ []) ∷ ([] ∷ [] ∷ (0 ∷ []) ∷ [] ∷ []) ∷ ((4 ∷ []) ∷ [] ∷ [] ∷ []) ∷ ((1 ∷ []) ∷ [] ∷ []) ∷ ((0 ∷ []) ∷ []) ∷ [] ∷ []
e_edges = refl

e_struck : with_struck (λ n. true) row_e ≡ op 1 false (Do (Load W4 2 0 (pos 0))) ∷ o3 ∷ o5' ∷ o6 ∷ o7 ∷ []
e_struck = refl

-- ---- row F

abbrev spot : ℕ → ℕ → Spot
spot c s = record { cycle = c; slot = s }

abbrev spots : (p5 p6 p7 : Spot) → ℕ → Spot
spots p5 p6 p7 n = if n == 1 then spot 0 0 else (if n == 3 then spot 0 1 else (if n == 5 then p5 else (if n == 6 then p6 else p7)))

abbrev nothing_struck : ℕ → Bool
nothing_struck n = false

abbrev legal : (ℕ → Spot) → Bool
legal = is_legal none true 4 four_units four_latency row_d nothing_struck

abbrev tight : (ℕ → Spot) → Bool
tight = is_tight none true 4 four_units four_latency row_d nothing_struck

f1 : legal (spots (spot 4 0) (spot 5 0) (spot 5 1)) ≡ true
f1 = refl

f1_tight : tight (spots (spot 4 0) (spot 5 0) (spot 5 1)) ≡ true
f1_tight = refl

f2 : legal (spots (spot 4 0) (spot 4 1) (spot 5 1)) ≡ false
f2 = refl

f3 : legal (spots (spot 5 0) (spot 6 0) (spot 6 1)) ≡ true
f3 = refl

f3_tight : tight (spots (spot 5 0) (spot 6 0) (spot 6 1)) ≡ false
f3_tight = refl

f4 : legal (spots (spot 4 0) (spot 5 1) (spot 5 0)) ≡ false
f4 = refl

f_words : scheduled row_d nothing_struck (spots (spot 4 0) (spot 5 0) (spot 5 1)) ≡ (o1 ∷ o3 ∷ []) ∷ (o5 ∷ []) ∷ (o6 ∷ o7 ∷ []) ∷ []
f_words = refl

-- ---- the theorem on a row

-- all registers are live at each head
abbrev all : ℕ → ℕ → Bool
all w r = true

source_load : IsSource o1
source_load = record { item = refl; in_range = (le_z_yes tt, le_z_yes tt) }

source_div : IsSource o3
source_div = record { item = refl; in_range = tt }

source_add : IsSource o5
source_add = record { item = refl; in_range = tt }

source_print : IsSource o6
source_print = record { item = refl; in_range = tt }

source_return : IsSource o7
source_return = record { item = refl; in_range = tt }

d_superblock : IsSuperblock all 0 row_d
d_superblock = record {
  rises =
      RisesBy 0 o1 (o3 ∷ o5 ∷ o6 ∷ o7 ∷ []) (lit< tt) refl
      (RisesBy 2 o3 (o5 ∷ o6 ∷ o7 ∷ []) (lit< tt) refl (RisesBy 4 o5 (o6 ∷ o7 ∷ []) (lit< tt) refl (RisesBy 5 o6 (o7 ∷ []) (lit< tt) refl (RisesBy 6 o7 [] (lit< tt) refl (RisesNot 7)))));
  fits = record { fits = λ r e. refl };
  last = NotLast o1 (o3 ∷ o5 ∷ o6 ∷ o7 ∷ []) refl (NotLast o3 (o5 ∷ o6 ∷ o7 ∷ []) refl (NotLast o5 (o6 ∷ o7 ∷ []) refl (NotLast o6 (o7 ∷ []) refl (TheLast o7 refl))));
  sources = Cons o1 (o3 ∷ o5 ∷ o6 ∷ o7 ∷ []) source_load (Cons o3 (o5 ∷ o6 ∷ o7 ∷ []) source_div (Cons o5 (o6 ∷ o7 ∷ []) source_add (Cons o6 (o7 ∷ []) source_print (Cons o7 [] source_return Nil))));
}

d_invisible : (base : ℕ) → base ≤ 1048576 → (room : ℕ → Bool) (s : Flow) (u : Plain) → Starts all 0 s u → SameEvent all (run_words base room true ((o1 ∷ o3 ∷ []) ∷ (o5 ∷ []) ∷ (o6 ∷ o7 ∷ []) ∷ []) (λ t. Through t) s) (plain base room row_d u)
unfolding Invisible
d_invisible base low room s u st =
    invisible all true 4 32 four_units four_latency base room four_is_table low 0 row_d nothing_struck (spots (spot 4 0) (spot 5 0) (spot 5 1)) d_superblock refl s u st

-- ---- a load above a branch

abbrev b1 : WideOp
b1 = op 1 false (Branch 0 5)

abbrev b2 : WideOp
b2 = op 2 true (Do (Load W4 2 1 (pos 0)))

abbrev b4 : WideOp
b4 = op 4 false (Return (Some 2))

abbrev row_b : List WideOp
row_b = b1 ∷ b2 ∷ b4 ∷ []

-- register 2 is not live where the branch goes
abbrev but_two : ℕ → ℕ → Bool
but_two w r = not ((w == 5) && (r == 2))

abbrev above : ℕ → Spot
above n = if n == 2 then spot 0 0 else (if n == 1 then spot 0 1 else spot 2 0)

abbrev legal_above : (ℕ → ℕ → Bool) → Bool → Bool
legal_above heads one = is_legal heads one 4 four_units four_latency row_b nothing_struck above

above_legal : (one : Bool) → legal_above but_two one ≡ true
above_legal true = refl
above_legal false = refl

-- where it is live, the load may not go there
above_live : (one : Bool) → legal_above all one ≡ false
above_live true = refl
above_live false = refl

above_words : scheduled row_b nothing_struck above ≡ (b2 ∷ b1 ∷ []) ∷ (b4 ∷ []) ∷ []
above_words = refl

b_superblock : IsSuperblock but_two 0 row_b
b_superblock = record {
  rises = RisesBy 0 b1 (b2 ∷ b4 ∷ []) (lit< tt) refl (RisesBy 1 b2 (b4 ∷ []) (lit< tt) refl (RisesBy 3 b4 [] (lit< tt) refl (RisesNot 4)));
  fits = record { fits = λ r e. refl };
  last = NotLast b1 (b2 ∷ b4 ∷ []) refl (NotLast b2 (b4 ∷ []) refl (TheLast b4 refl));
  sources = Cons b1 (b2 ∷ b4 ∷ []) (record { item = refl; in_range = tt }) (Cons b2 (b4 ∷ []) (record { item = refl; in_range = (le_z_yes tt, le_z_yes tt) }) (Cons b4 [] (record { item = refl; in_range = tt }) Nil));
}

-- in both versions: where the branch leaves, nobody can tell that the load was done
b_invisible : (one : Bool) (base : ℕ) → base ≤ 1048576 → (room : ℕ → Bool) (s : Flow) (u : Plain) → Starts but_two 0 s u → SameEvent but_two (run_words base room one ((b2 ∷ b1 ∷ []) ∷ (b4 ∷ []) ∷ []) (λ t. Through t) s) (plain base room row_b u)
unfolding Invisible
b_invisible one base low room s u st =
    invisible but_two one 4 32 four_units four_latency base room four_is_table low 0 row_b nothing_struck above b_superblock (above_legal one) s u st
