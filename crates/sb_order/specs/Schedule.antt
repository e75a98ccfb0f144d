-- Legal and tight spots, and the words that they give.
use Rattle.std.specs.Prelude.{◌≡◌, ℕ, zero, suc, ◌+◌, ◌≤◌, length, Bool, true, false, ◌&&◌, ◌||◌, not, ◌==◌, nat_le, nat_lt, List, [], ◌∷◌, ◌++◌, if◌then◌else◌, ℤ}
use Rattle.ib_meaning.specs.declared.fault.FaultKind.{FaultKind}
use Rattle.machine_desc.specs.declared.machine.OpClass.{OpClass}
use Rattle.machine_desc.specs.declared.machine.OpClass.TheVariants.{Alu, Mul, Mem, Io, Control}
use Rattle.wide_core.specs.declared.code.Loc.TheVariants.{Reg}
use Rattle.wide_core.specs.declared.code.Tagged.TheVariants.{Clear}
use Rattle.wide_core.specs.declared.code.WideOp.{WideOp}
use Rattle.wide_core.specs.Classes.{class_of, is_control}
use Rattle.wide_core.specs.Operation.{Exit}
use Rattle.wide_core.specs.Word.{Flow, Outcome, Through, Gone, Left, Stopped}
use Rattle.wide_core.specs.Flat.{at_exit}
use Rattle.wide_core.specs.Accesses.{at_head}
use Rattle.sb_order.specs.Superblock.{Plain, Event, End, ByExit, ByReturn, ByFault, checked, checks_of, needs_check}
use Rattle.sb_order.specs.Edges.{Item, items, Row, rows}

-- ---- the items: in place of a struck check its operation without the flag

abbrev pub unflagged : WideOp → WideOp
unflagged op = record op { flagged = false }

abbrev pub with_struck : (struck : ℕ → Bool) → List WideOp → List WideOp
with_struck struck [] = []
with_struck struck (op ∷ ops) =
    if needs_check op (checked ops) && struck op.number then unflagged op ∷ with_struck struck ops
    else op ∷ (checks_of op (checked ops) ++ with_struck struck ops)

pub record Spot : Type 0 where
  pub cycle : ℕ
  pub slot : ℕ

abbrev pub same_class : OpClass → OpClass → Bool
same_class Alu Alu = true
same_class Mul Mul = true
same_class Mem Mem = true
same_class Io Io = true
same_class Control Control = true
same_class a b = false

abbrev pub every : {A : Type 0} → (A → Bool) → List A → Bool
every test [] = true
every test (x ∷ xs) = test x && every test xs

abbrev pub some_below : ℕ → (ℕ → Bool) → Bool
some_below zero test = false
some_below (suc n) test = test n || some_below n test

module _ (heads : ℕ → ℕ → Bool) (one : Bool) (width : ℕ) (units latency : OpClass → ℕ) where
  -- ---- an item at a spot, an earlier one at another
  abbrev pub holds_at : Spot → Spot → Row → Bool
  holds_at p q row = not row.holds || (nat_le (p.cycle + row.delay) q.cycle && (not (p.cycle == q.cycle) || nat_lt p.slot q.slot))

  abbrev pub kept : Spot → Spot → List Row → Bool
  kept p q [] = true
  kept p q (row ∷ more) = holds_at p q row && kept p q more

  abbrev pub distinct : Spot → Spot → Bool
  distinct p q = not (p.cycle == q.cycle) || not (p.slot == q.slot)

  module _ (spot : ℕ → Spot) where
    abbrev pub at : Item → Spot
    at i = spot i.op.number

    abbrev pub many : OpClass → (cycle : ℕ) → List Item → ℕ
    many class c [] = 0
    many class c (i ∷ is) = if same_class (class_of i.op.act) class && ((at i).cycle == c) then suc (many class c is) else many class c is

    -- ---- legal

    abbrev pub kept_from : Item → (between : List Item) → List Item → Bool
    kept_from x m [] = true
    kept_from x m (y ∷ ys) = (kept (at x) (at y) (rows heads one latency x m y) && distinct (at x) (at y)) && kept_from x (y ∷ m) ys

    abbrev pub edges_kept : List Item → Bool
    edges_kept [] = true
    edges_kept (x ∷ xs) = kept_from x [] xs && edges_kept xs

    abbrev pub has_room : List Item → Item → Bool
    has_room all i = nat_lt (at i).slot width && nat_le (many (class_of i.op.act) (at i).cycle all) (units (class_of i.op.act))

    abbrev pub legal_items : List Item → Bool
    legal_items is = edges_kept is && every (has_room is) is

    -- ---- tight

    -- the edges into y from those before it, the last one first, with those between; of the item of a struck check the
    -- chain edge is not counted: as if it had its flag
    abbrev pub kept_into : (before between : List Item) → Item → Spot → Bool
    kept_into [] m y p = true
    kept_into (x ∷ xs) m y p = kept (at x) p (rows heads one latency x m y) && kept_into xs (x ∷ m) y p

    abbrev pub is_free : List Item → Spot → Bool
    is_free all p = every (λ i. distinct (at i) p) all

    abbrev pub fits_at : (all before : List Item) → Item → Spot → Bool
    fits_at all before y p =
        is_free all p && (nat_lt (many (class_of y.op.act) p.cycle all) (units (class_of y.op.act)) && kept_into before [] y p)

    abbrev pub could_move : (all before : List Item) → Item → Bool
    could_move all before y = some_below (at y).cycle (λ c. some_below width (λ s. fits_at all before y (record { cycle = c; slot = s })))

    -- `flag` gives an item of a struck check its flag back
    abbrev pub tight_from : (flag : Item → Item) → (all before : List Item) → List Item → Bool
    tight_from flag all before [] = true
    tight_from flag all before (y ∷ ys) = not (could_move all before (flag y)) && tight_from flag all (y ∷ before) ys

  -- ---- of a superblock's operations, with the checks that are struck

  abbrev pub reflagged : (struck : ℕ → Bool) → Item → Item
  reflagged struck i = if struck i.op.number then record i { op = record i.op { flagged = true } } else i

  abbrev pub is_legal : List WideOp → (struck : ℕ → Bool) → (ℕ → Spot) → Bool
  is_legal ops struck spot = legal_items spot (items at_head (with_struck struck ops))

  abbrev pub is_tight : List WideOp → (struck : ℕ → Bool) → (ℕ → Spot) → Bool
  is_tight ops struck spot =
      let all = items at_head (with_struck struck ops) in tight_from spot (reflagged struck) all [] all

-- ---- the words: items sorted by their spots, cut behind the last control operation

module _ (spot : ℕ → Spot) where
  abbrev pub earlier : WideOp → WideOp → Bool
  earlier a b =
      let p = spot a.number in
      let q = spot b.number in
      nat_lt p.cycle q.cycle || ((p.cycle == q.cycle) && nat_lt p.slot q.slot)

  abbrev pub insert : WideOp → List WideOp → List WideOp
  insert i [] = i ∷ []
  insert i (a ∷ l) = if earlier a i then a ∷ insert i l else i ∷ a ∷ l

  abbrev pub sorted : List WideOp → List WideOp
  sorted [] = []
  sorted (i ∷ is) = insert i (sorted is)

  abbrev pub cut_behind : WideOp → List WideOp → List WideOp
  cut_behind op [] = if is_control op.act then op ∷ [] else []
  cut_behind op (next ∷ rest) = op ∷ next ∷ rest

  -- nothing stands behind the last control operation
  abbrev pub cut : List WideOp → List WideOp
  cut [] = []
  cut (op ∷ ops) = cut_behind op (cut ops)

  -- neighbours of one cycle share a word
  abbrev pub joined_to : WideOp → List (List WideOp) → List (List WideOp)
  joined_to op [] = (op ∷ []) ∷ []
  joined_to op ([] ∷ ws) = (op ∷ []) ∷ ws
  joined_to op ((a ∷ w) ∷ ws) = if (spot op.number).cycle == (spot a.number).cycle then (op ∷ a ∷ w) ∷ ws else (op ∷ []) ∷ (a ∷ w) ∷ ws

  abbrev pub words_of : List WideOp → List (List WideOp)
  words_of [] = []
  words_of (op ∷ ops) = joined_to op (words_of ops)

abbrev pub scheduled : List WideOp → (struck : ℕ → Bool) → (ℕ → Spot) → List (List WideOp)
scheduled ops struck spot = words_of spot (cut spot (sorted spot (with_struck struck ops)))

-- ---- the words come to the event of the source order

pub record Matches (s : Flow) (u : Plain) : Type 0 where
  pub memory : s.memory ≡ u.memory
  pub left : s.left ≡ u.left
  pub out : s.out ≡ u.out

pub data SameEvent (heads : ℕ → ℕ → Bool) : Outcome → Event → Type 0 where
  AtEnd : (s : Flow) (u : Plain) → Matches s u → SameEvent heads (Through s) (End u)
  AtExit : (exit : Exit) (s : Flow) (u : Plain) → Matches s u → ((r : ℕ) → at_exit heads exit r ≡ true → s.places (Reg r) ≡ Clear (u.places (Reg r))) → SameEvent heads (Gone exit s) (ByExit exit u)
  AtReturn : (z : ℤ) (s : Flow) (u : Plain) → Matches s u → SameEvent heads (Left z s) (ByReturn z u)
  AtFault : (n : ℕ) (k : FaultKind) (s : Flow) (u : Plain) → Matches s u → SameEvent heads (Stopped n k s) (ByFault n k u)

-- the start: the memory is whole, and what is live at the head is clear, and the same
pub record Starts (heads : ℕ → ℕ → Bool) (head : ℕ) (s : Flow) (u : Plain) : Type 0 where
  pub whole : 1048576 ≤ length s.memory
  pub matches : Matches s u
  pub clear : (r : ℕ) → heads head r ≡ true → s.places (Reg r) ≡ Clear (u.places (Reg r))
