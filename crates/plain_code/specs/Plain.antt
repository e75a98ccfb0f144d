-- A three-address program as code in source order, one operation a word, none flagged.
use Rattle.std.specs.Prelude.{ℕ, zero, suc, ◌+◌, ◌-◌, ◌≤◌, nat_lt, ◌==◌, List, [], ◌∷◌, ◌++◌, map, length, Option, Some, None, false, if◌then◌else◌}
use Rattle.std.specs.List.{All}
use Rattle.ib_meaning.specs.declared.place.Place.{Place}
use Rattle.tac_core.specs.declared.code.TacOp.{TacOp}
use Rattle.tac_core.specs.declared.code.End.{End}
use Rattle.tac_core.specs.declared.code.End.TheVariants.{Jump as Leads, Branch as Parts, Call as Calls, Ret}
use Rattle.tac_core.specs.declared.code.Block.{Block}
use Rattle.tac_core.specs.declared.code.TacFunc.{TacFunc}
use Rattle.tac_core.specs.Program.{Program}
use Rattle.tac_core.specs.Meaning.{place_of}
use Rattle.wide_core.specs.declared.code.Loc.{Loc}
use Rattle.wide_core.specs.declared.code.Loc.TheVariants.{Reg, Slot}
use Rattle.wide_core.specs.declared.code.WideAct.{WideAct}
use Rattle.wide_core.specs.declared.code.WideAct.TheVariants.{Do, Spill, Reload, Jump, Branch, Call, Return}
use Rattle.wide_core.specs.declared.code.Word.{Word}
use Rattle.wide_core.specs.declared.code.WideFunc.{WideFunc}
use Rattle.wide_core.specs.declared.code.RawCode.{RawCode}
use Rattle.wide_core.specs.Operation.{reg_of}
use Rattle.wide_core.specs.Renamed.{wide_moved}
use Rattle.wide_core.specs.Uses.{reads, writes_now}

-- what an operation does, and its statement's place
pub record Item : Type 0 where
  pub home : Place
  pub act : WideAct

abbrev pub item : Place → WideAct → Item
item home act = record { home = home; act = act }

-- words with one operation each, whose numbers rise
abbrev pub numbered : (number : ℕ) → List Item → List Word
numbered number [] = []
numbered number (x ∷ xs) =
    record { ops = record { number = number; home = x.home; flagged = false; act = x.act } ∷ [] } ∷ numbered (suc number) xs

-- the end of a block: its targets are labels
abbrev pub end_acts : End → List WideAct
end_acts (Leads l) = Jump l ∷ []
end_acts (Parts r y n) = Branch r y ∷ Jump n ∷ []
end_acts (Calls d f args l) = Call (reg_of d) f l args ∷ []
end_acts (Ret r) = Return r ∷ []

-- the first place of a number in a list
abbrev pub index : ℕ → List ℕ → ℕ
index r [] = 0
index r (x ∷ xs) = if r == x then 0 else suc (index r xs)

-- the machine's registers from `low` on only carry values of slots
module _ (low : ℕ) where
  -- ---- where a three-address register lives, and through which register an operation reaches it

  abbrev pub place : ℕ → Loc
  place r = if nat_lt r low then Reg r else Slot (r - low)

  -- where an operation with these sources finds one of them
  abbrev pub found_in : (sources : List ℕ) → ℕ → ℕ
  found_in sources r = if nat_lt r low then r else low + index r sources

  -- where it leaves what it gives; it has read all its sources by then
  abbrev pub left_in : ℕ → ℕ
  left_in r = if nat_lt r low then r else low

  -- ---- one operation: reloads before it, and a spill behind it

  abbrev pub reload : Place → (sources : List ℕ) → ℕ → List Item
  reload home sources r = if nat_lt r low then [] else (item home (Reload (low + index r sources) (r - low)) ∷ [])

  abbrev pub reloads : Place → (sources : List ℕ) → List ℕ → List Item
  reloads home sources [] = []
  reloads home sources (r ∷ rs) = reload home sources r ++ reloads home sources rs

  abbrev pub spill : Place → Option ℕ → List Item
  spill home None = []
  spill home (Some r) = if nat_lt r low then [] else (item home (Spill (r - low) low) ∷ [])

  abbrev pub renamed : (at : ℕ → ℕ) → WideAct → WideAct
  renamed at act = wide_moved (found_in (reads act)) left_in place at act

  -- the words of an operation on three-address registers, whose targets are labels: `at` is the first word of each
  abbrev pub spread : (at : ℕ → ℕ) → Place → WideAct → List Item
  spread at home act = reloads home (reads act) (reads act) ++ item home (renamed at act) ∷ spill home (writes_now act)

  -- ---- blocks and functions

  abbrev pub spread_all : (at : ℕ → ℕ) → Place → List WideAct → List Item
  spread_all at home [] = []
  spread_all at home (act ∷ acts) = spread at home act ++ spread_all at home acts

  module _ (places : List Place) where
    abbrev pub end_items : (at : ℕ → ℕ) → Block → List Item
    end_items at b = spread_all at (place_of places b.end_stmt) (end_acts b.«end»)

    -- what is left of a block
    abbrev pub rest_items : (at : ℕ → ℕ) → List TacOp → Block → List Item
    rest_items at [] b = end_items at b
    rest_items at (op ∷ ops) b = spread at (place_of places op.stmt) (Do op.act) ++ rest_items at ops b

    abbrev pub block_items : (at : ℕ → ℕ) → Block → List Item
    block_items at b = rest_items at b.ops b

    -- how many words a block has, wherever the labels stand
    abbrev pub size : Block → ℕ
    size b = length (block_items (λ l. 0) b)

    -- the first word of a label
    abbrev pub start : List Block → ℕ → ℕ
    start [] l = 0
    start (b ∷ bs) zero = 0
    start (b ∷ bs) (suc l) = size b + start bs l

    abbrev pub all_items : (at : ℕ → ℕ) → List Block → List Item
    all_items at [] = []
    all_items at (b ∷ bs) = block_items at b ++ all_items at bs

    abbrev pub func_items : TacFunc → List Item
    func_items f = all_items (start f.blocks) f.blocks

    abbrev pub func_from : (number : ℕ) → TacFunc → WideFunc
    func_from number f = record {
      name = f.name;
      params = map place f.params;
      frame = f.frame;
      slots = f.regs - low;
      words = numbered number (func_items f);
    }

    abbrev pub funcs_from : (number : ℕ) → List TacFunc → List WideFunc
    funcs_from number [] = []
    funcs_from number (f ∷ fs) = func_from number f ∷ funcs_from (number + length (func_items f)) fs

-- for a machine with so many registers
unfoldable pub plain : (regs : ℕ) → Program → RawCode
plain regs p = record { image = p.image; funcs = funcs_from (regs - 8) p.places 1 p.funcs }

-- no function needs more slots than a machine's function may have; a lowered program of few registers keeps it
abbrev pub HasFewSlots : (regs : ℕ) → Program → Type 0
HasFewSlots regs p = All (λ (f : TacFunc). f.regs - (regs - 8) ≤ 1048576) p.funcs
