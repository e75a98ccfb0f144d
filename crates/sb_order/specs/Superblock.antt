-- A superblock's meaning without marks, and the checks that its operations need when they are done early.
use Rattle.std.specs.Prelude.{◌≡◌, ℕ, suc, Bool, true, false, ◌&&◌, ◌||◌, not, ◌==◌, ◌<◌, List, [], ◌∷◌, ◌++◌, map, Option, Some, None, Result, Ok, Err, if◌then◌else◌, ℤ}
use Rattle.ib_meaning.specs.declared.fault.FaultKind.{FaultKind}
use Rattle.wide_core.specs.declared.code.Loc.{Loc}
use Rattle.wide_core.specs.declared.code.Loc.TheVariants.{Reg}
use Rattle.wide_core.specs.declared.code.WideAct.{WideAct}
use Rattle.wide_core.specs.declared.code.WideAct.TheVariants.{Check}
use Rattle.wide_core.specs.declared.code.WideOp.{WideOp}
use Rattle.wide_core.specs.Classes.{is_register, traps}
use Rattle.wide_core.specs.Operation.{Exit, Effect, Write, Save, Take, Print, Go, Leave, Stop, sources, own, does}
use Rattle.wide_core.specs.Places.{put}
use Rattle.wide_core.specs.Tagged.{number_of}
use Rattle.wide_core.specs.Word.{byte_from, behind_byte, saved}
use Rattle.wide_core.specs.Uses.{reads, in_list, is_target, written}
use Rattle.wide_core.specs.Flat.{at_exits}

-- ---- in source order, without marks

pub record Plain : Type 0 where
  pub places : Loc → ℤ
  pub memory : List ℕ
  pub left : List ℕ
  pub out : List ℕ

-- up to the first fault, or the first control operation that leaves
pub data Event : Type 0 where
  End : (s : Plain) → Event
  ByExit : (exit : Exit) (s : Plain) → Event
  ByReturn : (z : ℤ) (s : Plain) → Event
  ByFault : (number : ℕ) (kind : FaultKind) (s : Plain) → Event

abbrev pub plain_apply : Effect → Plain → Plain
plain_apply (Write to v) s = record s { places = put to (number_of v) s.places }
plain_apply (Save width a z) s = record s { memory = saved width a z s.memory }
plain_apply (Take to) s = record s { places = put (Reg to) (byte_from s.left) s.places; left = behind_byte s.left }
plain_apply (Print text) s = record s { out = s.out ++ text }
plain_apply e s = s

abbrev pub plain_on : Effect → (Plain → Event) → Plain → Event
plain_on (Go exit) next s = ByExit exit s
plain_on (Leave z) next s = ByReturn z s
plain_on (Stop n k) next s = ByFault n k s
plain_on e next s = next (plain_apply e s)

abbrev pub plain_by : WideOp → List ℤ → Result ℤ FaultKind → (Plain → Event) → Plain → Event
plain_by op numbers (Ok v) next s = plain_on (does op.act numbers v) next s
plain_by op numbers (Err k) next s = ByFault op.number k s

module _ (base : ℕ) (room : ℕ → Bool) where
  abbrev pub plain : List WideOp → Plain → Event
  plain [] s = End s
  plain (op ∷ ops) s = plain_by op (map s.places (sources op.act)) (own op.act base s.memory room (map s.places (sources op.act))) (plain ops) s

-- ---- the chain and the checks, from the end backwards

-- the set of registers, changed at one
abbrev pub put_at : Option ℕ → Bool → (ℕ → Bool) → ℕ → Bool
put_at None b c r = c r
put_at (Some d) b c r = if r == d then b else c r

abbrev pub meets : (ℕ → Bool) → List ℕ → Bool
meets carriers [] = false
meets carriers (r ∷ rs) = carriers r || meets carriers rs

-- the next chain member reads a carrier; an overwritten carrier carries no more
abbrev pub settles : (carriers : ℕ → Bool) → List WideOp → Bool
settles c [] = false
settles c (op ∷ ops) =
    if is_register op.act then settles (put_at (written op.act) (meets c (reads op.act)) c) ops else meets c (reads op.act)

abbrev pub needs_check : WideOp → (behind : List WideOp) → Bool
needs_check op behind = traps op.act && not (settles (put_at (written op.act) true (λ r. false)) behind)

abbrev pub check_of : WideOp → Option ℕ → List WideOp
check_of op None = []
check_of op (Some r) = record { number = suc op.number; home = op.home; flagged = false; act = Check r } ∷ []

abbrev pub checks_of : WideOp → List WideOp → List WideOp
checks_of op behind = if needs_check op behind then check_of op (written op.act) else []

-- the items with their checks
abbrev pub checked : List WideOp → List WideOp
checked [] = []
checked (op ∷ ops) = op ∷ (checks_of op (checked ops) ++ checked ops)

-- ---- what a superblock has to keep

-- the register is read before it is written, or live at an exit before which it is not written
abbrev pub needs : (heads : ℕ → ℕ → Bool) → List WideOp → ℕ → Bool
needs heads [] r = false
needs heads (op ∷ ops) r = (in_list r (reads op.act) || at_exits heads op.act r) || (not (is_target (written op.act) r) && needs heads ops r)

-- what is needed is live at the head
pub record FitsLive (heads : ℕ → ℕ → Bool) (head : ℕ) (ops : List WideOp) : Type 0 where
  pub fits : (r : ℕ) → needs heads ops r ≡ true → heads head r ≡ true

-- the number of its check, where it may need one
abbrev pub last_number : WideOp → ℕ
last_number op = if traps op.act then suc op.number else op.number

-- numbers rise, with room for the checks; exactly the register operations are flagged
pub data Rises : ℕ → List WideOp → Type 0 where
  RisesNot : (n : ℕ) → Rises n []
  RisesBy : (n : ℕ) (op : WideOp) (ops : List WideOp) → n < op.number → op.flagged ≡ is_register op.act → Rises (last_number op) ops → Rises n (op ∷ ops)
