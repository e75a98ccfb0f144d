-- An operation does the same to the registers of a list and to places that hold their numbers.
use Rattle.std.proofs.Common.{◌≡◌, ℕ, Bool, true, false, List, [], ◌∷◌, map, slice_set, Some, None, Result, Ok, Err, ℤ, pos, negsuc, if◌then◌else◌, refl, sym, subst}
use Rattle.std.specs.Int.{w64, cast_unsigned}
use Rattle.ib_base.specs.declared.integers.Width.{Width}
use Rattle.ib_meaning.specs.declared.place.Place.{Place}
use Rattle.ib_meaning.specs.declared.fault.FaultKind.{FaultKind}
use Rattle.ib_meaning.specs.declared.fault.FaultKind.TheVariants.{BadAddress}
use Rattle.ib_mem.specs.Memory.{can_access, filled, bytes_of, stored}
use Rattle.ib_act.specs.declared.act.Act.{Act}
use Rattle.ib_act.specs.declared.act.Act.TheVariants.{Const, Mov, Add, Sub, And, Or, Xor, ShiftLeft, ShiftRight, Equal, NotEqual, Less, LessEqual, ExtByte, ExtFour, FrameAddress, Bounds, Mul, Div, Rem, Load, Store, Get, PutByte, PutNumber}
use Rattle.ib_act.specs.Acts.{address, bytes_in, given, target}
use Rattle.tac_core.specs.Meaning.{Effect as TacEffect, Does, Fails, reg_of, writes as tac_writes, stores, takes, effect_of}
use Rattle.wide_core.specs.declared.code.Loc.TheVariants.{Reg}
use Rattle.wide_core.specs.declared.code.Tagged.TheVariants.{Clear}
use Rattle.wide_core.specs.declared.code.WideAct.{WideAct}
use Rattle.wide_core.specs.declared.code.WideAct.TheVariants.{Do}
use Rattle.wide_core.specs.declared.code.WideOp.{WideOp}
use Rattle.wide_core.specs.Tagged.{evaluated}
use Rattle.wide_core.specs.Operation.{Effect, Write, Save, Take, Print, Stop, sources, shown, does_act, first_of, effect_on}
use Rattle.wide_core.specs.Places.{in_registers}
use Rattle.wide_core.specs.Word.{byte_from, behind_byte, saved}

-- an operation that reports its fault
abbrev pub op_of : ℕ → Place → WideAct → WideOp
op_of number home act = record { number = number; home = home; flagged = false; act = act }

-- the two effects are alike
pub data Alike (number : ℕ) (act : Act) (regs : List ℤ) (memory left : List ℕ) : TacEffect → Effect → Type 0 where
  Sets : (d : ℕ) (v : ℤ) → target act ≡ Some d → Alike number act regs memory left (Does (slice_set regs d v) memory left []) (Write (Reg d) (Clear v))
  Stores : (width : Width) (at v : ℤ) (memory' : List ℕ) → target act ≡ None → saved width at v memory ≡ memory' → Alike number act regs memory left (Does regs memory' left []) (Save width at v)
  Takes : (d : ℕ) → target act ≡ Some d → Alike number act regs memory left (Does (slice_set regs d (byte_from left)) memory (behind_byte left) []) (Take d)
  Prints : (text : List ℕ) → target act ≡ None → Alike number act regs memory left (Does regs memory left text) (Print text)
  Faults : (kind : FaultKind) → Alike number act regs memory left (Fails kind) (Stop number kind)

module _ (number : ℕ) (home : Place) (base : ℕ) (room : ℕ → Bool) (regs : List ℤ) (memory : List ℕ) where
  by_result : (act : Act) (d : ℕ) (left : List ℕ) (ns : List ℤ) (o : Result ℤ FaultKind) → target act ≡ Some d → ((v : ℤ) → does_act act (first_of ns) v ≡ Write (Reg d) (Clear v)) → Alike number act regs memory left (tac_writes (Some d) o regs memory left) (shown (Do act) ns (evaluated false number (Clear (pos 0)) o))
  by_result act d left ns (Ok v) e h = subst (λ x. Alike number act regs memory left (Does (slice_set regs d v) memory left []) x) (sym (h v)) (Sets d v e)
  by_result act d left ns (Err k) e h = Faults k

  by_store : (width : Width) (to : ℕ) (offset : ℤ) (from : ℕ) (left : List ℕ) (x y : ℤ) (at : ℤ) → address x offset ≡ at → Alike number (Store width to offset from) regs memory left (stores (stored memory at (bytes_in width) (cast_unsigned w64 y)) regs left) (shown (Do (Store width to offset from)) (x ∷ y ∷ []) (evaluated false number (Clear (pos 0)) (if can_access at (bytes_in width) then Ok y else Err BadAddress)))
  by_store width to offset from left x y (negsuc n) e = Faults BadAddress
  by_store width to offset from left x y (pos n) e = by_one (can_access (pos n) (bytes_in width)) refl
    where
      by_one : (b : Bool) → can_access (pos n) (bytes_in width) ≡ b → Alike number (Store width to offset from) regs memory left (stores (if b then Some (filled memory n (bytes_of (bytes_in width) (cast_unsigned w64 y))) else None) regs left) (shown (Do (Store width to offset from)) (x ∷ y ∷ []) (evaluated false number (Clear (pos 0)) (if b then Ok y else Err BadAddress)))
      by_one true f = Stores width (address x offset) y (filled memory n (bytes_of (bytes_in width) (cast_unsigned w64 y))) refl (rw (e, f) refl)
      by_one false f = Faults BadAddress

  by_get : (d : ℕ) (left : List ℕ) → Alike number (Get d) regs memory left (takes d regs memory left) (Take d)
  by_get d [] = Takes d refl
  by_get d (x ∷ left) = Takes d refl

  pub alike : (act : Act) (left : List ℕ) → Alike number act regs memory left (effect_of act base regs memory left) (effect_on (op_of number home (Do act)) (record { base = base; memory = memory; room = room }) (map (in_registers regs) (sources (Do act))))
  unfolding effect_of effect_on
  alike (Const d v) left = Sets d v refl
  alike (Mov d a) left = Sets d _ refl
  alike (Add z d a b) left = Sets d _ refl
  alike (Sub z d a b) left = Sets d _ refl
  alike (And d a b) left = Sets d _ refl
  alike (Or d a b) left = Sets d _ refl
  alike (Xor d a b) left = Sets d _ refl
  alike (ShiftLeft z d a b) left = Sets d _ refl
  alike (ShiftRight z d a b) left = Sets d _ refl
  alike (Equal d a b) left = Sets d _ refl
  alike (NotEqual d a b) left = Sets d _ refl
  alike (Less d a b) left = Sets d _ refl
  alike (LessEqual d a b) left = Sets d _ refl
  alike (ExtByte d a) left = Sets d _ refl
  alike (ExtFour d a) left = Sets d _ refl
  alike (FrameAddress d o) left = Sets d _ refl
  alike (Mul z d a b) left = Sets d _ refl
  alike (Bounds d a n) left = by_result (Bounds d a n) d left (reg_of regs a ∷ []) (given (Bounds d a n) base memory (reg_of regs a) (pos 0)) refl (λ v. refl)
  alike (Div z d a b) left = by_result (Div z d a b) d left (reg_of regs a ∷ reg_of regs b ∷ []) (given (Div z d a b) base memory (reg_of regs a) (reg_of regs b)) refl (λ v. refl)
  alike (Rem z d a b) left = by_result (Rem z d a b) d left (reg_of regs a ∷ reg_of regs b ∷ []) (given (Rem z d a b) base memory (reg_of regs a) (reg_of regs b)) refl (λ v. refl)
  alike (Load w d a o) left = by_result (Load w d a o) d left (reg_of regs a ∷ []) (given (Load w d a o) base memory (reg_of regs a) (pos 0)) refl (λ v. refl)
  alike (Store w a o b) left = by_store w a o b left (reg_of regs a) (reg_of regs b) (address (reg_of regs a) o) refl
  alike (Get d) left = by_get d left
  alike (PutByte a) left = Prints _ refl
  alike (PutNumber a) left = Prints _ refl
