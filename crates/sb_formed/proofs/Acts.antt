-- An operation does the same by registers in a list and by places.
use Rattle.std.proofs.Common.{◌≡◌, ℕ, ◌<◌, Bool, true, false, List, [], ◌∷◌, length, Some, None, Result, Ok, Err, ℤ, pos, negsuc, map, refl, sym, ap, ap₂, ◌∙◌, subst, ⊎_elim, get_or-set_same, get_or-set_other, if◌then◌else◌}
use Rattle.std.specs.Prelude.{slice_set}
use Rattle.std.specs.Int.{w64, cast_unsigned}
use Rattle.std.specs.Option.{unwrap_or}
use Rattle.std.proofs.Math.ListN.{length-set}
use Rattle.std.proofs.lemmas.Bool.Decides.{eqb_tells}
use Rattle.ib_base.specs.declared.integers.Width.{Width}
use Rattle.ib_meaning.specs.declared.fault.FaultKind.{FaultKind}
use Rattle.ib_meaning.specs.declared.fault.FaultKind.TheVariants.{BadAddress}
use Rattle.ib_mem.specs.Memory.{can_access, stored, filled, bytes_of}
use Rattle.ib_act.specs.declared.act.Act.{Act}
use Rattle.ib_act.specs.declared.act.Act.TheVariants.{Const, Mov, Add, Sub, And, Or, Xor, ShiftLeft, ShiftRight, Equal, NotEqual, Less, LessEqual, ExtByte, ExtFour, FrameAddress, Bounds, Mul, Div, Rem, Load, Store, Get, PutByte, PutNumber}
use Rattle.ib_act.specs.Acts.{target, first_source, second_source, given, address, bytes_in}
use Rattle.wide_core.specs.declared.code.Loc.{Loc}
use Rattle.wide_core.specs.declared.code.Loc.TheVariants.{Reg}
use Rattle.wide_core.specs.declared.code.WideAct.TheVariants.{Do}
use Rattle.wide_core.specs.declared.code.WideOp.{WideOp}
use Rattle.wide_core.specs.Operation.{sources, own_by, does_act, first_of, second_of, writes, own, does}
use Rattle.wide_core.specs.Places.{put}
use Rattle.tac_core.specs.Meaning.{Effect, Does, Fails, reg_of, number_in, effect_of, effect_by, writes as sets, stores}
use Rattle.tac_core.specs.Rules.{IsRegister, IsGoodAct}
use Rattle.sb_order.specs.Superblock.{Plain, Event, End, ByFault, plain, plain_on, plain_by}

-- the registers hold the numbers of the list
abbrev pub Same : List ℤ → (Loc → ℤ) → Type 0
Same regs at = (r : ℕ) → at (Reg r) ≡ reg_of regs r

pub same_put : (regs : List ℤ) (at : Loc → ℤ) (to : ℕ) (v : ℤ) → to < length regs → Same regs at → Same (slice_set regs to v) (put (Reg to) v at)
same_put regs at to v lt h r =
    ⊎_elim
    (λ t. ap (λ b. if b then v else at (Reg r)) t.0 ∙ sym (get_or-set_same regs to v (pos 0) lt) ∙ ap (λ k. reg_of (slice_set regs to v) k) (sym t.1))
    (λ f. ap (λ b. if b then v else at (Reg r)) f.0 ∙ h r ∙ sym (get_or-set_other regs to r v (pos 0) f.1))
    (eqb_tells r to)

-- as many registers, with the same numbers, the same memory, input left and output; or the same fault
pub data Alike (number count : ℕ) (left : List ℕ) : Effect → Event → Type 0 where
  Done : (regs : List ℤ) (memory left' printed : List ℕ) (at : Loc → ℤ) → length regs ≡ count → Same regs at → Alike number count left (Does regs memory left' printed) (End (record { places = at; memory = memory; left = left'; out = printed }))
  Faulty : (kind : FaultKind) (memory : List ℕ) (at : Loc → ℤ) → Alike number count left (Fails kind) (ByFault number kind (record { places = at; memory = memory; left = left; out = [] }))

module _ (base : ℕ) (room : ℕ → Bool) where
  abbrev on_value : (number : ℕ) → Act → (x : ℤ) → Result ℤ FaultKind → Plain → Event
  on_value number act x (Ok v) s = plain_on (does_act act x v) (plain base room []) s
  on_value number act x (Err kind) s = ByFault number kind s

  wrote : (number : ℕ) (act : Act) (to : ℕ) (x : ℤ) (value : Result ℤ FaultKind) (regs : List ℤ) (at : Loc → ℤ) (memory left : List ℕ) → ((v : ℤ) → does_act act x v ≡ writes (Some to) v) → to < length regs → Same regs at → Alike number (length regs) left (sets (Some to) value regs memory left) (on_value number act x value (record { places = at; memory = memory; left = left; out = [] }))
  wrote number act to x (Err kind) regs at memory left e lt h = Faulty kind memory at
  wrote number act to x (Ok v) regs at memory left e lt h =
      subst (λ w. Alike number (length regs) left (Does (slice_set regs to v) memory left []) (plain_on w (plain base room []) (record { places = at; memory = memory; left = left; out = [] }))) (sym (e v))
      (Done (slice_set regs to v) memory left [] (put (Reg to) v at) (length-set regs to v) (same_put regs at to v lt h))

  took : (number to : ℕ) (x : ℤ) (regs : List ℤ) (at : Loc → ℤ) (memory left : List ℕ) → to < length regs → Same regs at → Alike number (length regs) left (effect_by (Get to) base regs memory left x x) (on_value number (Get to) x (Ok x) (record { places = at; memory = memory; left = left; out = [] }))
  took number to x regs at memory [] lt h = Done _ memory [] [] _ (length-set regs to _) (same_put regs at to _ lt h)
  took number to x regs at memory (byte ∷ left) lt h = Done _ memory left [] _ (length-set regs to _) (same_put regs at to _ lt h)

  kept : (number : ℕ) (width : Width) (to from : ℕ) (offset x y a : ℤ) (regs : List ℤ) (at : Loc → ℤ) (memory left : List ℕ) → address x offset ≡ a → Same regs at → Alike number (length regs) left (stores (stored memory a (bytes_in width) (cast_unsigned w64 y)) regs left) (on_value number (Store width to offset from) x (if can_access a (bytes_in width) then Ok y else Err BadAddress) (record { places = at; memory = memory; left = left; out = [] }))
  kept number width to from offset x y (pos n) regs at memory left e h = by (can_access (pos n) (bytes_in width)) refl
    where
      by : (b : Bool) → can_access (pos n) (bytes_in width) ≡ b → Alike number (length regs) left (stores (if b then Some (filled memory n (bytes_of (bytes_in width) (cast_unsigned w64 y))) else None) regs left) (on_value number (Store width to offset from) x (if b then Ok y else Err BadAddress) (record { places = at; memory = memory; left = left; out = [] }))
      by true is =
          let written : List ℕ = filled memory n (bytes_of (bytes_in width) (cast_unsigned w64 y)) in
          let same : unwrap_or (stored memory (address x offset) (bytes_in width) (cast_unsigned w64 y)) memory ≡ written =
          ap (λ z. unwrap_or (stored memory z (bytes_in width) (cast_unsigned w64 y)) memory) e ∙ ap (λ b. unwrap_or (if b then Some written else None) memory) is in
          subst (λ m. Alike number (length regs) left (Does regs written left []) (End (record { places = at; memory = m; left = left; out = [] }))) (sym same)
          (Done regs written left [] at refl h)
      by false is = Faulty BadAddress memory at
  kept number width to from offset x y (negsuc n) regs at memory left e h = Faulty BadAddress memory at

  on_values : (number : ℕ) (act : Act) (x y : ℤ) (regs : List ℤ) (at : Loc → ℤ) (memory left : List ℕ) → IsRegister (length regs) (target act) → Same regs at → Alike number (length regs) left (effect_by act base regs memory left x y) (on_value number act x (own_by act base memory x y) (record { places = at; memory = memory; left = left; out = [] }))
  on_values number (Const to value) x y regs at memory left w h = wrote number (Const to value) to x (given (Const to value) base memory x y) regs at memory left (λ v. refl) w h
  on_values number (Mov to from) x y regs at memory left w h = wrote number (Mov to from) to x (given (Mov to from) base memory x y) regs at memory left (λ v. refl) w h
  on_values number (Add size to a b) x y regs at memory left w h = wrote number (Add size to a b) to x (given (Add size to a b) base memory x y) regs at memory left (λ v. refl) w h
  on_values number (Sub size to a b) x y regs at memory left w h = wrote number (Sub size to a b) to x (given (Sub size to a b) base memory x y) regs at memory left (λ v. refl) w h
  on_values number (And to a b) x y regs at memory left w h = wrote number (And to a b) to x (given (And to a b) base memory x y) regs at memory left (λ v. refl) w h
  on_values number (Or to a b) x y regs at memory left w h = wrote number (Or to a b) to x (given (Or to a b) base memory x y) regs at memory left (λ v. refl) w h
  on_values number (Xor to a b) x y regs at memory left w h = wrote number (Xor to a b) to x (given (Xor to a b) base memory x y) regs at memory left (λ v. refl) w h
  on_values number (ShiftLeft size to a b) x y regs at memory left w h = wrote number (ShiftLeft size to a b) to x (given (ShiftLeft size to a b) base memory x y) regs at memory left (λ v. refl) w h
  on_values number (ShiftRight size to a b) x y regs at memory left w h = wrote number (ShiftRight size to a b) to x (given (ShiftRight size to a b) base memory x y) regs at memory left (λ v. refl) w h
  on_values number (Equal to a b) x y regs at memory left w h = wrote number (Equal to a b) to x (given (Equal to a b) base memory x y) regs at memory left (λ v. refl) w h
  on_values number (NotEqual to a b) x y regs at memory left w h = wrote number (NotEqual to a b) to x (given (NotEqual to a b) base memory x y) regs at memory left (λ v. refl) w h
  on_values number (Less to a b) x y regs at memory left w h = wrote number (Less to a b) to x (given (Less to a b) base memory x y) regs at memory left (λ v. refl) w h
  on_values number (LessEqual to a b) x y regs at memory left w h = wrote number (LessEqual to a b) to x (given (LessEqual to a b) base memory x y) regs at memory left (λ v. refl) w h
  on_values number (ExtByte to from) x y regs at memory left w h = wrote number (ExtByte to from) to x (given (ExtByte to from) base memory x y) regs at memory left (λ v. refl) w h
  on_values number (ExtFour to from) x y regs at memory left w h = wrote number (ExtFour to from) to x (given (ExtFour to from) base memory x y) regs at memory left (λ v. refl) w h
  on_values number (FrameAddress to offset) x y regs at memory left w h = wrote number (FrameAddress to offset) to x (given (FrameAddress to offset) base memory x y) regs at memory left (λ v. refl) w h
  on_values number (Bounds to from bound) x y regs at memory left w h = wrote number (Bounds to from bound) to x (given (Bounds to from bound) base memory x y) regs at memory left (λ v. refl) w h
  on_values number (Mul size to a b) x y regs at memory left w h = wrote number (Mul size to a b) to x (given (Mul size to a b) base memory x y) regs at memory left (λ v. refl) w h
  on_values number (Div size to a b) x y regs at memory left w h = wrote number (Div size to a b) to x (given (Div size to a b) base memory x y) regs at memory left (λ v. refl) w h
  on_values number (Rem size to a b) x y regs at memory left w h = wrote number (Rem size to a b) to x (given (Rem size to a b) base memory x y) regs at memory left (λ v. refl) w h
  on_values number (Load width to from offset) x y regs at memory left w h = wrote number (Load width to from offset) to x (given (Load width to from offset) base memory x y) regs at memory left (λ v. refl) w h
  on_values number (Store width to offset from) x y regs at memory left w h = kept number width to from offset x y (address x offset) regs at memory left refl h
  on_values number (Get to) x y regs at memory left w h = took number to x regs at memory left w h
  on_values number (PutByte from) x y regs at memory left w h = Done regs memory left _ at refl h
  on_values number (PutNumber from) x y regs at memory left w h = Done regs memory left _ at refl h

  by_value : (op : WideOp) (act : Act) → op.act ≡ Do act → (numbers : List ℤ) (value : Result ℤ FaultKind) (s : Plain) → plain_by op numbers value (plain base room []) s ≡ on_value op.number act (first_of numbers) value s
  by_value op act e numbers (Ok v) s = ap (λ a. plain_on (does a numbers v) (plain base room []) s) e
  by_value op act e numbers (Err kind) s = refl

  first_is : (act : Act) (regs : List ℤ) (at : Loc → ℤ) → Same regs at → first_of (map at (sources (Do act))) ≡ number_in regs (first_source act)
  first_is (Const to value) regs at h = refl
  first_is (Mov to from) regs at h = h from
  first_is (Add size to a b) regs at h = h a
  first_is (Sub size to a b) regs at h = h a
  first_is (And to a b) regs at h = h a
  first_is (Or to a b) regs at h = h a
  first_is (Xor to a b) regs at h = h a
  first_is (ShiftLeft size to a b) regs at h = h a
  first_is (ShiftRight size to a b) regs at h = h a
  first_is (Equal to a b) regs at h = h a
  first_is (NotEqual to a b) regs at h = h a
  first_is (Less to a b) regs at h = h a
  first_is (LessEqual to a b) regs at h = h a
  first_is (ExtByte to from) regs at h = h from
  first_is (ExtFour to from) regs at h = h from
  first_is (FrameAddress to offset) regs at h = refl
  first_is (Bounds to from bound) regs at h = h from
  first_is (Mul size to a b) regs at h = h a
  first_is (Div size to a b) regs at h = h a
  first_is (Rem size to a b) regs at h = h a
  first_is (Load width to from offset) regs at h = h from
  first_is (Store width to offset from) regs at h = h to
  first_is (Get to) regs at h = refl
  first_is (PutByte from) regs at h = h from
  first_is (PutNumber from) regs at h = h from

  second_is : (act : Act) (regs : List ℤ) (at : Loc → ℤ) → Same regs at → second_of (map at (sources (Do act))) ≡ number_in regs (second_source act)
  second_is (Const to value) regs at h = refl
  second_is (Mov to from) regs at h = refl
  second_is (Add size to a b) regs at h = h b
  second_is (Sub size to a b) regs at h = h b
  second_is (And to a b) regs at h = h b
  second_is (Or to a b) regs at h = h b
  second_is (Xor to a b) regs at h = h b
  second_is (ShiftLeft size to a b) regs at h = h b
  second_is (ShiftRight size to a b) regs at h = h b
  second_is (Equal to a b) regs at h = h b
  second_is (NotEqual to a b) regs at h = h b
  second_is (Less to a b) regs at h = h b
  second_is (LessEqual to a b) regs at h = h b
  second_is (ExtByte to from) regs at h = refl
  second_is (ExtFour to from) regs at h = refl
  second_is (FrameAddress to offset) regs at h = refl
  second_is (Bounds to from bound) regs at h = refl
  second_is (Mul size to a b) regs at h = h b
  second_is (Div size to a b) regs at h = h b
  second_is (Rem size to a b) regs at h = h b
  second_is (Load width to from offset) regs at h = refl
  second_is (Store width to offset from) regs at h = h from
  second_is (Get to) regs at h = refl
  second_is (PutByte from) regs at h = refl
  second_is (PutNumber from) regs at h = refl

  pub act_alike : (op : WideOp) (act : Act) → op.act ≡ Do act → (regs : List ℤ) (at : Loc → ℤ) (memory left : List ℕ) → IsGoodAct (length regs) act → Same regs at → Alike op.number (length regs) left (effect_of act base regs memory left) (plain base room (op ∷ []) (record { places = at; memory = memory; left = left; out = [] }))
  unfolding effect_of
  act_alike op act e regs at memory left good h =
      let s : Plain = record { places = at; memory = memory; left = left; out = [] } in
      let numbers : List ℤ = map at (sources op.act) in
      let same : sources op.act ≡ sources (Do act) = ap sources e in
      let first : first_of numbers ≡ number_in regs (first_source act) = ap (λ l. first_of (map at l)) same ∙ first_is act regs at h in
      let second : second_of numbers ≡ number_in regs (second_source act) = ap (λ l. second_of (map at l)) same ∙ second_is act regs at h in
      let own_is : own op.act base memory room numbers ≡ own_by act base memory (number_in regs (first_source act)) (number_in regs (second_source act)) =
      ap (λ a. own a base memory room numbers) e ∙ ap₂ (λ x y. own_by act base memory x y) first second in
      let event : plain base room (op ∷ []) s ≡ on_value op.number act (number_in regs (first_source act)) (own_by act base memory (number_in regs (first_source act)) (number_in regs (second_source act))) s =
      by_value op act e numbers (own op.act base memory room numbers) s ∙ ap₂ (λ x v. on_value op.number act x v s) first own_is in
      subst (λ z. Alike op.number (length regs) left (effect_by act base regs memory left (number_in regs (first_source act)) (number_in regs (second_source act))) z) (sym event)
      (on_values op.number act (number_in regs (first_source act)) (number_in regs (second_source act)) regs at memory left good.writes h)
