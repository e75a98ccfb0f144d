-- What operations do, by their kinds.
use Rattle.std.proofs.Common.{◌≡◌, ℕ, ℤ, List, [], Option, Some, None, Result, refl, sym, ap, ◌∙◌, subst}
use Rattle.std.specs.Prelude.{unwrap_or}
use Rattle.std.specs.Int.{w64, cast_unsigned}
use Rattle.ib_meaning.specs.declared.fault.FaultKind.{FaultKind}
use Rattle.ib_meaning.specs.Agreement.{IsPrefix}
use Rattle.ib_base.specs.declared.integers.Width.{Width}
use Rattle.ib_base.specs.World.{World}
use Rattle.ib_mem.specs.Memory.{stored}
use Rattle.ib_act.specs.declared.act.Act.{Act}
use Rattle.ib_act.specs.declared.act.Act.TheVariants.{Store, Get, PutByte, PutNumber, Const, Mov, Add, Sub, And, Or, Xor, ShiftLeft, ShiftRight, Equal, NotEqual, Less, LessEqual, ExtByte, ExtFour, FrameAddress, Bounds, Mul, Div, Rem, Load}
use Rattle.ib_act.specs.Acts.{target, first_source, second_source, given, address, bytes_in}
use Rattle.ib_run.specs.OverHost.{OverHost}
use Rattle.ib_run.proofs.OverHost.{over_none, over_same, over_weaken}
use Rattle.tac_core.specs.Meaning.{Effect, Does, writes, stores, takes, number_in, effect_by, effect_of}
use Rattle.profile.specs.Running.{Takes, TakesPart, access_fault, effect_prints}

-- an operation that neither stores nor asks the host writes its value
pub writes_value : (act : Act) (base : ℕ) (regs : List ℤ) (memory left : List ℕ) (x y : ℤ) →
    ((width : Width) (base' : ℕ) (offset : ℤ) (from : ℕ) → act ≡ Store width base' offset from → ⊥) → ((to : ℕ) → act ≡ Get to → ⊥) → ((from : ℕ) → act ≡ PutByte from → ⊥) → ((from : ℕ) → act ≡ PutNumber from → ⊥) →
    effect_by act base regs memory left x y ≡ writes (target act) (given act base memory x y) regs memory left
writes_value (Const to value) base regs memory left_ x y store get byte number = refl
writes_value (Mov to from) base regs memory left_ x y store get byte number = refl
writes_value (Add size to l r) base regs memory left_ x y store get byte number = refl
writes_value (Sub size to l r) base regs memory left_ x y store get byte number = refl
writes_value (And to l r) base regs memory left_ x y store get byte number = refl
writes_value (Or to l r) base regs memory left_ x y store get byte number = refl
writes_value (Xor to l r) base regs memory left_ x y store get byte number = refl
writes_value (ShiftLeft size to l r) base regs memory left_ x y store get byte number = refl
writes_value (ShiftRight size to l r) base regs memory left_ x y store get byte number = refl
writes_value (Equal to l r) base regs memory left_ x y store get byte number = refl
writes_value (NotEqual to l r) base regs memory left_ x y store get byte number = refl
writes_value (Less to l r) base regs memory left_ x y store get byte number = refl
writes_value (LessEqual to l r) base regs memory left_ x y store get byte number = refl
writes_value (ExtByte to from) base regs memory left_ x y store get byte number = refl
writes_value (ExtFour to from) base regs memory left_ x y store get byte number = refl
writes_value (FrameAddress to offset) base regs memory left_ x y store get byte number = refl
writes_value (Bounds to from bound) base regs memory left_ x y store get byte number = refl
writes_value (Mul size to l r) base regs memory left_ x y store get byte number = refl
writes_value (Div size to l r) base regs memory left_ x y store get byte number = refl
writes_value (Rem size to l r) base regs memory left_ x y store get byte number = refl
writes_value (Load width to base' offset) base regs memory left_ x y store get byte number = refl
writes_value (Store width base' offset from) base regs memory left_ x y store get byte number = absurd (store width base' offset from refl)
writes_value (Get to) base regs memory left_ x y store get byte number = absurd (get to refl)
writes_value (PutByte from) base regs memory left_ x y store get byte number = absurd (byte from refl)
writes_value (PutNumber from) base regs memory left_ x y store get byte number = absurd (number from refl)

-- only the effect for the input at hand counts
takes_same : (effect other : List ℕ → Effect) (regs : List ℤ) (memory : List ℕ) (fault : Option FaultKind) (input left out : List ℕ) → effect input ≡ other input → Takes effect regs memory fault input left out → Takes other regs memory fault input left out
takes_same effect other regs memory None input left out same h = sym same ∙ h
takes_same effect other regs memory (Some kind) input left out same h = (sym same ∙ h.0, h.1, h.2)

module _ (act : Act) (base : ℕ) (regs : List ℤ) (memory : List ℕ) (x y : ℤ) where
  -- its effect by the input that is left
  abbrev pub by_input : List ℕ → Effect
  by_input left = effect_by act base regs memory left x y

  stored_so : (now : Option (List ℕ)) (input : List ℕ) → Takes (λ left. stores now regs left) regs (unwrap_or now memory) (access_fault now) input input []
  stored_so None input = (refl, refl, refl)
  stored_so (Some now) input = refl

  pub store_takes : (w : World) (width : Width) (base' : ℕ) (offset at : ℤ) (from : ℕ) (new : List ℕ) (fault : Option FaultKind) → act ≡ Store width base' offset from → fault ≡ access_fault (stored memory (address x offset) (bytes_in width) (cast_unsigned w64 y)) → new ≡ unwrap_or (stored memory (address x offset) (bytes_in width) (cast_unsigned w64 y)) memory → OverHost (Takes by_input regs new fault) w w
  store_takes w width base' offset at from new fault is fault_is new_is =
      over_none (Takes by_input regs new fault) (λ input.
      let now : Option (List ℕ) = stored memory (address x offset) (bytes_in width) (cast_unsigned w64 y) in
      takes_same (λ left. stores now regs left) by_input regs new fault input input []
      (sym (ap (λ a. effect_by a base regs memory input x y) is))
      (subst (λ f. Takes (λ left. stores now regs left) regs new f input input []) (sym fault_is)
      (subst (λ m. Takes (λ left. stores now regs left) regs m (access_fault now) input input []) (sym new_is) (stored_so now input)))) w

  pub value_takes : (w : World) (new : List ℤ) (to : Option ℕ) (value : Result ℤ FaultKind) (fault : Option FaultKind) →
      ((width : Width) (base' : ℕ) (offset : ℤ) (from : ℕ) → act ≡ Store width base' offset from → ⊥) → ((to : ℕ) → act ≡ Get to → ⊥) → ((from : ℕ) → act ≡ PutByte from → ⊥) → ((from : ℕ) → act ≡ PutNumber from → ⊥) →
      to ≡ target act → value ≡ given act base memory x y → ((memory input : List ℕ) → Takes (λ left. writes to value regs memory left) new memory fault input input []) → OverHost (Takes by_input new memory fault) w w
  value_takes w new to value fault store get byte number target_is value_is takes' =
      over_none (Takes by_input new memory fault) (λ input.
      takes_same (λ left. writes to value regs memory left) by_input new memory fault input input []
      (ap (λ t. writes t value regs memory input) target_is ∙ ap (λ v. writes (target act) v regs memory input) value_is ∙ sym (writes_value act base regs memory input x y store get byte number))
      (takes' memory input)) w

  pub get_takes_so : (to : ℕ) (new : List ℤ) (before after : World) (fault : Option FaultKind) → act ≡ Get to → ((memory : List ℕ) → OverHost (Takes (takes to regs memory) new memory fault) before after) → OverHost (Takes by_input new memory fault) before after
  get_takes_so to new before after fault is over =
      subst (λ a. OverHost (Takes (λ left. effect_by a base regs memory left x y) new memory fault) before after) (sym is) (over memory)

  pub get_part : (to : ℕ) (before after : World) → act ≡ Get to → after ≡ before → OverHost (TakesPart by_input) before after
  get_part to before after is same =
      over_weaken (λ input left out. (input ≡ left) × (out ≡ [])) (TakesPart by_input) before after (over_same before after same)
      (λ input left out h. subst (λ o. IsPrefix o (effect_prints (by_input input))) (sym h.1) (effect_prints (by_input input), refl))

  pub print_takes_so : (bytes : List ℕ) (before after : World) (fault : Option FaultKind) → ((left : List ℕ) → Does regs memory left bytes ≡ by_input left) → ((regs : List ℤ) (memory : List ℕ) → OverHost (Takes (λ left. Does regs memory left bytes) regs memory fault) before after) → OverHost (Takes by_input regs memory fault) before after
  print_takes_so bytes before after fault same over =
      over_weaken (Takes (λ left. Does regs memory left bytes) regs memory fault) (Takes by_input regs memory fault) before after (over regs memory)
      (λ input left out h. takes_same (λ left. Does regs memory left bytes) by_input regs memory fault input left out (same input) h)

  pub print_part : (bytes : List ℕ) (before after : World) → ((left : List ℕ) → Does regs memory left bytes ≡ by_input left) → OverHost (λ input left part. (input ≡ left) × IsPrefix part bytes) before after → OverHost (TakesPart by_input) before after
  print_part bytes before after same over =
      over_weaken (λ input left part. (input ≡ left) × IsPrefix part bytes) (TakesPart by_input) before after over
      (λ input left part h. subst (λ e. IsPrefix part (effect_prints e)) (same input) h.1)

-- an operation from its sources' registers is one from the numbers that they hold
module _ (act : Act) (base : ℕ) (regs : List ℤ) (memory : List ℕ) (x y : ℤ) (first : x ≡ number_in regs (first_source act)) (second : y ≡ number_in regs (second_source act)) where
  same_effect : (left : List ℕ) → effect_by act base regs memory left x y ≡ effect_of act base regs memory left
  unfolding effect_of
  same_effect left =
      ap (λ v. effect_by act base regs memory left v y) first
      ∙ ap (λ v. effect_by act base regs memory left (number_in regs (first_source act)) v) second

  pub act_takes : (new : List ℤ) (now : List ℕ) (fault : Option FaultKind) (before after : World) → OverHost (Takes (by_input act base regs memory x y) new now fault) before after → OverHost (Takes (effect_of act base regs memory) new now fault) before after
  act_takes new now fault before after over =
      over_weaken (Takes (by_input act base regs memory x y) new now fault) (Takes (effect_of act base regs memory) new now fault) before after over
      (λ input left out h. takes_same (by_input act base regs memory x y) (effect_of act base regs memory) new now fault input left out (same_effect input) h)

  pub act_part : (before after : World) → OverHost (TakesPart (by_input act base regs memory x y)) before after → OverHost (TakesPart (effect_of act base regs memory)) before after
  act_part before after over =
      over_weaken (TakesPart (by_input act base regs memory x y)) (TakesPart (effect_of act base regs memory)) before after over
      (λ input left part h. subst (λ e. IsPrefix part (effect_prints e)) (same_effect input) h)
