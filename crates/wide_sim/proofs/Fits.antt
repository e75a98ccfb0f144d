-- The effects of operations that keep the rules stay within what their function has, and a word's last effects lead on.
use Rattle.std.proofs.Common.{◌≡◌, ℕ, suc, pos, Bool, true, false, ◌||◌, not, nat_lt, List, [], ◌∷◌, ◌++◌, length, map, Option, Some, None, Result, Ok, Err, ℤ, refl, sym, ap, ◌∙◌}
use Rattle.std.specs.Prelude.{if◌then◌else◌}
use Rattle.std.specs.List.{list_all, list_any}
use Rattle.ib_meaning.specs.declared.fault.FaultKind.{FaultKind}
use Rattle.ib_meaning.specs.declared.fault.FaultKind.TheVariants.{StackOverflow}
use Rattle.ib_act.specs.declared.act.Act.{Act}
use Rattle.ib_act.specs.declared.act.Act.TheVariants.{Const, Mov, Add, Sub, And, Or, Xor, ShiftLeft, ShiftRight, Equal, NotEqual, Less, LessEqual, ExtByte, ExtFour, FrameAddress, Bounds, Mul, Div, Rem, Load, Store, Get, PutByte, PutNumber}
use Rattle.wide_core.specs.declared.code.Loc.{Loc}
use Rattle.wide_core.specs.declared.code.Loc.TheVariants.{Reg, Slot}
use Rattle.wide_core.specs.declared.code.Tagged.{Tagged}
use Rattle.wide_core.specs.declared.code.Tagged.TheVariants.{Clear, Mark}
use Rattle.wide_core.specs.declared.code.WideAct.{WideAct}
use Rattle.wide_core.specs.declared.code.WideAct.TheVariants.{Do, Spill, Reload, Check, Jump, Branch, BranchZero, Call, Return}
use Rattle.wide_core.specs.declared.code.WideOp.{WideOp}
use Rattle.wide_core.specs.declared.tags.Done.{Done}
use Rattle.wide_core.specs.declared.tags.Done.TheVariants.{Value, Marked, Report}
use Rattle.wide_core.specs.Classes.{is_register}
use Rattle.wide_core.specs.Cycle.{touched, target_if}
use Rattle.wide_core.specs.Operation.{Around, Effect, Nothing, Go, Leave, Stop, To, sources, target, does, does_act, is_zero, shown, keeps_mark, effect_by, effect_on, first_of}
use Rattle.wide_core.specs.Tagged.{number_of, least_mark, evaluated}
use Rattle.wide_core.specs.Valid.{Scope, is_within, goes_within, calls_well, takes, always_leaves}
use Rattle.wide_core.specs.Word.{effect, effects}
use Rattle.wide_sim.specs.EffectFits.{effect_fits}
use Rattle.wide_core.proofs.Both.{both, both_first, both_second}
use Rattle.wide_core.proofs.Kept.{op_kept}
use Rattle.std.specs.Prelude.{slice_get}

module _ (scope : Scope) (around : Around) where
  abbrev fits : Effect → Bool
  fits e = effect_fits scope around.room e

  mark_fits : (to : Option Loc) (n : ℕ) (k : FaultKind) → list_all (is_within scope.regs scope.slots) (target_if to) ≡ true → fits (keeps_mark to n k) ≡ true
  mark_fits None n k h = refl
  mark_fits (Some to) n k h = both_first (is_within scope.regs scope.slots to) _ h

  target_of : (to : Option Loc) (rest : List Loc) → list_all (is_within scope.regs scope.slots) (target_if to ++ rest) ≡ true → list_all (is_within scope.regs scope.slots) (target_if to) ≡ true
  target_of None rest h = refl
  target_of (Some to) rest h = both (is_within scope.regs scope.slots to) true (both_first (is_within scope.regs scope.slots to) _ h) refl

  shown_fits : (act : WideAct) (numbers : List ℤ) (done : Done) → ((v : ℤ) → fits (does act numbers v) ≡ true) → list_all (is_within scope.regs scope.slots) (touched act) ≡ true → fits (shown act numbers done) ≡ true
  shown_fits act numbers (Value v) h t = h v
  shown_fits act numbers (Marked n k) h t = mark_fits (target act) n k (target_of (target act) (sources act) t)
  shown_fits act numbers (Report n k) h t = refl

  act_fits : (act : Act) (x v : ℤ) → list_all (is_within scope.regs scope.slots) (touched (Do act)) ≡ true → fits (does_act act x v) ≡ true
  act_fits act x v h = value_fits act x v h
    where
      value_fits : (a : Act) (x v : ℤ) → list_all (is_within scope.regs scope.slots) (touched (Do a)) ≡ true → fits (does_act a x v) ≡ true
      value_fits (Const to value) x v h = both_first (nat_lt to scope.regs) _ h
      value_fits (Mov to from) x v h = both_first (nat_lt to scope.regs) _ h
      value_fits (Add size to left right) x v h = both_first (nat_lt to scope.regs) _ h
      value_fits (Sub size to left right) x v h = both_first (nat_lt to scope.regs) _ h
      value_fits (And to left right) x v h = both_first (nat_lt to scope.regs) _ h
      value_fits (Or to left right) x v h = both_first (nat_lt to scope.regs) _ h
      value_fits (Xor to left right) x v h = both_first (nat_lt to scope.regs) _ h
      value_fits (ShiftLeft size to left right) x v h = both_first (nat_lt to scope.regs) _ h
      value_fits (ShiftRight size to left right) x v h = both_first (nat_lt to scope.regs) _ h
      value_fits (Equal to left right) x v h = both_first (nat_lt to scope.regs) _ h
      value_fits (NotEqual to left right) x v h = both_first (nat_lt to scope.regs) _ h
      value_fits (Less to left right) x v h = both_first (nat_lt to scope.regs) _ h
      value_fits (LessEqual to left right) x v h = both_first (nat_lt to scope.regs) _ h
      value_fits (ExtByte to from) x v h = both_first (nat_lt to scope.regs) _ h
      value_fits (ExtFour to from) x v h = both_first (nat_lt to scope.regs) _ h
      value_fits (FrameAddress to offset) x v h = both_first (nat_lt to scope.regs) _ h
      value_fits (Bounds to from bound) x v h = both_first (nat_lt to scope.regs) _ h
      value_fits (Mul size to left right) x v h = both_first (nat_lt to scope.regs) _ h
      value_fits (Div size to left right) x v h = both_first (nat_lt to scope.regs) _ h
      value_fits (Rem size to left right) x v h = both_first (nat_lt to scope.regs) _ h
      value_fits (Load width to base offset) x v h = both_first (nat_lt to scope.regs) _ h
      value_fits (Store width base offset from) x v h = refl
      value_fits (Get to) x v h = both_first (nat_lt to scope.regs) _ h
      value_fits (PutByte from) x v h = refl
      value_fits (PutNumber from) x v h = refl

  either_fits : (b : Bool) (e f : Effect) → fits e ≡ true → fits f ≡ true → fits (if b then e else f) ≡ true
  either_fits true e f g h = g
  either_fits false e f g h = h

  call_fits : (result : Option Loc) (func next : ℕ) (args : List ℕ) (numbers : List ℤ) (flagged : Bool) (number : ℕ) (mark : Tagged) (b : Bool) → around.room func ≡ b
      → list_all (is_within scope.regs scope.slots) (target_if result) ≡ true → nat_lt next scope.words ≡ true → takes (slice_get scope.funcs func) (length numbers) ≡ true
      → fits (shown (Call result func next args) numbers (evaluated flagged number mark (if b then Ok (pos 0) else Err StackOverflow))) ≡ true
  call_fits result func next args numbers true number (Mark n k) b room t w c = mark_fits result n k t
  call_fits result func next args numbers false number (Mark n k) b room t w c = refl
  call_fits result func next args numbers true number (Clear x) false room t w c = mark_fits result number StackOverflow t
  call_fits result func next args numbers false number (Clear x) false room t w c = refl
  call_fits result func next args numbers true number (Clear x) true room t w c = both _ _ (both _ _ w t) (both _ _ c room)
  call_fits result func next args numbers false number (Clear x) true room t w c = both _ _ (both _ _ w t) (both _ _ c room)

  numbers_count : (places : Loc → Tagged) (args : List ℕ) → length args ≡ length (map number_of (map places (map (λ r. Reg r) args)))
  numbers_count places [] = refl
  numbers_count places (a ∷ args) = ap suc (numbers_count places args)

  act_effect_fits : (act : WideAct) (op : WideOp) (places : Loc → Tagged) → list_all (is_within scope.regs scope.slots) (touched act) ≡ true → goes_within scope.words act ≡ true → calls_well scope.funcs act ≡ true
      → fits (effect_by act op around (map places (sources act))) ≡ true
  act_effect_fits (Do act) op places t w c = shown_fits (Do act) (map number_of (map places (sources (Do act)))) _ (λ v. act_fits act _ v t) t
  act_effect_fits (Spill to from) op places t w c = both_first (is_within scope.regs scope.slots (Slot to)) _ t
  act_effect_fits (Reload to from) op places t w c = both_first (is_within scope.regs scope.slots (Reg to)) _ t
  act_effect_fits (Check from) op places t w c = shown_fits (Check from) (map number_of (map places (sources (Check from)))) _ (λ v. refl) t
  act_effect_fits (Jump to) op places t w c = shown_fits (Jump to) (map number_of (map places (sources (Jump to)))) _ (λ v. w) t
  act_effect_fits (Branch from to) op places t w c = shown_fits (Branch from to) (map number_of (map places (sources (Branch from to)))) _ (λ v. either_fits (is_zero v) Nothing (Go (To to)) refl w) t
  act_effect_fits (BranchZero from to) op places t w c = shown_fits (BranchZero from to) (map number_of (map places (sources (BranchZero from to)))) _ (λ v. either_fits (is_zero v) (Go (To to)) Nothing w refl) t
  act_effect_fits (Call result func next args) op places t w c =
      call_fits result func next args (map number_of (map places (map (λ r. Reg r) args))) op.flagged op.number _ (around.room func) refl (target_of result (map (λ r. Reg r) args) t) w
      (ap (λ n. takes (slice_get scope.funcs func) n) (sym (numbers_count places args)) ∙ c)
  act_effect_fits (Return from) op places t w c = shown_fits (Return from) (map number_of (map places (sources (Return from)))) _ (λ v. refl) t

  pub op_effect_fits : (op : WideOp) (places : Loc → Tagged) → op_kept scope op ≡ true → fits (effect around places op) ≡ true
  unfolding effect_on
  op_effect_fits op places kept =
      let abc = both_first _ (not op.flagged || is_register op.act) kept in
      let ab = both_first _ (calls_well scope.funcs op.act) abc in
      act_effect_fits op.act op places (both_first _ (goes_within scope.words op.act) ab) (both_second (list_all (is_within scope.regs scope.slots) (touched op.act)) _ ab) (both_second _ (calls_well scope.funcs op.act) abc)

  pub effects_fit : (ops : List WideOp) (places : Loc → Tagged) → list_all (op_kept scope) ops ≡ true → list_all (effect_fits scope around.room) (effects around places ops) ≡ true
  effects_fit [] places h = refl
  effects_fit (op ∷ ops) places h = both (fits (effect around places op)) _ (op_effect_fits op places (both_first (op_kept scope op) _ h)) (effects_fit ops places (both_second (op_kept scope op) _ h))

-- the effect sends control elsewhere, or stops the machine
abbrev pub is_leaving : Effect → Bool
is_leaving (Go exit) = true
is_leaving (Leave z) = true
is_leaving (Stop number kind) = true
is_leaving e = false

right : (a b : Bool) → b ≡ true → (a || b) ≡ true
right true b h = refl
right false b h = h

module _ (around : Around) where
  unflagged_leaves : (act : WideAct) (numbers : List ℤ) (number : ℕ) (mark : Tagged) (own : Result ℤ FaultKind) → ((v : ℤ) → is_leaving (does act numbers v) ≡ true) → is_leaving (shown act numbers (evaluated false number mark own)) ≡ true
  unflagged_leaves act numbers number (Mark n k) own h = refl
  unflagged_leaves act numbers number (Clear x) (Ok v) h = h v
  unflagged_leaves act numbers number (Clear x) (Err k) h = refl

  act_leaves : (act : WideAct) (op : WideOp) (values : List Tagged) → always_leaves (record op { act = act }) ≡ true → (not op.flagged || is_register act) ≡ true → is_leaving (effect_by act op around values) ≡ true
  act_leaves (Do act) op values h f = cc
  act_leaves (Spill to from) op values h f = cc
  act_leaves (Reload to from) op values h f = cc
  act_leaves (Check from) op values h f = cc
  act_leaves (Jump to) op values h f = by_flag op.flagged f
    where
      by_flag : (b : Bool) → (not b || false) ≡ true → is_leaving (shown (Jump to) (map number_of values) (evaluated b op.number (least_mark values) (Ok (first_of (map number_of values))))) ≡ true
      by_flag false g = unflagged_leaves (Jump to) (map number_of values) op.number (least_mark values) _ (λ v. refl)
      by_flag true g = cc
  act_leaves (Branch from to) op values h f = cc
  act_leaves (BranchZero from to) op values h f = cc
  act_leaves (Call result func next args) op values h f = by_flag op.flagged f
    where
      by_flag : (b : Bool) → (not b || false) ≡ true → is_leaving (shown (Call result func next args) (map number_of values) (evaluated b op.number (least_mark values) (if around.room func then Ok (pos 0) else Err StackOverflow))) ≡ true
      by_flag false g = unflagged_leaves (Call result func next args) (map number_of values) op.number (least_mark values) _ (λ v. refl)
      by_flag true g = cc
  act_leaves (Return from) op values h f = by_flag op.flagged f
    where
      by_flag : (b : Bool) → (not b || false) ≡ true → is_leaving (shown (Return from) (map number_of values) (evaluated b op.number (least_mark values) (Ok (first_of (map number_of values))))) ≡ true
      by_flag false g = unflagged_leaves (Return from) (map number_of values) op.number (least_mark values) _ (λ v. refl)
      by_flag true g = cc

  pub effects_leave : (scope : Scope) (ops : List WideOp) (places : Loc → Tagged) → list_any always_leaves ops ≡ true → list_all (op_kept scope) ops ≡ true → list_any is_leaving (effects around places ops) ≡ true
  unfolding effect_on
  effects_leave scope [] places h kept = cc
  effects_leave scope (op ∷ ops) places h kept =
      by_one (always_leaves op) refl (λ rest. effects_leave scope ops places rest (both_second (op_kept scope op) _ kept)) h
    where
      here : always_leaves op ≡ true → is_leaving (effect around places op) ≡ true
      here e = act_leaves op.act op (map places (sources op.act)) e (both_second _ (not op.flagged || is_register op.act) (both_first (op_kept scope op) _ kept))

      by_one : (b : Bool) → always_leaves op ≡ b → (list_any always_leaves ops ≡ true → list_any is_leaving (effects around places ops) ≡ true) → (b || list_any always_leaves ops) ≡ true → (is_leaving (effect around places op) || list_any is_leaving (effects around places ops)) ≡ true
      by_one true e rest g = ap (λ c. c || list_any is_leaving (effects around places ops)) (here e)
      by_one false e rest g = right (is_leaving (effect around places op)) (list_any is_leaving (effects around places ops)) (rest g)
