-- Operations with their registers renamed: the sources by `from`, the destination by `to`; a call's destination gets a place,
-- and `hop` gives each word its new number.
use Rattle.std.specs.Prelude.{ℕ, map, Option, Some, None}
use Rattle.ib_act.specs.declared.act.Act.{Act}
use Rattle.ib_act.specs.declared.act.Act.TheVariants.{Const, Mov, Add, Sub, And, Or, Xor, ShiftLeft, ShiftRight, Equal, NotEqual, Less, LessEqual, ExtByte, ExtFour, FrameAddress, Bounds, Mul, Div, Rem, Load, Store, Get, PutByte, PutNumber}
use Rattle.wide_core.specs.declared.code.Loc.{Loc}
use Rattle.wide_core.specs.declared.code.Loc.TheVariants.{Reg, Slot}
use Rattle.wide_core.specs.declared.code.WideAct.{WideAct}
use Rattle.wide_core.specs.declared.code.WideAct.TheVariants.{Do, Spill, Reload, Check, Jump, Branch, BranchZero, Call, Return}
use Rattle.wide_core.specs.declared.code.WideOp.{WideOp}
use Rattle.wide_core.specs.Operation.{Exit, To, Into, Effect, Nothing, Write, Save, Take, Print, Go, Leave, Stop}

abbrev pub act_moved : (from to : ℕ → ℕ) → Act → Act
act_moved from to (Const d v) = Const (to d) v
act_moved from to (Mov d a) = Mov (to d) (from a)
act_moved from to (Add z d a b) = Add z (to d) (from a) (from b)
act_moved from to (Sub z d a b) = Sub z (to d) (from a) (from b)
act_moved from to (And d a b) = And (to d) (from a) (from b)
act_moved from to (Or d a b) = Or (to d) (from a) (from b)
act_moved from to (Xor d a b) = Xor (to d) (from a) (from b)
act_moved from to (ShiftLeft z d a b) = ShiftLeft z (to d) (from a) (from b)
act_moved from to (ShiftRight z d a b) = ShiftRight z (to d) (from a) (from b)
act_moved from to (Equal d a b) = Equal (to d) (from a) (from b)
act_moved from to (NotEqual d a b) = NotEqual (to d) (from a) (from b)
act_moved from to (Less d a b) = Less (to d) (from a) (from b)
act_moved from to (LessEqual d a b) = LessEqual (to d) (from a) (from b)
act_moved from to (ExtByte d a) = ExtByte (to d) (from a)
act_moved from to (ExtFour d a) = ExtFour (to d) (from a)
act_moved from to (FrameAddress d o) = FrameAddress (to d) o
act_moved from to (Bounds d a n) = Bounds (to d) (from a) n
act_moved from to (Mul z d a b) = Mul z (to d) (from a) (from b)
act_moved from to (Div z d a b) = Div z (to d) (from a) (from b)
act_moved from to (Rem z d a b) = Rem z (to d) (from a) (from b)
act_moved from to (Load w d a o) = Load w (to d) (from a) o
act_moved from to (Store w a o b) = Store w (from a) o (from b)
act_moved from to (Get d) = Get (to d)
act_moved from to (PutByte a) = PutByte (from a)
act_moved from to (PutNumber a) = PutNumber (from a)

abbrev pub opt_moved : (ℕ → ℕ) → Option ℕ → Option ℕ
opt_moved f None = None
opt_moved f (Some r) = Some (f r)

-- a call's destination becomes its place itself
abbrev pub result_moved : (place : ℕ → Loc) → Option Loc → Option Loc
result_moved place None = None
result_moved place (Some (Reg d)) = Some (place d)
result_moved place (Some (Slot n)) = Some (Slot n)

abbrev pub wide_moved : (from to : ℕ → ℕ) (place : ℕ → Loc) (hop : ℕ → ℕ) → WideAct → WideAct
wide_moved from to place hop (Do act) = Do (act_moved from to act)
wide_moved from to place hop (Spill n a) = Spill n (from a)
wide_moved from to place hop (Reload d n) = Reload (to d) n
wide_moved from to place hop (Check a) = Check (from a)
wide_moved from to place hop (Jump w) = Jump (hop w)
wide_moved from to place hop (Branch a w) = Branch (from a) (hop w)
wide_moved from to place hop (BranchZero a w) = BranchZero (from a) (hop w)
wide_moved from to place hop (Call result func next args) = Call (result_moved place result) func (hop next) (map from args)
wide_moved from to place hop (Return a) = Return (opt_moved from a)

abbrev pub loc_moved : (ℕ → ℕ) → Loc → Loc
loc_moved to (Reg d) = Reg (to d)
loc_moved to (Slot n) = Slot n

abbrev pub exit_moved : (place : ℕ → Loc) (hop : ℕ → ℕ) → Exit → Exit
exit_moved place hop (To w) = To (hop w)
exit_moved place hop (Into func next result args) = Into func (hop next) (result_moved place result) args

abbrev pub effect_moved : (to : ℕ → ℕ) (place : ℕ → Loc) (hop : ℕ → ℕ) → Effect → Effect
effect_moved to place hop Nothing = Nothing
effect_moved to place hop (Write d v) = Write (loc_moved to d) v
effect_moved to place hop (Save w a v) = Save w a v
effect_moved to place hop (Take d) = Take (to d)
effect_moved to place hop (Print text) = Print text
effect_moved to place hop (Go x) = Go (exit_moved place hop x)
effect_moved to place hop (Leave z) = Leave z
effect_moved to place hop (Stop n k) = Stop n k

abbrev pub with_act : WideOp → WideAct → WideOp
with_act op act = record { number = op.number; home = op.home; flagged = op.flagged; act = act }
