-- A word asks the host no more often than it has operations for input and output.
use Rattle.std.proofs.Common.{◌≡◌, ℕ, zero, suc, ◌≤◌, ℤ, Bool, true, false, List, [], ◌∷◌, map, take, Option, Some, None, refl, sym, ap, ◌∙◌, arith}
use Rattle.std.specs.Prelude.{if◌then◌else◌}
use Rattle.ib_meaning.specs.declared.fault.FaultKind.{FaultKind}
use Rattle.machine_desc.specs.declared.machine.OpClass.TheVariants.{Io}
use Rattle.ib_act.specs.declared.act.Act.{Act}
use Rattle.ib_act.specs.declared.act.Act.TheVariants.{Get, PutByte as PutsByte, PutNumber as PutsNumber}
use Rattle.wide_core.specs.declared.code.Loc.{Loc}
use Rattle.wide_core.specs.declared.code.Tagged.{Tagged}
use Rattle.wide_core.specs.declared.code.WideAct.{WideAct}
use Rattle.wide_core.specs.declared.code.WideAct.TheVariants.{Do, Spill, Reload, Check, Jump, Branch, BranchZero, Call as Calls, Return as Returns}
use Rattle.wide_core.specs.declared.code.WideOp.{WideOp}
use Rattle.wide_core.specs.declared.tags.Done.{Done}
use Rattle.wide_core.specs.declared.tags.Done.TheVariants.{Value, Marked, Report as Reports}
use Rattle.wide_core.specs.Classes.{class_of, class_of_act}
use Rattle.wide_core.specs.Operation.{Around, Effect, Nothing, Print, Go, To, Take as TakeInto, does, does_act, effect_by, effect_on, is_zero, keeps_mark, shown, target}
use Rattle.wide_core.specs.Tagged.{number_of}
use Rattle.wide_core.specs.Valid.{count_of, same_class}
use Rattle.wide_core.specs.Word.{effect, effects}
use Rattle.wide_sim.specs.declared.planned.Planned.{Planned}
use Rattle.wide_sim.specs.declared.planned.Planned.TheVariants.{Idle, Write, Save, Take, PutByte, PutNumber, Jump, Call, Return, Report}
use Rattle.wide_sim.specs.Effects.{asks, asking}
use Rattle.wide_sim.specs.Planned.{effect_of}

abbrev asks_by : Effect → Bool
asks_by (TakeInto to) = true
asks_by (Print text) = true
asks_by e = false

asks_is : (places : Loc → Tagged) (f : Planned) → asks_by (effect_of places f) ≡ asks f
asks_is places Idle = refl
asks_is places (Write to value) = refl
asks_is places (Save width address value) = refl
asks_is places (Take to) = refl
asks_is places (PutByte byte) = refl
asks_is places (PutNumber z) = refl
asks_is places (Jump to) = refl
asks_is places (Call result func next args) = refl
asks_is places (Return z) = refl
asks_is places (Report number kind) = refl

abbrev is_io : WideAct → Bool
is_io act = same_class Io (class_of act)

marks_ask_none : (to : Option Loc) (number : ℕ) (kind : FaultKind) → asks_by (keeps_mark to number kind) ≡ false
marks_ask_none None number kind = refl
marks_ask_none (Some to) number kind = refl

shown_asks : (act : WideAct) (numbers : List ℤ) (done : Done) → ((v : ℤ) → asks_by (does act numbers v) ≡ true → is_io act ≡ true) → asks_by (shown act numbers done) ≡ true → is_io act ≡ true
shown_asks act numbers (Value v) by h = by v h
shown_asks act numbers (Marked number kind) by h = let none = marks_ask_none (target act) number kind in cc
shown_asks act numbers (Reports number kind) by h = cc

act_asks : (act : Act) (x v : ℤ) → asks_by (does_act act x v) ≡ true → same_class Io (class_of_act act) ≡ true
act_asks (Get to) x v h = refl
act_asks (PutsByte from) x v h = refl
act_asks (PutsNumber from) x v h = refl
act_asks act x v h = cc

neither_asks : (b : Bool) (e f : Effect) → asks_by e ≡ false → asks_by f ≡ false → asks_by (if b then e else f) ≡ false
neither_asks true e f he hf = he
neither_asks false e f he hf = hf

-- what does not ask where it does its work does not ask at all
none_asks : (act : WideAct) (numbers : List ℤ) (done : Done) → ((v : ℤ) → asks_by (does act numbers v) ≡ false) → asks_by (shown act numbers done) ≡ true → is_io act ≡ true
none_asks act numbers done none h = shown_asks act numbers done (λ v g. differ (asks_by (does act numbers v)) (none v) g) h
  where
    differ : (b : Bool) → b ≡ false → b ≡ true → is_io act ≡ true
    differ true is g = cc
    differ false is g = cc

by_asks : (act : WideAct) (op : WideOp) (around : Around) (values : List Tagged) → asks_by (effect_by act op around values) ≡ true → is_io act ≡ true
by_asks (Do act) op around values h = shown_asks (Do act) (map number_of values) _ (λ v. act_asks act _ v) h
by_asks (Spill to from) op around values h = cc
by_asks (Reload to from) op around values h = cc
by_asks (Check from) op around values h = none_asks (Check from) (map number_of values) _ (λ v. refl) h
by_asks (Jump to) op around values h = none_asks (Jump to) (map number_of values) _ (λ v. refl) h
by_asks (Branch from to) op around values h = none_asks (Branch from to) (map number_of values) _ (λ v. neither_asks (is_zero v) Nothing (Go (To to)) refl refl) h
by_asks (BranchZero from to) op around values h = none_asks (BranchZero from to) (map number_of values) _ (λ v. neither_asks (is_zero v) (Go (To to)) Nothing refl refl) h
by_asks (Calls result func next args) op around values h = none_asks (Calls result func next args) (map number_of values) _ (λ v. refl) h
by_asks (Returns from) op around values h = none_asks (Returns from) (map number_of values) _ (λ v. refl) h

op_asks : (around : Around) (places : Loc → Tagged) (op : WideOp) → asks_by (effect around places op) ≡ true → is_io op.act ≡ true
unfolding effect_on
op_asks around places op h = by_asks op.act op around _ h

counted : (a b : Bool) (m n : ℕ) → (a ≡ true → b ≡ true) → m ≤ n → (if a then suc m else m) ≤ (if b then suc n else n)
counted true b m n h le = ap_counted b (h refl)
  where
    ap_counted : (b : Bool) → b ≡ true → suc m ≤ (if b then suc n else n)
    ap_counted true is = omega arith
    ap_counted false is = cc
counted false true m n h le = omega arith
counted false false m n h le = le

module _ (around : Around) (places : Loc → Tagged) where
  pub asking_few : (fs : List Planned) (ops : List WideOp) → map (effect_of places) fs ≡ effects around places ops → asking fs ≤ count_of Io ops
  asking_few [] [] is = omega arith
  asking_few [] (op ∷ ops) is = cc
  asking_few (f ∷ fs) [] is = cc
  asking_few (f ∷ fs) (op ∷ ops) is =
      let first : effect_of places f ≡ effect around places op = cc in
      let rest : map (effect_of places) fs ≡ effects around places ops = cc in
      counted (asks f) (is_io op.act) (asking fs) (count_of Io ops) (λ h. op_asks around places op (sym (ap asks_by first) ∙ asks_is places f ∙ h)) (asking_few fs ops rest)

-- the first of them ask no more often
pub asking_take : (n : ℕ) (fs : List Planned) → asking (take n fs) ≤ asking fs
asking_take zero fs = omega arith
asking_take (suc n) [] = omega arith
asking_take (suc n) (f ∷ fs) = counted (asks f) (asks f) (asking (take n fs)) (asking fs) (λ h. h) (asking_take n fs)
