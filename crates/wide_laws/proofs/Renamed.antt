-- A renamed operation has the renamed effect, and marks stay known.
use Rattle.std.proofs.Common.{◌≡◌, ℕ, Bool, true, false, List, [], ◌∷◌, ◌++◌, map, Option, Some, None, Result, Ok, Err, if◌then◌else◌, ℤ, pos, refl, ap, ap₂, ◌∙◌}
use Rattle.ib_meaning.specs.declared.fault.FaultKind.{FaultKind}
use Rattle.ib_base.specs.declared.integers.Width.{Width}
use Rattle.ib_act.specs.declared.act.Act.{Act}
use Rattle.ib_act.specs.declared.act.Act.TheVariants.{Const, Mov, Add, Sub, And, Or, Xor, ShiftLeft, ShiftRight, Equal, NotEqual, Less, LessEqual, ExtByte, ExtFour, FrameAddress, Bounds, Mul, Div, Rem, Load, Store, Get, PutByte, PutNumber}
use Rattle.ib_act.specs.Acts.{first_source, second_source, target as act_target}
use Rattle.wide_core.specs.declared.code.Loc.{Loc}
use Rattle.wide_core.specs.declared.code.Loc.TheVariants.{Reg}
use Rattle.wide_core.specs.declared.code.Tagged.{Tagged}
use Rattle.wide_core.specs.declared.code.Tagged.TheVariants.{Clear, Mark}
use Rattle.wide_core.specs.declared.code.WideAct.{WideAct}
use Rattle.wide_core.specs.declared.code.WideAct.TheVariants.{Do, Spill, Reload, Check, Jump, Branch, BranchZero, Call, Return}
use Rattle.wide_core.specs.declared.code.WideOp.{WideOp}
use Rattle.wide_core.specs.declared.tags.Done.{Done}
use Rattle.wide_core.specs.declared.tags.Done.TheVariants.{Value, Marked, Report}
use Rattle.wide_core.specs.Tagged.{number_of, comes_before, first_mark, least_mark, evaluated}
use Rattle.wide_core.specs.Operation.{reg_if, reg_of, sources, target, Exit, To, Effect, Nothing, Write, Save, Take, Print, Go, Leave, Stop, own, own_by, is_zero, writes, does_act, does, keeps_mark, shown, value_of, Around, by_rule, effect_by, effect_on}
use Rattle.wide_core.specs.Every.{Every, Nil, Cons}
use Rattle.wide_core.specs.Renamed.{act_moved, opt_moved, wide_moved, effect_moved, with_act}
use Rattle.wide_core.specs.Uses.{opt_list, reads}

abbrev pub is_do : WideAct → Bool
is_do (Do act) = true
is_do act = false

module _ (from to : ℕ → ℕ) (place : ℕ → Loc) (hop : ℕ → ℕ) where
  abbrev M : Effect → Effect
  M = effect_moved to place hop

  abbrev W : WideAct → WideAct
  W = wide_moved from to place hop

  abbrev A : Act → Act
  A = act_moved from to

  target_moved : (act : Act) → act_target (A act) ≡ opt_moved to (act_target act)
  target_moved = elim [ Const d v ↦ refl | Mov d a ↦ refl | Add z d a b ↦ refl | Sub z d a b ↦ refl | And d a b ↦ refl | Or d a b ↦ refl | Xor d a b ↦ refl | ShiftLeft z d a b ↦ refl | ShiftRight z d a b ↦ refl | Equal d a b ↦ refl | NotEqual d a b ↦ refl | Less d a b ↦ refl | LessEqual d a b ↦ refl | ExtByte d a ↦ refl | ExtFour d a ↦ refl | FrameAddress d o ↦ refl | Bounds d a n ↦ refl | Mul z d a b ↦ refl | Div z d a b ↦ refl | Rem z d a b ↦ refl | Load w d a o ↦ refl | Store w a o b ↦ refl | Get d ↦ refl | PutByte a ↦ refl | PutNumber a ↦ refl ]

  first_moved : (act : Act) → first_source (A act) ≡ opt_moved from (first_source act)
  first_moved = elim [ Const d v ↦ refl | Mov d a ↦ refl | Add z d a b ↦ refl | Sub z d a b ↦ refl | And d a b ↦ refl | Or d a b ↦ refl | Xor d a b ↦ refl | ShiftLeft z d a b ↦ refl | ShiftRight z d a b ↦ refl | Equal d a b ↦ refl | NotEqual d a b ↦ refl | Less d a b ↦ refl | LessEqual d a b ↦ refl | ExtByte d a ↦ refl | ExtFour d a ↦ refl | FrameAddress d o ↦ refl | Bounds d a n ↦ refl | Mul z d a b ↦ refl | Div z d a b ↦ refl | Rem z d a b ↦ refl | Load w d a o ↦ refl | Store w a o b ↦ refl | Get d ↦ refl | PutByte a ↦ refl | PutNumber a ↦ refl ]

  second_moved : (act : Act) → second_source (A act) ≡ opt_moved from (second_source act)
  second_moved = elim [ Const d v ↦ refl | Mov d a ↦ refl | Add z d a b ↦ refl | Sub z d a b ↦ refl | And d a b ↦ refl | Or d a b ↦ refl | Xor d a b ↦ refl | ShiftLeft z d a b ↦ refl | ShiftRight z d a b ↦ refl | Equal d a b ↦ refl | NotEqual d a b ↦ refl | Less d a b ↦ refl | LessEqual d a b ↦ refl | ExtByte d a ↦ refl | ExtFour d a ↦ refl | FrameAddress d o ↦ refl | Bounds d a n ↦ refl | Mul z d a b ↦ refl | Div z d a b ↦ refl | Rem z d a b ↦ refl | Load w d a o ↦ refl | Store w a o b ↦ refl | Get d ↦ refl | PutByte a ↦ refl | PutNumber a ↦ refl ]

  own_moved : (act : Act) (base : ℕ) (memory : List ℕ) (x y : ℤ) → own_by (A act) base memory x y ≡ own_by act base memory x y
  own_moved = elim [ Const d v ↦ λ b m x y. refl | Mov d a ↦ λ b m x y. refl | Add z d a b ↦ λ b m x y. refl | Sub z d a b ↦ λ b m x y. refl | And d a b ↦ λ b m x y. refl | Or d a b ↦ λ b m x y. refl | Xor d a b ↦ λ b m x y. refl | ShiftLeft z d a b ↦ λ b m x y. refl | ShiftRight z d a b ↦ λ b m x y. refl | Equal d a b ↦ λ b m x y. refl | NotEqual d a b ↦ λ b m x y. refl | Less d a b ↦ λ b m x y. refl | LessEqual d a b ↦ λ b m x y. refl | ExtByte d a ↦ λ b m x y. refl | ExtFour d a ↦ λ b m x y. refl | FrameAddress d o ↦ λ b m x y. refl | Bounds d a n ↦ λ b m x y. refl | Mul z d a b ↦ λ b m x y. refl | Div z d a b ↦ λ b m x y. refl | Rem z d a b ↦ λ b m x y. refl | Load w d a o ↦ λ b m x y. refl | Store w a o b ↦ λ b m x y. refl | Get d ↦ λ b m x y. refl | PutByte a ↦ λ b m x y. refl | PutNumber a ↦ λ b m x y. refl ]

  does_moved : (act : Act) (x v : ℤ) → does_act (A act) x v ≡ M (does_act act x v)
  does_moved = elim [ Const d v ↦ λ x v. refl | Mov d a ↦ λ x v. refl | Add z d a b ↦ λ x v. refl | Sub z d a b ↦ λ x v. refl | And d a b ↦ λ x v. refl | Or d a b ↦ λ x v. refl | Xor d a b ↦ λ x v. refl | ShiftLeft z d a b ↦ λ x v. refl | ShiftRight z d a b ↦ λ x v. refl | Equal d a b ↦ λ x v. refl | NotEqual d a b ↦ λ x v. refl | Less d a b ↦ λ x v. refl | LessEqual d a b ↦ λ x v. refl | ExtByte d a ↦ λ x v. refl | ExtFour d a ↦ λ x v. refl | FrameAddress d o ↦ λ x v. refl | Bounds d a n ↦ λ x v. refl | Mul z d a b ↦ λ x v. refl | Div z d a b ↦ λ x v. refl | Rem z d a b ↦ λ x v. refl | Load w d a o ↦ λ x v. refl | Store w a o b ↦ λ x v. refl | Get d ↦ λ x v. refl | PutByte a ↦ λ x v. refl | PutNumber a ↦ λ x v. refl ]

  mark_moved : (o : Option ℕ) (n : ℕ) (k : FaultKind) → keeps_mark (reg_of (opt_moved to o)) n k ≡ M (keeps_mark (reg_of o) n k)
  mark_moved None n k = refl
  mark_moved (Some d) n k = refl

  if_moved : (b : Bool) (e f : Effect) → (if b then M e else M f) ≡ M (if b then e else f)
  if_moved true e f = refl
  if_moved false e f = refl

  -- what is flagged writes a register, or nothing
  shown_moved : (act : WideAct) (numbers : List ℤ) (d : Done) → ((n : ℕ) (k : FaultKind) → d ≡ Marked n k → keeps_mark (target (W act)) n k ≡ M (keeps_mark (target act) n k)) → shown (W act) numbers d ≡ M (shown act numbers d)
  shown_moved act numbers (Marked n k) h = h n k refl
  shown_moved act numbers (Report n k) h = refl
  shown_moved (Do act) numbers (Value v) h = does_moved act _ v
  shown_moved (Spill n a) numbers (Value v) h = refl
  shown_moved (Reload d n) numbers (Value v) h = refl
  shown_moved (Check a) numbers (Value v) h = refl
  shown_moved (Jump w) numbers (Value v) h = refl
  shown_moved (Branch a w) numbers (Value v) h = if_moved (is_zero v) Nothing (Go (To w))
  shown_moved (BranchZero a w) numbers (Value v) h = if_moved (is_zero v) (Go (To w)) Nothing
  shown_moved (Call result func next args) numbers (Value v) h = refl
  shown_moved (Return a) numbers (Value v) h = refl

  own_wide : (act : WideAct) (base : ℕ) (memory : List ℕ) (room : ℕ → Bool) (numbers : List ℤ) → own (W act) base memory room numbers ≡ own act base memory room numbers
  own_wide (Do act) b m room ns = own_moved act b m _ _
  own_wide (Spill n a) b m room ns = refl
  own_wide (Reload d n) b m room ns = refl
  own_wide (Check a) b m room ns = refl
  own_wide (Jump w) b m room ns = refl
  own_wide (Branch a w) b m room ns = refl
  own_wide (BranchZero a w) b m room ns = refl
  own_wide (Call result func next args) b m room ns = refl
  own_wide (Return a) b m room ns = refl

  not_marked : (number : ℕ) (t : Tagged) (own : Result ℤ FaultKind) (n : ℕ) (k : FaultKind) → evaluated false number t own ≡ Marked n k → ⊥
  not_marked number (Mark m l) own n k e = cc
  not_marked number (Clear z) (Ok v) n k e = cc
  not_marked number (Clear z) (Err f) n k e = cc

  rule_moved : (act : WideAct) (op : WideOp) (around : Around) (values : List Tagged) → ((n : ℕ) (k : FaultKind) → evaluated op.flagged op.number (least_mark values) (own act around.base around.memory around.room (map number_of values)) ≡ Marked n k → keeps_mark (target (W act)) n k ≡ M (keeps_mark (target act) n k)) → by_rule (W act) (with_act op (W act)) around values ≡ M (by_rule act op around values)
  rule_moved act op around values h =
      rw (own_wide act around.base around.memory around.room (map number_of values))
      (shown_moved act (map number_of values) (evaluated op.flagged op.number (least_mark values) (own act around.base around.memory around.room (map number_of values))) h)

  plain_mark : {P : Type 0} (flagged : Bool) (number : ℕ) (t : Tagged) (o : Result ℤ FaultKind) (n : ℕ) (k : FaultKind) → (flagged ≡ true → false ≡ true) → evaluated flagged number t o ≡ Marked n k → P
  plain_mark true number t o n k f e = let g = f refl in cc
  plain_mark false number t o n k f e = absurd (not_marked number t o n k e)

  by_moved : (act : WideAct) (op : WideOp) (around : Around) (values : List Tagged) → (op.flagged ≡ true → is_do act ≡ true) → effect_by (W act) (with_act op (W act)) around values ≡ M (effect_by act op around values)
  by_moved (Do act) op around values f =
      rule_moved (Do act) op around values (λ n k e. ap (λ o. keeps_mark (reg_of o) n k) (target_moved act) ∙ mark_moved (act_target act) n k)
  by_moved (Spill n a) op around values f = refl
  by_moved (Reload d n) op around values f = refl
  by_moved (Check a) op around values f = rule_moved (Check a) op around values (λ n k e. plain_mark op.flagged op.number _ _ n k f e)
  by_moved (Jump w) op around values f = rule_moved (Jump w) op around values (λ n k e. plain_mark op.flagged op.number _ _ n k f e)
  by_moved (Branch a w) op around values f = rule_moved (Branch a w) op around values (λ n k e. plain_mark op.flagged op.number _ _ n k f e)
  by_moved (BranchZero a w) op around values f = rule_moved (BranchZero a w) op around values (λ n k e. plain_mark op.flagged op.number _ _ n k f e)
  by_moved (Call result func next args) op around values f = rule_moved (Call result func next args) op around values (λ n k e. plain_mark op.flagged op.number _ _ n k f e)
  by_moved (Return a) op around values f = rule_moved (Return a) op around values (λ n k e. plain_mark op.flagged op.number _ _ n k f e)

  -- the renamed operation has the renamed effect
  pub on_moved : (op : WideOp) (around : Around) (values : List Tagged) → (op.flagged ≡ true → is_do op.act ≡ true) → effect_on (with_act op (W op.act)) around values ≡ M (effect_on op around values)
  unfolding effect_on
  on_moved op around values f = by_moved op.act op around values f

  -- and it reads the same values, where the renamed sources hold what the sources do
  one_value : (o : Option ℕ) (s t : Loc → Tagged) → Every (λ r. t (Reg (from r)) ≡ s (Reg r)) (opt_list o) → map t (reg_if (opt_moved from o)) ≡ map s (reg_if o)
  one_value None s t Nil = refl
  one_value (Some r) s t (Cons q qs h hs) = ap (λ v. v ∷ []) h

  two_values : (o p : Option ℕ) (s t : Loc → Tagged) → Every (λ r. t (Reg (from r)) ≡ s (Reg r)) (opt_list o ++ opt_list p) → map t (reg_if (opt_moved from o) ++ reg_if (opt_moved from p)) ≡ map s (reg_if o ++ reg_if p)
  two_values None p s t h = one_value p s t h
  two_values (Some r) p s t (Cons q qs h hs) = ap₂ (λ v vs. v ∷ vs) h (one_value p s t hs)

  all_values : (rs : List ℕ) (s t : Loc → Tagged) → Every (λ r. t (Reg (from r)) ≡ s (Reg r)) rs → map t (map (λ r. Reg r) (map from rs)) ≡ map s (map (λ r. Reg r) rs)
  all_values [] s t h = refl
  all_values (r ∷ rs) s t (Cons q qs h hs) = ap₂ (λ v vs. v ∷ vs) h (all_values rs s t hs)

  pub values_moved : (act : WideAct) (s t : Loc → Tagged) → ((d n : ℕ) → act ≡ Reload d n → ⊥) → Every (λ r. t (Reg (from r)) ≡ s (Reg r)) (reads act) → map t (sources (W act)) ≡ map s (sources act)
  values_moved (Do act) s t x h =
      ap₂ (λ o p. map t (reg_if o ++ reg_if p)) (first_moved act) (second_moved act) ∙ two_values (first_source act) (second_source act) s t h
  values_moved (Spill n a) s t x (Cons q qs h hs) = ap (λ v. v ∷ []) h
  values_moved (Reload d n) s t x h = absurd (x d n refl)
  values_moved (Check a) s t x (Cons q qs h hs) = ap (λ v. v ∷ []) h
  values_moved (Jump w) s t x h = refl
  values_moved (Branch a w) s t x (Cons q qs h hs) = ap (λ v. v ∷ []) h
  values_moved (BranchZero a w) s t x (Cons q qs h hs) = ap (λ v. v ∷ []) h
  values_moved (Call result func next args) s t x h = all_values args s t h
  values_moved (Return a) s t x h = one_value a s t h

  sources_do : (o p : Option ℕ) → reg_if (opt_moved from o) ++ reg_if (opt_moved from p) ≡ map (λ r. Reg (from r)) (opt_list o ++ opt_list p)
  sources_do None None = refl
  sources_do None (Some q) = refl
  sources_do (Some r) None = refl
  sources_do (Some r) (Some q) = refl

  sources_opt : (o : Option ℕ) → reg_if (opt_moved from o) ≡ map (λ r. Reg (from r)) (opt_list o)
  sources_opt None = refl
  sources_opt (Some r) = refl

  sources_all : (rs : List ℕ) → map (λ r. Reg r) (map from rs) ≡ map (λ r. Reg (from r)) rs
  sources_all [] = refl
  sources_all (r ∷ rs) = ap (λ xs. Reg (from r) ∷ xs) (sources_all rs)

  pub sources_moved : (act : WideAct) → ((d n : ℕ) → act ≡ Reload d n → ⊥) → sources (W act) ≡ map (λ r. Reg (from r)) (reads act)
  sources_moved (Do act) x = ap₂ (λ o p. reg_if o ++ reg_if p) (first_moved act) (second_moved act) ∙ sources_do (first_source act) (second_source act)
  sources_moved (Spill n a) x = refl
  sources_moved (Reload d n) x = absurd (x d n refl)
  sources_moved (Check a) x = refl
  sources_moved (Jump w) x = refl
  sources_moved (Branch a w) x = refl
  sources_moved (BranchZero a w) x = refl
  sources_moved (Call result func next args) x = sources_all args
  sources_moved (Return a) x = sources_opt a

source_lists : (o p : Option ℕ) → reg_if o ++ reg_if p ≡ map (λ r. Reg r) (opt_list o ++ opt_list p)
source_lists None None = refl
source_lists None (Some q) = refl
source_lists (Some r) None = refl
source_lists (Some r) (Some q) = refl

source_list : (o : Option ℕ) → reg_if o ≡ map (λ r. Reg r) (opt_list o)
source_list None = refl
source_list (Some r) = refl

pub sources_read : (act : WideAct) → ((d n : ℕ) → act ≡ Reload d n → ⊥) → sources act ≡ map (λ r. Reg r) (reads act)
sources_read (Do act) x = source_lists (first_source act) (second_source act)
sources_read (Spill n a) x = refl
sources_read (Reload d n) x = absurd (x d n refl)
sources_read (Check a) x = refl
sources_read (Jump w) x = refl
sources_read (Branch a w) x = refl
sources_read (BranchZero a w) x = refl
sources_read (Call result func next args) x = refl
sources_read (Return a) x = source_list a

-- ---- marks

module _ (Good : Tagged → Type 0) (good_clear : (z : ℤ) → Good (Clear z)) where
  pub data GoodEffect : Effect → Type 0 where
    GoodNothing : GoodEffect Nothing
    GoodWrite : (to : Loc) (v : Tagged) → Good v → GoodEffect (Write to v)
    GoodSave : (w : Width) (a z : ℤ) → GoodEffect (Save w a z)
    GoodTake : (to : ℕ) → GoodEffect (Take to)
    GoodPrint : (text : List ℕ) → GoodEffect (Print text)
    GoodGo : (x : Exit) → GoodEffect (Go x)
    GoodLeave : (z : ℤ) → GoodEffect (Leave z)
    GoodStop : (n : ℕ) (k : FaultKind) → Good (Mark n k) → GoodEffect (Stop n k)

  good_first : (t u : Tagged) → Good t → Good u → Good (first_mark t u)
  good_first (Clear x) u g h = h
  good_first (Mark n k) (Clear y) g h = g
  good_first (Mark n k) (Mark m l) g h = by_one (comes_before m l n k)
    where
      by_one : (b : Bool) → Good (if b then Mark m l else Mark n k)
      by_one true = h
      by_one false = g

  good_least : {ts : List Tagged} → Every Good ts → Good (least_mark ts)
  good_least Nil = good_clear (pos 0)
  good_least (Cons t ts g gs) = good_first t (least_mark ts) g (good_least gs)

  good_value : {ts : List Tagged} → Every Good ts → Good (value_of ts)
  good_value Nil = good_clear (pos 0)
  good_value (Cons t ts g gs) = g

  good_writes : (o : Option ℕ) (v : ℤ) → GoodEffect (writes o v)
  good_writes None v = GoodNothing
  good_writes (Some d) v = GoodWrite (Reg d) (Clear v) (good_clear v)

  good_does_act : (act : Act) (x v : ℤ) → GoodEffect (does_act act x v)
  good_does_act (Store w a o b) x v = GoodSave _ _ _
  good_does_act (Get d) x v = GoodTake d
  good_does_act (PutByte a) x v = GoodPrint _
  good_does_act (PutNumber a) x v = GoodPrint _
  good_does_act act x v = good_writes (act_target act) v

  good_if : (b : Bool) (e f : Effect) → GoodEffect e → GoodEffect f → GoodEffect (if b then e else f)
  good_if true e f g h = g
  good_if false e f g h = h

  good_does : (act : WideAct) (ns : List ℤ) (v : ℤ) → GoodEffect (does act ns v)
  good_does (Do act) ns v = good_does_act act _ v
  good_does (Spill n a) ns v = GoodWrite _ _ (good_clear v)
  good_does (Reload d n) ns v = GoodWrite _ _ (good_clear v)
  good_does (Check a) ns v = GoodNothing
  good_does (Jump w) ns v = GoodGo _
  good_does (Branch a w) ns v = good_if (is_zero v) _ _ GoodNothing (GoodGo _)
  good_does (BranchZero a w) ns v = good_if (is_zero v) _ _ (GoodGo _) GoodNothing
  good_does (Call result func next args) ns v = GoodGo _
  good_does (Return a) ns v = GoodLeave v

  good_keeps : (o : Option Loc) (n : ℕ) (k : FaultKind) → Good (Mark n k) → GoodEffect (keeps_mark o n k)
  good_keeps None n k g = GoodStop n k g
  good_keeps (Some to) n k g = GoodWrite to (Mark n k) g

  good_shown : (act : WideAct) (ns : List ℤ) (flagged : Bool) (number : ℕ) (t : Tagged) (o : Result ℤ FaultKind) → Good t → ((k : FaultKind) → Good (Mark number k)) → GoodEffect (shown act ns (evaluated flagged number t o))
  good_shown act ns true number (Mark n k) o g h = good_keeps (target act) n k g
  good_shown act ns true number (Clear x) (Ok v) g h = good_does act ns v
  good_shown act ns true number (Clear x) (Err k) g h = good_keeps (target act) number k (h k)
  good_shown act ns false number (Mark n k) o g h = GoodStop n k g
  good_shown act ns false number (Clear x) (Ok v) g h = good_does act ns v
  good_shown act ns false number (Clear x) (Err k) g h = GoodStop number k (h k)

  good_by : (act : WideAct) (op : WideOp) (around : Around) (values : List Tagged) → Every Good values → ((k : FaultKind) → Good (Mark op.number k)) → GoodEffect (effect_by act op around values)
  good_by (Spill n a) op around values g h = GoodWrite _ _ (good_value g)
  good_by (Reload d n) op around values g h = GoodWrite _ _ (good_value g)
  good_by act op around values g h = good_shown act (map number_of values) op.flagged op.number (least_mark values) _ (good_least g) h

  pub good_on : (op : WideOp) (around : Around) (values : List Tagged) → Every Good values → ((k : FaultKind) → Good (Mark op.number k)) → GoodEffect (effect_on op around values)
  unfolding effect_on
  good_on op around values g h = good_by op.act op around values g h
