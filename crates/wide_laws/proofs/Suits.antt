-- What effect an item may have.
use Rattle.std.proofs.Common.{◌≡◌, ℕ, Bool, true, false, List, map, Option, Some, None, Result, Ok, Err, if◌then◌else◌, ℤ, refl, sym, ap, ◌∙◌, subst}
use Rattle.ib_meaning.specs.declared.fault.FaultKind.{FaultKind}
use Rattle.ib_base.specs.declared.integers.Width.{Width}
use Rattle.ib_act.specs.declared.act.Act.{Act}
use Rattle.ib_act.specs.declared.act.Act.TheVariants.{Store, Get, PutByte, PutNumber}
use Rattle.ib_act.specs.Acts.{target as act_target}
use Rattle.wide_core.specs.declared.code.Loc.TheVariants.{Reg}
use Rattle.wide_core.specs.declared.code.Tagged.{Tagged}
use Rattle.wide_core.specs.declared.code.Tagged.TheVariants.{Clear, Mark}
use Rattle.wide_core.specs.declared.code.WideAct.{WideAct}
use Rattle.wide_core.specs.declared.code.WideAct.TheVariants.{Do, Spill, Reload, Check, Jump, Branch, BranchZero, Call, Return}
use Rattle.wide_core.specs.declared.code.WideOp.{WideOp}
use Rattle.wide_core.specs.Classes.{is_register, is_register_act, ends, can_go}
use Rattle.wide_core.specs.Tagged.{number_of, least_mark, evaluated}
use Rattle.wide_core.specs.Operation.{reg_of, target, Exit, To, Into, Effect, Nothing, Write, Save, Take, Print, Go, Leave, Stop, own, is_zero, writes, does_act, does, keeps_mark, shown, Around, effect_by, effect_on}
use Rattle.wide_core.specs.Uses.{writes_now, is_item}
use Rattle.wide_core.specs.Flat.{at_exit, at_exits}

module _ (heads : ℕ → ℕ → Bool) where
  pub data Suits (act : WideAct) : Effect → Type 0 where
    AsNothing : writes_now act ≡ None → ends act ≡ false → Suits act Nothing
    AsWrite : (d : ℕ) (v : Tagged) → writes_now act ≡ Some d → ends act ≡ false → Suits act (Write (Reg d) v)
    AsSave : (w : Width) (a z : ℤ) → writes_now act ≡ None → ends act ≡ false → Suits act (Save w a z)
    AsTake : (d : ℕ) → writes_now act ≡ Some d → ends act ≡ false → Suits act (Take d)
    AsPrint : (text : List ℕ) → writes_now act ≡ None → ends act ≡ false → Suits act (Print text)
    AsGo : (x : Exit) → writes_now act ≡ None → can_go act ≡ true → ((r : ℕ) → at_exit heads x r ≡ true → at_exits heads act r ≡ true) → Suits act (Go x)
    AsLeave : (z : ℤ) → writes_now act ≡ None → ends act ≡ true → Suits act (Leave z)
    AsStop : (n : ℕ) (k : FaultKind) → Suits act (Stop n k)

  suits_writes : (act : Act) (o : Option ℕ) (v : ℤ) → act_target act ≡ o → Suits (Do act) (writes o v)
  suits_writes act None v e = AsNothing e refl
  suits_writes act (Some d) v e = AsWrite d (Clear v) e refl

  suits_act : (act : Act) (x v : ℤ) → Suits (Do act) (does_act act x v)
  suits_act (Store w a o b) x v = AsSave _ _ _ refl refl
  suits_act (Get d) x v = AsTake d refl refl
  suits_act (PutByte a) x v = AsPrint _ refl refl
  suits_act (PutNumber a) x v = AsPrint _ refl refl
  suits_act act x v = suits_writes act (act_target act) v refl

  suits_if : (act : WideAct) (b : Bool) (e f : Effect) → Suits act e → Suits act f → Suits act (if b then e else f)
  suits_if act true e f g h = g
  suits_if act false e f g h = h

  pub suits_does : (act : WideAct) (ns : List ℤ) (v : ℤ) → is_item act ≡ true → Suits act (does act ns v)
  suits_does (Do act) ns v i = suits_act act _ v
  suits_does (Spill n a) ns v i = cc
  suits_does (Reload d n) ns v i = cc
  suits_does (Check a) ns v i = AsNothing refl refl
  suits_does (Jump w) ns v i = AsGo (To w) refl refl (λ r h. h)
  suits_does (Branch a w) ns v i = suits_if (Branch a w) (is_zero v) Nothing (Go (To w)) (AsNothing refl refl) (AsGo (To w) refl refl (λ r h. h))
  suits_does (BranchZero a w) ns v i = suits_if (BranchZero a w) (is_zero v) (Go (To w)) Nothing (AsGo (To w) refl refl (λ r h. h)) (AsNothing refl refl)
  suits_does (Call result func next args) ns v i = AsGo (Into func next result ns) refl refl (λ r h. h)
  suits_does (Return a) ns v i = AsLeave v refl refl

  suits_mark : (act : Act) (o : Option ℕ) (n : ℕ) (k : FaultKind) → act_target act ≡ o → Suits (Do act) (keeps_mark (reg_of o) n k)
  suits_mark act None n k e = AsStop n k
  suits_mark act (Some d) n k e = AsWrite d (Mark n k) e refl

  suits_keeps : (act : WideAct) (n : ℕ) (k : FaultKind) → is_register act ≡ true → Suits act (keeps_mark (target act) n k)
  suits_keeps (Do act) n k r = suits_mark act (act_target act) n k refl
  suits_keeps act n k r = cc

  suits_shown : (act : WideAct) (ns : List ℤ) (flagged : Bool) (number : ℕ) (t : Tagged) (o : Result ℤ FaultKind) → is_item act ≡ true → (flagged ≡ true → is_register act ≡ true) → Suits act (shown act ns (evaluated flagged number t o))
  suits_shown act ns true number (Mark n k) o i f = suits_keeps act n k (f refl)
  suits_shown act ns true number (Clear x) (Ok v) i f = suits_does act ns v i
  suits_shown act ns true number (Clear x) (Err k) i f = suits_keeps act number k (f refl)
  suits_shown act ns false number (Mark n k) o i f = AsStop n k
  suits_shown act ns false number (Clear x) (Ok v) i f = suits_does act ns v i
  suits_shown act ns false number (Clear x) (Err k) i f = AsStop number k

  suits_by : (act : WideAct) (op : WideOp) (around : Around) (values : List Tagged) → is_item act ≡ true → (op.flagged ≡ true → is_register act ≡ true) → Suits act (effect_by act op around values)
  suits_by (Spill n a) op around values i f = cc
  suits_by (Reload d n) op around values i f = cc
  suits_by act op around values i f = suits_shown act (map number_of values) op.flagged op.number (least_mark values) (own act around.base around.memory around.room (map number_of values)) i f

  pub suits_on : (op : WideOp) (around : Around) (values : List Tagged) → is_item op.act ≡ true → (op.flagged ≡ true → is_register op.act ≡ true) → Suits op.act (effect_on op around values)
  unfolding effect_on
  suits_on op around values i f = suits_by op.act op around values i f

-- a flagged register operation writes its register, whatever happens
pub record Writes (act : WideAct) (e : Effect) : Type 0 where
  pub d : ℕ
  pub v : Tagged
  pub to : writes_now act ≡ Some d
  pub is : e ≡ Write (Reg d) v

pub always_writes : (act : Act) (o : Option ℕ) → act_target act ≡ o → is_register_act act ≡ true → (d : ℕ) × (o ≡ Some d)
always_writes act (Some d) e r = (d, refl)
always_writes (Store w a o b) None e r = cc
always_writes (PutByte a) None e r = cc
always_writes (PutNumber a) None e r = cc
always_writes act None e r = cc

pub register_does : (act : Act) (x v : ℤ) → is_register_act act ≡ true → does_act act x v ≡ writes (act_target act) v
register_does (Store w a o b) x v r = cc
register_does (Get d) x v r = cc
register_does (PutByte a) x v r = cc
register_does (PutNumber a) x v r = cc
register_does act x v r = refl

written_shown : (act : Act) (ns : List ℤ) (number : ℕ) (t : Tagged) (o : Result ℤ FaultKind) (d : ℕ) → act_target act ≡ Some d → is_register_act act ≡ true → Writes (Do act) (shown (Do act) ns (evaluated true number t o))
written_shown act ns number (Mark n k) o d e r = record { d = d; v = Mark n k; to = e; is = ap (λ x. keeps_mark (reg_of x) n k) e }
written_shown act ns number (Clear x) (Ok v) d e r = record { d = d; v = Clear v; to = e; is = register_does act _ v r ∙ ap (λ x. writes x v) e }
written_shown act ns number (Clear x) (Err k) d e r = record { d = d; v = Mark number k; to = e; is = ap (λ x. keeps_mark (reg_of x) number k) e }

written_by : (act : WideAct) (op : WideOp) (around : Around) (values : List Tagged) → op.flagged ≡ true → is_register act ≡ true → Writes act (effect_by act op around values)
written_by (Do act) op around values f r =
    let w = always_writes act (act_target act) refl r in
    subst (λ b. Writes (Do act) (shown (Do act) (map number_of values) (evaluated b op.number (least_mark values) (own (Do act) around.base around.memory around.room (map number_of values))))) (sym f)
    (written_shown act (map number_of values) op.number (least_mark values) (own (Do act) around.base around.memory around.room (map number_of values)) w.0 w.1 r)
written_by act op around values f r = cc

pub written_on : (op : WideOp) (around : Around) (values : List Tagged) → op.flagged ≡ true → is_register op.act ≡ true → Writes op.act (effect_on op around values)
unfolding effect_on
written_on op around values f r = written_by op.act op around values f r
