-- What is cut off behind the last control operation is never done.
use Rattle.std.proofs.Common.{◌≡◌, ℕ, ◌≤◌, Bool, true, false, ◌&&◌, not, List, [], ◌∷◌, ◌++◌, map, true≢false, if◌then◌else◌, refl, sym, ap, ◌∙◌, subst}
use mathlib.Core.Path.{fun_ext}
use Rattle.machine_desc.specs.declared.machine.OpClass.{OpClass}
use Rattle.wide_core.specs.declared.code.WideAct.{WideAct}
use Rattle.wide_core.specs.declared.code.WideAct.TheVariants.{Jump, Branch, BranchZero, Call, Return}
use Rattle.wide_core.specs.declared.code.WideOp.{WideOp}
use Rattle.wide_core.specs.Classes.{is_register, ends, traps, is_control}
use Rattle.wide_core.specs.Operation.{Effect, Nothing, Write, Save, Take, Print, Go, Leave, Stop}
use Rattle.wide_core.specs.Word.{Flow, Outcome}
use Rattle.wide_core.specs.Flat.{one_effect, goes_on, flat}
use Rattle.wide_core.specs.Every.{Every, Nil, Cons}
use Rattle.wide_core.specs.Uses.{written}
use Rattle.wide_core.specs.Accesses.{Known, learn, at_head}
use Rattle.sb_order.specs.Superblock.{needs_check, check_of, checked, plain, Rises, RisesBy}
use Rattle.sb_order.specs.Edges.{Item, items, is_member}
use Rattle.sb_order.specs.Schedule.{unflagged, with_struck, Spot, earlier, sorted, cut, cut_behind, SameEvent}
use Rattle.sb_order.specs.Order.{IsOperation, IsSource, EndsLast, TheLast, NotLast, FlatInvisible}
use Rattle.sb_order.proofs.Closed.{AllClosed, AllNone, AllMore, all_closed}
use Rattle.sb_order.proofs.Joined.{joined_scheduled}
use Rattle.sb_order.proofs.Sorted.{Clo, put_item, sorted_items, sorted_ops, earlier_is, not_before, every_put, every_sorted}
use Rattle.wide_laws.proofs.Suits.{Suits, AsNothing, AsWrite, AsSave, AsTake, AsPrint}
use Rattle.sb_order.proofs.Holds.{suits}
use Rattle.sb_order.proofs.Speculation.{ops_items, edges, sorted_event}

-- the last item always leaves
pub data LastEnds : List Item → Type 0 where
  LastHere : (i : Item) → IsOperation i.op → ends i.op.act ≡ true → LastEnds (i ∷ [])
  LastBehind : (i : Item) (is : List Item) → LastEnds is → LastEnds (i ∷ is)

-- the last control operation always leaves
pub data Closes : List Item → Type 0 where
  CloseHere : (z : Item) (post : List Item) → IsOperation z.op → ends z.op.act ≡ true → Every (λ (i : Item). is_control i.op.act ≡ false) post → Closes (z ∷ post)
  CloseLater : (a : Item) (l : List Item) → Closes l → Closes (a ∷ l)

pub ends_control : (act : WideAct) → ends act ≡ true → is_control act ≡ true
ends_control (Jump w) e = refl
ends_control (Call result func next args) e = refl
ends_control (Return a) e = refl
ends_control act e = cc

ends_traps : (act : WideAct) → ends act ≡ true → traps act ≡ false
ends_traps (Jump w) e = refl
ends_traps (Call result func next args) e = refl
ends_traps (Return a) e = refl
ends_traps act e = cc

control_register : (act : WideAct) → is_control act ≡ true → is_register act ≡ false
control_register (Jump w) e = refl
control_register (Branch a w) e = refl
control_register (BranchZero a w) e = refl
control_register (Call result func next args) e = refl
control_register (Return a) e = refl
control_register act e = cc

pub control_member : (i : Item) → is_control i.op.act ≡ true → is_member i ≡ true
control_member i e = by_one i.op.flagged (is_register i.op.act) (control_register i.op.act e)
  where
    by_one : (x y : Bool) → y ≡ false → not (x && y) ≡ true
    by_one true y h = ap not h
    by_one false y h = refl

-- ---- in source order

last_front : (k : Known) (xs l : List WideOp) → ((k : Known) → LastEnds (items k l)) → LastEnds (items k (xs ++ l))
last_front k [] l h = h k
last_front k (x ∷ xs) l h = LastBehind _ _ (last_front (learn x k) xs l h)

last_struck : {n : ℕ} {ops : List WideOp} (struck : ℕ → Bool) → Every IsSource ops → Rises n ops → EndsLast ops → (k : Known) → LastEnds (items k (with_struck struck ops))
last_struck struck Nil r x k = elim x [ ]
last_struck struck (Cons _ _ w ws) (RisesBy n op _ b f r) (TheLast _ e) k =
    let t = ends_traps op.act e in rw t (LastHere _ (record { item = w.item; flag = λ g. sym f ∙ g; in_range = w.in_range }) e)
last_struck struck (Cons _ _ w ws) (RisesBy n op ops b f r) (NotLast _ _ e h) k = by_one (needs_check op (checked ops)) (struck op.number) (last_struck struck ws r h)
  where
    by_one : (c d : Bool) → ((k : Known) → LastEnds (items k (with_struck struck ops))) → LastEnds (items k (if c && d then unflagged op ∷ with_struck struck ops else op ∷ ((if c then check_of op (written op.act) else []) ++ with_struck struck ops)))
    by_one false d more = last_front k (op ∷ []) (with_struck struck ops) more
    by_one true false more = last_front k (op ∷ check_of op (written op.act)) (with_struck struck ops) more
    by_one true true more = last_front k (unflagged op ∷ []) (with_struck struck ops) more

-- ---- in the order of the spots

module _ (heads : ℕ → ℕ → Bool) (one : Bool) (width : ℕ) (units latency : OpClass → ℕ) (takes_time : (class : OpClass) → 1 ≤ latency class) (spot : ℕ → Spot) where
  put_closes : {i : Item} {l : List Item} → Closes l → Every (Clo heads one width units latency takes_time spot i) l → Closes (put_item heads one width units latency takes_time spot i l)
  put_closes {i} (CloseHere z post w e n) (Cons _ _ c cs) = by_one (earlier spot z.op i.op) refl
    where
      not_control : earlier spot z.op i.op ≡ true → (b : Bool) → is_control i.op.act ≡ b → is_control i.op.act ≡ false
      not_control f false h = h
      not_control f true h =
          absurd (not_before heads one width units latency takes_time spot (earlier_is heads one width units latency takes_time spot z i f) (c.chain (control_member i h) (control_member z (ends_control z.op.act e))))

      by_one : (b : Bool) → earlier spot z.op i.op ≡ b → Closes (if b then z ∷ put_item heads one width units latency takes_time spot i post else i ∷ z ∷ post)
      by_one true f = CloseHere z (put_item heads one width units latency takes_time spot i post) w e (every_put heads one width units latency takes_time spot i (not_control f (is_control i.op.act) refl) n)
      by_one false f = CloseLater i (z ∷ post) (CloseHere z post w e n)
  put_closes {i} (CloseLater a l h) (Cons _ _ c cs) = by_one (earlier spot a.op i.op) (put_closes h cs)
    where
      by_one : (b : Bool) → Closes (put_item heads one width units latency takes_time spot i l) → Closes (if b then a ∷ put_item heads one width units latency takes_time spot i l else i ∷ a ∷ l)
      by_one true more = CloseLater a (put_item heads one width units latency takes_time spot i l) more
      by_one false more = CloseLater i (a ∷ l) (CloseLater a l h)

  sorted_closes : {is : List Item} → AllClosed heads one width units latency takes_time spot is → LastEnds is → Closes (sorted_items heads one width units latency takes_time spot is)
  sorted_closes AllNone x = elim x [ ]
  sorted_closes (AllMore x xs c a) (LastHere i w e) = CloseHere x [] w e Nil
  sorted_closes (AllMore x xs c a) (LastBehind i is h) = put_closes (sorted_closes a h) (every_sorted heads one width units latency takes_time spot c)

-- ---- what is cut off

abbrev ops_of : List Item → List WideOp
ops_of is = map (λ (i : Item). i.op) is

cut_none : (spot : ℕ → Spot) {l : List Item} → Every (λ (i : Item). is_control i.op.act ≡ false) l → cut spot (ops_of l) ≡ []
cut_none spot Nil = refl
cut_none spot (Cons a l n ns) = ap (cut_behind spot a.op) (cut_none spot ns) ∙ ap (λ b. if b then a.op ∷ [] else []) n

module _ (heads : ℕ → ℕ → Bool) (base : ℕ) (room : ℕ → Bool) (spot : ℕ → Spot) where
  never_behind : (act : WideAct) (e : Effect) (f g : Flow → Outcome) (s : Flow) → Suits heads act e → ends act ≡ true → goes_on base room e f s ≡ goes_on base room e g s
  never_behind act Nothing f g s (AsNothing w en) h = absurd (true≢false (sym h ∙ en))
  never_behind act (Write to v) f g s (AsWrite d v2 w en) h = absurd (true≢false (sym h ∙ en))
  never_behind act (Save w a z) f g s (AsSave w2 a2 z2 t en) h = absurd (true≢false (sym h ∙ en))
  never_behind act (Take d) f g s (AsTake d2 w en) h = absurd (true≢false (sym h ∙ en))
  never_behind act (Print text) f g s (AsPrint text2 w en) h = absurd (true≢false (sym h ∙ en))
  never_behind act (Go x) f g s u h = refl
  never_behind act (Leave z) f g s u h = refl
  never_behind act (Stop n k) f g s u h = refl

  record WhenCut (l : List Item) : Type 0 where
    first : WideOp
    rest : List WideOp
    is : cut spot (ops_of l) ≡ first ∷ rest
    runs : (s : Flow) → flat base room (first ∷ rest) s ≡ flat base room (ops_of l) s

  when_cut : {l : List Item} → Closes l → WhenCut l
  when_cut (CloseHere z post w e n) = record {
    first = z.op;
    rest = [];
    is = ap (cut_behind spot z.op) (cut_none spot n) ∙ ap (λ b. if b then z.op ∷ [] else []) (ends_control z.op.act e);
    runs = λ s. never_behind z.op.act (one_effect base room z.op s) (flat base room []) (flat base room (ops_of post)) s (suits heads base room z.op s w) e;
  }
  when_cut (CloseLater a l h) =
      let r = when_cut h in
      record {
        first = a.op;
        rest = r.first ∷ r.rest;
        is = ap (cut_behind spot a.op) r.is;
        runs = λ s. ap (λ f. goes_on base room (one_effect base room a.op s) f s) (fun_ext r.runs);
      }

  pub cut_runs : {l : List Item} → Closes l → (s : Flow) → flat base room (cut spot (ops_of l)) s ≡ flat base room (ops_of l) s
  cut_runs c s = let r = when_cut c in ap (λ l. flat base room l s) r.is ∙ r.runs s

-- the items one after the other come to the event of the source order
pub flat_invisible : (heads : ℕ → ℕ → Bool) (one : Bool) (width regs : ℕ) (units latency : OpClass → ℕ) (base : ℕ) (room : ℕ → Bool) → FlatInvisible heads one width regs units latency base room
unfolding FlatInvisible
flat_invisible heads one width regs units latency base room table low head ops struck spot sb legal s u st =
    let is = items at_head (with_struck struck ops) in
    let e = edges heads one width regs units latency table base low room head ops struck spot sb legal in
    let closes = sorted_closes heads one width units latency table.takes_time spot (all_closed heads one width units latency table.takes_time spot is e) (last_struck struck sb.sources sb.rises sb.last at_head) in
    let js : ops_of (sorted_items heads one width units latency table.takes_time spot is) ≡ sorted spot (with_struck struck ops) =
    sorted_ops heads one width units latency table.takes_time spot is ∙ ap (sorted spot) (ops_items at_head (with_struck struck ops)) in
    let same : flat base room (cut spot (sorted spot (with_struck struck ops))) s ≡ flat base room (sorted spot (with_struck struck ops)) s =
    subst (λ l. flat base room (cut spot l) s ≡ flat base room l s) js (cut_runs heads base room spot closes s) in
    subst (λ l. SameEvent heads (flat base room l s) (plain base room ops u)) (sym (joined_scheduled spot ops struck))
    (subst (λ x. SameEvent heads x (plain base room ops u)) (sym same) (sorted_event heads one width regs units latency table base low room head ops struck spot sb legal s u st))
