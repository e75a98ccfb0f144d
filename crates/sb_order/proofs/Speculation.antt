-- Speculation is invisible: the items in the order of a legal schedule come to the event of the source order.
use Rattle.std.proofs.Common.{◌≡◌, ℕ, suc, ◌≤◌, Bool, true, false, ◌&&◌, not, List, [], ◌∷◌, ◌++◌, map, true≢false, Option, Some, None, Result, Ok, Err, if◌then◌else◌, refl, sym, ap, ap₂, ◌∙◌, subst, ℤ}
use Rattle.ib_meaning.specs.declared.fault.FaultKind.{FaultKind}
use Rattle.ib_meaning.specs.declared.place.Place.{Place}
use Rattle.machine_desc.specs.declared.machine.OpClass.{OpClass}
use Rattle.machine_desc.specs.Machine.{IsTable}
use Rattle.wide_core.specs.declared.code.Loc.TheVariants.{Reg}
use Rattle.wide_core.specs.declared.code.Tagged.{Tagged}
use Rattle.wide_core.specs.declared.code.Tagged.TheVariants.{Clear, Mark}
use Rattle.wide_core.specs.declared.code.WideAct.TheVariants.{Check}
use Rattle.wide_core.specs.declared.code.WideOp.{WideOp}
use Rattle.wide_core.specs.Classes.{is_register, traps}
use Rattle.wide_core.specs.Tagged.{least_mark, number_of, evaluated}
use Rattle.wide_core.specs.Operation.{sources, target, Write, own, does, keeps_mark, shown, effect_on}
use Rattle.wide_core.specs.Word.{Flow, Outcome, Stopped, apply}
use Rattle.wide_core.specs.Uses.{is_item, written}
use Rattle.wide_core.specs.Flat.{around, one_effect, goes_on, flat}
use Rattle.wide_core.specs.Every.{Every, Nil, Cons}
use Rattle.wide_core.specs.Accesses.{Known, learn, at_head}
use Rattle.sb_order.specs.Superblock.{Plain, Event, plain, put_at, settles, needs_check, check_of, checked, Rises, RisesNot, RisesBy}
use Rattle.sb_order.specs.Edges.{Item, items}
use Rattle.sb_order.specs.Schedule.{unflagged, with_struck, Spot, every, has_room, edges_kept, is_legal, sorted, SameEvent, AtExit, AtReturn, AtFault, Starts}
use Rattle.sb_order.specs.Order.{IsOperation, IsSource, IsSuperblock}
use Rattle.sb_order.proofs.Closed.{both}
use Rattle.sb_order.proofs.Holds.{Holds}
use Rattle.sb_order.proofs.Sorted.{sorted_items, sorted_ops, keeps_legal}
use Rattle.sb_order.proofs.Swap.{Like, LikeThrough, LikeGone, LikeLeft, LikeStopped, like_refl, like_trans, goes_on_like}
use Rattle.sb_order.proofs.Reorder.{truthful_items, reorder}
use Rattle.sb_order.proofs.Settle.{RegisterWrites, register_writes, by_tags}
use Rattle.sb_order.proofs.Sentinels.{check_marked, check_passes, put_same, traps_register, settled}

-- ---- struck checks

module _ (heads : ℕ → ℕ → Bool) (base : ℕ) (room : ℕ → Bool) where
  abbrev SameRuns : List WideOp → List WideOp → Type 0
  SameRuns xs ys = (s : Flow) → Like heads (flat base room xs s) (flat base room ys s)

  run_front : (cs xs ys : List WideOp) → SameRuns xs ys → SameRuns (cs ++ xs) (cs ++ ys)
  run_front [] xs ys h = h
  run_front (c ∷ cs) xs ys h = λ s. goes_on_like heads base room (one_effect base room c s) (flat base room (cs ++ xs)) (flat base room (cs ++ ys)) s (run_front cs xs ys h (apply (one_effect base room c s) s))

  -- the check of a mark reports it
  check_stops : (m : ℕ) (home : Place) (d n : ℕ) (k : FaultKind) (l : List WideOp) (s : Flow) → flat base room (record { number = m; home = home; flagged = false; act = Check d } ∷ l) (apply (Write (Reg d) (Mark n k)) s) ≡ Stopped n k (apply (Write (Reg d) (Mark n k)) s)
  check_stops m home d n k l s =
      ap (λ e. goes_on base room e (flat base room l) (apply (Write (Reg d) (Mark n k)) s))
      (ap (λ t. effect_on (record { number = m; home = home; flagged = false; act = Check d }) (around base room (apply (Write (Reg d) (Mark n k)) s)) (t ∷ [])) (put_same d (Mark n k) s.places)
      ∙ check_marked m home d (around base room (apply (Write (Reg d) (Mark n k)) s)) n k)

  module _ (op : WideOp) (w : RegisterWrites op.act) (xs ys : List WideOp) (s : Flow) where
    behind_mark : (n : ℕ) (k : FaultKind) → Like heads (Stopped n k s) (goes_on base room (keeps_mark (target op.act) n k) (flat base room (check_of op (written op.act) ++ ys)) s)
    behind_mark n k =
        let is : goes_on base room (keeps_mark (target op.act) n k) (flat base room (check_of op (written op.act) ++ ys)) s ≡ Stopped n k (apply (Write (Reg w.d) (Mark n k)) s) =
        ap₂ (λ o e. goes_on base room e (flat base room (check_of op o ++ ys)) s) w.to (w.mark n k) ∙ check_stops (suc op.number) op.home w.d n k ys s in
        subst (λ x. Like heads (Stopped n k s) x) (sym is) (LikeStopped n k s (apply (Write (Reg w.d) (Mark n k)) s) (record { memory = refl; left = refl; out = refl }))

    behind_value : (ns : List ℤ) (v : ℤ) → SameRuns xs ys → Like heads (goes_on base room (does op.act ns v) (flat base room xs) s) (goes_on base room (does op.act ns v) (flat base room (check_of op (written op.act) ++ ys)) s)
    behind_value ns v h =
        let left : goes_on base room (does op.act ns v) (flat base room xs) s ≡ flat base room xs (apply (Write (Reg w.d) (Clear v)) s) = ap (λ e. goes_on base room e (flat base room xs) s) (w.value ns v) in
        let right : goes_on base room (does op.act ns v) (flat base room (check_of op (written op.act) ++ ys)) s ≡ flat base room ys (apply (Write (Reg w.d) (Clear v)) s) =
        ap₂ (λ o e. goes_on base room e (flat base room (check_of op o ++ ys)) s) w.to (w.value ns v) ∙ check_passes heads base room (suc op.number) op.home w.d v ys s in
        subst (λ x. Like heads x (goes_on base room (does op.act ns v) (flat base room (check_of op (written op.act) ++ ys)) s)) (sym left)
        (subst (λ x. Like heads (flat base room xs (apply (Write (Reg w.d) (Clear v)) s)) x) (sym right) (h (apply (Write (Reg w.d) (Clear v)) s)))

    by_own : (ns : List ℤ) (t : Tagged) (o : Result ℤ FaultKind) → SameRuns xs ys → Like heads (goes_on base room (shown op.act ns (evaluated false op.number t o)) (flat base room xs) s) (goes_on base room (shown op.act ns (evaluated true op.number t o)) (flat base room (check_of op (written op.act) ++ ys)) s)
    by_own ns (Mark p k) o h = behind_mark p k
    by_own ns (Clear z) (Err k) h = behind_mark op.number k
    by_own ns (Clear z) (Ok v) h = behind_value ns v h

  -- an unflagged operation does what the flagged one does with its check right behind
  strike_one : (op : WideOp) (xs ys : List WideOp) → is_item op.act ≡ true → op.flagged ≡ true → is_register op.act ≡ true → SameRuns xs ys → SameRuns (unflagged op ∷ xs) (op ∷ (check_of op (written op.act) ++ ys))
  strike_one op xs ys it f i h s =
      let values = map s.places (sources op.act) in
      let gives = own op.act base s.memory room (map number_of values) in
      let left : one_effect base room (unflagged op) s ≡ shown op.act (map number_of values) (evaluated false op.number (least_mark values) gives) = by_tags (unflagged op) (around base room s) values it in
      let right : one_effect base room op s ≡ shown op.act (map number_of values) (evaluated true op.number (least_mark values) gives) =
      by_tags op (around base room s) values it ∙ ap (λ b. shown op.act (map number_of values) (evaluated b op.number (least_mark values) gives)) f in
      subst (λ e. Like heads (goes_on base room e (flat base room xs) s) (flat base room (op ∷ (check_of op (written op.act) ++ ys)) s)) (sym left)
      (subst (λ e. Like heads (goes_on base room (shown op.act (map number_of values) (evaluated false op.number (least_mark values) gives)) (flat base room xs) s) (goes_on base room e (flat base room (check_of op (written op.act) ++ ys)) s)) (sym right)
      (by_own op (register_writes op.act i) xs ys s (map number_of values) (least_mark values) gives h))

  strike : {n : ℕ} {ops : List WideOp} (struck : ℕ → Bool) → Every IsSource ops → Rises n ops → SameRuns (with_struck struck ops) (checked ops)
  strike struck Nil (RisesNot n) = λ s. like_refl heads base room (flat base room [] s)
  strike struck (Cons _ _ w ws) (RisesBy n op ops b f r) = by_one (needs_check op (checked ops)) refl (struck op.number) (strike struck ws r)
    where
      by_one : (c : Bool) → needs_check op (checked ops) ≡ c → (d : Bool) → SameRuns (with_struck struck ops) (checked ops) → SameRuns (if c && d then unflagged op ∷ with_struck struck ops else op ∷ ((if c then check_of op (written op.act) else []) ++ with_struck struck ops)) (op ∷ ((if c then check_of op (written op.act) else []) ++ checked ops))
      by_one false e d more = run_front (op ∷ []) (with_struck struck ops) (checked ops) more
      by_one true e false more = run_front (op ∷ check_of op (written op.act)) (with_struck struck ops) (checked ops) more
      by_one true e true more =
          let i = traps_register op.act (both (traps op.act) (not (settles (put_at (written op.act) true (λ r. false)) (checked ops))) e).0 in
          strike_one op (with_struck struck ops) (checked ops) w.item (f ∙ i) i more

-- ---- the items of a schedule are operations

pub check_operation : (op : WideOp) (o : Option ℕ) {l : List WideOp} → Every IsOperation l → Every IsOperation (check_of op o ++ l)
check_operation op None h = h
check_operation op (Some r) {l} h = Cons (record { number = suc op.number; home = op.home; flagged = false; act = Check r }) l (record { item = refl; flag = λ e. absurd (true≢false (sym e)); in_range = tt }) h

pub operations : {n : ℕ} {ops : List WideOp} (struck : ℕ → Bool) → Every IsSource ops → Rises n ops → Every IsOperation (with_struck struck ops)
operations struck Nil (RisesNot n) = Nil
operations struck (Cons _ _ w ws) (RisesBy n op ops b f r) = by_one (needs_check op (checked ops)) (struck op.number) (operations struck ws r)
  where
    is : IsOperation op
    is = record { item = w.item; flag = λ e. sym f ∙ e; in_range = w.in_range }

    by_one : (c d : Bool) → Every IsOperation (with_struck struck ops) → Every IsOperation (if c && d then unflagged op ∷ with_struck struck ops else op ∷ ((if c then check_of op (written op.act) else []) ++ with_struck struck ops))
    by_one false d more = Cons op (with_struck struck ops) is more
    by_one true false more = Cons op (check_of op (written op.act) ++ with_struck struck ops) is (check_operation op (written op.act) more)
    by_one true true more = Cons (unflagged op) (with_struck struck ops) (record { item = w.item; flag = λ e. absurd (true≢false (sym e)); in_range = w.in_range }) more

pub ops_items : (k : Known) (ops : List WideOp) → map (λ (i : Item). i.op) (items k ops) ≡ ops
ops_items k [] = refl
ops_items k (op ∷ ops) = ap (λ l. op ∷ l) (ops_items (learn op k) ops)

-- ---- the order of a legal schedule

pub like_event : {heads : ℕ → ℕ → Bool} {x y : Outcome} {e : Event} → Like heads x y → SameEvent heads y e → SameEvent heads x e
like_event (LikeThrough s) h = h
like_event (LikeGone x s t e l) (AtExit _ _ u m c) = AtExit x s u (record { memory = e.memory ∙ m.memory; left = e.left ∙ m.left; out = e.out ∙ m.out }) (λ r h. l r h ∙ c r h)
like_event (LikeLeft z s t e) (AtReturn _ _ u m) = AtReturn z s u (record { memory = e.memory ∙ m.memory; left = e.left ∙ m.left; out = e.out ∙ m.out })
like_event (LikeStopped n k s t e) (AtFault _ _ _ u m) = AtFault n k s u (record { memory = e.memory ∙ m.memory; left = e.left ∙ m.left; out = e.out ∙ m.out })

module _ (heads : ℕ → ℕ → Bool) (one : Bool) (width regs : ℕ) (units latency : OpClass → ℕ) (table : IsTable width regs units latency) (base : ℕ) (low : base ≤ 1048576) (room : ℕ → Bool) (head : ℕ) (ops : List WideOp) (struck : ℕ → Bool) (spot : ℕ → Spot) (sb : IsSuperblock heads head ops) (legal : is_legal heads one width units latency ops struck spot ≡ true) where
  abbrev pub source_items : List Item
  source_items = items at_head (with_struck struck ops)

  pub edges : edges_kept heads one width units latency spot (items at_head (with_struck struck ops)) ≡ true
  edges =
      (both (edges_kept heads one width units latency spot (items at_head (with_struck struck ops))) (every (has_room heads one width units latency spot (items at_head (with_struck struck ops))) (items at_head (with_struck struck ops))) legal).0

  -- all items in the order of their spots
  pub sorted_event : (s : Flow) (u : Plain) → Starts heads head s u → SameEvent heads (flat base room (sorted spot (with_struck struck ops)) s) (plain base room ops u)
  sorted_event s u st =
      let is = items at_head (with_struck struck ops) in
      let keeps = keeps_legal heads one width units latency table.takes_time spot is edges in
      let a = reorder heads base low room keeps at_head (truthful_items at_head (operations struck sb.sources sb.rises)) in
      let holds : Holds base at_head s = record { whole = st.whole; says = λ r. record { same = refl; none = refl } } in
      let js : map (λ (i : Item). i.op) (sorted_items heads one width units latency table.takes_time spot is) ≡ sorted spot (with_struck struck ops) =
      sorted_ops heads one width units latency table.takes_time spot is ∙ ap (sorted spot) (ops_items at_head (with_struck struck ops)) in
      let runs : Like heads (flat base room (sorted spot (with_struck struck ops)) s) (flat base room (with_struck struck ops) s) =
      subst (λ l. Like heads (flat base room l s) (flat base room (with_struck struck ops) s)) js
      (subst (λ l. Like heads (flat base room (map (λ (i : Item). i.op) (sorted_items heads one width units latency table.takes_time spot is)) s) (flat base room l s)) (ops_items at_head (with_struck struck ops)) (a.runs s holds)) in
      like_event (like_trans heads base room runs (strike heads base room struck sb.sources sb.rises s))
      (settled heads base room 0 s u sb.sources sb.rises st.matches (λ r n. st.clear r (sb.fits.fits r n)))
