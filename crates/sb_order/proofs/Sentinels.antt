-- The source order with its checks comes to the event of the source order without marks.
use Rattle.std.proofs.Common.{◌≡◌, ℕ, suc, ◌≤◌, Bool, true, false, ◌&&◌, ◌||◌, not, ◌==◌, List, [], ◌∷◌, ◌++◌, map, true≢false, Option, Some, None, Result, Ok, Err, if◌then◌else◌, refl, sym, ap, ap₂, ◌∙◌, subst, arith, ℤ, pos}
use Rattle.ib_meaning.specs.declared.fault.FaultKind.{FaultKind}
use Rattle.ib_meaning.specs.declared.place.Place.{Place}
use Rattle.ib_act.specs.declared.act.Act.{Act}
use Rattle.ib_act.specs.declared.act.Act.TheVariants.{Bounds, Div, Rem, Load, Store, Get, PutByte, PutNumber}
use Rattle.ib_act.specs.Acts.{target as act_target}
use Rattle.wide_core.specs.declared.code.Loc.{Loc}
use Rattle.wide_core.specs.declared.code.Loc.TheVariants.{Reg}
use Rattle.wide_core.specs.declared.code.Tagged.{Tagged}
use Rattle.wide_core.specs.declared.code.Tagged.TheVariants.{Clear, Mark}
use Rattle.wide_core.specs.declared.code.WideAct.{WideAct}
use Rattle.wide_core.specs.declared.code.WideAct.TheVariants.{Do, Spill, Reload, Check, Jump, Branch, BranchZero, Call, Return}
use Rattle.wide_core.specs.declared.code.WideOp.{WideOp}
use Rattle.wide_core.specs.Classes.{is_register, ends, traps}
use Rattle.wide_core.specs.Tagged.{least_mark, number_of, evaluated}
use Rattle.wide_core.specs.Places.{put}
use Rattle.wide_core.specs.Operation.{sources, Effect, Nothing, Write, Save, Take, Print, Go, Leave, Stop, first_of, own, is_zero, writes, does_act, does, shown, Around, effect_on}
use Rattle.wide_core.specs.Word.{Flow, apply, byte_from, behind_byte, saved}
use Rattle.wide_core.specs.Uses.{reads, writes_now, is_item, in_list, is_target, written}
use Rattle.wide_core.specs.Flat.{around, one_effect, goes_on, flat, at_exits}
use Rattle.wide_core.specs.Every.{Every, Nil, Cons}
use Rattle.sb_order.specs.Superblock.{last_number, Plain, ByFault, plain_apply, plain_on, plain_by, plain, put_at, settles, needs_check, check_of, checks_of, checked, needs, Rises, RisesNot, RisesBy}
use Rattle.sb_order.specs.Schedule.{Matches, SameEvent, AtEnd, AtExit, AtReturn, AtFault}
use Rattle.sb_order.specs.Order.{IsSource}
use Rattle.sb_order.proofs.Closed.{eq_refl, both}
use Rattle.wide_laws.proofs.Suits.{Suits, AsNothing, AsWrite, AsSave, AsTake, AsPrint, AsGo, suits_does}
use Rattle.sb_order.proofs.Holds.{value_either, writes_written}
use Rattle.sb_order.proofs.Neighbours.{sources_read}
use Rattle.sb_order.proofs.Settle.{Later, IsClear, IsIt, or_right, or_left, needs_read, needs_exit, needs_behind, Behind, BehindNone, BehindOne, RegisterWrites, register_writes, by_tags, in_front, later_put, settle}

-- ---- what the list with its checks needs

by_or : (a b c : Bool) → (a ≡ true → c ≡ true) → (b ≡ true → c ≡ true) → (a || b) ≡ true → c ≡ true
by_or true b c f g e = f refl
by_or false b c f g e = g e

module _ (heads : ℕ → ℕ → Bool) where
  -- a check behind its operation needs nothing else
  needs_past : (op : WideOp) (b : Bool) (l : List WideOp) (q : ℕ) → is_target (written op.act) q ≡ false → needs heads ((if b then check_of op (written op.act) else []) ++ l) q ≡ true → needs heads l q ≡ true
  needs_past op false l q w e = e
  needs_past op true l q w e = by_target (written op.act) w e
    where
      by_target : (o : Option ℕ) → is_target o q ≡ false → needs heads (check_of op o ++ l) q ≡ true → needs heads l q ≡ true
      by_target None w e = e
      by_target (Some r) w e = rw w at e

  pub needs_checked : (ops : List WideOp) (q : ℕ) → needs heads (checked ops) q ≡ true → needs heads ops q ≡ true
  needs_checked [] q e = e
  needs_checked (op ∷ ops) q e = by_one (is_target (written op.act) q) refl (needs_checked ops q)
    where
      by_one : (d : Bool) → is_target (written op.act) q ≡ d → (needs heads (checked ops) q ≡ true → needs heads ops q ≡ true) → needs heads (op ∷ ops) q ≡ true
      by_one true w more = rw w (rw w at e)
      by_one false w more =
          by_or (in_list q (reads op.act) || at_exits heads op.act q) (needs heads (checks_of op (checked ops) ++ checked ops) q) (needs heads (op ∷ ops) q)
          (λ a. or_left (in_list q (reads op.act) || at_exits heads op.act q) (not (is_target (written op.act) q) && needs heads ops q) a)
          (λ a. needs_behind heads op ops q w (more (needs_past op (needs_check op (checked ops)) (checked ops) q w a)))
          (rw w at e)

behind_more : {n m : ℕ} {ops : List WideOp} → n ≤ m → Behind m ops → Behind n ops
behind_more e BehindNone = BehindNone
behind_more {n} {m} e (BehindOne op ops i f g b) = BehindOne op ops i f (λ h. let l = g h in omega arith) (behind_more e b)

check_behind : (n : ℕ) (op : WideOp) (b : Bool) (l : List WideOp) → Behind n l → Behind n ((if b then check_of op (written op.act) else []) ++ l)
check_behind n op false l h = h
check_behind n op true l h = by_target (written op.act)
  where
    by_target : (o : Option ℕ) → Behind n (check_of op o ++ l)
    by_target None = h
    by_target (Some r) = BehindOne (record { number = suc op.number; home = op.home; flagged = false; act = Check r }) l refl refl (λ e. absurd (true≢false (sym e))) h

pub last_least : (op : WideOp) → op.number ≤ last_number op
last_least op = by_one (traps op.act)
  where
    by_one : (b : Bool) → op.number ≤ (if b then suc op.number else op.number)
    by_one true = omega arith
    by_one false = omega arith

pub rises_behind : {n : ℕ} {ops : List WideOp} → Every IsSource ops → Rises n ops → Behind n (checked ops)
rises_behind Nil (RisesNot n) = BehindNone
rises_behind (Cons _ _ w ws) (RisesBy n op ops b f r) =
    BehindOne op _ w.item f (λ e. b) (check_behind n op (needs_check op (checked ops)) (checked ops) (behind_more (let l = last_least op in omega arith) (rises_behind ws r)))

-- ---- clear registers

module _ (f : Loc → Tagged) (g : Loc → ℤ) where
  abbrev AllClear : List ℕ → Type 0
  AllClear rs = (r : ℕ) → in_list r rs ≡ true → f (Reg r) ≡ Clear (g (Reg r))

  clear_numbers : (rs : List ℕ) → AllClear rs → map number_of (map f (map (λ r. Reg r) rs)) ≡ map g (map (λ r. Reg r) rs)
  clear_numbers [] h = refl
  clear_numbers (x ∷ xs) h = ap₂ (λ y ys. y ∷ ys) (ap number_of (h x (in_front x xs))) (clear_numbers xs (λ r e. h r (or_right (r == x) (in_list r xs) e)))

  clear_least : (rs : List ℕ) → AllClear rs → least_mark (map f (map (λ r. Reg r) rs)) ≡ Clear (pos 0)
  clear_least [] h = refl
  clear_least (x ∷ xs) h = rw (h x (in_front x xs)) (clear_least xs (λ r e. h r (or_right (r == x) (in_list r xs) e)))

-- ---- checks

check_clear : (m : ℕ) (home : Place) (r : ℕ) (around : Around) (z : ℤ) → effect_on (record { number = m; home = home; flagged = false; act = Check r }) around (Clear z ∷ []) ≡ Nothing
unfolding effect_on
check_clear m home r around z = refl

pub check_marked : (m : ℕ) (home : Place) (r : ℕ) (around : Around) (n : ℕ) (k : FaultKind) → effect_on (record { number = m; home = home; flagged = false; act = Check r }) around (Mark n k ∷ []) ≡ Stop n k
unfolding effect_on
check_marked m home r around n k = refl

pub put_same : (r : ℕ) (t : Tagged) (f : Loc → Tagged) → put (Reg r) t f (Reg r) ≡ t
put_same r t f = rw (eq_refl r) refl

pub traps_register : (act : WideAct) → traps act ≡ true → is_register act ≡ true
traps_register (Do (Bounds to from bound)) e = refl
traps_register (Do (Div size to left right)) e = refl
traps_register (Do (Rem size to left right)) e = refl
traps_register (Do (Load width to from offset)) e = refl
traps_register (Do act) e = cc
traps_register act e = cc

-- what a value's effect writes is clear
abbrev Clean : Effect → Type 0
Clean (Write to t) = t ≡ Clear (number_of t)
Clean e = Unit {0}

clean_writes : (o : Option ℕ) (v : ℤ) → Clean (writes o v)
clean_writes None v = tt
clean_writes (Some d) v = refl

clean_act : (act : Act) (x v : ℤ) → Clean (does_act act x v)
clean_act (Store w a o b) x v = tt
clean_act (Get d) x v = tt
clean_act (PutByte a) x v = tt
clean_act (PutNumber a) x v = tt
clean_act act x v = clean_writes (act_target act) v

clean_if : (b : Bool) (e f : Effect) → Clean e → Clean f → Clean (if b then e else f)
clean_if true e f g h = g
clean_if false e f g h = h

clean_does : (act : WideAct) (ns : List ℤ) (v : ℤ) → Clean (does act ns v)
clean_does (Do act) ns v = clean_act act (first_of ns) v
clean_does (Spill n a) ns v = refl
clean_does (Reload d n) ns v = refl
clean_does (Check a) ns v = tt
clean_does (Jump w) ns v = tt
clean_does (Branch a w) ns v = clean_if (is_zero v) Nothing (Go _) tt tt
clean_does (BranchZero a w) ns v = clean_if (is_zero v) (Go _) Nothing tt tt
clean_does (Call result func next args) ns v = tt
clean_does (Return a) ns v = tt

written_none : (act : WideAct) → writes_now act ≡ None → ends act ≡ false → written act ≡ None
written_none (Call result func next args) w e = cc
written_none act w e = w

module _ (heads : ℕ → ℕ → Bool) (base : ℕ) (room : ℕ → Bool) where
  abbrev Clears : List WideOp → Flow → Plain → Type 0
  Clears ops s u = (r : ℕ) → needs heads ops r ≡ true → s.places (Reg r) ≡ Clear (u.places (Reg r))

  -- the effect where the sources are clear
  effect_clear : (op : WideOp) (s : Flow) (u : Plain) → is_item op.act ≡ true → s.memory ≡ u.memory → ((r : ℕ) → in_list r (reads op.act) ≡ true → s.places (Reg r) ≡ Clear (u.places (Reg r))) → one_effect base room op s ≡ shown op.act (map u.places (sources op.act)) (evaluated op.flagged op.number (Clear (pos 0)) (own op.act base u.memory room (map u.places (sources op.act))))
  effect_clear op s u i m h =
      let src = sources_read op.act i in
      let numbers : map number_of (map s.places (sources op.act)) ≡ map u.places (sources op.act) =
      ap (λ l. map number_of (map s.places l)) src ∙ clear_numbers s.places u.places (reads op.act) h ∙ ap (map u.places) (sym src) in
      let least : least_mark (map s.places (sources op.act)) ≡ Clear (pos 0) = ap (λ l. least_mark (map s.places l)) src ∙ clear_least s.places u.places (reads op.act) h in
      by_tags op (around base room s) (map s.places (sources op.act)) i
      ∙ ap₂ (λ ns t. shown op.act ns (evaluated op.flagged op.number t (own op.act base s.memory room ns))) numbers least
      ∙ ap (λ y. shown op.act (map u.places (sources op.act)) (evaluated op.flagged op.number (Clear (pos 0)) (own op.act base y room (map u.places (sources op.act))))) m

  -- checks of an operation that did not fault pass
  pub check_passes : (m : ℕ) (home : Place) (d : ℕ) (v : ℤ) (l : List WideOp) (s : Flow) → flat base room (record { number = m; home = home; flagged = false; act = Check d } ∷ l) (apply (Write (Reg d) (Clear v)) s) ≡ flat base room l (apply (Write (Reg d) (Clear v)) s)
  check_passes m home d v l s =
      ap (λ e. goes_on base room e (flat base room l) (apply (Write (Reg d) (Clear v)) s))
      (ap (λ t. effect_on (record { number = m; home = home; flagged = false; act = Check d }) (around base room (apply (Write (Reg d) (Clear v)) s)) (t ∷ [])) (put_same d (Clear v) s.places)
      ∙ check_clear m home d (around base room (apply (Write (Reg d) (Clear v)) s)) v)

  passes : (op : WideOp) (l : List WideOp) (s : Flow) (ns : List ℤ) (v : ℤ) → flat base room (checks_of op l ++ l) (apply (does op.act ns v) s) ≡ flat base room l (apply (does op.act ns v) s)
  passes op l s ns v = by_one (needs_check op l) refl
    where
      with_check : RegisterWrites op.act → flat base room (check_of op (written op.act) ++ l) (apply (does op.act ns v) s) ≡ flat base room l (apply (does op.act ns v) s)
      with_check w =
          ap₂ (λ o e. flat base room (check_of op o ++ l) (apply e s)) w.to (w.value ns v) ∙ check_passes (suc op.number) op.home w.d v l s ∙ ap (λ e. flat base room l (apply e s)) (sym (w.value ns v))

      by_one : (b : Bool) → needs_check op l ≡ b → flat base room ((if b then check_of op (written op.act) else []) ++ l) (apply (does op.act ns v) s) ≡ flat base room l (apply (does op.act ns v) s)
      by_one false e = refl
      by_one true e = with_check (register_writes op.act (traps_register op.act (both (traps op.act) (not (settles (put_at (written op.act) true (λ r. false)) l)) e).0))

  clears_none : (op : WideOp) (ops : List WideOp) (s : Flow) (u : Plain) → written op.act ≡ None → Clears (op ∷ ops) s u → (r : ℕ) → needs heads ops r ≡ true → s.places (Reg r) ≡ Clear (u.places (Reg r))
  clears_none op ops s u t c r e = c r (needs_behind heads op ops r (rw t refl) e)

  clears_put : (op : WideOp) (ops : List WideOp) (s : Flow) (u : Plain) (q : ℕ) (v : Tagged) (z : ℤ) → written op.act ≡ Some q → v ≡ Clear z → Clears (op ∷ ops) s u → (r : ℕ) → needs heads ops r ≡ true → put (Reg q) v s.places (Reg r) ≡ Clear (put (Reg q) z u.places (Reg r))
  clears_put op ops s u q v z t is c r e = by_one (r == q) refl
    where
      by_one : (d : Bool) → (r == q) ≡ d → put (Reg q) v s.places (Reg r) ≡ Clear (put (Reg q) z u.places (Reg r))
      by_one true d = rw d is
      by_one false d = rw d (c r (needs_behind heads op ops r (rw (t, d) refl) e))

  abbrev More : List WideOp → Type 0
  More ops = (s : Flow) (u : Plain) → Matches s u → Clears ops s u → SameEvent heads (flat base room (checked ops) s) (plain base room ops u)

  -- an operation that does not fault
  goes : (op : WideOp) (ops cs : List WideOp) (s : Flow) (u : Plain) (e : Effect) → Suits heads op.act e → Clean e → flat base room (cs ++ checked ops) (apply e s) ≡ flat base room (checked ops) (apply e s) → Matches s u → Clears (op ∷ ops) s u → More ops → SameEvent heads (goes_on base room e (flat base room (cs ++ checked ops)) s) (plain_on e (plain base room ops) u)
  goes op ops cs s u (Go x) (AsGo x2 w can g) f p m c more = AtExit x s u m (λ r l. c r (needs_exit heads op ops r (g r l)))
  goes op ops cs s u (Leave z) st f p m c more = AtReturn z s u m
  goes op ops cs s u (Stop n k) st f p m c more = AtFault n k s u m
  goes op ops cs s u Nothing (AsNothing w en) f p m c more =
      subst (λ x. SameEvent heads x (plain base room ops u)) (sym p) (more s u m (clears_none op ops s u (written_none op.act w en) c))
  goes op ops cs s u (Save wd a z) (AsSave wd2 a2 z2 w en) f p m c more =
      subst (λ x. SameEvent heads x (plain base room ops (plain_apply (Save wd a z) u))) (sym p)
      (more (apply (Save wd a z) s) (plain_apply (Save wd a z) u) (record { memory = ap (saved wd a z) m.memory; left = m.left; out = m.out }) (clears_none op ops s u (written_none op.act w en) c))
  goes op ops cs s u (Print text) (AsPrint text2 w en) f p m c more =
      subst (λ x. SameEvent heads x (plain base room ops (plain_apply (Print text) u))) (sym p)
      (more (apply (Print text) s) (plain_apply (Print text) u) (record { memory = m.memory; left = m.left; out = ap (λ x. x ++ text) m.out }) (clears_none op ops s u (written_none op.act w en) c))
  goes op ops cs s u (Write to v) (AsWrite d v2 w en) f p m c more =
      subst (λ x. SameEvent heads x (plain base room ops (plain_apply (Write (Reg d) v) u))) (sym p)
      (more (apply (Write (Reg d) v) s) (plain_apply (Write (Reg d) v) u) (record { memory = m.memory; left = m.left; out = m.out }) (clears_put op ops s u d v (number_of v) (writes_written op.act d w) f c))
  goes op ops cs s u (Take d) (AsTake d2 w en) f p m c more =
      subst (λ x. SameEvent heads x (plain base room ops (plain_apply (Take d) u))) (sym p)
      (more (apply (Take d) s) (plain_apply (Take d) u) (record { memory = m.memory; left = ap behind_byte m.left; out = m.out })
      (clears_put op ops s u d (Clear (byte_from s.left)) (byte_from u.left) (writes_written op.act d w) (ap (λ x. Clear (byte_from x)) m.left) c))

  faults_trap : (act : WideAct) (ns : List ℤ) (m : List ℕ) (k : FaultKind) → own act base m room ns ≡ Err k → is_register act ≡ true → traps act ≡ true
  faults_trap (Do (Bounds to from bound)) ns m k e i = refl
  faults_trap (Do (Div size to left right)) ns m k e i = refl
  faults_trap (Do (Rem size to left right)) ns m k e i = refl
  faults_trap (Do (Load width to from offset)) ns m k e i = refl
  faults_trap (Do act) ns m k e i = cc
  faults_trap act ns m k e i = cc

  settles_checks : (op : WideOp) (d : ℕ) (l : List WideOp) → written op.act ≡ Some d → traps op.act ≡ true → settles (put_at (Some d) true (λ r. false)) (checks_of op l ++ l) ≡ true
  settles_checks op d l t p = by_one (settles (put_at (Some d) true (λ r. false)) l) refl
    where
      by_one : (b : Bool) → settles (put_at (Some d) true (λ r. false)) l ≡ b → settles (put_at (Some d) true (λ r. false)) (checks_of op l ++ l) ≡ true
      by_one true b = rw (p, t, b) b
      by_one false b = rw (p, t, b) (rw (eq_refl d) refl)

  put_nobody : (d q : ℕ) (t : Tagged) (f : Loc → Tagged) → put_at (Some d) true (λ r. false) q ≡ true → put (Reg d) t f (Reg q) ≡ t
  put_nobody d q t f e = by_one (q == d) refl
    where
      by_one : (b : Bool) → (q == d) ≡ b → put (Reg d) t f (Reg q) ≡ t
      by_one true b = rw b refl
      by_one false b = let h : false ≡ true = (rw b at e) in absurd (true≢false (sym h))

  -- an operation that faults
  faults : (op : WideOp) (ops : List WideOp) (s : Flow) (u : Plain) (k : FaultKind) (d : ℕ) → written op.act ≡ Some d → traps op.act ≡ true → Behind op.number (checked ops) → Matches s u → Clears (op ∷ ops) s u → SameEvent heads (flat base room (checks_of op (checked ops) ++ checked ops) (apply (Write (Reg d) (Mark op.number k)) s)) (ByFault op.number k u)
  faults op ops s u k d t p b m c =
      let w = settle heads base room op.number k (checks_of op (checked ops) ++ checked ops) (put_at (Some d) true (λ r. false)) (apply (Write (Reg d) (Mark op.number k)) s) (settles_checks op d (checked ops) t p)
      (check_behind op.number op (needs_check op (checked ops)) (checked ops) b)
      (λ q e. put_nobody d q (Mark op.number k) s.places e) later in
      subst (λ x. SameEvent heads x (ByFault op.number k u)) (sym w.stops)
      (AtFault op.number k w.after u (record { memory = w.same.memory ∙ m.memory; left = w.same.left ∙ m.left; out = w.same.out ∙ m.out }))
    where
      later : (q : ℕ) → needs heads (checks_of op (checked ops) ++ checked ops) q ≡ true → Later op.number k (put (Reg d) (Mark op.number k) s.places (Reg q))
      later q e = later_put heads base room op.number k d q (Mark op.number k) s.places IsIt other
        where
          other : (q == d) ≡ false → Later op.number k (s.places (Reg q))
          other b =
              let w : is_target (written op.act) q ≡ false = (rw (t, b) refl) in
              let h = needs_checked heads ops q (needs_past heads op (needs_check op (checked ops)) (checked ops) q w e) in
              subst (Later op.number k) (sym (c q (needs_behind heads op ops q w h))) (IsClear (u.places (Reg q)))

  settled_op : (op : WideOp) (ops : List WideOp) (s : Flow) (u : Plain) → is_item op.act ≡ true → op.flagged ≡ is_register op.act → Behind op.number (checked ops) → Matches s u → Clears (op ∷ ops) s u → More ops → (o : Result ℤ FaultKind) → own op.act base u.memory room (map u.places (sources op.act)) ≡ o → SameEvent heads (goes_on base room (shown op.act (map u.places (sources op.act)) (evaluated op.flagged op.number (Clear (pos 0)) o)) (flat base room (checks_of op (checked ops) ++ checked ops)) s) (plain_by op (map u.places (sources op.act)) o (plain base room ops) u)
  settled_op op ops s u it fl b m c more (Ok v) e =
      rw (value_either op.flagged op.number (pos 0) v)
      (goes op ops (checks_of op (checked ops)) s u (does op.act (map u.places (sources op.act)) v) (suits_does heads op.act (map u.places (sources op.act)) v it) (clean_does op.act (map u.places (sources op.act)) v)
      (passes op (checked ops) s (map u.places (sources op.act)) v) m c more)
  settled_op op ops s u it fl b m c more (Err k) e = by_one (is_register op.act) refl
    where
      by_one : (d : Bool) → is_register op.act ≡ d → SameEvent heads (goes_on base room (shown op.act (map u.places (sources op.act)) (evaluated op.flagged op.number (Clear (pos 0)) (Err k))) (flat base room (checks_of op (checked ops) ++ checked ops)) s) (ByFault op.number k u)
      by_one false d = rw (fl ∙ d) (AtFault op.number k s u m)
      by_one true d =
          let w = register_writes op.act d in
          let is : shown op.act (map u.places (sources op.act)) (evaluated op.flagged op.number (Clear (pos 0)) (Err k)) ≡ Write (Reg w.d) (Mark op.number k) =
          ap (λ x. shown op.act (map u.places (sources op.act)) (evaluated x op.number (Clear (pos 0)) (Err k))) (fl ∙ d) ∙ w.mark op.number k in
          subst (λ x. SameEvent heads (goes_on base room x (flat base room (checks_of op (checked ops) ++ checked ops)) s) (ByFault op.number k u)) (sym is)
          (faults op ops s u k w.d w.to (faults_trap op.act (map u.places (sources op.act)) u.memory k e d) b m c)

  -- the source order with its checks comes to the event of the source order without marks
  pub settled : {ops : List WideOp} (n : ℕ) (s : Flow) (u : Plain) → Every IsSource ops → Rises n ops → Matches s u → Clears ops s u → SameEvent heads (flat base room (checked ops) s) (plain base room ops u)
  settled n s u Nil r m c = AtEnd s u m
  settled n s u (Cons op ops w ws) (RisesBy n' op' ops' b fl r) m c =
      let is = effect_clear op s u w.item m.memory (λ q a. c q (needs_read heads op ops q a)) in
      subst (λ x. SameEvent heads (goes_on base room x (flat base room (checks_of op (checked ops) ++ checked ops)) s) (plain base room (op ∷ ops) u)) (sym is)
      (settled_op op ops s u w.item fl (behind_more (last_least op) (rises_behind ws r)) m c (λ s' u' m' c'. settled (last_number op) s' u' ws r m' c') (own op.act base u.memory room (map u.places (sources op.act))) refl)
