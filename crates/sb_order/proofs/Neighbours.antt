-- Two items that are free of each other neither feel nor hinder each other, so they may change places.
use Rattle.std.proofs.Common.{◌≡◌, ℕ, ◌≤◌, Bool, true, false, ◌&&◌, ◌||◌, not, ◌==◌, List, [], ◌∷◌, ◌++◌, map, true≢false, Option, Some, None, Result, Ok, Err, if◌then◌else◌, refl, sym, ap, ap₂, ◌∙◌, subst, ℤ, ◌+ℤ◌}
use Rattle.std.specs.Int.{w64, cast_unsigned}
use mathlib.Core.Path.{fun_ext}
use Rattle.ib_meaning.specs.declared.fault.FaultKind.{FaultKind}
use Rattle.ib_base.specs.declared.integers.Width.{Width}
use Rattle.ib_act.specs.declared.act.Act.{Act}
use Rattle.ib_act.specs.declared.act.Act.TheVariants.{Load, Store, Get, PutByte, PutNumber}
use Rattle.ib_act.specs.Acts.{address, bytes_in, first_source, second_source, read_as, target as act_target}
use Rattle.ib_mem.specs.Memory.{can_access, loaded}
use Rattle.wide_core.specs.declared.code.Loc.{Loc}
use Rattle.wide_core.specs.declared.code.Loc.TheVariants.{Reg, Slot}
use Rattle.wide_core.specs.declared.code.Tagged.{Tagged}
use Rattle.wide_core.specs.declared.code.Tagged.TheVariants.{Clear, Mark}
use Rattle.wide_core.specs.declared.code.WideAct.{WideAct}
use Rattle.wide_core.specs.declared.code.WideAct.TheVariants.{Do, Spill, Reload, Check, Jump, Branch, BranchZero, Call, Return}
use Rattle.wide_core.specs.declared.code.WideOp.{WideOp}
use Rattle.wide_core.specs.Classes.{is_register}
use Rattle.wide_core.specs.Tagged.{number_of, least_mark, evaluated}
use Rattle.wide_core.specs.Places.{put}
use Rattle.wide_core.specs.Operation.{reg_if, sources, target, Exit, Effect, Nothing, Write, Save, Take, Print, Go, Leave, Stop, first_of, own, is_zero, writes, does_act, does, keeps_mark, shown, Around, effect_by, effect_on}
use Rattle.wide_core.specs.Word.{Flow, apply, byte_from, behind_byte}
use Rattle.wide_core.specs.Uses.{reads, is_item, in_list, opt_list, is_target, written}
use Rattle.wide_core.specs.Flat.{around, one_effect, at_exit, at_exits, flat}
use Rattle.wide_core.specs.Accesses.{Base, Known, base_in, store_of, load_of, apart_at, same_root, disjoint}
use Rattle.sb_order.specs.Edges.{Item, apart, is_member}
use Rattle.sb_order.specs.Order.{InRange, IsOperation, Free}
use Rattle.sb_order.proofs.Closed.{eq_same, eq_refl, is_the, target_is, both}
use Rattle.mem_laws.proofs.Stores.{kept, loaded_kept}
use Rattle.wide_laws.proofs.Suits.{Suits, AsWrite, AsTake, AsGo, written_on}
use Rattle.sb_order.proofs.Holds.{Holds, far_of, writes_written, put_other, other_than, suits}
use Rattle.sb_order.proofs.Swap.{Like, like_sym, Apart, swap_apart}

-- ---- what is read

source_lists : (o p : Option ℕ) → reg_if o ++ reg_if p ≡ map (λ r. Reg r) (opt_list o ++ opt_list p)
source_lists None None = refl
source_lists None (Some q) = refl
source_lists (Some r) None = refl
source_lists (Some r) (Some q) = refl

source_list : (o : Option ℕ) → reg_if o ≡ map (λ r. Reg r) (opt_list o)
source_list None = refl
source_list (Some r) = refl

pub sources_read : (act : WideAct) → is_item act ≡ true → sources act ≡ map (λ r. Reg r) (reads act)
sources_read (Do act) i = source_lists (first_source act) (second_source act)
sources_read (Spill n a) i = refl
sources_read (Reload d n) i = cc
sources_read (Check a) i = refl
sources_read (Jump w) i = refl
sources_read (Branch a w) i = refl
sources_read (BranchZero a w) i = refl
sources_read (Call result func next args) i = refl
sources_read (Return a) i = source_list a

pub or_false : (a b : Bool) → (a || b) ≡ false → (a ≡ false) × (b ≡ false)
or_false true b e = absurd (true≢false e)
or_false false b e = (refl, e)

pub eq_turned : (a b : ℕ) → (a == b) ≡ false → (b == a) ≡ false
eq_turned a b e = by_one (b == a) refl
  where
    by_one : (c : Bool) → (b == a) ≡ c → (b == a) ≡ false
    by_one false f = f
    by_one true f = absurd (true≢false (sym (subst (λ x. (x == b) ≡ true) (eq_same b a f) (eq_refl b)) ∙ e))

values_put : (d : ℕ) (v : Tagged) (f : Loc → Tagged) (rs : List ℕ) → in_list d rs ≡ false → map (put (Reg d) v f) (map (λ r. Reg r) rs) ≡ map f (map (λ r. Reg r) rs)
values_put d v f [] h = refl
values_put d v f (r ∷ rs) h =
    let g = or_false (d == r) (in_list d rs) h in
    ap₂ (λ x xs. x ∷ xs) (put_other d r v f (eq_turned d r g.0)) (values_put d v f rs g.1)

-- ---- what a store's effect tells of it

pub record Saves (act : WideAct) (values : List Tagged) (w : Width) (a : ℤ) : Type 0 where
  pub to : ℕ
  pub offset : ℤ
  pub from : ℕ
  pub is : act ≡ Do (Store w to offset from)
  pub at : a ≡ address (first_of (map number_of values)) offset
  pub can : can_access a (bytes_in w) ≡ true

abbrev pub Stored : WideAct → List Tagged → Effect → Type 0
Stored act values (Save w a z) = Saves act values w a
Stored act values e = Unit {0}

module _ (values : List Tagged) where
  stored_writes : (act : WideAct) (o : Option ℕ) (v : ℤ) → Stored act values (writes o v)
  stored_writes act None v = tt
  stored_writes act (Some d) v = tt

  can_of : (b : Bool) (y v : ℤ) (k : FaultKind) → (if b then Ok y else Err k) ≡ Ok v → b ≡ true
  can_of true y v k e = refl
  can_of false y v k e = cc

  stored_act : (act : Act) (base : ℕ) (memory : List ℕ) (room : ℕ → Bool) (v : ℤ) → own (Do act) base memory room (map number_of values) ≡ Ok v → Stored (Do act) values (does_act act (first_of (map number_of values)) v)
  stored_act (Store w a o b) base memory room v e = record { to = a; offset = o; from = b; is = refl; at = refl; can = can_of (can_access (address (first_of (map number_of values)) o) (bytes_in w)) _ v _ e }
  stored_act (Get d) base memory room v e = tt
  stored_act (PutByte a) base memory room v e = tt
  stored_act (PutNumber a) base memory room v e = tt
  stored_act act base memory room v e = stored_writes (Do act) (act_target act) v

  stored_if : (act : WideAct) (b : Bool) (e f : Effect) → Stored act values e → Stored act values f → Stored act values (if b then e else f)
  stored_if act true e f g h = g
  stored_if act false e f g h = h

  stored_does : (act : WideAct) (base : ℕ) (memory : List ℕ) (room : ℕ → Bool) (v : ℤ) → own act base memory room (map number_of values) ≡ Ok v → Stored act values (does act (map number_of values) v)
  stored_does (Do act) base memory room v e = stored_act act base memory room v e
  stored_does (Spill n a) base memory room v e = tt
  stored_does (Reload d n) base memory room v e = tt
  stored_does (Check a) base memory room v e = tt
  stored_does (Jump w) base memory room v e = tt
  stored_does (Branch a w) base memory room v e = stored_if (Branch a w) (is_zero v) _ _ tt tt
  stored_does (BranchZero a w) base memory room v e = stored_if (BranchZero a w) (is_zero v) _ _ tt tt
  stored_does (Call result func next args) base memory room v e = tt
  stored_does (Return a) base memory room v e = tt

  stored_mark : (act : WideAct) (o : Option Loc) (n : ℕ) (k : FaultKind) → Stored act values (keeps_mark o n k)
  stored_mark act None n k = tt
  stored_mark act (Some d) n k = tt

  stored_shown : (act : WideAct) (base : ℕ) (memory : List ℕ) (room : ℕ → Bool) (flagged : Bool) (n : ℕ) (t : Tagged) (o : Result ℤ FaultKind) → own act base memory room (map number_of values) ≡ o → Stored act values (shown act (map number_of values) (evaluated flagged n t o))
  stored_shown act base memory room true n (Mark m k) o e = stored_mark act (target act) m k
  stored_shown act base memory room true n (Clear x) (Ok v) e = stored_does act base memory room v e
  stored_shown act base memory room true n (Clear x) (Err k) e = stored_mark act (target act) n k
  stored_shown act base memory room false n (Mark m k) o e = tt
  stored_shown act base memory room false n (Clear x) (Ok v) e = stored_does act base memory room v e
  stored_shown act base memory room false n (Clear x) (Err k) e = tt

  stored_by : (act : WideAct) (op : WideOp) (around : Around) → Stored act values (effect_by act op around values)
  stored_by (Spill n a) op around = tt
  stored_by (Reload d n) op around = tt
  stored_by act op around = stored_shown act around.base around.memory around.room op.flagged op.number (least_mark values) (own act around.base around.memory around.room (map number_of values)) refl

  pub stored_on : (op : WideOp) (around : Around) → Stored op.act values (effect_on op around values)
  unfolding effect_on
  stored_on op around = stored_by op.act op around

-- ---- what an operation feels of the memory

-- two memories give each load of the operation the same
abbrev pub FeelsNot : WideAct → List Tagged → (memory other : List ℕ) → Type 0
FeelsNot act values memory other =
    (w : Width) (to from : ℕ) (o : ℤ) → act ≡ Do (Load w to from o) → loaded other (address (first_of (map number_of values)) o) (bytes_in w) ≡ loaded memory (address (first_of (map number_of values)) o) (bytes_in w)

own_same_act : (act : Act) (base : ℕ) (room : ℕ → Bool) (values : List Tagged) (memory other : List ℕ) → FeelsNot (Do act) values memory other → own (Do act) base other room (map number_of values) ≡ own (Do act) base memory room (map number_of values)
own_same_act (Load w to from o) base room values memory other h = ap (read_as w) (h w to from o refl)
own_same_act act base room values memory other h = refl

own_same : (act : WideAct) (base : ℕ) (room : ℕ → Bool) (values : List Tagged) (memory other : List ℕ) → FeelsNot act values memory other → own act base other room (map number_of values) ≡ own act base memory room (map number_of values)
own_same (Do act) base room values memory other h = own_same_act act base room values memory other h
own_same act base room values memory other h = refl

effect_same : (act : WideAct) (op : WideOp) (base : ℕ) (room : ℕ → Bool) (values : List Tagged) (memory other : List ℕ) → FeelsNot act values memory other → effect_by act op (record { base = base; memory = other; room = room }) values ≡ effect_by act op (record { base = base; memory = memory; room = room }) values
effect_same (Spill n a) op base room values memory other h = refl
effect_same (Reload d n) op base room values memory other h = refl
effect_same act op base room values memory other h =
    ap (λ x. shown act (map number_of values) (evaluated op.flagged op.number (least_mark values) x)) (own_same act base room values memory other h)

pub on_same : (op : WideOp) (base : ℕ) (room : ℕ → Bool) (values : List Tagged) (memory other : List ℕ) → FeelsNot op.act values memory other → effect_on op (record { base = base; memory = other; room = room }) values ≡ effect_on op (record { base = base; memory = memory; room = room }) values
unfolding effect_on
on_same op base room values memory other h = effect_same op.act op base room values memory other h

-- ---- two items

-- what is known of a store's and a load's bases
far_act : (k : Known) (act other : WideAct) (x y : Base) (w v : Width) (to from into at : ℕ) (o p : ℤ) → act ≡ Do (Store w to o from) → other ≡ Do (Load v into at p) → x ≡ base_in k (reads act) → y ≡ base_in k (reads other) → apart_at (store_of act) (load_of other) x y ≡ true → (same_root (k to).root (k at).root && disjoint ((k to).from +ℤ o) (bytes_in w) ((k at).from +ℤ p) (bytes_in v)) ≡ true
far_act k act other x y w v to from into at o p e f g h d =
    let x_is : x ≡ k to = g ∙ ap (λ a. base_in k (reads a)) e in
    let y_is : y ≡ k at = h ∙ ap (λ a. base_in k (reads a)) f in
    sym (ap₂ (λ a b. apart_at (store_of a) (load_of b) (k to) (k at)) e f) ∙ sym (ap₂ (λ a b. apart_at (store_of act) (load_of other) a b) x_is y_is) ∙ d

put_swap : (d q : ℕ) (v w : Tagged) (f : Loc → Tagged) → (d == q) ≡ false → put (Reg q) w (put (Reg d) v f) ≡ put (Reg d) v (put (Reg q) w f)
put_swap d q v w f e = fun_ext at
  where
    by_two : (r : ℕ) (b : Bool) → (r == d) ≡ b → (c : Bool) → (r == q) ≡ c → put (Reg q) w (put (Reg d) v f) (Reg r) ≡ put (Reg d) v (put (Reg q) w f) (Reg r)
    by_two r true g true h = absurd (true≢false (sym (subst (λ x. (x == q) ≡ true) (eq_same r d g) h) ∙ e))
    by_two r true g false h = simp (g, h)
    by_two r false g true h = simp (g, h)
    by_two r false g false h = simp (g, h)

    at : (x : Loc) → put (Reg q) w (put (Reg d) v f) x ≡ put (Reg d) v (put (Reg q) w f) x
    at (Slot n) = refl
    at (Reg r) = by_two r (r == d) refl (r == q) refl

module _ (heads : ℕ → ℕ → Bool) (base : ℕ) (low : base ≤ 1048576) (room : ℕ → Bool) where
  abbrev E : WideOp → Flow → Effect
  E = one_effect base room

  -- both are operations of a superblock, with what is known of their bases
  pub record Both (k : Known) (a i : Item) : Type 0 where
    pub first : IsOperation a.op
    pub second : IsOperation i.op
    pub first_base : a.base ≡ base_in k (reads a.op.act)
    pub second_base : i.base ≡ base_in k (reads i.op.act)

  pub same_values : (act : WideAct) (d : ℕ) (v : Tagged) (f : Loc → Tagged) → is_item act ≡ true → in_list d (reads act) ≡ false → map (put (Reg d) v f) (sources act) ≡ map f (sources act)
  same_values act d v f i h =
      let src = sources_read act i in ap (map (put (Reg d) v f)) src ∙ values_put d v f (reads act) h ∙ ap (map f) (sym src)

  -- what the first does is not felt by the second
  pub stays : (a i : Item) (s : Flow) (k : Known) → Both k a i → Holds base k s → ((r : ℕ) → written a.op.act ≡ Some r → in_list r (reads i.op.act) ≡ false) → apart a i ≡ true → (e : Effect) → Suits heads a.op.act e → Stored a.op.act (map s.places (sources a.op.act)) e → E i.op (apply e s) ≡ E i.op s
  stays a i s k b h misses far Nothing u st = refl
  stays a i s k b h misses far (Write to v) (AsWrite d v2 w en) st =
      ap (effect_on i.op (around base room s)) (same_values i.op.act d v s.places b.second.item (misses d (writes_written a.op.act d w)))
  stays a i s k b h misses far (Take d) (AsTake d2 w en) st =
      ap (effect_on i.op (around base room s)) (same_values i.op.act d (Clear (byte_from s.left)) s.places b.second.item (misses d (writes_written a.op.act d w)))
  stays a i s k b h misses far (Print text) u st = refl
  stays a i s k b h misses far (Go x) u st = refl
  stays a i s k b h misses far (Leave z) u st = refl
  stays a i s k b h misses far (Stop n l) u st = refl
  stays a i s k b h misses far (Save w x z) u st = on_same i.op base room (map s.places (sources i.op.act)) s.memory (kept s.memory x (bytes_in w) (cast_unsigned w64 z)) felt
    where
      felt : FeelsNot i.op.act (map s.places (sources i.op.act)) s.memory (kept s.memory x (bytes_in w) (cast_unsigned w64 z))
      felt v into at p e =
          let here : first_of (map number_of (map s.places (sources i.op.act))) ≡ number_of (s.places (Reg at)) = ap (λ y. first_of (map number_of (map s.places (sources y)))) e in
          let there : x ≡ address (number_of (s.places (Reg st.to))) st.offset = st.at ∙ ap (λ y. address (first_of (map number_of (map s.places (sources y)))) st.offset) st.is in
          let g = both (same_root (k st.to).root (k at).root) (disjoint ((k st.to).from +ℤ st.offset) (bytes_in w) ((k at).from +ℤ p) (bytes_in v))
          (far_act k a.op.act i.op.act a.base i.base w v st.to st.from into at st.offset p st.is e b.first_base b.second_base far) in
          subst (λ y. loaded (kept s.memory x (bytes_in w) (cast_unsigned w64 z)) (address y p) (bytes_in v) ≡ loaded s.memory (address y p) (bytes_in v)) (sym here)
          (subst (λ y. loaded (kept s.memory y (bytes_in w) (cast_unsigned w64 z)) (address (number_of (s.places (Reg at))) p) (bytes_in v) ≡ loaded s.memory (address (number_of (s.places (Reg at))) p) (bytes_in v)) (sym there)
          (loaded_kept s.memory (address (number_of (s.places (Reg st.to))) st.offset) (address (number_of (s.places (Reg at))) p) (bytes_in w) (bytes_in v) (cast_unsigned w64 z) h.whole
          (λ c l. far_of base low st.to at (k st.to).root (k at).root (k st.to).from (k at).from (s.places (Reg st.to)) (s.places (Reg at)) st.offset p (bytes_in w) (bytes_in v) (h.says st.to) (h.says at) (λ q. ap (λ y. s.places (Reg y)) q) g.0 g.1
          (subst InRange st.is b.first.in_range) (subst InRange e b.second.in_range) c l)))

  write_swap : (d : ℕ) (v : Tagged) (act : WideAct) (s : Flow) (e : Effect) → is_target (written act) d ≡ false → Suits heads act e → apply e (apply (Write (Reg d) v) s) ≡ apply (Write (Reg d) v) (apply e s)
  write_swap d v act s Nothing h u = refl
  write_swap d v act s (Write to w) h (AsWrite q w2 t en) = ap (λ f. record s { places = f }) (put_swap d q v w s.places (other_than (written act) q d (writes_written act q t) h))
  write_swap d v act s (Save w x z) h u = refl
  write_swap d v act s (Take q) h (AsTake q2 t en) = ap (λ f. record s { places = f; left = behind_byte s.left }) (put_swap d q v (Clear (byte_from s.left)) s.places (other_than (written act) q d (writes_written act q t) h))
  write_swap d v act s (Print text) h u = refl
  write_swap d v act s (Go x) h u = refl
  write_swap d v act s (Leave z) h u = refl
  write_swap d v act s (Stop n k) h u = refl

  pub not_true : (a : Bool) → not a ≡ false → a ≡ true
  not_true true e = refl
  not_true false e = absurd (true≢false e)

  both_back : {k : Known} {a i : Item} → Both k a i → Both k i a
  both_back b = record { first = b.second; second = b.first; first_base = b.second_base; second_base = b.first_base }

  pub exits : (act : WideAct) (x : Exit) → Suits heads act (Go x) → (r : ℕ) → at_exit heads x r ≡ true → at_exits heads act r ≡ true
  exits act x (AsGo x2 w can g) r l = g r l

  pub spared_other : (f : ℕ → Bool) (d r : ℕ) → f d ≡ false → f r ≡ true → (r == d) ≡ false
  spared_other f d r e g = by_one (r == d) refl
    where
      by_one : (b : Bool) → (r == d) ≡ b → (r == d) ≡ false
      by_one false h = h
      by_one true h = absurd (true≢false (sym g ∙ ap f (eq_same r d h) ∙ e))

  apart_free : (a i : Item) (s : Flow) (k : Known) → Both k a i → Holds base k s → Free heads a i → is_member a ≡ false → Apart heads base room a.op i.op s
  apart_free a i s k b h f m =
      let fr = both a.op.flagged (is_register a.op.act) (not_true (a.op.flagged && is_register a.op.act) m) in
      let w = written_on a.op (around base room s) (map s.places (sources a.op.act)) fr.0 fr.1 in
      let to = writes_written a.op.act w.d w.to in
      record {
        d = w.d;
        v = w.v;
        is = w.is;
        first = stays a i s k b h f.read_by f.store_load (Write (Reg w.d) w.v) (subst (Suits heads a.op.act) w.is (suits heads base room a.op s b.first)) tt;
        second = stays i a s k (both_back b) h f.reads_of f.load_store (E i.op s) (suits heads base room i.op s b.second) (stored_on (map s.places (sources i.op.act)) i.op (around base room s));
        order = write_swap w.d w.v i.op.act s (E i.op s) (f.differ w.d to) (suits heads base room i.op s b.second);
        spared = λ x e r l. put_other w.d r w.v s.places (spared_other (at_exits heads i.op.act) w.d r (f.spares w.d to) (exits i.op.act x (subst (Suits heads i.op.act) e (suits heads base room i.op s b.second)) r l));
      }

  free_back : {a i : Item} → Free heads a i → Free heads i a
  free_back {a} {i} f = record {
    read_by = f.reads_of;
    reads_of = f.read_by;
    differ = λ r t. by_one r t (is_target (written a.op.act) r) refl;
    spares = f.spared;
    spared = f.spares;
    store_load = f.load_store;
    load_store = f.store_load;
    mobile = λ m. by_two m (is_member a) refl;
  }
    where
      by_one : (r : ℕ) → written i.op.act ≡ Some r → (b : Bool) → is_target (written a.op.act) r ≡ b → is_target (written a.op.act) r ≡ false
      by_one r t false e = e
      by_one r t true e = absurd (true≢false (sym (target_is (written i.op.act) r t) ∙ f.differ r (is_the (written a.op.act) r e)))

      by_two : is_member i ≡ true → (b : Bool) → is_member a ≡ b → is_member a ≡ false
      by_two m false e = e
      by_two m true e = absurd (true≢false (sym m ∙ f.mobile e))

  -- two items that are free of each other change places
  pub swaps : (a i : Item) (rest : List WideOp) (k : Known) (s : Flow) → Both k a i → Holds base k s → Free heads a i → Like heads (flat base room (a.op ∷ i.op ∷ rest) s) (flat base room (i.op ∷ a.op ∷ rest) s)
  swaps a i rest k s b h f = by_one (is_member a) refl
    where
      by_one : (m : Bool) → is_member a ≡ m → Like heads (flat base room (a.op ∷ i.op ∷ rest) s) (flat base room (i.op ∷ a.op ∷ rest) s)
      by_one false m = swap_apart heads base room a.op i.op rest s (apart_free a i s k b h f m)
      by_one true m = like_sym heads base room (swap_apart heads base room i.op a.op rest s (apart_free i a s k (both_back b) h (free_back f) (f.mobile m)))
