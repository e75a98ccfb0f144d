-- The items in the order of legal spots keep what depends on what.
use Rattle.std.proofs.Common.{◌≡◌, ℕ, ◌<◌, ◌≤◌, Bool, true, false, ◌==◌, nat_lt, List, [], ◌∷◌, ◌++◌, map, refl, sym, ap, ◌∙◌, subst, if◌then◌else◌, arith}
use Rattle.machine_desc.specs.declared.machine.OpClass.{OpClass}
use Rattle.wide_core.specs.declared.code.WideOp.{WideOp}
use Rattle.wide_core.specs.Uses.{reads, in_list, is_target, written}
use Rattle.wide_core.specs.Flat.{at_exits}
use Rattle.wide_core.specs.Every.{Every, Nil, Cons}
use Rattle.sb_order.specs.Edges.{Item, apart, is_member}
use Rattle.sb_order.specs.Schedule.{Spot, earlier, insert, sorted, edges_kept}
use Rattle.sb_order.specs.Order.{Free, Keeps, Empty, Bring}
use Rattle.sb_order.proofs.Closed.{eq_same, true_lt, both, is_the, Closed, Before, Sooner, before_of, AllClosed, AllNone, AllMore, all_closed}

pub false_by : (b : Bool) → (b ≡ true → ⊥) → b ≡ false
false_by true h = absurd (h refl)
false_by false h = refl

pub true_by : (b : Bool) → (b ≡ false → ⊥) → b ≡ true
true_by true h = refl
true_by false h = absurd (h refl)

module _ (heads : ℕ → ℕ → Bool) (one : Bool) (width : ℕ) (units latency : OpClass → ℕ) (takes_time : (class : OpClass) → 1 ≤ latency class) (spot : ℕ → Spot) where
  abbrev pub Clo : Item → Item → Type 0
  Clo = Closed heads one width units latency takes_time spot

  abbrev pub Bef : Item → Item → Type 0
  Bef = Before heads one width units latency takes_time spot

  pub not_sooner : {x y : Item} → (Bef x y → ⊥) → Sooner heads one width units latency takes_time spot x y → ⊥
  not_sooner h s = h (before_of heads one width units latency takes_time spot s)

  -- where the later of two does not come behind the other, they are free of each other
  pub free_of : {x y : Item} → Clo x y → (Bef x y → ⊥) → Free heads y x
  free_of {x} {y} c h = record {
    read_by = λ r t. false_by (in_list r (reads x.op.act)) (λ u. h (c.use_def r t u));
    reads_of = λ r t. false_by (in_list r (reads y.op.act)) (λ u. not_sooner h (c.def_use r t u));
    differ = λ r t. false_by (is_target (written x.op.act) r) (λ u. not_sooner h (c.def_def r (is_the (written x.op.act) r u) t));
    spares = λ r t. false_by (at_exits heads x.op.act r) (λ u. h (c.exit_def r t u));
    spared = λ r t. false_by (at_exits heads y.op.act r) (λ u. h (c.def_exit r t u));
    store_load = true_by (apart y x) (λ e. h (c.load_store e));
    load_store = true_by (apart x y) (λ e. not_sooner h (c.store_load e));
    mobile = λ m. false_by (is_member x) (λ n. h (c.chain n m));
  }

  abbrev ops_of : List Item → List WideOp
  ops_of is = map (λ (i : Item). i.op) is

  -- the same sort, of items
  abbrev pub put_item : Item → List Item → List Item
  put_item i [] = i ∷ []
  put_item i (a ∷ l) = if earlier spot a.op i.op then a ∷ put_item i l else i ∷ a ∷ l

  abbrev pub sorted_items : List Item → List Item
  sorted_items [] = []
  sorted_items (i ∷ is) = put_item i (sorted_items is)

  put_ops : (i : Item) (l : List Item) → ops_of (put_item i l) ≡ insert spot i.op (ops_of l)
  put_ops i [] = refl
  put_ops i (a ∷ l) = by_one (earlier spot a.op i.op) (put_ops i l)
    where
      by_one : (b : Bool) → ops_of (put_item i l) ≡ insert spot i.op (ops_of l) → ops_of (if b then a ∷ put_item i l else i ∷ a ∷ l) ≡ (if b then a.op ∷ insert spot i.op (ops_of l) else i.op ∷ a.op ∷ ops_of l)
      by_one true h = ap (λ x. a.op ∷ x) h
      by_one false h = refl

  -- the operations of the sorted items are the sorted operations
  pub sorted_ops : (is : List Item) → ops_of (sorted_items is) ≡ sorted spot (ops_of is)
  sorted_ops [] = refl
  sorted_ops (i ∷ is) = put_ops i (sorted_items is) ∙ ap (insert spot i.op) (sorted_ops is)

  pub record Order (a b : Item) : Type 0 where
    pub cycles : (spot a.op.number).cycle ≤ (spot b.op.number).cycle
    pub slots : (spot a.op.number).cycle ≡ (spot b.op.number).cycle → (spot a.op.number).slot < (spot b.op.number).slot

  pub earlier_is : (a b : Item) → earlier spot a.op b.op ≡ true → Order a b
  earlier_is a b e = by_one (nat_lt (spot a.op.number).cycle (spot b.op.number).cycle) refl
    where
      by_one : (d : Bool) → nat_lt (spot a.op.number).cycle (spot b.op.number).cycle ≡ d → Order a b
      by_one true d = let h = true_lt (spot a.op.number).cycle (spot b.op.number).cycle d in record { cycles = omega arith; slots = λ e. absurd (omega arith) }
      by_one false d =
          let g = both ((spot a.op.number).cycle == (spot b.op.number).cycle) (nat_lt (spot a.op.number).slot (spot b.op.number).slot) (rw d at e) in
          let h = eq_same (spot a.op.number).cycle (spot b.op.number).cycle g.0 in
          let k = true_lt (spot a.op.number).slot (spot b.op.number).slot g.1 in
          record { cycles = omega arith; slots = λ e. k }

  pub every_put : {P : Item → Type 0} (i : Item) {l : List Item} → P i → Every P l → Every P (put_item i l)
  every_put {P} i p Nil = Cons i [] p Nil
  every_put {P} i p (Cons a l q qs) = by_one (earlier spot a.op i.op) (every_put i p qs)
    where
      by_one : (b : Bool) → Every P (put_item i l) → Every P (if b then a ∷ put_item i l else i ∷ a ∷ l)
      by_one true more = Cons a (put_item i l) q more
      by_one false more = Cons i (a ∷ l) p (Cons a l q qs)

  pub every_sorted : {P : Item → Type 0} {l : List Item} → Every P l → Every P (sorted_items l)
  every_sorted Nil = Nil
  every_sorted (Cons a l p ps) = every_put a p (every_sorted ps)

  pub not_before : {a i : Item} → Order a i → Bef i a → ⊥
  not_before {a} {i} o b =
      let h = o.cycles in
      let g = b.cycles in
      let p : (spot a.op.number).cycle ≡ (spot i.op.number).cycle = omega arith in
      let q : (spot i.op.number).cycle ≡ (spot a.op.number).cycle = omega arith in
      let j = o.slots p in
      let k = b.slots q in
      omega arith

  -- where an item was put
  record Put (i : Item) (l : List Item) : Type 0 where
    xs : List Item
    ys : List Item
    whole : xs ++ ys ≡ l
    new : put_item i l ≡ xs ++ i ∷ ys
    free : Every (λ (a : Item). Free heads a i) xs

  put_in : {i : Item} {l : List Item} → Every (Clo i) l → Put i l
  put_in {i} Nil = record { xs = []; ys = []; whole = refl; new = refl; free = Nil }
  put_in {i} (Cons a l c cs) = by_one (earlier spot a.op i.op) refl (put_in cs)
    where
      by_one : (b : Bool) → earlier spot a.op i.op ≡ b → Put i l → Put i (a ∷ l)
      by_one true e p = record {
        xs = a ∷ p.xs;
        ys = p.ys;
        whole = ap (λ x. a ∷ x) p.whole;
        new = rw e (ap (λ x. a ∷ x) p.new);
        free = Cons a p.xs (free_of c (not_before (earlier_is a i e))) p.free;
      }
      by_one false e p = record { xs = []; ys = a ∷ l; whole = refl; new = rw e refl; free = Nil }

  keeps_sorted : {is : List Item} → AllClosed heads one width units latency takes_time spot is → Keeps heads is (sorted_items is)
  keeps_sorted AllNone = Empty
  keeps_sorted (AllMore x xs c a) =
      let p = put_in (every_sorted c) in
      subst (λ l. Keeps heads (x ∷ xs) l) (sym p.new) (Bring x xs p.xs p.ys p.free (subst (λ l. Keeps heads xs l) (sym p.whole) (keeps_sorted a)))

  -- legal spots keep what depends on what
  pub keeps_legal : (is : List Item) → edges_kept heads one width units latency spot is ≡ true → Keeps heads is (sorted_items is)
  keeps_legal is e = keeps_sorted (all_closed heads one width units latency takes_time spot is e)
