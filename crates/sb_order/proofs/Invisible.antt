-- The words of a legal schedule come to the event of the source order: speculation is invisible.
use Rattle.std.proofs.Common.{◌≡◌, ℕ, ◌<◌, ◌≤◌, Bool, true, false, ◌&&◌, ◌==◌, nat_lt, List, [], ◌∷◌, ◌++◌, ◌⊎◌, inl, inr, if◌then◌else◌, refl, sym, ap, ◌∙◌, subst, arith}
use Rattle.std.proofs.lemmas.Bool.Decides.{nat_tests}
use Rattle.machine_desc.specs.declared.machine.OpClass.{OpClass}
use Rattle.wide_core.specs.Word.{Through}
use Rattle.wide_core.specs.Uses.{reads, in_list}
use Rattle.wide_core.specs.Flat.{flat, run_words, at_exits, joined}
use Rattle.wide_core.specs.Every.{Every, Nil, Cons}
use Rattle.wide_core.specs.Accesses.{Known, learn, base_in, at_head}
use Rattle.wide_core.specs.Classes.{is_control}
use Rattle.sb_order.specs.Edges.{Item, items, apart, is_member}
use Rattle.sb_order.specs.Schedule.{Spot, with_struck, earlier, sorted, cut, cut_behind, joined_to, words_of, scheduled}
use Rattle.sb_order.specs.Order.{IsOperation, FlatInvisible, Invisible}
use Rattle.sb_order.proofs.Closed.{eq_same, eq_refl, true_lt, AllClosed, AllNone, AllMore, all_closed}
use Rattle.sb_order.proofs.Sorted.{true_by, false_by, Clo, Order, put_item, sorted_items, sorted_ops, earlier_is, not_before, every_put, every_sorted, keeps_legal}
use Rattle.sb_order.proofs.Holds.{Holds}
use Rattle.sb_order.proofs.Neighbours.{or_false}
use Rattle.sb_order.proofs.Swap.{Like}
use Rattle.sb_order.proofs.Reorder.{Truthful, Silent, Speak, truthful_items, reorder}
use Rattle.sb_order.proofs.Speculation.{operations, ops_items, edges, like_event}
use Rattle.sb_order.proofs.Cut.{control_member, flat_invisible}
use Rattle.sb_order.proofs.Joined.{joined_scheduled}
use Rattle.sb_order.proofs.Words.{Beside, IsWord, EmptyWord, LongerWord, AllWords, NoWords, MoreWords, ops_of, all_of, words_ops, words_run}

-- ---- the words, of items

module _ (spot : ℕ → Spot) where
  abbrev cut_item : Item → List Item → List Item
  cut_item a [] = if is_control a.op.act then a ∷ [] else []
  cut_item a (b ∷ rest) = a ∷ b ∷ rest

  abbrev pub cut_items : List Item → List Item
  cut_items [] = []
  cut_items (a ∷ l) = cut_item a (cut_items l)

  cut_item_ops : (a : Item) (l : List Item) → ops_of (cut_item a l) ≡ cut_behind spot a.op (ops_of l)
  cut_item_ops a [] = by_one (is_control a.op.act)
    where
      by_one : (b : Bool) → ops_of (if b then a ∷ [] else []) ≡ (if b then a.op ∷ [] else [])
      by_one true = refl
      by_one false = refl
  cut_item_ops a (b ∷ rest) = refl

  pub cut_ops : (l : List Item) → ops_of (cut_items l) ≡ cut spot (ops_of l)
  cut_ops [] = refl
  cut_ops (a ∷ l) = cut_item_ops a (cut_items l) ∙ ap (cut_behind spot a.op) (cut_ops l)

  abbrev joined_item : Item → List (List Item) → List (List Item)
  joined_item a [] = (a ∷ []) ∷ []
  joined_item a ([] ∷ ws) = (a ∷ []) ∷ ws
  joined_item a ((b ∷ w) ∷ ws) = if (spot a.op.number).cycle == (spot b.op.number).cycle then (a ∷ b ∷ w) ∷ ws else (a ∷ []) ∷ (b ∷ w) ∷ ws

  abbrev pub words_items : List Item → List (List Item)
  words_items [] = []
  words_items (a ∷ l) = joined_item a (words_items l)

  joined_item_ops : (a : Item) (ws : List (List Item)) → words_ops (joined_item a ws) ≡ joined_to spot a.op (words_ops ws)
  joined_item_ops a [] = refl
  joined_item_ops a ([] ∷ ws) = refl
  joined_item_ops a ((b ∷ w) ∷ ws) = by_one ((spot a.op.number).cycle == (spot b.op.number).cycle)
    where
      by_one : (c : Bool) → words_ops (if c then (a ∷ b ∷ w) ∷ ws else (a ∷ []) ∷ (b ∷ w) ∷ ws) ≡ (if c then (a.op ∷ b.op ∷ ops_of w) ∷ words_ops ws else (a.op ∷ []) ∷ (b.op ∷ ops_of w) ∷ words_ops ws)
      by_one true = refl
      by_one false = refl

  pub words_items_ops : (l : List Item) → words_ops (words_items l) ≡ words_of spot (ops_of l)
  words_items_ops [] = refl
  words_items_ops (a ∷ l) = joined_item_ops a (words_items l) ∙ ap (joined_to spot a.op) (words_items_ops l)

  all_item : (a : Item) (ws : List (List Item)) → all_of (joined_item a ws) ≡ a ∷ all_of ws
  all_item a [] = refl
  all_item a ([] ∷ ws) = refl
  all_item a ((b ∷ w) ∷ ws) = by_one ((spot a.op.number).cycle == (spot b.op.number).cycle)
    where
      by_one : (c : Bool) → all_of (if c then (a ∷ b ∷ w) ∷ ws else (a ∷ []) ∷ (b ∷ w) ∷ ws) ≡ a ∷ b ∷ (w ++ all_of ws)
      by_one true = refl
      by_one false = refl

  pub all_words : (l : List Item) → all_of (words_items l) ≡ l
  all_words [] = refl
  all_words (a ∷ l) = all_item a (words_items l) ∙ ap (λ x. a ∷ x) (all_words l)

every_cut_item : (spot : ℕ → Spot) {P : Item → Type 0} (a : Item) {l : List Item} → P a → Every P l → Every P (cut_item spot a l)
every_cut_item spot {P} a p Nil = by_one (is_control a.op.act)
  where
    by_one : (b : Bool) → Every P (if b then a ∷ [] else [])
    by_one true = Cons a [] p Nil
    by_one false = Nil
every_cut_item spot a p (Cons b l q qs) = Cons a (b ∷ l) p (Cons b l q qs)

every_cut : (spot : ℕ → Spot) {P : Item → Type 0} {l : List Item} → Every P l → Every P (cut_items spot l)
every_cut spot Nil = Nil
every_cut spot (Cons a l p ps) = every_cut_item spot a p (every_cut spot ps)

truth_cut_item : (spot : ℕ → Spot) (k : Known) (a : Item) (l : List Item) → IsOperation a.op → a.base ≡ base_in k (reads a.op.act) → Truthful (learn a.op k) l → Truthful k (cut_item spot a l)
truth_cut_item spot k a [] w e t = by_one (is_control a.op.act)
  where
    by_one : (b : Bool) → Truthful k (if b then a ∷ [] else [])
    by_one true = Speak k a [] w e t
    by_one false = Silent k
truth_cut_item spot k a (b ∷ l) w e t = Speak k a (b ∷ l) w e t

pub truth_cut : (spot : ℕ → Spot) (l : List Item) (k : Known) → Truthful k l → Truthful k (cut_items spot l)
truth_cut spot [] k t = Silent k
truth_cut spot (a ∷ l) k (Speak _ _ _ w e t) = truth_cut_item spot k a (cut_items spot l) w e (truth_cut spot l (learn a.op k) t)

module _ (heads : ℕ → ℕ → Bool) (one : Bool) (width : ℕ) (units latency : OpClass → ℕ) (takes_time : (class : OpClass) → 1 ≤ latency class) (spot : ℕ → Spot) where
  abbrev C : Item → ℕ
  C i = (spot i.op.number).cycle

  abbrev S : Item → ℕ
  S i = (spot i.op.number).slot

  abbrev Depends : Item → Item → Type 0
  Depends = Clo heads one width units latency takes_time spot

  abbrev InOrder : Item → Item → Type 0
  InOrder = Order heads one width units latency takes_time spot

  record Rel (a b : Item) : Type 0 where
    closed : Depends a b ⊎ Depends b a
    order : InOrder a b

  data Pairs : List Item → Type 0 where
    PairsNil : Pairs []
    PairsCons : (a : Item) (bs : List Item) → Every (Rel a) bs → Pairs bs → Pairs (a ∷ bs)

  not_lt_le : (a b : ℕ) → nat_lt a b ≡ false → b ≤ a
  not_lt_le a b h = grind (arith, nat_tests)

  lt_by : (a b : ℕ) → b ≤ a → (a ≡ b → ⊥) → b < a
  lt_by a b h n = by_one (nat_lt b a) refl
    where
      by_one : (c : Bool) → nat_lt b a ≡ c → b < a
      by_one true e = true_lt b a e
      by_one false e = let g = not_lt_le b a e in absurd (n (omega arith))

  earlier_not : (a b : Item) → earlier spot a.op b.op ≡ false → (C a ≡ C b → S a ≡ S b → ⊥) → InOrder b a
  earlier_not a b e d =
      let f = or_false (nat_lt (C a) (C b)) ((C a == C b) && nat_lt (S a) (S b)) e in
      record { cycles = not_lt_le (C a) (C b) f.0; slots = λ q. slots_of f.1 q }
    where
      slots_of : ((C a == C b) && nat_lt (S a) (S b)) ≡ false → C b ≡ C a → S b < S a
      slots_of f q =
          let s : (C a == C b) ≡ true = subst (λ z. (C a == z) ≡ true) (sym q) (eq_refl (C a)) in
          let h : nat_lt (S a) (S b) ≡ false = (rw s at f) in
          lt_by (S a) (S b) (not_lt_le (S a) (S b) h) (d (sym q))

  order_trans : {a b c : Item} → InOrder a b → InOrder b c → InOrder a c
  order_trans {a} {b} {c} o p = record {
    cycles = (let h = o.cycles in let g = p.cycles in omega arith);
    slots = λ e.
        let h = o.cycles in let g = p.cycles in
        let q : C a ≡ C b = omega arith in
        let r : C b ≡ C c = omega arith in
        let j = o.slots q in let k = p.slots r in omega arith;
  }

  rel_through : {i a : Item} {l : List Item} → InOrder i a → Every (Depends i) l → Every (Rel a) l → Every (Rel i) l
  rel_through o Nil Nil = Nil
  rel_through o (Cons b l c cs) (Cons _ _ r rs) = Cons b l (record { closed = inl c; order = order_trans o r.order }) (rel_through o cs rs)

  pairs_put : {i : Item} {l : List Item} → Every (Depends i) l → Pairs l → Pairs (put_item heads one width units latency takes_time spot i l)
  pairs_put {i} Nil PairsNil = PairsCons i [] Nil PairsNil
  pairs_put {i} (Cons a l c cs) (PairsCons _ _ r p) = by_one (earlier spot a.op i.op) refl (pairs_put cs p)
    where
      by_one : (b : Bool) → earlier spot a.op i.op ≡ b → Pairs (put_item heads one width units latency takes_time spot i l) → Pairs (if b then a ∷ put_item heads one width units latency takes_time spot i l else i ∷ a ∷ l)
      by_one true e more =
          PairsCons a (put_item heads one width units latency takes_time spot i l) (every_put heads one width units latency takes_time spot i (record { closed = inr c; order = earlier_is heads one width units latency takes_time spot a i e }) r) more
      by_one false e more =
          let o = earlier_not a i e (λ p q. c.apart_spots (sym p) (sym q)) in
          PairsCons i (a ∷ l) (Cons a l (record { closed = inl c; order = o }) (rel_through o cs r)) (PairsCons a l r p)

  pairs_sorted : {is : List Item} → AllClosed heads one width units latency takes_time spot is → Pairs (sorted_items heads one width units latency takes_time spot is)
  pairs_sorted AllNone = PairsNil
  pairs_sorted (AllMore x xs c a) = pairs_put (every_sorted heads one width units latency takes_time spot c) (pairs_sorted a)

  pairs_cut_item : (a : Item) {l : List Item} → Every (Rel a) l → Pairs l → Pairs (cut_item spot a l)
  pairs_cut_item a r PairsNil = by_one (is_control a.op.act)
    where
      by_one : (b : Bool) → Pairs (if b then a ∷ [] else [])
      by_one true = PairsCons a [] Nil PairsNil
      by_one false = PairsNil
  pairs_cut_item a r (PairsCons b l q p) = PairsCons a (b ∷ l) r (PairsCons b l q p)

  pairs_cut : {l : List Item} → Pairs l → Pairs (cut_items spot l)
  pairs_cut PairsNil = PairsNil
  pairs_cut (PairsCons a l r p) = pairs_cut_item a (every_cut spot r) (pairs_cut p)

  -- items of one cycle stand beside each other
  beside : {a b : Item} → Rel a b → C a ≡ C b → Beside heads one a b
  beside {a} {b} r e = by_side r.closed
    where
      by_side : Depends a b ⊎ Depends b a → Beside heads one a b
      by_side (inl c) = record {
        misses = λ q t. false_by (in_list q (reads b.op.act)) (λ u. let s = c.def_use q t u in let h = s.cycles in omega arith);
        store_load = true_by (apart a b) (λ g. let s = c.store_load g in let h = s.cycles in omega arith);
        control = λ o g. false_by (is_member b) (λ m. let s = c.control o g (control_member a g) m in let h = s.cycles in omega arith);
        spared = λ o q t. false_by (at_exits heads a.op.act q) (λ l. let s = c.exit_soon o q t l in let h = s.cycles in omega arith);
      }
      by_side (inr c) =
          let no = not_before heads one width units latency takes_time spot r.order in record {
            misses = λ q t. false_by (in_list q (reads b.op.act)) (λ u. no (c.use_def q t u));
            store_load = true_by (apart a b) (λ g. no (c.load_store g));
            control = λ o g. false_by (is_member b) (λ m. no (c.chain m (control_member a g)));
            spared = λ o q t. false_by (at_exits heads a.op.act q) (λ l. no (c.def_exit q t l));
          }

  -- words whose items are of one cycle and stand beside each other
  record Same (a b : Item) : Type 0 where
    is : C a ≡ C b

  data GoodWords : List (List Item) → Type 0 where
    GoodNone : GoodWords []
    GoodMore : (a : Item) (w : List Item) (ws : List (List Item)) → IsWord heads one (a ∷ w) → Every (Same a) w → GoodWords ws → GoodWords ((a ∷ w) ∷ ws)

  every_beside : {a b : Item} (rest : List Item) {w : List Item} → C a ≡ C b → Every (Same b) w → Every (Rel a) (w ++ rest) → Every (Beside heads one a) w
  every_beside rest e Nil r = Nil
  every_beside rest e (Cons c w s ss) (Cons _ _ r rs) = Cons c w (beside r (e ∙ s.is)) (every_beside rest e ss rs)

  same_through : {a b : Item} {w : List Item} → C a ≡ C b → Every (Same b) w → Every (Same a) w
  same_through e Nil = Nil
  same_through e (Cons c w s ss) = Cons c w (record { is = e ∙ s.is }) (same_through e ss)

  first_rel : {a b : Item} {l : List Item} → Every (Rel a) (b ∷ l) → Rel a b × Every (Rel a) l
  first_rel (Cons b l r rs) = (r, rs)

  good_joined : (a : Item) {ws : List (List Item)} → Every (Rel a) (all_of ws) → GoodWords ws → GoodWords (joined_item spot a ws)
  good_joined a r GoodNone = GoodMore a [] [] (LongerWord a [] Nil EmptyWord) Nil GoodNone
  good_joined a r (GoodMore b w ws word same more) = by_one (C a == C b) refl
    where
      by_one : (c : Bool) → (C a == C b) ≡ c → GoodWords (if c then (a ∷ b ∷ w) ∷ ws else (a ∷ []) ∷ (b ∷ w) ∷ ws)
      by_one true e =
          let i = eq_same (C a) (C b) e in
          let f = first_rel r in
          GoodMore a (b ∷ w) ws (LongerWord a (b ∷ w) (Cons b w (beside f.0 i) (every_beside (all_of ws) i same f.1)) word) (Cons b w (record { is = i }) (same_through i same)) more
      by_one false e = GoodMore a [] ((b ∷ w) ∷ ws) (LongerWord a [] Nil EmptyWord) Nil (GoodMore b w ws word same more)

  good_words : {l : List Item} → Pairs l → GoodWords (words_items spot l)
  good_words PairsNil = GoodNone
  good_words (PairsCons a l r p) = good_joined a (subst (λ x. Every (Rel a) x) (sym (all_words spot l)) r) (good_words p)

  all_good : {ws : List (List Item)} → GoodWords ws → AllWords heads one ws
  all_good GoodNone = NoWords
  all_good (GoodMore a w ws word same more) = MoreWords (a ∷ w) ws word (all_good more)

  -- the words of the sorted items
  pub words_by : {is : List Item} → AllClosed heads one width units latency takes_time spot is → AllWords heads one (words_items spot (cut_items spot (sorted_items heads one width units latency takes_time spot is)))
  words_by a = all_good (good_words (pairs_cut (pairs_sorted a)))

-- the words of any legal schedule come to the event of the source order, whichever version the machine is
pub invisible : (heads : ℕ → ℕ → Bool) (one : Bool) (width regs : ℕ) (units latency : OpClass → ℕ) (base : ℕ) (room : ℕ → Bool) → Invisible heads one width regs units latency base room
unfolding Invisible FlatInvisible
invisible heads one width regs units latency base room table low head ops struck spot sb legal s u st =
    let is = items at_head (with_struck struck ops) in
    let e = edges heads one width regs units latency table base low room head ops struck spot sb legal in
    let js = sorted_items heads one width units latency table.takes_time spot is in
    let ws = words_items spot (cut_items spot js) in
    let keeps = keeps_legal heads one width units latency table.takes_time spot is e in
    let a = reorder heads base low room keeps at_head (truthful_items at_head (operations struck sb.sources sb.rises)) in
    let good = words_by heads one width units latency table.takes_time spot (all_closed heads one width units latency table.takes_time spot is e) in
    let holds : Holds base at_head s = record { whole = st.whole; says = λ r. record { same = refl; none = refl } } in
    let truth : Truthful at_head (all_of ws) = subst (λ l. Truthful at_head l) (sym (all_words spot (cut_items spot js))) (truth_cut spot js at_head a.truth) in
    let runs = words_run heads base low room one at_head s good truth holds in
    let order : ops_of js ≡ sorted spot (with_struck struck ops) = sorted_ops heads one width units latency table.takes_time spot is ∙ ap (sorted spot) (ops_items at_head (with_struck struck ops)) in
    let cut_is : ops_of (cut_items spot js) ≡ cut spot (sorted spot (with_struck struck ops)) = cut_ops spot js ∙ ap (cut spot) order in
    let words_are : words_ops ws ≡ scheduled ops struck spot = words_items_ops spot (cut_items spot js) ∙ ap (words_of spot) cut_is in
    let all_are : ops_of (all_of ws) ≡ joined (scheduled ops struck spot) = ap ops_of (all_words spot (cut_items spot js)) ∙ cut_is ∙ sym (joined_scheduled spot ops struck) in
    let near : Like heads (run_words base room one (scheduled ops struck spot) (λ t. Through t) s) (flat base room (joined (scheduled ops struck spot)) s) =
    subst (λ l. Like heads (run_words base room one (scheduled ops struck spot) (λ t. Through t) s) (flat base room l s)) all_are
    (subst (λ l. Like heads (run_words base room one l (λ t. Through t) s) (flat base room (ops_of (all_of ws)) s)) words_are runs) in
    like_event near (flat_invisible heads one width regs units latency base room table low head ops struck spot sb legal s u st)
