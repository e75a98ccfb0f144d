-- Code whose statements and numbers are in range: its blocks are short, and lead to blocks that are there.
use Rattle.std.proofs.Common.{◌≡◌, ◌≢◌, ℕ, suc, ◌<◌, ◌≤◌, List, [], ◌∷◌, ◌++◌, length, Bool, true, false, refl, sym, subst, arith}
use Rattle.std.specs.Prelude.{◌==◌, if◌then◌else◌}
use Rattle.std.proofs.lemmas.Bool.{ltb-false, eq-eqb}
use Rattle.ib_act.specs.declared.act.Act.{Act}
use Rattle.ib_act.specs.Acts.{HasGoodNumber}
use Rattle.tac_core.specs.declared.code.End.{End}
use Rattle.tac_core.specs.declared.code.End.TheVariants.{Jump, Branch, Call, Ret}
use Rattle.tac_core.specs.Rules.{IsTarget}
use Rattle.tac_lowered.specs.Code.{breaks, continues, returns, Code, nothing, does, both, calls, when, choose, repeat, until, leave, Test, settled, on, all_of, one_of, inverse}
use Rattle.tac_lowered.specs.Items.{Item, Do, Close, Open, fresh, fresh_if, is_full, counted, after, is_jump, owned, goes, goes_test, Loop, Next, onward, jump, closes, close, label_of, put, branch, entry, own_items, items, test_items}
use Rattle.tac_lowered.proofs.Geometry.{Runs, runs, runs_test, put_runs, run, own_runs, empty_behind, empty_test, own_empty}

-- ---- labels rise

after_label : (o : Open) → o.label ≤ (after o).label
after_label o = go (is_full o)
  where
    go : (b : Bool) → o.label ≤ (fresh_if b o).label
    go true = omega arith
    go false = omega arith

fresh_label : (c : Bool) (o : Open) → o.label ≤ (fresh_if c o).label
fresh_label true o = omega arith
fresh_label false o = omega arith

owned_label : (a : Code) (n : ℕ) (p q : Open) → n ≤ p.label → n ≤ q.label → n ≤ (owned a p q).label
owned_label a n p q hp hq = go (is_jump a)
  where
    go : (b : Bool) → n ≤ (if b then p else q).label
    go true = hp
    go false = hq

mutual
  label_on : (a : Code) (c : Bool) (o : Open) → o.label ≤ (goes a c o).label
  label_on nothing c o = fresh_label c o
  label_on (does s act) c o = let e1 = after_label o in let e2 = fresh_label c (after o) in omega (arith, e1, e2)
  label_on (both a b) c o = let e1 = label_on a false o in let e2 = label_on b c (goes a false o) in omega (arith, e1, e2)
  label_on (calls s to f args) c o = omega arith
  label_on (when s t a) c o = let p = goes_test t o in let e1 = label_test t o in let e2 = label_on a true p in owned_label a o.label p (goes a true p) (omega (arith, e1)) (omega (arith, e1, e2))
  label_on (choose s t a b) c o =
      let p = goes_test t o in
      let q = owned a p (goes a true p) in
      let e1 = label_test t o in
      let e2 = label_on a true p in
      let e3 = owned_label a o.label p (goes a true p) (omega (arith, e1)) (omega (arith, e1, e2)) in
      let e4 = label_on b true q in
      owned_label b o.label q (goes b true q) e3 (omega (arith, e3, e4))
  label_on (repeat s true t a b) c o =
      let p = goes_test t (fresh o) in
      let q = owned a p (goes a true p) in
      let e1 = label_test t (fresh o) in
      let e2 = label_on a true p in
      let e3 = owned_label a o.label p (goes a true p) (omega (arith, e1)) (omega (arith, e1, e2)) in
      let e4 = label_on b true q in
      owned_label b o.label q (goes b true q) e3 (omega (arith, e3, e4))
  label_on (repeat s false t a b) c o =
      let p = goes_test t (fresh o) in
      let e1 = label_test t (fresh o) in
      let e2 = label_on a false p in
      let e3 = label_on b true (goes a false p) in
      omega (arith, e1, e2, e3)
  label_on (until s own a t) c o = let e1 = label_on a own (fresh o) in let e2 = label_test t (goes a own (fresh o)) in omega (arith, e1, e2)
  label_on (leave s x) c o = omega arith

  label_test : (t : Test) (o : Open) → o.label < (goes_test t o).label
  label_test (settled s b) o = omega arith
  label_test (on s a r) o = let e1 = label_on a false o in omega (arith, e1)
  label_test (all_of t u) o = let e1 = label_test t o in let e2 = label_test u (goes_test t o) in omega (arith, e1, e2)
  label_test (one_of t u) o = let e1 = label_test t o in let e2 = label_test u (goes_test t o) in omega (arith, e1, e2)
  label_test (inverse t) o = label_test t o

-- ---- code

module _ (places : ℕ) (takes : (function count : ℕ) → Type 0) where
  -- numbers are in range, calls have as many arguments as their functions take, and loops are left in loops
  abbrev mutual
    pub KeepsCode : (in_loop : Bool) → Code → Type 0
    KeepsCode in_loop nothing = Unit {0}
    KeepsCode in_loop (does s act) = (s < places) × HasGoodNumber act
    KeepsCode in_loop (both a b) = KeepsCode in_loop a × KeepsCode in_loop b
    KeepsCode in_loop (calls s to f args) = (s < places) × takes f (length args)
    KeepsCode in_loop (when s t a) = (s < places) × KeepsTest t × KeepsCode in_loop a
    KeepsCode in_loop (choose s t a b) = (s < places) × KeepsTest t × KeepsCode in_loop a × KeepsCode in_loop b
    KeepsCode in_loop (repeat s own t a b) = (s < places) × KeepsTest t × KeepsCode true a × KeepsCode in_loop b
    KeepsCode in_loop (until s own a t) = (s < places) × KeepsCode true a × KeepsTest t
    KeepsCode in_loop (leave s breaks) = (s < places) × (in_loop ≡ true)
    KeepsCode in_loop (leave s continues) = (s < places) × (in_loop ≡ true)
    KeepsCode in_loop (leave s (returns r)) = (s < places) × Unit {0}

    pub KeepsTest : Test → Type 0
    KeepsTest (settled s b) = s < places
    KeepsTest (on s a r) = (s < places) × KeepsCode false a
    KeepsTest (all_of t u) = KeepsTest t × KeepsTest u
    KeepsTest (one_of t u) = KeepsTest t × KeepsTest u
    KeepsTest (inverse t) = KeepsTest t

  -- ---- items

  module _ (total : ℕ) where
    abbrev pub Leads : End → Type 0
    Leads (Jump l) = IsTarget total l
    Leads (Branch r there other) = IsTarget total there × IsTarget total other × (there ≢ other)
    Leads (Call to f args next) = IsTarget total next × takes f (length args)
    Leads (Ret r) = Unit {0}

    -- in an open block, with at most 511 operations in each
    abbrev pub Good : Open → List Item → Type 0
    Good o [] = o.count ≤ 511
    Good o (Do s act ∷ is) = (s < places) × HasGoodNumber act × Good (counted o) is
    Good o (Close s e ∷ is) = (o.count ≤ 511) × (s < places) × Leads e × Good (fresh o) is

    good_run : (o : Open) (xs ys : List Item) → Good o xs → Good (run o xs) ys → Good o (xs ++ ys)
    good_run o [] ys g h = h
    good_run o (Do s act ∷ xs) ys g h = (g.0, g.1, good_run (counted o) xs ys g.2 h)
    good_run o (Close s e ∷ xs) ys g h = (g.0, g.1, g.2, good_run (fresh o) xs ys g.3 h)

    joined : (xs ys : List Item) (o p : Open) → Runs xs o p → Good o xs → Good p ys → Good o (xs ++ ys)
    joined xs ys o p r g h = good_run o xs ys g (subst (λ q. Good q ys) (sym r.by) h)

    few_run : (o : Open) (xs : List Item) → Good o xs → (run o xs).count ≤ 511
    few_run o [] g = g
    few_run o (Do s act ∷ xs) g = few_run (counted o) xs g.2
    few_run o (Close s e ∷ xs) g = few_run (fresh o) xs g.3

    few_behind : (xs : List Item) (o p : Open) → Runs xs o p → Good o xs → p.count ≤ 511
    few_behind xs o p r g = subst (λ q. q.count ≤ 511) r.by (few_run o xs g)

    not_full : (o : Open) → is_full o ≡ false → o.count ≤ 510
    unfolding is_full
    not_full o h = ltb-false 510 o.count h

    none : (o : Open) → o.count ≡ 0 → o.count ≤ 511
    none o h = omega (arith, h)

    -- where code goes on behind its end
    abbrev pub GoodNext : Next → Type 0
    GoodNext onward = Unit {0}
    GoodNext (jump s l) = (s < places) × IsTarget total l

    abbrev pub GoodLoop : (in_loop : Bool) → Loop → Type 0
    GoodLoop in_loop x = in_loop ≡ true → IsTarget total x.on_break × IsTarget total x.on_continue

    -- a full block leads to the next, which is there
    good_put : (s : ℕ) (act : Act) (o : Open) → s < places → HasGoodNumber act → o.count ≤ 511 → (after o).label < total → Good o (put s act o)
    good_put s act o ls number few below = go (is_full o) refl below
      where
        go : (b : Bool) → is_full o ≡ b → (fresh_if b o).label < total → Good o (if b then Close s (Jump (suc o.label)) ∷ Do s act ∷ [] else Do s act ∷ [])
        go true e lt = (few, ls, (omega arith, lt), (ls, number, omega arith))
        go false e lt = (ls, number, let h = not_full o e in omega (arith, h))

    good_close : (n : Next) (o : Open) → o.count ≤ 511 → GoodNext n → Good o (close n)
    good_close onward o few h = few
    good_close (jump s l) o few h = (few, h.0, h.1, omega arith)

    good_out : (n : Next) (o : Open) → 0 < o.label → o.label < total → GoodNext n → IsTarget total (label_of n o.label)
    good_out onward o some lt h = (some, lt)
    good_out (jump s l) o some lt h = h.1

    good_branch : (s r there other : ℕ) (o : Open) → s < places → o.count ≤ 511 → IsTarget total there → IsTarget total other → Good o (Close s (branch r there other) ∷ [])
    good_branch s r there other o ls few a b = go (there == other) (λ e. eq-eqb there other e)
      where
        apart : false ≡ true → ⊥
        apart h = cc

        go : (x : Bool) → ((there ≡ other) → x ≡ true) → Good o (Close s (if x then Jump there else Branch r there other) ∷ [])
        go true h = (few, ls, a, omega arith)
        go false h = (few, ls, (a, b, λ e. apart (h e)), omega arith)

    entry_target : (a : Code) (in_loop : Bool) (x : Loop) (next label : ℕ) → KeepsCode in_loop a → GoodLoop in_loop x → IsTarget total next → IsTarget total label → IsTarget total (entry a x next label)
    entry_target nothing in_loop x next label k l n h = n
    entry_target (leave s breaks) in_loop x next label k l n h = (l k.1).0
    entry_target (leave s continues) in_loop x next label k l n h = (l k.1).1
    entry_target a in_loop x next label k l n h = h

    own_good : (a : Code) (is : List Item) (p : Open) → p.count ≤ 511 → (is_jump a ≡ false → Good p is) → Good p (own_items a is)
    own_good a is p few h = go (is_jump a) h
      where
        go : (b : Bool) → (b ≡ false → Good p is) → Good p (if b then [] else is)
        go true h = few
        go false h = h refl

    own_below : (a : Code) (p q : Open) → (owned a p q).label < total → is_jump a ≡ false → q.label < total
    own_below a p q lt e = subst (λ b. (if b then p else q).label < total) e lt

    picked : (b : Bool) (there other : ℕ) → IsTarget total there → IsTarget total other → IsTarget total (if b then there else other)
    picked true there other h h2 = h
    picked false there other h h2 = h2

    no_loop : false ≡ true → ⊥
    no_loop h = cc

    mutual
      pub good_items : (a : Code) (in_loop : Bool) (x : Loop) (n : Next) (o : Open) → KeepsCode in_loop a → GoodLoop in_loop x → GoodNext n → o.count ≤ 511 → (goes a (closes n) o).label < total → Good o (items a x n o)
      good_items nothing in_loop x n o k l g few lt = good_close n o few g
      good_items (does s act) in_loop x n o k l g few lt =
          let e1 = fresh_label (closes n) (after o) in
          let h = good_put s act o k.0 k.1 few (omega (arith, e1, lt)) in
          joined (put s act o) (close n) o (after o) (put_runs s act o) h (good_close n (after o) (few_behind (put s act o) o (after o) (put_runs s act o) h) g)
      good_items (both a b) in_loop x n o k l g few lt =
          let p = goes a false o in
          let e1 = label_on b (closes n) p in
          let h = good_items a in_loop x onward o k.0 l tt few (omega (arith, e1, lt)) in
          joined (items a x onward o) (items b x n p) o p (runs a x onward o) h (good_items b in_loop x n p k.1 l g (few_behind (items a x onward o) o p (runs a x onward o) h) lt)
      good_items (calls s to f args) in_loop x n o k l g few lt = (few, k.0, (good_out n (fresh o) (omega arith) lt g, k.1), omega arith)
      good_items (when s t a) in_loop x n o k l g few lt =
          let p = goes_test t o in
          let q = owned a p (goes a true p) in
          let out = label_of n q.label in
          let A = items a x (jump s out) p in
          let e1 = label_test t o in
          let e2 = owned_label a p.label p (goes a true p) (omega arith) (label_on a true p) in
          let out_there = good_out n q (omega (arith, e1, e2)) lt g in
          let p_there : IsTarget total p.label = (omega (arith, e1), omega (arith, e2, lt)) in
          let few_p = none p (empty_test t o) in
          let h = good_test t (entry a x out p.label) out o k.1 few p_there.1 (entry_target a in_loop x out p.label k.2 l out_there p_there) out_there in
          joined (test_items t (entry a x out p.label) out o) (own_items a A) o p (runs_test t (entry a x out p.label) out o) h
          (own_good a A p few_p (λ e. good_items a in_loop x (jump s out) p k.2 l (k.0, out_there) few_p (own_below a p (goes a true p) lt e)))
      good_items (choose s t a b) in_loop x n o k l g few lt =
          let p = goes_test t o in
          let q = owned a p (goes a true p) in
          let r = owned b q (goes b true q) in
          let out = label_of n r.label in
          let A = items a x (jump s out) p in
          let B = items b x (jump s out) q in
          let e1 = label_test t o in
          let e2 = owned_label a p.label p (goes a true p) (omega arith) (label_on a true p) in
          let e3 = owned_label b q.label q (goes b true q) (omega arith) (label_on b true q) in
          let out_there = good_out n r (omega (arith, e1, e2, e3)) lt g in
          let p_there : IsTarget total p.label = (omega (arith, e1), omega (arith, e2, e3, lt)) in
          let q_there : IsTarget total q.label = (omega (arith, e1, e2), omega (arith, e3, lt)) in
          let few_p = none p (empty_test t o) in
          let few_q = none q (own_empty a p (empty_test t o)) in
          let h = good_test t (entry a x out p.label) (entry b x out q.label) o k.1 few p_there.1 (entry_target a in_loop x out p.label k.2 l out_there p_there) (entry_target b in_loop x out q.label k.3 l out_there q_there) in
          joined (test_items t (entry a x out p.label) (entry b x out q.label) o) (own_items a A ++ own_items b B) o p (runs_test t (entry a x out p.label) (entry b x out q.label) o) h
          (joined (own_items a A) (own_items b B) p q (own_runs a A p (goes a true p) (runs a x (jump s out) p))
          (own_good a A p few_p (λ e. good_items a in_loop x (jump s out) p k.2 l (k.0, out_there) few_p (own_below a p (goes a true p) q_there.1 e)))
          (own_good b B q few_q (λ e. good_items b in_loop x (jump s out) q k.3 l (k.0, out_there) few_q (own_below b q (goes b true q) lt e))))
      good_items (repeat s true t a b) in_loop x n o k l g few lt =
          let f = fresh o in
          let head = suc o.label in
          let p = goes_test t f in
          let q = owned a p (goes a true p) in
          let r = owned b q (goes b true q) in
          let out = label_of n r.label in
          let last = entry b x head q.label in
          let y : Loop = record { on_break = out; on_continue = last } in
          let A = items a y (jump s last) p in
          let B = items b x (jump s head) q in
          let e1 = label_test t f in
          let e2 = owned_label a p.label p (goes a true p) (omega arith) (label_on a true p) in
          let e3 = owned_label b q.label q (goes b true q) (omega arith) (label_on b true q) in
          let head_there : IsTarget total head = (omega arith, omega (arith, e1, e2, e3, lt)) in
          let out_there = good_out n r (omega (arith, e1, e2, e3)) lt g in
          let p_there : IsTarget total p.label = (omega (arith, e1), omega (arith, e2, e3, lt)) in
          let q_there : IsTarget total q.label = (omega (arith, e1, e2), omega (arith, e3, lt)) in
          let last_there = entry_target b in_loop x head q.label k.3 l head_there q_there in
          let few_p = none p (empty_test t f) in
          let few_q = none q (own_empty a p (empty_test t f)) in
          let h = good_test t (entry a y last p.label) out f k.1 (omega arith) p_there.1 (entry_target a true y last p.label k.2 (λ _. (out_there, last_there)) last_there p_there) out_there in (
            few,
            k.0,
            head_there,
            joined (test_items t (entry a y last p.label) out f) (own_items a A ++ own_items b B) f p (runs_test t (entry a y last p.label) out f) h
                (joined (own_items a A) (own_items b B) p q (own_runs a A p (goes a true p) (runs a y (jump s last) p))
                (own_good a A p few_p (λ e. good_items a true y (jump s last) p k.2 (λ _. (out_there, last_there)) (k.0, last_there) few_p (own_below a p (goes a true p) q_there.1 e)))
                (own_good b B q few_q (λ e. good_items b in_loop x (jump s head) q k.3 l (k.0, head_there) few_q (own_below b q (goes b true q) lt e)))),
          )
      good_items (repeat s false t a b) in_loop x n o k l g few lt =
          let f = fresh o in
          let head = suc o.label in
          let p = goes_test t f in
          let q = goes a false p in
          let r = goes b true q in
          let out = label_of n r.label in
          let y : Loop = record { on_break = out; on_continue = head } in
          let A = items a y onward p in
          let B = items b x (jump s head) q in
          let e1 = label_test t f in
          let e2 = label_on a false p in
          let e3 = label_on b true q in
          let head_there : IsTarget total head = (omega arith, omega (arith, e1, e2, e3, lt)) in
          let out_there = good_out n r (omega (arith, e1, e2, e3)) lt g in
          let p_there : IsTarget total p.label = (omega (arith, e1), omega (arith, e2, e3, lt)) in
          let h = good_test t p.label out f k.1 (omega arith) p_there.1 p_there out_there in
          let ga = good_items a true y onward p k.2 (λ _. (out_there, head_there)) tt (none p (empty_test t f)) (omega (arith, e3, lt)) in (
            few,
            k.0,
            head_there,
            joined (test_items t p.label out f) (A ++ B) f p (runs_test t p.label out f) h
                (joined A B p q (runs a y onward p) ga (good_items b in_loop x (jump s head) q k.3 l (k.0, head_there) (few_behind A p q (runs a y onward p) ga) lt)),
          )
      good_items (until s true a t) in_loop x n o k l g few lt =
          let f = fresh o in
          let head = suc o.label in
          let q = goes a true f in
          let out = label_of n (goes_test t q).label in
          let y : Loop = record { on_break = out; on_continue = q.label } in
          let A = items a y (jump s q.label) f in
          let e1 = label_on a true f in
          let e2 = label_test t q in
          let head_there : IsTarget total head = (omega arith, omega (arith, e1, e2, lt)) in
          let q_there : IsTarget total q.label = (omega (arith, e1), omega (arith, e2, lt)) in
          let out_there = good_out n (goes_test t q) (omega (arith, e1, e2)) lt g in
          let ga = good_items a true y (jump s q.label) f k.1 (λ _. (out_there, q_there)) (k.0, q_there) (omega arith) q_there.1 in
          (few, k.0, head_there, joined A (test_items t head out q) f q (runs a y (jump s q.label) f) ga (good_test t head out q k.2 (none q (empty_behind a f)) lt head_there out_there))
      good_items (until s false a t) in_loop x n o k l g few lt =
          let f = fresh o in
          let head = suc o.label in
          let q = goes a false f in
          let out = label_of n (goes_test t q).label in
          let y : Loop = record { on_break = out; on_continue = q.label } in
          let A = items a y onward f in
          let e1 = label_on a false f in
          let e2 = label_test t q in
          let head_there : IsTarget total head = (omega arith, omega (arith, e1, e2, lt)) in
          let q_there : IsTarget total q.label = (omega (arith, e1), omega (arith, e2, lt)) in
          let out_there = good_out n (goes_test t q) (omega (arith, e1, e2)) lt g in
          let ga = good_items a true y onward f k.1 (λ _. (out_there, q_there)) tt (omega arith) q_there.1 in
          (few, k.0, head_there, joined A (test_items t head out q) f q (runs a y onward f) ga (good_test t head out q k.2 (few_behind A f q (runs a y onward f) ga) lt head_there out_there))
      good_items (leave s breaks) in_loop x n o k l g few lt = (few, k.0, (l k.1).0, omega arith)
      good_items (leave s continues) in_loop x n o k l g few lt = (few, k.0, (l k.1).1, omega arith)
      good_items (leave s (returns r)) in_loop x n o k l g few lt = (few, k.0, tt, omega arith)

      pub good_test : (t : Test) (there other : ℕ) (o : Open) → KeepsTest t → o.count ≤ 511 → (goes_test t o).label < total → IsTarget total there → IsTarget total other → Good o (test_items t there other o)
      good_test (settled s b) there other o k few lt h h2 = (few, k, picked b there other h h2, omega arith)
      good_test (on s a r) there other o k few lt h h2 =
          let x : Loop = record { on_break = 0; on_continue = 0 } in
          let p = goes a false o in
          let g = good_items a false x onward o k.1 (λ e. absurd (no_loop e)) tt few (omega (arith, lt)) in
          joined (items a x onward o) (Close s (branch r there other) ∷ []) o p (runs a x onward o) g (good_branch s r there other p k.0 (few_behind (items a x onward o) o p (runs a x onward o) g) h h2)
      good_test (all_of t u) there other o k few lt h h2 =
          let p = goes_test t o in
          let e1 = label_test t o in
          let e2 = label_test u p in
          let p_there : IsTarget total p.label = (omega (arith, e1), omega (arith, e2, lt)) in
          joined (test_items t p.label other o) (test_items u there other p) o p (runs_test t p.label other o) (good_test t p.label other o k.0 few p_there.1 p_there h2) (good_test u there other p k.1 (none p (empty_test t o)) lt h h2)
      good_test (one_of t u) there other o k few lt h h2 =
          let p = goes_test t o in
          let e1 = label_test t o in
          let e2 = label_test u p in
          let p_there : IsTarget total p.label = (omega (arith, e1), omega (arith, e2, lt)) in
          joined (test_items t there p.label o) (test_items u there other p) o p (runs_test t there p.label o) (good_test t there p.label o k.0 few p_there.1 h p_there) (good_test u there other p k.1 (none p (empty_test t o)) lt h h2)
      good_test (inverse t) there other o k few lt h h2 = good_test t other there o k few lt h2 h
