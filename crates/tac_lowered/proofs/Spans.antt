-- What code holds at least: operations, with the ends of blocks, and the registers that it names.
use Rattle.std.proofs.Common.{◌≡◌, ℕ, suc, ◌+◌, ◌<◌, ◌≤◌, List, [], ◌∷◌, ◌++◌, length, length-append, Bool, true, false, refl, sym, ap, subst, arith, Option, Some, None}
use Rattle.std.specs.Prelude.{◌==◌, if◌then◌else◌}
use Rattle.ib_act.specs.declared.act.Act.{Act}
use Rattle.ib_act.specs.Acts.{target, first_source, second_source}
use Rattle.tac_core.specs.declared.code.End.TheVariants.{Jump, Branch}
use Rattle.tac_lowered.specs.Code.{Exit, breaks, continues, returns, Code, nothing, does, both, calls, when, choose, repeat, until, leave, Test, settled, on, all_of, one_of, inverse}
use Rattle.tac_lowered.specs.Items.{Item, Do, Close, Open, fresh, is_full, owned, goes, goes_test, Loop, Next, onward, jump, close, label_of, put, exit, branch, entry, own_items, items, test_items}
use Rattle.tac_lowered.specs.Lowered.{up_to, up_to_all, up_to_end, registers}
use Rattle.tac_lowered.proofs.Geometry.{up_least}

-- The operations and ends of blocks that code has at least: a jump alone has no block.
abbrev mutual
  pub least : Code → ℕ
  least nothing = 0
  least (does s act) = 1
  least (both a b) = least a + least b
  least (calls s to f args) = 1
  least (when s t a) = least_test t + least a
  least (choose s t a b) = least_test t + (least a + least b)
  least (repeat s own t a b) = least_test t + (least a + least b)
  least (until s own a t) = least a + least_test t
  least (leave s x) = 0

  pub least_test : Test → ℕ
  least_test (settled s b) = 1
  least_test (on s a r) = least a + 1
  least_test (all_of t u) = least_test t + least_test u
  least_test (one_of t u) = least_test t + least_test u
  least_test (inverse t) = least_test t

pub some_test : (t : Test) → 1 ≤ least_test t
some_test (settled s b) = omega arith
some_test (on s a r) = omega arith
some_test (all_of t u) = let e1 = some_test t in omega (arith, e1)
some_test (one_of t u) = let e1 = some_test t in omega (arith, e1)
some_test (inverse t) = some_test t

-- each register that code names is below n
module _ (n : ℕ) where
  abbrev pub BelowAct : Act → Type 0
  BelowAct act = up_to (target act) (up_to (first_source act) (up_to (second_source act) 0)) ≤ n

  abbrev pub BelowExit : Exit → Type 0
  BelowExit breaks = Unit {0}
  BelowExit continues = Unit {0}
  BelowExit (returns r) = up_to r 0 ≤ n

  abbrev mutual
    pub Below : Code → Type 0
    Below nothing = Unit {0}
    Below (does s act) = BelowAct act
    Below (both a b) = Below a × Below b
    Below (calls s to f args) = up_to to (up_to_all args 0) ≤ n
    Below (when s t a) = BelowTest t × Below a
    Below (choose s t a b) = BelowTest t × Below a × Below b
    Below (repeat s own t a b) = BelowTest t × Below a × Below b
    Below (until s own a t) = Below a × BelowTest t
    Below (leave s x) = BelowExit x

    pub BelowTest : Test → Type 0
    BelowTest (settled s b) = Unit {0}
    BelowTest (on s a r) = Below a × (r < n)
    BelowTest (all_of t u) = BelowTest t × BelowTest u
    BelowTest (one_of t u) = BelowTest t × BelowTest u
    BelowTest (inverse t) = BelowTest t

  -- so many items at least, whose registers are below n
  pub record Spans (is : List Item) (c : ℕ) : Type 0 where
    pub many : c ≤ length is
    pub within : (m : ℕ) → m ≤ n → registers is m ≤ n

  -- ---- registers

  up_within : (r : Option ℕ) (a b : ℕ) → up_to r a ≤ n → b ≤ n → up_to r b ≤ n
  up_within None a b h le = le
  up_within (Some r) a b h le = omega (arith, h, le)

  all_within : (rs : List ℕ) (m : ℕ) → up_to_all rs 0 ≤ n → m ≤ n → up_to_all rs m ≤ n
  all_within [] m h le = le
  all_within (r ∷ rs) m h le = let e1 = all_within rs m (omega (arith, h)) le in omega (arith, e1, h)

  act_within : (act : Act) (m : ℕ) → BelowAct act → m ≤ n → up_to (target act) (up_to (first_source act) (up_to (second_source act) m)) ≤ n
  act_within act m h le =
      let second = up_to (second_source act) 0 in
      let first = up_to (first_source act) second in
      let e1 = up_least (target act) first in
      let e2 = up_least (first_source act) second in
      up_within (target act) first (up_to (first_source act) (up_to (second_source act) m)) h (up_within (first_source act) second (up_to (second_source act) m) (omega (arith, h, e1)) (up_within (second_source act) 0 m (omega (arith, h, e1, e2)) le))

  registers_append : (xs ys : List Item) (m : ℕ) → registers (xs ++ ys) m ≡ registers xs (registers ys m)
  registers_append [] ys m = refl
  registers_append (Do s act ∷ xs) ys m = ap (λ k. up_to (target act) (up_to (first_source act) (up_to (second_source act) k))) (registers_append xs ys m)
  registers_append (Close s e ∷ xs) ys m = ap (up_to_end e) (registers_append xs ys m)

  -- ---- items

  none : Spans [] 0
  none = record { many = omega arith; within = λ m le. le }

  joined : (xs ys : List Item) (c d : ℕ) → Spans xs c → Spans ys d → Spans (xs ++ ys) (c + d)
  joined xs ys c d a b = record {
    many = let e1 = length-append xs ys in let e2 = a.many in let e3 = b.many in omega (arith, e1, e2, e3);
    within = λ m le. subst (λ k. k ≤ n) (sym (registers_append xs ys m)) (a.within (registers ys m) (b.within m le));
  }

  fewer : (is : List Item) (c d : ℕ) → d ≤ c → Spans is c → Spans is d
  fewer is c d le a = record { many = let e1 = a.many in omega (arith, le, e1); within = a.within }

  jumped : (s l : ℕ) (is : List Item) (c : ℕ) → Spans is c → Spans (Close s (Jump l) ∷ is) (suc c)
  jumped s l is c a = record { many = let e1 = a.many in omega (arith, e1); within = a.within }

  done : (s : ℕ) (act : Act) → BelowAct act → Spans (Do s act ∷ []) 1
  done s act h = record { many = omega arith; within = λ m le. act_within act m h le }

  put_spans : (s : ℕ) (act : Act) (o : Open) → BelowAct act → Spans (put s act o) 1
  put_spans s act o h = go (is_full o)
    where
      go : (b : Bool) → Spans (if b then Close s (Jump (suc o.label)) ∷ Do s act ∷ [] else Do s act ∷ []) 1
      go true = fewer (Close s (Jump (suc o.label)) ∷ Do s act ∷ []) 2 1 (omega arith) (jumped s (suc o.label) (Do s act ∷ []) 1 (done s act h))
      go false = done s act h

  close_spans : (z : Next) → Spans (close z) 0
  close_spans onward = none
  close_spans (jump s l) = fewer (Close s (Jump l) ∷ []) 1 0 (omega arith) (jumped s l [] 0 none)

  branch_spans : (s r there other : ℕ) → r < n → Spans (Close s (branch r there other) ∷ []) 1
  branch_spans s r there other lt = go (there == other)
    where
      go : (b : Bool) → Spans (Close s (if b then Jump there else Branch r there other) ∷ []) 1
      go true = jumped s there [] 0 none
      go false = record { many = omega arith; within = λ m le. omega (arith, lt, le) }

  exit_spans : (s : ℕ) (x : Loop) (e : Exit) → BelowExit e → Spans (Close s (exit x e) ∷ []) 0
  exit_spans s x breaks h = fewer (Close s (Jump x.on_break) ∷ []) 1 0 (omega arith) (jumped s x.on_break [] 0 none)
  exit_spans s x continues h = fewer (Close s (Jump x.on_continue) ∷ []) 1 0 (omega arith) (jumped s x.on_continue [] 0 none)
  exit_spans s x (returns r) h = record { many = omega arith; within = λ m le. up_within r 0 m h le }

  own_spans : (a : Code) (is : List Item) → Spans is (least a) → Spans (own_items a is) (least a)
  own_spans nothing is h = none
  own_spans (leave s breaks) is h = none
  own_spans (leave s continues) is h = none
  own_spans a is h = h

  mutual
    pub items_spans : (a : Code) (x : Loop) (z : Next) (o : Open) → Below a → Spans (items a x z o) (least a)
    items_spans nothing x z o h = close_spans z
    items_spans (does s act) x z o h = fewer (put s act o ++ close z) (1 + 0) 1 (omega arith) (joined (put s act o) (close z) 1 0 (put_spans s act o h) (close_spans z))
    items_spans (both a b) x z o h = joined (items a x onward o) (items b x z (goes a false o)) (least a) (least b) (items_spans a x onward o h.0) (items_spans b x z (goes a false o) h.1)
    items_spans (calls s to f args) x z o h = record {
      many = omega arith;
      within = λ m le. let e1 = up_least to (up_to_all args 0) in up_within to (up_to_all args 0) (up_to_all args m) h (all_within args m (omega (arith, h, e1)) le);
    }
    items_spans (when s t a) x z o h =
        let p = goes_test t o in
        let out = label_of z (owned a p (goes a true p)).label in
        let A = items a x (jump s out) p in
        joined (test_items t (entry a x out p.label) out o) (own_items a A) (least_test t) (least a) (test_spans t (entry a x out p.label) out o h.0) (own_spans a A (items_spans a x (jump s out) p h.1))
    items_spans (choose s t a b) x z o h =
        let p = goes_test t o in
        let q = owned a p (goes a true p) in
        let out = label_of z (owned b q (goes b true q)).label in
        let A = items a x (jump s out) p in
        let B = items b x (jump s out) q in
        joined (test_items t (entry a x out p.label) (entry b x out q.label) o) (own_items a A ++ own_items b B) (least_test t) (least a + least b) (test_spans t (entry a x out p.label) (entry b x out q.label) o h.0)
        (joined (own_items a A) (own_items b B) (least a) (least b) (own_spans a A (items_spans a x (jump s out) p h.1)) (own_spans b B (items_spans b x (jump s out) q h.2)))
    items_spans (repeat s true t a b) x z o h =
        let f = fresh o in
        let head = suc o.label in
        let p = goes_test t f in
        let q = owned a p (goes a true p) in
        let out = label_of z (owned b q (goes b true q)).label in
        let last = entry b x head q.label in
        let y : Loop = record { on_break = out; on_continue = last } in
        let T = test_items t (entry a y last p.label) out f in
        let A = items a y (jump s last) p in
        let B = items b x (jump s head) q in
        let c = least_test t + (least a + least b) in
        fewer (Close s (Jump head) ∷ (T ++ (own_items a A ++ own_items b B))) (suc c) c (omega arith)
        (jumped s head (T ++ (own_items a A ++ own_items b B)) c
        (joined T (own_items a A ++ own_items b B) (least_test t) (least a + least b) (test_spans t (entry a y last p.label) out f h.0)
        (joined (own_items a A) (own_items b B) (least a) (least b) (own_spans a A (items_spans a y (jump s last) p h.1)) (own_spans b B (items_spans b x (jump s head) q h.2)))))
    items_spans (repeat s false t a b) x z o h =
        let f = fresh o in
        let head = suc o.label in
        let p = goes_test t f in
        let q = goes a false p in
        let out = label_of z (goes b true q).label in
        let y : Loop = record { on_break = out; on_continue = head } in
        let T = test_items t p.label out f in
        let A = items a y onward p in
        let B = items b x (jump s head) q in
        let c = least_test t + (least a + least b) in
        fewer (Close s (Jump head) ∷ (T ++ (A ++ B))) (suc c) c (omega arith)
        (jumped s head (T ++ (A ++ B)) c
        (joined T (A ++ B) (least_test t) (least a + least b) (test_spans t p.label out f h.0)
        (joined A B (least a) (least b) (items_spans a y onward p h.1) (items_spans b x (jump s head) q h.2))))
    items_spans (until s own a t) x z o h =
        let f = fresh o in
        let head = suc o.label in
        let q = goes a own f in
        let out = label_of z (goes_test t q).label in
        let y : Loop = record { on_break = out; on_continue = q.label } in
        let last = if own then jump s q.label else onward in
        let A = items a y last f in
        let T = test_items t head out q in
        let c = least a + least_test t in
        fewer (Close s (Jump head) ∷ (A ++ T)) (suc c) c (omega arith)
        (jumped s head (A ++ T) c (joined A T (least a) (least_test t) (items_spans a y last f h.0) (test_spans t head out q h.1)))
    items_spans (leave s e) x z o h = exit_spans s x e h

    test_spans : (t : Test) (there other : ℕ) (o : Open) → BelowTest t → Spans (test_items t there other o) (least_test t)
    test_spans (settled s b) there other o h = jumped s (if b then there else other) [] 0 none
    test_spans (on s a r) there other o h =
        let x : Loop = record { on_break = 0; on_continue = 0 } in
        joined (items a x onward o) (Close s (branch r there other) ∷ []) (least a) 1 (items_spans a x onward o h.0) (branch_spans s r there other h.1)
    test_spans (all_of t u) there other o h = let p = goes_test t o in joined (test_items t p.label other o) (test_items u there other p) (least_test t) (least_test u) (test_spans t p.label other o h.0) (test_spans u there other p h.1)
    test_spans (one_of t u) there other o h = let p = goes_test t o in joined (test_items t there p.label o) (test_items u there other p) (least_test t) (least_test u) (test_spans t there p.label o h.0) (test_spans u there other p h.1)
    test_spans (inverse t) there other o h = test_spans t other there o h
