-- Where code leads the open block, and what stands behind it.
use Rattle.std.proofs.Common.{◌≡◌, ℕ, suc, ◌<◌, ◌≤◌, List, [], ◌∷◌, ◌++◌, length, Bool, true, false, refl, sym, ap, ◌∙◌, subst, arith, append_assoc, length-append, Option, Some, None}
use Rattle.std.specs.Prelude.{slice_get, if◌then◌else◌}
use Rattle.ib_act.specs.declared.act.Act.{Act}
use Rattle.ib_act.specs.Acts.{target, first_source, second_source}
use Rattle.tac_core.specs.declared.code.TacOp.{TacOp}
use Rattle.tac_core.specs.declared.code.End.{End}
use Rattle.tac_core.specs.declared.code.End.TheVariants.{Jump, Branch, Call, Ret}
use Rattle.tac_core.specs.declared.code.Block.{Block}
use Rattle.tac_lowered.specs.Code.{Code, nothing, does, both, calls, when, choose, repeat, until, leave, Test, settled, on, all_of, one_of, inverse}
use Rattle.tac_lowered.specs.Items.{Item, Do, Close, ops_of, end_of, stmt_of, block_of, rest_of, blocks, Open, fresh, fresh_if, is_full, counted, after, is_jump, owned, goes, goes_test, Loop, Next, onward, jump, closes, close, label_of, put, exit, branch, own_items, items, test_items}
use Rattle.tac_lowered.specs.Lowered.{up_to, up_to_all, up_to_end, registers}

abbrev pub run : Open → List Item → Open
run o [] = o
run o (Do s act ∷ is) = run (counted o) is
run o (Close s e ∷ is) = run (fresh o) is

-- code leads from one open block to another
pub record Runs (code : List Item) (o p : Open) : Type 0 where
  pub by : run o code ≡ p

pub run_append : (o : Open) (a b : List Item) → run o (a ++ b) ≡ run (run o a) b
run_append o [] b = refl
run_append o (Do s act ∷ a) b = run_append (counted o) a b
run_append o (Close s e ∷ a) b = run_append (fresh o) a b

then_runs : {a b : List Item} {o p q : Open} → Runs a o p → Runs b p q → Runs (a ++ b) o q
then_runs {a} {b} {o} {p} {q} g h = record { by = run_append o a b ∙ ap (λ z. run z b) g.by ∙ h.by }

close_runs : (s : ℕ) (e : End) (o : Open) (x : List Item) (q : Open) → Runs x (fresh o) q → Runs (Close s e ∷ x) o q
close_runs s e o x q g = record { by = g.by }

pub put_runs : (s : ℕ) (act : Act) (o : Open) → Runs (put s act o) o (after o)
put_runs s act o = go (is_full o)
  where
    go : (b : Bool) → Runs (if b then Close s (Jump (suc o.label)) ∷ Do s act ∷ [] else Do s act ∷ []) o (counted (fresh_if b o))
    go true = record { by = refl }
    go false = record { by = refl }

next_runs : (n : Next) (o : Open) → Runs (close n) o (fresh_if (closes n) o)
next_runs onward o = record { by = refl }
next_runs (jump s l) o = record { by = refl }

end_runs : (s : ℕ) (e : End) (o : Open) → Runs (Close s e ∷ []) o (fresh o)
end_runs s e o = record { by = refl }

pub own_runs : (a : Code) (is : List Item) (p q : Open) → Runs is p q → Runs (own_items a is) p (owned a p q)
own_runs a is p q r = go (is_jump a)
  where
    go : (b : Bool) → Runs (if b then [] else is) p (if b then p else q)
    go true = record { by = refl }
    go false = r

mutual
  pub runs : (a : Code) (x : Loop) (n : Next) (o : Open) → Runs (items a x n o) o (goes a (closes n) o)
  runs nothing x n o = next_runs n o
  runs (does s act) x n o = then_runs (put_runs s act o) (next_runs n (after o))
  runs (both a b) x n o = then_runs (runs a x onward o) (runs b x n (goes a false o))
  runs (calls s to f args) x n o = end_runs s (Call to f args (label_of n (suc o.label))) o
  runs (when s t a) x n o = then_runs (runs_test t _ _ o) (own_runs a _ _ _ (runs a x (jump s _) (goes_test t o)))
  runs (choose s t a b) x n o = then_runs (runs_test t _ _ o) (then_runs (own_runs a _ _ _ (runs a x (jump s _) (goes_test t o))) (own_runs b _ _ _ (runs b x (jump s _) _)))
  runs (repeat s true t a b) x n o =
      close_runs s (Jump (suc o.label)) o _ _ (then_runs (runs_test t _ _ (fresh o)) (then_runs (own_runs a _ _ _ (runs a _ (jump s _) (goes_test t (fresh o)))) (own_runs b _ _ _ (runs b x (jump s _) _))))
  runs (repeat s false t a b) x n o =
      close_runs s (Jump (suc o.label)) o _ _ (then_runs (runs_test t _ _ (fresh o)) (then_runs (runs a _ onward (goes_test t (fresh o))) (runs b x (jump s _) _)))
  runs (until s true a t) x n o = close_runs s (Jump (suc o.label)) o _ _ (then_runs (runs a _ (jump s _) (fresh o)) (runs_test t _ _ _))
  runs (until s false a t) x n o = close_runs s (Jump (suc o.label)) o _ _ (then_runs (runs a _ onward (fresh o)) (runs_test t _ _ _))
  runs (leave s e) x n o = end_runs s (exit x e) o

  pub runs_test : (t : Test) (there other : ℕ) (o : Open) → Runs (test_items t there other o) o (goes_test t o)
  runs_test (settled s b) there other o = record { by = refl }
  runs_test (on s a r) there other o = then_runs (runs a _ onward o) (end_runs s (branch r there other) (goes a false o))
  runs_test (all_of t u) there other o = then_runs (runs_test t _ _ o) (runs_test u there other (goes_test t o))
  runs_test (one_of t u) there other o = then_runs (runs_test t _ _ o) (runs_test u there other (goes_test t o))
  runs_test (inverse t) there other o = runs_test t other there o

-- ---- what closes leaves a block that is empty

owned_empty : (a : Code) (p q : Open) → p.count ≡ 0 → q.count ≡ 0 → (owned a p q).count ≡ 0
owned_empty a p q hp hq = go (is_jump a)
  where
    go : (b : Bool) → (if b then p else q).count ≡ 0
    go true = hp
    go false = hq

mutual
  pub empty_behind : (a : Code) (o : Open) → (goes a true o).count ≡ 0
  empty_behind nothing o = refl
  empty_behind (does s act) o = refl
  empty_behind (both a b) o = empty_behind b (goes a false o)
  empty_behind (calls s to f args) o = refl
  empty_behind (when s t a) o = let p = goes_test t o in owned_empty a p (goes a true p) (empty_test t o) (empty_behind a p)
  empty_behind (choose s t a b) o =
      let p = goes_test t o in
      let q = owned a p (goes a true p) in
      owned_empty b q (goes b true q) (owned_empty a p (goes a true p) (empty_test t o) (empty_behind a p)) (empty_behind b q)
  empty_behind (repeat s true t a b) o =
      let p = goes_test t (fresh o) in
      let q = owned a p (goes a true p) in
      owned_empty b q (goes b true q) (owned_empty a p (goes a true p) (empty_test t (fresh o)) (empty_behind a p)) (empty_behind b q)
  empty_behind (repeat s false t a b) o = empty_behind b (goes a false (goes_test t (fresh o)))
  empty_behind (until s own a t) o = empty_test t (goes a own (fresh o))
  empty_behind (leave s x) o = refl

  pub empty_test : (t : Test) (o : Open) → (goes_test t o).count ≡ 0
  empty_test (settled s b) o = refl
  empty_test (on s a r) o = refl
  empty_test (all_of t u) o = empty_test u (goes_test t o)
  empty_test (one_of t u) o = empty_test u (goes_test t o)
  empty_test (inverse t) o = empty_test t o

pub own_empty : (a : Code) (p : Open) → p.count ≡ 0 → (owned a p (goes a true p)).count ≡ 0
own_empty a p h = owned_empty a p (goes a true p) h (empty_behind a p)

-- ---- what is left of a block stands in the function's blocks

module _ (n : ℕ) (last : End) where
  abbrev pub with_before : List TacOp → List Item → Block
  with_before before is = record { ops = before ++ ops_of is; «end» = end_of last is; end_stmt = stmt_of n is }

  -- in the block o, behind so many operations
  pub record Stands (B : List Block) (o : Open) (is : List Item) : Type 0 where
    pub front : List Block
    pub before : List TacOp
    pub label : length front ≡ o.label
    pub count : length before ≡ o.count
    pub all : B ≡ front ++ (with_before before is ∷ rest_of n last is)

  pub do_stands : (B : List Block) (o : Open) (s : ℕ) (act : Act) (is : List Item) → Stands B o (Do s act ∷ is) → Stands B (counted o) is
  do_stands B o s act is h = record {
    front = h.front;
    before = h.before ++ record { stmt = s; act = act } ∷ [];
    label = h.label;
    count = let e1 = length-append h.before (record { stmt = s; act = act } ∷ []) in let e2 = h.count in omega (arith, e1, e2);
    all = h.all ∙ ap (λ ops. h.front ++ (record { ops = ops; «end» = end_of last is; end_stmt = stmt_of n is } ∷ rest_of n last is)) (sym (append_assoc h.before (record { stmt = s; act = act } ∷ []) (ops_of is)));
  }

  pub close_stands : (B : List Block) (o : Open) (s : ℕ) (e : End) (is : List Item) → Stands B o (Close s e ∷ is) → Stands B (fresh o) is
  close_stands B o s e is h =
      let b : Block = with_before h.before (Close s e ∷ is) in
      record {
        front = h.front ++ b ∷ [];
        before = [];
        label = let e1 = length-append h.front (b ∷ []) in let e2 = h.label in omega (arith, e1, e2);
        count = refl;
        all = h.all ∙ sym (append_assoc h.front (b ∷ []) (block_of n last is ∷ rest_of n last is));
      }

  -- behind code
  passes : (B : List Block) (o : Open) (a rest : List Item) → Stands B o (a ++ rest) → Stands B (run o a) rest
  passes B o [] rest h = h
  passes B o (Do s act ∷ a) rest h = passes B (counted o) a rest (do_stands B o s act (a ++ rest) h)
  passes B o (Close s e ∷ a) rest h = passes B (fresh o) a rest (close_stands B o s e (a ++ rest) h)

  pub behind : (B : List Block) (a : List Item) (o p : Open) (rest : List Item) → Runs a o p → Stands B o (a ++ rest) → Stands B p rest
  behind B a o p rest g h = subst (λ q. Stands B q rest) g.by (passes B o a rest h)

  get_at : (front : List Block) (b : Block) (rest : List Block) (l : ℕ) → length front ≡ l → slice_get (front ++ (b ∷ rest)) l ≡ Some b
  get_at [] b rest l e = subst (λ l. slice_get (b ∷ rest) l ≡ Some b) e refl
  get_at (x ∷ xs) b rest l e = subst (λ l. slice_get (x ∷ (xs ++ (b ∷ rest))) l ≡ Some b) e (get_at xs b rest (length xs) refl)

  -- the block that the machine finds by its label
  pub found : (B : List Block) (o : Open) (is : List Item) (h : Stands B o is) → slice_get B o.label ≡ Some (with_before h.before is)
  found B o is h = ap (λ B. slice_get B o.label) h.all ∙ get_at h.front (with_before h.before is) (rest_of n last is) o.label h.label

  none_before : (before : List TacOp) → length before ≡ 0 → before ≡ []
  none_before [] e = refl
  none_before (x ∷ xs) e = let z : ⊥ = omega (arith, e) in absurd z

  -- a block that nothing stands in yet
  pub found_empty : (B : List Block) (o : Open) (is : List Item) → o.count ≡ 0 → Stands B o is → slice_get B o.label ≡ Some (block_of n last is)
  found_empty B o is e h = found B o is h ∙ ap (λ before. Some (with_before before is)) (none_before h.before (h.count ∙ e))

  pub whole : (is : List Item) → Stands (blocks n last is) (record { label = 0; count = 0 }) is
  whole is = record { front = []; before = []; label = refl; count = refl; all = refl }

-- ---- registers

pub up_least : (r : Option ℕ) (n : ℕ) → n ≤ up_to r n
up_least None n = omega arith
up_least (Some r) n = omega arith

pub all_least : (rs : List ℕ) (n : ℕ) → n ≤ up_to_all rs n
all_least [] n = omega arith
all_least (r ∷ rs) n = let h = all_least rs n in omega (arith, h)

pub end_least : (e : End) (n : ℕ) → n ≤ up_to_end e n
end_least (Jump l) n = omega arith
end_least (Branch r there other) n = omega arith
end_least (Call to f args next) n = let h = all_least args n in let a = up_least to (up_to_all args n) in omega (arith, h, a)
end_least (Ret r) n = up_least r n

pub do_least : (s : ℕ) (act : Act) (is : List Item) (n : ℕ) → registers is n ≤ registers (Do s act ∷ is) n
do_least s act is n =
    let a = up_least (second_source act) (registers is n) in
    let b = up_least (first_source act) (up_to (second_source act) (registers is n)) in
    let c = up_least (target act) (up_to (first_source act) (up_to (second_source act) (registers is n))) in
    omega (arith, a, b, c)

pub close_least : (s : ℕ) (e : End) (is : List Item) (n : ℕ) → registers is n ≤ registers (Close s e ∷ is) n
close_least s e is n = end_least e (registers is n)

pub at_least : (is : List Item) (n : ℕ) → n ≤ registers is n
at_least [] n = omega arith
at_least (Do s act ∷ is) n = let h = at_least is n in let a = do_least s act is n in omega (arith, h, a)
at_least (Close s e ∷ is) n = let h = at_least is n in let a = close_least s e is n in omega (arith, h, a)

pub fewer_behind : (a rest : List Item) (n : ℕ) → registers rest n ≤ registers (a ++ rest) n
fewer_behind [] rest n = omega arith
fewer_behind (Do s act ∷ is) rest n = let h = fewer_behind is rest n in let a = do_least s act (is ++ rest) n in omega (arith, h, a)
fewer_behind (Close s e ∷ is) rest n = let h = fewer_behind is rest n in let a = close_least s e (is ++ rest) n in omega (arith, h, a)

-- what an operation names is below
pub below : (r : Option ℕ) (q n : ℕ) → r ≡ Some q → q < up_to r n
below None q n e = let z : ⊥ = cc in absurd z
below (Some r) q n e = let same : r ≡ q = cc in omega (arith, same)

pub target_below : (s : ℕ) (act : Act) (is : List Item) (q n : ℕ) → target act ≡ Some q → q < registers (Do s act ∷ is) n
target_below s act is q n e = below (target act) q (up_to (first_source act) (up_to (second_source act) (registers is n))) e

pub first_below : (s : ℕ) (act : Act) (is : List Item) (q n : ℕ) → first_source act ≡ Some q → q < registers (Do s act ∷ is) n
first_below s act is q n e =
    let a = below (first_source act) q (up_to (second_source act) (registers is n)) e in
    let b = up_least (target act) (up_to (first_source act) (up_to (second_source act) (registers is n))) in
    omega (arith, a, b)

pub second_below : (s : ℕ) (act : Act) (is : List Item) (q n : ℕ) → second_source act ≡ Some q → q < registers (Do s act ∷ is) n
second_below s act is q n e =
    let a = below (second_source act) q (registers is n) e in
    let b = up_least (first_source act) (up_to (second_source act) (registers is n)) in
    let c = up_least (target act) (up_to (first_source act) (up_to (second_source act) (registers is n))) in
    omega (arith, a, b, c)
