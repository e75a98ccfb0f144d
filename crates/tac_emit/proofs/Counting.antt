-- The number of code's items, from a survey.
use Rattle.std.proofs.Common.{◌≡◌, ℕ, suc, ◌+◌, List, [], ◌∷◌, ◌++◌, length, Bool, true, false, refl, ap, arith}
use Rattle.std.specs.Prelude.{if◌then◌else◌}
use Rattle.ib_act.specs.declared.act.Act.{Act}
use Rattle.tac_core.specs.declared.code.End.TheVariants.{Jump}
use Rattle.tac_lowered.specs.Code.{Code, nothing, does, both, calls, when, choose, repeat, until, leave, breaks, continues, returns, Test, settled, on, all_of, one_of, inverse}
use Rattle.tac_lowered.specs.Items.{Item, Do, Close, Open, is_full, fresh, counted, put, Loop, Next, onward, jump, branch, closes, close, own_items, goes, items, test_items}
use Rattle.tac_lowered.proofs.Geometry.{run, runs}
use Rattle.tac_emit.specs.Extents.{acts, acts_test}

abbrev ops_in : List Item → ℕ
ops_in [] = 0
ops_in (Do s act ∷ is) = suc (ops_in is)
ops_in (Close s e ∷ is) = ops_in is

ops_append : (xs ys : List Item) → ops_in (xs ++ ys) ≡ ops_in xs + ops_in ys
ops_append [] ys = omega arith
ops_append (Do s act ∷ xs) ys = let e = ops_append xs ys in omega (arith, e)
ops_append (Close s e ∷ xs) ys = ops_append xs ys

put_ops : (s : ℕ) (act : Act) (o : Open) → ops_in (put s act o) ≡ 1
put_ops s act o = go (is_full o)
  where
    go : (b : Bool) → ops_in (if b then Close s (Jump (suc o.label)) ∷ Do s act ∷ [] else Do s act ∷ []) ≡ 1
    go true = refl
    go false = refl

close_ops : (n : Next) → ops_in (close n) ≡ 0
close_ops onward = refl
close_ops (jump s l) = refl

own_ops : (a : Code) (is : List Item) → ops_in is ≡ acts a → ops_in (own_items a is) ≡ acts a
own_ops nothing is e = refl
own_ops (leave s breaks) is e = refl
own_ops (leave s continues) is e = refl
own_ops (leave s (returns r)) is e = e
own_ops (does s act) is e = e
own_ops (both a b) is e = e
own_ops (calls s to f args) is e = e
own_ops (when s t a) is e = e
own_ops (choose s t a b) is e = e
own_ops (repeat s own t a b) is e = e
own_ops (until s own a t) is e = e

two_ops : (xs ys : List Item) (n m : ℕ) → ops_in xs ≡ n → ops_in ys ≡ m → ops_in (xs ++ ys) ≡ n + m
two_ops xs ys n m e f = let g = ops_append xs ys in omega (arith, g, e, f)

mutual
  code_ops : (a : Code) (x : Loop) (n : Next) (o : Open) → ops_in (items a x n o) ≡ acts a
  code_ops nothing x n o = close_ops n
  code_ops (does s act) x n o = two_ops (put s act o) (close n) 1 0 (put_ops s act o) (close_ops n)
  code_ops (both a b) x n o = two_ops (items a x onward o) _ (acts a) (acts b) (code_ops a x onward o) (code_ops b x n (goes a false o))
  code_ops (calls s to f args) x n o = refl
  code_ops (when s t a) x n o = two_ops (test_items t _ _ o) _ (acts_test t) (acts a) (test_ops t _ _ o) (own_ops a _ (code_ops a x (jump s _) _))
  code_ops (choose s t a b) x n o =
      two_ops (test_items t _ _ o) _ (acts_test t) (acts a + acts b) (test_ops t _ _ o)
      (two_ops (own_items a _) _ (acts a) (acts b) (own_ops a _ (code_ops a x (jump s _) _)) (own_ops b _ (code_ops b x (jump s _) _)))
  code_ops (repeat s true t a b) x n o =
      two_ops (test_items t _ _ (fresh o)) _ (acts_test t) (acts a + acts b) (test_ops t _ _ (fresh o))
      (two_ops (own_items a _) _ (acts a) (acts b) (own_ops a _ (code_ops a _ (jump s _) _)) (own_ops b _ (code_ops b x (jump s _) _)))
  code_ops (repeat s false t a b) x n o =
      two_ops (test_items t _ _ (fresh o)) _ (acts_test t) (acts a + acts b) (test_ops t _ _ (fresh o)) (two_ops (items a _ onward _) _ (acts a) (acts b) (code_ops a _ onward _) (code_ops b x (jump s _) _))
  code_ops (until s own a t) x n o = two_ops (items a _ _ (fresh o)) _ (acts a) (acts_test t) (code_ops a _ _ (fresh o)) (test_ops t _ _ _)
  code_ops (leave s e) x n o = refl

  test_ops : (t : Test) (there other : ℕ) (o : Open) → ops_in (test_items t there other o) ≡ acts_test t
  test_ops (settled s b) there other o = refl
  test_ops (on s a r) there other o =
      let x : Loop = record { on_break = 0; on_continue = 0 } in
      let e1 = ops_append (items a x onward o) (Close s (branch r there other) ∷ []) in
      let e2 = code_ops a x onward o in
      omega (arith, e1, e2)
  test_ops (all_of t u) there other o = two_ops (test_items t _ _ o) _ (acts_test t) (acts_test u) (test_ops t _ _ o) (test_ops u there other _)
  test_ops (one_of t u) there other o = two_ops (test_items t _ _ o) _ (acts_test t) (acts_test u) (test_ops t _ _ o) (test_ops u there other _)
  test_ops (inverse t) there other o = test_ops t other there o

-- a block's end opens the next
ends_in : (is : List Item) (o : Open) → length is + o.label ≡ ops_in is + (run o is).label
ends_in [] o = omega arith
ends_in (Do s act ∷ is) o = let e = ends_in is (counted o) in omega (arith, e)
ends_in (Close s e ∷ is) o = let e1 = ends_in is (fresh o) in omega (arith, e1)

-- so many operations, and an end for each label that code goes on by
pub counted_code : (a : Code) (x : Loop) (n : Next) (o : Open) → length (items a x n o) + o.label ≡ acts a + (goes a (closes n) o).label
counted_code a x n o = let e1 = ends_in (items a x n o) o in let e2 = code_ops a x n o in let e3 = ap (λ (p : Open). p.label) (runs a x n o).by in omega (arith, e1, e2, e3)
