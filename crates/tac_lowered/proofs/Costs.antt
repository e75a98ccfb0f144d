-- How many operations a node is lowered to.
use Rattle.std.proofs.Common.{◌≡◌, ℕ, suc, ◌+◌, ◌*◌, ◌≤◌, ℤ, pos, List, [], ◌∷◌, ◌++◌, length, length-append, map, Bool, true, false, refl, arith, Option, Some, None}
use Rattle.std.specs.Prelude.{slice_index_or, ◌==◌, if◌then◌else◌, nat_lt}
use Rattle.std.specs.List.{sum_by}
use Rattle.std.proofs.lemmas.Bool.{ltb-true}
use Rattle.std.proofs.lemmas.List.Sums.{sum_by-cons}
use Rattle.ib_base.specs.declared.integers.Width.{Width}
use Rattle.ib_act.specs.declared.act.Size.TheVariants.{Eight}
use Rattle.ib_act.specs.declared.act.Act.{Act}
use Rattle.ib_act.specs.declared.act.Act.TheVariants.{Const, Mov, Mul}
use Rattle.c_typed.specs.declared.types.ValueType.{ValueType}
use Rattle.c_typed.specs.declared.expr.Storage.{Storage}
use Rattle.c_typed.specs.declared.expr.Storage.TheVariants.{Global, Frame}
use Rattle.c_typed.specs.declared.expr.Reach.{Reach}
use Rattle.c_typed.specs.declared.operation.Rank.{Rank}
use Rattle.c_typed.specs.declared.operation.Sign.{Sign}
use Rattle.c_typed.specs.declared.operation.Sign.TheVariants as sg
use Rattle.c_typed.specs.declared.operation.Operation.{Operation}
use Rattle.c_typed.specs.declared.operation.Operation.TheVariants as op
use Rattle.c_typed.specs.declared.program.Home.{Home}
use Rattle.c_typed.specs.declared.program.Home.TheVariants as h
use Rattle.c_typed.specs.declared.program.Param.{Param}
use Rattle.c_typed.specs.Tree as t
use Rattle.c_typed.specs.Tree.{Exp, Exps, Maybe, Stm, Stms, Function}
use Rattle.c_typed.specs.Program.{Program}
use Rattle.c_typed.specs.Values as values
use Rattle.c_typed.specs.Values.{width_of}
use Rattle.tac_core.specs.declared.code.End.{End}
use Rattle.tac_core.specs.declared.code.End.TheVariants.{Jump, Ret}
use Rattle.tac_core.specs.Program.{block_ops, func_ops, program_ops}
use Rattle.tac_lowered.specs.Code.{Code, nothing, does, both, calls, when, choose, repeat, until, leave, Test, settled, on, all_of, one_of, inverse}
use Rattle.tac_lowered.specs.Items.{Item, Do, Close, ops_of, block_of, rest_of, Open, fresh, fresh_if, is_full, counted, after, is_jump, owned, goes, goes_test, Loop, Next, onward, jump, closes, close, label_of, put, entry, own_items, items, test_items}
use Rattle.tac_lowered.specs.Operators.{moved, number, or_else, narrows, cut, converted, scaled, operated, given_by, assigned, sign}
use Rattle.tac_lowered.specs.Expressions.{held, at, behind_operand, is_empty, known, address, address_at, indexed, low, low_all, effects, test, are_quiet, is_quiet, width_in}
use Rattle.tac_lowered.specs.Statements.{low_stm, low_stms, returned, test_part}
use Rattle.tac_lowered.specs.Lowered.{behind_home, nowhere, stored, all_stored, free_in, body_of, items_of, lowered_function, lowered}
use Rattle.c_kept.specs.Weights.{weight, weights, weight_part, weight_stm, weight_stms, weight_function, weight_functions, KeepsWeights}

-- ---- code

-- the operations and ends of blocks that code has at most, but for the ends of full blocks
abbrev mutual
  cost : Code → ℕ
  cost nothing = 0
  cost (does s act) = 1
  cost (both a b) = cost a + cost b
  cost (calls s to f args) = 1
  cost (when s t a) = cost_test t + (cost a + 1)
  cost (choose s t a b) = cost_test t + ((cost a + 1) + (cost b + 1))
  cost (repeat s own t a b) = 1 + (cost_test t + ((cost a + 1) + (cost b + 1)))
  cost (until s own a t) = 1 + ((cost a + 1) + cost_test t)
  cost (leave s x) = 1

  cost_test : Test → ℕ
  cost_test (settled s b) = 1
  cost_test (on s a r) = cost a + 1
  cost_test (all_of t u) = cost_test t + cost_test u
  cost_test (one_of t u) = cost_test t + cost_test u
  cost_test (inverse t) = cost_test t

-- Items from one open block to another at such a cost: a full block is closed where 511 operations stand in it.
record Costs (is : List Item) (o p : Open) (c : ℕ) : Type 0 where
  by : 511 * length is + p.count ≤ 512 * c + o.count

joined_cost : (xs ys : List Item) (o p q : Open) (c d : ℕ) → Costs xs o p c → Costs ys p q d → Costs (xs ++ ys) o q (c + d)
joined_cost xs ys o p q c d a b = record { by = let e1 = length-append xs ys in let e2 = a.by in let e3 = b.by in omega (arith, e1, e2, e3) }

more_cost : (is : List Item) (o p : Open) (c d : ℕ) → c ≤ d → Costs is o p c → Costs is o p d
more_cost is o p c d le a = record { by = let e1 = a.by in omega (arith, le, e1) }

end_cost : (s : ℕ) (e : End) (o : Open) → Costs (Close s e ∷ []) o (fresh o) 1
end_cost s e o = record { by = omega arith }

ended_cost : (s : ℕ) (e : End) (is : List Item) (o p : Open) (c : ℕ) → Costs is (fresh o) p c → Costs (Close s e ∷ is) o p (1 + c)
ended_cost s e is o p c a = record { by = let e1 = a.by in omega (arith, e1) }

none_cost : (o : Open) → Costs [] o o 0
none_cost o = record { by = omega arith }

put_cost : (s : ℕ) (act : Act) (o : Open) → Costs (put s act o) o (after o) 1
unfolding is_full
put_cost s act o = go (nat_lt 510 o.count) refl
  where
    go : (b : Bool) → nat_lt 510 o.count ≡ b → Costs (if b then Close s (Jump (suc o.label)) ∷ Do s act ∷ [] else Do s act ∷ []) o (counted (fresh_if b o)) 1
    go true h = record { by = let e1 = ltb-true 510 o.count h in omega (arith, e1) }
    go false h = record { by = omega arith }

own_cost : (a : Code) (is : List Item) (p q : Open) (c : ℕ) → Costs is p q c → Costs (own_items a is) p (owned a p q) c
own_cost a is p q c h = go (is_jump a)
  where
    go : (b : Bool) → Costs (if b then [] else is) p (if b then p else q) c
    go true = record { by = omega arith }
    go false = h

-- code that goes elsewhere behind its end has one end more
abbrev ending : Next → ℕ
ending onward = 0
ending (jump s l) = 1

close_cost : (n : Next) (o : Open) → Costs (close n) o (fresh_if (closes n) o) (ending n)
close_cost onward o = none_cost o
close_cost (jump s l) o = end_cost s (Jump l) o

mutual
  items_cost : (a : Code) (x : Loop) (n : Next) (o : Open) → Costs (items a x n o) o (goes a (closes n) o) (cost a + ending n)
  items_cost nothing x n o = more_cost (close n) o (fresh_if (closes n) o) (ending n) (0 + ending n) (omega arith) (close_cost n o)
  items_cost (does s act) x n o = joined_cost (put s act o) (close n) o (after o) (fresh_if (closes n) (after o)) 1 (ending n) (put_cost s act o) (close_cost n (after o))
  items_cost (both a b) x n o =
      let p = goes a false o in
      let q = goes b (closes n) p in
      more_cost (items a x onward o ++ items b x n p) o q ((cost a + 0) + (cost b + ending n)) ((cost a + cost b) + ending n) (omega arith) (joined_cost (items a x onward o) (items b x n p) o p q (cost a + 0) (cost b + ending n) (items_cost a x onward o) (items_cost b x n p))
  items_cost (calls s to f args) x n o = more_cost (items (calls s to f args) x n o) o (fresh o) 1 (1 + ending n) (omega arith) (end_cost s _ o)
  items_cost (when s t a) x n o =
      let p = goes_test t o in
      let q = owned a p (goes a true p) in
      let out = label_of n q.label in
      let T = test_items t (entry a x out p.label) out o in
      let A = items a x (jump s out) p in
      more_cost (T ++ own_items a A) o q (cost_test t + (cost a + 1)) ((cost_test t + (cost a + 1)) + ending n) (omega arith)
      (joined_cost T (own_items a A) o p q (cost_test t) (cost a + 1) (test_cost t (entry a x out p.label) out o) (own_cost a A p (goes a true p) (cost a + 1) (items_cost a x (jump s out) p)))
  items_cost (choose s t a b) x n o =
      let p = goes_test t o in
      let q = owned a p (goes a true p) in
      let r = owned b q (goes b true q) in
      let out = label_of n r.label in
      let T = test_items t (entry a x out p.label) (entry b x out q.label) o in
      let A = items a x (jump s out) p in
      let B = items b x (jump s out) q in
      more_cost (T ++ (own_items a A ++ own_items b B)) o r (cost_test t + ((cost a + 1) + (cost b + 1))) ((cost_test t + ((cost a + 1) + (cost b + 1))) + ending n) (omega arith)
      (joined_cost T (own_items a A ++ own_items b B) o p r (cost_test t) ((cost a + 1) + (cost b + 1)) (test_cost t (entry a x out p.label) (entry b x out q.label) o)
      (joined_cost (own_items a A) (own_items b B) p q r (cost a + 1) (cost b + 1) (own_cost a A p (goes a true p) (cost a + 1) (items_cost a x (jump s out) p)) (own_cost b B q (goes b true q) (cost b + 1) (items_cost b x (jump s out) q))))
  items_cost (repeat s true t a b) x n o =
      let f = fresh o in
      let head = suc o.label in
      let p = goes_test t f in
      let q = owned a p (goes a true p) in
      let r = owned b q (goes b true q) in
      let out = label_of n r.label in
      let last = entry b x head q.label in
      let y : Loop = record { on_break = out; on_continue = last } in
      let T = test_items t (entry a y last p.label) out f in
      let A = items a y (jump s last) p in
      let B = items b x (jump s head) q in
      let c = cost_test t + ((cost a + 1) + (cost b + 1)) in
      more_cost (Close s (Jump head) ∷ (T ++ (own_items a A ++ own_items b B))) o r (1 + c) ((1 + c) + ending n) (omega arith)
      (ended_cost s (Jump head) (T ++ (own_items a A ++ own_items b B)) o r c
      (joined_cost T (own_items a A ++ own_items b B) f p r (cost_test t) ((cost a + 1) + (cost b + 1)) (test_cost t (entry a y last p.label) out f)
      (joined_cost (own_items a A) (own_items b B) p q r (cost a + 1) (cost b + 1) (own_cost a A p (goes a true p) (cost a + 1) (items_cost a y (jump s last) p)) (own_cost b B q (goes b true q) (cost b + 1) (items_cost b x (jump s head) q)))))
  items_cost (repeat s false t a b) x n o =
      let f = fresh o in
      let head = suc o.label in
      let p = goes_test t f in
      let q = goes a false p in
      let r = goes b true q in
      let out = label_of n r.label in
      let y : Loop = record { on_break = out; on_continue = head } in
      let T = test_items t p.label out f in
      let A = items a y onward p in
      let B = items b x (jump s head) q in
      let c = cost_test t + ((cost a + 1) + (cost b + 1)) in
      more_cost (Close s (Jump head) ∷ (T ++ (A ++ B))) o r (1 + c) ((1 + c) + ending n) (omega arith)
      (ended_cost s (Jump head) (T ++ (A ++ B)) o r c
      (joined_cost T (A ++ B) f p r (cost_test t) ((cost a + 1) + (cost b + 1)) (test_cost t p.label out f)
      (joined_cost A B p q r (cost a + 1) (cost b + 1) (more_cost A p q (cost a + 0) (cost a + 1) (omega arith) (items_cost a y onward p)) (items_cost b x (jump s head) q))))
  items_cost (until s true a t) x n o =
      let f = fresh o in
      let head = suc o.label in
      let q = goes a true f in
      let r = goes_test t q in
      let out = label_of n r.label in
      let y : Loop = record { on_break = out; on_continue = q.label } in
      let A = items a y (jump s q.label) f in
      let T = test_items t head out q in
      let c = (cost a + 1) + cost_test t in
      more_cost (Close s (Jump head) ∷ (A ++ T)) o r (1 + c) ((1 + c) + ending n) (omega arith)
      (ended_cost s (Jump head) (A ++ T) o r c (joined_cost A T f q r (cost a + 1) (cost_test t) (items_cost a y (jump s q.label) f) (test_cost t head out q)))
  items_cost (until s false a t) x n o =
      let f = fresh o in
      let head = suc o.label in
      let q = goes a false f in
      let r = goes_test t q in
      let out = label_of n r.label in
      let y : Loop = record { on_break = out; on_continue = q.label } in
      let A = items a y onward f in
      let T = test_items t head out q in
      let c = (cost a + 1) + cost_test t in
      more_cost (Close s (Jump head) ∷ (A ++ T)) o r (1 + c) ((1 + c) + ending n) (omega arith)
      (ended_cost s (Jump head) (A ++ T) o r c (joined_cost A T f q r (cost a + 1) (cost_test t) (more_cost A f q (cost a + 0) (cost a + 1) (omega arith) (items_cost a y onward f)) (test_cost t head out q)))
  items_cost (leave s e) x n o = more_cost (items (leave s e) x n o) o (fresh o) 1 (1 + ending n) (omega arith) (end_cost s _ o)

  test_cost : (t : Test) (there other : ℕ) (o : Open) → Costs (test_items t there other o) o (goes_test t o) (cost_test t)
  test_cost (settled s b) there other o = end_cost s _ o
  test_cost (on s a r) there other o =
      let x : Loop = record { on_break = 0; on_continue = 0 } in
      let p = goes a false o in
      more_cost (test_items (on s a r) there other o) o (fresh p) ((cost a + 0) + 1) (cost a + 1) (omega arith) (joined_cost (items a x onward o) _ o p (fresh p) (cost a + 0) 1 (items_cost a x onward o) (end_cost s _ p))
  test_cost (all_of t u) there other o = let p = goes_test t o in joined_cost (test_items t p.label other o) (test_items u there other p) o p (goes_test u p) (cost_test t) (cost_test u) (test_cost t p.label other o) (test_cost u there other p)
  test_cost (one_of t u) there other o = let p = goes_test t o in joined_cost (test_items t there p.label o) (test_items u there other p) o p (goes_test u p) (cost_test t) (cost_test u) (test_cost t there p.label o) (test_cost u there other p)
  test_cost (inverse t) there other o = test_cost t other there o

-- ---- operators

moved_cost : (s : ℕ) (to : Option ℕ) (x : ℕ) → cost (moved s to x) ≤ 1
moved_cost s None x = omega arith
moved_cost s (Some to) x = go (to == x)
  where
    go : (b : Bool) → cost (if b then nothing else does s (Mov to x)) ≤ 1
    go true = omega arith
    go false = omega arith

number_cost : (s : ℕ) (to : Option ℕ) (v : ℤ) → cost (number s to v) ≤ 1
number_cost s None v = omega arith
number_cost s (Some to) v = omega arith

held_cost : (b : Bool) (a : Exp) (code : Code) → cost (held b a code) ≤ cost code
held_cost true (t.slot ty k) code = omega arith
held_cost true a code = omega arith
held_cost false a code = omega arith

scaled_cost : (s r size x : ℕ) → cost (scaled s r size x) ≤ 2
scaled_cost s r size x = go (size == 1)
  where
    go : (b : Bool) → cost (if b then nothing else both (does s (Const r (pos size))) (does s (Mul Eight r x r))) ≤ 2
    go true = omega arith
    go false = omega arith

operated_cost : (o : Operation) (s to r x y : ℕ) → cost (operated o s to r x y) ≤ 3
operated_cost (op.Integer o rank) s to r x y = omega arith
operated_cost (op.Compare o) s to r x y = omega arith
operated_cost (op.Advance size) s to r x y = let e1 = scaled_cost s r size y in omega (arith, e1)
operated_cost (op.AdvanceBy size) s to r x y = let e1 = scaled_cost s r size x in omega (arith, e1)
operated_cost (op.Retreat size) s to r x y = let e1 = scaled_cost s r size y in omega (arith, e1)
operated_cost (op.Distance size) s to r x y = omega arith

converted_cost : (from w : Width) (s to x : ℕ) → cost (converted from w s to x) ≤ 1
converted_cost from w s to x = go (narrows from w)
  where
    go : (b : Bool) → cost (if b then does s (cut w to x) else moved s (Some to) x) ≤ 1
    go true = omega arith
    go false = moved_cost s (Some to) x

assigned_cost : (ty within : ValueType) (o : Operation) (s to r x y : ℕ) → cost (assigned ty within o s to r x y) ≤ 5
assigned_cost ty within o s to r x y = go (narrows (width_of ty) (width_of within)) (narrows (given_by o) (width_of ty))
  where
    go : (b c : Bool)
        → cost
        (
        if b then both (does s (cut (width_of within) r x)) (both (operated o s (r + 1) (r + 2) r y) (converted (given_by o) (width_of ty) s to (r + 1)))
        else if c then both (operated o s r (r + 1) x y) (does s (cut (width_of ty) to r))
        else operated o s to r x y
        )
        ≤ 5
    go true c = let e1 = operated_cost o s (r + 1) (r + 2) r y in let e2 = converted_cost (given_by o) (width_of ty) s to (r + 1) in omega (arith, e1, e2)
    go false true = let e1 = operated_cost o s r (r + 1) x y in omega (arith, e1)
    go false false = let e1 = operated_cost o s to r x y in omega (arith, e1)

sign_cost : (o : Sign) (rank : Rank) (s to r x : ℕ) → cost (sign o rank s to r x) ≤ 2
sign_cost sg.Minus rank s to r x = omega arith
sign_cost sg.BitNot rank s to r x = omega arith

module _ (p : Program) where
  address_cost : (s to : ℕ) (of : Storage) → cost (address p s to of) ≤ 1
  address_cost s to (Global n) = omega arith
  address_cost s to (Frame offset) = omega arith

  address_at_cost : (s to : ℕ) (of : Storage) (bytes : ℤ) → cost (address_at p s to of bytes) ≤ 1
  address_at_cost s to (Global n) bytes = omega arith
  address_at_cost s to (Frame offset) bytes = omega arith

  indexed_cost : (s : ℕ) (to : Option ℕ) (r : ℕ) (array : Storage) (count size : ℕ) (reach : Reach) (i : Option ℤ) (code : Code) (x : ℕ) → cost (indexed p s to r array count size reach i code x) ≤ cost code + 5
  indexed_cost s to r array count size reach (Some i) code x = let e1 = address_at_cost s (or_else to r) array (values.scaled size i) in omega (arith, e1)
  indexed_cost s to r array count size reach None code x = let e1 = scaled_cost s (r + 1) size r in let e2 = address_cost s (r + 2) array in omega (arith, e1, e2)

  cut_cost : (b : Bool) (w : Width) (s to x : ℕ) (first whole : Code) (c : ℕ) → cost first ≤ c → cost whole ≤ c → cost (if b then both first (does s (cut w to x)) else whole) ≤ c + 1
  cut_cost true w s to x first whole c hf hw = omega (arith, hf)
  cut_cost false w s to x first whole c hf hw = omega (arith, hw)

  some_cost : (b : Bool) (s k : ℕ) (code : Code) → cost (if b then does s (Mov k k) else code) ≤ cost code + 1
  some_cost true s k code = omega arith
  some_cost false s k code = omega arith

  -- an operand
  held_low : (b : Bool) (a : Exp) (s r : ℕ) → cost (low p a s (Some r) r) ≤ 9 * weight a → cost (held b a (low p a s (Some r) r)) ≤ 9 * weight a
  held_low b a s r h = let e1 = held_cost b a (low p a s (Some r) r) in omega (arith, e1, h)

  -- ---- expressions: at most nine operations a node, and a test has one end more

  mutual
    low_cost : (a : Exp) (s : ℕ) (to : Option ℕ) (r : ℕ) → cost (low p a s to r) ≤ 9 * weight a
    low_cost (t.constant ty v) s to r = let e1 = number_cost s to v in omega (arith, e1)
    low_cost (t.text k) s to r = let e1 = number_cost s to (pos (slice_index_or p.strings k 0)) in omega (arith, e1)
    low_cost (t.address ty of) s None r = omega arith
    low_cost (t.address ty of) s (Some to) r = let e1 = address_cost s to of in omega (arith, e1)
    low_cost (t.element ty array count size reach a) s to r =
        let A = held true a (low p a s (Some r) r) in
        let e1 = indexed_cost s to r array count size reach (known reach count a) A (at true a r) in
        let e2 = (held_low true a s r (low_cost a s (Some r) r)) in
        omega (arith, e1, e2)
    low_cost (t.slot ty k) s to r = let e1 = moved_cost s to k in omega (arith, e1)
    low_cost (t.load ty a) s to r = let e1 = (held_low true a s r (low_cost a s (Some r) r)) in omega (arith, e1)
    low_cost (t.convert ty a) s None r = let e1 = low_cost a s None r in omega (arith, e1)
    low_cost (t.convert ty a) s (Some to) r =
        let e1 = cut_cost (narrows (width_in a) (width_of ty)) (width_of ty) s to (at true a r) (held true a (low p a s (Some r) r)) (low p a s (Some to) r) (9 * weight a) (held_low true a s r (low_cost a s (Some r) r)) (low_cost a s (Some to) r) in
        omega (arith, e1)
    low_cost (t.unary o rank a) s to r = let e1 = (held_low true a s r (low_cost a s (Some r) r)) in let e2 = sign_cost o rank s (or_else to r) (r + 1) (at true a r) in omega (arith, e1, e2)
    low_cost (t.not a) s to r = let e1 = (held_low true a s r (low_cost a s (Some r) r)) in omega (arith, e1)
    low_cost (t.binary ty o a b) s to r =
        let e1 = (held_low (is_quiet b) a s r (low_cost a s (Some r) r)) in
        let e2 = (held_low true b s (r + 1) (low_cost b s (Some (r + 1)) (r + 1))) in
        let e3 = operated_cost o s (or_else to r) (r + 2) (at (is_quiet b) a r) (at true b (r + 1)) in
        omega (arith, e1, e2, e3)
    low_cost (t.both a b) s None r = let e1 = tested_cost a s r (low p a s (Some r) r) (low_cost a s (Some r) r) in let e2 = low_cost b s None r in omega (arith, e1, e2)
    low_cost (t.both a b) s (Some to) r = let e1 = tested_cost a s r (low p a s (Some r) r) (low_cost a s (Some r) r) in let e2 = tested_cost b s r (low p b s (Some r) r) (low_cost b s (Some r) r) in omega (arith, e1, e2)
    low_cost (t.either a b) s None r = let e1 = tested_cost a s r (low p a s (Some r) r) (low_cost a s (Some r) r) in let e2 = low_cost b s None r in omega (arith, e1, e2)
    low_cost (t.either a b) s (Some to) r = let e1 = tested_cost a s r (low p a s (Some r) r) (low_cost a s (Some r) r) in let e2 = tested_cost b s r (low p b s (Some r) r) (low_cost b s (Some r) r) in omega (arith, e1, e2)
    low_cost (t.conditional ty a b c) s to r =
        let e1 = tested_cost a s r (low p a s (Some r) r) (low_cost a s (Some r) r) in
        let e2 = low_cost b s to r in
        let e3 = low_cost c s to r in
        omega (arith, e1, e2, e3)
    low_cost (t.set_slot ty k a) s to r = let e1 = low_cost a s (Some k) r in let e2 = moved_cost s to k in let e3 = some_cost (is_empty (low p a s (Some k) r)) s k (low p a s (Some k) r) in omega (arith, e1, e2, e3)
    low_cost (t.store ty a b) s to r =
        let e1 = (held_low (is_quiet b) a s r (low_cost a s (Some r) r)) in
        let e2 = (held_low true b s (r + 1) (low_cost b s (Some (r + 1)) (r + 1))) in
        let e3 = moved_cost s to (at true b (r + 1)) in
        omega (arith, e1, e2, e3)
    low_cost (t.update_slot ty k within o a) s to r =
        let e1 = held_cost (is_quiet a) (t.slot ty k) (does s (Mov r k)) in
        let e2 = (held_low true a s (r + 1) (low_cost a s (Some (r + 1)) (r + 1))) in
        let e3 = assigned_cost ty within o s k (r + 2) (at (is_quiet a) (t.slot ty k) r) (at true a (r + 1)) in
        let e4 = moved_cost s to k in
        omega (arith, e1, e2, e3, e4)
    low_cost (t.update ty a within o b) s to r =
        let e1 = (held_low (is_quiet b) a s r (low_cost a s (Some r) r)) in
        let e2 = (held_low true b s (r + 2) (low_cost b s (Some (r + 2)) (r + 2))) in
        let e3 = assigned_cost ty within o s (r + 1) (r + 3) (r + 1) (at true b (r + 2)) in
        let e4 = moved_cost s to (r + 1) in
        omega (arith, e1, e2, e3, e4)
    low_cost (t.step_slot ty k within o) s None r = let e1 = assigned_cost ty within o s k (r + 1) k r in omega (arith, e1)
    low_cost (t.step_slot ty k within o) s (Some to) r = let e1 = assigned_cost ty within o s k (r + 2) r (r + 1) in let e2 = moved_cost s (Some to) r in omega (arith, e1, e2)
    low_cost (t.step ty a within o) s to r =
        let e1 = (held_low true a s r (low_cost a s (Some r) r)) in
        let e2 = assigned_cost ty within o s (r + 2) (r + 3) (r + 1) (r + 2) in
        let e3 = moved_cost s to (r + 1) in
        omega (arith, e1, e2, e3)
    low_cost (t.call ty f all) s to r = let e1 = all_cost all s r in omega (arith, e1)
    low_cost t.get_byte s to r = omega arith
    low_cost (t.put_byte a) s None r = let e1 = (held_low true a s r (low_cost a s (Some r) r)) in omega (arith, e1)
    low_cost (t.put_byte a) s (Some to) r = let e1 = (held_low true a s r (low_cost a s (Some r) r)) in omega (arith, e1)
    low_cost (t.put_number a) s to r = let e1 = (held_low true a s r (low_cost a s (Some r) r)) in let e2 = number_cost s to (pos 0) in omega (arith, e1, e2)
    low_cost (t.comma all a) s to r = let e1 = effects_cost all s r in let e2 = low_cost a s to r in omega (arith, e1, e2)

    all_cost : (all : Exps) (s r : ℕ) → cost (low_all p all s r) ≤ 9 * weights all
    all_cost t.no_exp s r = omega arith
    all_cost (t.an_exp a rest) s r = let e1 = (held_low (are_quiet rest) a s r (low_cost a s (Some r) r)) in let e2 = all_cost rest s (behind_operand (are_quiet rest) a r) in omega (arith, e1, e2)

    effects_cost : (all : Exps) (s r : ℕ) → cost (effects p all s r) ≤ 9 * weights all
    effects_cost t.no_exp s r = omega arith
    effects_cost (t.an_exp a t.no_exp) s r = let e1 = low_cost a s None r in omega (arith, e1)
    effects_cost (t.an_exp a (t.an_exp b more)) s r = let e1 = low_cost a s None r in let e2 = effects_cost (t.an_exp b more) s r in omega (arith, e1, e2)

    tested_cost : (a : Exp) (s r : ℕ) (value : Code) → cost value ≤ 9 * weight a → cost_test (test p a s r value) ≤ 9 * weight a + 1
    tested_cost (t.constant ty v) s r value h = omega arith
    tested_cost (t.not a) s r value h = let e1 = tested_cost a s r (low p a s (Some r) r) (low_cost a s (Some r) r) in omega (arith, e1)
    tested_cost (t.both a b) s r value h = let e1 = tested_cost a s r (low p a s (Some r) r) (low_cost a s (Some r) r) in let e2 = tested_cost b s r (low p b s (Some r) r) (low_cost b s (Some r) r) in omega (arith, e1, e2)
    tested_cost (t.either a b) s r value h = let e1 = tested_cost a s r (low p a s (Some r) r) (low_cost a s (Some r) r) in let e2 = tested_cost b s r (low p b s (Some r) r) (low_cost b s (Some r) r) in omega (arith, e1, e2)
    tested_cost a s r value h = let e1 = held_cost true a value in omega (arith, e1, h)

  -- ---- statements

  tested : (a : Exp) (s r : ℕ) → cost_test (test p a s r (low p a s (Some r) r)) ≤ 9 * weight a + 1
  tested a s r = tested_cost a s r (low p a s (Some r) r) (low_cost a s (Some r) r)

  part_cost : (a : Maybe) (s r : ℕ) → cost_test (test_part p a s r) ≤ 9 * weight_part a + 1
  part_cost t.missing s r = omega arith
  part_cost (t.given a) s r = tested a s r

  returned_cost : (a : Maybe) (s r : ℕ) → cost (returned p a s r) ≤ 9 * weight_part a + 1
  returned_cost t.missing s r = omega arith
  returned_cost (t.given a) s r = let e1 = held_low true a s r (low_cost a s (Some r) r) in omega (arith, e1)

  mutual
    stm_cost : (b : Stm) (r : ℕ) → cost (low_stm p b r) ≤ 9 * weight_stm b
    stm_cost (t.block all) r = let e1 = stms_cost all r in omega (arith, e1)
    stm_cost (t.empty s) r = omega arith
    stm_cost (t.expression s a) r = let e1 = low_cost a s None r in omega (arith, e1)
    stm_cost (t.if_then s a b) r = let e1 = tested a s r in let e2 = stm_cost b r in omega (arith, e1, e2)
    stm_cost (t.if_else s a b c) r = let e1 = tested a s r in let e2 = stm_cost b r in let e3 = stm_cost c r in omega (arith, e1, e2, e3)
    stm_cost (t.while_loop s a b) r = let e1 = tested a s r in let e2 = stm_cost b r in omega (arith, e1, e2)
    stm_cost (t.do_while s b a) r = let e1 = stm_cost b r in let e2 = tested a s r in omega (arith, e1, e2)
    stm_cost (t.for_loop s all a t.missing b) r = let e1 = effects_cost all s r in let e2 = part_cost a s r in let e3 = stm_cost b r in omega (arith, e1, e2, e3)
    stm_cost (t.for_loop s all a (t.given c) b) r = let e1 = effects_cost all s r in let e2 = part_cost a s r in let e3 = stm_cost b r in let e4 = low_cost c s None r in omega (arith, e1, e2, e3, e4)
    stm_cost (t.break s) r = omega arith
    stm_cost (t.continue s) r = omega arith
    stm_cost (t.return s a) r = let e1 = returned_cost a s r in omega (arith, e1)
    stm_cost (t.local s all) r = let e1 = effects_cost all s r in omega (arith, e1)

    stms_cost : (all : Stms) (r : ℕ) → cost (low_stms p all r) ≤ 9 * weight_stms all
    stms_cost t.no_stm r = omega arith
    stms_cost (t.a_stm a t.no_stm) r = let e1 = stm_cost a r in omega (arith, e1)
    stms_cost (t.a_stm a (t.a_stm b rest)) r = let e1 = stm_cost a r in let e2 = stms_cost (t.a_stm b rest) r in omega (arith, e1, e2)

  -- ---- functions

  stored_cost : (ty : ValueType) (q : Home) (r free : ℕ) → cost (stored p ty q r free) ≤ 2
  stored_cost ty (h.Slot k) r free = omega arith
  stored_cost ty (h.Frame offset) r free = omega arith

  all_stored_cost : (qs : List Param) (r free : ℕ) → cost (all_stored p qs r free) ≤ 2 * length qs
  all_stored_cost [] r free = omega arith
  all_stored_cost (q ∷ qs) r free = let e1 = stored_cost q.ty q.home r free in let e2 = all_stored_cost qs (behind_home q.home r) free in omega (arith, e1, e2)

  -- an item is an operation or an end, and the last block has an end of its own
  many_ops : (n : ℕ) (last : End) (is : List Item) → length (ops_of is) + sum_by block_ops (rest_of n last is) ≡ length is
  many_ops n last [] = refl
  many_ops n last (Do s act ∷ is) = let e1 = many_ops n last is in omega (arith, e1)
  many_ops n last (Close s e ∷ is) =
      let e0 = sum_by-cons block_ops (block_of n last is) (rest_of n last is) in
      let e1 = many_ops n last is in
      omega (arith, e0, e1)

  -- a function has an operation for each item, and the end of its last block
  pub counted_items : (f : Function) → func_ops (lowered_function p f) ≡ suc (length (items_of p f))
  counted_items f =
      let is = items_of p f in
      let e1 = many_ops (nowhere p) (Ret None) is in
      let e2 = sum_by-cons block_ops (block_of (nowhere p) (Ret None) is) (rest_of (nowhere p) (Ret None) is) in
      omega (arith, e1, e2)

  -- at most ten operations a node, ends of blocks among them
  pub few_operations : (f : Function) → func_ops (lowered_function p f) ≤ 10 * weight_function f
  few_operations f =
      let n = free_in p f in
      let first : Open = record { label = 0; count = 0 } in
      let lp : Loop = record { on_break = 0; on_continue = 0 } in
      let e1 = (items_cost (body_of p f) lp onward first).by in
      let e2 = all_stored_cost f.params f.slots n in
      let e3 = stms_cost f.body n in
      let e4 = counted_items f in
      omega (arith, e1, e2, e3, e4)

  functions_cost : (fs : List Function) → sum_by func_ops (map (lowered_function p) fs) ≤ 10 * weight_functions fs
  functions_cost [] = omega arith
  functions_cost (f ∷ fs) =
      let e0 = sum_by-cons func_ops (lowered_function p f) (map (lowered_function p) fs) in
      let e1 = few_operations f in
      let e2 = functions_cost fs in
      omega (arith, e0, e1, e2)

  pub few_in_all : program_ops (lowered p) ≤ 10 * weight_functions p.functions
  few_in_all = functions_cost p.functions

  -- at most 40 for each node of the source
  pub few_of_source : (nodes : ℕ) → KeepsWeights nodes p → program_ops (lowered p) ≤ 40 * nodes
  few_of_source nodes h = let e1 = few_in_all in let e2 = h.light in omega (arith, e1, e2)

  -- A source of at most 3,000 nodes has never more than 200,000.
  pub small_source : (nodes : ℕ) → KeepsWeights nodes p → nodes ≤ 3000 → program_ops (lowered p) ≤ 200000
  small_source nodes h few = let e1 = few_of_source nodes h in omega (arith, e1, few)
