-- Code in a row, with the ends that cut it into blocks.
use Rattle.std.specs.Prelude.{ℕ, suc, List, [], ◌∷◌, ◌++◌, Bool, true, false, nat_lt, ◌==◌, if◌then◌else◌}
use Rattle.ib_act.specs.declared.act.Act.{Act}
use Rattle.tac_core.specs.declared.code.TacOp.{TacOp}
use Rattle.tac_core.specs.declared.code.End.{End}
use Rattle.tac_core.specs.declared.code.End.TheVariants.{Jump, Branch, Call, Ret}
use Rattle.tac_core.specs.declared.code.Block.{Block}
use Rattle.tac_lowered.specs.Code.{Exit, breaks, continues, returns, Code, nothing, does, both, calls, when, choose, repeat, until, leave, Test, settled, on, all_of, one_of, inverse}

pub data Item : Type 0 where
  Do : (s : ℕ) → Act → Item
  -- closes the open block and opens the next
  Close : (s : ℕ) → End → Item

-- ---- blocks are a plain function of a list of items

abbrev pub ops_of : List Item → List TacOp
ops_of [] = []
ops_of (Do s act ∷ is) = record { stmt = s; act = act } ∷ ops_of is
ops_of (Close s e ∷ is) = []

abbrev pub end_of : End → List Item → End
end_of last [] = last
end_of last (Do s act ∷ is) = end_of last is
end_of last (Close s e ∷ is) = e

abbrev pub stmt_of : (last : ℕ) → List Item → ℕ
stmt_of last [] = last
stmt_of last (Do s act ∷ is) = stmt_of last is
stmt_of last (Close s e ∷ is) = s

-- the open block, if the last one ends so, with the statement's number
abbrev pub block_of : ℕ → End → List Item → Block
block_of s last is = record { ops = ops_of is; «end» = end_of last is; end_stmt = stmt_of s is }

abbrev pub rest_of : ℕ → End → List Item → List Block
rest_of n last [] = []
rest_of n last (Do s act ∷ is) = rest_of n last is
rest_of n last (Close s e ∷ is) = block_of n last is ∷ rest_of n last is

abbrev pub blocks : ℕ → End → List Item → List Block
blocks s last is = block_of s last is ∷ rest_of s last is

-- ---- where code leads the open block

-- its label, and how many operations it has
pub record Open : Type 0 where
  pub label : ℕ
  pub count : ℕ

abbrev pub fresh : Open → Open
fresh o = record { label = suc o.label; count = 0 }

abbrev pub fresh_if : Bool → Open → Open
fresh_if true o = fresh o
fresh_if false o = o

-- a block's end is an operation too
unfoldable pub is_full : Open → Bool
is_full o = nat_lt 510 o.count

abbrev pub counted : Open → Open
counted o = record { label = o.label; count = suc o.count }

abbrev pub after : Open → Open
after o = counted (fresh_if (is_full o) o)

-- it does nothing but to go elsewhere: what would lead to it leads there, and it has no items
abbrev pub is_jump : Code → Bool
is_jump nothing = true
is_jump (leave s breaks) = true
is_jump (leave s continues) = true
is_jump a = false

-- in a block of its own, which closes
abbrev pub owned : Code → (first behind : Open) → Open
owned a first behind = if is_jump a then first else behind

-- Where code goes elsewhere behind its end, it closes its block.
abbrev mutual
  pub goes : Code → (closes : Bool) → Open → Open
  goes nothing c o = fresh_if c o
  goes (does s act) c o = fresh_if c (after o)
  goes (both a b) c o = goes b c (goes a false o)
  goes (calls s to f args) c o = fresh o
  goes (when s t a) c o = let p = goes_test t o in owned a p (goes a true p)
  goes (choose s t a b) c o =
      let p = goes_test t o in
      let q = owned a p (goes a true p) in
      owned b q (goes b true q)
  goes (repeat s true t a b) c o =
      let p = goes_test t (fresh o) in
      let q = owned a p (goes a true p) in
      owned b q (goes b true q)
  goes (repeat s false t a b) c o = goes b true (goes a false (goes_test t (fresh o)))
  goes (until s own a t) c o = goes_test t (goes a own (fresh o))
  goes (leave s x) c o = fresh o

  pub goes_test : Test → Open → Open
  goes_test (settled s b) o = fresh o
  goes_test (on s a r) o = fresh (goes a false o)
  goes_test (all_of t u) o = goes_test u (goes_test t o)
  goes_test (one_of t u) o = goes_test u (goes_test t o)
  goes_test (inverse t) o = goes_test t o

-- ---- the items of code

-- the innermost loop's labels
pub record Loop : Type 0 where
  pub on_break : ℕ
  pub on_continue : ℕ

-- where code goes behind its end: on in the open block, or to a label
pub data Next : Type 0 where
  onward : Next
  jump : (s label : ℕ) → Next

abbrev pub closes : Next → Bool
closes onward = false
closes (jump s l) = true

abbrev pub close : Next → List Item
close onward = []
close (jump s l) = Close s (Jump l) ∷ []

-- the label, or that of the block behind
abbrev pub label_of : Next → (behind : ℕ) → ℕ
label_of onward behind = behind
label_of (jump s l) behind = l

abbrev pub put : (s : ℕ) → Act → Open → List Item
put s act o = if is_full o then Close s (Jump (suc o.label)) ∷ Do s act ∷ [] else Do s act ∷ []

abbrev pub exit : Loop → Exit → End
exit x breaks = Jump x.on_break
exit x continues = Jump x.on_continue
exit x (returns r) = Ret r

-- two targets are never the same
abbrev pub branch : (register there other : ℕ) → End
branch r there other = if there == other then Jump there else Branch r there other

-- where to go for code that has the block `label` of its own
abbrev pub entry : Code → Loop → (next label : ℕ) → ℕ
entry nothing x next label = next
entry (leave s breaks) x next label = x.on_break
entry (leave s continues) x next label = x.on_continue
entry a x next label = label

abbrev pub own_items : Code → List Item → List Item
own_items a is = if is_jump a then [] else is

abbrev mutual
  pub items : Code → Loop → Next → Open → List Item
  items nothing x n o = close n
  items (does s act) x n o = put s act o ++ close n
  items (both a b) x n o = items a x onward o ++ items b x n (goes a false o)
  items (calls s to f args) x n o = Close s (Call to f args (label_of n (suc o.label))) ∷ []
  items (when s t a) x n o =
      let p = goes_test t o in
      let out = label_of n (owned a p (goes a true p)).label in
      test_items t (entry a x out p.label) out o ++ own_items a (items a x (jump s out) p)
  items (choose s t a b) x n o =
      let p = goes_test t o in
      let q = owned a p (goes a true p) in
      let out = label_of n (owned b q (goes b true q)).label in
      test_items t (entry a x out p.label) (entry b x out q.label) o ++ (own_items a (items a x (jump s out) p) ++ own_items b (items b x (jump s out) q))
  items (repeat s true t a b) x n o =
      let head = suc o.label in
      let p = goes_test t (fresh o) in
      let q = owned a p (goes a true p) in
      let out = label_of n (owned b q (goes b true q)).label in
      let last = entry b x head q.label in
      let y : Loop = record { on_break = out; on_continue = last } in
      Close s (Jump head) ∷ (test_items t (entry a y last p.label) out (fresh o) ++ (own_items a (items a y (jump s last) p) ++ own_items b (items b x (jump s head) q)))
  items (repeat s false t a b) x n o =
      let head = suc o.label in
      let p = goes_test t (fresh o) in
      let q = goes a false p in
      let out = label_of n (goes b true q).label in
      let y : Loop = record { on_break = out; on_continue = head } in
      Close s (Jump head) ∷ (test_items t p.label out (fresh o) ++ (items a y onward p ++ items b x (jump s head) q))
  items (until s own a t) x n o =
      let head = suc o.label in
      let q = goes a own (fresh o) in
      let out = label_of n (goes_test t q).label in
      let y : Loop = record { on_break = out; on_continue = q.label } in
      Close s (Jump head) ∷ (items a y (if own then jump s q.label else onward) (fresh o) ++ test_items t head out q)
  items (leave s e) x n o = Close s (exit x e) ∷ []

  -- ends at one label where it holds, and else at the other
  pub test_items : Test → (there other : ℕ) → Open → List Item
  test_items (settled s b) there other o = Close s (Jump (if b then there else other)) ∷ []
  test_items (on s a r) there other o = items a (record { on_break = 0; on_continue = 0 }) onward o ++ Close s (branch r there other) ∷ []
  test_items (all_of t u) there other o = let p = goes_test t o in test_items t p.label other o ++ test_items u there other p
  test_items (one_of t u) there other o = let p = goes_test t o in test_items t there p.label o ++ test_items u there other p
  test_items (inverse t) there other o = test_items t other there o
