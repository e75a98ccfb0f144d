-- Numbered items and superblocks grow piece by piece.
use Rattle.std.proofs.Common.{◌≡◌, ℕ, zero, suc, ◌+◌, ◌<◌, ◌≤◌, Bool, true, false, if◌then◌else◌, List, [], ◌∷◌, ◌++◌, length, Option, Some, None, map, drop, refl, sym, ap, ◌∙◌, subst, arith, append_assoc}
use Rattle.std.specs.Prelude.{slice_get}
use Rattle.std.proofs.lemmas.List.{append-nil, drop_more}
use Rattle.std.proofs.lemmas.Option.{get_or_from_slice_get, slice_get_within}
use Rattle.ib_meaning.specs.declared.place.Place.{Place}
use Rattle.wide_core.specs.Classes.{is_register, traps}
use Rattle.wide_core.specs.declared.code.WideAct.{WideAct}
use Rattle.wide_core.specs.declared.code.WideOp.{WideOp}
use Rattle.wide_core.specs.Every.{Nil, Cons}
use Rattle.tac_core.specs.declared.code.Block.{Block}
use Rattle.tac_core.specs.declared.code.TacFunc.{TacFunc}
use Rattle.tac_core.specs.declared.code.TacOp.{TacOp}
use Rattle.sb_order.specs.Order.{InRange}
use Rattle.sb_core.specs.Program.{SuperblockCode}
use Rattle.sb_formed.specs.Formed.{Draft, Drafted, first_of, op_draft, end_drafts, block_drafts, chain_drafts, item, next_number, numbered, number_behind, all_numbered}
use Rattle.sb_formed.proofs.Order.{every_append}
use Rattle.sb_formed.proofs.Straight.{behind_grows}
use Rattle.sb_form.specs.Growing.{AreInRange, taken, Grown, Lacks, all_behind, GrownBy, LacksBy}

numbered_append : (n : ℕ) (xs ys : List Draft) → numbered n (xs ++ ys) ≡ numbered n xs ++ numbered (number_behind n xs) ys
numbered_append n [] ys = refl
numbered_append n (x ∷ xs) ys = ap (λ l. item n x ∷ l) (numbered_append (next_number n x.act) xs ys)

behind_append : (n : ℕ) (xs ys : List Draft) → number_behind n (xs ++ ys) ≡ number_behind (number_behind n xs) ys
behind_append n [] ys = refl
behind_append n (x ∷ xs) ys = behind_append (next_number n x.act) xs ys

pub grown_none : (from : ℕ) (old : List WideOp) → Grown [] from old from old
grown_none from old = record { items = sym (append-nil old); next = refl; ranges = λ r. r }

pub grown_on : (xs ys : List Draft) (n m k : ℕ) (a b c : List WideOp) → Grown xs n a m b → Grown ys m b k c → Grown (xs ++ ys) n a k c
grown_on xs ys n m k a b c g h = record {
  items =
      h.items ∙ ap (λ l. l ++ numbered m ys) g.items ∙ append_assoc a (numbered n xs) (numbered m ys)
      ∙ ap (λ j. a ++ (numbered n xs ++ numbered j ys)) g.next
      ∙ ap (λ l. a ++ l) (sym (numbered_append n xs ys));
  next = h.next ∙ ap (λ j. number_behind j ys) g.next ∙ sym (behind_append n xs ys);
  ranges = λ r. h.ranges (g.ranges r);
}

pub lacks_all : (ds : List Draft) (from : ℕ) (old : List WideOp) → Lacks ds ds from old from old
lacks_all ds from old = record { items = refl; next = refl; ranges = λ r. r }

pub lacks_less : (ds rest whole : List Draft) (n m k : ℕ) (a b c : List WideOp) → Lacks (ds ++ rest) whole n a m b → Grown ds m b k c → Lacks rest whole n a k c
lacks_less ds rest whole n m k a b c l g = record {
  items =
      ap (λ x. x ++ numbered k rest) g.items ∙ append_assoc b (numbered m ds) (numbered k rest)
      ∙ ap (λ j. b ++ (numbered m ds ++ numbered j rest)) g.next
      ∙ ap (λ x. b ++ x) (sym (numbered_append m ds rest))
      ∙ l.items;
  next = ap (λ j. number_behind j rest) g.next ∙ sym (behind_append m ds rest) ∙ l.next;
  ranges = λ r. g.ranges (l.ranges r);
}

pub lacks_none : (whole : List Draft) (n m : ℕ) (a b : List WideOp) → Lacks [] whole n a m b → Grown whole n a m b
lacks_none whole n m a b l = record { items = sym (append-nil b) ∙ l.items; next = l.next; ranges = l.ranges }

-- ---- superblocks

all_append : (n : ℕ) (xs ys : List Drafted) → all_numbered n (xs ++ ys) ≡ all_numbered n xs ++ all_numbered (all_behind n xs) ys
all_append n [] ys = refl
all_append n (x ∷ xs) ys =
    ap (λ l. let b : SuperblockCode = record { func = x.func; head = x.head; items = numbered n x.drafts } in b ∷ l) (all_append (number_behind n x.drafts) xs ys)

all_behind_append : (n : ℕ) (xs ys : List Drafted) → all_behind n (xs ++ ys) ≡ all_behind (all_behind n xs) ys
all_behind_append n [] ys = refl
all_behind_append n (x ∷ xs) ys = all_behind_append (number_behind n x.drafts) xs ys

all_grows : (n : ℕ) (ds : List Drafted) → n ≤ all_behind n ds
all_grows n [] = omega arith
all_grows n (d ∷ ds) =
    let g = behind_grows n d.drafts in
    let h = all_grows (number_behind n d.drafts) ds in
    omega arith

pub by_none : (from : ℕ) (old : List SuperblockCode) → GrownBy [] from old from old
by_none from old = record { all = sym (append-nil old); next = refl; ranges = λ r. r }

pub by_on : (xs ys : List Drafted) (n m k : ℕ) (a b c : List SuperblockCode) → GrownBy xs n a m b → GrownBy ys m b k c → GrownBy (xs ++ ys) n a k c
by_on xs ys n m k a b c g h = record {
  all =
      h.all ∙ ap (λ l. l ++ all_numbered m ys) g.all ∙ append_assoc a (all_numbered n xs) (all_numbered m ys)
      ∙ ap (λ j. a ++ (all_numbered n xs ++ all_numbered j ys)) g.next
      ∙ ap (λ l. a ++ l) (sym (all_append n xs ys));
  next = h.next ∙ ap (λ j. all_behind j ys) g.next ∙ sym (all_behind_append n xs ys);
  ranges = λ r. h.ranges (g.ranges r);
}

pub by_positive : (xs : List Drafted) (n m : ℕ) (a b : List SuperblockCode) → GrownBy xs n a m b → 0 < n → 0 < m
by_positive xs n m a b g lt =
    let h = all_grows n xs in
    let e = g.next in
    omega arith

pub by_all : (ds : List Drafted) → LacksBy ds ds 1 []
by_all ds = record { all = refl; positive = omega arith; ranges = Nil }

pub by_less : (ds rest whole : List Drafted) (m k : ℕ) (b c : List SuperblockCode) → LacksBy (ds ++ rest) whole m b → GrownBy ds m b k c → LacksBy rest whole k c
by_less ds rest whole m k b c l g = record {
  all =
      ap (λ x. x ++ all_numbered k rest) g.all ∙ append_assoc b (all_numbered m ds) (all_numbered k rest)
      ∙ ap (λ j. b ++ (all_numbered m ds ++ all_numbered j rest)) g.next
      ∙ ap (λ x. b ++ x) (sym (all_append m ds rest))
      ∙ l.all;
  positive = by_positive ds m k b c g l.positive;
  ranges = g.ranges l.ranges;
}

drop_here : {X : Type 0} (xs : List X) (i : ℕ) (x : X) → slice_get xs i ≡ Some x → drop i xs ≡ x ∷ drop (i + 1) xs
drop_here xs i x e = drop_more xs i x (slice_get_within xs i x e) ∙ ap (λ y. y ∷ drop (i + 1) xs) (get_or_from_slice_get xs i x x e)

drop_past : {X : Type 0} (xs : List X) (n : ℕ) → length xs ≤ n → drop n xs ≡ []
drop_past [] zero le = refl
drop_past [] (suc n) le = refl
drop_past (x ∷ xs) zero le = absurd (omega arith)
drop_past (x ∷ xs) (suc n) le = drop_past xs n (omega arith)

-- ---- one item

step_is : (n : ℕ) (act : WideAct) → n + taken act ≡ next_number n act
step_is n act = by (traps act)
  where
    by : (b : Bool) → n + (if b then 2 else 1) ≡ (if b then suc (suc n) else suc n)
    by true = omega arith
    by false = omega arith

every_last : (xs : List WideOp) (x : WideOp) → AreInRange xs → InRange x.act → AreInRange (xs ++ x ∷ [])
every_last xs x each h = every_append (λ (op : WideOp). InRange op.act) xs (x ∷ []) each (Cons x [] h Nil)

pub grown_one : (home : Place) (act : WideAct) (flagged : Bool) (from to : ℕ) (old new : List WideOp) → flagged ≡ is_register act → to ≡ from + taken act → new ≡ old ++ record { number = from; home = home; flagged = flagged; act = act } ∷ [] → InRange act → Grown (record { home = home; act = act } ∷ []) from old to new
grown_one home act flagged from to old new flag next grown in_range =
    let same : new ≡ old ++ item from (record { home = home; act = act }) ∷ [] =
    grown ∙ ap (λ b. old ++ (let op : WideOp = record { number = from; home = home; flagged = b; act = act } in op) ∷ []) flag in
    record {
      items = same;
      next = next ∙ step_is from act;
      ranges = λ r. subst AreInRange (sym same) (every_last old (item from (record { home = home; act = act })) r in_range);
    }

-- ---- the steps of loops

pub ops_left : (places : List Place) (ops : List TacOp) (i : ℕ) (op : TacOp) (n m k : ℕ) (a b c : List WideOp) → slice_get ops i ≡ Some op → Lacks (map (op_draft places) (drop i ops)) (map (op_draft places) ops) n a m b → Grown (op_draft places op ∷ []) m b k c → Lacks (map (op_draft places) (drop (i + 1) ops)) (map (op_draft places) ops) n a k c
ops_left places ops i op n m k a b c is l g =
    lacks_less (op_draft places op ∷ []) (map (op_draft places) (drop (i + 1) ops)) (map (op_draft places) ops) n m k a b c
    (subst (λ xs. Lacks (map (op_draft places) xs) (map (op_draft places) ops) n a m b) (drop_here ops i op is) l) g

first_left : (chain : List ℕ) (i : ℕ) → first_of (drop i chain) ≡ slice_get chain i
first_left [] zero = refl
first_left [] (suc i) = refl
first_left (x ∷ chain) zero = refl
first_left (x ∷ chain) (suc i) = first_left chain i

block_splits : (places : List Place) (o : Option Block) (next : Option ℕ) (behind : List Draft) → block_drafts places o next behind ≡ block_drafts places o next [] ++ behind
block_splits places None next behind = refl
block_splits places (Some b) next behind =
    ap (λ l. map (op_draft places) b.ops ++ (l ++ behind)) (sym (append-nil (end_drafts places b next)))
    ∙ sym (append_assoc (map (op_draft places) b.ops) (end_drafts places b next ++ []) behind)

pub whole_block : (places : List Place) (o : Option Block) (b : Block) (next : Option ℕ) (n m : ℕ) (x y : List WideOp) → Some b ≡ o → Grown (map (op_draft places) b.ops ++ end_drafts places b next) n x m y → Grown (block_drafts places o next []) n x m y
whole_block places o b next n m x y e g =
    subst (λ q. Grown (block_drafts places q next []) n x m y) e
    (subst (λ l. Grown (map (op_draft places) b.ops ++ l) n x m y) (sym (append-nil (end_drafts places b next))) g)

pub chain_left : (places : List Place) (f : TacFunc) (chain : List ℕ) (i label : ℕ) (next : Option ℕ) (n m k : ℕ) (a b c : List WideOp) → slice_get chain i ≡ Some label → next ≡ slice_get chain (i + 1) → Lacks (chain_drafts places f (drop i chain)) (chain_drafts places f chain) n a m b → Grown (block_drafts places (slice_get f.blocks label) next []) m b k c → Lacks (chain_drafts places f (drop (i + 1) chain)) (chain_drafts places f chain) n a k c
chain_left places f chain i label next n m k a b c is e l g =
    let rest : List ℕ = drop (i + 1) chain in
    let o : Option Block = slice_get f.blocks label in
    let split : chain_drafts places f (drop i chain) ≡ block_drafts places o next [] ++ chain_drafts places f rest =
    ap (chain_drafts places f) (drop_here chain i label is) ∙ ap (λ q. block_drafts places o q (chain_drafts places f rest)) (first_left chain (i + 1) ∙ sym e)
    ∙ block_splits places o next (chain_drafts places f rest) in
    lacks_less (block_drafts places o next []) (chain_drafts places f rest) (chain_drafts places f chain) n m k a b c
    (subst (λ ds. Lacks ds (chain_drafts places f chain) n a m b) split l) g

pub none_left : {X : Type 0} (F : List X → List Draft) (xs : List X) (i : ℕ) (n m : ℕ) (a b : List WideOp) → length xs ≤ i → F [] ≡ [] → Lacks (F (drop i xs)) (F xs) n a m b → Grown (F xs) n a m b
none_left F xs i n m a b le e l =
    lacks_none (F xs) n m a b (subst (λ ds. Lacks ds (F xs) n a m b) (ap F (drop_past xs i le) ∙ e) l)
