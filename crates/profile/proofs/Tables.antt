-- Tables of counts: their edges in order, and one count that rises.
use Rattle.std.proofs.Common.{◌≡◌, ℕ, zero, suc, ◌+◌, ◌<◌, ◌≤◌, Bool, true, false, List, [], ◌∷◌, ◌++◌, Option, Some, None, length, take, slice_set, get_or, nat_lt, refl, sym, ap, ap₂, ◌∙◌, subst, append_assoc, lit<, arith, if◌then◌else◌}
use Rattle.std.proofs.lemmas.List.{append-nil}
use Rattle.std.proofs.lemmas.List.Elements.{All-set, All-map, All-nil, All-cons, All-head, All-tail, All-weaker, All-append}
use Rattle.std.proofs.lemmas.List.Kept.{AllPairs-cons, AllPairs-filter}
use Rattle.std.proofs.lemmas.Option.{get_or_from_slice_get, slice_get_within}
use Rattle.std.proofs.lemmas.Bool.Decides.{nat_tests}
use Rattle.std.specs.Prelude.{map, filter, slice_get, IsSomeAnd, IfSome, ◌≢◌, ◌==◌, ◌&&◌}
use Rattle.std.specs.List.{All}
use Rattle.tac_core.specs.declared.code.Block.{Block}
use Rattle.tac_core.specs.declared.edges.Edge.{Edge}
use Rattle.tac_core.specs.declared.counts.FuncCounts.{FuncCounts}
use Rattle.tac_core.specs.declared.code.End.{End}
use Rattle.tac_core.specs.declared.code.End.TheVariants.{Jump, Branch, Call, Ret}
use Rattle.tac_core.specs.declared.code.TacFunc.{TacFunc}
use Rattle.tac_core.specs.Program.{Program}
use Rattle.tac_core.specs.Rules.{IsGoodEnd, IsGoodBlock, IsGoodFunc, IsValid}
use Rattle.tac_core.specs.Counts.{is_before, is_edge, Rise, IsCount, AreCounts}
use Rattle.profile.specs.Counting.{held}
use Rattle.profile.specs.Tallies.{targets, untaken, edges_from, no_tallies, raised, AreTallies, crossed_edge, crossed_func, entered_func, with_at, was_taken, taken_of}

-- ---- the edges of one block more

pub edges_more : (l i : ℕ) (blocks : List Block) (d : Block) → i < length blocks → edges_from l (take (suc i) blocks) ≡ edges_from l (take i blocks) ++ map (untaken (l + i)) (targets (get_or blocks i d).«end»)
edges_more l i [] d lt = absurd (omega arith)
edges_more l zero (b ∷ blocks) d lt =
    let e : l + 0 ≡ l = omega arith in
    append-nil (map (untaken l) (targets b.«end»)) ∙ ap (λ k. map (untaken k) (targets b.«end»)) (sym e)
edges_more l (suc i) (b ∷ blocks) d lt =
    let e : suc l + i ≡ l + suc i = omega arith in
    ap (λ es. map (untaken l) (targets b.«end») ++ es) (edges_more (suc l) i blocks d (omega arith))
    ∙ sym (append_assoc (map (untaken l) (targets b.«end»)) (edges_from (suc l) (take i blocks)) (map (untaken (suc l + i)) (targets (get_or blocks i d).«end»)))
    ∙ ap (λ k. (map (untaken l) (targets b.«end») ++ edges_from (suc l) (take i blocks)) ++ map (untaken k) (targets (get_or blocks i d).«end»)) e

pub edges_step : (i from : ℕ) (blocks : List Block) (b : Block) (old new : List Edge) → i < length blocks → b ≡ get_or blocks i b → from ≡ i → old ≡ edges_from 0 (take i blocks) → new ≡ old ++ map (untaken from) (targets b.«end») → new ≡ edges_from 0 (take (i + 1) blocks)
edges_step i from blocks b old new lt at is before after =
    let one : suc i ≡ i + 1 = omega arith in
    let none : 0 + i ≡ i = omega arith in
    after
    ∙ ap₂ (λ xs k. xs ++ map (untaken k) (targets b.«end»)) before (is ∙ sym none)
    ∙ ap (λ x. edges_from 0 (take i blocks) ++ map (untaken (0 + i)) (targets x.«end»)) at
    ∙ sym (edges_more 0 i blocks b lt)
    ∙ ap (λ k. edges_from 0 (take k blocks)) one

whole : {X : Type 0} (k : ℕ) (xs : List X) → length xs ≤ k → take k xs ≡ xs
whole zero [] le = refl
whole zero (x ∷ xs) le = absurd (omega arith)
whole (suc k) [] le = refl
whole (suc k) (x ∷ xs) le = ap (λ ys. x ∷ ys) (whole k xs (omega arith))

-- ---- one element of a list

pub set_is_with_at : (change : FuncCounts → FuncCounts) (table : List FuncCounts) (n : ℕ) (c : FuncCounts) → slice_get table n ≡ Some c → slice_set table n (change c) ≡ with_at change n table
set_is_with_at change [] n c is = refl
set_is_with_at change (x ∷ xs) zero c is =
    let e : x ≡ c = cc in ap (λ y. y ∷ xs) (ap change (sym e))
set_is_with_at change (x ∷ xs) (suc n) c is = ap (λ ys. x ∷ ys) (set_is_with_at change xs n c is)

pub found : (table : List FuncCounts) (n : ℕ) (c : FuncCounts) → n < length table → c ≡ get_or table n c → slice_get table n ≡ Some c
found [] n c lt is = absurd (omega arith)
found (x ∷ xs) zero c lt is = ap Some (sym is)
found (x ∷ xs) (suc n) c lt is = found xs n c (omega arith) is

pub entered_set : (table : List FuncCounts) (n : ℕ) (c : FuncCounts) (entries : ℕ) → slice_get table n ≡ Some c → entries ≡ held (c.entries + 1) → slice_set table n (record { entries = entries; edges = c.edges }) ≡ with_at entered_func n table
entered_set table n c entries is more =
    ap (λ e. slice_set table n (let x : FuncCounts = record { entries = e; edges = c.edges } in x)) more ∙ set_is_with_at entered_func table n c is

pub crossed_set : (table : List FuncCounts) (n from to : ℕ) (c : FuncCounts) (edges : List Edge) → slice_get table n ≡ Some c → edges ≡ map (crossed_edge from to) c.edges → slice_set table n (record { entries = c.entries; edges = edges }) ≡ with_at (crossed_func from to) n table
crossed_set table n from to c edges is more =
    ap (λ es. slice_set table n (let x : FuncCounts = record { entries = c.entries; edges = es } in x)) more ∙ set_is_with_at (crossed_func from to) table n c is

-- ---- one edge of those that rise

same_edge : (from to : ℕ) (e : Edge) → is_edge from to e ≡ false → crossed_edge from to e ≡ e
same_edge from to e not' = rw not' refl

none_crossed : (from to : ℕ) (es : List Edge) → All (λ e. is_edge from to e ≡ false) es → map (crossed_edge from to) es ≡ es
none_crossed from to [] all = refl
none_crossed from to (e ∷ es) all =
    ap₂ (λ x xs. x ∷ xs) (same_edge from to e (all 0 e (omega arith))) (none_crossed from to es (λ k d lt. all (suc k) d (omega arith)))

pub no_edge_crossed : (from to : ℕ) (es : List Edge) → All (λ e. is_edge from to e ≡ false) es → es ≡ map (crossed_edge from to) es
no_edge_crossed from to es all = sym (none_crossed from to es all)

other : (a b c d from to : ℕ) → is_before a b c d ≡ true → ((c == from) && (d == to)) ≡ true → ((a == from) && (b == to)) ≡ false
other a b c d from to before is = grind (arith, nat_tests)

pub another : (a b c d from to : ℕ) → is_before a b c d ≡ true → ((a == from) && (b == to)) ≡ true → ((c == from) && (d == to)) ≡ false
another a b c d from to before is = grind (arith, nat_tests)

same_from : (a b from to : ℕ) → ((a == from) && (b == to)) ≡ true → a ≡ from
same_from a b from to is = grind (arith, nat_tests)

same_to : (a b from to : ℕ) → ((a == from) && (b == to)) ≡ true → b ≡ to
same_to a b from to is = grind (arith, nat_tests)

rest_rise : (e : Edge) (es : List Edge) → Rise (e ∷ es) → Rise es
rest_rise e es rise i j d lt within = rise (suc i) (suc j) d (omega arith) (omega arith)

crossed_is : (from to : ℕ) (e : Edge) (count : ℕ) → is_edge from to e ≡ true → count ≡ held (e.count + 1) → (let c : Edge = record { from = from; to = to; count = count } in c) ≡ crossed_edge from to e
crossed_is from to e count is count_is =
    rw (is, count_is, sym (same_from e.from e.to from to is), sym (same_to e.from e.to from to is)) refl

at_edge : (es : List Edge) (i : ℕ) (e : Edge) (d : Edge) → slice_get es i ≡ Some e → get_or es i d ≡ e
at_edge [] i e d is = cc
at_edge (x ∷ es) zero e d is = cc
at_edge (x ∷ es) (suc i) e d is = at_edge es i e d is

within : (es : List Edge) (i : ℕ) (e : Edge) → slice_get es i ≡ Some e → i < length es
within [] i e is = cc
within (x ∷ es) zero e is = omega arith
within (x ∷ es) (suc i) e is = let h = within es i e is in omega arith

pub set_is_crossed : (from to : ℕ) (es : List Edge) (i : ℕ) (e : Edge) (count : ℕ) → Rise es → slice_get es i ≡ Some e → is_edge from to e ≡ true → count ≡ held (e.count + 1) → slice_set es i (record { from = from; to = to; count = count }) ≡ map (crossed_edge from to) es
set_is_crossed from to [] i e count rise at is count_is = cc
set_is_crossed from to (x ∷ es) zero e count rise at is count_is =
    let same : e ≡ x = cc in
    ap₂ (λ y ys. y ∷ ys) (crossed_is from to e count is count_is ∙ ap (crossed_edge from to) same)
    (sym (none_crossed from to es (λ k d lt.
    let g : Edge = get_or es k d in
    another x.from x.to g.from g.to from to (rise 0 (suc k) d (omega arith) (omega arith)) (subst (λ y. is_edge from to y ≡ true) same is))))
set_is_crossed from to (x ∷ es) (suc i) e count rise at is count_is =
    let lt = within es i e at in
    ap₂ (λ y ys. y ∷ ys)
    (sym (same_edge from to x (other x.from x.to e.from e.to from to
    (subst (λ y. is_before x.from x.to y.from y.to ≡ true) (at_edge es i e e at) (rise 0 (suc i) e (omega arith) (omega arith))) is)))
    (set_is_crossed from to es i e count (rest_rise x es rise) at is count_is)

pub found_is_crossed : (from to : ℕ) (es : List Edge) (i count : ℕ) → Rise es → IsSomeAnd (slice_get es i) (λ e. is_edge from to e ≡ true) → IfSome (slice_get es i) (λ e. count ≡ held (e.count + 1)) → slice_set es i (record { from = from; to = to; count = count }) ≡ map (crossed_edge from to) es
found_is_crossed from to es i count rise there is = by (slice_get es i) refl there is
  where
    by : (o : Option Edge) → slice_get es i ≡ o → IsSomeAnd o (λ e. is_edge from to e ≡ true) → IfSome o (λ e. count ≡ held (e.count + 1)) → slice_set es i (record { from = from; to = to; count = count }) ≡ map (crossed_edge from to) es
    by None at h g = absurd h
    by (Some e) at h g = set_is_crossed from to es i e count rise at h g

-- ---- what counts keep

held_is_count : (n : ℕ) → IsCount (held n)
held_is_count n = omega arith

raised_by : (b : Bool) (n : ℕ) → IsCount n → IsCount (raised b n)
raised_by true n is = held_is_count (n + 1)
raised_by false n is = is

before_same : (from to : ℕ) (e f : Edge) → is_before e.from e.to f.from f.to ≡ true → is_before (crossed_edge from to e).from (crossed_edge from to e).to (crossed_edge from to f).from (crossed_edge from to f).to ≡ true
before_same from to e f h = h

map_pairs : (g : Edge → Edge) → ((e f : Edge) → is_before e.from e.to f.from f.to ≡ true → is_before (g e).from (g e).to (g f).from (g f).to ≡ true) → (es : List Edge) → Rise es → Rise (map g es)
map_pairs g keeps [] rise = λ i j d lt within. absurd (omega arith)
map_pairs g keeps (e ∷ es) rise =
    AllPairs-cons (λ e f. is_before e.from e.to f.from f.to ≡ true) (g e) (map g es)
    (All-map (λ f. is_before (g e).from (g e).to f.from f.to ≡ true) g es (λ k d lt. keeps e (get_or es k d) (rise 0 (suc k) d (omega arith) (omega arith))))
    (map_pairs g keeps es (rest_rise e es rise))

crossed_keeps : (from to : ℕ) (c : FuncCounts) → AreTallies c → AreTallies (crossed_func from to c)
crossed_keeps from to c are = record {
  entered = are.entered;
  taken = All-map (λ e. IsCount e.count) (crossed_edge from to) c.edges (λ k d lt. raised_by (is_edge from to (get_or c.edges k d)) (get_or c.edges k d).count (are.taken k d lt));
  rise = map_pairs (crossed_edge from to) (before_same from to) c.edges are.rise;
}

at_func : (table : List FuncCounts) (n : ℕ) (c : FuncCounts) → slice_get table n ≡ Some c → All AreTallies table → AreTallies c
at_func table n c is all = subst AreTallies (get_or_from_slice_get table n c c is) (all n c (slice_get_within table n c is))

pub crossed_all : (table : List FuncCounts) (n from to : ℕ) (c : FuncCounts) (edges : List Edge) → slice_get table n ≡ Some c → edges ≡ map (crossed_edge from to) c.edges → All AreTallies table → All AreTallies (slice_set table n (record { entries = c.entries; edges = edges }))
crossed_all table n from to c edges is more all =
    subst (λ es. All AreTallies (slice_set table n (let x : FuncCounts = record { entries = c.entries; edges = es } in x))) (sym more)
    (All-set AreTallies table n (crossed_func from to c) (crossed_keeps from to c (at_func table n c is all)) all)

pub func_rises : (table : List FuncCounts) (n : ℕ) (c : FuncCounts) → slice_get table n ≡ Some c → All AreTallies table → Rise c.edges
func_rises table n c is all = (at_func table n c is all).rise

pub entered_all : (table : List FuncCounts) (n : ℕ) (c : FuncCounts) (entries : ℕ) → slice_get table n ≡ Some c → entries ≡ held (c.entries + 1) → All AreTallies table → All AreTallies (slice_set table n (record { entries = entries; edges = c.edges }))
entered_all table n c entries is more all =
    let are = at_func table n c is all in
    subst (λ e. All AreTallies (slice_set table n (let x : FuncCounts = record { entries = e; edges = c.edges } in x))) (sym more)
    (All-set AreTallies table n (entered_func c) (record { entered = held_is_count (c.entries + 1); taken = are.taken; rise = are.rise }) all)

-- ---- the edges of a function rise

starts : (n m to : ℕ) → n < m → (x : ℕ) → is_before n to m x ≡ true
starts n m to lt x = grind (arith, nat_tests)

module _ (l : ℕ) where
  low : (k : ℕ) (blocks : List Block) → l ≤ k → All (λ e. l ≤ e.from) (edges_from k blocks)
  low k [] le = All-nil (λ e. l ≤ e.from)
  low k (b ∷ blocks) le =
      All-append (λ e. l ≤ e.from) (map (untaken k) (targets b.«end»)) (edges_from (suc k) blocks)
      (All-map (λ e. l ≤ e.from) (untaken k) (targets b.«end») (λ j d lt. le))
      (low (suc k) blocks (omega arith))

abbrev Before : Edge → Edge → Type 0
Before e f = is_before e.from e.to f.from f.to ≡ true

-- an edge of a block before those of later blocks
ahead : (l to : ℕ) (es : List Edge) → All (λ e. suc l ≤ e.from) es → All (Before (untaken l to)) es
ahead l to es all = All-weaker (λ e. suc l ≤ e.from) (Before (untaken l to)) (λ e le. starts l e.from to le e.to) es all

sorted_targets : (l y n : ℕ) (b : Bool) → nat_lt y n ≡ b → y ≢ n → (es : List Edge) → All (λ e. suc l ≤ e.from) es → Rise es → Rise (map (untaken l) (if b then y ∷ n ∷ [] else n ∷ y ∷ []) ++ es)
sorted_targets l y n true is differ es later rise =
    AllPairs-cons Before (untaken l y) (untaken l n ∷ es)
    (All-cons (Before (untaken l y)) (untaken l n) es (grind (arith, nat_tests)) (ahead l y es later))
    (AllPairs-cons Before (untaken l n) es (ahead l n es later) rise)
sorted_targets l y n false is differ es later rise =
    AllPairs-cons Before (untaken l n) (untaken l y ∷ es)
    (All-cons (Before (untaken l n)) (untaken l y) es (below l y n is differ) (ahead l n es later))
    (AllPairs-cons Before (untaken l y) es (ahead l y es later) rise)
  where
    below : (l y n : ℕ) → nat_lt y n ≡ false → y ≢ n → is_before l n l y ≡ true
    below l y n is differ = grind (arith, nat_tests)

with_targets : (l : ℕ) (e : End) (regs n : ℕ) (funcs : List TacFunc) → IsGoodEnd regs n funcs e → (es : List Edge) → All (λ f. suc l ≤ f.from) es → Rise es → Rise (map (untaken l) (targets e) ++ es)
with_targets l (Jump t) regs n funcs good es later rise = AllPairs-cons Before (untaken l t) es (ahead l t es later) rise
with_targets l (Branch r y m) regs n funcs good es later rise = sorted_targets l y m (nat_lt y m) refl good.3 es later rise
with_targets l (Call d f args t) regs n funcs good es later rise = AllPairs-cons Before (untaken l t) es (ahead l t es later) rise
with_targets l (Ret r) regs n funcs good es later rise = rise

edges_rise : (l : ℕ) (blocks : List Block) (regs n places : ℕ) (funcs : List TacFunc) → All (IsGoodBlock regs n places funcs) blocks → Rise (edges_from l blocks)
edges_rise l [] regs n places funcs good = λ i j d lt within. absurd (omega arith)
edges_rise l (b ∷ blocks) regs n places funcs good =
    with_targets l b.«end» regs n funcs (All-head (IsGoodBlock regs n places funcs) b blocks good).ends (edges_from (suc l) blocks)
    (low (suc l) (suc l) blocks (omega arith))
    (edges_rise (suc l) blocks regs n places funcs (All-tail (IsGoodBlock regs n places funcs) b blocks good))

no_counts_from : (l : ℕ) (blocks : List Block) → All (λ e. IsCount e.count) (edges_from l blocks)
no_counts_from l [] = All-nil (λ e. IsCount e.count)
no_counts_from l (b ∷ blocks) =
    All-append (λ e. IsCount e.count) (map (untaken l) (targets b.«end»)) (edges_from (suc l) blocks)
    (All-map (λ e. IsCount e.count) (untaken l) (targets b.«end») (λ j d lt. lit< tt))
    (no_counts_from (suc l) blocks)

untallied : (places : ℕ) (funcs : List TacFunc) (f : TacFunc) → IsGoodFunc places funcs f → AreTallies (no_tallies f)
untallied places funcs f good = record {
  entered = lit< tt;
  taken = no_counts_from 0 f.blocks;
  rise = edges_rise 0 f.blocks f.regs (length f.blocks) places funcs good.blocks;
}

pub all_untallied : (p : Program) (funcs : List TacFunc) (table : List FuncCounts) (k : ℕ) → IsValid p → funcs ≡ p.funcs → length funcs ≤ k → table ≡ map no_tallies (take k funcs) → All AreTallies table
all_untallied p funcs table k valid read le made =
    subst (All AreTallies) (sym (made ∙ ap (map no_tallies) (whole k funcs le ∙ read)))
    (All-map AreTallies no_tallies p.funcs (λ k d lt. untallied (length p.places) p.funcs (get_or p.funcs k d) (valid.each k d lt)))

-- ---- what was taken

counted : (e : Edge) → was_taken e ≡ true → 0 < e.count
counted e is = grind (arith, nat_tests)

kept_edge : (b : Bool) (e : Edge) → was_taken e ≡ b → IsCount e.count → (es : List Edge) → All (λ e. (0 < e.count) × IsCount e.count) es → All (λ e. (0 < e.count) × IsCount e.count) (if b then e ∷ es else es)
kept_edge true e is count es all = All-cons (λ e. (0 < e.count) × IsCount e.count) e es (counted e is, count) all
kept_edge false e is count es all = all

kept_edges : (es : List Edge) → All (λ e. IsCount e.count) es → All (λ e. (0 < e.count) × IsCount e.count) (filter was_taken es)
kept_edges [] all = All-nil (λ e. (0 < e.count) × IsCount e.count)
kept_edges (e ∷ es) all =
    kept_edge (was_taken e) e refl (All-head (λ e. IsCount e.count) e es all) (filter was_taken es) (kept_edges es (All-tail (λ e. IsCount e.count) e es all))

taken_counts : (c : FuncCounts) → AreTallies c → AreCounts (taken_of c)
taken_counts c are = record {
  entered = are.entered;
  taken = kept_edges c.edges are.taken;
  rise = AllPairs-filter Before was_taken c.edges are.rise;
}

pub all_taken : (table made : List FuncCounts) (k : ℕ) → All AreTallies table → length table ≤ k → made ≡ map taken_of (take k table) → All AreCounts made
all_taken table made k all le is =
    subst (All AreCounts) (sym (is ∙ ap (map taken_of) (whole k table le))) (All-map AreCounts taken_of table (λ k d lt. taken_counts (get_or table k d) (all k d lt)))
