-- The table of a run, step by step.
use Rattle.std.proofs.Common.{◌≡◌, ℕ, zero, suc, ◌+◌, ◌<◌, Bool, true, false, List, [], ◌∷◌, ◌++◌, Option, Some, None, length, refl, sym, ap, ◌∙◌, subst, inl, inr, ◌⊎◌, arith, if◌then◌else◌}
use Rattle.std.specs.Prelude.{map, slice_get, ◌==◌, ◌&&◌, nat_lt}
use Rattle.std.specs.Option.{option_map}
use Rattle.std.proofs.lemmas.Bool.Decides.{nat_tests}
use Rattle.std.proofs.lemmas.Option.{slice_get-map}
use Rattle.tac_core.specs.declared.code.End.{End}
use Rattle.tac_core.specs.declared.code.End.TheVariants.{Jump, Branch, Call, Ret}
use Rattle.tac_core.specs.declared.code.Block.{Block}
use Rattle.tac_core.specs.declared.code.TacFunc.{TacFunc}
use Rattle.tac_core.specs.declared.edges.Edge.{Edge}
use Rattle.tac_core.specs.declared.counts.FuncCounts.{FuncCounts}
use Rattle.tac_core.specs.Meaning.{State}
use Rattle.tac_core.specs.Counts.{is_edge, edge_count, edges_of, entries_of, HasEdge, IsTargetOf, LeadsTo}
use Rattle.profile.specs.Counting.{Crossing, crossed, entered, is_crossing, is_entry}
use Rattle.profile.specs.Tallies.{targets, untaken, edges_from, raised, crossed_edge, crossed_func, entered_func, with_at, tallied_crossing, tallied_entry, tallied, shape_of, IsTableOf}

-- ---- an edge is in the table

abbrev has_edge : (a b : ℕ) → List Edge → Bool
has_edge a b [] = false
has_edge a b (e ∷ es) = if is_edge a b e then true else has_edge a b es

at_key : (from to a b : ℕ) (e : Edge) (n : ℕ) → is_edge a b e ≡ true → raised (is_edge from to e) n ≡ raised ((from == a) && (to == b)) n
at_key from to a b e n is = ap (λ t. raised t n) (same_test from to a b e.from e.to is)
  where
    same_test : (from to a b x y : ℕ) → ((x == a) && (y == b)) ≡ true → ((x == from) && (y == to)) ≡ ((from == a) && (to == b))
    same_test from to a b x y is = grind (arith, nat_tests)

raised_by : (from to a b : ℕ) (e : Edge) (es : List Edge) (t : Bool) → is_edge a b e ≡ t → (t ≡ false → edge_count a b (map (crossed_edge from to) es) ≡ raised ((from == a) && (to == b)) (edge_count a b es)) → edge_count a b (map (crossed_edge from to) (e ∷ es)) ≡ raised ((from == a) && (to == b)) (edge_count a b (e ∷ es))
raised_by from to a b e es true is rest = rw is (at_key from to a b e e.count is)
raised_by from to a b e es false is rest = rw is (rest refl)

has_rest : (a b : ℕ) (e : Edge) (es : List Edge) → has_edge a b (e ∷ es) ≡ true → is_edge a b e ≡ false → has_edge a b es ≡ true
has_rest a b e es has other = sym (ap (λ t. if t then true else has_edge a b es) other) ∙ has

-- the count of an edge that is there, once more
count_raised : (from to a b : ℕ) (es : List Edge) → has_edge a b es ≡ true → edge_count a b (map (crossed_edge from to) es) ≡ raised ((from == a) && (to == b)) (edge_count a b es)
count_raised from to a b [] has = let no' : false ≡ true = has in cc
count_raised from to a b (e ∷ es) has =
    raised_by from to a b e es (is_edge a b e) refl (λ other. count_raised from to a b es (has_rest a b e es has other))

-- ---- one function of the table

nothing_either : (t : Bool) → (let n : Option FuncCounts = None in n) ≡ (if t then None else None)
nothing_either true = refl
nothing_either false = refl

zero_suc : (f : ℕ) → (0 == suc f) ≡ false
zero_suc f = grind (arith, nat_tests)

suc_zero : (n : ℕ) → (suc n == 0) ≡ false
suc_zero n = grind (arith, nat_tests)

suc_suc : (n f : ℕ) → (suc n == suc f) ≡ (n == f)
suc_suc n f = grind (arith, nat_tests)

at_other : (change : FuncCounts → FuncCounts) (n f : ℕ) (table : List FuncCounts) → slice_get (with_at change n table) f ≡ (if n == f then option_map change (slice_get table f) else slice_get table f)
at_other change n f [] = nothing_either (n == f)
at_other change zero zero (c ∷ cs) = refl
at_other change zero (suc f) (c ∷ cs) = rw (zero_suc f) refl
at_other change (suc n) zero (c ∷ cs) = rw (suc_zero n) refl
at_other change (suc n) (suc f) (c ∷ cs) = rw (suc_suc n f) (at_other change n f cs)

length_with : (change : FuncCounts → FuncCounts) (n : ℕ) (table : List FuncCounts) → length (with_at change n table) ≡ length table
length_with change n [] = refl
length_with change zero (c ∷ cs) = refl
length_with change (suc n) (c ∷ cs) = ap suc (length_with change n cs)

pub shape_with : (change : FuncCounts → FuncCounts) → ((c : FuncCounts) → shape_of (change c) ≡ shape_of c) → (n : ℕ) (table : List FuncCounts) → map shape_of (with_at change n table) ≡ map shape_of table
shape_with change same n [] = refl
shape_with change same zero (c ∷ cs) = ap (λ x. x ∷ map shape_of cs) (same c)
shape_with change same (suc n) (c ∷ cs) = ap (λ xs. shape_of c ∷ xs) (shape_with change same n cs)

shape_crossed : (from to : ℕ) (es : List Edge) → map (λ e. untaken e.from e.to) (map (crossed_edge from to) es) ≡ map (λ e. untaken e.from e.to) es
shape_crossed from to [] = refl
shape_crossed from to (e ∷ es) = ap (λ xs. untaken e.from e.to ∷ xs) (shape_crossed from to es)

pub shape_tallied : (funcs : List TacFunc) (s : State) (table : List FuncCounts) → map shape_of (tallied funcs s table) ≡ map shape_of table
shape_tallied funcs s table = entry (entered funcs s) (tallied_crossing (crossed funcs s) table) ∙ crossing (crossed funcs s)
  where
    crossing : (c : Option Crossing) → map shape_of (tallied_crossing c table) ≡ map shape_of table
    crossing None = refl
    crossing (Some c) = shape_with (crossed_func c.from c.to) (λ x. shape_crossed c.from c.to x.edges) c.func table

    entry : (e : Option ℕ) (t : List FuncCounts) → map shape_of (tallied_entry e t) ≡ map shape_of t
    entry None t = refl
    entry (Some f) t = shape_with entered_func (λ x. refl) f t

-- ---- the counts behind a step

edges_with : (from to a b n f : ℕ) (table : List FuncCounts) → has_edge a b (edges_of (slice_get table f)) ≡ true → edge_count a b (edges_of (slice_get (with_at (crossed_func from to) n table) f)) ≡ raised ((n == f) && ((from == a) && (to == b))) (edge_count a b (edges_of (slice_get table f)))
edges_with from to a b n f table has =
    ap (λ o. edge_count a b (edges_of o)) (at_other (crossed_func from to) n f table) ∙ by (n == f) (slice_get table f) has
  where
    by : (t : Bool) (o : Option FuncCounts) → has_edge a b (edges_of o) ≡ true → edge_count a b (edges_of (if t then option_map (crossed_func from to) o else o)) ≡ raised (t && ((from == a) && (to == b))) (edge_count a b (edges_of o))
    by true None has = let no' : false ≡ true = has in cc
    by true (Some c) has = count_raised from to a b c.edges has
    by false o has = refl

pub entries_with : (n f : ℕ) (table : List FuncCounts) → f < length table → entries_of (slice_get (with_at entered_func n table) f) ≡ raised (n == f) (entries_of (slice_get table f))
entries_with n f table lt = ap entries_of (at_other entered_func n f table) ∙ by (n == f) (slice_get table f) (there table f lt)
  where
    there : (t : List FuncCounts) (f : ℕ) → f < length t → (c : FuncCounts) × (slice_get t f ≡ Some c)
    there [] f lt = absurd (omega arith)
    there (c ∷ cs) zero lt = (c, refl)
    there (c ∷ cs) (suc f) lt = there cs f (omega arith)

    by : (t : Bool) (o : Option FuncCounts) → (c : FuncCounts) × (o ≡ Some c) → entries_of (if t then option_map entered_func o else o) ≡ raised t (entries_of o)
    by true None h = let e = h.1 in cc
    by true (Some c) h = refl
    by false o h = refl

pub edges_entered : (n f : ℕ) (table : List FuncCounts) → edges_of (slice_get (with_at entered_func n table) f) ≡ edges_of (slice_get table f)
edges_entered n f table = ap edges_of (at_other entered_func n f table) ∙ by (n == f) (slice_get table f)
  where
    by : (t : Bool) (o : Option FuncCounts) → edges_of (if t then option_map entered_func o else o) ≡ edges_of o
    by true None = refl
    by true (Some c) = refl
    by false o = refl

entries_crossed : (from to n f : ℕ) (table : List FuncCounts) → entries_of (slice_get (with_at (crossed_func from to) n table) f) ≡ entries_of (slice_get table f)
entries_crossed from to n f table = ap entries_of (at_other (crossed_func from to) n f table) ∙ by (n == f) (slice_get table f)
  where
    by : (t : Bool) (o : Option FuncCounts) → entries_of (if t then option_map (crossed_func from to) o else o) ≡ entries_of o
    by true None = refl
    by true (Some c) = refl
    by false o = refl

pub taken_behind : (funcs : List TacFunc) (s : State) (table : List FuncCounts) (f a b : ℕ) → has_edge a b (edges_of (slice_get table f)) ≡ true → edge_count a b (edges_of (slice_get (tallied funcs s table) f)) ≡ raised (is_crossing f a b (crossed funcs s)) (edge_count a b (edges_of (slice_get table f)))
taken_behind funcs s table f a b has =
    entry (entered funcs s) (tallied_crossing (crossed funcs s) table) ∙ crossing (crossed funcs s)
  where
    entry : (e : Option ℕ) (t : List FuncCounts) → edge_count a b (edges_of (slice_get (tallied_entry e t) f)) ≡ edge_count a b (edges_of (slice_get t f))
    entry None t = refl
    entry (Some g) t = ap (edge_count a b) (edges_entered g f t)

    crossing : (c : Option Crossing) → edge_count a b (edges_of (slice_get (tallied_crossing c table) f)) ≡ raised (is_crossing f a b c) (edge_count a b (edges_of (slice_get table f)))
    crossing None = refl
    crossing (Some c) = edges_with c.from c.to a b c.func f table has

pub entered_behind : (funcs : List TacFunc) (s : State) (table : List FuncCounts) (f : ℕ) → f < length table → entries_of (slice_get (tallied funcs s table) f) ≡ raised (is_entry f (entered funcs s)) (entries_of (slice_get table f))
entered_behind funcs s table f lt =
    entry (entered funcs s) (tallied_crossing (crossed funcs s) table) (subst (λ n. f < n) (sym (same_length (crossed funcs s))) lt)
    ∙ ap (raised (is_entry f (entered funcs s))) (crossing (crossed funcs s))
  where
    same_length : (c : Option Crossing) → length (tallied_crossing c table) ≡ length table
    same_length None = refl
    same_length (Some c) = length_with (crossed_func c.from c.to) c.func table

    entry : (e : Option ℕ) (t : List FuncCounts) → f < length t → entries_of (slice_get (tallied_entry e t) f) ≡ raised (is_entry f e) (entries_of (slice_get t f))
    entry None t within = refl
    entry (Some g) t within = entries_with g f t within

    crossing : (c : Option Crossing) → entries_of (slice_get (tallied_crossing c table) f) ≡ entries_of (slice_get table f)
    crossing None = refl
    crossing (Some c) = entries_crossed c.from c.to c.func f table

-- ---- all edges of the functions are there

edge_in : (a b : ℕ) (es fs : List Edge) → has_edge a b es ≡ true → has_edge a b (es ++ fs) ≡ true
edge_in a b [] fs has = let no' : false ≡ true = has in cc
edge_in a b (e ∷ es) fs has = by (is_edge a b e) refl (λ other. edge_in a b es fs (has_rest a b e es has other))
  where
    by : (t : Bool) → is_edge a b e ≡ t → (t ≡ false → has_edge a b (es ++ fs) ≡ true) → has_edge a b ((e ∷ es) ++ fs) ≡ true
    by true is rest = rw is refl
    by false is rest = rw is (rest refl)

edge_behind : (a b : ℕ) (es fs : List Edge) → has_edge a b fs ≡ true → has_edge a b (es ++ fs) ≡ true
edge_behind a b [] fs has = has
edge_behind a b (e ∷ es) fs has = by (is_edge a b e) (edge_behind a b es fs has)
  where
    by : (t : Bool) → has_edge a b (es ++ fs) ≡ true → (if t then true else has_edge a b (es ++ fs)) ≡ true
    by true h = refl
    by false h = h

own_edge : (a b : ℕ) → is_edge a b (untaken a b) ≡ true
own_edge a b = grind (arith, nat_tests)

first_has : (a b : ℕ) (es : List Edge) → has_edge a b (untaken a b ∷ es) ≡ true
first_has a b es = rw (own_edge a b) refl

second_has : (a b c : ℕ) (es : List Edge) → has_edge a b (untaken a c ∷ untaken a b ∷ es) ≡ true
second_has a b c es = edge_behind a b (untaken a c ∷ []) (untaken a b ∷ es) (first_has a b es)

target_has : (a b : ℕ) (e : End) → IsTargetOf e b → has_edge a b (map (untaken a) (targets e)) ≡ true
target_has a b (Jump l) is = subst (λ t. has_edge a b (untaken a t ∷ []) ≡ true) is (first_has a b [])
target_has a b (Branch r y n) is = by (nat_lt y n) is
  where
    by : (t : Bool) → (b ≡ y) ⊎ (b ≡ n) → has_edge a b (map (untaken a) (if t then y ∷ n ∷ [] else n ∷ y ∷ [])) ≡ true
    by true (inl e) = subst (λ t. has_edge a b (untaken a t ∷ untaken a n ∷ []) ≡ true) e (first_has a b (untaken a n ∷ []))
    by true (inr e) = subst (λ t. has_edge a b (untaken a y ∷ untaken a t ∷ []) ≡ true) e (second_has a b y [])
    by false (inl e) = subst (λ t. has_edge a b (untaken a n ∷ untaken a t ∷ []) ≡ true) e (second_has a b n [])
    by false (inr e) = subst (λ t. has_edge a b (untaken a t ∷ untaken a y ∷ []) ≡ true) e (first_has a b (untaken a y ∷ []))
target_has a b (Call d f args l) is = subst (λ t. has_edge a b (untaken a t ∷ []) ≡ true) is (first_has a b [])
target_has a b (Ret r) is = absurd is

edge_there : (l a b : ℕ) (blocks : List Block) (c : Block) → slice_get blocks a ≡ Some c → IsTargetOf c.«end» b → has_edge (l + a) b (edges_from l blocks) ≡ true
edge_there l a b [] c at is = let no' : None ≡ Some c = at in cc
edge_there l zero b (x ∷ blocks) c at is =
    let same : x ≡ c = cc in
    let none : l ≡ l + 0 = omega arith in
    subst (λ k. has_edge k b (edges_from l (x ∷ blocks)) ≡ true) none
    (edge_in l b (map (untaken l) (targets x.«end»)) (edges_from (suc l) blocks) (target_has l b x.«end» (subst (λ y. IsTargetOf y.«end» b) (sym same) is)))
edge_there l (suc a) b (x ∷ blocks) c at is =
    let e : suc l + a ≡ l + suc a = omega arith in
    subst (λ k. has_edge k b (edges_from l (x ∷ blocks)) ≡ true) e
    (edge_behind (suc l + a) b (map (untaken l) (targets x.«end»)) (edges_from (suc l) blocks) (edge_there (suc l) a b blocks c at is))

func_has : (func : TacFunc) (a b : ℕ) → HasEdge func a b → has_edge a b (edges_from 0 func.blocks) ≡ true
func_has func a b has = by (slice_get func.blocks a) refl has
  where
    by : (o : Option Block) → slice_get func.blocks a ≡ o → LeadsTo o b → has_edge a b (edges_from 0 func.blocks) ≡ true
    by None at h = absurd h
    by (Some c) at h = let none : 0 + a ≡ a = omega arith in subst (λ k. has_edge k b (edges_from 0 func.blocks) ≡ true) none (edge_there 0 a b func.blocks c at h)

same_has : (a b : ℕ) (es : List Edge) → has_edge a b (map (λ e. untaken e.from e.to) es) ≡ has_edge a b es
same_has a b [] = refl
same_has a b (e ∷ es) = ap (λ h. if is_edge a b e then true else h) (same_has a b es)

pub table_has : (funcs : List TacFunc) (table : List FuncCounts) (f : ℕ) (func : TacFunc) (a b : ℕ) → IsTableOf funcs table → slice_get funcs f ≡ Some func → HasEdge func a b → has_edge a b (edges_of (slice_get table f)) ≡ true
table_has funcs table f func a b shape is has =
    by (slice_get table f)
    (sym (slice_get-map shape_of table f) ∙ ap (λ xs. slice_get xs f) shape ∙ slice_get-map (λ (g : TacFunc). edges_from 0 g.blocks) funcs f ∙ ap (option_map (λ (g : TacFunc). edges_from 0 g.blocks)) is)
  where
    by : (o : Option FuncCounts) → option_map shape_of o ≡ Some (edges_from 0 func.blocks) → has_edge a b (edges_of o) ≡ true
    by None e = let no' : None ≡ Some (edges_from 0 func.blocks) = e in cc
    by (Some c) e =
        let same : shape_of c ≡ edges_from 0 func.blocks = cc in
        sym (same_has a b c.edges) ∙ ap (has_edge a b) same ∙ func_has func a b has
