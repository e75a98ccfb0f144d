-- What the table gives in the end.
use Rattle.std.proofs.Common.{◌≡◌, ℕ, zero, suc, ◌<◌, Bool, true, false, List, [], ◌∷◌, ◌++◌, length, get_or, refl, sym, ap, ◌∙◌, subst, inl, inr, append_assoc, length-append, arith, if◌then◌else◌}
use Rattle.std.specs.Prelude.{map, filter, slice_get, nat_lt}
use Rattle.std.specs.List.{All}
use Rattle.std.proofs.lemmas.Bool.Decides.{nat_tests}
use Rattle.std.proofs.lemmas.List.{length-map}
use Rattle.std.proofs.lemmas.List.Elements.{All-head, All-tail, All-nil, All-cons, All-append, All-map, All-filter}
use Rattle.tac_core.specs.declared.code.End.{End}
use Rattle.tac_core.specs.declared.code.End.TheVariants.{Jump, Branch, Call, Ret}
use Rattle.tac_core.specs.declared.code.Block.{Block}
use Rattle.tac_core.specs.declared.code.TacFunc.{TacFunc}
use Rattle.tac_core.specs.declared.edges.Edge.{Edge}
use Rattle.tac_core.specs.declared.counts.FuncCounts.{FuncCounts}
use Rattle.tac_core.specs.Program.{Program}
use Rattle.tac_core.specs.Counts.{is_edge, edge_count, edges_of, entries_of, HasEdge, HasEdges, LeadsTo, IsTargetOf, Rise, AreOf}
use Rattle.tac_core.proofs.Lists.{slice_get_seam}
use Rattle.profile.specs.Counting.{AreCounted}
use Rattle.profile.specs.Tallies.{untaken, targets, edges_from, shape_of, IsTableOf, IsTallied, AreTallies, was_taken, taken_of}
use Rattle.profile.proofs.Tables.{another}
use Rattle.profile.proofs.Counted.{table_length}

-- ---- edges that were not taken have no count

none_there : (a b : ℕ) (es : List Edge) → All (λ e. is_edge a b e ≡ false) es → edge_count a b (filter was_taken es) ≡ 0
none_there a b [] none = refl
none_there a b (e ∷ es) none =
    by (was_taken e) (All-head (λ x. is_edge a b x ≡ false) e es none) (none_there a b es (All-tail (λ x. is_edge a b x ≡ false) e es none))
  where
    by : (t : Bool) → is_edge a b e ≡ false → edge_count a b (filter was_taken es) ≡ 0 → edge_count a b (if t then e ∷ filter was_taken es else filter was_taken es) ≡ 0
    by true other rest = rw other rest
    by false other rest = rest

not_taken : (e : Edge) → was_taken e ≡ false → 0 ≡ e.count
not_taken e is = grind (arith, nat_tests)

later_others : (a b : ℕ) (e : Edge) (es : List Edge) → Rise (e ∷ es) → is_edge a b e ≡ true → All (λ x. is_edge a b x ≡ false) es
later_others a b e es rise is k d lt =
    another e.from e.to (get_or es k d).from (get_or es k d).to a b (rise 0 (suc k) d (omega arith) (omega arith)) is

rest_rise : (e : Edge) (es : List Edge) → Rise (e ∷ es) → Rise es
rest_rise e es rise i j d lt within = rise (suc i) (suc j) d (omega arith) (omega arith)

same_count : (a b : ℕ) (es : List Edge) → Rise es → edge_count a b (filter was_taken es) ≡ edge_count a b es
same_count a b [] rise = refl
same_count a b (e ∷ es) rise =
    by (was_taken e) refl (is_edge a b e) refl (same_count a b es (rest_rise e es rise)) (λ is. none_there a b es (later_others a b e es rise is))
  where
    by : (t : Bool) → was_taken e ≡ t → (k : Bool) → is_edge a b e ≡ k → edge_count a b (filter was_taken es) ≡ edge_count a b es → (is_edge a b e ≡ true → edge_count a b (filter was_taken es) ≡ 0) → edge_count a b (if t then e ∷ filter was_taken es else filter was_taken es) ≡ edge_count a b (e ∷ es)
    by true taken true is rest none = rw is refl
    by true taken false is rest none = rw is rest
    by false taken true is rest none = none is ∙ not_taken e taken ∙ sym (ap (λ k. if k then e.count else edge_count a b es) is)
    by false taken false is rest none = rest ∙ sym (ap (λ k. if k then e.count else edge_count a b es) is)

-- ---- the counts are those of the table

at_func : (table : List FuncCounts) (f a b : ℕ) → All AreTallies table → edge_count a b (edges_of (slice_get (map taken_of table) f)) ≡ edge_count a b (edges_of (slice_get table f))
at_func [] f a b all = refl
at_func (c ∷ cs) zero a b all = same_count a b c.edges (All-head AreTallies c cs all).rise
at_func (c ∷ cs) (suc f) a b all = at_func cs f a b (All-tail AreTallies c cs all)

same_entries : (table : List FuncCounts) (f : ℕ) → entries_of (slice_get (map taken_of table) f) ≡ entries_of (slice_get table f)
same_entries [] f = refl
same_entries (c ∷ cs) zero = refl
same_entries (c ∷ cs) (suc f) = same_entries cs f

pub counted : (p : Program) (input : List ℕ) (n : ℕ) (table counts : List FuncCounts) → IsTallied p input n table → All AreTallies table → counts ≡ map taken_of table → AreCounted p input n counts
counted p input n table counts t all made = subst (AreCounted p input n) (sym made) (record {
  entered_so = λ f lt. same_entries table f ∙ t.entered_so f lt;
  taken_so = λ f func a b there has. at_func table f a b all ∙ t.taken_so f func a b there has;
})

-- ---- and only of edges that are there

either_target : (r y n : ℕ) (t : Bool) → All (IsTargetOf (Branch r y n)) (if t then y ∷ n ∷ [] else n ∷ y ∷ [])
either_target r y n true =
    All-cons (IsTargetOf (Branch r y n)) y (n ∷ []) (inl refl) (All-cons (IsTargetOf (Branch r y n)) n [] (inr refl) (All-nil (IsTargetOf (Branch r y n))))
either_target r y n false =
    All-cons (IsTargetOf (Branch r y n)) n (y ∷ []) (inr refl) (All-cons (IsTargetOf (Branch r y n)) y [] (inl refl) (All-nil (IsTargetOf (Branch r y n))))

each_target : (e : End) → All (IsTargetOf e) (targets e)
each_target (Jump l) = All-cons (IsTargetOf (Jump l)) l [] refl (All-nil (IsTargetOf (Jump l)))
each_target (Branch r y n) = either_target r y n (nat_lt y n)
each_target (Call d f args l) = All-cons (IsTargetOf (Call d f args l)) l [] refl (All-nil (IsTargetOf (Call d f args l)))
each_target (Ret r) = All-nil (IsTargetOf (Ret r))

-- an edge between blocks of the list
abbrev Leads : List Block → Edge → Type 0
Leads blocks e = LeadsTo (slice_get blocks e.from) e.to

edges_lead : (front blocks : List Block) → All (Leads (front ++ blocks)) (edges_from (length front) blocks)
edges_lead front [] = All-nil (Leads (front ++ []))
edges_lead front (b ∷ blocks) =
    All-append (Leads (front ++ b ∷ blocks)) (map (untaken (length front)) (targets b.«end»)) (edges_from (suc (length front)) blocks)
    (All-map (Leads (front ++ b ∷ blocks)) (untaken (length front)) (targets b.«end»)
    (λ k d lt. subst (λ o. LeadsTo o (get_or (targets b.«end») k d)) (sym (slice_get_seam front b blocks)) (each_target b.«end» k d lt)))
    (subst (λ n. All (Leads (front ++ b ∷ blocks)) (edges_from n blocks)) longer
    (subst (λ all. All (Leads all) (edges_from (length (front ++ b ∷ [])) blocks)) (append_assoc front (b ∷ []) blocks) (edges_lead (front ++ b ∷ []) blocks)))
  where
    longer : length (front ++ b ∷ []) ≡ suc (length front)
    longer = length-append front (b ∷ []) ∙ omega arith

of_shape : (f : TacFunc) (es : List Edge) → All (λ e. HasEdge f e.from e.to) (map (λ (e : Edge). untaken e.from e.to) es) → All (λ e. HasEdge f e.from e.to) es
of_shape f [] all = All-nil (λ e. HasEdge f e.from e.to)
of_shape f (e ∷ es) all =
    All-cons (λ e. HasEdge f e.from e.to) e es
    (All-head (λ e. HasEdge f e.from e.to) (untaken e.from e.to) (map (λ (e : Edge). untaken e.from e.to) es) all)
    (of_shape f es (All-tail (λ e. HasEdge f e.from e.to) (untaken e.from e.to) (map (λ (e : Edge). untaken e.from e.to) es) all))

edges_there : (f : TacFunc) (c : FuncCounts) → shape_of c ≡ edges_from 0 f.blocks → HasEdges f (taken_of c).edges
edges_there f c shape =
    All-filter was_taken (λ e. HasEdge f e.from e.to) c.edges
    (of_shape f c.edges (subst (All (λ e. HasEdge f e.from e.to)) (sym shape) (edges_lead [] f.blocks)))

all_there : (funcs : List TacFunc) (table : List FuncCounts) → IsTableOf funcs table → (k : ℕ) (c : FuncCounts) (f : TacFunc) → k < length (map taken_of table) → HasEdges (get_or funcs k f) (get_or (map taken_of table) k c).edges
all_there funcs [] shape k c f lt = absurd (omega arith)
all_there [] (t ∷ ts) shape k c f lt = let no' : shape_of t ∷ map shape_of ts ≡ [] = shape in cc
all_there (g ∷ gs) (t ∷ ts) shape zero c f lt = let same : shape_of t ≡ edges_from 0 g.blocks = cc in edges_there g t same
all_there (g ∷ gs) (t ∷ ts) shape (suc k) c f lt =
    let same : map shape_of ts ≡ map (λ (h : TacFunc). edges_from 0 h.blocks) gs = cc in all_there gs ts same k c f (omega arith)

pub of_program : (p : Program) (table counts : List FuncCounts) → IsTableOf p.funcs table → counts ≡ map taken_of table → AreOf counts p
of_program p table counts shape made = subst (λ cs. AreOf cs p) (sym made) (record {
  many = length-map table taken_of ∙ table_length p.funcs table shape;
  there = all_there p.funcs table shape;
})
