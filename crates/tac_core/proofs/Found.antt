-- The count of an edge, found among edges that rise.
use Rattle.std.proofs.Common.{◌≡◌, ℕ, zero, suc, ◌<◌, List, [], ◌∷◌, Some, true, false, length, slice_get, refl, sym, ap, subst, arith, ⊎_elim, lit<, get_or, ◌&&◌, if◌then◌else◌}
use Rattle.std.specs.Prelude.{◌==◌, map}
use Rattle.std.specs.List.{All, AllWithin}
use Rattle.std.specs.List.Sorted.{IsPartitionedBy}
use Rattle.std.proofs.lemmas.List.Elements.{All-head, All-tail, All-map, All-nil}
use Rattle.std.proofs.lemmas.Bool.Decides.{nat_tests}
use Rattle.std.proofs.lemmas.Bool.{cases_lt}
use Rattle.tac_core.specs.declared.edges.Edge.{Edge}
use Rattle.tac_core.specs.Counts.{is_before, Rise, edge_count, count_at, is_edge, IsCount, AreCounts, no_counts}
use Rattle.tac_core.specs.declared.code.TacFunc.{TacFunc}
use Rattle.tac_core.specs.declared.counts.FuncCounts.{FuncCounts}

-- no edge comes before itself
differs : (a b c d : ℕ) → is_before a b c d ≡ true → ((a == c) && (b == d)) ≡ false
differs a b c d h = grind (arith, nat_tests)

-- an edge behind one that does not come before (c, d) is another than (c, d)
behind : (a b x y c d : ℕ) → is_before a b x y ≡ true → is_before a b c d ≡ false → ((x == c) && (y == d)) ≡ false
behind a b x y c d h g = grind (arith, nat_tests)

absent : (es : List Edge) (e : Edge) (c d : ℕ) → All (λ f. is_before e.from e.to f.from f.to ≡ true) es → is_before e.from e.to c d ≡ false → edge_count c d es ≡ 0
absent [] e c d all not = refl
absent (f ∷ es) e c d all not =
    rw (behind e.from e.to f.from f.to c d (All-head (λ f. is_before e.from e.to f.from f.to ≡ true) f es all) not)
    (absent es e c d (All-tail (λ f. is_before e.from e.to f.from f.to ≡ true) f es all) not)

rest_rise : (e : Edge) (es : List Edge) → Rise (e ∷ es) → Rise es
rest_rise e es rise i j d lt within = rise (suc i) (suc j) d (omega arith) (omega arith)

behind_all : (e : Edge) (es : List Edge) → Rise (e ∷ es) → All (λ f. is_before e.from e.to f.from f.to ≡ true) es
behind_all e es rise k d lt = rise 0 (suc k) d (omega arith) (omega arith)

-- where the edges before (c, d) end, it stands or is missing
pub count_found : (es : List Edge) (i c d : ℕ) → Rise es → AllWithin (λ e. is_before e.from e.to c d ≡ true) es 0 i → AllWithin (λ e. is_before e.from e.to c d ≡ false) es i (length es) → edge_count c d es ≡ count_at c d (slice_get es i)
count_found [] i c d rise low high = refl
count_found (e ∷ es) zero c d rise low high =
    ap (λ n. if (e.from == c) && (e.to == d) then e.count else n) (absent es e c d (behind_all e es rise) (high 0 e (omega arith) (omega arith)))
count_found (e ∷ es) (suc i) c d rise low high =
    rw (differs e.from e.to c d (low 0 e (omega arith) (omega arith)))
    (count_found es i c d (rest_rise e es rise) (λ k x l h. low (suc k) x (omega arith) (omega arith)) (λ k x l h. high (suc k) x (omega arith) (omega arith)))

before_trans : (a b x y c d : ℕ) → is_before a b x y ≡ true → is_before x y c d ≡ true → is_before a b c d ≡ true
before_trans a b x y c d h g = grind (arith, nat_tests)

-- among edges that rise, those before (c, d) come first
pub parted : (es : List Edge) (c d : ℕ) → Rise es → IsPartitionedBy (λ e. is_before e.from e.to c d) es
parted es c d rise i j x le lt h =
    ⊎_elim
    (λ below. before_trans _ _ _ _ c d (rise i j x below lt) h)
    (λ ge.
    let same : j ≡ i = omega arith in
    subst (λ k. is_before (get_or es k x).from (get_or es k x).to c d ≡ true) same h)
    (cases_lt i j)

none_counted : (f : TacFunc) → AreCounts (no_counts f)
none_counted f = record {
  entered = lit< tt;
  taken = All-nil (λ e. (0 < e.count) × IsCount e.count);
  rise = λ i j d lt within. absurd (omega arith);
}

pub all_none_counted : (counts : List FuncCounts) (fs : List TacFunc) → counts ≡ map no_counts fs → All AreCounts counts
all_none_counted counts fs same = subst (All AreCounts) (sym same) (All-map AreCounts no_counts fs (λ k d lt. none_counted (get_or fs k d)))

-- where the edges before (c, d) end, another edge stands or none does: so (c, d) is missing
pub no_edge : (es : List Edge) (i c d : ℕ) → Rise es → AllWithin (λ e. is_before e.from e.to c d ≡ true) es 0 i → AllWithin (λ e. is_before e.from e.to c d ≡ false) es i (length es) → ((e : Edge) → slice_get es i ≡ Some e → is_edge c d e ≡ false) → (k : ℕ) (x : Edge) → k < length es → is_edge c d (get_or es k x) ≡ false
no_edge [] i c d rise low high other k x lt = absurd (omega arith)
no_edge (e ∷ es) zero c d rise low high other zero x lt = other e refl
no_edge (e ∷ es) zero c d rise low high other (suc k) x lt =
    behind e.from e.to (get_or es k x).from (get_or es k x).to c d (rise 0 (suc k) x (omega arith) lt) (high 0 e (omega arith) (omega arith))
no_edge (e ∷ es) (suc i) c d rise low high other zero x lt = differs e.from e.to c d (low 0 e (omega arith) (omega arith))
no_edge (e ∷ es) (suc i) c d rise low high other (suc k) x lt =
    no_edge es i c d (rest_rise e es rise) (λ j y l h. low (suc j) y (omega arith) (omega arith)) (λ j y l h. high (suc j) y (omega arith) (omega arith)) other k x (omega arith)
