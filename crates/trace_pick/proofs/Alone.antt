-- Of mutually best edges, a block has at most one out and one in.
use Rattle.std.proofs.Common.{◌≡◌, ◌≢◌, ◌+◌, ◌*◌, ◌<◌, ◌≤◌, ℕ, List, [], ◌∷◌, Bool, true, false, refl, sym, ◌∙◌, subst, ⊎_elim, arith, if◌then◌else◌, ◌&&◌}
use Rattle.std.specs.Prelude.{◌==◌}
use Rattle.std.specs.List.{sum_by}
use Rattle.std.proofs.lemmas.Bool.Decides.{eqb_tells}
use Rattle.std.proofs.lemmas.List.Sums.{sum_by-cons}
use Rattle.tac_core.specs.declared.code.TacFunc.{TacFunc}
use Rattle.tac_core.specs.declared.edges.Edge.{Edge}
use Rattle.tac_core.specs.declared.counts.FuncCounts.{FuncCounts}
use Rattle.tac_core.specs.Counts.{edge_count}
use Rattle.tac_core.specs.Weights.{count_from, count_to, in_weight, out_weight}
use Rattle.trace_pick.specs.Best.{IsMutuallyBest}

pub same_number : (m n : ℕ) → (m == n) ≡ true → m ≡ n
same_number m n h = ⊎_elim (λ t. t.1) (λ f. let both : true ≡ false = sym h ∙ f.0 in cc) (eqb_tells m n)

-- one edge more, from a to b and to d, where k is its count and p, q, s what the others give
from_more : (x y z : Bool) (k p q s : ℕ) → ((y ≡ true) → (z ≡ true) → ⊥) → p + q ≤ s → (if x && y then k else p) + (if x && z then k else q) ≤ (if x then k else 0) + s
from_more true true true k p q s ne rest = absurd (ne refl refl)
from_more true true false k p q s ne rest = omega arith
from_more true false true k p q s ne rest = omega arith
from_more true false false k p q s ne rest = omega arith
from_more false y z k p q s ne rest = omega arith

to_more : (x y z : Bool) (k p q s : ℕ) → ((x ≡ true) → (y ≡ true) → ⊥) → p + q ≤ s → (if x && z then k else p) + (if y && z then k else q) ≤ (if z then k else 0) + s
to_more true true true k p q s ne rest = absurd (ne refl refl)
to_more true true false k p q s ne rest = absurd (ne refl refl)
to_more true false true k p q s ne rest = omega arith
to_more true false false k p q s ne rest = omega arith
to_more false true true k p q s ne rest = omega arith
to_more false true false k p q s ne rest = omega arith
to_more false false true k p q s ne rest = omega arith
to_more false false false k p q s ne rest = omega arith

-- two edges of a block together are within its out-weight
two_out : (a b d : ℕ) (es : List Edge) → b ≢ d → edge_count a b es + edge_count a d es ≤ sum_by (count_from a) es
two_out a b d [] ne = omega arith
two_out a b d (e ∷ es) ne =
    subst (λ z. edge_count a b (e ∷ es) + edge_count a d (e ∷ es) ≤ z) (sym (sum_by-cons (count_from a) e es))
    (from_more (e.from == a) (e.to == b) (e.to == d) e.count (edge_count a b es) (edge_count a d es) (sum_by (count_from a) es)
    (λ h g. ne (sym (same_number e.to b h) ∙ same_number e.to d g))
    (two_out a b d es ne))

-- two edges to a block together are within its in-weight
two_in : (a b d : ℕ) (es : List Edge) → a ≢ b → edge_count a d es + edge_count b d es ≤ sum_by (count_to d) es
two_in a b d [] ne = omega arith
two_in a b d (e ∷ es) ne =
    subst (λ z. edge_count a d (e ∷ es) + edge_count b d (e ∷ es) ≤ z) (sym (sum_by-cons (count_to d) e es))
    (to_more (e.from == a) (e.from == b) (e.to == d) e.count (edge_count a d es) (edge_count b d es) (sum_by (count_to d) es)
    (λ h g. ne (sym (same_number e.from a h) ∙ same_number e.from b g))
    (two_in a b d es ne))

-- not two counts of a weight are each seven tenths of it
not_both : (x y w : ℕ) → 0 < x → 7 * w ≤ 10 * x → 7 * w ≤ 10 * y → x + y ≤ w → ⊥
not_both x y w above first second both = absurd (omega arith)

pub one_out : (f : TacFunc) (c : FuncCounts) (a b d : ℕ) → IsMutuallyBest f c a b → IsMutuallyBest f c a d → b ≡ d
one_out f c a b d h g =
    ⊎_elim (λ t. t.1)
    (λ other.
    absurd (not_both (edge_count a b c.edges) (edge_count a d c.edges) (out_weight c a) h.taken h.most_out g.most_out (two_out a b d c.edges other.1)))
    (eqb_tells b d)

pub one_in : (f : TacFunc) (c : FuncCounts) (a b d : ℕ) → IsMutuallyBest f c a d → IsMutuallyBest f c b d → a ≡ b
one_in f c a b d h g =
    ⊎_elim (λ t. t.1)
    (λ other.
    let within = two_in a b d c.edges other.1 in
    absurd (not_both (edge_count a d c.edges) (edge_count b d c.edges) (in_weight c d) h.taken h.most_in g.most_in (omega arith)))
    (eqb_tells a b)
