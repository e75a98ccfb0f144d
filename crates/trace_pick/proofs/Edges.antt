-- Edges that rise, each with its own count.
use Rattle.std.proofs.Common.{◌≡◌, ◌<◌, ℕ, zero, suc, List, [], ◌∷◌, Some, Bool, true, false, length, refl, sym, subst, arith, get_or, ◌&&◌, if◌then◌else◌}
use Rattle.std.specs.Prelude.{◌==◌, slice_get}
use Rattle.std.proofs.lemmas.Bool.Decides.{nat_tests}
use Rattle.std.proofs.lemmas.Option.{slice_get_within, get_or_from_slice_get}
use Rattle.tac_core.specs.declared.edges.Edge.{Edge}
use Rattle.tac_core.specs.Counts.{is_before, Rise, edge_count, is_edge}
use Rattle.trace_pick.proofs.Alone.{same_number}
use Rattle.trace_pick.proofs.Chained.{both_true}

-- an edge that comes before another is another
other_edge : (a b c d : ℕ) → is_before a b c d ≡ true → ((a == c) && (b == d)) ≡ false
other_edge a b c d h = grind (arith, nat_tests)

own_edge : (a b : ℕ) → ((a == a) && (b == b)) ≡ true
own_edge a b = grind (arith, nat_tests)

-- the count of an edge is the one that it has where it stands
pub edge_counted : (es : List Edge) (i : ℕ) (e : Edge) → Rise es → slice_get es i ≡ Some e → edge_count e.from e.to es ≡ e.count
edge_counted [] i e rise at = absurd cc
edge_counted (x ∷ es) zero e rise at =
    let both : Some x ≡ Some e = at in
    let same : x ≡ e = cc in
    subst (λ z. edge_count e.from e.to (z ∷ es) ≡ e.count) (sym same) (rw (own_edge e.from e.to) refl)
edge_counted (x ∷ es) (suc i) e rise at =
    let lt : i < length es = slice_get_within es i e at in
    let is : get_or es i e ≡ e = get_or_from_slice_get es i e e at in
    let before : is_before x.from x.to e.from e.to ≡ true = subst (λ z. is_before x.from x.to z.from z.to ≡ true) is (rise 0 (suc i) e (omega arith) (omega arith)) in
    rw (other_edge x.from x.to e.from e.to before)
    (edge_counted es i e (λ j k d l w. rise (suc j) (suc k) d (omega arith) (omega arith)) at)

-- where an edge from a to b stands
pub record StandsFor (es : List Edge) (a b : ℕ) : Type 0 where
  pub place : ℕ
  pub edge : Edge
  pub is : slice_get es place ≡ Some edge
  pub from_is : edge.from ≡ a
  pub to_is : edge.to ≡ b

-- an edge that was taken stands somewhere
pub taken_stands : (es : List Edge) (a b : ℕ) → 0 < edge_count a b es → StandsFor es a b
taken_stands [] a b above = absurd (omega arith)
taken_stands (e ∷ es) a b above = by_test (taken_stands es a b) (is_edge a b e) refl above
  where
    by_test : (0 < edge_count a b es → StandsFor es a b) → (t : Bool) → is_edge a b e ≡ t → 0 < (if t then e.count else edge_count a b es) → StandsFor (e ∷ es) a b
    by_test rest true is h =
        let both = both_true (e.from == a) (e.to == b) is in
        record { place = 0; edge = e; is = refl; from_is = same_number e.from a both.0; to_is = same_number e.to b both.1 }
    by_test rest false is h =
        let r = rest h in record { place = suc r.place; edge = r.edge; is = r.is; from_is = r.from_is; to_is = r.to_is }
