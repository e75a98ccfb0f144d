-- Traces are chains of their function.
use Rattle.std.proofs.Common.{◌≡◌, ◌<◌, ℕ, suc, List, [], ◌∷◌, Bool, true, false, refl, subst, arith, if◌then◌else◌, ◌&&◌}
use Rattle.std.specs.Prelude.{◌==◌}
use Rattle.std.proofs.lemmas.List.Elements.{All-head, All-tail}
use Rattle.tac_core.specs.declared.code.TacFunc.{TacFunc}
use Rattle.tac_core.specs.declared.edges.Edge.{Edge}
use Rattle.tac_core.specs.declared.counts.FuncCounts.{FuncCounts}
use Rattle.tac_core.specs.Counts.{edge_count, is_edge, HasEdge, HasEdges}
use Rattle.tac_core.specs.Traces.{Labels, StandsAt, AreChains}
use Rattle.trace_pick.specs.Best.{Follows}
use Rattle.trace_pick.specs.Traces.{AreTraces}
use Rattle.trace_pick.proofs.Alone.{same_number}

pub both_true : (x y : Bool) → (x && y) ≡ true → (x ≡ true) × (y ≡ true)
both_true true true h = (refl, refl)
both_true true false h = (refl, h)
both_true false y h = (h, absurd cc)

-- an edge that was taken is there
pub taken_edge : (f : TacFunc) (es : List Edge) (a b : ℕ) → HasEdges f es → 0 < edge_count a b es → HasEdge f a b
taken_edge f [] a b there above = absurd (omega arith)
taken_edge f (e ∷ es) a b there above =
    by_test (taken_edge f es a b (All-tail (λ e. HasEdge f e.from e.to) e es there)) (is_edge a b e) refl above
  where
    by_test : (0 < edge_count a b es → HasEdge f a b) → (t : Bool) → is_edge a b e ≡ t → 0 < (if t then e.count else edge_count a b es) → HasEdge f a b
    by_test rest true is h =
        let both = both_true (e.from == a) (e.to == b) is in
        subst (λ z. HasEdge f z b) (same_number e.from a both.0)
        (subst (λ z. HasEdge f e.from z) (same_number e.to b both.1) (All-head (λ e. HasEdge f e.from e.to) e es there))
    by_test rest false is h = rest h

pub traces_are_chains : (f : TacFunc) (c : FuncCounts) (chains : List Labels) → HasEdges f c.edges → AreTraces f c chains → AreChains f chains
traces_are_chains f c chains there h = record {
  partition = h.partition;
  begun = h.begun;
  linked = λ l m i k s t. taken_edge f c.edges l m there (grown l m i k s t).best.taken;
  straight = λ l m i k s t. (grown l m i k s t).best.goes_on;
}
  where
    grown : (l m i k : ℕ) → StandsAt chains l i k → StandsAt chains m i (suc k) → Follows f c l m
    grown l m i k s t = h.grown l m (record { chain = i; place = k; before = s; behind = t })
