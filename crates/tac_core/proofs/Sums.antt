-- Sums of counts by label, edge after edge.
use Rattle.std.proofs.Common.{◌≡◌, ◌≢◌, ◌<◌, ◌≤◌, ◌+◌, ◌*◌, ℕ, zero, suc, List, [], ◌∷◌, ◌++◌, Bool, true, false, Some, length, take, get_or, refl, sym, ap, ◌∙◌, subst, ⊎_elim, arith, length-append, if◌then◌else◌}
use Rattle.std.specs.Prelude.{slice_get, slice_set, ◌==◌}
use Rattle.std.specs.List.{All, sum_by}
use Rattle.std.proofs.lemmas.Bool.{cases_lt}
use Rattle.std.proofs.lemmas.Bool.Decides.{eqb_tells}
use Rattle.std.proofs.lemmas.List.{length-set, get_or-set_same, get_or-set_other, set_past, get_or_past, take_all}
use Rattle.std.proofs.lemmas.List.Sums.{sum_by_more, sum_by-take-le, sum_by-le}
use Rattle.std.proofs.lemmas.Option.{slice_get-get_or, get_or_from_slice_get}
use Rattle.tac_core.specs.declared.edges.Edge.{Edge}
use Rattle.tac_core.specs.declared.counts.FuncCounts.{FuncCounts}
use Rattle.tac_core.specs.Counts.{IsCount, AreCounts}
use Rattle.tac_core.specs.Weights.{AreByLabel, added, entries_at, count_from, count_to, out_weight, in_weight}
use Rattle.tac_core.proofs.Lists.{slice_get_front, slice_get_seam}

pub by_label_none : (f : ℕ → ℕ) → AreByLabel f 0 []
by_label_none f = record { many = refl; each = λ label lt. absurd (omega arith) }

pub by_label_push : (f : ℕ → ℕ) (n : ℕ) (xs : List ℕ) (y : ℕ) → AreByLabel f n xs → y ≡ f n → AreByLabel f (n + 1) (xs ++ y ∷ [])
by_label_push f n xs y h is =
    let long = h.many in
    record {
      many = length-append xs (y ∷ []) ∙ ap (λ k. k + 1) h.many;
      each = λ label lt.
          ⊎_elim
          (λ below. slice_get_front xs (y ∷ []) label (omega arith) ∙ h.each label below)
          (λ ge.
          let same : label ≡ length xs = omega arith in
          ap (λ k. slice_get (xs ++ y ∷ []) k) same ∙ slice_get_seam xs y [] ∙ ap Some (is ∙ ap f (omega arith)))
          (cases_lt label n);
    }

pub by_label_same : (f g : ℕ → ℕ) (n : ℕ) (xs : List ℕ) → ((label : ℕ) → f label ≡ g label) → AreByLabel f n xs → AreByLabel g n xs
by_label_same f g n xs same h = record { many = h.many; each = λ label lt. h.each label lt ∙ ap Some (same label) }

-- what the edges so far give a block, and what it has at first
abbrev pub so_far : (first : ℕ → ℕ) (which : ℕ → Edge → ℕ) (i : ℕ) (edges : List Edge) → ℕ → ℕ
so_far first which i edges label = first label + sum_by (which label) (take i edges)

-- an edge counts for one label alone
abbrev pub CountsAt : (which : ℕ → Edge → ℕ) (e : Edge) (at : ℕ) → Type 0
CountsAt which e at = (label : ℕ) → which label e ≡ (if at == label then e.count else 0)

at_value : (which : ℕ → Edge → ℕ) (e : Edge) (at label : ℕ) (xs : List ℕ) (x s : ℕ) → CountsAt which e at → at < length xs → get_or xs label 0 ≡ s → get_or (added xs at e.count) label 0 ≡ s + which label e
at_value which e at label xs x s counts lt is =
    ⊎_elim
    (λ yes'.
    let same : label ≡ at = sym yes'.1 in
    let value : which label e ≡ e.count = counts label ∙ ap (λ b. if b then e.count else 0) yes'.0 in
    ap (λ k. get_or (added xs at e.count) k 0) same ∙ get_or-set_same xs at (get_or xs at 0 + e.count) 0 lt
    ∙ ap (λ k. get_or xs k 0 + e.count) (sym same) ∙ ap (λ k. k + e.count) is ∙ ap (λ k. s + k) (sym value))
    (λ no'.
    let other : label ≢ at = λ e. no'.1 (sym e) in
    let value : which label e ≡ 0 = counts label ∙ ap (λ b. if b then e.count else 0) no'.0 in
    get_or-set_other xs at label (get_or xs at 0 + e.count) 0 other ∙ is ∙ omega (arith, value))
    (eqb_tells at label)

pub by_label_more : (first : ℕ → ℕ) (which : ℕ → Edge → ℕ) (n i : ℕ) (es : List Edge) (d : Edge) (at : ℕ) (xs ys : List ℕ) → i < length es → CountsAt which (get_or es i d) at → ys ≡ added xs at (get_or es i d).count → AreByLabel (so_far first which i es) n xs → AreByLabel (so_far first which (i + 1) es) n ys
by_label_more first which n i es d at xs ys lt counts made h =
    let e : Edge = get_or es i d in
    let long = h.many in
    let same_long : length (added xs at e.count) ≡ length xs = length-set xs at (get_or xs at 0 + e.count) in
    subst (AreByLabel (so_far first which (i + 1) es) n) (sym made)
    (record {
      many = same_long ∙ h.many;
      each = λ label below.
          let old : get_or xs label 0 ≡ so_far first which i es label = get_or_from_slice_get xs label _ 0 (h.each label below) in
          let more : sum_by (which label) (take (i + 1) es) ≡ sum_by (which label) (take i es) + which label e = sum_by_more (which label) es i d lt in
          let now : get_or (added xs at e.count) label 0 ≡ so_far first which i es label + which label e =
          ⊎_elim
          (λ inside. at_value which e at label xs 0 _ counts inside old)
          (λ past.
          let other : at ≢ label = omega arith in
          ap (λ l. get_or l label 0) (set_past xs at _ past) ∙ old ∙ omega (arith, none which e at label counts other))
          (cases_lt at (length xs)) in
          slice_get-get_or (added xs at e.count) label 0 (omega arith) ∙ ap Some (now ∙ omega (arith, more));
    })
  where
    none : (which : ℕ → Edge → ℕ) (e : Edge) (at label : ℕ) → CountsAt which e at → at ≢ label → which label e ≡ 0
    none which e at label counts other =
        ⊎_elim (λ yes'. absurd (other yes'.1)) (λ no'. counts label ∙ ap (λ b. if b then e.count else 0) no'.0) (eqb_tells at label)

-- what one edge adds is a count
abbrev pub IsOfEdge : (ℕ → Edge → ℕ) → Type 0
IsOfEdge which = (label : ℕ) (e : Edge) → which label e ≤ e.count

bounded : (which : ℕ → Edge → ℕ) → IsOfEdge which → (es : List Edge) (i label : ℕ) → All (λ e. (0 < e.count) × IsCount e.count) es → sum_by (which label) (take i es) ≤ length es * 9223372036854775807
bounded which of es i label all =
    let whole : sum_by (which label) es ≤ length es * 9223372036854775807 =
    sum_by-le (which label) 9223372036854775807 es (λ k d lt. let one = of label (get_or es k d) in let small = (all k d lt).1 in omega arith) in
    let part = sum_by-take-le (which label) es i in
    omega arith

-- so the sums have room in 128 bits
pub has_room : (entries : ℕ) (which : ℕ → Edge → ℕ) (n i : ℕ) (es : List Edge) (d : Edge) (at : ℕ) (xs : List ℕ) → IsOfEdge which → IsCount entries → length es < 18446744073709551616 → All (λ e. (0 < e.count) × IsCount e.count) es → i < length es → AreByLabel (so_far (entries_at entries) which i es) n xs → get_or xs at 0 + (get_or es i d).count < 340282366920938463463374607431768211456
has_room entries which n i es d at xs of few long all lt h =
    let sum = bounded which of es i at all in
    let one = (all i d lt).1 in
    let many = h.many in
    ⊎_elim
    (λ inside.
    let value : get_or xs at 0 ≡ so_far (entries_at entries) which i es at = get_or_from_slice_get xs at _ 0 (h.each at (omega arith)) in
    let first : entries_at entries at ≤ entries = at_most entries (at == 0) in
    omega arith)
    (λ past. let none : get_or xs at 0 ≡ 0 = get_or_past xs at 0 past in omega arith)
    (cases_lt at (length xs))
  where
    at_most : (entries : ℕ) (b : Bool) → (if b then entries else 0) ≤ entries
    at_most entries true = omega arith
    at_most entries false = omega arith

pick_at_most : (count : ℕ) (b : Bool) → (if b then count else 0) ≤ count
pick_at_most count true = omega arith
pick_at_most count false = omega arith

pub from_of_edge : IsOfEdge count_from
from_of_edge label e = pick_at_most e.count (e.from == label)

pub to_of_edge : IsOfEdge count_to
to_of_edge label e = pick_at_most e.count (e.to == label)

pub from_at : (e : Edge) → CountsAt count_from e e.from
from_at e label = refl

pub to_at : (e : Edge) → CountsAt count_to e e.to
to_at e label = refl

none_entered : (label : ℕ) → entries_at 0 label ≡ 0
none_entered label = same (label == 0) 0
  where
    same : (b : Bool) (z : ℕ) → (if b then z else z) ≡ z
    same true z = refl
    same false z = refl

-- no edge yet
pub by_label_start : (which : ℕ → Edge → ℕ) (entries n : ℕ) (es : List Edge) (xs : List ℕ) → AreByLabel (entries_at entries) n xs → AreByLabel (so_far (entries_at entries) which 0 es) n xs
by_label_start which entries n es xs h = by_label_same _ _ n xs (λ label. omega arith) h

-- all edges
pub in_weights_done : (c : FuncCounts) (n i : ℕ) (xs : List ℕ) → length c.edges ≤ i → AreByLabel (so_far (entries_at c.entries) count_to i c.edges) n xs → AreByLabel (in_weight c) n xs
in_weights_done c n i xs done h =
    by_label_same _ _ n xs (λ label. ap (λ es. entries_at c.entries label + sum_by (count_to label) es) (take_all i c.edges done)) h

pub out_weights_done : (c : FuncCounts) (n i : ℕ) (xs : List ℕ) → length c.edges ≤ i → AreByLabel (so_far (entries_at 0) count_from i c.edges) n xs → AreByLabel (out_weight c) n xs
out_weights_done c n i xs done h =
    by_label_same _ _ n xs
    (λ label.
    let bare : 0 + sum_by (count_from label) c.edges ≡ sum_by (count_from label) c.edges = omega arith in
    ap (λ es. entries_at 0 label + sum_by (count_from label) es) (take_all i c.edges done)
    ∙ ap (λ k. k + sum_by (count_from label) c.edges) (none_entered label) ∙ bare)
    h
