-- The first write of a name in a list of writes.
use Rattle.std.proofs.Common.{◌≡◌, ◌≢◌, ℕ, true, false, List, ◌∷◌, Some, ap, sym, ◌∙◌, cond}
use Rattle.std.proofs.lemmas.Bool.{false_from_ne_true}
use Rattle.std.proofs.lemmas.Slice.Eq.{bytes_eq-Decides}
use Rattle.std.specs.FinMap.{find}
use Rattle.std.specs.Ordering.{nat_cmp, eq_by_cmp}
use Rattle.std.specs.Cmp.Lexicographic.{slice_cmp, texts_ties}

-- two names tie in their order exactly where they are equal
ties_same : (a b : List ℕ) → a ≡ b → eq_by_cmp (slice_cmp nat_cmp) a b ≡ true
ties_same a b same = sym (texts_ties a b) ∙ (bytes_eq-Decides a b).1 same

ties_other : (a b : List ℕ) → a ≢ b → eq_by_cmp (slice_cmp nat_cmp) a b ≡ false
ties_other a b other = false_from_ne_true _ (λ t. other ((bytes_eq-Decides a b).0 (texts_ties a b ∙ t)))

pub found_here : (name : List ℕ) (first : List ℕ × List ℕ) (rest : List (List ℕ × List ℕ)) → first.0 ≡ name → find (slice_cmp nat_cmp) name (first ∷ rest) ≡ Some first.1
found_here name first rest same =
    ap (λ b. cond b (Some first.1) (find (slice_cmp nat_cmp) name rest)) (ties_same name first.0 (sym same))

pub found_later : (name : List ℕ) (first : List ℕ × List ℕ) (rest : List (List ℕ × List ℕ)) → first.0 ≢ name → find (slice_cmp nat_cmp) name (first ∷ rest) ≡ find (slice_cmp nat_cmp) name rest
found_later name first rest other =
    ap (λ b. cond b (Some first.1) (find (slice_cmp nat_cmp) name rest)) (ties_other name first.0 (λ e. other (sym e)))
