-- Tables of best edges, filled edge by edge.
use Rattle.std.proofs.Common.{◌≡◌, ◌≢◌, ◌+◌, ◌<◌, ◌≤◌, ℕ, zero, suc, List, [], ◌∷◌, Option, Some, None, length, replicate, get_or, refl, sym, ap, ◌∙◌, subst, ⊎_elim, arith}
use Rattle.std.specs.Prelude.{slice_get, slice_set, ◌↔◌}
use Rattle.std.proofs.lemmas.Bool.{cases_lt}
use Rattle.std.proofs.lemmas.Bool.Decides.{eqb_tells}
use Rattle.std.proofs.lemmas.List.{length-set}
use Rattle.std.proofs.lemmas.Option.{slice_get_within, slice_get-get_or}
use Rattle.tac_core.specs.declared.code.TacFunc.{TacFunc}
use Rattle.tac_core.specs.declared.edges.Edge.{Edge}
use Rattle.tac_core.specs.declared.counts.FuncCounts.{FuncCounts}
use Rattle.trace_pick.specs.Best.{IsMutuallyBest}
use Rattle.trace_pick.specs.Tables.{IsTable, IsEarly, IsEarlyBest, AreLinks}
use Rattle.trace_pick.proofs.Alone.{one_in, one_out}
use Rattle.trace_pick.proofs.Edges.{taken_stands}

pub set_same : {X : Type 0} (xs : List X) (i : ℕ) (y : X) → i < length xs → slice_get (slice_set xs i y) i ≡ Some y
set_same [] i y lt = absurd (omega arith)
set_same (x ∷ xs) zero y lt = refl
set_same (x ∷ xs) (suc i) y lt = set_same xs i y (omega arith)

pub set_other : {X : Type 0} (xs : List X) (i j : ℕ) (y : X) → j ≢ i → slice_get (slice_set xs i y) j ≡ slice_get xs j
set_other [] i j y ne = refl
set_other (x ∷ xs) zero zero y ne = absurd (ne refl)
set_other (x ∷ xs) zero (suc j) y ne = refl
set_other (x ∷ xs) (suc i) zero y ne = refl
set_other (x ∷ xs) (suc i) (suc j) y ne = set_other xs i j y (λ e. ne (ap suc e))

none_there : (n i b : ℕ) → slice_get (replicate n None) i ≡ Some (Some b) → ⊥
none_there zero i b e = absurd cc
none_there (suc n) zero b e = absurd cc
none_there (suc n) (suc i) b e = none_there n i b e

-- a table of no one
table_none : (n : ℕ) (R : ℕ → ℕ → Type 0) (table : List (Option ℕ)) → table ≡ replicate n None → length table ≡ n → ((a b : ℕ) → R a b → ⊥) → IsTable n R table
table_none n R table is many none = record {
  many = many;
  tells = λ a b. (λ e. absurd (none_there n a b (sym (ap (λ z. slice_get z a) is) ∙ e)), λ r. absurd (none a b r));
}

-- one more in a table: whoever stood there for x is y too
pub table_set : (n : ℕ) (R S : ℕ → ℕ → Type 0) (table grown : List (Option ℕ)) (x y : ℕ) → grown ≡ slice_set table x (Some y) → x < n → S x y
    → ((a b : ℕ) → R a b → S a b) → ((b : ℕ) → S x b → b ≡ y) → ((a b : ℕ) → a ≢ x → S a b → R a b) → IsTable n R table → IsTable n S grown
table_set n R S table grown x y is lt own more one less h = subst (IsTable n S) (sym is) (record { many = length-set table x (Some y) ∙ h.many; tells = tells })
  where
    tells : (a b : ℕ) → (slice_get (slice_set table x (Some y)) a ≡ Some (Some b)) ↔ S a b
    tells a b =
        ⊎_elim
        (λ t.
        let same : a ≡ x = t.1 in
        let inside : x < length table = let many = h.many in omega arith in
        let at : slice_get (slice_set table x (Some y)) a ≡ Some (Some y) = ap (λ z. slice_get (slice_set table x (Some y)) z) same ∙ set_same table x (Some y) inside in (
          λ e. let both = sym at ∙ e in let is' : y ≡ b = cc in subst (λ z. S z b) (sym same) (subst (S x) is' own),
          λ s. at ∙ ap (λ z. Some (Some z)) (sym (one b (subst (λ z. S z b) same s))),
        ))
        (λ f.
        let other = set_other table x a (Some y) f.1 in
        (λ e. more a b ((h.tells a b).0 (sym other ∙ e)), λ s. other ∙ (h.tells a b).1 (less a b f.1 s)))
        (eqb_tells a x)

-- the same table for a relation that says the same
pub table_same : (n : ℕ) (R S : ℕ → ℕ → Type 0) (table : List (Option ℕ)) → ((a b : ℕ) → R a b → S a b) → ((a b : ℕ) → S a b → R a b) → IsTable n R table → IsTable n S table
table_same n R S table more less h = record {
  many = h.many;
  tells = λ a b. (λ e. more a b ((h.tells a b).0 e), λ s. (h.tells a b).1 (less a b s));
}

later : (es : List Edge) (i a b : ℕ) → IsEarly es i a b → IsEarly es (i + 1) a b
later es i a b e = record { place = e.place; early = let lt = e.early in omega arith; edge = e.edge; is = e.is; from_is = e.from_is; to_is = e.to_is }

-- an early edge was early before, or is the last
data IsLate (es : List Edge) (i : ℕ) (e : Edge) (a b : ℕ) : Type 0 where
  Sooner : IsEarly es i a b → IsLate es i e a b
  Now : e.from ≡ a → e.to ≡ b → IsLate es i e a b

when : (es : List Edge) (i : ℕ) (e : Edge) (a b : ℕ) → slice_get es i ≡ Some e → IsEarly es (i + 1) a b → IsLate es i e a b
when es i e a b at h =
    ⊎_elim
    (λ lt. Sooner (record { place = h.place; early = lt; edge = h.edge; is = h.is; from_is = h.from_is; to_is = h.to_is }))
    (λ ge.
    let lt = h.early in
    let same : h.place ≡ i = omega arith in
    let both : Some h.edge ≡ Some e = sym h.is ∙ ap (λ z. slice_get es z) same ∙ at in
    let one : h.edge ≡ e = cc in
    Now (subst (λ z. z.from ≡ a) one h.from_is) (subst (λ z. z.to ≡ b) one h.to_is))
    (cases_lt h.place i)

pub links_none : (f : TacFunc) (c : FuncCounts) (prior next : List (Option ℕ)) → prior ≡ replicate (length f.blocks) None → length prior ≡ length f.blocks → next ≡ replicate (length f.blocks) None → length next ≡ length f.blocks → AreLinks f c 0 prior next
links_none f c prior next p m q n = record {
  priors = table_none (length f.blocks) (λ b a. IsEarlyBest f c 0 a b) prior p m (λ b a t. let lt = t.1.early in absurd (omega arith));
  nexts = table_none (length f.blocks) (IsEarlyBest f c 0) next q n (λ a b t. let lt = t.1.early in absurd (omega arith));
}

-- an edge that is not best changes nothing
pub links_skip : (f : TacFunc) (c : FuncCounts) (i : ℕ) (e : Edge) (prior next : List (Option ℕ)) → slice_get c.edges i ≡ Some e → (IsMutuallyBest f c e.from e.to → ⊥) → AreLinks f c i prior next → AreLinks f c (i + 1) prior next
links_skip f c i e prior next at not' h = record {
  priors = table_same (length f.blocks) _ (λ b a. IsEarlyBest f c (i + 1) a b) prior (λ b a t. (t.0, later c.edges i a b t.1)) (λ b a t. back a b t) h.priors;
  nexts = table_same (length f.blocks) _ (IsEarlyBest f c (i + 1)) next (λ a b t. (t.0, later c.edges i a b t.1)) (λ a b t. back a b t) h.nexts;
}
  where
    back : (a b : ℕ) → IsEarlyBest f c (i + 1) a b → IsEarlyBest f c i a b
    back a b t = by_time (when c.edges i e a b at t.1)
      where
        by_time : IsLate c.edges i e a b → IsEarlyBest f c i a b
        by_time (Sooner s) = (t.0, s)
        by_time (Now x y) = absurd (not' (subst (λ z. IsMutuallyBest f c z e.to) (sym x) (subst (IsMutuallyBest f c a) (sym y) t.0)))

-- a best edge is put in both tables
pub links_more : (f : TacFunc) (c : FuncCounts) (i : ℕ) (e : Edge) (prior next prior' next' : List (Option ℕ)) → slice_get c.edges i ≡ Some e → IsMutuallyBest f c e.from e.to → e.from < length f.blocks → e.to < length f.blocks
    → prior' ≡ slice_set prior e.to (Some e.from) → next' ≡ slice_set next e.from (Some e.to) → AreLinks f c i prior next → AreLinks f c (i + 1) prior' next'
links_more f c i e prior next prior' next' at best from to p q h = record {
  priors = table_set (length f.blocks) (λ b a. IsEarlyBest f c i a b) (λ b a. IsEarlyBest f c (i + 1) a b) prior prior' e.to e.from p to own
      (λ b a t. (t.0, later c.edges i a b t.1))
      (λ a t. one_in f c a e.from e.to t.0 best)
      (λ b a ne t. back a b (λ x y. ne (sym y)) t)
      h.priors;
  nexts = table_set (length f.blocks) (IsEarlyBest f c i) (IsEarlyBest f c (i + 1)) next next' e.from e.to q from own
      (λ a b t. (t.0, later c.edges i a b t.1))
      (λ b t. one_out f c e.from b e.to t.0 best)
      (λ a b ne t. back a b (λ x y. ne (sym x)) t)
      h.nexts;
}
  where
    own : IsEarlyBest f c (i + 1) e.from e.to
    own = (best, record { place = i; early = omega arith; edge = e; is = at; from_is = refl; to_is = refl })

    back : (a b : ℕ) → ((e.from ≡ a) → (e.to ≡ b) → ⊥) → IsEarlyBest f c (i + 1) a b → IsEarlyBest f c i a b
    back a b other t = by_time (when c.edges i e a b at t.1)
      where
        by_time : IsLate c.edges i e a b → IsEarlyBest f c i a b
        by_time (Sooner s) = (t.0, s)
        by_time (Now x y) = absurd (other x y)

-- after all edges the tables have all mutually best ones
pub links_done : (f : TacFunc) (c : FuncCounts) (i : ℕ) (prior next : List (Option ℕ)) → length c.edges ≤ i → AreLinks f c i prior next
    → IsTable (length f.blocks) (λ b a. IsMutuallyBest f c a b) prior × IsTable (length f.blocks) (IsMutuallyBest f c) next
links_done f c i prior next all h = (
  table_same (length f.blocks) _ (λ b a. IsMutuallyBest f c a b) prior (λ b a t. t.0) (λ b a t. (t, early a b t)) h.priors,
  table_same (length f.blocks) _ (IsMutuallyBest f c) next (λ a b t. t.0) (λ a b t. (t, early a b t)) h.nexts,
)
  where
    early : (a b : ℕ) → IsMutuallyBest f c a b → IsEarly c.edges i a b
    early a b t =
        let s = taken_stands c.edges a b t.taken in
        let lt = slice_get_within c.edges s.place s.edge s.is in
        record { place = s.place; early = omega arith; edge = s.edge; is = s.is; from_is = s.from_is; to_is = s.to_is }

pub many_same : {X : Type 0} (n : ℕ) (x : X) → length (replicate n x) ≡ n
many_same zero x = refl
many_same (suc n) x = ap suc (many_same n x)

pub links_start : (f : TacFunc) (c : FuncCounts) (n : ℕ) (prior next : List (Option ℕ)) → n ≡ length f.blocks → prior ≡ replicate n None → next ≡ replicate n None → AreLinks f c 0 prior next
links_start f c n prior next long p q =
    let p' : prior ≡ replicate (length f.blocks) None = p ∙ ap (λ z. replicate z None) long in
    let q' : next ≡ replicate (length f.blocks) None = q ∙ ap (λ z. replicate z None) long in
    links_none f c prior next p' (ap length p' ∙ many_same (length f.blocks) None) q' (ap length q' ∙ many_same (length f.blocks) None)

pub edge_here : (edges given : List Edge) (i : ℕ) (d : Edge) → edges ≡ given → i < length edges → slice_get given i ≡ Some (get_or edges i d)
edge_here edges given i d same lt = ap (λ z. slice_get z i) (sym same) ∙ slice_get-get_or edges i d lt
