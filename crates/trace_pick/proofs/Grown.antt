-- Walks grow step by step.
use Rattle.std.proofs.Common.{◌≡◌, ◌+◌, ◌<◌, ◌≤◌, ◌++◌, ℕ, zero, suc, Bool, true, false, List, [], ◌∷◌, Option, Some, None, length, refl, sym, ap, ◌∙◌, subst, ⊎_elim, arith, length-append}
use Rattle.std.specs.Prelude.{slice_get}
use Rattle.std.proofs.lemmas.Bool.{cases_lt}
use Rattle.std.proofs.lemmas.Option.{slice_get_within, slice_get_past, get_or_from_slice_get}
use Rattle.tac_core.specs.Traces.{Labels, StandsAt}
use Rattle.tac_core.proofs.Lists.{slice_get_front, slice_get_seam}
use Rattle.trace_pick.specs.Tables.{sum_at, IsAmong, IsWalk, IsWalkTo, IsWalkFrom, AreWalks}

-- what stands in a list with one more behind it: in the list, or the one behind
pub data IsPushed {X : Type 0} (xs : List X) (y : X) (k : ℕ) (x : X) : Type 0 where
  Before : slice_get xs k ≡ Some x → IsPushed xs y k x
  Last : k ≡ length xs → x ≡ y → IsPushed xs y k x

pub pushed_at : {X : Type 0} (xs : List X) (y : X) (k : ℕ) (x : X) → slice_get (xs ++ y ∷ []) k ≡ Some x → IsPushed xs y k x
pushed_at xs y k x at =
    ⊎_elim
    (λ lt. Before (sym (slice_get_front xs (y ∷ []) k lt) ∙ at))
    (λ ge.
    let long = slice_get_within (xs ++ y ∷ []) k x at in
    let whole = length-append xs (y ∷ []) in
    let last : k ≡ length xs = omega arith in
    let both : Some x ≡ Some y = sym at ∙ ap (λ z. slice_get (xs ++ y ∷ []) z) last ∙ slice_get_seam xs y [] in
    Last last cc)
    (cases_lt k (length xs))

pub walk_begins : (step : ℕ → Option ℕ) (first : ℕ) → IsWalkTo step first first (first ∷ [])
walk_begins step first = record { begun = refl; linked = linked; last = last }
  where
    linked : (k a b : ℕ) → slice_get (first ∷ []) k ≡ Some a → slice_get (first ∷ []) (suc k) ≡ Some b → step a ≡ Some b
    linked zero a b p q = absurd cc
    linked (suc k) a b p q = absurd cc

    last : (k a : ℕ) → slice_get (first ∷ []) k ≡ Some a → slice_get (first ∷ []) (suc k) ≡ None → a ≡ first
    last zero a p q = let both : Some first ≡ Some a = p in cc
    last (suc k) a p q = absurd cc

pub walk_more : (step : ℕ → Option ℕ) (first at more : ℕ) (chain grown : Labels) → grown ≡ chain ++ more ∷ [] → step at ≡ Some more → IsWalkTo step first at chain → IsWalkTo step first more grown
walk_more step first at more chain grown is leads h = subst (IsWalkTo step first more) (sym is) (record { begun = begun; linked = linked; last = last })
  where
    begun : slice_get (chain ++ more ∷ []) 0 ≡ Some first
    begun = slice_get_front chain (more ∷ []) 0 (slice_get_within chain 0 first h.begun) ∙ h.begun

    linked : (k a b : ℕ) → slice_get (chain ++ more ∷ []) k ≡ Some a → slice_get (chain ++ more ∷ []) (suc k) ≡ Some b → step a ≡ Some b
    linked k a b p q = by_place (pushed_at chain more (suc k) b q)
      where
        inside : k < length chain
        inside = let long = slice_get_within (chain ++ more ∷ []) (suc k) b q in let whole = length-append chain (more ∷ []) in omega arith

        own : slice_get chain k ≡ Some a
        own = sym (slice_get_front chain (more ∷ []) k inside) ∙ p

        by_place : IsPushed chain more (suc k) b → step a ≡ Some b
        by_place (Before at') = h.linked k a b own at'
        by_place (Last at' same) =
            let one : a ≡ at = h.last k a own (slice_get_past chain (suc k) (omega arith)) in
            ap step one ∙ leads ∙ ap Some (sym same)

    last : (k a : ℕ) → slice_get (chain ++ more ∷ []) k ≡ Some a → slice_get (chain ++ more ∷ []) (suc k) ≡ None → a ≡ more
    last k a p q = by_place (pushed_at chain more k a p)
      where
        by_place : IsPushed chain more k a → a ≡ more
        by_place (Last at' same) = same
        by_place (Before at') =
            let lt = slice_get_within chain k a at' in
            ⊎_elim
            (λ less. absurd (let there = sym (slice_get_front chain (more ∷ []) (suc k) less) in let none : slice_get chain (suc k) ≡ None = there ∙ q in
            not_none chain (suc k) less none))
            (λ ge. let same : suc k ≡ length chain = omega arith in absurd (let seam = sym q ∙ ap (λ z. slice_get (chain ++ more ∷ []) z) same ∙ slice_get_seam chain more [] in cc))
            (cases_lt (suc k) (length chain))
          where
            not_none : (xs : List ℕ) (i : ℕ) → i < length xs → slice_get xs i ≡ None → ⊥
            not_none [] i l e = absurd (omega arith)
            not_none (x ∷ xs) zero l e = absurd cc
            not_none (x ∷ xs) (suc i) l e = not_none xs i (omega arith) e

pub walk_done : (step : ℕ → Option ℕ) (first at : ℕ) (chain : Labels) → step at ≡ None → IsWalkTo step first at chain → IsWalk step first chain
walk_done step first at chain ends h = record {
  begun = h.begun;
  linked = h.linked;
  whole = λ k a p q. ap step (h.last k a p q) ∙ ends;
}

pub no_walks : (step : ℕ → Option ℕ) (starts : ℕ → Bool) → AreWalks step starts 0 []
no_walks step starts = record {
  each = λ i chain is. absurd cc;
  all = λ l lt s. absurd (omega arith);
  in_order = λ i j l m lt s t. let e = s.is in absurd cc;
}

-- one more label, which is no start
pub walks_skip : (step : ℕ → Option ℕ) (starts : ℕ → Bool) (n : ℕ) (chains : List Labels) → starts n ≡ false → AreWalks step starts n chains → AreWalks step starts (n + 1) chains
walks_skip step starts n chains not' h = record {
  each = λ i chain is. let own = h.each i chain is in record { first = own.first; early = let lt = own.early in omega arith; is_start = own.is_start; walk = own.walk };
  all = λ l lt s. ⊎_elim (λ less. h.all l less s) (λ ge. let same : l ≡ n = omega arith in absurd (let both : true ≡ false = sym s ∙ ap starts same ∙ not' in cc)) (cases_lt l n);
  in_order = h.in_order;
}

pub walks_more : (step : ℕ → Option ℕ) (starts : ℕ → Bool) (n : ℕ) (chain : Labels) (chains grown : List Labels) → grown ≡ chains ++ chain ∷ [] → starts n ≡ true → IsWalk step n chain → AreWalks step starts n chains → AreWalks step starts (n + 1) grown
walks_more step starts n chain chains grown is start walk h = subst (AreWalks step starts (n + 1)) (sym is) (record { each = each; all = all; in_order = in_order })
  where
    each : (i : ℕ) (x : Labels) → slice_get (chains ++ chain ∷ []) i ≡ Some x → IsWalkFrom step starts (n + 1) x
    each i x at = by_place (pushed_at chains chain i x at)
      where
        by_place : IsPushed chains chain i x → IsWalkFrom step starts (n + 1) x
        by_place (Before at') = let own = h.each i x at' in record { first = own.first; early = let lt = own.early in omega arith; is_start = own.is_start; walk = own.walk }
        by_place (Last at' same) = record { first = n; early = omega arith; is_start = start; walk = subst (IsWalk step n) (sym same) walk }

    all : (l : ℕ) → l < n + 1 → starts l ≡ true → IsAmong (chains ++ chain ∷ []) l
    all l lt s =
        ⊎_elim
        (λ less. let a = h.all l less s in
        record {
          chain = a.chain;
          stands = record { chain = a.stands.chain; is = slice_get_front chains (chain ∷ []) a.chain (slice_get_within chains a.chain a.stands.chain a.stands.is) ∙ a.stands.is; there = a.stands.there };
        })
        (λ ge. let same : n ≡ l = omega arith in
        record { chain = length chains; stands = record { chain = chain; is = slice_get_seam chains chain []; there = walk.begun ∙ ap Some same } })
        (cases_lt l n)

    first_of : (i l : ℕ) → StandsAt chains l i 0 → l < n
    first_of i l s =
        let own = h.each i s.chain s.is in
        let both : Some own.first ≡ Some l = sym own.walk.begun ∙ s.there in
        let same : own.first ≡ l = cc in
        subst (λ z. z < n) same own.early

    in_order : (i j l m : ℕ) → i < j → StandsAt (chains ++ chain ∷ []) l i 0 → StandsAt (chains ++ chain ∷ []) m j 0 → l < m
    in_order i j l m lt s t = by_place (pushed_at chains chain j t.chain t.is)
      where
        early : j ≤ length chains
        early = let long = slice_get_within (chains ++ chain ∷ []) j t.chain t.is in let whole = length-append chains (chain ∷ []) in omega arith

        own : StandsAt chains l i 0
        own = let e = early in record { chain = s.chain; is = sym (slice_get_front chains (chain ∷ []) i (omega arith)) ∙ s.is; there = s.there }

        by_place : IsPushed chains chain j t.chain → l < m
        by_place (Before at') = h.in_order i j l m lt own (record { chain = t.chain; is = at'; there = t.there })
        by_place (Last at' same) =
            let both : Some m ≡ Some n = sym t.there ∙ ap (λ z. slice_get z 0) same ∙ walk.begun in
            let one : m ≡ n = cc in
            let less : l < n = first_of i l own in
            omega arith

pub sum_none : (sums : List ℕ) (l : ℕ) → None ≡ slice_get sums l → 0 ≡ sum_at sums l
sum_none [] l e = refl
sum_none (x ∷ xs) zero e = absurd cc
sum_none (x ∷ xs) (suc l) e = sum_none xs l e

pub sum_some : (sums : List ℕ) (l x : ℕ) → Some x ≡ slice_get sums l → x ≡ sum_at sums l
sum_some sums l x e = sym (get_or_from_slice_get sums l x 0 (sym e))
