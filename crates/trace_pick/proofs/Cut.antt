-- Label by label all cycles are cut, and all blocks get their sums.
use Rattle.std.proofs.Common.{◌≡◌, ◌+◌, ◌<◌, ◌≤◌, ℕ, zero, suc, List, Option, Some, None, Bool, false, length, replicate, refl, sym, ◌∙◌, subst, ⊎_elim, arith}
use Rattle.std.specs.Prelude.{slice_set}
use Rattle.std.proofs.lemmas.Bool.{cases_lt}
use Rattle.std.proofs.lemmas.Option.{slice_get_within}
use Rattle.tac_core.specs.declared.code.Block.{Block}
use Rattle.tac_core.specs.declared.code.TacFunc.{TacFunc}
use Rattle.tac_core.specs.declared.counts.FuncCounts.{FuncCounts}
use Rattle.tac_core.specs.Weights.{AreByLabel, in_weight}
use Rattle.trace_pick.specs.Best.{IsMutuallyBest, Reaches}
use Rattle.trace_pick.specs.Tables.{IsTable, sum_at, AreLow}
use Rattle.trace_pick.specs.Settled.{AreInside, IsSeen, CanWalkBack, IsStartOf, IsSettled, IsKept, CanSettle, IsSettling, IsKnown, AreSettledUpto, AreCut}
use Rattle.trace_pick.proofs.Linked.{table_same, many_same}
use Rattle.trace_pick.proofs.Settling.{settled_on, ops_some}
use Rattle.trace_pick.proofs.WalkedBack.{at_some}

none_seen : (n x : ℕ) → IsSeen (replicate n false) x → ⊥
none_seen zero x h = absurd cc
none_seen (suc n) zero h = absurd cc
none_seen (suc n) (suc x) h = none_seen n x h

pub none_summed : (n x : ℕ) → sum_at (replicate n 0) x ≡ 0
none_summed zero x = refl
none_summed (suc n) zero = refl
none_summed (suc n) (suc x) = none_summed n x

none_settled : (n x : ℕ) → IsSettled (replicate n 0) x → ⊥
none_settled n x h = let is = none_summed n x in absurd (omega arith)

pub inside_by : (n : ℕ) (R : ℕ → ℕ → Type 0) (table : List (Option ℕ)) → IsTable n R table → ((a b : ℕ) → R a b → b < n) → AreInside n table
inside_by n R table h low a b e = low a b ((h.tells a b).0 (at_some table a b e))

pub upto_none : (f : TacFunc) (c : FuncCounts) (prior cut : List (Option ℕ)) (seen : List Bool) (sums : List ℕ) (n : ℕ) → n ≡ length f.blocks → cut ≡ prior → seen ≡ replicate n false → sums ≡ replicate n 0
    → IsTable (length f.blocks) (λ b a. IsMutuallyBest f c a b) prior → AreSettledUpto f c 0 cut seen sums
upto_none f c prior cut seen sums n long is seen_is sums_are h =
    subst (λ z. AreSettledUpto f c 0 z seen sums) (sym is)
    (subst (λ z. AreSettledUpto f c 0 prior z sums) (sym seen_is) (subst (λ z. AreSettledUpto f c 0 prior (replicate n false) z) (sym sums_are) (record {
      all = record {
        many = many_same n 0 ∙ long;
        kept = table_same (length f.blocks) (λ b a. IsMutuallyBest f c a b) (IsKept f c (replicate n 0)) prior
            (λ b a t. record { best = t; uncut = λ s. absurd (none_settled n b s) })
            (λ b a k. k.best)
            h;
        back = λ a b s g. absurd (none_settled n b s);
        on = λ a b s ne best. absurd (none_settled n a s);
        summed = λ b s. absurd (none_settled n b s);
      };
      low = λ l. let none = none_summed n l in omega arith;
      many_seen = many_same n false ∙ long;
      back = λ a b best s. absurd (none_seen n b s);
      within = λ x s. absurd (none_seen n x s);
      done = λ l lt. absurd (omega arith);
    })))

-- a label that has its sum
pub upto_skip : (f : TacFunc) (c : FuncCounts) (i : ℕ) (cut : List (Option ℕ)) (seen : List Bool) (sums : List ℕ) → IsSettled sums i → AreSettledUpto f c i cut seen sums → AreSettledUpto f c (i + 1) cut seen sums
upto_skip f c i cut seen sums s h = record {
  all = h.all;
  low = h.low;
  many_seen = h.many_seen;
  back = h.back;
  within = h.within;
  done = λ l lt. ⊎_elim (λ less. h.done l less) (λ ge. let same : i ≡ l = omega arith in subst (λ z. IsSettled sums z) same s) (cases_lt l i);
}

-- no block that was passed leads to one without a sum
pub can_walk_back : (f : TacFunc) (c : FuncCounts) (i label : ℕ) (prior cut : List (Option ℕ)) (weights : List ℕ) (seen : List Bool) (sums : List ℕ) → IsKnown f c → IsTable (length f.blocks) (λ b a. IsMutuallyBest f c a b) prior
    → AreByLabel (in_weight c) (length f.blocks) weights → label < length f.blocks → sum_at sums label ≡ 0 → AreSettledUpto f c i cut seen sums → CanWalkBack f c prior weights seen label
can_walk_back f c i label prior cut weights seen sums known priors weighed lt none h = record {
  priors = priors;
  weighed = weighed;
  leaves = known.leaves;
  within = lt;
  back = h.back;
  fresh = λ x s r. let settled = settled_on f c cut sums x label h.all (h.within x s) r in absurd (omega arith);
}

pub can_settle : (f : TacFunc) (c : FuncCounts) (i label first : ℕ) (blocks : List Block) (next cut : List (Option ℕ)) (seen marked : List Bool) (sums : List ℕ) → IsKnown f c → blocks ≡ f.blocks → IsTable (length f.blocks) (IsMutuallyBest f c) next
    → sum_at sums label ≡ 0 → IsStartOf f c seen marked label first → AreSettledUpto f c i cut seen sums → CanSettle f c blocks next cut sums first
can_settle f c i label first blocks next cut seen marked sums known is nexts none found h = record {
  blocks_are = is;
  nexts = nexts;
  enters = known.enters;
  some = λ b lt. ops_some f.blocks b lt;
  within = found.within;
  start = found.start;
  unsettled = λ s. let settled = settled_on f c cut sums first label h.all s found.leads in absurd (omega arith);
  all = h.all;
}

-- a label that had no sum
pub upto_more : (f : TacFunc) (c : FuncCounts) (i label first : ℕ) (cut cut' : List (Option ℕ)) (seen marked : List Bool) (sums given : List ℕ) → label ≡ i → IsStartOf f c seen marked label first → cut' ≡ slice_set cut first None
    → length marked ≡ length seen → AreLow given → IsSettling f c (slice_set cut first None) sums given first None → AreSettledUpto f c i cut seen sums → AreSettledUpto f c (i + 1) cut' marked given
upto_more f c i label first cut cut' seen marked sums given here found is long low settled h = subst (λ z. AreSettledUpto f c (i + 1) z marked given) (sym is) (record {
  all = settled.all;
  low = low;
  many_seen = long ∙ h.many_seen;
  back = found.back;
  within = λ x s. ⊎_elim (λ o. settled.grown x (h.within x o)) (λ r. reached x r) (found.seen x s);
  done = λ l lt. ⊎_elim (λ less. settled.grown l (h.done l less)) (λ ge. let same : label ≡ l = omega arith in subst (λ z. IsSettled given z) same (reached label found.leads)) (cases_lt l i);
})
  where
    reached : (x : ℕ) → Reaches f c first x → IsSettled given x
    reached x r = settled_on f c (slice_set cut first None) given first x settled.all settled.first_settled r

-- after all labels
pub upto_all : (f : TacFunc) (c : FuncCounts) (n : ℕ) (cut : List (Option ℕ)) (seen : List Bool) (sums : List ℕ) → length f.blocks ≤ n → AreSettledUpto f c n cut seen sums → AreCut f c cut sums
upto_all f c n cut seen sums all h = record {
  priors = record {
    many = h.all.kept.many;
    tells = λ b a. (
      λ e. let k = (h.all.kept.tells b a).0 e in k.uncut (h.done b (let long = h.all.kept.many in let lt = slice_get_within cut b (Some a) e in omega arith)),
      λ g. (h.all.kept.tells b a).1 (record { best = g.best; uncut = λ s. g }),
    );
  };
  low = h.low;
  sums_are = λ b lt. h.all.summed b (h.done b (omega arith));
}

pub not_zero : (n : ℕ) → (n ≡ 0 → ⊥) → 0 < n
not_zero zero h = absurd (h refl)
not_zero (suc n) h = omega arith
