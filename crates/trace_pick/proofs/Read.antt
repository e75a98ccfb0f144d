-- Walks over the tables are the traces from each first label.
use Rattle.std.proofs.Common.{◌≡◌, ◌+◌, ◌≤◌, ℕ, Bool, true, false, not, List, Option, Some, None, length, refl, sym, ap, ◌∙◌, subst, arith, if◌then◌else◌}
use Rattle.std.specs.Prelude.{slice_get, nat_le}
use Rattle.std.proofs.lemmas.Bool.Decides.{nat_tests}
use Rattle.tac_core.specs.declared.code.TacFunc.{TacFunc}
use Rattle.tac_core.specs.declared.counts.FuncCounts.{FuncCounts}
use Rattle.tac_core.specs.Traces.{Labels, ops_at}
use Rattle.trace_pick.specs.Best.{IsMutuallyBest, Follows}
use Rattle.trace_pick.specs.Tables.{IsTable, sum_at, IsJoined, Begins, IsTrace, IsFrom, AreTracesFrom, has_room, begins, begins_by, behind, behind_by, IsWalk, AreWalks, Rise}
use Rattle.trace_pick.proofs.Alone.{one_in}
use Rattle.trace_pick.proofs.Pieces.{IsSummedUp, sum_behind}

-- the tables of a function: the block that each follows, and the one on its best edge
pub record AreTables (f : TacFunc) (c : FuncCounts) (prior next : List (Option ℕ)) : Type 0 where
  pub priors : IsTable (length f.blocks) (λ b a. Follows f c a b) prior
  pub nexts : IsTable (length f.blocks) (IsMutuallyBest f c) next

pub room_true : (m n : ℕ) → nat_le m n ≡ true → m ≤ n
room_true m n h = grind (arith, nat_tests)

pub room_false : (m n : ℕ) → nat_le m n ≡ false → m ≤ n → ⊥
room_false m n h le = grind (arith, nat_tests)

turned : (b : Bool) → not b ≡ true → b ≡ false
turned true h = absurd cc
turned false h = refl

turned_back : (b : Bool) → not b ≡ false → b ≡ true
turned_back true h = refl
turned_back false h = absurd cc

module _ (f : TacFunc) (c : FuncCounts) (prior next : List (Option ℕ)) (sums : List ℕ) (h : AreTables f c prior next) where
  begun : (b : ℕ) (x : Option (Option ℕ)) → slice_get prior b ≡ x → begins_by f.blocks sums x b ≡ true → Begins f c sums b
  begun b None is t a g = let told = (h.priors.tells b a).1 g.follows in let both = sym is ∙ told in absurd cc
  begun b (Some None) is t a g = let told = (h.priors.tells b a).1 g.follows in let both = sym is ∙ told in absurd cc
  begun b (Some (Some d)) is t a g =
      let both = sym is ∙ (h.priors.tells b a).1 g.follows in
      let same : d ≡ a = cc in
      absurd (room_false (sum_at sums d + ops_at f b) 2048 (turned (has_room f.blocks sums d b) t) (subst (λ z. sum_at sums z + ops_at f b ≤ 2048) (sym same) g.room))

  unbegun : (b : ℕ) (x : Option (Option ℕ)) → slice_get prior b ≡ x → begins_by f.blocks sums x b ≡ false → (a : ℕ) × IsJoined f c sums a b
  unbegun b None is t = absurd cc
  unbegun b (Some None) is t = absurd cc
  unbegun b (Some (Some d)) is t =
      (d, record { follows = (h.priors.tells b d).0 is; room = room_true (sum_at sums d + ops_at f b) 2048 (turned_back (has_room f.blocks sums d b) t) })

  pub begins_tells : (b : ℕ) → begins f.blocks prior sums b ≡ true → Begins f c sums b
  begins_tells b t = begun b (slice_get prior b) refl t

  pub begins_all : (b : ℕ) → Begins f c sums b → begins f.blocks prior sums b ≡ true
  begins_all b none = by_test (begins f.blocks prior sums b) refl
    where
      by_test : (t : Bool) → begins f.blocks prior sums b ≡ t → t ≡ true
      by_test true e = refl
      by_test false e = let (a, g) = unbegun b (slice_get prior b) refl e in absurd (none a g)

  steps : (a b : ℕ) (x : Option (Option ℕ)) → slice_get next a ≡ x → behind_by f.blocks prior sums x ≡ Some b → IsJoined f c sums a b
  steps a b None is t = absurd cc
  steps a b (Some None) is t = absurd cc
  steps a b (Some (Some d)) is t = by_test (begins f.blocks prior sums d) refl t
    where
      by_test : (u : Bool) → begins f.blocks prior sums d ≡ u → (if u then None else Some d) ≡ Some b → IsJoined f c sums a b
      by_test true e s = absurd cc
      by_test false e s =
          let same : d ≡ b = cc in
          let (x, g) = unbegun d (slice_get prior d) refl e in
          let one : x ≡ a = one_in f c x a d g.follows.best ((h.nexts.tells a d).0 is) in
          subst (λ z. IsJoined f c sums a z) same (subst (λ z. IsJoined f c sums z d) one g)

  pub step_joins : (a b : ℕ) → behind f.blocks prior next sums a ≡ Some b → IsJoined f c sums a b
  step_joins a b t = steps a b (slice_get next a) refl t

  pub joins_step : (a b : ℕ) → IsJoined f c sums a b → behind f.blocks prior next sums a ≡ None → ⊥
  joins_step a b g none =
      let at = (h.nexts.tells a b).1 g.follows.best in
      by_test (begins f.blocks prior sums b) refl (sym (ap (behind_by f.blocks prior sums) at) ∙ none)
    where
      by_test : (u : Bool) → begins f.blocks prior sums b ≡ u → (if u then None else Some b) ≡ None → ⊥
      by_test true e s = begins_tells b e a g
      by_test false e s = absurd cc

  pub walks_are_traces : (n : ℕ) (chains : List Labels) → AreWalks (behind f.blocks prior next sums) (begins f.blocks prior sums) n chains → AreTracesFrom f c sums n chains
  walks_are_traces n chains w = record {
    each = each;
    all = λ l lt none. w.all l lt (begins_all l none);
    in_order = w.in_order;
  }
    where
      trace : (first : ℕ) (chain : Labels) → IsWalk (behind f.blocks prior next sums) first chain → IsTrace f c sums first chain
      trace first chain k = record {
        begins = k.begun;
        linked = λ i a b p q. step_joins a b (k.linked i a b p q);
        whole = λ i a b p q g. joins_step a b g (k.whole i a p q);
      }

      each : (i : ℕ) (chain : Labels) → slice_get chains i ≡ Some chain → IsFrom f c sums n chain
      each i chain is =
          let own = w.each i chain is in
          record { first = own.first; early = own.early; begins = begins_tells own.first own.is_start; trace = trace own.first chain own.walk }

  pub steps_rise : IsSummedUp f c sums → Rise (behind f.blocks prior next sums) sums
  steps_rise s a b t =
      let g = step_joins a b t in
      let lt = s.enters a b g.follows.best in
      let is = sum_behind f c sums a b (s.sums_are b lt) g in
      let above = s.some b lt in
      omega arith
