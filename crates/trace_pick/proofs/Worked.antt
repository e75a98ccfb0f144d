-- A diamond, a loop, and ends of traces, worked out.
use Rattle.std.proofs.Common.{◌≡◌, ◌⊎◌, inl, inr, ℕ, List, [], ◌∷◌, Some, None, true, false, refl, sym, subst, ⊎_elim, arith}
use Rattle.std.specs.Prelude.{slice_get}
use Rattle.tac_core.specs.declared.code.End.{End}
use Rattle.tac_core.specs.declared.code.End.TheVariants.{Jump, Branch, Call, Ret}
use Rattle.tac_core.specs.declared.code.Block.{Block}
use Rattle.tac_core.specs.declared.code.TacFunc.{TacFunc}
use Rattle.tac_core.specs.declared.counts.FuncCounts.{FuncCounts}
use Rattle.tac_core.specs.Counts.{edge_count}
use Rattle.tac_core.specs.Traces.{GoesOn}
use Rattle.tac_core.specs.Weights.{in_weight, out_weight}
use Rattle.trace_pick.specs.Best.{IsMost, IsMutuallyBest, Reaches, AtOnce, Further, IsCutBefore, GoesBefore, Greater, Lesser, Follows}
use Rattle.trace_pick.specs.Tables.{has_room, begins, behind}
use Rattle.trace_pick.proofs.Alone.{one_out}

-- a function of blocks without operations, by their ends
abbrev func : List End → TacFunc
func ends = record { name = []; params = []; regs = 1; frame = 0; blocks = blocks ends }
  where
    blocks : List End → List Block
    blocks [] = []
    blocks (e ∷ es) = record { ops = []; «end» = e; end_stmt = 0 } ∷ blocks es

-- 0 goes to 1 so often and to 2 so often, and both go to 3; the function was entered 100 times
abbrev diamond : TacFunc
diamond = func (Branch 0 1 2 ∷ Jump 3 ∷ Jump 3 ∷ Ret None ∷ [])

abbrev counted : (often seldom : ℕ) → FuncCounts
counted often seldom = record {
  entries = 100;
  edges = record { from = 0; to = 1; count = often } ∷ record { from = 0; to = 2; count = seldom } ∷ record { from = 1; to = 3; count = often } ∷ record { from = 2; to = 3; count = seldom } ∷ [];
}

out_of_0 : out_weight (counted 70 30) 0 ≡ 100
out_of_0 = refl

into_0 : in_weight (counted 70 30) 0 ≡ 100
into_0 = refl

into_3 : in_weight (counted 70 30) 3 ≡ 100
into_3 = refl

seventy_is_most : IsMost 70 100
seventy_is_most = omega arith

sixty_nine_is_not : IsMost 69 100 → ⊥
sixty_nine_is_not h = absurd (omega arith)

-- with 70 of 100 a trace goes from 0 to 1 and on to 3
best_0_1 : IsMutuallyBest diamond (counted 70 30) 0 1
best_0_1 = record { taken = omega arith; most_out = omega arith; most_in = omega arith; goes_on = tt; inner = omega arith }

best_1_3 : IsMutuallyBest diamond (counted 70 30) 1 3
best_1_3 = record { taken = omega arith; most_out = omega arith; most_in = omega arith; goes_on = tt; inner = omega arith }

not_best_0_2 : IsMutuallyBest diamond (counted 70 30) 0 2 → ⊥
not_best_0_2 h = let most = h.most_out in absurd (omega arith)

not_best_2_3 : IsMutuallyBest diamond (counted 70 30) 2 3 → ⊥
not_best_2_3 h = let most = h.most_in in absurd (omega arith)

-- with 69 of 100 no trace goes on
not_best_0_1 : IsMutuallyBest diamond (counted 69 31) 0 1 → ⊥
not_best_0_1 h = let most = h.most_out in absurd (omega arith)

not_best_1_3 : IsMutuallyBest diamond (counted 69 31) 1 3 → ⊥
not_best_1_3 h = let most = h.most_in in absurd (omega arith)

-- best for the block that it leaves alone: all of 2's edges go to 3, but they are 30 of the 100 that come to 3
best_for_one_side : IsMost (edge_count 2 3 (counted 70 30).edges) (out_weight (counted 70 30) 2)
best_for_one_side = omega arith

-- counts at their last value: weights do not wrap
abbrev last : ℕ
last = 9223372036854775807

last_counts : in_weight (counted last last) 3 ≡ 18446744073709551614
last_counts = refl

half_is_not_most : IsMutuallyBest diamond (counted last last) 1 3 → ⊥
half_is_not_most h = let most = h.most_in in absurd (omega arith)

best_at_last_count : IsMutuallyBest diamond (counted last 1) 1 3
best_at_last_count = record { taken = omega arith; most_out = omega arith; most_in = omega arith; goes_on = tt; inner = omega arith }

-- a loop of 1 and 2 that 0 enters at 2; 2 leaves it
abbrev loop : TacFunc
loop = func (Jump 2 ∷ Jump 2 ∷ Branch 0 1 3 ∷ Ret None ∷ [])

abbrev turns : FuncCounts
turns = record {
  entries = 1;
  edges = record { from = 0; to = 2; count = 1 } ∷ record { from = 1; to = 2; count = 9 } ∷ record { from = 2; to = 1; count = 9 } ∷ record { from = 2; to = 3; count = 1 } ∷ [];
}

best_1_2 : IsMutuallyBest loop turns 1 2
best_1_2 = record { taken = omega arith; most_out = omega arith; most_in = omega arith; goes_on = tt; inner = omega arith }

best_2_1 : IsMutuallyBest loop turns 2 1
best_2_1 = record { taken = omega arith; most_out = omega arith; most_in = omega arith; goes_on = tt; inner = omega arith }

entry_is_not_best : IsMutuallyBest loop turns 0 2 → ⊥
entry_is_not_best h = let most = h.most_in in absurd (omega arith)

turned : (d : ℕ) → Reaches loop turns 2 d → (d ≡ 2) ⊎ (d ≡ 1)
turned _ AtOnce = inl refl
turned _ (Further b d r best) =
    ⊎_elim
    (λ e. inr (one_out loop turns 2 d 1 (subst (λ z. IsMutuallyBest loop turns z d) e best) best_2_1))
    (λ e. inl (one_out loop turns 1 d 2 (subst (λ z. IsMutuallyBest loop turns z d) e best) best_1_2))
    (turned b r)

-- the loop is cut where it is entered, at its block of greatest in-weight: so the trace is 2 and then 1
cut_before_2 : IsCutBefore loop turns 2
cut_before_2 = record {
  on = record { last = 1; reaches = Further 2 1 AtOnce best_2_1; closes = best_1_2 };
  first = λ d r ne. ⊎_elim (λ e. absurd (ne e)) (λ e. subst (λ z. GoesBefore turns 2 z) (sym e) (Greater (omega arith))) (turned d r);
}

one_follows_two : Follows loop turns 2 1
one_follows_two = record { best = best_2_1; uncut = λ cut. let own = cut.first 2 (Further 1 2 AtOnce best_1_2) in not_first (own (λ e. absurd (omega arith))) }
  where
    not_first : GoesBefore turns 1 2 → ⊥
    not_first (Greater h) = absurd (omega arith)
    not_first (Lesser h lt) = absurd (omega arith)

-- as great in-weights: the lesser label
tie_by_label : GoesBefore (counted 50 50) 1 2
tie_by_label = Lesser refl (omega arith)

-- no trace goes on behind a call or a return
ends_at_a_call : GoesOn (slice_get (func (Call None 1 [] 1 ∷ Ret None ∷ [])).blocks 0) → ⊥
ends_at_a_call h = h

ends_at_a_return : GoesOn (slice_get (func (Call None 1 [] 1 ∷ Ret None ∷ [])).blocks 1) → ⊥
ends_at_a_return h = h

-- 2047 operations and one more are a trace, 2048 and one more are two
room_for_the_last : has_room (func (Jump 1 ∷ Ret None ∷ [])).blocks (2047 ∷ 2048 ∷ []) 0 1 ≡ true
room_for_the_last = refl

no_room_for_one_more : has_room (func (Jump 1 ∷ Ret None ∷ [])).blocks (2048 ∷ 1 ∷ []) 0 1 ≡ false
no_room_for_one_more = refl

full_trace_goes_on : behind (func (Jump 1 ∷ Ret None ∷ [])).blocks (None ∷ Some 0 ∷ []) (Some 1 ∷ None ∷ []) (2047 ∷ 2048 ∷ []) 0 ≡ Some 1
full_trace_goes_on = refl

next_trace_begins : begins (func (Jump 1 ∷ Ret None ∷ [])).blocks (None ∷ Some 0 ∷ []) (2048 ∷ 1 ∷ []) 1 ≡ true
next_trace_begins = refl
