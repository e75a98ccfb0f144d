-- A walk back along best edges finds where a walk forth may begin.
use Rattle.std.proofs.Common.{◌≡◌, ◌⊎◌, inl, inr, ◌+◌, ◌<◌, ℕ, zero, suc, List, [], ◌∷◌, Option, Some, None, Bool, true, false, length, refl, sym, ap, ◌∙◌, subst, ⊎_elim, arith, if◌then◌else◌, ◌&&◌, ◌||◌}
use Rattle.std.specs.Prelude.{slice_get, slice_set, slice_index_or, nat_lt, ◌==◌}
use Rattle.std.specs.List.{sum_by}
use Rattle.std.proofs.lemmas.Bool.{cases_lt}
use Rattle.std.proofs.lemmas.Bool.Decides.{eqb_tells, nat_tests}
use Rattle.std.proofs.lemmas.List.{get_or-set_same, get_or-set_other}
use Rattle.std.proofs.lemmas.List.Sums.{sum_by-set}
use Rattle.std.proofs.lemmas.Option.{get_or_from_slice_get}
use Rattle.tac_core.specs.declared.code.TacFunc.{TacFunc}
use Rattle.tac_core.specs.declared.counts.FuncCounts.{FuncCounts}
use Rattle.tac_core.specs.Weights.{AreByLabel, in_weight}
use Rattle.trace_pick.specs.Best.{IsMutuallyBest, Reaches, AtOnce, Further, IsOnCycle, GoesBefore, Greater, Lesser, IsCutBefore}
use Rattle.trace_pick.specs.Settled.{told, label_at, IsSeen, AreSeenBack, weight_at, goes_before, earlier, unseen_by, unseen_before, CanWalkBack, IsWalkBack, IsStartOf}
use Rattle.trace_pick.proofs.Alone.{one_in}
use Rattle.trace_pick.proofs.Cycles.{reaches_through, reaches_next, reaches_cycle, reaches_again, before_trans, not_both_before}

told_some : (x : Option (Option ℕ)) (b : ℕ) → told x ≡ Some b → x ≡ Some (Some b)
told_some None b e = absurd cc
told_some (Some None) b e = absurd cc
told_some (Some (Some d)) b e = cc

pub at_some : (table : List (Option ℕ)) (a b : ℕ) → label_at table a ≡ Some b → slice_get table a ≡ Some (Some b)
at_some table a b e = told_some (slice_get table a) b e

pub at_none : (table : List (Option ℕ)) (a b : ℕ) → label_at table a ≡ None → slice_get table a ≡ Some (Some b) → ⊥
at_none table a b e h = let both : told (slice_get table a) ≡ Some b = ap told h in absurd cc

-- one more block is passed
pub seen_set : (seen : List Bool) (at x : ℕ) → IsSeen (slice_set seen at true) x → (x ≡ at) ⊎ IsSeen seen x
seen_set seen at x h = ⊎_elim (λ t. inl t.1) (λ o. inr (sym (get_or-set_other seen at x true false o.1) ∙ h)) (eqb_tells x at)

pub seen_here : (seen : List Bool) (at : ℕ) → at < length seen → IsSeen (slice_set seen at true) at
seen_here seen at lt = get_or-set_same seen at true false lt

pub seen_still : (seen : List Bool) (at x : ℕ) → at < length seen → IsSeen seen x → IsSeen (slice_set seen at true) x
seen_still seen at x lt h =
    ⊎_elim
    (λ t. subst (λ z. IsSeen (slice_set seen at true) z) (sym t.1) (seen_here seen at lt))
    (λ o. get_or-set_other seen at x true false o.1 ∙ h)
    (eqb_tells x at)

-- how many blocks are not passed
abbrev pub unpassed : Bool → ℕ
unpassed b = if b then 0 else 1

pub passed_falls : (seen : List Bool) (at : ℕ) → at < length seen → slice_index_or seen at false ≡ false → sum_by unpassed (slice_set seen at true) < sum_by unpassed seen
passed_falls seen at lt not' =
    let both : sum_by unpassed (slice_set seen at true) + unpassed (slice_index_or seen at false) ≡ sum_by unpassed seen + unpassed true = sum_by-set unpassed seen at true false lt in
    let one : unpassed (slice_index_or seen at false) ≡ 1 = ap unpassed not' in
    omega arith

test_true : (x y a b : ℕ) → (nat_lt x y || ((x == y) && nat_lt a b)) ≡ true → (x < y) ⊎ ((x ≡ y) × (a < b))
test_true x y a b h = ⊎_elim (λ lt. inl lt) (λ ge. let one : x ≡ y = grind (arith, nat_tests) in let two : a < b = grind (arith, nat_tests) in inr (one, two)) (cases_lt x y)

data IsOther (x y a b : ℕ) : Type 0 where
  Same : a ≡ b → IsOther x y a b
  Less : y < x → IsOther x y a b
  Tie : y ≡ x → b < a → IsOther x y a b

test_false : (x y a b : ℕ) → (nat_lt x y || ((x == y) && nat_lt a b)) ≡ false → IsOther x y a b
test_false x y a b h =
    ⊎_elim
    (λ lt. Less lt)
    (λ ge.
    let one : y ≡ x = grind (arith, nat_tests) in
    ⊎_elim (λ lt. Tie one lt) (λ ge'. let two : a ≡ b = grind (arith, nat_tests) in Same two) (cases_lt b a))
    (cases_lt y x)

weight_is : (c : FuncCounts) (n : ℕ) (weights : List ℕ) (l : ℕ) → AreByLabel (in_weight c) n weights → l < n → weight_at weights l ≡ in_weight c l
weight_is c n weights l h lt = get_or_from_slice_get weights l (in_weight c l) 0 (h.each l lt)

goes_true : (c : FuncCounts) (n : ℕ) (weights : List ℕ) (a b : ℕ) → AreByLabel (in_weight c) n weights → a < n → b < n → goes_before weights a b ≡ true → GoesBefore c a b
goes_true c n weights a b h la lb t =
    let wa = weight_is c n weights a h la in
    let wb = weight_is c n weights b h lb in
    ⊎_elim (λ lt. Greater (omega arith)) (λ both. let same = both.0 in let less = both.1 in Lesser (omega arith) less) (test_true (weight_at weights b) (weight_at weights a) a b t)

goes_false : (c : FuncCounts) (n : ℕ) (weights : List ℕ) (a b : ℕ) → AreByLabel (in_weight c) n weights → a < n → b < n → goes_before weights a b ≡ false → (a ≡ b) ⊎ GoesBefore c b a
goes_false c n weights a b h la lb t = by_case (test_false (weight_at weights b) (weight_at weights a) a b t)
  where
    by_case : IsOther (weight_at weights b) (weight_at weights a) a b → (a ≡ b) ⊎ GoesBefore c b a
    by_case (Same same) = inl same
    by_case (Less less) = let wa = weight_is c n weights a h la in let wb = weight_is c n weights b h lb in inr (Greater (omega arith))
    by_case (Tie same less) = let wa = weight_is c n weights a h la in let wb = weight_is c n weights b h lb in inr (Lesser (omega arith) less)

-- the earlier of two: it is the new one, which goes before, or the old one
data IsEarlier (c : FuncCounts) (new old : ℕ) : ℕ → Type 0 where
  New : GoesBefore c new old → IsEarlier c new old new
  Old : (new ≡ old) ⊎ GoesBefore c old new → IsEarlier c new old old

earlier_is : (c : FuncCounts) (n : ℕ) (weights : List ℕ) (a b : ℕ) → AreByLabel (in_weight c) n weights → a < n → b < n → IsEarlier c a b (earlier weights a b)
earlier_is c n weights a b h la lb = by_test (goes_before weights a b) refl
  where
    by_test : (t : Bool) → goes_before weights a b ≡ t → IsEarlier c a b (if t then a else b)
    by_test true e = New (goes_true c n weights a b h la lb e)
    by_test false e = Old (goes_false c n weights a b h la lb e)

-- with each block all that lead to it are passed
pub seen_back : (f : TacFunc) (c : FuncCounts) (seen : List Bool) (a b : ℕ) → AreSeenBack f c seen → Reaches f c a b → IsSeen seen b → IsSeen seen a
seen_back f c seen a _ back AtOnce h = h
seen_back f c seen a _ back (Further d e r best) h = seen_back f c seen a d back r (back d e best h)

pub walk_back_begins : (f : TacFunc) (c : FuncCounts) (prior : List (Option ℕ)) (weights : List ℕ) (old new : List Bool) (label : ℕ) → new ≡ slice_set old label true → label < length old → CanWalkBack f c prior weights old label
    → IsWalkBack f c old new label label label
walk_back_begins f c prior weights old new label is lt h = subst (λ z. IsWalkBack f c old z label label label) (sym is) (record {
  leads = AtOnce;
  passed = AtOnce;
  within = h.within;
  first_within = h.within;
  first_seen = seen_here old label lt;
  back = λ a b best s ne. ⊎_elim (λ same. absurd (ne same)) (λ s'. seen_still old label a lt (h.back a b best s')) (seen_set old label b s);
  seen = λ x s. ⊎_elim (λ same. inr (record { reached = subst (λ z. Reaches f c label z) (sym same) AtOnce; later = inl same })) (λ s'. inl s') (seen_set old label x s);
})

unseen_some : (seen : List Bool) (x : Option ℕ) (b : ℕ) → unseen_by seen x ≡ Some b → (x ≡ Some b) × (slice_index_or seen b false ≡ false)
unseen_some seen None b e = absurd cc
unseen_some seen (Some d) b e = by_test (slice_index_or seen d false) refl e
  where
    by_test : (t : Bool) → slice_index_or seen d false ≡ t → (if t then None else Some d) ≡ Some b → (Some d ≡ Some b) × (slice_index_or seen b false ≡ false)
    by_test true i s = absurd cc
    by_test false i s = let same : d ≡ b = cc in (s, subst (λ z. slice_index_or seen z false ≡ false) same i)

pub unseen_is : (prior : List (Option ℕ)) (seen : List Bool) (at b : ℕ) → Some b ≡ unseen_before prior seen at → (label_at prior at ≡ Some b) × (slice_index_or seen b false ≡ false)
unseen_is prior seen at b e = unseen_some seen (label_at prior at) b (sym e)

pub unseen_none : (prior : List (Option ℕ)) (seen : List Bool) (at b : ℕ) → None ≡ unseen_before prior seen at → label_at prior at ≡ Some b → IsSeen seen b
unseen_none prior seen at b e is = by_test (slice_index_or seen b false) refl (e ∙ ap (unseen_by seen) is)
  where
    by_test : (t : Bool) → slice_index_or seen b false ≡ t → None ≡ (if t then None else Some b) → slice_index_or seen b false ≡ true
    by_test true i s = i
    by_test false i s = absurd cc

-- one step back
pub walk_back_more : (f : TacFunc) (c : FuncCounts) (prior : List (Option ℕ)) (weights : List ℕ) (old seen grown : List Bool) (label at first before first' : ℕ)
    → before < length seen → Some before ≡ unseen_before prior seen at → grown ≡ slice_set seen before true → first' ≡ earlier weights before first
    → CanWalkBack f c prior weights old label → IsWalkBack f c old seen label at first → IsWalkBack f c old grown label before first'
walk_back_more f c prior weights old seen grown label at first before first' lt is more early can h =
    subst (λ z. IsWalkBack f c old z label before first') (sym more)
    (subst (λ z. IsWalkBack f c old (slice_set seen before true) label before z) (sym early)
    (by_earlier (earlier weights before first) (earlier_is c (length f.blocks) weights before first can.weighed within h.first_within)))
  where
    best : IsMutuallyBest f c before at
    best = (can.priors.tells at before).0 (at_some prior at before (unseen_is prior seen at before is).0)

    within : before < length f.blocks
    within = can.leaves before at best

    back : (a b : ℕ) → IsMutuallyBest f c a b → IsSeen (slice_set seen before true) b → (b ≡ before → ⊥) → IsSeen (slice_set seen before true) a
    back a b edge s ne =
        ⊎_elim
        (λ same. absurd (ne same))
        (λ s'. ⊎_elim
        (λ t. let one : a ≡ before = one_in f c a before at (subst (λ z. IsMutuallyBest f c a z) t.1 edge) best in
        subst (λ z. IsSeen (slice_set seen before true) z) (sym one) (seen_here seen before lt))
        (λ o. seen_still seen before a lt (h.back a b edge s' o.1))
        (eqb_tells b at))
        (seen_set seen before b s)

    by_earlier : (first' : ℕ) → IsEarlier c before first first' → IsWalkBack f c old (slice_set seen before true) label before first'
    by_earlier _ (New goes) = record {
      leads = reaches_next f c before at label best h.leads;
      passed = AtOnce;
      within = within;
      first_within = within;
      first_seen = seen_here seen before lt;
      back = back;
      seen = λ x s. ⊎_elim
          (λ same. inr (record { reached = subst (λ z. Reaches f c before z) (sym same) AtOnce; later = inl same }))
          (λ s'. ⊎_elim
          (λ o. inl o)
          (λ p. inr (record {
            reached = reaches_next f c before at x best p.reached;
            later = ⊎_elim (λ same. inr (subst (λ z. GoesBefore c before z) (sym same) goes)) (λ g. inr (before_trans c before first x goes g)) p.later;
          }))
          (h.seen x s'))
          (seen_set seen before x s);
    }
    by_earlier _ (Old goes) = record {
      leads = reaches_next f c before at label best h.leads;
      passed = reaches_next f c before at first best h.passed;
      within = within;
      first_within = h.first_within;
      first_seen = seen_still seen before first lt h.first_seen;
      back = back;
      seen = λ x s. ⊎_elim
          (λ same. inr (record {
            reached = subst (λ z. Reaches f c before z) (sym same) AtOnce;
            later = ⊎_elim (λ one. inl (same ∙ one)) (λ g. inr (subst (λ z. GoesBefore c first z) (sym same) g)) goes;
          }))
          (λ s'. ⊎_elim (λ o. inl o) (λ p. inr (record { reached = reaches_next f c before at x best p.reached; later = p.later })) (h.seen x s'))
          (seen_set seen before x s);
    }

-- the walk back ends at a block to which no best edge leads
pub walk_back_ends : (f : TacFunc) (c : FuncCounts) (prior : List (Option ℕ)) (weights : List ℕ) (old seen : List Bool) (label at first : ℕ)
    → None ≡ label_at prior at → CanWalkBack f c prior weights old label → IsWalkBack f c old seen label at first → IsStartOf f c old seen label at
walk_back_ends f c prior weights old seen label at first none can h = record {
  start = record {
    begins = λ a g. not' a g.best;
    uncut = λ d r ne cut. let on = reaches_cycle f c at d r cut.on in not' on.last on.closes;
  };
  leads = h.leads;
  within = h.within;
  back = λ a b best s. ⊎_elim (λ t. absurd (not' a (subst (λ z. IsMutuallyBest f c a z) t.1 best))) (λ o. h.back a b best s o.1) (eqb_tells b at);
  seen = λ x s. ⊎_elim (λ o. inl o) (λ p. inr p.reached) (h.seen x s);
}
  where
    not' : (a : ℕ) → IsMutuallyBest f c a at → ⊥
    not' a best = at_none prior at a (sym none) ((can.priors.tells at a).1 best)

-- the walk back comes to a block that it has passed: a cycle
pub walk_back_closes : (f : TacFunc) (c : FuncCounts) (prior : List (Option ℕ)) (weights : List ℕ) (old seen : List Bool) (label at first before : ℕ)
    → Some before ≡ label_at prior at → None ≡ unseen_before prior seen at → CanWalkBack f c prior weights old label → IsWalkBack f c old seen label at first → IsStartOf f c old seen label first
walk_back_closes f c prior weights old seen label at first before is none can h = record {
  start = record {
    begins = λ a g. g.uncut cut;
    uncut = λ d r ne other. not_both_before c first d (goes d r ne) (other.first first (again d r) (λ e. ne (sym e)));
  };
  leads = reaches_through f c first at label to_at h.leads;
  within = h.first_within;
  back = back;
  seen = λ x s. ⊎_elim (λ o. inl o) (λ p. inr (reaches_through f c first at x to_at p.reached)) (h.seen x s);
}
  where
    best : IsMutuallyBest f c before at
    best = (can.priors.tells at before).0 (at_some prior at before (sym is))

    back : AreSeenBack f c seen
    back a b edge s =
        ⊎_elim
        (λ t. let one : a ≡ before = one_in f c a before at (subst (λ z. IsMutuallyBest f c a z) t.1 edge) best in
        subst (λ z. IsSeen seen z) (sym one) (unseen_none prior seen at before none (sym is)))
        (λ o. h.back a b edge s o.1)
        (eqb_tells b at)

    on_at : IsOnCycle f c at
    on_at = ⊎_elim
        (λ o. absurd (can.fresh before o (reaches_next f c before at label best h.leads)))
        (λ p. record { last = before; reaches = p.reached; closes = best })
        (h.seen before (unseen_none prior seen at before none (sym is)))

    to_at : Reaches f c first at
    to_at = reaches_again f c at first on_at h.passed

    on_first : IsOnCycle f c first
    on_first = reaches_cycle f c first at to_at on_at

    again : (d : ℕ) → Reaches f c first d → Reaches f c d first
    again d r = reaches_again f c first d on_first r

    goes : (d : ℕ) → Reaches f c first d → (d ≡ first → ⊥) → GoesBefore c first d
    goes d r ne = ⊎_elim
        (λ o. absurd (can.fresh d o (reaches_through f c d at label (reaches_through f c d first at (again d r) to_at) h.leads)))
        (λ p. ⊎_elim (λ same. absurd (ne same)) (λ g. g) p.later)
        (h.seen d (seen_back f c seen d first back (again d r) h.first_seen))

    cut : IsCutBefore f c first
    cut = record { on = on_first; first = goes }

pub seen_none : (seen : List Bool) (l : ℕ) → None ≡ slice_get seen l → false ≡ slice_index_or seen l false
seen_none [] l e = refl
seen_none (x ∷ xs) zero e = absurd cc
seen_none (x ∷ xs) (suc l) e = seen_none xs l e

pub seen_some : (seen : List Bool) (l : ℕ) (x : Bool) → Some x ≡ slice_get seen l → x ≡ slice_index_or seen l false
seen_some seen l x e = sym (get_or_from_slice_get seen l x false (sym e))

pub earlier_in : (weights : List ℕ) (a b n : ℕ) → a < n → b < n → earlier weights a b < n
earlier_in weights a b n la lb = by_test (goes_before weights a b)
  where
    by_test : (t : Bool) → (if t then a else b) < n
    by_test true = la
    by_test false = lb

pub not_some : (x : Option ℕ) → ((b : ℕ) → x ≡ Some b → ⊥) → None ≡ x
not_some None h = refl
not_some (Some b) h = absurd (h b refl)
