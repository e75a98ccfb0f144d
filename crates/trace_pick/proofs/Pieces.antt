-- Chains that are read off sums are the traces.
use Rattle.std.proofs.Common.{◌≡◌, ◌⊎◌, inl, inr, ◌+◌, ◌-◌, ◌<◌, ◌≤◌, ℕ, zero, suc, List, [], ◌∷◌, Some, None, length, get_or, refl, sym, ap, ◌∙◌, subst, ⊎_elim, arith}
use Rattle.std.specs.Prelude.{slice_get}
use Rattle.std.specs.List.{sum_by}
use Rattle.std.proofs.lemmas.Bool.{cases_lt}
use Rattle.std.proofs.lemmas.List.Sums.{sum_by-cons}
use Rattle.std.proofs.lemmas.Option.{slice_get-get_or, slice_get_within, slice_get_past}
use Rattle.tac_core.specs.declared.code.TacFunc.{TacFunc}
use Rattle.tac_core.specs.declared.counts.FuncCounts.{FuncCounts}
use Rattle.tac_core.specs.Traces.{Labels, StandsAt, ops_at, chain_ops}
use Rattle.tac_core.proofs.Valid.{All-from_get}
use Rattle.trace_pick.specs.Best.{IsMutuallyBest, Follows}
use Rattle.trace_pick.specs.Tables.{sum_at, IsJoined, Begins, IsSummed, First, Behind, AreSums, IsTrace, AreTracesFrom}
use Rattle.trace_pick.specs.Traces.{most_ops, IsNext, IsFull, AreTraces}
use Rattle.trace_pick.proofs.Alone.{one_out, one_in}

-- what is known of a function and its sums
pub record IsSummedUp (f : TacFunc) (c : FuncCounts) (sums : List ℕ) : Type 0 where
  pub sums_are : AreSums f c sums
  pub leaves : (a b : ℕ) → IsMutuallyBest f c a b → a < length f.blocks
  pub enters : (a b : ℕ) → IsMutuallyBest f c a b → b < length f.blocks
  pub some : (b : ℕ) → b < length f.blocks → 0 < ops_at f b
  pub small : (b : ℕ) → b < length f.blocks → ops_at f b ≤ most_ops

same_place : (chains : List Labels) (l m i k : ℕ) → StandsAt chains l i k → StandsAt chains m i k → l ≡ m
same_place chains l m i k a b =
    let chains_same : Some a.chain ≡ Some b.chain = sym a.is ∙ b.is in
    let one : a.chain ≡ b.chain = cc in
    let both : Some l ≡ Some m = sym a.there ∙ ap (λ z. slice_get z k) one ∙ b.there in
    cc

-- the place before a place in its chain
prior : (chains : List Labels) (m i k : ℕ) → StandsAt chains m i (suc k) → (l : ℕ) × StandsAt chains l i k
prior chains m i k s =
    let within : suc k < length s.chain = slice_get_within s.chain (suc k) m s.there in
    (get_or s.chain k 0, record { chain = s.chain; is = s.is; there = slice_get-get_or s.chain k 0 (omega arith) })

-- a place is the last of its chain, or another stands behind it
behind : {X : Type 0} (xs : List X) (k : ℕ) → (slice_get xs k ≡ None) ⊎ ((x : X) × (slice_get xs k ≡ Some x))
behind [] k = inl refl
behind (x ∷ xs) zero = inr (x, refl)
behind (x ∷ xs) (suc k) = behind xs k

-- the sum of a block from that of the block before it
pub sum_behind : (f : TacFunc) (c : FuncCounts) (sums : List ℕ) (a b : ℕ) → IsSummed f c sums b → IsJoined f c sums a b → sum_at sums b ≡ sum_at sums a + ops_at f b
sum_behind f c sums a b (First none is) h = absurd (none a h)
sum_behind f c sums a b (Behind d g is) h =
    let same : d ≡ a = one_in f c d a b g.follows.best h.follows.best in
    is ∙ ap (λ z. sum_at sums z + ops_at f b) same

pub sum_first : (f : TacFunc) (c : FuncCounts) (sums : List ℕ) (b : ℕ) → IsSummed f c sums b → Begins f c sums b → sum_at sums b ≡ ops_at f b
sum_first f c sums b (First none is) h = is
sum_first f c sums b (Behind d g is) h = absurd (h d g)

pub sum_small : (f : TacFunc) (c : FuncCounts) (sums : List ℕ) (b : ℕ) → IsSummed f c sums b → ops_at f b ≤ most_ops → sum_at sums b ≤ most_ops
sum_small f c sums b (First none is) few = omega arith
sum_small f c sums b (Behind d g is) few = let room = g.room in omega arith

-- along a chain the sums add up
sums_along : (f : TacFunc) (c : FuncCounts) (sums : List ℕ) → IsSummedUp f c sums → (a : ℕ) (rest : Labels) (k z : ℕ)
    → ((j x y : ℕ) → slice_get (a ∷ rest) j ≡ Some x → slice_get (a ∷ rest) (suc j) ≡ Some y → IsJoined f c sums x y)
    → slice_get (a ∷ rest) k ≡ Some z → slice_get (a ∷ rest) (suc k) ≡ None → sum_at sums z ≡ sum_at sums a + sum_by (ops_at f) rest
sums_along f c sums h a [] zero z linked at past = let both : Some a ≡ Some z = at in let same : a ≡ z = cc in ap (λ x. sum_at sums x) (sym same) ∙ omega arith
sums_along f c sums h a [] (suc k) z linked at past = absurd cc
sums_along f c sums h a (b ∷ rest) zero z linked at past = absurd cc
sums_along f c sums h a (b ∷ rest) (suc k) z linked at past =
    let joined : IsJoined f c sums a b = linked 0 a b refl refl in
    let one : sum_at sums b ≡ sum_at sums a + ops_at f b = sum_behind f c sums a b (h.sums_are b (h.enters a b joined.follows.best)) joined in
    let more = sums_along f c sums h b rest k z (λ j x y p q. linked (suc j) x y p q) at past in
    let split = sum_by-cons (ops_at f) b rest in
    omega arith

-- the operations of a whole trace are the sum of its last block
trace_ops : (f : TacFunc) (c : FuncCounts) (sums : List ℕ) → IsSummedUp f c sums → (first : ℕ) (chain : Labels) → first < length f.blocks → Begins f c sums first → IsTrace f c sums first chain
    → (k z : ℕ) → slice_get chain k ≡ Some z → slice_get chain (suc k) ≡ None → chain_ops f chain ≡ sum_at sums z
trace_ops f c sums h first [] lt none t k z at past = absurd cc
trace_ops f c sums h first (a ∷ rest) lt none t k z at past =
    let both : Some a ≡ Some first = t.begins in
    let same : first ≡ a = cc in
    let own : sum_at sums a ≡ ops_at f a = subst (λ x. sum_at sums x ≡ ops_at f x) same (sum_first f c sums first (h.sums_are first lt) none) in
    let more = sums_along f c sums h a rest k z t.linked at past in
    let split = sum_by-cons (ops_at f) a rest in
    omega arith

linked_at : (f : TacFunc) (c : FuncCounts) (sums : List ℕ) (upto : ℕ) (chains : List Labels) → AreTracesFrom f c sums upto chains
    → (a b i k : ℕ) → StandsAt chains a i k → StandsAt chains b i (suc k) → IsJoined f c sums a b
linked_at f c sums upto chains h a b i k s t =
    let own = h.each i s.chain s.is in
    let chains_same : Some t.chain ≡ Some s.chain = sym t.is ∙ s.is in
    let one : t.chain ≡ s.chain = cc in
    own.trace.linked k a b s.there (subst (λ z. slice_get z (suc k) ≡ Some b) one t.there)

begins_at : (f : TacFunc) (c : FuncCounts) (sums : List ℕ) (upto : ℕ) (chains : List Labels) → AreTracesFrom f c sums upto chains
    → (l i : ℕ) → StandsAt chains l i 0 → Begins f c sums l × (l < upto)
begins_at f c sums upto chains h l i s =
    let own = h.each i s.chain s.is in
    let both : Some own.first ≡ Some l = sym own.trace.begins ∙ s.there in
    let same : own.first ≡ l = cc in
    (subst (λ z. Begins f c sums z) same own.begins, subst (λ z. z < upto) same own.early)

-- each block stands once
stands_once : (f : TacFunc) (c : FuncCounts) (sums : List ℕ) (upto : ℕ) (chains : List Labels) → AreTracesFrom f c sums upto chains
    → (l i k j m : ℕ) → StandsAt chains l i k → StandsAt chains l j m → (i ≡ j) × (k ≡ m)
stands_once f c sums upto chains h l i zero j zero s t = (
  ⊎_elim (λ lt. absurd (let less : l < l = h.in_order i j l l lt s t in omega arith))
      (λ ge. ⊎_elim (λ lt. absurd (let less : l < l = h.in_order j i l l lt t s in omega arith)) (λ le. let same : i ≡ j = omega arith in same) (cases_lt j i))
      (cases_lt i j),
  refl,
)
stands_once f c sums upto chains h l i zero j (suc m) s t =
    let (a, before) = prior chains l j m t in
    absurd ((begins_at f c sums upto chains h l i s).0 a (linked_at f c sums upto chains h a l j m before t))
stands_once f c sums upto chains h l i (suc k) j zero s t =
    let (a, before) = prior chains l i k s in
    absurd ((begins_at f c sums upto chains h l j t).0 a (linked_at f c sums upto chains h a l i k before s))
stands_once f c sums upto chains h l i (suc k) j (suc m) s t =
    let (a, before) = prior chains l i k s in
    let (b, before') = prior chains l j m t in
    let one = linked_at f c sums upto chains h a l i k before s in
    let two = linked_at f c sums upto chains h b l j m before' t in
    let same : b ≡ a = one_in f c b a l two.follows.best one.follows.best in
    let rest = stands_once f c sums upto chains h a i k j m before (subst (λ z. StandsAt chains z j m) same before') in
    (rest.0, ap suc rest.1)

-- behind a block stands each one that is joined to it
joined_stands : (f : TacFunc) (c : FuncCounts) (sums : List ℕ) (upto : ℕ) (chains : List Labels) → AreTracesFrom f c sums upto chains
    → (a b i k : ℕ) → StandsAt chains a i k → IsJoined f c sums a b → StandsAt chains b i (suc k)
joined_stands f c sums upto chains h a b i k s g =
    ⊎_elim
    (λ none. absurd ((h.each i s.chain s.is).trace.whole k a b s.there none g))
    (λ more. let (x, at) = more in
    let next = (h.each i s.chain s.is).trace.linked k a x s.there at in
    let same : x ≡ b = one_out f c a x b next.follows.best g.follows.best in
    record { chain = s.chain; is = s.is; there = at ∙ ap Some same })
    (behind s.chain (suc k))

-- each block stands somewhere
stands_somewhere : (f : TacFunc) (c : FuncCounts) (sums : List ℕ) (chains : List Labels) → IsSummedUp f c sums → AreTracesFrom f c sums (length f.blocks) chains
    → (n l : ℕ) → sum_at sums l < n → l < length f.blocks → (i : ℕ) × (k : ℕ) × StandsAt chains l i k
stands_somewhere f c sums chains h t zero l below lt = absurd (omega arith)
stands_somewhere f c sums chains h t (suc n) l below lt = by_sum (λ a less in'. stands_somewhere f c sums chains h t n a less in') (h.sums_are l lt)
  where
    by_sum : ((a : ℕ) → sum_at sums a < n → a < length f.blocks → (i : ℕ) × (k : ℕ) × StandsAt chains a i k) → IsSummed f c sums l → (i : ℕ) × (k : ℕ) × StandsAt chains l i k
    by_sum earlier (First none is) = let among = t.all l lt none in (among.chain, 0, among.stands)
    by_sum earlier (Behind a g is) =
        let above = h.some l lt in
        let (i, k, s) = earlier a (omega arith) (h.leaves a l g.follows.best) in
        (i, suc k, joined_stands f c sums (length f.blocks) chains t a l i k s g)

pub are_traces : (f : TacFunc) (c : FuncCounts) (sums : List ℕ) (chains : List Labels) → IsSummedUp f c sums → AreTracesFrom f c sums (length f.blocks) chains → AreTraces f c chains
are_traces f c sums chains h t = record {
  partition = record {
    within = within;
    somewhere = λ l lt. stands_somewhere f c sums chains h t (suc (sum_at sums l)) l (omega arith) lt;
    once = λ l i k j m. stands_once f c sums (length f.blocks) chains t l i k j m;
  };
  grown = λ a b n. (linked_at f c sums (length f.blocks) chains t a b n.chain n.place n.before n.behind).follows;
  maximal = maximal;
  short = All-from_get (λ chain. chain_ops f chain ≤ most_ops) chains short;
  begun = λ i chain is. let own = t.each i chain is in slice_get_within chain 0 own.first own.trace.begins;
  in_order = t.in_order;
}
  where
    within : (l i k : ℕ) → StandsAt chains l i k → l < length f.blocks
    within l i zero s = (begins_at f c sums (length f.blocks) chains t l i s).1
    within l i (suc k) s =
        let (a, before) = prior chains l i k s in
        h.enters a l (linked_at f c sums (length f.blocks) chains t a l i k before s).follows.best

    ops_of_last : (i k z : ℕ) (chain : Labels) → slice_get chains i ≡ Some chain → slice_get chain k ≡ Some z → slice_get chain (suc k) ≡ None → chain_ops f chain ≡ sum_at sums z
    ops_of_last i k z chain is at past =
        let own = t.each i chain is in
        trace_ops f c sums h own.first chain own.early own.begins own.trace k z at past

    short : (i : ℕ) (chain : Labels) → slice_get chains i ≡ Some chain → chain_ops f chain ≤ most_ops
    short i chain is =
        let own = t.each i chain is in
        let long : 0 < length chain = slice_get_within chain 0 own.first own.trace.begins in
        let k : ℕ = length chain - 1 in
        let z : ℕ = get_or chain k 0 in
        let at : slice_get chain k ≡ Some z = slice_get-get_or chain k 0 (omega arith) in
        let past : slice_get chain (suc k) ≡ None = slice_get_past chain (suc k) (omega arith) in
        let lt : z < length f.blocks = within z i k (record { chain = chain; is = is; there = at }) in
        let few = sum_small f c sums z (h.sums_are z lt) (h.small z lt) in
        let whole = ops_of_last i k z chain is at past in
        omega arith

    maximal : (a b : ℕ) → Follows f c a b → IsNext chains a b ⊎ IsFull f chains a b
    maximal a b g =
        let (i, k, s) = stands_somewhere f c sums chains h t (suc (sum_at sums a)) a (omega arith) (h.leaves a b g.best) in
        ⊎_elim
        (λ lt. inr (full i k s (λ j. let room = j.room in omega arith) (omega arith)))
        (λ ge. inl (record { chain = i; place = k; before = s; behind = joined_stands f c sums (length f.blocks) chains t a b i k s (record { follows = g; room = omega arith }) }))
        (cases_lt most_ops (sum_at sums a + ops_at f b))
      where
        last : (i k : ℕ) → (s : StandsAt chains a i k) → (IsJoined f c sums a b → ⊥) → slice_get s.chain (suc k) ≡ None
        last i k s not' =
            ⊎_elim
            (λ none. none)
            (λ more. let (x, at) = more in
            let next = (t.each i s.chain s.is).trace.linked k a x s.there at in
            let same : x ≡ b = one_out f c a x b next.follows.best g.best in
            absurd (not' (subst (λ z. IsJoined f c sums a z) same next)))
            (behind s.chain (suc k))

        full : (i k : ℕ) → StandsAt chains a i k → (IsJoined f c sums a b → ⊥) → most_ops < sum_at sums a + ops_at f b → IsFull f chains a b
        full i k s not' over = record {
          chain = i;
          place = k;
          labels = s.chain;
          stands = s;
          is = s.is;
          full = let whole = ops_of_last i k a s.chain s.is s.there (last i k s not') in omega arith;
        }
