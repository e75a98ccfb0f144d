-- A walk along best edges gives each block its sum.
use Rattle.std.proofs.Common.{◌≡◌, ◌≢◌, ◌⊎◌, inl, inr, ◌+◌, ◌<◌, ◌≤◌, ℕ, zero, suc, List, [], ◌∷◌, Option, Some, None, Bool, true, false, length, refl, sym, ap, ◌∙◌, subst, ⊎_elim, arith, if◌then◌else◌}
use Rattle.std.specs.Prelude.{slice_get, slice_set, nat_le, ◌==◌, ◌↔◌}
use Rattle.std.specs.List.{sum_by}
use Rattle.std.proofs.lemmas.Bool.Decides.{eqb_tells, nat_tests}
use Rattle.std.proofs.lemmas.List.{get_or-set_same, get_or-set_other, length-set}
use Rattle.std.proofs.lemmas.List.Sums.{sum_by-set}
use Rattle.tac_core.specs.declared.code.Block.{Block}
use Rattle.tac_core.specs.declared.code.TacFunc.{TacFunc}
use Rattle.tac_core.specs.declared.counts.FuncCounts.{FuncCounts}
use Rattle.tac_core.specs.Traces.{ops_of, ops_at}
use Rattle.trace_pick.specs.Best.{IsMutuallyBest, Reaches, AtOnce, Further, Follows}
use Rattle.trace_pick.specs.Tables.{sum_at, IsJoined, IsSummed, First, Behind, has_room, AreFewOps, AreLow}
use Rattle.trace_pick.specs.Settled.{told, label_at, IsSettled, IsKept, AreSettled, sum_behind, unsettled_by, unsettled_behind, CanSettle, IsSettling, IsSettlingAt}
use Rattle.trace_pick.proofs.Alone.{one_in, one_out, same_number}
use Rattle.trace_pick.proofs.WalkedBack.{at_some}
use Rattle.trace_pick.proofs.Linked.{set_same, set_other, table_same}
use Rattle.trace_pick.proofs.Read.{room_true, room_false}

pub sum_here : (sums : List ℕ) (l s : ℕ) → l < length sums → sum_at (slice_set sums l s) l ≡ s
sum_here sums l s lt = get_or-set_same sums l s 0 lt

pub sum_other : (sums : List ℕ) (l s x : ℕ) → x ≢ l → sum_at (slice_set sums l s) x ≡ sum_at sums x
sum_other sums l s x ne = get_or-set_other sums l x s 0 ne

-- how many blocks have no sum
abbrev pub unsummed : ℕ → ℕ
unsummed s = if s == 0 then 1 else 0

pub summed_falls : (sums : List ℕ) (l s : ℕ) → l < length sums → sum_at sums l ≡ 0 → 0 < s → sum_by unsummed (slice_set sums l s) < sum_by unsummed sums
summed_falls sums l s lt none some =
    let both : sum_by unsummed (slice_set sums l s) + unsummed (sum_at sums l) ≡ sum_by unsummed sums + unsummed s = sum_by-set unsummed sums l s 0 lt in
    let one : unsummed (sum_at sums l) ≡ 1 = ap unsummed none in
    let zero' : unsummed s ≡ 0 = above s some in
    omega arith
  where
    not_zero : (s : ℕ) → 0 < s → (s == 0) ≡ false
    not_zero s lt = grind (arith, nat_tests)

    above : (s : ℕ) → 0 < s → unsummed s ≡ 0
    above s lt = ap (λ b. if b then 1 else 0) (not_zero s lt)

-- sums stay low
pub low_set : (sums : List ℕ) (l s : ℕ) → l < length sums → s ≤ 2048 → AreLow sums → AreLow (slice_set sums l s)
low_set sums l s lt few low x =
    ⊎_elim
    (λ t. let same : x ≡ l = t.1 in let is = sum_here sums l s lt in subst (λ z. sum_at (slice_set sums l s) z ≤ 2048) (sym same) (subst (λ z. z ≤ 2048) (sym is) few))
    (λ o. let is = sum_other sums l s x o.1 in subst (λ z. z ≤ 2048) (sym is) (low x))
    (eqb_tells x l)

pub behind_low : (blocks : List Block) (sums : List ℕ) (a b : ℕ) → AreFewOps blocks → sum_behind blocks sums a b ≤ 2048
behind_low blocks sums a b few = by_test (has_room blocks sums a b) refl
  where
    by_test : (t : Bool) → has_room blocks sums a b ≡ t → (if t then sum_at sums a + ops_of (slice_get blocks b) else ops_of (slice_get blocks b)) ≤ 2048
    by_test true e = room (sum_at sums a + ops_of (slice_get blocks b)) e
      where
        room : (n : ℕ) → nat_le n 2048 ≡ true → n ≤ 2048
        room n h = grind (arith, nat_tests)
    by_test false e = few b

unsettled_some : (sums : List ℕ) (x : Option ℕ) (b : ℕ) → unsettled_by sums x ≡ Some b → (x ≡ Some b) × (sum_at sums b ≡ 0)
unsettled_some sums None b e = absurd cc
unsettled_some sums (Some d) b e = by_test (sum_at sums d == 0) refl e
  where
    by_test : (t : Bool) → (sum_at sums d == 0) ≡ t → (if t then Some d else None) ≡ Some b → (Some d ≡ Some b) × (sum_at sums b ≡ 0)
    by_test false i s = absurd cc
    by_test true i s = let same : d ≡ b = cc in (s, subst (λ z. sum_at sums z ≡ 0) same (same_number (sum_at sums d) 0 i))

pub unsettled_is : (next : List (Option ℕ)) (sums : List ℕ) (at b : ℕ) → Some b ≡ unsettled_behind next sums at → (label_at next at ≡ Some b) × (sum_at sums b ≡ 0)
unsettled_is next sums at b e = unsettled_some sums (label_at next at) b (sym e)

above : (n : ℕ) → (n == 0) ≡ false → 0 < n
above n h = grind (arith, nat_tests)

pub unsettled_none : (next : List (Option ℕ)) (sums : List ℕ) (at b : ℕ) → None ≡ unsettled_behind next sums at → slice_get next at ≡ Some (Some b) → IsSettled sums b
unsettled_none next sums at b e is = by_test (sum_at sums b == 0) refl (e ∙ ap (unsettled_by sums) (told_is (slice_get next at) is))
  where
    told_is : (x : Option (Option ℕ)) → x ≡ Some (Some b) → told x ≡ Some b
    told_is x i = ap told i

    by_test : (t : Bool) → (sum_at sums b == 0) ≡ t → None ≡ (if t then Some b else None) → IsSettled sums b
    by_test true i s = absurd cc
    by_test false i s = above (sum_at sums b) i

-- all that a settled block reaches is settled, once no walk is on its way
pub settled_on : (f : TacFunc) (c : FuncCounts) (cut : List (Option ℕ)) (sums : List ℕ) (a b : ℕ) → AreSettled f c cut sums None → IsSettled sums a → Reaches f c a b → IsSettled sums b
settled_on f c cut sums a _ h s AtOnce = s
settled_on f c cut sums a _ h s (Further d e r best) = h.on d e (settled_on f c cut sums a d h s r) (λ i. cc) best

-- sums of settled blocks rest on settled blocks alone, so that they stay as another block gets its sum
sums_stay : (f : TacFunc) (c : FuncCounts) (sums : List ℕ) (l s b : ℕ) → l < length sums → (b ≢ l) → (IsSettled sums l → ⊥) → ((a : ℕ) → Follows f c a b → IsSettled sums a) → IsSummed f c sums b → IsSummed f c (slice_set sums l s) b
sums_stay f c sums l s b lt ne free back (First none is) =
    First (λ a j. none a (record { follows = j.follows; room = let same = sum_other sums l s a (other a j.follows) in let room = j.room in omega arith })) (sum_other sums l s b ne ∙ is)
  where
    other : (a : ℕ) → Follows f c a b → a ≢ l
    other a g e = free (subst (λ z. IsSettled sums z) e (back a g))
sums_stay f c sums l s b lt ne free back (Behind a j is) =
    let same : sum_at (slice_set sums l s) a ≡ sum_at sums a = sum_other sums l s a (λ e. free (subst (λ z. IsSettled sums z) e (back a j.follows))) in
    Behind a (record { follows = j.follows; room = let room = j.room in omega arith }) (sum_other sums l s b ne ∙ is ∙ ap (λ z. z + ops_at f b) (sym same))

-- one more block is settled
pub settled_set : (sums : List ℕ) (l s x : ℕ) → IsSettled (slice_set sums l s) x → (x ≡ l) ⊎ IsSettled sums x
settled_set sums l s x h = ⊎_elim (λ t. inl t.1) (λ o. let is = sum_other sums l s x o.1 in inr (omega arith)) (eqb_tells x l)

pub settled_here : (sums : List ℕ) (l s : ℕ) → l < length sums → 0 < s → IsSettled (slice_set sums l s) l
settled_here sums l s lt some = let is = sum_here sums l s lt in omega arith

pub settled_still : (sums : List ℕ) (l s x : ℕ) → l < length sums → 0 < s → IsSettled sums x → IsSettled (slice_set sums l s) x
settled_still sums l s x lt some h =
    ⊎_elim
    (λ t. subst (λ z. IsSettled (slice_set sums l s) z) (sym t.1) (settled_here sums l s lt some))
    (λ o. let is = sum_other sums l s x o.1 in omega arith)
    (eqb_tells x l)

pub behind_some : (blocks : List Block) (sums : List ℕ) (a b : ℕ) → 0 < ops_of (slice_get blocks b) → 0 < sum_behind blocks sums a b
behind_some blocks sums a b some = by_test (has_room blocks sums a b)
  where
    by_test : (t : Bool) → 0 < (if t then sum_at sums a + ops_of (slice_get blocks b) else ops_of (slice_get blocks b))
    by_test true = omega arith
    by_test false = some

pub settle_begins : (f : TacFunc) (c : FuncCounts) (blocks : List Block) (next cut : List (Option ℕ)) (sums new : List ℕ) (first : ℕ)
    → new ≡ slice_set sums first (ops_of (slice_get blocks first)) → CanSettle f c blocks next cut sums first → IsSettlingAt f c (slice_set cut first None) sums new first first
settle_begins f c blocks next cut sums new first is can = subst (λ z. IsSettlingAt f c (slice_set cut first None) sums z first first) (sym is') (record {
  so_far = record {
    all = record {
      many = length-set sums first (ops_at f first) ∙ can.all.many;
      kept = record { many = length-set cut first None ∙ can.all.kept.many; tells = tells };
      back = λ a b s g. ⊎_elim
          (λ e. absurd (can.start.begins a (subst (λ z. Follows f c a z) e g)))
          (λ s'. settled_still sums first (ops_at f first) a lt some (can.all.back a b s' g))
          (settled_set sums first (ops_at f first) b s);
      on = λ a b s ne best. ⊎_elim
          (λ e. absurd (ne (ap Some (sym e))))
          (λ s'. settled_still sums first (ops_at f first) b lt some (can.all.on a b s' (λ i. cc) best))
          (settled_set sums first (ops_at f first) a s);
      summed = λ b s. ⊎_elim
          (λ e. subst (λ z. IsSummed f c (slice_set sums first (ops_at f first)) z) (sym e) (First (λ a j. can.start.begins a j.follows) (sum_here sums first (ops_at f first) lt)))
          (λ s'. sums_stay f c sums first (ops_at f first) b lt (λ e. can.unsettled (subst (λ z. IsSettled sums z) e s')) can.unsettled (λ a g. can.all.back a b s' g) (can.all.summed b s'))
          (settled_set sums first (ops_at f first) b s);
    };
    first_settled = settled_here sums first (ops_at f first) lt some;
    grown = λ b s. settled_still sums first (ops_at f first) b lt some s;
  };
  reaches = AtOnce;
  at_settled = settled_here sums first (ops_at f first) lt some;
})
  where
    is' : new ≡ slice_set sums first (ops_at f first)
    is' = is ∙ ap (λ z. slice_set sums first (ops_of (slice_get z first))) can.blocks_are

    lt : first < length sums
    lt = let many = can.all.many in let within = can.within in omega arith

    lt_cut : first < length cut
    lt_cut = let many = can.all.kept.many in let within = can.within in omega arith

    some : 0 < ops_at f first
    some = can.some first can.within

    tells : (a b : ℕ) → (slice_get (slice_set cut first None) a ≡ Some (Some b)) ↔ IsKept f c (slice_set sums first (ops_at f first)) a b
    tells a b = ⊎_elim
        (λ t. let here : slice_get (slice_set cut first None) a ≡ Some None = ap (λ z. slice_get (slice_set cut first None) z) t.1 ∙ set_same cut first None lt_cut in (
          λ e. let both = sym here ∙ e in absurd cc,
          λ k. absurd (can.start.begins b (subst (λ z. Follows f c b z) t.1 (k.uncut (subst (λ z. IsSettled (slice_set sums first (ops_at f first)) z) (sym t.1) (settled_here sums first (ops_at f first) lt some))))),
        ))
        (λ o. let other = set_other cut first a None o.1 in (
          λ e. let k = (can.all.kept.tells a b).0 (sym other ∙ e) in record {
            best = k.best;
            uncut = λ s. ⊎_elim (λ same. absurd (o.1 same)) k.uncut (settled_set sums first (ops_at f first) a s);
          },
          λ k. other ∙ (can.all.kept.tells a b).1 (record { best = k.best; uncut = λ s. k.uncut (settled_still sums first (ops_at f first) a lt some s) }),
        ))
        (eqb_tells a first)

pub settle_more : (f : TacFunc) (c : FuncCounts) (blocks : List Block) (next cut kept : List (Option ℕ)) (old sums new : List ℕ) (first at label : ℕ)
    → Some label ≡ unsettled_behind next sums at → new ≡ slice_set sums label (sum_behind blocks sums at label)
    → CanSettle f c blocks next cut old first → IsSettlingAt f c kept old sums first at → IsSettlingAt f c kept old new first label
settle_more f c blocks next cut kept old sums new first at label more is can h = subst (λ z. IsSettlingAt f c kept old z first label) (sym is') (record {
  so_far = record {
    all = record {
      many = length-set sums label sum ∙ h.so_far.all.many;
      kept = table_same (length f.blocks) (IsKept f c sums) (IsKept f c (slice_set sums label sum)) kept
          (λ b a k. record {
            best = k.best;
            uncut = λ s. ⊎_elim
                (λ e. let one : a ≡ at = one_in f c a at label (subst (λ z. IsMutuallyBest f c a z) e k.best) best in
                subst (λ z. Follows f c z b) (sym one) (subst (λ z. Follows f c at z) (sym e) follows))
                k.uncut
                (settled_set sums label sum b s);
          })
          (λ b a k. record { best = k.best; uncut = λ s. k.uncut (settled_still sums label sum b lt some s) })
          h.so_far.all.kept;
      back = λ a b s g. ⊎_elim
          (λ e. let one : a ≡ at = one_in f c a at label (subst (λ z. IsMutuallyBest f c a z) e g.best) best in
          settled_still sums label sum a lt some (subst (λ z. IsSettled sums z) (sym one) h.at_settled))
          (λ s'. settled_still sums label sum a lt some (h.so_far.all.back a b s' g))
          (settled_set sums label sum b s);
      on = λ a b s ne edge. ⊎_elim
          (λ e. absurd (ne (ap Some (sym e))))
          (λ s'. ⊎_elim
          (λ t. let one : b ≡ label = one_out f c at b label (subst (λ z. IsMutuallyBest f c z b) t.1 edge) best in
          subst (λ z. IsSettled (slice_set sums label sum) z) (sym one) (settled_here sums label sum lt some))
          (λ o. settled_still sums label sum b lt some (h.so_far.all.on a b s' (λ e. let one : at ≡ a = cc in o.1 (sym one)) edge))
          (eqb_tells a at))
          (settled_set sums label sum a s);
      summed = λ b s. ⊎_elim
          (λ e. subst (λ z. IsSummed f c (slice_set sums label sum) z) (sym e) summed_here)
          (λ s'. sums_stay f c sums label sum b lt (λ e. free (subst (λ z. IsSettled sums z) e s')) free (λ a g. h.so_far.all.back a b s' g) (h.so_far.all.summed b s'))
          (settled_set sums label sum b s);
    };
    first_settled = settled_still sums label sum first lt some h.so_far.first_settled;
    grown = λ b s. settled_still sums label sum b lt some (h.so_far.grown b s);
  };
  reaches = Further at label h.reaches best;
  at_settled = settled_here sums label sum lt some;
})
  where
    sum : ℕ
    sum = sum_behind f.blocks sums at label

    is' : new ≡ slice_set sums label sum
    is' = is ∙ ap (λ z. slice_set sums label (sum_behind z sums at label)) can.blocks_are

    best : IsMutuallyBest f c at label
    best = (can.nexts.tells at label).0 (at_some next at label (unsettled_is next sums at label more).0)

    within : label < length f.blocks
    within = can.enters at label best

    lt : label < length sums
    lt = let many = h.so_far.all.many in let less = within in omega arith

    some : 0 < sum
    some = behind_some f.blocks sums at label (can.some label within)

    free : IsSettled sums label → ⊥
    free s = let none = (unsettled_is next sums at label more).1 in absurd (omega arith)

    follows : Follows f c at label
    follows = record {
      best = best;
      uncut = λ cut'. can.start.uncut label (Further at label h.reaches best) (λ e. free (subst (λ z. IsSettled sums z) (sym e) h.so_far.first_settled)) cut';
    }

    at_other : at ≢ label
    at_other e = free (subst (λ z. IsSettled sums z) e h.at_settled)

    summed_here : IsSummed f c (slice_set sums label sum) label
    summed_here = by_room (has_room f.blocks sums at label) refl
      where
        at_stays : sum_at (slice_set sums label sum) at ≡ sum_at sums at
        at_stays = sum_other sums label sum at at_other

        by_room : (t : Bool) → has_room f.blocks sums at label ≡ t → IsSummed f c (slice_set sums label sum) label
        by_room true e =
            let own : sum ≡ sum_at sums at + ops_at f label = ap (λ t. if t then sum_at sums at + ops_at f label else ops_at f label) e in
            let room = room_true (sum_at sums at + ops_at f label) 2048 e in
            let stays = at_stays in
            Behind at (record { follows = follows; room = omega arith }) (sum_here sums label sum lt ∙ own ∙ ap (λ z. z + ops_at f label) (sym at_stays))
        by_room false e =
            let own : sum ≡ ops_at f label = ap (λ t. if t then sum_at sums at + ops_at f label else ops_at f label) e in
            First none (sum_here sums label sum lt ∙ own)
          where
            none : (a : ℕ) → IsJoined f c (slice_set sums label sum) a label → ⊥
            none a j =
                let one : a ≡ at = one_in f c a at label j.follows.best best in
                let room : sum_at (slice_set sums label sum) at + ops_at f label ≤ 2048 = subst (λ z. sum_at (slice_set sums label sum) z + ops_at f label ≤ 2048) one j.room in
                room_false (sum_at sums at + ops_at f label) 2048 e (subst (λ z. z + ops_at f label ≤ 2048) at_stays room)

pub settle_ends : (f : TacFunc) (c : FuncCounts) (blocks : List Block) (next cut kept : List (Option ℕ)) (old sums : List ℕ) (first at : ℕ)
    → None ≡ unsettled_behind next sums at → CanSettle f c blocks next cut old first → IsSettlingAt f c kept old sums first at → IsSettling f c kept old sums first None
settle_ends f c blocks next cut kept old sums first at none can h = record {
  all = record {
    many = h.so_far.all.many;
    kept = h.so_far.all.kept;
    back = h.so_far.all.back;
    on = λ a b s ne best. ⊎_elim
        (λ t. unsettled_none next sums at b none ((can.nexts.tells at b).1 (subst (λ z. IsMutuallyBest f c z b) t.1 best)))
        (λ o. h.so_far.all.on a b s (λ e. let one : at ≡ a = cc in o.1 (sym one)) best)
        (eqb_tells a at);
    summed = h.so_far.all.summed;
  };
  first_settled = h.so_far.first_settled;
  grown = h.so_far.grown;
}

pub ops_some : (blocks : List Block) (l : ℕ) → l < length blocks → 0 < ops_of (slice_get blocks l)
ops_some [] l lt = absurd (omega arith)
ops_some (b ∷ bs) zero lt = omega arith
ops_some (b ∷ bs) (suc l) lt = ops_some bs l (omega arith)
