-- Tables by label, filled step by step.
use Rattle.std.proofs.Common.{◌≡◌, ◌≢◌, ◌⊎◌, inl, inr, ◌+◌, ◌-◌, ◌<◌, ◌≤◌, ◌++◌, ℕ, zero, suc, Bool, true, false, not, List, [], ◌∷◌, Option, Some, None, length, replicate, refl, sym, ap, ◌∙◌, subst, ⊎_elim, arith, length-append}
use Rattle.std.specs.Prelude.{slice_get, slice_set, ◌↔◌, ◌==◌, if◌then◌else◌}
use Rattle.std.proofs.lemmas.Bool.{cases_lt}
use Rattle.std.proofs.lemmas.Bool.Decides.{eqb_tells}
use Rattle.std.proofs.lemmas.List.{length-set, get_or-set_same, get_or-set_other}
use Rattle.std.proofs.lemmas.Option.{slice_get_within, get_or_from_slice_get}
use Rattle.tac_core.specs.declared.code.End.{End}
use Rattle.tac_core.specs.declared.code.End.TheVariants.{Jump, Branch, Call, Ret}
use Rattle.tac_core.specs.declared.code.Block.{Block}
use Rattle.tac_core.specs.Counts.{IsTargetOf, LeadsTo}
use Rattle.tac_core.specs.Traces.{Labels, StandsAt, ArePartition}
use Rattle.tac_core.proofs.Lists.{slice_get_front, slice_get_seam}
use Rattle.tail_dup.specs.Duplicated.{IsBehind, IsFirst}
use Rattle.tail_dup.specs.Tables.{AreApart, AreWithin, IsJoined, AreBefore, AreBlocks, is_aside, marked, marked_end, is_entered, HasEntrance, AreEntered, AreCopyLabels, led_block, AreGiven, AreMade}
use Rattle.tail_dup.proofs.Chained.{LeadsBy, leads_by, by_leads}

pub set_same : {X : Type 0} (xs : List X) (i : ℕ) (y : X) → i < length xs → slice_get (slice_set xs i y) i ≡ Some y
set_same [] i y lt = absurd (omega arith)
set_same (x ∷ xs) zero y lt = refl
set_same (x ∷ xs) (suc i) y lt = set_same xs i y (omega arith)

pub set_other : {X : Type 0} (xs : List X) (i j : ℕ) (y : X) → j ≢ i → slice_get (slice_set xs i y) j ≡ slice_get xs j
set_other [] i j y ne = refl
set_other (x ∷ xs) zero zero y ne = absurd (ne refl)
set_other (x ∷ xs) zero (suc j) y ne = refl
set_other (x ∷ xs) (suc i) zero y ne = refl
set_other (x ∷ xs) (suc i) (suc j) y ne = set_other xs i j y (λ e. ne (ap suc e))

pub replicate_get : {X : Type 0} (n i : ℕ) (x : X) → i < n → slice_get (replicate n x) i ≡ Some x
replicate_get zero i x lt = absurd (omega arith)
replicate_get (suc n) zero x lt = refl
replicate_get (suc n) (suc i) x lt = replicate_get n i x (omega arith)

pub joined_none : (chain : Labels) (before : List (Option ℕ)) → IsJoined chain 1 before before
joined_none chain before = record { many = refl; joined = λ k l m lt. absurd (omega arith); others = λ m not'. refl }

pub joined_more : (chain : Labels) (i k a b : ℕ) (old new next : List (Option ℕ)) → AreApart chain → AreWithin (length old) chain → i ≡ suc k → slice_get chain k ≡ Some a → slice_get chain i ≡ Some b → next ≡ slice_set new b (Some a) → IsJoined chain i old new → IsJoined chain (i + 1) old next
joined_more chain i k a b old new next apart' within at first second made h =
    subst (IsJoined chain (i + 1) old) (sym made) (record { many = length-set new b (Some a) ∙ h.many; joined = joined; others = others })
  where
    inside : b < length new
    inside = let lt : b < length old = within i b second in let many = h.many in omega arith

    other : (j m : ℕ) → suc j < i → slice_get chain (suc j) ≡ Some m → m ≢ b
    other j m lt there e =
        let same : suc j ≡ i = apart' (suc j) i m there (second ∙ ap Some (sym e)) in absurd (omega arith)

    joined : (j l m : ℕ) → suc j < i + 1 → slice_get chain j ≡ Some l → slice_get chain (suc j) ≡ Some m → slice_get (slice_set new b (Some a)) m ≡ Some (Some l)
    joined j l m lt is is' =
        ⊎_elim
        (λ below. set_other new b m (Some a) (other j m below is') ∙ h.joined j l m below is is')
        (λ ge.
        let same : suc j ≡ i = omega arith in
        let prior : j ≡ k = omega arith in
        let both : Some m ≡ Some b = sym is' ∙ ap (λ z. slice_get chain z) same ∙ second in
        let one : m ≡ b = cc in
        let both' : Some l ≡ Some a = sym is ∙ ap (λ z. slice_get chain z) prior ∙ first in
        let two : a ≡ l = cc in
        ap (λ z. slice_get (slice_set new b (Some a)) z) one ∙ set_same new b (Some a) inside ∙ ap (λ z. Some (Some z)) two)
        (cases_lt (suc j) i)

    others : (m : ℕ) → ((j : ℕ) → suc j < i + 1 → slice_get chain (suc j) ≡ Some m → ⊥) → slice_get (slice_set new b (Some a)) m ≡ slice_get old m
    others m not' =
        set_other new b m (Some a) (λ e. not' k (omega arith) (ap (λ z. slice_get chain z) (sym at) ∙ second ∙ ap Some (sym e)))
        ∙ h.others m (λ j lt there. not' j (omega arith) there)

pub joined_done : (chain : Labels) (i : ℕ) (old new : List (Option ℕ)) → length chain ≤ i → IsJoined chain i old new → IsJoined chain (length chain) old new
joined_done chain i old new done h = record {
  many = h.many;
  joined = λ k l m lt is is'. h.joined k l m (omega arith) is is';
  others = λ m not'. h.others m (λ k lt there. not' k (slice_get_within chain (suc k) m there) there);
}

-- the first chains are joined
pub record AreJoined (blocks : ℕ) (chains : List Labels) (upto : ℕ) (before : List (Option ℕ)) : Type 0 where
  pub many : length before ≡ blocks
  pub behind : (l m c k : ℕ) → c < upto → StandsAt chains l c k → StandsAt chains m c (suc k) → slice_get before m ≡ Some (Some l)
  pub others : (m : ℕ) → m < blocks → ((c k : ℕ) → c < upto → StandsAt chains m c (suc k) → ⊥) → slice_get before m ≡ Some None

pub joined_start : (blocks : ℕ) (chains : List Labels) (before : List (Option ℕ)) → before ≡ replicate blocks None → length before ≡ blocks → AreJoined blocks chains 0 before
joined_start blocks chains before is long = record {
  many = long;
  behind = λ l m c k lt. absurd (omega arith);
  others = λ m lt not'. ap (λ z. slice_get z m) is ∙ replicate_get blocks m None lt;
}

module _ (blocks : ℕ) (chains : List Labels) (part : ArePartition blocks chains) where
  pub chain_apart : (c : ℕ) (chain : Labels) → slice_get chains c ≡ Some chain → AreApart chain
  chain_apart c chain is j k l a b =
      (part.once l c j c k (record { chain = chain; is = is; there = a }) (record { chain = chain; is = is; there = b })).1

  pub chain_within : (c : ℕ) (chain : Labels) → slice_get chains c ≡ Some chain → AreWithin blocks chain
  chain_within c chain is k l a = part.within l c k (record { chain = chain; is = is; there = a })

  pub chains_joined : (c : ℕ) (chain : Labels) (before next : List (Option ℕ)) → slice_get chains c ≡ Some chain → IsJoined chain (length chain) before next → AreJoined blocks chains c before → AreJoined blocks chains (c + 1) next
  chains_joined c chain before next is j h = record { many = j.many ∙ h.many; behind = behind; others = others }
    where
      own : (m k : ℕ) → StandsAt chains m c k → slice_get chain k ≡ Some m
      own m k s =
          let both : Some chain ≡ Some s.chain = sym is ∙ s.is in
          let same : s.chain ≡ chain = cc in
          subst (λ z. slice_get z k ≡ Some m) same s.there

      stands : (m k : ℕ) → slice_get chain k ≡ Some m → StandsAt chains m c k
      stands m k there = record { chain = chain; is = is; there = there }

      elsewhere : (m c' k : ℕ) → c' < c → StandsAt chains m c' (suc k) → (j' : ℕ) → suc j' < length chain → slice_get chain (suc j') ≡ Some m → ⊥
      elsewhere m c' k lt s j' lt' there =
          let same : c' ≡ c = (part.once m c' (suc k) c (suc j') s (stands m (suc j') there)).0 in absurd (omega arith)

      behind : (l m c' k : ℕ) → c' < c + 1 → StandsAt chains l c' k → StandsAt chains m c' (suc k) → slice_get next m ≡ Some (Some l)
      behind l m c' k lt s s' =
          ⊎_elim
          (λ below. j.others m (elsewhere m c' k below s') ∙ h.behind l m c' k below s s')
          (λ ge.
          let same : c' ≡ c = omega arith in
          let a = own l k (subst (λ z. StandsAt chains l z k) same s) in
          let b = own m (suc k) (subst (λ z. StandsAt chains m z (suc k)) same s') in
          j.joined k l m (slice_get_within chain (suc k) m b) a b)
          (cases_lt c' c)

      others : (m : ℕ) → m < blocks → ((c' k : ℕ) → c' < c + 1 → StandsAt chains m c' (suc k) → ⊥) → slice_get next m ≡ Some None
      others m lt not' =
          j.others m (λ k lt' there. not' c k (omega arith) (stands m (suc k) there))
          ∙ h.others m lt (λ c' k lt' s. not' c' k (omega arith) s)

  pub joined_before : (i : ℕ) (before : List (Option ℕ)) → length chains ≤ i → AreJoined blocks chains i before → AreBefore blocks chains before
  joined_before i before done h = record {
    many = h.many;
    behind = λ l m b.
        let lt : b.chain < length chains = slice_get_within chains b.chain b.before.chain b.before.is in
        h.behind l m b.chain b.place (omega arith) b.before b.stands;
    first = λ m f.
        h.others m (part.within m f.chain 0 f.stands)
        (λ c k lt s. let same : 0 ≡ suc k = (part.once m f.chain 0 c (suc k) f.stands s).1 in absurd (omega arith));
  }

-- what marking tells
abbrev pub IsMarked : (before : List (Option ℕ)) (from : ℕ) (to m : ℕ) → Type 0
IsMarked before from to m = (m ≡ to) × (is_aside (slice_get before to) from ≡ true)

marked_by : (b : Bool) (entered : List Bool) (to m : ℕ) → to < length entered → (is_entered (if b then slice_set entered to true else entered) m ≡ true) ↔ ((is_entered entered m ≡ true) ⊎ ((m ≡ to) × (b ≡ true)))
marked_by false entered to m lt = (λ t. inl t, λ h. old h)
  where
    old : (is_entered entered m ≡ true) ⊎ ((m ≡ to) × (false ≡ true)) → is_entered entered m ≡ true
    old (inl t) = t
    old (inr p) = let no' : false ≡ true = p.1 in cc
marked_by true entered to m lt = (told, tells)
  where
    told : is_entered (slice_set entered to true) m ≡ true → (is_entered entered m ≡ true) ⊎ ((m ≡ to) × (true ≡ true))
    told t =
        ⊎_elim
        (λ y. inr (y.1, refl))
        (λ no'. inl (sym (get_or-set_other entered to m true false no'.1) ∙ t))
        (eqb_tells m to)

    at : m ≡ to → is_entered (slice_set entered to true) m ≡ true
    at e = ap (λ z. is_entered (slice_set entered to true) z) e ∙ get_or-set_same entered to true false lt

    kept : is_entered entered m ≡ true → is_entered (slice_set entered to true) m ≡ true
    kept t = ⊎_elim (λ y. at y.1) (λ no'. get_or-set_other entered to m true false no'.1 ∙ t) (eqb_tells m to)

    tells : (is_entered entered m ≡ true) ⊎ ((m ≡ to) × (true ≡ true)) → is_entered (slice_set entered to true) m ≡ true
    tells (inl t) = kept t
    tells (inr p) = at p.0

length-marked : (b : Bool) (entered : List Bool) (to : ℕ) → length (if b then slice_set entered to true else entered) ≡ length entered
length-marked true entered to = length-set entered to true
length-marked false entered to = refl

pub marked_long : (before : List (Option ℕ)) (from : ℕ) (entered : List Bool) (to : ℕ) → length (marked before from entered to) ≡ length entered
marked_long before from entered to = length-marked (is_aside (slice_get before to) from) entered to

marked_tells : (before : List (Option ℕ)) (from : ℕ) (entered : List Bool) (to m : ℕ) → to < length entered → (is_entered (marked before from entered to) m ≡ true) ↔ ((is_entered entered m ≡ true) ⊎ IsMarked before from to m)
marked_tells before from entered to m lt = marked_by (is_aside (slice_get before to) from) entered to m lt

-- an edge of the end to m comes from aside
abbrev pub IsMarkedBy : (before : List (Option ℕ)) (from : ℕ) → End → ℕ → Type 0
IsMarkedBy before from e m = IsTargetOf e m × (is_aside (slice_get before m) from ≡ true)

one_marked : (before : List (Option ℕ)) (from to m : ℕ) → IsMarked before from to m → (m ≡ to) × (is_aside (slice_get before m) from ≡ true)
one_marked before from to m h = (h.0, ap (λ z. is_aside (slice_get before z) from) h.0 ∙ h.1)

marked_one : (before : List (Option ℕ)) (from to m : ℕ) → (m ≡ to) → is_aside (slice_get before m) from ≡ true → IsMarked before from to m
marked_one before from to m e h = (e, ap (λ z. is_aside (slice_get before z) from) (sym e) ∙ h)

end_told : (before : List (Option ℕ)) (from : ℕ) (entered : List Bool) (e : End) (m : ℕ) → AreBlocks (length entered) e → is_entered (marked_end before from entered e) m ≡ true → (is_entered entered m ≡ true) ⊎ IsMarkedBy before from e m
end_told before from entered (Jump l) m there t =
    ⊎_elim (λ a. inl a) (λ b. inr (one_marked before from l m b)) ((marked_tells before from entered l m (there l refl)).0 t)
end_told before from entered (Branch r y n) m there t =
    let long = marked_long before from entered y in
    let in_n : n < length entered = there n (inr refl) in
    ⊎_elim
    (λ a.
    ⊎_elim (λ a'. inl a') (λ b'. let o = one_marked before from y m b' in inr (inl o.0, o.1)) ((marked_tells before from entered y m (there y (inl refl))).0 a))
    (λ b. let o = one_marked before from n m b in inr (inr o.0, o.1))
    ((marked_tells before from (marked before from entered y) n m (omega arith)).0 t)
end_told before from entered (Call d f args l) m there t =
    ⊎_elim (λ a. inl a) (λ b. inr (one_marked before from l m b)) ((marked_tells before from entered l m (there l refl)).0 t)
end_told before from entered (Ret r) m there t = inl t

end_tells : (before : List (Option ℕ)) (from : ℕ) (entered : List Bool) (e : End) (m : ℕ) → AreBlocks (length entered) e → (is_entered entered m ≡ true) ⊎ IsMarkedBy before from e m → is_entered (marked_end before from entered e) m ≡ true
end_tells before from entered (Jump l) m there h =
    (marked_tells before from entered l m (there l refl)).1 (⊎_elim (λ a. inl a) (λ b. inr (marked_one before from l m b.0 b.1)) h)
end_tells before from entered (Branch r y n) m there h =
    let long = marked_long before from entered y in
    let in_n : n < length entered = there n (inr refl) in
    let first = (marked_tells before from entered y m (there y (inl refl))).1 in
    let second = (marked_tells before from (marked before from entered y) n m (omega arith)).1 in
    ⊎_elim
    (λ a. second (inl (first (inl a))))
    (λ b. ⊎_elim (λ e. second (inl (first (inr (marked_one before from y m e b.1))))) (λ e. second (inr (marked_one before from n m e b.1))) b.0)
    h
end_tells before from entered (Call d f args l) m there h =
    (marked_tells before from entered l m (there l refl)).1 (⊎_elim (λ a. inl a) (λ b. inr (marked_one before from l m b.0 b.1)) h)
end_tells before from entered (Ret r) m there h = ⊎_elim (λ a. a) (λ b. absurd b.0) h

end_long : (before : List (Option ℕ)) (from : ℕ) (entered : List Bool) (e : End) → length (marked_end before from entered e) ≡ length entered
end_long before from entered (Jump l) = marked_long before from entered l
end_long before from entered (Branch r y n) = marked_long before from (marked before from entered y) n ∙ marked_long before from entered y
end_long before from entered (Call d f args l) = marked_long before from entered l
end_long before from entered (Ret r) = refl

pub entered_start : (blocks : List Block) (before : List (Option ℕ)) (entered : List Bool) → entered ≡ replicate (length blocks) false → length entered ≡ length blocks → AreEntered blocks before 0 entered
entered_start blocks before entered is long = record {
  many = long;
  tells = λ m. (λ t. absurd (none_marked (length blocks) m (ap (λ z. is_entered z m) (sym is) ∙ t)), λ e. let lt = e.early in absurd (omega arith));
}
  where
    none_marked : (n m : ℕ) → is_entered (replicate n false) m ≡ true → ⊥
    none_marked zero m t = cc
    none_marked (suc n) zero t = cc
    none_marked (suc n) (suc m) t = none_marked n m t

pub entered_more : (blocks : List Block) (before : List (Option ℕ)) (i : ℕ) (b : Block) (entered next : List Bool) → slice_get blocks i ≡ Some b → AreBlocks (length blocks) b.«end» → next ≡ marked_end before i entered b.«end» → AreEntered blocks before i entered → AreEntered blocks before (i + 1) next
entered_more blocks before i b entered next is there made h =
    subst (AreEntered blocks before (i + 1)) (sym made) (record { many = end_long before i entered b.«end» ∙ h.many; tells = λ m. (told m, tells m) })
  where
    inside : AreBlocks (length entered) b.«end»
    inside t target = let lt : t < length blocks = there t target in let many = h.many in omega arith

    told : (m : ℕ) → is_entered (marked_end before i entered b.«end») m ≡ true → HasEntrance blocks before (i + 1) m
    told m t =
        ⊎_elim
        (λ old. let e = (h.tells m).0 old in let lt = e.early in record { from = e.from; early = omega arith; leads = e.leads; aside = e.aside })
        (λ new. record { from = i; early = omega arith; leads = by_leads (slice_get blocks i) b m is new.0; aside = new.1 })
        (end_told before i entered b.«end» m inside t)

    tells : (m : ℕ) → HasEntrance blocks before (i + 1) m → is_entered (marked_end before i entered b.«end») m ≡ true
    tells m e =
        end_tells before i entered b.«end» m inside
        (⊎_elim
        (λ lt. inl ((h.tells m).1 (record { from = e.from; early = lt; leads = e.leads; aside = e.aside })))
        (λ ge.
        let early = e.early in
        let same : e.from ≡ i = omega arith in
        let edge = leads_by (slice_get blocks i) m (subst (λ z. LeadsTo (slice_get blocks z) m) same e.leads) in
        let both : Some edge.found ≡ Some b = sym edge.is ∙ is in
        let one : edge.found ≡ b = cc in
        inr (subst (λ (z : Block). IsTargetOf z.«end» m) one edge.leads, subst (λ z. is_aside (slice_get before m) z ≡ true) same e.aside))
        (cases_lt e.from i))

pub entered_done : (blocks : List Block) (before : List (Option ℕ)) (i : ℕ) (entered : List Bool) → i ≡ length blocks → AreEntered blocks before i entered → AreEntered blocks before (length blocks) entered
entered_done blocks before i entered e h = subst (λ z. AreEntered blocks before z entered) e h

pub labels_start : (blocks : ℕ) (copies : List ℕ) (of : List (Option ℕ)) → of ≡ replicate blocks None → length of ≡ blocks → AreCopyLabels blocks copies 0 of
labels_start blocks copies of is long = record {
  many = long;
  true' = λ m l t. absurd (none_there blocks m l (ap (λ z. slice_get z m) (sym is) ∙ t));
  all = λ i m lt. absurd (omega arith);
}
  where
    none_there : (n m l : ℕ) → slice_get (replicate n None) m ≡ Some (Some l) → ⊥
    none_there zero m l t = cc
    none_there (suc n) zero l t = let e : Some None ≡ Some (Some l) = t in let f : None ≡ Some l = cc in cc
    none_there (suc n) (suc m) l t = none_there n m l t

pub labels_more : (blocks : ℕ) (copies : List ℕ) (i m l : ℕ) (of next : List (Option ℕ)) → m < blocks → slice_get copies i ≡ Some m → l ≡ blocks + i → next ≡ slice_set of m (Some l) → AreCopyLabels blocks copies i of → AreCopyLabels blocks copies (i + 1) next
labels_more blocks copies i m l of next below is label made h =
    subst (AreCopyLabels blocks copies (i + 1)) (sym made) (record { many = length-set of m (Some l) ∙ h.many; true' = true''; all = all })
  where
    inside : m < length of
    inside = let many = h.many in omega arith

    true'' : (m' l' : ℕ) → slice_get (slice_set of m (Some l)) m' ≡ Some (Some l') → (j : ℕ) × (slice_get copies j ≡ Some m') × (l' ≡ blocks + j)
    true'' m' l' t =
        ⊎_elim
        (λ y.
        let same : m' ≡ m = y.1 in
        let both : Some (Some l) ≡ Some (Some l') = sym (set_same of m (Some l) inside) ∙ ap (λ z. slice_get (slice_set of m (Some l)) z) (sym same) ∙ t in
        let one : l' ≡ l = cc in
        (i, is ∙ ap Some (sym same), one ∙ label))
        (λ no'. h.true' m' l' (sym (set_other of m m' (Some l) no'.1) ∙ t))
        (eqb_tells m' m)

    all : (j m' : ℕ) → j < i + 1 → slice_get copies j ≡ Some m' → (l' : ℕ) × (slice_get (slice_set of m (Some l)) m' ≡ Some (Some l'))
    all j m' lt there =
        ⊎_elim
        (λ y. (l, ap (λ z. slice_get (slice_set of m (Some l)) z) y.1 ∙ set_same of m (Some l) inside))
        (λ no'.
        let other : j ≢ i = λ e. no'.1 (same_at j m' there e) in
        let old = h.all j m' (omega arith) there in
        (old.0, set_other of m m' (Some l) no'.1 ∙ old.1))
        (eqb_tells m' m)
      where
        same_at : (j m' : ℕ) → slice_get copies j ≡ Some m' → j ≡ i → m' ≡ m
        same_at j m' there e = let both : Some m' ≡ Some m = sym there ∙ ap (λ z. slice_get copies z) e ∙ is in cc

pub given_start : (blocks : List Block) (before copies : List (Option ℕ)) (made : List Block) → made ≡ [] → AreGiven blocks before copies 0 made
given_start blocks before copies made is = record { many = ap length is; each = λ l b lt. absurd (omega arith) }

pub given_more : (blocks : List Block) (before copies : List (Option ℕ)) (i : ℕ) (b c : Block) (made next : List Block) → slice_get blocks i ≡ Some b → c ≡ led_block before copies (Some i) b → next ≡ made ++ c ∷ [] → AreGiven blocks before copies i made → AreGiven blocks before copies (i + 1) next
given_more blocks before copies i b c made next is led grown h =
    subst (AreGiven blocks before copies (i + 1)) (sym grown)
    (record { many = length-append made (c ∷ []) ∙ ap (λ k. k + 1) h.many; each = each })
  where
    each : (l : ℕ) (b' : Block) → l < i + 1 → slice_get blocks l ≡ Some b' → slice_get (made ++ c ∷ []) l ≡ Some (led_block before copies (Some l) b')
    each l b' lt there =
        let many = h.many in
        ⊎_elim
        (λ below. slice_get_front made (c ∷ []) l (omega arith) ∙ h.each l b' below there)
        (λ ge.
        let same : l ≡ i = omega arith in
        let last : l ≡ length made = omega arith in
        let both : Some b' ≡ Some b = sym there ∙ ap (λ z. slice_get blocks z) same ∙ is in
        let one : b ≡ b' = cc in
        ap (λ z. slice_get (made ++ c ∷ []) z) last ∙ slice_get_seam made c [] ∙ ap Some (led ∙ ap (λ z. led_block before copies (Some i) z) one ∙ ap (λ z. led_block before copies (Some z) b') (sym same)))
        (cases_lt l i)

pub made_start : (blocks : List Block) (copied : List ℕ) (before copies : List (Option ℕ)) (made : List Block) → made ≡ [] → AreMade blocks copied before copies 0 made
made_start blocks copied before copies made is = record { many = ap length is; each = λ i m b lt. absurd (omega arith) }

pub made_more : (blocks : List Block) (copied : List ℕ) (before copies : List (Option ℕ)) (i m : ℕ) (b c : Block) (made next : List Block) → slice_get copied i ≡ Some m → slice_get blocks m ≡ Some b → c ≡ led_block before copies None b → next ≡ made ++ c ∷ [] → AreMade blocks copied before copies i made → AreMade blocks copied before copies (i + 1) next
made_more blocks copied before copies i m b c made next at is led grown h =
    subst (AreMade blocks copied before copies (i + 1)) (sym grown)
    (record { many = length-append made (c ∷ []) ∙ ap (λ k. k + 1) h.many; each = each })
  where
    each : (j m' : ℕ) (b' : Block) → j < i + 1 → slice_get copied j ≡ Some m' → slice_get blocks m' ≡ Some b' → slice_get (made ++ c ∷ []) j ≡ Some (led_block before copies None b')
    each j m' b' lt there there' =
        let many = h.many in
        ⊎_elim
        (λ below. slice_get_front made (c ∷ []) j (omega arith) ∙ h.each j m' b' below there there')
        (λ ge.
        let same : j ≡ i = omega arith in
        let last : j ≡ length made = omega arith in
        let both : Some m' ≡ Some m = sym there ∙ ap (λ z. slice_get copied z) same ∙ at in
        let one : m' ≡ m = cc in
        let both' : Some b' ≡ Some b = sym there' ∙ ap (λ z. slice_get blocks z) one ∙ is in
        let two : b ≡ b' = cc in
        ap (λ z. slice_get (made ++ c ∷ []) z) last ∙ slice_get_seam made c [] ∙ ap Some (led ∙ ap (λ z. led_block before copies None z) two))
        (cases_lt j i)

pub entered_none : (xs : List Bool) (l : ℕ) → None ≡ slice_get xs l → false ≡ is_entered xs l
entered_none [] l e = refl
entered_none (x ∷ xs) zero e = cc
entered_none (x ∷ xs) (suc l) e = entered_none xs l e

pub entered_some : (xs : List Bool) (l : ℕ) (x : Bool) → Some x ≡ slice_get xs l → x ≡ is_entered xs l
entered_some xs l x e = sym (get_or_from_slice_get xs l x false (sym e))
