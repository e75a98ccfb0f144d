-- Rounds: what does not wait is closed, and where nothing waits the sets are the live ones.
use Rattle.std.proofs.Common.{◌≡◌, ◌↔◌, ◌⊎◌, ⊎_elim, inl, inr, ℕ, zero, suc, ◌+◌, ◌*◌, ◌<◌, ◌≤◌, List, [], ◌∷◌, ◌++◌, Option, Some, None, length, get_or, drop, min, refl, sym, ap, subst, ◌∙◌, arith, Bool, true, false}
use Rattle.std.specs.Prelude.{slice_get}
use Rattle.std.specs.List.{All, Contains}
use Rattle.std.proofs.Math.ListN.{set, length-set}
use Rattle.std.proofs.lemmas.Bool.{cases_eq, cases_lt}
use Rattle.std.proofs.lemmas.Grind.{get_or-set_at}
use Rattle.std.proofs.lemmas.List.{get_or-set_other, get_or-set_same, set-get_or}
use Rattle.std.proofs.lemmas.List.Elements.{Contains-append_left, Contains-append_right}
use Rattle.std.proofs.lemmas.List.Sums.{sum_by-set}
use Rattle.std.proofs.lemmas.Option.{slice_get_cases, slice_get_past}
use Rattle.tac_core.specs.Rules.{IsRegister}
use Rattle.tac_live.specs.Preds.{ArePreds}
use Rattle.ib_bits.specs.Bits.{IsEmpty, room}
use Rattle.ib_bits.specs.Bits.{Has}
use Rattle.tac_core.specs.declared.code.End.{End}
use Rattle.tac_core.specs.declared.code.End.TheVariants.{Jump, Branch, Call, Ret}
use Rattle.tac_core.specs.declared.code.Block.{Block}
use Rattle.tac_core.specs.declared.code.TacFunc.{TacFunc}
use Rattle.tac_core.specs.Counts.{IsTargetOf}
use Rattle.tac_core.specs.Live.{IsLive, UsedInside, UsedAtEnd, UsedBehind}
use Rattle.tac_live.specs.Before.{LiveBefore, LiveBehind, At, row, EndReadsBelow}
use Rattle.tac_live.specs.Rounds.{Even, IsClosed, AreSound, WaitsOrClosed, Settles, AllReadBelow, total_room}
use Rattle.tac_live.proofs.Steps.{before_map, no_row}

-- what is live before a block by sound sets is live there
pub path_of : (f : TacFunc) (rows : List (List ℕ)) → ((l r : ℕ) → At rows l r → IsLive f r l) → (l : ℕ) (b : Block) → slice_get f.blocks l ≡ Some b → (r : ℕ) → LiveBefore b (LiveBehind b.«end» (At rows)) r → IsLive f r l
path_of f rows sound l b is r (inl used) = UsedInside l b is used
path_of f rows sound l b is r (inr (passes, inl reads)) = UsedAtEnd l b is passes reads
path_of f rows sound l b is r (inr (passes, inr (not, (next, target, h)))) = UsedBehind l b next is passes not target (sound next r h)

-- closed sets hold whatever is live
pub holds_live : (f : TacFunc) (rows : List (List ℕ)) → ((l : ℕ) → IsClosed f rows l) → (r l : ℕ) → IsLive f r l → At rows l r
holds_live f rows closed r l (UsedInside _ b is used) = (closed l).closed b is r (inl used)
holds_live f rows closed r l (UsedAtEnd _ b is passes reads) = (closed l).closed b is r (inr (passes, inl reads))
holds_live f rows closed r l (UsedBehind _ b next is passes not target live) =
    (closed l).closed b is r (inr (passes, inr (not, (next, target, holds_live f rows closed r next live))))

target_or_not : (e : End) (l : ℕ) → IsTargetOf e l ⊎ (IsTargetOf e l → ⊥)
target_or_not (Jump m) l = cases_eq l m
target_or_not (Branch r y n) l = ⊎_elim (λ e. inl (inl e)) (λ ne. ⊎_elim (λ e. inl (inr e)) (λ nf. inr (λ o. ⊎_elim (λ e. ne e) (λ e. nf e) o)) (cases_eq l n)) (cases_eq l y)
target_or_not (Call d f args m) l = cases_eq l m
target_or_not (Ret r) l = inr (λ t. t)

-- no block waits that is not there
pub closed_past : (f : TacFunc) (rows : List (List ℕ)) (l : ℕ) → slice_get f.blocks l ≡ None → IsClosed f rows l
closed_past f rows l none = record { closed = λ b is r h. absurd (cc) }

module _ (b : Block) (rows new : List (List ℕ)) (label : ℕ) (grown : Bool) (s : Settles b rows new label grown) where
  -- sets only grow
  pub only_grow : (l r : ℕ) → At rows l r → At new l r
  only_grow l r h =
      ⊎_elim
      (λ e. subst (λ k. At new k r) (sym e) ((s.here r).1 (inl (subst (λ k. At rows k r) e h))))
      (λ ne. subst (λ words. Has words r) (sym (s.others l ne)) h)
      (cases_eq l label)

  -- what leads elsewhere sees nothing new
  unseen : (e : End) → (IsTargetOf e label → ⊥) → (r : ℕ) → LiveBehind e (At new) r → LiveBehind e (At rows) r
  unseen e not r (l, target, h) = (l, target, subst (λ words. Has words r) (s.others l (λ is. not (subst (λ k. IsTargetOf e k) is target))) h)

  -- its new set, where the block does not lead to itself, or stayed as it was
  pub sound_after : (f : TacFunc) → slice_get f.blocks label ≡ Some b → ((l r : ℕ) → At rows l r → IsLive f r l) → (l r : ℕ) → At new l r → IsLive f r l
  sound_after f is sound l r h =
      ⊎_elim
      (λ e. subst (λ k. IsLive f r k) (sym e) (⊎_elim (λ old. sound label r old) (λ before. path_of f rows sound label b is r before) ((s.here r).0 (subst (λ k. At new k r) e h))))
      (λ ne. sound l r (subst (λ words. Has words r) (s.others l ne) h))
      (cases_eq l label)

  closed_still : (f : TacFunc) (l : ℕ) → slice_get f.blocks label ≡ Some b → (l ≡ label) ⊎ IsClosed f rows l → ((c : Block) → slice_get f.blocks l ≡ Some c → IsTargetOf c.«end» label → ⊥) → IsClosed f new l
  closed_still f l is (inl e) not = record {
    closed = λ c at r h.
        let same : c ≡ b = cc in
        subst (λ k. At new k r) (sym e) ((s.here r).1 (inr (subst (λ c. LiveBefore c (LiveBehind c.«end» (At rows)) r) same (before_map c (LiveBehind c.«end» (At new)) (LiveBehind c.«end» (At rows)) r (λ t. unseen c.«end» (not c at) r t) h))));
  }
  closed_still f l is (inr old) not = record {
    closed = λ c at r h.
        only_grow l r (old.closed c at r (before_map c (LiveBehind c.«end» (At new)) (LiveBehind c.«end» (At rows)) r (λ t. unseen c.«end» (not c at) r t) h));
  }

  -- who leads to a block that grew waits next
  pub waits_after : (f : TacFunc) (preds : List (List ℕ)) → slice_get f.blocks label ≡ Some b → label < length f.blocks → ArePreds f.blocks (length f.blocks) preds → (next : List ℕ) (l : ℕ) → (l ≡ label) ⊎ WaitsOrClosed f rows next l → WaitsOrClosed f new (next ++ row preds label) l
  waits_after f preds is there p next l o = seen o (slice_get_cases f.blocks l).1
    where
      some_same : (c x : Block) → slice_get f.blocks l ≡ Some c → slice_get f.blocks l ≡ Some x → c ≡ x
      some_same c x p q = cc

      led : (x : Block) → l < length f.blocks → slice_get f.blocks l ≡ Some x → (l ≡ label) ⊎ IsClosed f rows l → IsTargetOf x.«end» label ⊎ (IsTargetOf x.«end» label → ⊥) → WaitsOrClosed f new (next ++ row preds label) l
      led x within found o (inl target) = inl (Contains-append_right next (row preds label) l (p.named l label x within found target there))
      led x within found o (inr not) = inr (closed_still f l is o (λ c at target. not (subst (λ d. IsTargetOf d.«end» label) (some_same c x at found) target)))

      seen : (l ≡ label) ⊎ WaitsOrClosed f rows next l → ((x : Block) × (l < length f.blocks) × (slice_get f.blocks l ≡ Some x) × (get_or f.blocks l x ≡ x)) ⊎ ((length f.blocks ≤ l) × (slice_get f.blocks l ≡ None)) → WaitsOrClosed f new (next ++ row preds label) l
      seen (inr (inl waits)) found = inl (Contains-append_left next (row preds label) l waits)
      seen o (inr (past, none)) = inr (closed_past f new l none)
      seen (inr (inr closed)) (inl (x, within, found, e)) = led x within found (inr closed) (target_or_not x.«end» label)
      seen (inl e0) (inl (x, within, found, e)) = led x within found (inl e0) (target_or_not x.«end» label)

  -- a set that stayed as it was is closed
  pub waits_same : (f : TacFunc) → slice_get f.blocks label ≡ Some b → new ≡ rows → (next : List ℕ) (l : ℕ) → (l ≡ label) ⊎ WaitsOrClosed f rows next l → WaitsOrClosed f new next l
  waits_same f is e next l (inl at) = inr (record {
    closed = λ c found r h.
        let same : c ≡ b = cc in
        subst (λ k. At new k r) (sym at) ((s.here r).1 (inr (subst (λ c. LiveBefore c (LiveBehind c.«end» (At rows)) r) same (subst (λ rows. LiveBefore c (LiveBehind c.«end» (At rows)) r) e h))));
  })
  waits_same f is e next l (inr (inl waits)) = inl waits
  waits_same f is e next l (inr (inr closed)) = inr (subst (λ rows. IsClosed f rows l) (sym e) closed)

-- ---- a set is joined into its place

pub settles_by : (b : Block) (rows : List (List ℕ)) (label : ℕ) (old live joined : List ℕ) (grown : Bool) → label < length rows → old ≡ get_or rows label [] → ((r : ℕ) → Has live r ↔ LiveBefore b (LiveBehind b.«end» (At rows)) r) → ((r : ℕ) → Has joined r ↔ (Has old r ⊎ Has live r)) → (grown ≡ false → joined ≡ old) → (grown ≡ true → room joined < room old) → length joined ≡ length old → Settles b rows (set rows label joined) label grown
unfolding total_room
settles_by b rows label old live joined grown within is p q same less size =
    record {
      others = λ l ne. get_or-set_other rows label l joined [] ne;
      here = λ r. (λ h. into r ((q r).0 (subst (λ words. Has words r) there h)), λ o. subst (λ words. Has words r) (sym there) ((q r).1 (back r o)));
      same = λ e. ap (set rows label) (same e ∙ is) ∙ set-get_or rows label [];
      less = λ e. omega (arith, less e, ap room is, sum_by-set room rows label joined [] within);
      even = λ n even k d lt. kept n even k d (omega (arith, lt, length-set rows label joined));
      size = length-set rows label joined;
    }
  where
    there : row (set rows label joined) label ≡ joined
    there = get_or-set_same rows label joined [] within

    into : (r : ℕ) → Has old r ⊎ Has live r → At rows label r ⊎ LiveBefore b (LiveBehind b.«end» (At rows)) r
    into r (inl h) = inl (subst (λ words. Has words r) is h)
    into r (inr h) = inr ((p r).0 h)

    back : (r : ℕ) → At rows label r ⊎ LiveBefore b (LiveBehind b.«end» (At rows)) r → Has old r ⊎ Has live r
    back r (inl h) = inl (subst (λ words. Has words r) (sym is) h)
    back r (inr h) = inr ((p r).1 h)

    kept : (n : ℕ) → Even n rows → (k : ℕ) (d : List ℕ) → k < length rows → length (get_or (set rows label joined) k d) ≡ n
    kept n even k d lt =
        ⊎_elim
        (λ e. ap length (get_or-set_at rows label k joined d e within) ∙ size ∙ ap length is ∙ even label [] within)
        (λ ne. ap length (get_or-set_other rows label k joined d ne) ∙ even k d lt)
        (cases_eq k label)

-- ---- the first sets, and the last

pub first_sound : (f : TacFunc) (n : ℕ) (rows : List (List ℕ)) → length rows ≡ length f.blocks → All (λ row. (length row ≡ n) × IsEmpty row) rows → AreSound f n rows
first_sound f n rows size empty =
    record {
      sound = λ l r h. absurd (⊎_elim (λ lt. (empty l [] lt).1 r h) (λ past. no_row rows l past r h) (cases_lt l (length rows)));
      even = λ k d lt. (empty k d lt).0;
      size = size;
    }

pub first_waits : (f : TacFunc) (rows : List (List ℕ)) (waiting : List ℕ) → ((l : ℕ) → l < length f.blocks → Contains waiting l) → (l : ℕ) → WaitsOrClosed f rows waiting l
first_waits f rows waiting all l = ⊎_elim (λ lt. inl (all l lt)) (λ past. inr (closed_past f rows l (slice_get_past f.blocks l past))) (cases_lt l (length f.blocks))

pub live_exactly : (f : TacFunc) (n : ℕ) (rows : List (List ℕ)) (waiting : List ℕ) → AreSound f n rows → ((l : ℕ) → WaitsOrClosed f rows waiting l) → waiting ≡ [] → (l r : ℕ) → At rows l r ↔ IsLive f r l
live_exactly f n rows waiting sound waits none l r = (λ h. sound.sound l r h, λ live. holds_live f rows (λ k. idle k (waits k)) r l live)
  where
    idle : (k : ℕ) → WaitsOrClosed f rows waiting k → IsClosed f rows k
    idle k (inl (n, lt, is)) = absurd (omega (arith, lt, ap length none))
    idle k (inr c) = c

pub read_below : (n m : ℕ) (blocks : List Block) → n ≤ m → AllReadBelow n blocks → AllReadBelow m blocks
read_below n m blocks le all k d lt =
    let b = all k d lt in record {
      ops = λ i e within. record { first = wider n m le _ (b.ops i e within).first; second = wider n m le _ (b.ops i e within).second };
      ends = end_wider n m le _ b.ends;
    }
  where
    wider : (n m : ℕ) → n ≤ m → (r : Option ℕ) → IsRegister n r → IsRegister m r
    wider n m le None h = h
    wider n m le (Some r) h = omega (arith, h, le)

    end_wider : (n m : ℕ) → n ≤ m → (e : End) → EndReadsBelow n e → EndReadsBelow m e
    end_wider n m le (Jump l) h = h
    end_wider n m le (Branch r y o) h = omega (arith, h, le)
    end_wider n m le (Call d f args l) h = λ k x lt. omega (arith, h k x lt, le)
    end_wider n m le (Ret r) h = wider n m le r h

-- one more block's targets are told of it
pub preds_more : (blocks : List Block) (i from : ℕ) (b : Block) (old new : List (List ℕ)) → from ≡ i → slice_get blocks i ≡ Some b → ArePreds blocks i old → ((l p : ℕ) → Contains (row old l) p → Contains (row new l) p) → ((l : ℕ) → IsTargetOf b.«end» l → l < length old → Contains (row new l) from) → length new ≡ length old → ArePreds blocks (i + 1) new
preds_more blocks i from b old new e is p kept added size =
    record {
      named = λ q l c lt found target within.
          ⊎_elim
          (λ at. let same : c ≡ b = cc in subst (λ x. Contains (row new l) x) (e ∙ sym at) (added l (subst (λ d. IsTargetOf d.«end» l) same target) (omega (arith, within, p.size))))
          (λ ne. kept l q (p.named q l c (omega arith) found target within))
          (cases_eq q i);
      size = size ∙ p.size;
    }

pub preds_none : (blocks : List Block) (lists : List (List ℕ)) → length lists ≡ length blocks → ArePreds blocks 0 lists
preds_none blocks lists size = record { named = λ q l c lt found target within. absurd (omega arith); size = size }

-- ---- one more of those who wait has its turn

pub waits_more : (f : TacFunc) (rows new : List (List ℕ)) (waiting next after : List ℕ) (i x : ℕ) → drop i waiting ≡ x ∷ drop (i + 1) waiting → ((l : ℕ) → (l ≡ x) ⊎ WaitsOrClosed f rows next l → WaitsOrClosed f new after l) → (k : ℕ) → Contains (drop i waiting) k ⊎ WaitsOrClosed f rows next k → Contains (drop (i + 1) waiting) k ⊎ WaitsOrClosed f new after k
waits_more f rows new waiting next after i x split step k (inr w) = inr (step k (inr w))
waits_more f rows new waiting next after i x split step k (inl c) = turn (subst (λ ys. Contains ys k) split c)
  where
    turn : Contains (x ∷ drop (i + 1) waiting) k → Contains (drop (i + 1) waiting) k ⊎ WaitsOrClosed f new after k
    turn (zero, lt, e) = inr (step k (inl (sym e)))
    turn (suc m, lt, e) = inl (m, omega (arith, lt), e)

pub less_more : (first rows new : List (List ℕ)) (next after : List ℕ) → ((next ≡ []) × (total_room rows ≡ total_room first)) ⊎ (total_room rows < total_room first) → ((after ≡ next) × (new ≡ rows)) ⊎ (total_room new < total_room rows) → ((after ≡ []) × (total_room new ≡ total_room first)) ⊎ (total_room new < total_room first)
less_more first rows new next after (inl (none, same)) (inl (p, q)) = inl (p ∙ none, ap total_room q ∙ same)
less_more first rows new next after (inl (none, same)) (inr less) = inr (omega (arith, same, less))
less_more first rows new next after (inr less) (inl (p, q)) = inr (omega (arith, less, ap total_room q))
less_more first rows new next after (inr less) (inr more) = inr (omega (arith, less, more))

some_wait : (waiting : List ℕ) → (waiting ≡ [] → ⊥) → 0 < length waiting
some_wait [] not = absurd (not refl)
some_wait (l ∷ ls) not = omega arith

-- the measure falls
pub falls : (rows new : List (List ℕ)) (waiting next : List ℕ) → ((next ≡ []) × (total_room new ≡ total_room rows)) ⊎ (total_room new < total_room rows) → (waiting ≡ [] → ⊥) → 2 * total_room new + min 1 (length next) < 2 * total_room rows + min 1 (length waiting)
falls rows new waiting next (inl (none, same)) not = omega (arith, ap length none, same, some_wait waiting not)
falls rows new waiting next (inr less) not = omega (arith, less)

pub is_there : (blocks : List Block) (l : ℕ) (b : Block) → slice_get blocks l ≡ Some b → l < length blocks
is_there blocks l b is = ⊎_elim (λ lt. lt) (λ past. absurd (let none : slice_get blocks l ≡ None = slice_get_past blocks l past in cc)) (cases_lt l (length blocks))
