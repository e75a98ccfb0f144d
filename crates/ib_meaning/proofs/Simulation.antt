-- Two machines whose states stay related agree.
use Rattle.std.proofs.Common.{◌≡◌, ℕ, zero, suc, ◌+◌, ◌*◌, ◌<◌, ◌≤◌, ◌⊎◌, inl, inr, List, [], ◌++◌, refl, sym, ap, ◌∙◌, subst, arith}
use Rattle.ib_meaning.specs.Agreement.{Finish, Report, More, Over, Meaning, Keeps, IsSteady, Agrees, Within}
use Rattle.ib_meaning.specs.Machine.{Step, Goes, Stops, Machine, continue, run, means, Reaches, Halts}
use Rattle.ib_meaning.proofs.Agreement.{agree_by_meets, keeps_trans, AreSame}
use Rattle.ib_meaning.proofs.Machine.{means_steady, reach_one, halt_one, reach_trans, reach_halt}

-- from s and t both come to related states, each by one step at least, or both are over; each prints the same.
-- Fits is what is known of the number of b's steps
pub data Together {S T : Type 0} (a : Machine S) (b : Machine T) (Fits : ℕ → Type 0) (R : S → T → Type 0) (s : S) (t : T) (left : List ℕ) : Type 0 where
  On : (j k : ℕ) (s' : S) (t' : T) (left' printed : List ℕ) → 1 ≤ j → 1 ≤ k → Fits k → Reaches a j s left printed s' left' → Reaches b k t left printed t' left' → R s' t' → Together a b Fits R s t left
  End : (j k : ℕ) (finish : Finish) (left' printed : List ℕ) → Fits k → Halts a j s left printed finish left' → Halts b k t left printed finish left' → Together a b Fits R s t left

-- where the two stand together at n or behind it
record Met {S T : Type 0} (a : Machine S) (b : Machine T) (Fits : ℕ → Type 0) (s : S) (t : T) (left out : List ℕ) (n : ℕ) : Type 0 where
  i : ℕ
  k : ℕ
  first : n ≤ i
  second : n ≤ k
  same : run a i s left out ≡ run b k t left out

-- where they stand together at n or behind it, with at most c steps of b for each of n
record Soon {S T : Type 0} (a : Machine S) (b : Machine T) (c : ℕ) (s : S) (t : T) (left out : List ℕ) (n : ℕ) : Type 0 where
  i : ℕ
  k : ℕ
  first : n ≤ i
  few : k ≤ c * n
  same : run a i s left out ≡ run b k t left out

module _ {S T : Type 0} (a : Machine S) (b : Machine T) (Fits : ℕ → Type 0) (R : S → T → Type 0) (together : (s : S) (t : T) (left : List ℕ) → R s t → Together a b Fits R s t left) where
  mutual_step : (n : ℕ) (s : S) (t : T) (left out : List ℕ) → ((s : S) (t : T) (left out : List ℕ) → R s t → Met a b Fits s t left out n) → Together a b Fits R s t left → Met a b Fits s t left out (suc n)
  mutual_step n s t left out rest (On j k s' t' left' printed lj lk fits ra rb r) =
      let m = rest s' t' left' (out ++ printed) r in record {
        i = j + m.i;
        k = k + m.k;
        first = let h = m.first in omega arith;
        second = let h = m.second in omega arith;
        same = ra.by m.i out ∙ m.same ∙ sym (rb.by m.k out);
      }
  mutual_step n s t left out rest (End j k finish left' printed fits ha hb) = record {
    i = j + suc n;
    k = k + suc n;
    first = omega arith;
    second = omega arith;
    same = ha.by (suc n) out ∙ sym (hb.by (suc n) out);
  }

  meet : (n : ℕ) (s : S) (t : T) (left out : List ℕ) → R s t → Met a b Fits s t left out n
  meet zero s t left out r = record {
    i = 0;
    k = 0;
    first = omega arith;
    second = omega arith;
    same = refl;
  }
  meet (suc n) s t left out r = mutual_step n s t left out (meet n) (together s t left r)

  pub simulates : (s : S) (t : T) → R s t → Agrees (means a s) (means b t)
  simulates s t r =
      agree_by_meets (means a s) (means b t) (means_steady a s) (means_steady b t) (λ input n. let m = meet n s t input [] r in (m.i, m.k, m.first, m.second, m.same))

  soon_step : (c : ℕ) → ((x : ℕ) → Fits x → x ≤ c) → (n : ℕ) (s : S) (t : T) (left out : List ℕ) → ((s : S) (t : T) (left out : List ℕ) → R s t → Soon a b c s t left out n) → Together a b Fits R s t left → Soon a b c s t left out (suc n)
  soon_step c bound n s t left out rest (On j k s' t' left' printed lj lk fits ra rb r) =
      let m = rest s' t' left' (out ++ printed) r in record {
        i = j + m.i;
        k = k + m.k;
        first = let h = m.first in omega arith;
        few = let h = m.few in let g = bound k fits in omega arith;
        same = ra.by m.i out ∙ m.same ∙ sym (rb.by m.k out);
      }
  soon_step c bound n s t left out rest (End j k finish left' printed fits ha hb) = record {
    i = j + suc n;
    k = k + 0;
    first = omega arith;
    few = let g = bound k fits in omega arith;
    same = ha.by (suc n) out ∙ sym (hb.by 0 out);
  }

  soon : (c : ℕ) → ((x : ℕ) → Fits x → x ≤ c) → (n : ℕ) (s : S) (t : T) (left out : List ℕ) → R s t → Soon a b c s t left out n
  soon c bound zero s t left out r = record {
    i = 0;
    k = 0;
    first = omega arith;
    few = omega arith;
    same = refl;
  }
  soon c bound (suc n) s t left out r = soon_step c bound n s t left out (soon c bound n) (together s t left r)

  pub simulates_within : (c : ℕ) → ((x : ℕ) → Fits x → x ≤ c) → (s : S) (t : T) → R s t → Within (λ n. c * n) (means a s) (means b t)
  simulates_within c bound s t r = record {
    by = λ input n m le.
        let w = soon c bound n s t input [] r in
        let h = w.few in
        keeps_trans (means a s input n) (means b t input w.k) (means b t input m)
        (subst (λ x. Keeps (means a s input n) x) w.same ((means_steady a s).later input n w.i w.first))
        ((means_steady b t).later input w.k m (omega arith));
  }

-- b's answer to one step of a: it comes along by one step at least, or it is over too
abbrev pub Answers : {S T : Type 0} → Machine T → (ℕ → Type 0) → (S → T → Type 0) → T → List ℕ → Step S → Type 0
Answers {S} {T} b Fits R t left (Goes s' left' printed) = (k : ℕ) × (t' : T) × (1 ≤ k) × Fits k × Reaches b k t left printed t' left' × R s' t'
Answers b Fits R t left (Stops finish left' printed) = (k : ℕ) × Fits k × Halts b k t left printed finish left'

pub answered : {S T : Type 0} (a : Machine S) (b : Machine T) (Fits : ℕ → Type 0) (R : S → T → Type 0) (s : S) (t : T) (left : List ℕ) (step : Step S) → a s left ≡ step → Answers b Fits R t left step → Together a b Fits R s t left
answered a b Fits R s t left (Goes s' left' printed) e h =
    On 1 h.0 s' h.1 left' printed (omega arith) h.2 h.3 (reach_one a s s' left left' printed e) h.4 h.5
answered a b Fits R s t left (Stops finish left' printed) e h =
    End 1 h.0 finish left' printed h.1 (halt_one a s left left' printed finish e) h.2

-- two steps that do the same, to related states
abbrev pub Alike : {S T : Type 0} → (S → T → Type 0) → Step S → Step T → Type 0
Alike R (Goes s left printed) (Goes t left' printed') = R s t × (left ≡ left') × (printed ≡ printed')
Alike R (Stops finish left printed) (Stops finish' left' printed') = (finish ≡ finish') × (left ≡ left') × (printed ≡ printed')
Alike R _ _ = ⊥

module _ {S T : Type 0} (a : Machine S) (b : Machine T) (R : S → T → Type 0) (alike : (s : S) (t : T) (left : List ℕ) → R s t → Alike R (a s left) (b t left)) where
  alike_runs : (n : ℕ) → ((s : S) (t : T) (left out : List ℕ) → R s t → run a n s left out ≡ run b n t left out) → (x : Step S) (y : Step T) (out : List ℕ) → Alike R x y → continue (run a n) x out ≡ continue (run b n) y out
  alike_runs n rest (Goes s left printed) (Goes t left' printed') out h =
      rest s t left (out ++ printed) h.0 ∙ ap (λ l. run b n t l (out ++ printed)) h.1 ∙ ap (λ p. run b n t left' (out ++ p)) h.2
  alike_runs n rest (Stops finish left printed) (Stops finish' left' printed') out h =
      let e = h.0 in let f = h.1 in let g = h.2 in cc
  alike_runs n rest (Goes s left printed) (Stops finish' left' printed') out h = absurd h
  alike_runs n rest (Stops finish left printed) (Goes t left' printed') out h = absurd h

  runs_alike : (n : ℕ) (s : S) (t : T) (left out : List ℕ) → R s t → run a n s left out ≡ run b n t left out
  runs_alike zero s t left out r = refl
  runs_alike (suc n) s t left out r = alike_runs n (runs_alike n) (a s left) (b t left) out (alike s t left r)

  pub means_alike : (s : S) (t : T) → R s t → AreSame (means a s) (means b t)
  means_alike s t r input n = runs_alike n s t input [] r

-- b's reply to one step of a, where they are related at a rank: it may stay where it is if the rank falls
abbrev pub Replies : {S T : Type 0} → Machine T → (ℕ → Type 0) → (ℕ → S → T → Type 0) → ℕ → T → List ℕ → Step S → Type 0
Replies {S} {T} b Fits R rank t left (Goes s' left' printed) =
    ((k : ℕ) × (t' : T) × (r : ℕ) × (1 ≤ k) × Fits k × Reaches b k t left printed t' left' × R r s' t')
    ⊎ ((r : ℕ) × (r < rank) × (left ≡ left') × (printed ≡ []) × R r s' t)
Replies b Fits R rank t left (Stops finish left' printed) = (k : ℕ) × Fits k × Halts b k t left printed finish left'

-- related at some rank
abbrev pub AtSome : {S T : Type 0} → (ℕ → S → T → Type 0) → S → T → Type 0
AtSome R s t = (r : ℕ) × R r s t

module _ {S T : Type 0} (a : Machine S) (b : Machine T) (Fits : ℕ → Type 0) (R : ℕ → S → T → Type 0) (replies : (rank : ℕ) (s : S) (t : T) (left : List ℕ) → R rank s t → Replies b Fits R rank t left (a s left)) where
  together_behind : (s s' : S) (t : T) (left left' printed : List ℕ) → a s left ≡ Goes s' left' printed → left ≡ left' → printed ≡ [] → Together a b Fits (AtSome R) s' t left' → Together a b Fits (AtSome R) s t left
  together_behind s s' t left left' printed e same none (On j k s2 t2 left2 printed2 lj lk fits ra rb r) =
      On (1 + j) k s2 t2 left2 printed2 (omega arith) lk fits
      (reach_trans (subst (λ p. Reaches a 1 s left p s' left') none (reach_one a s s' left left' printed e)) ra)
      (subst (λ l. Reaches b k t l printed2 t2 left2) (sym same) rb) r
  together_behind s s' t left left' printed e same none (End j k finish left2 printed2 fits ha hb) =
      End (1 + j) k finish left2 printed2 fits
      (reach_halt (subst (λ p. Reaches a 1 s left p s' left') none (reach_one a s s' left left' printed e)) ha)
      (subst (λ l. Halts b k t l printed2 finish left2) (sym same) hb)

  replied : (rank : ℕ) (s : S) (t : T) (left : List ℕ) → ((r : ℕ) (s' : S) (left' : List ℕ) → r < rank → R r s' t → Together a b Fits (AtSome R) s' t left') → (step : Step S) → a s left ≡ step → Replies b Fits R rank t left step → Together a b Fits (AtSome R) s t left
  replied rank s t left rest (Goes s' left' printed) e (inl h) =
      On 1 h.0 s' h.1 left' printed (omega arith) h.3 h.4 (reach_one a s s' left left' printed e) h.5 (h.2, h.6)
  replied rank s t left rest (Goes s' left' printed) e (inr h) =
      together_behind s s' t left left' printed e h.2 h.3 (rest h.0 s' left' h.1 h.4)
  replied rank s t left rest (Stops finish left' printed) e h = End 1 h.0 finish left' printed h.1 (halt_one a s left left' printed finish e) h.2

  below : (m rank : ℕ) (s : S) (t : T) (left : List ℕ) → rank ≤ m → R rank s t → Together a b Fits (AtSome R) s t left
  below zero rank s t left le r = replied rank s t left (λ q s' left' lt r'. absurd (omega arith)) (a s left) refl (replies rank s t left r)
  below (suc m) rank s t left le r =
      replied rank s t left (λ q s' left' lt r'. below m q s' t left' (omega arith) r') (a s left) refl (replies rank s t left r)

  pub together_by_rank : (s : S) (t : T) (left : List ℕ) → AtSome R s t → Together a b Fits (AtSome R) s t left
  together_by_rank s t left r = below r.0 r.0 s t left (omega arith) r.1
