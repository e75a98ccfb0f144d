-- A duplicate has at most twice the operations of its function.
use Rattle.std.proofs.Common.{◌≡◌, ◌≢◌, ◌⊎◌, inl, inr, ◌+◌, ◌-◌, ◌*◌, ◌<◌, ◌≤◌, ◌++◌, ℕ, zero, suc, Bool, true, false, List, [], ◌∷◌, Option, Some, None, length, refl, sym, ap, ap₂, ◌∙◌, subst, ⊎_elim, arith, if◌then◌else◌}
use Rattle.std.specs.Prelude.{slice_get, ◌==◌}
use Rattle.std.specs.List.{sum_by}
use Rattle.std.proofs.lemmas.Bool.{cases_lt}
use Rattle.std.proofs.lemmas.Bool.Decides.{eqb_tells}
use Rattle.std.proofs.lemmas.List.Sums.{sum_by-cons, sum_by-append}
use Rattle.std.proofs.lemmas.Option.{slice_get_within}
use Rattle.tac_core.specs.declared.code.Block.{Block}
use Rattle.tac_core.specs.declared.code.TacFunc.{TacFunc}
use Rattle.tac_core.specs.Program.{block_ops, func_ops}
use Rattle.tac_core.specs.Cover.{Origins, upto, IsFrom, IsFuncFrom}
use Rattle.tac_core.specs.Traces.{Labels, StandsAt, ArePartition, ops_of, ops_at}
use Rattle.tac_core.proofs.Lists.{slice_get_front, upto_get, length-upto}
use Rattle.tail_dup.specs.Duplicated.{from_first, tails}
use Rattle.tail_dup.proofs.Places.{found_at, behind_get}
use Rattle.tail_dup.proofs.Tails.{IsIn, IsCopiedAt, of_tails, of_first, IsOfPart}

-- sums of two lists that are alike, place by place
same_sums : {X Y : Type 0} (p : X → ℕ) (q : Y → ℕ) (xs : List X) (ys : List Y) → length xs ≡ length ys → ((i : ℕ) (x : X) (y : Y) → slice_get xs i ≡ Some x → slice_get ys i ≡ Some y → p x ≡ q y) → sum_by p xs ≡ sum_by q ys
same_sums p q [] [] e each = refl
same_sums p q [] (y ∷ ys) e each = absurd (omega arith)
same_sums p q (x ∷ xs) [] e each = absurd (omega arith)
same_sums p q (x ∷ xs) (y ∷ ys) e each =
    sum_by-cons p x xs ∙ ap₂ (λ a b. a + b) (each 0 x y refl refl) (same_sums p q xs ys (omega arith) (λ i x' y' a b. each (suc i) x' y' a b)) ∙ sym (sum_by-cons q y ys)

-- a copied function has the operations of the blocks that its own come from
pub copy_ops : (os : Origins) (g f : TacFunc) → IsFuncFrom os g f → func_ops g ≡ sum_by (ops_at f) os
copy_ops os g f h =
    same_sums block_ops (ops_at f) g.blocks os (sym h.long)
    (λ i b o is from.
    let t = h.each i o from in
    let both : Some b ≡ Some t.0 = sym is ∙ t.2 in
    let one : b ≡ t.0 = cc in
    ap block_ops one ∙ ap (λ z. length z + 1) t.4.ops ∙ sym (ap ops_of t.3))

-- a number counted no more at x
abbrev without : (ℕ → ℕ) → ℕ → ℕ → ℕ
without w x l = if l == x then 0 else w l

without_other : (w : ℕ → ℕ) (x l : ℕ) → l ≢ x → without w x l ≡ w l
without_other w x l ne = ⊎_elim (λ t. absurd (ne t.1)) (λ f. ap (λ b. if b then 0 else w l) f.0) (eqb_tells l x)

without_same : (w : ℕ → ℕ) (x l : ℕ) → l ≡ x → without w x l ≡ 0
without_same w x l e = ⊎_elim (λ t. ap (λ b. if b then 0 else w l) t.0) (λ f. absurd (f.1 e)) (eqb_tells l x)

one_sum : (w : ℕ → ℕ) (l : ℕ) → sum_by w (l ∷ []) ≡ w l
one_sum w l = let e = sum_by-cons w l [] in omega arith

sum_upto : (w : ℕ → ℕ) (n : ℕ) → sum_by w (upto (suc n)) ≡ sum_by w (upto n) + w n
sum_upto w n = sum_by-append w (upto n) (n ∷ []) ∙ ap (λ k. sum_by w (upto n) + k) (one_sum w n)

past_upto : (w : ℕ → ℕ) (x n : ℕ) → n ≤ x → sum_by (without w x) (upto n) ≡ sum_by w (upto n)
past_upto w x zero le = refl
past_upto w x (suc n) le =
    sum_upto (without w x) n ∙ ap₂ (λ a b. a + b) (past_upto w x n (omega arith)) (without_other w x n (λ e. absurd (omega arith))) ∙ sym (sum_upto w n)

inside_upto : (w : ℕ → ℕ) (x n : ℕ) → x < n → sum_by w (upto n) ≡ w x + sum_by (without w x) (upto n)
inside_upto w x zero lt = absurd (omega arith)
inside_upto w x (suc n) lt =
    let whole = sum_upto w n in
    let part = sum_upto (without w x) n in
    ⊎_elim
    (λ below.
    let rest = inside_upto w x n below in
    let other : without w x n ≡ w n = without_other w x n (λ e. absurd (omega arith)) in
    omega arith)
    (λ ge.
    let same : n ≡ x = omega arith in
    let rest = past_upto w x n (omega arith) in
    let none : without w x n ≡ 0 = without_same w x n same in
    let at : w n ≡ w x = ap w same in
    omega arith)
    (cases_lt x n)

absent_sum : (w : ℕ → ℕ) (x : ℕ) (xs : List ℕ) → (IsIn xs x → ⊥) → sum_by (without w x) xs ≡ sum_by w xs
absent_sum w x [] not' = refl
absent_sum w x (y ∷ xs) not' =
    sum_by-cons (without w x) y xs
    ∙ ap₂ (λ a b. a + b) (without_other w x y (λ e. not' (record { at = 0; is = ap Some e }))) (absent_sum w x xs (λ i. not' (record { at = suc i.at; is = i.is })))
    ∙ sym (sum_by-cons w y xs)

abbrev pub AreOnce : List ℕ → Type 0
AreOnce xs = (i j x : ℕ) → slice_get xs i ≡ Some x → slice_get xs j ≡ Some x → i ≡ j

-- numbers below n, each once, sum to no more than all below n
once_sum : (w : ℕ → ℕ) (n : ℕ) (xs : List ℕ) → AreOnce xs → ((i x : ℕ) → slice_get xs i ≡ Some x → x < n) → sum_by w xs ≤ sum_by w (upto n)
once_sum w n [] once below = omega arith
once_sum w n (x ∷ xs) once below =
    let rest = once_sum (without w x) n xs (λ i j y a b. let e : suc i ≡ suc j = once (suc i) (suc j) y a b in omega arith) (λ i y a. below (suc i) y a) in
    let same = absent_sum w x xs (λ i. let e : 0 ≡ suc i.at = once 0 (suc i.at) x refl i.is in absurd (omega arith)) in
    let whole = inside_upto w x n (below 0 x refl) in
    let first = sum_by-cons w x xs in
    omega arith

-- where a part begins in the whole
record IsEndOf (part whole : List ℕ) : Type 0 where
  from : ℕ
  at : (i : ℕ) → slice_get part i ≡ slice_get whole (from + i)

module _ (entered : ℕ → Bool) where
  end_by : (b : Bool) (x : ℕ) (xs : Labels) → IsEndOf (from_first entered xs) xs → IsEndOf (if b then x ∷ xs else from_first entered xs) (x ∷ xs)
  end_by true x xs h = record { from = 0; at = λ i. let e : i ≡ 0 + i = omega arith in ap (λ k. slice_get (x ∷ xs) k) e }
  end_by false x xs h = record { from = suc h.from; at = λ i. let e : suc (h.from + i) ≡ suc h.from + i = omega arith in h.at i ∙ ap (λ k. slice_get (x ∷ xs) k) e }

  first_end : (chain : Labels) → IsEndOf (from_first entered chain) chain
  first_end [] = record { from = 0; at = λ i. refl }
  first_end (x ∷ xs) = end_by (entered x) x xs (first_end xs)

  -- no label stands at two places
  abbrev StandOnce : List Labels → Type 0
  StandOnce chains = (l c k c' k' : ℕ) → StandsAt chains l c k → StandsAt chains l c' k' → (c ≡ c') × (k ≡ k')

  first_once : (chain : Labels) (chains : List Labels) → StandOnce (chain ∷ chains) → AreOnce (from_first entered chain)
  first_once chain chains once i j x a b =
      let h = first_end chain in
      let same = (once x 0 (h.from + i) 0 (h.from + j) (record { chain = chain; is = refl; there = sym (h.at i) ∙ a }) (record { chain = chain; is = refl; there = sym (h.at j) ∙ b })).1 in
      omega arith

  rest_once : (chain : Labels) (chains : List Labels) → StandOnce (chain ∷ chains) → StandOnce chains
  rest_once chain chains once l c k c' k' a b =
      let one = once l (suc c) k (suc c') k' (record { chain = a.chain; is = a.is; there = a.there }) (record { chain = b.chain; is = b.is; there = b.there }) in
      let e : suc c ≡ suc c' = one.0 in
      (omega arith, one.1)

  apart_parts : (chain : Labels) (chains : List Labels) (x : ℕ) → StandOnce (chain ∷ chains) → IsIn (from_first entered chain) x → IsIn (tails entered chains) x → ⊥
  apart_parts chain chains x once a b =
      let s = of_first entered chain x a in
      let t = of_tails entered chains x b in
      let e : 0 ≡ suc t.chain = (once x 0 s.at (suc t.chain) t.place (record { chain = chain; is = refl; there = s.is }) (record { chain = t.stands.chain; is = t.stands.is; there = t.stands.there })).0 in
      absurd (omega arith)

  append_once : (xs ys : List ℕ) → AreOnce xs → AreOnce ys → ((x : ℕ) → IsIn xs x → IsIn ys x → ⊥) → AreOnce (xs ++ ys)
  append_once xs ys a b apart' i j x h g = which (cases_lt i (length xs)) (cases_lt j (length xs))
    where
      left : (k : ℕ) → k < length xs → slice_get (xs ++ ys) k ≡ Some x → slice_get xs k ≡ Some x
      left k lt e = sym (slice_get_front xs ys k lt) ∙ e

      right : (k : ℕ) → length xs ≤ k → slice_get (xs ++ ys) k ≡ Some x → slice_get ys (k - length xs) ≡ Some x
      right k ge e = sym (behind_get xs ys k (k - length xs) (omega arith)) ∙ e

      which : (i < length xs) ⊎ (length xs ≤ i) → (j < length xs) ⊎ (length xs ≤ j) → i ≡ j
      which (inl p) (inl q) = a i j x (left i p h) (left j q g)
      which (inl p) (inr q) = absurd (apart' x (record { at = i; is = left i p h }) (record { at = j - length xs; is = right j q g }))
      which (inr p) (inl q) = absurd (apart' x (record { at = j; is = left j q g }) (record { at = i - length xs; is = right i p h }))
      which (inr p) (inr q) = let e : i - length xs ≡ j - length xs = b (i - length xs) (j - length xs) x (right i p h) (right j q g) in omega arith

  pub tails_once : (chains : List Labels) → StandOnce chains → AreOnce (tails entered chains)
  tails_once [] once = λ i j x a b. cc
  tails_once (chain ∷ chains) once =
      append_once (from_first entered chain) (tails entered chains) (first_once chain chains once) (tails_once chains (rest_once chain chains once)) (λ x. apart_parts chain chains x once)

-- what is copied has no more operations than the function
pub copies_ops : (w : ℕ → ℕ) (n : ℕ) (entered : ℕ → Bool) (chains : List Labels) (copied : List ℕ) → ArePartition n chains → copied ≡ tails entered chains → sum_by w copied ≤ sum_by w (upto n)
copies_ops w n entered chains copied part are =
    subst (λ z. sum_by w z ≤ sum_by w (upto n)) (sym are)
    (once_sum w n (tails entered chains) (tails_once entered chains part.once)
    (λ i x is. let t = of_tails entered chains x (record { at = i; is = is }) in part.within x t.chain t.place t.stands))

-- the operations of a function, by label
pub func_upto : (f : TacFunc) → func_ops f ≡ sum_by (ops_at f) (upto (length f.blocks))
func_upto f =
    same_sums block_ops (ops_at f) f.blocks (upto (length f.blocks)) (sym (length-upto (length f.blocks)))
    (λ i b o is up.
    let both : Some i ≡ Some o = sym (upto_get (length f.blocks) i (slice_get_within f.blocks i b is)) ∙ up in
    let one : i ≡ o = cc in
    sym (ap (ops_at f) (sym one) ∙ ap ops_of is))
