-- Which blocks are copied: those with side entrances and all that stands behind them in their chains.
use Rattle.std.proofs.Common.{◌≡◌, ◌⊎◌, inl, inr, ◌+◌, ◌-◌, ◌<◌, ◌≤◌, ◌++◌, ℕ, zero, suc, Bool, true, false, List, [], ◌∷◌, Some, None, length, get_or, take, drop, refl, sym, ap, ap₂, ◌∙◌, subst, ⊎_elim, arith}
use Rattle.std.specs.Prelude.{slice_get, if◌then◌else◌}
use Rattle.std.proofs.lemmas.Bool.{cases_lt}
use Rattle.std.proofs.lemmas.List.{take_more, take_all, length-drop}
use Rattle.std.proofs.lemmas.Option.{slice_get_within}
use Rattle.tac_core.specs.Traces.{Labels, StandsAt}
use Rattle.tac_core.proofs.Lists.{slice_get_front}
use Rattle.tail_dup.specs.Duplicated.{from_first, tails}
use Rattle.tail_dup.proofs.Places.{behind_get}

-- t is one of the labels
pub record IsIn (labels : List ℕ) (t : ℕ) : Type 0 where
  pub at : ℕ
  pub is : slice_get labels at ≡ Some t

pub in_left : (xs ys : List ℕ) (t : ℕ) → IsIn xs t → IsIn (xs ++ ys) t
in_left xs ys t h = record { at = h.at; is = slice_get_front xs ys h.at (slice_get_within xs h.at t h.is) ∙ h.is }

pub in_right : (xs ys : List ℕ) (t : ℕ) → IsIn ys t → IsIn (xs ++ ys) t
in_right xs ys t h = record { at = length xs + h.at; is = behind_get xs ys (length xs + h.at) h.at refl ∙ h.is }

pub in_both : (xs ys : List ℕ) (t : ℕ) → IsIn (xs ++ ys) t → IsIn xs t ⊎ IsIn ys t
in_both xs ys t h =
    ⊎_elim
    (λ lt. inl (record { at = h.at; is = sym (slice_get_front xs ys h.at lt) ∙ h.is }))
    (λ ge. inr (record { at = h.at - length xs; is = sym (behind_get xs ys h.at (h.at - length xs) (omega arith)) ∙ h.is }))
    (cases_lt h.at (length xs))

-- where a label of a part stands in the whole; the next one is in the part too
pub record IsOfPart (part whole : List ℕ) (m : ℕ) : Type 0 where
  pub at : ℕ
  pub is : slice_get whole at ≡ Some m
  pub next : (t : ℕ) → slice_get whole (suc at) ≡ Some t → IsIn part t

-- what is left behind a place, cut to its length
pub whole_drop : (n : ℕ) (xs : List ℕ) → take (length xs - n) (drop n xs) ≡ drop n xs
whole_drop n xs =
    let long : length (drop n xs) ≡ length xs - n = length-drop n xs in
    take_all (length xs - n) (drop n xs) (omega arith)

module _ (entered : ℕ → Bool) where
  -- the part that begins at x, or behind it
  abbrev part_by : Bool → ℕ → Labels → Labels
  part_by b x xs = if b then x ∷ xs else from_first entered xs

  in_part : (b : Bool) (x : ℕ) (xs : Labels) (k t : ℕ) → entered x ≡ b → entered t ≡ true → slice_get (x ∷ xs) k ≡ Some t → ((j : ℕ) → slice_get xs j ≡ Some t → IsIn (from_first entered xs) t) → IsIn (part_by b x xs) t
  in_part true x xs k t e h is rest = record { at = k; is = is }
  in_part false x xs zero t e h is rest = let same : Some x ≡ Some t = is in let one : x ≡ t = cc in let both : entered x ≡ true = ap entered one ∙ h in cc
  in_part false x xs (suc k) t e h is rest = rest k is

  pub in_first : (chain : Labels) (k t : ℕ) → entered t ≡ true → slice_get chain k ≡ Some t → IsIn (from_first entered chain) t
  in_first [] k t h is = cc
  in_first (x ∷ xs) k t h is = in_part (entered x) x xs k t refl h is (λ j there. in_first xs j t h there)

  of_part : (b : Bool) (x : ℕ) (xs : Labels) (m : ℕ) → IsIn (part_by b x xs) m → (IsIn (from_first entered xs) m → IsOfPart (from_first entered xs) xs m) → IsOfPart (part_by b x xs) (x ∷ xs) m
  of_part true x xs m h rest = record { at = h.at; is = h.is; next = λ t there. record { at = suc h.at; is = there } }
  of_part false x xs m h rest = let r = rest h in record { at = suc r.at; is = r.is; next = r.next }

  pub of_first : (chain : Labels) (m : ℕ) → IsIn (from_first entered chain) m → IsOfPart (from_first entered chain) chain m
  of_first [] m h = let is = h.is in cc
  of_first (x ∷ xs) m h = of_part (entered x) x xs m h (λ g. of_first xs m g)

  pub in_tails : (chains : List Labels) (t c k : ℕ) → entered t ≡ true → StandsAt chains t c k → IsIn (tails entered chains) t
  in_tails [] t c k h s = let is = s.is in cc
  in_tails (chain ∷ chains) t zero k h s =
      let both : Some chain ≡ Some s.chain = s.is in
      let same : s.chain ≡ chain = cc in
      in_left (from_first entered chain) (tails entered chains) t (in_first chain k t h (subst (λ z. slice_get z k ≡ Some t) same s.there))
  in_tails (chain ∷ chains) t (suc c) k h s =
      in_right (from_first entered chain) (tails entered chains) t (in_tails chains t c k h (record { chain = s.chain; is = s.is; there = s.there }))

  -- where a copied block stands; the block behind it is copied too
  pub record IsCopiedAt (chains : List Labels) (m : ℕ) : Type 0 where
    pub chain : ℕ
    pub place : ℕ
    pub stands : StandsAt chains m chain place
    pub next : (t : ℕ) → StandsAt chains t chain (suc place) → IsIn (tails entered chains) t

  of_chain : (chain : Labels) (chains : List Labels) (m : ℕ) → IsOfPart (from_first entered chain) chain m → IsCopiedAt (chain ∷ chains) m
  of_chain chain chains m h = record {
    chain = 0;
    place = h.at;
    stands = record { chain = chain; is = refl; there = h.is };
    next = λ t s.
        let both : Some chain ≡ Some s.chain = s.is in
        let same : s.chain ≡ chain = cc in
        in_left (from_first entered chain) (tails entered chains) t (h.next t (subst (λ z. slice_get z (suc h.at) ≡ Some t) same s.there));
  }

  of_more : (chain : Labels) (chains : List Labels) (m : ℕ) → IsCopiedAt chains m → IsCopiedAt (chain ∷ chains) m
  of_more chain chains m h = record {
    chain = suc h.chain;
    place = h.place;
    stands = record { chain = h.stands.chain; is = h.stands.is; there = h.stands.there };
    next = λ t s.
        in_right (from_first entered chain) (tails entered chains) t (h.next t (record { chain = s.chain; is = s.is; there = s.there }));
  }

  pub of_tails : (chains : List Labels) (m : ℕ) → IsIn (tails entered chains) m → IsCopiedAt chains m
  of_tails [] m h = let is = h.is in cc
  of_tails (chain ∷ chains) m h =
      ⊎_elim
      (λ here. of_chain chain chains m (of_first chain m here))
      (λ there. of_more chain chains m (of_tails chains m there))
      (in_both (from_first entered chain) (tails entered chains) m h)

  nil_right : (xs : List ℕ) → xs ++ [] ≡ xs
  nil_right [] = refl
  nil_right (x ∷ xs) = ap (λ z. x ∷ z) (nil_right xs)

  assoc : (xs ys zs : List ℕ) → xs ++ (ys ++ zs) ≡ (xs ++ ys) ++ zs
  assoc [] ys zs = refl
  assoc (x ∷ xs) ys zs = ap (λ z. x ∷ z) (assoc xs ys zs)

  tails_append : (xs : List Labels) (y : Labels) → tails entered (xs ++ y ∷ []) ≡ tails entered xs ++ from_first entered y
  tails_append [] y = nil_right (from_first entered y)
  tails_append (x ∷ xs) y =
      ap (λ z. from_first entered x ++ z) (tails_append xs y) ∙ assoc (from_first entered x) (tails entered xs) (from_first entered y)

  -- one chain more
  pub tails_more : (chains : List Labels) (i : ℕ) (x : Labels) (before part after : List ℕ) → i < length chains → x ≡ get_or chains i x → before ≡ tails entered (take i chains) → part ≡ from_first entered x → after ≡ before ++ part → after ≡ tails entered (take (i + 1) chains)
  tails_more chains i x before part after lt at so made grown =
      grown ∙ ap₂ (λ a b. a ++ b) so (made ∙ ap (from_first entered) at) ∙ sym (tails_append (take i chains) (get_or chains i x)) ∙ ap (tails entered) (sym (take_more chains i x lt))
