-- Where labels stand, in chains and in chains with single blocks behind them.
use Rattle.std.proofs.Common.{◌≡◌, ◌⊎◌, inl, inr, ◌+◌, ◌-◌, ◌<◌, ◌≤◌, ◌++◌, ℕ, zero, suc, List, [], ◌∷◌, Some, None, length, get_or, refl, sym, ap, ◌∙◌, subst, ⊎_elim, arith}
use Rattle.std.specs.Prelude.{slice_get, map}
use Rattle.std.specs.Option.{option_map}
use Rattle.std.proofs.lemmas.Bool.{cases_lt}
use Rattle.std.proofs.lemmas.List.{length-map}
use Rattle.std.proofs.lemmas.Option.{slice_get-map, slice_get-get_or, slice_get_within}
use Rattle.tac_core.specs.Cover.{upto}
use Rattle.tac_core.specs.Traces.{Labels, apart, StandsAt, ArePartition}
use Rattle.tac_core.proofs.Lists.{slice_get_front, upto_get, length-upto}
use Rattle.tail_dup.specs.Duplicated.{labels_behind, IsFirst, IsBehind}

-- the element at a place within a list
pub found_at : {X : Type 0} (xs : List X) (i : ℕ) → i < length xs → (x : X) × (slice_get xs i ≡ Some x)
found_at [] i lt = absurd (omega arith)
found_at (x ∷ xs) zero lt = (x, refl)
found_at (x ∷ xs) (suc i) lt = found_at xs i (omega arith)

pub same_label : (chains : List Labels) (l m c k : ℕ) → StandsAt chains l c k → StandsAt chains m c k → l ≡ m
same_label chains l m c k a b =
    let chains_same : Some a.chain ≡ Some b.chain = sym a.is ∙ b.is in
    let one : a.chain ≡ b.chain = cc in
    let both : Some l ≡ Some m = sym a.there ∙ ap (λ z. slice_get z k) one ∙ b.there in
    cc

-- the block before a block in its chain
pub prior : (chains : List Labels) (m c k : ℕ) → StandsAt chains m c (suc k) → (l : ℕ) × StandsAt chains l c k
prior chains m c k s =
    let within : suc k < length s.chain = slice_get_within s.chain (suc k) m s.there in
    (get_or s.chain k 0, record { chain = s.chain; is = s.is; there = slice_get-get_or s.chain k 0 (omega arith) })

pub behind_get : {X : Type 0} (xs ys : List X) (c j : ℕ) → c ≡ length xs + j → slice_get (xs ++ ys) c ≡ slice_get ys j
behind_get [] ys c j e = let same : c ≡ j = omega arith in ap (λ k. slice_get ys k) same
behind_get (x ∷ xs) ys zero j e = absurd (omega arith)
behind_get (x ∷ xs) ys (suc c) j e = behind_get xs ys c j (omega arith)

-- a label that is a chain by itself, behind so many chains
pub record StandsAlone (numbers : List ℕ) (chains l c k : ℕ) : Type 0 where
  pub at : ℕ
  pub is : slice_get numbers at ≡ Some l
  pub chain : c ≡ chains + at
  pub front : k ≡ 0

-- the chain of a label by itself
record IsChainOf (numbers : List ℕ) (j : ℕ) (chain : Labels) : Type 0 where
  label : ℕ
  is : slice_get numbers j ≡ Some label
  whole : chain ≡ label ∷ []

alone_get : (numbers : List ℕ) (j : ℕ) (chain : Labels) → slice_get (apart numbers) j ≡ Some chain → IsChainOf numbers j chain
alone_get [] j chain e = cc
alone_get (x ∷ numbers) zero chain e =
    let both : Some (x ∷ []) ≡ Some chain = e in
    let same : x ∷ [] ≡ chain = cc in
    record { label = x; is = refl; whole = sym same }
alone_get (x ∷ numbers) (suc j) chain e =
    let t = alone_get numbers j chain e in record { label = t.label; is = t.is; whole = t.whole }

pub alone_begun : (numbers : List ℕ) (j : ℕ) (chain : Labels) → slice_get (apart numbers) j ≡ Some chain → 0 < length chain
alone_begun numbers j chain is =
    let t = alone_get numbers j chain is in subst (λ z. 0 < length z) (sym t.whole) (omega arith)

in_one : (x l k : ℕ) → slice_get (x ∷ []) k ≡ Some l → (x ≡ l) × (k ≡ 0)
in_one x l zero e = let s : Some x ≡ Some l = e in (cc, refl)
in_one x l (suc k) e = absurd cc

pub stands_in : (chains : List Labels) (numbers : List ℕ) (l c k : ℕ) → StandsAt (chains ++ apart numbers) l c k → StandsAt chains l c k ⊎ StandsAlone numbers (length chains) l c k
stands_in chains numbers l c k s =
    ⊎_elim
    (λ below. inl (record { chain = s.chain; is = sym (slice_get_front chains (apart numbers) c below) ∙ s.is; there = s.there }))
    (λ ge.
    let j : ℕ = c - length chains in
    let at : c ≡ length chains + j = omega arith in
    let t = alone_get numbers j s.chain (sym (behind_get chains (apart numbers) c j at) ∙ s.is) in
    let one = in_one t.label l k (subst (λ z. slice_get z k ≡ Some l) t.whole s.there) in
    inr (record { at = j; is = t.is ∙ ap Some one.0; chain = at; front = one.1 }))
    (cases_lt c (length chains))

pub in_front : (chains more : List Labels) (l c k : ℕ) → StandsAt chains l c k → StandsAt (chains ++ more) l c k
in_front chains more l c k s =
    record { chain = s.chain; is = slice_get_front chains more c (slice_get_within chains c s.chain s.is) ∙ s.is; there = s.there }

pub alone_behind : (chains : List Labels) (numbers : List ℕ) (l j : ℕ) → slice_get numbers j ≡ Some l → StandsAt (chains ++ apart numbers) l (length chains + j) 0
alone_behind chains numbers l j is =
    record {
      chain = l ∷ [];
      is = behind_get chains (apart numbers) (length chains + j) j refl ∙ slice_get-map (λ l. l ∷ []) numbers j ∙ ap (option_map (λ l. l ∷ [])) is;
      there = refl;
    }

pub behind_label : (blocks copies j : ℕ) → j < copies → slice_get (labels_behind blocks copies) j ≡ Some (blocks + j)
behind_label blocks copies j lt = slice_get-map (λ i. blocks + i) (upto copies) j ∙ ap (option_map (λ i. blocks + i)) (upto_get copies j lt)

-- which label stands at j
pub behind_is : (blocks copies j l : ℕ) → slice_get (labels_behind blocks copies) j ≡ Some l → (j < copies) × (l ≡ blocks + j)
behind_is blocks copies j l is =
    let long : length (labels_behind blocks copies) ≡ copies = length-map (upto copies) (λ i. blocks + i) ∙ length-upto copies in
    let within : j < length (labels_behind blocks copies) = slice_get_within (labels_behind blocks copies) j l is in
    let lt : j < copies = omega arith in
    let both : Some (blocks + j) ≡ Some l = sym (behind_label blocks copies j lt) ∙ is in
    (lt, cc)

module _ (chains : List Labels) (blocks : ℕ) (part : ArePartition blocks chains) where
  -- a first block stands behind none
  pub first_alone : (m c k : ℕ) → IsFirst chains m → StandsAt chains m c (suc k) → ⊥
  first_alone m c k first s =
      let one = part.once m first.chain 0 c (suc k) first.stands s in
      let same : 0 ≡ suc k = one.1 in
      absurd (omega arith)

  -- the block before is one
  pub behind_place : (l m c k : ℕ) → IsBehind chains l m → StandsAt chains m c (suc k) → StandsAt chains l c k
  behind_place l m c k b s =
      let one = part.once m b.chain (suc b.place) c (suc k) b.stands s in
      let chain : b.chain ≡ c = one.0 in
      let deep : suc b.place ≡ suc k = one.1 in
      let place : b.place ≡ k = omega arith in
      subst (λ z. StandsAt chains l z k) chain (subst (λ z. StandsAt chains l b.chain z) place b.before)
