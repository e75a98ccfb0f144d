-- Words by their numbers: where they lie, and that a number names its operation's place.
use Rattle.std.proofs.Common.{◌≡◌, ℕ, zero, suc, ◌+◌, ◌<◌, ◌≤◌, ◌==◌, true, false, List, [], ◌∷◌, ◌++◌, length, drop, slice_get, Option, Some, None, refl, sym, ap, ◌∙◌, subst, arith, length-append}
use Rattle.std.specs.Option.{option_map}
use Rattle.std.proofs.lemmas.Bool.Decides.{nat_tests}
use Rattle.ib_meaning.specs.declared.place.Place.{Place}
use Rattle.tac_core.specs.declared.code.TacOp.{TacOp}
use Rattle.tac_core.specs.declared.code.Block.{Block}
use Rattle.tac_core.specs.declared.code.TacFunc.{TacFunc}
use Rattle.tac_core.specs.Meaning.{block_of, place_of}
use Rattle.wide_core.specs.declared.code.WideOp.{WideOp}
use Rattle.wide_core.specs.declared.code.WideAct.{WideAct}
use Rattle.wide_core.specs.declared.code.WideAct.TheVariants.{Do}
use Rattle.wide_core.specs.declared.code.RawCode.{RawCode}
use Rattle.wide_core.specs.Parts.{words_of, ops_of_words, ops_of_funcs, home_in, home_of}
use Rattle.wide_core.specs.Uses.{reads, writes_now}
use Rattle.plain_code.specs.Plain.{Item, item, reloads, spill, spread, spread_all, rest_items, block_items, start, all_items, func_items, numbered, func_from, funcs_from, renamed, end_acts}

other_number : (n m : ℕ) → n < m → (n == m) ≡ false
other_number n m lt = grind (arith, nat_tests)

same_number : (n : ℕ) → (n == n) ≡ true
same_number n = grind (arith, nat_tests)

pub dropped : {X : Type 0} (xs ys : List X) (k : ℕ) → drop (length xs + k) (xs ++ ys) ≡ drop k ys
dropped [] ys k = ap (λ n. drop n ys) (let e : 0 + k ≡ k = omega arith in e)
dropped (x ∷ xs) ys k = let e : suc (length xs) + k ≡ suc (length xs + k) = omega arith in ap (λ n. drop n (x ∷ (xs ++ ys))) e ∙ dropped xs ys k

module _ (low : ℕ) (places : List Place) where
  -- ---- words behind words

  pub numbered_drop : (k n : ℕ) (xs : List Item) → drop k (numbered n xs) ≡ numbered (n + k) (drop k xs)
  numbered_drop zero n xs = ap (λ m. numbered m xs) (let e : n ≡ n + 0 = omega arith in e)
  numbered_drop (suc k) n [] = refl
  numbered_drop (suc k) n (x ∷ xs) =
      let e : suc n + k ≡ n + suc k = omega arith in
      numbered_drop k (suc n) xs ∙ ap (λ m. numbered m (drop k xs)) e

  -- ---- a number names its operation

  module _ (more : List WideOp) where
    abbrev Ops : ℕ → List Item → List WideOp
    Ops n xs = ops_of_words (numbered n xs) ++ more

    passed : (n m : ℕ) (xs : List Item) → n + length xs ≤ m → home_in (Ops n xs) m ≡ home_in more m
    passed n m [] le = refl
    passed n m (x ∷ xs) le = rw (other_number n m (omega arith)) (passed (suc n) m xs (omega arith))

    found : (n k : ℕ) (xs : List Item) (x : Item) → slice_get xs k ≡ Some x → home_in (Ops n xs) (n + k) ≡ x.home
    found n k [] x e = cc
    found n zero (y ∷ xs) x e =
        let s : n + 0 ≡ n = omega arith in
        rw s (rw (same_number n) (let same : y ≡ x = cc in ap (λ (z : Item). z.home) same))
    found n (suc k) (y ∷ xs) x e =
        let s : n + suc k ≡ suc n + k = omega arith in
        rw (other_number n (n + suc k) (omega arith)) (rw s (found (suc n) k xs x e))

  -- the number of a function's first word
  abbrev pub first : ℕ → List TacFunc → ℕ → ℕ
  first n [] i = n
  first n (f ∷ fs) zero = n
  first n (f ∷ fs) (suc i) = first (n + length (func_items low places f)) fs i

  pub func_at : (n : ℕ) (fs : List TacFunc) (i : ℕ) → slice_get (funcs_from low places n fs) i ≡ option_map (func_from low places (first n fs i)) (slice_get fs i)
  func_at n [] i = refl
  func_at n (f ∷ fs) zero = refl
  func_at n (f ∷ fs) (suc i) = func_at (n + length (func_items low places f)) fs i

  abbrev pub items_in : Option TacFunc → List Item
  items_in None = []
  items_in (Some f) = func_items low places f

  words_in : (n : ℕ) (o : Option TacFunc) → words_of (option_map (func_from low places n) o) ≡ numbered n (items_in o)
  words_in n None = refl
  words_in n (Some f) = refl

  pub words_at : (n : ℕ) (fs : List TacFunc) (i : ℕ) → words_of (slice_get (funcs_from low places n fs) i) ≡ numbered (first n fs i) (items_in (slice_get fs i))
  words_at n fs i = ap words_of (func_at n fs i) ∙ words_in (first n fs i) (slice_get fs i)

  first_least : (n : ℕ) (fs : List TacFunc) (i : ℕ) → n ≤ first n fs i
  first_least n [] i = omega arith
  first_least n (f ∷ fs) zero = omega arith
  first_least n (f ∷ fs) (suc i) = let h = first_least (n + length (func_items low places f)) fs i in omega arith

  home_at : (n : ℕ) (fs : List TacFunc) (i k : ℕ) (x : Item) → slice_get (items_in (slice_get fs i)) k ≡ Some x → home_in (ops_of_funcs (funcs_from low places n fs)) (first n fs i + k) ≡ x.home
  home_at n [] i k x e = cc
  home_at n (f ∷ fs) zero k x e = found (ops_of_funcs (funcs_from low places (n + length (func_items low places f)) fs)) n k (func_items low places f) x e
  home_at n (f ∷ fs) (suc i) k x e =
      let n' = n + length (func_items low places f) in
      let le = first_least n' fs i in
      passed (ops_of_funcs (funcs_from low places n' fs)) n (first n' fs i + k) (func_items low places f) (omega arith) ∙ home_at n' fs i k x e

-- from the number n on, the numbers name these operations
pub record Homed (code : RawCode) (n : ℕ) (xs : List Item) : Type 0 where
  pub by : (k : ℕ) (x : Item) → slice_get xs k ≡ Some x → home_of code (n + k) ≡ x.home

pub homed_rest : (code : RawCode) (n : ℕ) (x : Item) (xs : List Item) → Homed code n (x ∷ xs) → Homed code (suc n) xs
homed_rest code n x xs h = record {
  by = λ k y e. let s : n + suc k ≡ suc n + k = omega arith in subst (λ m. home_of code m ≡ y.home) s (h.by (suc k) y e);
}

pub homed_first : (code : RawCode) (n : ℕ) (x : Item) (xs : List Item) → Homed code n (x ∷ xs) → home_of code n ≡ x.home
homed_first code n x xs h = let s : n + 0 ≡ n = omega arith in subst (λ m. home_of code m ≡ x.home) s (h.by 0 x refl)

homed_drop : (code : RawCode) (k n : ℕ) (xs : List Item) → Homed code n xs → Homed code (n + k) (drop k xs)
homed_drop code zero n xs h = let s : n ≡ n + 0 = omega arith in subst (λ m. Homed code m xs) s h
homed_drop code (suc k) n [] h = record { by = λ j x e. cc }
homed_drop code (suc k) n (x ∷ xs) h =
    let s : suc n + k ≡ n + suc k = omega arith in
    subst (λ m. Homed code m (drop k xs)) s (homed_drop code k (suc n) xs (homed_rest code n x xs h))

module _ (low : ℕ) (p_places : List Place) (image : List ℕ) (fs : List TacFunc) where
  abbrev pub code_of : RawCode
  code_of = record { image = image; funcs = funcs_from low p_places 1 fs }

  pub func_homed : (i : ℕ) → Homed code_of (first low p_places 1 fs i) (items_in low p_places (slice_get fs i))
  unfolding home_of
  func_homed i = record { by = λ k x e. home_at low p_places 1 fs i k x e }

  pub func_homed_from : (i k : ℕ) → Homed code_of (first low p_places 1 fs i + k) (drop k (items_in low p_places (slice_get fs i)))
  func_homed_from i k = homed_drop code_of k (first low p_places 1 fs i) (items_in low p_places (slice_get fs i)) (func_homed i)

-- ---- a block's words stand at its start

module _ (low : ℕ) (places : List Place) where
  append_long : (xs ys xs' ys' : List Item) → length xs ≡ length xs' → length ys ≡ length ys' → length (xs ++ ys) ≡ length (xs' ++ ys')
  append_long xs ys xs' ys' e f = length-append xs ys ∙ ap (λ n. n + length ys) e ∙ ap (λ n. length xs' + n) f ∙ sym (length-append xs' ys')

  spread_long : (at to : ℕ → ℕ) (home : Place) (act : WideAct) → length (spread low at home act) ≡ length (spread low to home act)
  spread_long at to home act =
      append_long (reloads low home (reads act) (reads act)) (item home (renamed low at act) ∷ spill low home (writes_now act)) (reloads low home (reads act) (reads act)) (item home (renamed low to act) ∷ spill low home (writes_now act)) refl refl

  all_long : (at to : ℕ → ℕ) (home : Place) (acts : List WideAct) → length (spread_all low at home acts) ≡ length (spread_all low to home acts)
  all_long at to home [] = refl
  all_long at to home (act ∷ acts) = append_long (spread low at home act) (spread_all low at home acts) (spread low to home act) (spread_all low to home acts) (spread_long at to home act) (all_long at to home acts)

  pub rest_long : (at to : ℕ → ℕ) (ops : List TacOp) (b : Block) → length (rest_items low places at ops b) ≡ length (rest_items low places to ops b)
  rest_long at to [] b = all_long at to (place_of places b.end_stmt) (end_acts b.«end»)
  rest_long at to (op ∷ ops) b =
      append_long (spread low at (place_of places op.stmt) (Do op.act)) (rest_items low places at ops b) (spread low to (place_of places op.stmt) (Do op.act)) (rest_items low places to ops b)
      (spread_long at to (place_of places op.stmt) (Do op.act)) (rest_long at to ops b)

  -- the words begin with those of a block, or there are none
  abbrev pub Begins : (at : ℕ → ℕ) → Option Block → List Item → Type 0
  Begins at None xs = xs ≡ []
  Begins at (Some b) xs = (more : List Item) × (xs ≡ block_items low places at b ++ more)

  block_at : (at : ℕ → ℕ) (bs : List Block) (l : ℕ) → Begins at (slice_get bs l) (drop (start low places bs l) (all_items low places at bs))
  block_at at [] l = refl
  block_at at (b ∷ bs) zero = (all_items low places at bs, refl)
  block_at at (b ∷ bs) (suc l) =
      let long = rest_long (λ l. 0) at b.ops b in
      subst (Begins at (slice_get bs l))
      (sym (ap (λ n. drop (n + start low places bs l) (block_items low places at b ++ all_items low places at bs)) long ∙ dropped (block_items low places at b) (all_items low places at bs) (start low places bs l)))
      (block_at at bs l)

  -- the first word of a label of a function
  abbrev pub at_in : Option TacFunc → ℕ → ℕ
  at_in None l = 0
  at_in (Some f) l = start low places f.blocks l

  pub func_block_at : (o : Option TacFunc) (l : ℕ) → Begins (at_in o) (block_of o l) (drop (at_in o l) (items_in low places o))
  func_block_at None l = refl
  func_block_at (Some f) l = block_at (start low places f.blocks) f.blocks l
