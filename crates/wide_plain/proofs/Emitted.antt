-- Words added behind words, and words added in a loop.
use Rattle.std.proofs.Common.{◌≡◌, false, ℕ, suc, ◌+◌, ◌<◌, ◌≤◌, List, [], ◌∷◌, ◌++◌, length, take, get_or, refl, sym, ap, ◌∙◌, subst, arith, append_assoc, length-append}
use Rattle.std.specs.List.{flat_map}
use Rattle.std.specs.Prelude.{Result, Ok, Err, OnOk}
use Rattle.std.proofs.lemmas.List.{append-nil, take_more, take_all, get_or_default}
use Rattle.std.proofs.lemmas.List.Concat.{flat_map-append}
use Rattle.ib_meaning.specs.declared.place.Place.{Place}
use Rattle.tac_core.specs.declared.code.TacOp.{TacOp}
use Rattle.tac_core.specs.declared.code.Block.{Block}
use Rattle.tac_core.specs.Meaning.{place_of}
use Rattle.wide_core.specs.declared.code.Word.{Word}
use Rattle.wide_core.specs.declared.code.WideAct.TheVariants.{Do}
use Rattle.plain_code.specs.Plain.{Item, numbered, reload, reloads, spread, end_items, rest_items, block_items, all_items}
use Rattle.wide_plain.specs.declared.emitter.Emitter.{Emitter}
use Rattle.wide_plain.specs.Emitted.{Emits}

pub numbered_append : (n : ℕ) (xs ys : List Item) → numbered n (xs ++ ys) ≡ numbered n xs ++ numbered (n + length xs) ys
numbered_append n [] ys = let e : n ≡ n + 0 = omega arith in ap (λ m. numbered m ys) e
numbered_append n (x ∷ xs) ys =
    let e : suc n + length xs ≡ n + suc (length xs) = omega arith in
    ap (λ (ws : List Word). (record { ops = record { number = n; home = x.home; flagged = false; act = x.act } ∷ [] }) ∷ ws)
    (numbered_append (suc n) xs ys ∙ ap (λ m. numbered (suc n) xs ++ numbered m ys) e)

pub emits_none : (s : Emitter) → Emits [] s s
emits_none s = record {
  words = sym (append-nil s.words);
  next = omega arith;
}

pub emits_then : (xs ys : List Item) (a b c : Emitter) → Emits xs a b → Emits ys b c → Emits (xs ++ ys) a c
emits_then xs ys a b c f g = record {
  words =
      g.words ∙ ap (λ (ws : List Word). ws ++ numbered b.number ys) f.words ∙ append_assoc a.words (numbered a.number xs) (numbered b.number ys)
      ∙ ap (λ m. a.words ++ (numbered a.number xs ++ numbered m ys)) f.next ∙ ap (λ (ws : List Word). a.words ++ ws) (sym (numbered_append a.number xs ys));
  next = let long = length-append xs ys in let e = f.next in let h = g.next in omega arith;
}

-- a step that may fail, behind what was added
pub emits_onto : {T E : Type 0} (r : Result T E) (xs xs' ys ys' : List Item) (a b c : Emitter) → Emits xs' a b → OnOk r (Emits ys' b c) → xs' ≡ xs → ys' ≡ ys → OnOk r (Emits (xs ++ ys) a c)
emits_onto (Ok t) xs xs' ys ys' a b c f g e h = emits_then xs ys a b c (subst (λ zs. Emits zs a b) e f) (subst (λ zs. Emits zs b c) h g)
emits_onto (Err x) xs xs' ys ys' a b c f g e h = tt

pub on_same : {T E : Type 0} (r : Result T E) (xs ys : List Item) (a b : Emitter) → OnOk r (Emits xs a b) → xs ≡ ys → OnOk r (Emits ys a b)
on_same r xs ys a b h e = subst (λ zs. OnOk r (Emits zs a b)) e h

-- ---- in a loop

module _ {X : Type 0} (f : X → List Item) where
  flat_more : (xs : List X) (i : ℕ) (x : X) → i < length xs → x ≡ get_or xs i x → flat_map f (take i xs) ++ f x ≡ flat_map f (take (i + 1) xs)
  flat_more xs i x lt is =
      let e : take (i + 1) xs ≡ take i xs ++ x ∷ [] = take_more xs i x lt ∙ ap (λ y. take i xs ++ y ∷ []) (sym is) in
      ap (λ ys. flat_map f (take i xs) ++ ys) (sym (append-nil (f x))) ∙ sym (flat_map-append f (take i xs) (x ∷ [])) ∙ ap (flat_map f) (sym e)

  pub emits_more : (xs : List X) (i : ℕ) (x : X) (a b c : Emitter) → i < length xs → x ≡ get_or xs i x → Emits (flat_map f (take i xs)) a b → Emits (f x) b c → Emits (flat_map f (take (i + 1) xs)) a c
  emits_more xs i x a b c lt is done now =
      subst (λ ys. Emits ys a c) (flat_more xs i x lt is) (emits_then (flat_map f (take i xs)) (f x) a b c done now)

  pub emits_all : (xs : List X) (i : ℕ) (a b : Emitter) → length xs ≤ i → Emits (flat_map f (take i xs)) a b → Emits (flat_map f xs) a b
  emits_all xs i a b le done = subst (λ ys. Emits (flat_map f ys) a b) (take_all i xs le) done

-- ---- the definition's lists as those of loops

module _ (low : ℕ) where
  pub reloads_flat : (home : Place) (all rs : List ℕ) → reloads low home all rs ≡ flat_map (reload low home all) rs
  reloads_flat home all [] = refl
  reloads_flat home all (r ∷ rs) = ap (λ ys. reload low home all r ++ ys) (reloads_flat home all rs)

  module _ (places : List Place) (at : ℕ → ℕ) where
    -- the words of an operation of a block
    abbrev pub op_items : TacOp → List Item
    op_items op = spread low at (place_of places op.stmt) (Do op.act)

    pub rest_flat : (ops : List TacOp) (b : Block) → rest_items low places at ops b ≡ flat_map op_items ops ++ end_items low places at b
    rest_flat [] b = refl
    rest_flat (op ∷ ops) b =
        ap (λ ys. op_items op ++ ys) (rest_flat ops b) ∙ sym (append_assoc (op_items op) (flat_map op_items ops) (end_items low places at b))

    pub all_flat : (bs : List Block) → all_items low places at bs ≡ flat_map (block_items low places at) bs
    all_flat [] = refl
    all_flat (b ∷ bs) = ap (λ ys. block_items low places at b ++ ys) (all_flat bs)

    pub ops_more : (ops ops' : List TacOp) (i : ℕ) (d : TacOp) (home : Place) (a b c : Emitter) → ops' ≡ ops → i < length ops' → home ≡ place_of places (get_or ops' i d).stmt → Emits (flat_map op_items (take i ops)) a b → Emits (spread low (λ l. l) home (Do (get_or ops' i d).act)) b c → Emits (flat_map op_items (take (i + 1) ops)) a c
    ops_more ops ops' i d home a b c e lt is done now =
        let there : i < length ops = subst (λ os. i < length os) e lt in
        let here : Emits (op_items (get_or ops' i d)) b c = subst (λ h. Emits (spread low (λ l. l) h (Do (get_or ops' i d).act)) b c) is now in
        emits_more op_items ops i (get_or ops i d) a b c there (get_or_default ops i d (get_or ops i d) there) done
        (subst (λ os. Emits (op_items (get_or os i d)) b c) e here)
