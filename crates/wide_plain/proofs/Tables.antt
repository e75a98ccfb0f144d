-- The table of starts, block by block.
use Rattle.std.proofs.Common.{◌≡◌, ℕ, zero, suc, ◌+◌, ◌<◌, ◌≤◌, List, [], ◌∷◌, ◌++◌, length, get_or, slice_get, Some, None, refl, sym, ap, ◌∙◌, ⊎_elim, arith}
use Rattle.std.specs.Option.{unwrap_or}
use Rattle.std.proofs.lemmas.Option.{unwrap_or-slice_get}
use Rattle.std.proofs.lemmas.Bool.{cases_lt}
use Rattle.std.proofs.lemmas.List.{length_push, get_or_append_left, get_or_push, get_or_past}
use Rattle.ib_meaning.specs.declared.place.Place.{Place}
use Rattle.tac_core.specs.declared.code.Block.{Block}
use Rattle.plain_code.specs.Plain.{size, start}
use Rattle.wide_plain.specs.Emitted.{AreStarts}
use Rattle.wide_plain.specs.Sizes.{block_size}
use Rattle.wide_plain.proofs.Lengths.{block_long}

module _ (low : ℕ) (places : List Place) where
  start_none : (bs : List Block) → start low places bs 0 ≡ 0
  start_none [] = refl
  start_none (b ∷ bs) = refl

  start_more : (bs : List Block) (i : ℕ) (b : Block) → i < length bs → b ≡ get_or bs i b → start low places bs (suc i) ≡ start low places bs i + size low places b
  start_more [] i b lt is = absurd (omega arith)
  start_more (x ∷ bs) zero b lt is = let n = start_none bs in let s : size low places b ≡ size low places x = ap (size low places) is in omega (arith, n, s)
  start_more (x ∷ bs) (suc i) b lt is = let r = start_more bs i b (omega arith) is in omega (arith, r)

  start_past : (bs : List Block) (l : ℕ) → length bs ≤ l → start low places bs l ≡ start low places bs (length bs)
  start_past [] l le = refl
  start_past (b ∷ bs) zero le = absurd (omega arith)
  start_past (b ∷ bs) (suc l) le = ap (λ n. size low places b + n) (start_past bs l (omega arith))

-- the starts of the first blocks, and the word behind them
pub record Filled (low : ℕ) (blocks : List Block) (i : ℕ) (of : List ℕ) (behind : ℕ) : Type 0 where
  pub long : length of ≡ i
  pub each : (places : List Place) (l d : ℕ) → l < i → get_or of l d ≡ start low places blocks l
  pub next : (places : List Place) → behind ≡ start low places blocks i

pub filled_none : (low : ℕ) (blocks : List Block) → Filled low blocks 0 [] 0
filled_none low blocks = record {
  long = refl;
  each = λ places l d lt. absurd (omega arith);
  next = λ places. sym (start_none low places blocks);
}

pub filled_more : (low : ℕ) (blocks : List Block) (i : ℕ) (b : Block) (of new : List ℕ) (behind next : ℕ) → i < length blocks → b ≡ get_or blocks i b → Filled low blocks i of behind → new ≡ of ++ behind ∷ [] → next ≡ behind + block_size low b → Filled low blocks (i + 1) new next
filled_more low blocks i b of new behind next lt is h made to =
    record {
      long = ap length made ∙ length_push of behind ∙ ap (λ n. n + 1) h.long;
      each = λ places l d below.
          ap (λ ns. get_or ns l d) made
          ∙ ⊎_elim
          (λ early. get_or_append_left of (behind ∷ []) d l (let e = h.long in omega arith) ∙ h.each places l d early)
          (λ late.
          let same : l ≡ i = omega arith in
          let long : length of ≡ l = h.long ∙ sym same in
          get_or_push of behind d l long ∙ h.next places ∙ ap (start low places blocks) (sym same))
          (cases_lt l i);
      next = λ places.
          let e : i + 1 ≡ suc i = omega arith in
          let s = start_more low places blocks i b lt is in
          let b' = block_long low places b in
          let n = h.next places in
          let sum : next ≡ start low places blocks (suc i) = omega (arith, s, b', n, to) in
          sum ∙ ap (start low places blocks) (sym e);
    }

pub filled_all : (low : ℕ) (blocks : List Block) (i : ℕ) (of : List ℕ) (behind : ℕ) → i ≡ length blocks → Filled low blocks i of behind → AreStarts low blocks (record { of = of; behind = behind })
filled_all low blocks i of behind all h = record {
  each = λ places l.
      ⊎_elim
      (λ early. h.each places l behind early)
      (λ late.
      get_or_past of l behind (let e = h.long in omega arith) ∙ h.next places ∙ ap (start low places blocks) all
      ∙ sym (start_past low places blocks l (omega arith)))
      (cases_lt l i);
}

-- ---- what a table says at a place, or behind its end

pub read_none : {X : Type 0} (xs : List X) (i : ℕ) (d : X) → None ≡ slice_get xs i → d ≡ get_or xs i d
read_none xs i d e = ap (λ o. unwrap_or o d) e ∙ unwrap_or-slice_get xs i d

pub read_some : {X : Type 0} (xs : List X) (i : ℕ) (x d : X) → Some x ≡ slice_get xs i → x ≡ get_or xs i d
read_some xs i x d e = ap (λ o. unwrap_or o d) e ∙ unwrap_or-slice_get xs i d
