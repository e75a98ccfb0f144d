-- Control enters a chain at its first block alone.
use Rattle.std.proofs.Common.{◌≡◌, ℕ, zero, suc, ◌<◌, ◌⊎◌, inl, inr, Bool, true, false, if◌then◌else◌, List, [], ◌∷◌, ◌++◌, length, Some, refl, sym, ap, ◌∙◌, subst, ⊎_elim, arith, append_assoc}
use Rattle.std.specs.Prelude.{slice_get, map, bytes_eq}
use Rattle.std.specs.List.{Any}
use Rattle.std.proofs.lemmas.List.{get_or_default}
use Rattle.std.proofs.lemmas.Option.{slice_get_cases, slice_get_within}
use Rattle.tac_core.specs.declared.code.End.{End}
use Rattle.tac_core.specs.declared.code.End.TheVariants.{Jump, Branch, Call, Ret}
use Rattle.tac_core.specs.declared.code.Block.{Block}
use Rattle.tac_core.specs.declared.code.TacFunc.{TacFunc}
use Rattle.tac_core.specs.Counts.{IsTargetOf, LeadsTo, HasEdge}
use Rattle.tac_core.specs.Program.{Program, main_name, main_in, main_of}
use Rattle.tac_core.specs.Rules.{IsMain, IsValid, IsGoodFunc, IsGoodBlock, IsGoodEnd, IsTarget}
use Rattle.tac_core.specs.Traces.{Labels, StandsAt, AreChains, AreFormed, HasNoSideEntrance, StaysIn, GoesOn, FormedProgram}
use Rattle.tac_core.proofs.Lists.{All-get, slice_get_seam}
use Rattle.sb_formed.specs.Formed.{first_of}

after_seam : (xs ys : List ℕ) (y : ℕ) → slice_get (xs ++ y ∷ ys) (suc (length xs)) ≡ first_of ys
after_seam [] [] y = refl
after_seam [] (z ∷ ys) y = refl
after_seam (x ∷ xs) ys y = after_seam xs ys y

-- a list that has a second element has a first
prior : (xs : List ℕ) (i x : ℕ) → slice_get xs (suc i) ≡ Some x → (y : ℕ) × (slice_get xs i ≡ Some y)
prior [] i x e = cc
prior (z ∷ xs) zero x e = (z, refl)
prior (z ∷ xs) (suc i) x e = prior xs i x e

first_is : (xs : Labels) (x : ℕ) → slice_get xs 0 ≡ Some x → (ys : Labels) × (xs ≡ x ∷ ys)
first_is [] x e = cc
first_is (y ∷ ys) x e = let same : y ≡ x = cc in (ys, ap (λ k. k ∷ ys) same)

target_good : (regs blocks : ℕ) (funcs : List TacFunc) (e : End) (t : ℕ) → IsGoodEnd regs blocks funcs e → IsTargetOf e t → IsTarget blocks t
target_good regs blocks funcs (Jump l) t good is = subst (IsTarget blocks) (sym is) good
target_good regs blocks funcs (Branch r y n) t good is =
    ⊎_elim (λ e. subst (IsTarget blocks) (sym e) good.1) (λ e. subst (IsTarget blocks) (sym e) good.2) is
target_good regs blocks funcs (Call d f args l) t good is = subst (IsTarget blocks) (sym is) good.2
target_good regs blocks funcs (Ret r) t good is = absurd is

-- a function of a valid program in chains
pub record IsFormed (funcs : List TacFunc) (places : ℕ) (f : TacFunc) (chains : List Labels) : Type 0 where
  pub good : IsGoodFunc places funcs f
  pub chained : AreChains f chains
  pub closed : HasNoSideEntrance f chains

-- the block of a label in a chain, with the labels behind it
pub record AtPlace (f : TacFunc) (chains : List Labels) (label : ℕ) (b : Block) (more : Labels) : Type 0 where
  pub chain : ℕ
  pub front : Labels
  pub is : slice_get chains chain ≡ Some (front ++ label ∷ more)
  pub block : slice_get f.blocks label ≡ Some b

-- the label begins a chain
pub record IsHead (chains : List Labels) (label : ℕ) : Type 0 where
  pub chain : ℕ
  pub more : Labels
  pub is : slice_get chains chain ≡ Some (label ∷ more)

stands : (f : TacFunc) (chains : List Labels) (label : ℕ) (b : Block) (more : Labels) (at : AtPlace f chains label b more) → StandsAt chains label at.chain (length at.front)
stands f chains label b more at = record { chain = at.front ++ label ∷ more; is = at.is; there = slice_get_seam at.front label more }

module _ (funcs : List TacFunc) (places : ℕ) (f : TacFunc) (chains : List Labels) (formed : IsFormed funcs places f chains) where
  pub good_block : (l : ℕ) (b : Block) → slice_get f.blocks l ≡ Some b → IsGoodBlock f.regs (length f.blocks) places funcs b
  good_block l b e = All-get (IsGoodBlock f.regs (length f.blocks) places funcs) f.blocks l b formed.good.blocks e

  edge : (l t : ℕ) (b : Block) → slice_get f.blocks l ≡ Some b → IsTargetOf b.«end» t → HasEdge f l t
  edge l t b e is = subst (λ o. LeadsTo o t) (sym e) is

  -- a label stands first in its chain, or behind another one
  head_or : (t c k : ℕ) → StandsAt chains t c k → IsHead chains t ⊎ ((j : ℕ) × (k ≡ suc j))
  head_or t c zero s =
      let whole = first_is s.chain t s.there in inl (record { chain = c; more = whole.0; is = s.is ∙ ap Some whole.1 })
  head_or t c (suc j) s = inr (j, refl)

  -- where an edge from a block leads: to a head, or along the chain
  pub leads : (l t : ℕ) (b : Block) (more : Labels) → AtPlace f chains l b more → IsTargetOf b.«end» t → IsHead chains t ⊎ (first_of more ≡ Some t)
  leads l t b more at is =
      let good = target_good f.regs (length f.blocks) funcs b.«end» t (good_block l b at.block).ends is in
      let where' = formed.chained.partition.somewhere t good.1 in
      ⊎_elim inl
      (λ p.
      let s : StandsAt chains t where'.0 (suc p.0) = subst (λ k. StandsAt chains t where'.0 k) p.1 where'.2 in
      let same = formed.chained.partition.once l at.chain (length at.front) where'.0 p.0 (stands f chains l b more at) (formed.closed l t where'.0 p.0 s (edge l t b at.block is)) in
      let one : Some s.chain ≡ Some (at.front ++ l ∷ more) = sym s.is ∙ ap (slice_get chains) (sym same.0) ∙ at.is in
      let chain : s.chain ≡ at.front ++ l ∷ more = cc in
      inr
      (sym (after_seam at.front more l) ∙ ap (λ xs. slice_get xs (suc (length at.front))) (sym chain) ∙ ap (λ k. slice_get s.chain (suc k)) same.1 ∙ s.there))
      (head_or t where'.0 where'.1 where'.2)

  next_stands : (l next : ℕ) (b : Block) (more : Labels) (at : AtPlace f chains l b (next ∷ more)) → StandsAt chains next at.chain (suc (length at.front))
  next_stands l next b more at = record { chain = at.front ++ l ∷ next ∷ more; is = at.is; there = after_seam at.front (next ∷ more) l }

  -- a block has an edge to the next one of its chain
  pub linked : (l next : ℕ) (b : Block) (more : Labels) → AtPlace f chains l b (next ∷ more) → IsTargetOf b.«end» next
  linked l next b more at =
      subst (λ o. LeadsTo o next) at.block
      (formed.chained.linked l next at.chain (length at.front) (stands f chains l b (next ∷ more) at) (next_stands l next b more at))

  -- and goes on within the function
  pub straight : (l next : ℕ) (b : Block) (more : Labels) → AtPlace f chains l b (next ∷ more) → StaysIn b.«end»
  straight l next b more at =
      subst GoesOn at.block
      (formed.chained.straight l next at.chain (length at.front) (stands f chains l b (next ∷ more) at) (next_stands l next b more at))

  block_at : (l c k : ℕ) → StandsAt chains l c k → (b : Block) × (slice_get f.blocks l ≡ Some b)
  block_at l c k s =
      let lt = formed.chained.partition.within l c k s in
      ⊎_elim (λ p. (p.0, p.2)) (λ p. let le = p.0 in absurd (omega arith)) (slice_get_cases f.blocks l).1

  pub next_place : (l next : ℕ) (b : Block) (more : Labels) → AtPlace f chains l b (next ∷ more) → (c : Block) × AtPlace f chains next c more
  next_place l next b more at =
      let c = block_at next at.chain (suc (length at.front)) (next_stands l next b more at) in (
        c.0,
        record {
          chain = at.chain;
          front = at.front ++ l ∷ [];
          is = at.is ∙ ap Some (sym (append_assoc at.front (l ∷ []) (next ∷ more)));
          block = c.1;
        },
      )

  pub head_place : (l : ℕ) (h : IsHead chains l) → (b : Block) × AtPlace f chains l b h.more
  head_place l h =
      let s : StandsAt chains l h.chain 0 = record { chain = l ∷ h.more; is = h.is; there = refl } in
      let b = block_at l h.chain 0 s in
      (b.0, record { chain = h.chain; front = []; is = h.is; block = b.1 })

  pub head_below : (l : ℕ) → IsHead chains l → l < length f.blocks
  head_below l h = formed.chained.partition.within l h.chain 0 (record { chain = l ∷ h.more; is = h.is; there = refl })

  -- no edge leads to a function's entry, so it begins a chain
  pub entry_head : IsHead chains 0
  entry_head =
      let where' = formed.chained.partition.somewhere 0 formed.good.entry in
      ⊎_elim (λ h. h)
      (λ p.
      let s : StandsAt chains 0 where'.0 (suc p.0) = subst (λ k. StandsAt chains 0 where'.0 k) p.1 where'.2 in
      let before = prior s.chain p.0 0 s.there in
      let u : StandsAt chains before.0 where'.0 p.0 = record { chain = s.chain; is = s.is; there = before.1 } in
      let b = block_at before.0 where'.0 p.0 u in
      let to : IsTargetOf b.0.«end» 0 =
      subst (λ o. LeadsTo o 0) b.1 (formed.chained.linked before.0 0 where'.0 p.0 u s) in
      let good = target_good f.regs (length f.blocks) funcs b.0.«end» 0 (good_block before.0 b.0 b.1).ends to in
      let lt = good.0 in
      absurd (omega arith))
      (head_or 0 where'.0 where'.1 where'.2)

-- each function of a valid program in chains is so
pub is_formed : (p : FormedProgram) → IsValid p.copied.tac → AreFormed p.copied.tac.funcs p.traces → (func : ℕ) (f : TacFunc) → slice_get p.copied.tac.funcs func ≡ Some f → (chains : List Labels) × (slice_get p.traces func ≡ Some chains) × IsFormed p.copied.tac.funcs (length p.copied.tac.places) f chains
is_formed p valid are func f e =
    let lt : func < length p.copied.tac.funcs = slice_get_within p.copied.tac.funcs func f e in
    let many = are.chained.many in
    ⊎_elim
    (λ c. (
      c.0,
      c.2,
      record {
        good = All-get (IsGoodFunc (length p.copied.tac.places) p.copied.tac.funcs) p.copied.tac.funcs func f valid.each e;
        chained = are.chained.each func f c.0 e c.2;
        closed = are.entered func f c.0 e c.2;
      },
    ))
    (λ c. let le = c.0 in absurd (omega arith))
    (slice_get_cases p.traces func).1

-- ---- `main` is there

main_below : (funcs : List TacFunc) (i : ℕ) (f : TacFunc) → slice_get funcs i ≡ Some f → f.name ≡ main_name → main_in (map (λ g. g.name) funcs) < length funcs
main_below [] i f e named = cc
main_below (g ∷ funcs) i f e named = by (bytes_eq main_name g.name) refl (later i e) (λ k is. main_below funcs k f is named)
  where
    later : (i : ℕ) → slice_get (g ∷ funcs) i ≡ Some f → bytes_eq main_name g.name ≡ false → (k : ℕ) × (slice_get funcs k ≡ Some f)
    later zero e other =
        let one : g ≡ f = cc in
        let same : bytes_eq main_name main_name ≡ false = subst (λ n. bytes_eq main_name n ≡ false) (ap (λ (h : TacFunc). h.name) one ∙ named) other in
        let yes' : bytes_eq main_name main_name ≡ true = refl in
        cc
    later (suc k) e other = (k, e)

    by : (b : Bool) → bytes_eq main_name g.name ≡ b → (bytes_eq main_name g.name ≡ false → (k : ℕ) × (slice_get funcs k ≡ Some f)) → ((k : ℕ) → slice_get funcs k ≡ Some f → main_in (map (λ h. h.name) funcs) < length funcs) → (if b then 0 else suc (main_in (map (λ h. h.name) funcs))) < suc (length funcs)
    by true is other rest = omega arith
    by false is other rest =
        let k = other is in
        let lt = rest k.0 k.1 in
        omega arith

pub main_there : (p : Program) → Any IsMain p.funcs → (f : TacFunc) × (slice_get p.funcs (main_of p) ≡ Some f)
main_there p any =
    let is : slice_get p.funcs any.0 ≡ Some any.1 =
    ⊎_elim
    (λ c. c.2 ∙ ap Some (sym c.3 ∙ get_or_default p.funcs any.0 c.0 any.1 any.2 ∙ any.3))
    (λ c. let le = c.0 in let lt = any.2 in absurd (omega arith))
    (slice_get_cases p.funcs any.0).1 in
    let below = main_below p.funcs any.0 any.1 is any.4.0 in
    ⊎_elim (λ c. (c.0, c.2)) (λ c. let le = c.0 in absurd (omega arith)) (slice_get_cases p.funcs (main_of p)).1
