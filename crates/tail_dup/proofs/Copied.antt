-- A duplicate is a copy of its function.
use Rattle.std.proofs.Common.{◌≡◌, inl, inr, ◌+◌, ◌-◌, ◌<◌, ◌≤◌, ◌++◌, ℕ, zero, suc, List, [], ◌∷◌, Option, Some, None, length, get_or, refl, sym, ap, ◌∙◌, subst, ⊎_elim, arith, length-append}
use Rattle.std.specs.Prelude.{slice_get}
use Rattle.std.proofs.lemmas.Bool.{cases_lt}
use Rattle.tac_core.specs.declared.code.End.{End}
use Rattle.tac_core.specs.declared.code.End.TheVariants.{Jump, Branch, Call, Ret}
use Rattle.tac_core.specs.declared.code.Block.{Block}
use Rattle.tac_core.specs.declared.code.TacFunc.{TacFunc}
use Rattle.tac_core.specs.Counts.{IsTargetOf}
use Rattle.tac_core.specs.Cover.{Origins, upto, IsFrom, IsEndFrom, IsBlockFrom, IsFuncFrom}
use Rattle.tac_core.specs.Traces.{Labels}
use Rattle.tac_core.proofs.Lists.{slice_get_front, upto_get, length-upto}
use Rattle.tail_dup.specs.Duplicated.{IsLed, Kept, Moved, IsEndLed, IsBlockLed, IsDuplicated, origins_with}
use Rattle.tail_dup.proofs.Places.{behind_get, found_at}

pub from_itself : (blocks : ℕ) (copies : List ℕ) (l : ℕ) → l < blocks → IsFrom (origins_with blocks copies) l l
from_itself blocks copies l lt =
    let long = length-upto blocks in
    slice_get_front (upto blocks) copies l (omega arith) ∙ upto_get blocks l lt

pub from_copied : (blocks : ℕ) (copies : List ℕ) (i m : ℕ) → slice_get copies i ≡ Some m → IsFrom (origins_with blocks copies) (blocks + i) m
from_copied blocks copies i m is =
    let long = length-upto blocks in
    behind_get (upto blocks) copies (blocks + i) i (omega arith) ∙ is

-- an edge leads to a copy of its target
pub led_from : (chains : List Labels) (blocks : ℕ) (copies : List ℕ) (leaves : Option ℕ) (t t' : ℕ) → t < blocks → IsLed chains blocks copies leaves t t' → IsFrom (origins_with blocks copies) t' t
led_from chains blocks copies leaves _ _ lt (Kept u keeps) = from_itself blocks copies u lt
led_from chains blocks copies leaves _ _ lt (Moved u i not' is) = from_copied blocks copies i u is

-- each target of an end is a block
abbrev pub AreBlocks : (blocks : ℕ) → End → Type 0
AreBlocks blocks e = (t : ℕ) → IsTargetOf e t → t < blocks

end_from : (chains : List Labels) (blocks : ℕ) (copies : List ℕ) (leaves : Option ℕ) (e e' : End) → AreBlocks blocks e → IsEndLed (IsLed chains blocks copies leaves) e e' → IsEndFrom (origins_with blocks copies) e' e
end_from chains blocks copies leaves (Jump t) (Jump t') there h = led_from chains blocks copies leaves t t' (there t refl) h
end_from chains blocks copies leaves (Branch r y n) (Branch r' y' n') there h =
    (h.0, led_from chains blocks copies leaves y y' (there y (inl refl)) h.1, led_from chains blocks copies leaves n n' (there n (inr refl)) h.2)
end_from chains blocks copies leaves (Call d f args t) (Call d' f' args' t') there h =
    (h.0, h.1, h.2, led_from chains blocks copies leaves t t' (there t refl) h.3)
end_from chains blocks copies leaves (Ret r) (Ret r') there h = h
end_from chains blocks copies leaves _ _ there h = absurd h

pub block_from : (chains : List Labels) (blocks : ℕ) (copies : List ℕ) (leaves : Option ℕ) (b c : Block) → AreBlocks blocks b.«end» → IsBlockLed (IsLed chains blocks copies leaves) b c → IsBlockFrom (origins_with blocks copies) c b
block_from chains blocks copies leaves b c there h = record {
  ops = h.ops;
  end_stmt = h.end_stmt;
  ends = end_from chains blocks copies leaves b.«end» c.«end» there h.ends;
}

abbrev IsEach : Origins → (copy origin : TacFunc) → ℕ → ℕ → Type 0
IsEach os copy origin l o = (b : Block) × (c : Block) × (slice_get copy.blocks l ≡ Some b) × (slice_get origin.blocks o ≡ Some c) × IsBlockFrom os b c

module _ (f g : TacFunc) (chains : List Labels) (copies : List ℕ) (is : IsDuplicated f chains copies g) where
  abbrev n : ℕ
  n = length f.blocks

  module _ (targets : (l : ℕ) (b : Block) → slice_get f.blocks l ≡ Some b → AreBlocks n b.«end») (below : (i m : ℕ) → slice_get copies i ≡ Some m → m < n) where
    given_block : (l : ℕ) → l < n → IsEach (origins_with n copies) g f l l
    given_block l lt =
        let block = found_at f.blocks l lt in
        let b : Block = block.0 in
        let at : slice_get f.blocks l ≡ Some b = block.1 in
        let t = is.given l b at in
        (t.0, b, t.1, at, block_from chains n copies (Some l) b t.0 (targets l b at) t.2)

    copied_block : (i m : ℕ) → slice_get copies i ≡ Some m → IsEach (origins_with n copies) g f (n + i) m
    copied_block i m at' =
        let block = found_at f.blocks m (below i m at') in
        let b : Block = block.0 in
        let at : slice_get f.blocks m ≡ Some b = block.1 in
        let t = is.copied i m b at' at in
        (t.0, b, t.1, at, block_from chains n copies None b t.0 (targets m b at) t.2)

    each : (l o : ℕ) → IsFrom (origins_with n copies) l o → IsEach (origins_with n copies) g f l o
    each l o from =
        ⊎_elim
        (λ lt.
        let both : Some l ≡ Some o = sym (from_itself n copies l lt) ∙ from in
        let same : l ≡ o = cc in
        subst (λ z. IsEach (origins_with n copies) g f l z) same (given_block l lt))
        (λ ge.
        let i : ℕ = l - n in
        let at : l ≡ n + i = omega arith in
        let long = length-upto n in
        let found : slice_get copies i ≡ Some o = sym (behind_get (upto n) copies l i (omega arith)) ∙ from in
        subst (λ z. IsEach (origins_with n copies) g f z o) (sym at) (copied_block i o found))
        (cases_lt l n)

    pub func_from : 0 < n → IsFuncFrom (origins_with n copies) g f
    func_from entry = record {
      params = is.params;
      regs = is.regs;
      frame = is.frame;
      long = length-append (upto n) copies ∙ ap (λ k. k + length copies) (length-upto n) ∙ sym is.long;
      entry = from_itself n copies 0 entry;
      each = each;
    }
