-- A valid program covers itself.
use Rattle.std.proofs.Common.{◌≡◌, ℕ, ◌<◌, ◌≤◌, List, Option, Some, None, length, refl, sym, ap, ◌∙◌, subst, ⊎_elim, arith}
use Rattle.std.specs.Prelude.{map, slice_get}
use Rattle.std.specs.Option.{option_map}
use Rattle.std.proofs.lemmas.Option.{slice_get-map, slice_get_cases, slice_get_within}
use Rattle.tac_core.specs.declared.code.Block.{Block}
use Rattle.tac_core.specs.declared.code.TacFunc.{TacFunc}
use Rattle.tac_core.specs.declared.code.End.{End}
use Rattle.tac_core.specs.declared.code.End.TheVariants.{Jump, Branch, Call, Ret}
use Rattle.tac_core.specs.Program.{Program}
use Rattle.tac_core.specs.Rules.{IsGoodEnd, IsGoodBlock, IsGoodFunc, IsValid}
use Rattle.tac_core.specs.Cover.{Origins, IsFrom, IsEndFrom, IsBlockFrom, IsFuncFrom, AreFuncsFrom, Covers, upto, own_labels}
use Rattle.tac_core.proofs.Lists.{upto_get, length-upto, All-get}

end_self : (regs n : ℕ) (funcs : List TacFunc) (e : End) → IsGoodEnd regs n funcs e → IsEndFrom (upto n) e e
end_self regs n funcs (Jump l) good = upto_get n l good.1
end_self regs n funcs (Branch r y f) good = (refl, upto_get n y good.1.1, upto_get n f good.2.1)
end_self regs n funcs (Call d f args l) good = (refl, refl, refl, upto_get n l good.2.1)
end_self regs n funcs (Ret r) good = refl

block_self : (regs n places : ℕ) (funcs : List TacFunc) (b : Block) → IsGoodBlock regs n places funcs b → IsBlockFrom (upto n) b b
block_self regs n places funcs b good = record { ops = refl; end_stmt = refl; ends = end_self regs n funcs b.«end» good.ends }

abbrev IsEach : TacFunc → ℕ → ℕ → Type 0
IsEach f l o = (b : Block) × (c : Block) × (slice_get f.blocks l ≡ Some b) × (slice_get f.blocks o ≡ Some c) × IsBlockFrom (upto (length f.blocks)) b c

each_self : (places : ℕ) (funcs : List TacFunc) (f : TacFunc) → IsGoodFunc places funcs f → (l o : ℕ) → IsFrom (upto (length f.blocks)) l o → IsEach f l o
each_self places funcs f good l o from =
    let n : ℕ = length f.blocks in
    let e = length-upto n in
    let within : l < length (upto n) = slice_get_within (upto n) l o from in
    ⊎_elim
    (λ h.
    let e : Some l ≡ Some o = sym (upto_get n l h.1) ∙ from in
    let same : l ≡ o = cc in
    (h.0, h.0, h.2, ap (λ k. slice_get f.blocks k) (sym same) ∙ h.2, block_self f.regs n places funcs h.0 (All-get (IsGoodBlock f.regs n places funcs) f.blocks l h.0 good.blocks h.2)))
    (λ h. let le : n ≤ l = h.0 in absurd (omega arith))
    (slice_get_cases f.blocks l).1

func_self : (places : ℕ) (funcs : List TacFunc) (f : TacFunc) → IsGoodFunc places funcs f → IsFuncFrom (upto (length f.blocks)) f f
func_self places funcs f good = record {
  params = refl;
  regs = refl;
  frame = refl;
  long = length-upto (length f.blocks);
  entry = upto_get (length f.blocks) 0 good.entry;
  each = each_self places funcs f good;
}

at_self : (places : ℕ) (funcs : List TacFunc) (o : Option TacFunc) → ((f : TacFunc) → o ≡ Some f → IsGoodFunc places funcs f) → AreFuncsFrom (option_map (λ f. upto (length f.blocks)) o) o o
at_self places funcs None good = tt
at_self places funcs (Some f) good = func_self places funcs f (good f refl)

pub covers_self : (p : Program) → IsValid p → Covers (map (λ f. upto (length f.blocks)) p.funcs) p p
covers_self p valid = record {
  image = refl;
  places = refl;
  named = refl;
  funcs = λ f.
      rw (slice_get-map (λ f. upto (length f.blocks)) p.funcs f) (at_self (length p.places) p.funcs (slice_get p.funcs f) (λ g e. All-get (IsGoodFunc (length p.places) p.funcs) p.funcs f g valid.each e));
}

-- the copy that has each block once, under its own label
pub covers_copy : (origins : List Origins) (funcs : List TacFunc) (copy p : Program) → IsValid p → funcs ≡ p.funcs → origins ≡ own_labels funcs → copy ≡ p → Covers origins copy p
covers_copy origins funcs copy p valid read labels same =
    subst (λ q. Covers origins q p) (sym same) (subst (λ o. Covers o p p) (sym (labels ∙ ap own_labels read)) (covers_self p valid))
