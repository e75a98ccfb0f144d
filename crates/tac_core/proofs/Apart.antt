-- Chains of one block each are formed, whatever the program.
use Rattle.std.proofs.Common.{◌≡◌, ◌<◌, ℕ, zero, suc, List, [], ◌∷◌, Some, length, map, refl, sym, ap, ◌∙◌, subst, arith}
use Rattle.std.specs.Prelude.{slice_get}
use Rattle.std.specs.Option.{option_map}
use Rattle.std.proofs.lemmas.List.{length-map}
use Rattle.std.proofs.lemmas.Option.{slice_get-map, slice_get_within}
use Rattle.tac_core.specs.declared.code.TacFunc.{TacFunc}
use Rattle.tac_core.specs.Program.{Program}
use Rattle.tac_core.specs.Cover.{Origins, CopiedProgram, upto, own_labels}
use Rattle.tac_core.specs.Traces.{Labels, apart, StandsAt, ArePartition, AreChains, HasNoSideEntrance, AreFormed}
use Rattle.tac_core.proofs.Lists.{upto_get, length-upto}

-- where a label stands: in the chain of its own number, at the front
record IsAlone (n l c k : ℕ) : Type 0 where
  below : c < n
  own : l ≡ c
  front : k ≡ 0

in_one : (x l k : ℕ) → slice_get (x ∷ []) k ≡ Some l → (l ≡ x) × (k ≡ 0)
in_one x l zero e = let s : Some x ≡ Some l = e in (cc, refl)
in_one x l (suc k) e = absurd cc

chain_at : (n c : ℕ) → c < n → slice_get (apart (upto n)) c ≡ Some (c ∷ [])
chain_at n c lt = slice_get-map (λ l. l ∷ []) (upto n) c ∙ ap (option_map (λ l. l ∷ [])) (upto_get n c lt)

alone : (n l c k : ℕ) → StandsAt (apart (upto n)) l c k → IsAlone n l c k
alone n l c k at =
    let within = slice_get_within (apart (upto n)) c at.chain at.is in
    let long : length (apart (upto n)) ≡ n = length-map (upto n) (λ l. l ∷ []) ∙ length-upto n in
    let below : c < n = omega arith in
    let both : Some (c ∷ []) ≡ Some at.chain = sym (chain_at n c below) ∙ at.is in
    let same : c ∷ [] ≡ at.chain = cc in
    let found = in_one c l k (subst (λ chain. slice_get chain k ≡ Some l) (sym same) at.there) in
    record { below = below; own = found.0; front = found.1 }

not_behind : (n l c k : ℕ) → StandsAt (apart (upto n)) l c (suc k) → ⊥
not_behind n l c k at = let e : suc k ≡ 0 = (alone n l c (suc k) at).front in absurd (omega arith)

apart_partition : (n : ℕ) → ArePartition n (apart (upto n))
apart_partition n = record {
  within = λ l c k at. let a = alone n l c k at in subst (λ x. x < n) (sym a.own) a.below;
  somewhere = λ l lt. (l, 0, record { chain = l ∷ []; is = chain_at n l lt; there = refl });
  once = λ l c k c' k' at at'.
      let a = alone n l c k at in
      let b = alone n l c' k' at' in
      (sym a.own ∙ b.own, a.front ∙ sym b.front);
}

apart_begun : (labels : List ℕ) (c : ℕ) (chain : Labels) → slice_get (apart labels) c ≡ Some chain → 0 < length chain
apart_begun [] c chain is = cc
apart_begun (l ∷ labels) zero chain is =
    let e : Some (l ∷ []) ≡ Some chain = is in
    let one : l ∷ [] ≡ chain = cc in
    subst (λ z. 0 < length z) one (omega arith)
apart_begun (l ∷ labels) (suc c) chain is = apart_begun labels c chain is

apart_chains : (f : TacFunc) → AreChains f (apart (upto (length f.blocks)))
apart_chains f = record {
  partition = apart_partition (length f.blocks);
  begun = λ c chain is. apart_begun (upto (length f.blocks)) c chain is;
  linked = λ l m c k at next. absurd (not_behind (length f.blocks) m c k next);
  straight = λ l m c k at next. absurd (not_behind (length f.blocks) m c k next);
}

apart_entered : (f : TacFunc) → HasNoSideEntrance f (apart (upto (length f.blocks)))
apart_entered f a m c k at edge = absurd (not_behind (length f.blocks) m c k at)

apart_at : (funcs : List TacFunc) (i : ℕ) (f : TacFunc) → slice_get funcs i ≡ Some f → slice_get (map apart (own_labels funcs)) i ≡ Some (apart (upto (length f.blocks)))
apart_at funcs i f is =
    slice_get-map apart (own_labels funcs) i ∙ ap (option_map apart) (slice_get-map (λ f. upto (length f.blocks)) funcs i ∙ ap (option_map (λ f. upto (length f.blocks))) is)

same_chains : (funcs : List TacFunc) (i : ℕ) (f : TacFunc) (chains : List Labels) → slice_get funcs i ≡ Some f → slice_get (map apart (own_labels funcs)) i ≡ Some chains → apart (upto (length f.blocks)) ≡ chains
same_chains funcs i f chains is there =
    let both : Some (apart (upto (length f.blocks))) ≡ Some chains = sym (apart_at funcs i f is) ∙ there in cc

apart_formed : (funcs : List TacFunc) → AreFormed funcs (map apart (own_labels funcs))
apart_formed funcs = record {
  chained = record {
    many = length-map (own_labels funcs) apart ∙ length-map funcs (λ f. upto (length f.blocks));
    each = λ i f chains is there. subst (AreChains f) (same_chains funcs i f chains is there) (apart_chains f);
  };
  entered = λ i f chains is there. subst (HasNoSideEntrance f) (same_chains funcs i f chains is there) (apart_entered f);
}

-- a copy that has each block once, with each block as a chain by itself
pub copy_formed : (copied : CopiedProgram) (p : Program) (funcs : List TacFunc) (labels : List Origins) (traces : List (List Labels)) → copied.tac ≡ p → funcs ≡ p.funcs → labels ≡ own_labels funcs → traces ≡ map apart labels → AreFormed copied.tac.funcs traces
copy_formed copied p funcs labels traces copy read own chains =
    let same : p.funcs ≡ copied.tac.funcs = ap (λ (q : Program). q.funcs) (sym copy) in
    subst (AreFormed copied.tac.funcs) (sym (chains ∙ ap (map apart) (own ∙ ap own_labels (read ∙ same)))) (apart_formed copied.tac.funcs)
