-- A table of chains by their first labels, filled from the last chain on.
use Rattle.std.proofs.Common.{◌≡◌, ◌≢◌, ℕ, zero, suc, ◌<◌, ◌≤◌, List, [], ◌∷◌, length, Option, Some, None, drop, refl, sym, ap, ◌∙◌, subst, ⊎_elim, arith, if◌then◌else◌, replicate}
use Rattle.std.specs.Prelude.{slice_get, slice_set, slice_index_or}
use Rattle.std.specs.Option.{unwrap_or}
use Rattle.std.proofs.Math.ListN.{length-set}
use Rattle.std.proofs.lemmas.Bool.Decides.{eqb_tells}
use Rattle.std.proofs.lemmas.List.{length-replicate}
use Rattle.std.proofs.lemmas.Option.{get_or_from_slice_get}
use Rattle.tac_core.specs.Traces.{Labels}
use Rattle.sb_formed.specs.Formed.{chain_at}
use Rattle.sb_form.specs.Heads.{AreHeads, IsLabel, chain_by, marked, told}

pub index_or : {X : Type 0} (xs : List X) (i : ℕ) (d : X) → unwrap_or (slice_get xs i) d ≡ slice_index_or xs i d
index_or [] i d = refl
index_or (x ∷ xs) zero d = refl
index_or (x ∷ xs) (suc i) d = index_or xs i d

get_set : {X : Type 0} (xs : List X) (i : ℕ) (x : X) → i < length xs → slice_get (slice_set xs i x) i ≡ Some x
get_set [] i x lt = absurd (omega arith)
get_set (y ∷ xs) zero x lt = refl
get_set (y ∷ xs) (suc i) x lt = get_set xs i x (omega arith)

get_other : {X : Type 0} (xs : List X) (i j : ℕ) (x : X) → j ≢ i → slice_get (slice_set xs i x) j ≡ slice_get xs j
get_other [] i j x ne = refl
get_other (y ∷ xs) zero zero x ne = absurd (ne refl)
get_other (y ∷ xs) zero (suc j) x ne = refl
get_other (y ∷ xs) (suc i) zero x ne = refl
get_other (y ∷ xs) (suc i) (suc j) x ne = get_other xs i j x (λ e. ne (ap suc e))

drop_from : (chains : List Labels) (c : ℕ) (chain : Labels) → slice_get chains c ≡ Some chain → drop c chains ≡ chain ∷ drop (suc c) chains
drop_from [] c chain e = cc
drop_from (x ∷ chains) zero chain e = let same : x ≡ chain = cc in ap (λ y. y ∷ chains) same
drop_from (x ∷ chains) (suc c) chain e = drop_from chains c chain e

nothing_told : (n l : ℕ) → told (slice_get (replicate n None) l) ≡ None
nothing_told zero l = refl
nothing_told (suc n) zero = refl
nothing_told (suc n) (suc l) = nothing_told n l

drop_past : (chains : List Labels) (n : ℕ) → length chains ≤ n → drop n chains ≡ []
drop_past [] zero le = refl
drop_past [] (suc n) le = refl
drop_past (x ∷ chains) zero le = absurd (omega arith)
drop_past (x ∷ chains) (suc n) le = drop_past chains n (omega arith)

pub no_heads : (blocks n : ℕ) (chains : List Labels) (heads : List (Option ℕ)) → heads ≡ replicate blocks None → length chains ≤ n → AreHeads blocks chains n heads
no_heads blocks n chains heads e le = record {
  many = ap length e ∙ length-replicate blocks None;
  tell = λ l.
      ap (λ t. chain_by chains (told (slice_get t l))) e ∙ ap (chain_by chains) (nothing_told blocks l)
      ∙ sym (ap (λ cs. chain_at cs l) (drop_past chains n le));
}

marks : (blocks : ℕ) (chains : List Labels) (c : ℕ) (heads : List (Option ℕ)) (chain : Labels) → slice_get chains c ≡ Some chain → IsLabel blocks chain → AreHeads blocks chains (suc c) heads → (l : ℕ) → chain_by chains (told (slice_get (marked heads chain c) l)) ≡ chain_at (chain ∷ drop (suc c) chains) l
marks blocks chains c heads [] is lt h l = h.tell l
marks blocks chains c heads (m ∷ ms) is lt h l =
    ⊎_elim
    (λ t.
    let within : m < length heads = subst (λ k. m < k) (sym h.many) lt in
    ap (λ k. chain_by chains (told (slice_get (slice_set heads m (Some c)) k))) (sym t.1)
    ∙ ap (λ o. chain_by chains (told o)) (get_set heads m (Some c) within)
    ∙ get_or_from_slice_get chains c (m ∷ ms) [] is
    ∙ sym (ap (λ q. if q then m ∷ ms else chain_at (drop (suc c) chains) l) t.0))
    (λ o.
    ap (λ x. chain_by chains (told x)) (get_other heads m l (Some c) (λ e. o.1 (sym e))) ∙ h.tell l
    ∙ sym (ap (λ q. if q then m ∷ ms else chain_at (drop (suc c) chains) l) o.0))
    (eqb_tells m l)

long_marked : (heads : List (Option ℕ)) (chain : Labels) (c : ℕ) → length (marked heads chain c) ≡ length heads
long_marked heads [] c = refl
long_marked heads (m ∷ ms) c = length-set heads m (Some c)

pub heads_more : (blocks : ℕ) (chains : List Labels) (c n : ℕ) (heads after : List (Option ℕ)) (chain : Labels) → n ≡ suc c → slice_get chains c ≡ Some chain → IsLabel blocks chain → AreHeads blocks chains n heads → after ≡ marked heads chain c → AreHeads blocks chains c after
heads_more blocks chains c n heads after chain same is lt h e =
    let g : AreHeads blocks chains (suc c) heads = subst (λ k. AreHeads blocks chains k heads) same h in record {
      many = ap length e ∙ long_marked heads chain c ∙ h.many;
      tell = λ l.
          ap (λ t. chain_by chains (told (slice_get t l))) e ∙ marks blocks chains c heads chain is lt g l
          ∙ sym (ap (λ cs. chain_at cs l) (drop_from chains c chain is));
    }
