-- The sets of one block, step by step.
use Rattle.std.proofs.Common.{◌≡◌, ◌≢◌, ◌↔◌, ◌⊎◌, ⊎_elim, inl, inr, ℕ, zero, suc, ◌+◌, ◌<◌, ◌≤◌, List, [], ◌∷◌, ◌++◌, Some, length, get_or, take, drop, refl, sym, ap, ap₂, subst, ◌∙◌, arith}
use Rattle.std.proofs.lemmas.List.{get_or_past, drop_all, drop_more}
use Rattle.std.proofs.lemmas.List.Elements.{All-head, All-tail, All-cons, All-nil}
use Rattle.std.proofs.Math.Seq.{take-append_seam}
use Rattle.ib_act.specs.Acts.{target}
use Rattle.ib_bits.specs.Bits.{Has, IsEmpty}
use Rattle.ib_bits.proofs.Words.{has_past}
use Rattle.tac_core.specs.declared.code.TacOp.{TacOp}
use Rattle.tac_core.specs.declared.code.Block.{Block}
use Rattle.tac_core.specs.Live.{Reads, UsedIn, AtFirst, Later}
use Rattle.tac_live.specs.Before.{BeforeOps, LiveBefore, LiveBehind, At, row}

-- no set stands past the end
pub no_row : (rows : List (List ℕ)) (l : ℕ) → length rows ≤ l → (r : ℕ) → At rows l r → ⊥
no_row rows l past r h = has_past [] r (omega arith) (subst (λ words. Has words r) (get_or_past rows l [] past) h)

pub none_joined : (rows : List (List ℕ)) (l : ℕ) → length rows ≤ l → (live : List ℕ) (r : ℕ) → Has live r ↔ (Has live r ⊎ At rows l r)
none_joined rows l past live r = (λ h. inl h, λ o. ⊎_elim (λ h. h) (λ h. absurd (no_row rows l past r h)) o)

-- ---- the operations of a block, from the last on

ops_to : (op : TacOp) (ops : List TacOp) (behind : ℕ → Type 0) (r : ℕ) → BeforeOps (op ∷ ops) behind r → Reads op.act r ⊎ ((target op.act ≢ Some r) × BeforeOps ops behind r)
ops_to op ops behind r (inl (AtFirst _ _ reads)) = inl reads
ops_to op ops behind r (inl (Later _ _ not used)) = inr (not, inl used)
ops_to op ops behind r (inr (passes, h)) =
    inr (All-head (λ op. target op.act ≢ Some r) op ops passes, inr (All-tail (λ op. target op.act ≢ Some r) op ops passes, h))

ops_from : (op : TacOp) (ops : List TacOp) (behind : ℕ → Type 0) (r : ℕ) → Reads op.act r ⊎ ((target op.act ≢ Some r) × BeforeOps ops behind r) → BeforeOps (op ∷ ops) behind r
ops_from op ops behind r (inl reads) = inl (AtFirst op ops reads)
ops_from op ops behind r (inr (not, inl used)) = inl (Later op ops not used)
ops_from op ops behind r (inr (not, inr (passes, h))) = inr (All-cons (λ op. target op.act ≢ Some r) op ops not passes, h)

unused : (r : ℕ) → UsedIn r [] → ⊥
unused r u = elim u [ ]

pub ops_none : (ops : List TacOp) (live : List ℕ) (r : ℕ) → Has live r ↔ BeforeOps (drop (length ops) ops) (Has live) r
ops_none ops live r = subst (λ xs. Has live r ↔ BeforeOps xs (Has live) r) (sym (drop_all (length ops) ops (omega arith))) (λ h. inr (All-nil (λ op. target op.act ≢ Some r), h), back)
  where
    back : BeforeOps [] (Has live) r → Has live r
    back (inl u) = absurd (unused r u)
    back (inr (passes, h)) = h

pub ops_more : (ops : List TacOp) (i j : ℕ) (op : TacOp) (old now new : List ℕ) → j ≡ i + 1 → i < length ops → op ≡ get_or ops i op → ((r : ℕ) → Has now r ↔ BeforeOps (drop j ops) (Has old) r) → ((r : ℕ) → Has new r ↔ (Reads op.act r ⊎ ((target op.act ≢ Some r) × Has now r))) → (r : ℕ) → Has new r ↔ BeforeOps (drop i ops) (Has old) r
ops_more ops i j op old now new next within is p q r =
    subst (λ xs. Has new r ↔ BeforeOps xs (Has old) r) (sym split)
    (λ h. ops_from op (drop j ops) (Has old) r (onward ((q r).0 h)), λ b. (q r).1 (backward (ops_to op (drop j ops) (Has old) r b)))
  where
    split : drop i ops ≡ op ∷ drop j ops
    split = drop_more ops i op within ∙ ap₂ (λ y n. y ∷ drop n ops) (sym is) (sym next)

    onward : Reads op.act r ⊎ ((target op.act ≢ Some r) × Has now r) → Reads op.act r ⊎ ((target op.act ≢ Some r) × BeforeOps (drop j ops) (Has old) r)
    onward (inl reads) = inl reads
    onward (inr (not, h)) = inr (not, (p r).0 h)

    backward : Reads op.act r ⊎ ((target op.act ≢ Some r) × BeforeOps (drop j ops) (Has old) r) → Reads op.act r ⊎ ((target op.act ≢ Some r) × Has now r)
    backward (inl reads) = inl reads
    backward (inr (not, b)) = inr (not, (p r).1 b)

-- ---- a block

pub before_map : (b : Block) (before after : ℕ → Type 0) (r : ℕ) → (before r → after r) → LiveBefore b before r → LiveBefore b after r
before_map b before after r f (inl used) = inl used
before_map b before after r f (inr (passes, inl reads)) = inr (passes, inl reads)
before_map b before after r f (inr (passes, inr (not, h))) = inr (passes, inr (not, f h))

-- from the empty set by the targets' sets
pub taken_anew : (b : Block) (rows : List (List ℕ)) (none joined new : List ℕ) → IsEmpty none → ((r : ℕ) → Has joined r ↔ (Has none r ⊎ LiveBehind b.«end» (At rows) r)) → ((r : ℕ) → Has new r ↔ LiveBefore b (Has joined) r) → (r : ℕ) → Has new r ↔ LiveBefore b (LiveBehind b.«end» (At rows)) r
taken_anew b rows none joined new empty p q r = (
  λ h. before_map b (Has joined) (LiveBehind b.«end» (At rows)) r (λ j. only ((p r).0 j)) ((q r).0 h),
  λ l. (q r).1 (before_map b (LiveBehind b.«end» (At rows)) (Has joined) r (λ t. (p r).1 (inr t)) l),
)
  where
    only : Has none r ⊎ LiveBehind b.«end» (At rows) r → LiveBehind b.«end» (At rows) r
    only (inl h) = absurd (empty r h)
    only (inr t) = t

-- a place within is read alike whatever stands for what is missing
pub read_row : (rows : List (List ℕ)) (i : ℕ) (x : List ℕ) → i < length rows → get_or rows i x ≡ row rows i
read_row [] i x lt = absurd (omega arith)
read_row (r ∷ rs) zero x lt = refl
read_row (r ∷ rs) (suc i) x lt = read_row rs i x (omega arith)

-- a list that was handed out whole comes back whole
pub whole : {A : Type 0} (n : ℕ) (new old : List A) → n ≡ length new → take n (new ++ drop (length new) old) ≡ new
whole n new old e = ap (λ k. take k (new ++ drop (length new) old)) e ∙ take-append_seam new (drop (length new) old)
