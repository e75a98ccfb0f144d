-- Cycles of mutually best edges.
use Rattle.std.proofs.Common.{◌≡◌, ◌⊎◌, inl, inr, ℕ, refl, sym, subst, ⊎_elim, arith}
use Rattle.tac_core.specs.declared.code.TacFunc.{TacFunc}
use Rattle.tac_core.specs.declared.counts.FuncCounts.{FuncCounts}
use Rattle.trace_pick.specs.Best.{IsMutuallyBest, Reaches, AtOnce, Further, IsOnCycle, GoesBefore, Greater, Lesser}
use Rattle.trace_pick.proofs.Alone.{one_in, one_out}

pub reaches_through : (f : TacFunc) (c : FuncCounts) (a b d : ℕ) → Reaches f c a b → Reaches f c b d → Reaches f c a d
reaches_through f c a b _ h AtOnce = h
reaches_through f c a b _ h (Further d e g best) = Further d e (reaches_through f c a b d h g) best

pub reaches_next : (f : TacFunc) (c : FuncCounts) (a b d : ℕ) → IsMutuallyBest f c a b → Reaches f c b d → Reaches f c a d
reaches_next f c a b d best h = reaches_through f c a b d (Further a b AtOnce best) h

around : (f : TacFunc) (c : FuncCounts) (a b x : ℕ) → IsMutuallyBest f c a b → Reaches f c b x → x ≡ a → IsOnCycle f c a
around f c a b _ best AtOnce same = record { last = a; reaches = AtOnce; closes = subst (λ z. IsMutuallyBest f c a z) same best }
around f c a b _ best (Further d e h last) same =
    record { last = d; reaches = reaches_next f c a b d best h; closes = subst (λ z. IsMutuallyBest f c d z) same last }

-- the block before a block of a cycle is on it too
pub before_on_cycle : (f : TacFunc) (c : FuncCounts) (a b : ℕ) → IsMutuallyBest f c a b → IsOnCycle f c b → IsOnCycle f c a
before_on_cycle f c a b best on = around f c a b on.last best on.reaches (one_in f c on.last a b on.closes best)

pub reaches_cycle : (f : TacFunc) (c : FuncCounts) (a b : ℕ) → Reaches f c a b → IsOnCycle f c b → IsOnCycle f c a
reaches_cycle f c a _ AtOnce on = on
reaches_cycle f c a _ (Further d e h best) on = reaches_cycle f c a d h (before_on_cycle f c d e best on)

-- whatever a block reaches is itself, or is reached from the block on its best edge
first_step : (f : TacFunc) (c : FuncCounts) (a b d : ℕ) → IsMutuallyBest f c a b → Reaches f c a d → (d ≡ a) ⊎ Reaches f c b d
first_step f c a b _ best AtOnce = inl refl
first_step f c a b _ best (Further d e h last) =
    ⊎_elim
    (λ same. inr (subst (λ z. Reaches f c b z) (one_out f c a b e best (subst (λ z. IsMutuallyBest f c z e) same last)) AtOnce))
    (λ rest. inr (Further d e rest last))
    (first_step f c a b d best h)

-- on a cycle what is reached reaches back
pub reaches_again : (f : TacFunc) (c : FuncCounts) (a b : ℕ) → IsOnCycle f c a → Reaches f c a b → Reaches f c b a
reaches_again f c a _ on AtOnce = AtOnce
reaches_again f c a _ on (Further d e h best) =
    ⊎_elim
    (λ same.
    let here : IsMutuallyBest f c a e = subst (λ z. IsMutuallyBest f c z e) (sym same) best in
    ⊎_elim
    (λ alone. subst (λ z. Reaches f c z a) (one_out f c a a e (subst (λ z. IsMutuallyBest f c z a) alone on.closes) here) AtOnce)
    (λ rest. Further on.last a rest on.closes)
    (first_step f c a e on.last here on.reaches))
    (λ rest. rest)
    (first_step f c d e a best (reaches_again f c a d on h))

pub before_trans : (c : FuncCounts) (a b d : ℕ) → GoesBefore c a b → GoesBefore c b d → GoesBefore c a d
before_trans c a b d (Greater h) (Greater g) = Greater (omega arith)
before_trans c a b d (Greater h) (Lesser g l) = Greater (omega arith)
before_trans c a b d (Lesser h l) (Greater g) = Greater (omega arith)
before_trans c a b d (Lesser h l) (Lesser g m) = Lesser (omega arith) (omega arith)

pub not_both_before : (c : FuncCounts) (b d : ℕ) → GoesBefore c b d → GoesBefore c d b → ⊥
not_both_before c b d (Greater h) (Greater g) = absurd (omega arith)
not_both_before c b d (Greater h) (Lesser g l) = absurd (omega arith)
not_both_before c b d (Lesser h l) (Greater g) = absurd (omega arith)
not_both_before c b d (Lesser h l) (Lesser g m) = absurd (omega arith)
