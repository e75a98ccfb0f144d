-- Two items that are free of each other may change places.
use Rattle.std.proofs.Common.{◌≡◌, ℕ, Bool, true, List, ◌∷◌, ℤ, refl, sym, ap, ◌∙◌, subst}
use Rattle.ib_meaning.specs.declared.fault.FaultKind.{FaultKind}
use Rattle.wide_core.specs.declared.code.Loc.TheVariants.{Reg}
use Rattle.wide_core.specs.declared.code.Tagged.{Tagged}
use Rattle.wide_core.specs.declared.code.WideOp.{WideOp}
use Rattle.wide_core.specs.Operation.{Exit, Effect, Nothing, Write, Save, Take, Print, Go, Leave, Stop}
use Rattle.wide_core.specs.Word.{Flow, Outcome, Through, Gone, Left, Stopped, apply}
use Rattle.wide_core.specs.Flat.{at_exit, one_effect, goes_on, flat}

-- ---- the same outcome, but for registers that are not live where control goes

pub record SameWorld (s t : Flow) : Type 0 where
  pub memory : s.memory ≡ t.memory
  pub left : s.left ≡ t.left
  pub out : s.out ≡ t.out

pub data Like (heads : ℕ → ℕ → Bool) : Outcome → Outcome → Type 0 where
  LikeThrough : (s : Flow) → Like heads (Through s) (Through s)
  LikeGone : (x : Exit) (s t : Flow) → SameWorld s t → ((r : ℕ) → at_exit heads x r ≡ true → s.places (Reg r) ≡ t.places (Reg r)) → Like heads (Gone x s) (Gone x t)
  LikeLeft : (z : ℤ) (s t : Flow) → SameWorld s t → Like heads (Left z s) (Left z t)
  LikeStopped : (n : ℕ) (k : FaultKind) (s t : Flow) → SameWorld s t → Like heads (Stopped n k s) (Stopped n k t)

pub world_refl : (s : Flow) → SameWorld s s
world_refl s = record { memory = refl; left = refl; out = refl }

world_sym : (s t : Flow) → SameWorld s t → SameWorld t s
world_sym s t e = record { memory = sym e.memory; left = sym e.left; out = sym e.out }

world_trans : (s t u : Flow) → SameWorld s t → SameWorld t u → SameWorld s u
world_trans s t u e f = record { memory = e.memory ∙ f.memory; left = e.left ∙ f.left; out = e.out ∙ f.out }

module _ (heads : ℕ → ℕ → Bool) (base : ℕ) (room : ℕ → Bool) where
  pub like_refl : (x : Outcome) → Like heads x x
  like_refl (Through s) = LikeThrough s
  like_refl (Gone k s) = LikeGone k s s (world_refl s) (λ r e. refl)
  like_refl (Left z s) = LikeLeft z s s (world_refl s)
  like_refl (Stopped n k s) = LikeStopped n k s s (world_refl s)

  pub like_sym : {x y : Outcome} → Like heads x y → Like heads y x
  like_sym (LikeThrough s) = LikeThrough s
  like_sym (LikeGone k s t e l) = LikeGone k t s (world_sym s t e) (λ r h. sym (l r h))
  like_sym (LikeLeft z s t e) = LikeLeft z t s (world_sym s t e)
  like_sym (LikeStopped n k s t e) = LikeStopped n k t s (world_sym s t e)

  pub like_trans : {x y z : Outcome} → Like heads x y → Like heads y z → Like heads x z
  like_trans (LikeThrough s) (LikeThrough t) = LikeThrough s
  like_trans (LikeGone k s t e l) (LikeGone m t' u f j) = LikeGone k s u (world_trans s t u e f) (λ r h. l r h ∙ j r h)
  like_trans (LikeLeft z s t e) (LikeLeft w t' u f) = LikeLeft z s u (world_trans s t u e f)
  like_trans (LikeStopped n k s t e) (LikeStopped m l t' u f) = LikeStopped n k s u (world_trans s t u e f)

  abbrev pub E : WideOp → Flow → Effect
  E = one_effect base room

  -- an effect, and then the one or the other
  pub goes_on_like : (e : Effect) (f g : Flow → Outcome) (s : Flow) → Like heads (f (apply e s)) (g (apply e s)) → Like heads (goes_on base room e f s) (goes_on base room e g s)
  goes_on_like Nothing f g s h = h
  goes_on_like (Write r v) f g s h = h
  goes_on_like (Save w a z) f g s h = h
  goes_on_like (Take r) f g s h = h
  goes_on_like (Print z) f g s h = h
  goes_on_like (Go k) f g s h = like_refl (Gone k s)
  goes_on_like (Leave z) f g s h = like_refl (Left z s)
  goes_on_like (Stop n k) f g s h = like_refl (Stopped n k s)

  abbrev Swaps : WideOp → WideOp → List WideOp → Flow → Type 0
  Swaps a i rest s = Like heads (flat base room (a ∷ i ∷ rest) s) (flat base room (i ∷ a ∷ rest) s)

  -- a writes a register; neither effect feels the other, they may be applied in either order, and an exit spares the register
  pub record Apart (a i : WideOp) (s : Flow) : Type 0 where
    pub d : ℕ
    pub v : Tagged
    pub is : E a s ≡ Write (Reg d) v
    pub first : E i (apply (Write (Reg d) v) s) ≡ E i s
    pub second : E a (apply (E i s) s) ≡ E a s
    pub order : apply (E i s) (apply (Write (Reg d) v) s) ≡ apply (Write (Reg d) v) (apply (E i s) s)
    pub spared : (x : Exit) → E i s ≡ Go x → (r : ℕ) → at_exit heads x r ≡ true → (apply (Write (Reg d) v) s).places (Reg r) ≡ s.places (Reg r)

  like_along : (x y : Outcome) → x ≡ y → Like heads x y
  like_along x y e = subst (λ z. Like heads x z) e (like_refl x)

  quiet : (a i : WideOp) (rest : List WideOp) (s : Flow) (p : Apart a i s) (e : Effect) → E i s ≡ e → Like heads (flat base room rest (apply e (apply (Write (Reg p.d) p.v) s))) (flat base room (a ∷ rest) (apply e s))
  quiet a i rest s p e h =
      let ea : E a (apply e s) ≡ Write (Reg p.d) p.v = subst (λ z. E a (apply z s) ≡ E a s) h p.second ∙ p.is in
      let sw : apply e (apply (Write (Reg p.d) p.v) s) ≡ apply (Write (Reg p.d) p.v) (apply e s) = subst (λ z. apply z (apply (Write (Reg p.d) p.v) s) ≡ apply (Write (Reg p.d) p.v) (apply z s)) h p.order in
      like_along _ _ (ap (flat base room rest) sw ∙ sym (ap (λ x. goes_on base room x (flat base room rest) (apply e s)) ea))

  mid : (a i : WideOp) (rest : List WideOp) (s : Flow) (p : Apart a i s) (e : Effect) → E i s ≡ e → Like heads (goes_on base room e (flat base room rest) (apply (Write (Reg p.d) p.v) s)) (goes_on base room e (flat base room (a ∷ rest)) s)
  mid a i rest s p (Go x) h = LikeGone x (apply (Write (Reg p.d) p.v) s) s (record { memory = refl; left = refl; out = refl }) (p.spared x h)
  mid a i rest s p (Leave z) h = LikeLeft z (apply (Write (Reg p.d) p.v) s) s (record { memory = refl; left = refl; out = refl })
  mid a i rest s p (Stop n k) h = LikeStopped n k (apply (Write (Reg p.d) p.v) s) s (record { memory = refl; left = refl; out = refl })
  mid a i rest s p Nothing h = quiet a i rest s p Nothing h
  mid a i rest s p (Write q w) h = quiet a i rest s p (Write q w) h
  mid a i rest s p (Save w x z) h = quiet a i rest s p (Save w x z) h
  mid a i rest s p (Take q) h = quiet a i rest s p (Take q) h
  mid a i rest s p (Print z) h = quiet a i rest s p (Print z) h

  pub swap_apart : (a i : WideOp) (rest : List WideOp) (s : Flow) → Apart a i s → Swaps a i rest s
  swap_apart a i rest s p =
      let left_is : flat base room (a ∷ i ∷ rest) s ≡ goes_on base room (E i s) (flat base room rest) (apply (Write (Reg p.d) p.v) s) =
      ap (λ e. goes_on base room e (flat base room (i ∷ rest)) s) p.is ∙ ap (λ e. goes_on base room e (flat base room rest) (apply (Write (Reg p.d) p.v) s)) p.first in
      subst (λ x. Like heads x (flat base room (i ∷ a ∷ rest) s)) (sym left_is) (mid a i rest s p (E i s) refl)
