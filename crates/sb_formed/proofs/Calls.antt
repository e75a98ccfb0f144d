-- Registers in lists and by places, where calls begin and return.
use Rattle.std.proofs.Common.{◌≡◌, ℕ, zero, suc, ◌<◌, List, [], ◌∷◌, length, Option, Some, None, ℤ, pos, map, refl, ap₂, ◌∙◌, subst, sym}
use Rattle.std.specs.Prelude.{slice_index_or, slice_set, replicate}
use Rattle.std.specs.List.{All}
use Rattle.std.proofs.Math.ListN.{length-set}
use Rattle.std.proofs.lemmas.List.Elements.{All-head, All-tail}
use Rattle.wide_core.specs.declared.code.Loc.{Loc}
use Rattle.wide_core.specs.declared.code.Loc.TheVariants.{Reg}
use Rattle.wide_core.specs.Every.{Every, Nil, Cons}
use Rattle.wide_core.specs.Operation.{reg_of as loc_of}
use Rattle.wide_core.specs.Places.{put, put_if}
use Rattle.tac_core.specs.Meaning.{reg_of, set_in, set_all}
use Rattle.tac_core.specs.Rules.{IsRegister}
use Rattle.sb_core.specs.Meaning.{put_all}
use Rattle.sb_formed.proofs.Acts.{Same, same_put}

pub every_of : {X : Type 0} (P : X → Type 0) (xs : List X) → All P xs → Every P xs
every_of P [] all = Nil
every_of P (x ∷ xs) all = Cons x xs (All-head P x xs all) (every_of P xs (All-tail P x xs all))

pub same_numbers : (regs : List ℤ) (at : Loc → ℤ) → Same regs at → (args : List ℕ) → map at (map (λ r. Reg r) args) ≡ map (reg_of regs) args
same_numbers regs at h [] = refl
same_numbers regs at h (a ∷ args) = ap₂ (λ x xs. x ∷ xs) (h a) (same_numbers regs at h args)

pub same_result : (regs : List ℤ) (at : Loc → ℤ) (dest : Option ℕ) (v : ℤ) → IsRegister (length regs) dest → Same regs at → Same (set_in regs dest v) (put_if (loc_of dest) v at)
same_result regs at None v lt h = h
same_result regs at (Some d) v lt h = same_put regs at d v lt h

pub long_result : (regs : List ℤ) (dest : Option ℕ) (v : ℤ) → length (set_in regs dest v) ≡ length regs
long_result regs None v = refl
long_result regs (Some d) v = length-set regs d v

pub same_params : (n : ℕ) (params : List ℕ) (values regs : List ℤ) (at : Loc → ℤ) → Every (λ r. r < n) params → length regs ≡ n → Same regs at → Same (set_all regs params values) (put_all params values at)
same_params n [] values regs at each long h = h
same_params n (p ∷ ps) [] regs at each long h = h
same_params n (p ∷ ps) (v ∷ vs) regs at (Cons _ _ lt each) long h =
    same_params n ps vs (slice_set regs p v) (put (Reg p) v at) each (length-set regs p v ∙ long) (same_put regs at p v (subst (λ k. p < k) (sym long) lt) h)

pub long_params : (params : List ℕ) (values regs : List ℤ) → length (set_all regs params values) ≡ length regs
long_params [] values regs = refl
long_params (p ∷ ps) [] regs = refl
long_params (p ∷ ps) (v ∷ vs) regs = long_params ps vs (slice_set regs p v) ∙ length-set regs p v

pub zeros : (n r : ℕ) → slice_index_or (replicate n (pos 0)) r (pos 0) ≡ pos 0
zeros zero r = refl
zeros (suc n) zero = refl
zeros (suc n) (suc r) = zeros n r
