-- Where three-address registers live: each in a place of its own, which holds its number.
use Rattle.std.proofs.Common.{◌≡◌, ℕ, zero, suc, ◌-◌, ◌<◌, ◌==◌, nat_lt, Bool, true, false, List, [], ◌∷◌, length, replicate, map, slice_set, Option, Some, None, ℤ, pos, if◌then◌else◌, refl, sym, ap, ◌∙◌, subst, arith}
use Rattle.std.specs.List.{All}
use Rattle.std.proofs.lemmas.List.Elements.{All-head, All-tail}
use Rattle.std.proofs.lemmas.Bool.Decides.{nat_tests}
use Rattle.tac_core.specs.Meaning.{reg_of, set_in, set_all}
use Rattle.tac_core.specs.Rules.{IsRegister}
use Rattle.wide_core.specs.declared.code.Loc.{Loc}
use Rattle.wide_core.specs.declared.code.Loc.TheVariants.{Reg, Slot}
use Rattle.wide_core.specs.declared.code.Tagged.{Tagged}
use Rattle.wide_core.specs.declared.code.Tagged.TheVariants.{Clear}
use Rattle.wide_core.specs.Meaning.{put_all}
use Rattle.wide_core.specs.Operation.{reg_of as loc_of}
use Rattle.wide_core.specs.Places.{same_loc, put, put_if}
use Rattle.wide_core.specs.Renamed.{result_moved}
use Rattle.plain_code.specs.Plain.{place}

pub eq_same : (a b : ℕ) → (a == b) ≡ true → a ≡ b
eq_same a b h = grind (arith, nat_tests)

eq_refl : (a : ℕ) → (a == a) ≡ true
eq_refl a = grind (arith, nat_tests)

pub put_same : {A : Type 0} (l : Loc) (v : A) (f : Loc → A) → put l v f l ≡ v
put_same (Reg a) v f = rw (eq_refl a) refl
put_same (Slot a) v f = rw (eq_refl a) refl

pub put_other : {A : Type 0} (l m : Loc) (v : A) (f : Loc → A) → same_loc m l ≡ false → put l v f m ≡ f m
put_other l m v f e = rw e refl

-- ---- the registers of a call of the lowered program

pub set_long : (regs : List ℤ) (r : ℕ) (v : ℤ) → length (slice_set regs r v) ≡ length regs
set_long [] zero v = refl
set_long [] (suc r) v = refl
set_long (x ∷ xs) zero v = refl
set_long (x ∷ xs) (suc r) v = ap suc (set_long xs r v)

pub set_in_long : (regs : List ℤ) (o : Option ℕ) (v : ℤ) → length (set_in regs o v) ≡ length regs
set_in_long regs None v = refl
set_in_long regs (Some r) v = set_long regs r v

set_same : (r : ℕ) (v : ℤ) (regs : List ℤ) → r < length regs → reg_of (slice_set regs r v) r ≡ v
set_same r v [] lt = absurd (omega arith)
set_same zero v (x ∷ xs) lt = refl
set_same (suc r) v (x ∷ xs) lt = set_same r v xs (omega arith)

set_other : (q r : ℕ) (v : ℤ) (regs : List ℤ) → (q == r) ≡ false → reg_of (slice_set regs r v) q ≡ reg_of regs q
set_other q zero v [] e = refl
set_other q (suc r) v [] e = refl
set_other zero zero v (x ∷ xs) e = cc
set_other (suc q) zero v (x ∷ xs) e = refl
set_other zero (suc r) v (x ∷ xs) e = refl
set_other (suc q) (suc r) v (x ∷ xs) e = set_other q r v xs (grind (arith, nat_tests))

zeros_hold : (n r : ℕ) → reg_of (replicate n (pos 0)) r ≡ pos 0
zeros_hold zero r = refl
zeros_hold (suc n) zero = refl
zeros_hold (suc n) (suc r) = zeros_hold n r

pub zeros_long : (n : ℕ) → length (replicate n (pos 0)) ≡ n
zeros_long zero = refl
zeros_long (suc n) = ap suc (zeros_long n)

module _ (low : ℕ) where
  -- different registers live in different places
  pub place_differs : (q r : ℕ) → (q == r) ≡ false → same_loc (place low q) (place low r) ≡ false
  place_differs q r e = by_two (nat_lt q low) (nat_lt r low) refl refl
    where
      by_two : (a b : Bool) → nat_lt q low ≡ a → nat_lt r low ≡ b → same_loc (if a then Reg q else Slot (q - low)) (if b then Reg r else Slot (r - low)) ≡ false
      by_two true true f g = e
      by_two true false f g = refl
      by_two false true f g = refl
      by_two false false f g = grind (arith, nat_tests)

  -- each place holds its register's number
  pub record Held (regs : List ℤ) (f : Loc → Tagged) : Type 0 where
    pub at : (r : ℕ) → f (place low r) ≡ Clear (reg_of regs r)

  pub held_put : (regs : List ℤ) (f : Loc → Tagged) (r : ℕ) (v : ℤ) → r < length regs → Held regs f → Held (slice_set regs r v) (put (place low r) (Clear v) f)
  held_put regs f r v lt h = record { at = each }
    where
      one : (q : ℕ) (b : Bool) → (q == r) ≡ b → put (place low r) (Clear v) f (place low q) ≡ Clear (reg_of (slice_set regs r v) q)
      one q true e =
          let same = eq_same q r e in
          subst (λ z. put (place low r) (Clear v) f (place low z) ≡ Clear (reg_of (slice_set regs r v) z)) (sym same)
          (put_same (place low r) (Clear v) f ∙ ap (λ z. Clear z) (sym (set_same r v regs lt)))
      one q false e =
          put_other (place low r) (place low q) (Clear v) f (place_differs q r e) ∙ h.at q ∙ ap (λ z. Clear z) (sym (set_other q r v regs e))

      each : (q : ℕ) → put (place low r) (Clear v) f (place low q) ≡ Clear (reg_of (slice_set regs r v) q)
      each q = one q (q == r) refl

  -- what a call gives goes to the place of its register
  pub held_result : (regs : List ℤ) (f : Loc → Tagged) (o : Option ℕ) (v : ℤ) → IsRegister (length regs) o → Held regs f → Held (set_in regs o v) (put_if (result_moved (place low) (loc_of o)) (Clear v) f)
  held_result regs f None v good h = h
  held_result regs f (Some r) v good h = held_put regs f r v good h

  held_zeros : (n : ℕ) → Held (replicate n (pos 0)) (λ loc. Clear (pos 0))
  held_zeros n = record { at = λ r. ap (λ z. Clear z) (sym (zeros_hold n r)) }

  held_all : (params : List ℕ) (values : List ℤ) (regs : List ℤ) (f : Loc → Tagged) → All (λ r. r < length regs) params → Held regs f → Held (set_all regs params values) (put_all (map (place low) params) values f)
  held_all [] values regs f all h = h
  held_all (r ∷ rs) [] regs f all h = h
  held_all (r ∷ rs) (v ∷ vs) regs f all h =
      held_all rs vs (slice_set regs r v) (put (place low r) (Clear v) f)
      (subst (λ n. All (λ r. r < n) rs) (sym (set_long regs r v)) (All-tail (λ q. q < length regs) r rs all))
      (held_put regs f r v (All-head (λ q. q < length regs) r rs all) h)

  -- as a function begins
  pub held_params : (n : ℕ) (params : List ℕ) (values : List ℤ) → All (λ r. r < n) params → Held (set_all (replicate n (pos 0)) params values) (put_all (map (place low) params) values (λ loc. Clear (pos 0)))
  held_params n params values all =
      held_all params values (replicate n (pos 0)) (λ loc. Clear (pos 0)) (subst (λ m. All (λ r. r < m) params) (sym (zeros_long n)) all) (held_zeros n)

pub set_all_long : (params : List ℕ) (values regs : List ℤ) → length (set_all regs params values) ≡ length regs
set_all_long [] values regs = refl
set_all_long (r ∷ rs) [] regs = refl
set_all_long (r ∷ rs) (v ∷ vs) regs = set_all_long rs vs (slice_set regs r v) ∙ set_long regs r v
