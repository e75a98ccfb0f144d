-- A function is entered: its registers are its variables, and its body runs.
use Rattle.std.proofs.Common.{◌≡◌, ◌≢◌, ℕ, zero, suc, ◌<◌, ◌≤◌, ℤ, pos, List, [], ◌∷◌, ◌++◌, length, map, Bool, true, false, refl, sym, ap, ◌∙◌, subst, arith, Some, get_or-set_same, get_or-set_other, nat_eq}
use Rattle.std.specs.Prelude.{slice_get, slice_index_or, slice_set, replicate}
use Rattle.std.proofs.Math.ListN.{length-set}
use Rattle.std.proofs.lemmas.Bool.{eq-eqb, eqb-true}
use Rattle.ib_meaning.specs.declared.place.Place.{Place}
use Rattle.c_meaning.specs.Meaning.{slots_passed, set_in_slots}
use Rattle.c_typed.specs.declared.types.ValueType.{ValueType}
use Rattle.c_typed.specs.declared.types.ValueType.TheVariants as vt
use Rattle.c_typed.specs.declared.program.Home.{Home}
use Rattle.c_typed.specs.declared.program.Home.TheVariants as h
use Rattle.c_typed.specs.declared.program.Param.{Param}
use Rattle.c_typed.specs.Values.{width_of}
use Rattle.tac_core.specs.Meaning.{reg_of, set_all}
use Rattle.tac_lowered.specs.Lowered.{behind_home, behind_params, home_in, params_in}
use Rattle.c_kept.specs.Kept.{HasHome, HaveHomes}
use Rattle.tac_lowered.proofs.Relation.{Lies, Suit}
use Rattle.tac_lowered.proofs.Statements.{zero_lies}

ff : false ≡ true → ⊥
ff h = cc

-- ---- registers and slots

-- registers behind those of parameters
pub home_behind : (q : Home) (r : ℕ) → r ≤ behind_home q r
home_behind (h.Slot k) r = omega arith
home_behind (h.Frame offset) r = omega arith

pub params_behind : (qs : List Param) (r : ℕ) → r ≤ behind_params qs r
params_behind [] r = omega arith
params_behind (q ∷ qs) r = let e1 = home_behind q.home r in let e2 = params_behind qs (behind_home q.home r) in omega (arith, e1, e2)

module _ (kinds : List ValueType) where
  abbrev kind_at : ℕ → ValueType
  kind_at k = slice_index_or kinds k vt.Null

  -- the first registers are the slots
  pub record Agreeing (regs slots : List ℤ) : Type 0 where
    pub long : length slots ≡ length kinds
    pub wide : length kinds ≤ length regs
    pub same : (k : ℕ) → k < length kinds → reg_of regs k ≡ slice_index_or slots k (pos 0)
    pub lies : (k : ℕ) → k < length kinds → Lies (width_of (kind_at k)) (slice_index_or slots k (pos 0))

  slot_set : (j : ℕ) (v : ℤ) (regs slots : List ℤ) → j < length kinds → Lies (width_of (kind_at j)) v → Agreeing regs slots → Agreeing (slice_set regs j v) (slice_set slots j v)
  slot_set j v regs slots lt fit a = record {
    long = length-set slots j v ∙ a.long;
    wide = let e1 = length-set regs j v in let e2 = a.wide in omega (arith, e1, e2);
    same = λ k lk. go k lk (nat_eq k j) refl;
    lies = λ k lk. fit_in k lk (nat_eq k j) refl;
  }
    where
      in_slots : j < length slots
      in_slots = let e1 = a.long in omega (arith, e1)

      in_room : j < length regs
      in_room = let e1 = a.wide in omega (arith, e1)

      go : (k : ℕ) → k < length kinds → (b : Bool) → nat_eq k j ≡ b → reg_of (slice_set regs j v) k ≡ slice_index_or (slice_set slots j v) k (pos 0)
      go k lk true e =
          subst (λ z. reg_of (slice_set regs j v) z ≡ slice_index_or (slice_set slots j v) z (pos 0)) (sym (eqb-true k j e)) (get_or-set_same regs j v (pos 0) in_room ∙ sym (get_or-set_same slots j v (pos 0) in_slots))
      go k lk false e =
          let ne : k ≢ j = λ h. ff (sym e ∙ eq-eqb k j h) in
          get_or-set_other regs j k v (pos 0) ne ∙ a.same k lk ∙ sym (get_or-set_other slots j k v (pos 0) ne)

      fit_in : (k : ℕ) → k < length kinds → (b : Bool) → nat_eq k j ≡ b → Lies (width_of (kind_at k)) (slice_index_or (slice_set slots j v) k (pos 0))
      fit_in k lk true e = subst (λ z. Lies (width_of (kind_at z)) (slice_index_or (slice_set slots j v) z (pos 0))) (sym (eqb-true k j e)) (subst (λ z. Lies (width_of (kind_at j)) z) (sym (get_or-set_same slots j v (pos 0) in_slots)) fit)
      fit_in k lk false e =
          let ne : k ≢ j = λ h. ff (sym e ∙ eq-eqb k j h) in
          subst (λ z. Lies (width_of (kind_at k)) z) (sym (get_or-set_other slots j k v (pos 0) ne)) (a.lies k lk)

  other_set : (r : ℕ) (v : ℤ) (regs slots : List ℤ) → length kinds ≤ r → Agreeing regs slots → Agreeing (slice_set regs r v) slots
  other_set r v regs slots le a = record {
    long = a.long;
    wide = let e1 = length-set regs r v in let e2 = a.wide in omega (arith, e1, e2);
    same = λ k lk. let ne : k ≢ r = omega arith in get_or-set_other regs r k v (pos 0) ne ∙ a.same k lk;
    lies = a.lies;
  }

  pub there_is : (xs : List ValueType) (k : ℕ) (ty : ValueType) → slice_get xs k ≡ Some ty → (k < length xs) × (slice_index_or xs k vt.Null ≡ ty)
  there_is [] k ty e = let z : ⊥ = cc in absurd z
  there_is (x ∷ xs) zero ty e = (omega arith, let h : x ≡ ty = cc in h)
  there_is (x ∷ xs) (suc k) ty e = let h = there_is xs k ty e in (omega (arith, h.0), h.1)

  home_set : (frame : ℕ) (ty : ValueType) (q : Home) (r : ℕ) (v : ℤ) (regs slots : List ℤ) → length kinds ≤ r → HasHome kinds frame ty q → Lies (width_of ty) v → Agreeing regs slots → Agreeing (slice_set regs (home_in q r) v) (set_in_slots q v slots)
  home_set frame ty (h.Slot k) r v regs slots le home fit a = let t = there_is kinds k ty home in slot_set k v regs slots t.0 (subst (λ z. Lies (width_of z) v) (sym t.1) fit) a
  home_set frame ty (h.Frame offset) r v regs slots le home fit a = other_set r v regs slots le a

  -- parameters come in the registers of their homes
  pub passed_agree : (frame : ℕ) (qs : List Param) (vs : List ℤ) (r : ℕ) (regs slots : List ℤ) → length kinds ≤ r → HaveHomes kinds frame qs → Suit qs vs → Agreeing regs slots → Agreeing (set_all regs (params_in qs r) vs) (slots_passed qs vs slots)
  passed_agree frame [] [] r regs slots le homes suit a = a
  passed_agree frame [] (v ∷ vs) r regs slots le homes suit a = absurd suit
  passed_agree frame (q ∷ qs) [] r regs slots le homes suit a = absurd suit
  passed_agree frame (q ∷ qs) (v ∷ vs) r regs slots le homes suit a =
      let le1 : length kinds ≤ behind_home q.home r = let e1 = home_behind q.home r in omega (arith, e1) in
      passed_agree frame qs vs (behind_home q.home r) (slice_set regs (home_in q.home r) v) (set_in_slots q.home v slots) le1 homes.2 suit.1 (home_set frame q.ty q.home r v regs slots le homes.0 suit.0 a)

pub set_all_long : (regs : List ℤ) (ps : List ℕ) (vs : List ℤ) → length (set_all regs ps vs) ≡ length regs
set_all_long regs [] vs = refl
set_all_long regs (p ∷ ps) [] = refl
set_all_long regs (p ∷ ps) (v ∷ vs) = set_all_long (slice_set regs p v) ps vs ∙ length-set regs p v

-- registers and slots are 0 before parameters are passed
zeros_read : (n k : ℕ) → slice_index_or (replicate n (pos 0)) k (pos 0) ≡ pos 0
zeros_read zero k = refl
zeros_read (suc n) zero = refl
zeros_read (suc n) (suc k) = zeros_read n k

pub zeros_long : (n : ℕ) → length (replicate n (pos 0)) ≡ n
zeros_long zero = refl
zeros_long (suc n) = ap suc (zeros_long n)

pub first_agree : (kinds : List ValueType) (regs slots : ℕ) → slots ≡ length kinds → slots ≤ regs → Agreeing kinds (replicate regs (pos 0)) (replicate slots (pos 0))
first_agree kinds regs slots e le = record {
  long = zeros_long slots ∙ e;
  wide = let e1 = zeros_long regs in omega (arith, e1, e);
  same = λ k lk. zeros_read regs k ∙ sym (zeros_read slots k);
  lies = λ k lk. subst (λ z. Lies (width_of (slice_index_or kinds k vt.Null)) z) (sym (zeros_read slots k)) (zero_lies (width_of (slice_index_or kinds k vt.Null)));
}

-- ---- functions of a lowered program

pub map_get : {A B : Type 0} (f : A → B) (xs : List A) (k : ℕ) (x : A) → slice_get xs k ≡ Some x → slice_get (map f xs) k ≡ Some (f x)
map_get f [] k x e = let z : ⊥ = cc in absurd z
map_get f (y ∷ ys) zero x e = let h : y ≡ x = cc in ap (λ z. Some (f z)) h
map_get f (y ∷ ys) (suc k) x e = map_get f ys k x e

-- the place that is appended is the one of a number that has none
pub place_kept : (places : List Place) (s : ℕ) (d : Place) → slice_index_or places s d ≡ slice_index_or (places ++ d ∷ []) s d
place_kept [] zero d = refl
place_kept [] (suc s) d = refl
place_kept (x ∷ xs) zero d = refl
place_kept (x ∷ xs) (suc s) d = place_kept xs s d
