-- A write to the lists is a write to the function that they stand for.
use Rattle.std.proofs.Common.{◌≡◌, ℕ, zero, suc, ◌+◌, ◌<◌, ◌≤◌, ℤ, true, ◌==◌, nat_lt, List, length, Some, get_or, set, drop, replicate, refl, sym, ap, ◌∙◌, arith, Bool, ◌++◌, [], ◌∷◌}
use Rattle.std.specs.Prelude.{if◌then◌else◌}
use Rattle.std.specs.List.{list_all}
use Rattle.std.proofs.lemmas.Bool.Decides.{nat_tests}
use Rattle.std.proofs.lemmas.Grind.{common_steps}
use Rattle.std.proofs.lemmas.List.{at_drop_more, at_drop_all}
use Rattle.wide_core.specs.declared.code.Tagged.{Tagged}
use Rattle.wide_core.specs.declared.code.Tagged.TheVariants.{Clear}
use Rattle.wide_core.specs.Meaning.{put_all}
use mathlib.Core.Path.{fun_ext}
use Rattle.wide_core.specs.declared.code.Loc.{Loc}
use Rattle.wide_core.specs.declared.code.Loc.TheVariants.{Reg, Slot}
use Rattle.wide_core.specs.declared.code.WideAct.{WideAct}
use Rattle.wide_core.specs.Operation.{sources, target}
use Rattle.wide_core.specs.Cycle.{touched, target_if}
use Rattle.wide_core.specs.Places.{put}
use Rattle.wide_core.specs.Valid.{is_within}
use Rattle.wide_core.proofs.Both.{both, both_first, both_second}
use Rattle.wide_sim.specs.declared.store.Store.{Store}
use Rattle.wide_sim.specs.Store.{held, with_held, holds}

get_or_set : {T : Type 0} (xs : List T) (i j : ℕ) (item d : T) → nat_lt i (length xs) ≡ true → get_or (set xs i item) j d ≡ (if j == i then item else get_or xs j d)
get_or_set xs i j item d h = grind (arith, common_steps, nat_tests)

held_at : {T : Type 0} (d : T) (store : Store T) (loc other : Loc) (item : T) → holds store loc ≡ true → held d (with_held store loc item) other ≡ put loc item (held d store) other
held_at d store (Reg r) (Reg q) item h = get_or_set store.regs r q item d h
held_at d store (Reg r) (Slot q) item h = refl
held_at d store (Slot r) (Reg q) item h = refl
held_at d store (Slot r) (Slot q) item h = get_or_set store.slots r q item d h

pub held_put : {T : Type 0} (d : T) (store : Store T) (loc : Loc) (item : T) → holds store loc ≡ true → held d (with_held store loc item) ≡ put loc item (held d store)
held_put d store loc item h = fun_ext (λ other. held_at d store loc other item h)

pub all_left : {T : Type 0} (test : T → Bool) (xs ys : List T) → list_all test (xs ++ ys) ≡ true → list_all test xs ≡ true
all_left test [] ys h = refl
all_left test (x ∷ xs) ys h = both (test x) _ (both_first (test x) _ h) (all_left test xs ys (both_second (test x) _ h))

pub all_join : {T : Type 0} (test : T → Bool) (xs ys : List T) → list_all test xs ≡ true → list_all test ys ≡ true → list_all test (xs ++ ys) ≡ true
all_join test [] ys g h = h
all_join test (x ∷ xs) ys g h = both (test x) _ (both_first (test x) _ g) (all_join test xs ys (both_second (test x) _ g) h)

pub all_right : {T : Type 0} (test : T → Bool) (xs ys : List T) → list_all test (xs ++ ys) ≡ true → list_all test ys ≡ true
all_right test [] ys h = h
all_right test (x ∷ xs) ys h = all_right test xs ys (both_second (test x) _ h)

-- what an operation that fits reads and writes is among the places
pub sources_within : (regs slots : ℕ) (act : WideAct) → list_all (is_within regs slots) (touched act) ≡ true → list_all (is_within regs slots) (sources act) ≡ true
sources_within regs slots act fits = all_right (is_within regs slots) (target_if (target act)) (sources act) fits

pub target_within : (regs slots : ℕ) (act : WideAct) (to : Loc) → Some to ≡ target act → list_all (is_within regs slots) (touched act) ≡ true → is_within regs slots to ≡ true
target_within regs slots act to is fits =
    let here : list_all (is_within regs slots) (target_if (Some to) ++ sources act) ≡ true = ap (λ t. list_all (is_within regs slots) (target_if t ++ sources act)) is ∙ fits in
    both_first (is_within regs slots to) _ here

pub all_at : {T : Type 0} (test : T → Bool) (xs : List T) (i : ℕ) (d : T) → i < length xs → list_all test xs ≡ true → test (get_or xs i d) ≡ true
all_at test [] i d lt h = absurd (omega arith)
all_at test (x ∷ xs) zero d lt h = both_first (test x) _ h
all_at test (x ∷ xs) (suc i) d lt h = all_at test xs i d (omega arith) (both_second (test x) _ h)

pub all_item : {T : Type 0} (test : T → Bool) (xs : List T) (i : ℕ) (x : T) → i < length xs → x ≡ get_or xs i x → list_all test xs ≡ true → test x ≡ true
all_item test xs i x lt is h = ap test is ∙ all_at test xs i x lt h

-- parameters that are left, one further
pub pass_step : (params : List Loc) (args : List ℕ) (numbers : List ℕ → List ℤ) (i : ℕ) (d : Loc) (e : ℕ) (x : ℤ) (places after : Loc → Tagged) → i < length params → i < length args
    → ((rest : List ℕ) → numbers (get_or args i e ∷ rest) ≡ x ∷ numbers rest) → after ≡ put (get_or params i d) (Clear x) places
    → put_all (drop (i + 1) params) (numbers (drop (i + 1) args)) after ≡ put_all (drop i params) (numbers (drop i args)) places
pass_step params args numbers i d e x places after lt lt_args first is =
    ap (λ f. put_all (drop (i + 1) params) (numbers (drop (i + 1) args)) f) is
    ∙ ap (λ ns. put_all (get_or params i d ∷ drop (i + 1) params) ns places) (sym (first (drop (i + 1) args)))
    ∙ ap (λ ps. put_all ps (numbers (get_or args i e ∷ drop (i + 1) args)) places) (sym (at_drop_more (λ rest. rest) params i d lt))
    ∙ ap (λ rs. put_all (drop i params) (numbers rs) places) (sym (at_drop_more (λ rest. rest) args i e lt_args))

pub pass_end : (params : List Loc) (values : List ℤ) (i : ℕ) (places : Loc → Tagged) → length params ≤ i → put_all (drop i params) values places ≡ places
pass_end params values i places le = at_drop_all (λ rest. put_all rest values places) params i le

all_same : {T : Type 0} (x : T) (n i : ℕ) → get_or (replicate n x) i x ≡ x
all_same x zero i = refl
all_same x (suc n) zero = refl
all_same x (suc n) (suc i) = all_same x n i

filled_at : {T : Type 0} (x : T) (regs slots : ℕ) (store : Store T) → store.regs ≡ replicate regs x → store.slots ≡ replicate slots x → (loc : Loc) → held x store loc ≡ x
filled_at x regs slots store r s (Reg i) = ap (λ xs. get_or xs i x) r ∙ all_same x regs i
filled_at x regs slots store r s (Slot i) = ap (λ xs. get_or xs i x) s ∙ all_same x slots i

pub filled_held : {T : Type 0} (x : T) (regs slots : ℕ) (store : Store T) → store.regs ≡ replicate regs x → store.slots ≡ replicate slots x → held x store ≡ (λ loc. x)
filled_held x regs slots store r s = fun_ext (filled_at x regs slots store r s)

pub put_none : (params : List Loc) (places : Loc → Tagged) → put_all params [] places ≡ places
put_none [] places = refl
put_none (param ∷ params) places = refl
