-- The numbers below a number, and elements by their place.
use Rattle.std.proofs.Common.{◌≡◌, ◌<◌, ◌≤◌, ◌+◌, ℕ, zero, suc, List, [], ◌∷◌, ◌++◌, Some, length, subst, refl, sym, ap, ◌∙◌, ⊎_elim, arith, length-append, add-one, true, false, get_or}
use Rattle.std.proofs.lemmas.Bool.{cases_lt}
use Rattle.std.proofs.lemmas.Option.{slice_get_within, get_or_from_slice_get}
use Rattle.tac_core.specs.Cover.{upto}
use Rattle.tac_core.specs.declared.code.TacFunc.{TacFunc}
use Rattle.tac_core.specs.Program.{main_name, main_in}
use Rattle.tac_core.specs.Rules.{IsMain}
use Rattle.std.specs.Prelude.{map, slice_get, bytes_eq}
use Rattle.std.specs.List.{All, Any}
use Rattle.std.proofs.lemmas.List.{get_or_default}

pub slice_get_front : {X : Type 0} (xs ys : List X) (i : ℕ) → i < length xs → slice_get (xs ++ ys) i ≡ slice_get xs i
slice_get_front [] ys i lt = absurd (omega arith)
slice_get_front (x ∷ xs) ys zero lt = refl
slice_get_front (x ∷ xs) ys (suc i) lt = slice_get_front xs ys i (omega arith)

pub slice_get_seam : {X : Type 0} (xs : List X) (y : X) (ys : List X) → slice_get (xs ++ y ∷ ys) (length xs) ≡ Some y
slice_get_seam [] y ys = refl
slice_get_seam (x ∷ xs) y ys = slice_get_seam xs y ys

-- what holds of each element holds of the one at i
pub All-get : {X : Type 0} (P : X → Type 0) (xs : List X) (i : ℕ) (x : X) → All P xs → slice_get xs i ≡ Some x → P x
All-get P xs i x all e = subst P (get_or_from_slice_get xs i x x e) (all i x (slice_get_within xs i x e))

pub length-upto : (n : ℕ) → length (upto n) ≡ n
length-upto zero = refl
length-upto (suc n) = length-append (upto n) (n ∷ []) ∙ ap (λ k. k + 1) (length-upto n) ∙ add-one n

pub upto_get : (n l : ℕ) → l < n → slice_get (upto n) l ≡ Some l
upto_get zero l lt = absurd (omega arith)
upto_get (suc n) l lt =
    let e = length-upto n in
    ⊎_elim
    (λ below. slice_get_front (upto n) (n ∷ []) l (omega arith) ∙ upto_get n l below)
    (λ le.
    let same : l ≡ n = omega arith in
    ap (λ k. slice_get (upto n ++ n ∷ []) k) (same ∙ sym e) ∙ slice_get_seam (upto n) n [] ∙ ap Some (sym same))
    (cases_lt l n)

abbrev pub IsNamedMain : TacFunc → Type 0
IsNamedMain f = bytes_eq main_name f.name ≡ true

-- none of the first functions is named `main`
abbrev pub NoneNamed : List TacFunc → ℕ → Type 0
NoneNamed funcs n = (k : ℕ) (d : TacFunc) → k < n → k < length funcs → bytes_eq main_name (get_or funcs k d).name ≡ false

pub main_found : (funcs : List TacFunc) (i : ℕ) (d : TacFunc) → i < length funcs → IsNamedMain (get_or funcs i d) → NoneNamed funcs i → i ≡ main_in (map (λ f. f.name) funcs)
main_found [] i d lt is none = absurd (omega arith)
main_found (f ∷ funcs) zero d lt is none = rw is refl
main_found (f ∷ funcs) (suc i) d lt is none =
    let other = none 0 d (omega arith) (omega arith) in
    rw other (ap suc (main_found funcs i d (omega arith) is (λ k e lt' within. none (suc k) e (omega arith) (omega arith))))

pub none_yet : (funcs : List TacFunc) → NoneNamed funcs 0
none_yet funcs k d lt within = absurd (omega arith)

pub none_more : (funcs : List TacFunc) (i : ℕ) (f : TacFunc) → f ≡ get_or funcs i f → bytes_eq main_name f.name ≡ false → NoneNamed funcs i → NoneNamed funcs (i + 1)
none_more funcs i f at other none k d lt within =
    ⊎_elim (λ below. none k d below within)
    (λ le.
    let same : k ≡ i = omega arith in
    subst (λ n. bytes_eq main_name (get_or funcs n d).name ≡ false) (sym same)
    (subst (λ g. bytes_eq main_name g.name ≡ false) (at ∙ get_or_default funcs i f d (omega arith)) other))
    (cases_lt k i)

-- a name that is not `main` is another list
other_name : (name : List ℕ) → bytes_eq main_name name ≡ false → name ≡ main_name → ⊥
other_name name other is =
    let same : bytes_eq main_name main_name ≡ false = subst (λ n. bytes_eq main_name n ≡ false) is other in
    let yes' : bytes_eq main_name main_name ≡ true = refl in
    cc

pub some_named : (funcs : List TacFunc) (n : ℕ) → length funcs ≤ n → NoneNamed funcs n → Any IsMain funcs → ⊥
some_named funcs n le none any =
    let within = any.2 in
    other_name any.1.name (subst (λ f. bytes_eq main_name f.name ≡ false) any.3 (none any.0 any.1 (omega arith) within)) any.4.0
