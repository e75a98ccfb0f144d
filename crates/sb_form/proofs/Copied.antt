-- A copy of a copied program is the same.
use Rattle.std.proofs.Common.{◌≡◌, ℕ, zero, suc, ◌+◌, ◌≤◌, List, [], ◌∷◌, ◌++◌, length, Option, Some, None, Result, Ok, Err, map, take, refl, sym, ap, ap₂, ◌∙◌, arith}
use Rattle.std.specs.Prelude.{slice_get, slice_index_or, IfOk, OnOk}
use Rattle.std.proofs.lemmas.List.{map-append, take_more, take_all}
use Rattle.tac_core.specs.declared.code.TacFunc.{TacFunc}
use Rattle.tac_core.specs.Program.{Program}
use Rattle.tac_core.specs.Cover.{CopiedProgram, Origins, AreFuncsFrom, Covers, upto, own_labels, origins_through, all_through}

read_upto : (xs : List ℕ) (n : ℕ) → n ≤ length xs → map (λ l. slice_index_or xs l 0) (upto n) ≡ take n xs
read_upto xs zero le = refl
read_upto xs (suc n) le =
    let next : suc n ≡ n + 1 = omega arith in
    map-append (λ l. slice_index_or xs l 0) (upto n) (n ∷ []) ∙ ap (λ l. l ++ slice_index_or xs n 0 ∷ []) (read_upto xs n (omega arith))
    ∙ sym (take_more xs n 0 (omega arith))
    ∙ ap (λ k. take k xs) (sym next)

same_origins : (xs : Origins) (n : ℕ) → length xs ≡ n → origins_through (upto n) xs ≡ xs
same_origins xs n long = read_upto xs n (omega arith) ∙ take_all n xs (omega arith)

abbrev Alike : List Origins → List TacFunc → List TacFunc → Type 0
Alike all copy origin = (f : ℕ) → AreFuncsFrom (slice_get all f) (slice_get copy f) (slice_get origin f)

long_is : (os : Origins) (f : TacFunc) (o : Option TacFunc) → AreFuncsFrom (Some os) (Some f) o → length os ≡ length f.blocks
long_is os f (Some g) h = h.long
long_is os f None h = absurd h

no_func : (os : Origins) (o : Option TacFunc) → AreFuncsFrom (Some os) None o → ⊥
no_func os (Some g) h = h
no_func os None h = h

no_origins : (f : TacFunc) (o : Option TacFunc) → AreFuncsFrom None (Some f) o → ⊥
no_origins f (Some g) h = h
no_origins f None h = h

same_all : (all : List Origins) (copy origin : List TacFunc) → Alike all copy origin → all_through (own_labels copy) all ≡ all
same_all [] [] origin h = refl
same_all (os ∷ all) [] origin h = absurd (no_func os (slice_get origin 0) (h 0))
same_all [] (f ∷ copy) origin h = absurd (no_origins f (slice_get origin 0) (h 0))
same_all (os ∷ all) (f ∷ copy) [] h = absurd (h 0)
same_all (os ∷ all) (f ∷ copy) (g ∷ origin) h =
    ap₂ (λ x xs. x ∷ xs) (same_origins os (length f.blocks) (long_is os f (Some g) (h 0))) (same_all all copy origin (λ k. h (suc k)))

pub same_through : (all labels : List Origins) (copy origin : Program) → Covers all copy origin → labels ≡ own_labels copy.funcs → all_through labels all ≡ all
same_through all labels copy origin covers e =
    ap (λ l. all_through l all) e ∙ same_all all copy.funcs origin.funcs covers.funcs

pub ok_same : {X E : Type 0} (r : Result X E) (a b : X) → a ≡ b → IfOk r (λ x. x ≡ a) → IfOk r (λ x. x ≡ b)
ok_same (Ok x) a b e h = h ∙ e
ok_same (Err x) a b e h = h

pub same_copied : (c : CopiedProgram) (tac : Program) (origins : List Origins) → tac ≡ c.tac → origins ≡ c.origins → record { tac = tac; from = c.from; origins = origins } ≡ c
same_copied c tac origins e h =
    ap₂ (λ t o. let d : CopiedProgram = record { tac = t; from = c.from; origins = o } in d) e h

pub ok_then : {X E : Type 0} {A B : Type 0} (r : Result X E) → (A → B) → OnOk r A → OnOk r B
ok_then (Ok x) f h = f h
ok_then (Err x) f h = h
