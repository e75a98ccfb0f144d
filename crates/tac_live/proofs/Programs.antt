-- The sets of a program's functions, one function after the other.
use Rattle.std.proofs.Common.{◌≡◌, ◌↔◌, ◌⊎◌, ⊎_elim, inl, inr, ℕ, ◌+◌, ◌<◌, ◌≤◌, List, [], ◌∷◌, ◌++◌, Some, None, length, get_or, refl, sym, ap, subst, ◌∙◌, arith}
use Rattle.std.specs.Prelude.{slice_get}
use Rattle.std.proofs.lemmas.Bool.{cases_eq, cases_lt}
use Rattle.std.proofs.lemmas.List.{length-append}
use Rattle.std.proofs.lemmas.Option.{slice_get_cases, slice_get_past, get_or_from_slice_get}
use Rattle.ib_bits.specs.Bits.{Has}
use Rattle.tac_core.specs.declared.code.TacFunc.{TacFunc}
use Rattle.tac_core.specs.Live.{IsLive, IsLiveIn, IsAt, AreLive, Holds, set_in}
use Rattle.tac_core.proofs.Lists.{slice_get_front, slice_get_seam}
use Rattle.tac_live.specs.Before.{At}
use Rattle.tac_live.proofs.Steps.{no_row}

held : (rows : List (List ℕ)) (l r : ℕ) → Holds (slice_get rows l) r ↔ At rows l r
held rows l r = seen (slice_get_cases rows l).1
  where
    seen : ((x : List ℕ) × (l < length rows) × (slice_get rows l ≡ Some x) × (get_or rows l x ≡ x)) ⊎ ((length rows ≤ l) × (slice_get rows l ≡ None)) → Holds (slice_get rows l) r ↔ At rows l r
    seen (inl (x, lt, is, e)) = subst (λ words. Holds (slice_get rows l) r ↔ Has words r) (sym (get_or_from_slice_get rows l x [] is)) (subst (λ o. Holds o r ↔ Has x r) (sym is) (λ h. h, λ h. h))
    seen (inr (past, none)) = (λ h. absurd (subst (λ o. Holds o r) none h), λ h. absurd (no_row rows l past r h))

-- there are sets of the functions below i, and they are the live ones
pub record LiveSoFar (funcs : List TacFunc) (sets : List (List (List ℕ))) (i : ℕ) : Type 0 where
  pub size : length sets ≡ i
  pub exact : (func label reg : ℕ) → func < i → IsAt sets func label reg ↔ IsLiveIn (slice_get funcs func) label reg

pub live_none : (funcs : List TacFunc) → LiveSoFar funcs [] 0
live_none funcs = record { size = refl; exact = λ func label reg lt. absurd (omega arith) }

pub live_more : (funcs : List TacFunc) (sets : List (List (List ℕ))) (i : ℕ) (f : TacFunc) (rows : List (List ℕ)) → LiveSoFar funcs sets i → slice_get funcs i ≡ Some f → ((l r : ℕ) → At rows l r ↔ IsLive f r l) → LiveSoFar funcs (sets ++ (rows ∷ [])) (i + 1)
live_more funcs sets i f rows so is p =
    record {
      size = length-append sets (rows ∷ []) ∙ ap (λ n. n + 1) so.size;
      exact = λ func label reg lt. ⊎_elim (λ e. here func label reg e) (λ ne. earlier func label reg (omega (arith, lt, ne))) (cases_eq func i);
    }
  where
    both : (label reg : ℕ) → Holds (slice_get rows label) reg ↔ IsLive f reg label
    both label reg = (λ h. (p label reg).0 ((held rows label reg).0 h), λ live. (held rows label reg).1 ((p label reg).1 live))

    here : (func label reg : ℕ) → func ≡ i → IsAt (sets ++ (rows ∷ [])) func label reg ↔ IsLiveIn (slice_get funcs func) label reg
    here func label reg e =
        subst (λ o. Holds (set_in o label) reg ↔ IsLiveIn (slice_get funcs func) label reg)
        (sym (ap (slice_get (sets ++ (rows ∷ []))) (e ∙ sym so.size) ∙ slice_get_seam sets rows []))
        (subst (λ o. Holds (slice_get rows label) reg ↔ IsLiveIn o label reg) (sym (ap (slice_get funcs) e ∙ is)) (both label reg))

    earlier : (func label reg : ℕ) → func < i → IsAt (sets ++ (rows ∷ [])) func label reg ↔ IsLiveIn (slice_get funcs func) label reg
    earlier func label reg lt =
        subst (λ o. Holds (set_in o label) reg ↔ IsLiveIn (slice_get funcs func) label reg)
        (sym (slice_get_front sets (rows ∷ []) func (omega (arith, lt, so.size))))
        (so.exact func label reg lt)

pub live_all : (funcs : List TacFunc) (sets : List (List (List ℕ))) (i : ℕ) → LiveSoFar funcs sets i → length funcs ≤ i → AreLive funcs sets
live_all funcs sets i so most func label reg =
    ⊎_elim
    (λ lt. so.exact func label reg lt)
    (λ past. subst (λ o. Holds (set_in o label) reg ↔ IsLiveIn (slice_get funcs func) label reg) (sym (slice_get_past sets func (omega (arith, past, so.size))))
    (subst (λ o. ⊥ ↔ IsLiveIn o label reg) (sym (slice_get_past funcs func (omega (arith, past, most)))) (λ h. h, λ h. h)))
    (cases_lt func i)
