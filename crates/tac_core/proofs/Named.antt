-- What sorts of numbered functions tell of their names.
use Rattle.std.proofs.Common.{◌≡◌, ℕ, zero, suc, ◌+◌, ◌*◌, ◌/◌, ◌%◌, ◌<◌, ◌≤◌, ◌≢◌, ◌↔◌, List, [], ◌∷◌, ◌++◌, length, get_or, take, drop, set, append_assoc, Bool, lt-ltb, arith, refl, sym, ap, ap₂, subst, ◌∙◌, IsTrue, true, false, true≢false, Ordering, Less, Equal, Greater, is_lt, is_eq, nat_cmp}
use Rattle.std.proofs.lemmas.Cmp.{nat_cmp_total, on_total}
use Rattle.std.proofs.lemmas.Map.Keys.{IsDistinct-from_apart, apart_from_distinct, IsDistinct-from_sorted, Less-from_sorted, sorted_from_all_adjacent}
use Rattle.std.proofs.lemmas.List.Sorted.{IsPermutation-sym, IsPermutation-trans}
use Rattle.std.proofs.lemmas.List.Elements.{All-head, All-tail, recursion_from_All}
use Rattle.std.specs.Bool.{Decides}
use Rattle.std.specs.Cmp.{IsTotalOrder}
use Rattle.std.specs.Cmp.Lexicographic.{slice_cmp, on_texts, texts_ties, bytes_decides}
use Rattle.std.specs.List.{All, IsAllAdjacentAnswer, IsDistinct}
use Rattle.std.specs.List.Sorted.{IsPermutation, IsSorted, IsStrictlySortedBy}
use Rattle.std.specs.Ordering.{eq_by_cmp}
use Rattle.std.proofs.lemmas.List.{take_more_set, drop-set-lt, drop_more}
use Rattle.tac_core.specs.declared.code.TacFunc.{TacFunc}
use Rattle.tac_core.specs.Numbered.{HasGoodFrame, with_number, without_number, numbered, unnumbered, name_cmp, frame_cmp}
use Rattle.tac_core.specs.Rules.{NamesDiffer}
use Rattle.tac_core.proofs.Restored.{restored, nothing_rises, strictly_sorted, apart_permuted}

name_total : IsTotalOrder name_cmp
name_total = on_texts (λ f. f.name)

frame_total : IsTotalOrder frame_cmp
frame_total = on_total (λ f. f.frame) nat_cmp_total

-- ---- numbers

length-numbered : (n : ℕ) (fs : List TacFunc) → length (numbered n fs) ≡ length fs
length-numbered n [] = refl
length-numbered n (f ∷ fs) = ap suc (length-numbered (suc n) fs)

name-numbered : (n : ℕ) (fs : List TacFunc) (i : ℕ) (d e : TacFunc) → i < length fs → (get_or (numbered n fs) i d).name ≡ (get_or fs i e).name
name-numbered n [] i d e lt = absurd (omega (arith, lt))
name-numbered n (f ∷ fs) zero d e lt = refl
name-numbered n (f ∷ fs) (suc i) d e lt = name-numbered (suc n) fs i d e (omega arith)

without-with : (frame n : ℕ) → frame ≤ 262144 → frame % 16 ≡ 0 → without_number (with_number frame n) ≡ frame
without-with frame n few aligned = omega (arith, few, aligned)

pub unnumbered-numbered : (n : ℕ) (fs : List TacFunc) → All HasGoodFrame fs → unnumbered (numbered n fs) ≡ fs
unnumbered-numbered n [] good = refl
unnumbered-numbered n (f ∷ fs) good =
    let own = All-head HasGoodFrame f fs good in
    ap₂ (λ a rest. record f { frame = a } ∷ rest) (without-with f.frame n own.few own.aligned) (unnumbered-numbered (suc n) fs (All-tail HasGoodFrame f fs good))

-- a loop writes the element at i, and `rest` says what it makes of those from i on
more : {X : Type 0} (rest : ℕ → List X → List X) (xs whole : List X) (i : ℕ) (d x : X) → i < length xs
    → rest i (get_or xs i d ∷ drop (i + 1) xs) ≡ x ∷ rest (i + 1) (drop (i + 1) xs)
    → take i xs ++ rest i (drop i xs) ≡ whole
    → take (i + 1) (set xs i x) ++ rest (i + 1) (drop (i + 1) (set xs i x)) ≡ whole
more rest xs whole i d x within one so_far =
    ap₂ (λ a b. a ++ rest (i + 1) b) (take_more_set xs i x within) (drop-set-lt (i + 1) xs i x (omega arith))
    ∙ append_assoc (take i xs) (x ∷ []) (rest (i + 1) (drop (i + 1) xs))
    ∙ ap (λ ys. take i xs ++ ys) (sym one ∙ ap (rest i) (sym (drop_more xs i d within)))
    ∙ so_far

pub numbered_more : (fs whole : List TacFunc) (i frame : ℕ) (d : TacFunc) → i < length fs → frame ≡ with_number (get_or fs i d).frame i
    → take i fs ++ numbered i (drop i fs) ≡ whole
    → let f = get_or fs i d in let g = record f { frame = frame } in take (i + 1) (set fs i g) ++ numbered (i + 1) (drop (i + 1) (set fs i g)) ≡ whole
numbered_more fs whole i frame d within is so_far =
    let f = get_or fs i d in
    more numbered fs whole i d (record f { frame = frame }) within (ap₂ (λ a n. record f { frame = a } ∷ numbered n (drop (i + 1) fs)) (sym is) (omega arith)) so_far

pub unnumbered_more : (fs whole : List TacFunc) (i frame : ℕ) (d : TacFunc) → i < length fs → frame ≡ without_number (get_or fs i d).frame
    → take i fs ++ unnumbered (drop i fs) ≡ whole
    → let f = get_or fs i d in let g = record f { frame = frame } in take (i + 1) (set fs i g) ++ unnumbered (drop (i + 1) (set fs i g)) ≡ whole
unnumbered_more fs whole i frame d within is so_far =
    let f = get_or fs i d in
    more (λ _. unnumbered) fs whole i d (record f { frame = frame }) within (ap (λ a. record f { frame = a } ∷ unnumbered (drop (i + 1) fs)) (sym is)) so_far

frame-numbered : (n : ℕ) (fs : List TacFunc) (i : ℕ) (d : TacFunc) → i < length fs → (get_or (numbered n fs) i d).frame ≡ with_number (get_or fs i d).frame (n + i)
frame-numbered n [] i d lt = absurd (omega (arith, lt))
frame-numbered n (f ∷ fs) zero d lt = ap (with_number f.frame) (omega arith)
frame-numbered n (f ∷ fs) (suc i) d lt = frame-numbered (suc n) fs i d (omega arith) ∙ ap (with_number (get_or fs i d).frame) (omega arith)

number_decides : (a b c d m n : ℕ) → a ≡ with_number c m → b ≡ with_number d n → c ≤ 262144 → m < n → nat_cmp a b ≡ Less
number_decides a b c d m n ea eb few later = let lt : a < b = omega (arith, ea, eb, few, later) in rw (lt-ltb a b lt) refl

rises : (fs : List TacFunc) → All HasGoodFrame fs → IsStrictlySortedBy frame_cmp (numbered 0 fs)
rises [] good = nothing_rises frame_cmp frame_total
rises (f ∷ fs) good =
    sorted_from_all_adjacent frame_total (numbered 0 (f ∷ fs)) f (λ k lt.
    let more : k + 1 < length (f ∷ fs) = omega (arith, length-numbered 0 (f ∷ fs)) in
    number_decides _ _ _ _ (0 + k) (0 + (k + 1)) (frame-numbered 0 (f ∷ fs) k f (omega arith)) (frame-numbered 0 (f ∷ fs) (k + 1) f more) (good k f (omega arith)).few (omega arith))

-- sorted by number, the functions are as they were
pub back : (fs by_name by_number : List TacFunc) → All HasGoodFrame fs → IsPermutation (numbered 0 fs) by_name → IsPermutation by_name by_number → IsSorted frame_cmp by_number → unnumbered by_number ≡ fs
back fs by_name by_number good there again sorted =
    let same = restored frame_cmp frame_total (numbered 0 fs) by_number (rises fs good) (IsPermutation-trans (numbered 0 fs) by_name by_number there again) sorted in
    ap unnumbered (sym same) ∙ unnumbered-numbered 0 fs good

-- ---- names

not_true : (b : Bool) → (b ≡ true → ⊥) → b ≡ false
not_true true never = absurd (never refl)
not_true false never = refl

apart : (a b : List ℕ) → (a ≢ b) → eq_by_cmp (slice_cmp nat_cmp) a b ≡ false
apart a b ne = not_true _ (λ t. ne ((bytes_decides a b).0 (texts_ties a b ∙ t)))

differ : (a b : List ℕ) → eq_by_cmp (slice_cmp nat_cmp) a b ≡ false → a ≢ b
differ a b f e = true≢false (sym ((bytes_decides a b).1 e) ∙ texts_ties a b ∙ f)

apart_numbered : (fs : List TacFunc) → NamesDiffer fs → IsDistinct (eq_by_cmp name_cmp) (numbered 0 fs)
apart_numbered fs names =
    IsDistinct-from_apart (eq_by_cmp name_cmp) (numbered 0 fs) (λ i j d below lt.
    let within : j < length fs = omega (arith, length-numbered 0 fs) in
    apart _ _ (λ e. names i j d below within (sym (name-numbered 0 fs i d d (omega arith)) ∙ e ∙ name-numbered 0 fs j d d within)))

differ_numbered : (fs : List TacFunc) → IsDistinct (eq_by_cmp name_cmp) (numbered 0 fs) → NamesDiffer fs
differ_numbered fs names i j d below lt e =
    let within : j < length (numbered 0 fs) = omega (arith, length-numbered 0 fs) in
    differ _ _ (apart_from_distinct (eq_by_cmp name_cmp) (numbered 0 fs) i j d names below within)
    (name-numbered 0 fs i d d (omega arith) ∙ e ∙ sym (name-numbered 0 fs j d d lt))

-- where no two names tie, the sorted list rises
rises_by_name : (fs by_name : List TacFunc) → IsPermutation (numbered 0 fs) by_name → IsSorted name_cmp by_name → NamesDiffer fs → IsStrictlySortedBy name_cmp by_name
rises_by_name fs by_name moved sorted names =
    strictly_sorted name_cmp name_total by_name sorted (apart_permuted name_cmp name_total (numbered 0 fs) by_name moved (apart_numbered fs names))

differ_if_rise : (fs by_name : List TacFunc) → IsPermutation (numbered 0 fs) by_name → IsStrictlySortedBy name_cmp by_name → NamesDiffer fs
differ_if_rise fs by_name moved up =
    differ_numbered fs (apart_permuted name_cmp name_total by_name (numbered 0 fs) (IsPermutation-sym (numbered 0 fs) by_name moved) (IsDistinct-from_sorted name_cmp by_name up))

-- sorted by name, neighbours tell of all pairs
pub neighbours_tell : (fs by_name : List TacFunc) → IsPermutation (numbered 0 fs) by_name → IsSorted name_cmp by_name → IsStrictlySortedBy name_cmp by_name ↔ NamesDiffer fs
neighbours_tell fs by_name moved sorted = (differ_if_rise fs by_name moved, rises_by_name fs by_name moved sorted)

less : (o : Ordering) → true ≡ is_lt o → o ≡ Less
less Less e = refl
less Equal e = absurd (true≢false e)
less Greater e = absurd (true≢false e)

-- what `is_sorted_by` answers of neighbours that rise
pub rise_answer : (fs : List TacFunc) (b : Bool) → IsAllAdjacentAnswer (λ f g r. r ≡ is_lt (name_cmp f g)) fs b → IsTrue b ↔ IsStrictlySortedBy name_cmp fs
rise_answer [] true all = (λ t. nothing_rises name_cmp name_total, λ up. refl)
rise_answer (f ∷ fs) true all =
    (λ t. sorted_from_all_adjacent name_total (f ∷ fs) f (λ k lt. less (name_cmp (get_or (f ∷ fs) k f) (get_or (f ∷ fs) (k + 1) f)) (all k f lt)), λ up. refl)
rise_answer [] false (k, lt, falls) = absurd (omega (arith, lt))
rise_answer (f ∷ fs) false (k, lt, falls) = (
  λ t. absurd (true≢false (sym t)),
  λ up. absurd (true≢false (sym (falls f ∙ ap is_lt (Less-from_sorted name_cmp (f ∷ fs) k (k + 1) f up (omega arith) lt)))),
)
