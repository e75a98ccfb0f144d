-- Elements up to a closing quote.
use Rattle.std.proofs.Common.{◌≡◌, ℕ, zero, suc, ◌+◌, ◌-◌, ◌<◌, ◌≤◌, Bool, true, false, List, [], ◌∷◌, ◌++◌, length, take, drop, ap, refl, sym, ◌∙◌, subst, arith, cond, Option, Some, None, length-drop, append_assoc}
use Rattle.std.specs.Prelude.{◌==◌}
use Rattle.std.proofs.lemmas.Bool.{eqb-true}
use Rattle.std.proofs.lemmas.Bool.Decides.{nat_tests}
use Rattle.std.proofs.lemmas.List.{take-append-drop, drop-append-le, drop-take, drop-drop, length-take-le}
use Rattle.c_ast.specs.Literals.{element, Quoted, closed, more}
use Rattle.c_lex.specs.First.{put, behind_element, quoted_behind, quoted}
use Rattle.c_lex.proofs.Elements.{pair, not_quote, element_long, element_before, element_within}

-- values, and how many bytes they take
abbrev pub Values : Type 0
Values = Option (List ℕ × ℕ)

abbrev pub these : List ℕ → ℕ → Values
these values n = Some (values, n)

abbrev values_of : Values → List ℕ
values_of None = []
values_of (Some p) = p.0

abbrev size_of : Values → ℕ
size_of None = 0
size_of (Some p) = p.1

put-none : (o : Values) → put [] 0 o ≡ o
put-none None = refl
put-none (Some (vs, n)) = ap (these vs) (omega arith)

pub put-put : (us vs : List ℕ) (a b : ℕ) (o : Values) → put us a (put vs b o) ≡ put (us ++ vs) (a + b) o
put-put us vs a b None = refl
put-put us vs a b (Some (ws, n)) = ap (λ (xs : List ℕ). these xs (a + (b + n))) (sym (append_assoc us vs ws)) ∙ ap (these ((us ++ vs) ++ ws)) (omega arith)

-- skipped bytes
skip : (quote k : ℕ) (bs : List ℕ) → quoted_behind quote k bs ≡ put [] k (quoted_behind quote 0 (drop k bs))
skip quote zero bs = sym (put-none (quoted_behind quote 0 bs))
skip quote (suc k) [] = refl
skip quote (suc k) (b ∷ bs) = ap (put [] 1) (skip quote k bs) ∙ put-put [] [] 1 k (quoted_behind quote 0 (drop k bs)) ∙ ap (λ n. put [] n (quoted_behind quote 0 (drop k bs))) (omega arith)

-- one element
pub one_element : (quote b : ℕ) (bs : List ℕ) (value n : ℕ) → element quote (b ∷ bs) ≡ pair value n →
    quoted_behind quote 0 (b ∷ bs) ≡ put (value ∷ []) n (quoted_behind quote 0 (drop n (b ∷ bs)))
one_element quote b bs value n e =
    ap (λ t. cond t (these [] 1) (behind_element (element quote (b ∷ bs)) (λ k. quoted_behind quote (k - 1) bs))) (not_quote quote b bs value n e)
    ∙ ap (λ o. behind_element o (λ k. quoted_behind quote (k - 1) bs)) e ∙ by_len n (element_long quote b bs value n e)
  where
    by_len : (m : ℕ) → 1 ≤ m → put (value ∷ []) 1 (quoted_behind quote (m - 1) bs) ≡ put (value ∷ []) m (quoted_behind quote 0 (drop m (b ∷ bs)))
    by_len zero h = absurd (omega (arith, h))
    by_len (suc k) h = let s : suc k - 1 ≡ k = omega arith in
        ap (λ j. put (value ∷ []) 1 (quoted_behind quote j bs)) s ∙ ap (put (value ∷ []) 1) (skip quote k bs)
        ∙ put-put (value ∷ []) [] 1 k (quoted_behind quote 0 (drop k bs)) ∙ ap (λ j. put (value ∷ []) j (quoted_behind quote 0 (drop k bs))) (omega arith)

quoted_some : (quote : ℕ) {bs values : List ℕ} → Quoted quote bs values → 0 < length bs
quoted_some quote closed = omega arith
quoted_some quote (more [] value n e q) = cc
quoted_some quote (more (b ∷ bs) value n e q) = omega arith

-- what stands between quotes is found
pub quoted_most : (quote : ℕ) (bs values rest : List ℕ) → Quoted quote bs values → quoted_behind quote 0 (bs ++ rest) ≡ these values (length bs)
quoted_most quote bs values rest closed = let e : (quote == quote) ≡ true = grind (arith, nat_tests) in rw e refl
quoted_most quote bs values rest (more [] value n e q) = cc
quoted_most quote bs values rest (more (b ∷ bs') value n {values = vs} e q) =
    let some = quoted_some quote q in
    let short : n < suc (length bs') = omega (arith, length-drop n (b ∷ bs')) in
    one_element quote b (bs' ++ rest) value n (element_before quote b bs' rest value n short e)
    ∙ ap (λ xs. put (value ∷ []) n (quoted_behind quote 0 xs)) (drop-append-le n (b ∷ bs') rest (omega (arith, short)))
    ∙ ap (put (value ∷ []) n) (quoted_most quote (drop n (b ∷ bs')) vs rest q)
    ∙ ap (these (value ∷ vs)) (omega (arith, length-drop n (b ∷ bs')))

-- what is found stands between quotes
pub record FoundQuoted (quote : ℕ) (bs values : List ℕ) (m : ℕ) : Type 0 where
  pub within : m ≤ length bs
  pub quoted : Quoted quote (take m bs) values

found_closed : (quote b : ℕ) (bs values : List ℕ) (m : ℕ) → (b == quote) ≡ true → these [] 1 ≡ these values m → FoundQuoted quote (b ∷ bs) values m
found_closed quote b bs values m h e =
    let v : [] ≡ values = ap values_of e in
    let n : 1 ≡ m = ap size_of e in
    subst (λ (vs : List ℕ). FoundQuoted quote (b ∷ bs) vs m) v (subst (λ k. FoundQuoted quote (b ∷ bs) [] k) n
    (record { within = omega arith; quoted = subst (λ x. Quoted quote (x ∷ []) []) (sym (eqb-true b quote h)) closed }))

-- an element within the first bytes
element_front : (quote b : ℕ) (bs : List ℕ) (value n m : ℕ) → n < m → m ≤ length (b ∷ bs) → element quote (b ∷ bs) ≡ pair value n → element quote (take m (b ∷ bs)) ≡ pair value n
element_front quote b bs value n zero h within e = absurd (omega (arith, h))
element_front quote b bs value n (suc k) h within e =
    let size = length-take-le k bs (omega (arith, within)) in
    element_within quote b (take k bs) (drop k bs) value n (omega (arith, size, h)) (ap (λ xs. element quote (b ∷ xs)) (take-append-drop k bs) ∙ e)

-- what stands behind an element
found_behind : (quote b : ℕ) (bs values : List ℕ) (m value n : ℕ) → element quote (b ∷ bs) ≡ pair value n →
    ((ws : List ℕ) (j : ℕ) → quoted_behind quote 0 (drop n (b ∷ bs)) ≡ these ws j → FoundQuoted quote (drop n (b ∷ bs)) ws j) →
    (o : Values) → quoted_behind quote 0 (drop n (b ∷ bs)) ≡ o → put (value ∷ []) n o ≡ these values m → FoundQuoted quote (b ∷ bs) values m
found_behind quote b bs values m value n e deeper None is f = cc
found_behind quote b bs values m value n e deeper (Some (ws, j)) is f =
    let found = deeper ws j is in
    let some = quoted_some quote found.quoted in
    let size = length-take-le j (drop n (b ∷ bs)) found.within in
    let left = length-drop n (b ∷ bs) in
    let within = found.within in
    let fits : n + j ≤ length (b ∷ bs) = omega (arith, some, size, left, within) in
    let short : n < n + j = omega (arith, some, size) in
    let v : value ∷ ws ≡ values = ap values_of f in
    let k : n + j ≡ m = ap size_of f in
    subst (λ (vs : List ℕ). FoundQuoted quote (b ∷ bs) vs m) v (subst (λ i. FoundQuoted quote (b ∷ bs) (value ∷ ws) i) k (record {
      within = fits;
      quoted = more (take (n + j) (b ∷ bs)) value n {values = ws} (element_front quote b bs value n (n + j) short fits e)
          (subst (λ (xs : List ℕ). Quoted quote xs ws) (sym (drop-take n j (b ∷ bs))) found.quoted);
    }))

found_step : (quote b : ℕ) (bs values : List ℕ) (m : ℕ) →
    ((n : ℕ) (ws : List ℕ) (j : ℕ) → 1 ≤ n → quoted_behind quote 0 (drop n (b ∷ bs)) ≡ these ws j → FoundQuoted quote (drop n (b ∷ bs)) ws j) →
    quoted_behind quote 0 (b ∷ bs) ≡ these values m → FoundQuoted quote (b ∷ bs) values m
found_step quote b bs values m deeper e = by_test (b == quote) refl e
  where
    by_element : (o : Option (ℕ × ℕ)) → element quote (b ∷ bs) ≡ o → behind_element o (λ k. quoted_behind quote (k - 1) bs) ≡ these values m → FoundQuoted quote (b ∷ bs) values m
    by_element None is f = cc
    by_element (Some (value, n)) is f =
        found_behind quote b bs values m value n is (λ ws j g. deeper n ws j (element_long quote b bs value n is) g)
        (quoted_behind quote 0 (drop n (b ∷ bs))) refl (sym (one_element quote b bs value n is) ∙ e)

    by_test : (t : Bool) → (b == quote) ≡ t → cond t (these [] 1) (behind_element (element quote (b ∷ bs)) (λ k. quoted_behind quote (k - 1) bs)) ≡ these values m → FoundQuoted quote (b ∷ bs) values m
    by_test true t f = found_closed quote b bs values m t f
    by_test false t f = by_element (element quote (b ∷ bs)) refl f

-- n bounds the bytes
found_at : (bound quote : ℕ) (bs values : List ℕ) (m : ℕ) → length bs < bound → quoted_behind quote 0 bs ≡ these values m → FoundQuoted quote bs values m
found_at zero quote bs values m h e = absurd (omega (arith, h))
found_at (suc bound) quote [] values m h e = cc
found_at (suc bound) quote (b ∷ bs) values m h e =
    found_step quote b bs values m (λ n ws j long g. found_at bound quote (drop n (b ∷ bs)) ws j (omega (arith, length-drop n (b ∷ bs), long, h)) g) e

pub quoted_found : (quote : ℕ) (bs values : List ℕ) (m : ℕ) → quoted_behind quote 0 bs ≡ these values m → FoundQuoted quote bs values m
quoted_found quote bs values m e = found_at (suc (length bs)) quote bs values m (omega arith) e

element_behind : (quote : ℕ) (bs : List ℕ) (value n : ℕ) → element quote bs ≡ pair value n → quoted_behind quote 0 bs ≡ put (value ∷ []) n (quoted_behind quote 0 (drop n bs))
element_behind quote [] value n e = cc
element_behind quote (b ∷ bs) value n e = one_element quote b bs value n e

-- one element more keeps what the loop over the elements keeps
pub elements_more : (quote : ℕ) (bytes values : List ℕ) (len value n : ℕ) → element quote (drop len bytes) ≡ pair value n →
    put values len (quoted quote (drop len bytes)) ≡ quoted quote bytes → put (values ++ value ∷ []) (len + n) (quoted quote (drop (len + n) bytes)) ≡ quoted quote bytes
unfolding quoted
elements_more quote bytes values len value n e keeps =
    ap (λ (xs : List ℕ). put (values ++ value ∷ []) (len + n) (quoted_behind quote 0 xs)) (sym (drop-drop n len bytes))
    ∙ sym (put-put values (value ∷ []) len n (quoted_behind quote 0 (drop n (drop len bytes))))
    ∙ ap (put values len) (sym (element_behind quote (drop len bytes) value n e)) ∙ keeps
