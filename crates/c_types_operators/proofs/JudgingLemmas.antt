-- How answers for parts give the answer for the whole.
use Rattle.std.proofs.Common.{◌≡◌, refl, ap, sym, ◌∙◌, List, [], ◌∷◌, ◌++◌, Option, Some, None, true, false, subst}
use Rattle.std.specs.Option.{option_map}
use Rattle.std.proofs.lemmas.List.{append-nil, append_assoc}
use Rattle.ib_meaning.specs.declared.place.Place.{Place}
use Rattle.ib_meaning.proofs.Facts.{some_same}
use Rattle.c_typed.specs.declared.rule.Rule.{Rule}
use Rattle.c_types_operators.specs.declared.rule.Breach.{Breach}
use Rattle.c_types_operators.specs.Rules.{Judged, Fine, Broken, breaches, both, pair, ◌>>=◌, earlier, first_of, with_breach, first_from}
use Rattle.c_types_operators.specs.Parts.{breach, misplaced}
use Rattle.c_layout.specs.Layout.{Texts}
use Rattle.c_types_operators.specs.Judging.{Noted, noted, kept, both_some, Judges, judges}

pub first_from-join : (first : Option Breach) (xs ys : List Breach) → first_from first (xs ++ ys) ≡ first_from (first_from first xs) ys
first_from-join first [] ys = refl
first_from-join first (x ∷ xs) ys = first_from-join (with_breach first x) xs ys

-- where one breach is there, one is the first
pub first_from-some : (x : Breach) (ys : List Breach) → first_from (Some x) ys ≡ Some (first_of x ys)
first_from-some x [] = refl
first_from-some x (y ∷ ys) = first_from-some (earlier x y) ys

abbrev with_both : Noted → Texts → Option Breach → Noted
with_both s texts first = record s { texts = texts; first = first }

pub noted-join : (s : Noted) (xs ys : Texts) (found more : List Breach) → noted (noted s xs found) ys more ≡ noted s (xs ++ ys) (found ++ more)
unfolding noted
noted-join s xs ys found more =
    ap (λ texts. with_both s texts (first_from (first_from s.first found) more)) (append_assoc s.texts xs ys)
    ∙ ap (with_both s (s.texts ++ (xs ++ ys))) (sym (first_from-join s.first found more))

pub noted-none : (s : Noted) → noted s [] [] ≡ s
unfolding noted
noted-none s = ap (λ texts. with_both s texts s.first) (append-nil s.texts)

pub noted-texts : (s : Noted) (xs : Texts) (found : List Breach) → (noted s xs found).texts ≡ s.texts ++ xs
unfolding noted
noted-texts s xs found = refl

kept-fine : {A : Type 0} (j : Judged A) (a : A) → Some a ≡ kept j → j ≡ Fine a
kept-fine (Fine b) a e = ap Fine (sym (some_same e))
kept-fine (Broken first more) a e = let no : false ≡ true = cc in cc

answer-is : {X A : Type 0} {view : X → A} {s now : Noted} {xs : Texts} {j : Judged A} {answer : Option X} → Judges view s xs j answer now → option_map view answer ≡ kept j
answer-is (judges e n) = e

noted-is : {X A : Type 0} {view : X → A} {s now : Noted} {xs : Texts} {j : Judged A} {answer : Option X} → Judges view s xs j answer now → now ≡ noted s xs (breaches j)
noted-is (judges e n) = n

texts-of : (s now : Noted) (xs : Texts) (found : List Breach) → now ≡ noted s xs found → now.texts ≡ s.texts ++ xs
texts-of s now xs found e = ap (λ n. n.texts) e ∙ noted-texts s xs found

module _ {X A : Type 0} {view : X → A} {s now : Noted} where
  pub fine : {j : Judged A} (x : X) → j ≡ Fine (view x) → now ≡ s → Judges view s [] j (Some x) now
  fine x is same = subst (λ k. Judges view s [] k (Some x) now) (sym is) (judges refl (same ∙ sym (noted-none s)))

  -- behind a string literal
  pub fine_behind : {j : Judged A} {xs : Texts} (x : X) → j ≡ Fine (view x) → now ≡ noted s xs [] → Judges view s xs j (Some x) now
  fine_behind {xs = xs} x is same = subst (λ k. Judges view s xs k (Some x) now) (sym is) (judges refl same)

  pub broken : {j : Judged A} (b : Breach) → j ≡ Broken b [] → now ≡ noted s [] (b ∷ []) → Judges view s [] j None now
  broken b is same = subst (λ k. Judges view s [] k None now) (sym is) (judges refl same)

module _ {X A Y B : Type 0} {u : X → A} {v : Y → B} {s s1 now : Noted} {xs : Texts} {j : Judged A} where
  pub bound : {x : X} {y : Option Y} (f : A → Judged B) → Judges u s xs j (Some x) s1 → Judges v s1 [] (f (u x)) y now → Judges v s xs (j >>= f) y now
  bound {x} {y} f (judges e n) (judges e2 n2) =
      let is = kept-fine j (u x) e in
      subst (λ k. Judges v s xs (k >>= f) y now) (sym is)
      (judges e2
      (n2 ∙ (ap (λ t. noted t [] (breaches (f (u x)))) (n ∙ ap (λ k. noted s xs (breaches k)) is)
      ∙ (noted-join s xs [] [] (breaches (f (u x))) ∙ ap (λ t. noted s t (breaches (f (u x)))) (append-nil xs)))))

-- what stays as it is where a rule is broken
carried-broken : {X A Y B : Type 0} {u : X → A} {v : Y → B} {s now : Noted} {xs : Texts} (j : Judged A) (f : Judged A → Judged B) →
    ((first : Breach) (more : List Breach) → f (Broken first more) ≡ Broken first more) → Judges u s xs j None now → Judges v s xs (f j) None now
carried-broken (Fine a) f stays (judges e n) = let no : false ≡ true = cc in cc
carried-broken {v = v} {s} {now} {xs} (Broken first more) f stays (judges e n) = subst (λ k. Judges v s xs k None now) (sym (stays first more)) (judges refl n)

module _ {X A Y B : Type 0} {u : X → A} {v : Y → B} {s now : Noted} {xs : Texts} {j : Judged A} where
  pub carried_none : (f : Judged A → Judged B) → ((first : Breach) (more : List Breach) → f (Broken first more) ≡ Broken first more) → Judges u s xs j None now → Judges v s xs (f j) None now
  carried_none f stays h = carried-broken j f stays h

module _ {X A Y B : Type 0} {u : X → A} {v : Y → B} {s now : Noted} {xs : Texts} {j : Judged A} where
  pub bound_none : (f : A → Judged B) → Judges u s xs j None now → Judges v s xs (j >>= f) None now
  bound_none f h = carried_none (λ j. j >>= f) (λ first more. refl) h

-- before what is judged next, at the same rules
prepend : {X A : Type 0} {view : X → A} {s s1 now : Noted} {xs : Texts} {j : Judged A} {answer : Option X} → s1 ≡ noted s xs [] → Judges view s1 [] j answer now → Judges view s xs j answer now
prepend {s = s} {xs = xs} {j = j} same (judges e n) =
    judges e (n ∙ (ap (λ t. noted t [] (breaches j)) same ∙ (noted-join s xs [] [] (breaches j) ∙ ap (λ t. noted s t (breaches j)) (append-nil xs))))

noted-fine : {X A : Type 0} {view : X → A} {s now : Noted} {xs : Texts} (j : Judged A) {x : X} → Judges view s xs j (Some x) now → now ≡ noted s xs []
noted-fine (Fine a) (judges e n) = n
noted-fine (Broken first more) (judges e n) = let no : false ≡ true = cc in cc

value-fine : {X A : Type 0} {view : X → A} {s now : Noted} {xs : Texts} (j : Judged A) {x : X} → Judges view s xs j (Some x) now → Fine (view x) ≡ j
value-fine (Fine a) (judges e n) = ap Fine (some_same e)
value-fine (Broken first more) (judges e n) = let no : false ≡ true = cc in cc

at-texts : {X A Y B : Type 0} {u : X → A} {v : Y → B} {s s1 s2 : Noted} {xs ys : Texts} {j : Judged A} {x : Option X} {y : Option Y} (K : Texts → Judged B) →
    Judges u s xs j x s1 → Judges v s1 ys (K s1.texts) y s2 → Judges v s1 ys (K (s.texts ++ xs)) y s2
at-texts {v = v} {s} {s1} {s2} {xs} {ys} {j} {x} {y} K (judges e n) h = subst (λ texts. Judges v s1 ys (K texts) y s2) (texts-of s s1 xs (breaches j) n) h

both-noted : {X A Y B : Type 0} {u : X → A} {v : Y → B} {s s1 s2 : Noted} {xs ys : Texts} (j : Judged A) (k : Judged B) {x : Option X} {y : Option Y} →
    Judges u s xs j x s1 → Judges v s1 ys k y s2 → s2 ≡ noted s (xs ++ ys) (breaches j ++ breaches k)
both-noted {s = s} {s1} {s2} {xs} {ys} j k (judges e n) (judges e2 n2) = n2 ∙ (ap (λ t. noted t ys (breaches k)) n ∙ noted-join s xs ys (breaches j) (breaches k))

both-broken : {X A Y B C : Type 0} (u : X → A) (v : Y → B) (j : Judged A) (k : Judged B) (f : A → B → Judged C) (x : Option X) (y : Option Y) →
    option_map u x ≡ kept j → option_map v y ≡ kept k → both_some x y ≡ None → (None ≡ kept (both j k f)) × (breaches j ++ breaches k ≡ breaches (both j k f))
both-broken u v (Fine a) (Fine b) f (Some x) (Some y) e e2 none = let no : false ≡ true = cc in cc
both-broken u v (Fine a) (Fine b) f None y e e2 none = let no : false ≡ true = cc in cc
both-broken u v (Fine a) (Fine b) f (Some x) None e e2 none = let no : false ≡ true = cc in cc
both-broken u v (Fine a) (Broken first more) f x y e e2 none = (refl, refl)
both-broken u v (Broken first more) k f x y e e2 none = (refl, refl)

-- A part, and what it gives: what the code finds for the part that is kept is what it finds for the whole.
module _ {X A Y B : Type 0} {u : X → A} {v : Y → B} {s before now : Noted} {xs : Texts} {j : Judged A} where
  pub carried : (f : Judged A → Judged B) {x : X} {y : Option Y} → Judges u s xs j (Some x) before → Judges v before [] (f (Fine (u x))) y now → Judges v s xs (f j) y now
  carried f {x} {y} h h2 = subst (λ k. Judges v s xs (f k) y now) (value-fine j h) (prepend (noted-fine j h) h2)

both_some-first : {A B : Type 0} (x : Option A) (y : Option B) {a : A} {b : B} → both_some x y ≡ Some (a, b) → x ≡ Some a
both_some-first (Some a) (Some b) e = ap (λ p. Some p.0) (some_same e)
both_some-first (Some a) None e = cc
both_some-first None y e = cc

both_some-second : {A B : Type 0} (x : Option A) (y : Option B) {a : A} {b : B} → both_some x y ≡ Some (a, b) → y ≡ Some b
both_some-second (Some a) (Some b) e = ap (λ p. Some p.1) (some_same e)
both_some-second (Some a) None e = cc
both_some-second None y e = cc

-- Two parts, each judged, and what they give together.
module _ {X A Y B Z C : Type 0} {u : X → A} {v : Y → B} {w : Z → C} {s s1 now : Noted} {xs ys : Texts} {j : Judged A} where
  both-some : {s2 : Noted} (K : Texts → Judged B) (f : A → B → Judged C) {x : X} {y : Y} {z : Option Z} →
      Judges u s xs j (Some x) s1 → Judges v s1 ys (K s1.texts) (Some y) s2 → Judges w s2 [] (f (u x) (v y)) z now →
      Judges w s (xs ++ ys) (both j (K (s.texts ++ xs)) f) z now
  both-some {s2} K f {x} {y} {z} h1 h2 h3 =
      let h2' : Judges v s1 ys (K (s.texts ++ xs)) (Some y) s2 = at-texts K h1 h2 in
      let joined : s2 ≡ noted s (xs ++ ys) [] = noted-fine (K (s.texts ++ xs)) h2' ∙ (ap (λ t. noted t ys []) (noted-fine j h1) ∙ noted-join s xs ys [] []) in
      subst (λ j'. Judges w s (xs ++ ys) (both j' (K (s.texts ++ xs)) f) z now) (value-fine j h1)
      (subst (λ k. Judges w s (xs ++ ys) (both (Fine (u x)) k f) z now) (value-fine (K (s.texts ++ xs)) h2') (prepend joined h3))

  pub both_fine : {s2 : Noted} (K : Texts → Judged B) (f : A → B → Judged C) {x : Option X} {y : Option Y} {a : X} {b : Y} {z : Option Z} →
      both_some x y ≡ Some (a, b) → Judges u s xs j x s1 → Judges v s1 ys (K s1.texts) y s2 → Judges w s2 [] (f (u a) (v b)) z now →
      Judges w s (xs ++ ys) (both j (K (s.texts ++ xs)) f) z now
  both_fine {s2} K f {x} {y} {a} {b} e h1 h2 h3 =
      both-some K f
      (subst (λ o. Judges u s xs j o s1) (both_some-first x y e) h1)
      (subst (λ o. Judges v s1 ys (K s1.texts) o s2) (both_some-second x y e) h2)
      h3

  pub both_none : (K : Texts → Judged B) (f : A → B → Judged C) {x : Option X} {y : Option Y} →
      both_some x y ≡ None → Judges u s xs j x s1 → Judges v s1 ys (K s1.texts) y now → Judges w s (xs ++ ys) (both j (K (s.texts ++ xs)) f) None now
  both_none K f {x} {y} none h1 h2 = both-none-of (K (s.texts ++ xs)) h1 (at-texts K h1 h2) where
    both-none-of : (k : Judged B) → Judges u s xs j x s1 → Judges v s1 ys k y now → Judges w s (xs ++ ys) (both j k f) None now
    both-none-of k h1 h2 =
        let broken : (None ≡ kept (both j k f)) × (breaches j ++ breaches k ≡ breaches (both j k f)) = both-broken u v j k f x y (answer-is h1) (answer-is h2) none in
        judges broken.0 (both-noted j k h1 h2 ∙ ap (noted s (xs ++ ys)) broken.1)

abbrev pub paired_view : {X A Y B : Type 0} → (X → A) → (Y → B) → X × Y → A × B
paired_view u v p = (u p.0, v p.1)

both-kept : {X A Y B : Type 0} (u : X → A) (v : Y → B) (j : Judged A) (k : Judged B) (x : Option X) (y : Option Y) →
    option_map u x ≡ kept j → option_map v y ≡ kept k → option_map (paired_view u v) (both_some x y) ≡ kept (pair j k)
both-kept u v (Fine a) (Fine b) (Some x) (Some y) e e2 = ap Some (ap (λ a. (a, v y)) (some_same e) ∙ ap (λ b. (a, b)) (some_same e2))
both-kept u v (Fine a) (Fine b) None y e e2 = cc
both-kept u v (Fine a) (Fine b) (Some x) None e e2 = cc
both-kept u v (Fine a) (Broken first more) (Some x) None e e2 = refl
both-kept u v (Fine a) (Broken first more) (Some x) (Some y) e e2 = cc
both-kept u v (Fine a) (Broken first more) None y e e2 = refl
both-kept u v (Broken first more) k None y e e2 = refl
both-kept u v (Broken first more) k (Some x) y e e2 = cc

pair-breaches : {A B : Type 0} (j : Judged A) (k : Judged B) → breaches (pair j k) ≡ breaches j ++ breaches k
pair-breaches (Fine a) (Fine b) = refl
pair-breaches (Fine a) (Broken first more) = refl
pair-breaches (Broken first more) k = refl

-- two parts, one behind the other, as one
pub paired : {X A Y B : Type 0} {u : X → A} {v : Y → B} {s s1 s2 : Noted} {xs ys : Texts} {j : Judged A} {x : Option X} {y : Option Y} (K : Texts → Judged B) →
    Judges u s xs j x s1 → Judges v s1 ys (K s1.texts) y s2 → Judges (paired_view u v) s (xs ++ ys) (pair j (K (s.texts ++ xs))) (both_some x y) s2
paired {B = B} {u = u} {v = v} {s} {s1} {s2} {xs} {ys} {j} {x} {y} K h1 h2 = with-texts (K (s.texts ++ xs)) (at-texts K h1 h2) where
  with-texts : (k : Judged B) → Judges v s1 ys k y s2 → Judges (paired_view u v) s (xs ++ ys) (pair j k) (both_some x y) s2
  with-texts k h = judges (both-kept u v j k x y (answer-is h1) (answer-is h)) (both-noted j k h1 h ∙ ap (λ found. noted s (xs ++ ys) found) (sym (pair-breaches j k)))

-- three parts, the last two put together first, or the first two
pub both-joined : {A B C D E F : Type 0} (f : B → C → D) (g : A → D → F) (h : A → B → E) (i : E → C → F) → ((a : A) (b : B) (c : C) → g a (f b c) ≡ i (h a b) c) →
    (j : Judged A) (k : Judged B) (l : Judged C) → both j (both k l (λ b c. Fine (f b c))) (λ a d. Fine (g a d)) ≡ both (both j k (λ a b. Fine (h a b))) l (λ e c. Fine (i e c))
both-joined f g h i same (Fine a) (Fine b) (Fine c) = ap Fine (same a b c)
both-joined f g h i same (Fine a) (Fine b) (Broken z zs) = refl
both-joined f g h i same (Fine a) (Broken y ys) l = refl
both-joined f g h i same (Broken x xs) (Fine b) (Fine c) = ap (Broken x) (sym (append-nil (xs ++ [])))
both-joined f g h i same (Broken x xs) (Fine b) (Broken z zs) = ap (λ l. Broken x (l ++ (z ∷ zs))) (sym (append-nil xs))
both-joined f g h i same (Broken x xs) (Broken y ys) l = ap (Broken x) (sym (append_assoc xs (y ∷ ys) (breaches l)))

-- a part alone, put before nothing or behind it
pub both-alone : {A B C : Type 0} (b : B) (f : A → B → C) (g : B → A → C) → ((a : A) → f a b ≡ g b a) →
    (j : Judged A) → both j (Fine b) (λ a b. Fine (f a b)) ≡ both (Fine b) j (λ b a. Fine (g b a))
both-alone b f g same (Fine a) = ap Fine (same a)
both-alone b f g same (Broken first more) = ap (Broken first) (append-nil more)

-- the same, by the equation that says so
pub paired_when : {X A Y B : Type 0} {u : X → A} {v : Y → B} {s s1 s2 : Noted} {xs ys : Texts} {j : Judged A} {x : Option X} {y : Option Y} {both : Option (X × Y)} (K : Texts → Judged B) →
    both ≡ both_some x y → Judges u s xs j x s1 → Judges v s1 ys (K s1.texts) y s2 → Judges (paired_view u v) s (xs ++ ys) (pair j (K (s.texts ++ xs))) both s2
paired_when {u = u} {v = v} {s} {s1} {s2} {xs} {ys} {j} K is h1 h2 =
    subst (λ z. Judges (paired_view u v) s (xs ++ ys) (pair j (K (s.texts ++ xs))) z s2) (sym is) (paired K h1 h2)

-- a part that breaks a rule by standing where it does, which is noted before the part is judged
pub misplaced_first : {X A Y B : Type 0} {u : X → A} {v : Y → B} {s s1 now : Noted} {xs : Texts} {x : Option X} (K : Texts → Judged A) (rule : Rule) (place : Place) →
    s1 ≡ noted s [] (breach rule place ∷ []) → Judges u s1 xs (K s1.texts) x now → Judges v s xs (misplaced rule place (K s.texts)) None now
misplaced_first {u = u} {v = v} {s} {s1} {now} {xs} {x} K rule place is h =
    let same : s1.texts ≡ s.texts = texts-of s s1 [] (breach rule place ∷ []) is ∙ append-nil s.texts in
    let judged : Judges u s1 xs (K s.texts) x now = subst (λ texts. Judges u s1 xs (K texts) x now) same h in
    judges refl (noted-is judged ∙ (ap (λ t. noted t xs (breaches (K s.texts))) is ∙ noted-join s [] xs (breach rule place ∷ []) (breaches (K s.texts))))
