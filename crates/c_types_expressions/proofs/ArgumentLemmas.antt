-- Lists of expressions are judged from the first on.
use Rattle.std.proofs.Common.{◌≡◌, refl, ap, sym, ◌∙◌, subst, List, [], ◌∷◌, ◌++◌, ℕ, zero, suc, ◌+◌, ◌<◌, length, get_or, map, take, drop, Option, Vec, Box, Global, arith, length-take}
use Rattle.std.proofs.lemmas.List.{append-nil, append_assoc, take_more, map-append, length-map}
use Rattle.c_ast.specs.declared.tree.Expr as source
use Rattle.c_ast.specs.Trees as c
use Rattle.c_ast.specs.TreeViews.{expr_of as source_of}
use Rattle.c_typed.specs.declared.types.ValueType.{ValueType}
use Rattle.c_typed.specs.Tree as t
use Rattle.c_types_operators.specs.Rules.{Judged, Fine, both}
use Rattle.c_types_operators.specs.Scopes.{Scope}
use Rattle.c_layout.specs.Layout.{Texts}
use Rattle.c_typed.specs.declared.expr.Expr.{Expr}
use Rattle.c_typed.specs.Views.{boxed_of}
use Rattle.c_types_operators.specs.Operators.{passed, given_to, rest_of, and_then, listed, appended}
use Rattle.c_types_expressions.specs.Expressions.{literals, literals_of, designated, arguments, effect_of, effects, value}
use Rattle.c_types_operators.specs.Judging.{Noted, Judges, Carries, CarriesBoth}
use Rattle.c_types_operators.specs.Views.{exprs_of}
use Rattle.c_types_operators.proofs.JudgingLemmas.{both-alone, both-joined}

pub literals_behind : (xs : List c.Exp) (y : c.Exp) → literals_of (c.exps (xs ++ (y ∷ []))) ≡ literals_of (c.exps xs) ++ literals y
literals_behind [] y = append-nil (literals y)
literals_behind (x ∷ xs) y = ap (λ l. literals x ++ l) (literals_behind xs y) ∙ sym (append_assoc (literals x) (literals_of (c.exps xs)) (literals y))

alone : (j : Judged t.Exp) → both j (Fine t.no_exp) listed ≡ both (Fine t.no_exp) j appended
alone j = both-alone t.no_exp t.an_exp and_then (λ x. refl) j

joined : (j : Judged t.Exp) (k : Judged t.Exps) (l : Judged t.Exp) → both j (both k l appended) listed ≡ both (both j k listed) l appended
joined j k l = both-joined and_then t.an_exp t.an_exp and_then (λ x xs y. refl) j k l

drop-rest : (k : ℕ) (wanted : List ValueType) → rest_of (drop k wanted) ≡ drop (suc k) wanted
drop-rest zero [] = refl
drop-rest zero (x ∷ xs) = refl
drop-rest (suc k) [] = refl
drop-rest (suc k) (x ∷ xs) = drop-rest k xs

one-more : (k : ℕ) → suc k ≡ k + 1
one-more k = omega arith

pub drop-next : (k : ℕ) (wanted : List ValueType) → rest_of (drop k wanted) ≡ drop (k + 1) wanted
drop-next k wanted = drop-rest k wanted ∙ ap (λ n. drop n wanted) (one-more k)

drop-of-rest : (k : ℕ) (wanted : List ValueType) → drop k (rest_of wanted) ≡ drop (suc k) wanted
drop-of-rest zero [] = refl
drop-of-rest (suc k) [] = refl
drop-of-rest k (x ∷ xs) = refl

abbrev passed_in : Scope → c.Exp → List ValueType → Texts → Judged t.Exp
passed_in Γ y left texts = passed left y (designated Γ texts y)

pub arguments-snoc : (Γ : Scope) (n : Texts) (wanted : List ValueType) (xs : List c.Exp) (y : c.Exp) →
    arguments Γ n wanted (c.exps (xs ++ (y ∷ []))) ≡ both (arguments Γ n wanted (c.exps xs)) (passed (drop (length xs) wanted) y (designated Γ (n ++ literals_of (c.exps xs)) y)) appended
arguments-snoc Γ n wanted [] y =
    alone (passed_in Γ y wanted n) ∙ ap (λ texts. both (Fine t.no_exp) (passed_in Γ y wanted texts) appended) (sym (append-nil n))
arguments-snoc Γ n wanted (x ∷ xs) y =
    let first : Judged t.Exp = passed wanted x (designated Γ n x) in
    let others : Judged t.Exps = arguments Γ (n ++ literals x) (rest_of wanted) (c.exps xs) in
    ap (λ l. both first l listed) (arguments-snoc Γ (n ++ literals x) (rest_of wanted) xs y)
    ∙ (joined first others (passed_in Γ y (drop (length xs) (rest_of wanted)) ((n ++ literals x) ++ literals_of (c.exps xs)))
    ∙ (ap (λ left. both (both first others listed) (passed_in Γ y left ((n ++ literals x) ++ literals_of (c.exps xs))) appended) (drop-of-rest (length xs) wanted)
    ∙ ap (λ texts. both (both first others listed) (passed_in Γ y (drop (suc (length xs)) wanted) texts) appended) (append_assoc n (literals x) (literals_of (c.exps xs)))))

pub effects-snoc : (Γ : Scope) (n : Texts) (xs : List c.Exp) (y : c.Exp) →
    effects Γ n (c.exps (xs ++ (y ∷ []))) ≡ both (effects Γ n (c.exps xs)) (effect_of Γ (n ++ literals_of (c.exps xs)) y) appended
effects-snoc Γ n [] y =
    alone (effect_of Γ n y) ∙ ap (λ texts. both (Fine t.no_exp) (effect_of Γ texts y) appended) (sym (append-nil n))
effects-snoc Γ n (x ∷ xs) y =
    ap (λ l. both (effect_of Γ n x) l listed) (effects-snoc Γ (n ++ literals x) xs y)
    ∙ (joined (effect_of Γ n x) (effects Γ (n ++ literals x) (c.exps xs)) (effect_of Γ ((n ++ literals x) ++ literals_of (c.exps xs)) y)
    ∙ ap (λ texts. both (both (effect_of Γ n x) (effects Γ (n ++ literals x) (c.exps xs)) listed) (effect_of Γ texts y) appended) (append_assoc n (literals x) (literals_of (c.exps xs))))

-- what is found so far for a list
abbrev pub Found : (c.Exps → Judged t.Exps) → Noted → List c.Exp → Option (Vec Expr Global) → Noted → Type 0
Found judged before xs row now = Judges exprs_of before (literals_of (c.exps xs)) (judged (c.exps xs)) row now

abbrev pub Another : Option (Vec Expr Global) → Option (Box Expr Global) → Option (Vec Expr Global) → Type 0
Another row x longer = (now : Noted) → CarriesBoth exprs_of boxed_of exprs_of row x now appended longer now

pub one_argument : (Γ : Scope) (wanted : List ValueType) {before s1 s2 now : Noted} (xs : List c.Exp) (y : c.Exp) {row longer : Option (Vec Expr Global)} {x passed_x : Option (Box Expr Global)} →
    Found (arguments Γ before.texts wanted) before xs row s1 → Judges boxed_of s1 (literals y) (value Γ s1.texts y) x s2 →
    Carries boxed_of boxed_of x s2 (given_to (drop (length xs) wanted) y) passed_x now → Another row passed_x longer →
    Found (arguments Γ before.texts wanted) before (xs ++ (y ∷ [])) longer now
one_argument Γ wanted {before} {s1} {s2} {now} xs y {row} {longer} {x} {passed_x} so_far judged given another =
    subst (λ texts. Judges exprs_of before texts (arguments Γ before.texts wanted (c.exps (xs ++ (y ∷ [])))) longer now) (sym (literals_behind xs y))
    (subst (λ j. Judges exprs_of before (literals_of (c.exps xs) ++ literals y) j longer now) (sym (arguments-snoc Γ before.texts wanted xs y))
    ((another now).carries before s1 (literals_of (c.exps xs)) (literals y) (arguments Γ before.texts wanted (c.exps xs)) (λ texts. passed (drop (length xs) wanted) y (designated Γ texts y))
    so_far (given.carries s1 (literals y) (value Γ s1.texts y) judged)))

pub one_effect : (Γ : Scope) {before s1 now : Noted} (xs : List c.Exp) (y : c.Exp) {row longer : Option (Vec Expr Global)} {x : Option (Box Expr Global)} →
    Found (effects Γ before.texts) before xs row s1 → Judges boxed_of s1 (literals y) (effect_of Γ s1.texts y) x now → Another row x longer →
    Found (effects Γ before.texts) before (xs ++ (y ∷ [])) longer now
one_effect Γ {before} {s1} {now} xs y {row} {longer} {x} so_far judged another =
    subst (λ texts. Judges exprs_of before texts (effects Γ before.texts (c.exps (xs ++ (y ∷ [])))) longer now) (sym (literals_behind xs y))
    (subst (λ j. Judges exprs_of before (literals_of (c.exps xs) ++ literals y) j longer now) (sym (effects-snoc Γ before.texts xs y))
    ((another now).carries before s1 (literals_of (c.exps xs)) (literals y) (effects Γ before.texts (c.exps xs)) (λ texts. effect_of Γ texts y) so_far judged))

pub next_sources : (list : List source.Expr) (i : ℕ) (e : source.Expr) → i < length list → e ≡ get_or list i e → map source_of (take (i + 1) list) ≡ map source_of (take i list) ++ (source_of e ∷ [])
next_sources list i e below is =
    ap (map source_of) (take_more list i e below ∙ ap (λ x. take i list ++ (x ∷ [])) (sym is)) ∙ map-append source_of (take i list) (e ∷ [])

number-taken : (list : List source.Expr) (i : ℕ) → i < length list → length (map source_of (take i list)) ≡ i
number-taken list i below = simp (length-map, length-take) (omega arith)

pub next_argument : (Γ : Scope) (wanted left : List ValueType) (list : List source.Expr) (i : ℕ) (e : source.Expr) {before s1 s2 now : Noted} {row longer : Option (Vec Expr Global)} {x passed_x : Option (Box Expr Global)} →
    i < length list → e ≡ get_or list i e → left ≡ drop i wanted →
    Found (arguments Γ before.texts wanted) before (map source_of (take i list)) row s1 → Judges boxed_of s1 (literals (source_of e)) (value Γ s1.texts (source_of e)) x s2 →
    Carries boxed_of boxed_of x s2 (given_to left (source_of e)) passed_x now → Another row passed_x longer →
    Found (arguments Γ before.texts wanted) before (map source_of (take (i + 1) list)) longer now
next_argument Γ wanted left list i e {before} {s1} {s2} {now} {row} {longer} {x} {passed_x} below is rest so_far judged given another =
    subst (λ xs. Found (arguments Γ before.texts wanted) before xs longer now) (sym (next_sources list i e below is))
    (one_argument Γ wanted (map source_of (take i list)) (source_of e) so_far judged
    (subst (λ ws. Carries boxed_of boxed_of x s2 (given_to ws (source_of e)) passed_x now) (rest ∙ ap (λ k. drop k wanted) (sym (number-taken list i below))) given)
    another)

pub next_effect : (Γ : Scope) (list : List source.Expr) (i : ℕ) (e : source.Expr) {before s1 now : Noted} {row longer : Option (Vec Expr Global)} {x : Option (Box Expr Global)} →
    i < length list → e ≡ get_or list i e →
    Found (effects Γ before.texts) before (map source_of (take i list)) row s1 → Judges boxed_of s1 (literals (source_of e)) (effect_of Γ s1.texts (source_of e)) x now → Another row x longer →
    Found (effects Γ before.texts) before (map source_of (take (i + 1) list)) longer now
next_effect Γ list i e {before} {s1} {now} {row} {longer} below is so_far judged another =
    subst (λ xs. Found (effects Γ before.texts) before xs longer now) (sym (next_sources list i e below is))
    (one_effect Γ (map source_of (take i list)) (source_of e) so_far judged another)
