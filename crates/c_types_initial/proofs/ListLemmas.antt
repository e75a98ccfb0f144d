-- The elements of a list are judged from the first on.
use Rattle.std.proofs.Common.{◌≡◌, refl, ap, sym, ◌∙◌, subst, List, [], ◌∷◌, ◌++◌, ℕ, ◌+◌, ◌<◌, length, get_or, map, take, Option}
use Rattle.std.proofs.lemmas.List.{append-nil, append_assoc}
use Rattle.ib_meaning.specs.declared.place.Place.{Place}
use Rattle.c_ast.specs.declared.tree.Expr as source
use Rattle.c_ast.specs.Trees as c
use Rattle.c_ast.specs.TreeViews.{expr_of}
use Rattle.c_typed.specs.declared.types.ValueType.{ValueType}
use Rattle.c_layout.specs.declared.data.Datum.{Datum}
use Rattle.c_layout.specs.Layout.{Texts}
use Rattle.c_types_operators.specs.Rules.{Judged, Fine, Broken, both}
use Rattle.c_types_operators.specs.Parts.{◌<*>◌}
use Rattle.c_types_operators.specs.Scopes.{Scope}
use Rattle.c_types_operators.specs.Judging.{Noted, Judges, CarriesBoth}
use Rattle.c_types_operators.proofs.JudgingLemmas.{both-alone, both-joined}
use Rattle.c_types_expressions.specs.Expressions.{literals, literals_of}
use Rattle.c_types_expressions.proofs.ArgumentLemmas.{literals_behind, next_sources}
use Rattle.c_types_initial.specs.Constants.{datum, data_of}

-- with one more before the others, and behind them
abbrev before : Datum → List Datum → Judged (List Datum)
before x xs = Fine (x ∷ xs)

abbrev behind : List Datum → Datum → Judged (List Datum)
behind xs x = Fine (xs ++ (x ∷ []))

as-both : (j : Judged Datum) (k : Judged (List Datum)) → (Fine ◌∷◌ <*> j <*> k) ≡ both j k before
as-both (Fine x) (Fine xs) = refl
as-both (Fine x) (Broken first more) = refl
as-both (Broken first more) k = refl

alone : (j : Judged Datum) → both j (Fine []) before ≡ both (Fine []) j behind
alone j = both-alone [] ◌∷◌ (λ xs x. xs ++ (x ∷ [])) (λ x. refl) j

joined : (j : Judged Datum) (k : Judged (List Datum)) (l : Judged Datum) → both j (both k l behind) before ≡ both (both j k before) l behind
joined j k l = both-joined (λ xs x. xs ++ (x ∷ [])) ◌∷◌ ◌∷◌ (λ xs x. xs ++ (x ∷ [])) (λ x xs y. refl) j k l

data_of-snoc : (Γ : Scope) (n : Texts) (p : Place) (ty : ValueType) (xs : List c.Exp) (y : c.Exp) →
    data_of Γ n p ty (xs ++ (y ∷ [])) ≡ both (data_of Γ n p ty xs) (datum Γ (n ++ literals_of (c.exps xs)) p ty y) behind
data_of-snoc Γ n p ty [] y =
    as-both (datum Γ n p ty y) (Fine []) ∙ (alone (datum Γ n p ty y) ∙ ap (λ texts. both (Fine []) (datum Γ texts p ty y) behind) (sym (append-nil n)))
data_of-snoc Γ n p ty (x ∷ xs) y =
    let first : Judged Datum = datum Γ n p ty x in
    let others : Judged (List Datum) = data_of Γ (n ++ literals x) p ty xs in
    as-both first (data_of Γ (n ++ literals x) p ty (xs ++ (y ∷ [])))
    ∙ (ap (λ l. both first l before) (data_of-snoc Γ (n ++ literals x) p ty xs y)
    ∙ (joined first others (datum Γ ((n ++ literals x) ++ literals_of (c.exps xs)) p ty y)
    ∙ (ap (λ l. both l (datum Γ ((n ++ literals x) ++ literals_of (c.exps xs)) p ty y) behind) (sym (as-both first others))
    ∙ ap (λ texts. both (Fine ◌∷◌ <*> first <*> others) (datum Γ texts p ty y) behind) (append_assoc n (literals x) (literals_of (c.exps xs))))))

-- what is found so far for a list
abbrev pub Found : Scope → Noted → Place → ValueType → List c.Exp → Option (List Datum) → Noted → Type 0
Found Γ before p ty xs held now = Judges (λ held. held) before (literals_of (c.exps xs)) (data_of Γ before.texts p ty xs) held now

abbrev pub Another : Option (List Datum) → Option Datum → Option (List Datum) → Type 0
Another held x longer = (now : Noted) → CarriesBoth (λ held. held) (λ x. x) (λ held. held) held x now behind longer now

one_datum : (Γ : Scope) (p : Place) (ty : ValueType) {before s1 now : Noted} (xs : List c.Exp) (y : c.Exp) {held longer : Option (List Datum)} {x : Option Datum} →
    Found Γ before p ty xs held s1 → Judges (λ x. x) s1 (literals y) (datum Γ s1.texts p ty y) x now → Another held x longer →
    Found Γ before p ty (xs ++ (y ∷ [])) longer now
one_datum Γ p ty {before} {s1} {now} xs y {held} {longer} {x} so_far judged another =
    subst (λ texts. Judges (λ held. held) before texts (data_of Γ before.texts p ty (xs ++ (y ∷ []))) longer now) (sym (literals_behind xs y))
    (subst (λ j. Judges (λ held. held) before (literals_of (c.exps xs) ++ literals y) j longer now) (sym (data_of-snoc Γ before.texts p ty xs y))
    ((another now).carries before s1 (literals_of (c.exps xs)) (literals y) (data_of Γ before.texts p ty xs) (λ texts. datum Γ texts p ty y) so_far judged))

pub next_datum : (Γ : Scope) (p : Place) (ty : ValueType) (list : List source.Expr) (i : ℕ) (e : source.Expr) {before s1 now : Noted} {held longer : Option (List Datum)} {x : Option Datum} →
    i < length list → e ≡ get_or list i e →
    Found Γ before p ty (map expr_of (take i list)) held s1 → Judges (λ x. x) s1 (literals (expr_of e)) (datum Γ s1.texts p ty (expr_of e)) x now → Another held x longer →
    Found Γ before p ty (map expr_of (take (i + 1) list)) longer now
next_datum Γ p ty list i e {before} {s1} {now} {held} {longer} below is so_far judged another =
    subst (λ xs. Found Γ before p ty xs longer now) (sym (next_sources list i e below is))
    (one_datum Γ p ty (map expr_of (take i list)) (expr_of e) so_far judged another)
