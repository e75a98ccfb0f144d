-- Globals one behind the other: those that are left mean, with those before them, what all mean.
use Rattle.std.proofs.Common.{◌≡◌, refl, ap, ap₂, sym, ◌∙◌, subst, ℕ, suc, ◌+◌, arith, Bool, cond, List, [], ◌∷◌, ◌++◌, length, Option, Some, None}
use Rattle.std.specs.Option.{option_map}
use Rattle.std.proofs.lemmas.List.{append-nil, append_assoc}
use Rattle.ib_meaning.specs.declared.place.Place.{Place}
use Rattle.c_ast.specs.Trees as c
use Rattle.c_typed.specs.declared.expr.Storage.TheVariants.{Global}
use Rattle.c_layout.specs.declared.shape.Shape.{Shape}
use Rattle.c_layout.specs.declared.data.Datum.{Datum}
use Rattle.c_layout.specs.declared.data.GlobalData.{GlobalData}
use Rattle.c_layout.specs.Layout.{Texts}
use Rattle.c_types_homes.specs.Declarators.{declared_name, declared_place, declared_shape, init_of}
use Rattle.c_typed.specs.declared.rule.Rule.TheVariants.{BadType}
use Rattle.c_types_operators.specs.declared.rule.Breach.{Breach}
use Rattle.c_types_operators.specs.declared.scope.Variable.{Variable}
use Rattle.c_types_operators.specs.declared.scope.Lives.TheVariants.{InMemory}
use Rattle.c_types_operators.specs.Rules.{Fine, first_from}
use Rattle.c_types_operators.specs.Scopes.{Scope, with_variable}
use Rattle.c_types_operators.specs.Parts.{broken_if, ◌<*>◌, also}
use Rattle.c_types_declarators.specs.Declarations.{is_bad_declarator}
use Rattle.c_types_initial.specs.Constants.{shape_data, laid_out}
use Rattle.c_types_statements.specs.Statements.{At, past_texts}
use Rattle.c_types_statements.specs.Keeping.{Seen, Types, Finds, counted, ◌<?>◌}
use Rattle.c_types_statements.proofs.Typed.{makes, with_part, also_typed, after, Leads, leads_all, leads_on, leads_end}
use Rattle.c_types.specs.Making.{and_global, past_global, past_globals}
use Rattle.c_types_units.specs.Units.{a_global, with_global, with_globals, global_texts, globals_texts, global, globals}

-- the same answer, with nothing done to it
pub same_option : {A : Type 0} (x : Option A) → x ≡ option_map (λ a. a) x
same_option (Some a) = refl
same_option None = refl

-- ---- one global

-- what is found where a name was declared just before
pub finds_behind : {s0 s1 s2 : Seen} {Γ : Scope} {found : List Breach} {fine : Bool} → s1 ≡ record s0 { scope = Γ } → Finds s1 s2 s1.scope found fine → Finds s0 s2 Γ found fine
finds_behind {found = found} is h = record { noted = h.noted ∙ ap {A = Seen} (λ s. record s { first = first_from s.first found }) is; tells = h.tells }

abbrev variable_of : Shape → ℕ → Variable
variable_of shape k = record { shape = shape; lives = InMemory (Global k) }

-- global k with this shape, which breaks the rule on types or not
abbrev GlobalAs : Seen → Seen → c.Decl → Shape → ℕ → Bool → Option GlobalData → Type 0
GlobalAs old new d shape k bad answer =
    let Γ = with_variable (declared_name d) (variable_of shape k) old.scope in
    Types old new Γ (past_texts (laid_out shape (init_of d)) (counted old.at))
    (also (broken_if bad BadType (declared_place d)) (Fine (a_global shape) <*> shape_data Γ old.at.texts (declared_place d) shape (init_of d)))
    answer

-- a global, from what the code finds for it one behind the other
pub global_is : {s0 s1 s2 s3 s4 : Seen} {shape : Shape} {k : ℕ} {bad fine : Bool} {held : Option (List Datum)} {answer : Option GlobalData} (d : c.Decl) →
    shape ≡ declared_shape d → k ≡ s0.at.variable → bad ≡ is_bad_declarator d →
    s1 ≡ record s0 { at = counted s0.at } → s2 ≡ record s1 { scope = with_variable (declared_name d) (variable_of shape k) s1.scope } →
    Finds s2 s3 s2.scope (broken_if bad BadType (declared_place d)) fine →
    Types s3 s4 s3.scope (past_texts (laid_out shape (init_of d)) s3.at) (shape_data s3.scope s3.at.texts (declared_place d) shape (init_of d)) held →
    answer ≡ cond fine (Some (a_global shape) <?> held) None →
    Types s0 s4 (with_global s0.at.variable d s0.scope) (past_global d s0.at) (global s0.scope s0.at.variable s0.at.texts d) answer
global_is {s0} {s1} {s2} {s3} {s4} {shape} {k} {bad} {fine} {held} {answer} d shaped numbered bad-is counts declares finds h is =
    let name = declared_name d in
    let init = init_of d in
    let place = declared_place d in
    let v = variable_of shape k in
    let all : GlobalAs s0 s4 d shape k bad answer =
    after counted (λ Γ at. with_variable name v Γ) (λ Γ at. past_texts (laid_out shape init) at)
    (λ Γ at. also (broken_if bad BadType place) (Fine (a_global shape) <*> shape_data (with_variable name v Γ) at.texts place shape init)) counts
    (also_typed (λ Γ at. Γ) (λ Γ at. past_texts (laid_out shape init) at) (λ Γ at. Fine (a_global shape) <*> shape_data Γ at.texts place shape init)
    (finds_behind declares finds)
    (with_part (λ Γ at. Γ) (λ Γ at. past_texts (laid_out shape init) at) (λ Γ at. shape_data Γ at.texts place shape init) (makes (a_global shape)) h) is) in
    subst (λ b. GlobalAs s0 s4 d (declared_shape d) s0.at.variable b answer) bad-is
    (subst (λ n. GlobalAs s0 s4 d (declared_shape d) n bad answer) numbered (subst (λ s. GlobalAs s0 s4 d s k bad answer) shaped all))

-- ---- the globals of a declaration

abbrev and_globals : List GlobalData → List GlobalData → List GlobalData
and_globals gs hs = gs ++ hs

global_step : (xs : Option (List GlobalData)) (x : Option GlobalData) (o : Option (List GlobalData)) →
    (Some and_globals <?> (Some and_global <?> xs <?> x) <?> o) ≡ (Some and_globals <?> xs <?> (Some ◌∷◌ <?> x <?> o))
global_step None x o = refl
global_step (Some xs) None o = refl
global_step (Some xs) (Some x) None = refl
global_step (Some xs) (Some x) (Some ys) = ap Some (append_assoc xs (x ∷ []) ys)

globals_of : (xs : Option (List GlobalData)) → xs ≡ (Some and_globals <?> xs <?> Some [])
globals_of None = refl
globals_of (Some xs) = ap Some (sym (append-nil xs))

abbrev at_with : ℕ → List Place → Texts → At
at_with n places texts = record { variable = n; places = places; texts = texts }

same_at : {m n : ℕ} {places : List Place} {xs ys : Texts} → m ≡ n → xs ≡ ys → at_with m places xs ≡ at_with n places ys
same_at {m} {n} {places} {xs} {ys} e f = ap (λ k. at_with k places xs) e ∙ ap (λ l. at_with n places l) f

none-more : (n : ℕ) → n ≡ n + 0
none-more n = omega arith

one-more : (m n : ℕ) → suc m + n ≡ m + suc n
one-more m n = omega arith

past_no_globals : (at : At) → at ≡ past_globals [] at
past_no_globals at = same_at (none-more at.variable) (sym (append-nil at.texts))

past_more_globals : (d : c.Decl) (ds : List c.Decl) (at : At) → past_globals ds (past_global d at) ≡ past_globals (d ∷ ds) at
past_more_globals d ds at = same_at (one-more at.variable (length ds)) (append_assoc at.texts (global_texts d) (globals_texts ds))

pub record GlobalsLeft (old now : Seen) (made : Option (List GlobalData)) (left all : List c.Decl) : Type 0 where
  pub known : with_globals now.at.variable left now.scope ≡ with_globals old.at.variable all old.scope
  pub behind : past_globals left now.at ≡ past_globals all old.at
  pub leads : Leads old now (Some and_globals <?> made) (globals now.scope now.at.variable now.at.texts left) (globals old.scope old.at.variable old.at.texts all)

pub all_globals : {s : Seen} {gs : List GlobalData} (all : List c.Decl) → gs ≡ [] → GlobalsLeft s s (Some gs) all all
all_globals {s} all empty =
    subst (λ gs. GlobalsLeft s s (Some gs) all all) (sym empty) (record { known = refl; behind = refl; leads = leads_all (and_globals []) (λ gs. refl) })

pub next_global : {s0 s1 s2 : Seen} {gs longer : Option (List GlobalData)} {left : List c.Decl} {y : Option GlobalData} (d : c.Decl) (rest all : List c.Decl) →
    left ≡ d ∷ rest → GlobalsLeft s0 s1 gs left all →
    Types s1 s2 (with_global s1.at.variable d s1.scope) (past_global d s1.at) (global s1.scope s1.at.variable s1.at.texts d) y →
    longer ≡ (Some and_global <?> gs <?> y) → GlobalsLeft s0 s2 longer rest all
next_global {s0} {s1} {s2} {gs} {longer} {left} {y} d rest all is so_far h made =
    let before : GlobalsLeft s0 s1 gs (d ∷ rest) all = subst (λ l. GlobalsLeft s0 s1 gs l all) is so_far in
    subst (λ l. GlobalsLeft s0 s2 l rest all) (sym made) (record {
      known = ap₂ (λ at Γ. with_globals at.variable rest Γ) h.behind h.known ∙ before.known;
      behind = ap (past_globals rest) h.behind ∙ past_more_globals d rest s1.at ∙ before.behind;
      leads = leads_on ◌∷◌ (λ Γ at. globals Γ at.variable at.texts rest) before.leads h (global_step gs y);
    })

pub no_more_globals : {s0 s : Seen} {gs : Option (List GlobalData)} {left : List c.Decl} (all : List c.Decl) → left ≡ [] → GlobalsLeft s0 s gs left all →
    Types s0 s (with_globals s0.at.variable all s0.scope) (past_globals all s0.at) (globals s0.scope s0.at.variable s0.at.texts all) gs
no_more_globals {s0} {s} {gs} all is so_far =
    let done : GlobalsLeft s0 s gs [] all = subst (λ l. GlobalsLeft s0 s gs l all) is so_far in
    leads_end done.leads done.known (past_no_globals s.at ∙ done.behind) (globals_of gs)
