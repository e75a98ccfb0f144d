-- What a declaration of a variable means, from what the code finds for it.
use Rattle.std.proofs.Common.{◌≡◌, refl, ap, sym, ◌∙◌, subst, ℕ, Bool, true, false, not, ◌&&◌, List, ◌++◌, Option}
use Rattle.c_ast.specs.Trees as c
use Rattle.c_typed.specs.Tree as t
use Rattle.c_typed.specs.declared.program.Home.{Home}
use Rattle.c_layout.specs.declared.shape.Shape.{Shape}
use Rattle.c_types_homes.specs.Declarators.{declared_name, declared_place, declared_shape, init_of}
use Rattle.c_scopes.specs.Scopes.{is_own}
use Rattle.c_typed.specs.declared.rule.Rule.TheVariants.{Redeclared, BadType}
use Rattle.c_types_operators.specs.declared.rule.Breach.{Breach}
use Rattle.c_types_operators.specs.declared.scope.Lives.{Lives}
use Rattle.c_types_operators.specs.Rules.{first_from}
use Rattle.c_types_operators.specs.Scopes.{Scope, with_variable}
use Rattle.c_types_operators.specs.Parts.{broken_if, also}
use Rattle.c_types_declarators.specs.Declarations.{is_bad_declarator, declarator_breaches}
use Rattle.c_types_statements.specs.Statements.{redeclared_in, stored_first, home_at, lives, with_local, local}
use Rattle.c_types_statements.specs.Keeping.{Seen, Types, Finds, past_local}
use Rattle.c_types_statements.proofs.Typed.{finds_both}

-- a local with this shape and this home, whose variable lives there
abbrev LocalAs : Seen → Seen → c.Decl → Option t.Maybe → Shape → Home → Lives → Type 0
LocalAs old new d answer shape home at =
    let Γ = with_variable (declared_name d) (record { shape = shape; lives = at }) old.scope in
    Types old new Γ (past_local d old.at)
    (also (redeclared_in old.scope (declared_name d) (declared_place d) ++ declarator_breaches d) (stored_first Γ old.at.texts (declared_place d) shape home (init_of d)))
    answer

pub local_is : {old new : Seen} {answer : Option t.Maybe} {shape : Shape} {home : Home} {at : Lives} {k : ℕ} (homes : List Home) (d : c.Decl) →
    shape ≡ declared_shape d → k ≡ old.at.variable → home ≡ home_at homes k → at ≡ lives home → LocalAs old new d answer shape home at →
    Types old new (with_local homes old.at.variable d old.scope) (past_local d old.at) (local homes old.scope old.at.variable old.at.texts d) answer
local_is {old} {new} {answer} {shape} {home} {at} {k} homes d shaped numbered housed living h =
    let home-is : home ≡ home_at homes old.at.variable = housed ∙ ap (home_at homes) numbered in
    let at-is : at ≡ lives (home_at homes old.at.variable) = living ∙ ap lives home-is in
    subst (λ a. LocalAs old new d answer (declared_shape d) (home_at homes old.at.variable) a) at-is
    (subst (λ m. LocalAs old new d answer (declared_shape d) m at) home-is (subst (λ s. LocalAs old new d answer s home at) shaped h))

-- what the code finds where it declares the name
redeclared_when : (Γ : Scope) (d : c.Decl) (new : Bool) → new ≡ not (is_own (declared_name d) Γ.scopes) →
    broken_if (not new) Redeclared (declared_place d) ≡ redeclared_in Γ (declared_name d) (declared_place d)
redeclared_when Γ d new is = ap (λ b. broken_if (not b) Redeclared (declared_place d)) is ∙ twice (is_own (declared_name d) Γ.scopes) where
  twice : (b : Bool) → broken_if (not (not b)) Redeclared (declared_place d) ≡ broken_if b Redeclared (declared_place d)
  twice true = refl
  twice false = refl

finds_behind : {s0 s1 s2 : Seen} {Γ : Scope} {xs : List Breach} {fine : Bool} → s1 ≡ record s0 { scope = Γ } → Finds s1 s2 s1.scope xs fine → Finds s0 s2 Γ xs fine
finds_behind {xs = xs} is h = record { noted = h.noted ∙ ap {A = Seen} (λ s. record s { first = first_from s.first xs }) is; tells = h.tells }

-- what it finds of a declarator
pub declares : {s0 s1 s2 s3 : Seen} {Γ : Scope} {new bad own good fine : Bool} (d : c.Decl) →
    bad ≡ is_bad_declarator d → new ≡ not (is_own (declared_name d) s0.scope.scopes) → s1 ≡ record s0 { scope = Γ } →
    Finds s1 s2 s1.scope (broken_if (not new) Redeclared (declared_place d)) own → Finds s2 s3 s2.scope (broken_if bad BadType (declared_place d)) good →
    fine ≡ (own && good) → Finds s0 s3 Γ (redeclared_in s0.scope (declared_name d) (declared_place d) ++ declarator_breaches d) fine
declares {s0} {s1} {s2} {s3} {Γ} {new} {bad} {own} {good} {fine} d bad-is new-is declared one other is =
    subst (λ b. Finds s0 s3 Γ (redeclared_in s0.scope (declared_name d) (declared_place d) ++ declarator_breaches d) b) (sym is)
    (finds_both (λ Γ. declarator_breaches d)
    (subst (λ found. Finds s0 s2 Γ found own) (redeclared_when s0.scope d new new-is) (finds_behind declared one))
    (subst (λ b. Finds s2 s3 s2.scope (broken_if b BadType (declared_place d)) good) bad-is other))
