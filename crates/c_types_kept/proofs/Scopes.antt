-- What is known of the names that can be used at a place.
use Rattle.std.proofs.Common.{ℕ, List, [], ◌∷◌, ◌++◌, Option, Some, None, refl}
use Rattle.std.specs.Prelude.{bytes_eq, is_some}
use Rattle.c_typed.specs.declared.types.ValueType.{ValueType}
use Rattle.c_typed.specs.Program.{Program}
use Rattle.c_scopes.specs.Scopes as s
use Rattle.c_scopes.specs.Scopes.{Named, meaning, or_outer, with_name, declared}
use Rattle.c_types_operators.specs.declared.scope.Variable.{Variable}
use Rattle.c_types_operators.specs.Scopes.{Scope, Function, or_function, found, with_variable, inner}
use Rattle.c_types_kept.proofs.Judgements.{by_test, Yields, some, none}
use Rattle.c_types_kept.proofs.Operators.{KeepsVariable, KeepsFunctionName, KeepsMeant}

-- ---- what all names of a scope mean

module _ {A : Type 0} (P : A → Type 0) where
  abbrev pub AllMean : s.Scope A → Type 0
  AllMean [] = Unit {0}
  AllMean (entry ∷ scope) = P entry.meant × AllMean scope

  abbrev AllAround : List (s.Scope A) → Type 0
  AllAround [] = Unit {0}
  AllAround (scope ∷ around) = AllMean scope × AllAround around

  abbrev pub AllInMean : s.Scopes A → Type 0
  AllInMean scopes = AllMean scopes.innermost × AllAround scopes.around

  pub meaning_is : (name : List ℕ) (scope : s.Scope A) → AllMean scope → Yields P (meaning name scope)
  meaning_is name [] h = none
  meaning_is name (entry ∷ scope) h = by_test (Yields P) (bytes_eq name entry.name) (Some entry.meant) (meaning name scope) (λ _. some h.0) (λ _. meaning_is name scope h.1)

  outer_is : (a b : Option A) → Yields P a → Yields P b → Yields P (or_outer a b)
  outer_is (Some x) b g h = g
  outer_is None b g h = h

  around_is : (name : List ℕ) (scopes : List (s.Scope A)) → AllAround scopes → Yields P (s.first_meaning name scopes)
  around_is name [] h = none
  around_is name (scope ∷ around) h = outer_is (meaning name scope) (s.first_meaning name around) (meaning_is name scope h.0) (around_is name around h.1)

  pub found_is : (name : List ℕ) (scopes : s.Scopes A) → AllInMean scopes → Yields P (s.found name scopes)
  found_is name scopes h = outer_is (meaning name scopes.innermost) (s.first_meaning name scopes.around) (meaning_is name scopes.innermost h.0) (around_is name scopes.around h.1)

  behind_all : (scope : s.Scope A) (entry : Named A) → AllMean scope → P entry.meant → AllMean (scope ++ (entry ∷ []))
  behind_all [] entry h k = (k, tt)
  behind_all (x ∷ scope) entry h k = (h.0, behind_all scope entry h.1 k)

  pub with_name_is : (name : List ℕ) (meant : A) (scope : s.Scope A) → AllMean scope → P meant → AllMean (with_name name meant scope)
  with_name_is name meant scope h k = by_test AllMean (is_some (meaning name scope)) scope (scope ++ (record { name = name; meant = meant } ∷ [])) (λ _. h) (λ _. behind_all scope (record { name = name; meant = meant }) h k)

  declared_is : (name : List ℕ) (meant : A) (scopes : s.Scopes A) → AllInMean scopes → P meant → AllInMean (declared name meant scopes)
  declared_is name meant scopes h k = (with_name_is name meant scopes.innermost h.0 k, h.1)

-- ---- in a function of a program with such variables

module _ (p : Program) (kinds : List ValueType) where
  abbrev pub KeepsOne : Variable → Type 0
  KeepsOne v = KeepsVariable p kinds v.shape v.lives

  pub record KeepsScope (Γ : Scope) : Type 0 where
    pub variables : AllInMean KeepsOne Γ.scopes
    pub functions : (name : List ℕ) → Yields (KeepsFunctionName p kinds) (meaning name Γ.functions)

  either_is : (v : Option Variable) (f : Option Function) → Yields KeepsOne v → Yields (KeepsFunctionName p kinds) f → Yields (KeepsMeant p kinds) (or_function v f)
  either_is (Some v) f g h = some (g.by v refl)
  either_is None (Some f) g h = some (h.by f refl)
  either_is None None g h = none

  pub found_kept : (name : List ℕ) (Γ : Scope) → KeepsScope Γ → Yields (KeepsMeant p kinds) (found name Γ)
  found_kept name Γ g = either_is (s.found name Γ.scopes) (meaning name Γ.functions) (found_is KeepsOne name Γ.scopes g.variables) (g.functions name)

  pub with_variable_kept : (name : List ℕ) (v : Variable) (Γ : Scope) → KeepsScope Γ → KeepsOne v → KeepsScope (with_variable name v Γ)
  with_variable_kept name v Γ g h = record { variables = declared_is KeepsOne name v Γ.scopes g.variables h; functions = g.functions }

  pub inner_kept : (Γ : Scope) → KeepsScope Γ → KeepsScope (inner Γ)
  inner_kept Γ g = record { variables = (tt, g.variables); functions = g.functions }
