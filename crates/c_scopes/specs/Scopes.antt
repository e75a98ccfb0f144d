-- The scopes of a block-structured language.
use Rattle.std.specs.Prelude.{ℕ, List, [], ◌∷◌, ◌++◌, map, Option, Some, None, Bool, bytes_eq, is_some, if◌then◌else◌}
use Rattle.std.specs.Borrow.{Bor}

-- a name and what it means
pub record Named (A : Type 0) : Type 0 where
  pub name : List ℕ
  pub meant : A

-- what the names of a scope mean, in the order of their declarations
abbrev pub Scope : Type 0 → Type 0
Scope A = List (Named A)

-- a scope whose names are kept elsewhere
abbrev pub scope_of : {A : Type 0} → List (Bor (List ℕ) × A) → Scope A
scope_of entries = map (λ entry. record { name = entry.0.now; meant = entry.1 }) entries

-- what a scope says of a name
abbrev pub meaning : {A : Type 0} → List ℕ → Scope A → Option A
meaning name [] = None
meaning name (entry ∷ scope) = if bytes_eq name entry.name then Some entry.meant else meaning name scope

-- the scopes that are open: the innermost, and those around it from the inside out
pub record Scopes (A : Type 0) : Type 0 where
  pub innermost : Scope A
  pub around : List (Scope A)

-- the outermost scope alone, which declares no name yet
abbrev pub outermost : {A : Type 0} → Scopes A
outermost = record { innermost = []; around = [] }

-- with one more scope, within the others
abbrev pub entered : {A : Type 0} → Scopes A → Scopes A
entered scopes = record { innermost = []; around = scopes.innermost ∷ scopes.around }

abbrev pub opened : {A : Type 0} → List (Scope A) → Scopes A
opened [] = outermost
opened (scope ∷ around) = record { innermost = scope; around = around }

-- behind the innermost scope; the outermost is always open
abbrev pub left : {A : Type 0} → Scopes A → Scopes A
left scopes = opened scopes.around

-- an outer scope's meaning, where an inner one gives none
abbrev pub or_outer : {A : Type 0} → Option A → Option A → Option A
or_outer (Some meant) outer = Some meant
or_outer None outer = outer

-- what the first of these scopes says that declares the name
abbrev pub first_meaning : {A : Type 0} → List ℕ → List (Scope A) → Option A
first_meaning name [] = None
first_meaning name (scope ∷ around) = or_outer (meaning name scope) (first_meaning name around)

-- what a name means: what the innermost scope says that declares it
abbrev pub found : {A : Type 0} → List ℕ → Scopes A → Option A
found name scopes = or_outer (meaning name scopes.innermost) (first_meaning name scopes.around)

-- the innermost scope declares the name
abbrev pub is_own : {A : Type 0} → List ℕ → Scopes A → Bool
is_own name scopes = is_some (meaning name scopes.innermost)

-- with one more name; the first declaration of a name stays
abbrev pub with_name : {A : Type 0} → List ℕ → A → Scope A → Scope A
with_name name meant scope = if is_some (meaning name scope) then scope else scope ++ (record { name = name; meant = meant } ∷ [])

-- with one more name in the innermost scope
abbrev pub declared : {A : Type 0} → List ℕ → A → Scopes A → Scopes A
declared name meant scopes = record scopes { innermost = with_name name meant scopes.innermost }
