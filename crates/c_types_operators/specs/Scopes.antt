-- What the names mean that can be used at a place.
use Rattle.std.specs.Prelude.{ℕ, List, Option, Some, None}
use Rattle.c_typed.specs.declared.types.ValueType.{ValueType}
use Rattle.c_types_operators.specs.declared.scope.Variable.{Variable}
use Rattle.c_types_operators.specs.declared.scope.Callee.{Callee}
use Rattle.c_scopes.specs.Scopes as s
use Rattle.c_scopes.specs.Scopes.{meaning, declared, entered, left}

pub record Signature : Type 0 where
  pub result : ValueType
  pub params : List ValueType

pub record Function : Type 0 where
  pub signature : Signature
  pub callee : Callee

-- what a name means
pub data Meant : Type 0 where
  variable : Variable → Meant
  function : Function → Meant

-- the variables of the scopes that are open, and the functions of the file
pub record Scope : Type 0 where
  pub scopes : s.Scopes Variable
  pub functions : s.Scope Function

abbrev pub or_function : Option Variable → Option Function → Option Meant
or_function (Some v) f = Some (variable v)
or_function None (Some f) = Some (function f)
or_function None None = None

-- a function is known in the whole file, where no variable hides it
abbrev pub found : List ℕ → Scope → Option Meant
found name Γ = or_function (s.found name Γ.scopes) (meaning name Γ.functions)

-- with one more variable in the innermost scope
abbrev pub with_variable : List ℕ → Variable → Scope → Scope
with_variable name v Γ = record Γ { scopes = declared name v Γ.scopes }

-- a scope within another
abbrev pub inner : Scope → Scope
inner Γ = record Γ { scopes = entered Γ.scopes }

-- behind its innermost scope; the outermost is always open
abbrev pub outer : Scope → Scope
outer Γ = record Γ { scopes = left Γ.scopes }
