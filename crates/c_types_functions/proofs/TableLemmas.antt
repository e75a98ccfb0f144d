-- Tables of functions, seen as plain data.
use Rattle.std.proofs.Common.{◌≡◌, refl, ap, ap₂, sym, ◌∙◌, ℕ, suc, List, [], ◌∷◌, ◌++◌, map, Option, Some, None, Bool, true, false, cond, bytes_eq, is_some}
use Rattle.std.specs.Option.{option_map}
use Rattle.c_scopes.specs.Scopes as s
use Rattle.c_scopes.specs.Scopes.{Named, meaning, with_name}
use Rattle.c_types_operators.specs.declared.scope.Function as code_function
use Rattle.c_types_operators.specs.Scopes.{Function}
use Rattle.c_types_operators.specs.ScopeViews.{function_of, functions_of}

pub meaning_of : (name : List ℕ) (table : s.Scope code_function.Function) → meaning name (functions_of table) ≡ option_map function_of (meaning name table)
meaning_of name [] = refl
meaning_of name (entry ∷ table) = by_test (bytes_eq name entry.name) (meaning_of name table) where
  by_test : (b : Bool) → meaning name (functions_of table) ≡ option_map function_of (meaning name table) →
      cond b (Some (function_of entry.meant)) (meaning name (functions_of table)) ≡ option_map function_of (cond b (Some entry.meant) (meaning name table))
  by_test true rest = refl
  by_test false rest = rest

pub is_some_of : {A B : Type 0} (f : A → B) (o : Option A) → is_some (option_map f o) ≡ is_some o
is_some_of f None = refl
is_some_of f (Some a) = refl

functions-last : (table : s.Scope code_function.Function) (e : Named code_function.Function) →
    functions_of (table ++ e ∷ []) ≡ functions_of table ++ record { name = e.name; meant = function_of e.meant } ∷ []
functions-last [] e = refl
functions-last (x ∷ table) e = ap (λ rest. record { name = x.name; meant = function_of x.meant } ∷ rest) (functions-last table e)

-- one more function
pub functions_more : (name : List ℕ) (f : code_function.Function) (table : s.Scope code_function.Function) →
    functions_of (with_name name f table) ≡ with_name name (function_of f) (functions_of table)
functions_more name f table =
    by_known (is_some (meaning name table))
    ∙ ap (λ b. cond b (functions_of table) (functions_of table ++ record { name = name; meant = function_of f } ∷ []))
    (sym (ap is_some (meaning_of name table) ∙ is_some_of function_of (meaning name table))) where
      by_known : (b : Bool) → functions_of (cond b table (table ++ record { name = name; meant = f } ∷ [])) ≡
          cond b (functions_of table) (functions_of table ++ record { name = name; meant = function_of f } ∷ [])
      by_known true = refl
      by_known false = functions-last table (record { name = name; meant = f })
