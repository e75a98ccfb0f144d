-- What is made of the items of a file, part by part.
use Rattle.std.specs.Prelude.{ℕ, ◌+◌, false, List, [], ◌∷◌, ◌++◌, length}
use Rattle.c_ast.specs.Trees as c
use Rattle.c_typed.specs.declared.types.ValueType.{ValueType}
use Rattle.c_typed.specs.declared.program.Home.{Home}
use Rattle.c_typed.specs.declared.program.Param.{Param}
use Rattle.c_typed.specs.Tree as t
use Rattle.c_layout.specs.declared.data.GlobalData.{GlobalData}
use Rattle.c_types_homes.specs.Declarators.{param_type}
use Rattle.c_types_operators.specs.Rules.{Judged}
use Rattle.c_types_operators.specs.Scopes.{Scope, inner}
use Rattle.c_types_functions.specs.Functions.{Head}
use Rattle.c_types_statements.specs.Statements.{At, past_texts, home_at, statements, places_of, literals_in_all}
use Rattle.c_types_statements.specs.Keeping.{Seen, counted}
use Rattle.c_types_units.specs.Units.{global_texts, globals_texts, with_param, with_params, params_typed, with_item, past_item}

-- ---- globals

abbrev pub and_global : List GlobalData → GlobalData → List GlobalData
and_global gs g = gs ++ (g ∷ [])

abbrev pub past_global : c.Decl → At → At
past_global d at = past_texts (global_texts d) (counted at)

abbrev pub past_globals : List c.Decl → At → At
past_globals ds at = record at { variable = at.variable + length ds; texts = at.texts ++ globals_texts ds }

-- ---- functions

-- behind a parameter
abbrev pub and_param : List Home → c.Par → Seen → Seen
and_param homes x s = record s { scope = with_param homes s.at.variable x s.scope; at = counted s.at }

abbrev pub and_params : List Home → List c.Par → Seen → Seen
and_params homes [] s = s
and_params homes (x ∷ xs) s = and_params homes xs (and_param homes x s)

-- the statements of a function that gives this type, whose variables have these homes
abbrev pub body_in : (result : ValueType) → List Home → List c.Par → Scope → At → c.Stms → Judged t.Stms
body_in result homes params Γ at xs = statements result homes (with_params homes 0 params (inner Γ)) (record at { variable = length params }) false xs

-- A function's variables are its own.
abbrev pub past_body : c.Stms → At → At
past_body xs at = record at { places = at.places ++ places_of xs; texts = at.texts ++ literals_in_all xs }

-- parameter k as the code that calls its function sees it
abbrev pub param_at : List Home → (k : ℕ) → c.Par → Param
param_at homes k x = record { ty = param_type x; home = home_at homes k }

abbrev pub function_with : Head → List Home → (slots frame : ℕ) → t.Stms → t.Function
function_with head homes slots frame body = record {
  name = head.name;
  result = head.result;
  params = params_typed homes 0 head.params;
  slots = slots;
  frame = frame;
  body = body;
}

-- ---- items

-- the names behind items
abbrev pub with_items : At → List c.Top → Scope → Scope
with_items at [] Γ = Γ
with_items at (x ∷ xs) Γ = with_items (past_item x at) xs (with_item at.variable x Γ)
