-- The program that a source's tree means, or the rules that it breaks.
use Rattle.std.specs.Prelude.{ℕ, suc, ◌+◌, Bool, false, not, List, [], ◌∷◌, ◌++◌, length}
use Rattle.c_ast.specs.Trees as c
use Rattle.c_typed.specs.declared.program.Param.{Param}
use Rattle.c_typed.specs.declared.program.Home.{Home}
use Rattle.c_typed.specs.declared.expr.Storage.TheVariants.{Global}
use Rattle.c_typed.specs.Tree as t
use Rattle.c_scopes.specs.Scopes as s
use Rattle.c_scopes.specs.Scopes.{outermost}
use Rattle.c_layout.specs.declared.shape.Shape.{Shape}
use Rattle.c_layout.specs.declared.shape.Shape.TheVariants.{Scalar}
use Rattle.c_layout.specs.declared.data.Datum.{Datum}
use Rattle.c_layout.specs.declared.data.GlobalData.{GlobalData}
use Rattle.c_layout.specs.Layout.{Texts}
use Rattle.c_types_homes.specs.Declarators.{declared_name, declared_place, declared_shape, init_of, param_type}
use Rattle.c_types_homes.specs.Homes.{function_homes, function_given, frame_size}
use Rattle.c_typed.specs.declared.rule.Rule.TheVariants.{NoMain, WrongSignature}
use Rattle.c_types_operators.specs.declared.rule.Breach.{Breach}
use Rattle.c_types_operators.specs.declared.scope.Lives.TheVariants.{InMemory}
use Rattle.c_types_operators.specs.Rules.{Judged, Fine}
use Rattle.c_types_operators.specs.Scopes.{Scope, Function, inner, with_variable}
use Rattle.c_types_operators.specs.Parts.{broken_if, ◌<*>◌, also}
use Rattle.c_types_declarators.specs.Declarations.{declarator_breaches}
use Rattle.c_types_statements.specs.Statements.{At, home_at, lives, statements, places_of, literals_in_all}
use Rattle.c_types_initial.specs.Constants.{shape_data, laid_out}
use Rattle.c_types_functions.specs.Functions.{Head, head_of, head_breaches, has_unnamed, is_good_prototype, lacks_main, with_body, functions_known, redeclared_after, all_declared}

-- ---- globals

-- with global k
abbrev pub with_global : (k : ℕ) → c.Decl → Scope → Scope
with_global k d Γ = with_variable (declared_name d) (record { shape = declared_shape d; lives = InMemory (Global k) }) Γ

abbrev pub with_globals : (k : ℕ) → List c.Decl → Scope → Scope
with_globals k [] Γ = Γ
with_globals k (d ∷ ds) Γ = with_globals (suc k) ds (with_global k d Γ)

-- the string literals of a global that are laid out
abbrev pub global_texts : c.Decl → Texts
global_texts d = laid_out (declared_shape d) (init_of d)

abbrev pub globals_texts : List c.Decl → Texts
globals_texts [] = []
globals_texts (d ∷ ds) = global_texts d ++ globals_texts ds

abbrev pub a_global : Shape → List Datum → GlobalData
a_global shape held = record { shape = shape; held = held }

-- A global is known in its own initialiser.
abbrev pub global : Scope → (k : ℕ) → Texts → c.Decl → Judged GlobalData
global Γ k n d =
    also (declarator_breaches d)
    (Fine (a_global (declared_shape d)) <*> shape_data (with_global k d Γ) n (declared_place d) (declared_shape d) (init_of d))

abbrev pub globals : Scope → (k : ℕ) → Texts → List c.Decl → Judged (List GlobalData)
globals Γ k n [] = Fine []
globals Γ k n (d ∷ ds) = Fine ◌∷◌ <*> global Γ k n d <*> globals (with_global k d Γ) (suc k) (n ++ global_texts d) ds

-- ---- functions

-- with parameter k
abbrev pub with_param : List Home → (k : ℕ) → c.Par → Scope → Scope
with_param homes k (c.param p ty c.unnamed m) Γ = Γ
with_param homes k (c.param p ty (c.named name) m) Γ =
    with_variable name (record { shape = Scalar (param_type (c.param p ty (c.named name) m)); lives = lives (home_at homes k) }) Γ

abbrev pub with_params : List Home → (k : ℕ) → List c.Par → Scope → Scope
with_params homes k [] Γ = Γ
with_params homes k (x ∷ xs) Γ = with_params homes (suc k) xs (with_param homes k x Γ)

abbrev pub params_typed : List Home → (k : ℕ) → List c.Par → List Param
params_typed homes k [] = []
params_typed homes k (x ∷ xs) = record { ty = param_type x; home = home_at homes k } ∷ params_typed homes (suc k) xs

-- The parameters and the outermost block are one scope.
abbrev pub body : Scope → At → Head → c.Stms → Judged t.Stms
body Γ at head xs =
    let homes = function_homes head.params xs in
    statements head.result homes (with_params homes 0 head.params (inner Γ)) (record at { variable = length head.params }) false xs

abbrev pub a_function : Head → c.Stms → t.Stms → t.Function
a_function head xs typed = record {
  name = head.name;
  result = head.result;
  params = params_typed (function_homes head.params xs) 0 head.params;
  slots = (function_given head.params xs).slots;
  frame = frame_size head.params xs;
  body = typed;
}

-- In a body every parameter has a name.
abbrev pub function : Scope → At → Head → c.Stms → Judged t.Function
function Γ at head xs =
    also (broken_if (has_unnamed head) WrongSignature head.place ++ head_breaches head)
    (Fine (a_function head xs) <*> body Γ at head xs)

-- ---- items

-- the functions with a body, and the globals
pub record Parts : Type 0 where
  pub functions : List t.Function
  pub globals : List GlobalData

abbrev pub no_parts : Parts
no_parts = record { functions = []; globals = [] }

abbrev pub one_function : t.Function → Parts
one_function f = record { functions = f ∷ []; globals = [] }

abbrev pub only_globals : List GlobalData → Parts
only_globals gs = record { functions = []; globals = gs }

abbrev pub joined : Parts → Parts → Parts
joined a b = record { functions = a.functions ++ b.functions; globals = a.globals ++ b.globals }

-- behind an item
abbrev pub with_item : (k : ℕ) → c.Top → Scope → Scope
with_item k (c.variables ds) Γ = with_globals k ds Γ
with_item k item Γ = Γ

abbrev pub past_item : c.Top → At → At
past_item (c.prototype p ty name params) at = at
past_item (c.function p ty name params xs) at =
    record at { places = at.places ++ places_of (c.stms xs); texts = at.texts ++ literals_in_all (c.stms xs) }
past_item (c.variables ds) at = record at { variable = at.variable + length ds; texts = at.texts ++ globals_texts ds }

abbrev pub past_items : List c.Top → At → At
past_items [] at = at
past_items (x ∷ xs) at = past_items xs (past_item x at)

-- in a file whose functions with a body are these
module _ (bodied : s.Scope Function) where
  abbrev pub prototype : Head → Judged Parts
  prototype head = also (broken_if (not (is_good_prototype bodied head)) WrongSignature head.place ++ head_breaches head) (Fine no_parts)

  abbrev pub item : Scope → At → c.Top → Judged Parts
  item Γ at (c.prototype p ty name params) = prototype (head_of p ty name params)
  item Γ at (c.function p ty name params xs) = Fine one_function <*> function Γ at (head_of p ty name params) (c.stms xs)
  item Γ at (c.variables ds) = Fine only_globals <*> globals Γ at.variable at.texts ds

  abbrev pub items : Scope → At → List c.Top → Judged Parts
  items Γ at [] = Fine no_parts
  items Γ at (x ∷ xs) = Fine joined <*> item Γ at x <*> items (with_item at.variable x Γ) (past_item x at) xs

-- where a file begins
abbrev pub file_start : At
file_start = record { variable = 0; places = []; texts = [] }

-- the rules that a file breaks as a whole, without a function `main` or with one
abbrev pub whole_breaches : (no_main : Bool) → List c.Top → List Breach
whole_breaches no_main unit = broken_if no_main NoMain (record { line = 1; col = 1 }) ++ redeclared_after [] (all_declared unit)

-- What a source's tree means, or all the rules that it breaks, each at its anchor.
abbrev pub judged : List c.Top → Judged Parts
judged unit =
    also (whole_breaches (lacks_main unit) unit)
    (items (with_body unit) (record { scopes = outermost; functions = functions_known unit }) file_start unit)
