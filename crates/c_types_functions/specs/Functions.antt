-- The functions of a file: what their names mean, and which rules their heads break.
use Rattle.std.specs.Prelude.{ℕ, suc, nat_lt, ◌&&◌, ◌||◌, not, Bool, true, false, List, [], ◌∷◌, ◌++◌, length, map, Option, Some, None, is_some, bytes_eq, codes}
use Rattle.std.specs.List.{list_any}
use Rattle.ib_meaning.specs.declared.place.Place.{Place}
use Rattle.c_ast.specs.declared.tree.Base.TheVariants.{Void}
use Rattle.c_ast.specs.Trees as c
use Rattle.c_typed.specs.declared.types.ValueType.{ValueType}
use Rattle.c_typed.specs.declared.types.ValueType.TheVariants as v
use Rattle.c_typed.specs.ValueTypes.{int, long, written, same_type}
use Rattle.c_scopes.specs.Scopes as s
use Rattle.c_scopes.specs.Scopes.{Named, meaning, with_name}
use Rattle.c_types_homes.specs.Declarators.{declared_name, declared_place, param_type, param_name, param_place}
use Rattle.c_typed.specs.declared.rule.Rule.TheVariants.{Redeclared, WrongSignature, BadType}
use Rattle.c_types_operators.specs.declared.rule.Breach.{Breach}
use Rattle.c_types_operators.specs.declared.scope.Callee.{Callee}
use Rattle.c_types_operators.specs.declared.scope.Callee.TheVariants.{Body, GetChar, PutChar, PutInt}
use Rattle.c_types_operators.specs.Scopes.{Function, Signature}
use Rattle.c_types_declarators.specs.Declarations.{is_on_void, param_breaches}
use Rattle.c_types_operators.specs.Parts.{broken_if}

-- ---- heads

-- the head of a function: a prototype, or what stands before a body
pub record Head : Type 0 where
  pub place : Place
  pub result : ValueType
  pub name : List ℕ
  pub params : List c.Par

abbrev pub head_of : Place → c.Ty → List ℕ → List c.Par → Head
head_of p ty name params = record { place = p; result = written ty; name = name; params = params }

abbrev pub signature_of : Head → Signature
signature_of head = record { result = head.result; params = map param_type head.params }

-- the heads of the bodies
abbrev pub bodies : List c.Top → List Head
bodies [] = []
bodies (c.function p ty name params xs ∷ items) = head_of p ty name params ∷ bodies items
bodies (item ∷ items) = bodies items

abbrev pub prototypes : List c.Top → List Head
prototypes [] = []
prototypes (c.prototype p ty name params ∷ items) = head_of p ty name params ∷ prototypes items
prototypes (item ∷ items) = prototypes items

-- ---- what functions' names mean

abbrev pub named : List ℕ → ValueType → List ValueType → Callee → Named Function
named name result params callee = record { name = name; meant = record { signature = record { result = result; params = params }; callee = callee } }

abbrev pub built_in : s.Scope Function
built_in =
    named (codes "getchar") int [] GetChar
    ∷ named (codes "putchar") int (int ∷ []) PutChar
    ∷ named (codes "putint") (v.Base Void) (long ∷ []) PutInt
    ∷ []

-- runs the body with this number
abbrev pub running : ℕ → Head → Named Function
running k head = named head.name head.result (map param_type head.params) (Body k)

-- functions with a body, from number k on
abbrev pub numbered : (k : ℕ) → List Head → List (Named Function)
numbered k [] = []
numbered k (head ∷ heads) = running k head ∷ numbered (suc k) heads

-- with these names, of which the first stays
abbrev pub all_named : s.Scope Function → List (Named Function) → s.Scope Function
all_named scope [] = scope
all_named scope (entry ∷ entries) = all_named (with_name entry.name entry.meant scope) entries

-- functions by their first bodies
abbrev pub by_bodies : List Head → s.Scope Function
by_bodies heads = all_named [] (numbered 0 heads)

-- as it is built in, or by its first body, or by its first prototype
abbrev pub by_heads : (bodied prototyped : List Head) → s.Scope Function
by_heads bodied prototyped = all_named (all_named built_in (numbered 0 bodied)) (map (running (length bodied)) prototyped)

abbrev pub with_body : List c.Top → s.Scope Function
with_body unit = by_bodies (bodies unit)

-- A function is known in the whole file.
abbrev pub functions_known : List c.Top → s.Scope Function
functions_known unit = by_heads (bodies unit) (prototypes unit)

-- ---- names that are declared twice

-- what a declaration in the file's scope declares
pub data Kind : Type 0 where
  a_global : Kind
  a_prototype : Kind
  a_body : Kind

pub record Declared : Type 0 where
  pub name : List ℕ
  pub place : Place
  pub kind : Kind

abbrev pub declared_as : Kind → List ℕ → Place → Declared
declared_as kind name place = record { name = name; place = place; kind = kind }

abbrev pub declared_by : c.Top → List Declared
declared_by (c.prototype p ty name params) = declared_as a_prototype name p ∷ []
declared_by (c.function p ty name params xs) = declared_as a_body name p ∷ []
declared_by (c.variables ds) = map (λ d. declared_as a_global (declared_name d) (declared_place d)) ds

-- Of one name no two declarations go together where one is a variable, and no two bodies.
abbrev pub clash : Kind → Kind → Bool
clash a_global kind = true
clash kind a_global = true
clash a_body a_body = true
clash kind other = false

abbrev pub clashes : Declared → Declared → Bool
clashes d earlier = bytes_eq earlier.name d.name && clash d.kind earlier.kind

abbrev pub is_prototype : Kind → Bool
is_prototype a_prototype = true
is_prototype kind = false

abbrev pub is_built_in : List ℕ → Bool
is_built_in name = is_some (meaning name built_in)

-- A built-in function is declared by prototypes alone.
abbrev pub redeclares_built_in : Declared → Bool
redeclares_built_in d = is_built_in d.name && not (is_prototype d.kind)

abbrev pub redeclared_after : (earlier : List Declared) → List Declared → List Breach
redeclared_after earlier [] = []
redeclared_after earlier (d ∷ ds) =
    broken_if (list_any (clashes d) earlier || redeclares_built_in d) Redeclared d.place ++ redeclared_after (d ∷ earlier) ds

abbrev pub all_declared : List c.Top → List Declared
all_declared [] = []
all_declared (item ∷ items) = declared_by item ++ all_declared items

-- ---- heads that break a rule

abbrev pub same_types : List ValueType → List ValueType → Bool
same_types [] [] = true
same_types (x ∷ xs) (y ∷ ys) = same_type x y && same_types xs ys
same_types xs ys = false

abbrev pub same_signature : Signature → Signature → Bool
same_signature a b = same_type a.result b.result && same_types a.params b.params

abbrev pub is_main : Head → Bool
is_main head = bytes_eq head.name (codes "main")

-- `main` is `int` without parameters, and no function has more than 8.
abbrev pub has_bad_signature : Head → Bool
has_bad_signature head = nat_lt 8 (length head.params) || (is_main head && not (same_signature (signature_of head) (record { result = int; params = [] })))

-- A function gives no pointer that is built on `void`.
abbrev pub has_bad_result : ValueType → Bool
has_bad_result (v.Base b) = false
has_bad_result ty = is_on_void ty

-- two parameters of one name
abbrev pub is_param_named : List ℕ → c.Par → Bool
is_param_named name (c.param p ty c.unnamed m) = false
is_param_named name (c.param p ty (c.named other) m) = bytes_eq other name

abbrev pub repeats : (earlier : List c.Par) → c.Par → Bool
repeats earlier (c.param p ty c.unnamed m) = false
repeats earlier (c.param p ty (c.named name) m) = list_any (is_param_named name) earlier

abbrev pub params_breaches : (earlier : List c.Par) → List c.Par → List Breach
params_breaches earlier [] = []
params_breaches earlier (x ∷ xs) =
    broken_if (repeats earlier x) Redeclared (param_place x) ++ (param_breaches x ++ params_breaches (x ∷ earlier) xs)

abbrev pub head_breaches : Head → List Breach
head_breaches head =
    broken_if (has_bad_signature head) WrongSignature head.place
    ++ (broken_if (has_bad_result head.result) BadType head.place ++ params_breaches [] head.params)

abbrev pub is_unnamed : c.Par → Bool
is_unnamed (c.param p ty c.unnamed m) = true
is_unnamed (c.param p ty (c.named name) m) = false

abbrev pub has_unnamed : Head → Bool
has_unnamed head = list_any is_unnamed head.params

abbrev pub is_like : Head → Option Function → Bool
is_like head None = true
is_like head (Some f) = same_signature (signature_of head) f.signature

-- A prototype has a body or is built in, and is like it.
abbrev pub is_good_prototype : (bodied : s.Scope Function) → Head → Bool
is_good_prototype bodied head =
    (is_some (meaning head.name bodied) || is_built_in head.name)
    && (is_like head (meaning head.name bodied) && is_like head (meaning head.name built_in))

-- no function `main` has a body
abbrev pub lacks_main : List c.Top → Bool
lacks_main unit = not (list_any is_main (bodies unit))
