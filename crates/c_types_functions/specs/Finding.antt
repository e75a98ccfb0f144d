-- How broken rules are found on one way through a file: by the names so far.
use Rattle.std.specs.Prelude.{◌≡◌, ℕ, ◌&&◌, ◌||◌, not, Bool, true, false, List, [], ◌∷◌, ◌++◌, is_some}
use Rattle.c_ast.specs.Trees as c
use Rattle.c_scopes.specs.Scopes as s
use Rattle.c_scopes.specs.Scopes.{meaning, with_name}
use Rattle.c_types_homes.specs.Declarators.{param_place}
use Rattle.c_typed.specs.declared.rule.Rule.TheVariants.{Redeclared}
use Rattle.c_types_operators.specs.declared.rule.Breach.{Breach}
use Rattle.c_types_operators.specs.Judging.{Noted, noted}
use Rattle.c_types_operators.specs.Parts.{broken_if}
use Rattle.c_types_declarators.specs.Declarations.{param_breaches}
use Rattle.c_types_functions.specs.Functions.{Kind, a_global, a_prototype, a_body, Declared, redeclares_built_in}

-- no rule is broken
abbrev pub is_fine : List Breach → Bool
is_fine [] = true
is_fine (breach ∷ found) = false

-- These breaches are noted, and the answer says whether there are none.
pub record Finds (old new : Noted) (found : List Breach) (fine : Bool) : Type 0 where
  pub notes : new ≡ noted old [] found
  pub tells : fine ≡ is_fine found

-- ---- names

-- the names that are declared so far
abbrev pub Names : Type 0
Names = s.Scope (Unit {0})

abbrev pub knows : Names → List ℕ → Bool
knows names name = is_some (meaning name names)

abbrev pub and_name : List ℕ → Names → Names
and_name name names = with_name name tt names

-- ---- parameters

abbrev pub is_taken : Names → c.Par → Bool
is_taken names (c.param p ty c.unnamed m) = false
is_taken names (c.param p ty (c.named name) m) = knows names name

abbrev pub and_param : c.Par → Names → Names
and_param (c.param p ty c.unnamed m) names = names
and_param (c.param p ty (c.named name) m) names = and_name name names

-- what one parameter breaks behind those with these names
abbrev pub found_of_param : Names → c.Par → List Breach
found_of_param names x = broken_if (is_taken names x) Redeclared (param_place x) ++ param_breaches x

abbrev pub found_of_params : Names → List c.Par → List Breach
found_of_params names [] = []
found_of_params names (x ∷ xs) = found_of_param names x ++ found_of_params (and_param x names) xs

-- ---- names of the file

pub record Seen : Type 0 where
  pub globals : Names
  pub prototypes : Names
  pub bodies : Names

abbrev pub nothing_seen : Seen
nothing_seen = record { globals = []; prototypes = []; bodies = [] }

-- A declaration of this kind clashes with one of that name.
abbrev pub clashes_with : Seen → Kind → List ℕ → Bool
clashes_with seen a_global name = knows seen.globals name || (knows seen.prototypes name || knows seen.bodies name)
clashes_with seen a_prototype name = knows seen.globals name
clashes_with seen a_body name = knows seen.globals name || knows seen.bodies name

abbrev pub and_of_kind : Kind → List ℕ → Seen → Seen
and_of_kind a_global name seen = record seen { globals = and_name name seen.globals }
and_of_kind a_prototype name seen = record seen { prototypes = and_name name seen.prototypes }
and_of_kind a_body name seen = record seen { bodies = and_name name seen.bodies }

abbrev pub redeclares : Seen → Declared → Bool
redeclares seen d = clashes_with seen d.kind d.name || redeclares_built_in d

abbrev pub found_among : Seen → List Declared → List Breach
found_among seen [] = []
found_among seen (d ∷ ds) = broken_if (redeclares seen d) Redeclared d.place ++ found_among (and_of_kind d.kind d.name seen) ds

abbrev pub seen_behind : Seen → List Declared → Seen
seen_behind seen [] = seen
seen_behind seen (d ∷ ds) = seen_behind (and_of_kind d.kind d.name seen) ds

-- Declarations of these names are seen, and what they break is noted.
pub record Passes (seen now : Seen) (old new : Noted) (ds : List Declared) : Type 0 where
  pub behind : now ≡ seen_behind seen ds
  pub notes : new ≡ noted old [] (found_among seen ds)
