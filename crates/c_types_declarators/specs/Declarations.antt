-- Which rules declarators and parameters break by themselves.
use Rattle.std.specs.Prelude.{◌||◌, Bool, true, false, List}
use Rattle.c_ast.specs.declared.tree.Base.TheVariants.{Void}
use Rattle.c_ast.specs.declared.tree_unit.Length.{Length}
use Rattle.c_ast.specs.declared.tree_unit.Length.TheVariants as n
use Rattle.c_ast.specs.Trees as c
use Rattle.c_typed.specs.declared.types.ValueType.{ValueType}
use Rattle.c_typed.specs.declared.types.ValueType.TheVariants as v
use Rattle.c_typed.specs.ValueTypes.{written}
use Rattle.c_typed.specs.declared.rule.Rule.TheVariants.{BadType}
use Rattle.c_types_operators.specs.declared.rule.Breach.{Breach}
use Rattle.c_types_homes.specs.Declarators.{is_bad_length, declared_place, param_place}
use Rattle.c_types_operators.specs.Parts.{broken_if}

-- built on `void`
abbrev pub is_on_void : ValueType → Bool
is_on_void (v.Base Void) = true
is_on_void (v.Pointer Void stars) = true
is_on_void t = false

-- 0, above 1048576, or missing without an initialiser
abbrev pub has_bad_length : Length → c.Initial → Bool
has_bad_length n.Scalar init = false
has_bad_length n.Missing c.no_init = true
has_bad_length n.Missing init = false
has_bad_length (n.Given m long) init = is_bad_length m

abbrev pub is_bad_declarator : c.Decl → Bool
is_bad_declarator (c.declarator p ty name m init) = is_on_void (written ty) || has_bad_length m init

abbrev pub declarator_breaches : c.Decl → List Breach
declarator_breaches d = broken_if (is_bad_declarator d) BadType (declared_place d)

-- A parameter's length may be missing.
abbrev pub has_bad_param_length : Length → Bool
has_bad_param_length (n.Given m long) = is_bad_length m
has_bad_param_length m = false

abbrev pub is_bad_param : c.Par → Bool
is_bad_param (c.param p ty name m) = is_on_void (written ty) || has_bad_param_length m

abbrev pub param_breaches : c.Par → List Breach
param_breaches x = broken_if (is_bad_param x) BadType (param_place x)
