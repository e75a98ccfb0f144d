-- Which declarators and parameters break the rule on types.
use Rattle.std.specs.Prelude.{◌≡◌, Bool, true, false, [], pos, negsuc, codes}
use Rattle.std.proofs.Common.{refl}
use Rattle.ib_meaning.specs.declared.place.Place.{Place}
use Rattle.c_ast.specs.declared.tree.Base.{Base}
use Rattle.c_ast.specs.declared.tree.Base.TheVariants as b
use Rattle.c_ast.specs.declared.tree_unit.Length.{Length}
use Rattle.c_ast.specs.declared.tree_unit.Length.TheVariants as l
use Rattle.c_ast.specs.Trees as c
use Rattle.c_types_declarators.specs.Declarations.{is_bad_declarator, is_bad_param}

abbrev p : Place
p = record { line = 1; col = 1 }

-- a variable x
abbrev declared : Base → Length → c.Initial → Bool
declared base m init = is_bad_declarator (c.declarator p (c.plain base) (codes "x") m init)

-- a parameter without a name
abbrev taken : Base → Length → Bool
taken base m = is_bad_param (c.param p (c.plain base) c.unnamed m)

-- the same of both
abbrev Breaks : Base → Length → Bool → Type 0
Breaks base m bad = (declared base m c.no_init ≡ bad) × (taken base m ≡ bad)

scalar_int : Breaks b.Int l.Scalar false
scalar_int = (refl, refl)

scalar_void : Breaks b.Void l.Scalar true
scalar_void = (refl, refl)

array_of_void : Breaks b.Void (l.Given (pos 1) false) true
array_of_void = (refl, refl)

least_array : Breaks b.Char (l.Given (pos 1) false) false
least_array = (refl, refl)

largest_array : Breaks b.Char (l.Given (pos 1048576) false) false
largest_array = (refl, refl)

too_long : Breaks b.Char (l.Given (pos 1048577) false) true
too_long = (refl, refl)

no_element : Breaks b.Long (l.Given (pos 0) false) true
no_element = (refl, refl)

negative_length : Breaks b.Long (l.Given (negsuc 0) false) true
negative_length = (refl, refl)

-- A length may be missing in a parameter, and where an initialiser stands.
missing_length : (declared b.Int l.Missing c.no_init ≡ true) × ((declared b.Int l.Missing (c.elements []) ≡ false) × (taken b.Int l.Missing ≡ false))
missing_length = (refl, (refl, refl))
