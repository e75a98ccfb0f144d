-- The types of values: their sizes, and what operands are converted to.
use Rattle.std.specs.Prelude.{ℕ, zero, suc, ◌==◌, ◌&&◌, ◌||◌, Bool, true, false, if◌then◌else◌}
use Rattle.c_ast.specs.declared.tree.Base.{Base}
use Rattle.c_ast.specs.declared.tree.Base.TheVariants.{Void, Char, Int, Long}
use Rattle.c_ast.specs.Trees.{Ty, plain, pointer}
use Rattle.c_typed.specs.declared.types.ValueType.{ValueType}
use Rattle.c_typed.specs.declared.types.ValueType.TheVariants as v
use Rattle.c_typed.specs.declared.operation.Rank.{Rank}
use Rattle.c_typed.specs.declared.operation.Rank.TheVariants as r

abbrev pub int : ValueType
int = v.Base Int

abbrev pub long : ValueType
long = v.Base Long

-- one star more
abbrev pub pointer_to : ValueType → ValueType
pointer_to (v.Base b) = v.Pointer b 1
pointer_to (v.Pointer b stars) = v.Pointer b (suc stars)
pointer_to v.Null = v.Null

-- one star less
abbrev pub pointee : ValueType → ValueType
pointee (v.Base b) = v.Base b
pointee (v.Pointer b zero) = v.Base b
pointee (v.Pointer b (suc zero)) = v.Base b
pointee (v.Pointer b (suc (suc stars))) = v.Pointer b (suc stars)
pointee v.Null = v.Null

-- the type that a declarator, parameter or cast writes
abbrev pub written : Ty → ValueType
written (plain b) = v.Base b
written (pointer t) = pointer_to (written t)

abbrev pub base_size : Base → ℕ
base_size Void = 1
base_size Char = 1
base_size Int = 4
base_size Long = 8

-- in bytes
abbrev pub size_of : ValueType → ℕ
size_of (v.Base b) = base_size b
size_of (v.Pointer b stars) = 8
size_of v.Null = 8

-- the type of calls that give no value
abbrev pub is_void : ValueType → Bool
is_void (v.Base Void) = true
is_void (v.Base Char) = false
is_void (v.Base Int) = false
is_void (v.Base Long) = false
is_void (v.Pointer b stars) = false
is_void v.Null = false

abbrev pub is_integer : ValueType → Bool
is_integer (v.Base Void) = false
is_integer (v.Base Char) = true
is_integer (v.Base Int) = true
is_integer (v.Base Long) = true
is_integer (v.Pointer b stars) = false
is_integer v.Null = false

-- `NULL` has a pointer type of its own
abbrev pub is_pointer : ValueType → Bool
is_pointer (v.Base b) = false
is_pointer (v.Pointer b stars) = true
is_pointer v.Null = true

-- a pointer that leads somewhere: not the type of `NULL`
abbrev pub leads : ValueType → Bool
leads (v.Pointer b stars) = true
leads (v.Base b) = false
leads v.Null = false

abbrev pub base_number : Base → ℕ
base_number Void = 0
base_number Char = 1
base_number Int = 2
base_number Long = 3

abbrev pub same_type : ValueType → ValueType → Bool
same_type (v.Base a) (v.Base b) = base_number a == base_number b
same_type (v.Pointer a m) (v.Pointer b n) = (base_number a == base_number b) && (m == n)
same_type v.Null v.Null = true
same_type (v.Base a) (v.Pointer b n) = false
same_type (v.Base a) v.Null = false
same_type (v.Pointer a m) (v.Base b) = false
same_type (v.Pointer a m) v.Null = false
same_type v.Null (v.Base b) = false
same_type v.Null (v.Pointer b n) = false

abbrev pub is_long : ValueType → Bool
is_long (v.Base Void) = false
is_long (v.Base Char) = false
is_long (v.Base Int) = false
is_long (v.Base Long) = true
is_long (v.Pointer b stars) = false
is_long v.Null = false

-- a `char` is promoted to `int`
abbrev pub promoted_rank : ValueType → Rank
promoted_rank t = if is_long t then r.Long else r.Int

-- two integers are converted to `long` if one of them is
abbrev pub common_rank : ValueType → ValueType → Rank
common_rank s t = if is_long s || is_long t then r.Long else r.Int

abbrev pub ranked : Rank → ValueType
ranked r.Int = int
ranked r.Long = long
