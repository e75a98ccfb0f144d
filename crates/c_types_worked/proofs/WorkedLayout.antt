-- The layout of small files.
use Rattle.std.specs.Prelude.{◌≡◌, refl, ℕ, pos, negsuc, List, [], ◌∷◌, codes}
use Rattle.ib_mem.specs.Memory.{zeros}
use Rattle.c_ast.specs.declared.tree.Base.{Base}
use Rattle.c_ast.specs.declared.tree.Base.TheVariants.{Char, Int, Long}
use Rattle.c_typed.specs.declared.types.ValueType.TheVariants as v
use Rattle.c_layout.specs.declared.shape.Shape.TheVariants.{Scalar, Array}
use Rattle.c_layout.specs.declared.data.Datum.{Datum}
use Rattle.c_layout.specs.declared.data.Datum.TheVariants.{Number, Text}
use Rattle.c_layout.specs.declared.data.GlobalData.{GlobalData}
use Rattle.c_layout.specs.Layout.{Texts, first_address, addresses, texts_behind, image, image_size}

abbrev scalar : Base → List Datum → GlobalData
scalar base held = record { shape = Scalar (v.Base base); held = held }

abbrev array : Base → (length : ℕ) → List Datum → GlobalData
array base length held = record { shape = Array (v.Base base) length; held = held }

-- a `char *`
abbrev to_char : List Datum → GlobalData
to_char held = record { shape = Scalar (v.Pointer Char 1); held = held }

-- char c; int i; char d; long l;
each_at_its_size : addresses first_address (scalar Char [] ∷ scalar Int [] ∷ scalar Char [] ∷ scalar Long [] ∷ []) ≡ 4096 ∷ 4100 ∷ 4104 ∷ 4112 ∷ []
each_at_its_size = refl

-- char a[3]; int b[2]; char *p;
arrays_at_their_elements : addresses first_address (array Char 3 [] ∷ array Int 2 [] ∷ to_char [] ∷ []) ≡ 4096 ∷ 4100 ∷ 4112 ∷ []
arrays_at_their_elements = refl

-- char a[3]; and then "ab", "" and "c"
strings_behind_globals : texts_behind (array Char 3 [] ∷ []) (codes "ab" ∷ [] ∷ codes "c" ∷ []) ≡ 4099 ∷ 4102 ∷ 4103 ∷ []
strings_behind_globals = refl

all_bytes : image_size (array Char 3 [] ∷ scalar Int [] ∷ []) (codes "ab" ∷ []) ≡ 11
all_bytes = refl

-- char c=1; int i=-2;
little_endian : image (scalar Char (Number (pos 1) ∷ []) ∷ scalar Int (Number (negsuc 1) ∷ []) ∷ []) [] ≡ 1 ∷ 0 ∷ 0 ∷ 0 ∷ 254 ∷ 255 ∷ 255 ∷ 255 ∷ []
unfolding zeros
little_endian = refl

-- int a[2]={7};
others_are_zero : image (array Int 2 (Number (pos 7) ∷ []) ∷ []) [] ≡ 7 ∷ 0 ∷ 0 ∷ 0 ∷ 0 ∷ 0 ∷ 0 ∷ 0 ∷ []
unfolding zeros
others_are_zero = refl

-- char *s="hi"; the string lies at 4104, which is 8 and 16 times 256
address_of_string : image (to_char (Text 0 ∷ []) ∷ []) (codes "hi" ∷ []) ≡ 8 ∷ 16 ∷ 0 ∷ 0 ∷ 0 ∷ 0 ∷ 0 ∷ 0 ∷ 104 ∷ 105 ∷ 0 ∷ []
unfolding zeros
address_of_string = refl

-- char c=-1; char s[3]={'a'}; long x=258; char *p=""; where "hi" is used too
abbrev four : List GlobalData
four = scalar Char (Number (negsuc 0) ∷ []) ∷ array Char 3 (Number (pos 97) ∷ []) ∷ scalar Long (Number (pos 258) ∷ []) ∷ to_char (Text 1 ∷ []) ∷ []

abbrev two_strings : Texts
two_strings = codes "hi" ∷ [] ∷ []

four_addresses : addresses first_address four ≡ 4096 ∷ 4097 ∷ 4104 ∷ 4112 ∷ []
four_addresses = refl

two_addresses : texts_behind four two_strings ≡ 4120 ∷ 4123 ∷ []
two_addresses = refl

all_of_them : image four two_strings ≡ 255 ∷ 97 ∷ 0 ∷ 0 ∷ 0 ∷ 0 ∷ 0 ∷ 0 ∷ 2 ∷ 1 ∷ 0 ∷ 0 ∷ 0 ∷ 0 ∷ 0 ∷ 0 ∷ 27 ∷ 16 ∷ 0 ∷ 0 ∷ 0 ∷ 0 ∷ 0 ∷ 0 ∷ 104 ∷ 105 ∷ 0 ∷ 0 ∷ []
unfolding zeros
all_of_them = refl

how_many_bytes : image_size four two_strings ≡ 28
how_many_bytes = refl
