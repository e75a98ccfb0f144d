-- The lines of a profile file: how its bytes are parted, and what a line says.
use Rattle.std.specs.Prelude.{◌==◌, ℕ, nat_lt, ◌&&◌, ◌||◌, Bool, false, if◌then◌else◌, List, [], ◌∷◌, Option, Some, codes, bytes_eq}
use Rattle.std.specs.List.{list_all}
use Rattle.profile_text.specs.Numbers.{number_of}
use Rattle.tac_core.specs.Rules.{is_letter, is_digit}
use Rattle.profile_text.specs.declared.line.Line.{Line}
use Rattle.profile_text.specs.declared.line.Line.TheVariants.{Header, Func, Edge, End, Other}

-- the byte before the first part
abbrev pub begun : ℕ → List (List ℕ) → List (List ℕ)
begun b [] = (b ∷ []) ∷ []
begun b (part ∷ parts) = (b ∷ part) ∷ parts

-- the parts between the bytes that are the separator; there is always one
abbrev pub parts : (separator : ℕ) → List ℕ → List (List ℕ)
parts separator [] = [] ∷ []
parts separator (b ∷ bs) = if b == separator then [] ∷ parts separator bs else begun b (parts separator bs)

abbrev pub is_count : ℕ → Bool
is_count n = nat_lt n 9223372036854775808

-- a letter or `_`, then letters, digits and `_`
abbrev pub is_name : List ℕ → Bool
is_name [] = false
is_name (b ∷ bs) = is_letter b && list_all (λ c. is_letter c || is_digit c) bs

abbrev pub header_line : List ℕ
header_line = codes "impactc profile 1"

abbrev pub end_line : List ℕ
end_line = codes "end"

abbrev pub func_of : (name : List ℕ) → (blocks entries : Option ℕ) → Line
func_of name (Some blocks) (Some entries) = if is_name name && is_count entries then Func name blocks entries else Other
func_of name blocks entries = Other

abbrev pub edge_of : (from to count : Option ℕ) → Line
edge_of (Some from) (Some to) (Some count) = if nat_lt 0 count && is_count count then Edge from to count else Other
edge_of from to count = Other

-- what the fields of a line say
abbrev pub line_of_fields : List (List ℕ) → Line
line_of_fields (word ∷ a ∷ b ∷ c ∷ []) =
    if bytes_eq (codes "func") word then func_of a (number_of b) (number_of c)
    else if bytes_eq (codes "edge") word then edge_of (number_of a) (number_of b) (number_of c)
    else Other
line_of_fields fields = Other

-- what a line says, without the byte that ends it; its fields are parted by one space
abbrev pub line_of : List ℕ → Line
line_of bs =
    if bytes_eq header_line bs then Header
    else if bytes_eq end_line bs then End
    else line_of_fields (parts 32 bs)
