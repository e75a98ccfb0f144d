-- Where globals and string literals lie in memory, and what it holds at first.
use Rattle.std.specs.Prelude.{ℕ, ◌+◌, ◌-◌, List, [], ◌∷◌, ◌++◌, length, map, take, pos, slice_index_or}
use Rattle.std.specs.Int.{w64, cast_unsigned}
use Rattle.ib_mem.specs.Memory.{zeros, bytes_of as number_bytes}
use Rattle.c_layout.specs.declared.shape.Shape.{Shape}
use Rattle.c_layout.specs.declared.data.Datum.{Datum}
use Rattle.c_layout.specs.declared.data.Datum.TheVariants.{Number, Text}
use Rattle.c_layout.specs.declared.data.GlobalData.{GlobalData}
use Rattle.c_layout.specs.Sizes.{aligned, element_size, bytes_of}

-- where the bytes of the program begin
abbrev pub first_address : ℕ
first_address = 4096

-- where a variable begins that is laid out from an address on
abbrev pub start_of : ℕ → Shape → ℕ
start_of at shape = aligned (element_size shape) at

-- the addresses of globals that are laid out from an address on, and the address behind them
abbrev pub addresses : ℕ → List GlobalData → List ℕ
addresses at [] = []
addresses at (g ∷ gs) = start_of at g.shape ∷ addresses (start_of at g.shape + bytes_of g.shape) gs

abbrev pub behind : ℕ → List GlobalData → ℕ
behind at [] = at
behind at (g ∷ gs) = behind (start_of at g.shape + bytes_of g.shape) gs

-- string literals, in order
abbrev pub Texts : Type 0
Texts = List (List ℕ)

-- the addresses of string literals, each with a closing zero
abbrev pub text_addresses : ℕ → Texts → List ℕ
text_addresses at [] = []
text_addresses at (x ∷ xs) = at ∷ text_addresses (at + length x + 1) xs

abbrev pub behind_texts : ℕ → Texts → ℕ
behind_texts at [] = at
behind_texts at (x ∷ xs) = behind_texts (at + length x + 1) xs

-- an element's bytes, where string literals lie at these addresses
abbrev pub datum_bytes : List ℕ → (size : ℕ) → Datum → List ℕ
datum_bytes strings size (Number z) = number_bytes size (cast_unsigned w64 z)
datum_bytes strings size (Text n) = number_bytes size (slice_index_or strings n 0)

abbrev pub data_bytes : List ℕ → (size : ℕ) → List Datum → List ℕ
data_bytes strings size [] = []
data_bytes strings size (x ∷ xs) = datum_bytes strings size x ++ data_bytes strings size xs

-- so many bytes, with zeros behind those that are there
abbrev pub padded : ℕ → List ℕ → List ℕ
padded n bytes = take n bytes ++ zeros (n - length bytes)

-- its elements, and zeros for the others
abbrev pub global_bytes : List ℕ → GlobalData → List ℕ
global_bytes strings g = padded (bytes_of g.shape) (data_bytes strings (element_size g.shape) g.held)

-- the bytes of globals from an address on, with zeros where one is aligned
abbrev pub globals_bytes : List ℕ → ℕ → List GlobalData → List ℕ
globals_bytes strings at [] = []
globals_bytes strings at (g ∷ gs) =
    zeros (start_of at g.shape - at) ++ (global_bytes strings g ++ globals_bytes strings (start_of at g.shape + bytes_of g.shape) gs)

abbrev pub texts_bytes : Texts → List ℕ
texts_bytes [] = []
texts_bytes (x ∷ xs) = x ++ (0 ∷ texts_bytes xs)

-- the addresses of string literals behind globals
abbrev pub texts_behind : List GlobalData → Texts → List ℕ
texts_behind globals texts = text_addresses (behind first_address globals) texts

-- the bytes from the first address on
abbrev pub image : List GlobalData → Texts → List ℕ
image globals texts = globals_bytes (texts_behind globals texts) first_address globals ++ texts_bytes texts

-- how many bytes globals and string literals take
abbrev pub image_size : List GlobalData → Texts → ℕ
image_size globals texts = behind_texts (behind first_address globals) texts - first_address
