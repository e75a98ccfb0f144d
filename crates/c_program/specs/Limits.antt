-- The program of a source, laid out in memory, and how large it may be.
use Rattle.std.specs.Prelude.{◌≡◌, ℕ, nat_lt, Bool, List, Option, Some, None, if◌then◌else◌, find, ⊤}
use Rattle.ib_meaning.specs.declared.place.Place.{Place}
use Rattle.c_typed.specs.Tree.{Function}
use Rattle.c_typed.specs.Program.{Program}
use Rattle.c_layout.specs.declared.data.GlobalData.{GlobalData}
use Rattle.c_layout.specs.Layout.{Texts, addresses, first_address, texts_behind, image, image_size}
use Rattle.c_program.specs.declared.error.CheckErr.{CheckErr}
use Rattle.c_program.specs.declared.error.CheckErr.TheVariants.{Rule, Globals, Frame, NoMemory}

-- the program of these functions, globals, string literals that are laid out, and places of statements
abbrev pub program_of : List Function → List GlobalData → Texts → List Place → Program
program_of functions globals texts places = record {
  functions = functions;
  globals = addresses first_address globals;
  strings = texts_behind globals texts;
  image = image globals texts;
  places = places;
}

-- in bytes, for globals and string literals, and for one frame
abbrev pub globals_limit : ℕ
globals_limit = 524288

abbrev pub frame_limit : ℕ
frame_limit = 262144

abbrev pub is_large : Function → Bool
is_large f = nat_lt frame_limit f.frame

-- a program within the limits, or how large the part is that passes its limit
pub data Limited : Type 0 where
  within : Program → Limited
  large_globals : (bytes : ℕ) → Limited
  large_frame : (bytes : ℕ) → Limited

abbrev pub framed : Option Function → Program → Limited
framed None program = within program
framed (Some f) program = large_frame f.frame

-- globals first, then the first function whose frame is too large
abbrev pub limited : List Function → List GlobalData → Texts → List Place → Limited
limited functions globals texts places =
    let bytes = image_size globals texts in
    if nat_lt globals_limit bytes then large_globals bytes else framed (find is_large functions) (program_of functions globals texts places)

-- why a program is not given, where no rule is broken
abbrev pub Refuses : Limited → CheckErr → Type 0
Refuses said (Rule rule place) = ⊥
Refuses said (Globals bytes) = said ≡ large_globals bytes
Refuses said (Frame bytes) = said ≡ large_frame bytes
Refuses said NoMemory = ⊤
