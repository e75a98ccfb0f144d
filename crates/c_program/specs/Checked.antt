-- A checked program as contracts see it.
use Rattle.std.specs.Prelude.{◌≡◌, ◌≤◌, ℕ, List, length, map, All}
use Rattle.ib_meaning.specs.declared.place.Place.{Place}
use Rattle.c_typed.specs.Program.{Program, first_frame}
use Rattle.c_typed.specs.Views.{functions_of}
use Rattle.c_typed.specs.declared.program.Typed.{Typed}
use Rattle.c_typed.specs.declared.program.Layout.{Layout}
use Rattle.c_program.specs.Keeping.{Keeps}
use Rattle.c_program.specs.Limits.{frame_limit, globals_limit}

pub record Checked : Type 0 where
  pub typed : Typed
  pub layout : Layout
  pub image : List ℕ
  pub places : List Place
  -- how many the source's tree has
  pub nodes : ℕ

abbrev pub program : Checked → Program
program p = record {
  functions = functions_of p.typed;
  globals = p.layout.globals.items;
  strings = p.layout.strings.items;
  image = p.image;
  places = p.places;
}

-- where the parts of a program lie
pub record IsLayout (layout : Layout) (p : Program) : Type 0 where
  pub globals : layout.globals.items ≡ p.globals
  pub strings : layout.strings.items ≡ p.strings
  pub frames : layout.frames.items ≡ map (λ f. f.frame) p.functions
  pub start : layout.first_frame ≡ first_frame p

-- Its layout is that of its program, which is within the limits and keeps what code that is made of it relies on.
pub record IsSound (p : Checked) : Type 0 where
  pub laid : IsLayout p.layout (program p)
  pub bytes : length p.image ≤ globals_limit
  pub small : All (λ f. f.frame ≤ frame_limit) p.typed.functions.items
  pub keeps : Keeps p.nodes (program p)
