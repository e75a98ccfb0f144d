-- What the code keeps of items, as plain data.
use Rattle.std.specs.Prelude.{◌≡◌, List, Option, map}
use Rattle.c_ast.specs.Trees as c
use Rattle.c_typed.specs.Views.{function_of}
use Rattle.c_types.specs.declared.items.Made.{Made}
use Rattle.c_types.specs.declared.items.Piece.{Piece}
use Rattle.c_types.specs.declared.items.Piece.TheVariants as p
use Rattle.c_types_operators.specs.Rules.{breaches, first_breach}
use Rattle.c_types_operators.specs.Judging.{Noted, kept}
use Rattle.c_types_units.specs.Units.{Parts, no_parts, one_function, only_globals, judged, file_start, past_items}

abbrev pub piece_of : Piece → Parts
piece_of p.Nothing = no_parts
piece_of (p.Function f) = one_function (function_of f)
piece_of (p.Globals gs) = only_globals gs.items

abbrev pub parts_of : Made → Parts
parts_of made = record { functions = map function_of made.functions.items; globals = made.globals.items }

-- The answer is what a file means, if it breaks no rule, and its breaches, statements and string literals are noted.
pub record Tells (unit : List c.Top) (answer : Option Parts) (notes : Noted) : Type 0 where
  pub means : answer ≡ kept (judged unit)
  pub first : notes.first ≡ first_breach (breaches (judged unit))
  pub places : notes.places ≡ (past_items unit file_start).places
  pub texts : notes.texts ≡ (past_items unit file_start).texts
