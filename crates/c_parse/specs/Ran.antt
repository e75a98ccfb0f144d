-- What the machine gives on a whole list of tokens.
use Rattle.std.specs.Prelude.{◌≡◌, ℕ, ◌+◌, List, [], length, Option, Some, None, Result, Ok, Err}
use Rattle.c_ast.specs.declared.token.Token.{Token}
use Rattle.c_ast.specs.declared.tree_unit.Unit as code
use Rattle.c_ast.specs.Trees.{Top}
use Rattle.c_ast.specs.TreeViews.{unit_of}
use Rattle.c_parse.specs.declared.parser.ParseErr.{ParseErr}
use Rattle.c_parse.specs.declared.parser.ParseErr.TheVariants.{TooDeep, Syntax, NoMemory}
use Rattle.c_parse_machine.specs.Machine as M

abbrev pub IsFinished : Option code.Unit → Option (List Top) → Type 0
IsFinished None r = r ≡ None
IsFinished (Some unit) r = r ≡ Some (unit_of unit)

abbrev pub Ran : List Token → Result code.Unit ParseErr → Type 0
Ran ts (Ok unit) = M.run ts (M.items []) ≡ Ok (unit_of unit)
Ran ts (Err (TooDeep place)) = ⊥
Ran ts (Err (Syntax n)) = (left : ℕ) × (n + left ≡ length ts) × (M.run ts (M.items []) ≡ Err left)
Ran ts (Err NoMemory) = Unit {0}
