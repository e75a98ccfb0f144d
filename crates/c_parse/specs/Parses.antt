-- What a parser answers.
use Rattle.std.specs.Prelude.{◌≡◌, List, Some, None, Result, Ok, Err}
use Rattle.c_ast.specs.declared.token.Token.{Token}
use Rattle.c_ast.specs.declared.tree_unit.Unit as code
use Rattle.c_ast.specs.Trees.{Top}
use Rattle.c_ast.specs.TreeViews.{unit_of}
use Rattle.c_ast.specs.Nesting.{too_deep}
use Rattle.c_parse_machine.specs.Told.{IsWrongAt}
use Rattle.c_parse.specs.declared.parser.ParseErr.{ParseErr}
use Rattle.c_parse.specs.declared.parser.ParseErr.TheVariants.{TooDeep, Syntax, NoMemory}

-- what an error says
abbrev pub Refuses : List Token → ParseErr → Type 0
Refuses tokens (TooDeep place) = too_deep tokens ≡ Some place
Refuses tokens (Syntax n) = (too_deep tokens ≡ None) × IsWrongAt tokens n
Refuses tokens NoMemory = Unit {0}

-- the answer is this unit, or memory is wanting
abbrev pub Answers : Result code.Unit ParseErr → List Top → Type 0
Answers (Ok found) unit = unit_of found ≡ unit
Answers (Err NoMemory) unit = Unit {0}
Answers (Err (TooDeep place)) unit = ⊥
Answers (Err (Syntax n)) unit = ⊥
