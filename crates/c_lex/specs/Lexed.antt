-- What the lexer's answers say of a source.
use Rattle.std.specs.Prelude.{◌≡◌, List, Result, Ok, Err, ℕ, fold}
use Rattle.ib_meaning.specs.declared.place.Place.{Place}
use Rattle.c_ast.specs.declared.fault.LexFault.TheVariants as lex_fault
use Rattle.c_ast.specs.declared.token.Token.{Token}
use Rattle.c_ast.specs.Cut.{StopsAt, Ending, whole, stopped, start, past_byte}
use Rattle.c_lex.specs.declared.error.LexErr.{LexErr}
use Rattle.c_lex.specs.declared.error.LexErr.TheVariants.{BadByte, OpenComment, BadLiteral, NoMemory}

-- why a source has no tokens
abbrev pub Refuses : List ℕ → LexErr → Type 0
Refuses source (BadByte place) = StopsAt source lex_fault.BadByte place
Refuses source (OpenComment place) = StopsAt source lex_fault.OpenComment place
Refuses source (BadLiteral place) = StopsAt source lex_fault.BadLiteral place
Refuses source NoMemory = Unit {0}

-- the answer is that the source's cut gives these tokens, and ends so
abbrev pub Answers : Result (List Token) LexErr → List Token → Ending → Type 0
Answers (Ok found) tokens ending = (tokens ≡ found) × (ending ≡ whole)
Answers (Err (BadByte place)) tokens ending = ending ≡ stopped lex_fault.BadByte place
Answers (Err (OpenComment place)) tokens ending = ending ≡ stopped lex_fault.OpenComment place
Answers (Err (BadLiteral place)) tokens ending = ending ≡ stopped lex_fault.BadLiteral place
Answers (Err NoMemory) tokens ending = Unit {0}

-- the place just past the last byte
abbrev pub end_place : List ℕ → Place
end_place source = fold past_byte (start source).place source
