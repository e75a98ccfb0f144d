-- What the lexer does with the rest of a source.
use Rattle.std.specs.Prelude.{◌≡◌, ℕ, ◌+◌, Bool, true, false, List, [], ◌∷◌, ◌++◌, take, drop, fold, Result, Ok, Err}
use Rattle.ib_meaning.specs.declared.place.Place.{Place}
use Rattle.c_ast.specs.declared.fault.LexFault.{LexFault}
use Rattle.c_ast.specs.declared.fault.LexFault.TheVariants as lex_fault
use Rattle.c_ast.specs.declared.token.Tok.{Tok}
use Rattle.c_ast.specs.Cut.{Front, past_byte, clear_past, token_at}
use Rattle.c_lex.specs.declared.error.LexErr.{LexErr}
use Rattle.c_lex.specs.declared.error.LexErr.TheVariants.{BadByte, OpenComment, BadLiteral, NoMemory}
use Rattle.c_lex.specs.declared.lexer.Lexer.{Lexer}
use Rattle.c_lex.specs.declared.found.Found.{Found}
use Rattle.c_lex.specs.declared.found.Found.TheVariants as found
use Rattle.c_lex.specs.First.{found_first}

-- a fault at a place
abbrev pub refusal : LexFault → Place → LexErr
refusal lex_fault.BadByte place = BadByte place
refusal lex_fault.OpenComment place = OpenComment place
refusal lex_fault.BadLiteral place = BadLiteral place

-- a call answers so, or memory was wanting
abbrev pub Gives : {A : Type 0} → Result A LexErr → Result A LexErr → Type 0
Gives answer (Ok value) = answer ≡ Ok value
Gives answer (Err NoMemory) = Unit {0}
Gives answer (Err refused) = answer ≡ Err refused

abbrev pub is_empty : List ℕ → Bool
is_empty [] = true
is_empty (b ∷ bs) = false

abbrev pub start_lexer : List ℕ → Lexer
start_lexer bytes = record { tokens = []; left = bytes; at = 0; place = record { line = 1; col = 1 }; clear = true }

abbrev pub front_of : Lexer → Front
front_of l = record { left = l.left; at = l.at; place = l.place; clear = l.clear }

abbrev pub lexer_past : Lexer → ℕ → Lexer
lexer_past l n = record {
  tokens = l.tokens;
  left = drop n l.left;
  at = l.at + n;
  place = fold past_byte l.place (take n l.left);
  clear = fold clear_past l.clear (take n l.left);
}

abbrev pub lexer_past_token : Lexer → Tok → ℕ → Result Lexer LexErr
lexer_past_token l tok n = Ok (record (lexer_past l n) { tokens = l.tokens ++ token_at (front_of l) tok n ∷ [] })

abbrev pub advanced_past : Lexer → Found → Result Lexer LexErr
advanced_past l (found.Gap n) = Ok (lexer_past l n)
advanced_past l (found.Token tok n) = lexer_past_token l tok n
advanced_past l (found.Fault kind) = Err (refusal kind l.place)

-- past the piece that stands first
abbrev pub advanced : Lexer → Result Lexer LexErr
advanced l = advanced_past l (found_first l.clear l.left)
