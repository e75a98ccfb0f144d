-- The cut of a source into pieces, each the longest that stands at its place.
use Rattle.std.specs.Prelude.{◌≡◌, ℕ, ◌+◌, ◌≤◌, Bool, true, ◌==◌, ◌&&◌, ◌||◌, if◌then◌else◌, List, [], ◌∷◌, ◌++◌, length, take, drop, fold}
use Rattle.ib_meaning.specs.declared.place.Place.{Place}
use Rattle.c_ast.specs.declared.fault.LexFault.{LexFault}
use Rattle.c_ast.specs.declared.token.Tok.{Tok}
use Rattle.c_ast.specs.declared.token.Token.{Token}
use Rattle.c_ast.specs.Pieces.{Piece, Spells, nothing, token, fault, given, fault_before}

-- the place behind a byte: byte 10 ends a line
abbrev pub past_byte : Place → ℕ → Place
past_byte place b = if b == 10 then record { line = place.line + 1; col = 1 } else record { line = place.line; col = place.col + 1 }

-- whether only tabs and spaces stand in the line up to and with a byte
abbrev pub clear_past : Bool → ℕ → Bool
clear_past clear b = (b == 10) || (clear && ((b == 9) || (b == 32)))

-- How far a source is cut: the bytes that are left, how many were before them, the place of the first, and whether only
-- tabs and spaces stand before it in its line.
pub record Front : Type 0 where
  pub left : List ℕ
  pub at : ℕ
  pub place : Place
  pub clear : Bool

abbrev pub start : List ℕ → Front
start source = record { left = source; at = 0; place = record { line = 1; col = 1 }; clear = true }

-- n bytes further
abbrev pub past : Front → ℕ → Front
past front n = record {
  left = drop n front.left;
  at = front.at + n;
  place = fold past_byte front.place (take n front.left);
  clear = fold clear_past front.clear (take n front.left);
}

-- the first n bytes are this piece, and no longer piece stands there
pub record Stands (front : Front) (piece : Piece) (n : ℕ) : Type 0 where
  pub within : n ≤ length front.left
  pub spells : Spells front.clear piece (take n front.left)
  pub longest : (other : Piece) (bs more : List ℕ) → front.left ≡ bs ++ more → Spells front.clear other bs → length bs ≤ n

-- no piece stands at the front
pub record IsBare (front : Front) : Type 0 where
  pub some : front.left ≡ [] → ⊥
  pub none : (piece : Piece) (bs more : List ℕ) → front.left ≡ bs ++ more → Spells front.clear piece bs → ⊥

-- how a cut ends: with the source, or at a place where no part of a source stands
pub data Ending : Type 0 where
  whole : Ending
  stopped : (kind : LexFault) (place : Place) → Ending

abbrev pub token_at : Front → Tok → ℕ → Token
token_at front tok n = record { kind = tok; span = record { from = front.at; to = front.at + n }; place = front.place }

-- From the front on the longest pieces give these tokens, up to this ending.
pub data IsCut : Front → List Token → Ending → Type 0 where
  over : (front : Front) → front.left ≡ [] → IsCut front [] whole
  bare : (front : Front) → IsBare front → IsCut front [] (stopped (fault_before front.left) front.place)
  broken : (front : Front) (piece : Piece) (n : ℕ) (kind : LexFault) →
      Stands front piece n → given piece (take n front.left) ≡ fault kind → IsCut front [] (stopped kind front.place)
  gap : (front : Front) (piece : Piece) (n : ℕ) {tokens : List Token} {ending : Ending} →
      Stands front piece n → given piece (take n front.left) ≡ nothing →
      IsCut (past front n) tokens ending → IsCut front tokens ending
  spelling : (front : Front) (piece : Piece) (n : ℕ) (tok : Tok) {tokens : List Token} {ending : Ending} →
      Stands front piece n → given piece (take n front.left) ≡ token tok →
      IsCut (past front n) tokens ending → IsCut front (token_at front tok n ∷ tokens) ending

-- the source's tokens
abbrev pub AreTokens : List ℕ → List Token → Type 0
AreTokens source tokens = IsCut (start source) tokens whole

-- after the longest pieces before this place no part of a source stands there, for this reason
pub record StopsAt (source : List ℕ) (kind : LexFault) (place : Place) : Type 0 where
  pub tokens : List Token
  pub cut : IsCut (start source) tokens (stopped kind place)
