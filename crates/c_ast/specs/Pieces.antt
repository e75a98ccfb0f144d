-- The pieces that stand in a source, and what they give.
use Rattle.std.specs.Prelude.{◌≡◌, ℕ, suc, pos, Bool, true, false, ◌==◌, ◌&&◌, ◌||◌, not, if◌then◌else◌, List, [], ◌∷◌, ◌++◌, length, codes, bytes_eq, Option, Some, None}
use Rattle.std.specs.List.{list_all, list_any}
use Rattle.std.specs.Option.{option_map}
use Rattle.c_ast.specs.declared.fault.LexFault.{LexFault}
use Rattle.c_ast.specs.declared.fault.LexFault.TheVariants.{BadByte, OpenComment, BadLiteral}
use Rattle.c_ast.specs.declared.mark.Mark.{Mark}
use Rattle.c_ast.specs.declared.token.Tok.{Tok}
use Rattle.c_ast.specs.declared.token.Tok.TheVariants.{Name, Number, Char, Str, Word, Mark as MarkTok, Reserved}
use Rattle.c_ast.specs.declared.keyword.Keyword.{Keyword}
use Rattle.c_ast.specs.Bytes.{is_blank, is_digit, is_capital, is_letter, is_word_byte}
use Rattle.c_ast.specs.Keywords.{keyword_spelled, reserved_words}
use Rattle.c_ast.specs.Marks.{mark_spelling}
use Rattle.c_ast.specs.Literals.{without_suffix, plain_value, is_long, Quoted}

pub data Piece : Type 0 where
  blank line_comment block_comment open_comment include_line word number : Piece
  character : (value : ℕ) → Piece
  text : (values : List ℕ) → Piece
  mark : (m : Mark) → Piece

-- no byte ends the line
abbrev pub is_in_line : List ℕ → Bool
is_in_line bs = list_all (λ b. not (b == 10)) bs

-- how many bytes up to and with the next `*/`; whether a `*` stands directly before them
abbrev pub behind_close : Bool → List ℕ → Option ℕ
behind_close star [] = None
behind_close star (b ∷ bs) = if star && (b == 47) then Some 1 else option_map suc (behind_close (b == 42) bs)

-- The bytes are this piece. It is clear where only tabs and spaces stand before them in their line.
abbrev pub Spells : Bool → Piece → List ℕ → Type 0
Spells clear blank bs = (b : ℕ) × (bs ≡ b ∷ []) × (is_blank b ≡ true)
Spells clear line_comment bs = (cs : List ℕ) × (bs ≡ codes "//" ++ cs) × (is_in_line cs ≡ true)
Spells clear block_comment bs = (cs : List ℕ) × (bs ≡ codes "/*" ++ cs) × (behind_close false cs ≡ Some (length cs))
Spells clear open_comment bs = (cs : List ℕ) × (bs ≡ codes "/*" ++ cs) × (behind_close false cs ≡ None)
Spells clear include_line bs = (cs : List ℕ) × (bs ≡ codes "#include" ++ cs) × (is_in_line cs ≡ true) × (clear ≡ true)
Spells clear word bs = (b : ℕ) × (cs : List ℕ) × (bs ≡ b ∷ cs) × (is_letter b ≡ true) × (list_all is_word_byte cs ≡ true)
Spells clear number bs = (b : ℕ) × (cs : List ℕ) × (bs ≡ b ∷ cs) × (is_digit b ≡ true) × (list_all is_word_byte cs ≡ true)
Spells clear (character value) bs = (cs : List ℕ) × (bs ≡ codes "'" ++ cs) × Quoted 39 cs (value ∷ [])
Spells clear (text values) bs = (cs : List ℕ) × (bs ≡ codes "\"" ++ cs) × Quoted 34 cs values
Spells clear (mark m) bs = bs ≡ mark_spelling m

-- ---- what a piece gives

pub data Gives : Type 0 where
  nothing : Gives
  token : (tok : Tok) → Gives
  fault : (kind : LexFault) → Gives

-- `_` and a capital letter stand first
abbrev pub begins_reserved : List ℕ → Bool
begins_reserved (a ∷ b ∷ bs) = (a == 95) && is_capital b
begins_reserved _ = false

abbrev pub is_reserved : List ℕ → Bool
is_reserved bs = begins_reserved bs || list_any (bytes_eq bs) reserved_words

abbrev pub word_or_name : List ℕ → Option Keyword → Tok
word_or_name bs (Some keyword) = Word keyword
word_or_name bs None = if is_reserved bs then Reserved bs else Name bs

-- a keyword, a reserved word or a name
unfoldable pub word_tok : List ℕ → Tok
word_tok bs = word_or_name bs (keyword_spelled bs)

abbrev pub number_with : List ℕ → Option ℕ → Gives
number_with bs None = fault BadLiteral
number_with bs (Some value) = token (Number (pos value) (is_long bs value))

-- a number that is well formed, and not too large
unfoldable pub number_given : List ℕ → Gives
number_given bs = number_with bs (plain_value (without_suffix bs))

abbrev pub given : Piece → List ℕ → Gives
given blank bs = nothing
given line_comment bs = nothing
given block_comment bs = nothing
given open_comment bs = fault OpenComment
given include_line bs = nothing
given word bs = token (word_tok bs)
given number bs = number_given bs
given (character value) bs = token (Char value)
given (text values) bs = token (Str values)
given (mark m) bs = token (MarkTok m)

-- why no piece stands at the front: a literal that its quote opens is not well formed, or the byte begins nothing
abbrev pub fault_before : List ℕ → LexFault
fault_before [] = BadByte
fault_before (b ∷ bs) = if (b == 39) || (b == 34) then BadLiteral else BadByte
