-- Which piece stands first, found from the first byte.
use Rattle.std.specs.Prelude.{ℕ, ◌+◌, suc, zero, nat_eq, nat_le, Bool, false, ◌-◌, ◌==◌, ◌&&◌, not, if◌then◌else◌, List, [], ◌∷◌, ◌++◌, length, take, drop, slice_index, codes, Option, Some, None}
use Rattle.std.specs.List.{prefix_len, starts_with}
use Rattle.c_ast.specs.declared.mark.Mark.{Mark}
use Rattle.c_ast.specs.declared.fault.LexFault.TheVariants.{BadLiteral}
use Rattle.c_ast.specs.declared.token.Tok.{Tok}
use Rattle.c_ast.specs.Bytes.{is_blank, is_digit, is_letter, is_word_byte}
use Rattle.c_ast.specs.Literals.{element}
use Rattle.c_ast.specs.Marks.{mark_spelled}
use Rattle.c_ast.specs.Pieces.{Piece, blank, line_comment, block_comment, open_comment, include_line, word, number, character, text, mark, behind_close, Gives, nothing, token, fault, given, fault_before}
use Rattle.c_lex.specs.declared.found.Found.{Found}
use Rattle.c_lex.specs.declared.found.Found.TheVariants as found

-- a piece, and how many bytes it has
abbrev pub Sized : Type 0
Sized = Option (Piece × ℕ)

abbrev pub line_len : List ℕ → ℕ
line_len bs = prefix_len (λ b. not (b == 10)) bs

abbrev pub word_len : List ℕ → ℕ
word_len bs = prefix_len is_word_byte bs

-- ---- marks

abbrev pub mark_at : ℕ → List ℕ → Option Mark
mark_at n bs = if nat_le n (length bs) then mark_spelled (take n bs) else None

abbrev pub sized_mark : Option Mark → ℕ → Sized → Sized
sized_mark (Some m) n other = Some (mark m, n)
sized_mark None n other = other

-- the longest mark: of three bytes, or two, or one
unfoldable pub first_mark : List ℕ → Sized
first_mark bs = sized_mark (mark_at 3 bs) 3 (sized_mark (mark_at 2 bs) 2 (sized_mark (mark_at 1 bs) 1 None))

-- ---- comments and include lines

abbrev pub sized_comment : List ℕ → Option ℕ → Sized
sized_comment bs None = Some (open_comment, length bs)
sized_comment bs (Some n) = Some (block_comment, n + 2)

unfoldable pub first_slash : List ℕ → Sized
first_slash bs =
    if slice_index bs 1 == 47 then Some (line_comment, line_len bs)
    else if slice_index bs 1 == 42 then sized_comment bs (behind_close false (drop 2 bs))
    else first_mark bs

unfoldable pub first_include : Bool → List ℕ → Sized
first_include clear bs = if clear && starts_with nat_eq bs (codes "#include") then Some (include_line, line_len bs) else None

-- ---- character constants and strings

-- values before those of an answer, and bytes more
abbrev pub put : List ℕ → ℕ → Option (List ℕ × ℕ) → Option (List ℕ × ℕ)
put values n None = None
put values n (Some (more, m)) = Some (values ++ more, n + m)

abbrev pub behind_element : Option (ℕ × ℕ) → (ℕ → Option (List ℕ × ℕ)) → Option (List ℕ × ℕ)
behind_element None rest = None
behind_element (Some (value, n)) rest = put (value ∷ []) 1 (rest n)

-- The values of the elements up to the closing quote, and how many bytes there are up to and with it. So many bytes are
-- skipped before, as those of an element that was read.
abbrev pub quoted_behind : ℕ → ℕ → List ℕ → Option (List ℕ × ℕ)
quoted_behind quote skipped [] = None
quoted_behind quote (suc skipped) (b ∷ bs) = put [] 1 (quoted_behind quote skipped bs)
quoted_behind quote zero (b ∷ bs) =
    if b == quote then Some ([], 1) else behind_element (element quote (b ∷ bs)) (λ n. quoted_behind quote (n - 1) bs)

unfoldable pub quoted : ℕ → List ℕ → Option (List ℕ × ℕ)
quoted quote bs = quoted_behind quote 0 bs

abbrev pub sized_character : Option (List ℕ × ℕ) → Sized
sized_character (Some (value ∷ [], n)) = Some (character value, n + 1)
sized_character _ = None

unfoldable pub first_character : List ℕ → Sized
first_character bs = sized_character (quoted 39 (drop 1 bs))

abbrev pub sized_string : Option (List ℕ × ℕ) → Sized
sized_string (Some (values, n)) = Some (text values, n + 1)
sized_string None = None

unfoldable pub first_string : List ℕ → Sized
first_string bs = sized_string (quoted 34 (drop 1 bs))

-- ---- all

abbrev pub first_with : Bool → ℕ → List ℕ → Sized
first_with clear b bs =
    if is_blank b then Some (blank, 1)
    else if is_letter b then Some (word, word_len bs)
    else if is_digit b then Some (number, word_len bs)
    else if b == 39 then first_character bs
    else if b == 34 then first_string bs
    else if b == 35 then first_include clear bs
    else if b == 47 then first_slash bs
    else first_mark bs

-- the longest piece that stands first
abbrev pub first_piece : Bool → List ℕ → Sized
first_piece clear bs = first_with clear (slice_index bs 0) bs

abbrev pub found_given : ℕ → Gives → Found
found_given n nothing = found.Gap n
found_given n (token tok) = found.Token tok n
found_given n (fault kind) = found.Fault kind

abbrev pub found_sized : List ℕ → Sized → Found
found_sized bs None = found.Fault (fault_before bs)
found_sized bs (Some (piece, n)) = found_given n (given piece (take n bs))

-- what the longest piece that stands first gives
unfoldable pub found_first : Bool → List ℕ → Found
found_first clear bs = found_sized bs (first_piece clear bs)

abbrev pub number_or_fault : Option Tok → Gives
number_or_fault None = fault BadLiteral
number_or_fault (Some tok) = token tok
