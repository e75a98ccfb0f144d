-- The marks, one variant a spelling.
use Rattle.std.specs.Prelude.{ℕ, List, [], ◌∷◌, codes, bytes_eq, Option}
use Rattle.std.specs.List.{find}
use Rattle.c_ast.specs.declared.mark.Mark.{Mark}
use Rattle.c_ast.specs.declared.mark.Mark.TheVariants as mark

abbrev pub mark_spelling : Mark → List ℕ
mark_spelling mark.LeftParen = codes "("
mark_spelling mark.RightParen = codes ")"
mark_spelling mark.LeftBracket = codes "["
mark_spelling mark.RightBracket = codes "]"
mark_spelling mark.LeftBrace = codes "{"
mark_spelling mark.RightBrace = codes "}"
mark_spelling mark.Comma = codes ","
mark_spelling mark.Semicolon = codes ";"
mark_spelling mark.Question = codes "?"
mark_spelling mark.Colon = codes ":"
mark_spelling mark.Assign = codes "="
mark_spelling mark.AddAssign = codes "+="
mark_spelling mark.SubAssign = codes "-="
mark_spelling mark.MulAssign = codes "*="
mark_spelling mark.DivAssign = codes "/="
mark_spelling mark.RemAssign = codes "%="
mark_spelling mark.ShiftLeftAssign = codes "<<="
mark_spelling mark.ShiftRightAssign = codes ">>="
mark_spelling mark.BitAndAssign = codes "&="
mark_spelling mark.BitXorAssign = codes "^="
mark_spelling mark.BitOrAssign = codes "|="
mark_spelling mark.Or = codes "||"
mark_spelling mark.And = codes "&&"
mark_spelling mark.BitOr = codes "|"
mark_spelling mark.BitXor = codes "^"
mark_spelling mark.BitAnd = codes "&"
mark_spelling mark.Equal = codes "=="
mark_spelling mark.NotEqual = codes "!="
mark_spelling mark.Less = codes "<"
mark_spelling mark.LessEqual = codes "<="
mark_spelling mark.Greater = codes ">"
mark_spelling mark.GreaterEqual = codes ">="
mark_spelling mark.ShiftLeft = codes "<<"
mark_spelling mark.ShiftRight = codes ">>"
mark_spelling mark.Plus = codes "+"
mark_spelling mark.Minus = codes "-"
mark_spelling mark.Star = codes "*"
mark_spelling mark.Slash = codes "/"
mark_spelling mark.Percent = codes "%"
mark_spelling mark.Not = codes "!"
mark_spelling mark.BitNot = codes "~"
mark_spelling mark.Increment = codes "++"
mark_spelling mark.Decrement = codes "--"

abbrev pub mark_number : Mark → ℕ
mark_number mark.LeftParen = 0
mark_number mark.RightParen = 1
mark_number mark.LeftBracket = 2
mark_number mark.RightBracket = 3
mark_number mark.LeftBrace = 4
mark_number mark.RightBrace = 5
mark_number mark.Comma = 6
mark_number mark.Semicolon = 7
mark_number mark.Question = 8
mark_number mark.Colon = 9
mark_number mark.Assign = 10
mark_number mark.AddAssign = 11
mark_number mark.SubAssign = 12
mark_number mark.MulAssign = 13
mark_number mark.DivAssign = 14
mark_number mark.RemAssign = 15
mark_number mark.ShiftLeftAssign = 16
mark_number mark.ShiftRightAssign = 17
mark_number mark.BitAndAssign = 18
mark_number mark.BitXorAssign = 19
mark_number mark.BitOrAssign = 20
mark_number mark.Or = 21
mark_number mark.And = 22
mark_number mark.BitOr = 23
mark_number mark.BitXor = 24
mark_number mark.BitAnd = 25
mark_number mark.Equal = 26
mark_number mark.NotEqual = 27
mark_number mark.Less = 28
mark_number mark.LessEqual = 29
mark_number mark.Greater = 30
mark_number mark.GreaterEqual = 31
mark_number mark.ShiftLeft = 32
mark_number mark.ShiftRight = 33
mark_number mark.Plus = 34
mark_number mark.Minus = 35
mark_number mark.Star = 36
mark_number mark.Slash = 37
mark_number mark.Percent = 38
mark_number mark.Not = 39
mark_number mark.BitNot = 40
mark_number mark.Increment = 41
mark_number mark.Decrement = 42

abbrev pub all_marks : List Mark
all_marks =
    mark.LeftParen ∷ mark.RightParen ∷ mark.LeftBracket ∷ mark.RightBracket ∷ mark.LeftBrace ∷ mark.RightBrace ∷ mark.Comma
    ∷ mark.Semicolon ∷ mark.Question ∷ mark.Colon ∷ mark.Assign ∷ mark.AddAssign ∷ mark.SubAssign ∷ mark.MulAssign
    ∷ mark.DivAssign ∷ mark.RemAssign ∷ mark.ShiftLeftAssign ∷ mark.ShiftRightAssign ∷ mark.BitAndAssign ∷ mark.BitXorAssign ∷ mark.BitOrAssign
    ∷ mark.Or ∷ mark.And ∷ mark.BitOr ∷ mark.BitXor ∷ mark.BitAnd ∷ mark.Equal ∷ mark.NotEqual
    ∷ mark.Less ∷ mark.LessEqual ∷ mark.Greater ∷ mark.GreaterEqual ∷ mark.ShiftLeft ∷ mark.ShiftRight ∷ mark.Plus
    ∷ mark.Minus ∷ mark.Star ∷ mark.Slash ∷ mark.Percent ∷ mark.Not ∷ mark.BitNot ∷ mark.Increment
    ∷ mark.Decrement ∷ []

-- the mark with this spelling
unfoldable pub mark_spelled : List ℕ → Option Mark
mark_spelled bs = find (λ m. bytes_eq (mark_spelling m) bs) all_marks
