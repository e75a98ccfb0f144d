-- The keywords, one variant a spelling, and the words that are reserved beside them.
use Rattle.std.specs.Prelude.{ℕ, List, [], ◌∷◌, codes, bytes_eq, Option}
use Rattle.std.specs.List.{find}
use Rattle.c_ast.specs.declared.keyword.Keyword.{Keyword}
use Rattle.c_ast.specs.declared.keyword.Keyword.TheVariants as keyword

abbrev pub keyword_spelling : Keyword → List ℕ
keyword_spelling keyword.Break = codes "break"
keyword_spelling keyword.Char = codes "char"
keyword_spelling keyword.Continue = codes "continue"
keyword_spelling keyword.Do = codes "do"
keyword_spelling keyword.Else = codes "else"
keyword_spelling keyword.For = codes "for"
keyword_spelling keyword.If = codes "if"
keyword_spelling keyword.Int = codes "int"
keyword_spelling keyword.Long = codes "long"
keyword_spelling keyword.Return = codes "return"
keyword_spelling keyword.Void = codes "void"
keyword_spelling keyword.While = codes "while"
keyword_spelling keyword.Null = codes "NULL"
keyword_spelling keyword.Eof = codes "EOF"

abbrev pub keyword_number : Keyword → ℕ
keyword_number keyword.Break = 0
keyword_number keyword.Char = 1
keyword_number keyword.Continue = 2
keyword_number keyword.Do = 3
keyword_number keyword.Else = 4
keyword_number keyword.For = 5
keyword_number keyword.If = 6
keyword_number keyword.Int = 7
keyword_number keyword.Long = 8
keyword_number keyword.Return = 9
keyword_number keyword.Void = 10
keyword_number keyword.While = 11
keyword_number keyword.Null = 12
keyword_number keyword.Eof = 13

abbrev pub all_keywords : List Keyword
all_keywords =
    keyword.Break ∷ keyword.Char ∷ keyword.Continue ∷ keyword.Do ∷ keyword.Else ∷ keyword.For ∷ keyword.If
    ∷ keyword.Int ∷ keyword.Long ∷ keyword.Return ∷ keyword.Void ∷ keyword.While ∷ keyword.Null ∷ keyword.Eof ∷ []

-- the keyword with this spelling
unfoldable pub keyword_spelled : List ℕ → Option Keyword
keyword_spelled bs = find (λ k. bytes_eq (keyword_spelling k) bs) all_keywords

unfoldable pub reserved_words : List (List ℕ)
reserved_words =
    codes "auto" ∷ codes "case" ∷ codes "const" ∷ codes "default" ∷ codes "double" ∷ codes "enum" ∷ codes "extern"
    ∷ codes "float" ∷ codes "goto" ∷ codes "inline" ∷ codes "register" ∷ codes "restrict" ∷ codes "short" ∷ codes "signed"
    ∷ codes "sizeof" ∷ codes "static" ∷ codes "struct" ∷ codes "switch" ∷ codes "typedef" ∷ codes "union"
    ∷ codes "unsigned" ∷ codes "volatile" ∷ []
