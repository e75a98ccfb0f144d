-- Tests of single tokens.
use Rattle.std.specs.Prelude.{ℕ, ◌+◌, Bool, ◌==◌, ◌||◌, List, Option, Some, None}
use Rattle.c_ast.specs.declared.mark.Mark.{Mark}
use Rattle.c_ast.specs.declared.keyword.Keyword.{Keyword}
use Rattle.c_ast.specs.declared.keyword.Keyword.TheVariants as k
use Rattle.c_ast.specs.declared.token.Tok.{Tok}
use Rattle.c_ast.specs.declared.token.Tok.TheVariants as t
use Rattle.c_ast.specs.declared.token.Token.{Token}
use Rattle.c_ast.specs.declared.tree_unit.Length.{Length}
use Rattle.c_ast.specs.declared.tree_unit.Length.TheVariants as len
use Rattle.c_ast.specs.Marks.{mark_number}
use Rattle.c_ast.specs.Keywords.{keyword_number}

-- a number for each mark and keyword, and for each other kind of token
abbrev pub sign : Tok → ℕ
sign (t.Mark mark) = mark_number mark
sign (t.Word word) = keyword_number word + 43
sign (t.Name n) = 60
sign (t.Number v long) = 61
sign (t.Char v) = 62
sign (t.Str bytes) = 63
sign (t.Reserved n) = 64

abbrev pub is : Mark → Token → Bool
is mark token = sign token.kind == mark_number mark

abbrev pub says : Keyword → Token → Bool
says word token = sign token.kind == keyword_number word + 43

abbrev pub is_type : Token → Bool
is_type token = says k.Char token || (says k.Int token || says k.Long token)

abbrev pub name_of : Tok → Option (List ℕ)
name_of (t.Name n) = Some n
name_of _ = None

abbrev pub length_of : Tok → Option Length
length_of (t.Number v long) = Some (len.Given v long)
length_of _ = None
