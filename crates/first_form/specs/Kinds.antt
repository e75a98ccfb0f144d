-- What a token is to the first form.
use Rattle.std.specs.Prelude.{ℕ, ◌+◌, ℤ, pos, negsuc, Bool, ◌==◌, ◌&&◌, ◌||◌, not, nat_le, if◌then◌else◌, List, slice_index, codes, bytes_eq}
use Rattle.ib_base.specs.declared.span.Span.{Span}
use Rattle.c_ast.specs.declared.keyword.Keyword.{Keyword}
use Rattle.c_ast.specs.declared.keyword.Keyword.TheVariants as keyword
use Rattle.c_ast.specs.declared.mark.Mark.{Mark}
use Rattle.c_ast.specs.declared.mark.Mark.TheVariants as mark
use Rattle.c_ast.specs.declared.token.Tok.{Tok}
use Rattle.c_ast.specs.declared.token.Tok.TheVariants as tok
use Rattle.c_ast.specs.declared.token.Token.{Token}
use Rattle.first_form.specs.declared.kind.Kind.{Kind}
use Rattle.first_form.specs.declared.kind.Kind.TheVariants as kind
use Rattle.first_form.specs.declared.kind.Word.{Word}

abbrev pub keyword_kind : Keyword → Kind
keyword_kind keyword.Int = kind.Int
keyword_kind keyword.Void = kind.Void
keyword_kind keyword.Return = kind.Return
keyword_kind _ = kind.Other

abbrev pub mark_kind : Mark → Kind
mark_kind mark.LeftParen = kind.LeftParen
mark_kind mark.RightParen = kind.RightParen
mark_kind mark.LeftBrace = kind.LeftBrace
mark_kind mark.RightBrace = kind.RightBrace
mark_kind mark.Semicolon = kind.Semicolon
mark_kind mark.Assign = kind.Equals
mark_kind mark.Plus = kind.Plus
mark_kind mark.Minus = kind.Minus
mark_kind mark.Star = kind.Star
mark_kind mark.Slash = kind.Slash
mark_kind _ = kind.Other

-- the functions that every program has are no variables
abbrev pub name_kind : List ℕ → Kind
name_kind name =
    if bytes_eq name (codes "main") then kind.Main
    else if bytes_eq name (codes "putint") then kind.Putint
    else if bytes_eq name (codes "putchar") || bytes_eq name (codes "getchar") then kind.Other
    else kind.Name name

-- a number is spelled in decimal where it is `0` alone or does not begin with `0`
abbrev pub is_decimal : List ℕ → Span → Bool
is_decimal source span = not (slice_index source span.from == 48) || (span.to == span.from + 1)

-- a decimal number without a suffix, up to 2147483647
abbrev pub number_kind : Bool → ℤ → Bool → Kind
number_kind decimal (pos n) long = if decimal && not long && nat_le n 2147483647 then kind.Number n else kind.Other
number_kind decimal (negsuc n) long = kind.Other

abbrev pub tok_kind : List ℕ → Span → Tok → Kind
tok_kind source span (tok.Word k) = keyword_kind k
tok_kind source span (tok.Mark m) = mark_kind m
tok_kind source span (tok.Name name) = name_kind name
tok_kind source span (tok.Number value long) = number_kind (is_decimal source span) value long
tok_kind source span (tok.Char value) = kind.Other
tok_kind source span (tok.Str values) = kind.Other
tok_kind source span (tok.Reserved word) = kind.Other

abbrev pub kind_of : List ℕ → Token → Kind
kind_of source token = tok_kind source token.span token.kind

-- a token of the source as the first form sees it
abbrev pub word_of : List ℕ → Token → Word
word_of source token = record { place = token.place; kind = kind_of source token }
