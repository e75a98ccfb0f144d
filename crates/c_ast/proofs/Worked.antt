-- The definitions on small sources.
use Rattle.std.specs.Prelude.{◌≡◌, ℕ, pos, false, List, [], ◌∷◌}
use Rattle.std.proofs.Common.{refl}
use Rattle.c_ast.specs.declared.mark.Mark.{Mark}
use Rattle.c_ast.specs.declared.mark.Mark.TheVariants as m
use Rattle.c_ast.specs.declared.keyword.Keyword.TheVariants as k
use Rattle.c_ast.specs.declared.token.Tok.{Tok}
use Rattle.c_ast.specs.declared.token.Tok.TheVariants as t
use Rattle.c_ast.specs.declared.token.Token.{Token}
use Rattle.c_ast.specs.Trees.{number, if_then, if_else, empty}
use Rattle.c_ast.specs.Grammar as g
use Rattle.c_ast.specs.Nesting.{nestings}

abbrev at : ℕ → Tok → Token
at col kind = record { kind = kind; span = record { from = 0; to = 0 }; place = record { line = 1; col = col } }

abbrev mark : ℕ → Mark → Token
mark col which = at col (t.Mark which)

abbrev one : ℕ → Token
one col = at col (t.Number (pos 1) false)

-- `((1))`, `f((1))`, `1+1+1,1`, `[1?1:1]`
parentheses : nestings (mark 1 m.LeftParen ∷ mark 2 m.LeftParen ∷ one 3 ∷ mark 4 m.RightParen ∷ mark 5 m.RightParen ∷ []) ≡ 1 ∷ 2 ∷ 2 ∷ 2 ∷ 1 ∷ []
parentheses = refl

a_call : nestings (at 1 (t.Name []) ∷ mark 2 m.LeftParen ∷ mark 3 m.LeftParen ∷ one 4 ∷ mark 5 m.RightParen ∷ mark 6 m.RightParen ∷ []) ≡ 0 ∷ 1 ∷ 2 ∷ 2 ∷ 2 ∷ 0 ∷ []
a_call = refl

a_sum : nestings (one 1 ∷ mark 2 m.Plus ∷ one 3 ∷ mark 4 m.Plus ∷ one 5 ∷ mark 6 m.Comma ∷ one 7 ∷ []) ≡ 0 ∷ 1 ∷ 1 ∷ 2 ∷ 2 ∷ 0 ∷ 0 ∷ []
a_sum = refl

a_choice : nestings (mark 1 m.LeftBracket ∷ one 2 ∷ mark 3 m.Question ∷ one 4 ∷ mark 5 m.Colon ∷ one 6 ∷ mark 7 m.RightBracket ∷ []) ≡ 1 ∷ 1 ∷ 2 ∷ 2 ∷ 2 ∷ 2 ∷ 1 ∷ []
a_choice = refl

-- `if(1)if(1);else;`, and `do do;while(1);while(1);`
ifs : nestings (at 1 (t.Word k.If) ∷ mark 2 m.LeftParen ∷ one 3 ∷ mark 4 m.RightParen ∷ at 5 (t.Word k.If) ∷ mark 6 m.LeftParen ∷ one 7 ∷ mark 8 m.RightParen
    ∷ mark 9 m.Semicolon ∷ at 10 (t.Word k.Else) ∷ mark 11 m.Semicolon ∷ []) ≡ 1 ∷ 2 ∷ 2 ∷ 1 ∷ 2 ∷ 3 ∷ 3 ∷ 2 ∷ 2 ∷ 2 ∷ 0 ∷ []
ifs = refl

dos : nestings (at 1 (t.Word k.Do) ∷ at 2 (t.Word k.Do) ∷ mark 3 m.Semicolon ∷ at 4 (t.Word k.While) ∷ mark 5 m.LeftParen ∷ one 6 ∷ mark 7 m.RightParen ∷ mark 8 m.Semicolon
    ∷ at 9 (t.Word k.While) ∷ mark 10 m.LeftParen ∷ one 11 ∷ mark 12 m.RightParen ∷ mark 13 m.Semicolon ∷ []) ≡ 1 ∷ 2 ∷ 2 ∷ 3 ∷ 4 ∷ 4 ∷ 3 ∷ 3 ∷ 4 ∷ 5 ∷ 5 ∷ 4 ∷ 0 ∷ []
dos = refl

-- with a single count left, closers do nothing
closers : nestings (mark 1 m.RightParen ∷ mark 2 m.RightBracket ∷ mark 3 m.RightBrace ∷ mark 4 m.Colon ∷ mark 5 m.Plus ∷ []) ≡ 0 ∷ 0 ∷ 0 ∷ 0 ∷ 1 ∷ []
closers = refl

a_one : {col : ℕ} {rest : List Token} → g.Expr (one col ∷ rest) rest (number (record { line = 1; col = col }) (pos 1) false)
a_one = g.one (g.no_assign (g.no_cond (g.operators (g.operators (g.operators (g.operators (g.operators (g.operators (g.operators (g.operators (g.operators (g.operators
    (g.operand (g.no_cast (g.operand_of_postfixes (g.is_number refl) g.no_postfix)))
    g.no_more) g.no_more) g.no_more) g.no_more) g.no_more) g.no_more) g.no_more) g.no_more) g.no_more) g.no_more)))

-- in `if(1)if(1);else;` the `else` belongs to the second `if`
an_else : g.Stmt (at 1 (t.Word k.If) ∷ mark 2 m.LeftParen ∷ one 3 ∷ mark 4 m.RightParen ∷ at 5 (t.Word k.If) ∷ mark 6 m.LeftParen ∷ one 7 ∷ mark 8 m.RightParen
    ∷ mark 9 m.Semicolon ∷ at 10 (t.Word k.Else) ∷ mark 11 m.Semicolon ∷ []) []
    (if_then (record { line = 1; col = 1 }) (number (record { line = 1; col = 3 }) (pos 1) false)
    (if_else (record { line = 1; col = 5 }) (number (record { line = 1; col = 7 }) (pos 1) false) (empty (record { line = 1; col = 9 })) (empty (record { line = 1; col = 11 }))))
an_else = g.is_if refl refl a_one refl (g.is_if_else refl refl a_one refl (g.is_empty refl) refl refl (g.is_empty refl))
