-- What the tests of single tokens say.
use Rattle.std.proofs.Common.{◌≡◌, ◌+◌, ◌<◌, List, [], ◌∷◌, Some, None, true, false, refl, sym, ◌∙◌, ap, arith, get_or}
use Rattle.std.specs.Prelude.{Option}
use Rattle.std.proofs.lemmas.Bool.{eqb-true, false_from_ne_true}
use Rattle.c_ast.specs.declared.mark.Mark.{Mark}
use Rattle.c_ast.specs.declared.mark.Mark.TheVariants as m
use Rattle.c_ast.specs.declared.keyword.Keyword.{Keyword}
use Rattle.c_ast.specs.declared.keyword.Keyword.TheVariants as k
use Rattle.c_ast.specs.declared.token.Tok.{Tok}
use Rattle.c_ast.specs.declared.token.Tok.TheVariants as t
use Rattle.c_ast.specs.declared.token.Token.{Token}
use Rattle.c_ast.specs.declared.tree.UnaryOp.{UnaryOp}
use Rattle.c_ast.specs.declared.tree.BinaryOp.{BinaryOp}
use Rattle.c_ast.specs.declared.tree.BinaryOp.TheVariants as b
use Rattle.c_ast.specs.Marks.{mark_number}
use Rattle.c_ast.specs.Keywords.{keyword_number}
use Rattle.c_ast.specs.GrammarTokens.{IsMark, IsWord, mark_of, binary_mark, binary_op, level, assign_mark, assign_op, step_mark, step_op, prefix_mark, prefix_op}
use Rattle.c_parse_machine.specs.Signs.{sign, is, says}

marks : List Mark
marks = m.LeftParen ∷ m.RightParen ∷ m.LeftBracket ∷ m.RightBracket ∷ m.LeftBrace ∷ m.RightBrace ∷ m.Comma ∷ m.Semicolon ∷ m.Question ∷ m.Colon
    ∷ m.Assign ∷ m.AddAssign ∷ m.SubAssign ∷ m.MulAssign ∷ m.DivAssign ∷ m.RemAssign ∷ m.ShiftLeftAssign ∷ m.ShiftRightAssign ∷ m.BitAndAssign ∷ m.BitXorAssign ∷ m.BitOrAssign
    ∷ m.Or ∷ m.And ∷ m.BitOr ∷ m.BitXor ∷ m.BitAnd ∷ m.Equal ∷ m.NotEqual ∷ m.Less ∷ m.LessEqual ∷ m.Greater ∷ m.GreaterEqual ∷ m.ShiftLeft ∷ m.ShiftRight
    ∷ m.Plus ∷ m.Minus ∷ m.Star ∷ m.Slash ∷ m.Percent ∷ m.Not ∷ m.BitNot ∷ m.Increment ∷ m.Decrement ∷ []

at_number : (a : Mark) → a ≡ get_or marks (mark_number a) m.LeftParen
unfolding marks
at_number m.LeftParen = refl
at_number _ = refl

small_mark : (a : Mark) → mark_number a < 43
small_mark m.LeftParen = omega arith
small_mark _ = omega arith

words : List Keyword
words = k.Break ∷ k.Char ∷ k.Continue ∷ k.Do ∷ k.Else ∷ k.For ∷ k.If ∷ k.Int ∷ k.Long ∷ k.Return ∷ k.Void ∷ k.While ∷ k.Null ∷ k.Eof ∷ []

word_at : (a : Keyword) → a ≡ get_or words (keyword_number a) k.Break
unfolding words
word_at k.Break = refl
word_at _ = refl

small_word : (a : Keyword) → keyword_number a < 14
small_word k.Break = omega arith
small_word _ = omega arith

pub is_true : (mark : Mark) (tok : Token) → is mark tok ≡ true → IsMark tok mark
is_true mark tok h = go tok.kind (eqb-true (sign tok.kind) (mark_number mark) h)
  where
    go : (kind : Tok) → sign kind ≡ mark_number mark → kind ≡ t.Mark mark
    go (t.Mark found) e = ap t.Mark (at_number found ∙ ap (λ n. get_or marks n m.LeftParen) e ∙ sym (at_number mark))
    go (t.Word word) e = absurd (omega (arith, e, small_mark mark))
    go (t.Name n) e = absurd (omega (arith, e, small_mark mark))
    go (t.Number v l) e = absurd (omega (arith, e, small_mark mark))
    go (t.Char v) e = absurd (omega (arith, e, small_mark mark))
    go (t.Str bs) e = absurd (omega (arith, e, small_mark mark))
    go (t.Reserved n) e = absurd (omega (arith, e, small_mark mark))

pub says_true : (word : Keyword) (tok : Token) → says word tok ≡ true → IsWord tok word
says_true word tok h = go tok.kind (eqb-true (sign tok.kind) (keyword_number word + 43) h)
  where
    go : (kind : Tok) → sign kind ≡ keyword_number word + 43 → kind ≡ t.Word word
    go (t.Mark found) e = absurd (omega (arith, e, small_mark found))
    go (t.Word found) e =
        let same : keyword_number found ≡ keyword_number word = omega (arith, e) in
        ap t.Word (word_at found ∙ ap (λ n. get_or words n k.Break) same ∙ sym (word_at word))
    go (t.Name n) e = absurd (omega (arith, e, small_word word))
    go (t.Number v l) e = absurd (omega (arith, e, small_word word))
    go (t.Char v) e = absurd (omega (arith, e, small_word word))
    go (t.Str bs) e = absurd (omega (arith, e, small_word word))
    go (t.Reserved n) e = absurd (omega (arith, e, small_word word))

-- what an equation about one token's kind refutes
pub none≢some : {A : Type 0} {x : A} → None ≡ Some x → ⊥
none≢some e = cc

pub some≢none : {A : Type 0} {x : A} → Some x ≡ None → ⊥
some≢none e = cc

-- a token that is an operator of a sort is no mark that is none
pub op_is_not : {A : Type 0} (f : Mark → Option A) (mark : Mark) (tok : Token) (op : A) → f mark ≡ None → mark_of f tok.kind ≡ Some op → is mark tok ≡ false
op_is_not f mark tok op e h = false_from_ne_true (is mark tok) (λ q.
    let same : mark_of f tok.kind ≡ f mark = ap (mark_of f) (is_true mark tok q) in
    none≢some (sym e ∙ sym same ∙ h))

pub not_assign : (tok : Token) (op : BinaryOp) → binary_op tok ≡ Some op → assign_op tok ≡ None
not_assign tok op h = go tok.kind h
  where
    by_mark : (mark : Mark) → binary_mark mark ≡ Some op → assign_mark mark ≡ None
    by_mark m.Assign e = absurd (none≢some e)
    by_mark m.AddAssign e = absurd (none≢some e)
    by_mark m.SubAssign e = absurd (none≢some e)
    by_mark m.MulAssign e = absurd (none≢some e)
    by_mark m.DivAssign e = absurd (none≢some e)
    by_mark m.RemAssign e = absurd (none≢some e)
    by_mark m.ShiftLeftAssign e = absurd (none≢some e)
    by_mark m.ShiftRightAssign e = absurd (none≢some e)
    by_mark m.BitAndAssign e = absurd (none≢some e)
    by_mark m.BitXorAssign e = absurd (none≢some e)
    by_mark m.BitOrAssign e = absurd (none≢some e)
    by_mark _ e = refl

    go : (kind : Tok) → mark_of binary_mark kind ≡ Some op → mark_of assign_mark kind ≡ None
    go (t.Mark mark) e = by_mark mark e
    go (t.Name n) e = refl
    go _ e = refl

pub not_step : (tok : Token) (op : UnaryOp) → prefix_op tok ≡ Some op → step_op tok ≡ None
not_step tok op h = go tok.kind h
  where
    by_mark : (mark : Mark) → prefix_mark mark ≡ Some op → step_mark mark ≡ None
    by_mark m.Increment e = absurd (none≢some e)
    by_mark m.Decrement e = absurd (none≢some e)
    by_mark _ e = refl

    go : (kind : Tok) → mark_of prefix_mark kind ≡ Some op → mark_of step_mark kind ≡ None
    go (t.Mark mark) e = by_mark mark e
    go (t.Name n) e = refl
    go _ e = refl

pub low_level : (op : BinaryOp) → (0 < level op) × (level op < 11)
low_level b.Or = (omega arith, omega arith)
low_level _ = (omega arith, omega arith)
