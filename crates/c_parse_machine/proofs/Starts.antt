-- The tokens with which an expression may begin.
use Rattle.std.proofs.Common.{◌≡◌, ℕ, ◌+◌, List, [], ◌∷◌, length, Some, None, Err, Bool, true, false, refl, sym, ◌∙◌, ap}
use Rattle.std.specs.Prelude.{Result}
use Rattle.std.proofs.lemmas.Bool.{false≢true, false_from_ne_true}
use Rattle.ib_meaning.specs.declared.place.Place.{Place}
use Rattle.c_ast.specs.declared.mark.Mark.{Mark}
use Rattle.c_ast.specs.declared.mark.Mark.TheVariants as m
use Rattle.c_ast.specs.declared.keyword.Keyword.{Keyword}
use Rattle.c_ast.specs.declared.keyword.Keyword.TheVariants as k
use Rattle.c_ast.specs.declared.token.Tok.{Tok}
use Rattle.c_ast.specs.declared.token.Tok.TheVariants as t
use Rattle.c_ast.specs.declared.token.Token.{Token}
use Rattle.c_ast.specs.declared.tree.UnaryOp.{UnaryOp}
use Rattle.c_ast.specs.GrammarTokens.{mark_of, step_mark, step_op, prefix_mark, prefix_op}
use Rattle.c_ast.specs.Trees.{Exp, Top}
use Rattle.c_ast.specs.Grammar as g
use Rattle.c_parse_machine.specs.Signs.{is, says, is_type}
use Rattle.c_parse_machine.specs.Machine.{Outer, State, stmt_word, stmt_kind, step, run}
use Rattle.c_parse_machine.proofs.Tokens.{is_true, says_true, none≢some}

abbrev starts_mark : Mark → Bool
starts_mark m.LeftParen = true
starts_mark m.BitAnd = true
starts_mark m.Star = true
starts_mark m.Plus = true
starts_mark m.Minus = true
starts_mark m.BitNot = true
starts_mark m.Not = true
starts_mark m.Increment = true
starts_mark m.Decrement = true
starts_mark _ = false

abbrev starts_word : Keyword → Bool
starts_word k.Null = true
starts_word k.Eof = true
starts_word _ = false

abbrev pub starts : Tok → Bool
starts (t.Mark mark) = starts_mark mark
starts (t.Word word) = starts_word word
starts (t.Reserved n) = false
starts (t.Name n) = true
starts (t.Number v l) = true
starts (t.Char v) = true
starts (t.Str bs) = true

abbrev pub Starts : List Token → Type 0
Starts [] = ⊥
Starts (tok ∷ ts) = starts tok.kind ≡ true

pub mark_not : (mark : Mark) (tok : Token) → starts (t.Mark mark) ≡ false → starts tok.kind ≡ true → is mark tok ≡ false
mark_not mark tok e h = false_from_ne_true (is mark tok) (λ q. false≢true (sym e ∙ sym (ap starts (is_true mark tok q)) ∙ h))

pub word_not : (word : Keyword) (tok : Token) → starts (t.Word word) ≡ false → starts tok.kind ≡ true → says word tok ≡ false
word_not word tok e h = false_from_ne_true (says word tok) (λ q. false≢true (sym e ∙ sym (ap starts (says_true word tok q)) ∙ h))

pub type_not : (tok : Token) → starts tok.kind ≡ true → is_type tok ≡ false
type_not tok h = rw (word_not k.Char tok refl h, word_not k.Int tok refl h, word_not k.Long tok refl h) refl

pub stmt_not : (tok : Token) (p : Place) (i : Outer) → starts tok.kind ≡ true → stmt_kind tok.kind p i ≡ None
stmt_not tok p i h = go tok.kind h
  where
    by_word : (word : Keyword) → starts_word word ≡ true → stmt_word word p i ≡ None
    by_word k.If e = absurd (false≢true e)
    by_word k.While e = absurd (false≢true e)
    by_word k.Do e = absurd (false≢true e)
    by_word k.For e = absurd (false≢true e)
    by_word k.Break e = absurd (false≢true e)
    by_word k.Continue e = absurd (false≢true e)
    by_word k.Return e = absurd (false≢true e)
    by_word _ e = refl

    go : (kind : Tok) → starts kind ≡ true → stmt_kind kind p i ≡ None
    go (t.Word word) e = by_word word e
    go (t.Name n) e = refl
    go _ e = refl

step_starts : (tok : Token) (op : UnaryOp) → step_op tok ≡ Some op → starts tok.kind ≡ true
step_starts tok op h = go tok.kind h
  where
    by_mark : (mark : Mark) → step_mark mark ≡ Some op → starts_mark mark ≡ true
    by_mark m.Increment e = refl
    by_mark m.Decrement e = refl
    by_mark _ e = absurd (none≢some e)

    go : (kind : Tok) → mark_of step_mark kind ≡ Some op → starts kind ≡ true
    go (t.Mark mark) e = by_mark mark e
    go (t.Name n) e = absurd (none≢some e)
    go _ e = absurd (none≢some e)

prefix_starts : (tok : Token) (op : UnaryOp) → prefix_op tok ≡ Some op → starts tok.kind ≡ true
prefix_starts tok op h = go tok.kind h
  where
    by_mark : (mark : Mark) → prefix_mark mark ≡ Some op → starts_mark mark ≡ true
    by_mark m.BitAnd e = refl
    by_mark m.Star e = refl
    by_mark m.Plus e = refl
    by_mark m.Minus e = refl
    by_mark m.BitNot e = refl
    by_mark m.Not e = refl
    by_mark _ e = absurd (none≢some e)

    go : (kind : Tok) → mark_of prefix_mark kind ≡ Some op → starts kind ≡ true
    go (t.Mark mark) e = by_mark mark e
    go (t.Name n) e = absurd (none≢some e)
    go _ e = absurd (none≢some e)

mutual
  pub expr_starts : {ts rest : List Token} {x : Exp} → g.Expr ts rest x → Starts ts
  expr_starts (g.one a) = assign_starts a
  expr_starts (g.several a e r) = assign_starts a

  pub assigns_start : {ts rest : List Token} {xs : List Exp} → g.Assigns ts rest xs → Starts ts
  assigns_start (g.last a) = assign_starts a
  assigns_start (g.before a e r) = assign_starts a

  pub assign_starts : {ts rest : List Token} {x : Exp} → g.Assign ts rest x → Starts ts
  assign_starts (g.no_assign c) = cond_starts c
  assign_starts (g.assigns u e a) = unary_starts u

  cond_starts : {ts rest : List Token} {x : Exp} → g.Cond ts rest x → Starts ts
  cond_starts (g.no_cond l) = level_starts l
  cond_starts (g.chooses l e b f d) = level_starts l

  level_starts : {n : ℕ} {ts rest : List Token} {x : Exp} → g.Level n ts rest x → Starts ts
  level_starts (g.operand c) = cast_starts c
  level_starts (g.operators l r) = level_starts l

  cast_starts : {ts rest : List Token} {x : Exp} → g.Cast ts rest x → Starts ts
  cast_starts (g.no_cast u) = unary_starts u
  cast_starts (g.casts e w s f c) = rw e refl

  unary_starts : {ts rest : List Token} {x : Exp} → g.Unary ts rest x → Starts ts
  unary_starts (g.operand_of_postfixes p r) = primary_starts p
  unary_starts (g.steps {s} {op} e u) = step_starts s op e
  unary_starts (g.prefixes {s} {op} e c) = prefix_starts s op e

  primary_starts : {ts rest : List Token} {x : Exp} → g.Primary ts rest x → Starts ts
  primary_starts (g.is_name e) = rw e refl
  primary_starts (g.is_call e f r) = rw e refl
  primary_starts (g.is_number e) = rw e refl
  primary_starts (g.is_character e) = rw e refl
  primary_starts (g.is_string e) = rw e refl
  primary_starts (g.is_null e) = rw e refl
  primary_starts (g.is_eof e) = rw e refl
  primary_starts (g.in_parens e x f) = rw e refl

-- two states that take each token that begins an expression alike are alike where an expression begins
pub alike_at : (s s' : State) (ts : List Token) → Starts ts → ((tok : Token) → starts tok.kind ≡ true → step s tok ≡ step s' tok) → run ts s ≡ run ts s'
alike_at s s' [] p h = absurd p
alike_at s s' (tok ∷ ts) p h = ap (λ o. elim o as (λ _. Result (List Top) ℕ) [ Some next ↦ run ts next | None ↦ Err (length ts + 1) ]) (h tok p)
