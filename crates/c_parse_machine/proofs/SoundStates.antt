-- What the machine finds is a unit of the tokens.
use Rattle.std.proofs.Common.{◌≡◌, ℕ, ◌+◌, List, [], ◌∷◌, ◌++◌, Some, None, Ok, Err, Bool, true, false, refl, sym, ◌∙◌, ap, subst, length, append_assoc, inl, inr, ◌&&◌}
use Rattle.std.specs.Prelude.{Option, ℤ}
use Rattle.std.proofs.lemmas.Bool.{false≢true}
use Rattle.ib_meaning.proofs.Facts.{some_same}
use Rattle.ib_meaning.specs.declared.place.Place.{Place}
use Rattle.c_ast.specs.declared.mark.Mark.TheVariants as m
use Rattle.c_ast.specs.declared.keyword.Keyword.{Keyword}
use Rattle.c_ast.specs.declared.keyword.Keyword.TheVariants as k
use Rattle.c_ast.specs.declared.token.Tok.{Tok}
use Rattle.c_ast.specs.declared.token.Tok.TheVariants as t
use Rattle.c_ast.specs.declared.token.Token.{Token}
use Rattle.c_ast.specs.declared.tree.Base.{Base}
use Rattle.c_ast.specs.declared.tree.Base.TheVariants as base
use Rattle.c_ast.specs.declared.tree_unit.Length.{Length}
use Rattle.c_ast.specs.declared.tree_unit.Length.TheVariants as len
use Rattle.c_ast.specs.GrammarTokens.{IsMark, IsWord, step_op, prefix_op, postfix_op}
use Rattle.c_ast.specs.Trees.{Ty, plain, Exp, name, unary, cast, no_init, value, elements, Decl, declarator, unnamed, named, Par, param, missing, given, start_expr, start_local, Stm, block, empty, expression, if_then, if_else, while_loop, do_while, for_loop, break, continue, return, local, stms, closed, Top, prototype, function, variables}
use Rattle.c_ast.specs.Grammar as g
use Rattle.c_parse_machine.specs.Signs.{is, says, is_type, name_of, length_of}
use Rattle.c_parse_machine.specs.Machine.{Head, head, Outer, braces, body, then_arm, else_arm, while_body, do_body, for_body, Inside, in_braces, in_body, top, global, in_block, in_for, Declaring, declaring, Role, as_statement, as_value, as_first, as_if, as_while, Frames, part, element, init_value, prefix, parens, subscript, arg, Use, a_declarator, a_parameter, a_cast, Sizing, of_declarator, of_parameter, Made, State, items, after_long, typed, named_at, sizes, size_open, size_given, sized, init_open, element_next, declared, params_open, params_void, param_next, params_done, inside, stmt, after, test, awaits, semi, for_open, for_start, operand, paren, called, opened, have, shut, begins_assign, begins_expr, outer_of, with_stm, with_decl, with_init, with_param, with_function, close, closer, begin_type, step_param, step_sized, step_sizes, step_type, step_typed, begin_word, begin_leaf, begin, go_on, step_awaits, stmt_word, stmt_kind, begin_stmt, step_inside, settle, begin_item, step, finish, ended, run}
use Rattle.c_parse_machine.proofs.Tokens.{is_true, says_true, none≢some}
use Rattle.c_parse_machine.proofs.Complete.{takes}
use Rattle.c_parse_machine.proofs.DeclarationLemmas.{with_params}
use Rattle.c_parse_machine.proofs.StatementLemmas.{append-nil}
use Rattle.c_parse_machine.proofs.Viable.{refuses}
use Rattle.c_parse_machine.proofs.Derives.{led, By, Rest, Follows, NewStmt, Block, Awaits, EndDeclaration, Declared, Indexed, Past, Done, ParamEnd, Sized, Sizes, NamedAt, AfterType, Typed, NewType, Operand, ForStart, Derives, Derived}
use Rattle.c_parse_machine.proofs.Sound.{on_test, on_choose, and_both, to_assign, to_expr, to_declarators, goes_back, declared_back, any_cap, back_follow}

-- kinds of tokens from what is read of them

name_back : (kind : Tok) (n : List ℕ) → name_of kind ≡ Some n → kind ≡ t.Name n
name_back (t.Name x) n e = ap t.Name (some_same e)
name_back (t.Number v l) n e = absurd (none≢some e)
name_back _ n e = absurd (none≢some e)

length_back : (kind : Tok) (l : Length) → length_of kind ≡ Some l → (v : ℤ) × (long : Bool) × (kind ≡ t.Number v long) × (len.Given v long ≡ l)
length_back (t.Number v long) l e = (v, long, refl, some_same e)
length_back (t.Name n) l e = absurd (none≢some e)
length_back _ l e = absurd (none≢some e)

-- types

type_back : (why : Use) (tok : Token) (ts : List Token) (u : List Top) → Derived (begin_type why tok) ts u → NewType why (tok ∷ ts) u
type_back why tok ts u d =
    elim (on_test (says k.Char tok) _ _ ts u d) [
      | inl p ↦ (base.Char, ts, g.is_char (says_true k.Char tok p.0), p.1)
      | inr q ↦ elim (on_test (says k.Int tok) _ _ ts u q.1) [
        | inl p ↦ (base.Int, ts, g.is_int (says_true k.Int tok p.0), p.1)
        | inr q ↦ elim (on_test (says k.Long tok) _ _ ts u q.1) [ inl p ↦ long ts (says_true k.Long tok p.0) p.1 | inr p ↦ absurd p.1 ]
      ]
    ]
  where
    long : (ts : List Token) → IsWord tok k.Long → Derives (after_long why) ts u → NewType why (tok ∷ ts) u
    long _ e (inl (led {rest} (f, h))) = (base.Long, rest, g.is_long_int e f, h)
    long ts e (inr h) = (base.Long, ts, g.is_long e, h)

-- declarations

param_back : (h : Head) (tok : Token) (ts : List Token) (u : List Top) → Derived (step_param h tok) ts u → ParamEnd h (tok ∷ ts) u
param_back h tok ts u d =
    elim (on_test (is m.Comma tok) _ _ ts u d) [
      | inl p ↦ inr (led (is_true m.Comma tok p.0, p.1))
      | inr q ↦ elim (on_test (is m.RightParen tok) _ _ ts u q.1) [ inl p ↦ inl (led (is_true m.RightParen tok p.0, p.1)) | inr p ↦ absurd p.1 ]
    ]

sized_back : (z : Sizing) (l : Length) (tok : Token) (ts : List Token) (u : List Top) → Derived (step_sized z l tok) ts u → Sized z l (tok ∷ ts) u
sized_back (of_declarator d p ty n) l tok ts u h =
    elim (on_test (is m.Assign tok) _ _ ts u h) [
      | inl q ↦ opened_init ts (is_true m.Assign tok q.0) q.1
      | inr q ↦ (no_init, tok ∷ ts, g.no_value, declared_back (with_decl d (declarator p ty n l no_init)) tok ts u q.1)
    ]
  where
    opened_init : (ts : List Token) → IsMark tok m.Assign → Derives (init_open (Made.made d p ty n l)) ts u → Sized (of_declarator d p ty n) l (tok ∷ ts) u
    opened_init _ e (inl (led (f, (xs, rest, r, h)))) = (elements xs, rest, g.a_list e f r, h)
    opened_init _ e (inr (x, rest, r, h)) = (value x, rest, g.a_value e r, h)
sized_back (of_parameter h p ty n) l tok ts u d = param_back (with_param h (param p ty n l)) tok ts u d

sizes_back : (z : Sizing) (tok : Token) (ts : List Token) (u : List Top) → Derived (step_sizes z tok) ts u → Sizes z (tok ∷ ts) u
sizes_back z tok ts u d =
    elim (on_test (is m.LeftBracket tok) _ _ ts u d) [
      | inl p ↦ brackets ts (is_true m.LeftBracket tok p.0) p.1
      | inr p ↦ (len.Scalar, tok ∷ ts, g.no_brackets, sized_back z len.Scalar tok ts u p.1)
    ]
  where
    brackets : (ts : List Token) → IsMark tok m.LeftBracket → Derives (size_open z) ts u → Sizes z (tok ∷ ts) u
    brackets _ e (inl (led {rest} (f, h))) = (len.Missing, rest, g.no_length e f, h)
    brackets _ e (inr (led (v, long, q, led {rest} (f, h)))) = (len.Given v long, rest, g.a_length e q f, h)

size_open_back : (z : Sizing) (tok : Token) (ts : List Token) (u : List Top) → Derived (step (size_open z) tok) ts u → Derives (size_open z) (tok ∷ ts) u
size_open_back z tok ts u d =
    elim (on_test (is m.RightBracket tok) _ _ ts u d) [
      | inl p ↦ inl (led (is_true m.RightBracket tok p.0, p.1))
      | inr q ↦ elim (on_choose (length_of tok.kind) _ _ ts u q.1) [
        | inl p ↦
            let r = length_back tok.kind p.0 p.1 in
            inr (led (r.0, r.1, r.2, subst (λ l. By m.RightBracket (λ rest. Sized z l rest u) ts) (sym r.3) p.2))
        | inr p ↦ absurd p.1
      ]
    ]

after_type_back : (why : Use) (b : Base) (ty : Ty) (tok : Token) (ts : List Token) (u : List Top) → Derived (step_type why b ty tok) ts u → AfterType why b ty (tok ∷ ts) u
after_type_back (a_declarator target ds) b ty tok ts u d =
    elim (on_choose (name_of tok.kind) _ _ ts u d) [ inl p ↦ led (p.0, name_back tok.kind p.0 p.1, p.2) | inr p ↦ absurd p.1 ]
after_type_back (a_parameter q h) b ty tok ts u d =
    elim (on_choose (name_of tok.kind) _ _ ts u d) [
      | inl p ↦ inl (led (p.0, name_back tok.kind p.0 p.1, p.2))
      | inr p ↦ inr (sizes_back (of_parameter h q ty unnamed) tok ts u p.1)
    ]
after_type_back (a_cast q σ) b ty tok ts u d =
    elim (on_test (is m.RightParen tok) _ _ ts u d) [ inl p ↦ led (is_true m.RightParen tok p.0, casted p.1) | inr p ↦ absurd p.1 ]
  where
    casted : Derives (operand true (Frames.cast_to q ty σ)) ts u → (x : Exp) × (rest : List Token) × g.Cast ts rest x × Past σ 10 (cast q ty x) rest u
    casted (inl (x, rest, r, h)) = (x, rest, g.no_cast r, h)
    casted (inr (e, x, rest, r, h)) = (x, rest, r, h)

typed_back : (why : Use) (b : Base) (ty : Ty) (tok : Token) (ts : List Token) (u : List Top) → Derived (step_typed why b ty tok) ts u → Typed why b ty (tok ∷ ts) u
typed_back why b ty tok ts u d =
    elim (on_test (is m.Star tok) _ _ ts u d) [
      | inl p ↦ let (full, mid, r, h) = p.1 in (full, mid, g.star (is_true m.Star tok p.0) r, h)
      | inr p ↦ (ty, tok ∷ ts, g.no_star, after_type_back why b ty tok ts u p.1)
    ]

named_back : (d : Declaring) (p : Place) (ty : Ty) (n : List ℕ) (tok : Token) (ts : List Token) (u : List Top) → Derived (step (named_at d p ty n) tok) ts u → NamedAt d p ty n (tok ∷ ts) u
named_back (declaring (top xs) b ds) p ty n tok ts u h =
    elim (on_test (is m.LeftParen tok) _ _ ts u h) [ inl q ↦ inl (led (is_true m.LeftParen tok q.0, q.1)) | inr q ↦ inr (sizes_back (of_declarator (declaring (top xs) b ds) p ty n) tok ts u q.1) ]
named_back (declaring (global xs) b ds) p ty n tok ts u h =
    elim (on_test (is m.LeftParen tok) _ _ ts u h) [ inl q ↦ absurd q.1 | inr q ↦ inr (sizes_back (of_declarator (declaring (global xs) b ds) p ty n) tok ts u q.1) ]
named_back (declaring (in_block r i) b ds) p ty n tok ts u h =
    elim (on_test (is m.LeftParen tok) _ _ ts u h) [ inl q ↦ absurd q.1 | inr q ↦ inr (sizes_back (of_declarator (declaring (in_block r i) b ds) p ty n) tok ts u q.1) ]
named_back (declaring (in_for r i) b ds) p ty n tok ts u h =
    elim (on_test (is m.LeftParen tok) _ _ ts u h) [ inl q ↦ absurd q.1 | inr q ↦ inr (sizes_back (of_declarator (declaring (in_for r i) b ds) p ty n) tok ts u q.1) ]

end_params : (h : Head) (x : Par) (u : List Top) {ts mid : List Token} → g.Param ts mid x → ParamEnd (with_param h x) mid u →
    (xs : List Par) × (rest : List Token) × g.Params ts rest xs × Done (with_params h xs) rest u
end_params (head front p ty n ps) x u r (inl (led {rest} (e, d))) = (x ∷ [], rest, g.last_param r e, d)
end_params (head front p ty n ps) x u r (inr (led (e, (xs, rest, more, d)))) =
    (x ∷ xs, rest, g.a_param r e more, subst (λ l. Done (head front p ty n l) rest u) (append_assoc ps (x ∷ []) xs) d)

params_of : (h : Head) (u : List Top) {w : Token} {ts mid : List Token} {b : Base} → g.ValueType (w ∷ ts) mid b → Typed (a_parameter w.place h) b (plain b) mid u →
    (xs : List Par) × (rest : List Token) × g.Params (w ∷ ts) rest xs × Done (with_params h xs) rest u
params_of h u v (full, m1, st, inl (led {c} (n, q, (l, m2, ln, e)))) = end_params h (param c.place full (named n) l) u (g.with_name v st q ln) e
params_of h u {w} v (full, m1, st, inr (l, m2, ln, e)) = end_params h (param w.place full unnamed l) u (g.without_name v st ln) e

no_more_params : (h : Head) (ts : List Token) (u : List Top) → Done h ts u → Done (with_params h []) ts u
no_more_params (head front p ty n ps) ts u d = subst (λ l. Done (head front p ty n l) ts u) (sym (append-nil ps)) d

params_back : (h : Head) (tok : Token) (ts : List Token) (u : List Top) → Derived (step (params_open h) tok) ts u → Derives (params_open h) (tok ∷ ts) u
params_back h tok ts u d =
    elim (on_test (is m.RightParen tok) _ _ ts u d) [
      | inl p ↦ ([], ts, g.no_params (is_true m.RightParen tok p.0), no_more_params h ts u p.1)
      | inr q ↦ elim (on_test (says k.Void tok) _ _ ts u q.1) [
        | inl p ↦ void ts (says_true k.Void tok p.0) p.1
        | inr p ↦
            let (b, mid, v, h') = type_back (a_parameter tok.place h) tok ts u p.1 in
            let (xs, rest, r, e) = params_of h u v h' in
            (xs, rest, g.some_params r, e)
      ]
    ]
  where
    void : (ts : List Token) → IsWord tok k.Void → Derives (params_void h) ts u → Derives (params_open h) (tok ∷ ts) u
    void _ e (led {rest} (f, d)) = ([], rest, g.void_params e f, no_more_params h rest u d)

-- expressions

leaf_back : (casts : Bool) (σ : Frames) (tok : Token) (ts : List Token) (u : List Top) → Derived (begin_leaf tok.kind tok.place σ) ts u → Operand casts σ (tok ∷ ts) u
leaf_back casts σ tok ts u d = go ts tok.kind refl d
  where
    by_word : (ts : List Token) (word : Keyword) → tok.kind ≡ t.Word word → Derived (begin_word word tok.place σ) ts u → Operand casts σ (tok ∷ ts) u
    by_word ts k.Null e (x, mid, r, p) = inl (x, mid, g.operand_of_postfixes (g.is_null e) r, p)
    by_word ts k.Eof e (x, mid, r, p) = inl (x, mid, g.operand_of_postfixes (g.is_eof e) r, p)
    by_word ts _ e d = absurd d

    go : (ts : List Token) (kind : Tok) → tok.kind ≡ kind → Derived (begin_leaf kind tok.place σ) ts u → Operand casts σ (tok ∷ ts) u
    go ts (t.Name n) e (inl (led (o, (xs, next, r, (x, mid, s, p))))) = inl (x, mid, g.operand_of_postfixes (g.is_call e o r) s, p)
    go ts (t.Name n) e (inr (x, mid, r, p)) = inl (x, mid, g.operand_of_postfixes (g.is_name e) r, p)
    go ts (t.Number v long) e (x, mid, r, p) = inl (x, mid, g.operand_of_postfixes (g.is_number e) r, p)
    go ts (t.Char v) e (x, mid, r, p) = inl (x, mid, g.operand_of_postfixes (g.is_character e) r, p)
    go ts (t.Str bytes) e (x, mid, r, p) = inl (x, mid, g.operand_of_postfixes (g.is_string e) r, p)
    go ts (t.Word word) e d = by_word ts word e d
    go ts (t.Mark mark) e d = absurd d
    go ts (t.Reserved n) e d = absurd d

begin_back : (casts : Bool) (σ : Frames) (tok : Token) (ts : List Token) (u : List Top) → Derived (begin casts σ tok) ts u → Operand casts σ (tok ∷ ts) u
begin_back casts σ tok ts u d =
    elim (on_test (is m.LeftParen tok) _ _ ts u d) [
      | inl p ↦ parenthesis (is_true m.LeftParen tok p.0) p.1
      | inr q ↦ elim (on_choose (step_op tok) _ _ ts u q.1) [
        | inl p ↦ stepped p.1 p.2
        | inr q ↦ elim (on_choose (prefix_op tok) _ _ ts u q.1) [ inl p ↦ prefixed p.1 p.2 | inr p ↦ leaf_back casts σ tok ts u p.1 ]
      ]
    ]
  where
    parenthesis : IsMark tok m.LeftParen → Derives (paren casts tok.place σ) ts u → Operand casts σ (tok ∷ ts) u
    parenthesis o (inl (c, (b, mid, v, (full, m2, st, led (e, (x, rest, r, p)))))) = inr (c, cast tok.place full x, rest, g.casts o v st e r, p)
    parenthesis o (inr (x, mid, r, led (e, (y, m2, s, p)))) = inl (y, m2, g.operand_of_postfixes (g.in_parens o r e) s, p)

    stepped : {op : _} → step_op tok ≡ Some op → Derives (operand false (prefix tok.place op σ)) ts u → Operand casts σ (tok ∷ ts) u
    stepped {op} e (inl (a, mid, r, p)) = inl (unary tok.place op a, mid, g.steps e r, p)
    stepped e (inr (f, a, mid, r, p)) = absurd (false≢true f)

    prefixed : {op : _} → prefix_op tok ≡ Some op → Derives (operand true (prefix tok.place op σ)) ts u → Operand casts σ (tok ∷ ts) u
    prefixed {op} e (inl (a, mid, r, p)) = inl (unary tok.place op a, mid, g.prefixes e (g.no_cast r), p)
    prefixed {op} e (inr (f, a, mid, r, p)) = inl (unary tok.place op a, mid, g.prefixes e r, p)

go_back : (σ : Frames) (a : Exp) (tok : Token) (ts : List Token) (u : List Top) → Derived (go_on a σ tok) ts u → Indexed (λ y rest. Past σ 10 y rest u) a (tok ∷ ts)
go_back σ a tok ts u d =
    elim (on_test (is m.LeftBracket tok) _ _ ts u d) [
      | inl p ↦ subscripted (is_true m.LeftBracket tok p.0) (to_expr (subscript tok.place a σ) u p.1)
      | inr q ↦ elim (on_choose (postfix_op tok) _ _ ts u q.1) [
        | inl p ↦ let (x, mid, r, h) = p.2 in (x, mid, g.stepped p.1 r, h)
        | inr p ↦ (a, tok ∷ ts, g.no_postfix, back_follow σ 10 a tok ts u (any_cap tok) p.1)
      ]
    ]
  where
    subscripted : IsMark tok m.LeftBracket → ((i : Exp) × (mid : List Token) × g.Expr ts mid i × Past (subscript tok.place a σ) 10 i mid u) → Indexed (λ y rest. Past σ 10 y rest u) a (tok ∷ ts)
    subscripted o (i, mid, r, led (e, (x, m2, s, p))) = (x, m2, g.indexed o r e s, p)

elements_of : (v : Made) (front : List Exp) (u : List Top) {ts : List Token} → Operand true (begins_assign (element v front)) ts u →
    (ys : List Exp) × (rest : List Token) × g.Elements ts rest ys × Declared (with_init v (elements (front ++ ys))) rest u
elements_of v front u {ts} d = go (to_assign (element v front) u d)
  where
    go : ((x : Exp) × (mid : List Token) × g.Assign ts mid x × Past (element v front) 10 x mid u) → (ys : List Exp) × (rest : List Token) × g.Elements ts rest ys × Declared (with_init v (elements (front ++ ys))) rest u
    go (x, mid, r, inl (led {rest} (e, h))) = (x ∷ [], rest, g.last_element r e, h)
    go (x, mid, r, inr (led (e, inl (led {rest} (f, h))))) = (x ∷ [], rest, g.last_comma r e f, h)
    go (x, mid, r, inr (led (e, inr (ys, rest, s, h)))) =
        (x ∷ ys, rest, g.an_element r e s, subst (λ l. Declared (with_init v (elements l)) rest u) (append_assoc front (x ∷ []) ys) h)

-- statements

awaits_back : (role : Role) (tok : Token) (ts : List Token) (u : List Top) → Derived (step_awaits role tok) ts u → Awaits role (tok ∷ ts) u
awaits_back role tok ts u d =
    elim (on_test (is (closer role) tok) _ _ ts u d) [
      | inl p ↦ (missing, ts, g.nothing (is_true (closer role) tok p.0), goes_back role missing ts u p.1)
      | inr p ↦ there (to_expr (part role) u (begin_back true (begins_expr (part role)) tok ts u p.1))
    ]
  where
    there : ((x : Exp) × (mid : List Token) × g.Expr (tok ∷ ts) mid x × Past (part role) 10 x mid u) → Awaits role (tok ∷ ts) u
    there (x, mid, r, led {rest} (e, h)) = (given x, rest, g.something r e, h)

word_back : (i : Outer) (tok : Token) (ts : List Token) (u : List Top) (kind : Tok) → tok.kind ≡ kind → (s : State) → stmt_kind kind tok.place i ≡ Some s → Derives s ts u → NewStmt i (tok ∷ ts) u
word_back i tok ts u kind q s e d = go kind q e
  where
    by_if : (ts : List Token) → IsWord tok k.If → Derives (test (as_if tok.place i)) ts u → NewStmt i (tok ∷ ts) u
    by_if _ w (led (o, (x, mid, r, led (c, (s, rest, st, inl f))))) = (if_then tok.place x s, rest, g.is_if w o r c st, f)
    by_if _ w (led (o, (x, mid, r, led (c, (s, rest, st, inr (led (v, shuts, b, end, more, f))))))) = (if_else tok.place x s b, end, g.is_if_else w o r c st shuts v more, f)

    by_while : (ts : List Token) → IsWord tok k.While → Derives (test (as_while tok.place i)) ts u → NewStmt i (tok ∷ ts) u
    by_while _ w (led (o, (x, mid, r, led (c, (s, rest, st, f))))) = (while_loop tok.place x s, rest, g.is_while w o r c st, f)

    by_do : (ts : List Token) → IsWord tok k.Do → Derives (stmt (do_body tok.place i)) ts u → NewStmt i (tok ∷ ts) u
    by_do _ w (s, mid, st, led (v, led (o, (x, m2, r, led (c, led {rest} (z, f)))))) = (do_while tok.place s x, rest, g.is_do w st v o r c z, f)

    by_for : (ts : List Token) → IsWord tok k.For → Derives (for_open tok.place i) ts u → NewStmt i (tok ∷ ts) u
    by_for _ w (led (o, (start, m1, r, (y, m2, second, (z, m3, third, (s, rest, st, f)))))) = (for_loop tok.place start y z s, rest, g.is_for w o r second third st, f)

    by_break : (ts : List Token) → IsWord tok k.Break → Derives (semi (break tok.place) i) ts u → NewStmt i (tok ∷ ts) u
    by_break _ w (led {rest} (z, f)) = (break tok.place, rest, g.is_break w z, f refl)

    by_continue : (ts : List Token) → IsWord tok k.Continue → Derives (semi (continue tok.place) i) ts u → NewStmt i (tok ∷ ts) u
    by_continue _ w (led {rest} (z, f)) = (continue tok.place, rest, g.is_continue w z, f refl)

    by_return : (ts : List Token) → IsWord tok k.Return → Derives (awaits (as_value tok.place i)) ts u → NewStmt i (tok ∷ ts) u
    by_return _ w (x, mid, r, f) = (return tok.place x, mid, g.is_return w r, f)

    same : (x : State) → Some x ≡ Some s → Derives x ts u
    same x e = subst (λ z. Derives z ts u) (sym (some_same e)) d

    by_word : (word : Keyword) → tok.kind ≡ t.Word word → stmt_word word tok.place i ≡ Some s → NewStmt i (tok ∷ ts) u
    by_word k.If w e = by_if ts w (same (test (as_if tok.place i)) e)
    by_word k.While w e = by_while ts w (same (test (as_while tok.place i)) e)
    by_word k.Do w e = by_do ts w (same (stmt (do_body tok.place i)) e)
    by_word k.For w e = by_for ts w (same (for_open tok.place i) e)
    by_word k.Break w e = by_break ts w (same (semi (break tok.place) i) e)
    by_word k.Continue w e = by_continue ts w (same (semi (continue tok.place) i) e)
    by_word k.Return w e = by_return ts w (same (awaits (as_value tok.place i)) e)
    by_word _ w e = absurd (none≢some e)

    go : (kind : Tok) → tok.kind ≡ kind → stmt_kind kind tok.place i ≡ Some s → NewStmt i (tok ∷ ts) u
    go (t.Word word) w e = by_word word w e
    go (t.Name n) w e = absurd (none≢some e)
    go _ w e = absurd (none≢some e)

stmt_back : (i : Outer) (tok : Token) (ts : List Token) (u : List Top) → Derived (begin_stmt i tok) ts u → NewStmt i (tok ∷ ts) u
stmt_back i tok ts u d =
    elim (on_choose (stmt_kind tok.kind tok.place i) _ _ ts u d) [
      | inl p ↦ word_back i tok ts u tok.kind refl p.0 p.1 p.2
      | inr q ↦ elim (on_test (is m.LeftBrace tok) _ _ ts u q.1) [
        | inl p ↦ in_brace (is_true m.LeftBrace tok p.0) p.1
        | inr p ↦ plain_stmt (awaits_back (as_statement tok.place i) tok ts u p.1)
      ]
    ]
  where
    in_brace : IsMark tok m.LeftBrace → Derives (inside (in_braces tok.place [] i)) ts u → NewStmt i (tok ∷ ts) u
    in_brace o (ys, mid, r, led {rest} (c, f)) = (block tok.place (stms ys), rest, g.is_block o r c, f)

    plain_stmt : Awaits (as_statement tok.place i) (tok ∷ ts) u → NewStmt i (tok ∷ ts) u
    plain_stmt (x, mid, g.nothing e, f) = (empty tok.place, mid, g.is_empty e, f)
    plain_stmt (x, mid, g.something {x = y} r e, f) = (expression tok.place y, mid, g.is_expression r e, f)

locals_of : (p : Place) (b : Inside) (u : List Top) {ts mid : List Token} {base : Base} → g.ValueType ts mid base → Typed (a_declarator (in_block p b) []) base (plain base) mid u →
    (ds : List Decl) × (rest : List Token) × g.Local ts rest ds × EndDeclaration (in_block p b) ds rest u
locals_of p b u v (full, m1, st, led (n, q, inl z)) = absurd z
locals_of p b u {base} v (full, m1, st, led (n, q, inr z)) = let (ds, rest, r, h) = to_declarators (in_block p b) base [] u st q z in (ds, rest, g.declaration v r, h)

first_of : (p : Place) (i : Outer) (u : List Top) {ts mid : List Token} {base : Base} → g.ValueType ts mid base → Typed (a_declarator (in_for p i) []) base (plain base) mid u → ForStart p i ts u
first_of p i u v (full, m1, st, led (n, q, inl z)) = absurd z
first_of p i u {base} v (full, m1, st, led (n, q, inr z)) = let (ds, rest, r, h) = to_declarators (in_for p i) base [] u st q z in (start_local ds, rest, g.for_local (g.declaration v r), h)

with_local : (b : Inside) (tok : Token) (ts : List Token) (u : List Top) {rest : List Token} {ds : List Decl} → g.Local (tok ∷ ts) rest ds → Block (with_stm b (local tok.place ds)) rest u → Block b (tok ∷ ts) u
with_local (in_braces p xs i) tok ts u {ds} r (ys, mid, s, led {rest} (c, f)) =
    (local tok.place ds ∷ ys, _, g.a_local r s, led (c, subst (λ l. Follows i (block p (stms l)) rest u) (append_assoc xs (local tok.place ds ∷ []) ys) f))
with_local (in_body h xs) tok ts u {ds} r (ys, mid, s, led {rest} (c, f)) =
    (local tok.place ds ∷ ys, _, g.a_local r s, led (c, subst (λ l. Rest (with_function h l) rest u) (append_assoc xs (local tok.place ds ∷ []) ys) f))

with_stmt : (b : Inside) (ts : List Token) (u : List Top) → NewStmt (outer_of b) ts u → Block b ts u
with_stmt (in_braces p xs i) ts u (s, rest, r, (ys, mid, q, led (c, f))) = (s ∷ ys, _, g.a_stmt r q, led (c, f))
with_stmt (in_body h xs) ts u (s, rest, r, (ys, mid, q, led (c, f))) = (s ∷ ys, _, g.a_stmt r q, led (c, f))

closed_block : (b : Inside) (tok : Token) (ts : List Token) (u : List Top) → IsMark tok m.RightBrace → Derives (close b) ts u → Block b (tok ∷ ts) u
closed_block (in_braces p xs i) tok ts u e d = ([], tok ∷ ts, g.no_stmt, led (e, subst (λ l. Follows i (block p (stms l)) ts u) (sym (append-nil xs)) (d refl)))
closed_block (in_body h xs) tok ts u e d = ([], tok ∷ ts, g.no_stmt, led (e, subst (λ l. Rest (with_function h l) ts u) (sym (append-nil xs)) d))

inside_back : (b : Inside) (tok : Token) (ts : List Token) (u : List Top) → Derived (step_inside b tok) ts u → Block b (tok ∷ ts) u
inside_back b tok ts u d =
    elim (on_test (is m.RightBrace tok) _ _ ts u d) [
      | inl p ↦ closed_block b tok ts u (is_true m.RightBrace tok p.0) p.1
      | inr q ↦ elim (on_test (is_type tok) _ _ ts u q.1) [
        | inl p ↦
            let (base, mid, v, h) = type_back (a_declarator (in_block tok.place b) []) tok ts u p.1 in
            let (ds, rest, r, f) = locals_of tok.place b u v h in
            with_local b tok ts u r f
        | inr p ↦ with_stmt b (tok ∷ ts) u (stmt_back (outer_of b) tok ts u p.1)
      ]
    ]

settle_back : (i : Outer) (s : Stm) (tok : Token) (ts : List Token) (u : List Top) → (says k.Else tok ≡ true → closed s ≡ true) → Derived (settle s i tok) ts u → Follows i s (tok ∷ ts) u
settle_back (braces p xs i) s tok ts u c d = go (inside_back (in_braces p (xs ++ s ∷ []) i) tok ts u d)
  where
    go : Block (in_braces p (xs ++ s ∷ []) i) (tok ∷ ts) u → Follows (braces p xs i) s (tok ∷ ts) u
    go (ys, mid, r, led {rest} (e, f)) = (ys, _, r, led (e, subst (λ l. Follows i (block p (stms l)) rest u) (append_assoc xs (s ∷ []) ys) f))
settle_back (body h xs) s tok ts u c d = go (inside_back (in_body h (xs ++ s ∷ [])) tok ts u d)
  where
    go : Block (in_body h (xs ++ s ∷ [])) (tok ∷ ts) u → Follows (body h xs) s (tok ∷ ts) u
    go (ys, mid, r, led {rest} (e, f)) = (ys, _, r, led (e, subst (λ l. Rest (with_function h l) rest u) (append_assoc xs (s ∷ []) ys) f))
settle_back (then_arm p e i) s tok ts u c d =
    elim (on_test (says k.Else tok) _ _ ts u d) [
      | inl q ↦ let (b, rest, r, f) = q.1 in inr (led (says_true k.Else tok q.0, c q.0, b, rest, r, f))
      | inr q ↦ inl (settle_back i (if_then p e s) tok ts u (λ h. absurd (false≢true (sym q.0 ∙ h))) q.1)
    ]
settle_back (else_arm p e a i) s tok ts u c d = settle_back i (if_else p e a s) tok ts u c d
settle_back (while_body p e i) s tok ts u c d = settle_back i (while_loop p e s) tok ts u c d
settle_back (do_body p i) s tok ts u c d =
    elim (on_test (says k.While tok) _ _ ts u d) [ inl q ↦ led (says_true k.While tok q.0, q.1) | inr q ↦ absurd q.1 ]
settle_back (for_body p start x y i) s tok ts u c d = settle_back i (for_loop p start x y s) tok ts u c d

-- items

item_of : (xs : List Top) (u : List Top) {ts mid : List Token} {b : Base} → g.ItemType ts mid b → Typed (a_declarator (top xs) []) b (plain b) mid u → Rest xs ts u
item_of xs u v (full, m1, st, led {c = w} (n, q, inl (led (o, (ps, m3, pl, inl (led (c, (ys, its, e)))))))) =
    (prototype w.place full n ps ∷ ys, g.an_item (g.is_prototype v st q o pl c) its, e ∙ append_assoc xs (prototype w.place full n ps ∷ []) ys)
item_of xs u v (full, m1, st, led {c = w} (n, q, inl (led (o, (ps, m3, pl, inr (led (c, (ss, m4, sts, led (z, (ys, its, e)))))))))) =
    (function w.place full n ps ss ∷ ys, g.an_item (g.is_function v st q o pl c sts z) its, e ∙ append_assoc xs (function w.place full n ps ss ∷ []) ys)
item_of xs u {b} v (full, m1, st, led {c = w} (n, q, inr z)) =
    let (ds, rest, r, (ys, its, e)) = to_declarators (top xs) b [] u st q z in
    (variables ds ∷ ys, g.an_item (g.are_variables v r) its, e ∙ append_assoc xs (variables ds ∷ []) ys)

item_back : (xs : List Top) (tok : Token) (ts : List Token) (u : List Top) → Derived (begin_item xs tok) ts u → Rest xs (tok ∷ ts) u
item_back xs tok ts u d =
    elim (on_test (says k.Void tok) _ _ ts u d) [
      | inl p ↦ item_of xs u (g.is_void (says_true k.Void tok p.0)) p.1
      | inr p ↦ let (b, mid, v, h) = type_back (a_declarator (top xs) []) tok ts u p.1 in item_of xs u (g.is_value v) h
    ]

opened_back : (p : Place) (f : List ℕ) (σ : Frames) (tok : Token) (ts : List Token) (u : List Top) → Derived (step (opened p f σ) tok) ts u → Derives (opened p f σ) (tok ∷ ts) u
opened_back p f σ tok ts u d =
    elim (on_test (is m.RightParen tok) _ _ ts u d) [
      | inl q ↦ ([], ts, g.no_args (is_true m.RightParen tok q.0), q.1)
      | inr q ↦ go (to_assign (arg p f [] σ) u (begin_back true (begins_assign (arg p f [] σ)) tok ts u q.1))
    ]
  where
    go : ((x : Exp) × (mid : List Token) × g.Assign (tok ∷ ts) mid x × Past (arg p f [] σ) 10 x mid u) → Derives (opened p f σ) (tok ∷ ts) u
    go (x, mid, r, inl (led {rest} (e, h))) = (x ∷ [], rest, g.some_args (g.last r) e, h)
    go (x, mid, r, inr (led (e, (ys, m2, s, led {rest} (z, h))))) = (x ∷ ys, rest, g.some_args (g.before r e s) z, h)

paren_back : (casts : Bool) (p : Place) (σ : Frames) (tok : Token) (ts : List Token) (u : List Top) → Derived (step (paren casts p σ) tok) ts u → Derives (paren casts p σ) (tok ∷ ts) u
paren_back casts p σ tok ts u d =
    elim (on_test (casts && is_type tok) _ _ ts u d) [
      | inl q ↦ inl ((and_both casts (is_type tok) q.0).0, type_back (a_cast p (shut σ)) tok ts u q.1)
      | inr q ↦ inr (to_expr (parens σ) u (begin_back true (begins_expr (parens σ)) tok ts u q.1))
    ]

-- from each state back over one token
back : (s : State) (tok : Token) (ts : List Token) (u : List Top) → Derived (step s tok) ts u → Derives s (tok ∷ ts) u
back (items xs) tok ts u d = item_back xs tok ts u d
back (after_long why) tok ts u d =
    elim (on_test (says k.Int tok) _ _ ts u d) [
      | inl p ↦ inl (led (says_true k.Int tok p.0, p.1))
      | inr p ↦ inr (typed_back why base.Long (plain base.Long) tok ts u p.1)
    ]
back (typed why b ty) tok ts u d = typed_back why b ty tok ts u d
back (named_at x p ty n) tok ts u d = named_back x p ty n tok ts u d
back (sizes z) tok ts u d = sizes_back z tok ts u d
back (size_open z) tok ts u d = size_open_back z tok ts u d
back (size_given z l) tok ts u d =
    elim (on_test (is m.RightBracket tok) _ _ ts u d) [ inl p ↦ led (is_true m.RightBracket tok p.0, p.1) | inr p ↦ absurd p.1 ]
back (sized z l) tok ts u d = sized_back z l tok ts u d
back (init_open v) tok ts u d =
    elim (on_test (is m.LeftBrace tok) _ _ ts u d) [
      | inl p ↦ inl (led (is_true m.LeftBrace tok p.0, elements_of v [] u p.1))
      | inr p ↦ inr (to_assign (init_value v) u (begin_back true (begins_assign (init_value v)) tok ts u p.1))
    ]
back (element_next v xs) tok ts u d =
    elim (on_test (is m.RightBrace tok) _ _ ts u d) [
      | inl p ↦ inl (led (is_true m.RightBrace tok p.0, p.1))
      | inr p ↦ inr (elements_of v xs u (begin_back true (begins_assign (element v xs)) tok ts u p.1))
    ]
back (declared x) tok ts u d = declared_back x tok ts u d
back (params_open h) tok ts u d = params_back h tok ts u d
back (params_void h) tok ts u d =
    elim (on_test (is m.RightParen tok) _ _ ts u d) [ inl p ↦ led (is_true m.RightParen tok p.0, p.1) | inr p ↦ absurd p.1 ]
back (param_next h) tok ts u d = let (b, mid, v, e) = type_back (a_parameter tok.place h) tok ts u d in params_of h u v e
back (params_done h) tok ts u d =
    elim (on_test (is m.Semicolon tok) _ _ ts u d) [
      | inl p ↦ inl (led (is_true m.Semicolon tok p.0, p.1))
      | inr q ↦ elim (on_test (is m.LeftBrace tok) _ _ ts u q.1) [ inl p ↦ inr (led (is_true m.LeftBrace tok p.0, p.1)) | inr p ↦ absurd p.1 ]
    ]
back (inside b) tok ts u d = inside_back b tok ts u d
back (stmt i) tok ts u d = stmt_back i tok ts u d
back (after s i) tok ts u d = λ c. settle_back i s tok ts u (λ _. c) d
back (test x) tok ts u d =
    elim (on_test (is m.LeftParen tok) _ _ ts u d) [
      | inl p ↦ led (is_true m.LeftParen tok p.0, to_expr (Frames.tested x) u p.1)
      | inr p ↦ absurd p.1
    ]
back (awaits role) tok ts u d = awaits_back role tok ts u d
back (semi s i) tok ts u d =
    elim (on_test (is m.Semicolon tok) _ _ ts u d) [ inl p ↦ led (is_true m.Semicolon tok p.0, p.1) | inr p ↦ absurd p.1 ]
back (for_open p i) tok ts u d =
    elim (on_test (is m.LeftParen tok) _ _ ts u d) [ inl q ↦ led (is_true m.LeftParen tok q.0, q.1) | inr q ↦ absurd q.1 ]
back (for_start p i) tok ts u d =
    elim (on_test (is_type tok) _ _ ts u d) [
      | inl q ↦ let (b, mid, v, h) = type_back (a_declarator (in_for p i) []) tok ts u q.1 in first_of p i u v h
      | inr q ↦ let (x, mid, r, h) = awaits_back (as_first p i) tok ts u q.1 in (start_expr x, mid, g.for_expr r, h)
    ]
back (operand casts σ) tok ts u d = begin_back casts σ tok ts u d
back (paren casts p σ) tok ts u d = paren_back casts p σ tok ts u d
back (called p f σ) tok ts u d =
    elim (on_test (is m.LeftParen tok) _ _ ts u d) [ inl q ↦ inl (led (is_true m.LeftParen tok q.0, q.1)) | inr q ↦ inr (go_back σ (name p f) tok ts u q.1) ]
back (opened p f σ) tok ts u d = opened_back p f σ tok ts u d
back (have a σ) tok ts u d = go_back σ a tok ts u d

at_end : (s : State) (u : List Top) → finish s ≡ Some u → Derives s [] u
at_end (items xs) u e = ([], g.no_item, sym (some_same e) ∙ sym (append-nil xs))
at_end (sizes z) u e = absurd (none≢some e)
at_end _ u e = absurd (none≢some e)

ended_ok : (o : Option (List Top)) (u : List Top) → ended o ≡ Ok u → o ≡ Some u
ended_ok (Some x) u e = cc
ended_ok None u e = absurd (cc)

derived : (ts : List Token) (s : State) (u : List Top) → run ts s ≡ Ok u → Derives s ts u
derived [] s u h = at_end s u (ended_ok (finish s) u h)
derived (tok ∷ ts) s u h = back s tok ts u (at_step (λ next k. derived ts next u k) (step s tok) refl)
  where
    at_step : ((next : State) → run ts next ≡ Ok u → Derives next ts u) → (o : Option State) → step s tok ≡ o → Derived o ts u
    at_step later (Some next) e = later next (sym (takes s next tok ts e) ∙ h)
    at_step later None e = let k : Err (length ts + 1) ≡ Ok u = sym (refuses s tok ts e) ∙ h in cc

pub sound : (ts : List Token) (xs : List Top) → run ts (items []) ≡ Ok xs → g.IsUnit ts xs
sound ts xs h = let (ys, r, e) = derived ts (items []) xs h in subst (λ l. g.IsUnit ts l) (sym e) r
