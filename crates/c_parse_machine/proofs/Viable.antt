-- From each state some tokens lead to a unit.
use Rattle.std.proofs.Common.{◌≡◌, ℕ, suc, ◌+◌, ◌<◌, List, [], ◌∷◌, ◌++◌, Some, None, Ok, Err, Bool, true, false, refl, sym, ◌∙◌, ap, arith, lit<, length}
use Rattle.std.specs.Prelude.{Result, Option, pos}
use Rattle.ib_meaning.specs.declared.place.Place.{Place}
use Rattle.c_ast.specs.declared.mark.Mark.{Mark}
use Rattle.c_ast.specs.declared.mark.Mark.TheVariants as m
use Rattle.c_ast.specs.declared.keyword.Keyword.{Keyword}
use Rattle.c_ast.specs.declared.keyword.Keyword.TheVariants as k
use Rattle.c_ast.specs.declared.token.Tok.{Tok}
use Rattle.c_ast.specs.declared.token.Tok.TheVariants as t
use Rattle.c_ast.specs.declared.token.Token.{Token}
use Rattle.c_ast.specs.declared.tree.Base.{Base}
use Rattle.c_ast.specs.declared.tree.Base.TheVariants as base
use Rattle.c_ast.specs.declared.tree_unit.Length.{Length}
use Rattle.c_ast.specs.declared.tree_unit.Length.TheVariants as len
use Rattle.c_ast.specs.GrammarTokens.{level}
use Rattle.c_ast.specs.Trees.{Ty, plain, Exp, name, number, call, index, unary, cast, binary, conditional, assign, comma, exps, no_init, value, elements, Decl, declarator, unnamed, param, Maybe, missing, given, Start, start_expr, start_local, Stm, block, empty, if_else, while_loop, do_while, for_loop, return, local, stms, Top}
use Rattle.c_parse_machine.specs.Signs.{is}
use Rattle.c_parse_machine.specs.Machine.{Head, Outer, braces, body, then_arm, else_arm, while_body, do_body, for_body, Inside, in_braces, in_body, Target, top, global, in_block, in_for, Declaring, declaring, made, Role, as_statement, as_value, as_first, as_second, as_third, Test, as_if, as_while, as_do, Frames, part, tested, init_value, element, prefix, cast_to, cond, right, assigned, middle, other, first, list, parens, subscript, arg, Use, a_declarator, a_parameter, a_cast, Sizing, of_declarator, of_parameter, State, items, after_long, typed, named_at, sizes, size_open, size_given, sized, init_open, element_next, declared, params_open, params_void, param_next, params_done, inside, stmt, after, test, awaits, semi, for_open, for_start, operand, paren, called, opened, have, begins_expr, with_stm, with_init, with_param, with_prototype, with_function, end_declaration, statement, goes_on, passed, step, finish, ended, run}
use Rattle.c_parse_machine.proofs.Complete.{binds, no_open, heads, Stops, stops_more, takes, fall_prefix, fall_cast, fall_assigned, fall_other, fall_first, fall_list, fall_cond, fall_right}
use Rattle.c_parse_machine.proofs.ExpressionLemmas.{no_call}
use Rattle.c_parse_machine.proofs.StatementLemmas.{fall_else, fall_while, fall_for}

-- The tokens lead from the state to a unit.
pub record Ends (s : State) : Type 0 where
  pub more : List Token
  pub unit : List Top
  pub runs : run more s ≡ Ok unit

-- the same, with tokens of which the first does not go on with an expression
record Leaves (a : Exp) (σ : Frames) : Type 0 where
  more : List Token
  unit : List Top
  stops : Stops 1 more
  runs : run more (have a σ) ≡ Ok unit

abbrev start : Place
start = record { line = 1; col = 1 }

abbrev token : Tok → Token
token kind = record { kind = kind; span = record { from = 0; to = 0 }; place = start }

abbrev mark : Mark → Token
mark which = token (t.Mark which)

abbrev word : Keyword → Token
word which = token (t.Word which)

abbrev zero_token : Token
zero_token = token (t.Number (pos 0) false)

abbrev a_zero : Exp
a_zero = number start (pos 0) false

at_items : (xs : List Top) → Ends (items xs)
at_items xs = record { more = []; unit = xs; runs = refl }

after_ends : (i : Outer) (s : Stm) → Ends (after s i)
after_ends (braces p xs i) s =
    let e = after_ends i (block p (stms (xs ++ s ∷ []))) in
    record { more = mark m.RightBrace ∷ e.more; unit = e.unit; runs = e.runs }
after_ends (body h xs) s = record { more = mark m.RightBrace ∷ []; unit = with_function h (xs ++ s ∷ []); runs = refl }
after_ends (then_arm p c i) s =
    let e = after_ends i (if_else p c s (empty start)) in
    record { more = word k.Else ∷ mark m.Semicolon ∷ e.more; unit = e.unit; runs = fall_else p c s (empty start) i e.more ∙ e.runs }
after_ends (else_arm p c a i) s =
    let e = after_ends i (if_else p c a s) in
    record { more = e.more; unit = e.unit; runs = fall_else p c a s i e.more ∙ e.runs }
after_ends (while_body p c i) s =
    let e = after_ends i (while_loop p c s) in
    record { more = e.more; unit = e.unit; runs = fall_while p c s i e.more ∙ e.runs }
after_ends (do_body p i) s =
    let e = after_ends i (do_while p s a_zero) in
    record { more = word k.While ∷ mark m.LeftParen ∷ zero_token ∷ mark m.RightParen ∷ mark m.Semicolon ∷ e.more; unit = e.unit; runs = e.runs }
after_ends (for_body p begun x y i) s =
    let e = after_ends i (for_loop p begun x y s) in
    record { more = e.more; unit = e.unit; runs = fall_for p begun x y s i e.more ∙ e.runs }

-- by one more token
by : (s next : State) (tok : Token) → step s tok ≡ Some next → Ends next → Ends s
by s next tok h e = record { more = tok ∷ e.more; unit = e.unit; runs = takes s next tok e.more h ∙ e.runs }

stmt_ends : (i : Outer) → Ends (stmt i)
stmt_ends i = by (stmt i) (after (empty start) i) (mark m.Semicolon) refl (after_ends i (empty start))

inside_ends : (b : Inside) → Ends (inside b)
inside_ends (in_braces p xs i) = by (inside (in_braces p xs i)) (after (block p (stms xs)) i) (mark m.RightBrace) refl (after_ends i (block p (stms xs)))
inside_ends (in_body h xs) = by (inside (in_body h xs)) (items (with_function h xs)) (mark m.RightBrace) refl (at_items (with_function h xs))

third_ends : (p : Place) (begun : Start) (x : Maybe) (i : Outer) → Ends (awaits (as_third p begun x i))
third_ends p begun x i = by (awaits (as_third p begun x i)) (stmt (for_body p begun x missing i)) (mark m.RightParen) refl (stmt_ends (for_body p begun x missing i))

second_ends : (p : Place) (begun : Start) (i : Outer) → Ends (awaits (as_second p begun i))
second_ends p begun i = by (awaits (as_second p begun i)) (awaits (as_third p begun missing i)) (mark m.Semicolon) refl (third_ends p begun missing i)

role_ends : (role : Role) (x : Maybe) → Ends (goes_on role x)
role_ends (as_statement p i) x = after_ends i (statement p x)
role_ends (as_value p i) x = after_ends i (return p x)
role_ends (as_first p i) x = second_ends p (start_expr x) i
role_ends (as_second p begun i) x = third_ends p begun x i
role_ends (as_third p begun y i) x = stmt_ends (for_body p begun y x i)

awaits_ends : (role : Role) → Ends (awaits role)
awaits_ends (as_statement p i) = by (awaits (as_statement p i)) _ (mark m.Semicolon) refl (role_ends (as_statement p i) missing)
awaits_ends (as_value p i) = by (awaits (as_value p i)) _ (mark m.Semicolon) refl (role_ends (as_value p i) missing)
awaits_ends (as_first p i) = by (awaits (as_first p i)) _ (mark m.Semicolon) refl (role_ends (as_first p i) missing)
awaits_ends (as_second p begun i) = second_ends p begun i
awaits_ends (as_third p begun y i) = third_ends p begun y i

passed_ends : (u : Test) (e : Exp) → Ends (passed u e)
passed_ends (as_if p i) e = stmt_ends (then_arm p e i)
passed_ends (as_while p i) e = stmt_ends (while_body p e i)
passed_ends (as_do p s i) e = by (semi (do_while p s e) i) (after (do_while p s e) i) (mark m.Semicolon) refl (after_ends i (do_while p s e))

declaration_ends : (target : Target) (ds : List Decl) → Ends (end_declaration target ds)
declaration_ends (top xs) ds = at_items _
declaration_ends (global xs) ds = at_items _
declaration_ends (in_block p b) ds = inside_ends (with_stm b (local p ds))
declaration_ends (in_for p i) ds = second_ends p (start_local ds) i

declared_ends : (d : Declaring) → Ends (declared d)
declared_ends (declaring target b ds) = by (declared (declaring target b ds)) (end_declaration target ds) (mark m.Semicolon) refl (declaration_ends target ds)

-- an expression that is complete ends with the token
closing : (a : Exp) (σ : Frames) (next : State) (tok : Token) → binds tok < 1 → step (have a σ) tok ≡ Some next → Ends next → Leaves a σ
closing a σ next tok low h e = record { more = tok ∷ e.more; unit = e.unit; stops = low; runs = takes (have a σ) next tok e.more h ∙ e.runs }

part_leaves : (role : Role) (a : Exp) → Leaves a (part role)
part_leaves (as_statement p i) a = closing a (part (as_statement p i)) _ (mark m.Semicolon) (lit< tt) refl (role_ends (as_statement p i) (given a))
part_leaves (as_value p i) a = closing a (part (as_value p i)) _ (mark m.Semicolon) (lit< tt) refl (role_ends (as_value p i) (given a))
part_leaves (as_first p i) a = closing a (part (as_first p i)) _ (mark m.Semicolon) (lit< tt) refl (role_ends (as_first p i) (given a))
part_leaves (as_second p begun i) a = closing a (part (as_second p begun i)) _ (mark m.Semicolon) (lit< tt) refl (role_ends (as_second p begun i) (given a))
part_leaves (as_third p begun y i) a = closing a (part (as_third p begun y i)) _ (mark m.RightParen) (lit< tt) refl (role_ends (as_third p begun y i) (given a))

leaves : (σ : Frames) (a : Exp) → Leaves a σ
leaves (part role) a = part_leaves role a
leaves (tested u) a = closing a (tested u) (passed u a) (mark m.RightParen) (lit< tt) refl (passed_ends u a)
leaves (init_value (made (declaring target b ds) p ty n l)) a =
    closing a (init_value (made (declaring target b ds) p ty n l)) (end_declaration target (ds ++ declarator p ty n l (value a) ∷ [])) (mark m.Semicolon) (lit< tt) refl
    (declaration_ends target (ds ++ declarator p ty n l (value a) ∷ []))
leaves (element u xs) a =
    closing a (element u xs) (declared (with_init u (elements (xs ++ a ∷ [])))) (mark m.RightBrace) (lit< tt) refl (declared_ends (with_init u (elements (xs ++ a ∷ []))))
leaves (prefix p op σ) a =
    let e = leaves σ (unary p op a) in
    record { more = e.more; unit = e.unit; stops = e.stops; runs = fall_prefix p op a σ e.more (stops_more 1 14 e.more (omega arith) e.stops) ∙ e.runs }
leaves (cast_to p ty σ) a =
    let e = leaves σ (cast p ty a) in
    record { more = e.more; unit = e.unit; stops = e.stops; runs = fall_cast p ty a σ e.more (stops_more 1 14 e.more (omega arith) e.stops) ∙ e.runs }
leaves (cond u σ) a =
    let e = leaves σ a in
    record { more = e.more; unit = e.unit; stops = e.stops; runs = fall_cond u a σ e.more (stops_more 1 2 e.more (omega arith) e.stops) ∙ e.runs }
leaves (right p op b σ) a =
    let e = leaves σ (binary p op b a) in
    record {
      more = e.more;
      unit = e.unit;
      stops = e.stops;
      runs = fall_right p op b a σ e.more (stops_more 1 14 e.more (omega arith) e.stops) (stops_more 1 (3 + suc (level op)) e.more (omega arith) e.stops) ∙ e.runs;
    }
leaves (assigned p op b σ) a =
    let e = leaves σ (assign p op b a) in
    record { more = e.more; unit = e.unit; stops = e.stops; runs = fall_assigned p op b a σ e.more (stops_more 1 2 e.more (omega arith) e.stops) ∙ e.runs }
leaves (middle p b σ) a =
    let e = leaves σ (conditional p b a a_zero) in
    let low = stops_more 1 2 e.more (omega arith) e.stops in
    record {
      more = mark m.Colon ∷ zero_token ∷ e.more;
      unit = e.unit;
      stops = lit< tt;
      runs = fall_cond false a_zero (other p b a σ) e.more low ∙ fall_other p b a a_zero σ e.more low ∙ e.runs;
    }
leaves (other p b d σ) a =
    let e = leaves σ (conditional p b d a) in
    record { more = e.more; unit = e.unit; stops = e.stops; runs = fall_other p b d a σ e.more (stops_more 1 2 e.more (omega arith) e.stops) ∙ e.runs }
leaves (first σ) a =
    let e = leaves σ a in
    record { more = e.more; unit = e.unit; stops = e.stops; runs = fall_first a σ e.more e.stops ∙ e.runs }
leaves (list p xs σ) a =
    let e = leaves σ (comma p (exps (xs ++ a ∷ []))) in
    record { more = e.more; unit = e.unit; stops = e.stops; runs = fall_list p xs a σ e.more e.stops ∙ e.runs }
leaves (parens σ) a =
    let e = leaves σ a in
    record { more = mark m.RightParen ∷ e.more; unit = e.unit; stops = lit< tt; runs = e.runs }
leaves (subscript p b σ) a =
    let e = leaves σ (index p b a) in
    record { more = mark m.RightBracket ∷ e.more; unit = e.unit; stops = lit< tt; runs = e.runs }
leaves (arg p f xs σ) a =
    let e = leaves σ (call p f (exps (xs ++ a ∷ []))) in
    record { more = mark m.RightParen ∷ e.more; unit = e.unit; stops = lit< tt; runs = e.runs }

have_ends : (a : Exp) (σ : Frames) → Ends (have a σ)
have_ends a σ = let e = leaves σ a in record { more = e.more; unit = e.unit; runs = e.runs }

operand_ends : (casts : Bool) (σ : Frames) → Ends (operand casts σ)
operand_ends casts σ = by (operand casts σ) (have a_zero σ) zero_token refl (have_ends a_zero σ)

done_ends : (h : Head) → Ends (params_done h)
done_ends h = by (params_done h) (items (with_prototype h)) (mark m.Semicolon) refl (at_items (with_prototype h))

sized_ends : (z : Sizing) (l : Length) → Ends (sized z l)
sized_ends (of_declarator (declaring target b ds) p ty n) l =
    by (sized (of_declarator (declaring target b ds) p ty n) l) (end_declaration target (ds ++ declarator p ty n l no_init ∷ [])) (mark m.Semicolon) refl
    (declaration_ends target (ds ++ declarator p ty n l no_init ∷ []))
sized_ends (of_parameter h p ty n) l =
    by (sized (of_parameter h p ty n) l) (params_done (with_param h (param p ty n l))) (mark m.RightParen) refl (done_ends (with_param h (param p ty n l)))

sizes_ends : (z : Sizing) → Ends (sizes z)
sizes_ends z = by (sizes z) (size_open z) (mark m.LeftBracket) refl (by (size_open z) (sized z len.Missing) (mark m.RightBracket) refl (sized_ends z len.Missing))

-- after `int`, `char` or the `int` of `long int`
typed_ends : (why : Use) (b : Base) (ty : Ty) → Ends (typed why b ty)
typed_ends (a_declarator target ds) b ty =
    by (typed (a_declarator target ds) b ty) (named_at (declaring target b ds) start ty []) (token (t.Name [])) refl
    (by (named_at (declaring target b ds) start ty []) (size_open (of_declarator (declaring target b ds) start ty [])) (mark m.LeftBracket) refl
    (by (size_open (of_declarator (declaring target b ds) start ty [])) (sized (of_declarator (declaring target b ds) start ty []) len.Missing) (mark m.RightBracket) refl
    (sized_ends (of_declarator (declaring target b ds) start ty []) len.Missing)))
typed_ends (a_parameter p x) b ty =
    by (typed (a_parameter p x) b ty) (params_done (with_param x (param p ty unnamed len.Scalar))) (mark m.RightParen) refl (done_ends (with_param x (param p ty unnamed len.Scalar)))
typed_ends (a_cast p σ) b ty =
    by (typed (a_cast p σ) b ty) (operand true (cast_to p ty σ)) (mark m.RightParen) refl (operand_ends true (cast_to p ty σ))

viable : (s : State) → Ends s
viable (items xs) = at_items xs
viable (after_long why) = by (after_long why) (typed why base.Long (plain base.Long)) (word k.Int) refl (typed_ends why base.Long (plain base.Long))
viable (typed why b ty) = typed_ends why b ty
viable (named_at d p ty n) =
    by (named_at d p ty n) (size_open (of_declarator d p ty n)) (mark m.LeftBracket) refl
    (by (size_open (of_declarator d p ty n)) (sized (of_declarator d p ty n) len.Missing) (mark m.RightBracket) refl (sized_ends (of_declarator d p ty n) len.Missing))
viable (sizes z) = sizes_ends z
viable (size_open z) = by (size_open z) (sized z len.Missing) (mark m.RightBracket) refl (sized_ends z len.Missing)
viable (size_given z l) = by (size_given z l) (sized z l) (mark m.RightBracket) refl (sized_ends z l)
viable (sized z l) = sized_ends z l
viable (init_open u) = by (init_open u) (have a_zero (cond true (init_value u))) zero_token refl (have_ends a_zero (cond true (init_value u)))
viable (element_next u xs) = by (element_next u xs) (declared (with_init u (elements xs))) (mark m.RightBrace) refl (declared_ends (with_init u (elements xs)))
viable (declared d) = declared_ends d
viable (params_open h) = by (params_open h) (params_done h) (mark m.RightParen) refl (done_ends h)
viable (params_void h) = by (params_void h) (params_done h) (mark m.RightParen) refl (done_ends h)
viable (param_next h) = by (param_next h) (typed (a_parameter start h) base.Int (plain base.Int)) (word k.Int) refl (typed_ends (a_parameter start h) base.Int (plain base.Int))
viable (params_done h) = done_ends h
viable (inside b) = inside_ends b
viable (stmt i) = stmt_ends i
viable (after s i) = after_ends i s
viable (test u) = by (test u) (operand true (begins_expr (tested u))) (mark m.LeftParen) refl (operand_ends true (begins_expr (tested u)))
viable (awaits role) = awaits_ends role
viable (semi s i) = by (semi s i) (after s i) (mark m.Semicolon) refl (after_ends i s)
viable (for_open p i) = by (for_open p i) (for_start p i) (mark m.LeftParen) refl (by (for_start p i) _ (mark m.Semicolon) refl (role_ends (as_first p i) missing))
viable (for_start p i) = by (for_start p i) _ (mark m.Semicolon) refl (role_ends (as_first p i) missing)
viable (operand casts σ) = operand_ends casts σ
viable (paren true p σ) = by (paren true p σ) (have a_zero (begins_expr (parens σ))) zero_token refl (have_ends a_zero (begins_expr (parens σ)))
viable (paren false p σ) = by (paren false p σ) (have a_zero (begins_expr (parens σ))) zero_token refl (have_ends a_zero (begins_expr (parens σ)))
viable (called p f σ) =
    let e = leaves σ (name p f) in
    record { more = e.more; unit = e.unit; runs = no_call p f σ e.more (heads (λ tok. binds tok < 1) (λ tok. is m.LeftParen tok ≡ false) (λ tok h. no_open tok (omega arith)) e.more e.stops) ∙ e.runs }
viable (opened p f σ) = by (opened p f σ) (have (call p f (exps [])) σ) (mark m.RightParen) refl (have_ends (call p f (exps [])) σ)
viable (have a σ) = have_ends a σ

-- Where the machine stops, what went before begins a unit, and with the next token it begins none.
pub record Stuck (ts : List Token) (s : State) (n : ℕ) : Type 0 where
  pub used : List Token
  pub rest : List Token
  pub split : ts ≡ used ++ rest
  pub left : length rest ≡ n
  pub ends : (more : List Token) × (unit : List Top) × (run (used ++ more) s ≡ Ok unit)
  pub none : (tok : Token) (after : List Token) → rest ≡ tok ∷ after → (more : List Token) (unit : List Top) → run (used ++ tok ∷ more) s ≡ Ok unit → ⊥

pub refuses : (s : State) (tok : Token) (ts : List Token) → step s tok ≡ None → run (tok ∷ ts) s ≡ Err (length ts + 1)
refuses s tok ts e = ap (λ o. elim o as (λ _. Result (List Top) ℕ) [ Some next ↦ run ts next | None ↦ Err (length ts + 1) ]) e

pub stuck : (ts : List Token) (s : State) (n : ℕ) → run ts s ≡ Err n → Stuck ts s n
stuck [] s n h = at_end (finish s) refl
  where
    at_end : (o : Option (List Top)) → finish s ≡ o → Stuck [] s n
    at_end (Some u) e = absurd (let k : ended (Some u) ≡ Err n = sym (ap ended e) ∙ h in cc)
    at_end None e =
        let k : ended None ≡ Err n = sym (ap ended e) ∙ h in
        let v = viable s in
        record { used = []; rest = []; split = refl; left = cc; ends = (v.more, v.unit, v.runs); none = λ tok after e. absurd (cc) }
stuck (tok ∷ ts) s n h = at_step (λ next k. stuck ts next n k) (step s tok) refl
  where
    at_step : ((next : State) → run ts next ≡ Err n → Stuck ts next n) → (o : Option State) → step s tok ≡ o → Stuck (tok ∷ ts) s n
    at_step later (Some next) e =
        let k = later next (sym (takes s next tok ts e) ∙ h) in
        record {
          used = tok ∷ k.used;
          rest = k.rest;
          split = ap (λ l. tok ∷ l) k.split;
          left = k.left;
          ends = (k.ends.0, k.ends.1, takes s next tok (k.used ++ k.ends.0) e ∙ k.ends.2);
          none = λ x after q more unit r. k.none x after q more unit (sym (takes s next tok (k.used ++ x ∷ more) e) ∙ r);
        }
    at_step later None e =
        let k : Err (length ts + 1) ≡ Err n = sym (refuses s tok ts e) ∙ h in
        let v = viable s in
        record {
          used = [];
          rest = tok ∷ ts;
          split = refl;
          left = (let j : length ts + 1 ≡ n = cc in omega (arith, j));
          ends = (v.more, v.unit, v.runs);
          none = λ x after q more unit r.
              let same : tok ≡ x = cc in
              let j : Err (length more + 1) ≡ Ok unit = sym (refuses s tok more e) ∙ ap (λ y. run (y ∷ more) s) same ∙ r in
              cc;
        }
