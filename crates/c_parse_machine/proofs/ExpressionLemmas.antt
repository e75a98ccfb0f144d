-- What is an expression takes the machine past it.
use Rattle.std.proofs.Common.{◌≡◌, ℕ, suc, ◌+◌, ◌<◌, List, [], ◌∷◌, ◌++◌, Some, None, Bool, true, false, refl, sym, ◌∙◌, ap, arith, append_assoc, subst}
use Rattle.std.proofs.lemmas.Bool.{le-leb}
use Rattle.ib_meaning.specs.declared.place.Place.{Place}
use Rattle.c_ast.specs.declared.mark.Mark.TheVariants as m
use Rattle.c_ast.specs.declared.token.Token.{Token}
use Rattle.c_ast.specs.declared.tree.BinaryOp.{BinaryOp}
use Rattle.c_ast.specs.GrammarTokens.{IsMark, binary_op, level, assign_op, step_mark, prefix_mark, postfix_mark}
use Rattle.c_ast.specs.Trees.{Exp, name, call, index, postfix, cast, comma, exps}
use Rattle.c_ast.specs.Grammar as g
use Rattle.c_parse_machine.specs.Signs.{is, is_type}
use Rattle.c_parse_machine.specs.Machine.{Frames, prefix, cast_to, cond, right, assigned, middle, other, first, list, parens, subscript, arg, a_cast, typed, operand, paren, called, opened, have, shut, begins_assign, begins_expr, begin_type, if_tighter, step, run}
use Rattle.c_parse_machine.proofs.Tokens.{op_is_not, not_assign, not_step, low_level}
use Rattle.c_parse_machine.proofs.Complete.{binds, binds_binary, binds_assign, no_open, Heads, heads, each, Stops, stops_more, Ends, ends_stops, stops_ends, alike, takes, on, fall_prefix, fall_cast, fall_assigned, fall_other, fall_first, fall_list, fall_cond, fall_right, fall_shut, Takes, in_cond, in_right, more_takes, value_type, stars, stars_head}
use Rattle.c_parse_machine.proofs.Starts.{Starts, mark_not, type_not, expr_starts, assigns_start, alike_at}

pub no_call : (p : Place) (f : List ℕ) (σ : Frames) (ts : List Token) → Heads (λ tok. is m.LeftParen tok ≡ false) ts → run ts (called p f σ) ≡ run ts (have (name p f) σ)
no_call p f σ ts s = alike (λ tok. is m.LeftParen tok ≡ false) (called p f σ) (have (name p f) σ) refl ts s (λ tok h. rw h refl)

postfixes_head : {a x : Exp} {ts rest : List Token} → g.Postfixes a ts rest x → Stops 14 rest → Heads (λ tok. is m.LeftParen tok ≡ false) ts
postfixes_head {ts} g.no_postfix s = heads (λ tok. binds tok < 14) (λ tok. is m.LeftParen tok ≡ false) no_open ts s
postfixes_head (g.indexed e x f r) s = rw e refl
postfixes_head (g.stepped {s} {op} e r) q = op_is_not postfix_mark m.LeftParen s op refl e

tail_head : {n : ℕ} {a x : Exp} {ts rest : List Token} → g.Tail n a ts rest x → Ends n rest → Ends (suc n) ts
tail_head {n} {a} {x} {ts} g.no_more e = heads (λ tok. (binds tok < 3 + n) × (assign_op tok ≡ None)) (λ tok. (binds tok < 3 + suc n) × (assign_op tok ≡ None)) (λ tok q. (omega (arith, q.0), q.1)) ts e
tail_head (g.more {s} {op} b l v r) e = (omega (arith, binds_binary s op b, l), not_assign s op b)

opens_arg : (p : Place) (f : List ℕ) (σ : Frames) (ts : List Token) → Starts ts → run ts (opened p f σ) ≡ run ts (operand true (begins_assign (arg p f [] σ)))
opens_arg p f σ ts s = alike_at (opened p f σ) (operand true (begins_assign (arg p f [] σ))) ts s
    (λ tok h. rw (mark_not m.RightParen tok refl h) refl)

opens_parens : (casts : Bool) (p : Place) (σ : Frames) (ts : List Token) → Starts ts → run ts (paren casts p σ) ≡ run ts (operand true (begins_expr (parens σ)))
opens_parens true p σ ts s = alike_at (paren true p σ) (operand true (begins_expr (parens σ))) ts s (λ tok h. rw (type_not tok h) refl)
opens_parens false p σ ts s = alike_at (paren false p σ) (operand true (begins_expr (parens σ))) ts s (λ tok h. refl)

tighter : (op found : BinaryOp) → level op < level found → if_tighter op (Some found) ≡ Some found
tighter op found h = rw (le-leb (suc (level op)) (level found) h) refl

-- an operator that the frame takes
operates : {σ : Frames} {n : ℕ} (a : Exp) (s : Token) (op : BinaryOp) (ts : List Token) → Takes σ n → binary_op s ≡ Some op → level op ≡ n →
    run (s ∷ ts) (have a σ) ≡ run ts (operand true (right s.place op a σ))
operates a s op ts (in_cond {σ}) e l =
    let low : binds s < 14 = omega (arith, binds_binary s op e, (low_level op).1) in
    let no : is m.Question s ≡ false = op_is_not _ m.Question s op refl e in
    takes (have a (cond false σ)) (operand true (right s.place op a (cond false σ))) s ts (on a (cond false σ) s low ∙ rw (no, e) refl)
operates a s op ts (in_right {p} {op = o} {a = b} {σ} h) e l =
    let low : binds s < 14 = omega (arith, binds_binary s op e, (low_level op).1) in
    takes (have a (right p o b σ)) (operand true (right s.place op a (right p o b σ))) s ts
    (on a (right p o b σ) s low ∙ rw (e, tighter o op (omega (arith, h, l))) refl)

mutual
  pub expr : {ts rest : List Token} {x : Exp} → g.Expr ts rest x → Stops 1 rest → (σ : Frames) → run ts (operand true (begins_expr σ)) ≡ run rest (have x σ)
  expr {ts} {rest} {x} (g.one a) s σ = assignment a (stops_more 1 2 rest (omega arith) s) (first σ) ∙ fall_first x σ rest s
  expr (g.several {c} {mid} {x} a e r) s σ =
      assignment a (let b : binds c ≡ 1 = rw e refl in omega (arith, b)) (first σ)
      ∙ takes (have x (first σ)) _ c mid (rw e refl)
      ∙ lists r s c.place (x ∷ []) σ

  lists : {ts rest : List Token} {xs : List Exp} → g.Assigns ts rest xs → Stops 1 rest → (p : Place) (front : List Exp) (σ : Frames) → run ts (operand true (begins_assign (list p front σ))) ≡ run rest (have (comma p (exps (front ++ xs))) σ)
  lists {rest} (g.last {x} a) s p front σ = assignment a (stops_more 1 2 rest (omega arith) s) (list p front σ) ∙ fall_list p front x σ rest s
  lists {rest} (g.before {c} {mid} {x} {xs} a e r) s p front σ =
      assignment a (let b : binds c ≡ 1 = rw e refl in omega (arith, b)) (list p front σ)
      ∙ takes (have x (list p front σ)) _ c mid (rw e refl)
      ∙ lists r s p (front ++ x ∷ []) σ ∙ ap (λ l. run rest (have (comma p (exps l)) σ)) (append_assoc front (x ∷ []) xs)

  actuals : {ts mid : List Token} {xs : List Exp} → g.Assigns ts mid xs → (z : Token) (rest : List Token) → mid ≡ z ∷ rest → IsMark z m.RightParen → (p : Place) (f : List ℕ) (front : List Exp) (σ : Frames) → run ts (operand true (begins_assign (arg p f front σ))) ≡ run rest (have (call p f (exps (front ++ xs))) σ)
  actuals {mid} (g.last {x} a) z rest e q p f front σ =
      assignment a (subst (Stops 2) (sym e) (let b : binds z ≡ 0 = rw q refl in omega (arith, b))) (arg p f front σ)
      ∙ ap (λ l. run l (have x (arg p f front σ))) e
      ∙ takes (have x (arg p f front σ)) _ z rest (rw q refl)
  actuals (g.before {c} {mid = next} {x} {xs} a h r) z rest e q p f front σ =
      assignment a (let b : binds c ≡ 1 = rw h refl in omega (arith, b)) (arg p f front σ)
      ∙ takes (have x (arg p f front σ)) _ c next (rw h refl)
      ∙ actuals r z rest e q p f (front ++ x ∷ []) σ ∙ ap (λ l. run rest (have (call p f (exps l)) σ)) (append_assoc front (x ∷ []) xs)

  pub assignment : {ts rest : List Token} {x : Exp} → g.Assign ts rest x → Stops 2 rest → (σ : Frames) → run ts (operand true (begins_assign σ)) ≡ run rest (have x σ)
  assignment (g.no_assign c) s σ = conditionals c s true σ
  assignment {rest} (g.assigns {s} {op} {ts} {mid} {a} {b} u e r) q σ =
      let low : binds s < 14 = omega (arith, binds_assign s op e) in
      unary_ u low true (cond true σ)
      ∙ takes (have a (cond true σ)) (operand true (begins_assign (assigned s.place op a σ))) s mid (on a (cond true σ) s low ∙ rw e refl)
      ∙ assignment r q (assigned s.place op a σ) ∙ fall_assigned s.place op a b σ rest q

  conditionals : {ts rest : List Token} {x : Exp} → g.Cond ts rest x → Stops 2 rest → (u : Bool) (σ : Frames) → run ts (operand true (cond u σ)) ≡ run rest (have x σ)
  conditionals {rest} {x} (g.no_cond l) s u σ =
      levels l (stops_ends 1 rest s) (cond u σ) in_cond ∙ fall_cond false x σ rest s
  conditionals {rest} (g.chooses {q} {c} {mid} {mid'} {a} {b} {d} l e x f r) s u σ =
      levels l (let b : binds q ≡ 3 = rw e refl in omega (arith, b), rw e refl) (cond u σ) in_cond
      ∙ takes (have a (cond false σ)) (operand true (begins_expr (middle q.place a σ))) q mid (rw e refl)
      ∙ expr x (let b : binds c ≡ 0 = rw f refl in omega (arith, b)) (middle q.place a σ)
      ∙ takes (have b (middle q.place a σ)) (operand true (cond false (other q.place a b σ))) c mid' (rw f refl)
      ∙ conditionals r s false (other q.place a b σ) ∙ fall_other q.place a b d σ rest s

  levels : {n : ℕ} {ts rest : List Token} {x : Exp} → g.Level n ts rest x → Ends n rest → (σ : Frames) → Takes (shut σ) n → run ts (operand true σ) ≡ run rest (have x (shut σ))
  levels {rest} {x} (g.operand c) e σ h = castings c (ends_stops 11 rest (omega arith) e) σ (shut σ) refl (fall_shut x σ rest e)
  levels {n} {rest} (g.operators d r) e σ h =
      levels d (tail_head r e) σ (more_takes h) ∙ tails r e (shut σ) h

  tails : {n : ℕ} {a x : Exp} {ts rest : List Token} → g.Tail n a ts rest x → Ends n rest → (σ : Frames) → Takes σ n → run ts (have a σ) ≡ run rest (have x σ)
  tails g.no_more e σ h = refl
  tails {n} (g.more {s} {op} {ts} {mid} {a} {b = y} q l d r) e σ h =
      let top : Ends (suc n) mid = tail_head r e in
      let six : Stops 14 mid = ends_stops (suc n) mid (omega (arith, l, (low_level op).1)) top in
      let low : Stops (3 + suc (level op)) mid = heads (λ tok. (binds tok < 3 + suc n) × (assign_op tok ≡ None)) (λ tok. binds tok < 3 + suc (level op)) (λ tok p. omega (arith, p.0, l)) mid top in
      operates a s op ts h q l
      ∙ levels d top (right s.place op a σ) (in_right (omega (arith, l)))
      ∙ fall_right s.place op a y σ mid six low
      ∙ tails r e σ h

  -- τ is σ, or takes what follows as σ does
  castings : {ts rest : List Token} {x : Exp} → g.Cast ts rest x → Stops 14 rest → (σ τ : Frames) → shut σ ≡ τ → run rest (have x σ) ≡ run rest (have x τ) → run ts (operand true σ) ≡ run rest (have x τ)
  castings (g.no_cast u) s σ τ e h = unary_ u s true σ ∙ h
  castings {rest} (g.casts {o} {c} {ts} {mid} {mid'} {b} {ty} {x} e w q f r) s σ τ g h =
      takes (operand true σ) (paren true o.place σ) o ts (rw e refl)
      ∙ value_type w (stars_head q (rw f refl)) (paren true o.place σ) (a_cast o.place (shut σ))
      (each (λ tok. is_type tok ≡ true → step (paren true o.place σ) tok ≡ begin_type (a_cast o.place (shut σ)) tok) (λ tok z. rw z refl) ts)
      ∙ stars q (a_cast o.place (shut σ)) b
      ∙ takes (typed (a_cast o.place (shut σ)) b ty) (operand true (cast_to o.place ty (shut σ))) c mid' (rw f refl)
      ∙ castings r s (cast_to o.place ty (shut σ)) (cast_to o.place ty (shut σ)) refl refl
      ∙ fall_cast o.place ty x (shut σ) rest s
      ∙ ap (λ z. run rest (have (cast o.place ty x) z)) g

  unary_ : {ts rest : List Token} {x : Exp} → g.Unary ts rest x → Stops 14 rest → (casts : Bool) (σ : Frames) → run ts (operand casts σ) ≡ run rest (have x σ)
  unary_ (g.operand_of_postfixes p r) s casts σ = primary p (postfixes_head r s) casts σ ∙ postfixes r σ
  unary_ {rest} (g.steps {s} {op} {ts} {x} e u) q casts σ =
      takes (operand casts σ) (operand false (prefix s.place op σ)) s ts (rw (op_is_not step_mark m.LeftParen s op refl e, e) refl)
      ∙ unary_ u q false (prefix s.place op σ) ∙ fall_prefix s.place op x σ rest q
  unary_ {rest} (g.prefixes {s} {op} {ts} {x} e c) q casts σ =
      takes (operand casts σ) (operand true (prefix s.place op σ)) s ts (rw (op_is_not prefix_mark m.LeftParen s op refl e, not_step s op e, e) refl)
      ∙ castings c q (prefix s.place op σ) (prefix s.place op σ) refl refl ∙ fall_prefix s.place op x σ rest q

  postfixes : {a x : Exp} {ts rest : List Token} → g.Postfixes a ts rest x → (σ : Frames) → run ts (have a σ) ≡ run rest (have x σ)
  postfixes g.no_postfix σ = refl
  postfixes (g.indexed {o} {c} {ts} {mid} {a} {i} e x f r) σ =
      takes (have a σ) (operand true (begins_expr (subscript o.place a σ))) o ts (rw e refl)
      ∙ expr x (let b : binds c ≡ 0 = rw f refl in omega (arith, b)) (subscript o.place a σ)
      ∙ takes (have i (subscript o.place a σ)) (have (index o.place a i) σ) c mid (rw f refl)
      ∙ postfixes r σ
  postfixes (g.stepped {s} {op} {ts} {a} e r) σ =
      takes (have a σ) (have (postfix s.place op a) σ) s ts (rw (op_is_not postfix_mark m.LeftBracket s op refl e, e) refl) ∙ postfixes r σ

  primary : {ts rest : List Token} {x : Exp} → g.Primary ts rest x → Heads (λ tok. is m.LeftParen tok ≡ false) rest → (casts : Bool) (σ : Frames) → run ts (operand casts σ) ≡ run rest (have x σ)
  primary (g.is_name {f} {n} {rest} e) h casts σ = takes (operand casts σ) (called f.place n σ) f rest (rw e refl) ∙ no_call f.place n σ rest h
  primary (g.is_call {f} {o} {n} {ts} e q r) h casts σ =
      takes (operand casts σ) (called f.place n σ) f (o ∷ ts) (rw e refl)
      ∙ takes (called f.place n σ) (opened f.place n σ) o ts (rw q refl)
      ∙ arguments r f.place n σ
  primary (g.is_number {w} {rest} e) h casts σ = takes (operand casts σ) _ w rest (rw e refl)
  primary (g.is_character {w} {rest} e) h casts σ = takes (operand casts σ) _ w rest (rw e refl)
  primary (g.is_string {w} {rest} e) h casts σ = takes (operand casts σ) _ w rest (rw e refl)
  primary (g.is_null {w} {rest} e) h casts σ = takes (operand casts σ) _ w rest (rw e refl)
  primary (g.is_eof {w} {rest} e) h casts σ = takes (operand casts σ) _ w rest (rw e refl)
  primary (g.in_parens {o} {c} {ts} {rest} {x} e y f) h casts σ =
      takes (operand casts σ) (paren casts o.place σ) o ts (rw e refl)
      ∙ opens_parens casts o.place σ ts (expr_starts y)
      ∙ expr y (let b : binds c ≡ 0 = rw f refl in omega (arith, b)) (parens σ)
      ∙ takes (have x (parens σ)) (have x σ) c rest (rw f refl)

  arguments : {ts rest : List Token} {xs : List Exp} → g.Args ts rest xs → (p : Place) (f : List ℕ) (σ : Frames) → run ts (opened p f σ) ≡ run rest (have (call p f (exps xs)) σ)
  arguments (g.no_args {c} {rest} e) p f σ = takes (opened p f σ) _ c rest (rw e refl)
  arguments (g.some_args {c} {ts} {rest} r e) p f σ = opens_arg p f σ ts (assigns_start r) ∙ actuals r c rest refl e p f [] σ
