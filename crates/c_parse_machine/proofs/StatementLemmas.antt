-- What is a statement or an item takes the machine past it.
use Rattle.std.proofs.Common.{◌≡◌, ℕ, ◌+◌, List, [], ◌∷◌, ◌++◌, length, Some, None, Ok, Err, true, false, refl, sym, ◌∙◌, ap, arith, append_assoc, subst}
use Rattle.std.specs.Prelude.{Result, ◌==◌}
use Rattle.std.proofs.lemmas.Bool.{false≢true}
use Rattle.ib_meaning.proofs.Facts.{same_number}
use Rattle.ib_meaning.specs.declared.place.Place.{Place}
use Rattle.c_ast.specs.declared.mark.Mark.{Mark}
use Rattle.c_ast.specs.declared.mark.Mark.TheVariants as m
use Rattle.c_ast.specs.declared.keyword.Keyword.TheVariants as k
use Rattle.c_ast.specs.declared.token.Tok.TheVariants as t
use Rattle.c_ast.specs.declared.token.Token.{Token}
use Rattle.c_ast.specs.declared.tree.Base.{Base}
use Rattle.c_ast.specs.declared.tree.Base.TheVariants as base
use Rattle.c_ast.specs.Marks.{mark_number}
use Rattle.c_ast.specs.GrammarTokens.{IsMark}
use Rattle.c_ast.specs.Trees.{plain, Exp, Decl, Maybe, missing, given, Start, Stm, empty, expression, if_then, if_else, while_loop, do_while, for_loop, break, continue, local, closed, Top, prototype}
use Rattle.c_ast.specs.Grammar as g
use Rattle.c_parse_machine.specs.Signs.{sign, is, says, is_type}
use Rattle.c_parse_machine.specs.Machine.{head, Outer, then_arm, else_arm, while_body, do_body, for_body, Inside, in_braces, in_body, top, in_block, in_for, declaring, Role, as_statement, as_value, as_first, as_second, as_third, Test, as_if, as_while, as_do, part, tested, a_declarator, State, items, typed, named_at, params_open, params_done, inside, stmt, after, test, awaits, semi, for_open, for_start, operand, have, begins_expr, begin_type, outer_of, with_stm, close, closer, goes_on, passed, step, run}
use Rattle.c_parse_machine.proofs.Complete.{binds, Heads, heads, each, alike, takes, on, value_type, stars, stars_head}
use Rattle.c_parse_machine.proofs.Starts.{Starts, starts, mark_not, word_not, type_not, stmt_not, expr_starts, alike_at}
use Rattle.c_parse_machine.proofs.ExpressionLemmas.{expr}
use Rattle.c_parse_machine.proofs.DeclarationLemmas.{declarators, declarators_head, locals, type_no_mark, type_no_void, param_list}

-- two states that take the first token alike
same_step : (s s' : State) (tok : Token) (ts : List Token) → step s tok ≡ step s' tok → run (tok ∷ ts) s ≡ run (tok ∷ ts) s'
same_step s s' tok ts e = ap (λ o. elim o as (λ _. Result (List Top) ℕ) [ Some next ↦ run ts next | None ↦ Err (length ts + 1) ]) e

is_itself : (mark : Mark) (tok : Token) → IsMark tok mark → is mark tok ≡ true
is_itself mark tok e = ap (λ z. sign z == mark_number mark) e ∙ same_number (mark_number mark)

closes : (role : Role) (tok : Token) → IsMark tok (closer role) → step (awaits role) tok ≡ Some (goes_on role missing)
closes role tok e = rw (is_itself (closer role) tok e) refl

closer_starts : (role : Role) → starts (t.Mark (closer role)) ≡ false
closer_starts (as_statement p i) = refl
closer_starts (as_value p i) = refl
closer_starts (as_first p i) = refl
closer_starts (as_second p s i) = refl
closer_starts (as_third p s y i) = refl

closer_binds : (role : Role) (tok : Token) → IsMark tok (closer role) → binds tok ≡ 0
closer_binds (as_statement p i) tok e = rw e refl
closer_binds (as_value p i) tok e = rw e refl
closer_binds (as_first p i) tok e = rw e refl
closer_binds (as_second p s i) tok e = rw e refl
closer_binds (as_third p s y i) tok e = rw e refl

pub until : {mark : Mark} {ts rest : List Token} {x : Maybe} → g.Until mark ts rest x → (role : Role) → mark ≡ closer role → run ts (awaits role) ≡ run rest (goes_on role x)
until (g.nothing {c} {rest} e) role same = takes (awaits role) (goes_on role missing) c rest (closes role c (e ∙ ap t.Mark same))
until (g.something {c} {ts} {rest} {x} r e) role same =
    let own : IsMark c (closer role) = e ∙ ap t.Mark same in
    let low = closer_binds role c own in
    alike_at (awaits role) (operand true (begins_expr (part role))) ts (expr_starts r) (λ tok h. rw (mark_not (closer role) tok (closer_starts role) h) refl)
    ∙ expr r (omega (arith, low)) (part role)
    ∙ takes (have x (part role)) (goes_on role (given x)) c rest (on x (part role) c (omega (arith, low)) ∙ rw (is_itself (closer role) c own) refl)

until_head : {ts rest : List Token} {x : Maybe} → g.Until m.Semicolon ts rest x → Heads (λ tok. is_type tok ≡ false) ts
until_head (g.nothing e) = rw e refl
until_head (g.something {ts} r e) = begins ts (expr_starts r)
  where
    begins : (ts : List Token) → Starts ts → Heads (λ tok. is_type tok ≡ false) ts
    begins [] h = tt
    begins (tok ∷ ts) h = type_not tok h

first_part : {ts rest : List Token} {start : Start} → g.ForFirst ts rest start → (p : Place) (i : Outer) → run ts (for_start p i) ≡ run rest (awaits (as_second p start i))
first_part {ts} (g.for_local l) p i =
    locals l (for_start p i) (in_for p i) (each (λ tok. is_type tok ≡ true → step (for_start p i) tok ≡ begin_type (a_declarator (in_for p i) []) tok) (λ tok z. rw z refl) ts)
first_part {ts} (g.for_expr u) p i =
    alike (λ tok. is_type tok ≡ false) (for_start p i) (awaits (as_first p i)) refl ts (until_head u) (λ tok z. rw z refl) ∙ until u (as_first p i) refl

condition : (o c : Token) {ts mid : List Token} {x : Exp} → IsMark o m.LeftParen → g.Expr ts (c ∷ mid) x → IsMark c m.RightParen → (u : Test) → run (o ∷ ts) (test u) ≡ run mid (passed u x)
condition o c {ts} {mid} {x} e r f u =
    takes (test u) (operand true (begins_expr (tested u))) o ts (rw e refl)
    ∙ expr r (let b : binds c ≡ 0 = rw f refl in omega (arith, b)) (tested u)
    ∙ takes (have x (tested u)) (passed u x) c mid (rw f refl)

abbrev pub NoElse : List Token → Type 0
NoElse = Heads (λ tok. says k.Else tok ≡ false)

-- an open statement is not followed by an `else`
abbrev pub Kept : Stm → List Token → Type 0
Kept s ts = closed s ≡ false → NoElse ts

-- a statement begins with no type, no `}` and no `else`
abbrev Begins : Token → Type 0
Begins tok = (is m.RightBrace tok ≡ false) × (is_type tok ≡ false) × (says k.Else tok ≡ false)

stmt_head : {ts rest : List Token} {s : Stm} → g.Stmt ts rest s → Heads Begins ts
stmt_head (g.is_block e r f) = (rw e refl, rw e refl, rw e refl)
stmt_head (g.is_empty e) = (rw e refl, rw e refl, rw e refl)
stmt_head (g.is_expression {w} x e) = let s = expr_starts x in (mark_not m.RightBrace w refl s, type_not w s, word_not k.Else w refl s)
stmt_head (g.is_if e o x c r) = (rw e refl, rw e refl, rw e refl)
stmt_head (g.is_if_else e o x c r d f q) = (rw e refl, rw e refl, rw e refl)
stmt_head (g.is_while e o x c r) = (rw e refl, rw e refl, rw e refl)
stmt_head (g.is_do e r v o x c f) = (rw e refl, rw e refl, rw e refl)
stmt_head (g.is_for e o f y z r) = (rw e refl, rw e refl, rw e refl)
stmt_head (g.is_break e f) = (rw e refl, rw e refl, rw e refl)
stmt_head (g.is_continue e f) = (rw e refl, rw e refl, rw e refl)
stmt_head (g.is_return e u) = (rw e refl, rw e refl, rw e refl)

local_head : {ts rest : List Token} {ds : List Decl} → g.Local ts rest ds → NoElse ts
local_head (g.declaration (g.is_char e) r) = rw e refl
local_head (g.declaration (g.is_int e) r) = rw e refl
local_head (g.declaration (g.is_long e) r) = rw e refl
local_head (g.declaration (g.is_long_int e f) r) = rw e refl

stmts_head : {ts rest : List Token} {xs : List Stm} → g.Stmts ts rest xs → NoElse rest → NoElse ts
stmts_head g.no_stmt h = h
stmts_head {ts} (g.a_stmt s r) h = heads Begins (λ tok. says k.Else tok ≡ false) (λ tok q. q.2) ts (stmt_head s)
stmts_head (g.a_local l r) h = local_head l

enter : {ts rest : List Token} {s : Stm} → g.Stmt ts rest s → (b : Inside) → run ts (inside b) ≡ run ts (stmt (outer_of b))
enter {ts} r b = alike Begins (inside b) (stmt (outer_of b)) refl ts (stmt_head r) (λ tok q. rw (q.0, q.1) refl)

fall_then : (p : Place) (e : Exp) (s : Stm) (i : Outer) (ts : List Token) → NoElse ts → run ts (after s (then_arm p e i)) ≡ run ts (after (if_then p e s) i)
fall_then p e s i ts h = alike (λ tok. says k.Else tok ≡ false) (after s (then_arm p e i)) (after (if_then p e s) i) refl ts h (λ tok q. rw q refl)

pub fall_else : (p : Place) (e : Exp) (a s : Stm) (i : Outer) (ts : List Token) → run ts (after s (else_arm p e a i)) ≡ run ts (after (if_else p e a s) i)
fall_else p e a s i [] = refl
fall_else p e a s i (tok ∷ ts) = refl

pub fall_while : (p : Place) (e : Exp) (s : Stm) (i : Outer) (ts : List Token) → run ts (after s (while_body p e i)) ≡ run ts (after (while_loop p e s) i)
fall_while p e s i [] = refl
fall_while p e s i (tok ∷ ts) = refl

pub fall_for : (p : Place) (start : Start) (x y : Maybe) (s : Stm) (i : Outer) (ts : List Token) → run ts (after s (for_body p start x y i)) ≡ run ts (after (for_loop p start x y s) i)
fall_for p start x y s i [] = refl
fall_for p start x y s i (tok ∷ ts) = refl

fall_block : (b : Inside) (s : Stm) (ts : List Token) → run ts (after s (outer_of b)) ≡ run ts (inside (with_stm b s))
fall_block b s [] = refl
fall_block (in_braces p xs i) s (tok ∷ ts) = refl
fall_block (in_body h xs) s (tok ∷ ts) = refl

pub append-nil : {A : Type 0} (xs : List A) → xs ++ [] ≡ xs
append-nil [] = refl
append-nil (x ∷ xs) = ap (λ l. x ∷ l) (append-nil xs)

abbrev pub with_stms : Inside → List Stm → Inside
with_stms (in_braces p xs i) more = in_braces p (xs ++ more) i
with_stms (in_body h xs) more = in_body h (xs ++ more)

with_none : (b : Inside) → b ≡ with_stms b []
with_none (in_braces p xs i) = ap (λ l. in_braces p l i) (sym (append-nil xs))
with_none (in_body h xs) = ap (λ l. in_body h l) (sym (append-nil xs))

with_more : (b : Inside) (s : Stm) (more : List Stm) → with_stms (with_stm b s) more ≡ with_stms b (s ∷ more)
with_more (in_braces p xs i) s more = ap (λ l. in_braces p l i) (append_assoc xs (s ∷ []) more)
with_more (in_body h xs) s more = ap (λ l. in_body h l) (append_assoc xs (s ∷ []) more)

mutual
  statements : {ts rest : List Token} {s : Stm} → g.Stmt ts rest s → Kept s rest → (i : Outer) → run ts (stmt i) ≡ run rest (after s i)
  statements (g.is_block {o} {c} {ts} {rest} e r f) h i =
      takes (stmt i) (inside (in_braces o.place [] i)) o ts (rw e refl) ∙ inner r c rest refl f (in_braces o.place [] i)
  statements (g.is_empty {c} {rest} e) h i = takes (stmt i) (after (empty c.place) i) c rest (rw e refl)
  statements (g.is_expression {w} {c} {ts} {rest} {x} r e) h i =
      let s = expr_starts r in
      same_step (stmt i) (operand true (begins_expr (part (as_statement w.place i)))) w ts
      (rw (stmt_not w w.place i s, mark_not m.LeftBrace w refl s, mark_not m.Semicolon w refl s) refl)
      ∙ expr r (let b : binds c ≡ 0 = rw e refl in omega (arith, b)) (part (as_statement w.place i))
      ∙ takes (have x (part (as_statement w.place i))) (after (expression w.place x) i) c rest (rw e refl)
  statements (g.is_if {w} {o} {c} {ts} {mid} {rest} {x} {a} e q d f r) h i =
      takes (stmt i) (test (as_if w.place i)) w (o ∷ ts) (rw e refl) ∙ condition o c q d f (as_if w.place i)
      ∙ statements r (λ _. h refl) (then_arm w.place x i) ∙ fall_then w.place x a i rest (h refl)
  statements (g.is_if_else {w} {o} {c} {e = v} {ts} {mid} {mid'} {rest} {x} {a} {b} e q d f r shut y z) h i =
      takes (stmt i) (test (as_if w.place i)) w (o ∷ ts) (rw e refl) ∙ condition o c q d f (as_if w.place i)
      ∙ statements r (λ n. absurd (false≢true (sym n ∙ shut))) (then_arm w.place x i)
      ∙ takes (after a (then_arm w.place x i)) (stmt (else_arm w.place x a i)) v mid' (rw y refl)
      ∙ statements z h (else_arm w.place x a i) ∙ fall_else w.place x a b i rest
  statements (g.is_while {w} {o} {c} {ts} {mid} {rest} {x} {a} e q d f r) h i =
      takes (stmt i) (test (as_while w.place i)) w (o ∷ ts) (rw e refl) ∙ condition o c q d f (as_while w.place i)
      ∙ statements r h (while_body w.place x i) ∙ fall_while w.place x a i rest
  statements (g.is_do {w} {v} {o} {c} {s} {ts} {mid} {rest} {a} {x} e r f q d y z) h i =
      takes (stmt i) (stmt (do_body w.place i)) w ts (rw e refl)
      ∙ statements r (λ _. rw f refl) (do_body w.place i)
      ∙ takes (after a (do_body w.place i)) (test (as_do w.place a i)) v (o ∷ mid) (rw f refl)
      ∙ condition o c q d y (as_do w.place a i)
      ∙ takes (semi (do_while w.place a x) i) (after (do_while w.place a x) i) s rest (rw z refl)
  statements (g.is_for {w} {o} {ts} {first} {second} {third} {rest} {start} {test = u} {next} {a} e q d x y r) h i =
      takes (stmt i) (for_open w.place i) w (o ∷ ts) (rw e refl)
      ∙ takes (for_open w.place i) (for_start w.place i) o ts (rw q refl)
      ∙ first_part d w.place i
      ∙ until x (as_second w.place start i) refl
      ∙ until y (as_third w.place start u i) refl
      ∙ statements r h (for_body w.place start u next i) ∙ fall_for w.place start u next a i rest
  statements (g.is_break {w} {c} {rest} e f) h i =
      takes (stmt i) (semi (break w.place) i) w (c ∷ rest) (rw e refl) ∙ takes (semi (break w.place) i) (after (break w.place) i) c rest (rw f refl)
  statements (g.is_continue {w} {c} {rest} e f) h i =
      takes (stmt i) (semi (continue w.place) i) w (c ∷ rest) (rw e refl) ∙ takes (semi (continue w.place) i) (after (continue w.place) i) c rest (rw f refl)
  statements (g.is_return {w} {ts} e u) h i =
      takes (stmt i) (awaits (as_value w.place i)) w ts (rw e refl) ∙ until u (as_value w.place i) refl

  inner : {ts mid : List Token} {xs : List Stm} → g.Stmts ts mid xs → (c : Token) (rest : List Token) → mid ≡ c ∷ rest → IsMark c m.RightBrace → (b : Inside) → run ts (inside b) ≡ run rest (close (with_stms b xs))
  inner g.no_stmt c rest e f b =
      ap (λ l. run l (inside b)) e ∙ takes (inside b) (close b) c rest (rw f refl) ∙ ap (λ z. run rest (close z)) (with_none b)
  inner (g.a_stmt {mid = next} {s} {xs} d r) c rest e f b =
      enter d b ∙ statements d (λ _. stmts_head r (subst NoElse (sym e) (rw f refl))) (outer_of b) ∙ fall_block b s next
      ∙ inner r c rest e f (with_stm b s) ∙ ap (λ z. run rest (close z)) (with_more b s xs)
  inner (g.a_local {w} {ds} {xs} l r) c rest e f b =
      locals l (inside b) (in_block w.place b) (λ z. rw (type_no_mark m.RightBrace w z, z) refl)
      ∙ inner r c rest e f (with_stm b (local w.place ds)) ∙ ap (λ z. run rest (close z)) (with_more b (local w.place ds) xs)

item_type : {ts mid : List Token} {b : Base} → g.ItemType ts mid b → Heads (λ tok. says k.Int tok ≡ false) mid → (front : List Top) →
    run ts (items front) ≡ run mid (typed (a_declarator (top front) []) b (plain b))
item_type (g.is_void {w} {rest} e) h front = takes (items front) (typed (a_declarator (top front) []) base.Void (plain base.Void)) w rest (rw e refl)
item_type {ts} (g.is_value v) h front =
    value_type v h (items front) (a_declarator (top front) [])
    (each (λ tok. is_type tok ≡ true → step (items front) tok ≡ begin_type (a_declarator (top front) []) tok) (λ tok z. rw (type_no_void tok z) refl) ts)

item : {ts rest : List Token} {x : Top} → g.Item ts rest x → (front : List Top) → run ts (items front) ≡ run rest (items (front ++ x ∷ []))
item (g.is_prototype {w} {o} {c} {n} {b} {ty} {mid'} {rest} {xs} v r e f ps q) front =
    item_type v (stars_head r (rw e refl)) front
    ∙ stars r (a_declarator (top front) []) b
    ∙ takes (typed (a_declarator (top front) []) b ty) (named_at (declaring (top front) b []) w.place ty n) w (o ∷ mid') (rw e refl)
    ∙ takes (named_at (declaring (top front) b []) w.place ty n) (params_open (head front w.place ty n [])) o mid' (rw f refl)
    ∙ param_list ps front w.place ty n
    ∙ takes (params_done (head front w.place ty n xs)) (items (front ++ prototype w.place ty n xs ∷ [])) c rest (rw q refl)
item (g.is_function {w} {o} {c} {d} {n} {b} {ty} {mid'} {inside = within} {rest} {xs} {body = ss} v r e f ps q ts z) front =
    item_type v (stars_head r (rw e refl)) front
    ∙ stars r (a_declarator (top front) []) b
    ∙ takes (typed (a_declarator (top front) []) b ty) (named_at (declaring (top front) b []) w.place ty n) w (o ∷ mid') (rw e refl)
    ∙ takes (named_at (declaring (top front) b []) w.place ty n) (params_open (head front w.place ty n [])) o mid' (rw f refl)
    ∙ param_list ps front w.place ty n
    ∙ takes (params_done (head front w.place ty n xs)) (inside (in_body (head front w.place ty n xs) [])) c within (rw q refl)
    ∙ inner ts d rest refl z (in_body (head front w.place ty n xs) [])
item (g.are_variables v r) front = item_type v (declarators_head r) front ∙ declarators r (top front) []

all : {ts rest : List Token} {xs : List Top} → g.Items ts rest xs → rest ≡ [] → (front : List Top) → run ts (items front) ≡ Ok (front ++ xs)
all g.no_item e front = ap (λ l. run l (items front)) e ∙ ap (λ l. Ok l) (sym (append-nil front))
all (g.an_item {x} {xs} d r) e front =
    item d front ∙ all r e (front ++ x ∷ []) ∙ ap (λ l. Ok l) (append_assoc front (x ∷ []) xs)

-- a unit is what the machine finds
pub complete : (ts : List Token) (xs : List Top) → g.IsUnit ts xs → run ts (items []) ≡ Ok xs
complete ts xs u = all u refl []
