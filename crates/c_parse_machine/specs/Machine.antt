-- The parser as a machine that takes one token at a time. Proofs stand on it, and no public clause.
use Rattle.std.specs.Prelude.{ℕ, ◌+◌, List, [], ◌∷◌, ◌++◌, length, Option, Some, None, Result, Ok, Err, Bool, true, false, if◌then◌else◌, ◌&&◌, nat_lt}
use Rattle.ib_meaning.specs.declared.place.Place.{Place}
use Rattle.c_ast.specs.declared.mark.Mark.{Mark}
use Rattle.c_ast.specs.declared.mark.Mark.TheVariants as m
use Rattle.c_ast.specs.declared.keyword.Keyword.{Keyword}
use Rattle.c_ast.specs.declared.keyword.Keyword.TheVariants as k
use Rattle.c_ast.specs.declared.token.Tok.{Tok}
use Rattle.c_ast.specs.declared.token.Tok.TheVariants as t
use Rattle.c_ast.specs.declared.token.Token.{Token}
use Rattle.c_ast.specs.declared.tree.Base.{Base}
use Rattle.c_ast.specs.declared.tree.Base.TheVariants as base
use Rattle.c_ast.specs.declared.tree.UnaryOp.{UnaryOp}
use Rattle.c_ast.specs.declared.tree.BinaryOp.{BinaryOp}
use Rattle.c_ast.specs.declared.tree.AssignOp.{AssignOp}
use Rattle.c_ast.specs.declared.tree_unit.Length.{Length}
use Rattle.c_ast.specs.declared.tree_unit.Length.TheVariants as len
use Rattle.c_ast.specs.GrammarTokens.{binary_op, level, assign_op, step_op, prefix_op, postfix_op}
use Rattle.c_ast.specs.Trees.{Ty, plain, pointer, Exp, name, number, character, string, null, eof, call, index, postfix, unary, cast, binary, conditional, assign, comma, exps, Initial, no_init, value, elements, Decl, declarator, ParName, unnamed, named, Par, param, Maybe, missing, given, Start, start_expr, start_local, Stm, block, empty, expression, if_then, if_else, while_loop, do_while, for_loop, break, continue, return, local, stms, Top, prototype, function, variables}
use Rattle.c_parse_machine.specs.Signs.{is, says, is_type, name_of, length_of}

-- a function of which the parameters are read, and what stands before it
pub data Head : Type 0 where
  head : List Top → Place → Ty → List ℕ → List Par → Head

-- what a statement is for
pub data Outer : Type 0 where
  braces : Place → List Stm → Outer → Outer
  body : Head → List Stm → Outer
  then_arm : Place → Exp → Outer → Outer
  else_arm : Place → Exp → Stm → Outer → Outer
  while_body : Place → Exp → Outer → Outer
  do_body : Place → Outer → Outer
  for_body : Place → Start → Maybe → Maybe → Outer → Outer

-- a block that is open
pub data Inside : Type 0 where
  in_braces : Place → List Stm → Outer → Inside
  in_body : Head → List Stm → Inside

-- Where a declaration stands. What begins at the top may be a function; behind its first comma it is none.
pub data Target : Type 0 where
  top : List Top → Target
  global : List Top → Target
  in_block : Place → Inside → Target
  in_for : Place → Outer → Target

pub data Declaring : Type 0 where
  declaring : Target → Base → List Decl → Declaring

-- a declarator without its initialiser
pub data Made : Type 0 where
  made : Declaring → Place → Ty → List ℕ → Length → Made

-- what an expression that may be missing is for
pub data Role : Type 0 where
  as_statement : Place → Outer → Role
  as_value : Place → Outer → Role
  as_first : Place → Outer → Role
  as_second : Place → Start → Outer → Role
  as_third : Place → Start → Maybe → Outer → Role

-- what an expression in the parentheses of a statement is for
pub data Test : Type 0 where
  as_if : Place → Outer → Test
  as_while : Place → Outer → Test
  as_do : Place → Stm → Outer → Test

-- what an expression is for
pub data Frames : Type 0 where
  part : Role → Frames
  tested : Test → Frames
  init_value : Made → Frames
  element : Made → List Exp → Frames
  prefix : Place → UnaryOp → Frames → Frames
  cast_to : Place → Ty → Frames → Frames
  -- a conditional expression begins here, or an assignment
  cond : Bool → Frames → Frames
  -- the operator and its left operand
  right : Place → BinaryOp → Exp → Frames → Frames
  assigned : Place → AssignOp → Exp → Frames → Frames
  middle : Place → Exp → Frames → Frames
  other : Place → Exp → Exp → Frames → Frames
  first : Frames → Frames
  list : Place → List Exp → Frames → Frames
  parens : Frames → Frames
  subscript : Place → Exp → Frames → Frames
  arg : Place → List ℕ → List Exp → Frames → Frames

-- what a type is for
pub data Use : Type 0 where
  a_declarator : Target → List Decl → Use
  a_parameter : Place → Head → Use
  a_cast : Place → Frames → Use

-- what brackets are for
pub data Sizing : Type 0 where
  of_declarator : Declaring → Place → Ty → List ℕ → Sizing
  of_parameter : Head → Place → Ty → ParName → Sizing

pub data State : Type 0 where
  items : List Top → State
  after_long : Use → State
  typed : Use → Base → Ty → State
  named_at : Declaring → Place → Ty → List ℕ → State
  sizes : Sizing → State
  size_open : Sizing → State
  size_given : Sizing → Length → State
  sized : Sizing → Length → State
  init_open : Made → State
  element_next : Made → List Exp → State
  declared : Declaring → State
  params_open : Head → State
  params_void : Head → State
  param_next : Head → State
  params_done : Head → State
  inside : Inside → State
  stmt : Outer → State
  after : Stm → Outer → State
  test : Test → State
  awaits : Role → State
  semi : Stm → Outer → State
  for_open : Place → Outer → State
  for_start : Place → Outer → State
  -- whether a cast may stand here
  operand : Bool → Frames → State
  paren : Bool → Place → Frames → State
  called : Place → List ℕ → Frames → State
  opened : Place → List ℕ → Frames → State
  have : Exp → Frames → State

abbrev pub choose : {A : Type 0} → Option A → (A → Option State) → Option State → Option State
choose (Some x) f otherwise = f x
choose None f otherwise = otherwise

abbrev pub begins_assign : Frames → Frames
begins_assign σ = cond true σ

abbrev pub begins_expr : Frames → Frames
begins_expr σ = begins_assign (first σ)

-- what begins with a cast is the left side of no assignment
abbrev pub shut : Frames → Frames
shut (cond opens σ) = cond false σ
shut (part role) = part role
shut (tested t) = tested t
shut (init_value u) = init_value u
shut (element u xs) = element u xs
shut (prefix p op σ) = prefix p op σ
shut (cast_to p ty σ) = cast_to p ty σ
shut (right p op a σ) = right p op a σ
shut (assigned p op a σ) = assigned p op a σ
shut (middle p a σ) = middle p a σ
shut (other p a b σ) = other p a b σ
shut (first σ) = first σ
shut (list p xs σ) = list p xs σ
shut (parens σ) = parens σ
shut (subscript p a σ) = subscript p a σ
shut (arg p f xs σ) = arg p f xs σ

abbrev pub outer_of : Inside → Outer
outer_of (in_braces p xs i) = braces p xs i
outer_of (in_body h xs) = body h xs

abbrev pub with_stm : Inside → Stm → Inside
with_stm (in_braces p xs i) s = in_braces p (xs ++ s ∷ []) i
with_stm (in_body h xs) s = in_body h (xs ++ s ∷ [])

abbrev pub with_decl : Declaring → Decl → Declaring
with_decl (declaring target b ds) d = declaring target b (ds ++ d ∷ [])

abbrev pub with_init : Made → Initial → Declaring
with_init (made d p ty n l) i = with_decl d (declarator p ty n l i)

abbrev pub with_param : Head → Par → Head
with_param (head xs p ty n ps) x = head xs p ty n (ps ++ x ∷ [])

abbrev pub with_prototype : Head → List Top
with_prototype (head xs p ty n ps) = xs ++ prototype p ty n ps ∷ []

abbrev pub with_function : Head → List Stm → List Top
with_function (head xs p ty n ps) ss = xs ++ function p ty n ps ss ∷ []

abbrev pub close : Inside → State
close (in_braces p xs i) = after (block p (stms xs)) i
close (in_body h xs) = items (with_function h xs)

abbrev pub no_function : Target → Target
no_function (top xs) = global xs
no_function (global xs) = global xs
no_function (in_block p b) = in_block p b
no_function (in_for p i) = in_for p i

abbrev pub end_declaration : Target → List Decl → State
end_declaration (top xs) ds = items (xs ++ variables ds ∷ [])
end_declaration (global xs) ds = items (xs ++ variables ds ∷ [])
end_declaration (in_block p b) ds = inside (with_stm b (local p ds))
end_declaration (in_for p i) ds = awaits (as_second p (start_local ds) i)

abbrev pub closer : Role → Mark
closer (as_statement p i) = m.Semicolon
closer (as_value p i) = m.Semicolon
closer (as_first p i) = m.Semicolon
closer (as_second p start i) = m.Semicolon
closer (as_third p start x i) = m.RightParen

abbrev pub statement : Place → Maybe → Stm
statement p missing = empty p
statement p (given e) = expression p e

abbrev pub goes_on : Role → Maybe → State
goes_on (as_statement p i) x = after (statement p x) i
goes_on (as_value p i) x = after (return p x) i
goes_on (as_first p i) x = awaits (as_second p (start_expr x) i)
goes_on (as_second p start i) x = awaits (as_third p start x i)
goes_on (as_third p start y i) x = stmt (for_body p start y x i)

abbrev pub passed : Test → Exp → State
passed (as_if p i) e = stmt (then_arm p e i)
passed (as_while p i) e = stmt (while_body p e i)
passed (as_do p s i) e = semi (do_while p s e) i

abbrev pub begin_type : Use → Token → Option State
begin_type why tok =
    if says k.Char tok then Some (typed why base.Char (plain base.Char))
    else if says k.Int tok then Some (typed why base.Int (plain base.Int))
    else if says k.Long tok then Some (after_long why)
    else None

abbrev pub step_declared : Declaring → Token → Option State
step_declared (declaring target b ds) tok =
    if is m.Comma tok then Some (typed (a_declarator (no_function target) ds) b (plain b))
    else if is m.Semicolon tok then Some (end_declaration target ds)
    else None

abbrev pub step_param : Head → Token → Option State
step_param h tok = if is m.Comma tok then Some (param_next h) else if is m.RightParen tok then Some (params_done h) else None

abbrev pub step_sized : Sizing → Length → Token → Option State
step_sized (of_declarator d p ty n) l tok =
    if is m.Assign tok then Some (init_open (made d p ty n l)) else step_declared (with_decl d (declarator p ty n l no_init)) tok
step_sized (of_parameter h p ty n) l tok = step_param (with_param h (param p ty n l)) tok

abbrev pub step_sizes : Sizing → Token → Option State
step_sizes z tok = if is m.LeftBracket tok then Some (size_open z) else step_sized z len.Scalar tok

abbrev pub step_type : Use → Base → Ty → Token → Option State
step_type (a_declarator target ds) b ty tok = choose (name_of tok.kind) (λ n. Some (named_at (declaring target b ds) tok.place ty n)) None
step_type (a_parameter p h) b ty tok =
    choose (name_of tok.kind) (λ n. Some (sizes (of_parameter h tok.place ty (named n)))) (step_sizes (of_parameter h p ty unnamed) tok)
step_type (a_cast p σ) b ty tok = if is m.RightParen tok then Some (operand true (cast_to p ty σ)) else None

abbrev pub step_typed : Use → Base → Ty → Token → Option State
step_typed why b ty tok = if is m.Star tok then Some (typed why b (pointer ty)) else step_type why b ty tok

abbrev pub begin_params : Declaring → Place → Ty → List ℕ → Option State
begin_params (declaring (top xs) b ds) p ty n = Some (params_open (head xs p ty n []))
begin_params (declaring (global xs) b ds) p ty n = None
begin_params (declaring (in_block q i) b ds) p ty n = None
begin_params (declaring (in_for q i) b ds) p ty n = None

abbrev pub begin_word : Keyword → Place → Frames → Option State
begin_word k.Null p σ = Some (have (null p) σ)
begin_word k.Eof p σ = Some (have (eof p) σ)
begin_word _ p σ = None

abbrev pub begin_leaf : Tok → Place → Frames → Option State
begin_leaf (t.Name n) p σ = Some (called p n σ)
begin_leaf (t.Number v long) p σ = Some (have (number p v long) σ)
begin_leaf (t.Char v) p σ = Some (have (character p v) σ)
begin_leaf (t.Str bytes) p σ = Some (have (string p bytes) σ)
begin_leaf (t.Word word) p σ = begin_word word p σ
begin_leaf (t.Mark mark) p σ = None
begin_leaf (t.Reserved n) p σ = None

-- an operand begins with the token
abbrev pub begin : Bool → Frames → Token → Option State
begin casts σ tok =
    if is m.LeftParen tok then Some (paren casts tok.place σ)
    else choose (step_op tok) (λ op. Some (operand false (prefix tok.place op σ)))
    (choose (prefix_op tok) (λ op. Some (operand true (prefix tok.place op σ))) (begin_leaf tok.kind tok.place σ))

abbrev pub begin_expr : Frames → Token → Option State
begin_expr σ tok = begin true (begins_expr σ) tok

abbrev pub assign_if : Bool → Token → Option AssignOp
assign_if true tok = assign_op tok
assign_if false tok = None

abbrev pub if_tighter : BinaryOp → Option BinaryOp → Option BinaryOp
if_tighter op None = None
if_tighter op (Some found) = if nat_lt (level op) (level found) then Some found else None

-- an operand is complete, and the token follows
abbrev pub follow : Exp → Frames → Token → Option State
follow e (part role) tok = if is (closer role) tok then Some (goes_on role (given e)) else None
follow e (tested t) tok = if is m.RightParen tok then Some (passed t e) else None
follow e (init_value u) tok = step_declared (with_init u (value e)) tok
follow e (element u xs) tok =
    if is m.Comma tok then Some (element_next u (xs ++ e ∷ []))
    else if is m.RightBrace tok then Some (declared (with_init u (elements (xs ++ e ∷ []))))
    else None
follow a (prefix p op σ) tok = follow (unary p op a) σ tok
follow a (cast_to p ty σ) tok = follow (cast p ty a) σ tok
follow a (cond opens σ) tok =
    choose (assign_if opens tok) (λ op. Some (operand true (begins_assign (assigned tok.place op a σ))))
    (if is m.Question tok then Some (operand true (begins_expr (middle tok.place a σ)))
    else choose (binary_op tok) (λ op. Some (operand true (right tok.place op a (cond false σ)))) (follow a σ tok))
follow b (right p op a σ) tok =
    choose (if_tighter op (binary_op tok)) (λ next. Some (operand true (right tok.place next b (right p op a σ)))) (follow (binary p op a b) σ tok)
follow b (assigned p op a σ) tok = follow (assign p op a b) σ tok
follow b (middle p a σ) tok = if is m.Colon tok then Some (operand true (cond false (other p a b σ))) else None
follow d (other p a b σ) tok = follow (conditional p a b d) σ tok
follow a (first σ) tok = if is m.Comma tok then Some (operand true (begins_assign (list tok.place (a ∷ []) σ))) else follow a σ tok
follow a (list p xs σ) tok =
    if is m.Comma tok then Some (operand true (begins_assign (list p (xs ++ a ∷ []) σ)))
    else follow (comma p (exps (xs ++ a ∷ []))) σ tok
follow a (parens σ) tok = if is m.RightParen tok then Some (have a σ) else None
follow i (subscript p a σ) tok = if is m.RightBracket tok then Some (have (index p a i) σ) else None
follow a (arg p f xs σ) tok =
    if is m.Comma tok then Some (operand true (begins_assign (arg p f (xs ++ a ∷ []) σ)))
    else if is m.RightParen tok then Some (have (call p f (exps (xs ++ a ∷ []))) σ)
    else None

abbrev pub go_on : Exp → Frames → Token → Option State
go_on a σ tok =
    if is m.LeftBracket tok then Some (operand true (begins_expr (subscript tok.place a σ)))
    else choose (postfix_op tok) (λ op. Some (have (postfix tok.place op a) σ)) (follow a σ tok)

abbrev pub step_awaits : Role → Token → Option State
step_awaits role tok = if is (closer role) tok then Some (goes_on role missing) else begin_expr (part role) tok

abbrev pub stmt_word : Keyword → Place → Outer → Option State
stmt_word k.If p i = Some (test (as_if p i))
stmt_word k.While p i = Some (test (as_while p i))
stmt_word k.Do p i = Some (stmt (do_body p i))
stmt_word k.For p i = Some (for_open p i)
stmt_word k.Break p i = Some (semi (break p) i)
stmt_word k.Continue p i = Some (semi (continue p) i)
stmt_word k.Return p i = Some (awaits (as_value p i))
stmt_word _ p i = None

abbrev pub stmt_kind : Tok → Place → Outer → Option State
stmt_kind (t.Word word) p i = stmt_word word p i
stmt_kind _ p i = None

-- a statement that is no keyword's
abbrev pub begin_other : Outer → Token → Option State
begin_other i tok = if is m.LeftBrace tok then Some (inside (in_braces tok.place [] i)) else step_awaits (as_statement tok.place i) tok

abbrev pub begin_stmt : Outer → Token → Option State
begin_stmt i tok = choose (stmt_kind tok.kind tok.place i) (λ s. Some s) (begin_other i tok)

abbrev pub step_inside : Inside → Token → Option State
step_inside b tok =
    if is m.RightBrace tok then Some (close b)
    else if is_type tok then begin_type (a_declarator (in_block tok.place b) []) tok
    else begin_stmt (outer_of b) tok

-- a statement is complete, and the token follows
abbrev pub settle : Stm → Outer → Token → Option State
settle s (braces p xs i) tok = step_inside (in_braces p (xs ++ s ∷ []) i) tok
settle s (body h xs) tok = step_inside (in_body h (xs ++ s ∷ [])) tok
settle s (then_arm p e i) tok = if says k.Else tok then Some (stmt (else_arm p e s i)) else settle (if_then p e s) i tok
settle s (else_arm p e a i) tok = settle (if_else p e a s) i tok
settle s (while_body p e i) tok = settle (while_loop p e s) i tok
settle s (do_body p i) tok = if says k.While tok then Some (test (as_do p s i)) else None
settle s (for_body p start x y i) tok = settle (for_loop p start x y s) i tok

abbrev pub begin_item : List Top → Token → Option State
begin_item xs tok =
    if says k.Void tok then Some (typed (a_declarator (top xs) []) base.Void (plain base.Void))
    else begin_type (a_declarator (top xs) []) tok

abbrev pub step : State → Token → Option State
step (items xs) tok = begin_item xs tok
step (after_long why) tok =
    if says k.Int tok then Some (typed why base.Long (plain base.Long)) else step_typed why base.Long (plain base.Long) tok
step (typed why b ty) tok = step_typed why b ty tok
step (named_at d p ty n) tok = if is m.LeftParen tok then begin_params d p ty n else step_sizes (of_declarator d p ty n) tok
step (sizes z) tok = step_sizes z tok
step (size_open z) tok =
    if is m.RightBracket tok then Some (sized z len.Missing) else choose (length_of tok.kind) (λ l. Some (size_given z l)) None
step (size_given z l) tok = if is m.RightBracket tok then Some (sized z l) else None
step (sized z l) tok = step_sized z l tok
step (init_open u) tok =
    if is m.LeftBrace tok then Some (operand true (begins_assign (element u []))) else begin true (begins_assign (init_value u)) tok
step (element_next u xs) tok =
    if is m.RightBrace tok then Some (declared (with_init u (elements xs))) else begin true (begins_assign (element u xs)) tok
step (declared d) tok = step_declared d tok
step (params_open h) tok =
    if is m.RightParen tok then Some (params_done h)
    else if says k.Void tok then Some (params_void h)
    else begin_type (a_parameter tok.place h) tok
step (params_void h) tok = if is m.RightParen tok then Some (params_done h) else None
step (param_next h) tok = begin_type (a_parameter tok.place h) tok
step (params_done h) tok =
    if is m.Semicolon tok then Some (items (with_prototype h))
    else if is m.LeftBrace tok then Some (inside (in_body h []))
    else None
step (inside b) tok = step_inside b tok
step (stmt i) tok = begin_stmt i tok
step (after s i) tok = settle s i tok
step (test t) tok = if is m.LeftParen tok then Some (operand true (begins_expr (tested t))) else None
step (awaits role) tok = step_awaits role tok
step (semi s i) tok = if is m.Semicolon tok then Some (after s i) else None
step (for_open p i) tok = if is m.LeftParen tok then Some (for_start p i) else None
step (for_start p i) tok = if is_type tok then begin_type (a_declarator (in_for p i) []) tok else step_awaits (as_first p i) tok
step (operand casts σ) tok = begin casts σ tok
step (paren casts p σ) tok =
    if casts && is_type tok then begin_type (a_cast p (shut σ)) tok else begin_expr (parens σ) tok
step (called p f σ) tok = if is m.LeftParen tok then Some (opened p f σ) else go_on (name p f) σ tok
step (opened p f σ) tok =
    if is m.RightParen tok then Some (have (call p f (exps [])) σ) else begin true (begins_assign (arg p f [] σ)) tok
step (have a σ) tok = go_on a σ tok

-- the unit, where the tokens may end here
abbrev pub finish : State → Option (List Top)
finish (items xs) = Some xs
finish _ = None

abbrev pub ended : Option (List Top) → Result (List Top) ℕ
ended (Some xs) = Ok xs
ended None = Err 0

-- the unit of the tokens, or how many are left where no unit goes on
abbrev pub run : List Token → State → Result (List Top) ℕ
run [] s = ended (finish s)
run (tok ∷ ts) s = elim (step s tok) [ Some next ↦ run ts next | None ↦ Err (length ts + 1) ]
