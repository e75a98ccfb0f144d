-- What the rest of the tokens has to be in a state, in the words of the grammar, so that the whole is the unit u.
use Rattle.std.proofs.Common.{◌≡◌, ℕ, suc, ◌≤◌, List, [], ◌∷◌, ◌++◌, Some, None, Bool, true, ◌⊎◌}
use Rattle.std.specs.Prelude.{Option, ℤ}
use Rattle.ib_meaning.specs.declared.place.Place.{Place}
use Rattle.c_ast.specs.declared.mark.Mark.{Mark}
use Rattle.c_ast.specs.declared.mark.Mark.TheVariants as m
use Rattle.c_ast.specs.declared.keyword.Keyword.TheVariants as k
use Rattle.c_ast.specs.declared.token.Token.{Token}
use Rattle.c_ast.specs.declared.tree.Base.{Base}
use Rattle.c_ast.specs.declared.tree.Base.TheVariants as base
use Rattle.c_ast.specs.declared.tree.BinaryOp.{BinaryOp}
use Rattle.c_ast.specs.declared.tree.AssignOp.{AssignOp}
use Rattle.c_ast.specs.declared.tree_unit.Length.{Length}
use Rattle.c_ast.specs.declared.tree_unit.Length.TheVariants as len
use Rattle.c_ast.specs.GrammarTokens.{IsMark, IsWord, IsName, IsNumber, binary_op, level, assign_op}
use Rattle.c_ast.specs.Trees.{Ty, plain, Exp, name, call, index, unary, cast, binary, conditional, assign, comma, exps, Initial, value, elements, Decl, declarator, unnamed, named, Par, param, Maybe, given, Start, start_expr, start_local, Stm, block, if_then, if_else, while_loop, do_while, for_loop, return, local, stms, closed, Top, variables}
use Rattle.c_ast.specs.Grammar as g
use Rattle.c_parse_machine.specs.Machine.{Head, head, Outer, braces, body, then_arm, else_arm, while_body, do_body, for_body, Inside, in_braces, in_body, Target, top, global, in_block, in_for, Declaring, declaring, Made, Role, as_statement, as_value, as_first, as_second, as_third, Test, as_if, as_while, as_do, Frames, part, tested, init_value, element, prefix, cast_to, cond, right, assigned, middle, other, first, list, parens, subscript, arg, Use, a_declarator, a_parameter, a_cast, Sizing, of_declarator, of_parameter, State, items, after_long, typed, named_at, sizes, size_open, size_given, sized, init_open, element_next, declared, params_open, params_void, param_next, params_done, inside, stmt, after, test, awaits, semi, for_open, for_start, operand, paren, called, opened, have, shut, with_stm, with_decl, with_init, with_param, with_prototype, with_function, closer, statement}
use Rattle.c_parse_machine.proofs.DeclarationLemmas.{with_params}

-- a first token, and what follows it
pub data Led (P : Token → List Token → Type 0) : List Token → Type 0 where
  led : {c : Token} {rest : List Token} → P c rest → Led P (c ∷ rest)

abbrev pub By : Mark → (List Token → Type 0) → List Token → Type 0
By mark P = Led (λ c rest. IsMark c mark × P rest)

-- operators of level n and tighter with their right operands, none tighter than the one before it, nor than the cap
pub data Climb (n : ℕ) : ℕ → Exp → List Token → List Token → Exp → Type 0 where
  here : {cap : ℕ} {rest : List Token} {a : Exp} → Climb n cap a rest rest a
  op : {cap : ℕ} {s : Token} {o : BinaryOp} {ts mid rest : List Token} {a b x : Exp} →
      binary_op s ≡ Some o → n ≤ level o → level o ≤ cap → g.Level (suc (level o)) ts mid b →
      Climb n (level o) (binary s.place o a b) mid rest x → Climb n cap a (s ∷ ts) rest x

abbrev pub Rest : List Top → List Token → List Top → Type 0
Rest xs ts u = (ys : List Top) × g.Items ts [] ys × (u ≡ xs ++ ys)

-- a statement is complete
abbrev pub Follows : Outer → Stm → List Token → List Top → Type 0
Follows (braces p xs i) s ts u = (ys : List Stm) × (mid : List Token) × g.Stmts ts mid ys × By m.RightBrace (λ rest. Follows i (block p (stms (xs ++ s ∷ ys))) rest u) mid
Follows (body h xs) s ts u = (ys : List Stm) × (mid : List Token) × g.Stmts ts mid ys × By m.RightBrace (λ rest. Rest (with_function h (xs ++ s ∷ ys)) rest u) mid
Follows (then_arm p e i) s ts u =
    Follows i (if_then p e s) ts u
    ⊎ Led (λ v mid. IsWord v k.Else × (closed s ≡ true) × (b : Stm) × (rest : List Token) × g.Stmt mid rest b × Follows i (if_else p e s b) rest u) ts
Follows (else_arm p e a i) s ts u = Follows i (if_else p e a s) ts u
Follows (while_body p e i) s ts u = Follows i (while_loop p e s) ts u
Follows (do_body p i) s ts u =
    Led (λ v mid. IsWord v k.While × By m.LeftParen (λ t1. (x : Exp) × (t2 : List Token) × g.Expr t1 t2 x × By m.RightParen (By m.Semicolon (λ rest. Follows i (do_while p s x) rest u)) t2) mid) ts
Follows (for_body p start x y i) s ts u = Follows i (for_loop p start x y s) ts u

abbrev pub NewStmt : Outer → List Token → List Top → Type 0
NewStmt i ts u = (s : Stm) × (rest : List Token) × g.Stmt ts rest s × Follows i s rest u

abbrev pub Block : Inside → List Token → List Top → Type 0
Block (in_braces p xs i) ts u = (ys : List Stm) × (mid : List Token) × g.Stmts ts mid ys × By m.RightBrace (λ rest. Follows i (block p (stms (xs ++ ys))) rest u) mid
Block (in_body h xs) ts u = (ys : List Stm) × (mid : List Token) × g.Stmts ts mid ys × By m.RightBrace (λ rest. Rest (with_function h (xs ++ ys)) rest u) mid

abbrev pub Goes : Role → Maybe → List Token → List Top → Type 0
Goes (as_statement p i) x ts u = Follows i (statement p x) ts u
Goes (as_value p i) x ts u = Follows i (return p x) ts u
Goes (as_first p i) x ts u =
    (y : Maybe) × (mid : List Token) × g.Until m.Semicolon ts mid y × ((z : Maybe) × (rest : List Token) × g.Until m.RightParen mid rest z × NewStmt (for_body p (start_expr x) y z i) rest u)
Goes (as_second p start i) y ts u = (z : Maybe) × (rest : List Token) × g.Until m.RightParen ts rest z × NewStmt (for_body p start y z i) rest u
Goes (as_third p start y i) z ts u = NewStmt (for_body p start y z i) ts u

abbrev pub Awaits : Role → List Token → List Top → Type 0
Awaits role ts u = (x : Maybe) × (mid : List Token) × g.Until (closer role) ts mid x × Goes role x mid u

abbrev pub Passed : Test → Exp → List Token → List Top → Type 0
Passed (as_if p i) e ts u = NewStmt (then_arm p e i) ts u
Passed (as_while p i) e ts u = NewStmt (while_body p e i) ts u
Passed (as_do p s i) e ts u = By m.Semicolon (λ rest. Follows i (do_while p s e) rest u) ts

abbrev pub EndDeclaration : Target → List Decl → List Token → List Top → Type 0
EndDeclaration (top xs) ds ts u = Rest (xs ++ variables ds ∷ []) ts u
EndDeclaration (global xs) ds ts u = Rest (xs ++ variables ds ∷ []) ts u
EndDeclaration (in_block p b) ds ts u = Block (with_stm b (local p ds)) ts u
EndDeclaration (in_for p i) ds ts u = Awaits (as_second p (start_local ds) i) ts u

abbrev pub Declared : Declaring → List Token → List Top → Type 0
Declared (declaring target b ds) ts u =
    By m.Semicolon (λ rest. EndDeclaration target ds rest u) ts
    ⊎ By m.Comma (λ mid. (es : List Decl) × (rest : List Token) × g.Declarators b mid rest es × EndDeclaration target (ds ++ es) rest u) ts

abbrev pub MoreElements : Made → List Exp → List Token → List Top → Type 0
MoreElements v xs ts u =
    By m.RightBrace (λ rest. Declared (with_init v (elements xs)) rest u) ts
    ⊎ ((ys : List Exp) × (rest : List Token) × g.Elements ts rest ys × Declared (with_init v (elements (xs ++ ys))) rest u)

-- what may follow the test of a conditional expression, where P is what the expression is for
abbrev pub Chooses : (Exp → List Token → Type 0) → Exp → List Token → Type 0
Chooses P x ts =
    P x ts
    ⊎ Led (λ q t1. IsMark q m.Question × (b : Exp) × (t2 : List Token) × g.Expr t1 t2 b
    × By m.Colon (λ t3. (d : Exp) × (rest : List Token) × g.Cond t3 rest d × P (conditional q.place x b d) rest) t2) ts

abbrev pub Indexed : (Exp → List Token → Type 0) → Exp → List Token → Type 0
Indexed P a ts = (x : Exp) × (rest : List Token) × g.Postfixes a ts rest x × P x rest

-- An operand is complete; no operator tighter than the cap follows.
abbrev pub Past : Frames → ℕ → Exp → List Token → List Top → Type 0
Past (part role) cap e ts u = By (closer role) (λ rest. Goes role (given e) rest u) ts
Past (tested t) cap e ts u = By m.RightParen (λ rest. Passed t e rest u) ts
Past (init_value v) cap e ts u = Declared (with_init v (value e)) ts u
Past (element v xs) cap e ts u =
    By m.RightBrace (λ rest. Declared (with_init v (elements (xs ++ e ∷ []))) rest u) ts ⊎ By m.Comma (λ mid. MoreElements v (xs ++ e ∷ []) mid u) ts
Past (prefix p o σ) cap a ts u = Past σ 10 (unary p o a) ts u
Past (cast_to p ty σ) cap a ts u = Past σ 10 (cast p ty a) ts u
Past (cond v σ) cap a ts u =
    ((x : Exp) × (mid : List Token) × Climb 1 cap a ts mid x × Chooses (λ y rest. Past σ 10 y rest u) x mid)
    ⊎ ((v ≡ true) × Led (λ s mid. (o : AssignOp) × (assign_op s ≡ Some o) × (b : Exp) × (rest : List Token) × g.Assign mid rest b × Past σ 10 (assign s.place o a b) rest u) ts)
Past (right p o a σ) cap b ts u = (y : Exp) × (mid : List Token) × Climb (suc (level o)) cap b ts mid y × Past σ (level o) (binary p o a y) mid u
Past (assigned p o a σ) cap b ts u = Past σ 10 (assign p o a b) ts u
Past (middle p a σ) cap b ts u = By m.Colon (λ mid. (d : Exp) × (rest : List Token) × g.Cond mid rest d × Past σ 10 (conditional p a b d) rest u) ts
Past (other p a b σ) cap d ts u = Past σ 10 (conditional p a b d) ts u
Past (first σ) cap a ts u =
    Past σ 10 a ts u
    ⊎ Led (λ c mid. IsMark c m.Comma × (ys : List Exp) × (rest : List Token) × g.Assigns mid rest ys × Past σ 10 (comma c.place (exps (a ∷ ys))) rest u) ts
Past (list p xs σ) cap a ts u =
    Past σ 10 (comma p (exps (xs ++ a ∷ []))) ts u
    ⊎ By m.Comma (λ mid. (ys : List Exp) × (rest : List Token) × g.Assigns mid rest ys × Past σ 10 (comma p (exps (xs ++ a ∷ ys))) rest u) ts
Past (parens σ) cap a ts u = By m.RightParen (Indexed (λ y rest. Past σ 10 y rest u) a) ts
Past (subscript p a σ) cap i ts u = By m.RightBracket (Indexed (λ y rest. Past σ 10 y rest u) (index p a i)) ts
Past (arg p f xs σ) cap a ts u =
    By m.RightParen (Indexed (λ y rest. Past σ 10 y rest u) (call p f (exps (xs ++ a ∷ [])))) ts
    ⊎ By m.Comma (λ mid. (ys : List Exp) × (rest : List Token) × g.Assigns mid rest ys × By m.RightParen (Indexed (λ y rest. Past σ 10 y rest u) (call p f (exps (xs ++ a ∷ ys)))) rest) ts

abbrev pub Done : Head → List Token → List Top → Type 0
Done h ts u = By m.Semicolon (λ rest. Rest (with_prototype h) rest u) ts ⊎ By m.LeftBrace (λ rest. Block (in_body h []) rest u) ts

abbrev pub ParamEnd : Head → List Token → List Top → Type 0
ParamEnd h ts u =
    By m.RightParen (λ rest. Done h rest u) ts
    ⊎ By m.Comma (λ mid. (xs : List Par) × (rest : List Token) × g.Params mid rest xs × Done (with_params h xs) rest u) ts

abbrev pub Sized : Sizing → Length → List Token → List Top → Type 0
Sized (of_declarator d p ty n) l ts u = (i : Initial) × (rest : List Token) × g.Initialiser ts rest i × Declared (with_decl d (declarator p ty n l i)) rest u
Sized (of_parameter h p ty n) l ts u = ParamEnd (with_param h (param p ty n l)) ts u

abbrev pub Sizes : Sizing → List Token → List Top → Type 0
Sizes z ts u = (l : Length) × (rest : List Token) × g.LengthOf ts rest l × Sized z l rest u

abbrev pub ParamsOpen : Head → List Token → List Top → Type 0
ParamsOpen h ts u = (xs : List Par) × (rest : List Token) × g.ParamList ts rest xs × Done (with_params h xs) rest u

abbrev pub Opens : Declaring → Place → Ty → List ℕ → List Token → List Top → Type 0
Opens (declaring (top xs) b ds) p ty n ts u = By m.LeftParen (λ rest. ParamsOpen (head xs p ty n []) rest u) ts
Opens (declaring (global xs) b ds) p ty n ts u = ⊥
Opens (declaring (in_block q i) b ds) p ty n ts u = ⊥
Opens (declaring (in_for q i) b ds) p ty n ts u = ⊥

abbrev pub NamedAt : Declaring → Place → Ty → List ℕ → List Token → List Top → Type 0
NamedAt d p ty n ts u = Opens d p ty n ts u ⊎ Sizes (of_declarator d p ty n) ts u

abbrev pub AfterType : Use → Base → Ty → List Token → List Top → Type 0
AfterType (a_declarator target ds) b ty ts u = Led (λ w mid. (n : List ℕ) × IsName w n × NamedAt (declaring target b ds) w.place ty n mid u) ts
AfterType (a_parameter p h) b ty ts u =
    Led (λ w mid. (n : List ℕ) × IsName w n × Sizes (of_parameter h w.place ty (named n)) mid u) ts ⊎ Sizes (of_parameter h p ty unnamed) ts u
AfterType (a_cast p σ) b ty ts u = By m.RightParen (λ mid. (x : Exp) × (rest : List Token) × g.Cast mid rest x × Past σ 10 (cast p ty x) rest u) ts

abbrev pub Typed : Use → Base → Ty → List Token → List Top → Type 0
Typed why b ty ts u = (full : Ty) × (mid : List Token) × g.Stars ty ts mid full × AfterType why b full mid u

-- a type and what is behind it
abbrev pub NewType : Use → List Token → List Top → Type 0
NewType why ts u = (b : Base) × (mid : List Token) × g.ValueType ts mid b × Typed why b (plain b) mid u

abbrev pub Operand : Bool → Frames → List Token → List Top → Type 0
Operand casts σ ts u =
    ((a : Exp) × (mid : List Token) × g.Unary ts mid a × Past σ 10 a mid u)
    ⊎ ((casts ≡ true) × (a : Exp) × (mid : List Token) × g.Cast ts mid a × Past (shut σ) 10 a mid u)

abbrev pub Opened : Place → List ℕ → Frames → List Token → List Top → Type 0
Opened p f σ ts u = (xs : List Exp) × (rest : List Token) × g.Args ts rest xs × Indexed (λ y rest. Past σ 10 y rest u) (call p f (exps xs)) rest

abbrev pub ForStart : Place → Outer → List Token → List Top → Type 0
ForStart p i ts u = (start : Start) × (mid : List Token) × g.ForFirst ts mid start × Awaits (as_second p start i) mid u

abbrev pub Derives : State → List Token → List Top → Type 0
Derives (items xs) ts u = Rest xs ts u
Derives (after_long why) ts u = Led (λ v rest. IsWord v k.Int × Typed why base.Long (plain base.Long) rest u) ts ⊎ Typed why base.Long (plain base.Long) ts u
Derives (typed why b ty) ts u = Typed why b ty ts u
Derives (named_at d p ty n) ts u = NamedAt d p ty n ts u
Derives (sizes z) ts u = Sizes z ts u
Derives (size_open z) ts u =
    By m.RightBracket (λ rest. Sized z len.Missing rest u) ts
    ⊎ Led (λ w mid. (v : ℤ) × (long : Bool) × IsNumber w v long × By m.RightBracket (λ rest. Sized z (len.Given v long) rest u) mid) ts
Derives (size_given z l) ts u = By m.RightBracket (λ rest. Sized z l rest u) ts
Derives (sized z l) ts u = Sized z l ts u
Derives (init_open v) ts u =
    By m.LeftBrace (λ mid. (xs : List Exp) × (rest : List Token) × g.Elements mid rest xs × Declared (with_init v (elements xs)) rest u) ts
    ⊎ ((x : Exp) × (rest : List Token) × g.Assign ts rest x × Declared (with_init v (value x)) rest u)
Derives (element_next v xs) ts u = MoreElements v xs ts u
Derives (declared d) ts u = Declared d ts u
Derives (params_open h) ts u = ParamsOpen h ts u
Derives (params_void h) ts u = By m.RightParen (λ rest. Done h rest u) ts
Derives (param_next h) ts u = (xs : List Par) × (rest : List Token) × g.Params ts rest xs × Done (with_params h xs) rest u
Derives (params_done h) ts u = Done h ts u
Derives (inside b) ts u = Block b ts u
Derives (stmt i) ts u = NewStmt i ts u
Derives (after s i) ts u = closed s ≡ true → Follows i s ts u
Derives (test t) ts u = By m.LeftParen (λ mid. (x : Exp) × (rest : List Token) × g.Expr mid rest x × By m.RightParen (λ last. Passed t x last u) rest) ts
Derives (awaits role) ts u = Awaits role ts u
Derives (semi s i) ts u = By m.Semicolon (λ rest. closed s ≡ true → Follows i s rest u) ts
Derives (for_open p i) ts u = By m.LeftParen (λ rest. ForStart p i rest u) ts
Derives (for_start p i) ts u = ForStart p i ts u
Derives (operand casts σ) ts u = Operand casts σ ts u
Derives (paren casts p σ) ts u =
    ((casts ≡ true) × NewType (a_cast p (shut σ)) ts u)
    ⊎ ((x : Exp) × (mid : List Token) × g.Expr ts mid x × By m.RightParen (Indexed (λ y rest. Past σ 10 y rest u) x) mid)
Derives (called p f σ) ts u = By m.LeftParen (λ rest. Opened p f σ rest u) ts ⊎ Indexed (λ y rest. Past σ 10 y rest u) (name p f) ts
Derives (opened p f σ) ts u = Opened p f σ ts u
Derives (have a σ) ts u = Indexed (λ y rest. Past σ 10 y rest u) a ts

abbrev pub Derived : Option State → List Token → List Top → Type 0
Derived None ts u = ⊥
Derived (Some s) ts u = Derives s ts u
