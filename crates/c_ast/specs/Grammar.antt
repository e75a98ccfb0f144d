-- The phrases. `Expr ts rest x`: the tokens ts are the expression x and then rest; the others alike.
use Rattle.std.specs.Prelude.{◌≡◌, ℕ, ℤ, suc, Bool, true, List, [], ◌∷◌, ◌++◌, Some}
use Rattle.c_ast.specs.declared.mark.Mark.{Mark}
use Rattle.c_ast.specs.declared.mark.Mark.TheVariants as m
use Rattle.c_ast.specs.declared.keyword.Keyword.TheVariants as k
use Rattle.c_ast.specs.declared.token.Tok.TheVariants as t
use Rattle.c_ast.specs.declared.token.Token.{Token}
use Rattle.c_ast.specs.declared.tree.Base.{Base}
use Rattle.c_ast.specs.declared.tree.Base.TheVariants as base
use Rattle.c_ast.specs.declared.tree.UnaryOp.{UnaryOp}
use Rattle.c_ast.specs.declared.tree.PostfixOp.{PostfixOp}
use Rattle.c_ast.specs.declared.tree.BinaryOp.{BinaryOp}
use Rattle.c_ast.specs.declared.tree.AssignOp.{AssignOp}
use Rattle.c_ast.specs.declared.tree_unit.Length.{Length}
use Rattle.c_ast.specs.declared.tree_unit.Length.TheVariants as len
use Rattle.c_ast.specs.GrammarTokens.{IsMark, IsWord, IsName, IsNumber, binary_op, level, assign_op, step_op, prefix_op, postfix_op}
use Rattle.c_ast.specs.Trees.{Ty, plain, pointer, Exp, name, number, character, string, null, eof, call, index, postfix, unary, cast, binary, conditional, assign, comma, exps, Initial, no_init, value, elements, Decl, declarator, unnamed, named, Par, param, Maybe, missing, given, Start, start_expr, start_local, Stm, block, empty, expression, if_then, if_else, while_loop, do_while, for_loop, break, continue, return, local, stms, closed, Top, prototype, function, variables}

-- `char`, `int`, `long` or `long int`
pub data ValueType : List Token → List Token → Base → Type 0 where
  is_char : {w : Token} {rest : List Token} → IsWord w k.Char → ValueType (w ∷ rest) rest base.Char
  is_int : {w : Token} {rest : List Token} → IsWord w k.Int → ValueType (w ∷ rest) rest base.Int
  is_long : {w : Token} {rest : List Token} → IsWord w k.Long → ValueType (w ∷ rest) rest base.Long
  is_long_int : {w v : Token} {rest : List Token} → IsWord w k.Long → IsWord v k.Int → ValueType (w ∷ v ∷ rest) rest base.Long

-- the stars that make pointers of a type
pub data Stars : Ty → List Token → List Token → Ty → Type 0 where
  no_star : {ty : Ty} {rest : List Token} → Stars ty rest rest ty
  star : {s : Token} {ty full : Ty} {ts rest : List Token} → IsMark s m.Star → Stars (pointer ty) ts rest full → Stars ty (s ∷ ts) rest full

mutual
  pub data Expr : List Token → List Token → Exp → Type 0 where
    one : {ts rest : List Token} {x : Exp} → Assign ts rest x → Expr ts rest x
    several : {c : Token} {ts mid rest : List Token} {x : Exp} {xs : List Exp} →
        Assign ts (c ∷ mid) x → IsMark c m.Comma → Assigns mid rest xs → Expr ts rest (comma c.place (exps (x ∷ xs)))

  -- one or more, with commas between them
  pub data Assigns : List Token → List Token → List Exp → Type 0 where
    last : {ts rest : List Token} {x : Exp} → Assign ts rest x → Assigns ts rest (x ∷ [])
    before : {c : Token} {ts mid rest : List Token} {x : Exp} {xs : List Exp} →
        Assign ts (c ∷ mid) x → IsMark c m.Comma → Assigns mid rest xs → Assigns ts rest (x ∷ xs)

  pub data Assign : List Token → List Token → Exp → Type 0 where
    no_assign : {ts rest : List Token} {x : Exp} → Cond ts rest x → Assign ts rest x
    assigns : {s : Token} {op : AssignOp} {ts mid rest : List Token} {a b : Exp} →
        Unary ts (s ∷ mid) a → assign_op s ≡ Some op → Assign mid rest b → Assign ts rest (assign s.place op a b)

  pub data Cond : List Token → List Token → Exp → Type 0 where
    no_cond : {ts rest : List Token} {x : Exp} → Level 1 ts rest x → Cond ts rest x
    chooses : {q c : Token} {ts mid mid' rest : List Token} {a b d : Exp} →
        Level 1 ts (q ∷ mid) a → IsMark q m.Question → Expr mid (c ∷ mid') b → IsMark c m.Colon → Cond mid' rest d →
        Cond ts rest (conditional q.place a b d)

  -- the operands of level k are of level k + 1, and those of level 10 (`* / %`) are casts
  pub data Level : ℕ → List Token → List Token → Exp → Type 0 where
    operand : {ts rest : List Token} {x : Exp} → Cast ts rest x → Level 11 ts rest x
    operators : {n : ℕ} {ts mid rest : List Token} {a x : Exp} →
        Level (suc n) ts mid a → Tail n a mid rest x → Level n ts rest x

  -- operators of one level with their right operands, from left to right
  pub data Tail : ℕ → Exp → List Token → List Token → Exp → Type 0 where
    no_more : {n : ℕ} {rest : List Token} {a : Exp} → Tail n a rest rest a
    more : {n : ℕ} {s : Token} {op : BinaryOp} {ts mid rest : List Token} {a b x : Exp} → binary_op s ≡ Some op → level op ≡ n →
        Level (suc n) ts mid b → Tail n (binary s.place op a b) mid rest x → Tail n a (s ∷ ts) rest x

  pub data Cast : List Token → List Token → Exp → Type 0 where
    no_cast : {ts rest : List Token} {x : Exp} → Unary ts rest x → Cast ts rest x
    casts : {o c : Token} {ts mid mid' rest : List Token} {b : Base} {ty : Ty} {x : Exp} →
        IsMark o m.LeftParen → ValueType ts mid b → Stars (plain b) mid (c ∷ mid') ty → IsMark c m.RightParen → Cast mid' rest x →
        Cast (o ∷ ts) rest (cast o.place ty x)

  pub data Unary : List Token → List Token → Exp → Type 0 where
    operand_of_postfixes : {ts mid rest : List Token} {a x : Exp} → Primary ts mid a → Postfixes a mid rest x → Unary ts rest x
    steps : {s : Token} {op : UnaryOp} {ts rest : List Token} {x : Exp} → step_op s ≡ Some op → Unary ts rest x → Unary (s ∷ ts) rest (unary s.place op x)
    prefixes : {s : Token} {op : UnaryOp} {ts rest : List Token} {x : Exp} → prefix_op s ≡ Some op → Cast ts rest x → Unary (s ∷ ts) rest (unary s.place op x)

  pub data Postfixes : Exp → List Token → List Token → Exp → Type 0 where
    no_postfix : {rest : List Token} {a : Exp} → Postfixes a rest rest a
    indexed : {o c : Token} {ts mid rest : List Token} {a i x : Exp} →
        IsMark o m.LeftBracket → Expr ts (c ∷ mid) i → IsMark c m.RightBracket → Postfixes (index o.place a i) mid rest x →
        Postfixes a (o ∷ ts) rest x
    stepped : {s : Token} {op : PostfixOp} {ts rest : List Token} {a x : Exp} →
        postfix_op s ≡ Some op → Postfixes (postfix s.place op a) ts rest x → Postfixes a (s ∷ ts) rest x

  pub data Primary : List Token → List Token → Exp → Type 0 where
    is_name : {f : Token} {n : List ℕ} {rest : List Token} → IsName f n → Primary (f ∷ rest) rest (name f.place n)
    is_call : {f o : Token} {n : List ℕ} {ts rest : List Token} {xs : List Exp} →
        IsName f n → IsMark o m.LeftParen → Args ts rest xs → Primary (f ∷ o ∷ ts) rest (call f.place n (exps xs))
    is_number : {w : Token} {v : ℤ} {long : Bool} {rest : List Token} → IsNumber w v long → Primary (w ∷ rest) rest (number w.place v long)
    is_character : {w : Token} {v : ℕ} {rest : List Token} → w.kind ≡ t.Char v → Primary (w ∷ rest) rest (character w.place v)
    is_string : {w : Token} {bs : List ℕ} {rest : List Token} → w.kind ≡ t.Str bs → Primary (w ∷ rest) rest (string w.place bs)
    is_null : {w : Token} {rest : List Token} → IsWord w k.Null → Primary (w ∷ rest) rest (null w.place)
    is_eof : {w : Token} {rest : List Token} → IsWord w k.Eof → Primary (w ∷ rest) rest (eof w.place)
    in_parens : {o c : Token} {ts rest : List Token} {x : Exp} →
        IsMark o m.LeftParen → Expr ts (c ∷ rest) x → IsMark c m.RightParen → Primary (o ∷ ts) rest x

  -- the arguments and the closing parenthesis
  pub data Args : List Token → List Token → List Exp → Type 0 where
    no_args : {c : Token} {rest : List Token} → IsMark c m.RightParen → Args (c ∷ rest) rest []
    some_args : {c : Token} {ts rest : List Token} {xs : List Exp} → Assigns ts (c ∷ rest) xs → IsMark c m.RightParen → Args ts rest xs

-- the brackets of a declarator or a parameter
pub data LengthOf : List Token → List Token → Length → Type 0 where
  no_brackets : {rest : List Token} → LengthOf rest rest len.Scalar
  no_length : {o c : Token} {rest : List Token} → IsMark o m.LeftBracket → IsMark c m.RightBracket → LengthOf (o ∷ c ∷ rest) rest len.Missing
  a_length : {o n c : Token} {v : ℤ} {long : Bool} {rest : List Token} →
      IsMark o m.LeftBracket → IsNumber n v long → IsMark c m.RightBracket → LengthOf (o ∷ n ∷ c ∷ rest) rest (len.Given v long)

-- the elements of an initialiser and the closing brace, a comma before which may stand
pub data Elements : List Token → List Token → List Exp → Type 0 where
  last_element : {c : Token} {ts rest : List Token} {x : Exp} → Assign ts (c ∷ rest) x → IsMark c m.RightBrace → Elements ts rest (x ∷ [])
  last_comma : {c d : Token} {ts rest : List Token} {x : Exp} →
      Assign ts (c ∷ d ∷ rest) x → IsMark c m.Comma → IsMark d m.RightBrace → Elements ts rest (x ∷ [])
  an_element : {c : Token} {ts mid rest : List Token} {x : Exp} {xs : List Exp} →
      Assign ts (c ∷ mid) x → IsMark c m.Comma → Elements mid rest xs → Elements ts rest (x ∷ xs)

pub data Initialiser : List Token → List Token → Initial → Type 0 where
  no_value : {rest : List Token} → Initialiser rest rest no_init
  a_value : {s : Token} {ts rest : List Token} {x : Exp} → IsMark s m.Assign → Assign ts rest x → Initialiser (s ∷ ts) rest (value x)
  a_list : {s o : Token} {ts rest : List Token} {xs : List Exp} →
      IsMark s m.Assign → IsMark o m.LeftBrace → Elements ts rest xs → Initialiser (s ∷ o ∷ ts) rest (elements xs)

-- a declarator of a declaration with this base type
pub data Declarator : Base → List Token → List Token → Decl → Type 0 where
  declares : {b : Base} {w : Token} {n : List ℕ} {ts mid mid' rest : List Token} {ty : Ty} {l : Length} {i : Initial} →
      Stars (plain b) ts (w ∷ mid) ty → IsName w n → LengthOf mid mid' l → Initialiser mid' rest i →
      Declarator b ts rest (declarator w.place ty n l i)

-- the declarators, with commas between them, and the semicolon
pub data Declarators : Base → List Token → List Token → List Decl → Type 0 where
  last_declarator : {b : Base} {c : Token} {ts rest : List Token} {d : Decl} →
      Declarator b ts (c ∷ rest) d → IsMark c m.Semicolon → Declarators b ts rest (d ∷ [])
  a_declarator : {b : Base} {c : Token} {ts mid rest : List Token} {d : Decl} {ds : List Decl} →
      Declarator b ts (c ∷ mid) d → IsMark c m.Comma → Declarators b mid rest ds → Declarators b ts rest (d ∷ ds)

pub data Local : List Token → List Token → List Decl → Type 0 where
  declaration : {b : Base} {ts mid rest : List Token} {ds : List Decl} → ValueType ts mid b → Declarators b mid rest ds → Local ts rest ds

-- an expression that may be missing, up to a mark and past it
pub data Until : Mark → List Token → List Token → Maybe → Type 0 where
  nothing : {mark : Mark} {c : Token} {rest : List Token} → IsMark c mark → Until mark (c ∷ rest) rest missing
  something : {mark : Mark} {c : Token} {ts rest : List Token} {x : Exp} → Expr ts (c ∷ rest) x → IsMark c mark → Until mark ts rest (given x)

pub data ForFirst : List Token → List Token → Start → Type 0 where
  for_local : {ts rest : List Token} {ds : List Decl} → Local ts rest ds → ForFirst ts rest (start_local ds)
  for_expr : {ts rest : List Token} {x : Maybe} → Until m.Semicolon ts rest x → ForFirst ts rest (start_expr x)

mutual
  pub data Stmt : List Token → List Token → Stm → Type 0 where
    is_block : {o c : Token} {ts rest : List Token} {xs : List Stm} →
        IsMark o m.LeftBrace → Stmts ts (c ∷ rest) xs → IsMark c m.RightBrace → Stmt (o ∷ ts) rest (block o.place (stms xs))
    is_empty : {c : Token} {rest : List Token} → IsMark c m.Semicolon → Stmt (c ∷ rest) rest (empty c.place)
    is_expression : {w c : Token} {ts rest : List Token} {x : Exp} →
        Expr (w ∷ ts) (c ∷ rest) x → IsMark c m.Semicolon → Stmt (w ∷ ts) rest (expression w.place x)
    is_if : {w o c : Token} {ts mid rest : List Token} {x : Exp} {a : Stm} →
        IsWord w k.If → IsMark o m.LeftParen → Expr ts (c ∷ mid) x → IsMark c m.RightParen → Stmt mid rest a →
        Stmt (w ∷ o ∷ ts) rest (if_then w.place x a)
    -- the statement before an `else` is one that can take no `else` itself
    is_if_else : {w o c e : Token} {ts mid mid' rest : List Token} {x : Exp} {a b : Stm} →
        IsWord w k.If → IsMark o m.LeftParen → Expr ts (c ∷ mid) x → IsMark c m.RightParen → Stmt mid (e ∷ mid') a →
        closed a ≡ true → IsWord e k.Else → Stmt mid' rest b → Stmt (w ∷ o ∷ ts) rest (if_else w.place x a b)
    is_while : {w o c : Token} {ts mid rest : List Token} {x : Exp} {a : Stm} →
        IsWord w k.While → IsMark o m.LeftParen → Expr ts (c ∷ mid) x → IsMark c m.RightParen → Stmt mid rest a →
        Stmt (w ∷ o ∷ ts) rest (while_loop w.place x a)
    is_do : {w v o c s : Token} {ts mid rest : List Token} {a : Stm} {x : Exp} →
        IsWord w k.Do → Stmt ts (v ∷ o ∷ mid) a → IsWord v k.While → IsMark o m.LeftParen → Expr mid (c ∷ s ∷ rest) x → IsMark c m.RightParen →
        IsMark s m.Semicolon → Stmt (w ∷ ts) rest (do_while w.place a x)
    is_for : {w o : Token} {ts first second third rest : List Token} {start : Start} {test next : Maybe} {a : Stm} →
        IsWord w k.For → IsMark o m.LeftParen → ForFirst ts first start → Until m.Semicolon first second test →
        Until m.RightParen second third next → Stmt third rest a → Stmt (w ∷ o ∷ ts) rest (for_loop w.place start test next a)
    is_break : {w c : Token} {rest : List Token} → IsWord w k.Break → IsMark c m.Semicolon → Stmt (w ∷ c ∷ rest) rest (break w.place)
    is_continue : {w c : Token} {rest : List Token} → IsWord w k.Continue → IsMark c m.Semicolon → Stmt (w ∷ c ∷ rest) rest (continue w.place)
    is_return : {w : Token} {ts rest : List Token} {x : Maybe} → IsWord w k.Return → Until m.Semicolon ts rest x → Stmt (w ∷ ts) rest (return w.place x)

  -- what stands in a block: statements and local declarations
  pub data Stmts : List Token → List Token → List Stm → Type 0 where
    no_stmt : {rest : List Token} → Stmts rest rest []
    a_stmt : {ts mid rest : List Token} {s : Stm} {xs : List Stm} → Stmt ts mid s → Stmts mid rest xs → Stmts ts rest (s ∷ xs)
    a_local : {w : Token} {ts mid rest : List Token} {ds : List Decl} {xs : List Stm} →
        Local (w ∷ ts) mid ds → Stmts mid rest xs → Stmts (w ∷ ts) rest (local w.place ds ∷ xs)

-- a parameter, at the place of its name, else of its first token
pub data Param : List Token → List Token → Par → Type 0 where
  without_name : {w : Token} {b : Base} {ts mid mid' rest : List Token} {ty : Ty} {l : Length} →
      ValueType (w ∷ ts) mid b → Stars (plain b) mid mid' ty → LengthOf mid' rest l → Param (w ∷ ts) rest (param w.place ty unnamed l)
  with_name : {w : Token} {n : List ℕ} {b : Base} {ts mid mid' rest : List Token} {ty : Ty} {l : Length} →
      ValueType ts mid b → Stars (plain b) mid (w ∷ mid') ty → IsName w n → LengthOf mid' rest l → Param ts rest (param w.place ty (named n) l)

-- parameters with commas between them, and the closing parenthesis
pub data Params : List Token → List Token → List Par → Type 0 where
  last_param : {c : Token} {ts rest : List Token} {x : Par} → Param ts (c ∷ rest) x → IsMark c m.RightParen → Params ts rest (x ∷ [])
  a_param : {c : Token} {ts mid rest : List Token} {x : Par} {xs : List Par} →
      Param ts (c ∷ mid) x → IsMark c m.Comma → Params mid rest xs → Params ts rest (x ∷ xs)

pub data ParamList : List Token → List Token → List Par → Type 0 where
  no_params : {c : Token} {rest : List Token} → IsMark c m.RightParen → ParamList (c ∷ rest) rest []
  void_params : {w c : Token} {rest : List Token} → IsWord w k.Void → IsMark c m.RightParen → ParamList (w ∷ c ∷ rest) rest []
  some_params : {ts rest : List Token} {xs : List Par} → Params ts rest xs → ParamList ts rest xs

pub data ItemType : List Token → List Token → Base → Type 0 where
  is_void : {w : Token} {rest : List Token} → IsWord w k.Void → ItemType (w ∷ rest) rest base.Void
  is_value : {ts rest : List Token} {b : Base} → ValueType ts rest b → ItemType ts rest b

pub data Item : List Token → List Token → Top → Type 0 where
  is_prototype : {w o c : Token} {n : List ℕ} {b : Base} {ty : Ty} {ts mid mid' rest : List Token} {xs : List Par} →
      ItemType ts mid b → Stars (plain b) mid (w ∷ o ∷ mid') ty → IsName w n → IsMark o m.LeftParen → ParamList mid' (c ∷ rest) xs →
      IsMark c m.Semicolon → Item ts rest (prototype w.place ty n xs)
  is_function : {w o c d : Token} {n : List ℕ} {b : Base} {ty : Ty} {ts mid mid' inside rest : List Token} {xs : List Par} {body : List Stm} →
      ItemType ts mid b → Stars (plain b) mid (w ∷ o ∷ mid') ty → IsName w n → IsMark o m.LeftParen → ParamList mid' (c ∷ inside) xs →
      IsMark c m.LeftBrace → Stmts inside (d ∷ rest) body → IsMark d m.RightBrace → Item ts rest (function w.place ty n xs body)
  are_variables : {b : Base} {ts mid rest : List Token} {ds : List Decl} →
      ItemType ts mid b → Declarators b mid rest ds → Item ts rest (variables ds)

pub data Items : List Token → List Token → List Top → Type 0 where
  no_item : {rest : List Token} → Items rest rest []
  an_item : {ts mid rest : List Token} {x : Top} {xs : List Top} → Item ts mid x → Items mid rest xs → Items ts rest (x ∷ xs)

-- the tokens are the unit
abbrev pub IsUnit : List Token → List Top → Type 0
IsUnit tokens unit = Items tokens [] unit

-- the tokens are a unit, once some more follow
abbrev pub BeginsUnit : List Token → Type 0
BeginsUnit tokens = (more : List Token) × (unit : List Top) × IsUnit (tokens ++ more) unit
