-- Each phrase that good tokens spell is well-formed, and the tokens behind it are good.
use Rattle.std.proofs.Common.{ℕ, ◌≤◌, List, length, subst, arith}
use Rattle.c_ast.specs.declared.mark.Mark.{Mark}
use Rattle.c_ast.specs.declared.token.Token.{Token}
use Rattle.c_ast.specs.declared.tree.Base.{Base}
use Rattle.c_ast.specs.declared.tree_unit.Length.{Length}
use Rattle.c_ast.specs.Trees.{Ty, Exp, exps, Initial, Decl, Maybe, Start, Stm, stms, Par, Top}
use Rattle.c_ast.specs.Grammar as g
use Rattle.c_ast.specs.Grammar.{ValueType, Stars, Expr, Assigns, Assign, Cond, Level, Tail, Cast, Unary, Postfixes, Primary, Args, LengthOf, Elements, Initialiser, Declarator, Declarators, Local, Until, ForFirst, Stmt, Stmts, Param, Params, ParamList, ItemType, Item, Items, IsUnit}
use Rattle.c_ast.specs.Cut.{AreTokens}
use Rattle.c_kept.specs.WellFormed.{FormedExp, FormedExps, FormedMaybe, FormedInit, FormedDecl, FormedDecls, FormedStart, FormedStm, FormedStms, FormedItem, FormedUnit}
use Rattle.c_formed.proofs.Tokens.{IsGood, AreGood, AreBytes, tokens_good}

-- ---- types

type_past : {ts rest : List Token} {b : Base} → ValueType ts rest b → AreGood ts → AreGood rest
type_past (g.is_char w) h = h.1
type_past (g.is_int w) h = h.1
type_past (g.is_long w) h = h.1
type_past (g.is_long_int w v) h = h.1.1

stars_past : {ty full : Ty} {ts rest : List Token} → Stars ty ts rest full → AreGood ts → AreGood rest
stars_past g.no_star h = h
stars_past (g.star s d) h = stars_past d h.1

-- ---- expressions

mutual
  expr : {ts rest : List Token} {x : Exp} → Expr ts rest x → AreGood ts → FormedExp x × AreGood rest
  expr (g.one d) h = assign d h
  expr (g.several d m others) h = let a = assign d h in let b = assigns others a.1.1 in ((a.0, b.0), b.1)

  assigns : {ts rest : List Token} {xs : List Exp} → Assigns ts rest xs → AreGood ts → FormedExps (exps xs) × AreGood rest
  assigns (g.last d) h = let a = assign d h in ((a.0, tt), a.1)
  assigns (g.before d m others) h = let a = assign d h in let b = assigns others a.1.1 in ((a.0, b.0), b.1)

  assign : {ts rest : List Token} {x : Exp} → Assign ts rest x → AreGood ts → FormedExp x × AreGood rest
  assign (g.no_assign d) h = cond d h
  assign (g.assigns d op e) h = let a = unary d h in let b = assign e a.1.1 in ((a.0, b.0), b.1)

  cond : {ts rest : List Token} {x : Exp} → Cond ts rest x → AreGood ts → FormedExp x × AreGood rest
  cond (g.no_cond d) h = level d h
  cond (g.chooses d q e m f) h = let a = level d h in let b = expr e a.1.1 in let c = cond f b.1.1 in ((a.0, b.0, c.0), c.1)

  level : {n : ℕ} {ts rest : List Token} {x : Exp} → Level n ts rest x → AreGood ts → FormedExp x × AreGood rest
  level (g.operand d) h = cast d h
  level (g.operators d others) h = let a = level d h in tail others a.0 a.1

  tail : {n : ℕ} {a x : Exp} {ts rest : List Token} → Tail n a ts rest x → FormedExp a → AreGood ts → FormedExp x × AreGood rest
  tail g.no_more f h = (f, h)
  tail (g.more op at d others) f h = let b = level d h.1 in tail others (f, b.0) b.1

  cast : {ts rest : List Token} {x : Exp} → Cast ts rest x → AreGood ts → FormedExp x × AreGood rest
  cast (g.no_cast d) h = unary d h
  cast (g.casts o ty stars c d) h = cast d (stars_past stars (type_past ty h.1)).1

  unary : {ts rest : List Token} {x : Exp} → Unary ts rest x → AreGood ts → FormedExp x × AreGood rest
  unary (g.operand_of_postfixes d others) h = let a = primary d h in postfixes others a.0 a.1
  unary (g.steps op d) h = unary d h.1
  unary (g.prefixes op d) h = cast d h.1

  postfixes : {a x : Exp} {ts rest : List Token} → Postfixes a ts rest x → FormedExp a → AreGood ts → FormedExp x × AreGood rest
  postfixes g.no_postfix f h = (f, h)
  postfixes (g.indexed o d c others) f h = let i = expr d h.1 in postfixes others (f, i.0) i.1.1
  postfixes (g.stepped op others) f h = postfixes others f h.1

  primary : {ts rest : List Token} {x : Exp} → Primary ts rest x → AreGood ts → FormedExp x × AreGood rest
  primary (g.is_name n) h = (tt, h.1)
  primary (g.is_call n o d) h = args d h.1.1
  primary (g.is_number n) h = (subst IsGood n h.0, h.1)
  primary (g.is_character n) h = (subst IsGood n h.0, h.1)
  primary (g.is_string n) h = (tt, h.1)
  primary (g.is_null n) h = (tt, h.1)
  primary (g.is_eof n) h = (tt, h.1)
  primary (g.in_parens o d c) h = let a = expr d h.1 in (a.0, a.1.1)

  args : {ts rest : List Token} {xs : List Exp} → Args ts rest xs → AreGood ts → FormedExps (exps xs) × AreGood rest
  args (g.no_args c) h = (tt, h.1)
  args (g.some_args d c) h = let a = assigns d h in (a.0, a.1.1)

-- ---- declarations

length_past : {ts rest : List Token} {l : Length} → LengthOf ts rest l → AreGood ts → AreGood rest
length_past g.no_brackets h = h
length_past (g.no_length o c) h = h.1.1
length_past (g.a_length o n c) h = h.1.1.1

list : {ts rest : List Token} {xs : List Exp} → Elements ts rest xs → AreGood ts → (1 ≤ length xs) × FormedExps (exps xs) × AreGood rest
list (g.last_element d c) h = let a = assign d h in (omega arith, (a.0, tt), a.1.1)
list (g.last_comma d c e) h = let a = assign d h in (omega arith, (a.0, tt), a.1.1.1)
list (g.an_element d c others) h = let a = assign d h in let b = list others a.1.1 in (omega arith, (a.0, b.1), b.2)

initialiser : {ts rest : List Token} {i : Initial} → Initialiser ts rest i → AreGood ts → FormedInit i × AreGood rest
initialiser g.no_value h = (tt, h)
initialiser (g.a_value s d) h = assign d h.1
initialiser (g.a_list s o d) h = let a = list d h.1.1 in ((a.0, a.1), a.2)

declarator : {b : Base} {ts rest : List Token} {d : Decl} → Declarator b ts rest d → AreGood ts → FormedDecl d × AreGood rest
declarator (g.declares stars n l i) h = initialiser i (length_past l (stars_past stars h).1)

declarators : {b : Base} {ts rest : List Token} {ds : List Decl} → Declarators b ts rest ds → AreGood ts → FormedDecls ds × AreGood rest
declarators (g.last_declarator d c) h = let a = declarator d h in ((a.0, tt), a.1.1)
declarators (g.a_declarator d c others) h = let a = declarator d h in let b = declarators others a.1.1 in ((a.0, b.0), b.1)

declared : {ts rest : List Token} {ds : List Decl} → Local ts rest ds → AreGood ts → FormedDecls ds × AreGood rest
declared (g.declaration ty ds) h = declarators ds (type_past ty h)

-- ---- statements

up_to : {mark : Mark} {ts rest : List Token} {x : Maybe} → Until mark ts rest x → AreGood ts → FormedMaybe x × AreGood rest
up_to (g.nothing c) h = (tt, h.1)
up_to (g.something d c) h = let a = expr d h in (a.0, a.1.1)

first : {ts rest : List Token} {s : Start} → ForFirst ts rest s → AreGood ts → FormedStart s × AreGood rest
first (g.for_local d) h = declared d h
first (g.for_expr d) h = up_to d h

mutual
  stmt : {ts rest : List Token} {s : Stm} → Stmt ts rest s → AreGood ts → FormedStm s × AreGood rest
  stmt (g.is_block o d c) h = let a = statements d h.1 in (a.0, a.1.1)
  stmt (g.is_empty c) h = (tt, h.1)
  stmt (g.is_expression d c) h = let a = expr d h in (a.0, a.1.1)
  stmt (g.is_if w o d c e) h = let a = expr d h.1.1 in let b = stmt e a.1.1 in ((a.0, b.0), b.1)
  stmt (g.is_if_else w o d c e closed k f) h = let a = expr d h.1.1 in let b = stmt e a.1.1 in let n = stmt f b.1.1 in ((a.0, b.0, n.0), n.1)
  stmt (g.is_while w o d c e) h = let a = expr d h.1.1 in let b = stmt e a.1.1 in ((a.0, b.0), b.1)
  stmt (g.is_do w d v o e c s) h = let a = stmt d h.1 in let b = expr e a.1.1.1 in ((a.0, b.0), b.1.1.1)
  stmt (g.is_for w o d test next e) h =
      let a = first d h.1.1 in
      let b = up_to test a.1 in
      let n = up_to next b.1 in
      let s = stmt e n.1 in
      ((a.0, b.0, n.0, s.0), s.1)
  stmt (g.is_break w c) h = (tt, h.1.1)
  stmt (g.is_continue w c) h = (tt, h.1.1)
  stmt (g.is_return w d) h = up_to d h.1

  statements : {ts rest : List Token} {xs : List Stm} → Stmts ts rest xs → AreGood ts → FormedStms (stms xs) × AreGood rest
  statements g.no_stmt h = (tt, h)
  statements (g.a_stmt d others) h = let a = stmt d h in let b = statements others a.1 in ((a.0, b.0), b.1)
  statements (g.a_local d others) h = let a = declared d h in let b = statements others a.1 in ((a.0, b.0), b.1)

-- ---- items

param : {ts rest : List Token} {x : Par} → Param ts rest x → AreGood ts → AreGood rest
param (g.without_name ty stars l) h = length_past l (stars_past stars (type_past ty h))
param (g.with_name ty stars n l) h = length_past l (stars_past stars (type_past ty h)).1

params : {ts rest : List Token} {xs : List Par} → Params ts rest xs → AreGood ts → AreGood rest
params (g.last_param d c) h = (param d h).1
params (g.a_param d c others) h = params others (param d h).1

param_list : {ts rest : List Token} {xs : List Par} → ParamList ts rest xs → AreGood ts → AreGood rest
param_list (g.no_params c) h = h.1
param_list (g.void_params w c) h = h.1.1
param_list (g.some_params d) h = params d h

item_type : {ts rest : List Token} {b : Base} → ItemType ts rest b → AreGood ts → AreGood rest
item_type (g.is_void w) h = h.1
item_type (g.is_value d) h = type_past d h

item : {ts rest : List Token} {x : Top} → Item ts rest x → AreGood ts → FormedItem x × AreGood rest
item (g.is_prototype ty stars n o ps c) h = (tt, (param_list ps (stars_past stars (item_type ty h)).1.1).1)
item (g.is_function ty stars n o ps c d e) h =
    let name = stars_past stars (item_type ty h) in
    let a = statements d (param_list ps name.1.1).1 in
    ((subst IsGood n name.0, a.0), a.1.1)
item (g.are_variables ty ds) h = declarators ds (item_type ty h)

items : {ts rest : List Token} {xs : List Top} → Items ts rest xs → AreGood ts → FormedUnit xs
items g.no_item h = tt
items (g.an_item d others) h = let a = item d h in (a.0, items others a.1)

-- The tree of a source is well-formed.
pub source_formed : (source : List ℕ) (tokens : List Token) (unit : List Top) → AreBytes source → AreTokens source tokens → IsUnit tokens unit → FormedUnit unit
source_formed source tokens unit bytes are is = items is (tokens_good are bytes)
