-- What each tree of a source keeps, whatever it means: typing does not ask for it.
use Rattle.std.specs.Prelude.{◌≡◌, ℕ, ◌<◌, ◌≤◌, Bool, true, ℤ, List, [], ◌∷◌, length, if◌then◌else◌}
use Rattle.std.specs.List.{list_all}
use Rattle.ib_base.specs.declared.integers.Width.TheVariants.{W4, W8}
use Rattle.ib_base.specs.Integers.{wrapped}
use Rattle.c_ast.specs.Bytes.{is_letter, is_word_byte}
use Rattle.c_ast.specs.Trees as c

-- a letter or `_`, and then letters, digits and `_`
abbrev pub IsName : List ℕ → Type 0
IsName [] = ⊥
IsName (b ∷ bs) = (is_letter b ≡ true) × (list_all is_word_byte bs ≡ true)

-- an `int` or a `long` lies in its type
abbrev pub IsNumber : ℤ → (is_long : Bool) → Type 0
IsNumber z is_long = wrapped (if is_long then W8 else W4) z ≡ z

abbrev mutual
  pub FormedExp : c.Exp → Type 0
  FormedExp (c.name p x) = Unit {0}
  FormedExp (c.number p z is_long) = IsNumber z is_long
  FormedExp (c.character p n) = n < 256
  FormedExp (c.string p bytes) = Unit {0}
  FormedExp (c.null p) = Unit {0}
  FormedExp (c.eof p) = Unit {0}
  FormedExp (c.call p x xs) = FormedExps xs
  FormedExp (c.index p a i) = FormedExp a × FormedExp i
  FormedExp (c.postfix p op a) = FormedExp a
  FormedExp (c.unary p op a) = FormedExp a
  FormedExp (c.cast p ty a) = FormedExp a
  FormedExp (c.binary p op x y) = FormedExp x × FormedExp y
  FormedExp (c.conditional p x y z) = FormedExp x × FormedExp y × FormedExp z
  FormedExp (c.assign p op x y) = FormedExp x × FormedExp y
  FormedExp (c.comma p xs) = FormedExps xs

  pub FormedExps : c.Exps → Type 0
  FormedExps c.no_exp = Unit {0}
  FormedExps (c.an_exp x xs) = FormedExp x × FormedExps xs

abbrev pub FormedMaybe : c.Maybe → Type 0
FormedMaybe c.missing = Unit {0}
FormedMaybe (c.given x) = FormedExp x

-- no list of first values is empty
abbrev pub FormedInit : c.Initial → Type 0
FormedInit c.no_init = Unit {0}
FormedInit (c.value x) = FormedExp x
FormedInit (c.elements xs) = (1 ≤ length xs) × FormedExps (c.exps xs)

abbrev pub FormedDecl : c.Decl → Type 0
FormedDecl (c.declarator p ty name m init) = FormedInit init

abbrev pub FormedDecls : List c.Decl → Type 0
FormedDecls [] = Unit {0}
FormedDecls (d ∷ ds) = FormedDecl d × FormedDecls ds

abbrev pub FormedStart : c.Start → Type 0
FormedStart (c.start_expr x) = FormedMaybe x
FormedStart (c.start_local ds) = FormedDecls ds

abbrev mutual
  pub FormedStm : c.Stm → Type 0
  FormedStm (c.block p xs) = FormedStms xs
  FormedStm (c.empty p) = Unit {0}
  FormedStm (c.expression p x) = FormedExp x
  FormedStm (c.if_then p x a) = FormedExp x × FormedStm a
  FormedStm (c.if_else p x a b) = FormedExp x × FormedStm a × FormedStm b
  FormedStm (c.while_loop p x a) = FormedExp x × FormedStm a
  FormedStm (c.do_while p a x) = FormedStm a × FormedExp x
  FormedStm (c.for_loop p start x y a) = FormedStart start × FormedMaybe x × FormedMaybe y × FormedStm a
  FormedStm (c.break p) = Unit {0}
  FormedStm (c.continue p) = Unit {0}
  FormedStm (c.return p x) = FormedMaybe x
  FormedStm (c.local p ds) = FormedDecls ds

  pub FormedStms : c.Stms → Type 0
  FormedStms c.no_stm = Unit {0}
  FormedStms (c.a_stm s rest) = FormedStm s × FormedStms rest

-- a function has a name
abbrev pub FormedItem : c.Top → Type 0
FormedItem (c.prototype p ty name params) = Unit {0}
FormedItem (c.function p ty name params xs) = IsName name × FormedStms (c.stms xs)
FormedItem (c.variables ds) = FormedDecls ds

abbrev pub FormedUnit : List c.Top → Type 0
FormedUnit [] = Unit {0}
FormedUnit (item ∷ items) = FormedItem item × FormedUnit items
