-- The variables of a function, and which of them have their address taken. A variable's number is its place in the order
-- of declaration.
use Rattle.std.specs.Prelude.{ℕ, zero, suc, ◌+◌, List, [], ◌∷◌, ◌++◌, length, map, Option, Some, None}
use Rattle.c_ast.specs.declared.tree.UnaryOp.{UnaryOp}
use Rattle.c_ast.specs.declared.tree.UnaryOp.TheVariants as u
use Rattle.c_ast.specs.Trees as c
use Rattle.c_scopes.specs.Scopes.{Scopes, outermost, entered, found, declared}
use Rattle.c_layout.specs.declared.shape.Shape.{Shape}
use Rattle.c_layout.specs.declared.shape.Shape.TheVariants.{Scalar}
use Rattle.c_types_homes.specs.Declarators.{declared_name, declared_shape, init_of, param_name, param_type}

-- ---- variables

-- the variables that declarators declare, in order
abbrev pub declared_in : List c.Decl → List Shape
declared_in ds = map declared_shape ds

abbrev pub started_in : c.Start → List Shape
started_in (c.start_expr x) = []
started_in (c.start_local ds) = declared_in ds

abbrev mutual
  pub variables : c.Stm → List Shape
  variables (c.block p xs) = variables_of xs
  variables (c.empty p) = []
  variables (c.expression p x) = []
  variables (c.if_then p x a) = variables a
  variables (c.if_else p x a b) = variables a ++ variables b
  variables (c.while_loop p x a) = variables a
  variables (c.do_while p a x) = variables a
  variables (c.for_loop p start x y a) = started_in start ++ variables a
  variables (c.break p) = []
  variables (c.continue p) = []
  variables (c.return p x) = []
  variables (c.local p ds) = declared_in ds

  pub variables_of : c.Stms → List Shape
  variables_of c.no_stm = []
  variables_of (c.a_stm s rest) = variables s ++ variables_of rest

abbrev pub param_shape : c.Par → Shape
param_shape x = Scalar (param_type x)

-- the parameters, and then those of the body
abbrev pub function_variables : List c.Par → c.Stms → List Shape
function_variables params body = map param_shape params ++ variables_of body

-- ---- addresses

-- the numbers of the variables that names mean
abbrev pub Names : Type 0
Names = Scopes ℕ

abbrev pub number_in : Option ℕ → List ℕ
number_in None = []
number_in (Some number) = number ∷ []

-- the variable that `&` stands before
abbrev pub under_ampersand : Names → c.Exp → List ℕ
under_ampersand names (c.name p x) = number_in (found x names)
under_ampersand names e = []

-- the variable whose address an operator takes
abbrev pub taken_by : UnaryOp → Names → c.Exp → List ℕ
taken_by u.AddressOf names a = under_ampersand names a
taken_by op names a = []

-- the variables whose address an expression takes
abbrev mutual
  pub taken : Names → c.Exp → List ℕ
  taken names (c.name p x) = []
  taken names (c.number p n long) = []
  taken names (c.character p n) = []
  taken names (c.string p bytes) = []
  taken names (c.null p) = []
  taken names (c.eof p) = []
  taken names (c.call p x xs) = taken_of names xs
  taken names (c.index p a i) = taken names a ++ taken names i
  taken names (c.postfix p op a) = taken names a
  taken names (c.unary p op a) = taken_by op names a ++ taken names a
  taken names (c.cast p ty a) = taken names a
  taken names (c.binary p op x y) = taken names x ++ taken names y
  taken names (c.conditional p x y z) = taken names x ++ (taken names y ++ taken names z)
  taken names (c.assign p op x y) = taken names x ++ taken names y
  taken names (c.comma p xs) = taken_of names xs

  pub taken_of : Names → c.Exps → List ℕ
  taken_of names c.no_exp = []
  taken_of names (c.an_exp x xs) = taken names x ++ taken_of names xs

abbrev pub taken_maybe : Names → c.Maybe → List ℕ
taken_maybe names c.missing = []
taken_maybe names (c.given x) = taken names x

abbrev pub taken_init : Names → c.Initial → List ℕ
taken_init names c.no_init = []
taken_init names (c.value x) = taken names x
taken_init names (c.elements xs) = taken_of names (c.exps xs)

-- with variable k, which is known in its own initialiser
abbrev pub with_declarator : c.Decl → (k : ℕ) → Names → Names
with_declarator d k names = declared (declared_name d) k names

abbrev pub with_declarators : List c.Decl → (k : ℕ) → Names → Names
with_declarators [] k names = names
with_declarators (d ∷ ds) k names = with_declarators ds (suc k) (with_declarator d k names)

abbrev pub taken_local : c.Decl → (k : ℕ) → Names → List ℕ
taken_local d k names = taken_init (with_declarator d k names) (init_of d)

abbrev pub taken_locals : List c.Decl → (k : ℕ) → Names → List ℕ
taken_locals [] k names = []
taken_locals (d ∷ ds) k names = taken_local d k names ++ taken_locals ds (suc k) (with_declarator d k names)

abbrev pub taken_start : c.Start → (k : ℕ) → Names → List ℕ
taken_start (c.start_expr x) k names = taken_maybe names x
taken_start (c.start_local ds) k names = taken_locals ds k names

abbrev pub with_start : c.Start → (k : ℕ) → Names → Names
with_start (c.start_expr x) k names = names
with_start (c.start_local ds) k names = with_declarators ds k names

-- of the head of a `for`
abbrev pub taken_head : c.Start → (test next : c.Maybe) → (k : ℕ) → Names → List ℕ
taken_head start x y k names = taken_start start k names ++ (taken_maybe (with_start start k names) x ++ taken_maybe (with_start start k names) y)

-- the names behind a statement
abbrev pub with_names : c.Stm → (k : ℕ) → Names → Names
with_names (c.local p ds) k names = with_declarators ds k names
with_names s k names = names

-- the variables whose address a statement takes, where k is the number of the next variable
abbrev mutual
  pub taken_in : Names → (k : ℕ) → c.Stm → List ℕ
  taken_in names k (c.block p xs) = taken_in_all (entered names) k xs
  taken_in names k (c.empty p) = []
  taken_in names k (c.expression p x) = taken names x
  taken_in names k (c.if_then p x a) = taken names x ++ taken_in (entered names) k a
  taken_in names k (c.if_else p x a b) = taken names x ++ (taken_in (entered names) k a ++ taken_in (entered names) (k + length (variables a)) b)
  taken_in names k (c.while_loop p x a) = taken names x ++ taken_in (entered names) k a
  taken_in names k (c.do_while p a x) = taken_in (entered names) k a ++ taken names x
  taken_in names k (c.for_loop p start x y a) =
      taken_head start x y k (entered names) ++ taken_in (entered (with_start start k (entered names))) (k + length (started_in start)) a
  taken_in names k (c.break p) = []
  taken_in names k (c.continue p) = []
  taken_in names k (c.return p x) = taken_maybe names x
  taken_in names k (c.local p ds) = taken_locals ds k names

  pub taken_in_all : Names → (k : ℕ) → c.Stms → List ℕ
  taken_in_all names k c.no_stm = []
  taken_in_all names k (c.a_stm s rest) = taken_in names k s ++ taken_in_all (with_names s k names) (k + length (variables s)) rest

-- the names behind statements
abbrev pub with_names_of : c.Stms → (k : ℕ) → Names → Names
with_names_of c.no_stm k names = names
with_names_of (c.a_stm s rest) k names = with_names_of rest (k + length (variables s)) (with_names s k names)

-- a parameter without a name is a variable too
abbrev pub with_param : Option (List ℕ) → (k : ℕ) → Names → Names
with_param None k names = names
with_param (Some name) k names = declared name k names

abbrev pub with_params : List c.Par → (k : ℕ) → Names → Names
with_params [] k names = names
with_params (x ∷ xs) k names = with_params xs (suc k) (with_param (param_name x) k names)

-- The parameters and the outermost block are one scope.
abbrev pub function_taken : List c.Par → c.Stms → List ℕ
function_taken params body = taken_in_all (with_params params 0 outermost) (length params) body
