-- What operators give by the types of their operands, and which rules they break.
use Rattle.std.specs.Prelude.{ℕ, zero, suc, ◌==◌, ◌&&◌, ◌||◌, Bool, true, false, pos, List, [], ◌∷◌, length, Option, Some, None, if◌then◌else◌}
use Rattle.ib_meaning.specs.declared.place.Place.{Place}
use Rattle.c_ast.specs.declared.tree.AssignOp.{AssignOp}
use Rattle.c_ast.specs.declared.tree.AssignOp.TheVariants as w
use Rattle.c_ast.specs.declared.tree.BinaryOp.{BinaryOp}
use Rattle.c_ast.specs.declared.tree.BinaryOp.TheVariants as b
use Rattle.c_ast.specs.declared.tree.PostfixOp.{PostfixOp}
use Rattle.c_ast.specs.declared.tree.PostfixOp.TheVariants as f
use Rattle.c_ast.specs.declared.tree.UnaryOp.{UnaryOp}
use Rattle.c_ast.specs.declared.tree.UnaryOp.TheVariants as u
use Rattle.c_ast.specs.Trees as c
use Rattle.c_typed.specs.declared.types.ValueType.{ValueType}
use Rattle.c_typed.specs.declared.expr.Storage.{Storage}
use Rattle.c_typed.specs.declared.expr.Reach.{Reach}
use Rattle.c_typed.specs.declared.expr.Reach.TheVariants.{Inside, ToEnd}
use Rattle.c_typed.specs.declared.operation.Sign.{Sign}
use Rattle.c_typed.specs.declared.operation.Sign.TheVariants as s
use Rattle.c_typed.specs.declared.operation.Operation.TheVariants as o
use Rattle.c_typed.specs.Tree as t
use Rattle.c_typed.specs.Tree.{Exp, Exps}
use Rattle.c_typed.specs.ExprTypes.{type_of}
use Rattle.c_typed.specs.ValueTypes.{int, is_void, pointer_to, pointee, size_of, is_integer, is_pointer, leads, same_type, promoted_rank, ranked}
use Rattle.c_typed.specs.declared.choice.Operand.{Operand}
use Rattle.c_typed.specs.declared.choice.Choice.{Choice}
use Rattle.c_typed.specs.Choices.{chosen, branches, fits}
use Rattle.c_typed.specs.declared.rule.Rule.TheVariants.{UnknownName, NotAPlace, NotACondition, WrongOperands, NotAssignable, NotAFunction, ArgumentCount}
use Rattle.c_types_operators.specs.Rules.{Judged, Fine, breaks, ◌>>=◌, or_breaks}
use Rattle.c_types_operators.specs.Parts.{misplaced}
use Rattle.c_layout.specs.declared.shape.Shape.{Shape}
use Rattle.c_layout.specs.declared.shape.Shape.TheVariants.{Scalar, Array}
use Rattle.c_types_operators.specs.declared.scope.Lives.{Lives}
use Rattle.c_types_operators.specs.declared.scope.Lives.TheVariants.{InSlot, InMemory}
use Rattle.c_types_operators.specs.declared.scope.Callee.{Callee}
use Rattle.c_types_operators.specs.declared.scope.Callee.TheVariants.{Body, PutChar, PutInt}
use Rattle.c_types_operators.specs.Scopes.{Function, Meant, variable, function}

-- the place of an expression's anchor
abbrev pub anchor : c.Exp → Place
anchor (c.name p x) = p
anchor (c.number p v l) = p
anchor (c.character p v) = p
anchor (c.string p v) = p
anchor (c.null p) = p
anchor (c.eof p) = p
anchor (c.call p x xs) = p
anchor (c.index p a i) = p
anchor (c.postfix p op a) = p
anchor (c.unary p op a) = p
anchor (c.cast p ty a) = p
anchor (c.binary p op x y) = p
anchor (c.conditional p x y z) = p
anchor (c.assign p op x y) = p
anchor (c.comma p xs) = p

-- `NULL`, or a number of value 0
abbrev pub is_null : c.Exp → Bool
is_null (c.null p) = true
is_null (c.number p (pos zero) l) = true
is_null x = false

abbrev pub operand : c.Exp → Exp → Operand
operand e x = record { ty = type_of x; is_null = is_null e }

-- a conversion is a node of its own, where the type changes
abbrev pub converted : ValueType → Exp → Exp
converted to x = if same_type (type_of x) to then x else t.convert to x

-- What an expression is: a value, a variable or other place, or an array.
pub data Designated : Type 0 where
  a_value : Exp → Designated
  a_slot : ValueType → ℕ → Designated
  -- what lies at an address
  a_cell : ValueType → (address : Exp) → Designated
  -- an element of a declared array
  an_element : ValueType → Storage → (length : ℕ) → (index : Exp) → Designated
  an_array : ValueType → Storage → (length : ℕ) → Designated

abbrev pub element_at : Reach → ValueType → Storage → ℕ → Exp → Exp
element_at reach ty at length i = t.element (pointer_to ty) at length (size_of ty) reach i

-- its value: what the place holds, and the address of an array's first element
abbrev pub value_of : Designated → Exp
value_of (a_value x) = x
value_of (a_slot ty n) = t.slot ty n
value_of (a_cell ty at) = t.load ty at
value_of (an_element ty at n i) = t.load ty (element_at Inside ty at n i)
value_of (an_array ty at n) = t.address (pointer_to ty) at

-- where a value can be stored
pub data Target : Type 0 where
  slot : ValueType → ℕ → Target
  cell : ValueType → (address : Exp) → Target

abbrev pub target_of : Place → Designated → Judged Target
target_of p (a_slot ty n) = Fine (slot ty n)
target_of p (a_cell ty at) = Fine (cell ty at)
target_of p (an_element ty at n i) = Fine (cell ty (element_at Inside ty at n i))
target_of p (a_value x) = breaks NotAPlace p
target_of p (an_array ty at n) = breaks NotAPlace p

-- Under `&` an element may be the one behind the last. A variable in a slot never stands there, since its address is not taken.
abbrev pub address_of : Place → Designated → Judged Exp
address_of p (a_cell ty at) = Fine at
address_of p (an_element ty at n i) = Fine (element_at ToEnd ty at n i)
address_of p (a_slot ty n) = breaks NotAPlace p
address_of p (a_value x) = breaks NotAPlace p
address_of p (an_array ty at n) = breaks NotAPlace p

abbrev pub target_type : Target → ValueType
target_type (slot ty n) = ty
target_type (cell ty a) = ty

abbrev pub assigned : Target → Exp → Exp
assigned (slot ty n) x = t.set_slot ty n x
assigned (cell ty a) x = t.store ty a x

abbrev pub updated : Target → Choice → Exp → Exp
updated (slot ty n) choice x = t.update_slot ty n choice.left choice.op x
updated (cell ty a) choice x = t.update ty a choice.left choice.op x

abbrev pub stepped : Target → Choice → Exp
stepped (slot ty n) choice = t.step_slot ty n choice.left choice.op
stepped (cell ty a) choice = t.step ty a choice.left choice.op

abbrev pub used_variable : Shape → Lives → Designated
used_variable (Scalar ty) (InSlot n) = a_slot ty n
used_variable (Scalar ty) (InMemory at) = a_cell ty (t.address (pointer_to ty) at)
used_variable (Array ty n) (InMemory at) = an_array ty at n
used_variable (Array ty n) (InSlot k) = a_slot ty k

-- a name that is used, but not called
abbrev pub used_as : Place → Meant → Judged Designated
used_as p (variable v) = Fine (used_variable v.shape v.lives)
used_as p (function f) = breaks NotAFunction p

abbrev pub used : Place → Option Meant → Judged Designated
used p None = breaks UnknownName p
used p (Some meant) = used_as p meant

-- a condition, or an operand of `!`, `&&` or `||`
abbrev pub tested : c.Exp → Exp → Judged Exp
tested e x = if is_integer (type_of x) || is_pointer (type_of x) then Fine x else breaks NotACondition (anchor e)

-- a value that is assigned, initialises, is passed or returned
abbrev pub stored_as : ValueType → c.Exp → Exp → Judged Exp
stored_as target e x = if fits target (operand e x) then Fine (converted target x) else breaks NotAssignable (anchor e)

abbrev pub integer_operand : Place → Exp → Judged Exp
integer_operand p x = if is_integer (type_of x) then Fine x else breaks WrongOperands p

abbrev pub applied : Choice → Exp → Exp → Exp
applied choice x y = t.binary choice.result choice.op (converted choice.left x) (converted choice.right y)

abbrev pub applied_value : Exp → Exp → Choice → Judged Designated
applied_value x y choice = Fine (a_value (applied choice x y))

abbrev pub binary_value : Place → BinaryOp → c.Exp → c.Exp → Exp → Exp → Judged Designated
binary_value p op d e x y = or_breaks WrongOperands p (chosen op (operand d x) (operand e y)) >>= applied_value x y

abbrev pub branch : ValueType → Exp → Exp → Exp → Exp
branch ty x y z = t.conditional ty x (converted ty y) (converted ty z)

abbrev pub branch_value : Exp → Exp × Exp → ValueType → Judged Designated
branch_value x yz ty = Fine (a_value (branch ty x yz.0 yz.1))

abbrev pub conditional_value : Place → c.Exp → c.Exp → Exp → Exp × Exp → Judged Designated
conditional_value p d e x yz = or_breaks WrongOperands p (branches (operand d yz.0) (operand e yz.1)) >>= branch_value x yz

abbrev pub signed : Sign → Exp → Exp
signed op x = t.unary op (promoted_rank (type_of x)) (converted (ranked (promoted_rank (type_of x))) x)

abbrev pub a_signed : Sign → Exp → Judged Designated
a_signed op x = Fine (a_value (signed op x))

abbrev pub signed_value : Place → Sign → Exp → Judged Designated
signed_value p op x = integer_operand p x >>= a_signed op

abbrev pub promoted : Exp → Judged Designated
promoted x = Fine (a_value (converted (ranked (promoted_rank (type_of x))) x))

-- `*`, `+`, `-` and `~`
abbrev pub unary_value : Place → UnaryOp → Exp → Judged Designated
unary_value p u.Dereference x = if leads (type_of x) then Fine (a_cell (pointee (type_of x)) x) else breaks WrongOperands p
unary_value p u.Plus x = integer_operand p x >>= promoted
unary_value p u.Minus x = signed_value p s.Minus x
unary_value p u.BitNot x = signed_value p s.BitNot x
unary_value p op x = breaks WrongOperands p

-- `&&` and `||`
abbrev pub is_logical : BinaryOp → Bool
is_logical b.And = true
is_logical b.Or = true
is_logical op = false

abbrev pub logical_value : BinaryOp → Exp → Exp → Judged Designated
logical_value b.And x y = Fine (a_value (t.both x y))
logical_value op x y = Fine (a_value (t.either x y))

abbrev pub one : Exp
one = t.constant int (pos 1)

abbrev pub plain_operand : ValueType → Operand
plain_operand ty = record { ty = ty; is_null = false }

-- `++` and `--` add and subtract 1
abbrev pub counted : BinaryOp → Target → Option Choice
counted op target = chosen op (plain_operand (target_type target)) (plain_operand int)

abbrev pub counted_before : Target → Choice → Judged Designated
counted_before target choice = Fine (a_value (updated target choice (converted choice.right one)))

abbrev pub counted_behind : Target → Choice → Judged Designated
counted_behind target choice = Fine (a_value (stepped target choice))

abbrev pub prefix_value : Place → BinaryOp → Target → Judged Designated
prefix_value p op target = or_breaks WrongOperands p (counted op target) >>= counted_before target

abbrev pub postfix_value : Place → BinaryOp → Target → Judged Designated
postfix_value p op target = or_breaks WrongOperands p (counted op target) >>= counted_behind target

abbrev pub step_of : PostfixOp → BinaryOp
step_of f.Increment = b.Add
step_of f.Decrement = b.Sub

-- the operator of a compound assignment
abbrev pub within : AssignOp → Option BinaryOp
within w.Set = None
within w.Add = Some b.Add
within w.Sub = Some b.Sub
within w.Mul = Some b.Mul
within w.Div = Some b.Div
within w.Rem = Some b.Rem
within w.ShiftLeft = Some b.ShiftLeft
within w.ShiftRight = Some b.ShiftRight
within w.BitAnd = Some b.BitAnd
within w.BitXor = Some b.BitXor
within w.BitOr = Some b.BitOr

-- the result can be stored where the old value was
abbrev pub restored : c.Exp → Target → Exp → Choice → Judged Designated
restored e target x choice =
    if fits (target_type target) (plain_operand choice.result)
    then Fine (a_value (updated target choice (converted choice.right x)))
    else breaks NotAssignable (anchor e)

abbrev pub assigned_value : Target → Exp → Judged Designated
assigned_value target x = Fine (a_value (assigned target x))

abbrev pub assignment : Place → Option BinaryOp → c.Exp → Target → Exp → Judged Designated
assignment p None e target x = stored_as (target_type target) e x >>= assigned_value target
assignment p (Some op) e target x = or_breaks WrongOperands p (chosen op (plain_operand (target_type target)) (operand e x)) >>= restored e target x

abbrev pub indexed_pointer : Place → (index : Exp) → Exp → Judged Designated
indexed_pointer p i x =
    if leads (type_of x) && is_integer (type_of i)
    then Fine (a_cell (pointee (type_of x)) (t.binary (type_of x) (o.Advance (size_of (pointee (type_of x)))) x i))
    else breaks WrongOperands p

abbrev pub an_element_at : ValueType → Storage → ℕ → Exp → Judged Designated
an_element_at ty at n i = Fine (an_element ty at n i)

abbrev pub element_of : Place → ValueType → Storage → ℕ → Exp → Judged Designated
element_of p ty at n i = integer_operand p i >>= an_element_at ty at n

abbrev pub index_value : Place → Designated → Exp → Judged Designated
index_value p (an_array ty at n) i = element_of p ty at n i
index_value p (a_value x) i = indexed_pointer p i x
index_value p (a_slot ty k) i = indexed_pointer p i (value_of (a_slot ty k))
index_value p (a_cell ty at) i = indexed_pointer p i (value_of (a_cell ty at))
index_value p (an_element ty at n k) i = indexed_pointer p i (value_of (an_element ty at n k))

abbrev pub cast_value : Place → ValueType → Exp → Judged Designated
cast_value p to x = if is_integer to && is_integer (type_of x) then Fine (a_value (converted to x)) else breaks WrongOperands p

abbrev pub argument_number : c.Exps → ℕ
argument_number c.no_exp = 0
argument_number (c.an_exp x xs) = suc (argument_number xs)

-- a function, called with so many arguments
abbrev pub called_as : Place → ℕ → Meant → Judged Function
called_as p n (variable v) = breaks NotAFunction p
called_as p n (function f) =
    if length f.signature.params == n then Fine f else breaks ArgumentCount p

abbrev pub called : Place → ℕ → Option Meant → Judged Function
called p n None = breaks UnknownName p
called p n (Some meant) = called_as p n meant

-- the types of the arguments that it takes
abbrev pub taken_by : Meant → List ValueType
taken_by (variable v) = []
taken_by (function f) = f.signature.params

abbrev pub wanted : Option Meant → List ValueType
wanted None = []
wanted (Some meant) = taken_by meant

abbrev pub is_function_without_value : Meant → Bool
is_function_without_value (variable v) = false
is_function_without_value (function f) = is_void f.signature.result

-- a call of it gives nothing
abbrev pub gives_nothing : Option Meant → Bool
gives_nothing None = false
gives_nothing (Some meant) = is_function_without_value meant

abbrev pub built_in_call : Callee → Exps → Exp
built_in_call PutChar (t.an_exp x xs) = t.put_byte x
built_in_call PutInt (t.an_exp x xs) = t.put_number x
built_in_call callee xs = t.get_byte

abbrev pub call_of : Function → Exps → Exp
call_of f xs = call_by f.signature.result f.callee xs where
  call_by : ValueType → Callee → Exps → Exp
  call_by result (Body n) xs = t.call result n xs
  call_by result callee xs = built_in_call callee xs

abbrev pub last_of : Exp → Exps → Exp
last_of x t.no_exp = x
last_of x (t.an_exp y ys) = last_of y ys

abbrev pub before_last : Exp → Exps → Exps
before_last x t.no_exp = t.no_exp
before_last x (t.an_exp y ys) = t.an_exp x (before_last y ys)

abbrev pub comma_of : Place → Exps → Judged Exp
comma_of p t.no_exp = breaks WrongOperands p
comma_of p (t.an_exp x xs) = Fine (t.comma (before_last x xs) (last_of x xs))

abbrev pub value_in : Designated → Judged Exp
value_in d = Fine (value_of d)

-- its value
abbrev pub valued : Judged Designated → Judged Exp
valued j = j >>= value_in

-- where it can be stored
abbrev pub placed : c.Exp → Judged Designated → Judged Target
placed e j = j >>= target_of (anchor e)

abbrev pub tested_of : c.Exp → Judged Exp → Judged Exp
tested_of e j = j >>= tested e

abbrev pub condition : c.Exp → Judged Designated → Judged Exp
condition e j = tested_of e (valued j)

-- an argument's value, for the first of these parameters, where there is one
abbrev pub given_to : List ValueType → c.Exp → Judged Exp → Judged Exp
given_to [] e j = j
given_to (ty ∷ more) e j = j >>= stored_as ty e

-- an argument, for the first of these parameters
abbrev pub passed : List ValueType → c.Exp → Judged Designated → Judged Exp
passed wanted e j = given_to wanted e (valued j)

abbrev pub rest_of : List ValueType → List ValueType
rest_of [] = []
rest_of (ty ∷ more) = more

abbrev pub as_value : Exp → Judged Designated
as_value x = Fine (a_value x)

abbrev pub value_as : Judged Exp → Judged Designated
value_as j = j >>= as_value

abbrev pub cast_of : Place → ValueType → Judged Exp → Judged Designated
cast_of p to j = j >>= cast_value p to

-- the last part's value, where all parts have one
abbrev pub comma_value : Place → Judged Exps → Judged Exp
comma_value p j = j >>= comma_of p

abbrev pub prefix_of : Place → BinaryOp → c.Exp → Judged Designated → Judged Designated
prefix_of p op a j = placed a j >>= prefix_value p op

abbrev pub postfix_of : Place → PostfixOp → c.Exp → Judged Designated → Judged Designated
postfix_of p op a j = placed a j >>= postfix_value p (step_of op)

abbrev pub negated : Exp → Judged Designated
negated x = Fine (a_value (t.not x))

abbrev pub not_of : c.Exp → Judged Designated → Judged Designated
not_of a j = condition a j >>= negated

-- what an operator gives that works on a value
abbrev pub of_value : Place → UnaryOp → Judged Designated → Judged Designated
of_value p op j = valued j >>= unary_value p op

-- what an operator before its operand gives
abbrev pub unary_of : Place → UnaryOp → c.Exp → Judged Designated → Judged Designated
unary_of p u.Increment a j = prefix_of p b.Add a j
unary_of p u.Decrement a j = prefix_of p b.Sub a j
unary_of p u.AddressOf a j = value_as (j >>= address_of (anchor a))
unary_of p u.Not a j = not_of a j
unary_of p op a j = of_value p op j

abbrev pub called_with : Function → Exps → Judged Exp
called_with f xs = Fine (call_of f xs)

abbrev pub listed : Exp → Exps → Judged Exps
listed x xs = Fine (t.an_exp x xs)

-- with one more at the end
abbrev pub and_then : Exps → Exp → Exps
and_then t.no_exp y = t.an_exp y t.no_exp
and_then (t.an_exp x xs) y = t.an_exp x (and_then xs y)

abbrev pub appended : Exps → Exp → Judged Exps
appended xs y = Fine (and_then xs y)

-- A call that gives nothing breaks a rule where a value is wanted, whatever its arguments break.
abbrev pub called_value : Place → Option Meant → Judged Exp → Judged Designated
called_value p meant j = if gives_nothing meant then misplaced WrongOperands p j else value_as j
