-- What an expression means has at most four nodes for each of its own.
use Rattle.std.proofs.Common.{◌≡◌, ℕ, suc, ◌+◌, ◌*◌, ◌≤◌, ◌<◌, ◌&&◌, ◌||◌, List, [], ◌∷◌, ◌++◌, arith, le_refl, Option, Some, None}
use Rattle.ib_meaning.specs.declared.place.Place.{Place}
use Rattle.c_ast.specs.declared.tree.BinaryOp.{BinaryOp}
use Rattle.c_ast.specs.declared.tree.BinaryOp.TheVariants as b
use Rattle.c_ast.specs.declared.tree.PostfixOp.{PostfixOp}
use Rattle.c_ast.specs.declared.tree.UnaryOp.{UnaryOp}
use Rattle.c_ast.specs.declared.tree.UnaryOp.TheVariants as u
use Rattle.c_ast.specs.Trees as c
use Rattle.c_typed.specs.declared.types.ValueType.{ValueType}
use Rattle.c_typed.specs.declared.operation.Sign.{Sign}
use Rattle.c_typed.specs.declared.operation.Sign.TheVariants as s
use Rattle.c_typed.specs.declared.rule.Rule.TheVariants.{WrongOperands}
use Rattle.c_typed.specs.declared.choice.Choice.{Choice}
use Rattle.c_typed.specs.Choices.{chosen, branches, fits}
use Rattle.c_typed.specs.ExprTypes.{type_of}
use Rattle.c_typed.specs.Tree as t
use Rattle.c_typed.specs.Tree.{Exp, Exps}
use Rattle.c_typed.specs.ValueTypes.{is_integer, is_pointer, leads, same_type, promoted_rank, ranked, written}
use Rattle.c_layout.specs.declared.shape.Shape.{Shape}
use Rattle.c_layout.specs.declared.shape.Shape.TheVariants.{Scalar, Array}
use Rattle.c_layout.specs.Layout.{Texts}
use Rattle.c_program.specs.Nodes.{nodes, nodes_of}
use Rattle.c_types_operators.specs.declared.scope.Lives.{Lives}
use Rattle.c_types_operators.specs.declared.scope.Lives.TheVariants.{InSlot, InMemory}
use Rattle.c_types_operators.specs.declared.scope.Callee.{Callee}
use Rattle.c_types_operators.specs.declared.scope.Callee.TheVariants.{Body, GetChar, PutChar, PutInt}
use Rattle.c_types_operators.specs.Rules.{Judged, Fine, ◌>>=◌, both, pair, or_breaks}
use Rattle.c_types_operators.specs.Scopes.{Scope, Signature, Meant, variable, function, found}
use Rattle.c_types_operators.specs.Operators.{Designated, a_value, a_slot, a_cell, an_element, an_array, value_of, Target, slot, cell, target_of, address_of, target_type, assigned, updated, stepped, used_variable, used, operand, plain_operand, converted, tested, stored_as, integer_operand, applied_value, binary_value, branch_value, conditional_value, a_signed, signed_value, promoted, unary_value, logical_value, is_logical, one, counted, counted_before, counted_behind, prefix_value, postfix_value, step_of, within, restored, assigned_value, assignment, indexed_pointer, an_element_at, index_value, cast_value, called, wanted, gives_nothing, call_of, last_of, before_last, comma_of, value_in, valued, placed, condition, passed, rest_of, as_value, value_as, cast_of, comma_value, prefix_of, postfix_of, negated, of_value, unary_of, called_value, called_with, listed, anchor, argument_number}
use Rattle.c_types_expressions.specs.Expressions.{literals, designated, arguments, value, tested_value, stored_value, call_in, effect_of, effects, effect}
use Rattle.c_kept.specs.Weights.{weight, weights}
use Rattle.c_types_kept.proofs.Judgements.{by_test, Yields, Gives, fine, broken, after, of_both, if_there}

-- fewer nodes than four for each of so many
abbrev pub Light : ℕ → Exp → Type 0
Light m x = weight x < 4 * m

-- with a conversion
abbrev pub Stored : ℕ → Exp → Type 0
Stored m x = weight x ≤ 4 * m

abbrev IsLight : ℕ → Designated → Type 0
IsLight m d = weight (value_of d) < 4 * m

abbrev LightTarget : ℕ → Target → Type 0
LightTarget m (slot ty k) = 1 ≤ m
LightTarget m (cell ty a) = suc (weight a) < 4 * m

converted_light : (ty : ValueType) (x : Exp) → weight (converted ty x) ≤ suc (weight x)
converted_light ty x = by_test (λ y. weight y ≤ suc (weight x)) (same_type (type_of x) ty) x (t.convert ty x) (λ e. omega arith) (λ e. le_refl (suc (weight x)))

target_light : (q : Place) (m : ℕ) (d : Designated) → IsLight m d → Gives (LightTarget m) (target_of q d)
target_light q m (a_value x) h = broken
target_light q m (a_slot ty k) h = fine (omega (arith, h))
target_light q m (a_cell ty at) h = fine h
target_light q m (an_element ty at n i) h = fine h
target_light q m (an_array ty at n) h = broken

address_light : (q : Place) (m : ℕ) (d : Designated) → IsLight m d → Gives (Light (suc m)) (address_of q d)
address_light q m (a_value x) h = broken
address_light q m (a_slot ty k) h = broken
address_light q m (a_cell ty at) h = fine (omega (arith, h))
address_light q m (an_element ty at n i) h = fine (omega (arith, h))
address_light q m (an_array ty at n) h = broken

variable_light : (shape : Shape) (lives : Lives) → IsLight 1 (used_variable shape lives)
variable_light (Scalar ty) (InSlot k) = omega arith
variable_light (Scalar ty) (InMemory at) = omega arith
variable_light (Array ty n) (InMemory at) = omega arith
variable_light (Array ty n) (InSlot k) = omega arith

used_light : (q : Place) (meant : Option Meant) → Gives (IsLight 1) (used q meant)
used_light q None = broken
used_light q (Some (variable v)) = fine (variable_light v.shape v.lives)
used_light q (Some (function f)) = broken

any_choice : (o : Option Choice) → Yields (λ choice. Unit {0}) o
any_choice o = record { by = λ choice e. tt }

module _ (m : ℕ) where
  valued_light : (j : Judged Designated) → Gives (IsLight m) j → Gives (Light m) (valued j)
  valued_light j h = after j value_in h (λ d k. fine k)

  value_as_light : (j : Judged Exp) → Gives (Light m) j → Gives (IsLight m) (value_as j)
  value_as_light j h = after j as_value h (λ x k. fine k)

  placed_light : (e : c.Exp) (j : Judged Designated) → Gives (IsLight m) j → Gives (LightTarget m) (placed e j)
  placed_light e j h = after j (target_of (anchor e)) h (target_light (anchor e) m)

  condition_light : (e : c.Exp) (j : Judged Designated) → Gives (IsLight m) j → Gives (Light m) (condition e j)
  condition_light e j h = after (valued j) (tested e) (valued_light j h) (λ x k. by_test (Gives (Light m)) (is_integer (type_of x) || is_pointer (type_of x)) _ _ (λ _. fine k) (λ _. broken))

  pub stored_light : (ty : ValueType) (e : c.Exp) (x : Exp) → Light m x → Gives (Stored m) (stored_as ty e x)
  stored_light ty e x h = by_test (Gives (Stored m)) (fits ty (operand e x)) _ _ (λ _. let l = converted_light ty x in fine (omega (arith, l, h))) (λ _. broken)

  integer_light : (q : Place) (x : Exp) → Light m x → Gives (Light m) (integer_operand q x)
  integer_light q x h = by_test (Gives (Light m)) (is_integer (type_of x)) _ _ (λ _. fine h) (λ _. broken)

  signed_light : (q : Place) (op : Sign) (x : Exp) → Light m x → Gives (IsLight (suc m)) (signed_value q op x)
  signed_light q op x h = after (integer_operand q x) (a_signed op) (integer_light q x h) (λ y k. let l = converted_light (ranked (promoted_rank (type_of y))) y in fine (omega (arith, l, k)))

  unary_light : (q : Place) (op : UnaryOp) (x : Exp) → Light m x → Gives (IsLight (suc m)) (unary_value q op x)
  unary_light q u.Dereference x h = by_test (Gives (IsLight (suc m))) (leads (type_of x)) _ _ (λ e. fine (omega (arith, h))) (λ _. broken)
  unary_light q u.Plus x h = after (integer_operand q x) promoted (integer_light q x h) (λ y k. let l = converted_light (ranked (promoted_rank (type_of y))) y in fine (omega (arith, l, k)))
  unary_light q u.Minus x h = signed_light q s.Minus x h
  unary_light q u.BitNot x h = signed_light q s.BitNot x h
  unary_light q u.Increment x h = broken
  unary_light q u.Decrement x h = broken
  unary_light q u.AddressOf x h = broken
  unary_light q u.Not x h = broken

  of_value_light : (q : Place) (op : UnaryOp) (j : Judged Designated) → Gives (IsLight m) j → Gives (IsLight (suc m)) (of_value q op j)
  of_value_light q op j h = after (valued j) (unary_value q op) (valued_light j h) (unary_light q op)

  counted_light : (target : Target) (choice : Choice) → LightTarget m target → IsLight (suc m) (a_value (updated target choice (converted choice.right one)))
  counted_light (slot ty k) choice h = let l = converted_light choice.right one in omega (arith, l, h)
  counted_light (cell ty a) choice h = let l = converted_light choice.right one in omega (arith, l, h)

  stepped_light : (target : Target) (choice : Choice) → LightTarget m target → IsLight (suc m) (a_value (stepped target choice))
  stepped_light (slot ty k) choice h = omega (arith, h)
  stepped_light (cell ty a) choice h = omega (arith, h)

  prefix_light : (q : Place) (op : BinaryOp) (a : c.Exp) (j : Judged Designated) → Gives (IsLight m) j → Gives (IsLight (suc m)) (prefix_of q op a j)
  prefix_light q op a j h = after (placed a j) (prefix_value q op) (placed_light a j h) (λ target k.
      after (or_breaks WrongOperands q (counted op target)) (counted_before target) (if_there WrongOperands q (counted op target) (any_choice (counted op target))) (λ choice f. fine (counted_light target choice k)))

  postfix_light : (q : Place) (op : PostfixOp) (a : c.Exp) (j : Judged Designated) → Gives (IsLight m) j → Gives (IsLight (suc m)) (postfix_of q op a j)
  postfix_light q op a j h = after (placed a j) (postfix_value q (step_of op)) (placed_light a j h) (λ target k.
      after (or_breaks WrongOperands q (counted (step_of op) target)) (counted_behind target) (if_there WrongOperands q (counted (step_of op) target) (any_choice (counted (step_of op) target))) (λ choice f. fine (stepped_light target choice k)))

  not_light : (q : Place) (a : c.Exp) (j : Judged Designated) → Gives (IsLight m) j → Gives (IsLight (suc m)) (unary_of q u.Not a j)
  not_light q a j h = after (condition a j) negated (condition_light a j h) (λ x k. fine (omega (arith, k)))

  taken_light : (q : Place) (a : c.Exp) (j : Judged Designated) → Gives (IsLight m) j → Gives (IsLight (suc m)) (unary_of q u.AddressOf a j)
  taken_light q a j h = after (j >>= address_of (anchor a)) as_value (after j (address_of (anchor a)) h (address_light (anchor a) m)) (λ x k. fine k)

  unary_of_light : (q : Place) (op : UnaryOp) (a : c.Exp) (j : Judged Designated) → Gives (IsLight m) j → Gives (IsLight (suc m)) (unary_of q op a j)
  unary_of_light q u.Increment a j h = prefix_light q b.Add a j h
  unary_of_light q u.Decrement a j h = prefix_light q b.Sub a j h
  unary_of_light q u.AddressOf a j h = taken_light q a j h
  unary_of_light q u.Not a j h = not_light q a j h
  unary_of_light q u.Dereference a j h = of_value_light q u.Dereference j h
  unary_of_light q u.Plus a j h = of_value_light q u.Plus j h
  unary_of_light q u.Minus a j h = of_value_light q u.Minus j h
  unary_of_light q u.BitNot a j h = of_value_light q u.BitNot j h

  cast_light : (q : Place) (ty : ValueType) (j : Judged Exp) → Gives (Light m) j → Gives (IsLight (suc m)) (cast_of q ty j)
  cast_light q ty j h = after j (cast_value q ty) h (λ x k. by_test (Gives (IsLight (suc m))) (is_integer ty && is_integer (type_of x)) _ _ (λ e. let l = converted_light ty x in fine (omega (arith, l, k))) (λ _. broken))

  passed_light : (types : List ValueType) (e : c.Exp) (j : Judged Designated) → Gives (IsLight m) j → Gives (Stored m) (passed types e j)
  passed_light [] e j h = let k = valued_light j h in record { by = λ x is. let l = k.by x is in omega (arith, l) }
  passed_light (ty ∷ more) e j h = after (valued j) (stored_as ty e) (valued_light j h) (λ x k. stored_light ty e x k)

-- ---- operators of two operands

module _ (m n : ℕ) where
  applied_light : (choice : Choice) (x y : Exp) → Light m x → Light n y → IsLight (suc (m + n)) (a_value (t.binary choice.result choice.op (converted choice.left x) (converted choice.right y)))
  applied_light choice x y g h = let k = converted_light choice.left x in let l = converted_light choice.right y in omega (arith, g, h, k, l)

  binary_light : (q : Place) (op : BinaryOp) (d e : c.Exp) (x y : Exp) → Light m x → Light n y → Gives (IsLight (suc (m + n))) (binary_value q op d e x y)
  binary_light q op d e x y g h =
      after (or_breaks WrongOperands q (chosen op (operand d x) (operand e y))) (applied_value x y) (if_there WrongOperands q (chosen op (operand d x) (operand e y)) (any_choice (chosen op (operand d x) (operand e y)))) (λ choice f.
      fine (applied_light choice x y g h))

  logical_light : (op : BinaryOp) (x y : Exp) → Light m x → Light n y → Gives (IsLight (suc (m + n))) (logical_value op x y)
  logical_light b.And x y g h = fine (omega (arith, g, h))
  logical_light op x y g h = fine (omega (arith, g, h))

  assigned_light : (target : Target) (x : Exp) → LightTarget m target → Stored n x → IsLight (suc (m + n)) (a_value (assigned target x))
  assigned_light (slot ty k) x g h = omega (arith, g, h)
  assigned_light (cell ty a) x g h = omega (arith, g, h)

  updated_light : (target : Target) (choice : Choice) (x : Exp) → LightTarget m target → Light n x → IsLight (suc (m + n)) (a_value (updated target choice (converted choice.right x)))
  updated_light (slot ty k) choice x g h = let l = converted_light choice.right x in omega (arith, g, h, l)
  updated_light (cell ty a) choice x g h = let l = converted_light choice.right x in omega (arith, g, h, l)

  assignment_light : (q : Place) (op : Option BinaryOp) (e : c.Exp) (target : Target) (x : Exp) → LightTarget m target → Light n x → Gives (IsLight (suc (m + n))) (assignment q op e target x)
  assignment_light q None e target x g h = after (stored_as (target_type target) e x) (assigned_value target) (stored_light n (target_type target) e x h) (λ y k. fine (assigned_light target y g k))
  assignment_light q (Some op) e target x g h =
      after (or_breaks WrongOperands q (chosen op (plain_operand (target_type target)) (operand e x))) (restored e target x)
      (if_there WrongOperands q (chosen op (plain_operand (target_type target)) (operand e x)) (any_choice (chosen op (plain_operand (target_type target)) (operand e x)))) (λ choice f.
      by_test (Gives (IsLight (suc (m + n)))) (fits (target_type target) (plain_operand choice.result)) _ _ (λ _. fine (updated_light target choice x g h)) (λ _. broken))

  pointer_light : (q : Place) (i x : Exp) → Light n i → Light m x → Gives (IsLight (suc (m + n))) (indexed_pointer q i x)
  pointer_light q i x g h = by_test (Gives (IsLight (suc (m + n)))) (leads (type_of x) && is_integer (type_of i)) _ _ (λ e. fine (omega (arith, g, h))) (λ _. broken)

  index_light : (q : Place) (d : Designated) (i : Exp) → IsLight m d → Light n i → Gives (IsLight (suc (m + n))) (index_value q d i)
  index_light q (an_array ty at k) i g h = after (integer_operand q i) (an_element_at ty at k) (integer_light n q i h) (λ y l. fine (omega (arith, l)))
  index_light q (a_value x) i g h = pointer_light q i x h g
  index_light q (a_slot ty k) i g h = pointer_light q i (value_of (a_slot ty k)) h g
  index_light q (a_cell ty at) i g h = pointer_light q i (value_of (a_cell ty at)) h g
  index_light q (an_element ty at k j) i g h = pointer_light q i (value_of (an_element ty at k j)) h g

any_type : (o : Option ValueType) → Yields (λ ty. Unit {0}) o
any_type o = record { by = λ ty e. tt }

branch_light : (k m n : ℕ) (ty : ValueType) (x y z : Exp) → Light k x → Light m y → Light n z → IsLight (suc (k + (m + n))) (a_value (t.conditional ty x (converted ty y) (converted ty z)))
branch_light k m n ty x y z f g h = let a = converted_light ty y in let d = converted_light ty z in omega (arith, f, g, h, a, d)

conditional_light : (k m n : ℕ) (q : Place) (d e : c.Exp) (x : Exp) (yz : Exp × Exp) → Light k x → Light m yz.0 → Light n yz.1 → Gives (IsLight (suc (k + (m + n)))) (conditional_value q d e x yz)
conditional_light k m n q d e x yz f g h =
    after (or_breaks WrongOperands q (branches (operand d yz.0) (operand e yz.1))) (branch_value x yz) (if_there WrongOperands q (branches (operand d yz.0) (operand e yz.1)) (any_type (branches (operand d yz.0) (operand e yz.1)))) (λ ty l.
    fine (branch_light k m n ty x yz.0 yz.1 f g h))

-- ---- calls and commas

abbrev AreStored : ℕ → Exps → Type 0
AreStored m xs = weights xs ≤ 4 * m

call_weight : (signature : Signature) (callee : Callee) (xs : Exps) → weight (call_of (record { signature = signature; callee = callee }) xs) ≤ suc (weights xs)
call_weight signature (Body k) xs = le_refl (suc (weights xs))
call_weight signature GetChar xs = omega arith
call_weight signature PutChar t.no_exp = omega arith
call_weight signature PutChar (t.an_exp x xs) = omega arith
call_weight signature PutInt t.no_exp = omega arith
call_weight signature PutInt (t.an_exp x xs) = omega arith

called_light : (m : ℕ) (q : Place) (number : ℕ) (meant : Option Meant) (args : Judged Exps) → Gives (AreStored m) args → Gives (Light (suc m)) (both (called q number meant) args called_with)
called_light m q number meant args h = of_both (called q number meant) args called_with any h (λ f xs k l. let a = call_weight f.signature f.callee xs in fine (omega (arith, a, l)))
  where
    any : Gives (λ f. Unit {0}) (called q number meant)
    any = record { by = λ f is. tt }

called_value_light : (m : ℕ) (q : Place) (meant : Option Meant) (j : Judged Exp) → Gives (Light m) j → Gives (IsLight m) (called_value q meant j)
called_value_light m q meant j h = by_test (Gives (IsLight m)) (gives_nothing meant) _ _ (λ _. broken) (λ _. value_as_light m j h)

same_weight : (x : Exp) (xs : Exps) → weights (before_last x xs) + weight (last_of x xs) ≡ weight x + weights xs
same_weight x t.no_exp = omega arith
same_weight x (t.an_exp y ys) = let rest = same_weight y ys in omega (arith, rest)

comma_light : (m : ℕ) (q : Place) (j : Judged Exps) → Gives (AreStored m) j → Gives (Light (suc m)) (comma_value q j)
comma_light m q j h = after j (comma_of q) h (comma_of_light)
  where
    comma_of_light : (xs : Exps) → AreStored m xs → Gives (Light (suc m)) (comma_of q xs)
    comma_of_light t.no_exp k = broken
    comma_of_light (t.an_exp x xs) k = let same = same_weight x xs in fine (omega (arith, same, k))

-- ---- expressions

both_light : (m n : ℕ) (j k : Judged Exp) → Gives (Light m) j → Gives (Light n) k → Gives (λ yz. Light m yz.0 × Light n yz.1) (pair j k)
both_light m n j k g h = of_both j k (λ a b. Fine (a, b)) g h (λ a b x y. fine (x, y))

mutual
  pub exp_light : (Γ : Scope) (n : Texts) (e : c.Exp) → Gives (IsLight (nodes e)) (designated Γ n e)
  exp_light Γ n (c.name q x) = used_light q (found x Γ)
  exp_light Γ n (c.number q z is_long) = fine (omega arith)
  exp_light Γ n (c.character q z) = fine (omega arith)
  exp_light Γ n (c.string q bytes) = fine (omega arith)
  exp_light Γ n (c.null q) = fine (omega arith)
  exp_light Γ n (c.eof q) = fine (omega arith)
  exp_light Γ n (c.call q x xs) =
      called_value_light (suc (nodes_of xs)) q (found x Γ) (both (called q (argument_number xs) (found x Γ)) (arguments Γ n (wanted (found x Γ)) xs) called_with)
      (called_light (nodes_of xs) q (argument_number xs) (found x Γ) (arguments Γ n (wanted (found x Γ)) xs) (exps_light Γ n (wanted (found x Γ)) xs))
  exp_light Γ n (c.index q a i) =
      of_both (designated Γ n a) (valued (designated Γ (n ++ literals a) i)) (index_value q) (exp_light Γ n a) (valued_light (nodes i) (designated Γ (n ++ literals a) i) (exp_light Γ (n ++ literals a) i)) (λ d y k l. index_light (nodes a) (nodes i) q d y k l)
  exp_light Γ n (c.postfix q op a) = postfix_light (nodes a) q op a (designated Γ n a) (exp_light Γ n a)
  exp_light Γ n (c.unary q op a) = unary_of_light (nodes a) q op a (designated Γ n a) (exp_light Γ n a)
  exp_light Γ n (c.cast q ty a) = cast_light (nodes a) q (written ty) (valued (designated Γ n a)) (valued_light (nodes a) (designated Γ n a) (exp_light Γ n a))
  exp_light Γ n (c.binary q op d e) =
      let left = exp_light Γ n d in
      let right = exp_light Γ (n ++ literals d) e in
      by_test (Gives (IsLight (suc (nodes d + nodes e)))) (is_logical op) _ _
      (λ _. of_both (condition d (designated Γ n d)) (condition e (designated Γ (n ++ literals d) e)) (logical_value op) (condition_light (nodes d) d (designated Γ n d) left) (condition_light (nodes e) e (designated Γ (n ++ literals d) e) right) (λ x y k l. logical_light (nodes d) (nodes e) op x y k l))
      (λ _. of_both (valued (designated Γ n d)) (valued (designated Γ (n ++ literals d) e)) (binary_value q op d e) (valued_light (nodes d) (designated Γ n d) left) (valued_light (nodes e) (designated Γ (n ++ literals d) e) right) (λ x y k l. binary_light (nodes d) (nodes e) q op d e x y k l))
  exp_light Γ n (c.conditional q b d e) =
      of_both (condition b (designated Γ n b)) (pair (valued (designated Γ (n ++ literals b) d)) (valued (designated Γ (n ++ literals b ++ literals d) e))) (conditional_value q d e)
      (condition_light (nodes b) b (designated Γ n b) (exp_light Γ n b))
      (both_light (nodes d) (nodes e) (valued (designated Γ (n ++ literals b) d)) (valued (designated Γ (n ++ literals b ++ literals d) e)) (valued_light (nodes d) (designated Γ (n ++ literals b) d) (exp_light Γ (n ++ literals b) d)) (valued_light (nodes e) (designated Γ (n ++ literals b ++ literals d) e) (exp_light Γ (n ++ literals b ++ literals d) e)))
      (λ x yz k l. conditional_light (nodes b) (nodes d) (nodes e) q d e x yz k l.0 l.1)
  exp_light Γ n (c.assign q op d e) =
      of_both (placed d (designated Γ n d)) (valued (designated Γ (n ++ literals d) e)) (assignment q (within op) e) (placed_light (nodes d) d (designated Γ n d) (exp_light Γ n d)) (valued_light (nodes e) (designated Γ (n ++ literals d) e) (exp_light Γ (n ++ literals d) e))
      (λ target x k l. assignment_light (nodes d) (nodes e) q (within op) e target x k l)
  exp_light Γ n (c.comma q xs) = value_as_light (suc (nodes_of xs)) (comma_value q (arguments Γ n [] xs)) (comma_light (nodes_of xs) q (arguments Γ n [] xs) (exps_light Γ n [] xs))

  pub exps_light : (Γ : Scope) (n : Texts) (types : List ValueType) (xs : c.Exps) → Gives (AreStored (nodes_of xs)) (arguments Γ n types xs)
  exps_light Γ n types c.no_exp = fine (omega arith)
  exps_light Γ n types (c.an_exp x xs) =
      of_both (passed types x (designated Γ n x)) (arguments Γ (n ++ literals x) (rest_of types) xs) listed (passed_light (nodes x) types x (designated Γ n x) (exp_light Γ n x)) (exps_light Γ (n ++ literals x) (rest_of types) xs)
      (λ y ys k l. fine (omega (arith, k, l)))

pub value_light : (Γ : Scope) (n : Texts) (e : c.Exp) → Gives (Light (nodes e)) (value Γ n e)
value_light Γ n e = valued_light (nodes e) (designated Γ n e) (exp_light Γ n e)

pub tested_light : (Γ : Scope) (n : Texts) (e : c.Exp) → Gives (Light (nodes e)) (tested_value Γ n e)
tested_light Γ n e = condition_light (nodes e) e (designated Γ n e) (exp_light Γ n e)

pub stored_value_light : (Γ : Scope) (n : Texts) (ty : ValueType) (e : c.Exp) → Gives (Stored (nodes e)) (stored_value Γ n ty e)
stored_value_light Γ n ty e = after (value Γ n e) (stored_as ty e) (value_light Γ n e) (stored_light (nodes e) ty e)

-- ---- effects

light_stored : (m : ℕ) (j : Judged Exp) → Gives (Light m) j → Gives (Stored m) j
light_stored m j h = record { by = λ x is. let l = h.by x is in omega (arith, l) }

effect_of_light : (Γ : Scope) (n : Texts) (e : c.Exp) → Gives (Stored (nodes e)) (effect_of Γ n e)
effect_of_light Γ n (c.call q x xs) =
    light_stored (suc (nodes_of xs)) (call_in Γ n q x xs) (called_light (nodes_of xs) q (argument_number xs) (found x Γ) (arguments Γ n (wanted (found x Γ)) xs) (exps_light Γ n (wanted (found x Γ)) xs))
effect_of_light Γ n e = light_stored (nodes e) (value Γ n e) (value_light Γ n e)

effects_light : (Γ : Scope) (n : Texts) (xs : c.Exps) → Gives (AreStored (nodes_of xs)) (effects Γ n xs)
effects_light Γ n c.no_exp = fine (omega arith)
effects_light Γ n (c.an_exp x xs) = of_both (effect_of Γ n x) (effects Γ (n ++ literals x) xs) listed (effect_of_light Γ n x) (effects_light Γ (n ++ literals x) xs) (λ y ys k l. fine (omega (arith, k, l)))

pub effect_light : (Γ : Scope) (n : Texts) (e : c.Exp) → Gives (Stored (nodes e)) (effect Γ n e)
effect_light Γ n (c.comma q xs) = light_stored (suc (nodes_of xs)) (comma_value q (effects Γ n xs)) (comma_light (nodes_of xs) q (effects Γ n xs) (effects_light Γ n xs))
effect_light Γ n e = effect_of_light Γ n e
