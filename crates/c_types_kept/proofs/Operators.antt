-- What operators make of operands that keep their rules keeps them.
use Rattle.std.proofs.Common.{◌≡◌, ℕ, zero, suc, ◌≤◌, ◌==◌, Bool, true, false, ◌&&◌, ◌||◌, List, [], ◌∷◌, length, map, refl, sym, ap, ap₂, ◌∙◌, subst, arith, Option, Some, None, eqb-true}
use Rattle.std.specs.Prelude.{slice_get, MatchOption}
use Rattle.std.specs.Int.{int_wrap}
use Rattle.ib_meaning.specs.declared.place.Place.{Place}
use Rattle.c_ast.specs.declared.tree.BinaryOp.{BinaryOp}
use Rattle.c_ast.specs.declared.tree.BinaryOp.TheVariants as b
use Rattle.c_ast.specs.declared.tree.PostfixOp.{PostfixOp}
use Rattle.c_ast.specs.declared.tree.UnaryOp.{UnaryOp}
use Rattle.c_ast.specs.declared.tree.UnaryOp.TheVariants as u
use Rattle.c_ast.specs.Trees as c
use Rattle.c_typed.specs.declared.types.ValueType.{ValueType}
use Rattle.c_typed.specs.declared.operation.Sign.{Sign}
use Rattle.c_typed.specs.declared.operation.Sign.TheVariants as s
use Rattle.c_typed.specs.declared.program.Param.{Param}
use Rattle.c_typed.specs.declared.rule.Rule.TheVariants.{WrongOperands}
use Rattle.c_typed.specs.declared.choice.Choice.{Choice}
use Rattle.c_typed.specs.Choices.{chosen, branches, fits}
use Rattle.c_typed.specs.ExprTypes.{type_of}
use Rattle.c_typed.specs.Program.{Program}
use Rattle.c_typed.specs.Tree as t
use Rattle.c_typed.specs.Tree.{Exp, Exps, Function}
use Rattle.c_typed.specs.ValueTypes.{int, is_void, is_integer, is_pointer, leads, same_type, promoted_rank, ranked}
use Rattle.c_typed.specs.Values.{width_of}
use Rattle.c_layout.specs.declared.shape.Shape.{Shape}
use Rattle.c_layout.specs.declared.shape.Shape.TheVariants.{Scalar, Array}
use Rattle.c_types_operators.specs.declared.scope.Lives.{Lives}
use Rattle.c_types_operators.specs.declared.scope.Lives.TheVariants.{InSlot, InMemory}
use Rattle.c_types_operators.specs.declared.scope.Callee.{Callee}
use Rattle.c_types_operators.specs.declared.scope.Callee.TheVariants.{Body, GetChar, PutChar, PutInt}
use Rattle.c_types_operators.specs.Rules.{Judged, ◌>>=◌, or_breaks}
use Rattle.c_types_operators.specs.Scopes as scope
use Rattle.c_types_operators.specs.Scopes.{Signature, Meant, variable, function}
use Rattle.c_types_operators.specs.Operators.{Designated, a_value, a_slot, a_cell, an_element, an_array, value_of, Target, slot, cell, target_of, address_of, target_type, assigned, updated, stepped, used_variable, used, operand, plain_operand, converted, tested, stored_as, integer_operand, applied_value, binary_value, branch_value, conditional_value, a_signed, signed_value, promoted, unary_value, logical_value, one, counted, counted_before, counted_behind, prefix_value, postfix_value, step_of, restored, assigned_value, assignment, indexed_pointer, an_element_at, index_value, cast_value, called, wanted, gives_nothing, call_of, last_of, before_last, comma_of, value_in, valued, placed, condition, passed, rest_of, as_value, value_as, cast_of, comma_value, prefix_of, postfix_of, negated, of_value, unary_of, called_value, anchor}
use Rattle.c_kept.specs.Kept.{fits_in, told, takes, HasSlot, IsThere, Fill, KeepsExp, KeepsExps}
use Rattle.c_types_kept.proofs.Judgements.{differ, by_test, Yields, Gives, fine, broken, after, if_there}
use Rattle.c_types_kept.proofs.Types.{IsFirm, Suitable, and_first, firm_value, firm_pointer, firm_pointee, firm_rank, firm_integer, some_size, pointer_wide, leads_wide, rank_wide, fits_itself, same_wide, takes_one, chosen_suit, branches_firm}

pub fits_same : (ty : ValueType) (x : Exp) → told x ≡ width_of ty → fits_in (told x) (width_of ty) ≡ true
fits_same ty x e = ap (λ w. fits_in w (width_of ty)) e ∙ fits_itself (width_of ty)

pub match_map : {A : Type 0} (P Q : A → Type 0) (found : Option A) → ((a : A) → P a → Q a) → MatchOption found ⊥ P → MatchOption found ⊥ Q
match_map P Q None each h = h
match_map P Q (Some a) each h = each a h

-- In a function of a program with such variables.
module _ (p : Program) (kinds : List ValueType) where
  -- an expression that has a value, of the width of its type
  pub record IsValue (x : Exp) : Type 0 where
    pub keeps : KeepsExp p kinds x
    pub wide : told x ≡ width_of (type_of x)
    pub firm : IsFirm (type_of x)

  -- one that is stored as a value of this type
  pub record Suits (ty : ValueType) (x : Exp) : Type 0 where
    pub keeps : KeepsExp p kinds x
    pub wide : told x ≡ width_of ty

  pub converted_suits : (ty : ValueType) (x : Exp) → IsValue x → Suits ty (converted ty x)
  converted_suits ty x h = by_test (Suits ty) (same_type (type_of x) ty) x (t.convert ty x) (λ e. record { keeps = h.keeps; wide = h.wide ∙ same_wide (type_of x) ty e }) (λ e. record { keeps = h.keeps; wide = refl })

  pub converted_value : (ty : ValueType) (x : Exp) → IsFirm ty → IsValue x → IsValue (converted ty x)
  converted_value ty x firm h = by_test IsValue (same_type (type_of x) ty) x (t.convert ty x) (λ e. h) (λ e. record { keeps = h.keeps; wide = refl; firm = firm })

  -- ---- places

  abbrev pub KeepsMeaning : Designated → Type 0
  KeepsMeaning (a_value x) = IsValue x
  KeepsMeaning (a_slot ty k) = HasSlot p kinds k ty × IsFirm ty
  KeepsMeaning (a_cell ty at) = IsValue at × IsFirm ty
  KeepsMeaning (an_element ty at n i) = KeepsExp p kinds i × IsThere p kinds at × (1 ≤ n) × IsFirm ty
  KeepsMeaning (an_array ty at n) = IsThere p kinds at × (1 ≤ n) × IsFirm ty

  abbrev pub KeepsTarget : Target → Type 0
  KeepsTarget (slot ty k) = HasSlot p kinds k ty × IsFirm ty
  KeepsTarget (cell ty a) = KeepsExp p kinds a × IsFirm ty

  target_firm : (target : Target) → KeepsTarget target → IsFirm (target_type target)
  target_firm (slot ty k) h = h.1
  target_firm (cell ty a) h = h.1

  value_kept : (d : Designated) → KeepsMeaning d → IsValue (value_of d)
  value_kept (a_value x) h = h
  value_kept (a_slot ty k) h = record { keeps = h.0; wide = refl; firm = h.1 }
  value_kept (a_cell ty at) h = record { keeps = (h.0.keeps, firm_value ty h.1); wide = refl; firm = h.1 }
  value_kept (an_element ty at n i) h = record { keeps = ((h.0, h.1, h.2, some_size ty), firm_value ty h.3); wide = refl; firm = h.3 }
  value_kept (an_array ty at n) h = record { keeps = h.0; wide = sym (pointer_wide ty); firm = firm_pointer ty h.2 }

  target_kept : (at : Place) (d : Designated) → KeepsMeaning d → Gives KeepsTarget (target_of at d)
  target_kept q (a_value x) h = broken
  target_kept q (a_slot ty k) h = fine h
  target_kept q (a_cell ty at) h = fine (h.0.keeps, h.1)
  target_kept q (an_element ty at n i) h = fine ((h.0, h.1, h.2, some_size ty), h.3)
  target_kept q (an_array ty at n) h = broken

  address_kept : (at : Place) (d : Designated) → KeepsMeaning d → Gives IsValue (address_of at d)
  address_kept q (a_value x) h = broken
  address_kept q (a_slot ty k) h = broken
  address_kept q (a_cell ty at) h = fine h.0
  address_kept q (an_element ty at n i) h = fine (record { keeps = (h.0, h.1, h.2, some_size ty); wide = sym (pointer_wide ty); firm = firm_pointer ty h.3 })
  address_kept q (an_array ty at n) h = broken

  -- ---- names

  abbrev pub KeepsVariable : Shape → Lives → Type 0
  KeepsVariable (Scalar ty) (InSlot k) = HasSlot p kinds k ty × IsFirm ty
  KeepsVariable (Scalar ty) (InMemory at) = IsThere p kinds at × IsFirm ty
  KeepsVariable (Array ty n) (InMemory at) = IsThere p kinds at × (1 ≤ n) × IsFirm ty
  KeepsVariable (Array ty n) (InSlot k) = HasSlot p kinds k ty × IsFirm ty

  variable_kept : (shape : Shape) (lives : Lives) → KeepsVariable shape lives → KeepsMeaning (used_variable shape lives)
  variable_kept (Scalar ty) (InSlot k) h = h
  variable_kept (Scalar ty) (InMemory at) h = (record { keeps = h.0; wide = sym (pointer_wide ty); firm = firm_pointer ty h.1 }, h.1)
  variable_kept (Array ty n) (InMemory at) h = h
  variable_kept (Array ty n) (InSlot k) h = h

  -- a function that is called runs a body with its signature, or is built in
  abbrev pub Runs : Signature → Callee → Type 0
  Runs s (Body n) = MatchOption (slice_get p.functions n) ⊥ (λ g. (s.result ≡ g.result) × (s.params ≡ map (λ q. q.ty) g.params))
  Runs s GetChar = Unit {0}
  Runs s PutChar = Unit {0}
  Runs s PutInt = is_void s.result ≡ true

  pub record KeepsFunctionName (f : scope.Function) : Type 0 where
    pub firm : is_void f.signature.result ≡ false → IsFirm f.signature.result
    pub runs : Runs f.signature f.callee

  abbrev pub KeepsMeant : Meant → Type 0
  KeepsMeant (variable v) = KeepsVariable v.shape v.lives
  KeepsMeant (function f) = KeepsFunctionName f

  pub used_kept : (at : Place) (meant : Option Meant) → Yields KeepsMeant meant → Gives KeepsMeaning (used at meant)
  used_kept q None h = broken
  used_kept q (Some (variable v)) h = fine (variable_kept v.shape v.lives (h.by (variable v) refl))
  used_kept q (Some (function f)) h = broken

  -- ---- values

  pub valued_kept : (j : Judged Designated) → Gives KeepsMeaning j → Gives IsValue (valued j)
  valued_kept j h = after j value_in h (λ d k. fine (value_kept d k))

  pub value_as_kept : (j : Judged Exp) → Gives IsValue j → Gives KeepsMeaning (value_as j)
  value_as_kept j h = after j as_value h (λ x k. fine k)

  placed_kept : (e : c.Exp) (j : Judged Designated) → Gives KeepsMeaning j → Gives KeepsTarget (placed e j)
  placed_kept e j h = after j (target_of (anchor e)) h (target_kept (anchor e))

  pub condition_kept : (e : c.Exp) (j : Judged Designated) → Gives KeepsMeaning j → Gives IsValue (condition e j)
  condition_kept e j h = after (valued j) (tested e) (valued_kept j h) (λ x k. by_test (Gives IsValue) (is_integer (type_of x) || is_pointer (type_of x)) _ _ (λ _. fine k) (λ _. broken))

  pub stored_kept : (ty : ValueType) (e : c.Exp) (x : Exp) → IsValue x → Gives (Suits ty) (stored_as ty e x)
  stored_kept ty e x h = by_test (Gives (Suits ty)) (fits ty (operand e x)) _ _ (λ _. fine (converted_suits ty x h)) (λ _. broken)

  integer_kept : (at : Place) (x : Exp) → IsValue x → Gives IsValue (integer_operand at x)
  integer_kept q x h = by_test (Gives IsValue) (is_integer (type_of x)) _ _ (λ _. fine h) (λ _. broken)

  -- ---- operators of two operands

  takes_both : (choice : Choice) (x y : Exp) → Suitable choice → told x ≡ width_of choice.left → told y ≡ width_of choice.right → takes choice.op (told x) (told y) ≡ true
  takes_both choice x y f g h = ap₂ (λ v w. takes choice.op v w) g h ∙ f.taken

  pub binary_kept : (at : Place) (op : BinaryOp) (d e : c.Exp) (x y : Exp) → IsValue x → IsValue y → Gives KeepsMeaning (binary_value at op d e x y)
  binary_kept q op d e x y g h =
      after (or_breaks WrongOperands q (chosen op (operand d x) (operand e y))) (applied_value x y)
      (if_there WrongOperands q (chosen op (operand d x) (operand e y)) (chosen_suit op (operand d x) (operand e y) g.firm h.firm)) (λ choice f.
      let left = converted_suits choice.left x g in
      let right = converted_suits choice.right y h in
      fine (record {
        keeps = (left.keeps, right.keeps, takes_both choice (converted choice.left x) (converted choice.right y) f left.wide right.wide, f.given);
        wide = refl;
        firm = f.firm;
      }))

  pub conditional_kept : (at : Place) (d e : c.Exp) (x : Exp) (yz : Exp × Exp) → IsValue x → IsValue yz.0 → IsValue yz.1 → Gives KeepsMeaning (conditional_value at d e x yz)
  conditional_kept q d e x yz f g h =
      after (or_breaks WrongOperands q (branches (operand d yz.0) (operand e yz.1))) (branch_value x yz)
      (if_there WrongOperands q (branches (operand d yz.0) (operand e yz.1)) (branches_firm (operand d yz.0) (operand e yz.1) g.firm h.firm)) (λ ty firm.
      let first = converted_suits ty yz.0 g in
      let second = converted_suits ty yz.1 h in
      fine (record {
        keeps = (f.keeps, first.keeps, second.keeps, fits_same ty (converted ty yz.0) first.wide, fits_same ty (converted ty yz.1) second.wide);
        wide = refl;
        firm = firm;
      }))

  pub logical_kept : (op : BinaryOp) (x y : Exp) → IsValue x → IsValue y → Gives KeepsMeaning (logical_value op x y)
  logical_kept b.And x y g h = fine (record { keeps = (g.keeps, h.keeps); wide = refl; firm = refl })
  logical_kept op x y g h = fine (record { keeps = (g.keeps, h.keeps); wide = refl; firm = refl })

  -- ---- operators of one operand

  signed_kept : (at : Place) (op : Sign) (x : Exp) → IsValue x → Gives KeepsMeaning (signed_value at op x)
  signed_kept q op x h = after (integer_operand q x) (a_signed op) (integer_kept q x h) (λ y k.
      let rank = promoted_rank (type_of y) in
      fine (record { keeps = (converted_suits (ranked rank) y k).keeps; wide = sym (rank_wide rank); firm = firm_rank rank }))

  unary_kept : (at : Place) (op : UnaryOp) (x : Exp) → IsValue x → Gives KeepsMeaning (unary_value at op x)
  unary_kept q u.Dereference x h = by_test (Gives KeepsMeaning) (leads (type_of x)) _ _ (λ e. fine (h, firm_pointee (type_of x) h.firm)) (λ _. broken)
  unary_kept q u.Plus x h = after (integer_operand q x) promoted (integer_kept q x h) (λ y k. let rank = promoted_rank (type_of y) in fine (converted_value (ranked rank) y (firm_rank rank) k))
  unary_kept q u.Minus x h = signed_kept q s.Minus x h
  unary_kept q u.BitNot x h = signed_kept q s.BitNot x h
  unary_kept q u.Increment x h = broken
  unary_kept q u.Decrement x h = broken
  unary_kept q u.AddressOf x h = broken
  unary_kept q u.Not x h = broken

  of_value_kept : (at : Place) (op : UnaryOp) (j : Judged Designated) → Gives KeepsMeaning j → Gives KeepsMeaning (of_value at op j)
  of_value_kept q op j h = after (valued j) (unary_value q op) (valued_kept j h) (unary_kept q op)

  updated_kept : (target : Target) (choice : Choice) (x : Exp) → KeepsTarget target → Suitable choice → Suits choice.right x → IsValue (updated target choice x)
  updated_kept (slot ty k) choice x g f h = record { keeps = (g.0, h.keeps, ap (λ w. takes choice.op (width_of choice.left) w) h.wide ∙ f.taken); wide = refl; firm = g.1 }
  updated_kept (cell ty a) choice x g f h = record { keeps = (g.0, h.keeps, firm_value ty g.1, ap (λ w. takes choice.op (width_of choice.left) w) h.wide ∙ f.taken); wide = refl; firm = g.1 }

  stepped_kept : (target : Target) (choice : Choice) → KeepsTarget target → Suitable choice → IsValue (stepped target choice)
  stepped_kept (slot ty k) choice g f = record { keeps = (g.0, takes_one choice.op (width_of choice.left) (width_of choice.right) f.taken); wide = refl; firm = g.1 }
  stepped_kept (cell ty a) choice g f = record { keeps = (g.0, firm_value ty g.1, takes_one choice.op (width_of choice.left) (width_of choice.right) f.taken); wide = refl; firm = g.1 }

  one_kept : IsValue one
  unfolding int_wrap
  one_kept = record { keeps = refl; wide = refl; firm = refl }

  counted_suits : (op : BinaryOp) (target : Target) → KeepsTarget target → Yields Suitable (counted op target)
  counted_suits op target h = chosen_suit op (plain_operand (target_type target)) (plain_operand int) (target_firm target h) refl

  prefix_kept : (at : Place) (op : BinaryOp) (a : c.Exp) (j : Judged Designated) → Gives KeepsMeaning j → Gives KeepsMeaning (prefix_of at op a j)
  prefix_kept q op a j h = after (placed a j) (prefix_value q op) (placed_kept a j h) (λ target k.
      after (or_breaks WrongOperands q (counted op target)) (counted_before target) (if_there WrongOperands q (counted op target) (counted_suits op target k)) (λ choice f.
      fine (updated_kept target choice (converted choice.right one) k f (converted_suits choice.right one one_kept))))

  pub postfix_kept : (at : Place) (op : PostfixOp) (a : c.Exp) (j : Judged Designated) → Gives KeepsMeaning j → Gives KeepsMeaning (postfix_of at op a j)
  postfix_kept q op a j h = after (placed a j) (postfix_value q (step_of op)) (placed_kept a j h) (λ target k.
      after (or_breaks WrongOperands q (counted (step_of op) target)) (counted_behind target) (if_there WrongOperands q (counted (step_of op) target) (counted_suits (step_of op) target k)) (λ choice f.
      fine (stepped_kept target choice k f)))

  pub unary_of_kept : (at : Place) (op : UnaryOp) (a : c.Exp) (j : Judged Designated) → Gives KeepsMeaning j → Gives KeepsMeaning (unary_of at op a j)
  unary_of_kept q u.Increment a j h = prefix_kept q b.Add a j h
  unary_of_kept q u.Decrement a j h = prefix_kept q b.Sub a j h
  unary_of_kept q u.AddressOf a j h = value_as_kept (j >>= address_of (anchor a)) (after j (address_of (anchor a)) h (address_kept (anchor a)))
  unary_of_kept q u.Not a j h = after (condition a j) negated (condition_kept a j h) (λ x k. fine (record { keeps = k.keeps; wide = refl; firm = refl }))
  unary_of_kept q u.Dereference a j h = of_value_kept q u.Dereference j h
  unary_of_kept q u.Plus a j h = of_value_kept q u.Plus j h
  unary_of_kept q u.Minus a j h = of_value_kept q u.Minus j h
  unary_of_kept q u.BitNot a j h = of_value_kept q u.BitNot j h

  cast_kept : (at : Place) (ty : ValueType) (x : Exp) → IsValue x → Gives KeepsMeaning (cast_value at ty x)
  cast_kept q ty x h = by_test (Gives KeepsMeaning) (is_integer ty && is_integer (type_of x)) _ _ (λ e. fine (converted_value ty x (firm_integer ty (and_first (is_integer ty) (is_integer (type_of x)) e)) h)) (λ _. broken)

  pub cast_of_kept : (at : Place) (ty : ValueType) (j : Judged Exp) → Gives IsValue j → Gives KeepsMeaning (cast_of at ty j)
  cast_of_kept q ty j h = after j (cast_value q ty) h (cast_kept q ty)

  -- ---- assignments

  assigned_kept : (target : Target) (x : Exp) → KeepsTarget target → Suits (target_type target) x → IsValue (assigned target x)
  assigned_kept (slot ty k) x g h = record { keeps = (g.0, h.keeps, fits_same ty x h.wide); wide = refl; firm = g.1 }
  assigned_kept (cell ty a) x g h = record { keeps = (g.0, h.keeps, firm_value ty g.1, fits_same ty x h.wide); wide = refl; firm = g.1 }

  pub assignment_kept : (at : Place) (op : Option BinaryOp) (e : c.Exp) (target : Target) (x : Exp) → KeepsTarget target → IsValue x → Gives KeepsMeaning (assignment at op e target x)
  assignment_kept q None e target x g h = after (stored_as (target_type target) e x) (assigned_value target) (stored_kept (target_type target) e x h) (λ y k. fine (assigned_kept target y g k))
  assignment_kept q (Some op) e target x g h =
      after (or_breaks WrongOperands q (chosen op (plain_operand (target_type target)) (operand e x))) (restored e target x)
      (if_there WrongOperands q (chosen op (plain_operand (target_type target)) (operand e x)) (chosen_suit op (plain_operand (target_type target)) (operand e x) (target_firm target g) h.firm)) (λ choice f.
      by_test (Gives KeepsMeaning) (fits (target_type target) (plain_operand choice.result)) _ _ (λ _. fine (updated_kept target choice (converted choice.right x) g f (converted_suits choice.right x h))) (λ _. broken))

  pub place_kept : (e : c.Exp) (j : Judged Designated) → Gives KeepsMeaning j → Gives KeepsTarget (placed e j)
  place_kept e j h = placed_kept e j h

  -- ---- elements

  pointer_kept : (at : Place) (i x : Exp) → IsValue i → IsValue x → Gives KeepsMeaning (indexed_pointer at i x)
  pointer_kept q i x g h = by_test (Gives KeepsMeaning) (leads (type_of x) && is_integer (type_of i)) _ _ (λ e.
      fine (record { keeps = (h.keeps, g.keeps, refl, leads_wide (type_of x) (and_first (leads (type_of x)) (is_integer (type_of i)) e)); wide = refl; firm = h.firm }, firm_pointee (type_of x) h.firm)) (λ _. broken)

  pub index_kept : (at : Place) (d : Designated) (i : Exp) → KeepsMeaning d → IsValue i → Gives KeepsMeaning (index_value at d i)
  index_kept q (an_array ty at n) i g h = after (integer_operand q i) (an_element_at ty at n) (integer_kept q i h) (λ y k. fine (k.keeps, g.0, g.1, g.2))
  index_kept q (a_value x) i g h = pointer_kept q i x h g
  index_kept q (a_slot ty k) i g h = pointer_kept q i (value_of (a_slot ty k)) h (value_kept (a_slot ty k) g)
  index_kept q (a_cell ty at) i g h = pointer_kept q i (value_of (a_cell ty at)) h (value_kept (a_cell ty at) g)
  index_kept q (an_element ty at n k) i g h = pointer_kept q i (value_of (an_element ty at n k)) h (value_kept (an_element ty at n k) g)

  -- ---- arguments and calls

  -- the first of values that are passed to parameters of these types
  abbrev pub Passed : List ValueType → Exp → Type 0
  Passed [] x = IsValue x
  Passed (ty ∷ more) x = Suits ty x

  -- so many arguments for parameters of these types; there may be more
  abbrev pub AreArguments : List ValueType → ℕ → Exps → Type 0
  AreArguments types zero t.no_exp = Unit {0}
  AreArguments types (suc n) (t.an_exp x xs) = Passed types x × AreArguments (rest_of types) n xs
  AreArguments types zero (t.an_exp x xs) = ⊥
  AreArguments types (suc n) t.no_exp = ⊥

  pub passed_kept : (types : List ValueType) (e : c.Exp) (j : Judged Designated) → Gives KeepsMeaning j → Gives (Passed types) (passed types e j)
  passed_kept [] e j h = valued_kept j h
  passed_kept (ty ∷ more) e j h = after (valued j) (stored_as ty e) (valued_kept j h) (stored_kept ty e)

  passed_keeps : (types : List ValueType) (x : Exp) → Passed types x → KeepsExp p kinds x
  passed_keeps [] x h = h.keeps
  passed_keeps (ty ∷ more) x h = h.keeps

  all_keep : (types : List ValueType) (n : ℕ) (xs : Exps) → AreArguments types n xs → KeepsExps p kinds xs
  all_keep types zero t.no_exp h = tt
  all_keep types (suc n) (t.an_exp x xs) h = (passed_keeps types x h.0, all_keep (rest_of types) n xs h.1)
  all_keep types zero (t.an_exp x xs) h = absurd h
  all_keep types (suc n) t.no_exp h = absurd h

  -- arguments fill as many parameters
  filled : (qs : List Param) (n : ℕ) (xs : Exps) → length (map (λ q. q.ty) qs) ≡ n → AreArguments (map (λ q. q.ty) qs) n xs → Fill p kinds xs qs
  filled [] zero t.no_exp e h = tt
  filled [] zero (t.an_exp x xs) e h = absurd h
  filled [] (suc n) xs e h = let z : ⊥ = omega (arith, e) in absurd z
  filled (q ∷ qs) zero xs e h = let z : ⊥ = omega (arith, e) in absurd z
  filled (q ∷ qs) (suc n) t.no_exp e h = absurd h
  filled (q ∷ qs) (suc n) (t.an_exp x xs) e h = (fits_same q.ty x h.0.wide, filled qs n xs (omega (arith, e)) h.1)

  -- a call, which has a value where its function gives one
  pub record IsCall (nothing : Bool) (x : Exp) : Type 0 where
    pub keeps : KeepsExp p kinds x
    pub value : nothing ≡ false → IsValue x

  call_by : (signature : Signature) (callee : Callee) (n : ℕ) (xs : Exps) → KeepsFunctionName (record { signature = signature; callee = callee }) → length signature.params ≡ n → AreArguments signature.params n xs
      → IsCall (is_void signature.result) (call_of (record { signature = signature; callee = callee }) xs)
  call_by signature (Body k) n xs f e h =
      let there = match_map (λ g. (signature.result ≡ g.result) × (signature.params ≡ map (λ q. q.ty) g.params)) (λ g. (signature.result ≡ g.result) × Fill p kinds xs g.params) (slice_get p.functions k)
      (λ g runs. (runs.0, filled g.params n xs (ap length (sym runs.1) ∙ e) (subst (λ types. AreArguments types n xs) runs.1 h))) f.runs in
      let keeps : KeepsExp p kinds (t.call signature.result k xs) = (all_keep signature.params n xs h, there) in
      record { keeps = keeps; value = λ some. record { keeps = keeps; wide = refl; firm = f.firm some } }
  call_by signature GetChar n xs f e h = record { keeps = tt; value = λ some. record { keeps = tt; wide = refl; firm = refl } }
  call_by signature PutChar n t.no_exp f e h = record { keeps = tt; value = λ some. record { keeps = tt; wide = refl; firm = refl } }
  call_by signature PutChar n (t.an_exp x xs) f e h =
      let keeps = (all_keep signature.params n (t.an_exp x xs) h).0 in
      record { keeps = keeps; value = λ some. record { keeps = keeps; wide = refl; firm = refl } }
  call_by signature PutInt n t.no_exp f e h = record { keeps = tt; value = λ some. record { keeps = tt; wide = refl; firm = refl } }
  call_by signature PutInt n (t.an_exp x xs) f e h = record { keeps = (all_keep signature.params n (t.an_exp x xs) h).0; value = λ some. absurd (differ (sym f.runs ∙ some)) }

  -- the function that a name means, called with so many arguments
  pub record IsCalled (meant : Option Meant) (n : ℕ) (f : scope.Function) : Type 0 where
    pub known : KeepsFunctionName f
    pub types : wanted meant ≡ f.signature.params
    pub many : length f.signature.params ≡ n
    pub nothing : is_void f.signature.result ≡ gives_nothing meant

  pub called_kept : (at : Place) (n : ℕ) (meant : Option Meant) → Yields KeepsMeant meant → Gives (IsCalled meant n) (called at n meant)
  called_kept q n None h = broken
  called_kept q n (Some (variable v)) h = broken
  called_kept q n (Some (function f)) h = by_test (Gives (IsCalled (Some (function f)) n)) (length f.signature.params == n) _ _ (λ e.
      fine (record { known = h.by (function f) refl; types = refl; many = eqb-true (length f.signature.params) n e; nothing = refl })) (λ _. broken)

  pub call_kept : (meant : Option Meant) (n : ℕ) (f : scope.Function) (xs : Exps) → IsCalled meant n f → AreArguments (wanted meant) n xs → IsCall (gives_nothing meant) (call_of f xs)
  call_kept meant n f xs g h = subst (λ nothing. IsCall nothing (call_of f xs)) g.nothing (call_by f.signature f.callee n xs g.known g.many (subst (λ types. AreArguments types n xs) g.types h))

  pub called_value_kept : (at : Place) (meant : Option Meant) (j : Judged Exp) → Gives (IsCall (gives_nothing meant)) j → Gives KeepsMeaning (called_value at meant j)
  called_value_kept q meant j h = by_test (Gives KeepsMeaning) (gives_nothing meant) _ _ (λ _. broken) (λ e. value_as_kept j (record { by = λ x is. (h.by x is).value e }))

  -- ---- commas

  last_kept : (n : ℕ) (x : Exp) (xs : Exps) → IsValue x → AreArguments [] n xs → IsValue (last_of x xs)
  last_kept zero x t.no_exp g h = g
  last_kept (suc n) x (t.an_exp y ys) g h = last_kept n y ys h.0 h.1
  last_kept zero x (t.an_exp y ys) g h = absurd h
  last_kept (suc n) x t.no_exp g h = absurd h

  last_keeps : (x : Exp) (xs : Exps) → KeepsExp p kinds x → KeepsExps p kinds xs → KeepsExp p kinds (last_of x xs)
  last_keeps x t.no_exp g h = g
  last_keeps x (t.an_exp y ys) g h = last_keeps y ys h.0 h.1

  before_keep : (x : Exp) (xs : Exps) → KeepsExp p kinds x → KeepsExps p kinds xs → KeepsExps p kinds (before_last x xs)
  before_keep x t.no_exp g h = tt
  before_keep x (t.an_exp y ys) g h = (g, before_keep y ys h.0 h.1)

  comma_kept : (at : Place) (n : ℕ) (xs : Exps) → AreArguments [] n xs → Gives IsValue (comma_of at xs)
  comma_kept q n t.no_exp h = broken
  comma_kept q zero (t.an_exp x xs) h = absurd h
  comma_kept q (suc n) (t.an_exp x xs) h =
      let last = last_kept n x xs h.0 h.1 in
      fine (record { keeps = (before_keep x xs h.0.keeps (all_keep [] n xs h.1), last.keeps); wide = last.wide; firm = last.firm })

  pub comma_value_kept : (at : Place) (n : ℕ) (j : Judged Exps) → Gives (AreArguments [] n) j → Gives IsValue (comma_value at j)
  comma_value_kept q n j h = after j (comma_of q) h (comma_kept q n)

  comma_keeps : (at : Place) (xs : Exps) → KeepsExps p kinds xs → Gives (KeepsExp p kinds) (comma_of at xs)
  comma_keeps q t.no_exp h = broken
  comma_keeps q (t.an_exp x xs) h = fine (before_keep x xs h.0 h.1, last_keeps x xs h.0 h.1)

  pub comma_value_keeps : (at : Place) (j : Judged Exps) → Gives (KeepsExps p kinds) j → Gives (KeepsExp p kinds) (comma_value at j)
  comma_value_keeps q j h = after j (comma_of q) h (comma_keeps q)
