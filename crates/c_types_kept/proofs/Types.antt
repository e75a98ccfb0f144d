-- Types of values, their widths, and what operators take and give.
use Rattle.std.proofs.Common.{◌≡◌, ℕ, zero, suc, ◌≤◌, ◌==◌, Bool, true, false, not, ◌&&◌, ◌||◌, cond, refl, sym, ap, ◌∙◌, arith, Option, Some, None, eqb-true}
use Rattle.ib_base.specs.declared.integers.Width.{Width}
use Rattle.ib_base.specs.declared.integers.Width.TheVariants.{W1, W4, W8}
use Rattle.c_ast.specs.declared.tree.Base.{Base}
use Rattle.c_ast.specs.declared.tree.Base.TheVariants.{Void, Char, Int, Long}
use Rattle.c_ast.specs.declared.tree.BinaryOp.{BinaryOp}
use Rattle.c_ast.specs.declared.tree.BinaryOp.TheVariants as b
use Rattle.c_typed.specs.declared.types.ValueType.{ValueType}
use Rattle.c_typed.specs.declared.types.ValueType.TheVariants as v
use Rattle.c_typed.specs.declared.operation.Rank.{Rank}
use Rattle.c_typed.specs.declared.operation.Rank.TheVariants as r
use Rattle.c_typed.specs.declared.operation.Arithmetic.{Arithmetic}
use Rattle.c_typed.specs.declared.operation.Arithmetic.TheVariants as a
use Rattle.c_typed.specs.declared.operation.Comparison.{Comparison}
use Rattle.c_typed.specs.declared.operation.Comparison.TheVariants as c
use Rattle.c_typed.specs.declared.operation.Operation.{Operation}
use Rattle.c_typed.specs.declared.operation.Operation.TheVariants as o
use Rattle.c_typed.specs.declared.choice.Operand.{Operand}
use Rattle.c_typed.specs.declared.choice.Choice.{Choice}
use Rattle.c_typed.specs.Choices.{both_integers, at_rank, arithmetic, shift, sum, difference, compared_in, alike, branches, chosen}
use Rattle.c_typed.specs.ValueTypes.{pointer_to, pointee, size_of, base_number, is_integer, is_pointer, leads, same_type, promoted_rank, common_rank, ranked}
use Rattle.c_typed.specs.Values as values
use Rattle.c_typed.specs.Values.{width_of}
use Rattle.c_kept.specs.Kept.{fits_in, is_value, is_shift, takes, gives}
use Rattle.c_types_declarators.specs.Declarations.{is_on_void}
use Rattle.c_types_kept.proofs.Judgements.{differ, by_test, Yields, some, none}

pub and_first : (a b : Bool) → (a && b) ≡ true → a ≡ true
and_first true b h = refl
and_first false b h = h

pub and_second : (a b : Bool) → (a && b) ≡ true → b ≡ true
and_second true b h = h
and_second false b h = absurd (differ (sym h))

or_true : (b : Bool) → (b || true) ≡ true
or_true true = refl
or_true false = refl

-- ---- types that are not built on `void`

abbrev pub IsFirm : ValueType → Type 0
IsFirm ty = is_on_void ty ≡ false

pub firm_value : (ty : ValueType) → IsFirm ty → is_value ty ≡ true
firm_value (v.Base Void) h = absurd (differ h)
firm_value (v.Base Char) h = refl
firm_value (v.Base Int) h = refl
firm_value (v.Base Long) h = refl
firm_value (v.Pointer b stars) h = refl
firm_value v.Null h = refl

pub firm_pointer : (ty : ValueType) → IsFirm ty → IsFirm (pointer_to ty)
firm_pointer (v.Base Void) h = absurd (differ h)
firm_pointer (v.Base Char) h = refl
firm_pointer (v.Base Int) h = refl
firm_pointer (v.Base Long) h = refl
firm_pointer (v.Pointer Void stars) h = absurd (differ h)
firm_pointer (v.Pointer Char stars) h = refl
firm_pointer (v.Pointer Int stars) h = refl
firm_pointer (v.Pointer Long stars) h = refl
firm_pointer v.Null h = refl

firm_base : (b : Base) (stars : ℕ) → IsFirm (v.Pointer b stars) → IsFirm (v.Base b)
firm_base Void stars h = absurd (differ h)
firm_base Char stars h = refl
firm_base Int stars h = refl
firm_base Long stars h = refl

firm_stars : (b : Base) (stars fewer : ℕ) → IsFirm (v.Pointer b stars) → IsFirm (v.Pointer b fewer)
firm_stars Void stars fewer h = absurd (differ h)
firm_stars Char stars fewer h = refl
firm_stars Int stars fewer h = refl
firm_stars Long stars fewer h = refl

pub firm_pointee : (ty : ValueType) → IsFirm ty → IsFirm (pointee ty)
firm_pointee (v.Base b) h = h
firm_pointee (v.Pointer b zero) h = firm_base b zero h
firm_pointee (v.Pointer b (suc zero)) h = firm_base b (suc zero) h
firm_pointee (v.Pointer b (suc (suc stars))) h = firm_stars b (suc (suc stars)) (suc stars) h
firm_pointee v.Null h = refl

pub firm_rank : (rank : Rank) → IsFirm (ranked rank)
firm_rank r.Int = refl
firm_rank r.Long = refl

pub firm_integer : (ty : ValueType) → is_integer ty ≡ true → IsFirm ty
firm_integer (v.Base Void) h = absurd (differ (sym h))
firm_integer (v.Base Char) h = refl
firm_integer (v.Base Int) h = refl
firm_integer (v.Base Long) h = refl
firm_integer (v.Pointer b stars) h = absurd (differ (sym h))
firm_integer v.Null h = absurd (differ (sym h))

-- ---- sizes and widths

pub some_size : (ty : ValueType) → 1 ≤ size_of ty
some_size (v.Base Void) = omega arith
some_size (v.Base Char) = omega arith
some_size (v.Base Int) = omega arith
some_size (v.Base Long) = omega arith
some_size (v.Pointer b stars) = omega arith
some_size v.Null = omega arith

size_not_zero : (ty : ValueType) → not (size_of ty == 0) ≡ true
size_not_zero (v.Base Void) = refl
size_not_zero (v.Base Char) = refl
size_not_zero (v.Base Int) = refl
size_not_zero (v.Base Long) = refl
size_not_zero (v.Pointer b stars) = refl
size_not_zero v.Null = refl

pub pointer_wide : (ty : ValueType) → width_of (pointer_to ty) ≡ W8
pointer_wide (v.Base b) = refl
pointer_wide (v.Pointer b stars) = refl
pointer_wide v.Null = refl

pub leads_wide : (ty : ValueType) → leads ty ≡ true → width_of ty ≡ W8
leads_wide (v.Base b) h = absurd (differ (sym h))
leads_wide (v.Pointer b stars) h = refl
leads_wide v.Null h = absurd (differ (sym h))

pub rank_wide : (rank : Rank) → width_of (ranked rank) ≡ values.ranked rank
rank_wide r.Int = refl
rank_wide r.Long = refl

pub fits_itself : (w : Width) → fits_in w w ≡ true
fits_itself W1 = refl
fits_itself W4 = refl
fits_itself W8 = refl

base_of : ℕ → Base
base_of zero = Void
base_of (suc zero) = Char
base_of (suc (suc zero)) = Int
base_of (suc (suc (suc n))) = Long

base_back : (b : Base) → base_of (base_number b) ≡ b
unfolding base_of
base_back Void = refl
base_back Char = refl
base_back Int = refl
base_back Long = refl

same_base : (a b : Base) → (base_number a == base_number b) ≡ true → a ≡ b
same_base a b e = sym (base_back a) ∙ ap base_of (eqb-true (base_number a) (base_number b) e) ∙ base_back b

pub same_wide : (s t : ValueType) → same_type s t ≡ true → width_of s ≡ width_of t
same_wide (v.Base a) (v.Base b) e = ap (λ b. width_of (v.Base b)) (same_base a b e)
same_wide (v.Base a) (v.Pointer b n) e = absurd (differ (sym e))
same_wide (v.Base a) v.Null e = absurd (differ (sym e))
same_wide (v.Pointer a m) (v.Base b) e = absurd (differ (sym e))
same_wide (v.Pointer a m) (v.Pointer b n) e = refl
same_wide (v.Pointer a m) v.Null e = absurd (differ (sym e))
same_wide v.Null (v.Base b) e = absurd (differ (sym e))
same_wide v.Null (v.Pointer b n) e = absurd (differ (sym e))
same_wide v.Null v.Null e = refl

-- ---- operations

-- An operation takes operands of its widths, and gives a value of its result's width.
pub record Suitable (choice : Choice) : Type 0 where
  pub taken : takes choice.op (width_of choice.left) (width_of choice.right) ≡ true
  pub given : width_of choice.result ≡ gives choice.op
  pub firm : IsFirm choice.result

-- what takes an operand of some width takes an `int`
pub takes_one : (op : Operation) (left right : Width) → takes op left right ≡ true → takes op left W4 ≡ true
takes_one (o.Integer op r.Int) left right h = ap (λ b. b && (is_shift op || true)) (and_first (fits_in left W4) (is_shift op || fits_in right W4) h) ∙ or_true (is_shift op)
takes_one (o.Integer op r.Long) left right h = ap (λ b. b && (is_shift op || true)) (and_first (fits_in left W8) (is_shift op || fits_in right W8) h) ∙ or_true (is_shift op)
takes_one (o.Compare op) left right h = refl
takes_one (o.Advance size) left right h = refl
takes_one (o.AdvanceBy size) left right h = refl
takes_one (o.Retreat size) left right h = refl
takes_one (o.Distance size) left right h = h

ranks_suit : (op : Arithmetic) (rank : Rank) → Suitable (at_rank op rank)
ranks_suit op r.Int = record { taken = or_true (is_shift op); given = refl; firm = refl }
ranks_suit op r.Long = record { taken = or_true (is_shift op); given = refl; firm = refl }

numbers_suit : (op : Arithmetic) (x y : Operand) → Yields Suitable (arithmetic op x y)
numbers_suit op x y = by_test (Yields Suitable) (both_integers x y) (Some (at_rank op (common_rank x.ty y.ty))) None (λ e. some (ranks_suit op (common_rank x.ty y.ty))) (λ e. none)

abbrev shifting : Arithmetic → Rank → Rank → Choice
shifting op left right = record { op = o.Integer op left; left = ranked left; right = ranked right; result = ranked left }

shift_taken : (op : Arithmetic) (left right : Rank) → is_shift op ≡ true → Suitable (shifting op left right)
shift_taken op r.Int right e = record { taken = ap (λ s. s || fits_in (width_of (ranked right)) W4) e; given = refl; firm = refl }
shift_taken op r.Long right e = record { taken = ap (λ s. s || fits_in (width_of (ranked right)) W8) e; given = refl; firm = refl }

shifts_suit : (op : Arithmetic) (x y : Operand) → is_shift op ≡ true → Yields Suitable (shift op x y)
shifts_suit op x y h = by_test (Yields Suitable) (both_integers x y) (Some (shifting op (promoted_rank x.ty) (promoted_rank y.ty))) None (λ e. some (shift_taken op (promoted_rank x.ty) (promoted_rank y.ty) h)) (λ e. none)

sums_suit : (x y : Operand) → IsFirm x.ty → IsFirm y.ty → Yields Suitable (sum x y)
sums_suit x y g h =
    by_test (Yields Suitable) (both_integers x y) _ _ (λ e. numbers_suit a.Add x y) (λ e.
    by_test (Yields Suitable) (leads x.ty && is_integer y.ty) _ _ (λ e. some (record { taken = refl; given = leads_wide x.ty (and_first (leads x.ty) (is_integer y.ty) e); firm = g })) (λ e.
    by_test (Yields Suitable) (is_integer x.ty && leads y.ty) _ _ (λ e. some (record { taken = refl; given = leads_wide y.ty (and_second (is_integer x.ty) (leads y.ty) e); firm = h })) (λ e. none)))

differences_suit : (x y : Operand) → IsFirm x.ty → Yields Suitable (difference x y)
differences_suit x y g =
    by_test (Yields Suitable) (both_integers x y) _ _ (λ e. numbers_suit a.Sub x y) (λ e.
    by_test (Yields Suitable) (leads x.ty && is_integer y.ty) _ _ (λ e. some (record { taken = refl; given = leads_wide x.ty (and_first (leads x.ty) (is_integer y.ty) e); firm = g })) (λ e.
    by_test (Yields Suitable) (leads x.ty && same_type x.ty y.ty) _ _ (λ e. some (record { taken = size_not_zero (pointee x.ty); given = refl; firm = refl })) (λ e. none)))

compared_suit : (op : Comparison) (found : Option ValueType) → Yields Suitable (compared_in op found)
compared_suit op None = none
compared_suit op (Some ty) = some (record { taken = refl; given = refl; firm = refl })

pub chosen_suit : (op : BinaryOp) (x y : Operand) → IsFirm x.ty → IsFirm y.ty → Yields Suitable (chosen op x y)
chosen_suit b.Add x y g h = sums_suit x y g h
chosen_suit b.Sub x y g h = differences_suit x y g
chosen_suit b.Mul x y g h = numbers_suit a.Mul x y
chosen_suit b.Div x y g h = numbers_suit a.Div x y
chosen_suit b.Rem x y g h = numbers_suit a.Rem x y
chosen_suit b.ShiftLeft x y g h = shifts_suit a.ShiftLeft x y refl
chosen_suit b.ShiftRight x y g h = shifts_suit a.ShiftRight x y refl
chosen_suit b.BitAnd x y g h = numbers_suit a.BitAnd x y
chosen_suit b.BitXor x y g h = numbers_suit a.BitXor x y
chosen_suit b.BitOr x y g h = numbers_suit a.BitOr x y
chosen_suit b.Less x y g h = compared_suit c.Less (alike x y)
chosen_suit b.LessEqual x y g h = compared_suit c.LessEqual (alike x y)
chosen_suit b.Greater x y g h = compared_suit c.Greater (alike x y)
chosen_suit b.GreaterEqual x y g h = compared_suit c.GreaterEqual (alike x y)
chosen_suit b.Equal x y g h = compared_suit c.Equal (branches x y)
chosen_suit b.NotEqual x y g h = compared_suit c.NotEqual (branches x y)
chosen_suit b.And x y g h = none
chosen_suit b.Or x y g h = none

-- ---- the last operands of `?:`

abbrev else_null : Operand → Operand → Option ValueType → Option ValueType
else_null x y (Some ty) = Some ty
else_null x y None = cond (is_pointer x.ty && y.is_null) (Some x.ty) (cond (x.is_null && is_pointer y.ty) (Some y.ty) None)

else_firm : (x y : Operand) (found : Option ValueType) → IsFirm x.ty → IsFirm y.ty → Yields IsFirm found → Yields IsFirm (else_null x y found)
else_firm x y (Some ty) g h both = both
else_firm x y None g h both =
    by_test (Yields IsFirm) (is_pointer x.ty && y.is_null) _ _ (λ e. some g) (λ e.
    by_test (Yields IsFirm) (x.is_null && is_pointer y.ty) _ _ (λ e. some h) (λ e. none))

alike_firm : (x y : Operand) → IsFirm x.ty → Yields IsFirm (alike x y)
alike_firm x y g =
    by_test (Yields IsFirm) (both_integers x y) _ _ (λ e. some (firm_rank (common_rank x.ty y.ty))) (λ e.
    by_test (Yields IsFirm) (is_pointer x.ty && same_type x.ty y.ty) _ _ (λ e. some g) (λ e. none))

pub branches_firm : (x y : Operand) → IsFirm x.ty → IsFirm y.ty → Yields IsFirm (branches x y)
branches_firm x y g h = else_firm x y (alike x y) g h (alike_firm x y g)
