-- The registers that a construct names: from the first free one on, at most as many as it has operations.
use Rattle.std.proofs.Common.{ℕ, suc, ◌+◌, ◌<◌, ◌≤◌, ℤ, pos, List, length, Bool, true, false, arith, Option, Some, None, inr}
use Rattle.std.specs.Prelude.{slice_index_or, ◌==◌, if◌then◌else◌}
use Rattle.std.proofs.lemmas.Option.{slice_get_within}
use Rattle.ib_base.specs.declared.integers.Width.{Width}
use Rattle.ib_base.specs.declared.integers.Width.TheVariants.{W1, W4, W8}
use Rattle.ib_act.specs.declared.act.Size.{Size}
use Rattle.ib_act.specs.declared.act.Size.TheVariants.{Eight}
use Rattle.ib_act.specs.declared.act.Act.TheVariants.{Const, Mov, Add, Sub, Mul, Bounds}
use Rattle.c_typed.specs.declared.types.ValueType.{ValueType}
use Rattle.c_typed.specs.declared.expr.Storage.{Storage}
use Rattle.c_typed.specs.declared.expr.Storage.TheVariants.{Global, Frame}
use Rattle.c_typed.specs.declared.expr.Reach.{Reach}
use Rattle.c_typed.specs.declared.operation.Rank.{Rank}
use Rattle.c_typed.specs.declared.operation.Sign.{Sign}
use Rattle.c_typed.specs.declared.operation.Sign.TheVariants as sg
use Rattle.c_typed.specs.declared.operation.Arithmetic.{Arithmetic}
use Rattle.c_typed.specs.declared.operation.Arithmetic.TheVariants as ar
use Rattle.c_typed.specs.declared.operation.Comparison.{Comparison}
use Rattle.c_typed.specs.declared.operation.Comparison.TheVariants as cm
use Rattle.c_typed.specs.declared.operation.Operation.{Operation}
use Rattle.c_typed.specs.declared.operation.Operation.TheVariants as op
use Rattle.c_typed.specs.Tree as t
use Rattle.c_typed.specs.Tree.{Exp, Exps, Maybe, Stm, Stms}
use Rattle.c_typed.specs.Program.{Program}
use Rattle.c_typed.specs.Values as values
use Rattle.c_typed.specs.Values.{width_of, ranked}
use Rattle.c_kept.specs.Kept.{KeepsExp, KeepsExps}
use Rattle.tac_lowered.specs.Code.{Code, nothing, does, both}
use Rattle.tac_lowered.specs.Operators.{moved, number, or_else, narrows, cut, converted, size_of, arithmetic, comparison, operated, given_by, assigned, sign, bound}
use Rattle.tac_lowered.specs.Expressions.{held, at, behind_operand, is_empty, known, passed, address, address_at, indexed, low, low_all, effects, test, tested, are_quiet, is_quiet, width_in}
use Rattle.tac_lowered.specs.Lowered.{up_to, up_to_all}
use Rattle.tac_lowered.specs.Slots.{given}
use Rattle.tac_lowered.proofs.Spans.{least, least_test, Below, BelowTest, BelowAct}
use Rattle.tac_lowered.proofs.Least.{operated_does, converted_does, assigned_does, sign_does, address_does, low_does}

pub given_once : (a : Exp) → given a ≤ 1
given_once (t.set_slot ty k a) = omega arith
given_once (t.store ty a b) = omega arith
given_once a = omega arith

module _ (n : ℕ) where
  -- ---- operators

  moved_below : (s : ℕ) (to : Option ℕ) (x : ℕ) → up_to to 0 ≤ n → x < n → Below n (moved s to x)
  moved_below s None x ht hx = tt
  moved_below s (Some to) x ht hx = go (to == x)
    where
      go : (b : Bool) → Below n (if b then nothing else does s (Mov to x))
      go true = tt
      go false = omega (arith, ht, hx)

  number_below : (s : ℕ) (to : Option ℕ) (v : ℤ) → up_to to 0 ≤ n → Below n (number s to v)
  number_below s None v ht = tt
  number_below s (Some to) v ht = omega (arith, ht)

  or_else_below : (to : Option ℕ) (r : ℕ) → up_to to 0 ≤ n → r < n → or_else to r < n
  or_else_below None r ht hr = hr
  or_else_below (Some to) r ht hr = omega (arith, ht)

  cut_below : (w : Width) (to x : ℕ) → to < n → x < n → BelowAct n (cut w to x)
  cut_below W1 to x ht hx = omega (arith, ht, hx)
  cut_below W4 to x ht hx = omega (arith, ht, hx)
  cut_below W8 to x ht hx = omega (arith, ht, hx)

  arithmetic_below : (o : Arithmetic) (size : Size) (to x y : ℕ) → to < n → x < n → y < n → BelowAct n (arithmetic o size to x y)
  arithmetic_below ar.Add size to x y ht hx hy = omega (arith, ht, hx, hy)
  arithmetic_below ar.Sub size to x y ht hx hy = omega (arith, ht, hx, hy)
  arithmetic_below ar.Mul size to x y ht hx hy = omega (arith, ht, hx, hy)
  arithmetic_below ar.Div size to x y ht hx hy = omega (arith, ht, hx, hy)
  arithmetic_below ar.Rem size to x y ht hx hy = omega (arith, ht, hx, hy)
  arithmetic_below ar.ShiftLeft size to x y ht hx hy = omega (arith, ht, hx, hy)
  arithmetic_below ar.ShiftRight size to x y ht hx hy = omega (arith, ht, hx, hy)
  arithmetic_below ar.BitAnd size to x y ht hx hy = omega (arith, ht, hx, hy)
  arithmetic_below ar.BitXor size to x y ht hx hy = omega (arith, ht, hx, hy)
  arithmetic_below ar.BitOr size to x y ht hx hy = omega (arith, ht, hx, hy)

  comparison_below : (o : Comparison) (to x y : ℕ) → to < n → x < n → y < n → BelowAct n (comparison o to x y)
  comparison_below cm.Equal to x y ht hx hy = omega (arith, ht, hx, hy)
  comparison_below cm.NotEqual to x y ht hx hy = omega (arith, ht, hx, hy)
  comparison_below cm.Less to x y ht hx hy = omega (arith, ht, hx, hy)
  comparison_below cm.LessEqual to x y ht hx hy = omega (arith, ht, hx, hy)
  comparison_below cm.Greater to x y ht hx hy = omega (arith, ht, hx, hy)
  comparison_below cm.GreaterEqual to x y ht hx hy = omega (arith, ht, hx, hy)

  operated_below : (o : Operation) (s to r x y : ℕ) → to < n → x < n → y < n → r + least (operated o s to r x y) ≤ suc n → Below n (operated o s to r x y)
  operated_below (op.Integer o rank) s to r x y ht hx hy few = arithmetic_below o (size_of (ranked rank)) to x y ht hx hy
  operated_below (op.Compare o) s to r x y ht hx hy few = comparison_below o to x y ht hx hy
  operated_below (op.Advance size) s to r x y ht hx hy few = go (size == 1) few
    where
      go : (b : Bool) → r + least (both (if b then nothing else both (does s (Const r (pos size))) (does s (Mul Eight r y r))) (does s (Add Eight to x (if b then y else r)))) ≤ suc n
          → Below n (both (if b then nothing else both (does s (Const r (pos size))) (does s (Mul Eight r y r))) (does s (Add Eight to x (if b then y else r))))
      go true few = (tt, omega (arith, ht, hx, hy))
      go false few = ((omega (arith, few), omega (arith, few, hy)), omega (arith, few, ht, hx))
  operated_below (op.AdvanceBy size) s to r x y ht hx hy few = go (size == 1) few
    where
      go : (b : Bool) → r + least (both (if b then nothing else both (does s (Const r (pos size))) (does s (Mul Eight r x r))) (does s (Add Eight to y (if b then x else r)))) ≤ suc n
          → Below n (both (if b then nothing else both (does s (Const r (pos size))) (does s (Mul Eight r x r))) (does s (Add Eight to y (if b then x else r))))
      go true few = (tt, omega (arith, ht, hx, hy))
      go false few = ((omega (arith, few), omega (arith, few, hx)), omega (arith, few, ht, hy))
  operated_below (op.Retreat size) s to r x y ht hx hy few = go (size == 1) few
    where
      go : (b : Bool) → r + least (both (if b then nothing else both (does s (Const r (pos size))) (does s (Mul Eight r y r))) (does s (Sub Eight to x (if b then y else r)))) ≤ suc n
          → Below n (both (if b then nothing else both (does s (Const r (pos size))) (does s (Mul Eight r y r))) (does s (Sub Eight to x (if b then y else r))))
      go true few = (tt, omega (arith, ht, hx, hy))
      go false few = ((omega (arith, few), omega (arith, few, hy)), omega (arith, few, ht, hx))
  operated_below (op.Distance size) s to r x y ht hx hy few = (omega (arith, few, hx, hy), (omega (arith, few), omega (arith, few, ht)))

  converted_below : (from w : Width) (s to x : ℕ) → to < n → x < n → Below n (converted from w s to x)
  converted_below from w s to x ht hx = go (narrows from w)
    where
      go : (b : Bool) → Below n (if b then does s (cut w to x) else moved s (Some to) x)
      go true = cut_below w to x ht hx
      go false = moved_below s (Some to) x (omega (arith, ht)) hx

  assigned_below : (ty within : ValueType) (o : Operation) (s to r x y : ℕ) → to < n → x < n → y < n → to < r → r + least (assigned ty within o s to r x y) ≤ suc n → Below n (assigned ty within o s to r x y)
  assigned_below ty within o s to r x y ht hx hy apart few = go (narrows (width_of ty) (width_of within)) (narrows (given_by o) (width_of ty)) few
    where
      go : (b c : Bool)
          → r
          + least
          (
          if b then both (does s (cut (width_of within) r x)) (both (operated o s (r + 1) (r + 2) r y) (converted (given_by o) (width_of ty) s to (r + 1)))
          else if c then both (operated o s r (r + 1) x y) (does s (cut (width_of ty) to r))
          else operated o s to r x y
          )
          ≤ suc n
          → Below n
          (
          if b then both (does s (cut (width_of within) r x)) (both (operated o s (r + 1) (r + 2) r y) (converted (given_by o) (width_of ty) s to (r + 1)))
          else if c then both (operated o s r (r + 1) x y) (does s (cut (width_of ty) to r))
          else operated o s to r x y
          )
      go true c few =
          let e1 = operated_does o s (r + 1) (r + 2) r y in
          let e2 = converted_does (given_by o) (width_of ty) s to (r + 1) (λ e. omega (arith, e, apart)) in
          let hr : r < n = omega (arith, few, e1, e2) in
          let hr1 : r + 1 < n = omega (arith, few, e1, e2) in
          (cut_below (width_of within) r x hr hx, (operated_below o s (r + 1) (r + 2) r y hr1 hr hy (omega (arith, few, e2)), converted_below (given_by o) (width_of ty) s to (r + 1) ht hr1))
      go false true few =
          let e1 = operated_does o s r (r + 1) x y in
          let hr : r < n = omega (arith, few, e1) in
          (operated_below o s r (r + 1) x y hr hx hy (omega (arith, few)), cut_below (width_of ty) to r ht hr)
      go false false few = operated_below o s to r x y ht hx hy few

  sign_below : (o : Sign) (rank : Rank) (s to r x : ℕ) → to < n → r < n → x < n → Below n (sign o rank s to r x)
  sign_below sg.Minus rank s to r x ht hr hx = (omega (arith, hr), omega (arith, ht, hr, hx))
  sign_below sg.BitNot rank s to r x ht hr hx = (omega (arith, hr), omega (arith, ht, hr, hx))

  call_named : (to : Option ℕ) (args : List ℕ) → up_to to 0 ≤ n → up_to_all args 0 ≤ n → up_to to (up_to_all args 0) ≤ n
  call_named None args ht ha = ha
  call_named (Some to) args ht ha = omega (arith, ht, ha)

  -- ---- parts of expressions: each fits where what it holds of its operands fits

  held_below : (b : Bool) (a : Exp) (code : Code) → Below n code → Below n (held b a code)
  held_below true (t.slot ty k) code h = tt
  held_below true a code h = h
  held_below false a code h = h

  operand : (b : Bool) (a : Exp) (code : Code) (r : ℕ) → (r + least code < n → Below n code) → r + least (held b a code) < n → Below n (held b a code)
  operand true (t.slot ty k) code r h few = tt
  operand true a code r h few = h few
  operand false a code r h few = h few

  cut_fits : (b : Bool) (w : Width) (s to x r : ℕ) (first whole : Code) → to < n → x < n → (r + least first < n → Below n first) → (r + least whole < n → Below n whole) → r + least (if b then both first (does s (cut w to x)) else whole) < n → Below n (if b then both first (does s (cut w to x)) else whole)
  cut_fits true w s to x r first whole ht hx f g few = (f (omega (arith, few)), cut_below w to x ht hx)
  cut_fits false w s to x r first whole ht hx f g few = g few

  set_fits : (b : Bool) (s k r : ℕ) (code : Code) → k < n → (r + least code < n → Below n code) → r + least (if b then does s (Mov k k) else code) < n → Below n (if b then does s (Mov k k) else code)
  set_fits true s k r code hk h few = omega (arith, hk)
  set_fits false s k r code hk h few = h few

  module _ (p : Program) where
    address_below : (s to : ℕ) (of : Storage) → to < n → Below n (address p s to of)
    address_below s to (Global i) ht = omega (arith, ht)
    address_below s to (Frame offset) ht = omega (arith, ht)

    address_at_below : (s to : ℕ) (of : Storage) (bytes : ℤ) → to < n → Below n (address_at p s to of bytes)
    address_at_below s to (Global i) bytes ht = omega (arith, ht)
    address_at_below s to (Frame offset) bytes ht = omega (arith, ht)

    indexed_below : (s : ℕ) (to : Option ℕ) (r : ℕ) (array : Storage) (count size : ℕ) (reach : Reach) (i : Option ℤ) (code : Code) (x : ℕ) → up_to to 0 ≤ n → r < n → x < n → (r + least code < n → Below n code)
        → r + least (indexed p s to r array count size reach i code x) < n → Below n (indexed p s to r array count size reach i code x)
    indexed_below s to r array count size reach (Some i) code x ht hr hx h few = address_at_below s (or_else to r) array (values.scaled size i) (or_else_below to r ht hr)
    indexed_below s to r array count size reach None code x ht hr hx h few = go (size == 1) few
      where
        go : (b : Bool)
            → r
            + (
            least code
            + (
            1
            + (
            least (if b then nothing else both (does s (Const (r + 1) (pos size))) (does s (Mul Eight (r + 1) r (r + 1))))
            + (least (address p s (r + 2) array) + 1)
            )
            )
            )
            < n
            → Below n (both code (both (does s (Bounds r x (bound reach count))) (both (if b then nothing else both (does s (Const (r + 1) (pos size))) (does s (Mul Eight (r + 1) r (r + 1)))) (both (address p s (r + 2) array) (does s (Add Eight (or_else to r) (r + 2) (if b then r else r + 1)))))))
        go true few =
            let e1 = address_does p s (r + 2) array in
            let e2 = or_else_below to r ht hr in
            (h (omega (arith, few)), (omega (arith, hr, hx), (tt, (address_below s (r + 2) array (omega (arith, few, e1)), omega (arith, few, e1, e2)))))
        go false few =
            let e1 = address_does p s (r + 2) array in
            let e2 = or_else_below to r ht hr in
            (h (omega (arith, few)), (omega (arith, hr, hx), ((omega (arith, few), omega (arith, few)), (address_below s (r + 2) array (omega (arith, few, e1)), omega (arith, few, e1, e2)))))

    -- ---- expressions

    module _ (kinds : List ValueType) where
      pub at_below : (b : Bool) (a : Exp) → KeepsExp p kinds a → (r : ℕ) → length kinds ≤ r → r < n → at b a r < n
      at_below true (t.slot ty k) there r le hr = let e1 = slice_get_within kinds k ty there in omega (arith, e1, le, hr)
      at_below true a there r le hr = hr
      at_below false a there r le hr = hr

      -- an operand in a register of its own has an operation
      paid : (b : Bool) (a : Exp) (code : Code) (r : ℕ) → 1 ≤ least code → behind_operand b a r ≤ r + least (held b a code)
      paid true (t.slot ty k) code r h = omega arith
      paid true a code r h = omega (arith, h)
      paid false a code r h = omega (arith, h)

      behind_least : (b : Bool) (a : Exp) (r : ℕ) → r ≤ behind_operand b a r
      behind_least true (t.slot ty k) r = omega arith
      behind_least true a r = omega arith
      behind_least false a r = omega arith

      argument_paid : (b : Bool) (a : Exp) → KeepsExp p kinds a → (s r : ℕ) → length kinds ≤ r → behind_operand b a r ≤ r + least (held b a (low p a s (Some r) r))
      argument_paid b a k s r le = paid b a (low p a s (Some r) r) r (low_does p kinds a k s (Some r) r (inr le))

      -- the arguments' registers
      passed_below : (all : Exps) → KeepsExps p kinds all → (s r : ℕ) → length kinds ≤ r → r + least (low_all p all s r) < n → up_to_all (passed all r) 0 ≤ n
      passed_below t.no_exp k s r le few = omega arith
      passed_below (t.an_exp a rest) k s r le few =
          let q = are_quiet rest in
          let e1 = argument_paid q a k.0 s r le in
          let e2 = behind_least q a r in
          let e3 = at_below q a k.0 r le (omega (arith, few)) in
          let e4 = passed_below rest k.1 s (behind_operand q a r) (omega (arith, le, e2)) (omega (arith, few, e1)) in
          omega (arith, e3, e4)

      -- an operand in its own register, or in the free one
      pub operand_low : (b : Bool) (a : Exp) (s r : ℕ) → (up_to (Some r) 0 ≤ n → r + least (low p a s (Some r) r) < n → Below n (low p a s (Some r) r)) → r + least (held b a (low p a s (Some r) r)) < n → Below n (held b a (low p a s (Some r) r))
      operand_low b a s r h few = operand b a (low p a s (Some r) r) r (λ few. h (omega (arith, few)) few) few

      mutual
        pub low_below : (a : Exp) → KeepsExp p kinds a → (s : ℕ) (to : Option ℕ) (r : ℕ) → length kinds ≤ r → up_to to 0 ≤ n → r + least (low p a s to r) < n → Below n (low p a s to r)
        low_below (t.constant ty v) k s to r le ht few = number_below s to v ht
        low_below (t.text i) k s to r le ht few = number_below s to (pos (slice_index_or p.strings i 0)) ht
        low_below (t.address ty of) k s None r le ht few = tt
        low_below (t.address ty of) k s (Some to) r le ht few = address_below s to of (omega (arith, ht))
        low_below (t.element ty array count size reach a) k s to r le ht few =
            let hr : r < n = omega (arith, few) in
            indexed_below s to r array count size reach (known reach count a) (held true a (low p a s (Some r) r)) (at true a r) ht hr (at_below true a k.0 r le hr) (λ few. operand_low true a s r (λ ht few. low_below a k.0 s (Some r) r le ht few) few) few
        low_below (t.slot ty i) k s to r le ht few = moved_below s to i ht (let e1 = slice_get_within kinds i ty k in omega (arith, e1, le, few))
        low_below (t.load ty a) k s to r le ht few =
            let e1 = at_below true a k.0 r le (omega (arith, few)) in
            let e2 = or_else_below to r ht (omega (arith, few)) in
            (operand_low true a s r (λ ht few. low_below a k.0 s (Some r) r le ht few) (omega (arith, few)), omega (arith, e1, e2))
        low_below (t.convert ty a) k s None r le ht few = low_below a k s None r le ht few
        low_below (t.convert ty a) k s (Some to) r le ht few =
            cut_fits (narrows (width_in a) (width_of ty)) (width_of ty) s to (at true a r) r (held true a (low p a s (Some r) r)) (low p a s (Some to) r) (omega (arith, ht)) (at_below true a k r le (omega (arith, few))) (λ few. operand_low true a s r (λ ht few. low_below a k s (Some r) r le ht few) few) (λ few. low_below a k s (Some to) r le ht few) few
        low_below (t.unary o rank a) k s to r le ht few =
            let e1 = sign_does o rank s (or_else to r) (r + 1) (at true a r) in
            let hr : r < n = omega (arith, few) in
            (operand_low true a s r (λ ht few. low_below a k s (Some r) r le ht few) (omega (arith, few)), sign_below o rank s (or_else to r) (r + 1) (at true a r) (or_else_below to r ht hr) (omega (arith, few, e1)) (at_below true a k r le hr))
        low_below (t.not a) k s to r le ht few =
            let hr : r < n = omega (arith, few) in
            let e1 = at_below true a k r le hr in
            let e2 = or_else_below to r ht hr in
            (operand_low true a s r (λ ht few. low_below a k s (Some r) r le ht few) (omega (arith, few)), (omega (arith, few), omega (arith, few, e1, e2)))
        low_below (t.binary ty o a b) k s to r le ht few =
            let x = at (is_quiet b) a r in
            let y = at true b (r + 1) in
            let e1 = operated_does o s (or_else to r) (r + 2) x y in
            let hr : r < n = omega (arith, few) in
            let hx = at_below (is_quiet b) a k.0 r le hr in
            let hy = at_below true b k.1 (r + 1) (omega (arith, le)) (omega (arith, few, e1)) in
            (operand_low (is_quiet b) a s r (λ ht few. low_below a k.0 s (Some r) r le ht few) (omega (arith, few)), (operand_low true b s (r + 1) (λ ht few. low_below b k.1 s (Some (r + 1)) (r + 1) (omega (arith, le)) ht few) (omega (arith, few, e1)), operated_below o s (or_else to r) (r + 2) x y (or_else_below to r ht hr) hx hy (omega (arith, few))))
        low_below (t.both a b) k s None r le ht few = (test_below a k.0 s r (low p a s (Some r) r) le (λ few. low_below a k.0 s (Some r) r le (omega (arith, few)) few) (omega (arith, few)), low_below b k.1 s None r le ht (omega (arith, few)))
        low_below (t.both a b) k s (Some to) r le ht few = ((test_below a k.0 s r (low p a s (Some r) r) le (λ few. low_below a k.0 s (Some r) r le (omega (arith, few)) few) (omega (arith, few)), test_below b k.1 s r (low p b s (Some r) r) le (λ few. low_below b k.1 s (Some r) r le (omega (arith, few)) few) (omega (arith, few))), omega (arith, ht), omega (arith, ht))
        low_below (t.either a b) k s None r le ht few = (test_below a k.0 s r (low p a s (Some r) r) le (λ few. low_below a k.0 s (Some r) r le (omega (arith, few)) few) (omega (arith, few)), low_below b k.1 s None r le ht (omega (arith, few)))
        low_below (t.either a b) k s (Some to) r le ht few = ((test_below a k.0 s r (low p a s (Some r) r) le (λ few. low_below a k.0 s (Some r) r le (omega (arith, few)) few) (omega (arith, few)), test_below b k.1 s r (low p b s (Some r) r) le (λ few. low_below b k.1 s (Some r) r le (omega (arith, few)) few) (omega (arith, few))), omega (arith, ht), omega (arith, ht))
        low_below (t.conditional ty a b c) k s to r le ht few = (test_below a k.0 s r (low p a s (Some r) r) le (λ few. low_below a k.0 s (Some r) r le (omega (arith, few)) few) (omega (arith, few)), low_below b k.1 s to r le ht (omega (arith, few)), low_below c k.2 s to r le ht (omega (arith, few)))
        low_below (t.set_slot ty i a) k s to r le ht few =
            let hi : i < n = let e1 = slice_get_within kinds i ty k.0 in omega (arith, e1, le, few) in
            (set_fits (is_empty (low p a s (Some i) r)) s i r (low p a s (Some i) r) hi (λ few. low_below a k.1 s (Some i) r le (omega (arith, hi)) few) (omega (arith, few)), moved_below s to i ht hi)
        low_below (t.store ty a b) k s to r le ht few =
            let e1 = at_below (is_quiet b) a k.0 r le (omega (arith, few)) in
            let e2 = at_below true b k.1 (r + 1) (omega (arith, le)) (omega (arith, few)) in
            (operand_low (is_quiet b) a s r (λ ht few. low_below a k.0 s (Some r) r le ht few) (omega (arith, few)), (operand_low true b s (r + 1) (λ ht few. low_below b k.1 s (Some (r + 1)) (r + 1) (omega (arith, le)) ht few) (omega (arith, few)), (omega (arith, e1, e2), moved_below s to (at true b (r + 1)) ht e2)))
        low_below (t.update_slot ty i within o a) k s to r le ht few =
            let x = at (is_quiet a) (t.slot ty i) r in
            let y = at true a (r + 1) in
            let e0 = slice_get_within kinds i ty k.0 in
            let hi : i < n = omega (arith, e0, le, few) in
            let e1 = assigned_does ty within o s i (r + 2) x y in
            let hx = at_below (is_quiet a) (t.slot ty i) k.0 r le (omega (arith, few)) in
            let hy = at_below true a k.1 (r + 1) (omega (arith, le)) (omega (arith, few, e1)) in (
              held_below (is_quiet a) (t.slot ty i) (does s (Mov r i)) (omega (arith, few, hi)),
              (
                operand_low true a s (r + 1) (λ ht few. low_below a k.1 s (Some (r + 1)) (r + 1) (omega (arith, le)) ht few) (omega (arith, few, e1)),
                (assigned_below ty within o s i (r + 2) x y hi hx hy (omega (arith, e0, le)) (omega (arith, few)), moved_below s to i ht hi),
              ),
            )
        low_below (t.update ty a within o b) k s to r le ht few =
            let y = at true b (r + 2) in
            let e1 = assigned_does ty within o s (r + 1) (r + 3) (r + 1) y in
            let hx = at_below (is_quiet b) a k.0 r le (omega (arith, few)) in
            let hy = at_below true b k.1 (r + 2) (omega (arith, le)) (omega (arith, few, e1)) in
            let h1 : r + 1 < n = omega (arith, few) in (
              operand_low (is_quiet b) a s r (λ ht few. low_below a k.0 s (Some r) r le ht few) (omega (arith, few)),
              (
                omega (arith, hx, h1),
                (
                  operand_low true b s (r + 2) (λ ht few. low_below b k.1 s (Some (r + 2)) (r + 2) (omega (arith, le)) ht few) (omega (arith, few, e1)),
                  (assigned_below ty within o s (r + 1) (r + 3) (r + 1) y h1 h1 hy (omega arith) (omega (arith, few)), (omega (arith, hx, h1), moved_below s to (r + 1) ht h1)),
                ),
              ),
            )
        low_below (t.step_slot ty i within o) k s None r le ht few =
            let e0 = slice_get_within kinds i ty k.0 in
            let hi : i < n = omega (arith, e0, le, few) in
            let hr : r < n = omega (arith, few) in
            (omega (arith, few), assigned_below ty within o s i (r + 1) i r hi hi hr (omega (arith, e0, le)) (omega (arith, few)))
        low_below (t.step_slot ty i within o) k s (Some to) r le ht few =
            let e0 = slice_get_within kinds i ty k.0 in
            let hi : i < n = omega (arith, e0, le, few) in
            let hr : r < n = omega (arith, few) in
            (omega (arith, hi, hr), (omega (arith, few), (assigned_below ty within o s i (r + 2) r (r + 1) hi hr (omega (arith, few)) (omega (arith, e0, le)) (omega (arith, few)), moved_below s (Some to) r ht hr)))
        low_below (t.step ty a within o) k s to r le ht few =
            let hx = at_below true a k.0 r le (omega (arith, few)) in
            let h1 : r + 1 < n = omega (arith, few) in
            let h2 : r + 2 < n = omega (arith, few) in
            (operand_low true a s r (λ ht few. low_below a k.0 s (Some r) r le ht few) (omega (arith, few)), (omega (arith, hx, h1), (omega (arith, h2), (assigned_below ty within o s (r + 2) (r + 3) (r + 1) (r + 2) h2 h1 h2 (omega arith) (omega (arith, few)), (omega (arith, hx, h2), moved_below s to (r + 1) ht h1)))))
        low_below (t.call ty f all) k s to r le ht few = (all_below all k.0 s r le (omega (arith, few)), call_named to (passed all r) ht (passed_below all k.0 s r le (omega (arith, few))))
        low_below t.get_byte k s to r le ht few = let e1 = or_else_below to r ht (omega (arith, few)) in omega (arith, e1)
        low_below (t.put_byte a) k s None r le ht few = let e1 = at_below true a k r le (omega (arith, few)) in (operand_low true a s r (λ ht few. low_below a k s (Some r) r le ht few) (omega (arith, few)), omega (arith, e1))
        low_below (t.put_byte a) k s (Some to) r le ht few = let e1 = at_below true a k r le (omega (arith, few)) in (operand_low true a s r (λ ht few. low_below a k s (Some r) r le ht few) (omega (arith, few)), (omega (arith, e1), omega (arith, e1, ht)))
        low_below (t.put_number a) k s to r le ht few = let e1 = at_below true a k r le (omega (arith, few)) in (operand_low true a s r (λ ht few. low_below a k s (Some r) r le ht few) (omega (arith, few)), (omega (arith, e1), number_below s to (pos 0) ht))
        low_below (t.comma all a) k s to r le ht few = (effects_below all k.0 s r le (omega (arith, few)), low_below a k.1 s to r le ht (omega (arith, few)))

        all_below : (all : Exps) → KeepsExps p kinds all → (s r : ℕ) → length kinds ≤ r → r + least (low_all p all s r) < n → Below n (low_all p all s r)
        all_below t.no_exp k s r le few = tt
        all_below (t.an_exp a rest) k s r le few =
            let q = are_quiet rest in
            let e1 = argument_paid q a k.0 s r le in
            let e2 = behind_least q a r in
            (operand_low q a s r (λ ht few. low_below a k.0 s (Some r) r le ht few) (omega (arith, few)), all_below rest k.1 s (behind_operand q a r) (omega (arith, le, e2)) (omega (arith, few, e1)))

        pub effects_below : (all : Exps) → KeepsExps p kinds all → (s r : ℕ) → length kinds ≤ r → r + least (effects p all s r) < n → Below n (effects p all s r)
        effects_below t.no_exp k s r le few = tt
        effects_below (t.an_exp a t.no_exp) k s r le few = low_below a k.0 s None r le (omega arith) few
        effects_below (t.an_exp a (t.an_exp b more)) k s r le few = (low_below a k.0 s None r le (omega arith) (omega (arith, few)), effects_below (t.an_exp b more) k.1 s r le (omega (arith, few)))

        pub test_below : (a : Exp) → KeepsExp p kinds a → (s r : ℕ) (value : Code) → length kinds ≤ r → (r + least value < n → Below n value) → r + least_test (test p a s r value) ≤ n → BelowTest n (test p a s r value)
        test_below (t.constant ty v) k s r value le h few = tt
        test_below (t.not a) k s r value le h few = test_below a k s r (low p a s (Some r) r) le (λ few. low_below a k s (Some r) r le (omega (arith, few)) few) few
        test_below (t.both a b) k s r value le h few = (test_below a k.0 s r (low p a s (Some r) r) le (λ few. low_below a k.0 s (Some r) r le (omega (arith, few)) few) (omega (arith, few)), test_below b k.1 s r (low p b s (Some r) r) le (λ few. low_below b k.1 s (Some r) r le (omega (arith, few)) few) (omega (arith, few)))
        test_below (t.either a b) k s r value le h few = (test_below a k.0 s r (low p a s (Some r) r) le (λ few. low_below a k.0 s (Some r) r le (omega (arith, few)) few) (omega (arith, few)), test_below b k.1 s r (low p b s (Some r) r) le (λ few. low_below b k.1 s (Some r) r le (omega (arith, few)) few) (omega (arith, few)))
        test_below a k s r value le h few = (operand true a value r h (omega (arith, few)), at_below true a k r le (omega (arith, few)))

      pub tested_below : (a : Exp) → KeepsExp p kinds a → (s r : ℕ) → length kinds ≤ r → r + least_test (tested p a s r) ≤ n → BelowTest n (tested p a s r)
      tested_below a k s r le few = test_below a k s r (low p a s (Some r) r) le (λ few. low_below a k s (Some r) r le (omega (arith, few)) few) few
