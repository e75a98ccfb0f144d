-- What a construct is lowered to at least.
use Rattle.std.proofs.Common.{◌≡◌, ℕ, ◌+◌, ◌≤◌, ℤ, pos, List, [], ◌∷◌, length, Bool, true, false, refl, arith, Option, Some, None, ◌⊎◌, inl, inr}
use Rattle.std.specs.Prelude.{slice_get, slice_index_or, ◌==◌, ◌&&◌, if◌then◌else◌}
use Rattle.std.proofs.lemmas.Bool.{ne_eqb}
use Rattle.std.proofs.lemmas.Option.{slice_get_within}
use Rattle.ib_base.specs.declared.integers.Width.{Width}
use Rattle.ib_act.specs.declared.act.Act.TheVariants.{Mov}
use Rattle.c_typed.specs.declared.types.ValueType.{ValueType}
use Rattle.c_typed.specs.declared.expr.Storage.{Storage}
use Rattle.c_typed.specs.declared.expr.Storage.TheVariants.{Global, Frame}
use Rattle.c_typed.specs.declared.expr.Reach.{Reach}
use Rattle.c_typed.specs.declared.operation.Rank.{Rank}
use Rattle.c_typed.specs.declared.operation.Sign.{Sign}
use Rattle.c_typed.specs.declared.operation.Sign.TheVariants as sg
use Rattle.c_typed.specs.declared.operation.Operation.{Operation}
use Rattle.c_typed.specs.declared.operation.Operation.TheVariants as op
use Rattle.c_typed.specs.declared.program.Home.{Home}
use Rattle.c_typed.specs.declared.program.Home.TheVariants as h
use Rattle.c_typed.specs.declared.program.Param.{Param}
use Rattle.c_typed.specs.Tree as t
use Rattle.c_typed.specs.Tree.{Exp, Exps, Stm, Stms}
use Rattle.c_typed.specs.Program.{Program}
use Rattle.c_typed.specs.Values as values
use Rattle.c_typed.specs.Values.{width_of}
use Rattle.c_kept.specs.Kept.{KeepsExp, KeepsExps, KeepsStm, KeepsStms}
use Rattle.tac_lowered.specs.Code.{Code, nothing, does, both}
use Rattle.tac_lowered.specs.Operators.{moved, number, or_else, narrows, cut, converted, operated, given_by, assigned, sign}
use Rattle.tac_lowered.specs.Expressions.{held, at, is_empty, known, address, address_at, indexed, low, effects, test, is_quiet, width_in}
use Rattle.tac_lowered.specs.Statements.{low_stm, low_stms}
use Rattle.tac_lowered.specs.Lowered.{behind_home, behind_params, stored, all_stored}
use Rattle.tac_lowered.specs.Slots.{given, given_in, declared, declared_in}
use Rattle.tac_lowered.proofs.Spans.{least, some_test}

not_both : (a b : Bool) (m n : ℕ) → (a && b) ≡ false → (a ≡ false → 1 ≤ m) → (b ≡ false → 1 ≤ n) → 1 ≤ m + n
not_both false b m n h f g = let e1 = f refl in omega (arith, e1)
not_both true b m n h f g = let e1 = g h in omega (arith, e1)

full : true ≡ false → ⊥
full h = cc

-- ---- operators

moved_does : (s to x : ℕ) → (to ≡ x → ⊥) → 1 ≤ least (moved s (Some to) x)
moved_does s to x ne = go (to == x) (ne_eqb to x ne)
  where
    go : (b : Bool) → b ≡ false → 1 ≤ least (if b then nothing else does s (Mov to x))
    go true e = absurd (full e)
    go false e = omega arith

pub operated_does : (o : Operation) (s to r x y : ℕ) → 1 ≤ least (operated o s to r x y)
operated_does (op.Integer o rank) s to r x y = omega arith
operated_does (op.Compare o) s to r x y = omega arith
operated_does (op.Advance size) s to r x y = omega arith
operated_does (op.AdvanceBy size) s to r x y = omega arith
operated_does (op.Retreat size) s to r x y = omega arith
operated_does (op.Distance size) s to r x y = omega arith

pub converted_does : (from w : Width) (s to x : ℕ) → (to ≡ x → ⊥) → 1 ≤ least (converted from w s to x)
converted_does from w s to x ne = go (narrows from w)
  where
    go : (b : Bool) → 1 ≤ least (if b then does s (cut w to x) else moved s (Some to) x)
    go true = omega arith
    go false = moved_does s to x ne

pub assigned_does : (ty within : ValueType) (o : Operation) (s to r x y : ℕ) → 1 ≤ least (assigned ty within o s to r x y)
assigned_does ty within o s to r x y = go (narrows (width_of ty) (width_of within)) (narrows (given_by o) (width_of ty))
  where
    go : (b c : Bool)
        → 1
        ≤ least
        (
        if b then both (does s (cut (width_of within) r x)) (both (operated o s (r + 1) (r + 2) r y) (converted (given_by o) (width_of ty) s to (r + 1)))
        else if c then both (operated o s r (r + 1) x y) (does s (cut (width_of ty) to r))
        else operated o s to r x y
        )
    go true c = omega arith
    go false true = omega arith
    go false false = operated_does o s to r x y

pub sign_does : (o : Sign) (rank : Rank) (s to r x : ℕ) → 2 ≤ least (sign o rank s to r x)
sign_does sg.Minus rank s to r x = omega arith
sign_does sg.BitNot rank s to r x = omega arith

set_does : (b : Bool) (s k : ℕ) (code : Code) → (b ≡ false → 1 ≤ least code) → 1 ≤ least (if b then does s (Mov k k) else code)
set_does true s k code h = omega arith
set_does false s k code h = h refl

module _ (p : Program) where
  pub address_does : (s to : ℕ) (of : Storage) → 1 ≤ least (address p s to of)
  address_does s to (Global n) = omega arith
  address_does s to (Frame offset) = omega arith

  address_at_does : (s to : ℕ) (of : Storage) (bytes : ℤ) → 1 ≤ least (address_at p s to of bytes)
  address_at_does s to (Global n) bytes = omega arith
  address_at_does s to (Frame offset) bytes = omega arith

  indexed_does : (s : ℕ) (to : Option ℕ) (r : ℕ) (array : Storage) (count size : ℕ) (reach : Reach) (i : Option ℤ) (code : Code) (x : ℕ) → 1 ≤ least (indexed p s to r array count size reach i code x)
  indexed_does s to r array count size reach (Some i) code x = address_at_does s (or_else to r) array (values.scaled size i)
  indexed_does s to r array count size reach None code x = omega arith

  -- ---- expressions

  module _ (kinds : List ValueType) where
    -- a value is wanted in a register that is no variable
    abbrev pub IsFree : Option ℕ → Type 0
    IsFree None = ⊥
    IsFree (Some to) = length kinds ≤ to

    -- code that is not empty, or that gives a value to a free register
    abbrev Wanted : Option ℕ → Code → Type 0
    Wanted to code = (is_empty code ≡ false) ⊎ IsFree to

    number_does : (s : ℕ) (to : Option ℕ) (v : ℤ) → Wanted to (number s to v) → 1 ≤ least (number s to v)
    number_does s None v (inl e) = absurd (full e)
    number_does s None v (inr f) = absurd f
    number_does s (Some to) v w = omega arith

    slot_does : (ty : ValueType) (k : ℕ) → slice_get kinds k ≡ Some ty → (s : ℕ) (to : Option ℕ) → Wanted to (moved s to k) → 1 ≤ least (moved s to k)
    slot_does ty k there s None (inl e) = absurd (full e)
    slot_does ty k there s None (inr f) = absurd f
    slot_does ty k there s (Some to) (inl e) = go (to == k) e
      where
        go : (b : Bool) → is_empty (if b then nothing else does s (Mov to k)) ≡ false → 1 ≤ least (if b then nothing else does s (Mov to k))
        go true e = absurd (full e)
        go false e = omega arith
    slot_does ty k there s (Some to) (inr free) = moved_does s to k (λ e. let e1 = slice_get_within kinds k ty there in omega (arith, e, e1, free))

    cut_does : (b : Bool) (w : Width) (s to x : ℕ) (first whole : Code) → (Wanted (Some to) whole → 1 ≤ least whole) → Wanted (Some to) (if b then both first (does s (cut w to x)) else whole) → 1 ≤ least (if b then both first (does s (cut w to x)) else whole)
    cut_does true w s to x first whole h wanted = omega arith
    cut_does false w s to x first whole h wanted = h wanted

    comma_does : (to : Option ℕ) (a b : Code) → (is_empty a ≡ false → 1 ≤ least a) → (Wanted to b → 1 ≤ least b) → Wanted to (both a b) → 1 ≤ least (both a b)
    comma_does to a b f g (inl e) = not_both (is_empty a) (is_empty b) (least a) (least b) e f (λ e. g (inl e))
    comma_does to a b f g (inr free) = let e1 = g (inr free) in omega (arith, e1)

    mutual
      pub low_does : (a : Exp) → KeepsExp p kinds a → (s : ℕ) (to : Option ℕ) (r : ℕ) → Wanted to (low p a s to r) → 1 ≤ least (low p a s to r)
      low_does (t.constant ty v) k s to r w = number_does s to v w
      low_does (t.text i) k s to r w = number_does s to (pos (slice_index_or p.strings i 0)) w
      low_does (t.address ty of) k s None r (inl e) = absurd (full e)
      low_does (t.address ty of) k s None r (inr f) = absurd f
      low_does (t.address ty of) k s (Some to) r w = address_does s to of
      low_does (t.element ty array count size reach a) k s to r w = indexed_does s to r array count size reach (known reach count a) (held true a (low p a s (Some r) r)) (at true a r)
      low_does (t.slot ty i) k s to r w = slot_does ty i k s to w
      low_does (t.load ty a) k s to r w = omega arith
      low_does (t.convert ty a) k s None r w = low_does a k s None r w
      low_does (t.convert ty a) k s (Some to) r w = cut_does (narrows (width_in a) (width_of ty)) (width_of ty) s to (at true a r) (held true a (low p a s (Some r) r)) (low p a s (Some to) r) (λ w. low_does a k s (Some to) r w) w
      low_does (t.unary o rank a) k s to r w = let e1 = sign_does o rank s (or_else to r) (r + 1) (at true a r) in omega (arith, e1)
      low_does (t.not a) k s to r w = omega arith
      low_does (t.binary ty o a b) k s to r w = let e1 = operated_does o s (or_else to r) (r + 2) (at (is_quiet b) a r) (at true b (r + 1)) in omega (arith, e1)
      low_does (t.both a b) k s None r w = let e1 = some_test (test p a s r (low p a s (Some r) r)) in omega (arith, e1)
      low_does (t.both a b) k s (Some to) r w = omega arith
      low_does (t.either a b) k s None r w = let e1 = some_test (test p a s r (low p a s (Some r) r)) in omega (arith, e1)
      low_does (t.either a b) k s (Some to) r w = omega arith
      low_does (t.conditional ty a b c) k s to r w = let e1 = some_test (test p a s r (low p a s (Some r) r)) in omega (arith, e1)
      low_does (t.set_slot ty i a) k s to r w = let e1 = set_does (is_empty (low p a s (Some i) r)) s i (low p a s (Some i) r) (λ e. low_does a k.1 s (Some i) r (inl e)) in omega (arith, e1)
      low_does (t.store ty a b) k s to r w = omega arith
      low_does (t.update_slot ty i within o a) k s to r w = let e1 = assigned_does ty within o s i (r + 2) (at (is_quiet a) (t.slot ty i) r) (at true a (r + 1)) in omega (arith, e1)
      low_does (t.update ty a within o b) k s to r w = omega arith
      low_does (t.step_slot ty i within o) k s None r w = omega arith
      low_does (t.step_slot ty i within o) k s (Some to) r w = omega arith
      low_does (t.step ty a within o) k s to r w = omega arith
      low_does (t.call ty f all) k s to r w = omega arith
      low_does t.get_byte k s to r w = omega arith
      low_does (t.put_byte a) k s None r w = omega arith
      low_does (t.put_byte a) k s (Some to) r w = omega arith
      low_does (t.put_number a) k s to r w = omega arith
      low_does (t.comma all a) k s to r w = comma_does to (effects p all s r) (low p a s to r) (λ e. effects_do all k.0 s r e) (λ w. low_does a k.1 s to r w) w

      effects_do : (all : Exps) → KeepsExps p kinds all → (s r : ℕ) → is_empty (effects p all s r) ≡ false → 1 ≤ least (effects p all s r)
      effects_do t.no_exp k s r e = absurd (full e)
      effects_do (t.an_exp a t.no_exp) k s r e = low_does a k.0 s None r (inl e)
      effects_do (t.an_exp a (t.an_exp b more)) k s r e =
          let A = low p a s None r in
          let B = effects p (t.an_exp b more) s r in
          not_both (is_empty A) (is_empty B) (least A) (least B) e (λ e. low_does a k.0 s None r (inl e)) (λ e. effects_do (t.an_exp b more) k.1 s r e)

    -- a variable that is set takes an operation
    given_least : (a : Exp) → KeepsExp p kinds a → (s r : ℕ) → given a ≤ least (low p a s None r)
    given_least (t.set_slot ty i a) k s r = let e1 = set_does (is_empty (low p a s (Some i) r)) s i (low p a s (Some i) r) (λ e. low_does a k.1 s (Some i) r (inl e)) in omega (arith, e1)
    given_least (t.store ty a b) k s r = omega arith
    given_least a k s r = omega arith

    pub given_in_least : (all : Exps) → KeepsExps p kinds all → (s r : ℕ) → given_in all ≤ least (effects p all s r)
    given_in_least t.no_exp k s r = omega arith
    given_in_least (t.an_exp a t.no_exp) k s r = let e1 = given_least a k.0 s r in omega (arith, e1)
    given_in_least (t.an_exp a (t.an_exp b more)) k s r = let e1 = given_least a k.0 s r in let e2 = given_in_least (t.an_exp b more) k.1 s r in omega (arith, e1, e2)

    -- ---- statements

    module _ (result : ValueType) where
      mutual
        pub declared_least : (b : Stm) (l : Bool) → KeepsStm p kinds result l b → (r : ℕ) → declared b ≤ least (low_stm p b r)
        declared_least (t.block all) l k r = declared_in_least all l k r
        declared_least (t.if_then s a b) l k r = let e1 = declared_least b l k.1 r in omega (arith, e1)
        declared_least (t.if_else s a b c) l k r = let e1 = declared_least b l k.1 r in let e2 = declared_least c l k.2 r in omega (arith, e1, e2)
        declared_least (t.while_loop s a b) l k r = let e1 = declared_least b true k.1 r in omega (arith, e1)
        declared_least (t.do_while s b a) l k r = let e1 = declared_least b true k.0 r in omega (arith, e1)
        declared_least (t.for_loop s all a t.missing b) l k r = let e1 = given_in_least all k.0 s r in let e2 = declared_least b true k.3 r in omega (arith, e1, e2)
        declared_least (t.for_loop s all a (t.given c) b) l k r = let e1 = given_in_least all k.0 s r in let e2 = declared_least b true k.3 r in omega (arith, e1, e2)
        declared_least (t.local s all) l k r = given_in_least all k s r
        declared_least b l k r = omega arith

        pub declared_in_least : (all : Stms) (l : Bool) → KeepsStms p kinds result l all → (r : ℕ) → declared_in all ≤ least (low_stms p all r)
        declared_in_least t.no_stm l k r = omega arith
        declared_in_least (t.a_stm a t.no_stm) l k r = let e1 = declared_least a l k.0 r in omega (arith, e1)
        declared_in_least (t.a_stm a (t.a_stm b rest)) l k r = let e1 = declared_least a l k.0 r in let e2 = declared_in_least (t.a_stm b rest) l k.1 r in omega (arith, e1, e2)

  -- ---- parameters

  -- a parameter in the frame takes a register, and two operations
  stored_least : (ty : ValueType) (q : Home) (r free : ℕ) → least (stored p ty q r free) + (r + r) ≡ behind_home q r + behind_home q r
  stored_least ty (h.Slot k) r free = omega arith
  stored_least ty (h.Frame offset) r free = omega arith

  pub all_stored_least : (qs : List Param) (r free : ℕ) → least (all_stored p qs r free) + (r + r) ≡ behind_params qs r + behind_params qs r
  all_stored_least [] r free = omega arith
  all_stored_least (q ∷ qs) r free =
      let e1 = stored_least q.ty q.home r free in
      let e2 = all_stored_least qs (behind_home q.home r) free in
      omega (arith, e1, e2)
