-- What expressions are lowered to.
use Rattle.std.specs.Prelude.{ℕ, ◌+◌, ℤ, pos, ◌+ℤ◌, List, [], ◌∷◌, slice_index_or, Option, Some, None, Bool, true, false, ◌&&◌, if◌then◌else◌}
use Rattle.ib_base.specs.declared.integers.Width.{Width}
use Rattle.ib_base.specs.declared.integers.Width.TheVariants.{W1, W4, W8}
use Rattle.ib_act.specs.declared.act.Size.TheVariants.{Eight}
use Rattle.ib_act.specs.declared.act.Act.TheVariants.{Const, Mov, Add, Equal, ExtByte, FrameAddress, Bounds, Load, Store, Get, PutByte, PutNumber}
use Rattle.c_typed.specs.declared.expr.Storage.{Storage}
use Rattle.c_typed.specs.declared.expr.Storage.TheVariants.{Global, Frame}
use Rattle.c_typed.specs.declared.expr.Reach.{Reach}
use Rattle.c_typed.specs.Tree as t
use Rattle.c_typed.specs.Tree.{Exp, Exps}
use Rattle.c_typed.specs.Program.{Program}
use Rattle.c_typed.specs.Values as values
use Rattle.c_typed.specs.Values.{width_of, is_true, ranked, further, in_bounds}
use Rattle.tac_lowered.specs.Code.{Code, nothing, does, both, calls, when, choose, Test, settled, on, all_of, one_of, inverse, ◌⨾◌}
use Rattle.tac_lowered.specs.Operators.{moved, number, or_else, narrows, cut, scaled, scaled_in, operated, given_by, assigned, sign, bound}

-- a width that its value lies in
abbrev mutual
  pub width_in : Exp → Width
  width_in (t.constant ty v) = width_of ty
  width_in (t.slot ty k) = width_of ty
  width_in (t.load ty a) = width_of ty
  width_in (t.convert ty a) = width_of ty
  width_in (t.unary op rank a) = ranked rank
  width_in (t.not a) = W1
  width_in (t.binary ty op a b) = given_by op
  width_in (t.both a b) = W1
  width_in (t.either a b) = W1
  width_in (t.conditional ty a b c) = width_of ty
  width_in (t.set_slot ty k a) = width_of ty
  width_in (t.store ty a b) = width_of ty
  width_in (t.update_slot ty k within op a) = width_of ty
  width_in (t.update ty a within op b) = width_of ty
  width_in (t.step_slot ty k within op) = width_of ty
  width_in (t.step ty a within op) = width_of ty
  width_in (t.call ty f all) = width_of ty
  width_in t.get_byte = W4
  width_in (t.put_byte a) = W1
  width_in (t.put_number a) = W1
  width_in (t.comma all a) = width_in a
  width_in e = W8

-- it sets no slot
abbrev mutual
  pub is_quiet : Exp → Bool
  is_quiet (t.element ty array length size reach a) = is_quiet a
  is_quiet (t.load ty a) = is_quiet a
  is_quiet (t.convert ty a) = is_quiet a
  is_quiet (t.unary op rank a) = is_quiet a
  is_quiet (t.not a) = is_quiet a
  is_quiet (t.binary ty op a b) = is_quiet a && is_quiet b
  is_quiet (t.both a b) = is_quiet a && is_quiet b
  is_quiet (t.either a b) = is_quiet a && is_quiet b
  is_quiet (t.conditional ty a b c) = is_quiet a && (is_quiet b && is_quiet c)
  is_quiet (t.set_slot ty k a) = false
  is_quiet (t.store ty a b) = is_quiet a && is_quiet b
  is_quiet (t.update_slot ty k within op a) = false
  is_quiet (t.update ty a within op b) = is_quiet a && is_quiet b
  is_quiet (t.step_slot ty k within op) = false
  is_quiet (t.step ty a within op) = is_quiet a
  is_quiet (t.call ty f all) = are_quiet all
  is_quiet (t.put_byte a) = is_quiet a
  is_quiet (t.put_number a) = is_quiet a
  is_quiet (t.comma all a) = are_quiet all && is_quiet a
  is_quiet e = true

  pub are_quiet : Exps → Bool
  are_quiet t.no_exp = true
  are_quiet (t.an_exp a rest) = is_quiet a && are_quiet rest

-- An operand's code, and the register that its value is in: a slot is its own, where nothing sets it before it is read.
abbrev pub held : (is_kept : Bool) → Exp → Code → Code
held true (t.slot ty k) code = nothing
held is_kept e code = code

abbrev pub at : (is_kept : Bool) → Exp → (r : ℕ) → ℕ
at true (t.slot ty k) r = k
at is_kept e r = r

-- the first register that is free behind an operand
abbrev pub behind_operand : (is_kept : Bool) → Exp → (r : ℕ) → ℕ
behind_operand true (t.slot ty k) r = r
behind_operand is_kept e r = r + 1

-- it does nothing
abbrev pub is_empty : Code → Bool
is_empty nothing = true
is_empty (both a b) = is_empty a && is_empty b
is_empty a = false

-- What sets a variable does something, if only a move to itself: so variables are never more than operations.
abbrev pub some_code : (s k : ℕ) → Code → Code
some_code s k code = if is_empty code then does s (Mov k k) else code

-- an index that is known to be within its bounds
abbrev pub known : Reach → (length : ℕ) → Exp → Option ℤ
known reach length (t.constant ty i) = if in_bounds reach length i then Some i else None
known reach length e = None

-- the registers that arguments are in
abbrev pub passed : Exps → (r : ℕ) → List ℕ
passed t.no_exp r = []
passed (t.an_exp a rest) r = at (are_quiet rest) a r ∷ passed rest (behind_operand (are_quiet rest) a r)

module _ (p : Program) where
  abbrev pub address : (s to : ℕ) → Storage → Code
  address s to (Global n) = does s (Const to (pos (slice_index_or p.globals n 0)))
  address s to (Frame offset) = does s (FrameAddress to (pos offset))

  -- the address so many bytes further on
  abbrev pub address_at : (s to : ℕ) → Storage → (bytes : ℤ) → Code
  address_at s to (Global n) bytes = does s (Const to (further (pos (slice_index_or p.globals n 0)) bytes))
  address_at s to (Frame offset) bytes = does s (FrameAddress to (pos offset +ℤ bytes))

  -- the address of an element, from an index that is known or that code leaves in x
  abbrev pub indexed : (s : ℕ) → (to : Option ℕ) → (r : ℕ) → Storage → (length size : ℕ) → Reach → Option ℤ → Code → (x : ℕ) → Code
  indexed s to r array length size reach (Some i) code x = address_at s (or_else to r) array (values.scaled size i)
  indexed s to r array length size reach None code x =
      code
      ⨾ (does s (Bounds r x (bound reach length))
      ⨾ (scaled s (r + 1) size r ⨾ (address s (r + 2) array ⨾ does s (Add Eight (or_else to r) (r + 2) (scaled_in (r + 1) size r)))))

  -- The code of an expression of statement s. Registers below r are kept, but for the slots that it sets. Where a value is
  -- wanted in a register, the last thing that is done is to write it there.
  abbrev mutual
    pub low : Exp → (s : ℕ) → (to : Option ℕ) → (r : ℕ) → Code
    low (t.constant ty v) s to r = number s to v
    low (t.text k) s to r = number s to (pos (slice_index_or p.strings k 0))
    low (t.address ty of) s None r = nothing
    low (t.address ty of) s (Some to) r = address s to of
    low (t.element ty array length size reach a) s to r =
        indexed s to r array length size reach (known reach length a) (held true a (low a s (Some r) r)) (at true a r)
    low (t.slot ty k) s to r = moved s to k
    low (t.load ty a) s to r = held true a (low a s (Some r) r) ⨾ does s (Load (width_of ty) (or_else to r) (at true a r) (pos 0))
    low (t.convert ty a) s None r = low a s None r
    low (t.convert ty a) s (Some to) r =
        if narrows (width_in a) (width_of ty) then held true a (low a s (Some r) r) ⨾ does s (cut (width_of ty) to (at true a r))
        else low a s (Some to) r
    low (t.unary op rank a) s to r = held true a (low a s (Some r) r) ⨾ sign op rank s (or_else to r) (r + 1) (at true a r)
    low (t.not a) s to r = held true a (low a s (Some r) r) ⨾ (does s (Const (r + 1) (pos 0)) ⨾ does s (Equal (or_else to r) (at true a r) (r + 1)))
    low (t.binary ty op a b) s to r =
        held (is_quiet b) a (low a s (Some r) r)
        ⨾ (held true b (low b s (Some (r + 1)) (r + 1)) ⨾ operated op s (or_else to r) (r + 2) (at (is_quiet b) a r) (at true b (r + 1)))
    low (t.both a b) s None r = when s (test a s r (low a s (Some r) r)) (low b s None r)
    low (t.both a b) s (Some to) r =
        choose s (all_of (test a s r (low a s (Some r) r)) (test b s r (low b s (Some r) r))) (does s (Const to (pos 1))) (does s (Const to (pos 0)))
    low (t.either a b) s None r = when s (inverse (test a s r (low a s (Some r) r))) (low b s None r)
    low (t.either a b) s (Some to) r =
        choose s (one_of (test a s r (low a s (Some r) r)) (test b s r (low b s (Some r) r))) (does s (Const to (pos 1))) (does s (Const to (pos 0)))
    low (t.conditional ty a b c) s to r = choose s (test a s r (low a s (Some r) r)) (low b s to r) (low c s to r)
    low (t.set_slot ty k a) s to r = some_code s k (low a s (Some k) r) ⨾ moved s to k
    low (t.store ty a b) s to r =
        held (is_quiet b) a (low a s (Some r) r)
        ⨾ (held true b (low b s (Some (r + 1)) (r + 1))
        ⨾ (does s (Store (width_of ty) (at (is_quiet b) a r) (pos 0) (at true b (r + 1))) ⨾ moved s to (at true b (r + 1))))
    low (t.update_slot ty k within op a) s to r =
        held (is_quiet a) (t.slot ty k) (does s (Mov r k))
        ⨾ (held true a (low a s (Some (r + 1)) (r + 1))
        ⨾ (assigned ty within op s k (r + 2) (at (is_quiet a) (t.slot ty k) r) (at true a (r + 1)) ⨾ moved s to k))
    low (t.update ty a within op b) s to r =
        held (is_quiet b) a (low a s (Some r) r)
        ⨾ (does s (Load (width_of ty) (r + 1) (at (is_quiet b) a r) (pos 0))
        ⨾ (held true b (low b s (Some (r + 2)) (r + 2))
        ⨾ (assigned ty within op s (r + 1) (r + 3) (r + 1) (at true b (r + 2))
        ⨾ (does s (Store (width_of ty) (at (is_quiet b) a r) (pos 0) (r + 1)) ⨾ moved s to (r + 1)))))
    low (t.step_slot ty k within op) s None r = does s (Const r (pos 1)) ⨾ assigned ty within op s k (r + 1) k r
    low (t.step_slot ty k within op) s (Some to) r =
        does s (Mov r k) ⨾ (does s (Const (r + 1) (pos 1)) ⨾ (assigned ty within op s k (r + 2) r (r + 1) ⨾ moved s (Some to) r))
    low (t.step ty a within op) s to r =
        held true a (low a s (Some r) r)
        ⨾ (does s (Load (width_of ty) (r + 1) (at true a r) (pos 0))
        ⨾ (does s (Const (r + 2) (pos 1))
        ⨾ (assigned ty within op s (r + 2) (r + 3) (r + 1) (r + 2)
        ⨾ (does s (Store (width_of ty) (at true a r) (pos 0) (r + 2)) ⨾ moved s to (r + 1)))))
    low (t.call ty f all) s to r = low_all all s r ⨾ calls s to f (passed all r)
    low t.get_byte s to r = does s (Get (or_else to r))
    low (t.put_byte a) s None r = held true a (low a s (Some r) r) ⨾ does s (PutByte (at true a r))
    low (t.put_byte a) s (Some to) r = held true a (low a s (Some r) r) ⨾ (does s (PutByte (at true a r)) ⨾ does s (ExtByte to (at true a r)))
    low (t.put_number a) s to r = held true a (low a s (Some r) r) ⨾ (does s (PutNumber (at true a r)) ⨾ number s to (pos 0))
    low (t.comma all a) s to r = effects all s r ⨾ low a s to r

    -- the values of all, each in a slot or in a register of its own from r on
    pub low_all : Exps → (s r : ℕ) → Code
    low_all t.no_exp s r = nothing
    low_all (t.an_exp a rest) s r = held (are_quiet rest) a (low a s (Some r) r) ⨾ low_all rest s (behind_operand (are_quiet rest) a r)

    pub effects : Exps → (s r : ℕ) → Code
    effects t.no_exp s r = nothing
    effects (t.an_exp a t.no_exp) s r = low a s None r
    effects (t.an_exp a rest) s r = low a s None r ⨾ effects rest s r

    -- whether its value is not 0; `value` gives its value in r
    pub test : Exp → (s r : ℕ) → (value : Code) → Test
    test (t.constant ty v) s r value = settled s (is_true v)
    test (t.not a) s r value = inverse (test a s r (low a s (Some r) r))
    test (t.both a b) s r value = all_of (test a s r (low a s (Some r) r)) (test b s r (low b s (Some r) r))
    test (t.either a b) s r value = one_of (test a s r (low a s (Some r) r)) (test b s r (low b s (Some r) r))
    test e s r value = on s (held true e value) (at true e r)

  abbrev pub tested : Exp → (s r : ℕ) → Test
  tested a s r = test a s r (low a s (Some r) r)
