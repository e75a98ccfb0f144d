-- What a typed program does.
use Rattle.std.specs.Prelude.{ℕ, zero, suc, ◌+◌, nat_le, nat_lt, ℤ, pos, Bool, not, ◌||◌, if◌then◌else◌, List, [], ◌∷◌, Option, Some, None, replicate, slice_get, slice_index_or, slice_set}
use Rattle.std.specs.Int.{w64, cast_unsigned}
use Rattle.ib_base.specs.declared.integers.Width.TheVariants.{W4}
use Rattle.ib_base.specs.Integers.{wrapped}
use Rattle.ib_mem.specs.Memory.{zeros, filled, cleared, stored}
use Rattle.ib_meaning.specs.declared.place.Place.{Place}
use Rattle.ib_meaning.specs.declared.fault.FaultKind.TheVariants.{StackOverflow}
use Rattle.ib_meaning.specs.Agreement.{Meaning, Over, Returned}
use Rattle.c_typed.specs.declared.types.ValueType.{ValueType}
use Rattle.c_typed.specs.declared.program.Home.{Home}
use Rattle.c_typed.specs.declared.program.Home.TheVariants.{Slot, Frame}
use Rattle.c_typed.specs.declared.program.Param.{Param}
use Rattle.c_typed.specs.Tree as t
use Rattle.c_typed.specs.Tree.{Exp, Exps, Maybe, Stm, Stms, Function}
use Rattle.c_typed.specs.Program.{Program, main_of, first_frame, place_of}
use Rattle.c_typed.specs.ValueTypes.{size_of}
use Rattle.c_typed.specs.Values.{converted, is_true, truth, ranked, further, operated, signed, element}
use Rattle.c_meaning.specs.Doing.{State, Step, Doing, ◌>>=◌, ◌>>◌, pure, stop, fault, or_fault, spend, get_slot, set_slot, address_of, load, store, get_byte, put_byte, put_number}

-- where a statement may go
pub record Exits : Type 0 where
  pub next : Step
  pub on_break : Step
  pub on_continue : Step
  pub on_return : ℤ → Step

-- one turn of a loop, and what comes behind it
abbrev pub turn : (body : Exits → Step) → (again : Step) → Exits → Step
turn body again x = spend (body (record x { next = again; on_break = x.next; on_continue = again }))

-- At most so many turns, each behind a test. The number only makes this end: it is above the budget, of which each turn
-- spends a unit.
abbrev pub loop : ℕ → (test last : Doing ℤ) → (body : Exits → Step) → Exits → Step
loop zero test last body x = stop
loop (suc n) test last body x =
    test (λ v. if is_true v then turn body (last (λ _. loop n test last body x)) x else x.next)

-- calls of functions, and a number above the budget
module _ (p : Program) (call : Place → ℕ → List ℤ → Doing ℤ) (n : ℕ) where
  abbrev mutual
    -- the value of an expression of the statement that stands there
    pub eval : Exp → Place → Doing ℤ
    eval (t.constant ty v) at = pure v
    eval (t.text k) at = pure (pos (slice_index_or p.strings k 0))
    eval (t.address ty of) at = address_of p of
    eval (t.element ty array length size reach a) at = do
      i ← eval a at
      start ← address_of p array
      or_fault at (element start length size reach i)
    eval (t.slot ty k) at = get_slot k
    eval (t.load ty a) at = do
      from ← eval a at
      load at ty from
    eval (t.convert ty a) at = do
      x ← eval a at
      pure (converted ty x)
    eval (t.unary op rank a) at = do
      x ← eval a at
      pure (signed op (ranked rank) x)
    eval (t.not a) at = do
      x ← eval a at
      pure (truth (not (is_true x)))
    eval (t.binary ty op a b) at = do
      x ← eval a at
      y ← eval b at
      or_fault at (operated op x y)
    eval (t.both a b) at = do
      x ← eval a at
      if is_true x then eval b at >>= (λ y. pure (truth (is_true y))) else pure (pos 0)
    eval (t.either a b) at = do
      x ← eval a at
      if is_true x then pure (pos 1) else eval b at >>= (λ y. pure (truth (is_true y)))
    eval (t.conditional ty a b c) at = do
      x ← eval a at
      if is_true x then eval b at else eval c at
    eval (t.set_slot ty k a) at = do
      v ← eval a at
      set_slot k v
    eval (t.store ty a b) at = do
      to ← eval a at
      v ← eval b at
      store at ty to v
    eval (t.update_slot ty k within op a) at = do
      old ← get_slot k
      y ← eval a at
      new ← or_fault at (operated op (converted within old) y)
      set_slot k (converted ty new)
    eval (t.update ty a within op b) at = do
      to ← eval a at
      old ← load at ty to
      y ← eval b at
      new ← or_fault at (operated op (converted within old) y)
      store at ty to (converted ty new)
    eval (t.step_slot ty k within op) at = do
      old ← get_slot k
      new ← or_fault at (operated op (converted within old) (pos 1))
      set_slot k (converted ty new)
      pure old
    eval (t.step ty a within op) at = do
      to ← eval a at
      old ← load at ty to
      new ← or_fault at (operated op (converted within old) (pos 1))
      store at ty to (converted ty new)
      pure old
    eval (t.call ty f all) at = do
      vs ← evals all at
      call at f vs
    eval t.get_byte at = get_byte
    eval (t.put_byte a) at = do
      v ← eval a at
      put_byte v
    eval (t.put_number a) at = do
      v ← eval a at
      put_number v
    eval (t.comma all a) at = do
      evals all at
      eval a at

    pub evals : Exps → Place → Doing (List ℤ)
    evals t.no_exp at = pure []
    evals (t.an_exp a rest) at = do
      v ← eval a at
      vs ← evals rest at
      pure (v ∷ vs)

  -- the value of a part that may be missing
  abbrev pub part : (missing : ℤ) → Maybe → Place → Doing ℤ
  part v t.missing at = pure v
  part v (t.given a) at = eval a at

  abbrev mutual
    pub exec : Stm → Exits → Step
    exec (t.block all) x = execs all x
    exec (t.empty s) x = x.next
    exec (t.expression s a) x = eval a (place_of p s) (λ _. x.next)
    exec (t.if_then s a b) x = eval a (place_of p s) (λ v. if is_true v then exec b x else x.next)
    exec (t.if_else s a b c) x = eval a (place_of p s) (λ v. if is_true v then exec b x else exec c x)
    exec (t.while_loop s a b) x = loop n (eval a (place_of p s)) (pure (pos 0)) (exec b) x
    exec (t.do_while s b a) x = turn (exec b) (loop n (eval a (place_of p s)) (pure (pos 0)) (exec b) x) x
    exec (t.for_loop s all a c b) x =
        evals all (place_of p s) (λ _. loop n (part (pos 1) a (place_of p s)) (part (pos 0) c (place_of p s)) (exec b) x)
    exec (t.break s) x = x.on_break
    exec (t.continue s) x = x.on_continue
    exec (t.return s a) x = part (pos 0) a (place_of p s) x.on_return
    exec (t.local s all) x = evals all (place_of p s) (λ _. x.next)

    pub execs : Stms → Exits → Step
    execs t.no_stm x = x.next
    execs (t.a_stm a rest) x = exec a (record x { next = execs rest x })

abbrev pub max_depth : ℕ
max_depth = 4096

abbrev pub memory_size : ℕ
memory_size = 1048576

-- one call more would be too deep, or its frame would not end within the memory
abbrev pub overflows : Function → State → Bool
overflows f s = nat_le max_depth s.depth || nat_lt memory_size (s.top + f.frame)

-- the memory behind an access that does not fault
abbrev pub behind_store : List ℕ → Option (List ℕ) → List ℕ
behind_store memory None = memory
behind_store memory (Some after) = after

-- a parameter that lives in the environment
abbrev pub set_in_slots : Home → ℤ → List ℤ → List ℤ
set_in_slots (Slot k) v slots = slice_set slots k v
set_in_slots (Frame offset) v slots = slots

-- a parameter that lives in the frame
abbrev pub set_in_frame : (base : ℕ) → ValueType → Home → ℤ → List ℕ → List ℕ
set_in_frame base ty (Slot k) v memory = memory
set_in_frame base ty (Frame offset) v memory =
    behind_store memory (stored memory (further (pos base) (pos offset)) (size_of ty) (cast_unsigned w64 v))

abbrev pub slots_passed : List Param → List ℤ → List ℤ → List ℤ
slots_passed (q ∷ qs) (v ∷ vs) slots = slots_passed qs vs (set_in_slots q.home v slots)
slots_passed qs vs slots = slots

abbrev pub frame_passed : (base : ℕ) → List Param → List ℤ → List ℕ → List ℕ
frame_passed base (q ∷ qs) (v ∷ vs) memory = frame_passed base qs vs (set_in_frame base q.ty q.home v memory)
frame_passed base qs vs memory = memory

-- in a frame and an environment of its own, all 0 but for the parameters
abbrev pub entered : Function → List ℤ → State → State
entered f vs s = record s {
  depth = suc s.depth;
  base = s.top;
  top = s.top + f.frame;
  slots = slots_passed f.params vs (replicate f.slots (pos 0));
  memory = frame_passed s.top f.params vs (cleared s.memory s.top f.frame);
}

-- back in the caller's frame
abbrev pub left_to : (caller : State) → State → State
left_to caller s = record s { depth = caller.depth; base = caller.base; top = caller.top; slots = caller.slots }

-- a body's exits: falling off its end gives 0
abbrev pub body_exits : (ℤ → Step) → Exits
body_exits k = record { next = k (pos 0); on_break = k (pos 0); on_continue = k (pos 0); on_return = k }

abbrev pub enter : (Function → Exits → Step) → Place → Option Function → List ℤ → Doing ℤ
enter run at None vs k s = stop s
enter run at (Some f) vs k s =
    if overflows f s then fault at StackOverflow s else run f (body_exits (λ v r. k v (left_to s r))) (entered f vs s)

-- calls that nest at most so deep; each spends a unit
abbrev pub calls : Program → ℕ → Place → ℕ → List ℤ → Doing ℤ
calls p zero at f vs k = stop
calls p (suc n) at f vs k = spend (enter (λ g. execs p (calls p n) n g.body) at (slice_get p.functions f) vs k)

abbrev pub ends : ℤ → Step
ends v s = Over (Returned (wrapped W4 v)) s.out s.left

abbrev pub run_main : Program → ℕ → Option Function → Step
run_main p n None s = stop s
run_main p n (Some f) s = execs p (calls p n) n f.body (body_exits ends) (entered f [] s)

unfoldable pub first_memory : List ℕ → List ℕ
first_memory image = filled (zeros memory_size) 4096 image

-- before the start of `main`
abbrev pub start : Program → List ℕ → ℕ → State
start p input budget = record {
  budget = budget;
  depth = 0;
  base = first_frame p;
  top = first_frame p;
  slots = [];
  memory = first_memory p.image;
  left = input;
  out = [];
}

-- the meaning of a program, by a budget of turns and calls
unfoldable pub source_meaning : Program → Meaning
source_meaning p input budget = run_main p (suc budget) (slice_get p.functions (main_of p)) (start p input budget)
