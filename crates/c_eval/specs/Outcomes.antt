-- What a run comes to from what is at hand and what waits for it, as the source meaning says it.
use Rattle.std.specs.Prelude.{◌≡◌, ℕ, ◌<◌, ℤ, pos, if◌then◌else◌, not, List, [], ◌∷◌}
use Rattle.ib_meaning.specs.Agreement.{Report, More, Over, Faulted}
use Rattle.c_typed.specs.Tree.{Exp, Exps, Stm, Stms}
use Rattle.c_typed.specs.Program.{Program, place_of}
use Rattle.c_typed.specs.Values.{converted, is_true, truth, ranked, operated, signed, element}
use Rattle.c_meaning.specs.Doing.{State, Step, Doing, ◌>>=◌, pure, or_fault, address_of, load, store, set_slot, get_byte, put_byte, put_number}
use Rattle.c_meaning.specs.Meaning as c
use Rattle.c_meaning.specs.Meaning.{Exits, turn, loop, body_exits, ends, left_to, calls}
use Rattle.c_eval.specs.Pending as p
use Rattle.c_eval.specs.Pending.{Turns, Caller, Frame, Exit, Task, Machine, Move, Goes, Faults, Ends, Stops}

-- the state of the meaning
abbrev pub state_of : (budget : ℕ) → Machine → (left out : List ℕ) → State
state_of b m left out = record { budget = b; depth = m.depth; base = m.base; top = m.top; slots = m.slots; memory = m.memory; left = left; out = out }

-- what is done with a value, with arguments, and where a statement may go
pub record After : Type 0 where
  pub give : ℤ → Step
  pub take : List ℤ → Step
  pub exits : Exits

abbrev pub returns_to : Caller → State → State
returns_to c s = record s { depth = c.depth; base = c.base; top = c.top; slots = c.slots }

module _ (q : Program) (n : ℕ) where
  abbrev pub value : Exp → (number : ℕ) → Doing ℤ
  value e s = c.eval q (calls q n) n e (place_of q s)

  abbrev pub values : Exps → (number : ℕ) → Doing (List ℤ)
  values es s = c.evals q (calls q n) n es (place_of q s)

  abbrev pub run : Stm → Exits → Step
  run a = c.exec q (calls q n) n a

  abbrev pub runs : Stms → Exits → Step
  runs all = c.execs q (calls q n) n all

  abbrev pub test_of : Turns → Doing ℤ
  test_of a = c.part q (calls q n) n (pos 1) a.test (place_of q a.number)

  abbrev pub last_of : Turns → Doing ℤ
  last_of a = c.part q (calls q n) n (pos 0) a.last (place_of q a.number)

  abbrev pub loop_of : Turns → Exits → Step
  loop_of a x = loop n (test_of a) (last_of a) (run a.body) x

  -- a turn's last part, and the turns behind it
  abbrev pub onward_of : Turns → Exits → Step
  onward_of a x = last_of a (λ _. loop_of a x)

  abbrev pub turn_of : Turns → Exits → Step
  turn_of a x = turn (run a.body) (onward_of a x) x

  unfoldable pub given : Frame → After → ℤ → Step
  given (p.element array length size reach s) k = λ i. address_of q array (λ at. or_fault (place_of q s) (element at length size reach i) k.give)
  given (p.load ty s) k = λ a. load (place_of q s) ty a k.give
  given (p.convert ty) k = λ v. k.give (converted ty v)
  given (p.unary op rank) k = λ v. k.give (signed op (ranked rank) v)
  given p.not k = λ v. k.give (truth (not (is_true v)))
  given (p.left op b s) k = λ v. value b s (λ y. or_fault (place_of q s) (operated op v y) k.give)
  given (p.right op x s) k = λ y. or_fault (place_of q s) (operated op x y) k.give
  given (p.both b s) k = λ v. (if is_true v then value b s >>= (λ y. pure (truth (is_true y))) else pure (pos 0)) k.give
  given (p.either b s) k = λ v. (if is_true v then pure (pos 1) else value b s >>= (λ y. pure (truth (is_true y)))) k.give
  given p.truth k = λ v. k.give (truth (is_true v))
  given (p.choice a b s) k = λ v. (if is_true v then value a s else value b s) k.give
  given (p.set_slot j) k = λ v. set_slot j v k.give
  given (p.store_at ty b s) k = λ a. value b s (λ v. store (place_of q s) ty a v k.give)
  given (p.store_value ty a s) k = λ v. store (place_of q s) ty a v k.give
  given (p.update_slot ty j within op old s) k = λ y. or_fault (place_of q s) (operated op (converted within old) y) (λ new. set_slot j (converted ty new) k.give)
  given (p.update_at ty within op b s) k = λ a. load (place_of q s) ty a (λ old. value b s (λ y. or_fault (place_of q s) (operated op (converted within old) y) (λ new. store (place_of q s) ty a (converted ty new) k.give)))
  given (p.update_value ty a within op old s) k = λ y. or_fault (place_of q s) (operated op (converted within old) y) (λ new. store (place_of q s) ty a (converted ty new) k.give)
  given (p.step_at ty within op s) k = λ a. load (place_of q s) ty a (λ old. or_fault (place_of q s) (operated op (converted within old) (pos 1)) (λ new. store (place_of q s) ty a (converted ty new) (λ v. k.give old)))
  given (p.argument rest s) k = λ v. values rest s (λ vs. k.take (v ∷ vs))
  given p.put_byte k = λ v. put_byte v k.give
  given p.put_number k = λ v. put_number v k.give
  given (p.comma rest last s) k = λ v. values rest s (λ vs. value last s k.give)
  given p.discard k = λ v. k.exits.next
  given (p.if_then a) k = λ v. if is_true v then run a k.exits else k.exits.next
  given (p.if_else a b) k = λ v. if is_true v then run a k.exits else run b k.exits
  given (p.parts rest s) k = λ v. values rest s (λ vs. k.exits.next)
  given (p.turn_test a) k = λ v. if is_true v then turn_of a k.exits else k.exits.next
  given (p.turn_last a) k = λ v. loop_of a k.exits
  given p.give_back k = k.exits.on_return
  given frame k = k.give

  unfoldable pub taken : Frame → After → List ℤ → Step
  taken (p.held v) k = λ vs. k.take (v ∷ vs)
  taken (p.callee f s) k = λ vs. calls q n (place_of q s) f vs k.give
  taken frame k = k.take

  unfoldable pub left_by : Frame → After → Exits
  left_by (p.rest all) k = record k.exits { next = runs all k.exits }
  left_by (p.begin a) k = record k.exits { next = loop_of a k.exits }
  left_by (p.in_turn a) k = record k.exits { next = onward_of a k.exits; on_break = k.exits.next; on_continue = onward_of a k.exits }
  left_by (p.called c) k = body_exits (λ v s. k.give v (returns_to c s))
  left_by frame k = k.exits

  unfoldable pub after : List Frame → After
  after [] = record { give = ends; take = λ vs. ends (pos 0); exits = body_exits ends }
  after (frame ∷ frames) = record { give = given frame (after frames); take = taken frame (after frames); exits = left_by frame (after frames) }

  abbrev pub leaving : Exit → Exits → Step
  leaving p.next x = x.next
  leaving p.on_break x = x.on_break
  leaving p.on_continue x = x.on_continue
  leaving (p.on_return v) x = x.on_return v

  unfoldable pub doing : Task → (arguments : List ℤ) → After → Step
  doing (p.eval e s) vs k = value e s k.give
  doing (p.give v) vs k = k.give v
  doing p.pass vs k = k.take vs
  doing (p.exec a) vs k = run a k.exits
  doing (p.leave exit) vs k = leaving exit k.exits
  doing p.get_byte vs k = get_byte k.give
  doing (p.put_byte_of v) vs k = put_byte v k.give
  doing (p.put_number_of v) vs k = put_number v k.give
  doing (p.call f s) vs k = calls q n (place_of q s) f vs k.give
  doing (p.turn a) vs k = turn_of a k.exits

-- the outcome of a run that goes on so
unfoldable pub outcome : Program → (n budget : ℕ) → Task → Machine → (left out : List ℕ) → Report
outcome q n b task m left out = doing q n task m.arguments (after q n m.frames) (state_of b m left out)

-- what a move comes to
abbrev pub comes_to : Program → (n budget : ℕ) → Move → (left out : List ℕ) → Report
comes_to q n b (Goes task m) left out = outcome q n b task m left out
comes_to q n b (Faults s kind) left out = Over (Faulted (place_of q s) kind) out left
comes_to q n b (Ends v) left out = ends v (state_of b (record { frames = []; arguments = []; depth = 0; base = 0; top = 0; slots = []; memory = [] }) left out)
comes_to q n b Stops left out = More out left

-- the move leaves the outcome as it is
abbrev pub Keeps : Program → Task → Machine → Move → Type 0
Keeps q task m move = (n b : ℕ) → b < n → (left out : List ℕ) → outcome q n b task m left out ≡ comes_to q n b move left out
