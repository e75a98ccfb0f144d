-- Each move leaves the outcome as it is.
use Rattle.std.proofs.Common.{◌≡◌, ℕ, zero, suc, ◌+◌, ◌<◌, ◌≤◌, ℤ, pos, Bool, true, false, List, [], ◌∷◌, Option, Some, None, Result, Ok, Err, refl, ap, ◌∙◌, arith, if◌then◌else◌}
use Rattle.std.specs.Prelude.{slice_get, slice_index_or, replicate}
use Rattle.std.specs.Int.{w64, cast_unsigned}
use Rattle.ib_mem.specs.Memory.{loaded, stored}
use Rattle.ib_meaning.specs.declared.fault.FaultKind.{FaultKind}
use Rattle.ib_meaning.specs.declared.fault.FaultKind.TheVariants.{StackOverflow}
use Rattle.ib_meaning.specs.Agreement.{More}
use Rattle.c_typed.specs.declared.types.ValueType.{ValueType}
use Rattle.c_typed.specs.Tree as t
use Rattle.c_typed.specs.Tree.{Exp, Exps, Maybe, Stm, Stms, Function}
use Rattle.c_typed.specs.Program.{Program, place_of, main_of}
use Rattle.c_typed.specs.ValueTypes.{size_of}
use Rattle.c_typed.specs.Values.{converted, operated, is_true, accessed, element}
use Rattle.c_meaning.specs.Doing.{Step, Doing, fault, or_fault, load, store, storage, set_slot}
use Rattle.c_meaning.specs.Meaning.{part, calls, enter, run_main, start, source_meaning}
use Rattle.c_meaning.proofs.Level.{loop_opens, call_opens}
use Rattle.c_eval.specs.Pending as p
use Rattle.c_eval.specs.Pending.{Turns, Frame, Exit, Task, Machine, Move, Goes, Faults, Ends, Stops}
use Rattle.c_eval.specs.Moves as moves
use Rattle.c_eval.specs.Outcomes.{After, outcome, comes_to, doing, after, given, taken, left_by, state_of, value, values, loop_of, onward_of, turn_of, runs, leaving}

module _ (q : Program) (n b : ℕ) (left out : List ℕ) where
  abbrev k : Machine → After
  k m = after q n m.frames

  given_kept : (r : Result ℤ FaultKind) (s : ℕ) (m : Machine) → or_fault (place_of q s) r (k m).give (state_of b m left out) ≡ comes_to q n b (moves.given_or r s m) left out
  unfolding outcome doing
  given_kept (Ok v) s m = refl
  given_kept (Err kind) s m = refl

  set_kept : (r : Result ℤ FaultKind) (ty : ValueType) (j : ℕ) (give : ℤ → ℤ) (s : ℕ) (m : Machine)
      → or_fault (place_of q s) r (λ new. set_slot j (converted ty new) (λ v. (k m).give (give v))) (state_of b m left out) ≡ comes_to q n b (moves.set_or r ty j give s m) left out
  unfolding outcome doing
  set_kept (Ok v) ty j give s m = refl
  set_kept (Err kind) ty j give s m = refl

  store_kept : (ty : ValueType) (a v : ℤ) (give : ℤ) (s : ℕ) (m : Machine)
      → store (place_of q s) ty a v (λ w. (k m).give give) (state_of b m left out) ≡ comes_to q n b (moves.store ty a v give s m) left out
  unfolding outcome doing
  store_kept ty a v give s m = go (accessed (stored m.memory a (size_of ty) (cast_unsigned w64 v)))
    where
      go : (r : Result (List ℕ) FaultKind) → or_fault (place_of q s) r (λ memory u. (k m).give give (record (state_of b m left out) { memory = memory })) (state_of b m left out) ≡ comes_to q n b (moves.written_or r give s m) left out
      go (Ok memory) = refl
      go (Err kind) = refl

  read_kept : (ty : ValueType) (a : ℤ) (s : ℕ) (m : Machine) (h : ℤ → Step) (move : Result ℤ FaultKind → Move)
      → ((v : ℤ) → h v (state_of b m left out) ≡ comes_to q n b (move (Ok v)) left out) → ((kind : FaultKind) → Faults s kind ≡ move (Err kind))
      → load (place_of q s) ty a h (state_of b m left out) ≡ comes_to q n b (move (moves.read ty a m)) left out
  read_kept ty a s m h move does faults = go (accessed (loaded m.memory a (size_of ty)))
    where
      go : (r : Result ℕ FaultKind) → or_fault (place_of q s) r (λ x. h (converted ty (pos x))) (state_of b m left out) ≡ comes_to q n b (move (moves.loaded_as ty r)) left out
      go (Ok x) = does (converted ty (pos x))
      go (Err kind) = ap (λ move. comes_to q n b move left out) (faults kind)

  store_or_kept : (r : Result ℤ FaultKind) (ty : ValueType) (a : ℤ) (give : ℤ → ℤ) (s : ℕ) (m : Machine)
      → or_fault (place_of q s) r (λ new. store (place_of q s) ty a (converted ty new) (λ w. (k m).give (give (converted ty new)))) (state_of b m left out) ≡ comes_to q n b (moves.store_or r ty a give s m) left out
  store_or_kept (Ok v) ty a give s m = store_kept ty a (converted ty v) (give (converted ty v)) s m
  store_or_kept (Err kind) ty a give s m = refl

  pass_kept : (all : Exps) (s : ℕ) (m : Machine) → values q n all s (k m).take (state_of b m left out) ≡ comes_to q n b (moves.pass_first all s m) left out
  unfolding outcome doing after given
  pass_kept t.no_exp s m = refl
  pass_kept (t.an_exp a rest) s m = refl

  comma_kept : (all : Exps) (a : Exp) (s : ℕ) (m : Machine) → values q n all s (λ vs. value q n a s (k m).give) (state_of b m left out) ≡ comes_to q n b (moves.comma_first all a s m) left out
  unfolding outcome doing after given
  comma_kept t.no_exp a s m = refl
  comma_kept (t.an_exp e rest) a s m = refl

  parts_kept : (all : Exps) (s : ℕ) (m : Machine) → values q n all s (λ vs. (k m).exits.next) (state_of b m left out) ≡ comes_to q n b (moves.parts_first all s m) left out
  unfolding outcome doing after given
  parts_kept t.no_exp s m = refl
  parts_kept (t.an_exp e rest) s m = refl

  rest_kept : (all : Stms) (m : Machine) → runs q n all (k m).exits (state_of b m left out) ≡ comes_to q n b (moves.rest_first all m) left out
  unfolding outcome doing after left_by
  rest_kept t.no_stm m = refl
  rest_kept (t.a_stm a rest) m = refl

  module _ (lt : b < n) where
    again_kept : (a : Turns) (m : Machine) → loop_of q n a (k m).exits (state_of b m left out) ≡ comes_to q n b (moves.again a m) left out
    unfolding outcome doing after given
    again_kept a m = let here : b ≤ b = omega arith in
        loop_opens q n b lt a.test a.last a.body (place_of q a.number) (k m).exits (state_of b m left out) here ∙ go a.test
      where
        go : (e : Maybe) → part q (calls q n) n (pos 1) e (place_of q a.number) (λ v. if is_true v then turn_of q n a (k m).exits else (k m).exits.next) (state_of b m left out) ≡ comes_to q n b (moves.again_by e a m) left out
        go t.missing = refl
        go (t.given e) = refl

    onward_kept : (a : Turns) (m : Machine) → onward_of q n a (k m).exits (state_of b m left out) ≡ comes_to q n b (moves.onward a m) left out
    unfolding outcome doing after given
    onward_kept a m = go a.last
      where
        go : (e : Maybe) → part q (calls q n) n (pos 0) e (place_of q a.number) (λ v. loop_of q n a (k m).exits) (state_of b m left out) ≡ comes_to q n b (moves.onward_by e a m) left out
        go t.missing = again_kept a m
        go (t.given e) = refl

    pub eval_kept : (e : Exp) (s : ℕ) (m : Machine) → outcome q n b (p.eval e s) m left out ≡ comes_to q n b (moves.eval q e s m) left out
    unfolding outcome doing after given taken
    eval_kept (t.constant ty v) s m = refl
    eval_kept (t.text j) s m = refl
    eval_kept (t.address ty of) s m = refl
    eval_kept (t.element ty array length size reach a) s m = refl
    eval_kept (t.slot ty j) s m = refl
    eval_kept (t.load ty a) s m = refl
    eval_kept (t.convert ty a) s m = refl
    eval_kept (t.unary op rank a) s m = refl
    eval_kept (t.not a) s m = refl
    eval_kept (t.binary ty op a e) s m = refl
    eval_kept (t.both a e) s m = refl
    eval_kept (t.either a e) s m = refl
    eval_kept (t.conditional ty a e f) s m = refl
    eval_kept (t.set_slot ty j a) s m = refl
    eval_kept (t.store ty a e) s m = refl
    eval_kept (t.update_slot ty j within op a) s m = refl
    eval_kept (t.update ty a within op e) s m = refl
    eval_kept (t.step_slot ty j within op) s m = set_kept (operated op (converted within (slice_index_or m.slots j (pos 0))) (pos 1)) ty j (λ new. slice_index_or m.slots j (pos 0)) s m
    eval_kept (t.step ty a within op) s m = refl
    eval_kept (t.call ty f all) s m = pass_kept all s (moves.push (p.callee f s) m)
    eval_kept t.get_byte s m = refl
    eval_kept (t.put_byte a) s m = refl
    eval_kept (t.put_number a) s m = refl
    eval_kept (t.comma all a) s m = comma_kept all a s m

    chosen : (v : ℤ) (g h : Step) (x y : Move) (m : Machine) → g (state_of b m left out) ≡ comes_to q n b x left out → h (state_of b m left out) ≡ comes_to q n b y left out
        → (if is_true v then g else h) (state_of b m left out) ≡ comes_to q n b (if is_true v then x else y) left out
    chosen v g h x y m e f = go (is_true v)
      where
        go : (c : Bool) → (if c then g else h) (state_of b m left out) ≡ comes_to q n b (if c then x else y) left out
        go true = e
        go false = f

    chosen_value : (v : ℤ) (g h : Doing ℤ) (x y : Move) (m : Machine) → g (k m).give (state_of b m left out) ≡ comes_to q n b x left out → h (k m).give (state_of b m left out) ≡ comes_to q n b y left out
        → (if is_true v then g else h) (k m).give (state_of b m left out) ≡ comes_to q n b (if is_true v then x else y) left out
    chosen_value v g h x y m e f = go (is_true v)
      where
        go : (c : Bool) → (if c then g else h) (k m).give (state_of b m left out) ≡ comes_to q n b (if c then x else y) left out
        go true = e
        go false = f

    given_to_kept : (frame : Frame) (v : ℤ) (m : Machine) → given q n frame (k m) v (state_of b m left out) ≡ comes_to q n b (moves.give_to q frame v m) left out
    unfolding outcome doing after given taken
    given_to_kept (p.element array length size reach s) v m = given_kept (element (storage q m.base array) length size reach v) s m
    given_to_kept (p.load ty s) v m = read_kept ty v s m (k m).give (λ r. moves.given_or r s m) (λ w. refl) (λ kind. refl)
    given_to_kept (p.convert ty) v m = refl
    given_to_kept (p.unary op rank) v m = refl
    given_to_kept p.not v m = refl
    given_to_kept (p.left op e s) v m = refl
    given_to_kept (p.right op x s) v m = given_kept (operated op x v) s m
    given_to_kept (p.both e s) v m = chosen_value v _ _ _ _ m refl refl
    given_to_kept (p.either e s) v m = chosen_value v _ _ _ _ m refl refl
    given_to_kept p.truth v m = refl
    given_to_kept (p.choice e f s) v m = chosen_value v _ _ _ _ m refl refl
    given_to_kept (p.set_slot j) v m = refl
    given_to_kept (p.store_at ty e s) v m = refl
    given_to_kept (p.store_value ty a s) v m = store_kept ty a v v s m
    given_to_kept (p.update_slot ty j within op old s) v m = set_kept (operated op (converted within old) v) ty j (λ new. new) s m
    given_to_kept (p.update_at ty within op e s) v m =
        read_kept ty v s m (λ old. value q n e s (λ y. or_fault (place_of q s) (operated op (converted within old) y) (λ new. store (place_of q s) ty v (converted ty new) (k m).give)))
        (λ r. moves.old_or r ty v within op e s m) (λ w. refl) (λ kind. refl)
    given_to_kept (p.update_value ty a within op old s) v m = store_or_kept (operated op (converted within old) v) ty a (λ new. new) s m
    given_to_kept (p.step_at ty within op s) v m =
        read_kept ty v s m (λ old. or_fault (place_of q s) (operated op (converted within old) (pos 1)) (λ new. store (place_of q s) ty v (converted ty new) (λ w. (k m).give old)))
        (λ r. moves.stepped_or r ty v within op s m)
        (λ old. store_or_kept (operated op (converted within old) (pos 1)) ty v (λ new. old) s m) (λ kind. refl)
    given_to_kept (p.argument rest s) v m = pass_kept rest s (moves.push (p.held v) m)
    given_to_kept p.put_byte v m = refl
    given_to_kept p.put_number v m = refl
    given_to_kept (p.comma rest last s) v m = comma_kept rest last s m
    given_to_kept p.discard v m = refl
    given_to_kept (p.if_then a) v m = chosen v _ _ _ _ m refl refl
    given_to_kept (p.if_else a c) v m = chosen v _ _ _ _ m refl refl
    given_to_kept (p.parts rest s) v m = parts_kept rest s m
    given_to_kept (p.turn_test a) v m = chosen v _ _ _ _ m refl refl
    given_to_kept (p.turn_last a) v m = again_kept a m
    given_to_kept p.give_back v m = refl
    given_to_kept (p.held w) v m = refl
    given_to_kept (p.callee f s) v m = refl
    given_to_kept (p.rest all) v m = refl
    given_to_kept (p.begin a) v m = refl
    given_to_kept (p.in_turn a) v m = refl
    given_to_kept (p.called c) v m = refl

    pub exec_kept : (a : Stm) (m : Machine) → outcome q n b (p.exec a) m left out ≡ comes_to q n b (moves.exec a m) left out
    unfolding outcome doing after given left_by
    exec_kept (t.block all) m = rest_kept all m
    exec_kept (t.empty s) m = refl
    exec_kept (t.expression s a) m = refl
    exec_kept (t.if_then s a c) m = refl
    exec_kept (t.if_else s a c d) m = refl
    exec_kept (t.while_loop s a c) m = again_kept (record { number = s; test = t.given a; last = t.missing; body = c }) m
    exec_kept (t.do_while s c a) m = refl
    exec_kept (t.for_loop s all a e c) m = parts_kept all s (moves.push (p.begin (record { number = s; test = a; last = e; body = c })) m)
    exec_kept (t.break s) m = refl
    exec_kept (t.continue s) m = refl
    exec_kept (t.return s t.missing) m = refl
    exec_kept (t.return s (t.given a)) m = refl
    exec_kept (t.local s all) m = parts_kept all s m

    pub give_kept : (v : ℤ) (m : Machine) → outcome q n b (p.give v) m left out ≡ comes_to q n b (moves.give q v m.frames m) left out
    unfolding outcome doing after
    give_kept v m = go m.frames
      where
        go : (frames : List Frame) → (after q n frames).give v (state_of b m left out) ≡ comes_to q n b (moves.give q v frames m) left out
        go [] = refl
        go (frame ∷ frames) = given_to_kept frame v (moves.popped m frames)

    pub leave_kept : (exit : Exit) (m : Machine) → outcome q n b (p.leave exit) m left out ≡ comes_to q n b (moves.leave exit m.frames m) left out
    unfolding outcome doing after left_by
    leave_kept exit m = go exit m.frames
      where
        go : (exit : Exit) (frames : List Frame) → leaving q n exit (after q n frames).exits (state_of b m left out) ≡ comes_to q n b (moves.leave exit frames m) left out
        go p.next [] = refl
        go p.on_break [] = refl
        go p.on_continue [] = refl
        go (p.on_return v) [] = refl
        go p.next (p.rest all ∷ frames) = rest_kept all (moves.popped m frames)
        go p.on_break (p.rest all ∷ frames) = refl
        go p.on_continue (p.rest all ∷ frames) = refl
        go (p.on_return v) (p.rest all ∷ frames) = refl
        go p.next (p.begin a ∷ frames) = again_kept a (moves.popped m frames)
        go p.on_break (p.begin a ∷ frames) = refl
        go p.on_continue (p.begin a ∷ frames) = refl
        go (p.on_return v) (p.begin a ∷ frames) = refl
        go p.next (p.in_turn a ∷ frames) = onward_kept a (moves.popped m frames)
        go p.on_break (p.in_turn a ∷ frames) = refl
        go p.on_continue (p.in_turn a ∷ frames) = onward_kept a (moves.popped m frames)
        go (p.on_return v) (p.in_turn a ∷ frames) = refl
        go p.next (p.called c ∷ frames) = refl
        go p.on_break (p.called c ∷ frames) = refl
        go p.on_continue (p.called c ∷ frames) = refl
        go (p.on_return v) (p.called c ∷ frames) = refl
        go exit (frame ∷ frames) = refl

    pub pass_kept_by : (m : Machine) → outcome q n b p.pass m left out ≡ comes_to q n b (moves.pass m.frames m) left out
    unfolding outcome doing after taken
    pass_kept_by m = go m.frames
      where
        go : (frames : List Frame) → (after q n frames).take m.arguments (state_of b m left out) ≡ comes_to q n b (moves.pass frames m) left out
        go [] = refl
        go (p.held v ∷ frames) = refl
        go (p.callee f s ∷ frames) = refl
        go (frame ∷ frames) = refl

  -- with a unit that is spent on it
  pub turn_kept : (a : Turns) (m : Machine) → outcome q n (suc b) (p.turn a) m left out ≡ comes_to q n b (moves.turned a m) left out
  unfolding outcome doing after left_by
  turn_kept a m = refl

  pub call_kept : b + 1 < n → (f s : ℕ) (m : Machine) → outcome q n (suc b) (p.call f s) m left out ≡ comes_to q n b (moves.called (slice_get q.functions f) s m) left out
  unfolding outcome doing after left_by
  call_kept lt f s m = call_opens q n b lt (place_of q s) f m.arguments (k m).give (state_of b m left out) ∙ go (slice_get q.functions f)
    where
      enters : (g : Function) (full : Bool)
          → (if full then fault (place_of q s) StackOverflow (state_of b m left out) else runs q n g.body (after q n (p.called (moves.caller_of m) ∷ m.frames)).exits (state_of b (moves.entered g m) left out))
          ≡ comes_to q n b (if full then Faults s StackOverflow else moves.rest_first g.body (moves.entered g m)) left out
      enters g true = refl
      enters g false = rest_kept g.body (moves.entered g m)

      go : (o : Option Function) → enter (λ g. runs q n g.body) (place_of q s) o m.arguments (k m).give (state_of b m left out) ≡ comes_to q n b (moves.called o s m) left out
      go None = refl
      go (Some g) = enters g (moves.is_full g m)

-- without a unit
pub turn_spent : (q : Program) (n : ℕ) (a : Turns) (m : Machine) (left out : List ℕ) → outcome q n 0 (p.turn a) m left out ≡ More out left
unfolding outcome doing
turn_spent q n a m left out = refl

pub call_spent : (q : Program) (n : ℕ) → 0 < n → (f s : ℕ) (m : Machine) (left out : List ℕ) → outcome q n 0 (p.call f s) m left out ≡ More out left
unfolding outcome doing
call_spent q zero lt f s m left out = absurd (omega arith)
call_spent q (suc n) lt f s m left out = refl

-- the source meaning is what an interpreter starts from comes to
pub started_means : (q : Program) (input : List ℕ) (budget : ℕ) → source_meaning q input budget ≡ comes_to q (suc budget) budget (moves.started q) input []
unfolding source_meaning outcome doing after left_by
started_means q input budget = go (slice_get q.functions (main_of q))
  where
    go : (o : Option Function) → run_main q (suc budget) o (start q input budget) ≡ comes_to q (suc budget) budget (moves.begun_at o (moves.before_main q)) input []
    go None = refl
    go (Some f) = rest_kept q (suc budget) budget input [] f.body (moves.opened f (record (moves.before_main q) { slots = replicate f.slots (pos 0) }))
