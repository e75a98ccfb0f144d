-- Two runs of a program that differ in their budgets and in the numbers that make the meaning end, and in nothing else,
-- compare alike wherever they begin. How they compare is a matter of the parameters: `Level` and `Steady` give them.
use Rattle.std.proofs.Common.{ℕ, zero, suc, ◌≤◌, ℤ, pos, List, [], ◌∷◌, ◌++◌, Option, Some, None, Result, Ok, Err, Bool, true, false, arith, if◌then◌else◌}
use Rattle.std.specs.Prelude.{slice_get}
use Rattle.ib_mem.specs.Memory.{loaded, stored}
use Rattle.std.specs.Int.{w64, cast_unsigned}
use Rattle.ib_meaning.specs.declared.place.Place.{Place}
use Rattle.ib_meaning.specs.declared.fault.FaultKind.{FaultKind}
use Rattle.ib_meaning.specs.declared.fault.FaultKind.TheVariants.{StackOverflow}
use Rattle.ib_meaning.specs.Agreement.{Report, More, Over, Finish, Faulted}
use Rattle.c_typed.specs.declared.types.ValueType.{ValueType}
use Rattle.c_typed.specs.declared.expr.Storage.{Storage}
use Rattle.c_typed.specs.Tree as t
use Rattle.c_typed.specs.Tree.{Exp, Exps, Maybe, Stm, Stms, Function}
use Rattle.c_typed.specs.Program.{Program, place_of}
use Rattle.c_typed.specs.ValueTypes.{size_of}
use Rattle.c_typed.specs.Values.{converted, is_true, operated, element, accessed}
use Rattle.c_meaning.specs.Doing.{State, Step, Doing, ◌>>=◌, pure, fault, or_fault, spend, get_slot, set_slot, address_of, load, store, get_byte, put_byte, put_number}
use Rattle.c_meaning.specs.Meaning.{Exits, turn, loop, eval, evals, part, exec, execs, overflows, entered, left_to, body_exits, enter, calls}

-- the same state with another budget
abbrev pub with_budget : ℕ → State → State
with_budget b s = record s { budget = b }

-- budgets within a bound, reports of runs that had printed this much, a bound behind a unit that was spent, and numbers that
-- make the meaning end
module _ (Budgets : (d b b' : ℕ) → Type 0) (Reports : (out : List ℕ) → Report → Report → Type 0) where
  abbrev pub AlikeSteps : ℕ → Step → Step → Type 0
  AlikeSteps d k h = (s : State) (b : ℕ) → Budgets d s.budget b → Reports s.out (k s) (h (with_budget b s))

  pub record AlikeDoing {A : Type 0} (c : ℕ) (m l : Doing A) : Type 0 where
    pub by : (d : ℕ) → d ≤ c → (k h : A → Step) → ((a : A) → AlikeSteps d (k a) (h a)) → AlikeSteps d (m k) (l h)

  pub record AlikeExits (d : ℕ) (x y : Exits) : Type 0 where
    pub next : AlikeSteps d x.next y.next
    pub on_break : AlikeSteps d x.on_break y.on_break
    pub on_continue : AlikeSteps d x.on_continue y.on_continue
    pub on_return : (v : ℤ) → AlikeSteps d (x.on_return v) (y.on_return v)

  -- a body or a statement
  pub record AlikeRuns (c : ℕ) (m l : Exits → Step) : Type 0 where
    pub by : (d : ℕ) → d ≤ c → (x y : Exits) → AlikeExits d x y → AlikeSteps d (m x) (l y)

  -- what the comparison must be closed under
  pub record IsClosed (Below : (e d : ℕ) → Type 0) (Levels : (d n n' : ℕ) → Type 0) : Type 0 where
    pub wider : (e d b b' : ℕ) → e ≤ d → Budgets e b b' → Budgets d b b'
    pub earlier : (out bytes : List ℕ) (r r' : Report) → Reports (out ++ bytes) r r' → Reports out r r'
    pub over : (finish : Finish) (out left : List ℕ) → Reports out (Over finish out left) (Over finish out left)
    pub more : (out left : List ℕ) → Reports out (More out left) (More out left)
    pub less : (e d : ℕ) → Below e d → e ≤ d
    pub spends : (d : ℕ) (k h : Step) → ((e : ℕ) → Below e d → AlikeSteps e k h) → AlikeSteps d (spend k) (spend h)
    pub lower : (e d n n' : ℕ) → e ≤ d → Levels d n n' → Levels e n n'
    pub deeper : (e d n n' : ℕ) → Below e d → Levels d (suc n) (suc n') → Levels e n n'
    pub never_left : (d n : ℕ) → Levels d zero (suc n) → ⊥
    pub never_right : (d n : ℕ) → Levels d (suc n) zero → ⊥

module _ (Budgets : (d b b' : ℕ) → Type 0) (Reports : (out : List ℕ) → Report → Report → Type 0) (Below : (e d : ℕ) → Type 0) (Levels : (d n n' : ℕ) → Type 0)
    (closed : IsClosed Budgets Reports Below Levels) where
  abbrev Steps : ℕ → Step → Step → Type 0
  Steps = AlikeSteps Budgets Reports

  abbrev Alike : {A : Type 0} → ℕ → Doing A → Doing A → Type 0
  Alike = AlikeDoing Budgets Reports

  abbrev SameExits : ℕ → Exits → Exits → Type 0
  SameExits = AlikeExits Budgets Reports

  abbrev Runs : ℕ → (Exits → Step) → (Exits → Step) → Type 0
  Runs = AlikeRuns Budgets Reports

  lower_steps : (e d : ℕ) → e ≤ d → (k h : Step) → Steps d k h → Steps e k h
  lower_steps e d le k h same s b g = same s b (closed.wider e d s.budget b le g)

  lower_doing : {A : Type 0} {e d : ℕ} {m l : Doing A} → e ≤ d → Alike d m l → Alike e m l
  lower_doing {e = e} {d = d} le a = record { by = λ c h. let r : c ≤ d = omega arith in a.by c r }

  lower_exits : {e d : ℕ} {x y : Exits} → e ≤ d → SameExits d x y → SameExits e x y
  lower_exits {e} {d} {x} {y} le a = record {
    next = lower_steps e d le x.next y.next a.next;
    on_break = lower_steps e d le x.on_break y.on_break a.on_break;
    on_continue = lower_steps e d le x.on_continue y.on_continue a.on_continue;
    on_return = λ v. lower_steps e d le (x.on_return v) (y.on_return v) (a.on_return v);
  }

  lower_runs : {e d : ℕ} {m l : Exits → Step} → e ≤ d → Runs d m l → Runs e m l
  lower_runs {e} {d} le a = record { by = λ c h. let r : c ≤ d = omega arith in a.by c r }

  bind : {A B : Type 0} {c : ℕ} {m l : Doing A} {f g : A → Doing B} → Alike c m l → ((a : A) → Alike c (f a) (g a)) → Alike c (m >>= f) (l >>= g)
  bind {f = f} {g = g} e es = record { by = λ d le k h same. e.by d le (λ a. f a k) (λ a. g a h) (λ a. (es a).by d le k h same) }

  give : {A : Type 0} {c : ℕ} (a : A) → Alike c (pure a) (pure a)
  give a = record { by = λ d le k h same. same a }

  choose : {A : Type 0} {c : ℕ} (which : Bool) {m l m' l' : Doing A} → Alike c m l → Alike c m' l' → Alike c (if which then m else m') (if which then l else l')
  choose true e e' = record { by = e.by }
  choose false e e' = record { by = e'.by }

  choose_step : (d : ℕ) (which : Bool) (k h k' h' : Step) → Steps d k h → Steps d k' h' → Steps d (if which then k else k') (if which then h else h')
  choose_step d true k h k' h' e e' = e
  choose_step d false k h k' h' e e' = e'

  fault_alike : (d : ℕ) (at : Place) (kind : FaultKind) → Steps d (fault at kind) (fault at kind)
  fault_alike d at kind s b g = closed.over (Faulted at kind) s.out s.left

  try_alike : {A : Type 0} {c : ℕ} (at : Place) (r : Result A FaultKind) → Alike c (or_fault at r) (or_fault at r)
  try_alike at (Ok a) = record { by = λ d le k h same. same a }
  try_alike at (Err kind) = record { by = λ d le k h same. fault_alike d at kind }

  get_slot_alike : {c : ℕ} (n : ℕ) → Alike c (get_slot n) (get_slot n)
  get_slot_alike n = record { by = λ d le k h same s. same _ s }

  set_slot_alike : {c : ℕ} (n : ℕ) (v : ℤ) → Alike c (set_slot n v) (set_slot n v)
  set_slot_alike n v = record { by = λ d le k h same s b g. same v _ b g }

  address_alike : {c : ℕ} (p : Program) (of : Storage) → Alike c (address_of p of) (address_of p of)
  address_alike p of = record { by = λ d le k h same s. same _ s }

  load_alike : {c : ℕ} (at : Place) (ty : ValueType) (a : ℤ) → Alike c (load at ty a) (load at ty a)
  load_alike at ty a = record { by = λ d le k h same s b g. (try_alike at (accessed (loaded s.memory a (size_of ty)))).by d le _ _ (λ n. same _) s b g }

  store_alike : {c : ℕ} (at : Place) (ty : ValueType) (a v : ℤ) → Alike c (store at ty a v) (store at ty a v)
  store_alike at ty a v = record { by = λ d le k h same s b g. go d k h same s b g (accessed (stored s.memory a (size_of ty) (cast_unsigned w64 v))) }
    where
      go : (d : ℕ) (k h : ℤ → Step) → ((x : ℤ) → Steps d (k x) (h x)) → (s : State) (b : ℕ) → Budgets d s.budget b → (r : Result (List ℕ) FaultKind)
          → Reports s.out (or_fault at r (λ memory _. k v (record s { memory = memory })) s) (or_fault at r (λ memory _. h v (record s { memory = memory; budget = b })) (with_budget b s))
      go d k h same s b g (Ok memory) = same v _ b g
      go d k h same s b g (Err kind) = fault_alike d at kind s b g

  get_byte_alike : {c : ℕ} → Alike c get_byte get_byte
  get_byte_alike = record { by = λ d le k h same s b g. same _ _ b g }

  put_byte_alike : {c : ℕ} (v : ℤ) → Alike c (put_byte v) (put_byte v)
  put_byte_alike v = record { by = λ d le k h same s b g. closed.earlier s.out _ _ _ (same _ _ b g) }

  put_number_alike : {c : ℕ} (v : ℤ) → Alike c (put_number v) (put_number v)
  put_number_alike v = record { by = λ d le k h same s b g. closed.earlier s.out _ _ _ (same _ _ b g) }

  turn_alike : (c : ℕ) (m l : Exits → Step) → Runs c m l → (k h : Step) → ((e : ℕ) → Below e c → Steps e k h) → (x y : Exits) → SameExits c x y → Steps c (turn m k x) (turn l h y)
  turn_alike c m l body k h again x y same = closed.spends c _ _ (λ e below.
      let le = closed.less e c below in
      let xy = lower_exits le same in
      body.by e le _ _ (record { next = again e below; on_break = xy.next; on_continue = again e below; on_return = xy.on_return }))

  pub loop_alike : (n n' c : ℕ) → Levels c n n' → (test test' last last' : Doing ℤ) (m l : Exits → Step) → Alike c test test' → Alike c last last' → Runs c m l → (x y : Exits) → SameExits c x y → Steps c (loop n test last m x) (loop n' test' last' l y)
  loop_alike zero zero c at test test' last last' m l et el eb x y same = λ s b g. closed.more s.out s.left
  loop_alike zero (suc n') c at test test' last last' m l et el eb x y same = absurd (closed.never_left c n' at)
  loop_alike (suc n) zero c at test test' last last' m l et el eb x y same = absurd (closed.never_right c n at)
  loop_alike (suc n) (suc n') c at test test' last last' m l et el eb x y same =
      let here : c ≤ c = omega arith in
      let rec : (e : ℕ) → Below e c → Steps e (loop n test last m x) (loop n' test' last' l y) = λ e below.
      let le = closed.less e c below in
      loop_alike n n' e (closed.deeper e c n n' below at) test test' last last' m l (lower_doing le et) (lower_doing le el) (lower_runs le eb) x y (lower_exits le same) in
      let again : (e : ℕ) → Below e c → Steps e (last (λ _. loop n test last m x)) (last' (λ _. loop n' test' last' l y)) = λ e below.
      el.by e (closed.less e c below) _ _ (λ a. rec e below) in
      et.by c here _ _ (λ v. choose_step c (is_true v) _ _ _ _ (turn_alike c m l eb _ _ again x y same) same.next)

  module _ (p : Program) (call call' : Place → ℕ → List ℤ → Doing ℤ) (c n n' : ℕ) (at_level : Levels c n n') (same_call : (at : Place) (f : ℕ) (vs : List ℤ) → Alike c (call at f vs) (call' at f vs)) where
    mutual
      eval_alike : (e : Exp) (at : Place) → Alike c (eval p call n e at) (eval p call' n' e at)
      eval_alike (t.constant ty v) at = give v
      eval_alike (t.text k) at = give _
      eval_alike (t.address ty of) at = address_alike p of
      eval_alike (t.element ty array length size reach a) at = bind (eval_alike a at) (λ i. bind (address_alike p array) (λ start. try_alike at (element start length size reach i)))
      eval_alike (t.slot ty k) at = get_slot_alike k
      eval_alike (t.load ty a) at = bind (eval_alike a at) (λ from. load_alike at ty from)
      eval_alike (t.convert ty a) at = bind (eval_alike a at) (λ x. give _)
      eval_alike (t.unary op rank a) at = bind (eval_alike a at) (λ x. give _)
      eval_alike (t.not a) at = bind (eval_alike a at) (λ x. give _)
      eval_alike (t.binary ty op a b) at = bind (eval_alike a at) (λ x. bind (eval_alike b at) (λ y. try_alike at (operated op x y)))
      eval_alike (t.both a b) at = bind (eval_alike a at) (λ x. choose (is_true x) (bind (eval_alike b at) (λ y. give _)) (give _))
      eval_alike (t.either a b) at = bind (eval_alike a at) (λ x. choose (is_true x) (give _) (bind (eval_alike b at) (λ y. give _)))
      eval_alike (t.conditional ty a b e) at = bind (eval_alike a at) (λ x. choose (is_true x) (eval_alike b at) (eval_alike e at))
      eval_alike (t.set_slot ty k a) at = bind (eval_alike a at) (λ v. set_slot_alike k v)
      eval_alike (t.store ty a b) at = bind (eval_alike a at) (λ to. bind (eval_alike b at) (λ v. store_alike at ty to v))
      eval_alike (t.update_slot ty k within op a) at = bind (get_slot_alike k) (λ old. bind (eval_alike a at) (λ y. bind (try_alike at (operated op (converted within old) y)) (λ new. set_slot_alike k (converted ty new))))
      eval_alike (t.update ty a within op b) at = bind (eval_alike a at) (λ to. bind (load_alike at ty to) (λ old. bind (eval_alike b at) (λ y. bind (try_alike at (operated op (converted within old) y)) (λ new. store_alike at ty to (converted ty new)))))
      eval_alike (t.step_slot ty k within op) at = bind (get_slot_alike k) (λ old. bind (try_alike at (operated op (converted within old) (pos 1))) (λ new. bind (set_slot_alike k (converted ty new)) (λ v. give old)))
      eval_alike (t.step ty a within op) at = bind (eval_alike a at) (λ to. bind (load_alike at ty to) (λ old. bind (try_alike at (operated op (converted within old) (pos 1))) (λ new. bind (store_alike at ty to (converted ty new)) (λ v. give old))))
      eval_alike (t.call ty f all) at = bind (evals_alike all at) (λ vs. same_call at f vs)
      eval_alike t.get_byte at = get_byte_alike
      eval_alike (t.put_byte a) at = bind (eval_alike a at) (λ v. put_byte_alike v)
      eval_alike (t.put_number a) at = bind (eval_alike a at) (λ v. put_number_alike v)
      eval_alike (t.comma all a) at = bind (evals_alike all at) (λ vs. eval_alike a at)

      evals_alike : (es : Exps) (at : Place) → Alike c (evals p call n es at) (evals p call' n' es at)
      evals_alike t.no_exp at = give []
      evals_alike (t.an_exp a rest) at = bind (eval_alike a at) (λ v. bind (evals_alike rest at) (λ vs. give (v ∷ vs)))

    pub part_alike : (v : ℤ) (e : Maybe) (at : Place) → Alike c (part p call n v e at) (part p call' n' v e at)
    part_alike v t.missing at = give v
    part_alike v (t.given a) at = eval_alike a at

    -- a value is followed by what is alike
    followed : {A : Type 0} {m l : Doing A} → Alike c m l → (d : ℕ) → d ≤ c → (k h : Step) → Steps d k h → Steps d (m (λ _. k)) (l (λ _. h))
    followed e d le k h same = e.by d le _ _ (λ v. same)

    tested : {m l : Doing ℤ} → Alike c m l → (d : ℕ) → d ≤ c → (k h k' h' : Step) → Steps d k h → Steps d k' h'
        → Steps d (m (λ v. if is_true v then k else k')) (l (λ v. if is_true v then h else h'))
    tested e d le k h k' h' same same' = e.by d le _ _ (λ v. choose_step d (is_true v) k h k' h' same same')

    looped : {test test' last last' : Doing ℤ} {m l : Exits → Step} → Alike c test test' → Alike c last last' → Runs c m l → (d : ℕ) → d ≤ c → (x y : Exits) → SameExits d x y
        → Steps d (loop n test last m x) (loop n' test' last' l y)
    looped et el eb d le x y same = loop_alike n n' d (closed.lower d c n n' le at_level) _ _ _ _ _ _ (lower_doing le et) (lower_doing le el) (lower_runs le eb) x y same

    once : {test test' : Doing ℤ} {m l : Exits → Step} → Alike c test test' → Runs c m l → (d : ℕ) → d ≤ c → (x y : Exits) → SameExits d x y
        → Steps d (turn m (loop n test (pure (pos 0)) m x) x) (turn l (loop n' test' (pure (pos 0)) l y) y)
    once {m = m} {l = l} et eb d le x y same = turn_alike d m l (lower_runs le eb) _ _ (λ e below.
        let down = closed.less e d below in
        let far : e ≤ c = omega arith in
        looped et (give _) eb e far x y (lower_exits down same)) x y same

    mutual
      pub exec_alike : (a : Stm) → Runs c (exec p call n a) (exec p call' n' a)
      exec_alike (t.block all) = execs_alike all
      exec_alike (t.empty s) = record { by = λ d le x y same. same.next }
      exec_alike (t.expression s a) = record { by = λ d le x y same. followed (eval_alike a (place_of p s)) d le _ _ same.next }
      exec_alike (t.if_then s a b) = record { by = λ d le x y same. tested (eval_alike a (place_of p s)) d le _ _ _ _ ((exec_alike b).by d le x y same) same.next }
      exec_alike (t.if_else s a b e) = record { by = λ d le x y same. tested (eval_alike a (place_of p s)) d le _ _ _ _ ((exec_alike b).by d le x y same) ((exec_alike e).by d le x y same) }
      exec_alike (t.while_loop s a b) = record { by = looped (eval_alike a (place_of p s)) (give _) (exec_alike b) }
      exec_alike (t.do_while s b a) = record { by = once (eval_alike a (place_of p s)) (exec_alike b) }
      exec_alike (t.for_loop s all a e b) = record { by = λ d le x y same. followed (evals_alike all (place_of p s)) d le _ _ (looped (part_alike (pos 1) a (place_of p s)) (part_alike (pos 0) e (place_of p s)) (exec_alike b) d le x y same) }
      exec_alike (t.break s) = record { by = λ d le x y same. same.on_break }
      exec_alike (t.continue s) = record { by = λ d le x y same. same.on_continue }
      exec_alike (t.return s a) = record { by = λ d le x y same. (part_alike (pos 0) a (place_of p s)).by d le _ _ same.on_return }
      exec_alike (t.local s all) = record { by = λ d le x y same. followed (evals_alike all (place_of p s)) d le _ _ same.next }

      execs_alike : (all : Stms) → Runs c (execs p call n all) (execs p call' n' all)
      execs_alike t.no_stm = record { by = λ d le x y same. same.next }
      execs_alike (t.a_stm a rest) = record {
        by = λ d le x y same.
            (exec_alike a).by d le _ _ (record { next = (execs_alike rest).by d le x y same; on_break = same.on_break; on_continue = same.on_continue; on_return = same.on_return });
      }

  pub enter_alike : (d : ℕ) (run run' : Function → Exits → Step) → ((f : Function) → Runs d (run f) (run' f)) → (at : Place) (o : Option Function) (vs : List ℤ) → Alike d (enter run at o vs) (enter run' at o vs)
  enter_alike d run run' body at None vs = record { by = λ e le k h same s b g. closed.more s.out s.left }
  enter_alike d run run' body at (Some f) vs = record { by = λ e le k h same s b g. go e le k h same s b g (overflows f s) }
    where
      go : (e : ℕ) → e ≤ d → (k h : ℤ → Step) → ((v : ℤ) → Steps e (k v) (h v)) → (s : State) (b : ℕ) → Budgets e s.budget b → (full : Bool)
          → Reports s.out
          (if full then fault at StackOverflow s else run f (body_exits (λ v r. k v (left_to s r))) (entered f vs s))
          (if full then fault at StackOverflow (with_budget b s) else run' f (body_exits (λ v r. h v (left_to s r))) (with_budget b (entered f vs s)))
      go e le k h same s b g true = fault_alike e at StackOverflow s b g
      go e le k h same s b g false = (body f).by e le _ _ (record {
        next = λ u. same (pos 0) (left_to s u);
        on_break = λ u. same (pos 0) (left_to s u);
        on_continue = λ u. same (pos 0) (left_to s u);
        on_return = λ v u. same v (left_to s u);
      }) (entered f vs s) b g

  pub calls_alike : (p : Program) (n n' c : ℕ) → Levels c n n' → (at : Place) (f : ℕ) (vs : List ℤ) → Alike c (calls p n at f vs) (calls p n' at f vs)
  calls_alike p zero zero c levels at f vs = record { by = λ d le k h same s b g. closed.more s.out s.left }
  calls_alike p zero (suc n') c levels at f vs = absurd (closed.never_left c n' levels)
  calls_alike p (suc n) zero c levels at f vs = absurd (closed.never_right c n levels)
  calls_alike p (suc n) (suc n') c levels at f vs =
      let inside : (e d : ℕ) → Below e d → d ≤ c → Alike e (enter (λ g. execs p (calls p n) n g.body) at (slice_get p.functions f) vs) (enter (λ g. execs p (calls p n') n' g.body) at (slice_get p.functions f) vs) = λ e d below le.
      let levels' : Levels e n n' = closed.deeper e d n n' below (closed.lower d c (suc n) (suc n') le levels) in
      enter_alike e _ _ (λ g. execs_alike p (calls p n) (calls p n') e n n' levels' (calls_alike p n n' e levels') g.body) at (slice_get p.functions f) vs in
      record {
        by = λ d le k h same. closed.spends d _ _ (λ e below.
            let here : e ≤ e = omega arith in
            (inside e d below le).by e here k h (λ v. lower_steps e d (closed.less e d below) (k v) (h v) (same v)));
      }

  pub value_alike : (p : Program) (n n' c : ℕ) → Levels c n n' → (e : Exp) (at : Place) → Alike c (eval p (calls p n) n e at) (eval p (calls p n') n' e at)
  value_alike p n n' c levels = eval_alike p (calls p n) (calls p n') c n n' levels (calls_alike p n n' c levels)

  pub body_alike : (p : Program) (n n' c : ℕ) → Levels c n n' → (all : Stms) → Runs c (execs p (calls p n) n all) (execs p (calls p n') n' all)
  body_alike p n n' c levels = execs_alike p (calls p n) (calls p n') c n n' levels (calls_alike p n n' c levels)
