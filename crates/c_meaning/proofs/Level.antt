-- The numbers that make the meaning end are never felt: above the budget they may be any.
use Rattle.std.proofs.Common.{◌≡◌, ℕ, zero, suc, ◌+◌, ◌≤◌, ◌<◌, ℤ, pos, List, [], Option, Some, None, refl, ap, arith, if◌then◌else◌}
use Rattle.std.specs.Prelude.{slice_get}
use Rattle.ib_meaning.specs.declared.place.Place.{Place}
use Rattle.c_typed.specs.Values.{is_true}
use Rattle.ib_meaning.specs.Agreement.{Report}
use Rattle.c_typed.specs.Tree.{Exp, Maybe, Stm, Stms, Function}
use Rattle.c_typed.specs.Program.{Program, main_of}
use Rattle.c_meaning.specs.Doing.{State, Step, spend, spend_of}
use Rattle.c_meaning.specs.Meaning.{Exits, turn, loop, eval, part, exec, execs, calls, enter, entered, body_exits, ends, run_main, start, source_meaning}
use Rattle.c_meaning.proofs.Alike.{with_budget, AlikeDoing, AlikeExits, AlikeRuns, IsClosed, body_alike, value_alike, loop_alike, part_alike, exec_alike, enter_alike, calls_alike}

-- the same budget, within the bound
abbrev pub Within : (d b b' : ℕ) → Type 0
Within d b b' = (b ≡ b') × (b ≤ d)

abbrev pub Same : (out : List ℕ) → Report → Report → Type 0
Same out r r' = r ≡ r'

abbrev pub Lower : (e d : ℕ) → Type 0
Lower e d = e + 1 ≤ d

abbrev pub Above : (d n n' : ℕ) → Type 0
Above d n n' = (d < n) × (d < n')

wider : (e d b b' : ℕ) → e ≤ d → Within e b b' → Within d b b'
wider e d b b' le w = let within = w.1 in (w.0, omega arith)

less : (e d : ℕ) → Lower e d → e ≤ d
less e d below = omega arith

spends : (d : ℕ) (k h : Step) → ((e : ℕ) → Lower e d → (s : State) (b : ℕ) → Within e s.budget b → Same s.out (k s) (h (with_budget b s)))
    → (s : State) (b : ℕ) → Within d s.budget b → Same s.out (spend k s) (spend h (with_budget b s))
spends d k h same s b w = go s.budget b w.0 w.1
  where
    go : (x y : ℕ) → x ≡ y → x ≤ d → spend_of x k s ≡ spend_of y h (with_budget b s)
    go zero zero e le = refl
    go zero (suc y) e le = absurd (omega (arith, e))
    go (suc x) zero e le = absurd (omega (arith, e))
    go (suc x) (suc y) e le =
        let is : x ≡ y = omega (arith, e) in
        let here : x ≤ x = omega arith in
        same x (omega arith) (record s { budget = x }) y (is, here)

lower : (e d n n' : ℕ) → e ≤ d → Above d n n' → Above e n n'
lower e d n n' le a = let left = a.0 in let right = a.1 in (omega arith, omega arith)

deeper : (e d n n' : ℕ) → Lower e d → Above d (suc n) (suc n') → Above e n n'
deeper e d n n' below a = let left = a.0 in let right = a.1 in (omega arith, omega arith)

never_left : (d n : ℕ) → Above d zero (suc n) → ⊥
never_left d n a = let left = a.0 in omega arith

never_right : (d n : ℕ) → Above d (suc n) zero → ⊥
never_right d n a = let right = a.1 in omega arith

closed : IsClosed Within Same Lower Above
closed = record {
  wider = wider;
  earlier = λ out bytes r r' e. e;
  over = λ finish out left. refl;
  more = λ out left. refl;
  less = less;
  spends = spends;
  lower = lower;
  deeper = deeper;
  never_left = never_left;
  never_right = never_right;
}

pub body_level : (p : Program) (n n' c : ℕ) → c < n → c < n' → (all : Stms) → AlikeRuns Within Same c (execs p (calls p n) n all) (execs p (calls p n') n' all)
body_level p n n' c lt lt' = body_alike Within Same Lower Above closed p n n' c (lt, lt')

pub value_level : (p : Program) (n n' c : ℕ) → c < n → c < n' → (e : Exp) (at : Place) → AlikeDoing Within Same c (eval p (calls p n) n e at) (eval p (calls p n') n' e at)
value_level p n n' c lt lt' = value_alike Within Same Lower Above closed p n n' c (lt, lt')

part_level : (p : Program) (n n' c : ℕ) → c < n → c < n' → (v : ℤ) (e : Maybe) (at : Place) → AlikeDoing Within Same c (part p (calls p n) n v e at) (part p (calls p n') n' v e at)
part_level p n n' c lt lt' =
    part_alike Within Same Lower Above closed p (calls p n) (calls p n') c n n' (lt, lt') (calls_alike Within Same Lower Above closed p n n' c (lt, lt'))

statement_level : (p : Program) (n n' c : ℕ) → c < n → c < n' → (a : Stm) → AlikeRuns Within Same c (exec p (calls p n) n a) (exec p (calls p n') n' a)
statement_level p n n' c lt lt' =
    exec_alike Within Same Lower Above closed p (calls p n) (calls p n') c n n' (lt, lt') (calls_alike Within Same Lower Above closed p n n' c (lt, lt'))

same_exits : (d : ℕ) (x : Exits) → AlikeExits Within Same d x x
same_exits d x = record {
  next = λ s b w. ap (λ c. x.next (with_budget c s)) w.0;
  on_break = λ s b w. ap (λ c. x.on_break (with_budget c s)) w.0;
  on_continue = λ s b w. ap (λ c. x.on_continue (with_budget c s)) w.0;
  on_return = λ v s b w. ap (λ c. x.on_return v (with_budget c s)) w.0;
}

-- a loop is its test, with one turn and as many turns behind it as before
pub loop_opens : (p : Program) (n c : ℕ) → c < n → (test last : Maybe) (body : Stm) (at : Place) (x : Exits) (s : State) → s.budget ≤ c
    → let is = part p (calls p n) n (pos 1) test at in let onward = part p (calls p n) n (pos 0) last at in let each = exec p (calls p n) n body in
    loop n is onward each x s ≡ is (λ v. if is_true v then turn each (onward (λ _. loop n is onward each x)) x else x.next) s
loop_opens p n c lt test last body at x s le =
    let long : c < suc n = omega arith in
    loop_alike Within Same Lower Above closed n (suc n) c (lt, long) _ _ _ _ _ _
    (part_level p n n c lt lt (pos 1) test at) (part_level p n n c lt lt (pos 0) last at) (statement_level p n n c lt lt body)
    x x (same_exits c x) s s.budget (refl, le)

-- a call that has spent its unit enters the function with the same number
pub call_opens : (p : Program) (n b : ℕ) → b + 1 < n → (at : Place) (f : ℕ) (vs : List ℤ) (k : ℤ → Step) (s : State)
    → calls p n at f vs k (with_budget (suc b) s) ≡ enter (λ g. execs p (calls p n) n g.body) at (slice_get p.functions f) vs k (with_budget b s)
call_opens p zero b lt at f vs k s = absurd (omega arith)
call_opens p (suc n) b lt at f vs k s =
    let low : b < n = omega arith in
    let high : b < suc n = omega arith in
    let here : b ≤ b = omega arith in
    (enter_alike Within Same Lower Above closed b _ _ (λ g. body_level p n (suc n) b low high g.body) at (slice_get p.functions f) vs).by b here k k
    (λ v u c w. ap (λ d. k v (with_budget d u)) w.0) (with_budget b s) b (refl, here)

main_same : (p : Program) (n n' : ℕ) (o : Option Function) (s : State) → s.budget < n → s.budget < n' → run_main p n o s ≡ run_main p n' o s
main_same p n n' None s lt lt' = refl
main_same p n n' (Some f) s lt lt' =
    let here : s.budget ≤ s.budget = omega arith in
    let exits : AlikeExits Within Same s.budget (body_exits ends) (body_exits ends) = record {
      next = λ u b w. shows (pos 0) u b;
      on_break = λ u b w. shows (pos 0) u b;
      on_continue = λ u b w. shows (pos 0) u b;
      on_return = λ v u b w. shows v u b;
    } in
    (body_level p n n' s.budget lt lt' f.body).by s.budget here (body_exits ends) (body_exits ends) exits (entered f [] s) s.budget (refl, here)
  where
    shows : (v : ℤ) (u : State) (b : ℕ) → ends v u ≡ ends v (with_budget b u)
    shows v u b = refl

-- the meaning at any number above the budget
pub at_level : (p : Program) (input : List ℕ) (budget n : ℕ) → budget < n → source_meaning p input budget ≡ run_main p n (slice_get p.functions (main_of p)) (start p input budget)
unfolding source_meaning
at_level p input budget n lt = let own : budget < suc budget = omega arith in main_same p (suc budget) n (slice_get p.functions (main_of p)) (start p input budget) own lt
