-- The meaning is steady: a greater budget says more.
use Rattle.std.proofs.Common.{◌≡◌, ℕ, zero, suc, ◌≤◌, ◌<◌, List, [], ◌++◌, Option, Some, None, refl, sym, ◌∙◌, arith, subst, append_assoc}
use Rattle.std.specs.Prelude.{slice_get}
use Rattle.ib_meaning.proofs.Agreement.{prefix_refl}
use Rattle.ib_meaning.specs.Agreement.{Report, Keeps, IsPrefix, IsSteady, out_of}
use Rattle.c_typed.specs.Tree.{Function}
use Rattle.c_typed.specs.Program.{Program, main_of}
use Rattle.c_meaning.specs.Doing.{State, Step, spend, spend_of}
use Rattle.c_meaning.specs.Meaning.{body_exits, ends, entered, run_main, start, source_meaning}
use Rattle.c_meaning.proofs.Alike.{with_budget, AlikeSteps, AlikeExits, IsClosed, body_alike}
use Rattle.c_meaning.proofs.Level.{at_level}

abbrev NotLess : (d b b' : ℕ) → Type 0
NotLess d b b' = b ≤ b'

-- what one says, the other says too, and it goes on from what was printed
abbrev SaysMore : (out : List ℕ) → Report → Report → Type 0
SaysMore out r r' = Keeps r r' × IsPrefix out (out_of r')

abbrev Lower : (e d : ℕ) → Type 0
Lower e d = e ≤ d

abbrev Same : (d n n' : ℕ) → Type 0
Same d n n' = n ≡ n'

spends : (d : ℕ) (k h : Step) → ((e : ℕ) → Lower e d → AlikeSteps NotLess SaysMore e k h) → AlikeSteps NotLess SaysMore d (spend k) (spend h)
spends d k h same s b w = go s.budget b w
  where
    go : (x y : ℕ) → x ≤ y → SaysMore s.out (spend_of x k s) (spend_of y h (with_budget b s))
    go zero zero le = (prefix_refl s.out, prefix_refl s.out)
    go zero (suc y) le =
        let here : d ≤ d = omega arith in
        let begins = (same d here (record s { budget = 0 }) y (omega arith)).1 in
        (begins, begins)
    go (suc x) zero le = absurd (omega arith)
    go (suc x) (suc y) le = let here : d ≤ d = omega arith in same d here (record s { budget = x }) y (omega arith)

closed : IsClosed NotLess SaysMore Lower Same
closed = record {
  wider = λ e d b b' le w. w;
  earlier = λ out bytes r r' says. (says.0, (bytes ++ says.1.0, sym (append_assoc out bytes says.1.0) ∙ says.1.1));
  over = λ finish out left. (refl, prefix_refl out);
  more = λ out left. (prefix_refl out, prefix_refl out);
  less = λ e d le. le;
  spends = spends;
  lower = λ e d n n' le same. same;
  deeper = λ e d n n' le same. omega (arith, same);
  never_left = λ d n same. omega (arith, same);
  never_right = λ d n same. omega (arith, same);
}

main_says_more : (p : Program) (n : ℕ) (o : Option Function) (s : State) (b : ℕ) → s.budget ≤ b → Keeps (run_main p n o s) (run_main p n o (with_budget b s))
main_says_more p n None s b le = prefix_refl s.out
main_says_more p n (Some f) s b le =
    let here : s.budget ≤ s.budget = omega arith in
    let exits : AlikeExits NotLess SaysMore s.budget (body_exits ends) (body_exits ends) = record {
      next = λ u b w. (refl, prefix_refl u.out);
      on_break = λ u b w. (refl, prefix_refl u.out);
      on_continue = λ u b w. (refl, prefix_refl u.out);
      on_return = λ v u b w. (refl, prefix_refl u.out);
    } in
    ((body_alike NotLess SaysMore Lower Same closed p n n s.budget refl f.body).by s.budget here (body_exits ends) (body_exits ends) exits (entered f [] s) b le).0

pub steady : (p : Program) → IsSteady (source_meaning p)
steady p = record {
  later = λ input n m le.
      let low : n < suc m = omega arith in
      let high : m < suc m = omega arith in
      subst (λ r. Keeps r (source_meaning p input m)) (sym (at_level p input n (suc m) low))
      (subst (λ r. Keeps (run_main p (suc m) (slice_get p.functions (main_of p)) (start p input n)) r) (sym (at_level p input m (suc m) high))
      (main_says_more p (suc m) (slice_get p.functions (main_of p)) (start p input n) m le));
}
