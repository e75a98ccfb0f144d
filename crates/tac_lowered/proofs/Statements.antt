-- What statements do, by what their expressions give.
use Rattle.std.proofs.Common.{◌≡◌, ℕ, ◌+◌, ◌<◌, ◌≤◌, ℤ, pos, List, ◌++◌, Bool, true, false, ◌||◌, refl, sym, subst, arith, Some, None}
use Rattle.ib_base.specs.declared.integers.Width.{Width}
use Rattle.ib_base.specs.declared.integers.Width.TheVariants.{W1, W4, W8}
use Rattle.c_meaning.specs.Doing.{Step, Doing, pure}
use Rattle.c_meaning.specs.Meaning.{Exits, loop, evals, part, exec, execs}
use Rattle.c_typed.specs.declared.operation.Operation.{Operation}
use Rattle.c_typed.specs.declared.operation.Operation.TheVariants as op
use Rattle.c_typed.specs.Tree as t
use Rattle.c_typed.specs.Tree.{Exp, Exps, Maybe, Stm, Stms}
use Rattle.c_typed.specs.Program as typed
use Rattle.c_typed.specs.Values.{width_of, ranked}
use Rattle.tac_lowered.specs.Code.{returns, Code, nothing, both, repeat, leave, Test}
use Rattle.tac_lowered.specs.Items.{goes, items}
use Rattle.tac_lowered.specs.Operators.{narrows, given_by}
use Rattle.tac_lowered.specs.Expressions.{low, held, at, effects, tested, width_in, is_quiet}
use Rattle.tac_lowered.specs.Statements.{goes_on, go_on, low_stm, low_stms, test_part, returned}
use Rattle.c_kept.specs.Kept.{fits_in, told, gives, KeepsExp, KeepsExps, KeepsPart, Returns, KeepsStm, KeepsStms}
use Rattle.tac_lowered.proofs.Relation.{Spot, Lies}
use Rattle.tac_lowered.proofs.Gives.{Gives, kept_all, first_has, second_has, both_follows}
use Rattle.tac_lowered.proofs.Constructs.{Lowers, Tests, ev, settled_tests}
use Rattle.tac_lowered.proofs.Executing.{Execs, plain_execs, nothing_execs, break_execs, continue_execs, both_execs, when_execs, choose_execs, repeat_own, repeat_on, until_execs}
use Rattle.tac_lowered.proofs.Widths.{wider, truth_lies}

pub no_loss : (w w' : Width) → fits_in w w' ≡ true → narrows w w' ≡ false
no_loss W1 W1 h = refl
no_loss W1 W4 h = refl
no_loss W1 W8 h = refl
no_loss W4 W1 h = sym h
no_loss W4 W4 h = refl
no_loss W4 W8 h = refl
no_loss W8 W1 h = sym h
no_loss W8 W4 h = sym h
no_loss W8 W8 h = refl

pub never_itself : (w : Width) → narrows w w ≡ false
never_itself W1 = refl
never_itself W4 = refl
never_itself W8 = refl

given_in : (o : Operation) → narrows (given_by o) (gives o) ≡ false
given_in (op.Integer o rank) = never_itself (ranked rank)
given_in (op.Compare o) = refl
given_in (op.Advance size) = refl
given_in (op.AdvanceBy size) = refl
given_in (op.Retreat size) = refl
given_in (op.Distance size) = refl

-- a value lies in the type that its node tells
pub told_in : (p : typed.Program) (kinds : List _) (a : Exp) → KeepsExp p kinds a → narrows (width_in a) (told a) ≡ false
told_in p kinds (t.constant ty v) h = never_itself (width_of ty)
told_in p kinds (t.text k) h = refl
told_in p kinds (t.address ty of) h = refl
told_in p kinds (t.element ty array length size reach a) h = refl
told_in p kinds (t.slot ty k) h = never_itself (width_of ty)
told_in p kinds (t.load ty a) h = never_itself (width_of ty)
told_in p kinds (t.convert ty a) h = never_itself (width_of ty)
told_in p kinds (t.unary o rank a) h = never_itself (ranked rank)
told_in p kinds (t.not a) h = refl
told_in p kinds (t.binary ty o a b) h = subst (λ w. narrows (given_by o) w ≡ false) (sym h.3) (given_in o)
told_in p kinds (t.both a b) h = refl
told_in p kinds (t.either a b) h = refl
told_in p kinds (t.conditional ty a b c) h = never_itself (width_of ty)
told_in p kinds (t.set_slot ty k a) h = never_itself (width_of ty)
told_in p kinds (t.store ty a b) h = never_itself (width_of ty)
told_in p kinds (t.update_slot ty k within o a) h = never_itself (width_of ty)
told_in p kinds (t.update ty a within o b) h = never_itself (width_of ty)
told_in p kinds (t.step_slot ty k within o) h = never_itself (width_of ty)
told_in p kinds (t.step ty a within o) h = never_itself (width_of ty)
told_in p kinds (t.call ty f all) h = never_itself (width_of ty)
told_in p kinds t.get_byte h = refl
told_in p kinds (t.put_byte a) h = refl
told_in p kinds (t.put_number a) h = refl
told_in p kinds (t.comma all a) h = told_in p kinds a h.1

pub zero_lies : (w : Width) → Lies w (pos 0)
zero_lies W1 = truth_lies false
zero_lies W4 = wider W1 W4 (pos 0) refl (truth_lies false)
zero_lies W8 = wider W1 W8 (pos 0) refl (truth_lies false)

or_false : (a : Bool) → (a || false) ≡ a
or_false true = refl
or_false false = refl

module _ (C : Spot) (lowers : (a : Exp) → KeepsExp C.p C.kinds a → Lowers C a) where
  here : C.free ≤ C.free
  here = omega arith

  effect_execs : (a : Code) (r : ℕ) (q : Bool) (w : Width) (m : Doing ℤ) (in_loop : Bool) → Gives C a None r q w m → Execs C a in_loop false (λ y. m (λ _. y.next))
  effect_execs a r q w m in_loop ga = record {
    by = λ x n o rest h d dc y to regs t q mt. ga.by x n o rest h d dc (λ _. y.next) regs t q mt (λ v regs1 u f. to.next regs1 u f.budget f.match');
    own = λ x s l o rest none h d dc y to regs t q mt. ga.own x s l o rest none h d dc (λ _. y.next) regs t q mt (λ v regs1 u f. to.next regs1 u f.budget f.match');
  }

  effects_execs : (all : Exps) (s : ℕ) (in_loop : Bool) → KeepsExps C.p C.kinds all → Execs C (effects C.p all s C.free) in_loop false (λ y. evals C.p C.call C.m all (typed.place_of C.p s) (λ _. y.next))
  effects_execs t.no_exp s in_loop h = nothing_execs C in_loop false
  effects_execs (t.an_exp a t.no_exp) s in_loop h = effect_execs (low C.p a s None C.free) C.free (is_quiet a) (width_in a) (ev C a s) in_loop ((lowers a h.0).gives s None C.free here)
  effects_execs (t.an_exp a (t.an_exp b rest)) s in_loop h =
      both_execs C (low C.p a s None C.free) (effects C.p (t.an_exp b rest) s C.free) in_loop false false (λ y. ev C a s (λ _. y.next)) (λ y. evals C.p C.call C.m (t.an_exp b rest) (typed.place_of C.p s) (λ _. y.next))
      (effect_execs (low C.p a s None C.free) C.free (is_quiet a) (width_in a) (ev C a s) in_loop ((lowers a h.0).gives s None C.free here)) (effects_execs (t.an_exp b rest) s in_loop h.1)

  return_execs : (a : Maybe) (s : ℕ) (in_loop : Bool) → Returns C.p C.kinds C.result a → Execs C (returned C.p a s C.free) in_loop false (λ y. part C.p C.call C.m (pos 0) a (typed.place_of C.p s) y.on_return)
  return_execs t.missing s in_loop h = plain_execs C (leave s (returns None)) in_loop false (λ y. y.on_return (pos 0)) refl (λ x n o rest h d dc y to regs t q mt.
      to.on_return (pos 0) s o rest None regs t h q mt refl (zero_lies (width_of C.result)))
  return_execs (t.given a) s in_loop keeps = plain_execs C (both A L) in_loop false (λ y. ev C a s y.on_return) refl (λ x n o rest h d dc y to regs t q mt.
      let h2 = second_has C A L x n o rest h in
      let in_regs : reg < C.F.regs = let e1 = h2.room in omega (arith, e1) in
      both_follows C A L x n o rest regs t _
      (((lowers a keeps.0).puts true s C.free here).by x o (items L x n (goes A false o) ++ rest) (first_has C A L x n o rest h) d dc y.on_return regs t q mt (λ v regs1 u f st.
      to.on_return v s (goes A false o) rest (Some reg) regs1 u h2 f.budget f.match' (st.by regs1 u in_regs (kept_all C (C.free + 1) regs1) f.match' (λ _. refl))
      (wider (told a) (width_of C.result) v (no_loss (told a) (width_of C.result) keeps.1) (wider (width_in a) (told a) v (told_in C.p C.kinds a keeps.0) f.lies)))))
    where
      A : Code
      A = held true a (low C.p a s (Some C.free) C.free)

      reg : ℕ
      reg = at true a C.free

      L : Code
      L = leave s (returns (Some reg))

  test_tests : (a : Maybe) (s : ℕ) → KeepsPart C.p C.kinds a → (q : Bool) × Tests C (test_part C.p a s C.free) C.free q (part C.p C.call C.m (pos 1) a (typed.place_of C.p s))
  test_tests t.missing s h = (true, settled_tests C s C.free (pos 1))
  test_tests (t.given a) s h = (is_quiet a, (lowers a h).tests s C.free here)

  repeats : (s : ℕ) (own : Bool) (c : Test) (a b : Code) (q : Bool) (m last : Doing ℤ) (body : Exits → Step) → Tests C c C.free q m → Execs C a true own body → Execs C b false false (λ y. last (λ _. y.next)) → (in_loop : Bool) → Execs C (repeat s own c a b) in_loop false (loop C.m m last body)
  repeats s true c a b q m last body tc ea eb in_loop = repeat_own C s c a b C.free q true m last body tc ea eb in_loop
  repeats s false c a b q m last body tc ea eb in_loop = repeat_on C s c a b C.free q m last body tc ea eb in_loop

  mutual
    pub exec_does : (b : Stm) (in_loop : Bool) → KeepsStm C.p C.kinds C.result in_loop b → Execs C (low_stm C.p b C.free) in_loop (goes_on b) (exec C.p C.call C.m b)
    exec_does (t.block all) in_loop h = execs_do all in_loop h
    exec_does (t.empty s) in_loop h = nothing_execs C in_loop false
    exec_does (t.expression s a) in_loop h = effect_execs (low C.p a s None C.free) C.free (is_quiet a) (width_in a) (ev C a s) in_loop ((lowers a h).gives s None C.free here)
    exec_does (t.if_then s a b) in_loop h = when_execs C s (tested C.p a s C.free) (low_stm C.p b C.free) C.free (is_quiet a) in_loop (goes_on b) (ev C a s) (exec C.p C.call C.m b) ((lowers a h.0).tests s C.free here) (exec_does b in_loop h.1)
    exec_does (t.if_else s a b c) in_loop h =
        choose_execs C s (tested C.p a s C.free) (low_stm C.p b C.free) (low_stm C.p c C.free) C.free (is_quiet a) in_loop (goes_on b) (goes_on c) (ev C a s) (exec C.p C.call C.m b) (exec C.p C.call C.m c) ((lowers a h.0).tests s C.free here) (exec_does b in_loop h.1) (exec_does c in_loop h.2)
    exec_does (t.while_loop s a b) in_loop h = repeat_own C s (tested C.p a s C.free) (low_stm C.p b C.free) nothing C.free (is_quiet a) (goes_on b) (ev C a s) (pure (pos 0)) (exec C.p C.call C.m b) ((lowers a h.0).tests s C.free here) (exec_does b true h.1) (nothing_execs C false false) in_loop
    exec_does (t.do_while s b a) in_loop h = until_execs C s (goes_on b) (low_stm C.p b C.free) (tested C.p a s C.free) C.free (is_quiet a) (ev C a s) (exec C.p C.call C.m b) ((lowers a h.1).tests s C.free here) (exec_does b true h.0) in_loop
    exec_does (t.for_loop s all a t.missing b) in_loop h =
        let tc = test_tests a s h.1 in
        both_execs C (effects C.p all s C.free) (repeat s true (test_part C.p a s C.free) (low_stm C.p b C.free) nothing) in_loop false false (λ y. evals C.p C.call C.m all (typed.place_of C.p s) (λ _. y.next))
        (loop C.m (part C.p C.call C.m (pos 1) a (typed.place_of C.p s)) (pure (pos 0)) (exec C.p C.call C.m b)) (effects_execs all s in_loop h.0)
        (repeat_own C s (test_part C.p a s C.free) (low_stm C.p b C.free) nothing C.free tc.0 (goes_on b) (part C.p C.call C.m (pos 1) a (typed.place_of C.p s)) (pure (pos 0)) (exec C.p C.call C.m b) tc.1 (exec_does b true h.3) (nothing_execs C false false) in_loop)
    exec_does (t.for_loop s all a (t.given c) b) in_loop h =
        let tc = test_tests a s h.1 in
        both_execs C (effects C.p all s C.free) (repeat s (goes_on b) (test_part C.p a s C.free) (low_stm C.p b C.free) (low C.p c s None C.free)) in_loop false false (λ y. evals C.p C.call C.m all (typed.place_of C.p s) (λ _. y.next))
        (loop C.m (part C.p C.call C.m (pos 1) a (typed.place_of C.p s)) (ev C c s) (exec C.p C.call C.m b)) (effects_execs all s in_loop h.0)
        (repeats s (goes_on b) (test_part C.p a s C.free) (low_stm C.p b C.free) (low C.p c s None C.free) tc.0 (part C.p C.call C.m (pos 1) a (typed.place_of C.p s)) (ev C c s) (exec C.p C.call C.m b) tc.1 (exec_does b true h.3)
        (effect_execs (low C.p c s None C.free) C.free (is_quiet c) (width_in c) (ev C c s) false ((lowers c h.2).gives s None C.free here)) in_loop)
    exec_does (t.break s) in_loop h = subst (λ z. Execs C (low_stm C.p (t.break s) C.free) z false (exec C.p C.call C.m (t.break s))) (sym h) (break_execs C s false)
    exec_does (t.continue s) in_loop h = continue_execs C s in_loop
    exec_does (t.return s a) in_loop h = return_execs a s in_loop h
    exec_does (t.local s all) in_loop h = effects_execs all s in_loop h

    pub execs_do : (all : Stms) (in_loop : Bool) → KeepsStms C.p C.kinds C.result in_loop all → Execs C (low_stms C.p all C.free) in_loop (go_on all) (execs C.p C.call C.m all)
    execs_do t.no_stm in_loop h = nothing_execs C in_loop false
    execs_do (t.a_stm a t.no_stm) in_loop h = subst (λ g. Execs C (low_stm C.p a C.free) in_loop g (exec C.p C.call C.m a)) (sym (or_false (goes_on a))) (exec_does a in_loop h.0)
    execs_do (t.a_stm a (t.a_stm b rest)) in_loop h =
        both_execs C (low_stm C.p a C.free) (low_stms C.p (t.a_stm b rest) C.free) in_loop (goes_on a) (go_on (t.a_stm b rest)) (exec C.p C.call C.m a) (execs C.p C.call C.m (t.a_stm b rest)) (exec_does a in_loop h.0) (execs_do (t.a_stm b rest) in_loop h.1)
