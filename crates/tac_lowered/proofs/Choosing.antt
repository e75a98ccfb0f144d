-- Truth values, addresses, signs and sequences.
use Rattle.std.proofs.Common.{◌≡◌, ℕ, ◌≤◌, ℤ, pos, List, [], ◌++◌, Bool, true, false, ◌&&◌, not, refl, sym, ap, subst, Some, None, append_assoc}
use Rattle.std.specs.Prelude.{slice_set, slice_index_or, if◌then◌else◌, ◌+ℤ◌}
use mathlib.Core.Path.{fun_ext}
use Rattle.ib_base.specs.declared.integers.Width.{Width}
use Rattle.ib_base.specs.declared.integers.Width.TheVariants.{W1, W8}
use Rattle.ib_act.specs.declared.act.Act.TheVariants.{Const, FrameAddress}
use Rattle.ib_meaning.proofs.Facts.{both_first}
use Rattle.c_meaning.specs.Doing as e
use Rattle.c_meaning.specs.Doing.{Step, Doing, ◌>>=◌, pure}
use Rattle.c_typed.specs.declared.types.ValueType.{ValueType}
use Rattle.c_typed.specs.declared.expr.Storage.{Storage}
use Rattle.c_typed.specs.declared.expr.Storage.TheVariants.{Global, Frame}
use Rattle.c_typed.specs.Tree as t
use Rattle.c_typed.specs.Tree.{Exp, Exps}
use Rattle.c_typed.specs.Values.{is_true, truth, further}
use Rattle.tac_core.specs.Meaning.{Does, effect_of}
use Rattle.tac_lowered.specs.Code.{Code, does, when, Test, all_of, one_of, inverse}
use Rattle.tac_lowered.specs.Items.{goes, goes_test, jump, items, test_items, entry, own_items, owned, label_of}
use Rattle.tac_lowered.specs.Expressions.{low, tested, is_quiet, width_in}
use Rattle.tac_lowered.proofs.Geometry.{own_empty, empty_test}
use Rattle.tac_lowered.proofs.Relation.{Spot, Lies, Follows, Begins, Has, nearly, test_has}
use Rattle.tac_lowered.proofs.Gives.{After, Gives, plain_gives, kept_all, sets_follows}
use Rattle.tac_lowered.proofs.Constructs.{Lowers, Tests, GivesOf, ev, no_slot_puts, plain_lowers, all_tests, one_tests, not_tests}
use Rattle.tac_lowered.proofs.Operations.{own_has, begins_behind, after_later, choose_gives}
use Rattle.tac_lowered.proofs.Values.{nothing_gives, const_gives}
use Rattle.tac_lowered.proofs.Widths.{truth_lies, wrapped_lies}

module _ (C : Spot) where
  -- an effect that a test decides
  pub when_gives : (s : ℕ) (c : Test) (a : Code) (r : ℕ) (q qa : Bool) (w wa : Width) (m ma : Doing ℤ) (g : ℤ → ℤ) (z : ℤ) → Tests C c r q m → Gives C a None r qa wa ma → ((v : ℤ) → Lies w (g v)) → Lies w z
      → Gives C (when s c a) None r (q && qa) w (m >>= (λ x. if is_true x then ma >>= (λ y. pure (g y)) else pure z))
  when_gives s c a r q qa w wa m ma g z tc ga lies_g lies_z = plain_gives C (when s c a) None r (q && qa) w (m >>= (λ x. if is_true x then ma >>= (λ y. pure (g y)) else pure z)) refl (λ x n o rest h d dc k regs t qd mt next.
      let p = goes_test c o in
      let p' = owned a p (goes a true p) in
      let out = label_of n p'.label in
      let T = test_items c (entry a x out p.label) out o in
      let A = own_items a (items a x (jump s out) p) in
      let e1 : (T ++ A) ++ rest ≡ T ++ (A ++ rest) = append_assoc T A rest in
      let h1 = subst (λ is. Has C o is) e1 h in
      let h2 = test_has C c (entry a x out p.label) out o (A ++ rest) h1 in
      let h3 = own_has C a x s out p rest h2 in
      let done : (v : ℤ) (regs2 : List ℤ) (u2 : e.State) → After C r (q && qa) w d regs t v regs2 u2 → Begins C out regs2 u2 (k v u2) = λ v regs2 u2 f. begins_behind C n p' rest regs2 u2 (k v u2) (own_empty a p (empty_test c o)) h3 (next v regs2 u2 f) in
      subst (λ is. Follows C o is regs t (m (λ v. (if is_true v then ma >>= (λ y. pure (g y)) else pure z) k) t)) (sym e1)
      (subst (λ kk. Follows C o (T ++ (A ++ rest)) regs t (m kk t)) (fun_ext (λ v. inside (is_true v) k))
      (tc.by (entry a x out p.label) out o (A ++ rest) h1 d dc (ma (λ y. k (g y))) (k z) regs t qd mt
      (λ regs1 u l. nearly C.funcs C.places _ u _ (ga.own x s out p rest (empty_test c o) h2 d dc (λ y. k (g y)) regs1 u l.budget l.match' (λ v regs2 u2 f.
      done (g v) regs2 u2 (let f2 = after_later C r q qa wa d regs regs1 regs2 t u u2 v l f in record { budget = f2.budget; match' = f2.match'; kept = f2.kept; still = f2.still; lies = lies_g v }))))
      (λ regs1 u l. nearly C.funcs C.places _ u _ (done z regs1 u (record { budget = l.budget; match' = l.match'; kept = l.kept; still = λ hq. l.still (both_first q qa hq); lies = lies_z }))))))
    where
      inside : (x : Bool) (k : ℤ → Step) → (if x then ma (λ y. k (g y)) else k z) ≡ (if x then ma >>= (λ y. pure (g y)) else pure z) k
      inside true k = refl
      inside false k = refl

  abbrev one_or_none : ℤ → Doing ℤ
  one_or_none v = if is_true v then pure (pos 1) else pure (pos 0)

  as_truth : (b : Bool) (k : ℤ → Step) → one_or_none (truth b) k ≡ k (truth b)
  as_truth true k = refl
  as_truth false k = refl

  one_lies : Lies W1 (pos 1)
  one_lies = truth_lies true

  none_lies : Lies W1 (pos 0)
  none_lies = truth_lies false

  all_same : (m m' : Doing ℤ) (k : ℤ → Step) → (m >>= (λ x. if is_true x then m' >>= (λ y. pure (truth (is_true y))) else pure (pos 0))) (λ v. one_or_none v k) ≡ (m >>= (λ x. if is_true x then m' >>= (λ y. pure (truth (is_true y))) else pure (pos 0))) k
  all_same m m' k = ap (λ f. m f) (fun_ext (λ x. inner (is_true x)))
    where
      inner : (b : Bool) → (if b then m' >>= (λ y. pure (truth (is_true y))) else pure (pos 0)) (λ v. one_or_none v k) ≡ (if b then m' >>= (λ y. pure (truth (is_true y))) else pure (pos 0)) k
      inner true = ap (λ f. m' f) (fun_ext (λ y. as_truth (is_true y) k))
      inner false = refl

  one_same : (m m' : Doing ℤ) (k : ℤ → Step) → (m >>= (λ x. if is_true x then pure (pos 1) else m' >>= (λ y. pure (truth (is_true y))))) (λ v. one_or_none v k) ≡ (m >>= (λ x. if is_true x then pure (pos 1) else m' >>= (λ y. pure (truth (is_true y))))) k
  one_same m m' k = ap (λ f. m f) (fun_ext (λ x. inner (is_true x)))
    where
      inner : (b : Bool) → (if b then pure (pos 1) else m' >>= (λ y. pure (truth (is_true y)))) (λ v. one_or_none v k) ≡ (if b then pure (pos 1) else m' >>= (λ y. pure (truth (is_true y)))) k
      inner true = refl
      inner false = ap (λ f. m' f) (fun_ext (λ y. as_truth (is_true y) k))

  flip_same : (m m' : Doing ℤ) (k : ℤ → Step) → ((m >>= (λ x. pure (truth (not (is_true x))))) >>= (λ v. if is_true v then m' >>= (λ y. pure (truth (is_true y))) else pure (pos 1))) k ≡ (m >>= (λ x. if is_true x then pure (pos 1) else m' >>= (λ y. pure (truth (is_true y))))) k
  flip_same m m' k = ap (λ f. m f) (fun_ext (λ x. inner (is_true x)))
    where
      inner : (b : Bool) → (if is_true (truth (not b)) then m' >>= (λ y. pure (truth (is_true y))) else pure (pos 1)) k ≡ (if b then pure (pos 1) else m' >>= (λ y. pure (truth (is_true y)))) k
      inner true = refl
      inner false = refl

  pub both_lowers : (a b : Exp) → Lowers C a → Lowers C b → Lowers C (t.both a b)
  both_lowers a b la lb = record { gives = gives'; puts = no_slot_puts C (t.both a b) refl gives'; tests = tests' }
    where
      q : Bool
      q = is_quiet a && is_quiet b

      tests' : (s r : ℕ) → C.free ≤ r → Tests C (all_of (tested C.p a s r) (tested C.p b s r)) r (is_quiet a && is_quiet b) (ev C (t.both a b) s)
      tests' s r le = all_tests C (tested C.p a s r) (tested C.p b s r) (λ o. empty_test (tested C.p a s r) o) r (is_quiet a) (is_quiet b) (ev C a s) (ev C b s) (la.tests s r le) (lb.tests s r le)

      gives' : GivesOf C (t.both a b)
      gives' s None r le = when_gives s (tested C.p a s r) (low C.p b s None r) r (is_quiet a) (is_quiet b) W1 (width_in b) (ev C a s) (ev C b s) (λ y. truth (is_true y)) (pos 0) (la.tests s r le) (lb.gives s None r le) (λ v. truth_lies (is_true v)) none_lies
      gives' s (Some to) r le =
          subst (λ m. Gives C (low C.p (t.both a b) s (Some to) r) (Some to) r (is_quiet a && is_quiet b) W1 m) (fun_ext (λ k. all_same (ev C a s) (ev C b s) k))
          (choose_gives C s (all_of (tested C.p a s r) (tested C.p b s r)) (does s (Const to (pos 1))) (does s (Const to (pos 0))) (Some to) r (is_quiet a && is_quiet b) true true (is_quiet a && is_quiet b) W1 W1 W1 (ev C (t.both a b) s) (pure (pos 1)) (pure (pos 0))
          (tests' s r le) (const_gives C s to r W1 (pos 1) one_lies) (const_gives C s to r W1 (pos 0) none_lies) (λ h. (h, refl, refl)) (λ v l. l) (λ v l. l))

  pub either_lowers : (a b : Exp) → Lowers C a → Lowers C b → Lowers C (t.either a b)
  either_lowers a b la lb = record { gives = gives'; puts = no_slot_puts C (t.either a b) refl gives'; tests = tests' }
    where
      tests' : (s r : ℕ) → C.free ≤ r → Tests C (one_of (tested C.p a s r) (tested C.p b s r)) r (is_quiet a && is_quiet b) (ev C (t.either a b) s)
      tests' s r le = one_tests C (tested C.p a s r) (tested C.p b s r) (λ o. empty_test (tested C.p a s r) o) r (is_quiet a) (is_quiet b) (ev C a s) (ev C b s) (la.tests s r le) (lb.tests s r le)

      gives' : GivesOf C (t.either a b)
      gives' s None r le =
          subst (λ m. Gives C (low C.p (t.either a b) s None r) None r (is_quiet a && is_quiet b) W1 m) (fun_ext (λ k. flip_same (ev C a s) (ev C b s) k))
          (when_gives s (inverse (tested C.p a s r)) (low C.p b s None r) r (is_quiet a) (is_quiet b) W1 (width_in b) (ev C a s >>= (λ x. pure (truth (not (is_true x))))) (ev C b s) (λ y. truth (is_true y)) (pos 1)
          (not_tests C (tested C.p a s r) r (is_quiet a) (ev C a s) (la.tests s r le)) (lb.gives s None r le) (λ v. truth_lies (is_true v)) one_lies)
      gives' s (Some to) r le =
          subst (λ m. Gives C (low C.p (t.either a b) s (Some to) r) (Some to) r (is_quiet a && is_quiet b) W1 m) (fun_ext (λ k. one_same (ev C a s) (ev C b s) k))
          (choose_gives C s (one_of (tested C.p a s r) (tested C.p b s r)) (does s (Const to (pos 1))) (does s (Const to (pos 0))) (Some to) r (is_quiet a && is_quiet b) true true (is_quiet a && is_quiet b) W1 W1 W1 (ev C (t.either a b) s) (pure (pos 1)) (pure (pos 0))
          (tests' s r le) (const_gives C s to r W1 (pos 1) one_lies) (const_gives C s to r W1 (pos 0) none_lies) (λ h. (h, refl, refl)) (λ v l. l) (λ v l. l))

  -- ---- addresses

  pub frame_acts : (j offset base : ℕ) (regs : List ℤ) (memory left : List ℕ) → effect_of (FrameAddress j (pos offset)) base regs memory left ≡ Does (slice_set regs j (further (pos base) (pos offset))) memory left []
  unfolding effect_of
  frame_acts j offset base regs memory left = refl

  pub address_lowers : (ty : ValueType) (of : Storage) → ((j : ℕ) → Lies W8 (pos (slice_index_or C.p.globals j 0))) → Lowers C (t.address ty of)
  address_lowers ty of lie = plain_lowers C (t.address ty of) refl refl (gives' of)
    where
      gives' : (of : Storage) → GivesOf C (t.address ty of)
      gives' (Global j) s None r le = nothing_gives C r W8 (pos (slice_index_or C.p.globals j 0)) (lie j)
      gives' (Global j) s (Some to) r le = const_gives C s to r W8 (pos (slice_index_or C.p.globals j 0)) (lie j)
      gives' (Frame offset) s None r le = record {
        by = λ x n o rest h d dc k regs t qd mt next. let f = (nothing_gives C r W8 (further (pos t.base) (pos offset)) (wrapped_lies W8 (pos t.base +ℤ pos offset))).by x n o rest h d dc k regs t qd mt next in f;
        own = λ x s l o rest none h d dc k regs t qd mt next. let f = (nothing_gives C r W8 (further (pos t.base) (pos offset)) (wrapped_lies W8 (pos t.base +ℤ pos offset))).own x s l o rest none h d dc k regs t qd mt next in f;
      }
      gives' (Frame offset) s (Some to) r le = plain_gives C (does s (FrameAddress to (pos offset))) (Some to) r true W8 (ev C (t.address ty (Frame offset)) s) refl (λ x n o rest h d dc k regs t qd mt next.
          let v = further (pos t.base) (pos offset) in
          sets_follows C s (FrameAddress to (pos offset)) x n o rest regs (slice_set regs to v) t (k v t) h (frame_acts to offset t.base regs t.memory t.left)
          (next v regs t (record { budget = qd; match' = mt; kept = kept_all C r regs; still = λ _. refl; lies = wrapped_lies W8 (pos t.base +ℤ pos offset) })))
