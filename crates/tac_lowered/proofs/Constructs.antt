-- What single constructs give.
use Rattle.std.proofs.Common.{◌≡◌, ℕ, ◌+◌, ◌<◌, ◌≤◌, ℤ, pos, List, [], ◌∷◌, ◌++◌, Bool, true, false, ◌&&◌, not, refl, sym, ap, ◌∙◌, subst, arith, Option, Some, append_assoc}
use Rattle.std.specs.Prelude.{◌==◌, if◌then◌else◌}
use mathlib.Core.Path.{fun_ext}
use Rattle.std.proofs.lemmas.Bool.{eqb-true}
use Rattle.ib_base.specs.declared.integers.Width.{Width}
use Rattle.ib_meaning.proofs.Facts.{both_first, both_second}
use Rattle.c_meaning.specs.Doing as e
use Rattle.c_meaning.specs.Doing.{Step, Doing, ◌>>=◌, pure, or_fault, get_slot, set_slot}
use Rattle.c_meaning.specs.Meaning.{eval}
use Rattle.c_typed.specs.Tree as t
use Rattle.c_typed.specs.Tree.{Exp, Exps}
use Rattle.c_typed.specs.Program as typed
use Rattle.c_typed.specs.Values.{is_true, truth}
use Rattle.tac_core.specs.declared.code.End.{End}
use Rattle.tac_core.specs.declared.code.End.TheVariants.{Jump, Branch}
use Rattle.tac_core.specs.Meaning.{reg_of}
use Rattle.tac_lowered.specs.Code.{Code, Test, settled, on, all_of, one_of, inverse}
use Rattle.tac_lowered.specs.Items.{Item, Close, Open, goes, goes_test, onward, Loop, branch, items, test_items}
use Rattle.tac_lowered.specs.Expressions.{low, held, at, test, tested, is_quiet, width_in}
use Rattle.tac_lowered.proofs.Relation.{Spot, many, Match, Kept, Follows, Nears, Has, code_has, test_has, jumps, branch_steps, enters, nearly}
use Rattle.tac_lowered.proofs.Gives.{After, Gives, Puts, kept_all, kept_on, gives_puts}

abbrev pub is_slot : Exp → Bool
is_slot (t.slot ty k) = true
is_slot e = false

-- no test of its own kind
abbrev pub is_plain : Exp → Bool
is_plain (t.constant ty v) = false
is_plain (t.not a) = false
is_plain (t.both a b) = false
is_plain (t.either a b) = false
is_plain e = true

held_plain : (b : Bool) (e : Exp) (code : Code) → is_slot e ≡ false → held b e code ≡ code
held_plain true (t.slot ty k) code h = let z : ⊥ = cc in absurd z
held_plain true e code h = refl
held_plain false e code h = refl

at_plain : (b : Bool) (e : Exp) (r : ℕ) → is_slot e ≡ false → at b e r ≡ r
at_plain true (t.slot ty k) r h = let z : ⊥ = cc in absurd z
at_plain true e r h = refl
at_plain false e r h = refl

test_plain : (p : typed.Program) (e : Exp) (s r : ℕ) (value : Code) → is_plain e ≡ true → test p e s r value ≡ on s (held true e value) (at true e r)
test_plain p (t.constant ty v) s r value h = let z : ⊥ = cc in absurd z
test_plain p (t.not a) s r value h = let z : ⊥ = cc in absurd z
test_plain p (t.both a b) s r value h = let z : ⊥ = cc in absurd z
test_plain p (t.either a b) s r value h = let z : ⊥ = cc in absurd z
test_plain p e s r value h = refl

true_truth : (b : Bool) → is_true (truth b) ≡ b
true_truth true = refl
true_truth false = refl

module _ (C : Spot) where
  abbrev pub ev : Exp → (s : ℕ) → Doing ℤ
  ev e s = eval C.p C.call C.m e (typed.place_of C.p s)

  -- what holds behind a test
  pub record Later (r : ℕ) (is_still : Bool) (d : ℕ) (regs : List ℤ) (t : e.State) (regs' : List ℤ) (u : e.State) : Type 0 where
    pub budget : u.budget ≤ d
    pub match' : Match C regs' u
    pub kept : Kept C r regs regs'
    pub still : is_still ≡ true → u.slots ≡ t.slots

  -- Either side may pay for a unit, since `!` exchanges them.
  pub record Tests (a : Test) (r : ℕ) (is_still : Bool) (m : Doing ℤ) : Type 0 where
    pub by : (there other : ℕ) (o : Open) (rest : List Item) → Has C o (test_items a there other o ++ rest) → (d : ℕ) → d ≤ C.c → (yes' no' : Step) (regs : List ℤ) (t : e.State) → t.budget ≤ d → Match C regs t
        → ((regs' : List ℤ) (u : e.State) → Later r is_still d regs t regs' u → Nears C there regs' u (yes' u))
        → ((regs' : List ℤ) (u : e.State) → Later r is_still d regs t regs' u → Nears C other regs' u (no' u))
        → Follows C o (test_items a there other o ++ rest) regs t (m (λ v. if is_true v then yes' else no') t)

  -- an expression is lowered: to a register, to an operand, and to a test
  pub record Lowers (a : Exp) : Type 0 where
    pub gives : (s : ℕ) (to : Option ℕ) (r : ℕ) → C.free ≤ r → Gives C (low C.p a s to r) to r (is_quiet a) (width_in a) (ev a s)
    pub puts : (is_kept : Bool) (s r : ℕ) → C.free ≤ r → Puts C is_kept (held is_kept a (low C.p a s (Some r) r)) (at is_kept a r) r (is_quiet a) (width_in a) (ev a s)
    pub tests : (s r : ℕ) → C.free ≤ r → Tests (tested C.p a s r) r (is_quiet a) (ev a s)

  pub up : (r : ℕ) → C.free ≤ r → many C ≤ r
  up r le = let a = C.enough in omega (arith, a)

  later_of : (r : ℕ) (q : Bool) (w : Width) (d : ℕ) (regs : List ℤ) (t : e.State) (v : ℤ) (regs' : List ℤ) (u : e.State) → After C r q w d regs t v regs' u → Later r q d regs t regs' u
  later_of r q w d regs t v regs' u a = record { budget = a.budget; match' = a.match'; kept = a.kept; still = a.still }

  -- ---- tests

  either_way : (b : Bool) (yes' no' : Step) (l : ℕ) (regs : List ℤ) (u : e.State) → Nears C l regs u (yes' u) → Nears C l regs u (no' u) → Nears C l regs u ((if b then yes' else no') u)
  either_way true yes' no' l regs u a b = a
  either_way false yes' no' l regs u a b = b

  branches : (o : Open) (s r there other : ℕ) (is : List Item) (v : ℤ) (yes' no' : Step) (regs : List ℤ) (t : e.State) → Has C o (Close s (branch r there other) ∷ is) → (r < C.F.regs → reg_of regs r ≡ v)
      → Nears C there regs t (yes' t) → Nears C other regs t (no' t) → Follows C o (Close s (branch r there other) ∷ is) regs t ((if is_true v then yes' else no') t)
  branches o s r there other is v yes' no' regs t h same a b = go (there == other) (λ e. eqb-true there other e) h
    where
      end' : Bool → End
      end' x = if x then Jump there else Branch r there other

      go : (x : Bool) → (x ≡ true → there ≡ other) → Has C o (Close s (end' x) ∷ is) → Follows C o (Close s (end' x) ∷ is) regs t ((if is_true v then yes' else no') t)
      go true e h = jumps C o s there is regs t _ h (either_way (is_true v) yes' no' there regs t a (subst (λ l. Nears C l regs t (no' t)) (sym (e refl)) b))
      go false e h =
          let in_regs : r < C.F.regs = let e1 = h.room in omega (arith, e1) in
          branch_steps C o s r there other is v yes' no' regs t h (same in_regs) a b

  on_as : (s : ℕ) (a : Code) (reg there other : ℕ) (o : Open) (rest : List Item) → test_items (on s a reg) there other o ++ rest ≡ items a (record { on_break = 0; on_continue = 0 }) onward o ++ (Close s (branch reg there other) ∷ rest)
  on_as s a reg there other o rest = append_assoc (items a (record { on_break = 0; on_continue = 0 }) onward o) (Close s (branch reg there other) ∷ []) rest

  pub on_tests : (s : ℕ) (a : Code) (reg r : ℕ) (q : Bool) (w : Width) (m : Doing ℤ) → Puts C true a reg r q w m → Tests (on s a reg) r q m
  on_tests s a reg r q w m g = record {
    by = λ there other o rest h d dc yes' no' regs t qd mt yes_does no_does.
        let lp : Loop = record { on_break = 0; on_continue = 0 } in
        let h1 = subst (λ is. Has C o is) (on_as s a reg there other o rest) h in
        subst (λ is. Follows C o is regs t (m (λ v. if is_true v then yes' else no') t)) (sym (on_as s a reg there other o rest))
        (g.by lp o (Close s (branch reg there other) ∷ rest) h1 d dc (λ v. if is_true v then yes' else no') regs t qd mt (λ v regs' u f st.
        branches (goes a false o) s reg there other rest v yes' no' regs' u (code_has C a lp onward o (Close s (branch reg there other) ∷ rest) h1)
        (λ in_regs. st.by regs' u in_regs (kept_all C (r + 1) regs') f.match' (λ _. refl)) (yes_does regs' u (later_of r q w d regs t v regs' u f)) (no_does regs' u (later_of r q w d regs t v regs' u f))));
  }

  pub settled_tests : (s r : ℕ) (v : ℤ) → Tests (settled s (is_true v)) r true (pure v)
  settled_tests s r v = record {
    by = λ there other o rest h d dc yes' no' regs t qd mt yes_does no_does.
        let l : Later r true d regs t regs t = record { budget = qd; match' = mt; kept = kept_all C r regs; still = λ _. refl } in
        go (is_true v) there other o rest h yes' no' regs t (yes_does regs t l) (no_does regs t l);
  }
    where
      go : (b : Bool) (there other : ℕ) (o : Open) (rest : List Item) → Has C o (Close s (Jump (if b then there else other)) ∷ rest) → (yes' no' : Step) (regs : List ℤ) (t : e.State) → Nears C there regs t (yes' t) → Nears C other regs t (no' t)
          → Follows C o (Close s (Jump (if b then there else other)) ∷ rest) regs t ((if b then yes' else no') t)
      go true there other o rest h yes' no' regs t a b = jumps C o s there rest regs t _ h a
      go false there other o rest h yes' no' regs t a b = jumps C o s other rest regs t _ h b

  pub not_tests : (a : Test) (r : ℕ) (q : Bool) (m : Doing ℤ) → Tests a r q m → Tests (inverse a) r q (m >>= (λ x. pure (truth (not (is_true x)))))
  not_tests a r q m g = record {
    by = λ there other o rest h d dc yes' no' regs t qd mt yes_does no_does.
        subst (λ k. Follows C o (test_items a other there o ++ rest) regs t (m k t)) (fun_ext (λ x. flip (is_true x) yes' no' ∙ ap (λ z. if z then yes' else no') (sym (true_truth (not (is_true x))))))
        (g.by other there o rest h d dc no' yes' regs t qd mt no_does yes_does);
  }
    where
      flip : (x : Bool) (yes' no' : Step) → (if x then no' else yes') ≡ (if not x then yes' else no')
      flip true yes' no' = refl
      flip false yes' no' = refl

  later_on : (r : ℕ) (p q : Bool) (d : ℕ) (a b c : List ℤ) (t u v : e.State) → Later r p d a t b u → Later r q d b u c v → Later r (p && q) d a t c v
  later_on r p q d a b c t u v ab bc = record {
    budget = bc.budget;
    match' = bc.match';
    kept = kept_on C r r a b c (omega arith) ab.kept bc.kept;
    still = λ h. bc.still (both_second p q h) ∙ ab.still (both_first p q h);
  }

  -- nothing is promised less
  later_first : (r : ℕ) (p q : Bool) (d : ℕ) (a b : List ℤ) (t u : e.State) → Later r p d a t b u → Later r (p && q) d a t b u
  later_first r p q d a b t u ab = record { budget = ab.budget; match' = ab.match'; kept = ab.kept; still = λ h. ab.still (both_first p q h) }

  two_as : (a b : Test) (there other there' other' : ℕ) (o : Open) (rest : List Item) → (test_items a there other o ++ test_items b there' other' (goes_test a o)) ++ rest ≡ test_items a there other o ++ (test_items b there' other' (goes_test a o) ++ rest)
  two_as a b there other there' other' o rest = append_assoc (test_items a there other o) (test_items b there' other' (goes_test a o)) rest

  pub all_tests : (a b : Test) (empty : (o : Open) → (goes_test a o).count ≡ 0) (r : ℕ) (q q' : Bool) (m m' : Doing ℤ) → Tests a r q m → Tests b r q' m'
      → Tests (all_of a b) r (q && q') (m >>= (λ x. if is_true x then m' >>= (λ y. pure (truth (is_true y))) else pure (pos 0)))
  all_tests a b empty r q q' m m' ga gb = record {
    by = λ there other o rest h d dc yes' no' regs t qd mt yes_does no_does.
        let p = goes_test a o in
        let h1 = subst (λ is. Has C o is) (two_as a b p.label other there other o rest) h in
        let h2 = test_has C a p.label other o (test_items b there other p ++ rest) h1 in
        subst (λ is. Follows C o is regs t ((m >>= (λ x. if is_true x then m' >>= (λ y. pure (truth (is_true y))) else pure (pos 0))) (λ v. if is_true v then yes' else no') t)) (sym (two_as a b p.label other there other o rest))
        (subst (λ k. Follows C o (test_items a p.label other o ++ (test_items b there other p ++ rest)) regs t (m k t)) (fun_ext (λ x. choice (is_true x) yes' no'))
        (ga.by p.label other o (test_items b there other p ++ rest) h1 d dc (m' (λ y. if is_true y then yes' else no')) no' regs t qd mt
        (λ regs1 u l. nearly C.funcs C.places _ u _ (enters C p (test_items b there other p ++ rest) regs1 u _ (empty o) h2
        (gb.by there other p rest h2 d dc yes' no' regs1 u l.budget l.match' (λ regs2 u2 l2. yes_does regs2 u2 (later_on r q q' d regs regs1 regs2 t u u2 l l2)) (λ regs2 u2 l2. no_does regs2 u2 (later_on r q q' d regs regs1 regs2 t u u2 l l2)))))
        (λ regs1 u l. no_does regs1 u (later_first r q q' d regs regs1 t u l))));
  }
    where
      choice : (x : Bool) (yes' no' : Step) → (if x then m' (λ y. if is_true y then yes' else no') else no') ≡ ((if x then m' >>= (λ y. pure (truth (is_true y))) else pure (pos 0)) (λ v. if is_true v then yes' else no'))
      choice true yes' no' = ap (λ k. m' k) (fun_ext (λ y. ap (λ z. if z then yes' else no') (sym (true_truth (is_true y)))))
      choice false yes' no' = refl

  pub one_tests : (a b : Test) (empty : (o : Open) → (goes_test a o).count ≡ 0) (r : ℕ) (q q' : Bool) (m m' : Doing ℤ) → Tests a r q m → Tests b r q' m'
      → Tests (one_of a b) r (q && q') (m >>= (λ x. if is_true x then pure (pos 1) else m' >>= (λ y. pure (truth (is_true y)))))
  one_tests a b empty r q q' m m' ga gb = record {
    by = λ there other o rest h d dc yes' no' regs t qd mt yes_does no_does.
        let p = goes_test a o in
        let h1 = subst (λ is. Has C o is) (two_as a b there p.label there other o rest) h in
        let h2 = test_has C a there p.label o (test_items b there other p ++ rest) h1 in
        subst (λ is. Follows C o is regs t ((m >>= (λ x. if is_true x then pure (pos 1) else m' >>= (λ y. pure (truth (is_true y))))) (λ v. if is_true v then yes' else no') t)) (sym (two_as a b there p.label there other o rest))
        (subst (λ k. Follows C o (test_items a there p.label o ++ (test_items b there other p ++ rest)) regs t (m k t)) (fun_ext (λ x. choice (is_true x) yes' no'))
        (ga.by there p.label o (test_items b there other p ++ rest) h1 d dc yes' (m' (λ y. if is_true y then yes' else no')) regs t qd mt
        (λ regs1 u l. yes_does regs1 u (later_first r q q' d regs regs1 t u l))
        (λ regs1 u l. nearly C.funcs C.places _ u _ (enters C p (test_items b there other p ++ rest) regs1 u _ (empty o) h2
        (gb.by there other p rest h2 d dc yes' no' regs1 u l.budget l.match' (λ regs2 u2 l2. yes_does regs2 u2 (later_on r q q' d regs regs1 regs2 t u u2 l l2)) (λ regs2 u2 l2. no_does regs2 u2 (later_on r q q' d regs regs1 regs2 t u u2 l l2)))))));
  }
    where
      choice : (x : Bool) (yes' no' : Step) → (if x then yes' else m' (λ y. if is_true y then yes' else no')) ≡ ((if x then pure (pos 1) else m' >>= (λ y. pure (truth (is_true y)))) (λ v. if is_true v then yes' else no'))
      choice true yes' no' = refl
      choice false yes' no' = ap (λ k. m' k) (fun_ext (λ y. ap (λ z. if z then yes' else no') (sym (true_truth (is_true y)))))

  -- ---- expressions that are no slot and no test

  abbrev pub GivesOf : Exp → Type 0
  GivesOf a = (s : ℕ) (to : Option ℕ) (r : ℕ) → C.free ≤ r → Gives C (low C.p a s to r) to r (is_quiet a) (width_in a) (ev a s)

  pub no_slot_puts : (a : Exp) → is_slot a ≡ false → GivesOf a → (is_kept : Bool) (s r : ℕ) → C.free ≤ r → Puts C is_kept (held is_kept a (low C.p a s (Some r) r)) (at is_kept a r) r (is_quiet a) (width_in a) (ev a s)
  no_slot_puts a none g is_kept s r le =
      subst (λ code. Puts C is_kept code (at is_kept a r) r (is_quiet a) (width_in a) (ev a s)) (sym (held_plain is_kept a (low C.p a s (Some r) r) none))
      (subst (λ reg. Puts C is_kept (low C.p a s (Some r) r) reg r (is_quiet a) (width_in a) (ev a s)) (sym (at_plain is_kept a r none)) (gives_puts C is_kept (low C.p a s (Some r) r) r (is_quiet a) (width_in a) (ev a s) (up r le) (g s (Some r) r le)))

  pub plain_lowers : (a : Exp) → is_slot a ≡ false → is_plain a ≡ true → GivesOf a → Lowers a
  plain_lowers a none plain g = record {
    gives = g;
    puts = no_slot_puts a none g;
    tests = λ s r le. subst (λ x. Tests x r (is_quiet a) (ev a s)) (sym (test_plain C.p a s r (low C.p a s (Some r) r) plain)) (on_tests s (held true a (low C.p a s (Some r) r)) (at true a r) r (is_quiet a) (width_in a) (ev a s) (no_slot_puts a none g true s r le));
  }
