-- Expressions with operators of two operands, and those that choose.
use Rattle.std.proofs.Common.{◌≡◌, ℕ, suc, ◌+◌, ◌<◌, ◌≤◌, ℤ, pos, List, ◌++◌, Bool, true, false, ◌&&◌, refl, sym, ap, ◌∙◌, subst, arith, Option, Some, Result, Ok, append_assoc}
use Rattle.std.specs.Prelude.{◌==◌, if◌then◌else◌}
use mathlib.Core.Path.{fun_ext}
use Rattle.ib_base.specs.declared.integers.Width.{Width}
use Rattle.ib_meaning.specs.declared.fault.FaultKind.{FaultKind}
use Rattle.ib_act.specs.declared.act.Size.{Size}
use Rattle.ib_act.specs.declared.act.Size.TheVariants.{Eight}
use Rattle.ib_act.specs.declared.act.Act.TheVariants.{Const, Add, Sub, Mul, Div}
use Rattle.ib_act.specs.Acts.{first_source, second_source}
use Rattle.ib_meaning.proofs.Facts.{both_first, both_second, both as both_hold}
use Rattle.c_meaning.specs.Doing as e
use Rattle.c_meaning.specs.Doing.{Step, Doing, ◌>>=◌, pure, or_fault}
use Rattle.c_typed.specs.declared.types.ValueType.{ValueType}
use Rattle.c_typed.specs.declared.operation.Arithmetic.{Arithmetic}
use Rattle.c_typed.specs.declared.operation.Arithmetic.TheVariants as ar
use Rattle.c_typed.specs.declared.operation.Comparison.{Comparison}
use Rattle.c_typed.specs.declared.operation.Comparison.TheVariants as cm
use Rattle.c_typed.specs.declared.operation.Operation.{Operation}
use Rattle.c_typed.specs.declared.operation.Operation.TheVariants as op
use Rattle.c_typed.specs.Tree as t
use Rattle.c_typed.specs.Tree.{Exp}
use Rattle.c_typed.specs.Program as typed
use Rattle.c_typed.specs.Values as values
use Rattle.c_typed.specs.Values.{width_of, is_true, truth, ranked}
use Rattle.tac_core.specs.Meaning.{set_in}
use Rattle.tac_lowered.specs.Code.{Code, does, both, nothing, choose, Test}
use Rattle.tac_lowered.specs.Items.{Item, Open, goes, goes_test, Next, onward, jump, closes, Loop, items, test_items, entry, own_items, owned, label_of}
use Rattle.tac_lowered.specs.Operators.{or_else, narrows, size_of, scaled, scaled_in, arithmetic, comparison, operated, given_by}
use Rattle.tac_lowered.specs.Expressions.{low, held, at, tested, is_quiet, width_in}
use Rattle.tac_lowered.proofs.Geometry.{runs, own_runs, own_empty, empty_test}
use Rattle.tac_lowered.proofs.Relation.{Spot, Lies, many, Follows, Behind, Begins, Has, nearly, enters, behind_has, test_has}
use Rattle.tac_lowered.proofs.Gives.{After, Gives, plain_gives, Puts, kept_all, kept_on, wrote, first_has, second_has, both_follows, first_room, second_room}
use Rattle.tac_lowered.proofs.Computing.{Computes, same_kept, operated_computes}
use Rattle.tac_lowered.proofs.Constructs.{Lowers, Tests, Later, ev, up, plain_lowers}
use Rattle.tac_lowered.proofs.Widths.{in_eight, wider}

arithmetic_first : (o : Arithmetic) (size : Size) (to x y : ℕ) → first_source (arithmetic o size to x y) ≡ Some x
arithmetic_first ar.Add size to x y = refl
arithmetic_first ar.Sub size to x y = refl
arithmetic_first ar.Mul size to x y = refl
arithmetic_first ar.Div size to x y = refl
arithmetic_first ar.Rem size to x y = refl
arithmetic_first ar.ShiftLeft size to x y = refl
arithmetic_first ar.ShiftRight size to x y = refl
arithmetic_first ar.BitAnd size to x y = refl
arithmetic_first ar.BitXor size to x y = refl
arithmetic_first ar.BitOr size to x y = refl

arithmetic_second : (o : Arithmetic) (size : Size) (to x y : ℕ) → second_source (arithmetic o size to x y) ≡ Some y
arithmetic_second ar.Add size to x y = refl
arithmetic_second ar.Sub size to x y = refl
arithmetic_second ar.Mul size to x y = refl
arithmetic_second ar.Div size to x y = refl
arithmetic_second ar.Rem size to x y = refl
arithmetic_second ar.ShiftLeft size to x y = refl
arithmetic_second ar.ShiftRight size to x y = refl
arithmetic_second ar.BitAnd size to x y = refl
arithmetic_second ar.BitXor size to x y = refl
arithmetic_second ar.BitOr size to x y = refl

module _ (C : Spot) where
  abbrev pub Room : ℕ → Type 0
  Room r = r < C.F.regs

  -- the registers that an operator names
  comparison_room : (o : Comparison) (s to x y : ℕ) (lp : Loop) (n : Next) (p : Open) (rest : List Item) → Has C p (items (does s (comparison o to x y)) lp n p ++ rest) → Room x × Room y
  comparison_room cm.Equal s to x y lp n p rest h = (first_room C s _ lp n p rest x refl h, second_room C s _ lp n p rest y refl h)
  comparison_room cm.NotEqual s to x y lp n p rest h = (first_room C s _ lp n p rest x refl h, second_room C s _ lp n p rest y refl h)
  comparison_room cm.Less s to x y lp n p rest h = (first_room C s _ lp n p rest x refl h, second_room C s _ lp n p rest y refl h)
  comparison_room cm.LessEqual s to x y lp n p rest h = (first_room C s _ lp n p rest x refl h, second_room C s _ lp n p rest y refl h)
  comparison_room cm.Greater s to x y lp n p rest h = (second_room C s _ lp n p rest x refl h, first_room C s _ lp n p rest y refl h)
  comparison_room cm.GreaterEqual s to x y lp n p rest h = (second_room C s _ lp n p rest x refl h, first_room C s _ lp n p rest y refl h)

  scaled_room : (s r size y : ℕ) (c : Code) (lp : Loop) (n : Next) (p : Open) (rest : List Item) → Has C p (items (both (scaled s r size y) c) lp n p ++ rest)
      → ((q : Open) → Has C q (items c lp n q ++ rest) → Room (scaled_in r size y)) → Room y
  scaled_room s r size y c lp n p rest h last = go (size == 1) h last
    where
      code : Bool → Code
      code b = if b then nothing else both (does s (Const r (pos size))) (does s (Mul Eight r y r))

      go : (b : Bool) → Has C p (items (both (code b) c) lp n p ++ rest) → ((q : Open) → Has C q (items c lp n q ++ rest) → Room (if b then y else r)) → Room y
      go true h last = last p (second_has C nothing c lp n p rest h)
      go false h last =
          let a : Code = does s (Const r (pos size)) in
          let b : Code = does s (Mul Eight r y r) in
          let h1 = first_has C (both a b) c lp n p rest h in
          first_room C s (Mul Eight r y r) lp onward (goes a false p) _ y refl (second_has C a b lp onward p _ h1)

  pub operated_room : (o : Operation) (s to r x y : ℕ) (lp : Loop) (n : Next) (p : Open) (rest : List Item) → Has C p (items (operated o s to r x y) lp n p ++ rest) → Room x × Room y
  operated_room (op.Integer o rank) s to r x y lp n p rest h = (first_room C s _ lp n p rest x (arithmetic_first o (size_of (ranked rank)) to x y) h, second_room C s _ lp n p rest y (arithmetic_second o (size_of (ranked rank)) to x y) h)
  operated_room (op.Compare o) s to r x y lp n p rest h = comparison_room o s to x y lp n p rest h
  operated_room (op.Advance size) s to r x y lp n p rest h =
      let c : Code = does s (Add Eight to x (scaled_in r size y)) in
      (first_room C s _ lp n (goes (scaled s r size y) false p) rest x refl (second_has C (scaled s r size y) c lp n p rest h), scaled_room s r size y c lp n p rest h (λ q h2. second_room C s _ lp n q rest (scaled_in r size y) refl h2))
  operated_room (op.AdvanceBy size) s to r x y lp n p rest h =
      let c : Code = does s (Add Eight to y (scaled_in r size x)) in
      (scaled_room s r size x c lp n p rest h (λ q h2. second_room C s _ lp n q rest (scaled_in r size x) refl h2), first_room C s _ lp n (goes (scaled s r size x) false p) rest y refl (second_has C (scaled s r size x) c lp n p rest h))
  operated_room (op.Retreat size) s to r x y lp n p rest h =
      let c : Code = does s (Sub Eight to x (scaled_in r size y)) in
      (first_room C s _ lp n (goes (scaled s r size y) false p) rest x refl (second_has C (scaled s r size y) c lp n p rest h), scaled_room s r size y c lp n p rest h (λ q h2. second_room C s _ lp n q rest (scaled_in r size y) refl h2))
  operated_room (op.Distance size) s to r x y lp n p rest h =
      let a : Code = does s (Sub Eight r x y) in
      let b : Code = both (does s (Const (suc r) (pos size))) (does s (Div Eight to r (suc r))) in
      let h1 = first_has C a b lp n p rest h in
      (first_room C s (Sub Eight r x y) lp onward p _ x refl h1, second_room C s (Sub Eight r x y) lp onward p _ y refl h1)

  -- two operands, and code that computes from them
  pub two_gives : (a b c : Code) (ra rb : ℕ) (to : Option ℕ) (s r : ℕ) (q q' : Bool) (w w' w'' : Width) (m m' : Doing ℤ) (g : ℤ → ℤ → Result ℤ FaultKind) → many C ≤ r → Puts C q' a ra r q w m → Puts C true b rb (r + 1) q' w' m'
      → ((x y : ℤ) → Lies w x → Lies w' y → Computes C c (or_else to r) (r + 2) s ra rb x y (g x y))
      → ((lp : Loop) (n : Next) (p : Open) (rest : List Item) → Has C p (items c lp n p ++ rest) → Room ra × Room rb)
      → ((x y z : ℤ) → Lies w x → Lies w' y → g x y ≡ Ok z → Lies w'' z)
      → Gives C (both a (both b c)) to r (q && q') w'' (m >>= (λ x. m' >>= (λ y. or_fault (typed.place_of C.p s) (g x y))))
  two_gives a b c ra rb to s r q q' w w' w'' m m' g le pa pb computes room lies = plain_gives C (both a (both b c)) to r (q && q') w'' (m >>= (λ x. m' >>= (λ y. or_fault (typed.place_of C.p s) (g x y)))) refl (λ lp n o rest h d dc k regs t qd mt next.
      let o1 = goes a false o in
      let o2 = goes b false o1 in
      let h23 = second_has C a (both b c) lp n o rest h in
      let h3 = second_has C b c lp n o1 rest h23 in
      let rooms = room lp n o2 rest h3 in
      both_follows C a (both b c) lp n o rest regs t _
      (pa.by lp o (items (both b c) lp n o1 ++ rest) (first_has C a (both b c) lp n o rest h) d dc _ regs t qd mt (λ x regs1 u1 f1 st1.
      both_follows C b c lp n o1 rest regs1 u1 _
      (pb.by lp o1 (items c lp n o2 ++ rest) (first_has C b c lp n o1 rest h23) d dc _ regs1 u1 f1.budget f1.match' (λ y regs2 u2 f2 st2.
      let ex = st1.by regs2 u2 rooms.0 f2.kept f2.match' f2.still in
      let ey = st2.by regs2 u2 rooms.1 (kept_all C (r + 1 + 1) regs2) f2.match' (λ _. refl) in
      (computes x y f1.lies f2.lies).by lp n o2 rest h3 k regs2 u2 f2.match' ex ey (λ z regs3 ez m3 same.
      let k12 = kept_on C r (r + 1) regs regs1 regs2 (omega arith) f1.kept f2.kept in
      let f3 : After C r (q && q') w'' d regs t z regs3 u2 = record {
        budget = f2.budget;
        match' = m3;
        kept = kept_on C r (r + 2) regs regs2 regs3 (omega arith) k12 (same_kept C (r + 2) regs2 regs3 same);
        still = λ hq. f2.still (both_second q q' hq) ∙ f1.still (both_first q q' hq);
        lies = lies x y z f1.lies f2.lies ez;
      } in
      wrote C to r (q && q') w'' d n (goes c (closes n) o2) rest k regs t z regs3 u2 le f3 next))))))

  at_below : (b : Bool) (e : Exp) (r q : ℕ) → (at b e r ≡ r) → r < q → at b e r < q
  at_below b e r q same lt = omega (arith, same)

  -- operators, where their values lie in their widths
  pub binary_lowers : (ty : ValueType) (o : Operation) (a b : Exp) → Lowers C a → Lowers C b
      → ((r : ℕ) → C.free ≤ r → at (is_quiet b) a r ≤ r) → ((r : ℕ) → C.free ≤ r → at true b r ≤ r)
      → ((x y z : ℤ) → Lies (width_in a) x → Lies (width_in b) y → values.operated o x y ≡ Ok z → Lies (given_by o) z)
      → Lowers C (t.binary ty o a b)
  binary_lowers ty o a b la lb below_a below_b lies = plain_lowers C (t.binary ty o a b) refl refl (λ s to r le.
      let le1 : C.free ≤ r + 1 = omega arith in
      let le2 : many C ≤ r + 2 = let e1 = up C r le in omega (arith, e1) in
      let ra = at (is_quiet b) a r in
      let rb = at true b (r + 1) in
      let ba : ra < r + 2 = let e1 = below_a r le in omega (arith, e1) in
      let bb : rb < r + 2 = let e1 = below_b (r + 1) le1 in omega (arith, e1) in
      two_gives (held (is_quiet b) a (low C.p a s (Some r) r)) (held true b (low C.p b s (Some (r + 1)) (r + 1))) (operated o s (or_else to r) (r + 2) ra rb) ra rb to s r (is_quiet a) (is_quiet b) (width_in a) (width_in b) (given_by o) (ev C a s) (ev C b s) (values.operated o)
      (up C r le) (la.puts (is_quiet b) s r le) (lb.puts true s (r + 1) le1)
      (λ x y fx fy. operated_computes C o s (or_else to r) (r + 2) ra rb x y le2 ba bb (in_eight (width_in a) x fx) (in_eight (width_in b) y fy))
      (λ lp n p rest h. operated_room o s (or_else to r) (r + 2) ra rb lp n p rest h) lies)

  -- ---- choices

  pub own_has : (a : Code) (x : Loop) (s l : ℕ) (p : Open) (rest : List Item) → Has C p (own_items a (items a x (jump s l) p) ++ rest) → Has C (owned a p (goes a true p)) rest
  own_has a x s l p rest h = behind_has C (own_items a (items a x (jump s l) p)) p (owned a p (goes a true p)) rest (own_runs a (items a x (jump s l) p) p (goes a true p) (runs a x (jump s l) p)) h

  pub begins_behind : (n : Next) (o : Open) (rest : List Item) (regs : List ℤ) (t : e.State) (r : _) → o.count ≡ 0 → Has C o rest → Behind C n o rest regs t r → Begins C (label_of n o.label) regs t r
  begins_behind onward o rest regs t r none h a = enters C o rest regs t r none h a
  begins_behind (jump s l) o rest regs t r none h a = a

  pub after_later : (r : ℕ) (q q' : Bool) (w : Width) (d : ℕ) (regs regs1 regs2 : List ℤ) (t u1 u2 : e.State) (v : ℤ) → Later C r q d regs t regs1 u1 → After C r q' w d regs1 u1 v regs2 u2 → After C r (q && q') w d regs t v regs2 u2
  after_later r q q' w d regs regs1 regs2 t u1 u2 v l a = record {
    budget = a.budget;
    match' = a.match';
    kept = kept_on C r r regs regs1 regs2 (omega arith) l.kept a.kept;
    still = λ h. a.still (both_second q q' h) ∙ l.still (both_first q q' h);
    lies = a.lies;
  }

  pub weaker : (r : ℕ) (q q' : Bool) (w w' : Width) (d : ℕ) (regs : List ℤ) (t : e.State) (v : ℤ) (regs' : List ℤ) (u : e.State) → (q' ≡ true → q ≡ true) → (Lies w v → Lies w' v) → After C r q w d regs t v regs' u → After C r q' w' d regs t v regs' u
  weaker r q q' w w' d regs t v regs' u less lies a = record { budget = a.budget; match' = a.match'; kept = a.kept; still = λ h. a.still (less h); lies = lies a.lies }

  pub choose_gives : (s : ℕ) (c : Test) (a b : Code) (to : Option ℕ) (r : ℕ) (q qa qb q' : Bool) (w wa wb : Width) (m ma mb : Doing ℤ) → Tests C c r q m → Gives C a to r qa wa ma → Gives C b to r qb wb mb
      → (q' ≡ true → (q ≡ true) × (qa ≡ true) × (qb ≡ true)) → ((v : ℤ) → Lies wa v → Lies w v) → ((v : ℤ) → Lies wb v → Lies w v)
      → Gives C (choose s c a b) to r q' w (m >>= (λ x. if is_true x then ma else mb))
  choose_gives s c a b to r q qa qb q' w wa wb m ma mb tc ga gb less lies_a lies_b = plain_gives C (choose s c a b) to r q' w (m >>= (λ x. if is_true x then ma else mb)) refl (λ x n o rest h d dc k regs t qd mt next.
      let p = goes_test c o in
      let p' = owned a p (goes a true p) in
      let b' = owned b p' (goes b true p') in
      let out = label_of n b'.label in
      let T = test_items c (entry a x out p.label) (entry b x out p'.label) o in
      let A = own_items a (items a x (jump s out) p) in
      let B = own_items b (items b x (jump s out) p') in
      let e1 : (T ++ (A ++ B)) ++ rest ≡ T ++ (A ++ (B ++ rest)) = append_assoc T (A ++ B) rest ∙ ap (λ z. T ++ z) (append_assoc A B rest) in
      let h1 = subst (λ is. Has C o is) e1 h in
      let h2 = test_has C c (entry a x out p.label) (entry b x out p'.label) o (A ++ (B ++ rest)) h1 in
      let h3 = own_has a x s out p (B ++ rest) h2 in
      let h4 = own_has b x s out p' rest h3 in
      let none = own_empty a p (empty_test c o) in
      let done : (v : ℤ) (regs2 : List ℤ) (u2 : e.State) → After C r q' w d regs t v regs2 u2 → Begins C out (set_in regs2 to v) u2 (k v u2) = λ v regs2 u2 f. begins_behind n b' rest (set_in regs2 to v) u2 (k v u2) (own_empty b p' none) h4 (next v regs2 u2 f) in
      subst (λ is. Follows C o is regs t (m (λ v. (if is_true v then ma else mb) k) t)) (sym e1)
      (subst (λ kk. Follows C o (T ++ (A ++ (B ++ rest))) regs t (m kk t)) (fun_ext (λ v. inside (is_true v) k))
      (tc.by (entry a x out p.label) (entry b x out p'.label) o (A ++ (B ++ rest)) h1 d dc (ma k) (mb k) regs t qd mt
      (λ regs1 u l. nearly C.funcs C.places _ u _ (ga.own x s out p (B ++ rest) (empty_test c o) h2 d dc k regs1 u l.budget l.match' (λ v regs2 u2 f.
      done v regs2 u2 (weaker r (q && qa) q' wa w d regs t v regs2 u2 (λ hq. let z = less hq in both_hold q qa z.0 z.1) (lies_a v) (after_later r q qa wa d regs regs1 regs2 t u u2 v l f)))))
      (λ regs1 u l. nearly C.funcs C.places _ u _ (gb.own x s out p' rest none h3 d dc k regs1 u l.budget l.match' (λ v regs2 u2 f.
      done v regs2 u2 (weaker r (q && qb) q' wb w d regs t v regs2 u2 (λ hq. let z = less hq in both_hold q qb z.0 z.2) (lies_b v) (after_later r q qb wb d regs regs1 regs2 t u u2 v l f))))))))
    where
      inside : (x : Bool) (k : ℤ → Step) → (if x then ma k else mb k) ≡ (if x then ma else mb) k
      inside true k = refl
      inside false k = refl

  pub conditional_lowers : (ty : ValueType) (a b c : Exp) → Lowers C a → Lowers C b → Lowers C c → narrows (width_in b) (width_of ty) ≡ false → narrows (width_in c) (width_of ty) ≡ false → Lowers C (t.conditional ty a b c)
  conditional_lowers ty a b c la lb lc nb nc = plain_lowers C (t.conditional ty a b c) refl refl (λ s to r le.
      choose_gives s (tested C.p a s r) (low C.p b s to r) (low C.p c s to r) to r (is_quiet a) (is_quiet b) (is_quiet c) (is_quiet a && (is_quiet b && is_quiet c)) (width_of ty) (width_in b) (width_in c) (ev C a s) (ev C b s) (ev C c s)
      (la.tests s r le) (lb.gives s to r le) (lc.gives s to r le)
      (λ h. let h1 = both_second (is_quiet a) (is_quiet b && is_quiet c) h in (both_first (is_quiet a) (is_quiet b && is_quiet c) h, both_first (is_quiet b) (is_quiet c) h1, both_second (is_quiet b) (is_quiet c) h1))
      (λ v l. wider (width_in b) (width_of ty) v nb l) (λ v l. wider (width_in c) (width_of ty) v nc l))
