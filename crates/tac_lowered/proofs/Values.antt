-- Expressions that compute from registers.
use Rattle.std.proofs.Common.{◌≡◌, ℕ, ◌+◌, ◌<◌, ◌≤◌, ℤ, pos, List, [], ◌++◌, Bool, true, false, refl, sym, ap, ◌∙◌, subst, arith, Option, Some, None, Result, Ok, Err, length, get_or-set_other}
use Rattle.std.specs.Prelude.{slice_index_or, slice_set, ◌==◌, if◌then◌else◌, ◌+ℤ◌}
use Rattle.std.proofs.lemmas.Bool.{eqb-true}
use Rattle.std.proofs.lemmas.List.{set-get_or}
use Rattle.ib_base.specs.declared.integers.Width.{Width}
use Rattle.ib_base.specs.declared.integers.Width.TheVariants.{W1, W4, W8}
use Rattle.ib_base.specs.Integers.{wrapped}
use Rattle.ib_mem.specs.Memory.{loaded}
use Rattle.ib_meaning.specs.declared.fault.FaultKind.{FaultKind}
use Rattle.ib_act.specs.declared.act.Act.{Act}
use Rattle.ib_act.specs.declared.act.Act.TheVariants.{Const, Mov, Load}
use Rattle.ib_act.specs.Acts as acts
use Rattle.ib_act.specs.Acts.{first_source, second_source, read_as, bytes_in}
use Rattle.ib_meaning.proofs.Facts.{both_first, both_second}
use Rattle.c_ast.specs.declared.tree.Base.TheVariants.{Void, Char, Int, Long}
use Rattle.c_meaning.specs.Doing as e
use Rattle.c_meaning.specs.Doing.{Step, Doing, ◌>>=◌, pure, or_fault, get_slot, set_slot, load}
use Rattle.c_typed.specs.declared.types.ValueType.{ValueType}
use Rattle.c_typed.specs.declared.types.ValueType.TheVariants as vt
use Rattle.c_typed.specs.Tree as t
use Rattle.c_typed.specs.Tree.{Exp}
use Rattle.c_typed.specs.Program as typed
use Rattle.c_typed.specs.ValueTypes.{size_of}
use Rattle.c_typed.specs.Values.{width_of, accessed, converted}
use Rattle.tac_core.specs.Meaning.{Does, effect_of, reg_of, set_in, writes}
use Rattle.tac_lowered.specs.Code.{Code, does, both, nothing}
use Rattle.tac_lowered.specs.Items.{Item, Open, goes, Next, onward, jump, closes, Loop, items, own_items, entry}
use Rattle.tac_lowered.specs.Operators.{moved, number, or_else, narrows, cut}
use Rattle.tac_lowered.specs.Expressions.{low, held, at, is_empty, some_code, is_quiet, width_in}
use Rattle.c_kept.specs.Kept.{is_value}
use Rattle.tac_lowered.proofs.Relation.{code_has, Spot, Lies, many, slot_of, kind_of, Match, Follows, Behind, Begins, Has, enters, free_room}
use Rattle.tac_lowered.proofs.Gives.{After, Gives, plain_gives, Puts, set_same, slot_match, kept_all, wrote, nothing_follows, sets_follows, fault_follows, first_has, second_has, both_follows, first_room, gives_puts, slot_puts}
use Rattle.tac_lowered.proofs.Computing.{moved_follows, const_acts, mov_acts}
use Rattle.tac_lowered.proofs.Constructs.{Lowers, GivesOf, ev, up, plain_lowers, settled_tests, on_tests}
use Rattle.tac_lowered.proofs.Widths.{in_eight, wider, wrapped_lies}

module _ (C : Spot) where
  -- an operation that gives a result in `j`, or the fault of its statement
  pub result_follows : (s : ℕ) (act : Act) (x : Loop) (n : Next) (o : Open) (rest : List Item) (j : ℕ) (k : ℤ → Step) (regs : List ℤ) (u : e.State) (z : Result ℤ FaultKind) → Has C o (items (does s act) x n o ++ rest)
      → effect_of act u.base regs u.memory u.left ≡ writes (Some j) z regs u.memory u.left → ((y : ℤ) → z ≡ Ok y → Behind C n (goes (does s act) (closes n) o) rest (slice_set regs j y) u (k y u))
      → Follows C o (items (does s act) x n o ++ rest) regs u (or_fault (typed.place_of C.p s) z k u)
  result_follows s act x n o rest j k regs u (Ok y) h eq next = sets_follows C s act x n o rest regs (slice_set regs j y) u (k y u) h eq (next y refl)
  result_follows s act x n o rest j k regs u (Err kind) h eq next = fault_follows C s act x n o rest regs u kind h eq

  pub after_lies : (r : ℕ) (q : Bool) (w w' : Width) (d : ℕ) (regs : List ℤ) (t : e.State) (v z : ℤ) (regs' : List ℤ) (u : e.State) → After C r q w d regs t v regs' u → Lies w' z → After C r q w' d regs t z regs' u
  after_lies r q w w' d regs t v z regs' u a l = record { budget = a.budget; match' = a.match'; kept = a.kept; still = a.still; lies = l }

  -- one operation on an operand
  pub op_gives : (a : Code) (reg : ℕ) (act : Act) (to : Option ℕ) (s r : ℕ) (q : Bool) (w w' : Width) (m : Doing ℤ) (g : ℤ → e.State → Result ℤ FaultKind) (f : ℤ → Doing ℤ) → many C ≤ r → Puts C true a reg r q w m → first_source act ≡ Some reg
      → ((x : ℤ) (regs : List ℤ) (u : e.State) → reg_of regs reg ≡ x → Lies w x → effect_of act u.base regs u.memory u.left ≡ writes (Some (or_else to r)) (g x u) regs u.memory u.left)
      → ((x : ℤ) (k : ℤ → Step) (u : e.State) → Lies w x → f x k u ≡ or_fault (typed.place_of C.p s) (g x u) k u)
      → ((x : ℤ) (u : e.State) (z : ℤ) → Lies w x → g x u ≡ Ok z → Lies w' z)
      → Gives C (both a (does s act)) to r q w' (m >>= f)
  op_gives a reg act to s r q w w' m g f le pa source so means lies = plain_gives C (both a (does s act)) to r q w' (m >>= f) refl (λ x n o rest h d dc k regs t qd mt next.
      let h2 = second_has C a (does s act) x n o rest h in
      both_follows C a (does s act) x n o rest regs t _
      (pa.by x o (items (does s act) x n (goes a false o) ++ rest) (first_has C a (does s act) x n o rest h) d dc (λ v. f v k) regs t qd mt (λ v regs1 u b st.
      let reg_is = st.by regs1 u (first_room C s act x n (goes a false o) rest reg source h2) (kept_all C (r + 1) regs1) b.match' (λ _. refl) in
      subst (λ rep. Follows C (goes a false o) (items (does s act) x n (goes a false o) ++ rest) regs1 u rep) (sym (means v k u b.lies))
      (result_follows s act x n (goes a false o) rest (or_else to r) k regs1 u (g v u) h2 (so v regs1 u reg_is b.lies)
      (λ z ez. wrote C to r q w' d n (goes (does s act) (closes n) (goes a false o)) rest k regs t z regs1 u le (after_lies r q w w' d regs t v z regs1 u b (lies v u z b.lies ez)) next)))))

  -- a value that is taken as another
  pub as_gives : (a : Code) (to : Option ℕ) (r : ℕ) (q : Bool) (w w' : Width) (m : Doing ℤ) (g : ℤ → ℤ) → ((x : ℤ) → Lies w x → (g x ≡ x) × Lies w' x) → Gives C a to r q w m → Gives C a to r q w' (m >>= (λ x. pure (g x)))
  as_gives a to r q w w' m g same ga = record {
    by = λ x n o rest h d dc k regs t qd mt next. ga.by x n o rest h d dc (λ v. k (g v)) regs t qd mt (λ v regs1 u b.
        let e1 = same v b.lies in
        subst (λ z. Behind C n (goes a (closes n) o) rest (set_in regs1 to v) u (k z u)) (sym e1.0) (next v regs1 u (after_lies r q w w' d regs t v v regs1 u b e1.1)));
    own = λ x s l o rest none h d dc k regs t qd mt next. ga.own x s l o rest none h d dc (λ v. k (g v)) regs t qd mt (λ v regs1 u b.
        let e1 = same v b.lies in
        subst (λ z. Begins C l (set_in regs1 to v) u (k z u)) (sym e1.0) (next v regs1 u (after_lies r q w w' d regs t v v regs1 u b e1.1)));
  }

  -- a value that is not wanted
  pub unwanted_gives : (a : Code) (r : ℕ) (q : Bool) (w w' : Width) (m : Doing ℤ) (g : ℤ → ℤ) → ((x : ℤ) → Lies w x → Lies w' (g x)) → Gives C a None r q w m → Gives C a None r q w' (m >>= (λ x. pure (g x)))
  unwanted_gives a r q w w' m g lies ga = record {
    by = λ x n o rest h d dc k regs t qd mt next. ga.by x n o rest h d dc (λ v. k (g v)) regs t qd mt (λ v regs1 u b. next (g v) regs1 u (after_lies r q w w' d regs t v (g v) regs1 u b (lies v b.lies)));
    own = λ x s l o rest none h d dc k regs t qd mt next. ga.own x s l o rest none h d dc (λ v. k (g v)) regs t qd mt (λ v regs1 u b. next (g v) regs1 u (after_lies r q w w' d regs t v (g v) regs1 u b (lies v b.lies)));
  }

  -- ---- constants and slots

  pub nothing_gives : (r : ℕ) (w : Width) (v : ℤ) → Lies w v → Gives C nothing None r true w (pure v)
  nothing_gives r w v fit = record {
    by = λ x n o rest h d dc k regs t qd mt next. nothing_follows C n o rest regs t (k v t) h (next v regs t (record { budget = qd; match' = mt; kept = kept_all C r regs; still = λ _. refl; lies = fit }));
    own = λ x s l o rest none h d dc k regs t qd mt next. next v regs t (record { budget = qd; match' = mt; kept = kept_all C r regs; still = λ _. refl; lies = fit });
  }

  pub const_gives : (s to r : ℕ) (w : Width) (v : ℤ) → Lies w v → Gives C (does s (Const to v)) (Some to) r true w (pure v)
  const_gives s to r w v l = plain_gives C (does s (Const to v)) (Some to) r true w (pure v) refl (λ x n o rest h d dc k regs t qd mt next.
      sets_follows C s (Const to v) x n o rest regs (slice_set regs to v) t (k v t) h (const_acts to v t.base regs t.memory t.left) (next v regs t (record { budget = qd; match' = mt; kept = kept_all C r regs; still = λ _. refl; lies = l })))

  pub number_gives : (s : ℕ) (to : Option ℕ) (r : ℕ) (w : Width) (v : ℤ) → Lies w v → Gives C (number s to v) to r true w (pure v)
  number_gives s None r w v l = nothing_gives r w v l
  number_gives s (Some to) r w v l = const_gives s to r w v l

  pub constant_lowers : (ty : ValueType) (v : ℤ) → Lies (width_of ty) v → Lowers C (t.constant ty v)
  constant_lowers ty v l = record {
    gives = λ s to r le. number_gives s to r (width_of ty) v l;
    puts = λ is_kept s r le. held_puts is_kept s r le;
    tests = λ s r le. settled_tests C s r v;
  }
    where
      held_puts : (is_kept : Bool) (s r : ℕ) → C.free ≤ r → Puts C is_kept (held is_kept (t.constant ty v) (does s (Const r v))) (at is_kept (t.constant ty v) r) r true (width_of ty) (pure v)
      held_puts true s r le = gives_puts C true (does s (Const r v)) r true (width_of ty) (pure v) (up C r le) (const_gives s r r (width_of ty) v l)
      held_puts false s r le = gives_puts C false (does s (Const r v)) r true (width_of ty) (pure v) (up C r le) (const_gives s r r (width_of ty) v l)

  pub text_lowers : (j : ℕ) → Lies W8 (pos (slice_index_or C.p.strings j 0)) → Lowers C (t.text j)
  text_lowers j l = plain_lowers C (t.text j) refl refl (λ s to r le. number_gives s to r W8 (pos (slice_index_or C.p.strings j 0)) l)

  pub slot_after : (j r d : ℕ) (regs : List ℤ) (t : e.State) → j < many C → t.budget ≤ d → Match C regs t → After C r true (width_of (kind_of C j)) d regs t (slot_of C t j) regs t
  slot_after j r d regs t lt qd mt = record { budget = qd; match' = mt; kept = kept_all C r regs; still = λ _. refl; lies = mt.lies j lt }

  moved_gives : (s : ℕ) (to : Option ℕ) (j r : ℕ) → j < many C → Gives C (moved s to j) to r true (width_of (kind_of C j)) (get_slot j)
  moved_gives s None j r lt = record {
    by = λ x n o rest h d dc k regs t qd mt next. nothing_follows C n o rest regs t (k (slot_of C t j) t) h (next (slot_of C t j) regs t (slot_after j r d regs t lt qd mt));
    own = λ x s l o rest none h d dc k regs t qd mt next. next (slot_of C t j) regs t (slot_after j r d regs t lt qd mt);
  }
  moved_gives s (Some to) j r lt = record {
    by = λ x n o rest h d dc k regs t qd mt next. moved_follows C s (Some to) j x n o rest regs t (slot_of C t j) (k (slot_of C t j) t) h (mt.same j lt) (next (slot_of C t j) regs t (slot_after j r d regs t lt qd mt));
    own = λ x s' l o rest none h d dc k regs t qd mt next. go (to == j) (λ b. eqb-true to j b) x s' l o rest none h d k regs t qd mt next;
  }
    where
      code' : Bool → Code
      code' b = if b then nothing else does s (Mov to j)

      go : (b : Bool) → (b ≡ true → to ≡ j) → (x : Loop) (s' l : ℕ) (o : Open) (rest : List Item) → o.count ≡ 0 → Has C o (own_items (code' b) (items (code' b) x (jump s' l) o) ++ rest) → (d : ℕ) (k : ℤ → Step) (regs : List ℤ) (t : e.State) → t.budget ≤ d → Match C regs t
          → ((v : ℤ) (regs' : List ℤ) (u : e.State) → After C r true (width_of (kind_of C j)) d regs t v regs' u → Begins C l (slice_set regs' to v) u (k v u))
          → Begins C (entry (code' b) x l o.label) regs t (k (slot_of C t j) t)
      go true is x s' l o rest none h d k regs t qd mt next =
          let v = slot_of C t j in
          let same : slice_set regs to v ≡ regs = ap (λ i. slice_set regs i v) (is refl) ∙ ap (λ v. slice_set regs j v) (sym (mt.same j lt)) ∙ set_own regs j in
          subst (λ z. Begins C l z t (k v t)) same (next v regs t (slot_after j r d regs t lt qd mt))
        where
          set_own : (regs : List ℤ) (j : ℕ) → slice_set regs j (reg_of regs j) ≡ regs
          set_own regs j = set-get_or regs j (pos 0)
      go false is x s' l o rest none h d k regs t qd mt next =
          let v = slot_of C t j in
          enters C o (items (does s (Mov to j)) x (jump s' l) o ++ rest) regs t (k v t) none h
          (sets_follows C s (Mov to j) x (jump s' l) o rest regs (slice_set regs to v) t (k v t) h (mov_acts to j t.base regs t.memory t.left ∙ ap (λ z. Does (slice_set regs to z) t.memory t.left []) (mt.same j lt)) (next v regs t (slot_after j r d regs t lt qd mt)))

  pub slot_lowers : (ty : ValueType) (j : ℕ) → j < many C → kind_of C j ≡ ty → Lowers C (t.slot ty j)
  slot_lowers ty j lt kind = subst (λ ty. Lowers C (t.slot ty j)) kind (record {
    gives = λ s to r le. moved_gives s to j r lt;
    puts = λ is_kept s r le. held_puts is_kept s r le;
    tests = λ s r le. on_tests C s nothing j r true (width_of (kind_of C j)) (get_slot j) (slot_puts C true j r refl lt);
  })
    where
      held_puts : (is_kept : Bool) (s r : ℕ) → C.free ≤ r → Puts C is_kept (held is_kept (t.slot (kind_of C j) j) (moved s (Some r) j)) (at is_kept (t.slot (kind_of C j) j) r) r true (width_of (kind_of C j)) (get_slot j)
      held_puts true s r le = slot_puts C true j r refl lt
      held_puts false s r le = gives_puts C false (moved s (Some r) j) r true (width_of (kind_of C j)) (get_slot j) (up C r le) (moved_gives s (Some r) j r lt)

  -- ---- loads and conversions

  pub bytes_same : (ty : ValueType) → is_value ty ≡ true → bytes_in (width_of ty) ≡ size_of ty
  bytes_same (vt.Base Void) h = let z : ⊥ = cc in absurd z
  bytes_same (vt.Base Char) h = refl
  bytes_same (vt.Base Int) h = refl
  bytes_same (vt.Base Long) h = refl
  bytes_same (vt.Pointer b stars) h = refl
  bytes_same vt.Null h = refl

  pub load_acts : (w : Width) (to j base : ℕ) (regs : List ℤ) (memory left : List ℕ) → effect_of (Load w to j (pos 0)) base regs memory left ≡ writes (Some to) (read_as w (loaded memory (acts.address (reg_of regs j) (pos 0)) (bytes_in w))) regs memory left
  unfolding effect_of
  load_acts w to j base regs memory left = refl

  plus_none : (x : ℤ) → x +ℤ pos 0 ≡ x
  plus_none x = grind arith

  pub own_address : (x : ℤ) → Lies W8 x → acts.address x (pos 0) ≡ x
  own_address x l = ap (λ z. wrapped W8 z) (plus_none x) ∙ l

  pub load_as : (ty : ValueType) (at : _) (k : ℤ → Step) (u : e.State) (o : Option ℕ) → or_fault at (accessed o) (λ n. k (converted ty (pos n))) u ≡ or_fault at (read_as (width_of ty) o) k u
  load_as ty at k u None = refl
  load_as ty at k u (Some n) = refl

  pub read_lies : (w : Width) (o : Option ℕ) (z : ℤ) → read_as w o ≡ Ok z → Lies w z
  read_lies w None z h = let x : ⊥ = cc in absurd x
  read_lies w (Some n) z h = let same : wrapped w (pos n) ≡ z = cc in subst (λ z. Lies w z) same (wrapped_lies w (pos n))

  pub load_lowers : (ty : ValueType) (a : Exp) → is_value ty ≡ true → Lowers C a → Lowers C (t.load ty a)
  load_lowers ty a value la = plain_lowers C (t.load ty a) refl refl (λ s to r le.
      let w = width_of ty in
      op_gives (held true a (low C.p a s (Some r) r)) (at true a r) (Load w (or_else to r) (at true a r) (pos 0)) to s r (is_quiet a) (width_in a) w (ev C a s) (λ x u. read_as w (loaded u.memory x (size_of ty))) (λ x. load (typed.place_of C.p s) ty x) (up C r le) (la.puts true s r le) refl
      (λ x regs u ex l. load_acts w (or_else to r) (at true a r) u.base regs u.memory u.left
      ∙ ap (λ z. writes (Some (or_else to r)) (read_as w (loaded u.memory (acts.address z (pos 0)) (bytes_in w))) regs u.memory u.left) ex
      ∙ ap (λ z. writes (Some (or_else to r)) (read_as w (loaded u.memory z (bytes_in w))) regs u.memory u.left) (own_address x (in_eight (width_in a) x l))
      ∙ ap (λ z. writes (Some (or_else to r)) (read_as w (loaded u.memory x z)) regs u.memory u.left) (bytes_same ty value))
      (λ x k u l. load_as ty (typed.place_of C.p s) k u (loaded u.memory x (size_of ty)))
      (λ x u z l h. read_lies w (loaded u.memory x (size_of ty)) z h))

  pub cut_acts : (w : Width) (to j base : ℕ) (regs : List ℤ) (memory left : List ℕ) (x : ℤ) → Lies W8 x → reg_of regs j ≡ x → effect_of (cut w to j) base regs memory left ≡ writes (Some to) (Ok (wrapped w x)) regs memory left
  unfolding effect_of
  cut_acts W1 to j base regs memory left x l ex = ap (λ z. writes (Some to) (Ok (wrapped W1 z)) regs memory left) ex
  cut_acts W4 to j base regs memory left x l ex = ap (λ z. writes (Some to) (Ok (wrapped W4 z)) regs memory left) ex
  cut_acts W8 to j base regs memory left x l ex = ap (λ z. writes (Some to) (Ok z) regs memory left) (ex ∙ sym l)

  pub cut_source : (w : Width) (to j : ℕ) → first_source (cut w to j) ≡ Some j
  cut_source W1 to j = refl
  cut_source W4 to j = refl
  cut_source W8 to j = refl

  pub convert_lowers : (ty : ValueType) (a : Exp) → Lowers C a → Lowers C (t.convert ty a)
  convert_lowers ty a la = plain_lowers C (t.convert ty a) refl refl gives'
    where
      w : Width
      w = width_of ty

      some_gives : (s to r : ℕ) → C.free ≤ r → (b : Bool) → narrows (width_in a) w ≡ b
          → Gives C (if b then both (held true a (low C.p a s (Some r) r)) (does s (cut w to (at true a r))) else low C.p a s (Some to) r) (Some to) r (is_quiet a) w (ev C a s >>= (λ x. pure (converted ty x)))
      some_gives s to r le true n =
          op_gives (held true a (low C.p a s (Some r) r)) (at true a r) (cut w to (at true a r)) (Some to) s r (is_quiet a) (width_in a) w (ev C a s) (λ x u. Ok (wrapped w x)) (λ x. pure (wrapped w x)) (up C r le) (la.puts true s r le) (cut_source w to (at true a r))
          (λ x regs u ex l. cut_acts w to (at true a r) u.base regs u.memory u.left x (in_eight (width_in a) x l) ex)
          (λ x k u l. refl)
          (λ x u z l h. let same : wrapped w x ≡ z = cc in subst (λ z. Lies w z) same (wrapped_lies w x))
      some_gives s to r le false n = as_gives (low C.p a s (Some to) r) (Some to) r (is_quiet a) (width_in a) w (ev C a s) (λ x. wrapped w x) (λ x l. let f = wider (width_in a) w x n l in (f, f)) (la.gives s (Some to) r le)

      gives' : GivesOf C (t.convert ty a)
      gives' s None r le = unwanted_gives (low C.p a s None r) r (is_quiet a) (width_in a) w (ev C a s) (λ x. wrapped w x) (λ x l. wrapped_lies w x) (la.gives s None r le)
      gives' s (Some to) r le = some_gives s to r le (narrows (width_in a) w) refl

  -- ---- a variable is set

  -- code that does nothing has no items
  empty_items : (a : Code) → is_empty a ≡ true → (x : Loop) (o : Open) → (items a x onward o ≡ []) × (goes a false o ≡ o)
  empty_items nothing e x o = (refl, refl)
  empty_items (both a b) e x o =
      let ea = empty_items a (both_first (is_empty a) (is_empty b) e) x o in
      let eb = empty_items b (both_second (is_empty a) (is_empty b) e) x (goes a false o) in
      (ap (λ z. z ++ items b x onward (goes a false o)) ea.0 ∙ eb.0, eb.1 ∙ ea.1)
  empty_items a e x o = let no : ⊥ = cc in absurd no

  -- what gives a value in a register, and does something
  some_follows : (s j : ℕ) (a : Code) (r : ℕ) (q : Bool) (w : Width) (m : Doing ℤ) → Gives C a (Some j) r q w m → (x : Loop) (o : Open) (rest : List Item) → Has C o (items (some_code s j a) x onward o ++ rest)
      → (d : ℕ) → d ≤ C.c → (k : ℤ → Step) (regs : List ℤ) (t : e.State) → t.budget ≤ d → Match C regs t
      → ((v : ℤ) (regs' : List ℤ) (u : e.State) → After C r q w d regs t v regs' u → Follows C (goes (some_code s j a) false o) rest (slice_set regs' j v) u (k v u))
      → Follows C o (items (some_code s j a) x onward o ++ rest) regs t (m k t)
  some_follows s j a r q w m g x o rest h d dc k regs t qd mt next = go (is_empty a) refl h next
    where
      code' : Bool → Code
      code' b = if b then does s (Mov j j) else a

      go : (b : Bool) → is_empty a ≡ b → Has C o (items (code' b) x onward o ++ rest) → ((v : ℤ) (regs' : List ℤ) (u : e.State) → After C r q w d regs t v regs' u → Follows C (goes (code' b) false o) rest (slice_set regs' j v) u (k v u))
          → Follows C o (items (code' b) x onward o ++ rest) regs t (m k t)
      go true e h next =
          let p = goes (does s (Mov j j)) false o in
          let ei = empty_items a e x p in
          sets_follows C s (Mov j j) x onward o rest regs regs t (m k t) h (mov_acts j j t.base regs t.memory t.left ∙ ap (λ z. Does z t.memory t.left []) (set-get_or regs j (pos 0)))
          (subst (λ is. Follows C p (is ++ rest) regs t (m k t)) ei.0
          (g.by x onward p rest (subst (λ is. Has C p (is ++ rest)) (sym ei.0) (code_has C (does s (Mov j j)) x onward o rest h)) d dc k regs t qd mt (λ v regs' u f. subst (λ o'. Follows C o' rest (slice_set regs' j v) u (k v u)) (sym ei.1) (next v regs' u f))))
      go false e h next = g.by x onward o rest h d dc k regs t qd mt next

  pub set_slot_lowers : (ty : ValueType) (j : ℕ) (a : Exp) → j < many C → kind_of C j ≡ ty → narrows (width_in a) (width_of ty) ≡ false → Lowers C a → Lowers C (t.set_slot ty j a)
  set_slot_lowers ty j a lt kind whole la = plain_lowers C (t.set_slot ty j a) refl refl (λ s to r le.
      let A = some_code s j (low C.p a s (Some j) r) in
      let ga = la.gives s (Some j) r le in
      plain_gives C (both A (moved s to j)) to r false (width_of ty) (ev C a s >>= (λ v. set_slot j v)) refl (λ x n o rest h d dc k regs t qd mt next.
      let h2 = second_has C A (moved s to j) x n o rest h in
      both_follows C A (moved s to j) x n o rest regs t _
      (some_follows s j (low C.p a s (Some j) r) r (is_quiet a) (width_in a) (ev C a s) ga x o (items (moved s to j) x n (goes A false o) ++ rest) (first_has C A (moved s to j) x n o rest h) d dc (λ v. set_slot j v k) regs t qd mt (λ v regs1 u b.
      let u2 : e.State = record u { slots = slice_set u.slots j v } in
      let in_regs : j < C.F.regs = let e1 = free_room C (goes A false o) _ h2 in let e2 = C.enough in omega (arith, e1, e2) in
      let lv = wider (width_in a) (width_of ty) v whole b.lies in
      let lk = subst (λ z. Lies (width_of z) v) (sym kind) lv in
      let m2 = slot_match C j v regs1 u lt in_regs lk b.match' in
      let long : j < length regs1 = let e1 = b.match'.room in omega (arith, e1, in_regs) in
      let regs2 = slice_set regs1 j v in
      let after' : After C r false (width_of ty) d regs t v regs2 u2 = record { budget = b.budget; match' = m2; kept = record { by = λ q ge lq. set_other regs1 j q v ge lt ∙ b.kept.by q ge lq }; still = λ h. absurd (apart h); lies = lv } in
      let f = moved_follows C s to j x n (goes A false o) rest regs2 u2 v (k v u2) h2 (set_same C j v regs1 long) (next v regs2 u2 after') in
      record { by = f.by }))))
    where
      apart : false ≡ true → ⊥
      apart h = cc

      set_other : (regs : List ℤ) (j q : ℕ) (v : ℤ) → many C ≤ q → j < many C → reg_of (slice_set regs j v) q ≡ reg_of regs q
      set_other regs j q v ge lt = let ne : (q ≡ j) → ⊥ = λ h. omega (arith, h) in get_or-set_other regs j q v (pos 0) ne
