-- What code of statements does.
use Rattle.std.proofs.Common.{◌≡◌, ℕ, zero, suc, ◌<◌, ◌≤◌, ℤ, pos, List, [], ◌∷◌, ◌++◌, Bool, true, false, ◌||◌, refl, sym, ap, ◌∙◌, subst, arith, Option, append_assoc}
use Rattle.std.specs.Prelude.{if◌then◌else◌}
use Rattle.ib_meaning.specs.Agreement.{Report}
use Rattle.c_meaning.specs.Doing as e
use Rattle.c_meaning.specs.Doing.{Step, Doing, pure}
use Rattle.c_meaning.specs.Meaning.{Exits, turn, loop}
use Rattle.c_typed.specs.Values.{is_true, width_of}
use Rattle.tac_core.specs.declared.code.End.TheVariants.{Jump, Ret}
use Rattle.tac_core.specs.Meaning.{number_in}
use Rattle.tac_lowered.specs.Code.{breaks, continues, Code, nothing, both, when, choose, repeat, until, leave, Test}
use Rattle.tac_lowered.specs.Items.{Item, Close, Open, fresh, is_jump, owned, goes, goes_test, Next, onward, jump, closes, Loop, label_of, entry, own_items, items, test_items}
use Rattle.tac_lowered.proofs.Geometry.{runs, own_runs, own_empty, empty_behind, empty_test}
use Rattle.tac_lowered.proofs.Relation.{Spot, Lies, Match, Follows, Behind, Begins, Nears, Has, nearly, spend_near, close_has, behind_has, code_has, test_has, jumps, enters}
use Rattle.tac_lowered.proofs.Gives.{nothing_follows, entry_plain, first_has, second_has, both_follows}
use Rattle.tac_lowered.proofs.Constructs.{Tests}

or_left : (a b : Bool) → a ≡ true → (a || b) ≡ true
or_left true b h = refl
or_left false b h = let z : true ≡ false = sym h in absurd (apart z)
  where
    apart : true ≡ false → ⊥
    apart e = cc

or_right : (a b : Bool) → b ≡ true → (a || b) ≡ true
or_right true b h = refl
or_right false b h = h

module _ (C : Spot) where
  abbrev pub Way : Type 1
  Way = List ℤ → e.State → Report → Type 0

  -- where a statement may go from, with at most so much budget
  pub record Leads (d : ℕ) (in_loop goes_on : Bool) (onto : Way) (x : Loop) (y : Exits) : Type 0 where
    pub next : (regs : List ℤ) (t : e.State) → t.budget ≤ d → Match C regs t → onto regs t (y.next t)
    pub on_break : in_loop ≡ true → (regs : List ℤ) (t : e.State) → t.budget ≤ d → Match C regs t → Begins C x.on_break regs t (y.on_break t)
    pub on_continue : goes_on ≡ true → (regs : List ℤ) (t : e.State) → t.budget ≤ d → Match C regs t → Begins C x.on_continue regs t (y.on_continue t)
    pub on_return : (v : ℤ) (s : ℕ) (o : Open) (is : List Item) (r : Option ℕ) (regs : List ℤ) (t : e.State) → Has C o (Close s (Ret r) ∷ is) → t.budget ≤ d → Match C regs t → number_in regs r ≡ v → Lies (width_of C.result) v → Follows C o (Close s (Ret r) ∷ is) regs t (y.on_return v t)

  -- from where it stands, and from a block of its own
  pub record Execs (a : Code) (in_loop goes_on : Bool) (does : Exits → Step) : Type 0 where
    pub by : (x : Loop) (n : Next) (o : Open) (rest : List Item) → Has C o (items a x n o ++ rest) → (d : ℕ) → d ≤ C.c → (y : Exits) → Leads d in_loop goes_on (λ regs t r. Behind C n (goes a (closes n) o) rest regs t r) x y
        → (regs : List ℤ) (t : e.State) → t.budget ≤ d → Match C regs t → Follows C o (items a x n o ++ rest) regs t (does y t)
    pub own : (x : Loop) (s l : ℕ) (o : Open) (rest : List Item) → o.count ≡ 0 → Has C o (own_items a (items a x (jump s l) o) ++ rest) → (d : ℕ) → d ≤ C.c → (y : Exits) → Leads d in_loop goes_on (λ regs t r. Begins C l regs t r) x y
        → (regs : List ℤ) (t : e.State) → t.budget ≤ d → Match C regs t → Begins C (entry a x l o.label) regs t (does y t)

  abbrev pub By : Code → (in_loop goes_on : Bool) → (Exits → Step) → Type 0
  By a in_loop goes_on does = (x : Loop) (n : Next) (o : Open) (rest : List Item) → Has C o (items a x n o ++ rest) → (d : ℕ) → d ≤ C.c → (y : Exits) → Leads d in_loop goes_on (λ regs t r. Behind C n (goes a (closes n) o) rest regs t r) x y
      → (regs : List ℤ) (t : e.State) → t.budget ≤ d → Match C regs t → Follows C o (items a x n o ++ rest) regs t (does y t)

  -- what is more than a jump
  pub plain_execs : (a : Code) (in_loop goes_on : Bool) (does : Exits → Step) → is_jump a ≡ false → By a in_loop goes_on does → Execs a in_loop goes_on does
  plain_execs a in_loop goes_on does plain by' = record {
    by = by';
    own = λ x s l o rest none h d dc y to regs t q mt.
        let h1 = subst (λ b. Has C o ((if b then [] else items a x (jump s l) o) ++ rest)) plain h in
        subst (λ l'. Begins C l' regs t (does y t)) (sym (entry_plain a x l o.label plain)) (enters C o (items a x (jump s l) o ++ rest) regs t (does y t) none h1 (by' x (jump s l) o rest h1 d dc y to regs t q mt));
  }

  pub nothing_execs : (in_loop goes_on : Bool) → Execs nothing in_loop goes_on (λ y. y.next)
  nothing_execs in_loop goes_on = record {
    by = λ x n o rest h d dc y to regs t q mt. nothing_follows C n o rest regs t (y.next t) h (to.next regs t q mt);
    own = λ x s l o rest none h d dc y to regs t q mt. to.next regs t q mt;
  }

  pub break_execs : (s : ℕ) (goes_on : Bool) → Execs (leave s breaks) true goes_on (λ y. y.on_break)
  break_execs s goes_on = record {
    by = λ x n o rest h d dc y to regs t q mt. jumps C o s x.on_break rest regs t (y.on_break t) h (nearly C.funcs C.places _ t _ (to.on_break refl regs t q mt));
    own = λ x s' l o rest none h d dc y to regs t q mt. to.on_break refl regs t q mt;
  }

  pub continue_execs : (s : ℕ) (in_loop : Bool) → Execs (leave s continues) in_loop true (λ y. y.on_continue)
  continue_execs s in_loop = record {
    by = λ x n o rest h d dc y to regs t q mt. jumps C o s x.on_continue rest regs t (y.on_continue t) h (nearly C.funcs C.places _ t _ (to.on_continue refl regs t q mt));
    own = λ x s' l o rest none h d dc y to regs t q mt. to.on_continue refl regs t q mt;
  }

  pub fewer : (d d' : ℕ) (in_loop goes_on : Bool) (onto : Way) (x : Loop) (y : Exits) → d' ≤ d → Leads d in_loop goes_on onto x y → Leads d' in_loop goes_on onto x y
  fewer d d' in_loop goes_on onto x y le a = record {
    next = λ regs t q m. let r : t.budget ≤ d = omega arith in a.next regs t r m;
    on_break = λ h regs t q m. let r : t.budget ≤ d = omega arith in a.on_break h regs t r m;
    on_continue = λ h regs t q m. let r : t.budget ≤ d = omega arith in a.on_continue h regs t r m;
    on_return = λ v s o is p regs t here q m e f. let r : t.budget ≤ d = omega arith in a.on_return v s o is p regs t here r m e f;
  }

  pub both_execs : (a b : Code) (in_loop ga gb : Bool) (does_a does_b : Exits → Step) → Execs a in_loop ga does_a → Execs b in_loop gb does_b → Execs (both a b) in_loop (ga || gb) (λ y. does_a (record y { next = does_b y }))
  both_execs a b in_loop ga gb does_a does_b ea eb = plain_execs (both a b) in_loop (ga || gb) (λ y. does_a (record y { next = does_b y })) refl (λ x n o rest h d dc y to regs t q mt.
      let y' : Exits = record y { next = does_b y } in
      both_follows C a b x n o rest regs t (does_a y' t)
      (ea.by x onward o (items b x n (goes a false o) ++ rest) (first_has C a b x n o rest h) d dc y' (record {
        next = λ regs2 t2 q2 m2. eb.by x n (goes a false o) rest (second_has C a b x n o rest h) d dc y (record {
          next = to.next;
          on_break = to.on_break;
          on_continue = λ g. to.on_continue (or_right ga gb g);
          on_return = to.on_return;
        }) regs2 t2 q2 m2;
        on_break = to.on_break;
        on_continue = λ g. to.on_continue (or_left ga gb g);
        on_return = to.on_return;
      }) regs t q mt))

  -- ---- choices

  own_has : (a : Code) (x : Loop) (s l : ℕ) (p : Open) (rest : List Item) → Has C p (own_items a (items a x (jump s l) p) ++ rest) → Has C (owned a p (goes a true p)) rest
  own_has a x s l p rest h = behind_has C (own_items a (items a x (jump s l) p)) p (owned a p (goes a true p)) rest (own_runs a (items a x (jump s l) p) p (goes a true p) (runs a x (jump s l) p)) h

  -- behind code, from the label that leads there
  begins_behind : (n : Next) (o : Open) (rest : List Item) (regs : List ℤ) (t : e.State) (r : Report) → o.count ≡ 0 → Has C o rest → Behind C n o rest regs t r → Begins C (label_of n o.label) regs t r
  begins_behind onward o rest regs t r none h a = enters C o rest regs t r none h a
  begins_behind (jump s l) o rest regs t r none h a = a

  when_as : (a b rest : List Item) → (a ++ b) ++ rest ≡ a ++ (b ++ rest)
  when_as a b rest = append_assoc a b rest

  pub when_execs : (s : ℕ) (c : Test) (a : Code) (r : ℕ) (still in_loop ga : Bool) (m : Doing ℤ) (does_a : Exits → Step) → Tests C c r still m → Execs a in_loop ga does_a
      → Execs (when s c a) in_loop ga (λ y. m (λ v. if is_true v then does_a y else y.next))
  when_execs s c a r still in_loop ga m does_a tc ea = plain_execs (when s c a) in_loop ga (λ y. m (λ v. if is_true v then does_a y else y.next)) refl (λ x n o rest h d dc y to regs t q mt.
      let p = goes_test c o in
      let b = owned a p (goes a true p) in
      let out = label_of n b.label in
      let T = test_items c (entry a x out p.label) out o in
      let A = own_items a (items a x (jump s out) p) in
      let h1 = subst (λ is. Has C o is) (when_as T A rest) h in
      let h2 = test_has C c (entry a x out p.label) out o (A ++ rest) h1 in
      let h3 = own_has a x s out p rest h2 in
      let done : (regs : List ℤ) (t : e.State) → t.budget ≤ d → Match C regs t → Begins C out regs t (y.next t) = λ regs t q mt. begins_behind n b rest regs t (y.next t) (own_empty a p (empty_test c o)) h3 (to.next regs t q mt) in
      subst (λ is. Follows C o is regs t (m (λ v. if is_true v then does_a y else y.next) t)) (sym (when_as T A rest))
      (tc.by (entry a x out p.label) out o (A ++ rest) h1 d dc (does_a y) y.next regs t q mt
      (λ regs1 u l. nearly C.funcs C.places _ u _ (ea.own x s out p rest (empty_test c o) h2 d dc y (record { next = done; on_break = to.on_break; on_continue = to.on_continue; on_return = to.on_return }) regs1 u l.budget l.match'))
      (λ regs1 u l. nearly C.funcs C.places _ u _ (done regs1 u l.budget l.match'))))

  pub choose_execs : (s : ℕ) (c : Test) (a b : Code) (r : ℕ) (still in_loop ga gb : Bool) (m : Doing ℤ) (does_a does_b : Exits → Step) → Tests C c r still m → Execs a in_loop ga does_a → Execs b in_loop gb does_b
      → Execs (choose s c a b) in_loop (ga || gb) (λ y. m (λ v. if is_true v then does_a y else does_b y))
  choose_execs s c a b r still in_loop ga gb m does_a does_b tc ea eb = plain_execs (choose s c a b) in_loop (ga || gb) (λ y. m (λ v. if is_true v then does_a y else does_b y)) refl (λ x n o rest h d dc y to regs t q mt.
      let p = goes_test c o in
      let p' = owned a p (goes a true p) in
      let b' = owned b p' (goes b true p') in
      let out = label_of n b'.label in
      let T = test_items c (entry a x out p.label) (entry b x out p'.label) o in
      let A = own_items a (items a x (jump s out) p) in
      let B = own_items b (items b x (jump s out) p') in
      let e1 : (T ++ (A ++ B)) ++ rest ≡ T ++ (A ++ (B ++ rest)) = when_as T (A ++ B) rest ∙ ap (λ z. T ++ z) (when_as A B rest) in
      let h1 = subst (λ is. Has C o is) e1 h in
      let h2 = test_has C c (entry a x out p.label) (entry b x out p'.label) o (A ++ (B ++ rest)) h1 in
      let h3 = own_has a x s out p (B ++ rest) h2 in
      let h4 = own_has b x s out p' rest h3 in
      let none = own_empty a p (empty_test c o) in
      let done : (regs : List ℤ) (t : e.State) → t.budget ≤ d → Match C regs t → Begins C out regs t (y.next t) = λ regs t q mt. begins_behind n b' rest regs t (y.next t) (own_empty b p' none) h4 (to.next regs t q mt) in
      subst (λ is. Follows C o is regs t (m (λ v. if is_true v then does_a y else does_b y) t)) (sym e1)
      (tc.by (entry a x out p.label) (entry b x out p'.label) o (A ++ (B ++ rest)) h1 d dc (does_a y) (does_b y) regs t q mt
      (λ regs1 u l. nearly C.funcs C.places _ u _ (ea.own x s out p (B ++ rest) (empty_test c o) h2 d dc y (record { next = done; on_break = to.on_break; on_continue = λ g. to.on_continue (or_left ga gb g); on_return = to.on_return }) regs1 u l.budget l.match'))
      (λ regs1 u l. nearly C.funcs C.places _ u _ (eb.own x s out p' rest none h3 d dc y (record { next = done; on_break = to.on_break; on_continue = λ g. to.on_continue (or_right ga gb g); on_return = to.on_return }) regs1 u l.budget l.match'))))

  -- ---- loops

  spent : (b : ℕ) (regs : List ℤ) (t : e.State) → Match C regs t → Match C regs (record t { budget = b })
  spent b regs t h = record { slots = h.slots; room = h.room; same = h.same; lies = h.lies; top = h.top; aligned = h.aligned; above = h.above; depth = h.depth }

  -- a turn, whose unit the step before pays, where what comes behind it is known for less budget
  turn_near : (l m d : ℕ) (body : Exits → Step) (again : Step) (y : Exits) (regs : List ℤ) (u : e.State) → u.budget ≤ d → Match C regs u
      → ((b : ℕ) → b < d → (regs : List ℤ) (t : e.State) → t.budget ≤ b → Match C regs t → Begins C l regs t (body (record y { next = again; on_break = y.next; on_continue = again }) t))
      → Nears C l regs u (turn body again y u)
  turn_near l m d body again y regs u q mu does = spend_near C.funcs C.places _ u (body (record y { next = again; on_break = y.next; on_continue = again })) (λ b eb.
      let lt : b < d = omega (arith, eb) in
      does b lt regs (record u { budget = b }) (omega arith) (spent b regs u mu))

  -- from a loop's head on, by what its test and a turn do
  loop_begins : (head there out : ℕ) (m last : Doing ℤ) (body : Exits → Step) (y : Exits) (d : ℕ) → d ≤ C.c
      → ((d' : ℕ) → d' ≤ d → (yes' no' : Step) (regs : List ℤ) (t : e.State) → t.budget ≤ d' → Match C regs t
      → ((regs' : List ℤ) (u : e.State) → u.budget ≤ d' → Match C regs' u → Nears C there regs' u (yes' u)) → ((regs' : List ℤ) (u : e.State) → u.budget ≤ d' → Match C regs' u → Nears C out regs' u (no' u))
      → Begins C head regs t (m (λ v. if is_true v then yes' else no') t))
      → ((d' : ℕ) → d' ≤ d → (again : Step) → ((regs : List ℤ) (t : e.State) → t.budget ≤ d' → Match C regs t → Begins C head regs t (again t))
      → (regs : List ℤ) (t : e.State) → t.budget ≤ d' → Match C regs t → Begins C there regs t (body (record y { next = last (λ _. again); on_break = y.next; on_continue = last (λ _. again) }) t))
      → ((regs : List ℤ) (t : e.State) → t.budget ≤ d → Match C regs t → Begins C out regs t (y.next t))
      → (k d' : ℕ) → d' ≤ d → d' < k → (regs : List ℤ) (t : e.State) → t.budget ≤ d' → Match C regs t → Begins C head regs t (loop k m last body y t)
  loop_begins head there out m last body y d dc test_at turn_at done zero d' le lt regs t q mt = let z : ⊥ = omega arith in absurd z
  loop_begins head there out m last body y d dc test_at turn_at done (suc k) d' le lt regs t q mt =
      test_at d' le (turn body (last (λ _. loop k m last body y)) y) y.next regs t q mt
      (λ regs1 u qu mu. turn_near there k d' body (last (λ _. loop k m last body y)) y regs1 u qu mu
      (λ b lb regs2 u2 q2 m2. let le2 : b ≤ d = omega arith in let lt2 : b < k = omega arith in
      turn_at b le2 (loop k m last body y) (λ regs3 u3 q3 m3. loop_begins head there out m last body y d dc test_at turn_at done k b le2 lt2 regs3 u3 q3 m3) regs2 u2 q2 m2))
      (λ regs1 u qu mu. let r : u.budget ≤ d = omega arith in nearly C.funcs C.places _ u _ (done regs1 u r mu))

  below_m : (d : ℕ) → d ≤ C.c → d < C.m
  below_m d dc = let e1 = C.small in omega (arith, e1)

  pub repeat_own : (s : ℕ) (c : Test) (a b : Code) (r : ℕ) (still ga : Bool) (m last : Doing ℤ) (body : Exits → Step) → Tests C c r still m → Execs a true ga body → Execs b false false (λ y. last (λ _. y.next))
      → (in_loop : Bool) → Execs (repeat s true c a b) in_loop false (loop C.m m last body)
  repeat_own s c a b r still ga m last body tc ea eb in_loop = plain_execs (repeat s true c a b) in_loop false (loop C.m m last body) refl (λ x n o rest h d dc y to regs t q mt.
      let head = suc o.label in
      let f : Open = fresh o in
      let p = goes_test c f in
      let p' = owned a p (goes a true p) in
      let b' = owned b p' (goes b true p') in
      let out = label_of n b'.label in
      let step = entry b x head p'.label in
      let z : Loop = record { on_break = out; on_continue = step } in
      let T = test_items c (entry a z step p.label) out f in
      let A = own_items a (items a z (jump s step) p) in
      let B = own_items b (items b x (jump s head) p') in
      let e1 : (T ++ (A ++ B)) ++ rest ≡ T ++ (A ++ (B ++ rest)) = when_as T (A ++ B) rest ∙ ap (λ z. T ++ z) (when_as A B rest) in
      let h0 = close_has C o s (Jump head) ((T ++ (A ++ B)) ++ rest) h in
      let h1 = subst (λ is. Has C f is) e1 h0 in
      let h2 = test_has C c (entry a z step p.label) out f (A ++ (B ++ rest)) h1 in
      let h3 = own_has a z s step p (B ++ rest) h2 in
      let h4 = own_has b x s head p' rest h3 in
      let none = own_empty a p (empty_test c f) in
      let done : (regs : List ℤ) (t : e.State) → t.budget ≤ d → Match C regs t → Begins C out regs t (y.next t) = λ regs t q mt. begins_behind n b' rest regs t (y.next t) (own_empty b p' none) h4 (to.next regs t q mt) in
      jumps C o s head ((T ++ (A ++ B)) ++ rest) regs t (loop C.m m last body y t) h
      (nearly C.funcs C.places _ t _ (loop_begins head (entry a z step p.label) out m last body y d dc
      (λ d' le yes' no' regs t q mt on off. let le2 : d' ≤ C.c = omega arith in
      enters C f (T ++ (A ++ (B ++ rest))) regs t _ refl h1 (tc.by (entry a z step p.label) out f (A ++ (B ++ rest)) h1 d' le2 yes' no' regs t q mt (λ regs1 u l. on regs1 u l.budget l.match') (λ regs1 u l. off regs1 u l.budget l.match')))
      (λ d' le again back regs t q mt.
      let le2 : d' ≤ C.c = omega arith in
      let ahead : (regs : List ℤ) (t : e.State) → t.budget ≤ d' → Match C regs t → Begins C step regs t (last (λ _. again) t)
      = λ regs t q mt. eb.own x s head p' rest none h3 d' le2 (record y { next = again }) (record { next = back; on_break = λ h. absurd (apart h); on_continue = λ h. absurd (apart h); on_return = λ v s o is p regs t here q m e f. let r : t.budget ≤ d = omega arith in to.on_return v s o is p regs t here r m e f }) regs t q mt in
      ea.own z s step p (B ++ rest) (empty_test c f) h2 d' le2 (record y { next = last (λ _. again); on_break = y.next; on_continue = last (λ _. again) })
      (record {
        next = ahead;
        on_break = λ h regs t q mt. let r : t.budget ≤ d = omega arith in done regs t r mt;
        on_continue = λ h. ahead;
        on_return = λ v s o is p regs t here q m e f. let r : t.budget ≤ d = omega arith in to.on_return v s o is p regs t here r m e f;
      }) regs t q mt)
      done C.m d (omega arith) (below_m d dc) regs t q mt)))
    where
      apart : false ≡ true → ⊥
      apart h = cc

  pub repeat_on : (s : ℕ) (c : Test) (a b : Code) (r : ℕ) (still : Bool) (m last : Doing ℤ) (body : Exits → Step) → Tests C c r still m → Execs a true false body → Execs b false false (λ y. last (λ _. y.next))
      → (in_loop : Bool) → Execs (repeat s false c a b) in_loop false (loop C.m m last body)
  repeat_on s c a b r still m last body tc ea eb in_loop = plain_execs (repeat s false c a b) in_loop false (loop C.m m last body) refl (λ x n o rest h d dc y to regs t q mt.
      let head = suc o.label in
      let f : Open = fresh o in
      let p = goes_test c f in
      let p' = goes a false p in
      let b' = goes b true p' in
      let out = label_of n b'.label in
      let z : Loop = record { on_break = out; on_continue = head } in
      let T = test_items c p.label out f in
      let A = items a z onward p in
      let B = items b x (jump s head) p' in
      let e1 : (T ++ (A ++ B)) ++ rest ≡ T ++ (A ++ (B ++ rest)) = when_as T (A ++ B) rest ∙ ap (λ z. T ++ z) (when_as A B rest) in
      let h0 = close_has C o s (Jump head) ((T ++ (A ++ B)) ++ rest) h in
      let h1 = subst (λ is. Has C f is) e1 h0 in
      let h2 = test_has C c p.label out f (A ++ (B ++ rest)) h1 in
      let h3 = code_has C a z onward p (B ++ rest) h2 in
      let h4 = code_has C b x (jump s head) p' rest h3 in
      let done : (regs : List ℤ) (t : e.State) → t.budget ≤ d → Match C regs t → Begins C out regs t (y.next t) = λ regs t q mt. begins_behind n b' rest regs t (y.next t) (empty_behind b p') h4 (to.next regs t q mt) in
      jumps C o s head ((T ++ (A ++ B)) ++ rest) regs t (loop C.m m last body y t) h
      (nearly C.funcs C.places _ t _ (loop_begins head p.label out m last body y d dc
      (λ d' le yes' no' regs t q mt on off. let le2 : d' ≤ C.c = omega arith in
      enters C f (T ++ (A ++ (B ++ rest))) regs t _ refl h1 (tc.by p.label out f (A ++ (B ++ rest)) h1 d' le2 yes' no' regs t q mt (λ regs1 u l. on regs1 u l.budget l.match') (λ regs1 u l. off regs1 u l.budget l.match')))
      (λ d' le again back regs t q mt.
      let le2 : d' ≤ C.c = omega arith in
      enters C p (A ++ (B ++ rest)) regs t _ (empty_test c f) h2
      (ea.by z onward p (B ++ rest) h2 d' le2 (record y { next = last (λ _. again); on_break = y.next; on_continue = last (λ _. again) })
      (record {
        next = λ regs t q mt. eb.by x (jump s head) p' rest h3 d' le2 (record y { next = again }) (record { next = back; on_break = λ h. absurd (apart h); on_continue = λ h. absurd (apart h); on_return = λ v s o is p regs t here q m e f. let r : t.budget ≤ d = omega arith in to.on_return v s o is p regs t here r m e f }) regs t q mt;
        on_break = λ h regs t q mt. let r : t.budget ≤ d = omega arith in done regs t r mt;
        on_continue = λ h. absurd (apart h);
        on_return = λ v s o is p regs t here q m e f. let r : t.budget ≤ d = omega arith in to.on_return v s o is p regs t here r m e f;
      }) regs t q mt))
      done C.m d (omega arith) (below_m d dc) regs t q mt)))
    where
      apart : false ≡ true → ⊥
      apart h = cc

  -- from the test behind a body on
  until_follows : (head out : ℕ) (o : Open) (js : List Item) (m : Doing ℤ) (body : Exits → Step) (y : Exits) (d : ℕ) → d ≤ C.c
      → ((d' : ℕ) → d' ≤ d → (yes' no' : Step) (regs : List ℤ) (t : e.State) → t.budget ≤ d' → Match C regs t
      → ((regs' : List ℤ) (u : e.State) → u.budget ≤ d' → Match C regs' u → Nears C head regs' u (yes' u)) → ((regs' : List ℤ) (u : e.State) → u.budget ≤ d' → Match C regs' u → Nears C out regs' u (no' u))
      → Follows C o js regs t (m (λ v. if is_true v then yes' else no') t))
      → ((d' : ℕ) → d' ≤ d → (again : Step) → ((regs : List ℤ) (t : e.State) → t.budget ≤ d' → Match C regs t → Follows C o js regs t (again t))
      → (regs : List ℤ) (t : e.State) → t.budget ≤ d' → Match C regs t → Begins C head regs t (body (record y { next = again; on_break = y.next; on_continue = again }) t))
      → ((regs : List ℤ) (t : e.State) → t.budget ≤ d → Match C regs t → Begins C out regs t (y.next t))
      → (k d' : ℕ) → d' ≤ d → d' < k → (regs : List ℤ) (t : e.State) → t.budget ≤ d' → Match C regs t → Follows C o js regs t (loop k m (pure (pos 0)) body y t)
  until_follows head out o js m body y d dc test_at turn_at done zero d' le lt regs t q mt = let z : ⊥ = omega arith in absurd z
  until_follows head out o js m body y d dc test_at turn_at done (suc k) d' le lt regs t q mt =
      test_at d' le (turn body (loop k m (pure (pos 0)) body y) y) y.next regs t q mt
      (λ regs1 u qu mu. turn_near head k d' body (loop k m (pure (pos 0)) body y) y regs1 u qu mu
      (λ b lb regs2 u2 q2 m2. let le2 : b ≤ d = omega arith in let lt2 : b < k = omega arith in
      turn_at b le2 (loop k m (pure (pos 0)) body y) (λ regs3 u3 q3 m3. until_follows head out o js m body y d dc test_at turn_at done k b le2 lt2 regs3 u3 q3 m3) regs2 u2 q2 m2))
      (λ regs1 u qu mu. let r : u.budget ≤ d = omega arith in nearly C.funcs C.places _ u _ (done regs1 u r mu))

  pub until_execs : (s : ℕ) (own : Bool) (a : Code) (c : Test) (r : ℕ) (still : Bool) (m : Doing ℤ) (body : Exits → Step) → Tests C c r still m → Execs a true own body
      → (in_loop : Bool) → Execs (until s own a c) in_loop false (λ y. turn body (loop C.m m (pure (pos 0)) body y) y)
  until_execs s true a c r still m body tc ea in_loop = plain_execs (until s true a c) in_loop false (λ y. turn body (loop C.m m (pure (pos 0)) body y) y) refl (λ x n o rest h d dc y to regs t q mt.
      let head = suc o.label in
      let f : Open = fresh o in
      let p = goes a true f in
      let b' = goes_test c p in
      let out = label_of n b'.label in
      let z : Loop = record { on_break = out; on_continue = p.label } in
      let A = items a z (jump s p.label) f in
      let T = test_items c head out p in
      let e1 = when_as A T rest in
      let h1 = subst (λ is. Has C f is) e1 (close_has C o s (Jump head) ((A ++ T) ++ rest) h) in
      let h2 = code_has C a z (jump s p.label) f (T ++ rest) h1 in
      let h3 = test_has C c head out p rest h2 in
      let again = loop C.m m (pure (pos 0)) body y in
      let done : (regs : List ℤ) (t : e.State) → t.budget ≤ d → Match C regs t → Begins C out regs t (y.next t) = λ regs t q mt. begins_behind n b' rest regs t (y.next t) (empty_test c p) h3 (to.next regs t q mt) in
      let turns : (d' : ℕ) → d' ≤ d → (again : Step) → ((regs : List ℤ) (t : e.State) → t.budget ≤ d' → Match C regs t → Follows C p (T ++ rest) regs t (again t))
      → (regs : List ℤ) (t : e.State) → t.budget ≤ d' → Match C regs t → Begins C head regs t (body (record y { next = again; on_break = y.next; on_continue = again }) t)
      = λ d' le again back regs t q mt.
      let le2 : d' ≤ C.c = omega arith in
      let to_test : (regs : List ℤ) (t : e.State) → t.budget ≤ d' → Match C regs t → Begins C p.label regs t (again t) = λ regs t q mt. enters C p (T ++ rest) regs t (again t) (empty_behind a f) h2 (back regs t q mt) in
      enters C f (A ++ (T ++ rest)) regs t _ refl h1
      (ea.by z (jump s p.label) f (T ++ rest) h1 d' le2 (record y { next = again; on_break = y.next; on_continue = again })
      (record {
        next = to_test;
        on_break = λ h regs t q mt. let r : t.budget ≤ d = omega arith in done regs t r mt;
        on_continue = λ h. to_test;
        on_return = λ v s o is p regs t here q m e f. let r : t.budget ≤ d = omega arith in to.on_return v s o is p regs t here r m e f;
      }) regs t q mt) in
      jumps C o s head ((A ++ T) ++ rest) regs t (turn body again y t) h
      (turn_near head C.m d body again y regs t q mt (λ b lb regs2 u2 q2 m2. let le2 : b ≤ d = omega arith in
      turns b le2 again (λ regs3 u3 q3 m3. until_follows head out p (T ++ rest) m body y d dc
      (λ d' le yes' no' regs t q mt on off. let le2 : d' ≤ C.c = omega arith in tc.by head out p rest h2 d' le2 yes' no' regs t q mt (λ regs1 u l. on regs1 u l.budget l.match') (λ regs1 u l. off regs1 u l.budget l.match'))
      turns done C.m b le2 (let e2 = below_m d dc in omega (arith, e2)) regs3 u3 q3 m3) regs2 u2 q2 m2)))
  until_execs s false a c r still m body tc ea in_loop = plain_execs (until s false a c) in_loop false (λ y. turn body (loop C.m m (pure (pos 0)) body y) y) refl (λ x n o rest h d dc y to regs t q mt.
      let head = suc o.label in
      let f : Open = fresh o in
      let p = goes a false f in
      let b' = goes_test c p in
      let out = label_of n b'.label in
      let z : Loop = record { on_break = out; on_continue = p.label } in
      let A = items a z onward f in
      let T = test_items c head out p in
      let e1 = when_as A T rest in
      let h1 = subst (λ is. Has C f is) e1 (close_has C o s (Jump head) ((A ++ T) ++ rest) h) in
      let h2 = code_has C a z onward f (T ++ rest) h1 in
      let h3 = test_has C c head out p rest h2 in
      let again = loop C.m m (pure (pos 0)) body y in
      let done : (regs : List ℤ) (t : e.State) → t.budget ≤ d → Match C regs t → Begins C out regs t (y.next t) = λ regs t q mt. begins_behind n b' rest regs t (y.next t) (empty_test c p) h3 (to.next regs t q mt) in
      let turns : (d' : ℕ) → d' ≤ d → (again : Step) → ((regs : List ℤ) (t : e.State) → t.budget ≤ d' → Match C regs t → Follows C p (T ++ rest) regs t (again t))
      → (regs : List ℤ) (t : e.State) → t.budget ≤ d' → Match C regs t → Begins C head regs t (body (record y { next = again; on_break = y.next; on_continue = again }) t)
      = λ d' le again back regs t q mt.
      let le2 : d' ≤ C.c = omega arith in
      enters C f (A ++ (T ++ rest)) regs t _ refl h1
      (ea.by z onward f (T ++ rest) h1 d' le2 (record y { next = again; on_break = y.next; on_continue = again })
      (record {
        next = back;
        on_break = λ h regs t q mt. let r : t.budget ≤ d = omega arith in done regs t r mt;
        on_continue = λ h. absurd (apart h);
        on_return = λ v s o is p regs t here q m e f. let r : t.budget ≤ d = omega arith in to.on_return v s o is p regs t here r m e f;
      }) regs t q mt) in
      jumps C o s head ((A ++ T) ++ rest) regs t (turn body again y t) h
      (turn_near head C.m d body again y regs t q mt (λ b lb regs2 u2 q2 m2. let le2 : b ≤ d = omega arith in
      turns b le2 again (λ regs3 u3 q3 m3. until_follows head out p (T ++ rest) m body y d dc
      (λ d' le yes' no' regs t q mt on off. let le2 : d' ≤ C.c = omega arith in tc.by head out p rest h2 d' le2 yes' no' regs t q mt (λ regs1 u l. on regs1 u l.budget l.match') (λ regs1 u l. off regs1 u l.budget l.match'))
      turns done C.m b le2 (let e2 = below_m d dc in omega (arith, e2)) regs3 u3 q3 m3) regs2 u2 q2 m2)))
    where
      apart : false ≡ true → ⊥
      apart h = cc
