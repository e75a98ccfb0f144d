-- What code of expressions gives, and how it is put together.
use Rattle.std.proofs.Common.{◌≡◌, ◌≢◌, ℕ, ◌+◌, ◌<◌, ◌≤◌, ℤ, pos, List, [], ◌++◌, length, Bool, true, false, refl, sym, ap, ◌∙◌, subst, arith, Option, Some, None, append_assoc, get_or-set_same, get_or-set_other, nat_eq}
use Rattle.std.specs.Prelude.{slice_index_or, slice_set, if◌then◌else◌}
use Rattle.std.proofs.Math.ListN.{length-set}
use Rattle.std.proofs.lemmas.Bool.{eq-eqb, eqb-true}
use Rattle.std.proofs.lemmas.List.{append-nil}
use Rattle.ib_base.specs.declared.integers.Width.{Width}
use Rattle.ib_meaning.specs.declared.fault.FaultKind.{FaultKind}
use Rattle.ib_meaning.specs.Agreement.{Report}
use Rattle.ib_act.specs.declared.act.Act.{Act}
use Rattle.ib_act.specs.Acts.{target, first_source, second_source}
use Rattle.c_meaning.specs.Doing as e
use Rattle.c_meaning.specs.Doing.{Step, Doing, get_slot}
use Rattle.c_typed.specs.Program as typed
use Rattle.c_typed.specs.Values.{width_of}
use Rattle.tac_core.specs.Meaning.{Does, Fails, effect_of, reg_of, set_in}
use Rattle.tac_lowered.specs.Bytes.{AreBytes}
use Rattle.tac_lowered.specs.Code.{breaks, continues, Code, does, both, nothing, leave}
use Rattle.tac_lowered.specs.Items.{Item, Open, fresh_if, after, goes, Next, onward, jump, closes, close, put, Loop, items, is_jump, entry, own_items}
use Rattle.tac_lowered.specs.Operators.{or_else}
use Rattle.tac_lowered.proofs.Geometry.{put_runs, first_below, second_below, target_below}
use Rattle.tac_lowered.proofs.Relation.{nearly, Spot, Lies, many, slot_of, kind_of, Match, Kept, Follows, Behind, Begins, Has, behind_has, code_has, jumps, puts, faults_at, put_has, enters}

pub entry_plain : (a : Code) (x : Loop) (l label : ℕ) → is_jump a ≡ false → entry a x l label ≡ label
entry_plain nothing x l label h = let z : ⊥ = cc in absurd z
entry_plain (leave s breaks) x l label h = let z : ⊥ = cc in absurd z
entry_plain (leave s continues) x l label h = let z : ⊥ = cc in absurd z
entry_plain a x l label h = refl

module _ (C : Spot) where
  -- what holds behind an expression's code, which gives v
  pub record After (r : ℕ) (is_still : Bool) (w : Width) (d : ℕ) (regs : List ℤ) (t : e.State) (v : ℤ) (regs' : List ℤ) (u : e.State) : Type 0 where
    pub budget : u.budget ≤ d
    pub match' : Match C regs' u
    pub kept : Kept C r regs regs'
    pub still : is_still ≡ true → u.slots ≡ t.slots
    pub lies : Lies w v

  abbrev pub GivesBy : Code → (to : Option ℕ) (r : ℕ) (is_still : Bool) (w : Width) → Doing ℤ → Type 0
  GivesBy a to r is_still w m = (x : Loop) (n : Next) (o : Open) (rest : List Item) → Has C o (items a x n o ++ rest) → (d : ℕ) → d ≤ C.c → (k : ℤ → Step) (regs : List ℤ) (t : e.State) → t.budget ≤ d → Match C regs t
      → ((v : ℤ) (regs' : List ℤ) (u : e.State) → After r is_still w d regs t v regs' u → Behind C n (goes a (closes n) o) rest (set_in regs' to v) u (k v u))
      → Follows C o (items a x n o ++ rest) regs t (m k t)

  -- The value goes to `to`, which is the last thing written: it may be a slot. From where the code stands, and from a block of its own.
  pub record Gives (a : Code) (to : Option ℕ) (r : ℕ) (is_still : Bool) (w : Width) (m : Doing ℤ) : Type 0 where
    pub by : GivesBy a to r is_still w m
    pub own : (x : Loop) (s l : ℕ) (o : Open) (rest : List Item) → o.count ≡ 0 → Has C o (own_items a (items a x (jump s l) o) ++ rest) → (d : ℕ) → d ≤ C.c → (k : ℤ → Step) (regs : List ℤ) (t : e.State) → t.budget ≤ d → Match C regs t
        → ((v : ℤ) (regs' : List ℤ) (u : e.State) → After r is_still w d regs t v regs' u → Begins C l (set_in regs' to v) u (k v u))
        → Begins C (entry a x l o.label) regs t (m k t)

  -- what is more than a jump
  pub plain_gives : (a : Code) (to : Option ℕ) (r : ℕ) (is_still : Bool) (w : Width) (m : Doing ℤ) → is_jump a ≡ false → GivesBy a to r is_still w m → Gives a to r is_still w m
  plain_gives a to r is_still w m plain by' = record {
    by = by';
    own = λ x s l o rest none h d dc k regs t q mt next.
        let h1 = subst (λ b. Has C o ((if b then [] else items a x (jump s l) o) ++ rest)) plain h in
        subst (λ l'. Begins C l' regs t (m k t)) (sym (entry_plain a x l o.label plain)) (enters C o (items a x (jump s l) o ++ rest) regs t (m k t) none h1 (by' x (jump s l) o rest h1 d dc k regs t q mt next));
  }

  -- the register has the value, and keeps it while registers up to r are kept, and a slot's while slots are
  pub record Stays (is_kept : Bool) (reg r : ℕ) (v : ℤ) (regs : List ℤ) (u : e.State) : Type 0 where
    pub by : (regs' : List ℤ) (u' : e.State) → reg < C.F.regs → Kept C (r + 1) regs regs' → Match C regs' u' → (is_kept ≡ true → u'.slots ≡ u.slots) → reg_of regs' reg ≡ v

  -- the value is in a register, which may be a slot's
  pub record Puts (is_kept : Bool) (a : Code) (reg r : ℕ) (is_still : Bool) (w : Width) (m : Doing ℤ) : Type 0 where
    pub by : (x : Loop) (o : Open) (rest : List Item) → Has C o (items a x onward o ++ rest) → (d : ℕ) → d ≤ C.c → (k : ℤ → Step) (regs : List ℤ) (t : e.State) → t.budget ≤ d → Match C regs t
        → ((v : ℤ) (regs' : List ℤ) (u : e.State) → After r is_still w d regs t v regs' u → Stays is_kept reg r v regs' u → Follows C (goes a false o) rest regs' u (k v u))
        → Follows C o (items a x onward o ++ rest) regs t (m k t)

  -- ---- registers

  pub set_match : (r : ℕ) (v : ℤ) (regs : List ℤ) (t : e.State) → many C ≤ r → Match C regs t → Match C (slice_set regs r v) t
  set_match r v regs t le h = record {
    slots = h.slots;
    room = length-set regs r v ∙ h.room;
    same = λ k lt. let ne : k ≢ r = omega arith in get_or-set_other regs r k v (pos 0) ne ∙ h.same k lt;
    lies = h.lies;
    top = h.top;
    aligned = h.aligned;
    above = h.above;
    depth = h.depth;
  }

  pub set_same : (r : ℕ) (v : ℤ) (regs : List ℤ) → r < length regs → reg_of (slice_set regs r v) r ≡ v
  set_same r v regs lt = get_or-set_same regs r v (pos 0) lt

  pub set_kept : (r s : ℕ) (v : ℤ) (regs : List ℤ) → r ≤ s → Kept C r regs (slice_set regs s v)
  set_kept r s v regs rs = record { by = λ q le lt. let ne : q ≢ s = omega arith in get_or-set_other regs s q v (pos 0) ne }

  pub kept_all : (r : ℕ) (regs : List ℤ) → Kept C r regs regs
  kept_all r regs = record { by = λ q le lt. refl }

  pub kept_on : (r s : ℕ) (a b c : List ℤ) → r ≤ s → Kept C r a b → Kept C s b c → Kept C r a c
  kept_on r s a b c le ab bc = record { by = λ q ge lt. bc.by q ge (omega arith) ∙ ab.by q ge lt }

  pub after_set : (r s : ℕ) (q : Bool) (w : Width) (d : ℕ) (regs : List ℤ) (t : e.State) (v y : ℤ) (regs' : List ℤ) (u : e.State) → many C ≤ r → r ≤ s → After r q w d regs t v regs' u → After r q w d regs t v (slice_set regs' s y) u
  after_set r s q w d regs t v y regs' u le rs a = record {
    budget = a.budget;
    match' = set_match s y regs' u (omega arith) a.match';
    kept = kept_on r r regs regs' (slice_set regs' s y) (omega arith) a.kept (set_kept r s y regs' rs);
    still = a.still;
    lies = a.lies;
  }

  -- a slot's register and the slot
  pub slot_match : (x : ℕ) (v : ℤ) (regs : List ℤ) (t : e.State) → x < many C → x < C.F.regs → Lies (width_of (kind_of C x)) v → Match C regs t → Match C (slice_set regs x v) (record t { slots = slice_set t.slots x v })
  slot_match x v regs t lt in_regs fit h = record {
    slots = length-set t.slots x v ∙ h.slots;
    room = length-set regs x v ∙ h.room;
    same = λ y ly. go y ly (nat_eq y x) refl;
    lies = λ y ly. fit_in y ly (nat_eq y x) refl;
    top = h.top;
    aligned = h.aligned;
    above = h.above;
    depth = h.depth;
  }
    where
      in_slots : x < length t.slots
      in_slots = let e1 = h.slots in omega (arith, e1)

      in_room : x < length regs
      in_room = let e1 = h.room in omega (arith, e1)

      ff : false ≡ true → ⊥
      ff h = cc

      go : (y : ℕ) → y < many C → (b : Bool) → nat_eq y x ≡ b → reg_of (slice_set regs x v) y ≡ slice_index_or (slice_set t.slots x v) y (pos 0)
      go y ly true e =
          subst (λ z. reg_of (slice_set regs x v) z ≡ slice_index_or (slice_set t.slots x v) z (pos 0)) (sym (eqb-true y x e)) (get_or-set_same regs x v (pos 0) in_room ∙ sym (get_or-set_same t.slots x v (pos 0) in_slots))
      go y ly false e =
          let ne : y ≢ x = λ h. ff (sym e ∙ eq-eqb y x h) in
          get_or-set_other regs x y v (pos 0) ne ∙ h.same y ly ∙ sym (get_or-set_other t.slots x y v (pos 0) ne)

      fit_in : (y : ℕ) → y < many C → (b : Bool) → nat_eq y x ≡ b → Lies (width_of (kind_of C y)) (slice_index_or (slice_set t.slots x v) y (pos 0))
      fit_in y ly true e = subst (λ z. Lies (width_of (kind_of C z)) (slice_index_or (slice_set t.slots x v) z (pos 0))) (sym (eqb-true y x e)) (subst (λ z. Lies (width_of (kind_of C x)) z) (sym (get_or-set_same t.slots x v (pos 0) in_slots)) fit)
      fit_in y ly false e =
          let ne : y ≢ x = λ h. ff (sym e ∙ eq-eqb y x h) in
          subst (λ z. Lies (width_of (kind_of C y)) z) (sym (get_or-set_other t.slots x y v (pos 0) ne)) (h.lies y ly)

  -- the wanted register is written, or the first that is free
  pub wrote : (to : Option ℕ) (r : ℕ) (q : Bool) (w : Width) (d : ℕ) (n : Next) (o : Open) (rest : List Item) (k : ℤ → Step) (regs : List ℤ) (t : e.State) (v : ℤ) (regs' : List ℤ) (u : e.State) → many C ≤ r → After r q w d regs t v regs' u
      → ((v : ℤ) (regs' : List ℤ) (u : e.State) → After r q w d regs t v regs' u → Behind C n o rest (set_in regs' to v) u (k v u))
      → Behind C n o rest (slice_set regs' (or_else to r) v) u (k v u)
  wrote None r q w d n o rest k regs t v regs' u le a next = next v (slice_set regs' r v) u (after_set r r q w d regs t v v regs' u le (omega arith) a)
  wrote (Some to) r q w d n o rest k regs t v regs' u le a next = next v regs' u a

  -- ---- code put together

  pub nothing_follows : (n : Next) (o : Open) (rest : List Item) (regs : List ℤ) (t : e.State) (r : Report) → Has C o (close n ++ rest) → Behind C n (fresh_if (closes n) o) rest regs t r → Follows C o (close n ++ rest) regs t r
  nothing_follows onward o rest regs t r h a = a
  nothing_follows (jump s l) o rest regs t r h a = jumps C o s l rest regs t r h (nearly C.funcs C.places _ t r a)

  does_as : (s : ℕ) (act : Act) (n : Next) (o : Open) (rest : List Item) → (put s act o ++ close n) ++ rest ≡ put s act o ++ (close n ++ rest)
  does_as s act n o rest = append_assoc (put s act o) (close n) rest

  does_has : (s : ℕ) (act : Act) (x : Loop) (n : Next) (o : Open) (rest : List Item) → Has C o (items (does s act) x n o ++ rest) → Has C o (put s act o ++ (close n ++ rest))
  does_has s act x n o rest h = subst (λ is. Has C o is) (does_as s act n o rest) h

  -- an operation, and what it leaves
  pub does_follows : (s : ℕ) (act : Act) (x : Loop) (n : Next) (o : Open) (rest : List Item) (regs regs' : List ℤ) (t t' : e.State) (printed : List ℕ) (r : Report) → Has C o (items (does s act) x n o ++ rest)
      → effect_of act t.base regs t.memory t.left ≡ Does regs' t'.memory t'.left printed → t'.base ≡ t.base → t'.out ≡ t.out ++ printed → t'.budget ≡ t.budget → (AreBytes t.left → AreBytes t'.left)
      → Behind C n (goes (does s act) (closes n) o) rest regs' t' r → Follows C o (items (does s act) x n o ++ rest) regs t r
  does_follows s act x n o rest regs regs' t t' printed r h eq base out same still a =
      let h1 = does_has s act x n o rest h in
      subst (λ is. Follows C o is regs t r) (sym (does_as s act n o rest))
      (puts C s act o (close n ++ rest) regs regs' t t' printed r h1 eq base out same still
      (nothing_follows n (after o) rest regs' t' r (behind_has C (put s act o) o (after o) (close n ++ rest) (put_runs s act o) h1) a))

  -- that changes registers alone
  pub sets_follows : (s : ℕ) (act : Act) (x : Loop) (n : Next) (o : Open) (rest : List Item) (regs regs' : List ℤ) (t : e.State) (r : Report) → Has C o (items (does s act) x n o ++ rest)
      → effect_of act t.base regs t.memory t.left ≡ Does regs' t.memory t.left [] → Behind C n (goes (does s act) (closes n) o) rest regs' t r → Follows C o (items (does s act) x n o ++ rest) regs t r
  sets_follows s act x n o rest regs regs' t r h eq a = does_follows s act x n o rest regs regs' t t [] r h eq refl (sym (append-nil t.out)) refl (λ bytes. bytes) a

  pub fault_follows : (s : ℕ) (act : Act) (x : Loop) (n : Next) (o : Open) (rest : List Item) (regs : List ℤ) (t : e.State) (kind : FaultKind) → Has C o (items (does s act) x n o ++ rest)
      → effect_of act t.base regs t.memory t.left ≡ Fails kind → Follows C o (items (does s act) x n o ++ rest) regs t (e.fault (typed.place_of C.p s) kind t)
  fault_follows s act x n o rest regs t kind h eq =
      subst (λ is. Follows C o is regs t (e.fault (typed.place_of C.p s) kind t)) (sym (does_as s act n o rest)) (faults_at C s act o (close n ++ rest) regs t kind (does_has s act x n o rest h) eq)

  pub first_room : (s : ℕ) (act : Act) (x : Loop) (n : Next) (o : Open) (rest : List Item) (q : ℕ) → first_source act ≡ Some q → Has C o (items (does s act) x n o ++ rest) → q < C.F.regs
  first_room s act x n o rest q e h =
      let p = put_has C s act o (close n ++ rest) (does_has s act x n o rest h) in
      let a = first_below s act (close n ++ rest) q C.free e in
      let b = p.1.room in
      omega (arith, a, b)

  pub second_room : (s : ℕ) (act : Act) (x : Loop) (n : Next) (o : Open) (rest : List Item) (q : ℕ) → second_source act ≡ Some q → Has C o (items (does s act) x n o ++ rest) → q < C.F.regs
  second_room s act x n o rest q e h =
      let p = put_has C s act o (close n ++ rest) (does_has s act x n o rest h) in
      let a = second_below s act (close n ++ rest) q C.free e in
      let b = p.1.room in
      omega (arith, a, b)

  pub target_room : (s : ℕ) (act : Act) (x : Loop) (n : Next) (o : Open) (rest : List Item) (q : ℕ) → target act ≡ Some q → Has C o (items (does s act) x n o ++ rest) → q < C.F.regs
  target_room s act x n o rest q e h =
      let p = put_has C s act o (close n ++ rest) (does_has s act x n o rest h) in
      let a = target_below s act (close n ++ rest) q C.free e in
      let b = p.1.room in
      omega (arith, a, b)

  both_as : (a b : Code) (x : Loop) (n : Next) (o : Open) (rest : List Item) → items (both a b) x n o ++ rest ≡ items a x onward o ++ (items b x n (goes a false o) ++ rest)
  both_as a b x n o rest = append_assoc (items a x onward o) (items b x n (goes a false o)) rest

  pub first_has : (a b : Code) (x : Loop) (n : Next) (o : Open) (rest : List Item) → Has C o (items (both a b) x n o ++ rest) → Has C o (items a x onward o ++ (items b x n (goes a false o) ++ rest))
  first_has a b x n o rest h = subst (λ is. Has C o is) (both_as a b x n o rest) h

  pub second_has : (a b : Code) (x : Loop) (n : Next) (o : Open) (rest : List Item) → Has C o (items (both a b) x n o ++ rest) → Has C (goes a false o) (items b x n (goes a false o) ++ rest)
  second_has a b x n o rest h = code_has C a x onward o (items b x n (goes a false o) ++ rest) (first_has a b x n o rest h)

  pub both_follows : (a b : Code) (x : Loop) (n : Next) (o : Open) (rest : List Item) (regs : List ℤ) (t : e.State) (r : Report) → Follows C o (items a x onward o ++ (items b x n (goes a false o) ++ rest)) regs t r → Follows C o (items (both a b) x n o ++ rest) regs t r
  both_follows a b x n o rest regs t r f = subst (λ is. Follows C o is regs t r) (sym (both_as a b x n o rest)) f

  -- ---- operands

  pub gives_puts : (is_kept : Bool) (a : Code) (r : ℕ) (q : Bool) (w : Width) (m : Doing ℤ) → many C ≤ r → Gives a (Some r) r q w m → Puts is_kept a r r q w m
  gives_puts is_kept a r q w m le g = record {
    by = λ x o rest h d dc k regs t qd mt next.
        g.by x onward o rest h d dc k regs t qd mt (λ v regs' u f.
        next v (slice_set regs' r v) u (after_set r r q w d regs t v v regs' u le (omega arith) f)
        (record { by = λ regs3 u3 in_regs kept mt3 slots. let long : r < length regs' = let e1 = f.match'.room in omega (arith, e1) in let own : r < r + 1 = omega arith in kept.by r le own ∙ set_same r v regs' long }));
  }

  pub slot_puts : (is_kept : Bool) (j r : ℕ) → is_kept ≡ true → j < many C → Puts is_kept nothing j r true (width_of (kind_of C j)) (get_slot j)
  slot_puts is_kept j r held lt = record {
    by = λ x o rest h d dc k regs t qd mt next.
        next (slot_of C t j) regs t (record { budget = qd; match' = mt; kept = kept_all r regs; still = λ _. refl; lies = mt.lies j lt })
        (record { by = λ regs3 u3 in_regs kept mt3 slots. mt3.same j lt ∙ ap (λ s. slice_index_or s j (pos 0)) (slots held) });
  }
