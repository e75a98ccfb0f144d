-- The operator that an assignment holds, and variables that are updated.
use Rattle.std.proofs.Common.{◌≡◌, ℕ, suc, ◌+◌, ◌<◌, ◌≤◌, ℤ, pos, List, [], ◌++◌, length, Bool, true, false, refl, sym, ap, ◌∙◌, subst, arith, Some, None, Result, Ok, Err, get_or-set_other}
use Rattle.std.specs.Prelude.{slice_set, if◌then◌else◌}
use Rattle.ib_base.specs.declared.integers.Width.{Width}
use Rattle.ib_base.specs.declared.integers.Width.TheVariants.{W1, W4, W8}
use Rattle.ib_base.specs.Integers.{wrapped}
use Rattle.ib_meaning.specs.declared.place.Place.{Place}
use Rattle.ib_meaning.specs.declared.fault.FaultKind.{FaultKind}
use Rattle.ib_meaning.specs.Agreement.{Report}
use Rattle.ib_act.specs.declared.act.Size.{Size}
use Rattle.ib_act.specs.declared.act.Size.TheVariants.{Eight}
use Rattle.ib_act.specs.declared.act.Act.TheVariants.{Const, Mov, Add, Sub, Div}
use Rattle.ib_act.specs.Acts.{target}
use Rattle.c_meaning.specs.Doing as e
use Rattle.c_meaning.specs.Doing.{Step, Doing, or_fault, get_slot, set_slot}
use Rattle.c_typed.specs.declared.types.ValueType.{ValueType}
use Rattle.c_typed.specs.declared.operation.Arithmetic.{Arithmetic}
use Rattle.c_typed.specs.declared.operation.Arithmetic.TheVariants as ar
use Rattle.c_typed.specs.declared.operation.Comparison.{Comparison}
use Rattle.c_typed.specs.declared.operation.Comparison.TheVariants as cm
use Rattle.c_typed.specs.declared.operation.Operation.{Operation}
use Rattle.c_typed.specs.declared.operation.Operation.TheVariants as op
use Rattle.c_typed.specs.Tree as t
use Rattle.c_typed.specs.Tree.{Exp}
use Rattle.c_typed.specs.Program as typed
use Rattle.c_typed.specs.Values as values
use Rattle.c_typed.specs.Values.{width_of, ranked}
use Rattle.tac_core.specs.Meaning.{Does, reg_of}
use Rattle.tac_lowered.specs.Code.{Code, does, both}
use Rattle.tac_lowered.specs.Items.{Item, Open, goes, Next, onward, jump, closes, Loop, items}
use Rattle.tac_lowered.specs.Operators.{moved, narrows, cut, converted, size_of, scaled, scaled_in, arithmetic, comparison, operated, given_by, assigned}
use Rattle.tac_lowered.specs.Expressions.{low, held, at, is_quiet, width_in}
use Rattle.tac_lowered.proofs.Relation.{Spot, Lies, many, slot_of, kind_of, Match, Kept, Follows, Behind, Has, free_room}
use Rattle.tac_lowered.proofs.Gives.{After, Gives, plain_gives, Puts, set_match, set_same, slot_match, kept_all, kept_on, sets_follows, first_has, second_has, both_follows, first_room, target_room, gives_puts, slot_puts}
use Rattle.tac_lowered.proofs.Computing.{Computes, Same, same_kept, same_all, same_set, operated_computes, moved_follows, const_acts, mov_acts}
use Rattle.tac_lowered.proofs.Constructs.{Lowers, GivesOf, ev, up, plain_lowers}
use Rattle.tac_lowered.proofs.Operations.{operated_room}
use Rattle.tac_lowered.proofs.Values.{slot_after, cut_acts, cut_source}
use Rattle.tac_lowered.proofs.Widths.{in_eight, wider, wrapped_lies, one_lies}

apart : false ≡ true → ⊥
apart h = cc

-- ---- results that are taken as another

abbrev pub mapped : (ℤ → ℤ) → Result ℤ FaultKind → Result ℤ FaultKind
mapped f (Ok v) = Ok (f v)
mapped f (Err kind) = Err kind

pub or_mapped : (place : Place) (f : ℤ → ℤ) (g : Result ℤ FaultKind) (k : ℤ → Step) (t : e.State) → or_fault place (mapped f g) k t ≡ or_fault place g (λ v. k (f v)) t
or_mapped place f (Ok v) k t = refl
or_mapped place f (Err kind) k t = refl

pub mapped_lies : (w : Width) (g : Result ℤ FaultKind) (v : ℤ) → mapped (λ z. wrapped w z) g ≡ Ok v → Lies w v
mapped_lies w (Ok z) v h = let same : wrapped w z ≡ v = cc in subst (λ v. Lies w v) same (wrapped_lies w z)
mapped_lies w (Err kind) v h = let no : ⊥ = cc in absurd no

cut_target : (w : Width) (to j : ℕ) → target (cut w to j) ≡ Some to
cut_target W1 to j = refl
cut_target W4 to j = refl
cut_target W8 to j = refl

arithmetic_target : (o : Arithmetic) (size : Size) (to x y : ℕ) → target (arithmetic o size to x y) ≡ Some to
arithmetic_target ar.Add size to x y = refl
arithmetic_target ar.Sub size to x y = refl
arithmetic_target ar.Mul size to x y = refl
arithmetic_target ar.Div size to x y = refl
arithmetic_target ar.Rem size to x y = refl
arithmetic_target ar.ShiftLeft size to x y = refl
arithmetic_target ar.ShiftRight size to x y = refl
arithmetic_target ar.BitAnd size to x y = refl
arithmetic_target ar.BitXor size to x y = refl
arithmetic_target ar.BitOr size to x y = refl

comparison_target : (o : Comparison) (to x y : ℕ) → target (comparison o to x y) ≡ Some to
comparison_target cm.Equal to x y = refl
comparison_target cm.NotEqual to x y = refl
comparison_target cm.Less to x y = refl
comparison_target cm.LessEqual to x y = refl
comparison_target cm.Greater to x y = refl
comparison_target cm.GreaterEqual to x y = refl

module _ (C : Spot) where
  same_less : (r r' : ℕ) (regs regs' : List ℤ) → r ≤ r' → Same C r' regs regs' → Same C r regs regs'
  same_less r r' regs regs' le h = record { by = λ q lt. h.by q (omega arith) }

  same_on : (r : ℕ) (a b c : List ℤ) → Same C r a b → Same C r b c → Same C r a c
  same_on r a b c ab bc = record { by = λ q lt. bc.by q lt ∙ ab.by q lt }

  -- what is left of a register's value in a width
  cut_follows : (w : Width) (s to j : ℕ) (lp : Loop) (n : Next) (o : Open) (rest : List Item) (regs : List ℤ) (t : e.State) (x : ℤ) (rep : Report) → Has C o (items (does s (cut w to j)) lp n o ++ rest) → Lies W8 x → reg_of regs j ≡ x
      → Behind C n (goes (does s (cut w to j)) (closes n) o) rest (slice_set regs to (wrapped w x)) t rep → Follows C o (items (does s (cut w to j)) lp n o ++ rest) regs t rep
  cut_follows w s to j lp n o rest regs t x rep h l ex next = sets_follows C s (cut w to j) lp n o rest regs (slice_set regs to (wrapped w x)) t rep h (cut_acts C w to j t.base regs t.memory t.left x l ex) next

  -- a register's value, which is of the first width, as one of the second
  converted_follows : (from w : Width) (s to j : ℕ) (lp : Loop) (n : Next) (o : Open) (rest : List Item) (regs : List ℤ) (t : e.State) (x : ℤ) (rep : Report) → Has C o (items (converted from w s to j) lp n o ++ rest) → Lies from x → reg_of regs j ≡ x
      → Behind C n (goes (converted from w s to j) (closes n) o) rest (slice_set regs to (wrapped w x)) t rep → Follows C o (items (converted from w s to j) lp n o ++ rest) regs t rep
  converted_follows from w s to j lp n o rest regs t x rep h l ex next = go (narrows from w) refl h next
    where
      code : Bool → Code
      code b = if b then does s (cut w to j) else moved s (Some to) j

      go : (b : Bool) → narrows from w ≡ b → Has C o (items (code b) lp n o ++ rest) → Behind C n (goes (code b) (closes n) o) rest (slice_set regs to (wrapped w x)) t rep → Follows C o (items (code b) lp n o ++ rest) regs t rep
      go true e h next = cut_follows w s to j lp n o rest regs t x rep h (in_eight from x l) ex next
      go false e h next = moved_follows C s (Some to) j lp n o rest regs t x rep h ex (subst (λ z. Behind C n (goes (code false) (closes n) o) rest (slice_set regs to z) t rep) (wider from w x e l) next)

  -- ---- the operator that an assignment holds

  -- the register that an operator writes
  operated_target : (o : Operation) (s to r x y : ℕ) (lp : Loop) (n : Next) (p : Open) (rest : List Item) → Has C p (items (operated o s to r x y) lp n p ++ rest) → to < C.F.regs
  operated_target (op.Integer o rank) s to r x y lp n p rest h = target_room C s _ lp n p rest to (arithmetic_target o (size_of (ranked rank)) to x y) h
  operated_target (op.Compare o) s to r x y lp n p rest h = target_room C s _ lp n p rest to (comparison_target o to x y) h
  operated_target (op.Advance size) s to r x y lp n p rest h = target_room C s _ lp n (goes (scaled s r size y) false p) rest to refl (second_has C (scaled s r size y) (does s (Add Eight to x (scaled_in r size y))) lp n p rest h)
  operated_target (op.AdvanceBy size) s to r x y lp n p rest h = target_room C s _ lp n (goes (scaled s r size x) false p) rest to refl (second_has C (scaled s r size x) (does s (Add Eight to y (scaled_in r size x))) lp n p rest h)
  operated_target (op.Retreat size) s to r x y lp n p rest h = target_room C s _ lp n (goes (scaled s r size y) false p) rest to refl (second_has C (scaled s r size y) (does s (Sub Eight to x (scaled_in r size y))) lp n p rest h)
  operated_target (op.Distance size) s to r x y lp n p rest h =
      let a : Code = does s (Sub Eight r x y) in
      let b : Code = does s (Const (suc r) (pos size)) in
      let c : Code = does s (Div Eight to r (suc r)) in
      target_room C s (Div Eight to r (suc r)) lp n (goes b false (goes a false p)) rest to refl (second_has C b c lp n (goes a false p) rest (second_has C a (both b c) lp n p rest h))

  -- its code, where the first operand is cut and where the result is
  abbrev assigned_if : (cut_first cut_last : Bool) → (ty within : ValueType) → Operation → (s to r x y : ℕ) → Code
  assigned_if cut_first cut_last ty within o s to r x y =
      if cut_first
      then both (does s (cut (width_of within) r x)) (both (operated o s (r + 1) (r + 2) r y) (converted (given_by o) (width_of ty) s to (r + 1)))
      else if cut_last then both (operated o s r (r + 1) x y) (does s (cut (width_of ty) to r))
      else operated o s to r x y

  pub assigned_room : (ty within : ValueType) (o : Operation) (s to r x y : ℕ) (lp : Loop) (n : Next) (p : Open) (rest : List Item) → Has C p (items (assigned ty within o s to r x y) lp n p ++ rest) → (x < C.F.regs) × (y < C.F.regs)
  assigned_room ty within o s to r x y lp n p rest h = go (narrows (width_of ty) (width_of within)) (narrows (given_by o) (width_of ty)) h
    where
      go : (b c : Bool) → Has C p (items (assigned_if b c ty within o s to r x y) lp n p ++ rest) → (x < C.F.regs) × (y < C.F.regs)
      go true c h =
          let A : Code = does s (cut (width_of within) r x) in
          let B = operated o s (r + 1) (r + 2) r y in
          let D = converted (given_by o) (width_of ty) s to (r + 1) in
          let h2 = second_has C A (both B D) lp n p rest h in (
            first_room C s (cut (width_of within) r x) lp onward p _ x (cut_source C (width_of within) r x) (first_has C A (both B D) lp n p rest h),
            (operated_room C o s (r + 1) (r + 2) r y lp onward (goes A false p) _ (first_has C B D lp n (goes A false p) rest h2)).1,
          )
      go false true h = operated_room C o s r (r + 1) x y lp onward p _ (first_has C (operated o s r (r + 1) x y) (does s (cut (width_of ty) to r)) lp n p rest h)
      go false false h = operated_room C o s to r x y lp n p rest h

  -- from an old value of the assignment's type, and the right side
  pub assigned_computes : (ty within : ValueType) (o : Operation) (s to r rx ry : ℕ) (x y : ℤ) → many C ≤ r → rx < r → ry < r → Lies (width_of ty) x → Lies W8 y
      → ((z : ℤ) → values.operated o (wrapped (width_of within) x) y ≡ Ok z → Lies (given_by o) z)
      → Computes C (assigned ty within o s to r rx ry) to r s rx ry x y (mapped (λ z. wrapped (width_of ty) z) (values.operated o (wrapped (width_of within) x) y))
  assigned_computes ty within o s to r rx ry x y le lx ly fx fy lies = go (narrows T W) (narrows G T) refl refl
    where
      T : Width
      T = width_of ty

      W : Width
      W = width_of within

      G : Width
      G = given_by o

      g : Result ℤ FaultKind
      g = values.operated o (wrapped W x) y

      f : ℤ → ℤ
      f z = wrapped T z

      uncut : narrows T W ≡ false → Computes C (operated o s to r rx ry) to r s rx ry x y g
      uncut e = subst (λ z. Computes C (operated o s to r rx ry) to r s rx ry x y (values.operated o z y)) (sym (wider T W x e fx)) (operated_computes C o s to r rx ry x y le lx ly (in_eight T x fx) fy)

      first : narrows T W ≡ false → Computes C (operated o s r (r + 1) rx ry) r (r + 1) s rx ry x y g
      first e =
          let le1 : many C ≤ r + 1 = omega arith in
          let lx1 : rx < r + 1 = omega arith in
          let ly1 : ry < r + 1 = omega arith in
          subst (λ z. Computes C (operated o s r (r + 1) rx ry) r (r + 1) s rx ry x y (values.operated o z y)) (sym (wider T W x e fx)) (operated_computes C o s r (r + 1) rx ry x y le1 lx1 ly1 (in_eight T x fx) fy)

      go : (b c : Bool) → narrows T W ≡ b → narrows G T ≡ c → Computes C (assigned_if b c ty within o s to r rx ry) to r s rx ry x y (mapped f g)
      go true c eb ec = record {
        by = λ lp n p rest h k regs t mt ex ey next.
            let A : Code = does s (cut W r rx) in
            let B = operated o s (r + 1) (r + 2) r ry in
            let D = converted G T s to (r + 1) in
            let pa = goes A false p in
            let pb = goes B false pa in
            let h1 = first_has C A (both B D) lp n p rest h in
            let h2 = second_has C A (both B D) lp n p rest h in
            let hb = first_has C B D lp n pa rest h2 in
            let hd = second_has C B D lp n pa rest h2 in
            let xw = wrapped W x in
            let regs1 = slice_set regs r xw in
            let m1 = set_match C r xw regs t le mt in
            let in1 = target_room C s (cut W r rx) lp onward p _ r (cut_target W r rx) h1 in
            let long : r < length regs = let e1 = mt.room in omega (arith, e1, in1) in
            let same1 = same_set C r r xw regs regs (omega arith) (same_all C r regs) in
            let le2 : many C ≤ r + 2 = omega arith in
            let lr : r < r + 2 = omega arith in
            let ly2 : ry < r + 2 = omega arith in
            subst (λ rep. Follows C p (items (both A (both B D)) lp n p ++ rest) regs t rep) (sym (or_mapped (typed.place_of C.p s) f g k t))
            (both_follows C A (both B D) lp n p rest regs t _
            (cut_follows W s r rx lp onward p _ regs t x _ h1 (in_eight T x fx) ex
            (both_follows C B D lp n pa rest regs1 t _
            ((operated_computes C o s (r + 1) (r + 2) r ry xw y le2 lr ly2 (in_eight W xw (wrapped_lies W x)) fy).by lp onward pa (items D lp n pb ++ rest) hb (λ v. k (f v)) regs1 t m1 (set_same C r xw regs long) (same1.by ry ly ∙ ey) (λ v regs2 ev m2 same2.
            let regs3 = slice_set regs2 (r + 1) v in
            let same3 = same_set C r (r + 1) v regs regs2 (omega arith) (same_on r regs regs1 regs2 same1 (same_less r (r + 2) regs1 regs2 (omega arith) same2)) in
            let m3 = set_match C (r + 1) v regs2 t (omega arith) m2 in
            converted_follows G T s to (r + 1) lp n pb rest regs3 t v (k (f v) t) hd (lies v ev) (set_same C (r + 1) v regs2 (let e1 = m2.room in let e2 = operated_target o s (r + 1) (r + 2) r ry lp onward pa _ hb in omega (arith, e1, e2))) (next (f v) regs3 (ap (λ z. mapped f z) ev) m3 same3))))));
      }
      go false true eb ec = record {
        by = λ lp n p rest h k regs t mt ex ey next.
            let A = operated o s r (r + 1) rx ry in
            let B : Code = does s (cut T to r) in
            let pa = goes A false p in
            let h1 = first_has C A B lp n p rest h in
            let h2 = second_has C A B lp n p rest h in
            subst (λ rep. Follows C p (items (both A B) lp n p ++ rest) regs t rep) (sym (or_mapped (typed.place_of C.p s) f g k t))
            (both_follows C A B lp n p rest regs t _
            ((first eb).by lp onward p (items B lp n pa ++ rest) h1 (λ v. k (f v)) regs t mt ex ey (λ v regs1 ev m1 same1.
            let regs2 = slice_set regs1 r v in
            let in_regs = first_room C s (cut T to r) lp n pa rest r (cut_source C T to r) h2 in
            let long : r < length regs1 = let e1 = m1.room in omega (arith, e1, in_regs) in
            cut_follows T s to r lp n pa rest regs2 t v _ h2 (in_eight G v (lies v ev)) (set_same C r v regs1 long)
            (next (f v) regs2 (ap (λ z. mapped f z) ev) (set_match C r v regs1 t le m1) (same_set C r r v regs regs1 (omega arith) (same_less r (r + 1) regs regs1 (omega arith) same1))))));
      }
      go false false eb ec = record {
        by = λ lp n p rest h k regs t mt ex ey next.
            let A = operated o s to r rx ry in
            subst (λ rep. Follows C p (items A lp n p ++ rest) regs t rep) (sym (or_mapped (typed.place_of C.p s) f g k t))
            ((uncut eb).by lp n p rest h (λ v. k (f v)) regs t mt ex ey (λ v regs1 ev m1 same1.
            subst (λ z. Behind C n (goes A (closes n) p) rest (slice_set regs1 to z) t (k (f v) t)) (wider G T v ec (lies v ev)) (next (f v) regs1 (ap (λ z. mapped f z) ev) m1 same1)));
      }

  -- ---- variables that are updated

  -- a variable's value in a register of its own
  mov_gives : (s j r : ℕ) → j < many C → Gives C (does s (Mov r j)) (Some r) r true (width_of (kind_of C j)) (get_slot j)
  mov_gives s j r lt = plain_gives C (does s (Mov r j)) (Some r) r true (width_of (kind_of C j)) (get_slot j) refl (λ x n o rest h d dc k regs t qd mt next.
      let v = slot_of C t j in
      sets_follows C s (Mov r j) x n o rest regs (slice_set regs r v) t (k v t) h (mov_acts r j t.base regs t.memory t.left ∙ ap (λ z. Does (slice_set regs r z) t.memory t.left []) (mt.same j lt)) (next v regs t (slot_after C j r d regs t lt qd mt)))

  old_puts : (is_kept : Bool) (ty : ValueType) (s j r : ℕ) → many C ≤ r → j < many C → Puts C is_kept (held is_kept (t.slot ty j) (does s (Mov r j))) (at is_kept (t.slot ty j) r) r true (width_of (kind_of C j)) (get_slot j)
  old_puts true ty s j r le lt = slot_puts C true j r refl lt
  old_puts false ty s j r le lt = gives_puts C false (does s (Mov r j)) r true (width_of (kind_of C j)) (get_slot j) le (mov_gives s j r lt)

  old_at : (is_kept : Bool) (ty : ValueType) (j r : ℕ) → j < r → at is_kept (t.slot ty j) r ≤ r
  old_at true ty j r lt = omega arith
  old_at false ty j r lt = omega arith

  -- registers that are no slots keep their values where a slot's register is set
  slot_kept : (r j : ℕ) (v : ℤ) (regs regs' : List ℤ) → j < many C → Kept C r regs regs' → Kept C r regs (slice_set regs' j v)
  slot_kept r j v regs regs' lt h = record { by = λ q ge lq. let ne : (q ≡ j) → ⊥ = λ e. omega (arith, e) in get_or-set_other regs' j q v (pos 0) ne ∙ h.by q ge lq }

  in_regs : (j : ℕ) (o : Open) (is : List Item) → j < many C → Has C o is → j < C.F.regs
  in_regs j o is lt h = let e1 = free_room C o is h in let e2 = C.enough in omega (arith, e1, e2)

  -- the relation of steps does not ask for the variables
  behind_slots : (n : Next) (o : Open) (rest : List Item) (regs : List ℤ) (t : e.State) (slots : List ℤ) (rep : Report) → Behind C n o rest regs (record t { slots = slots }) rep → Behind C n o rest regs t rep
  behind_slots onward o rest regs t slots rep a = record { by = a.by }
  behind_slots (jump s l) o rest regs t slots rep a = record { by = a.by }

  -- a variable of type ty gets a value that was computed
  sets_slot : (ty : ValueType) (j r : ℕ) (d : ℕ) (g : Result ℤ FaultKind) (w v : ℤ) (regs regs' : List ℤ) (t u : e.State) → j < many C → j < C.F.regs → kind_of C j ≡ ty → u.budget ≤ d → Match C regs' u → Kept C r regs regs' → mapped (λ z. wrapped (width_of ty) z) g ≡ Ok v → Lies (width_of ty) w
      → After C r false (width_of ty) d regs t w (slice_set regs' j v) (record u { slots = slice_set u.slots j v })
  sets_slot ty j r d g w v regs regs' t u lt room kind qd mt kept ev lw = record {
    budget = qd;
    match' = slot_match C j v regs' u lt room (subst (λ z. Lies (width_of z) v) (sym kind) (mapped_lies (width_of ty) g v ev)) mt;
    kept = slot_kept r j v regs regs' lt kept;
    still = λ h. absurd (apart h);
    lies = lw;
  }

  pub update_slot_lowers : (ty within : ValueType) (j : ℕ) (o : Operation) (a : Exp) → j < many C → kind_of C j ≡ ty → Lowers C a → ((r : ℕ) → C.free ≤ r → at true a r ≤ r)
      → ((x y z : ℤ) → Lies (width_of within) x → Lies (width_in a) y → values.operated o x y ≡ Ok z → Lies (given_by o) z)
      → Lowers C (t.update_slot ty j within o a)
  update_slot_lowers ty within j o a lt kind la below lies = plain_lowers C (t.update_slot ty j within o a) refl refl (λ s to r le.
      let q = is_quiet a in
      let X = held q (t.slot ty j) (does s (Mov r j)) in
      let Y = held true a (low C.p a s (Some (r + 1)) (r + 1)) in
      let rx = at q (t.slot ty j) r in
      let ry = at true a (r + 1) in
      let A = assigned ty within o s j (r + 2) rx ry in
      let M = moved s to j in
      let lm = up C r le in
      let lj : j < r = omega (arith, lm) in
      let le1 : C.free ≤ r + 1 = omega arith in
      let le2 : many C ≤ r + 2 = omega (arith, lm) in
      let lx : rx < r + 2 = let e1 = old_at q ty j r lj in omega (arith, e1) in
      let ly : ry < r + 2 = let e1 = below (r + 1) le1 in omega (arith, e1) in
      plain_gives C (both X (both Y (both A M))) to r false (width_of ty) (ev C (t.update_slot ty j within o a) s) refl (λ lp n p rest h d dc k regs t qd mt next.
      let p1 = goes X false p in
      let p2 = goes Y false p1 in
      let p3 = goes A false p2 in
      let h1 = second_has C X (both Y (both A M)) lp n p rest h in
      let h2 = second_has C Y (both A M) lp n p1 rest h1 in
      let ha = first_has C A M lp n p2 rest h2 in
      let hm = second_has C A M lp n p2 rest h2 in
      let rooms = assigned_room ty within o s j (r + 2) rx ry lp onward p2 (items M lp n p3 ++ rest) ha in
      both_follows C X (both Y (both A M)) lp n p rest regs t _
      ((old_puts q ty s j r lm lt).by lp p (items (both Y (both A M)) lp n p1 ++ rest) (first_has C X (both Y (both A M)) lp n p rest h) d dc _ regs t qd mt (λ old regs1 u1 f1 st1.
      both_follows C Y (both A M) lp n p1 rest regs1 u1 _
      ((la.puts true s (r + 1) le1).by lp p1 (items (both A M) lp n p2 ++ rest) (first_has C Y (both A M) lp n p1 rest h1) d dc _ regs1 u1 f1.budget f1.match' (λ y regs2 u2 f2 st2.
      let g = values.operated o (wrapped (width_of within) old) y in
      let f : ℤ → ℤ = λ z. wrapped (width_of ty) z in
      let ex = st1.by regs2 u2 rooms.0 f2.kept f2.match' f2.still in
      let ey = st2.by regs2 u2 rooms.1 (kept_all C (r + 1 + 1) regs2) f2.match' (λ _. refl) in
      let old_lies = subst (λ z. Lies (width_of z) old) kind f1.lies in
      both_follows C A M lp n p2 rest regs2 u2 _
      (subst (λ rep. Follows C p2 (items A lp onward p2 ++ (items M lp n p3 ++ rest)) regs2 u2 rep) (or_mapped (typed.place_of C.p s) f g (λ v. set_slot j v k) u2)
      ((assigned_computes ty within o s j (r + 2) rx ry old y le2 lx ly old_lies (in_eight (width_in a) y f2.lies) (λ z ez. lies (wrapped (width_of within) old) y z (wrapped_lies (width_of within) old) f2.lies ez)).by lp onward p2 (items M lp n p3 ++ rest) ha (λ v. set_slot j v k) regs2 u2 f2.match' ex ey (λ v regs3 ev' m3 same3.
      let room = in_regs j p3 _ lt hm in
      let long : j < length regs3 = let e1 = m3.room in omega (arith, e1, room) in
      let u3 : e.State = record u2 { slots = slice_set u2.slots j v } in
      let kept2 = kept_on C r (r + 1) regs regs1 regs2 (omega arith) f1.kept f2.kept in
      let kept3 = kept_on C r (r + 2) regs regs2 regs3 (omega arith) kept2 (same_kept C (r + 2) regs2 regs3 same3) in
      let after' = sets_slot ty j r d g v v regs regs3 t u2 lt room kind f2.budget m3 kept3 ev' (mapped_lies (width_of ty) g v ev') in
      let f4 = moved_follows C s to j lp n p3 rest (slice_set regs3 j v) u3 v (k v u3) hm (set_same C j v regs3 long) (next v (slice_set regs3 j v) u3 after') in
      record { by = f4.by })))))))))

  pub step_slot_lowers : (ty within : ValueType) (j : ℕ) (o : Operation) → j < many C → kind_of C j ≡ ty
      → ((x z : ℤ) → Lies (width_of within) x → values.operated o x (pos 1) ≡ Ok z → Lies (given_by o) z)
      → Lowers C (t.step_slot ty j within o)
  step_slot_lowers ty within j o lt kind lies = plain_lowers C (t.step_slot ty j within o) refl refl gives'
    where
      f : ℤ → ℤ
      f z = wrapped (width_of ty) z

      g : ℤ → Result ℤ FaultKind
      g old = values.operated o (wrapped (width_of within) old) (pos 1)

      gives' : GivesOf C (t.step_slot ty j within o)
      gives' s None r le =
          let K : Code = does s (Const r (pos 1)) in
          let A = assigned ty within o s j (r + 1) j r in
          let lm = up C r le in
          let le1 : many C ≤ r + 1 = omega (arith, lm) in
          let lj : j < r + 1 = omega (arith, lm) in
          let lr : r < r + 1 = omega arith in
          plain_gives C (both K A) None r false (width_of ty) (ev C (t.step_slot ty j within o) s) refl (λ lp n p rest h d dc k regs t qd mt next.
          let p1 = goes K false p in
          let h0 = first_has C K A lp n p rest h in
          let ha = second_has C K A lp n p rest h in
          let old = slot_of C t j in
          let old_lies = subst (λ z. Lies (width_of z) old) kind (mt.lies j lt) in
          let regs1 = slice_set regs r (pos 1) in
          let m1 = set_match C r (pos 1) regs t lm mt in
          let in1 = target_room C s (Const r (pos 1)) lp onward p _ r refl h0 in
          let long : r < length regs = let e1 = mt.room in omega (arith, e1, in1) in
          let same1 = same_set C r r (pos 1) regs regs (omega arith) (same_all C r regs) in
          both_follows C K A lp n p rest regs t _
          (sets_follows C s (Const r (pos 1)) lp onward p _ regs regs1 t _ h0 (const_acts r (pos 1) t.base regs t.memory t.left)
          (subst (λ rep. Follows C p1 (items A lp n p1 ++ rest) regs1 t rep) (or_mapped (typed.place_of C.p s) f (g old) (λ v. set_slot j v (λ _. k old)) t)
          ((assigned_computes ty within o s j (r + 1) j r old (pos 1) le1 lj lr old_lies (one_lies W8) (λ z ez. lies (wrapped (width_of within) old) z (wrapped_lies (width_of within) old) ez)).by lp n p1 rest ha (λ v. set_slot j v (λ _. k old)) regs1 t m1 (m1.same j lt) (set_same C r (pos 1) regs long) (λ v regs2 ev' m2 same2.
          let u2 : e.State = record t { slots = slice_set t.slots j v } in
          let kept2 = same_kept C r regs regs2 (same_on r regs regs1 regs2 same1 (same_less r (r + 1) regs1 regs2 (omega arith) same2)) in
          let b = next old (slice_set regs2 j v) u2 (sets_slot ty j r d (g old) old v regs regs2 t t lt (in_regs j p1 _ lt ha) kind qd m2 kept2 ev' old_lies) in
          behind_slots n (goes A (closes n) p1) rest (slice_set regs2 j v) t (slice_set t.slots j v) (k old u2) b)))))
      gives' s (Some to) r le =
          let X : Code = does s (Mov r j) in
          let K : Code = does s (Const (r + 1) (pos 1)) in
          let A = assigned ty within o s j (r + 2) r (r + 1) in
          let M = moved s (Some to) r in
          let lm = up C r le in
          let le1 : many C ≤ r + 1 = omega (arith, lm) in
          let le2 : many C ≤ r + 2 = omega (arith, lm) in
          let lr : r < r + 2 = omega arith in
          let lr1 : r + 1 < r + 2 = omega arith in
          plain_gives C (both X (both K (both A M))) (Some to) r false (width_of ty) (ev C (t.step_slot ty j within o) s) refl (λ lp n p rest h d dc k regs t qd mt next.
          let p1 = goes X false p in
          let p2 = goes K false p1 in
          let p3 = goes A false p2 in
          let h0 = first_has C X (both K (both A M)) lp n p rest h in
          let h1 = second_has C X (both K (both A M)) lp n p rest h in
          let hk = first_has C K (both A M) lp n p1 rest h1 in
          let h2 = second_has C K (both A M) lp n p1 rest h1 in
          let ha = first_has C A M lp n p2 rest h2 in
          let hm = second_has C A M lp n p2 rest h2 in
          let old = slot_of C t j in
          let old_lies = subst (λ z. Lies (width_of z) old) kind (mt.lies j lt) in
          let regs1 = slice_set regs r old in
          let regs2 = slice_set regs1 (r + 1) (pos 1) in
          let m1 = set_match C r old regs t lm mt in
          let m2 = set_match C (r + 1) (pos 1) regs1 t le1 m1 in
          let in1 = target_room C s (Mov r j) lp onward p _ r refl h0 in
          let in2 = target_room C s (Const (r + 1) (pos 1)) lp onward p1 _ (r + 1) refl hk in
          let long1 : r < length regs = let e1 = mt.room in omega (arith, e1, in1) in
          let long2 : r + 1 < length regs1 = let e1 = m1.room in omega (arith, e1, in2) in
          let same1 = same_set C r r old regs regs (omega arith) (same_all C r regs) in
          let same2 = same_set C (r + 1) (r + 1) (pos 1) regs1 regs1 (omega arith) (same_all C (r + 1) regs1) in
          let er : reg_of regs2 r ≡ old = same2.by r (omega arith) ∙ set_same C r old regs long1 in
          both_follows C X (both K (both A M)) lp n p rest regs t _
          (sets_follows C s (Mov r j) lp onward p _ regs regs1 t _ h0 (mov_acts r j t.base regs t.memory t.left ∙ ap (λ z. Does (slice_set regs r z) t.memory t.left []) (mt.same j lt))
          (both_follows C K (both A M) lp n p1 rest regs1 t _
          (sets_follows C s (Const (r + 1) (pos 1)) lp onward p1 _ regs1 regs2 t _ hk (const_acts (r + 1) (pos 1) t.base regs1 t.memory t.left)
          (both_follows C A M lp n p2 rest regs2 t _
          (subst (λ rep. Follows C p2 (items A lp onward p2 ++ (items M lp n p3 ++ rest)) regs2 t rep) (or_mapped (typed.place_of C.p s) f (g old) (λ v. set_slot j v (λ _. k old)) t)
          ((assigned_computes ty within o s j (r + 2) r (r + 1) old (pos 1) le2 lr lr1 old_lies (one_lies W8) (λ z ez. lies (wrapped (width_of within) old) z (wrapped_lies (width_of within) old) ez)).by lp onward p2 (items M lp n p3 ++ rest) ha (λ v. set_slot j v (λ _. k old)) regs2 t m2 er (set_same C (r + 1) (pos 1) regs1 long2) (λ v regs3 ev' m3 same3.
          let u3 : e.State = record t { slots = slice_set t.slots j v } in
          let ne : (r ≡ j) → ⊥ = λ e. omega (arith, lm, e) in
          let er3 : reg_of (slice_set regs3 j v) r ≡ old = get_or-set_other regs3 j r v (pos 0) ne ∙ same3.by r lr ∙ er in
          let kept3 = same_kept C r regs regs3 (same_on r regs regs2 regs3 (same_on r regs regs1 regs2 same1 (same_less r (r + 1) regs1 regs2 (omega arith) same2)) (same_less r (r + 2) regs2 regs3 (omega arith) same3)) in
          let after' = sets_slot ty j r d (g old) old v regs regs3 t t lt (in_regs j p3 _ lt hm) kind qd m3 kept3 ev' old_lies in
          let f4 = moved_follows C s (Some to) r lp n p3 rest (slice_set regs3 j v) u3 old (k old u3) hm er3 (next old (slice_set regs3 j v) u3 after') in
          record { by = f4.by }))))))))
