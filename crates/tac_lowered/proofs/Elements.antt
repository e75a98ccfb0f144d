-- Elements of arrays.
use Rattle.std.proofs.Common.{◌≡◌, ℕ, suc, ◌+◌, ◌<◌, ◌≤◌, ℤ, pos, negsuc, List, [], ◌++◌, length, Bool, true, false, ◌&&◌, refl, sym, ap, ◌∙◌, subst, arith, Option, Some, None, Ok, Err, get_or-set_other, w64}
use Rattle.std.specs.Prelude.{slice_index_or, slice_set, if◌then◌else◌, ◌+ℤ◌, int_le, int_lt, nat_le, nat_lt}
use Rattle.std.proofs.lemmas.Bool.{leb-true, leb-false, lt-ltb, le-ltb}
use Rattle.std.proofs.lemmas.Int.{int_wrap-add_left}
use lib.IntN.{+ℤ_assoc}
use Rattle.ib_base.specs.declared.integers.Width.TheVariants.{W8}
use Rattle.ib_base.specs.Integers.{wrapped}
use Rattle.ib_meaning.specs.declared.fault.FaultKind.TheVariants as fault
use Rattle.ib_meaning.specs.Agreement.{Report}
use Rattle.ib_act.specs.declared.act.Size.TheVariants.{Eight}
use Rattle.ib_act.specs.declared.act.Act.TheVariants.{Const, FrameAddress, Bounds, Add}
use Rattle.ib_act.specs.Acts as acts
use Rattle.c_meaning.specs.Doing as e
use Rattle.c_meaning.specs.Doing.{Step, Doing, or_fault, storage}
use Rattle.c_typed.specs.declared.types.ValueType.{ValueType}
use Rattle.c_typed.specs.declared.expr.Storage.{Storage}
use Rattle.c_typed.specs.declared.expr.Storage.TheVariants.{Global, Frame}
use Rattle.c_typed.specs.declared.expr.Reach.{Reach}
use Rattle.c_typed.specs.declared.expr.Reach.TheVariants.{Inside, ToEnd}
use Rattle.c_typed.specs.Tree as t
use Rattle.c_typed.specs.Tree.{Exp}
use Rattle.c_typed.specs.Program as typed
use Rattle.c_typed.specs.Values as values
use Rattle.c_typed.specs.Values.{further, in_bounds}
use Rattle.tac_core.specs.Meaning.{Does, effect_of, reg_of, writes}
use Rattle.tac_lowered.specs.Code.{Code, does, both}
use Rattle.tac_lowered.specs.Items.{Item, Open, goes, Next, onward, closes, Loop, items, is_jump}
use Rattle.tac_lowered.specs.Operators.{or_else, scaled, scaled_in, bound}
use Rattle.tac_lowered.specs.Expressions.{low, held, at, is_quiet, width_in, known, address, address_at, indexed}
use Rattle.tac_lowered.proofs.Relation.{Spot, many, Follows, Behind, Has}
use Rattle.tac_lowered.proofs.Gives.{After, Gives, plain_gives, set_match, set_same, kept_all, kept_on, set_kept, wrote, sets_follows, fault_follows, first_has, second_has, both_follows, first_room, target_room}
use Rattle.tac_lowered.proofs.Computing.{same_kept, scaled_follows, scaled_below, const_acts, add_acts}
use Rattle.tac_lowered.proofs.Constructs.{Lowers, GivesOf, ev, up, plain_lowers}
use Rattle.tac_lowered.proofs.Choosing.{frame_acts}
use Rattle.tac_lowered.proofs.Widths.{in_eight, wrapped_lies}

-- ---- bounds

-- a bound that is one more than the greatest index
up_to_end : (n length : ℕ) → nat_lt n (suc length) ≡ nat_le n length
up_to_end n length = go (nat_le n length) refl
  where
    go : (b : Bool) → nat_le n length ≡ b → nat_lt n (suc length) ≡ b
    go true h = let le = leb-true n length h in lt-ltb n (suc length) (omega (arith, le))
    go false h = let lt = leb-false n length h in le-ltb n (suc length) (omega (arith, lt))

bound_same : (reach : Reach) (length : ℕ) (i : ℤ) → (int_le (pos 0) i && int_lt i (bound reach length)) ≡ in_bounds reach length i
bound_same Inside length i = refl
bound_same ToEnd length (pos n) = ap (λ b. int_le (pos 0) (pos n) && b) (up_to_end n length)
bound_same ToEnd length (negsuc n) = refl

bounds_acts : (to j : ℕ) (b : ℤ) (base : ℕ) (regs : List ℤ) (memory left : List ℕ) → effect_of (Bounds to j b) base regs memory left ≡ writes (Some to) (acts.in_bounds (reg_of regs j) b) regs memory left
unfolding effect_of
bounds_acts to j b base regs memory left = refl

frame_at_acts : (j base : ℕ) (offset : ℤ) (regs : List ℤ) (memory left : List ℕ) → effect_of (FrameAddress j offset) base regs memory left ≡ Does (slice_set regs j (wrapped W8 (pos base +ℤ offset))) memory left []
unfolding effect_of
frame_at_acts j base offset regs memory left = refl

further_on : (base offset bytes : ℤ) → wrapped W8 (base +ℤ (offset +ℤ bytes)) ≡ further (further base offset) bytes
further_on base offset bytes = ap (λ z. wrapped W8 z) (sym (+ℤ_assoc base offset bytes)) ∙ sym (int_wrap-add_left w64 (base +ℤ offset) bytes)

abbrev is_constant : Exp → Bool
is_constant (t.constant ty i) = true
is_constant a = false

unknown : (reach : Reach) (length : ℕ) (a : Exp) → is_constant a ≡ false → known reach length a ≡ None
unknown reach length (t.constant ty i) h = let no : ⊥ = cc in absurd no
unknown reach length a h = refl

module _ (C : Spot) where
  -- ---- addresses

  address_follows : (s j : ℕ) (of : Storage) (lp : Loop) (n : Next) (o : Open) (rest : List Item) (regs : List ℤ) (u : e.State) (rep : Report) → Has C o (items (address C.p s j of) lp n o ++ rest)
      → Behind C n (goes (address C.p s j of) (closes n) o) rest (slice_set regs j (storage C.p u.base of)) u rep → Follows C o (items (address C.p s j of) lp n o ++ rest) regs u rep
  address_follows s j (Global g) lp n o rest regs u rep h next = sets_follows C s (Const j (pos (slice_index_or C.p.globals g 0))) lp n o rest regs _ u rep h (const_acts j (pos (slice_index_or C.p.globals g 0)) u.base regs u.memory u.left) next
  address_follows s j (Frame offset) lp n o rest regs u rep h next = sets_follows C s (FrameAddress j (pos offset)) lp n o rest regs _ u rep h (frame_acts C j offset u.base regs u.memory u.left) next

  address_room : (s j : ℕ) (of : Storage) (lp : Loop) (n : Next) (o : Open) (rest : List Item) → Has C o (items (address C.p s j of) lp n o ++ rest) → j < C.F.regs
  address_room s j (Global g) lp n o rest h = target_room C s (Const j (pos (slice_index_or C.p.globals g 0))) lp n o rest j refl h
  address_room s j (Frame offset) lp n o rest h = target_room C s (FrameAddress j (pos offset)) lp n o rest j refl h

  address_at_follows : (s j : ℕ) (of : Storage) (bytes : ℤ) (lp : Loop) (n : Next) (o : Open) (rest : List Item) (regs : List ℤ) (u : e.State) (rep : Report) → Has C o (items (address_at C.p s j of bytes) lp n o ++ rest)
      → Behind C n (goes (address_at C.p s j of bytes) (closes n) o) rest (slice_set regs j (further (storage C.p u.base of) bytes)) u rep → Follows C o (items (address_at C.p s j of bytes) lp n o ++ rest) regs u rep
  address_at_follows s j (Global g) bytes lp n o rest regs u rep h next =
      let v = further (pos (slice_index_or C.p.globals g 0)) bytes in
      sets_follows C s (Const j v) lp n o rest regs _ u rep h (const_acts j v u.base regs u.memory u.left) next
  address_at_follows s j (Frame offset) bytes lp n o rest regs u rep h next =
      sets_follows C s (FrameAddress j (pos offset +ℤ bytes)) lp n o rest regs _ u rep h
      (frame_at_acts j u.base (pos offset +ℤ bytes) regs u.memory u.left ∙ ap (λ z. Does (slice_set regs j z) u.memory u.left []) (further_on (pos u.base) (pos offset) bytes)) next

  -- ---- elements

  module _ (ty : ValueType) (array : Storage) (count size : ℕ) (reach : Reach) (a : Exp) (la : Lowers C a) where
    -- the index is checked, or the statement faults
    checked : (s r j : ℕ) (lp : Loop) (n : Next) (o : Open) (rest : List Item) (regs : List ℤ) (u : e.State) (i : ℤ) (k : ℤ → Step) → Has C o (items (does s (Bounds r j (bound reach count))) lp n o ++ rest) → reg_of regs j ≡ i
        → Behind C n (goes (does s (Bounds r j (bound reach count))) (closes n) o) rest (slice_set regs r i) u (k (further (storage C.p u.base array) (values.scaled size i)) u)
        → Follows C o (items (does s (Bounds r j (bound reach count))) lp n o ++ rest) regs u (or_fault (typed.place_of C.p s) (values.element (storage C.p u.base array) count size reach i) k u)
    checked s r j lp n o rest regs u i k h ei next = go (in_bounds reach count i) effect
      where
        effect : effect_of (Bounds r j (bound reach count)) u.base regs u.memory u.left ≡ writes (Some r) (if in_bounds reach count i then Ok i else Err fault.Bounds) regs u.memory u.left
        effect =
            bounds_acts r j (bound reach count) u.base regs u.memory u.left ∙ ap (λ z. writes (Some r) (acts.in_bounds z (bound reach count)) regs u.memory u.left) ei
            ∙ ap (λ b. writes (Some r) (if b then Ok i else Err fault.Bounds) regs u.memory u.left) (bound_same reach count i)

        go : (b : Bool) → effect_of (Bounds r j (bound reach count)) u.base regs u.memory u.left ≡ writes (Some r) (if b then Ok i else Err fault.Bounds) regs u.memory u.left
            → Follows C o (items (does s (Bounds r j (bound reach count))) lp n o ++ rest) regs u (or_fault (typed.place_of C.p s) (if b then Ok (further (storage C.p u.base array) (values.scaled size i)) else Err fault.Bounds) k u)
        go true e' = sets_follows C s (Bounds r j (bound reach count)) lp n o rest regs (slice_set regs r i) u _ h e' next
        go false e' = fault_follows C s (Bounds r j (bound reach count)) lp n o rest regs u fault.Bounds h e'

    -- an index that code gives
    index_gives : (s : ℕ) (to : Option ℕ) (r : ℕ) → C.free ≤ r
        → Gives C (indexed C.p s to r array count size reach None (held true a (low C.p a s (Some r) r)) (at true a r)) to r (is_quiet a) W8 (ev C (t.element ty array count size reach a) s)
    index_gives s to r le =
        let q = is_quiet a in
        let j = at true a r in
        let X = held true a (low C.p a s (Some r) r) in
        let B : Code = does s (Bounds r j (bound reach count)) in
        let D = scaled s (r + 1) size r in
        let A = address C.p s (r + 2) array in
        let x = scaled_in (r + 1) size r in
        let P : Code = does s (Add Eight (or_else to r) (r + 2) x) in
        let c3 : Code = both A P in
        let c2 : Code = both D c3 in
        let c1 : Code = both B c2 in
        let lm = up C r le in
        let le1 : many C ≤ r + 1 = omega (arith, lm) in
        let le2 : many C ≤ r + 2 = omega (arith, lm) in
        let lr : r < r + 1 = omega arith in
        let lx : x ≤ r + 1 = scaled_below C (r + 1) size r lr in
        plain_gives C (both X c1) to r q W8 (ev C (t.element ty array count size reach a) s) refl (λ lp n p rest h d dc k regs t qd mt next.
        let p1 = goes X false p in
        let p2 = goes B false p1 in
        let p3 = goes D false p2 in
        let p4 = goes A false p3 in
        let h1 = second_has C X c1 lp n p rest h in
        let hB = first_has C B c2 lp n p1 rest h1 in
        let h2 = second_has C B c2 lp n p1 rest h1 in
        let hD = first_has C D c3 lp n p2 rest h2 in
        let h3 = second_has C D c3 lp n p2 rest h2 in
        let hA = first_has C A P lp n p3 rest h3 in
        let hP = second_has C A P lp n p3 rest h3 in
        let room_j = first_room C s (Bounds r j (bound reach count)) lp onward p1 (items c2 lp n p2 ++ rest) j refl hB in
        let room_r = target_room C s (Bounds r j (bound reach count)) lp onward p1 (items c2 lp n p2 ++ rest) r refl hB in
        let room_2 = address_room s (r + 2) array lp onward p3 (items P lp n p4 ++ rest) hA in
        both_follows C X c1 lp n p rest regs t _
        ((la.puts true s r le).by lp p (items c1 lp n p1 ++ rest) (first_has C X c1 lp n p rest h) d dc _ regs t qd mt (λ i regs1 u f1 st1.
        let start = storage C.p u.base array in
        let bytes = values.scaled size i in
        let v = further start bytes in
        let regs2 = slice_set regs1 r i in
        let m2 = set_match C r i regs1 u lm f1.match' in
        let long1 : r < length regs1 = let e1 = f1.match'.room in omega (arith, e1, room_r) in
        both_follows C B c2 lp n p1 rest regs1 u _
        (checked s r j lp onward p1 (items c2 lp n p2 ++ rest) regs1 u i k hB (st1.by regs1 u room_j (kept_all C (r + 1) regs1) f1.match' (λ _. refl))
        (both_follows C D c3 lp n p2 rest regs2 u _
        (scaled_follows C s (r + 1) size r lp p2 (items c3 lp n p3 ++ rest) regs2 u i (k v u) hD m2 le1 lr (set_same C r i regs1 long1) (in_eight (width_in a) i f1.lies) (λ regs3 m3 same3 ex.
        let regs4 = slice_set regs3 (r + 2) start in
        let m4 = set_match C (r + 2) start regs3 u le2 m3 in
        let long3 : r + 2 < length regs3 = let e1 = m3.room in omega (arith, e1, room_2) in
        let ne : (x ≡ r + 2) → ⊥ = λ e. omega (arith, e, lx) in
        let ex4 : reg_of regs4 x ≡ bytes = get_or-set_other regs3 (r + 2) x start (pos 0) ne ∙ ex in
        let kept3 = kept_on C r (r + 1) regs1 regs2 regs3 (omega arith) (set_kept C r r i regs1 (omega arith)) (same_kept C (r + 1) regs2 regs3 same3) in
        let kept4 = kept_on C r r regs1 regs3 regs4 (omega arith) kept3 (set_kept C r (r + 2) start regs3 (omega arith)) in
        let f4 : After C r q W8 d regs t v regs4 u = record {
          budget = f1.budget;
          match' = m4;
          kept = kept_on C r r regs regs1 regs4 (omega arith) f1.kept kept4;
          still = f1.still;
          lies = wrapped_lies W8 (start +ℤ bytes);
        } in
        both_follows C A P lp n p3 rest regs3 u _
        (address_follows s (r + 2) array lp onward p3 (items P lp n p4 ++ rest) regs3 u (k v u) hA
        (sets_follows C s (Add Eight (or_else to r) (r + 2) x) lp n p4 rest regs4 (slice_set regs4 (or_else to r) v) u (k v u) hP
        (add_acts (or_else to r) (r + 2) x u.base regs4 u.memory u.left
        ∙ ap (λ z. Does (slice_set regs4 (or_else to r) (wrapped W8 (z +ℤ reg_of regs4 x))) u.memory u.left []) (set_same C (r + 2) start regs3 long3)
        ∙ ap (λ z. Does (slice_set regs4 (or_else to r) (wrapped W8 (start +ℤ z))) u.memory u.left []) ex4)
        (wrote C to r q W8 d n (goes P (closes n) p4) rest k regs t v regs4 u lm f4 next))))))))))

  -- an index that is known
  known_gives : (ty ty' : ValueType) (array : Storage) (count size : ℕ) (reach : Reach) (i : ℤ) (s : ℕ) (to : Option ℕ) (r : ℕ) (code : Code) (x : ℕ) → C.free ≤ r → in_bounds reach count i ≡ true
      → Gives C (indexed C.p s to r array count size reach (Some i) code x) to r true W8 (ev C (t.element ty array count size reach (t.constant ty' i)) s)
  known_gives ty ty' array count size reach i s to r code x le inside = plain_gives C (address_at C.p s (or_else to r) array (values.scaled size i)) to r true W8 (ev C (t.element ty array count size reach (t.constant ty' i)) s) (more array (or_else to r)) (λ lp n p rest h d dc k regs t qd mt next.
      let v = further (storage C.p t.base array) (values.scaled size i) in
      let f : After C r true W8 d regs t v regs t = record { budget = qd; match' = mt; kept = kept_all C r regs; still = λ _. refl; lies = wrapped_lies W8 (storage C.p t.base array +ℤ values.scaled size i) } in
      subst (λ b. Follows C p (items (address_at C.p s (or_else to r) array (values.scaled size i)) lp n p ++ rest) regs t (or_fault (typed.place_of C.p s) (if b then Ok v else Err fault.Bounds) k t)) (sym inside)
      (address_at_follows s (or_else to r) array (values.scaled size i) lp n p rest regs t (k v t) h
      (wrote C to r true W8 d n (goes (address_at C.p s (or_else to r) array (values.scaled size i)) (closes n) p) rest k regs t v regs t (up C r le) f next)))
    where
      more : (array : Storage) (j : ℕ) → is_jump (address_at C.p s j array (values.scaled size i)) ≡ false
      more (Global g) j = refl
      more (Frame offset) j = refl

  pub element_lowers : (ty : ValueType) (array : Storage) (count size : ℕ) (reach : Reach) (a : Exp) → Lowers C a → Lowers C (t.element ty array count size reach a)
  element_lowers ty array count size reach a la = plain_lowers C (t.element ty array count size reach a) refl refl (gives' a la)
    where
      choice : (ty' : ValueType) (i : ℤ) → Lowers C (t.constant ty' i) → (b : Bool) → in_bounds reach count i ≡ b → (s : ℕ) (to : Option ℕ) (r : ℕ) → C.free ≤ r
          → Gives C (indexed C.p s to r array count size reach (if b then Some i else None) (held true (t.constant ty' i) (low C.p (t.constant ty' i) s (Some r) r)) (at true (t.constant ty' i) r)) to r true W8 (ev C (t.element ty array count size reach (t.constant ty' i)) s)
      choice ty' i la true h s to r le = known_gives ty ty' array count size reach i s to r (held true (t.constant ty' i) (low C.p (t.constant ty' i) s (Some r) r)) (at true (t.constant ty' i) r) le h
      choice ty' i la false h s to r le = index_gives ty array count size reach (t.constant ty' i) la s to r le

      other : (a : Exp) → Lowers C a → is_constant a ≡ false → GivesOf C (t.element ty array count size reach a)
      other a la h s to r le =
          subst (λ i. Gives C (indexed C.p s to r array count size reach i (held true a (low C.p a s (Some r) r)) (at true a r)) to r (is_quiet a) W8 (ev C (t.element ty array count size reach a) s)) (sym (unknown reach count a h)) (index_gives ty array count size reach a la s to r le)

      gives' : (a : Exp) → Lowers C a → GivesOf C (t.element ty array count size reach a)
      gives' (t.constant ty' i) la s to r le = choice ty' i la (in_bounds reach count i) refl s to r le
      gives' a la s to r le = other a la refl s to r le
