-- What is in memory is read, computed with and written.
use Rattle.std.proofs.Common.{◌≡◌, ℕ, ◌+◌, ◌<◌, ◌≤◌, ℤ, pos, List, ◌++◌, length, true, false, ◌&&◌, refl, sym, ap, ◌∙◌, subst, arith, Some, Ok}
use Rattle.std.specs.Prelude.{slice_set}
use Rattle.ib_base.specs.declared.integers.Width.TheVariants.{W8}
use Rattle.ib_base.specs.Integers.{wrapped}
use Rattle.ib_mem.specs.Memory.{loaded}
use Rattle.ib_act.specs.declared.act.Act.TheVariants.{Const, Load, Store}
use Rattle.ib_act.specs.Acts as acts
use Rattle.ib_act.specs.Acts.{read_as, bytes_in}
use Rattle.ib_meaning.proofs.Facts.{both_first, both_second}
use Rattle.c_meaning.specs.Doing as e
use Rattle.c_meaning.specs.Doing.{Step, or_fault, load, store}
use Rattle.c_typed.specs.declared.types.ValueType.{ValueType}
use Rattle.c_typed.specs.declared.operation.Operation.{Operation}
use Rattle.c_typed.specs.Tree as t
use Rattle.c_typed.specs.Tree.{Exp}
use Rattle.c_typed.specs.Program as typed
use Rattle.c_typed.specs.ValueTypes.{size_of}
use Rattle.c_typed.specs.Values as values
use Rattle.c_typed.specs.Values.{width_of}
use Rattle.tac_core.specs.Meaning.{reg_of, writes}
use Rattle.tac_lowered.specs.Code.{Code, does, both}
use Rattle.tac_lowered.specs.Items.{Item, Open, goes, Next, onward, closes, Loop, items}
use Rattle.tac_lowered.specs.Operators.{moved, given_by, assigned}
use Rattle.tac_lowered.specs.Expressions.{low, held, at, is_quiet, width_in}
use Rattle.c_kept.specs.Kept.{is_value}
use Rattle.tac_lowered.proofs.Relation.{Spot, Lies, many, Match, Follows, Behind, Has}
use Rattle.tac_lowered.proofs.Gives.{After, plain_gives, set_match, set_same, set_kept, kept_all, kept_on, sets_follows, first_has, second_has, both_follows, first_room, second_room, target_room}
use Rattle.tac_lowered.proofs.Computing.{same_kept, moved_follows, const_acts}
use Rattle.tac_lowered.proofs.Constructs.{Lowers, ev, up, plain_lowers}
use Rattle.tac_lowered.proofs.Values.{result_follows, load_acts, load_as, read_lies, own_address, bytes_same}
use Rattle.tac_lowered.proofs.Storing.{store_follows}
use Rattle.tac_lowered.proofs.Assigning.{or_mapped, mapped_lies, assigned_room, assigned_computes}
use Rattle.tac_lowered.proofs.Widths.{in_eight, wrapped_lies, one_lies}

module _ (C : Spot) where
  -- what is at the address that is in one register goes to another
  load_follows : (ty : ValueType) (s ra j : ℕ) (lp : Loop) (n : Next) (o : Open) (rest : List Item) (regs : List ℤ) (u : e.State) (x : ℤ) (k : ℤ → Step) → is_value ty ≡ true → Lies W8 x
      → Has C o (items (does s (Load (width_of ty) j ra (pos 0))) lp n o ++ rest) → reg_of regs ra ≡ x
      → ((y : ℤ) → Lies (width_of ty) y → Behind C n (goes (does s (Load (width_of ty) j ra (pos 0))) (closes n) o) rest (slice_set regs j y) u (k y u))
      → Follows C o (items (does s (Load (width_of ty) j ra (pos 0))) lp n o ++ rest) regs u (load (typed.place_of C.p s) ty x k u)
  load_follows ty s ra j lp n o rest regs u x k value fx h ex next =
      let w = width_of ty in
      let z = read_as w (loaded u.memory x (size_of ty)) in
      subst (λ rep. Follows C o (items (does s (Load w j ra (pos 0))) lp n o ++ rest) regs u rep) (sym (load_as C ty (typed.place_of C.p s) k u (loaded u.memory x (size_of ty))))
      (result_follows C s (Load w j ra (pos 0)) lp n o rest j k regs u z h
      (load_acts C w j ra u.base regs u.memory u.left
      ∙ ap (λ z. writes (Some j) (read_as w (loaded u.memory (acts.address z (pos 0)) (bytes_in w))) regs u.memory u.left) ex
      ∙ ap (λ z. writes (Some j) (read_as w (loaded u.memory z (bytes_in w))) regs u.memory u.left) (own_address C x fx)
      ∙ ap (λ z. writes (Some j) (read_as w (loaded u.memory x z)) regs u.memory u.left) (bytes_same C ty value))
      (λ y ey. next y (read_lies C w (loaded u.memory x (size_of ty)) y ey)))

  stored_match : (memory : List ℕ) (regs : List ℤ) (u : e.State) → Match C regs u → Match C regs (record u { memory = memory })
  stored_match memory regs u m = record { slots = m.slots; room = m.room; same = m.same; lies = m.lies; top = m.top; aligned = m.aligned; above = m.above; depth = m.depth }

  pub update_lowers : (ty within : ValueType) (o : Operation) (a b : Exp) → is_value ty ≡ true → Lowers C a → Lowers C b → ((r : ℕ) → C.free ≤ r → at true b r ≤ r)
      → ((x y z : ℤ) → Lies (width_of within) x → Lies (width_in b) y → values.operated o x y ≡ Ok z → Lies (given_by o) z)
      → Lowers C (t.update ty a within o b)
  update_lowers ty within o a b value la lb below lies = plain_lowers C (t.update ty a within o b) refl refl (λ s to r le.
      let T = width_of ty in
      let qa = is_quiet a in
      let qb = is_quiet b in
      let ra = at qb a r in
      let rb = at true b (r + 2) in
      let X = held qb a (low C.p a s (Some r) r) in
      let L : Code = does s (Load T (r + 1) ra (pos 0)) in
      let Y = held true b (low C.p b s (Some (r + 2)) (r + 2)) in
      let A = assigned ty within o s (r + 1) (r + 3) (r + 1) rb in
      let S : Code = does s (Store T ra (pos 0) (r + 1)) in
      let M = moved s to (r + 1) in
      let c4 : Code = both S M in
      let c3 : Code = both A c4 in
      let c2 : Code = both Y c3 in
      let c1 : Code = both L c2 in
      let lm = up C r le in
      let le1 : many C ≤ r + 1 = omega (arith, lm) in
      let le2 : C.free ≤ r + 2 = omega arith in
      let le3 : many C ≤ r + 3 = omega (arith, lm) in
      let lx : r + 1 < r + 3 = omega arith in
      let ly : rb < r + 3 = let e1 = below (r + 2) le2 in omega (arith, e1) in
      plain_gives C (both X c1) to r (qa && qb) T (ev C (t.update ty a within o b) s) refl (λ lp n p rest h d dc k regs t qd mt next.
      let p1 = goes X false p in
      let p2 = goes L false p1 in
      let p3 = goes Y false p2 in
      let p4 = goes A false p3 in
      let p5 = goes S false p4 in
      let h1 = second_has C X c1 lp n p rest h in
      let hL = first_has C L c2 lp n p1 rest h1 in
      let h2 = second_has C L c2 lp n p1 rest h1 in
      let h3 = second_has C Y c3 lp n p2 rest h2 in
      let hA = first_has C A c4 lp n p3 rest h3 in
      let h4 = second_has C A c4 lp n p3 rest h3 in
      let hS = first_has C S M lp n p4 rest h4 in
      let hM = second_has C S M lp n p4 rest h4 in
      let rooms = assigned_room C ty within o s (r + 1) (r + 3) (r + 1) rb lp onward p3 (items c4 lp n p4 ++ rest) hA in
      let room_a = first_room C s (Store T ra (pos 0) (r + 1)) lp onward p4 (items M lp n p5 ++ rest) ra refl hS in
      let room_v = second_room C s (Store T ra (pos 0) (r + 1)) lp onward p4 (items M lp n p5 ++ rest) (r + 1) refl hS in
      both_follows C X c1 lp n p rest regs t _
      ((la.puts qb s r le).by lp p (items c1 lp n p1 ++ rest) (first_has C X c1 lp n p rest h) d dc _ regs t qd mt (λ x regs1 u1 f1 st1.
      let fx = in_eight (width_in a) x f1.lies in
      both_follows C L c2 lp n p1 rest regs1 u1 _
      (load_follows ty s ra (r + 1) lp onward p1 (items c2 lp n p2 ++ rest) regs1 u1 x (λ old. ev C b s (λ y. or_fault (typed.place_of C.p s) (values.operated o (wrapped (width_of within) old) y) (λ new. store (typed.place_of C.p s) ty x (wrapped T new) k))) value fx hL (st1.by regs1 u1 room_a (kept_all C (r + 1) regs1) f1.match' (λ _. refl)) (λ old old_lies.
      let regs2 = slice_set regs1 (r + 1) old in
      let m2 = set_match C (r + 1) old regs1 u1 le1 f1.match' in
      let long1 : r + 1 < length regs1 = let e1 = f1.match'.room in omega (arith, e1, room_v) in
      both_follows C Y c3 lp n p2 rest regs2 u1 _
      ((lb.puts true s (r + 2) le2).by lp p2 (items c3 lp n p3 ++ rest) (first_has C Y c3 lp n p2 rest h2) d dc _ regs2 u1 f1.budget m2 (λ y regs3 u3 f3 st3.
      let g = values.operated o (wrapped (width_of within) old) y in
      let f : ℤ → ℤ = λ z. wrapped T z in
      let lr : r + 1 < r + 2 = omega arith in
      let ex : reg_of regs3 (r + 1) ≡ old = f3.kept.by (r + 1) le1 lr ∙ set_same C (r + 1) old regs1 long1 in
      let ey = st3.by regs3 u3 rooms.1 (kept_all C (r + 2 + 1) regs3) f3.match' (λ _. refl) in
      both_follows C A c4 lp n p3 rest regs3 u3 _
      (subst (λ rep. Follows C p3 (items A lp onward p3 ++ (items c4 lp n p4 ++ rest)) regs3 u3 rep) (or_mapped (typed.place_of C.p s) f g (λ v. store (typed.place_of C.p s) ty x v k) u3)
      ((assigned_computes C ty within o s (r + 1) (r + 3) (r + 1) rb old y le3 lx ly old_lies (in_eight (width_in b) y f3.lies) (λ z ez. lies (wrapped (width_of within) old) y z (wrapped_lies (width_of within) old) f3.lies ez)).by lp onward p3 (items c4 lp n p4 ++ rest) hA (λ v. store (typed.place_of C.p s) ty x v k) regs3 u3 f3.match' ex ey (λ v regs4 ev' m4 same4.
      let regs5 = slice_set regs4 (r + 1) v in
      let m5 = set_match C (r + 1) v regs4 u3 le1 m4 in
      let long4 : r + 1 < length regs4 = let e1 = m4.room in omega (arith, e1, room_v) in
      let kept3 = kept_on C (r + 1) (r + 2) regs1 regs2 regs3 (omega arith) (set_kept C (r + 1) (r + 1) old regs1 (omega arith)) f3.kept in
      let kept4 = kept_on C (r + 1) (r + 3) regs1 regs3 regs4 (omega arith) kept3 (same_kept C (r + 3) regs3 regs4 same4) in
      let kept5 = kept_on C (r + 1) (r + 1) regs1 regs4 regs5 (omega arith) kept4 (set_kept C (r + 1) (r + 1) v regs4 (omega arith)) in
      let ea = st1.by regs5 u3 room_a kept5 m5 f3.still in
      let ev5 = set_same C (r + 1) v regs4 long4 in
      both_follows C S M lp n p4 rest regs5 u3 _
      (store_follows C ty s ra (r + 1) lp onward p4 (items M lp n p5 ++ rest) regs5 u3 x v k value fx hS ea ev5 (λ memory.
      let u4 : e.State = record u3 { memory = memory } in
      let f4 : After C r (qa && qb) T d regs t v regs5 u4 = record {
        budget = f3.budget;
        match' = stored_match memory regs5 u3 m5;
        kept = kept_on C r (r + 1) regs regs1 regs5 (omega arith) f1.kept kept5;
        still = λ hq. f3.still (both_second qa qb hq) ∙ f1.still (both_first qa qb hq);
        lies = mapped_lies T g v ev';
      } in
      moved_follows C s to (r + 1) lp n p5 rest regs5 u4 v (k v u4) hM ev5 (next v regs5 u4 f4))))))))))))))

  pub step_lowers : (ty within : ValueType) (o : Operation) (a : Exp) → is_value ty ≡ true → Lowers C a
      → ((x z : ℤ) → Lies (width_of within) x → values.operated o x (pos 1) ≡ Ok z → Lies (given_by o) z)
      → Lowers C (t.step ty a within o)
  step_lowers ty within o a value la lies = plain_lowers C (t.step ty a within o) refl refl (λ s to r le.
      let T = width_of ty in
      let qa = is_quiet a in
      let ra = at true a r in
      let X = held true a (low C.p a s (Some r) r) in
      let L : Code = does s (Load T (r + 1) ra (pos 0)) in
      let K : Code = does s (Const (r + 2) (pos 1)) in
      let A = assigned ty within o s (r + 2) (r + 3) (r + 1) (r + 2) in
      let S : Code = does s (Store T ra (pos 0) (r + 2)) in
      let M = moved s to (r + 1) in
      let c4 : Code = both S M in
      let c3 : Code = both A c4 in
      let c2 : Code = both K c3 in
      let c1 : Code = both L c2 in
      let lm = up C r le in
      let le1 : many C ≤ r + 1 = omega (arith, lm) in
      let le2 : many C ≤ r + 2 = omega (arith, lm) in
      let le3 : many C ≤ r + 3 = omega (arith, lm) in
      let lx : r + 1 < r + 3 = omega arith in
      let ly : r + 2 < r + 3 = omega arith in
      let l12 : r + 1 < r + 2 = omega arith in
      plain_gives C (both X c1) to r qa T (ev C (t.step ty a within o) s) refl (λ lp n p rest h d dc k regs t qd mt next.
      let p1 = goes X false p in
      let p2 = goes L false p1 in
      let p3 = goes K false p2 in
      let p4 = goes A false p3 in
      let p5 = goes S false p4 in
      let h1 = second_has C X c1 lp n p rest h in
      let hL = first_has C L c2 lp n p1 rest h1 in
      let h2 = second_has C L c2 lp n p1 rest h1 in
      let hK = first_has C K c3 lp n p2 rest h2 in
      let h3 = second_has C K c3 lp n p2 rest h2 in
      let hA = first_has C A c4 lp n p3 rest h3 in
      let h4 = second_has C A c4 lp n p3 rest h3 in
      let hS = first_has C S M lp n p4 rest h4 in
      let hM = second_has C S M lp n p4 rest h4 in
      let room_a = first_room C s (Store T ra (pos 0) (r + 2)) lp onward p4 (items M lp n p5 ++ rest) ra refl hS in
      let room_1 = target_room C s (Load T (r + 1) ra (pos 0)) lp onward p1 (items c2 lp n p2 ++ rest) (r + 1) refl hL in
      let room_2 = target_room C s (Const (r + 2) (pos 1)) lp onward p2 (items c3 lp n p3 ++ rest) (r + 2) refl hK in
      both_follows C X c1 lp n p rest regs t _
      ((la.puts true s r le).by lp p (items c1 lp n p1 ++ rest) (first_has C X c1 lp n p rest h) d dc _ regs t qd mt (λ x regs1 u f1 st1.
      let fx = in_eight (width_in a) x f1.lies in
      both_follows C L c2 lp n p1 rest regs1 u _
      (load_follows ty s ra (r + 1) lp onward p1 (items c2 lp n p2 ++ rest) regs1 u x (λ old. or_fault (typed.place_of C.p s) (values.operated o (wrapped (width_of within) old) (pos 1)) (λ new. store (typed.place_of C.p s) ty x (wrapped T new) (λ _. k old))) value fx hL (st1.by regs1 u room_a (kept_all C (r + 1) regs1) f1.match' (λ _. refl)) (λ old old_lies.
      let g = values.operated o (wrapped (width_of within) old) (pos 1) in
      let f : ℤ → ℤ = λ z. wrapped T z in
      let K' : ℤ → Step = λ v. store (typed.place_of C.p s) ty x v (λ _. k old) in
      let regs2 = slice_set regs1 (r + 1) old in
      let regs3 = slice_set regs2 (r + 2) (pos 1) in
      let m2 = set_match C (r + 1) old regs1 u le1 f1.match' in
      let m3 = set_match C (r + 2) (pos 1) regs2 u le2 m2 in
      let long1 : r + 1 < length regs1 = let e1 = f1.match'.room in omega (arith, e1, room_1) in
      let long2 : r + 2 < length regs2 = let e1 = m2.room in omega (arith, e1, room_2) in
      let kept3' = set_kept C (r + 2) (r + 2) (pos 1) regs2 (omega arith) in
      let ex : reg_of regs3 (r + 1) ≡ old = kept3'.by (r + 1) le1 l12 ∙ set_same C (r + 1) old regs1 long1 in
      both_follows C K c3 lp n p2 rest regs2 u _
      (sets_follows C s (Const (r + 2) (pos 1)) lp onward p2 (items c3 lp n p3 ++ rest) regs2 regs3 u _ hK (const_acts (r + 2) (pos 1) u.base regs2 u.memory u.left)
      (both_follows C A c4 lp n p3 rest regs3 u _
      (subst (λ rep. Follows C p3 (items A lp onward p3 ++ (items c4 lp n p4 ++ rest)) regs3 u rep) (or_mapped (typed.place_of C.p s) f g K' u)
      ((assigned_computes C ty within o s (r + 2) (r + 3) (r + 1) (r + 2) old (pos 1) le3 lx ly old_lies (one_lies W8) (λ z ez. lies (wrapped (width_of within) old) z (wrapped_lies (width_of within) old) ez)).by lp onward p3 (items c4 lp n p4 ++ rest) hA K' regs3 u m3 ex (set_same C (r + 2) (pos 1) regs2 long2) (λ v regs4 ev' m4 same4.
      let regs5 = slice_set regs4 (r + 2) v in
      let m5 = set_match C (r + 2) v regs4 u le2 m4 in
      let long4 : r + 2 < length regs4 = let e1 = m4.room in omega (arith, e1, room_2) in
      let kept3 = kept_on C (r + 1) (r + 2) regs1 regs2 regs3 (omega arith) (set_kept C (r + 1) (r + 1) old regs1 (omega arith)) kept3' in
      let kept4 = kept_on C (r + 1) (r + 3) regs1 regs3 regs4 (omega arith) kept3 (same_kept C (r + 3) regs3 regs4 same4) in
      let kept5' = set_kept C (r + 2) (r + 2) v regs4 (omega arith) in
      let kept5 = kept_on C (r + 1) (r + 2) regs1 regs4 regs5 (omega arith) kept4 kept5' in
      let ea = st1.by regs5 u room_a kept5 m5 (λ _. refl) in
      let e_old : reg_of regs5 (r + 1) ≡ old = kept5'.by (r + 1) le1 l12 ∙ same4.by (r + 1) lx ∙ ex in
      both_follows C S M lp n p4 rest regs5 u _
      (store_follows C ty s ra (r + 2) lp onward p4 (items M lp n p5 ++ rest) regs5 u x v (λ _. k old) value fx hS ea (set_same C (r + 2) v regs4 long4) (λ memory.
      let u4 : e.State = record u { memory = memory } in
      let f4 : After C r qa T d regs t old regs5 u4 = record {
        budget = f1.budget;
        match' = stored_match memory regs5 u m5;
        kept = kept_on C r (r + 1) regs regs1 regs5 (omega arith) f1.kept kept5;
        still = f1.still;
        lies = old_lies;
      } in
      moved_follows C s to (r + 1) lp n p5 rest regs5 u4 old (k old u4) hM e_old (next old regs5 u4 f4))))))))))))))
