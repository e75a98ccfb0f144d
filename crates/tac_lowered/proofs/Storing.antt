-- What is stored.
use Rattle.std.proofs.Common.{◌≡◌, ℕ, ◌+◌, ◌≤◌, ℤ, pos, List, [], ◌++◌, true, false, ◌&&◌, refl, sym, ap, ◌∙◌, subst, arith, Option, Some, None}
use Rattle.std.specs.Int.{w64, cast_unsigned}
use Rattle.std.proofs.lemmas.List.{append-nil}
use Rattle.ib_base.specs.declared.integers.Width.{Width}
use Rattle.ib_base.specs.declared.integers.Width.TheVariants.{W8}
use Rattle.ib_mem.specs.Memory.{stored}
use Rattle.ib_meaning.specs.declared.fault.FaultKind.TheVariants.{BadAddress}
use Rattle.ib_meaning.specs.Agreement.{Report}
use Rattle.ib_act.specs.declared.act.Act.TheVariants.{Store}
use Rattle.ib_act.specs.Acts as acts
use Rattle.ib_act.specs.Acts.{bytes_in}
use Rattle.ib_meaning.proofs.Facts.{both_first, both_second}
use Rattle.c_meaning.specs.Doing as e
use Rattle.c_meaning.specs.Doing.{Step, Doing, ◌>>=◌, or_fault, store}
use Rattle.c_typed.specs.declared.types.ValueType.{ValueType}
use Rattle.c_typed.specs.Tree as t
use Rattle.c_typed.specs.Tree.{Exp}
use Rattle.c_typed.specs.Program as typed
use Rattle.c_typed.specs.ValueTypes.{size_of}
use Rattle.c_typed.specs.Values.{width_of, accessed}
use Rattle.tac_core.specs.Meaning.{effect_of, reg_of, stores}
use Rattle.tac_lowered.specs.Code.{Code, does, both}
use Rattle.tac_lowered.specs.Items.{Item, Open, goes, Next, onward, closes, Loop, items}
use Rattle.tac_lowered.specs.Operators.{narrows, moved}
use Rattle.tac_lowered.specs.Expressions.{low, held, at, is_quiet, width_in}
use Rattle.c_kept.specs.Kept.{is_value}
use Rattle.tac_lowered.proofs.Relation.{Spot, Lies, Match, Follows, Behind, Has}
use Rattle.tac_lowered.proofs.Gives.{After, plain_gives, kept_all, kept_on, does_follows, fault_follows, first_has, second_has, both_follows, first_room, second_room}
use Rattle.tac_lowered.proofs.Computing.{moved_follows}
use Rattle.tac_lowered.proofs.Constructs.{Lowers, ev, plain_lowers}
use Rattle.tac_lowered.proofs.Values.{own_address, bytes_same}
use Rattle.tac_lowered.proofs.Widths.{in_eight, wider}

store_acts : (w : Width) (j i base : ℕ) (regs : List ℤ) (memory left : List ℕ) → effect_of (Store w j (pos 0) i) base regs memory left ≡ stores (stored memory (acts.address (reg_of regs j) (pos 0)) (bytes_in w) (cast_unsigned w64 (reg_of regs i))) regs left
unfolding effect_of
store_acts w j i base regs memory left = refl

module _ (C : Spot) where
  -- a store of what is in one register to the address that is in another
  pub store_follows : (ty : ValueType) (s ra rb : ℕ) (lp : Loop) (n : Next) (o : Open) (rest : List Item) (regs : List ℤ) (u : e.State) (x y : ℤ) (k : ℤ → Step) → is_value ty ≡ true → Lies W8 x
      → Has C o (items (does s (Store (width_of ty) ra (pos 0) rb)) lp n o ++ rest) → reg_of regs ra ≡ x → reg_of regs rb ≡ y
      → ((memory : List ℕ) → Behind C n (goes (does s (Store (width_of ty) ra (pos 0) rb)) (closes n) o) rest regs (record u { memory = memory }) (k y (record u { memory = memory })))
      → Follows C o (items (does s (Store (width_of ty) ra (pos 0) rb)) lp n o ++ rest) regs u (store (typed.place_of C.p s) ty x y k u)
  store_follows ty s ra rb lp n o rest regs u x y k value fx h ex ey next = go (stored u.memory x (size_of ty) (cast_unsigned w64 y)) refl
    where
      effect : effect_of (Store (width_of ty) ra (pos 0) rb) u.base regs u.memory u.left ≡ stores (stored u.memory x (size_of ty) (cast_unsigned w64 y)) regs u.left
      effect =
          store_acts (width_of ty) ra rb u.base regs u.memory u.left
          ∙ ap (λ z. stores (stored u.memory (acts.address z (pos 0)) (bytes_in (width_of ty)) (cast_unsigned w64 (reg_of regs rb))) regs u.left) ex
          ∙ ap (λ z. stores (stored u.memory z (bytes_in (width_of ty)) (cast_unsigned w64 (reg_of regs rb))) regs u.left) (own_address C x fx)
          ∙ ap (λ z. stores (stored u.memory x z (cast_unsigned w64 (reg_of regs rb))) regs u.left) (bytes_same C ty value)
          ∙ ap (λ z. stores (stored u.memory x (size_of ty) (cast_unsigned w64 z)) regs u.left) ey

      report : Option (List ℕ) → Report
      report z = or_fault (typed.place_of C.p s) (accessed z) (λ memory _. k y (record u { memory = memory })) u

      go : (z : Option (List ℕ)) → stored u.memory x (size_of ty) (cast_unsigned w64 y) ≡ z → Follows C o (items (does s (Store (width_of ty) ra (pos 0) rb)) lp n o ++ rest) regs u (store (typed.place_of C.p s) ty x y k u)
      go (Some memory) e' =
          subst (λ z. Follows C o (items (does s (Store (width_of ty) ra (pos 0) rb)) lp n o ++ rest) regs u (report z)) (sym e')
          (does_follows C s (Store (width_of ty) ra (pos 0) rb) lp n o rest regs regs u (record u { memory = memory }) [] (k y (record u { memory = memory })) h (effect ∙ ap (λ z. stores z regs u.left) e') refl (sym (append-nil u.out)) refl (λ bytes. bytes) (next memory))
      go None e' =
          subst (λ z. Follows C o (items (does s (Store (width_of ty) ra (pos 0) rb)) lp n o ++ rest) regs u (report z)) (sym e')
          (fault_follows C s (Store (width_of ty) ra (pos 0) rb) lp n o rest regs u BadAddress h (effect ∙ ap (λ z. stores z regs u.left) e'))

  pub store_lowers : (ty : ValueType) (a b : Exp) → is_value ty ≡ true → narrows (width_in b) (width_of ty) ≡ false → Lowers C a → Lowers C b → Lowers C (t.store ty a b)
  store_lowers ty a b value whole la lb = plain_lowers C (t.store ty a b) refl refl (λ s to r le.
      let A = held (is_quiet b) a (low C.p a s (Some r) r) in
      let B = held true b (low C.p b s (Some (r + 1)) (r + 1)) in
      let ra = at (is_quiet b) a r in
      let rb = at true b (r + 1) in
      let S : Code = does s (Store (width_of ty) ra (pos 0) rb) in
      let M = moved s to rb in
      let le1 : C.free ≤ r + 1 = omega arith in
      plain_gives C (both A (both B (both S M))) to r (is_quiet a && is_quiet b) (width_of ty) (ev C (t.store ty a b) s) refl (λ lp n o rest h d dc k regs t qd mt next.
      let o1 = goes A false o in
      let o2 = goes B false o1 in
      let o3 = goes S false o2 in
      let h1 = second_has C A (both B (both S M)) lp n o rest h in
      let h2 = second_has C B (both S M) lp n o1 rest h1 in
      let hS = first_has C S M lp n o2 rest h2 in
      let hM = second_has C S M lp n o2 rest h2 in
      both_follows C A (both B (both S M)) lp n o rest regs t _
      ((la.puts (is_quiet b) s r le).by lp o (items (both B (both S M)) lp n o1 ++ rest) (first_has C A (both B (both S M)) lp n o rest h) d dc _ regs t qd mt (λ x regs1 u1 f1 st1.
      both_follows C B (both S M) lp n o1 rest regs1 u1 _
      ((lb.puts true s (r + 1) le1).by lp o1 (items (both S M) lp n o2 ++ rest) (first_has C B (both S M) lp n o1 rest h1) d dc _ regs1 u1 f1.budget f1.match' (λ y regs2 u2 f2 st2.
      let ex = st1.by regs2 u2 (first_room C s _ lp onward o2 (items M lp n o3 ++ rest) ra refl hS) f2.kept f2.match' f2.still in
      let ey = st2.by regs2 u2 (second_room C s _ lp onward o2 (items M lp n o3 ++ rest) rb refl hS) (kept_all C (r + 1 + 1) regs2) f2.match' (λ _. refl) in
      both_follows C S M lp n o2 rest regs2 u2 _
      (store_follows ty s ra rb lp onward o2 (items M lp n o3 ++ rest) regs2 u2 x y k value (in_eight (width_in a) x f1.lies) hS ex ey (λ memory.
      let u3 : e.State = record u2 { memory = memory } in
      let m3 : Match C regs2 u3 = let m1 = f2.match' in record { slots = m1.slots; room = m1.room; same = m1.same; lies = m1.lies; top = m1.top; aligned = m1.aligned; above = m1.above; depth = m1.depth } in
      let f3 : After C r (is_quiet a && is_quiet b) (width_of ty) d regs t y regs2 u3 = record {
        budget = f2.budget;
        match' = m3;
        kept = kept_on C r (r + 1) regs regs1 regs2 (omega arith) f1.kept f2.kept;
        still = λ hq. f2.still (both_second (is_quiet a) (is_quiet b) hq) ∙ f1.still (both_first (is_quiet a) (is_quiet b) hq);
        lies = wider (width_in b) (width_of ty) y whole f2.lies;
      } in
      moved_follows C s to rb lp n o3 rest regs2 u3 y (k y u3) hM ey (next y regs2 u3 f3)))))))))
