-- `!`, signs, and what is printed.
use Rattle.std.proofs.Common.{◌≡◌, ℕ, zero, suc, ◌+◌, ◌<◌, ◌≤◌, ℤ, pos, negsuc, List, [], ◌++◌, length, Bool, true, false, not, refl, ap, ◌∙◌, arith, Option, Some, ◌-ℤ◌}
use Rattle.std.specs.Prelude.{slice_set, nat_le, ◌&&◌}
use Rattle.std.proofs.lemmas.Bool.{leb-true}
use Rattle.std.specs.Fmt.{signed_decimal}
use Rattle.ib_base.specs.declared.integers.Width.{Width}
use Rattle.ib_base.specs.declared.integers.Width.TheVariants.{W1}
use Rattle.ib_base.specs.Integers.{wrapped, int_eq}
use Rattle.ib_act.specs.declared.act.Act.{Act}
use Rattle.ib_act.specs.declared.act.Act.TheVariants.{Const, Sub, Equal, PutNumber}
use Rattle.ib_act.specs.Acts as acts
use Rattle.ib_act.specs.Acts.{first_source, second_source}
use Rattle.c_meaning.specs.Doing as e
use Rattle.c_meaning.specs.Doing.{Step, Doing, ◌>>=◌, pure, put_number}
use Rattle.c_typed.specs.declared.operation.Rank.{Rank}
use Rattle.c_typed.specs.declared.operation.Rank.TheVariants as rk
use Rattle.c_typed.specs.declared.operation.Sign.{Sign}
use Rattle.c_typed.specs.declared.operation.Sign.TheVariants as sg
use Rattle.c_typed.specs.Tree as t
use Rattle.c_typed.specs.Tree.{Exp}
use Rattle.c_typed.specs.Values.{is_true, truth, ranked}
use Rattle.tac_core.specs.Meaning.{Does, effect_of, reg_of}
use Rattle.tac_lowered.specs.Code.{Code, does, both}
use Rattle.tac_lowered.specs.Items.{Item, Open, goes, Next, onward, closes, Loop, items}
use Rattle.tac_lowered.specs.Operators.{or_else, size_of, number}
use Rattle.tac_lowered.specs.Expressions.{low, held, at, tested, is_quiet, width_in}
use Rattle.tac_lowered.proofs.Relation.{Spot, Lies, many, Match, Has}
use Rattle.tac_lowered.proofs.Gives.{Gives, plain_gives, Puts, kept_all, kept_on, set_kept, set_same, after_set, wrote, sets_follows, does_follows, first_has, second_has, both_follows, first_room, second_room, target_room}
use Rattle.tac_lowered.proofs.Computing.{const_acts, truth_same}
use Rattle.tac_lowered.proofs.Constructs.{Lowers, GivesOf, ev, up, no_slot_puts, plain_lowers, not_tests}
use Rattle.tac_lowered.proofs.Values.{after_lies, number_gives}
use Rattle.tac_lowered.proofs.Widths.{truth_lies, wrapped_lies}

is_none : (x : ℤ) → int_eq x (pos 0) ≡ not (is_true x)
is_none (pos zero) = refl
is_none (pos (suc n)) = go (nat_le (suc n) 0) refl
  where
    go : (b : Bool) → nat_le (suc n) 0 ≡ b → (nat_le (suc n) 0 && nat_le 0 (suc n)) ≡ false
    go true e = let h = leb-true (suc n) 0 e in let z : ⊥ = omega (arith, h) in absurd z
    go false e = ap (λ z. z && nat_le 0 (suc n)) e
is_none (negsuc n) = refl

equal_acts : (to x y base : ℕ) (regs : List ℤ) (memory left : List ℕ) → effect_of (Equal to x y) base regs memory left ≡ Does (slice_set regs to (acts.truth (int_eq (reg_of regs x) (reg_of regs y)))) memory left []
unfolding effect_of
equal_acts to x y base regs memory left = refl

sub_acts : (rank : Rank) (to x y base : ℕ) (regs : List ℤ) (memory left : List ℕ) → effect_of (Sub (size_of (ranked rank)) to x y) base regs memory left ≡ Does (slice_set regs to (wrapped (ranked rank) (reg_of regs x -ℤ reg_of regs y))) memory left []
unfolding effect_of
sub_acts rk.Int to x y base regs memory left = refl
sub_acts rk.Long to x y base regs memory left = refl

number_acts : (x base : ℕ) (regs : List ℤ) (memory left : List ℕ) → effect_of (PutNumber x) base regs memory left ≡ Does regs memory left (signed_decimal (reg_of regs x))
unfolding effect_of
number_acts x base regs memory left = refl

module _ (C : Spot) where
  -- an operation on an operand and a constant
  pub with_gives : (a : Code) (reg : ℕ) (act : Act) (c : ℤ) (to : Option ℕ) (s r : ℕ) (q : Bool) (w w' : Width) (m : Doing ℤ) (g : ℤ → ℤ) → many C ≤ r → Puts C true a reg r q w m
      → ((x : Loop) (n : Next) (o : Open) (rest : List Item) → Has C o (items (does s act) x n o ++ rest) → reg < C.F.regs)
      → ((x : ℤ) (base : ℕ) (regs : List ℤ) (memory left : List ℕ) → reg_of regs reg ≡ x → reg_of regs (r + 1) ≡ c → effect_of act base regs memory left ≡ Does (slice_set regs (or_else to r) (g x)) memory left [])
      → ((x : ℤ) → Lies w' (g x))
      → Gives C (both a (both (does s (Const (r + 1) c)) (does s act))) to r q w' (m >>= (λ x. pure (g x)))
  with_gives a reg act c to s r q w w' m g le pa room so lies = plain_gives C (both a (both (does s (Const (r + 1) c)) (does s act))) to r q w' (m >>= (λ x. pure (g x))) refl (λ x n o rest h d dc k regs t qd mt next.
      let b : Code = does s (Const (r + 1) c) in
      let o1 = goes a false o in
      let o2 = goes b false o1 in
      let h23 = second_has C a (both b (does s act)) x n o rest h in
      let h2 = first_has C b (does s act) x n o1 rest h23 in
      let h3 = second_has C b (does s act) x n o1 rest h23 in
      both_follows C a (both b (does s act)) x n o rest regs t _
      (pa.by x o (items (both b (does s act)) x n o1 ++ rest) (first_has C a (both b (does s act)) x n o rest h) d dc (λ v. k (g v)) regs t qd mt (λ v regs1 u f st.
      let regs2 = slice_set regs1 (r + 1) c in
      let f2 = after_set C r (r + 1) q w d regs t v c regs1 u le (omega arith) f in
      let in_regs = target_room C s (Const (r + 1) c) x onward o1 (items (does s act) x n o2 ++ rest) (r + 1) refl h2 in
      let long : r + 1 < length regs1 = let e1 = f.match'.room in omega (arith, e1, in_regs) in
      let reg_is = st.by regs2 u (room x n o2 rest h3) (set_kept C (r + 1) (r + 1) c regs1 (omega arith)) f2.match' (λ _. refl) in
      both_follows C b (does s act) x n o1 rest regs1 u _
      (sets_follows C s (Const (r + 1) c) x onward o1 (items (does s act) x n o2 ++ rest) regs1 regs2 u _ h2 (const_acts (r + 1) c u.base regs1 u.memory u.left)
      (sets_follows C s act x n o2 rest regs2 (slice_set regs2 (or_else to r) (g v)) u _ h3 (so v u.base regs2 u.memory u.left reg_is (set_same C (r + 1) c regs1 long))
      (wrote C to r q w' d n (goes (does s act) (closes n) o2) rest k regs t (g v) regs2 u le (after_lies C r q w w' d regs t v (g v) regs2 u f2 (lies v)) next))))))

  pub not_lowers : (a : Exp) → Lowers C a → Lowers C (t.not a)
  not_lowers a la = record { gives = gives'; puts = no_slot_puts C (t.not a) refl gives'; tests = λ s r le. not_tests C (tested C.p a s r) r (is_quiet a) (ev C a s) (la.tests s r le) }
    where
      gives' : GivesOf C (t.not a)
      gives' s to r le =
          let reg = at true a r in
          with_gives (held true a (low C.p a s (Some r) r)) reg (Equal (or_else to r) reg (r + 1)) (pos 0) to s r (is_quiet a) (width_in a) W1 (ev C a s) (λ x. truth (not (is_true x))) (up C r le) (la.puts true s r le)
          (λ x n o rest h. first_room C s (Equal (or_else to r) reg (r + 1)) x n o rest reg refl h)
          (λ x base regs memory left ex ec. equal_acts (or_else to r) reg (r + 1) base regs memory left
          ∙ ap (λ z. Does (slice_set regs (or_else to r) (acts.truth (int_eq z (reg_of regs (r + 1))))) memory left []) ex
          ∙ ap (λ z. Does (slice_set regs (or_else to r) (acts.truth (int_eq x z))) memory left []) ec
          ∙ ap (λ z. Does (slice_set regs (or_else to r) z) memory left []) (ap acts.truth (is_none x) ∙ truth_same (not (is_true x))))
          (λ x. truth_lies (not (is_true x)))

  pub unary_lowers : (o : Sign) (rank : Rank) (a : Exp) → Lowers C a → Lowers C (t.unary o rank a)
  unary_lowers o rank a la = plain_lowers C (t.unary o rank a) refl refl (gives' o)
    where
      sub_gives : (c : ℤ) (s : ℕ) (to : Option ℕ) (r : ℕ) → C.free ≤ r → Gives C (both (held true a (low C.p a s (Some r) r)) (both (does s (Const (r + 1) c)) (does s (Sub (size_of (ranked rank)) (or_else to r) (r + 1) (at true a r))))) to r (is_quiet a) (ranked rank) (ev C a s >>= (λ x. pure (wrapped (ranked rank) (c -ℤ x))))
      sub_gives c s to r le =
          let reg = at true a r in
          with_gives (held true a (low C.p a s (Some r) r)) reg (Sub (size_of (ranked rank)) (or_else to r) (r + 1) reg) c to s r (is_quiet a) (width_in a) (ranked rank) (ev C a s) (λ x. wrapped (ranked rank) (c -ℤ x)) (up C r le) (la.puts true s r le)
          (λ x n o rest h. second_room C s (Sub (size_of (ranked rank)) (or_else to r) (r + 1) reg) x n o rest reg refl h)
          (λ x base regs memory left ex ec. sub_acts rank (or_else to r) (r + 1) reg base regs memory left
          ∙ ap (λ z. Does (slice_set regs (or_else to r) (wrapped (ranked rank) (z -ℤ reg_of regs reg))) memory left []) ec
          ∙ ap (λ z. Does (slice_set regs (or_else to r) (wrapped (ranked rank) (c -ℤ z))) memory left []) ex)
          (λ x. wrapped_lies (ranked rank) (c -ℤ x))

      gives' : (o : Sign) → GivesOf C (t.unary o rank a)
      gives' sg.Minus s to r le = sub_gives (pos 0) s to r le
      gives' sg.BitNot s to r le = sub_gives (negsuc 0) s to r le

  pub put_number_lowers : (a : Exp) → Lowers C a → Lowers C (t.put_number a)
  put_number_lowers a la = plain_lowers C (t.put_number a) refl refl (λ s to r le.
      let A = held true a (low C.p a s (Some r) r) in
      let reg = at true a r in
      let b : Code = does s (PutNumber reg) in
      let c = number s to (pos 0) in
      let gc = number_gives C s to r W1 (pos 0) (truth_lies false) in
      plain_gives C (both A (both b c)) to r (is_quiet a) W1 (ev C a s >>= (λ v. put_number v)) refl (λ x n o rest h d dc k regs t qd mt next.
      let o1 = goes A false o in
      let o2 = goes b false o1 in
      let h23 = second_has C A (both b c) x n o rest h in
      let h2 = first_has C b c x n o1 rest h23 in
      let h3 = second_has C b c x n o1 rest h23 in
      both_follows C A (both b c) x n o rest regs t _
      ((la.puts true s r le).by x o (items (both b c) x n o1 ++ rest) (first_has C A (both b c) x n o rest h) d dc (λ v. put_number v k) regs t qd mt (λ v regs1 u f st.
      let u2 : e.State = record u { out = u.out ++ signed_decimal v } in
      let m2 : Match C regs1 u2 = let m1 = f.match' in record { slots = m1.slots; room = m1.room; same = m1.same; lies = m1.lies; top = m1.top; aligned = m1.aligned; above = m1.above; depth = m1.depth } in
      let reg_is = st.by regs1 u (first_room C s (PutNumber reg) x onward o1 (items c x n o2 ++ rest) reg refl h2) (kept_all C (r + 1) regs1) f.match' (λ _. refl) in
      both_follows C b c x n o1 rest regs1 u _
      (does_follows C s (PutNumber reg) x onward o1 (items c x n o2 ++ rest) regs1 regs1 u u2 (signed_decimal v) _ h2 (number_acts reg u.base regs1 u.memory u.left ∙ ap (λ z. Does regs1 u.memory u.left (signed_decimal z)) reg_is) refl refl refl (λ bytes. bytes)
      (gc.by x n o2 rest h3 d dc k regs1 u2 f.budget m2 (λ z regs3 u3 f3. next z regs3 u3 (record { budget = f3.budget; match' = f3.match'; kept = kept_on C r r regs regs1 regs3 (omega arith) f.kept f3.kept; still = λ hq. f3.still refl ∙ f.still hq; lies = f3.lies }))))))))
