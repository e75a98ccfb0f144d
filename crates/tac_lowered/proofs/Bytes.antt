-- Bytes that are read and printed.
use Rattle.std.proofs.Common.{◌≡◌, ℕ, ◌+◌, ◌%◌, ℤ, pos, negsuc, List, [], ◌∷◌, ◌++◌, true, false, refl, sym, ap, ◌∙◌, arith, Some, None, w32}
use Rattle.std.specs.Prelude.{slice_set, unsigned_abs}
use Rattle.std.proofs.lemmas.Int.{ints, int_wrap_fits}
use Rattle.std.proofs.lemmas.List.{append-nil}
use Rattle.ib_base.specs.declared.integers.Width.TheVariants.{W1, W4}
use Rattle.ib_base.specs.Integers.{wrapped}
use Rattle.ib_act.specs.declared.act.Act.TheVariants.{Get, PutByte, ExtByte}
use Rattle.c_meaning.specs.Doing as e
use Rattle.c_meaning.specs.Doing.{Step, Doing, put_byte, next_of}
use Rattle.c_typed.specs.Tree as t
use Rattle.c_typed.specs.Tree.{Exp}
use Rattle.tac_core.specs.Meaning.{Does, effect_of, reg_of, byte_of}
use Rattle.tac_lowered.specs.Bytes.{AreBytes, as_bytes}
use Rattle.tac_lowered.specs.Code.{Code, does, both}
use Rattle.tac_lowered.specs.Items.{goes, onward, closes, items}
use Rattle.tac_lowered.specs.Operators.{or_else}
use Rattle.tac_lowered.specs.Expressions.{low, held, at, is_quiet, width_in}
use Rattle.tac_lowered.proofs.Relation.{Spot, Lies, Match, Follows}
use Rattle.tac_lowered.proofs.Gives.{After, plain_gives, kept_all, wrote, sets_follows, does_follows, first_has, second_has, both_follows, first_room}
use Rattle.tac_lowered.proofs.Constructs.{Lowers, GivesOf, ev, up, plain_lowers}
use Rattle.tac_lowered.proofs.Widths.{wrapped_lies}

-- ---- inputs

-- more than a byte is cut to one
cut_to_byte : as_bytes (321 ∷ 10 ∷ []) ≡ 65 ∷ 10 ∷ []
cut_to_byte = refl

-- the numbers of an input that are taken as bytes are bytes
pub bytes_are : (input : List ℕ) → AreBytes (as_bytes input)
bytes_are [] = tt
bytes_are (x ∷ xs) = (omega arith, bytes_are xs)

-- and where they are bytes, they are the same
pub bytes_same : (input : List ℕ) → AreBytes input → as_bytes input ≡ input
bytes_same [] h = refl
bytes_same (x ∷ xs) h = let e : x % 256 ≡ x = let lt = h.0 in omega (arith, lt) in ap (λ y. y ∷ as_bytes xs) e ∙ ap (λ ys. x ∷ ys) (bytes_same xs h.1)

still_bytes : (left : List ℕ) → AreBytes left → AreBytes (e.behind left)
still_bytes [] h = tt
still_bytes (x ∷ xs) h = h.1

next_lies : (left : List ℕ) → AreBytes left → Lies W4 (next_of left)
next_lies [] h = int_wrap_fits w32 (negsuc 0) (omega (arith, ints))
next_lies (x ∷ xs) h = int_wrap_fits w32 (pos x) (let lt = h.0 in omega (arith, ints, lt))

-- ---- operations

get_acts : (to base : ℕ) (regs : List ℤ) (memory left : List ℕ) → effect_of (Get to) base regs memory left ≡ Does (slice_set regs to (next_of left)) memory (e.behind left) []
unfolding effect_of
get_acts to base regs memory [] = refl
get_acts to base regs memory (x ∷ left) = refl

byte_acts : (j base : ℕ) (regs : List ℤ) (memory left : List ℕ) → effect_of (PutByte j) base regs memory left ≡ Does regs memory left (byte_of (reg_of regs j) ∷ [])
unfolding effect_of
byte_acts j base regs memory left = refl

ext_acts : (to j base : ℕ) (regs : List ℤ) (memory left : List ℕ) → effect_of (ExtByte to j) base regs memory left ≡ Does (slice_set regs to (wrapped W1 (reg_of regs j))) memory left []
unfolding effect_of
ext_acts to j base regs memory left = refl

module _ (C : Spot) where
  taken_match : (regs : List ℤ) (u : e.State) → Match C regs u → Match C regs (record u { left = e.behind u.left })
  taken_match regs u m = record { slots = m.slots; room = m.room; same = m.same; lies = m.lies; top = m.top; aligned = m.aligned; above = m.above; depth = m.depth }

  pub get_byte_lowers : Lowers C t.get_byte
  get_byte_lowers = plain_lowers C t.get_byte refl refl (λ s to r le.
      plain_gives C (does s (Get (or_else to r))) to r true W4 (ev C t.get_byte s) refl (λ lp n p rest h d dc k regs t qd mt next.
      let v = next_of t.left in
      let u : e.State = record t { left = e.behind t.left } in
      let follows : AreBytes t.left → Follows C p (items (does s (Get (or_else to r))) lp n p ++ rest) regs t (k v u) = λ bytes.
      let f : After C r true W4 d regs t v regs u = record { budget = qd; match' = taken_match regs t mt; kept = kept_all C r regs; still = λ _. refl; lies = next_lies t.left bytes } in
      does_follows C s (Get (or_else to r)) lp n p rest regs (slice_set regs (or_else to r) v) t u [] (k v u) h (get_acts (or_else to r) t.base regs t.memory t.left) refl (sym (append-nil t.out)) refl (λ bytes. still_bytes t.left bytes)
      (wrote C to r true W4 d n (goes (does s (Get (or_else to r))) (closes n) p) rest k regs t v regs u (up C r le) f next) in
      record { by = λ bytes. (follows bytes).by bytes }))

  pub put_byte_lowers : (a : Exp) → Lowers C a → Lowers C (t.put_byte a)
  put_byte_lowers a la = plain_lowers C (t.put_byte a) refl refl gives'
    where
      printed_match : (v : ℤ) (regs : List ℤ) (u : e.State) → Match C regs u → Match C regs (record u { out = u.out ++ (unsigned_abs (wrapped W1 v) ∷ []) })
      printed_match v regs u m = record { slots = m.slots; room = m.room; same = m.same; lies = m.lies; top = m.top; aligned = m.aligned; above = m.above; depth = m.depth }

      printed_after : (r d : ℕ) (regs : List ℤ) (t : e.State) (v : ℤ) (regs1 : List ℤ) (u : e.State) → After C r (is_quiet a) (width_in a) d regs t v regs1 u → After C r (is_quiet a) W1 d regs t (wrapped W1 v) regs1 (record u { out = u.out ++ (unsigned_abs (wrapped W1 v) ∷ []) })
      printed_after r d regs t v regs1 u f = record { budget = f.budget; match' = printed_match v regs1 u f.match'; kept = f.kept; still = f.still; lies = wrapped_lies W1 v }

      gives' : GivesOf C (t.put_byte a)
      gives' s None r le =
          let j = at true a r in
          let X = held true a (low C.p a s (Some r) r) in
          let B : Code = does s (PutByte j) in
          plain_gives C (both X B) None r (is_quiet a) W1 (ev C (t.put_byte a) s) refl (λ lp n p rest h d dc k regs t qd mt next.
          let p1 = goes X false p in
          let h1 = second_has C X B lp n p rest h in
          let room_j = first_room C s (PutByte j) lp n p1 rest j refl h1 in
          both_follows C X B lp n p rest regs t _
          ((la.puts true s r le).by lp p (items B lp n p1 ++ rest) (first_has C X B lp n p rest h) d dc (λ v. put_byte v k) regs t qd mt (λ v regs1 u f st.
          let u2 : e.State = record u { out = u.out ++ (unsigned_abs (wrapped W1 v) ∷ []) } in
          let ej = st.by regs1 u room_j (kept_all C (r + 1) regs1) f.match' (λ _. refl) in
          does_follows C s (PutByte j) lp n p1 rest regs1 regs1 u u2 (unsigned_abs (wrapped W1 v) ∷ []) (k (wrapped W1 v) u2) h1 (byte_acts j u.base regs1 u.memory u.left ∙ ap (λ z. Does regs1 u.memory u.left (byte_of z ∷ [])) ej) refl refl refl (λ bytes. bytes)
          (next (wrapped W1 v) regs1 u2 (printed_after r d regs t v regs1 u f)))))
      gives' s (Some to) r le =
          let j = at true a r in
          let X = held true a (low C.p a s (Some r) r) in
          let B : Code = does s (PutByte j) in
          let E : Code = does s (ExtByte to j) in
          plain_gives C (both X (both B E)) (Some to) r (is_quiet a) W1 (ev C (t.put_byte a) s) refl (λ lp n p rest h d dc k regs t qd mt next.
          let p1 = goes X false p in
          let p2 = goes B false p1 in
          let h1 = second_has C X (both B E) lp n p rest h in
          let hB = first_has C B E lp n p1 rest h1 in
          let hE = second_has C B E lp n p1 rest h1 in
          let room_j = first_room C s (PutByte j) lp onward p1 (items E lp n p2 ++ rest) j refl hB in
          both_follows C X (both B E) lp n p rest regs t _
          ((la.puts true s r le).by lp p (items (both B E) lp n p1 ++ rest) (first_has C X (both B E) lp n p rest h) d dc (λ v. put_byte v k) regs t qd mt (λ v regs1 u f st.
          let u2 : e.State = record u { out = u.out ++ (unsigned_abs (wrapped W1 v) ∷ []) } in
          let w = wrapped W1 v in
          let ej = st.by regs1 u room_j (kept_all C (r + 1) regs1) f.match' (λ _. refl) in
          both_follows C B E lp n p1 rest regs1 u _
          (does_follows C s (PutByte j) lp onward p1 (items E lp n p2 ++ rest) regs1 regs1 u u2 (unsigned_abs (wrapped W1 v) ∷ []) (k w u2) hB (byte_acts j u.base regs1 u.memory u.left ∙ ap (λ z. Does regs1 u.memory u.left (byte_of z ∷ [])) ej) refl refl refl (λ bytes. bytes)
          (sets_follows C s (ExtByte to j) lp n p2 rest regs1 (slice_set regs1 to w) u2 (k w u2) hE (ext_acts to j u.base regs1 u.memory u.left ∙ ap (λ z. Does (slice_set regs1 to (wrapped W1 z)) u.memory u.left []) ej)
          (next w regs1 u2 (printed_after r d regs t v regs1 u f)))))))
