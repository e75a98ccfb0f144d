-- A run goes on from what was printed.
use Rattle.std.proofs.Common.{◌≡◌, ℕ, zero, suc, ◌+◌, ◌<◌, ◌≤◌, ℤ, pos, List, [], ◌∷◌, ◌++◌, refl, sym, ◌∙◌, subst, arith, append_assoc}
use Rattle.std.proofs.lemmas.List.{append-nil}
use Rattle.std.specs.Prelude.{slice_get, unsigned_abs}
use Rattle.std.specs.Fmt.{signed_decimal}
use Rattle.ib_base.specs.declared.integers.Width.TheVariants.{W1}
use Rattle.ib_base.specs.Integers.{wrapped}
use Rattle.ib_meaning.specs.Agreement.{Report, IsPrefix, out_of}
use Rattle.c_typed.specs.Program.{Program}
use Rattle.c_meaning.specs.Doing.{next_of, behind}
use Rattle.c_eval.specs.Pending as p
use Rattle.c_eval.specs.Pending.{Task, Machine, Move, Goes, Faults, Ends, Stops}
use Rattle.c_eval.specs.Moves as moves
use Rattle.c_eval.specs.Weights.{work, Lightens}
use Rattle.c_eval.specs.Outcomes.{outcome, comes_to, doing}
use Rattle.c_eval.proofs.Keeping.{eval_kept, give_kept, pass_kept_by, exec_kept, leave_kept, turn_kept, call_kept, turn_spent, call_spent}
use Rattle.c_eval.proofs.Lightening.{eval_less, give_less, pass_less_by, exec_less, leave_less}

abbrev Begins : List ℕ → Report → Type 0
Begins out report = IsPrefix out (out_of report)

whole : (out : List ℕ) → IsPrefix out out
whole out = ([], append-nil out)

begins_more : (out more : List ℕ) (report : Report) → Begins (out ++ more) report → Begins out report
begins_more out more report h = (more ++ h.0, sym (append_assoc out more h.0) ∙ h.1)

pub get_kept : (q : Program) (n b : ℕ) (m : Machine) (left out : List ℕ) → outcome q n b p.get_byte m left out ≡ outcome q n b (p.give (next_of left)) m (behind left) out
unfolding outcome doing
get_kept q n b m left out = refl

pub put_byte_kept : (q : Program) (n b : ℕ) (v : ℤ) (m : Machine) (left out : List ℕ) → outcome q n b (p.put_byte_of v) m left out ≡ outcome q n b (p.give (wrapped W1 v)) m left (out ++ unsigned_abs (wrapped W1 v) ∷ [])
unfolding outcome doing
put_byte_kept q n b v m left out = refl

pub put_number_kept : (q : Program) (n b : ℕ) (v : ℤ) (m : Machine) (left out : List ℕ) → outcome q n b (p.put_number_of v) m left out ≡ outcome q n b (p.give (pos 0)) m left (out ++ signed_decimal v)
unfolding outcome doing
put_number_kept q n b v m left out = refl

get_less : (m : Machine) (w : ℕ) → work p.get_byte m.frames < suc w → (v : ℤ) → work (p.give v) m.frames < w
unfolding work
get_less m w less v = omega arith

put_less : (u : ℤ) (m : Machine) (w : ℕ) → work (p.put_byte_of u) m.frames < suc w → (v : ℤ) → work (p.give v) m.frames < w
unfolding work
put_less u m w less v = omega arith

number_less : (u : ℤ) (m : Machine) (w : ℕ) → work (p.put_number_of u) m.frames < suc w → (v : ℤ) → work (p.give v) m.frames < w
unfolding work
number_less u m w less v = omega arith

module _ (q : Program) (n : ℕ) where
  -- of what has less to do than this
  abbrev Extends : (b w : ℕ) → Type 0
  Extends b w = (task : Task) (m : Machine) (left out : List ℕ) → work task m.frames < w → Begins out (outcome q n b task m left out)

  comes : (b w : ℕ) → Extends b w → (move : Move) (before : ℕ) (left out : List ℕ) → Lightens before move → before ≤ w → Begins out (comes_to q n b move left out)
  comes b w rest (Goes task m) before left out light le = rest task m left out (omega arith)
  comes b w rest (Faults s kind) before left out light le = whole out
  comes b w rest (Ends v) before left out light le = whole out
  comes b w rest Stops before left out light le = whole out

  behind_unit : (b : ℕ) → ((w : ℕ) → Extends b w) → (move : Move) (left out : List ℕ) → Begins out (comes_to q n b move left out)
  behind_unit b rest (Goes task m) left out = rest (suc (work task m.frames)) task m left out (omega arith)
  behind_unit b rest (Faults s kind) left out = whole out
  behind_unit b rest (Ends v) left out = whole out
  behind_unit b rest Stops left out = whole out

  -- by the units that are left, and then by what there is to do
  extends : (b w : ℕ) → b < n → Extends b w
  extends b zero lt task m left out less = absurd (omega arith)
  extends b (suc w) lt (p.eval e s) m left out less =
      subst (Begins out) (sym (eval_kept q n b left out lt e s m)) (comes b w (extends b w lt) (moves.eval q e s m) (work (p.eval e s) m.frames) left out (eval_less q e s m) (omega arith))
  extends b (suc w) lt (p.give v) m left out less =
      subst (Begins out) (sym (give_kept q n b left out lt v m)) (comes b w (extends b w lt) (moves.give q v m.frames m) (work (p.give v) m.frames) left out (give_less q v m) (omega arith))
  extends b (suc w) lt p.pass m left out less =
      subst (Begins out) (sym (pass_kept_by q n b left out lt m)) (comes b w (extends b w lt) (moves.pass m.frames m) (work p.pass m.frames) left out (pass_less_by m) (omega arith))
  extends b (suc w) lt (p.exec a) m left out less =
      subst (Begins out) (sym (exec_kept q n b left out lt a m)) (comes b w (extends b w lt) (moves.exec a m) (work (p.exec a) m.frames) left out (exec_less a m) (omega arith))
  extends b (suc w) lt (p.leave exit) m left out less =
      subst (Begins out) (sym (leave_kept q n b left out lt exit m)) (comes b w (extends b w lt) (moves.leave exit m.frames m) (work (p.leave exit) m.frames) left out (leave_less exit m) (omega arith))
  extends b (suc w) lt p.get_byte m left out less =
      subst (Begins out) (sym (get_kept q n b m left out)) (extends b w lt (p.give (next_of left)) m (behind left) out (get_less m w less (next_of left)))
  extends b (suc w) lt (p.put_byte_of v) m left out less =
      subst (Begins out) (sym (put_byte_kept q n b v m left out))
      (begins_more out (unsigned_abs (wrapped W1 v) ∷ []) (outcome q n b (p.give (wrapped W1 v)) m left (out ++ unsigned_abs (wrapped W1 v) ∷ [])) (extends b w lt (p.give (wrapped W1 v)) m left (out ++ unsigned_abs (wrapped W1 v) ∷ []) (put_less v m w less (wrapped W1 v))))
  extends b (suc w) lt (p.put_number_of v) m left out less =
      subst (Begins out) (sym (put_number_kept q n b v m left out))
      (begins_more out (signed_decimal v) (outcome q n b (p.give (pos 0)) m left (out ++ signed_decimal v)) (extends b w lt (p.give (pos 0)) m left (out ++ signed_decimal v) (number_less v m w less (pos 0))))
  extends zero (suc w) lt (p.turn a) m left out less = subst (Begins out) (sym (turn_spent q n a m left out)) (whole out)
  extends (suc b) (suc w) lt (p.turn a) m left out less =
      let low : b < n = omega arith in
      subst (Begins out) (sym (turn_kept q n b left out a m)) (behind_unit b (λ v. extends b v low) (moves.turned a m) left out)
  extends zero (suc w) lt (p.call f s) m left out less = subst (Begins out) (sym (call_spent q n lt f s m left out)) (whole out)
  extends (suc b) (suc w) lt (p.call f s) m left out less =
      let low : b < n = omega arith in
      let next : b + 1 < n = omega arith in
      subst (Begins out) (sym (call_kept q n b left out next f s m)) (behind_unit b (λ v. extends b v low) (moves.called (slice_get q.functions f) s m) left out)

  -- what was printed before begins what a move comes to
  pub move_begins : (b : ℕ) (move : Move) (left out : List ℕ) → b < n → IsPrefix out (out_of (comes_to q n b move left out))
  move_begins b move left out lt = behind_unit b (λ w. extends b w lt) move left out
