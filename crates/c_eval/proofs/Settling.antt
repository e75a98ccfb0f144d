-- The loops that settle a run and that answer it.
use Rattle.std.proofs.Common.{◌≡◌, ℕ, ◌<◌, ◌≤◌, ℤ, List, refl, sym, ap, ◌∙◌, subst, arith}
use Rattle.ib_base.specs.declared.integers.Width.TheVariants.{W4}
use Rattle.ib_base.specs.declared.outcome.Outcome.{Outcome}
use Rattle.ib_base.specs.declared.outcome.Outcome.TheVariants.{Ended, Faulted as FaultedAt, Spent}
use Rattle.ib_base.specs.Integers.{wrapped}
use Rattle.ib_base.specs.World.{World}
use Rattle.ib_meaning.specs.declared.place.Place.{Place}
use Rattle.ib_meaning.specs.declared.fault.FaultKind.{FaultKind}
use Rattle.ib_meaning.specs.Agreement.{Over as IsOver, Returned, Faulted}
use Rattle.ib_run.specs.OverHost.{OverHost}
use Rattle.ib_run.specs.Report.{report_of}
use Rattle.c_typed.specs.Program.{Program, place_of}
use Rattle.c_eval.specs.declared.frame.Ask.{Ask}
use Rattle.c_eval.specs.declared.frame.Ask.TheVariants.{GetByte, PutByte, PutNumber}
use Rattle.c_eval.specs.declared.frame.Halt.{Halt}
use Rattle.c_eval.specs.declared.frame.Halt.TheVariants as h
use Rattle.c_eval.specs.declared.frame.Move as code
use Rattle.c_eval.specs.declared.frame.Move.TheVariants as c
use Rattle.c_eval.specs.declared.frame.Pause.{Pause}
use Rattle.c_eval.specs.declared.frame.Pause.TheVariants.{Asks, Halts}
use Rattle.c_eval.specs.declared.frame.Task as code_task
use Rattle.c_eval.specs.declared.frame.Task.TheVariants.{Give}
use Rattle.c_eval.specs.declared.frame.Want.{Want}
use Rattle.c_eval.specs.Pending as p
use Rattle.c_eval.specs.Pending.{Machine, Frame}
use Rattle.c_eval.specs.Moves as moves
use Rattle.c_eval.specs.Outcomes.{comes_to}
use Rattle.c_eval.specs.Views.{ask_of, task_of, move_of}
use Rattle.c_eval.specs.Weights.{work}
use Rattle.c_eval.specs.Running.{Run, Answers, AnswersPart, move_run, pause_run, move_work, pause_work, Settles, Leads, LeadsPart}
use Rattle.c_eval.proofs.Advances.{advanced_less}
use Rattle.c_eval.proofs.Runs.{settles_next, settles_so, over_settled, over_answered, over_part, over_begun}

module _ (q : Program) (from : Run) (at : code.Move) (m : Machine) (settles : Settles from (move_run q (move_of at m))) where
  at_hand : (move : code.Move) → at ≡ move → Settles from (move_run q (move_of move m))
  at_hand move is = subst (λ a. Settles from (move_run q (move_of a m))) is settles

  pub settle_next : (task : code_task.Task) (next : code.Move) (after : Machine) → at ≡ c.Goes task → move_of next after ≡ moves.advanced q (task_of task) m → Settles from (move_run q (move_of next after))
  settle_next task next after is moved = settles_next q from (task_of task) m (move_of next after) moved (at_hand (c.Goes task) is)

  pub settled_asks : (ask : Ask) → at ≡ c.Asks ask → Settles from (pause_run q (Asks ask) m)
  settled_asks ask is = settles_so q from (pause_run q (Asks ask) m) (move_of (c.Asks ask) m) (λ n b left out. refl) (at_hand (c.Asks ask) is)

  pub settled_wants : (want : Want) (pause : Pause) → at ≡ c.Wants want → pause ≡ Halts (h.Wants want) → Settles from (pause_run q pause m)
  settled_wants want pause is paused =
      subst (λ r. Settles from (pause_run q r m)) (sym paused)
      (settles_so q from (pause_run q (Halts (h.Wants want)) m) (move_of (c.Wants want) m) (λ n b left out. refl) (at_hand (c.Wants want) is))

  over : (move : code.Move) (outcome : Outcome) (pause : Pause) → at ≡ move → pause ≡ Halts (h.Over outcome) → ((n b : ℕ) (left out : List ℕ) → comes_to q n b (move_of move m) left out ≡ report_of outcome out left) → Settles from (pause_run q pause m)
  over move outcome pause is paused so =
      subst (λ r. Settles from (pause_run q r m)) (sym paused) (settles_so q from (pause_run q (Halts (h.Over outcome)) m) (move_of move m) so (at_hand move is))

  pub settled_faults : (number : ℕ) (kind : FaultKind) (place : Place) (pause : Pause) → at ≡ c.Faults number kind → place ≡ place_of q number → pause ≡ Halts (h.Over (FaultedAt place kind)) → Settles from (pause_run q pause m)
  settled_faults number kind place pause is there paused =
      over (c.Faults number kind) (FaultedAt place kind) pause is paused (λ n b left out. ap (λ pl. IsOver (Faulted pl kind) out left) (sym there))

  pub settled_ends : (v u given result : ℤ) (pause : Pause) → at ≡ c.Ends v → u ≡ v → given ≡ wrapped W4 u → result ≡ given → pause ≡ Halts (h.Over (Ended result)) → Settles from (pause_run q pause m)
  settled_ends v u given result pause is same wraps gives paused =
      over (c.Ends v) (Ended result) pause is paused (λ n b left out. ap (λ r. IsOver (Returned r) out left) (ap (wrapped W4) (sym same) ∙ sym (gives ∙ wraps)))

  pub settled_stops : (pause : Pause) → at ≡ c.Stops → pause ≡ Halts (h.Over Spent) → Settles from (pause_run q pause m)
  settled_stops pause is paused = over c.Stops Spent pause is paused (λ n b left out. refl)

-- ---- how much there is to do

pub less_next : (q : Program) (at : code.Move) (task : code_task.Task) (next : code.Move) (m after : Machine) → at ≡ c.Goes task → move_of next after ≡ moves.advanced q (task_of task) m → move_work (move_of next after) < move_work (move_of at m)
less_next q at task next m after is moved =
    subst (λ a. move_work (move_of next after) < move_work (move_of a m)) (sym is) (advanced_less q task m (move_of next after) moved)

pub no_more : (q : Program) (at : code.Move) (task : code_task.Task) (next : code.Move) (m after : Machine) (most : ℕ) → at ≡ c.Goes task → move_of next after ≡ moves.advanced q (task_of task) m → move_work (move_of at m) ≤ most → move_work (move_of next after) ≤ most
no_more q at task next m after most is moved le = let less = less_next q at task next m after is moved in omega (arith, less, le)

pub asks_no_more : (at : code.Move) (ask : Ask) (m : Machine) (most : ℕ) → at ≡ c.Asks ask → move_work (move_of at m) ≤ most → pause_work (Asks ask) m ≤ most
asks_no_more at ask m most is le = subst (λ a. move_work (move_of a m) ≤ most) is le

pub halts_no_more : (halt : Halt) (pause : Pause) (m : Machine) (most : ℕ) → pause ≡ Halts halt → pause_work pause m ≤ most
halts_no_more halt pause m most is = subst (λ r. pause_work r m ≤ most) (sym is) (omega arith)

given_less : (ask : Ask) (v : ℤ) (frames : List Frame) → work (p.give v) frames < work (ask_of ask) frames
unfolding work
given_less GetByte v frames = omega arith
given_less (PutByte u) v frames = omega arith
given_less (PutNumber u) v frames = omega arith

pub answered_less : (ask : Ask) (pause : Pause) (v : ℤ) (next : code.Move) (m : Machine) (before : ℕ) → pause ≡ Asks ask → next ≡ c.Goes (Give v) → pause_work pause m ≤ before → move_work (move_of next m) < before
answered_less ask pause v next m before asks is le =
    let less = given_less ask v m.frames in
    let lighter : pause_work (Asks ask) m ≤ before = subst (λ r. pause_work r m ≤ before) asks le in
    subst (λ a. move_work (move_of a m) < before) (sym is) (omega (arith, less, lighter))

-- ---- over a host

module _ (q : Program) (from : Run) (at : code.Move) (m after : Machine) (w0 w1 : World) (leads : OverHost (Leads from (move_run q (move_of at m))) w0 w1) where
  asked : (pause : Pause) → Settles (move_run q (move_of at m)) (pause_run q pause after) → OverHost (Leads from (pause_run q pause after)) w0 w1
  asked pause settles = over_settled from (move_run q (move_of at m)) (pause_run q pause after) w0 w1 leads settles

  asking : (ask : Ask) (pause : Pause) → pause ≡ Asks ask → Settles (move_run q (move_of at m)) (pause_run q pause after) → OverHost (Leads from (pause_run q (Asks ask) after)) w0 w1
  asking ask pause asks settles = subst (λ r. OverHost (Leads from (pause_run q r after)) w0 w1) asks (asked pause settles)

  pub answered_next : (ask : Ask) (pause : Pause) (v u : ℤ) (next : code.Move) (w2 : World) → pause ≡ Asks ask → Settles (move_run q (move_of at m)) (pause_run q pause after) → OverHost (Answers ask v) w1 w2 → u ≡ v → next ≡ c.Goes (Give u) → OverHost (Leads from (move_run q (move_of next after))) w0 w2
  answered_next ask pause v u next w2 asks settles answers same is =
      subst (λ a. OverHost (Leads from (move_run q (move_of a after))) w0 w2) (sym (is ∙ ap (λ n. c.Goes (Give n)) same))
      (over_answered q from ask v after w0 w1 w2 (asking ask pause asks settles) answers)

  pub unanswered : (ask : Ask) (pause : Pause) (w2 : World) → pause ≡ Asks ask → Settles (move_run q (move_of at m)) (pause_run q pause after) → OverHost (AnswersPart ask) w1 w2 → OverHost (LeadsPart from) w0 w2
  unanswered ask pause w2 asks settles part = over_part q from ask after w0 w1 w2 (asking ask pause asks settles) part

  pub broken_off : OverHost (LeadsPart from) w0 w1
  broken_off = over_begun q from (move_of at m) w0 w1 leads
