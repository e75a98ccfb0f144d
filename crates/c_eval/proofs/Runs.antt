-- How a run over a host goes on, one thing after the other, and how it comes out.
use Rattle.std.proofs.Common.{◌≡◌, ℕ, suc, ◌+◌, ◌-◌, ◌<◌, ◌≤◌, ℤ, List, [], ◌++◌, refl, sym, ap, ◌∙◌, subst, arith, append_assoc}
use Rattle.std.proofs.lemmas.List.{append-nil}
use Rattle.ib_base.specs.declared.outcome.Outcome.{Outcome}
use Rattle.ib_base.specs.declared.outcome.Outcome.TheVariants.{Spent}
use Rattle.ib_base.specs.World.{World}
use Rattle.ib_meaning.specs.Agreement.{Report, IsPrefix, out_of}
use Rattle.ib_meaning.proofs.Agreement.{prefix_trans}
use Rattle.ib_run.specs.OverHost.{OverHost}
use Rattle.ib_run.specs.Report.{report_of}
use Rattle.ib_run.proofs.OverHost.{over_none, over_join, over_weaken}
use Rattle.c_typed.specs.Program.{Program}
use Rattle.c_typed.specs.Views.{stmt_of}
use Rattle.c_meaning.specs.Meaning.{source_meaning}
use Rattle.c_eval.specs.declared.frame.Ask.{Ask}
use Rattle.c_eval.specs.declared.frame.Ask.TheVariants.{GetByte, PutByte, PutNumber}
use Rattle.c_eval.specs.declared.frame.Halt.TheVariants.{Wants, Over}
use Rattle.c_eval.specs.declared.frame.Pause.TheVariants.{Asks}
use Rattle.c_eval.specs.declared.frame.Want.{Want}
use Rattle.c_eval.specs.declared.frame.Want.TheVariants as w
use Rattle.c_eval.specs.Pending as p
use Rattle.c_eval.specs.Pending.{Task, Machine, Move, Goes}
use Rattle.c_eval.specs.Moves as moves
use Rattle.c_eval.specs.Outcomes.{outcome, comes_to}
use Rattle.c_eval.specs.Views.{ask_of, want_of, turns_in}
use Rattle.c_eval.specs.Running.{Run, MeansSo, Begins, Answers, AnswersPart, printed_for, move_run, halt_run, pause_run, Settles, Leads, LeadsBehind, LeadsPart, LeadsPartBehind, Stands, Came, CameBegun}
use Rattle.c_eval.proofs.Advances.{advanced_kept, unit_kept}
use Rattle.c_eval.proofs.Extends.{get_kept, put_byte_kept, put_number_kept, move_begins}
use Rattle.c_eval.proofs.Keeping.{turn_spent, call_spent, started_means}

-- ---- without a host

pub settles_none : (from : Run) → Settles from from
settles_none from = record { same = λ n b lt left out. refl }

pub settles_next : (q : Program) (from : Run) (task : Task) (m : Machine) (next : Move) → next ≡ moves.advanced q task m → Settles from (move_run q (Goes task m)) → Settles from (move_run q next)
unfolding move_run
settles_next q from task m next is settles = record {
  same = λ n b lt left out. settles.same n b lt left out ∙ advanced_kept q n b left out lt task m ∙ ap (λ move. comes_to q n b move left out) (sym is);
}

pub settles_so : (q : Program) (from to : Run) (move : Move) → ((n b : ℕ) (left out : List ℕ) → comes_to q n b move left out ≡ to n b left out) → Settles from (move_run q move) → Settles from to
unfolding move_run
settles_so q from to move is settles = record { same = λ n b lt left out. settles.same n b lt left out ∙ is n b left out }

-- ---- over a host

leads_none : (from : Run) (left : List ℕ) → Leads from from left left []
leads_none from left = record { same = λ n b lt printed. ap (from n b left) (sym (append-nil printed)) }

pub over_leads_none : (from : Run) (w : World) → OverHost (Leads from from) w w
over_leads_none from w = over_none (Leads from from) (leads_none from) w

pub over_settled : (a b c : Run) (w0 w1 : World) → OverHost (Leads a b) w0 w1 → Settles b c → OverHost (Leads a c) w0 w1
over_settled a b c w0 w1 leads settles =
    over_weaken (Leads a b) (Leads a c) w0 w1 leads
    (λ input left out h. record { same = λ n budget lt printed. h.same n budget lt printed ∙ settles.same n budget lt left (printed ++ out) })

given_same : (q : Program) (n b : ℕ) (m : Machine) (v u : ℤ) (left rest out more : List ℕ) → v ≡ u → left ≡ rest → out ≡ more → outcome q n b (p.give v) m left out ≡ outcome q n b (p.give u) m rest more
given_same q n b m v u left rest out more e f g = cc

unprinted : (printed out : List ℕ) → out ≡ [] → printed ≡ printed ++ out
unprinted printed out none = sym (ap (λ o. printed ++ o) none ∙ append-nil printed)

answer_same : (q : Program) (n b : ℕ) (ask : Ask) (v : ℤ) (m : Machine) (input left out printed : List ℕ) → Answers ask v input left out → outcome q n b (ask_of ask) m input printed ≡ outcome q n b (p.give v) m left (printed ++ out)
answer_same q n b GetByte v m input left out printed h =
    get_kept q n b m input printed ∙ given_same q n b m _ v _ left printed (printed ++ out) (sym h.0) (sym h.1) (unprinted printed out h.2)
answer_same q n b (PutByte u) v m input left out printed h =
    put_byte_kept q n b u m input printed ∙ given_same q n b m _ v input left _ (printed ++ out) (sym h.0) h.1 (ap (λ o. printed ++ o) (sym h.2))
answer_same q n b (PutNumber u) v m input left out printed h =
    put_number_kept q n b u m input printed ∙ given_same q n b m _ v input left _ (printed ++ out) (sym h.0) h.1 (ap (λ o. printed ++ o) (sym h.2))

pub over_answered : (q : Program) (a : Run) (ask : Ask) (v : ℤ) (m : Machine) (w0 w1 w2 : World) → OverHost (Leads a (pause_run q (Asks ask) m)) w0 w1 → OverHost (Answers ask v) w1 w2 → OverHost (Leads a (move_run q (Goes (p.give v) m))) w0 w2
unfolding move_run
over_answered q a ask v m w0 w1 w2 leads answers =
    over_join (Leads a (pause_run q (Asks ask) m)) (Answers ask v) (Leads a (move_run q (Goes (p.give v) m))) w0 w1 w2 leads answers
    (λ input rest left out more h answer. record {
      same = λ n b lt printed.
          h.same n b lt printed ∙ answer_same q n b ask v m rest left more (printed ++ out) answer
          ∙ ap (λ o. outcome q n b (p.give v) m left o) (append_assoc printed out more);
    })

begins_less : (o part whole : List ℕ) (report : Report) → IsPrefix part whole → IsPrefix (o ++ whole) (out_of report) → IsPrefix (o ++ part) (out_of report)
begins_less o part whole report h begins = prefix_trans (o ++ part) (o ++ whole) (out_of report) (h.0, append_assoc o part h.0 ∙ ap (λ l. o ++ l) h.1) begins

ask_begins : (q : Program) (n b : ℕ) → b < n → (ask : Ask) (m : Machine) (left o : List ℕ) → IsPrefix (o ++ printed_for ask) (out_of (outcome q n b (ask_of ask) m left o))
ask_begins q n b lt GetByte m left o =
    subst (λ l. IsPrefix l (out_of (outcome q n b p.get_byte m left o))) (sym (append-nil o)) (move_begins q n b (Goes p.get_byte m) left o lt)
ask_begins q n b lt (PutByte u) m left o =
    subst (λ r. IsPrefix (o ++ printed_for (PutByte u)) (out_of r)) (sym (put_byte_kept q n b u m left o)) (move_begins q n b (Goes (p.give _) m) left (o ++ printed_for (PutByte u)) lt)
ask_begins q n b lt (PutNumber u) m left o =
    subst (λ r. IsPrefix (o ++ printed_for (PutNumber u)) (out_of r)) (sym (put_number_kept q n b u m left o)) (move_begins q n b (Goes (p.give _) m) left (o ++ printed_for (PutNumber u)) lt)

-- a beginning of what the next thing prints, behind what was printed
begins_behind : (before after : Report) (printed out more : List ℕ) → before ≡ after → IsPrefix ((printed ++ out) ++ more) (out_of after) → IsPrefix (printed ++ (out ++ more)) (out_of before)
begins_behind before after printed out more same begins =
    subst (λ l. IsPrefix l (out_of before)) (append_assoc printed out more) (subst (λ r. IsPrefix ((printed ++ out) ++ more) (out_of r)) (sym same) begins)

pub over_part : (q : Program) (a : Run) (ask : Ask) (m : Machine) (w0 w1 w2 : World) → OverHost (Leads a (pause_run q (Asks ask) m)) w0 w1 → OverHost (AnswersPart ask) w1 w2 → OverHost (LeadsPart a) w0 w2
over_part q a ask m w0 w1 w2 leads part =
    over_join (Leads a (pause_run q (Asks ask) m)) (AnswersPart ask) (LeadsPart a) w0 w1 w2 leads part
    (λ input rest left out more h answer. record {
      begins = λ n b lt printed.
          begins_behind (a n b input printed) (outcome q n b (ask_of ask) m rest (printed ++ out)) printed out more (h.same n b lt printed)
          (begins_less (printed ++ out) more (printed_for ask) (outcome q n b (ask_of ask) m rest (printed ++ out)) answer.1 (ask_begins q n b lt ask m rest (printed ++ out)));
    })

-- where a run breaks off behind a move, what was printed begins an output
pub over_begun : (q : Program) (a : Run) (move : Move) (w0 w1 : World) → OverHost (Leads a (move_run q move)) w0 w1 → OverHost (LeadsPart a) w0 w1
unfolding move_run
over_begun q a move w0 w1 leads =
    over_weaken (Leads a (move_run q move)) (LeadsPart a) w0 w1 leads
    (λ input left out h. record {
      begins = λ n b lt printed.
          subst (λ r. IsPrefix (printed ++ out) (out_of r)) (sym (h.same n b lt printed)) (move_begins q n b move left (printed ++ out) lt);
    })

-- ---- a unit of the budget

pub over_behind : (q : Program) (want : Want) (m : Machine) (next : Move) (to : Run) (w0 w1 : World) → next ≡ moves.unit_spent q (want_of want) m → OverHost (Leads (move_run q next) to) w0 w1 → OverHost (LeadsBehind (halt_run q (Wants want) m) to) w0 w1
unfolding move_run
over_behind q want m next to w0 w1 is leads =
    over_weaken (Leads (move_run q next) to) (LeadsBehind (halt_run q (Wants want) m) to) w0 w1 leads
    (λ input left out h. record {
      same = λ n b lt printed.
          let low : b < n = omega arith in
          unit_kept q n b input printed lt want m ∙ ap (λ move. comes_to q n b move input printed) (sym is) ∙ h.same n b low printed;
    })

pub over_part_behind : (q : Program) (want : Want) (m : Machine) (next : Move) (w0 w1 : World) → next ≡ moves.unit_spent q (want_of want) m → OverHost (LeadsPart (move_run q next)) w0 w1 → OverHost (LeadsPartBehind (halt_run q (Wants want) m)) w0 w1
unfolding move_run
over_part_behind q want m next w0 w1 is part =
    over_weaken (LeadsPart (move_run q next)) (LeadsPartBehind (halt_run q (Wants want) m)) w0 w1 part
    (λ input left out h. record {
      begins = λ n b lt printed.
          let low : b < n = omega arith in
          subst (λ r. IsPrefix (printed ++ out) (out_of r)) (sym (unit_kept q n b input printed lt want m ∙ ap (λ move. comes_to q n b move input printed) (sym is))) (h.begins n b low printed);
    })

pub nothing_behind : (q : Program) (want : Want) (m : Machine) (w : World) → OverHost (LeadsPartBehind (halt_run q (Wants want) m)) w w
nothing_behind q want m w =
    over_none (LeadsPartBehind (halt_run q (Wants want) m))
    (λ left. record {
      begins = λ n b lt printed.
          let low : suc b < n = omega arith in
          subst (λ l. IsPrefix l (out_of (outcome q n (suc b) (want_of want) m left printed))) (sym (append-nil printed)) (move_begins q n (suc b) (Goes (want_of want) m) left printed low);
    }) w

-- ---- the budget

pub stands_first : (from to : Run) (budget : ℕ) (w0 w1 : World) → OverHost (Leads from to) w0 w1 → OverHost (Stands from to budget 0) w0 w1
stands_first from to budget w0 w1 leads =
    over_weaken (Leads from to) (Stands from to budget 0) w0 w1 leads
    (λ input left out h. record {
      same = λ b is.
          let here : b ≡ budget = omega (arith, is) in
          let low : budget < suc budget = omega arith in
          h.same (suc budget) budget low [] ∙ ap (λ c. to (suc budget) c left out) (sym here);
    })

pub stands_next : (from to onward : Run) (budget spent : ℕ) (w0 w1 w2 : World) → OverHost (Stands from to budget spent) w0 w1 → OverHost (LeadsBehind to onward) w1 w2 → OverHost (Stands from onward budget (spent + 1)) w0 w2
stands_next from to onward budget spent w0 w1 w2 stands leads =
    over_join (Stands from to budget spent) (LeadsBehind to onward) (Stands from onward budget (spent + 1)) w0 w1 w2 stands leads
    (λ input rest left out more h g. record {
      same = λ b is.
          let here : suc b + spent ≡ budget = omega (arith, is) in
          let low : b + 1 < suc budget = omega (arith, is) in
          h.same (suc b) here ∙ g.same (suc budget) b low out;
    })

pub came_over : (q : Program) (from : Run) (outcome : Outcome) (m : Machine) (budget spent : ℕ) (w0 w1 : World) → spent ≤ budget → OverHost (Stands from (halt_run q (Over outcome) m) budget spent) w0 w1 → OverHost (Came from budget outcome) w0 w1
came_over q from outcome m budget spent w0 w1 le stands =
    over_weaken (Stands from (halt_run q (Over outcome) m) budget spent) (Came from budget outcome) w0 w1 stands
    (λ input left out h. let here : (budget - spent) + spent ≡ budget = omega (arith, le) in record { same = h.same (budget - spent) here })

wants_spent : (q : Program) (n : ℕ) → 0 < n → (want : Want) (m : Machine) (left out : List ℕ) → outcome q n 0 (want_of want) m left out ≡ report_of Spent out left
wants_spent q n lt (w.Call f s) m left out = call_spent q n lt f s m left out
wants_spent q n lt (w.Turn stmt) m left out = turn_spent q n (turns_in (stmt_of stmt.now)) m left out

pub came_spent : (q : Program) (from : Run) (want : Want) (m : Machine) (budget : ℕ) (w0 w1 : World) → OverHost (Stands from (halt_run q (Wants want) m) budget budget) w0 w1 → OverHost (Came from budget Spent) w0 w1
came_spent q from want m budget w0 w1 stands =
    over_weaken (Stands from (halt_run q (Wants want) m) budget budget) (Came from budget Spent) w0 w1 stands
    (λ input left out h.
    let none : 0 + budget ≡ budget = omega arith in
    let low : 0 < suc budget = omega arith in
    record { same = h.same 0 none ∙ wants_spent q (suc budget) low want m left out })

pub begun_first : (from : Run) (budget : ℕ) (w0 w1 : World) → OverHost (LeadsPart from) w0 w1 → OverHost (CameBegun from budget) w0 w1
begun_first from budget w0 w1 part =
    over_weaken (LeadsPart from) (CameBegun from budget) w0 w1 part
    (λ input left out h. let low : budget < suc budget = omega arith in record { begins = h.begins (suc budget) budget low [] })

pub begun_next : (from to : Run) (budget spent : ℕ) (w0 w1 w2 : World) → spent < budget → OverHost (Stands from to budget spent) w0 w1 → OverHost (LeadsPartBehind to) w1 w2 → OverHost (CameBegun from budget) w0 w2
begun_next from to budget spent w0 w1 w2 lt stands part =
    over_join (Stands from to budget spent) (LeadsPartBehind to) (CameBegun from budget) w0 w1 w2 stands part
    (λ input rest left out more h g.
    let b : ℕ = budget - suc spent in
    let here : suc b + spent ≡ budget = omega (arith, lt) in
    let low : b + 1 < suc budget = omega (arith, lt) in
    record { begins = subst (λ r. IsPrefix (out ++ more) (out_of r)) (sym (h.same (suc b) here)) (g.begins (suc budget) b low out) })

-- ---- the whole run

started_so : (q : Program) (budget : ℕ) (first : Move) (input : List ℕ) → first ≡ moves.started q → source_meaning q input budget ≡ move_run q first (suc budget) budget input []
unfolding move_run
started_so q budget first input is = started_means q input budget ∙ ap (λ move. comes_to q (suc budget) budget move input []) (sym is)

pub means_so : (q : Program) (budget : ℕ) (first : Move) (outcome : Outcome) (w0 w1 : World) → first ≡ moves.started q → OverHost (Came (move_run q first) budget outcome) w0 w1 → OverHost (MeansSo q budget outcome) w0 w1
means_so q budget first outcome w0 w1 is came =
    over_weaken (Came (move_run q first) budget outcome) (MeansSo q budget outcome) w0 w1 came
    (λ input left out h. started_so q budget first input is ∙ h.same)

pub begins_so : (q : Program) (budget : ℕ) (first : Move) (w0 w1 : World) → first ≡ moves.started q → OverHost (CameBegun (move_run q first) budget) w0 w1 → OverHost (Begins q budget) w0 w1
begins_so q budget first w0 w1 is begun =
    over_weaken (CameBegun (move_run q first) budget) (Begins q budget) w0 w1 begun
    (λ input left out h. subst (λ r. IsPrefix out (out_of r)) (sym (started_so q budget first input is)) h.begins)

pub nothing_begins : (q : Program) (budget : ℕ) (w : World) → OverHost (Begins q budget) w w
nothing_begins q budget w = over_none (Begins q budget) (λ input. (out_of (source_meaning q input budget), refl)) w
