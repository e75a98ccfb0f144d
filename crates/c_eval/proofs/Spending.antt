-- The loop that spends the budget.
use Rattle.std.proofs.Common.{◌≡◌, ℕ, ◌+◌, ◌<◌, ◌≤◌, subst}
use Rattle.ib_base.specs.declared.outcome.Outcome.{Outcome}
use Rattle.ib_base.specs.declared.outcome.Outcome.TheVariants.{Spent}
use Rattle.ib_base.specs.World.{World}
use Rattle.ib_run.specs.OverHost.{OverHost}
use Rattle.c_typed.specs.Program.{Program}
use Rattle.c_eval.specs.declared.frame.Halt.{Halt}
use Rattle.c_eval.specs.declared.frame.Halt.TheVariants.{Wants, Over}
use Rattle.c_eval.specs.declared.frame.Want.{Want}
use Rattle.c_eval.specs.Pending.{Machine, Move}
use Rattle.c_eval.specs.Running.{Run, move_run, halt_run, Leads, LeadsBehind, LeadsPartBehind, Stands, Came, CameBegun}
use Rattle.c_eval.proofs.Runs.{stands_first, stands_next, came_over, came_spent, begun_next}

module _ (q : Program) (first : Move) (budget : ℕ) where
  abbrev from : Run
  from = move_run q first

  pub unspent : (at : Halt) (m : Machine) (w0 w1 : World) → OverHost (Leads from (halt_run q at m)) w0 w1 → OverHost (Stands from (halt_run q at m) budget 0) w0 w1
  unspent at m w0 w1 leads = stands_first from (halt_run q at m) budget w0 w1 leads

  module _ (spent : ℕ) (at : Halt) (m : Machine) (w0 w1 : World) (stands : OverHost (Stands from (halt_run q at m) budget spent) w0 w1) where
    at_hand : (halt : Halt) → at ≡ halt → OverHost (Stands from (halt_run q halt m) budget spent) w0 w1
    at_hand halt is = subst (λ a. OverHost (Stands from (halt_run q a m) budget spent) w0 w1) is stands

    pub spent_over : (outcome : Outcome) → at ≡ Over outcome → spent ≤ budget → OverHost (Came from budget outcome) w0 w1
    spent_over outcome is le = came_over q from outcome m budget spent w0 w1 le (at_hand (Over outcome) is)

    pub spent_next : (want : Want) (next : Halt) (after : Machine) (w2 : World) → at ≡ Wants want → OverHost (LeadsBehind (halt_run q (Wants want) m) (halt_run q next after)) w1 w2 → OverHost (Stands from (halt_run q next after) budget (spent + 1)) w0 w2
    spent_next want next after w2 is leads =
        stands_next from (halt_run q (Wants want) m) (halt_run q next after) budget spent w0 w1 w2 (at_hand (Wants want) is) leads

    pub spent_part : (want : Want) (w2 : World) → at ≡ Wants want → spent < budget → OverHost (LeadsPartBehind (halt_run q (Wants want) m)) w1 w2 → OverHost (CameBegun from budget) w0 w2
    spent_part want w2 is lt part = begun_next from (halt_run q (Wants want) m) budget spent w0 w1 w2 lt (at_hand (Wants want) is) part

    pub spent_out : (want : Want) → at ≡ Wants want → spent ≡ budget → OverHost (Came from budget Spent) w0 w1
    spent_out want is all =
        came_spent q from want m budget w0 w1 (subst (λ n. OverHost (Stands from (halt_run q (Wants want) m) budget n) w0 w1) all (at_hand (Wants want) is))
