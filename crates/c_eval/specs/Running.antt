-- How a run goes on over a host, and how it comes out.
use Rattle.std.specs.Prelude.{◌≡◌, ℕ, suc, ◌+◌, ◌<◌, ℤ, pos, List, [], ◌∷◌, ◌++◌, unsigned_abs}
use Rattle.std.specs.Fmt.{signed_decimal}
use Rattle.ib_base.specs.declared.integers.Width.TheVariants.{W1}
use Rattle.ib_base.specs.declared.outcome.Outcome.{Outcome}
use Rattle.ib_base.specs.Integers.{wrapped}
use Rattle.ib_meaning.specs.Agreement.{Report, IsPrefix, out_of}
use Rattle.ib_run.specs.Report.{report_of}
use Rattle.c_typed.specs.Program.{Program}
use Rattle.c_meaning.specs.Doing.{next_of, behind}
use Rattle.c_meaning.specs.Meaning.{source_meaning}
use Rattle.c_eval.specs.declared.frame.Ask.{Ask}
use Rattle.c_eval.specs.declared.frame.Ask.TheVariants.{GetByte, PutByte, PutNumber}
use Rattle.c_eval.specs.declared.frame.Halt.{Halt}
use Rattle.c_eval.specs.declared.frame.Halt.TheVariants.{Wants, Over}
use Rattle.c_eval.specs.declared.frame.Pause.{Pause}
use Rattle.c_eval.specs.declared.frame.Pause.TheVariants.{Asks, Halts}
use Rattle.c_eval.specs.Pending.{Machine, Move, Goes}
use Rattle.c_eval.specs.Outcomes.{outcome, comes_to}
use Rattle.c_eval.specs.Views.{ask_of, want_of}
use Rattle.c_eval.specs.Weights.{work}

-- the meaning with the budget says so
abbrev pub MeansSo : Program → (budget : ℕ) → Outcome → (input left out : List ℕ) → Type 0
MeansSo q budget outcome input left out = source_meaning q input budget ≡ report_of outcome out left

-- what was printed begins an output of the meaning
abbrev pub Begins : Program → (budget : ℕ) → (input left out : List ℕ) → Type 0
Begins q budget input left out = IsPrefix out (out_of (source_meaning q input budget))

-- ---- what is asked of the host

-- what the host gives, what it leaves of the input, and what it prints
abbrev pub Answers : Ask → ℤ → (input left out : List ℕ) → Type 0
Answers GetByte v input left out = (v ≡ next_of input) × (left ≡ behind input) × (out ≡ [])
Answers (PutByte u) v input left out = (v ≡ wrapped W1 u) × (input ≡ left) × (out ≡ unsigned_abs (wrapped W1 u) ∷ [])
Answers (PutNumber u) v input left out = (v ≡ pos 0) × (input ≡ left) × (out ≡ signed_decimal u)

abbrev pub printed_for : Ask → List ℕ
printed_for GetByte = []
printed_for (PutByte u) = unsigned_abs (wrapped W1 u) ∷ []
printed_for (PutNumber u) = signed_decimal u

-- a beginning of what was to be printed
abbrev pub AnswersPart : Ask → (input left part : List ℕ) → Type 0
AnswersPart ask input left part = (input ≡ left) × IsPrefix part (printed_for ask)

-- ---- how a run goes on

-- what a run comes to with a number above the budget, the budget, the input that is left and what was printed
abbrev pub Run : Type 0
Run = (n budget : ℕ) → (left out : List ℕ) → Report

unfoldable pub move_run : Program → Move → Run
move_run q move = λ n b left out. comes_to q n b move left out

abbrev pub halt_run : Program → Halt → Machine → Run
halt_run q (Wants want) m = λ n b left out. outcome q n b (want_of want) m left out
halt_run q (Over outcome) m = λ n b left out. report_of outcome out left

abbrev pub pause_run : Program → Pause → Machine → Run
pause_run q (Asks ask) m = λ n b left out. outcome q n b (ask_of ask) m left out
pause_run q (Halts halt) m = halt_run q halt m

-- without a host
pub record Settles (from to : Run) : Type 0 where
  pub same : (n b : ℕ) → b < n → (left out : List ℕ) → from n b left out ≡ to n b left out

-- over a host: this of the input is left, and this was printed
pub record Leads (from to : Run) (input left out : List ℕ) : Type 0 where
  pub same : (n b : ℕ) → b < n → (printed : List ℕ) → from n b input printed ≡ to n b left (printed ++ out)

-- a unit of the budget was spent first
pub record LeadsBehind (from to : Run) (input left out : List ℕ) : Type 0 where
  pub same : (n b : ℕ) → b + 1 < n → (printed : List ℕ) → from n (suc b) input printed ≡ to n b left (printed ++ out)

-- what was printed begins an output of the run
pub record LeadsPart (from : Run) (input left part : List ℕ) : Type 0 where
  pub begins : (n b : ℕ) → b < n → (printed : List ℕ) → IsPrefix (printed ++ part) (out_of (from n b input printed))

pub record LeadsPartBehind (from : Run) (input left part : List ℕ) : Type 0 where
  pub begins : (n b : ℕ) → b + 1 < n → (printed : List ℕ) → IsPrefix (printed ++ part) (out_of (from n (suc b) input printed))

-- so many units of the budget were spent
pub record Stands (from to : Run) (budget spent : ℕ) (input left out : List ℕ) : Type 0 where
  pub same : (b : ℕ) → b + spent ≡ budget → from (suc budget) budget input [] ≡ to (suc budget) b left out

-- the run came out so, with the budget
pub record Came (from : Run) (budget : ℕ) (outcome : Outcome) (input left out : List ℕ) : Type 0 where
  pub same : from (suc budget) budget input [] ≡ report_of outcome out left

pub record CameBegun (from : Run) (budget : ℕ) (input left out : List ℕ) : Type 0 where
  pub begins : IsPrefix out (out_of (from (suc budget) budget input []))

-- ---- how much there is to do

abbrev pub move_work : Move → ℕ
move_work (Goes task m) = suc (work task m.frames)
move_work move = 0

abbrev pub pause_work : Pause → Machine → ℕ
pause_work (Asks ask) m = suc (work (ask_of ask) m.frames)
pause_work (Halts halt) m = 0
