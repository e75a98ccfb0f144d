-- Machines that go step by step, and their meanings.
use Rattle.std.specs.Prelude.{◌≡◌, ℕ, zero, suc, ◌+◌, ◌≤◌, List, [], ◌++◌}
use Rattle.ib_meaning.specs.Agreement.{Finish, Report, More, Over, Meaning}

-- what one step does, from a state and the input that is left: it prints, and goes on or is over
pub data Step (S : Type 0) : Type 0 where
  Goes : (next : S) (left printed : List ℕ) → Step S
  Stops : (finish : Finish) (left printed : List ℕ) → Step S

abbrev pub Machine : Type 0 → Type 0
Machine S = S → List ℕ → Step S

-- the first, a step; the second, what the rest says
abbrev pub continue : {S : Type 0} → (S → List ℕ → List ℕ → Report) → Step S → List ℕ → Report
continue rest (Goes next left printed) out = rest next left (out ++ printed)
continue rest (Stops finish left printed) out = Over finish (out ++ printed) left

-- n steps from a state, with the input that is left and what was printed before
abbrev pub run : {S : Type 0} → Machine S → ℕ → S → (left out : List ℕ) → Report
run machine zero s left out = More out left
run machine (suc n) s left out = continue (run machine n) (machine s left) out

-- the meaning of a machine from a state
abbrev pub means : {S : Type 0} → Machine S → S → Meaning
means machine start input n = run machine n start input []

-- in k steps the machine comes from s to s', and prints
pub record Reaches {S : Type 0} (machine : Machine S) (k : ℕ) (s : S) (left printed : List ℕ) (s' : S) (left' : List ℕ) : Type 0 where
  pub by : (n : ℕ) (out : List ℕ) → run machine (k + n) s left out ≡ run machine n s' left' (out ++ printed)

-- in k steps the machine is over
pub record Halts {S : Type 0} (machine : Machine S) (k : ℕ) (s : S) (left printed : List ℕ) (finish : Finish) (left' : List ℕ) : Type 0 where
  pub by : (n : ℕ) (out : List ℕ) → run machine (k + n) s left out ≡ Over finish (out ++ printed) left'

-- in k steps the machine comes from s to s', with what was printed before and then
pub record Comes {S : Type 0} (machine : Machine S) (k : ℕ) (s : S) (left out : List ℕ) (s' : S) (left' out' : List ℕ) : Type 0 where
  pub by : (n : ℕ) → run machine (k + n) s left out ≡ run machine n s' left' out'

-- in k steps it is over
pub record Ends {S : Type 0} (machine : Machine S) (k : ℕ) (s : S) (left out : List ℕ) (finish : Finish) (left' out' : List ℕ) : Type 0 where
  pub by : (n : ℕ) → run machine (k + n) s left out ≡ Over finish out' left'
