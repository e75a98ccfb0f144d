-- The steps that a machine takes one after the other.
use Rattle.std.specs.Prelude.{◌≡◌, ℕ, zero, suc, ◌+◌, Bool, List, [], ◌++◌, if◌then◌else◌}
use Rattle.ib_meaning.specs.Machine.{Machine, Step, Goes, Stops}

-- in so many steps the machine comes from s, with this input, to a state, with an input left, and prints
pub data Path {S : Type 0} (machine : Machine S) (s : S) (input : List ℕ) : (steps : ℕ) → S → (left printed : List ℕ) → Type 0 where
  Start : Path machine s input 0 s input []
  Then : {k : ℕ} {t : S} {left printed : List ℕ} (u : S) (rest more : List ℕ) →
      Path machine s input k t left printed → machine t left ≡ Goes u rest more → Path machine s input (suc k) u rest (printed ++ more)

-- what the step prints
abbrev pub printed_of : {S : Type 0} → Step S → List ℕ
printed_of (Goes next left printed) = printed
printed_of (Stops finish left printed) = printed

abbrev pub one_if : Bool → ℕ
one_if is = if is then 1 else 0

abbrev pub count_behind : {S : Type 0} → (S → List ℕ → ℕ) → Step S → ℕ
count_behind rest (Goes next left printed) = rest next left
count_behind rest (Stops finish left printed) = 0

-- from how many states that pass the test the machine takes one of its first n steps
abbrev pub count_of : {S : Type 0} → Machine S → (S → Bool) → (n : ℕ) → S → (input : List ℕ) → ℕ
count_of machine test zero s input = 0
count_of machine test (suc n) s input = one_if (test s) + count_behind (count_of machine test n) (machine s input)
