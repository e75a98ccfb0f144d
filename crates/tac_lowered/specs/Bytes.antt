-- Inputs that are bytes.
use Rattle.std.specs.Prelude.{ℕ, ◌<◌, ◌%◌, List, [], ◌∷◌, map}
use Rattle.ib_meaning.specs.Agreement.{Meaning}

abbrev pub AreBytes : List ℕ → Type 0
AreBytes [] = Unit {0}
AreBytes (x ∷ xs) = (x < 256) × AreBytes xs

abbrev pub as_bytes : List ℕ → List ℕ
as_bytes input = map (λ x. x % 256) input

-- A meaning where an input is bytes: of each number of the input no more than a byte counts.
abbrev pub of_bytes : Meaning → Meaning
of_bytes meaning input n = meaning (as_bytes input) n
