-- Chains by their first labels.
use Rattle.std.specs.Prelude.{◌≡◌, ℕ, ◌<◌, List, [], ◌∷◌, Option, Some, None, length, drop, slice_get, slice_set, slice_index_or}
use Rattle.tac_core.specs.Traces.{Labels}
use Rattle.sb_formed.specs.Formed.{chain_at}

-- the chain begins with a label of so many blocks
abbrev pub IsLabel : (blocks : ℕ) → Labels → Type 0
IsLabel blocks [] = Unit {0}
IsLabel blocks (m ∷ ms) = m < blocks

abbrev pub AreLabels : (blocks : ℕ) → List Labels → Type 0
AreLabels blocks chains = (c : ℕ) (chain : Labels) → slice_get chains c ≡ Some chain → IsLabel blocks chain

-- what a table tells, nothing past its end
abbrev pub told : Option (Option ℕ) → Option ℕ
told None = None
told (Some o) = o

-- the chain of a number, an empty one where there is none
abbrev pub chain_by : List Labels → Option ℕ → Labels
chain_by chains None = []
chain_by chains (Some c) = slice_index_or chains c []

-- the table with this chain's number at its first label
abbrev pub marked : List (Option ℕ) → Labels → ℕ → List (Option ℕ)
marked heads [] c = heads
marked heads (m ∷ ms) c = slice_set heads m (Some c)

-- the table tells of each label which of the chains from this one on begins with it
pub record AreHeads (blocks : ℕ) (chains : List Labels) (from : ℕ) (heads : List (Option ℕ)) : Type 0 where
  pub many : length heads ≡ blocks
  pub tell : (l : ℕ) → chain_by chains (told (slice_get heads l)) ≡ chain_at (drop from chains) l
