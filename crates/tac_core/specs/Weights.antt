-- How often control left a block, and how often it came to it.
use Rattle.std.specs.Prelude.{◌≡◌, ℕ, ◌+◌, ◌<◌, ◌==◌, if◌then◌else◌, List, Some, length, slice_get, slice_set, slice_index_or}
use Rattle.std.specs.List.{sum_by}
use Rattle.tac_core.specs.declared.edges.Edge.{Edge}
use Rattle.tac_core.specs.declared.counts.FuncCounts.{FuncCounts}

-- an edge's count, if it leads from this block
abbrev pub count_from : ℕ → Edge → ℕ
count_from label e = if e.from == label then e.count else 0

-- an edge's count, if it leads to this block
abbrev pub count_to : ℕ → Edge → ℕ
count_to label e = if e.to == label then e.count else 0

-- how often a function was entered, at its first block
abbrev pub entries_at : (entries label : ℕ) → ℕ
entries_at entries label = if label == 0 then entries else 0

-- the sum of the counts of a block's edges
abbrev pub out_weight : FuncCounts → ℕ → ℕ
out_weight c label = sum_by (count_from label) c.edges

-- the sum of the counts of the edges to a block, and the entries at the first
abbrev pub in_weight : FuncCounts → ℕ → ℕ
in_weight c label = entries_at c.entries label + sum_by (count_to label) c.edges

-- the list gives each of so many blocks this number
pub record AreByLabel (number : ℕ → ℕ) (blocks : ℕ) (list : List ℕ) : Type 0 where
  pub many : length list ≡ blocks
  pub each : (label : ℕ) → label < blocks → slice_get list label ≡ Some (number label)

-- a count is added to what a block has
abbrev pub added : List ℕ → (label count : ℕ) → List ℕ
added list label count = slice_set list label (slice_index_or list label 0 + count)
