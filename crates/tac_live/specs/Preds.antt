-- The blocks that lead to a block.
use Rattle.std.specs.Prelude.{◌≡◌, ℕ, ◌<◌, List, Some, slice_get, length}
use Rattle.std.specs.List.{Contains}
use Rattle.tac_core.specs.declared.code.Block.{Block}
use Rattle.tac_core.specs.Counts.{IsTargetOf}
use Rattle.tac_live.specs.Before.{row}

-- the list of a label names each block, of those below `many`, that leads to it
pub record ArePreds (blocks : List Block) (many : ℕ) (lists : List (List ℕ)) : Type 0 where
  pub named : (p l : ℕ) (b : Block) → p < many → slice_get blocks p ≡ Some b → IsTargetOf b.«end» l → l < length blocks → Contains (row lists l) p
  pub size : length lists ≡ length blocks
