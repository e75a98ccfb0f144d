-- The traces of a function: the maximal chains of its mutually best edges, cut into pieces.
use Rattle.std.specs.Prelude.{◌≡◌, ℕ, suc, ◌+◌, ◌<◌, ◌⊎◌, List, Some, length, slice_get}
use Rattle.tac_core.specs.declared.code.TacFunc.{TacFunc}
use Rattle.tac_core.specs.declared.counts.FuncCounts.{FuncCounts}
use Rattle.tac_core.specs.Traces.{Labels, StandsAt, ArePartition, ops_at, chain_ops, AreShort}
use Rattle.trace_pick.specs.Best.{Follows}

-- the most operations of a trace, ends of blocks included
abbrev pub most_ops : ℕ
most_ops = 2048

-- b stands right behind a
pub record IsNext (chains : List Labels) (a b : ℕ) : Type 0 where
  pub chain : ℕ
  pub place : ℕ
  pub before : StandsAt chains a chain place
  pub behind : StandsAt chains b chain (suc place)

-- the chain of a has no room for b
pub record IsFull (f : TacFunc) (chains : List Labels) (a b : ℕ) : Type 0 where
  pub chain : ℕ
  pub place : ℕ
  pub labels : Labels
  pub stands : StandsAt chains a chain place
  pub is : slice_get chains chain ≡ Some labels
  pub full : most_ops < chain_ops f labels + ops_at f b

-- the traces, in order of their first labels: every block stands in one of them; a block stands behind one that it follows,
-- and does so unless the trace has no room
pub record AreTraces (f : TacFunc) (c : FuncCounts) (chains : List Labels) : Type 0 where
  pub partition : ArePartition (length f.blocks) chains
  pub grown : (a b : ℕ) → IsNext chains a b → Follows f c a b
  pub maximal : (a b : ℕ) → Follows f c a b → IsNext chains a b ⊎ IsFull f chains a b
  pub short : AreShort most_ops f chains
  pub begun : (i : ℕ) (chain : Labels) → slice_get chains i ≡ Some chain → 0 < length chain
  pub in_order : (i j l m : ℕ) → i < j → StandsAt chains l i 0 → StandsAt chains m j 0 → l < m

-- the traces of each function, by its counts
pub record AreTracesOf (funcs : List TacFunc) (counts : List FuncCounts) (traces : List (List Labels)) : Type 0 where
  pub many : length traces ≡ length funcs
  pub each : (i : ℕ) (f : TacFunc) (c : FuncCounts) (chains : List Labels) → slice_get funcs i ≡ Some f → slice_get counts i ≡ Some c → slice_get traces i ≡ Some chains → AreTraces f c chains
