-- The edges along which traces grow.
use Rattle.std.specs.Prelude.{◌≡◌, ℕ, ◌*◌, ◌<◌, ◌≤◌, slice_get}
use Rattle.tac_core.specs.declared.code.TacFunc.{TacFunc}
use Rattle.tac_core.specs.declared.counts.FuncCounts.{FuncCounts}
use Rattle.tac_core.specs.Counts.{edge_count}
use Rattle.tac_core.specs.Weights.{in_weight, out_weight}
use Rattle.tac_core.specs.Traces.{GoesOn}

-- a count is at least seven tenths of a weight
abbrev pub IsMost : (count weight : ℕ) → Type 0
IsMost count weight = 7 * weight ≤ 10 * count

-- the edge from a to b is mutually best: it was taken, in at least seven tenths of what left a and of what came to b; a
-- ends with a jump or a branch, and b is not the entry
pub record IsMutuallyBest (f : TacFunc) (c : FuncCounts) (a b : ℕ) : Type 0 where
  pub taken : 0 < edge_count a b c.edges
  pub most_out : IsMost (edge_count a b c.edges) (out_weight c a)
  pub most_in : IsMost (edge_count a b c.edges) (in_weight c b)
  pub goes_on : GoesOn (slice_get f.blocks a)
  pub inner : 0 < b

-- from a, mutually best edges lead to b
pub data Reaches (f : TacFunc) (c : FuncCounts) (a : ℕ) : ℕ → Type 0 where
  AtOnce : Reaches f c a a
  Further : (b d : ℕ) → Reaches f c a b → IsMutuallyBest f c b d → Reaches f c a d

-- b stands on a cycle of mutually best edges
pub record IsOnCycle (f : TacFunc) (c : FuncCounts) (b : ℕ) : Type 0 where
  pub last : ℕ
  pub reaches : Reaches f c b last
  pub closes : IsMutuallyBest f c last b

-- b has a greater in-weight than d, or as great a one and the lesser label
pub data GoesBefore (c : FuncCounts) (b d : ℕ) : Type 0 where
  Greater : in_weight c d < in_weight c b → GoesBefore c b d
  Lesser : in_weight c d ≡ in_weight c b → b < d → GoesBefore c b d

-- a cycle is cut before b: of its blocks b has the greatest in-weight, on ties the least label
pub record IsCutBefore (f : TacFunc) (c : FuncCounts) (b : ℕ) : Type 0 where
  pub on : IsOnCycle f c b
  pub first : (d : ℕ) → Reaches f c b d → (d ≡ b → ⊥) → GoesBefore c b d

-- b follows a, cycles cut
pub record Follows (f : TacFunc) (c : FuncCounts) (a b : ℕ) : Type 0 where
  pub best : IsMutuallyBest f c a b
  pub uncut : IsCutBefore f c b → ⊥
