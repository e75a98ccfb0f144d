-- What the tables by label say, from which the traces are read.
use Rattle.std.specs.Prelude.{◌≡◌, ℕ, suc, ◌+◌, ◌<◌, ◌≤◌, ◌↔◌, nat_le, Bool, true, not, if◌then◌else◌, List, Option, Some, None, length, slice_get, slice_index_or}
use Rattle.tac_core.specs.declared.code.Block.{Block}
use Rattle.tac_core.specs.declared.code.TacFunc.{TacFunc}
use Rattle.tac_core.specs.declared.edges.Edge.{Edge}
use Rattle.tac_core.specs.declared.counts.FuncCounts.{FuncCounts}
use Rattle.tac_core.specs.Counts.{HasEdge}
use Rattle.tac_core.specs.Traces.{Labels, StandsAt, ops_of, ops_at}
use Rattle.trace_pick.specs.Best.{IsMutuallyBest, Follows}
use Rattle.trace_pick.specs.Traces.{most_ops, AreTraces}

-- a table by label that has, for each label, the one that stands in the relation to it
pub record IsTable (blocks : ℕ) (R : ℕ → ℕ → Type 0) (table : List (Option ℕ)) : Type 0 where
  pub many : length table ≡ blocks
  pub tells : (a b : ℕ) → (slice_get table a ≡ Some (Some b)) ↔ R a b

-- the operations of a block's trace, up to the block and with it
abbrev pub sum_at : (sums : List ℕ) → ℕ → ℕ
sum_at sums b = slice_index_or sums b 0

-- b stands right behind a in a trace: it follows, and the trace has room
pub record IsJoined (f : TacFunc) (c : FuncCounts) (sums : List ℕ) (a b : ℕ) : Type 0 where
  pub follows : Follows f c a b
  pub room : sum_at sums a + ops_at f b ≤ most_ops

-- no block stands before b in its trace
abbrev pub Begins : (f : TacFunc) → (c : FuncCounts) → (sums : List ℕ) → (b : ℕ) → Type 0
Begins f c sums b = (a : ℕ) → IsJoined f c sums a b → ⊥

-- the sum of a block, from the block before it
pub data IsSummed (f : TacFunc) (c : FuncCounts) (sums : List ℕ) (b : ℕ) : Type 0 where
  First : Begins f c sums b → sum_at sums b ≡ ops_at f b → IsSummed f c sums b
  Behind : (a : ℕ) → IsJoined f c sums a b → sum_at sums b ≡ sum_at sums a + ops_at f b → IsSummed f c sums b

abbrev pub AreSums : (f : TacFunc) → (c : FuncCounts) → (sums : List ℕ) → Type 0
AreSums f c sums = (b : ℕ) → b < length f.blocks → IsSummed f c sums b

-- a whole trace, from its first block on
pub record IsTrace (f : TacFunc) (c : FuncCounts) (sums : List ℕ) (first : ℕ) (chain : Labels) : Type 0 where
  pub begins : slice_get chain 0 ≡ Some first
  pub linked : (k a b : ℕ) → slice_get chain k ≡ Some a → slice_get chain (suc k) ≡ Some b → IsJoined f c sums a b
  pub whole : (k a b : ℕ) → slice_get chain k ≡ Some a → slice_get chain (suc k) ≡ None → IsJoined f c sums a b → ⊥

-- a block begins a trace that is among these
pub record IsAmong (chains : List Labels) (l : ℕ) : Type 0 where
  pub chain : ℕ
  pub stands : StandsAt chains l chain 0

-- a chain is a trace from one of so many first labels on
pub record IsFrom (f : TacFunc) (c : FuncCounts) (sums : List ℕ) (upto : ℕ) (chain : Labels) : Type 0 where
  pub first : ℕ
  pub early : first < upto
  pub begins : Begins f c sums first
  pub trace : IsTrace f c sums first chain

-- all traces from so many first labels on, in order
pub record AreTracesFrom (f : TacFunc) (c : FuncCounts) (sums : List ℕ) (upto : ℕ) (chains : List Labels) : Type 0 where
  pub each : (i : ℕ) (chain : Labels) → slice_get chains i ≡ Some chain → IsFrom f c sums upto chain
  pub all : (l : ℕ) → l < upto → Begins f c sums l → IsAmong chains l
  pub in_order : (i j l m : ℕ) → i < j → StandsAt chains l i 0 → StandsAt chains m j 0 → l < m

-- block b has room behind block a in a trace
abbrev pub has_room : List Block → (sums : List ℕ) → (a b : ℕ) → Bool
has_room blocks sums a b = nat_le (sum_at sums a + ops_of (slice_get blocks b)) 2048

-- b begins a trace, by what the table says of the block that it follows
abbrev pub begins_by : List Block → (sums : List ℕ) → Option (Option ℕ) → ℕ → Bool
begins_by blocks sums None b = true
begins_by blocks sums (Some None) b = true
begins_by blocks sums (Some (Some a)) b = not (has_room blocks sums a b)

abbrev pub begins : List Block → (prior : List (Option ℕ)) (sums : List ℕ) → ℕ → Bool
begins blocks prior sums b = begins_by blocks sums (slice_get prior b) b

-- the block behind a block in its trace, by what the table says of the block on its best edge
abbrev pub behind_by : List Block → (prior : List (Option ℕ)) (sums : List ℕ) → Option (Option ℕ) → Option ℕ
behind_by blocks prior sums None = None
behind_by blocks prior sums (Some None) = None
behind_by blocks prior sums (Some (Some b)) = if begins blocks prior sums b then None else Some b

abbrev pub behind : List Block → (prior next : List (Option ℕ)) (sums : List ℕ) → ℕ → Option ℕ
behind blocks prior next sums a = behind_by blocks prior sums (slice_get next a)

-- a walk from its first label on, as far as steps lead
pub record IsWalk (step : ℕ → Option ℕ) (first : ℕ) (chain : Labels) : Type 0 where
  pub begun : slice_get chain 0 ≡ Some first
  pub linked : (k a b : ℕ) → slice_get chain k ≡ Some a → slice_get chain (suc k) ≡ Some b → step a ≡ Some b
  pub whole : (k a : ℕ) → slice_get chain k ≡ Some a → slice_get chain (suc k) ≡ None → step a ≡ None

-- a walk so far, which now stands at a label
pub record IsWalkTo (step : ℕ → Option ℕ) (first at : ℕ) (chain : Labels) : Type 0 where
  pub begun : slice_get chain 0 ≡ Some first
  pub linked : (k a b : ℕ) → slice_get chain k ≡ Some a → slice_get chain (suc k) ≡ Some b → step a ≡ Some b
  pub last : (k a : ℕ) → slice_get chain k ≡ Some a → slice_get chain (suc k) ≡ None → a ≡ at

pub record IsWalkFrom (step : ℕ → Option ℕ) (starts : ℕ → Bool) (upto : ℕ) (chain : Labels) : Type 0 where
  pub first : ℕ
  pub early : first < upto
  pub is_start : starts first ≡ true
  pub walk : IsWalk step first chain

-- the walks from those of the first labels that are starts, in order
pub record AreWalks (step : ℕ → Option ℕ) (starts : ℕ → Bool) (upto : ℕ) (chains : List Labels) : Type 0 where
  pub each : (i : ℕ) (chain : Labels) → slice_get chains i ≡ Some chain → IsWalkFrom step starts upto chain
  pub all : (l : ℕ) → l < upto → starts l ≡ true → IsAmong chains l
  pub in_order : (i j l m : ℕ) → i < j → StandsAt chains l i 0 → StandsAt chains m j 0 → l < m

-- no block and no sum passes the most operations of a trace
abbrev pub AreFewOps : List Block → Type 0
AreFewOps blocks = (l : ℕ) → ops_of (slice_get blocks l) ≤ 2048

abbrev pub AreLow : (sums : List ℕ) → Type 0
AreLow sums = (l : ℕ) → sum_at sums l ≤ 2048

-- sums rise with each step
abbrev pub Rise : (step : ℕ → Option ℕ) (sums : List ℕ) → Type 0
Rise step sums = (a b : ℕ) → step a ≡ Some b → sum_at sums a < sum_at sums b

-- one of the first edges leads from a to b
pub record IsEarly (edges : List Edge) (upto a b : ℕ) : Type 0 where
  pub place : ℕ
  pub early : place < upto
  pub edge : Edge
  pub is : slice_get edges place ≡ Some edge
  pub from_is : edge.from ≡ a
  pub to_is : edge.to ≡ b

-- the mutually best of the first edges, from a to b
abbrev pub IsEarlyBest : (f : TacFunc) → (c : FuncCounts) → (upto a b : ℕ) → Type 0
IsEarlyBest f c upto a b = IsMutuallyBest f c a b × IsEarly c.edges upto a b

-- tables of the mutually best of the first edges: out of each block, and to it
pub record AreLinks (f : TacFunc) (c : FuncCounts) (upto : ℕ) (prior next : List (Option ℕ)) : Type 0 where
  pub priors : IsTable (length f.blocks) (λ b a. IsEarlyBest f c upto a b) prior
  pub nexts : IsTable (length f.blocks) (IsEarlyBest f c upto) next

-- each edge leads from a block to a block
abbrev pub AreWithin : (blocks : ℕ) → List Edge → Type 0
AreWithin blocks edges = (k : ℕ) (e : Edge) → slice_get edges k ≡ Some e → (e.from < blocks) × (e.to < blocks)

-- a function's edges lead to its blocks, and no block has more operations than a trace may have
pub record IsFit (f : TacFunc) : Type 0 where
  pub targets : (a b : ℕ) → HasEdge f a b → b < length f.blocks
  pub few : AreFewOps f.blocks

-- the traces of the first functions
pub record AreTracesUpto (funcs : List TacFunc) (counts : List FuncCounts) (upto : ℕ) (traces : List (List Labels)) : Type 0 where
  pub many : length traces ≡ upto
  pub each : (i : ℕ) (f : TacFunc) (c : FuncCounts) (chains : List Labels) → slice_get funcs i ≡ Some f → slice_get counts i ≡ Some c → slice_get traces i ≡ Some chains → AreTraces f c chains
