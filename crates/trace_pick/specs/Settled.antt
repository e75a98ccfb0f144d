-- How cycles are cut and sums are given: from each block without a sum a walk back finds where its traces begin, and a walk
-- from there on gives each block its sum.
use Rattle.std.specs.Prelude.{◌≡◌, ℕ, ◌+◌, ◌<◌, ◌==◌, nat_lt, ◌&&◌, ◌||◌, ◌⊎◌, Bool, true, false, if◌then◌else◌, List, Option, Some, None, length, slice_get, slice_index_or}
use Rattle.tac_core.specs.declared.code.Block.{Block}
use Rattle.tac_core.specs.declared.code.TacFunc.{TacFunc}
use Rattle.tac_core.specs.declared.counts.FuncCounts.{FuncCounts}
use Rattle.tac_core.specs.Traces.{ops_of, ops_at}
use Rattle.tac_core.specs.Weights.{AreByLabel, in_weight}
use Rattle.trace_pick.specs.Best.{IsMutuallyBest, Reaches, GoesBefore, IsCutBefore, Follows}
use Rattle.trace_pick.specs.Tables.{IsTable, sum_at, has_room, IsSummed, AreSums, AreFewOps, AreLow}

-- a block at which a walk may begin: it follows none, and none that it reaches is cut
pub record IsStart (f : TacFunc) (c : FuncCounts) (first : ℕ) : Type 0 where
  pub begins : (a : ℕ) → Follows f c a first → ⊥
  pub uncut : (d : ℕ) → Reaches f c first d → (d ≡ first → ⊥) → IsCutBefore f c d → ⊥

-- the one that a table has for a label
abbrev pub told : Option (Option ℕ) → Option ℕ
told None = None
told (Some x) = x

abbrev pub label_at : (table : List (Option ℕ)) → ℕ → Option ℕ
label_at table a = told (slice_get table a)

-- each label in a table is one of so many
abbrev pub AreInside : (blocks : ℕ) → (table : List (Option ℕ)) → Type 0
AreInside blocks table = (a b : ℕ) → label_at table a ≡ Some b → b < blocks

-- a walk back has passed the block
abbrev pub IsSeen : (seen : List Bool) → ℕ → Type 0
IsSeen seen b = slice_index_or seen b false ≡ true

-- with each block the one on the best edge to it is passed
abbrev pub AreSeenBack : (f : TacFunc) → (c : FuncCounts) → (seen : List Bool) → Type 0
AreSeenBack f c seen = (a b : ℕ) → IsMutuallyBest f c a b → IsSeen seen b → IsSeen seen a

abbrev pub weight_at : (weights : List ℕ) → ℕ → ℕ
weight_at weights b = slice_index_or weights b 0

-- the weights say that a cycle would be cut before a rather than before b
abbrev pub goes_before : (weights : List ℕ) → (a b : ℕ) → Bool
goes_before weights a b = nat_lt (weight_at weights b) (weight_at weights a) || ((weight_at weights b == weight_at weights a) && nat_lt a b)

-- the block before one, if it is not passed yet
abbrev pub unseen_by : (seen : List Bool) → Option ℕ → Option ℕ
unseen_by seen None = None
unseen_by seen (Some b) = if slice_index_or seen b false then None else Some b

-- the one of two before which a cycle would be cut
abbrev pub earlier : (weights : List ℕ) → (a b : ℕ) → ℕ
earlier weights a b = if goes_before weights a b then a else b

abbrev pub unseen_before : (prior : List (Option ℕ)) (seen : List Bool) → ℕ → Option ℕ
unseen_before prior seen at = unseen_by seen (label_at prior at)

-- what a walk back from a label rests on; no block that was passed leads to the label
pub record CanWalkBack (f : TacFunc) (c : FuncCounts) (prior : List (Option ℕ)) (weights : List ℕ) (seen : List Bool) (label : ℕ) : Type 0 where
  pub priors : IsTable (length f.blocks) (λ b a. IsMutuallyBest f c a b) prior
  pub weighed : AreByLabel (in_weight c) (length f.blocks) weights
  pub leaves : (a b : ℕ) → IsMutuallyBest f c a b → a < length f.blocks
  pub within : label < length f.blocks
  pub back : AreSeenBack f c seen
  pub fresh : (x : ℕ) → IsSeen seen x → Reaches f c x label → ⊥

-- a block that is passed on the way: `first` is it or would be cut before it
pub record IsPassed (f : TacFunc) (c : FuncCounts) (first at x : ℕ) : Type 0 where
  pub reached : Reaches f c at x
  pub later : (x ≡ first) ⊎ GoesBefore c first x

-- a walk back from a label so far: it stands at a block, and of the blocks that it passed a cycle would be cut before `first`
pub record IsWalkBack (f : TacFunc) (c : FuncCounts) (old new : List Bool) (label at first : ℕ) : Type 0 where
  pub leads : Reaches f c at label
  pub passed : Reaches f c at first
  pub within : at < length f.blocks
  pub first_within : first < length f.blocks
  pub first_seen : IsSeen new first
  pub back : (a b : ℕ) → IsMutuallyBest f c a b → IsSeen new b → (b ≡ at → ⊥) → IsSeen new a
  pub seen : (x : ℕ) → IsSeen new x → IsSeen old x ⊎ IsPassed f c first at x

-- what a walk back finds: a block at which a walk may begin, and that leads to all that it passed
pub record IsStartOf (f : TacFunc) (c : FuncCounts) (old new : List Bool) (label first : ℕ) : Type 0 where
  pub start : IsStart f c first
  pub leads : Reaches f c first label
  pub within : first < length f.blocks
  pub back : AreSeenBack f c new
  pub seen : (x : ℕ) → IsSeen new x → IsSeen old x ⊎ Reaches f c first x

-- the block has its sum
abbrev pub IsSettled : (sums : List ℕ) → ℕ → Type 0
IsSettled sums b = 0 < sum_at sums b

-- the edge to a block that has no sum yet, or that follows
pub record IsKept (f : TacFunc) (c : FuncCounts) (sums : List ℕ) (b a : ℕ) : Type 0 where
  pub best : IsMutuallyBest f c a b
  pub uncut : IsSettled sums b → Follows f c a b

-- what is known of the blocks that have their sums, while a walk stands at one of them, or none is on its way
pub record AreSettled (f : TacFunc) (c : FuncCounts) (cut : List (Option ℕ)) (sums : List ℕ) (at : Option ℕ) : Type 0 where
  pub many : length sums ≡ length f.blocks
  pub kept : IsTable (length f.blocks) (IsKept f c sums) cut
  pub back : (a b : ℕ) → IsSettled sums b → Follows f c a b → IsSettled sums a
  pub on : (a b : ℕ) → IsSettled sums a → (at ≡ Some a → ⊥) → IsMutuallyBest f c a b → IsSettled sums b
  pub summed : (b : ℕ) → IsSettled sums b → IsSummed f c sums b

-- the sum of b, where a is the block before it
abbrev pub sum_behind : List Block → (sums : List ℕ) → (a b : ℕ) → ℕ
sum_behind blocks sums a b = if has_room blocks sums a b then sum_at sums a + ops_of (slice_get blocks b) else ops_of (slice_get blocks b)

-- the block behind one, if it has no sum yet
abbrev pub unsettled_by : (sums : List ℕ) → Option ℕ → Option ℕ
unsettled_by sums None = None
unsettled_by sums (Some b) = if sum_at sums b == 0 then Some b else None

abbrev pub unsettled_behind : (next : List (Option ℕ)) (sums : List ℕ) → ℕ → Option ℕ
unsettled_behind next sums at = unsettled_by sums (label_at next at)

-- what a walk from a block on rests on
pub record CanSettle (f : TacFunc) (c : FuncCounts) (blocks : List Block) (next cut : List (Option ℕ)) (sums : List ℕ) (first : ℕ) : Type 0 where
  pub blocks_are : blocks ≡ f.blocks
  pub nexts : IsTable (length f.blocks) (IsMutuallyBest f c) next
  pub enters : (a b : ℕ) → IsMutuallyBest f c a b → b < length f.blocks
  pub some : (b : ℕ) → b < length f.blocks → 0 < ops_at f b
  pub within : first < length f.blocks
  pub start : IsStart f c first
  pub unsettled : IsSettled sums first → ⊥
  pub all : AreSettled f c cut sums None

-- a walk from its first block on so far; no block has lost its sum
pub record IsSettling (f : TacFunc) (c : FuncCounts) (cut : List (Option ℕ)) (old new : List ℕ) (first : ℕ) (at : Option ℕ) : Type 0 where
  pub all : AreSettled f c cut new at
  pub first_settled : IsSettled new first
  pub grown : (b : ℕ) → IsSettled old b → IsSettled new b

-- a walk that stands at a block
pub record IsSettlingAt (f : TacFunc) (c : FuncCounts) (cut : List (Option ℕ)) (old new : List ℕ) (first at : ℕ) : Type 0 where
  pub so_far : IsSettling f c cut old new first (Some at)
  pub reaches : Reaches f c first at
  pub at_settled : IsSettled new at

-- what is known of a function's blocks and edges
pub record IsKnown (f : TacFunc) (c : FuncCounts) : Type 0 where
  pub leaves : (a b : ℕ) → IsMutuallyBest f c a b → a < length f.blocks
  pub enters : (a b : ℕ) → IsMutuallyBest f c a b → b < length f.blocks
  pub few : AreFewOps f.blocks

-- the tables of a function after its first labels, cycles cut and sums given as far as they reach
pub record AreSettledUpto (f : TacFunc) (c : FuncCounts) (upto : ℕ) (cut : List (Option ℕ)) (seen : List Bool) (sums : List ℕ) : Type 0 where
  pub all : AreSettled f c cut sums None
  pub low : AreLow sums
  pub many_seen : length seen ≡ length f.blocks
  pub back : AreSeenBack f c seen
  pub within : (x : ℕ) → IsSeen seen x → IsSettled sums x
  pub done : (l : ℕ) → l < upto → IsSettled sums l

-- cycles are cut, and each block has its sum
pub record AreCut (f : TacFunc) (c : FuncCounts) (cut : List (Option ℕ)) (sums : List ℕ) : Type 0 where
  pub priors : IsTable (length f.blocks) (λ b a. Follows f c a b) cut
  pub low : AreLow sums
  pub sums_are : AreSums f c sums
