-- Chains of blocks: each block in one chain, each with an edge to the next.
use Rattle.std.specs.Prelude.{◌≡◌, ℕ, suc, ◌<◌, ◌≤◌, List, [], ◌∷◌, Option, Some, None, length, map, slice_get}
use Rattle.std.specs.List.{All, sum_by}
use Rattle.tac_core.specs.declared.code.End.{End}
use Rattle.tac_core.specs.declared.code.End.TheVariants.{Jump, Branch, Call, Ret}
use Rattle.tac_core.specs.declared.code.Block.{Block}
use Rattle.tac_core.specs.declared.code.TacFunc.{TacFunc}
use Rattle.tac_core.specs.Counts.{HasEdge}
use Rattle.tac_core.specs.Program.{block_ops}
use Rattle.tac_core.specs.Cover.{CopiedProgram}

-- the labels of a chain, and the chains of a function
abbrev pub Labels : Type 0
Labels = List ℕ

-- each label as a chain by itself
abbrev pub apart : List ℕ → List Labels
apart labels = map (λ l. l ∷ []) labels

-- label l stands in chain c, at place k
pub record StandsAt (chains : List Labels) (l c k : ℕ) : Type 0 where
  pub chain : Labels
  pub is : slice_get chains c ≡ Some chain
  pub there : slice_get chain k ≡ Some l

-- each block stands in exactly one chain, at one place
pub record ArePartition (blocks : ℕ) (chains : List Labels) : Type 0 where
  pub within : (l c k : ℕ) → StandsAt chains l c k → l < blocks
  pub somewhere : (l : ℕ) → l < blocks → (c : ℕ) × (k : ℕ) × StandsAt chains l c k
  pub once : (l c k c' k' : ℕ) → StandsAt chains l c k → StandsAt chains l c' k' → (c ≡ c') × (k ≡ k')

-- the end leads on within the function
abbrev pub StaysIn : End → Type 0
StaysIn (Jump l) = Unit {0}
StaysIn (Branch r y n) = Unit {0}
StaysIn (Call d f args l) = ⊥
StaysIn (Ret r) = ⊥

-- the block ends with a jump or a branch
abbrev pub GoesOn : Option Block → Type 0
GoesOn None = ⊥
GoesOn (Some b) = StaysIn b.«end»

-- the chains of a function: none is empty, each block has an edge to the next, and none but the last ends with a call or a return
pub record AreChains (f : TacFunc) (chains : List Labels) : Type 0 where
  pub partition : ArePartition (length f.blocks) chains
  pub begun : (c : ℕ) (chain : Labels) → slice_get chains c ≡ Some chain → 0 < length chain
  pub linked : (l m c k : ℕ) → StandsAt chains l c k → StandsAt chains m c (suc k) → HasEdge f l m
  pub straight : (l m c k : ℕ) → StandsAt chains l c k → StandsAt chains m c (suc k) → GoesOn (slice_get f.blocks l)

-- no block but a chain's first has another predecessor than the block before it
abbrev pub HasNoSideEntrance : TacFunc → List Labels → Type 0
HasNoSideEntrance f chains = (a m c k : ℕ) → StandsAt chains m c (suc k) → HasEdge f a m → StandsAt chains a c k

-- the chains of a program's functions. (The traces are those chains of it that its counts choose.)
pub record AreChainsOf (funcs : List TacFunc) (traces : List (List Labels)) : Type 0 where
  pub many : length traces ≡ length funcs
  pub each : (i : ℕ) (f : TacFunc) (chains : List Labels) → slice_get funcs i ≡ Some f → slice_get traces i ≡ Some chains → AreChains f chains

abbrev pub ops_of : Option Block → ℕ
ops_of None = 0
ops_of (Some b) = block_ops b

-- the operations of the block of a label, its end included
abbrev pub ops_at : TacFunc → ℕ → ℕ
ops_at f l = ops_of (slice_get f.blocks l)

-- the operations of a chain, ends of blocks included
abbrev pub chain_ops : TacFunc → Labels → ℕ
chain_ops f chain = sum_by (ops_at f) chain

-- no chain has more operations than `most`
abbrev pub AreShort : (most : ℕ) → TacFunc → List Labels → Type 0
AreShort most f chains = All (λ chain. chain_ops f chain ≤ most) chains

pub record AreFormed (funcs : List TacFunc) (traces : List (List Labels)) : Type 0 where
  pub chained : AreChainsOf funcs traces
  pub entered : (i : ℕ) (f : TacFunc) (chains : List Labels) → slice_get funcs i ≡ Some f → slice_get traces i ≡ Some chains → HasNoSideEntrance f chains

-- a copied program in chains
pub record FormedProgram : Type 0 where
  pub copied : CopiedProgram
  pub traces : List (List Labels)
