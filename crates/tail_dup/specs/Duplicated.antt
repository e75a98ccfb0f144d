-- What tail duplication makes of a function and its chains.
use Rattle.std.specs.Prelude.{◌≡◌, ℕ, suc, ◌+◌, Bool, true, if◌then◌else◌, ◌⊎◌, ◌↔◌, List, [], ◌∷◌, ◌++◌, Option, Some, None, length, map, slice_get}
use Rattle.tac_core.specs.declared.code.End.{End}
use Rattle.tac_core.specs.declared.code.End.TheVariants.{Jump, Branch, Call, Ret}
use Rattle.tac_core.specs.declared.code.Block.{Block}
use Rattle.tac_core.specs.declared.code.TacFunc.{TacFunc}
use Rattle.tac_core.specs.Counts.{HasEdge}
use Rattle.tac_core.specs.Cover.{Origins, upto}
use Rattle.tac_core.specs.Traces.{Labels, apart, StandsAt, FormedProgram}

-- block m stands right behind block l
pub record IsBehind (chains : List Labels) (l m : ℕ) : Type 0 where
  pub chain : ℕ
  pub place : ℕ
  pub before : StandsAt chains l chain place
  pub stands : StandsAt chains m chain (suc place)

-- block m is a chain's first
pub record IsFirst (chains : List Labels) (m : ℕ) : Type 0 where
  pub chain : ℕ
  pub stands : StandsAt chains m chain 0

-- a side entrance: an edge leads to m, inside a chain, from another block than the one before it
pub record IsSideEntered (f : TacFunc) (chains : List Labels) (m : ℕ) : Type 0 where
  pub chain : ℕ
  pub place : ℕ
  pub leaves : ℕ
  pub stands : StandsAt chains m chain (suc place)
  pub edge : HasEdge f leaves m
  pub aside : StandsAt chains leaves chain place → ⊥

-- a chain from its first block on for which the test holds
abbrev pub from_first : (ℕ → Bool) → Labels → Labels
from_first entered [] = []
from_first entered (l ∷ ls) = if entered l then l ∷ ls else from_first entered ls

abbrev pub tails : (ℕ → Bool) → List Labels → List ℕ
tails entered [] = []
tails entered (chain ∷ chains) = from_first entered chain ++ tails entered chains

-- the blocks that are copied, in the order of their copies: each chain from its first side entrance on
pub record AreCopies (f : TacFunc) (chains : List Labels) (copies : List ℕ) : Type 0 where
  pub entered : ℕ → Bool
  pub tells : (m : ℕ) → (entered m ≡ true) ↔ IsSideEntered f chains m
  pub are : copies ≡ tails entered chains

-- t stands right behind the given block that the edge leaves; a copy's edge leaves none
abbrev pub IsAlong : List Labels → (leaves : Option ℕ) → ℕ → Type 0
IsAlong chains None t = ⊥
IsAlong chains (Some l) t = IsBehind chains l t

-- the edge leads along a chain or into a chain's first block
abbrev pub Keeps : List Labels → (leaves : Option ℕ) → ℕ → Type 0
Keeps chains leaves t = IsFirst chains t ⊎ IsAlong chains leaves t

-- where an edge to t leads: there still, or to the copy of t
pub data IsLed (chains : List Labels) (blocks : ℕ) (copies : List ℕ) (leaves : Option ℕ) : (t copy : ℕ) → Type 0 where
  Kept : (t : ℕ) → Keeps chains leaves t → IsLed chains blocks copies leaves t t
  Moved : (t i : ℕ) → (Keeps chains leaves t → ⊥) → slice_get copies i ≡ Some t → IsLed chains blocks copies leaves t (blocks + i)

-- the same end, but for its targets, each led in its place
abbrev pub IsEndLed : (Leads : ℕ → ℕ → Type 0) → (given copy : End) → Type 0
IsEndLed Leads (Jump t) (Jump t') = Leads t t'
IsEndLed Leads (Branch r y n) (Branch r' y' n') = (r' ≡ r) × Leads y y' × Leads n n'
IsEndLed Leads (Call d f args t) (Call d' f' args' t') = (d' ≡ d) × (f' ≡ f) × (args' ≡ args) × Leads t t'
IsEndLed Leads (Ret r) (Ret r') = r' ≡ r
IsEndLed Leads _ _ = ⊥

pub record IsBlockLed (Leads : ℕ → ℕ → Type 0) (given copy : Block) : Type 0 where
  pub ops : copy.ops ≡ given.ops
  pub end_stmt : copy.end_stmt ≡ given.end_stmt
  pub ends : IsEndLed Leads given.«end» copy.«end»

-- the given blocks under their labels and the copies behind them, each with its edges led
pub record IsDuplicated (f : TacFunc) (chains : List Labels) (copies : List ℕ) (g : TacFunc) : Type 0 where
  pub name : g.name ≡ f.name
  pub params : g.params ≡ f.params
  pub regs : g.regs ≡ f.regs
  pub frame : g.frame ≡ f.frame
  pub long : length g.blocks ≡ length f.blocks + length copies
  pub given : (l : ℕ) (b : Block) → slice_get f.blocks l ≡ Some b → (c : Block) × (slice_get g.blocks l ≡ Some c) × IsBlockLed (IsLed chains (length f.blocks) copies (Some l)) b c
  pub copied : (i m : ℕ) (b : Block) → slice_get copies i ≡ Some m → slice_get f.blocks m ≡ Some b → (c : Block) × (slice_get g.blocks (length f.blocks + i) ≡ Some c) × IsBlockLed (IsLed chains (length f.blocks) copies None) b c

-- the labels of so many copies behind so many blocks
abbrev pub labels_behind : (blocks copies : ℕ) → List ℕ
labels_behind blocks copies = map (λ i. blocks + i) (upto copies)

-- the chains given, and behind them each copy as a chain by itself
abbrev pub chains_with : List Labels → (blocks : ℕ) → (copies : List ℕ) → List Labels
chains_with chains blocks copies = chains ++ apart (labels_behind blocks (length copies))

-- each given block comes from itself, each copy from what it copies
abbrev pub origins_with : (blocks : ℕ) → (copies : List ℕ) → Origins
origins_with blocks copies = upto blocks ++ copies

-- a function with its chains, its duplicate with its own, and the origins of its labels
pub record IsDuplicate (f : TacFunc) (chains : List Labels) (g : TacFunc) (made : List Labels) (origins : Origins) : Type 0 where
  pub copies : List ℕ
  pub copied : AreCopies f chains copies
  pub func : IsDuplicated f chains copies g
  pub chained : made ≡ chains_with chains (length f.blocks) copies
  pub from : origins ≡ origins_with (length f.blocks) copies

-- the duplicate of a function of a program
pub record HasDuplicate (f : TacFunc) (chains : List Labels) (g : Option TacFunc) (made : Option (List Labels)) (origins : Option Origins) : Type 0 where
  pub func : TacFunc
  pub chained : List Labels
  pub from : Origins
  pub func_is : g ≡ Some func
  pub chained_is : made ≡ Some chained
  pub from_is : origins ≡ Some from
  pub is : IsDuplicate f chains func chained from

-- each function with its chains is duplicated, and no more functions are there
pub record AreDuplicated (funcs : List TacFunc) (traces : List (List Labels)) (formed : FormedProgram) : Type 0 where
  pub many : length formed.copied.tac.funcs ≡ length funcs
  pub each : (i : ℕ) (f : TacFunc) (chains : List Labels) → slice_get funcs i ≡ Some f → slice_get traces i ≡ Some chains → HasDuplicate f chains (slice_get formed.copied.tac.funcs i) (slice_get formed.traces i) (slice_get formed.copied.origins i)
