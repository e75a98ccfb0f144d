-- Sets on their way to the live ones: each member has a path, and what does not wait is closed.
use Rattle.std.specs.Prelude.{◌≡◌, ◌≢◌, ◌↔◌, ◌⊎◌, ℕ, ◌<◌, List, [], Some, slice_get, length, Bool, true, false}
use Rattle.std.specs.List.{All, Contains, sum_by}
use Rattle.ib_bits.specs.Bits.{room}
use Rattle.tac_core.specs.declared.code.Block.{Block}
use Rattle.tac_core.specs.declared.code.TacFunc.{TacFunc}
use Rattle.tac_core.specs.Live.{IsLive}
use Rattle.tac_live.specs.Before.{LiveBefore, LiveBehind, At, row, BlockReadsBelow}

abbrev pub Even : ℕ → List (List ℕ) → Type 0
Even n rows = All (λ r. length r ≡ n) rows

unfoldable pub total_room : List (List ℕ) → ℕ
total_room rows = sum_by room rows

-- the set of a block is closed: it holds whatever is live before the block by the sets of its targets
pub record IsClosed (f : TacFunc) (rows : List (List ℕ)) (l : ℕ) : Type 0 where
  pub closed : (b : Block) → slice_get f.blocks l ≡ Some b → (r : ℕ) → LiveBefore b (LiveBehind b.«end» (At rows)) r → At rows l r

-- each member has a path
pub record AreSound (f : TacFunc) (n : ℕ) (rows : List (List ℕ)) : Type 0 where
  pub sound : (l r : ℕ) → At rows l r → IsLive f r l
  pub even : Even n rows
  pub size : length rows ≡ length f.blocks

-- a block waits, or its set is closed
abbrev pub WaitsOrClosed : TacFunc → List (List ℕ) → List ℕ → ℕ → Type 0
WaitsOrClosed f rows waiting l = Contains waiting l ⊎ IsClosed f rows l

-- one block's set is taken anew; `grown` says whether it changed
pub record Settles (b : Block) (rows new : List (List ℕ)) (label : ℕ) (grown : Bool) : Type 0 where
  pub others : (l : ℕ) → l ≢ label → row new l ≡ row rows l
  pub here : (r : ℕ) → At new label r ↔ (At rows label r ⊎ LiveBefore b (LiveBehind b.«end» (At rows)) r)
  pub same : grown ≡ false → new ≡ rows
  pub less : grown ≡ true → total_room new < total_room rows
  pub even : (n : ℕ) → Even n rows → Even n new
  pub size : length new ≡ length rows

-- what a round owes: nothing is lost, and who waits next had a set that grew
pub record IsRound (f : TacFunc) (n : ℕ) (rows new : List (List ℕ)) (next : List ℕ) : Type 0 where
  pub sound : AreSound f n new
  pub waits : (l : ℕ) → WaitsOrClosed f new next l
  pub less : ((next ≡ []) × (total_room new ≡ total_room rows)) ⊎ (total_room new < total_room rows)

abbrev pub AllReadBelow : ℕ → List Block → Type 0
AllReadBelow n blocks = All (BlockReadsBelow n) blocks
