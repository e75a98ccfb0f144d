-- What the tables by label say, with which edges are led.
use Rattle.std.specs.Prelude.{◌≡◌, ℕ, suc, ◌+◌, ◌<◌, ◌==◌, Bool, true, false, not, if◌then◌else◌, ◌⊎◌, ◌↔◌, List, ◌++◌, Option, Some, None, length, slice_get, slice_set, slice_index_or}
use Rattle.tac_core.specs.declared.code.End.{End}
use Rattle.tac_core.specs.declared.code.End.TheVariants.{Jump, Branch, Call, Ret}
use Rattle.tac_core.specs.declared.code.Block.{Block}
use Rattle.tac_core.specs.declared.code.TacFunc.{TacFunc}
use Rattle.tac_core.specs.Counts.{IsTargetOf, LeadsTo}
use Rattle.tac_core.specs.Cover.{Origins}
use Rattle.tac_core.specs.Traces.{Labels}
use Rattle.tail_dup.specs.Duplicated.{IsBehind, IsFirst, AreCopies, HasDuplicate}

-- no label stands twice
abbrev pub AreApart : Labels → Type 0
AreApart chain = (j k l : ℕ) → slice_get chain j ≡ Some l → slice_get chain k ≡ Some l → j ≡ k

-- the labels are of so many blocks
abbrev pub AreWithin : (blocks : ℕ) → Labels → Type 0
AreWithin blocks chain = (k l : ℕ) → slice_get chain k ≡ Some l → l < blocks

-- up to a place, each block of a chain but the first has the block before it, and no other block has changed
pub record IsJoined (chain : Labels) (upto : ℕ) (old new : List (Option ℕ)) : Type 0 where
  pub many : length new ≡ length old
  pub joined : (k l m : ℕ) → suc k < upto → slice_get chain k ≡ Some l → slice_get chain (suc k) ≡ Some m → slice_get new m ≡ Some (Some l)
  pub others : (m : ℕ) → ((k : ℕ) → suc k < upto → slice_get chain (suc k) ≡ Some m → ⊥) → slice_get new m ≡ slice_get old m

-- each block has the block before it in its chain, a first block none
pub record AreBefore (blocks : ℕ) (chains : List Labels) (before : List (Option ℕ)) : Type 0 where
  pub many : length before ≡ blocks
  pub behind : (l m : ℕ) → IsBehind chains l m → slice_get before m ≡ Some (Some l)
  pub first : (m : ℕ) → IsFirst chains m → slice_get before m ≡ Some None

-- each target of an end is one of so many blocks
abbrev pub AreBlocks : (blocks : ℕ) → End → Type 0
AreBlocks blocks e = (t : ℕ) → IsTargetOf e t → t < blocks

abbrev pub AreAllBlocks : List Block → Type 0
AreAllBlocks blocks = (l : ℕ) (b : Block) → slice_get blocks l ≡ Some b → AreBlocks (length blocks) b.«end»

-- a block before the target is another than the one that the edge leaves
abbrev pub is_aside : Option (Option ℕ) → (from : ℕ) → Bool
is_aside None from = false
is_aside (Some None) from = false
is_aside (Some (Some l)) from = not (l == from)

abbrev pub marked : (before : List (Option ℕ)) (from : ℕ) → List Bool → (to : ℕ) → List Bool
marked before from entered to = if is_aside (slice_get before to) from then slice_set entered to true else entered

abbrev pub marked_end : (before : List (Option ℕ)) (from : ℕ) → List Bool → End → List Bool
marked_end before from entered (Jump l) = marked before from entered l
marked_end before from entered (Branch r y n) = marked before from (marked before from entered y) n
marked_end before from entered (Call d f args l) = marked before from entered l
marked_end before from entered (Ret r) = entered

abbrev pub is_entered : List Bool → ℕ → Bool
is_entered entered l = slice_index_or entered l false

-- one of the first blocks has an edge to m that comes from aside
pub record HasEntrance (blocks : List Block) (before : List (Option ℕ)) (upto m : ℕ) : Type 0 where
  pub from : ℕ
  pub early : from < upto
  pub leads : LeadsTo (slice_get blocks from) m
  pub aside : is_aside (slice_get before m) from ≡ true

-- which blocks have entrances from the first blocks
pub record AreEntered (blocks : List Block) (before : List (Option ℕ)) (upto : ℕ) (entered : List Bool) : Type 0 where
  pub many : length entered ≡ length blocks
  pub tells : (m : ℕ) → (is_entered entered m ≡ true) ↔ HasEntrance blocks before upto m

-- the labels of the first copies, by the label that they copy
pub record AreCopyLabels (blocks : ℕ) (copies : List ℕ) (upto : ℕ) (of : List (Option ℕ)) : Type 0 where
  pub many : length of ≡ blocks
  pub true' : (m l : ℕ) → slice_get of m ≡ Some (Some l) → (i : ℕ) × (slice_get copies i ≡ Some m) × (l ≡ blocks + i)
  pub all : (i m : ℕ) → i < upto → slice_get copies i ≡ Some m → (l : ℕ) × (slice_get of m ≡ Some (Some l))

-- a block's copy
abbrev pub copied_label : Option (Option ℕ) → ℕ → ℕ
copied_label None l = l
copied_label (Some None) l = l
copied_label (Some (Some copy)) l = copy

abbrev pub leaves_it : Option ℕ → ℕ → Bool
leaves_it None l = false
leaves_it (Some from) l = from == l

-- where an edge leads, by the block before its target and the target's copy
abbrev pub led_by : Option (Option ℕ) → Option (Option ℕ) → (leaves : Option ℕ) → ℕ → ℕ
led_by None copy leaves to = to
led_by (Some None) copy leaves to = to
led_by (Some (Some l)) copy leaves to = if leaves_it leaves l then to else copied_label copy to

abbrev pub led : (before copies : List (Option ℕ)) (leaves : Option ℕ) → ℕ → ℕ
led before copies leaves to = led_by (slice_get before to) (slice_get copies to) leaves to

abbrev pub led_end : (before copies : List (Option ℕ)) (leaves : Option ℕ) → End → End
led_end before copies leaves (Jump l) = Jump (led before copies leaves l)
led_end before copies leaves (Branch r y n) = Branch r (led before copies leaves y) (led before copies leaves n)
led_end before copies leaves (Call d f args l) = Call d f args (led before copies leaves l)
led_end before copies leaves (Ret r) = Ret r

abbrev pub led_block : (before copies : List (Option ℕ)) (leaves : Option ℕ) → Block → Block
led_block before copies leaves b = record { ops = b.ops; «end» = led_end before copies leaves b.«end»; end_stmt = b.end_stmt }

-- what is known of a function's blocks: the block before each in its chain, the copied ones, and the copy of each
pub record AreTables (f : TacFunc) (chains : List Labels) (before : List (Option ℕ)) (copied : List ℕ) (copies : List (Option ℕ)) : Type 0 where
  pub priors : AreBefore (length f.blocks) chains before
  pub chosen : AreCopies f chains copied
  pub labels : AreCopyLabels (length f.blocks) copied (length copied) copies

-- the first blocks of a function, with their edges led
pub record AreGiven (blocks : List Block) (before copies : List (Option ℕ)) (upto : ℕ) (made : List Block) : Type 0 where
  pub many : length made ≡ upto
  pub each : (l : ℕ) (b : Block) → l < upto → slice_get blocks l ≡ Some b → slice_get made l ≡ Some (led_block before copies (Some l) b)

-- the copies of the first of these blocks, with their edges led
pub record AreMade (blocks : List Block) (copied : List ℕ) (before copies : List (Option ℕ)) (upto : ℕ) (made : List Block) : Type 0 where
  pub many : length made ≡ upto
  pub each : (i m : ℕ) (b : Block) → i < upto → slice_get copied i ≡ Some m → slice_get blocks m ≡ Some b → slice_get made i ≡ Some (led_block before copies None b)

-- the blocks of a duplicate: the given ones and the copies behind them, with their edges led
pub record AreAll (blocks : List Block) (copied : List ℕ) (before copies : List (Option ℕ)) (all : List Block) : Type 0 where
  pub given : List Block
  pub made : List Block
  pub are_given : AreGiven blocks before copies (length blocks) given
  pub are_made : AreMade blocks copied before copies (length copied) made
  pub whole : all ≡ given ++ made

pub record IsRebuilt (f : TacFunc) (copied : List ℕ) (before copies : List (Option ℕ)) (g : TacFunc) : Type 0 where
  pub name : g.name ≡ f.name
  pub params : g.params ≡ f.params
  pub regs : g.regs ≡ f.regs
  pub frame : g.frame ≡ f.frame
  pub blocks : AreAll f.blocks copied before copies g.blocks

-- each target of a function's blocks is a block of it
abbrev pub AreAllTargets : List TacFunc → Type 0
AreAllTargets funcs = (i : ℕ) (f : TacFunc) → slice_get funcs i ≡ Some f → AreAllBlocks f.blocks

-- the first functions of a program, duplicated
pub record AreParts (funcs : List TacFunc) (traces : List (List Labels)) (upto : ℕ) (made : List TacFunc) (chained : List (List Labels)) (origins : List Origins) : Type 0 where
  pub many : length made ≡ upto
  pub many_chained : length chained ≡ upto
  pub many_origins : length origins ≡ upto
  pub each : (i : ℕ) (f : TacFunc) (chains : List Labels) → i < upto → slice_get funcs i ≡ Some f → slice_get traces i ≡ Some chains → HasDuplicate f chains (slice_get made i) (slice_get chained i) (slice_get origins i)
