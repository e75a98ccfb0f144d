-- Superblocks in source order, and a program of them, as contracts see them.
use Rattle.std.specs.Prelude.{ℕ, Bool, ◌&&◌, ◌==◌, List, [], ◌∷◌, ◌++◌, if◌then◌else◌}
use Rattle.wide_core.specs.declared.code.WideOp.{WideOp}
use Rattle.tac_core.specs.Cover.{CopiedProgram}

-- a superblock of a function: control enters it at its head alone, which is a label; so are the targets of its items
pub record SuperblockCode : Type 0 where
  pub func : ℕ
  pub head : ℕ
  pub items : List WideOp

-- a copied program and its superblocks
pub record SuperblockProgram : Type 0 where
  pub copied : CopiedProgram
  pub all : List SuperblockCode

abbrev pub is_of : (func head : ℕ) → SuperblockCode → Bool
is_of func head b = (b.func == func) && (b.head == head)

-- the items of the superblock with this head, none where there is no such superblock
abbrev pub items_at : List SuperblockCode → (func head : ℕ) → List WideOp
items_at [] func head = []
items_at (b ∷ bs) func head = if is_of func head b then b.items else items_at bs func head

-- the items of all superblocks, one behind the other
abbrev pub all_items : List SuperblockCode → List WideOp
all_items [] = []
all_items (b ∷ bs) = b.items ++ all_items bs
