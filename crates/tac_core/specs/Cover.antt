-- When a program is a copy of another, with blocks that stand several times.
use Rattle.std.specs.Prelude.{◌≡◌, ℕ, zero, suc, ◌*◌, ◌<◌, ◌≤◌, List, [], ◌∷◌, ◌++◌, Option, Some, None, length, map, slice_get, slice_index_or}
use Rattle.tac_core.specs.declared.code.End.{End}
use Rattle.tac_core.specs.declared.code.End.TheVariants.{Jump, Branch, Call, Ret}
use Rattle.tac_core.specs.declared.code.Block.{Block}
use Rattle.tac_core.specs.declared.code.TacFunc.{TacFunc}
use Rattle.tac_core.specs.Program.{Program, names, func_ops}

-- the origins of a function's labels, by label
abbrev pub Origins : Type 0
Origins = List ℕ

-- label l of the copy comes from o
abbrev pub IsFrom : Origins → ℕ → ℕ → Type 0
IsFrom origins l o = slice_get origins l ≡ Some o

-- the copy's end is the origin's, but for its labels, which come from the origin's, each in its place
abbrev pub IsEndFrom : Origins → (copy origin : End) → Type 0
IsEndFrom origins (Jump l) (Jump o) = IsFrom origins l o
IsEndFrom origins (Branch r y n) (Branch r' y' n') = (r ≡ r') × IsFrom origins y y' × IsFrom origins n n'
IsEndFrom origins (Call d f args l) (Call d' f' args' o) = (d ≡ d') × (f ≡ f') × (args ≡ args') × IsFrom origins l o
IsEndFrom origins (Ret r) (Ret r') = r ≡ r'
IsEndFrom origins _ _ = ⊥

-- the copied block has the origin's operations, statements and end
pub record IsBlockFrom (origins : Origins) (copy origin : Block) : Type 0 where
  pub ops : copy.ops ≡ origin.ops
  pub end_stmt : copy.end_stmt ≡ origin.end_stmt
  pub ends : IsEndFrom origins copy.«end» origin.«end»

pub record IsFuncFrom (origins : Origins) (copy origin : TacFunc) : Type 0 where
  pub params : copy.params ≡ origin.params
  pub regs : copy.regs ≡ origin.regs
  pub frame : copy.frame ≡ origin.frame
  pub long : length origins ≡ length copy.blocks
  pub entry : IsFrom origins 0 0
  pub each : (l o : ℕ) → IsFrom origins l o → (b : Block) × (c : Block) × (slice_get copy.blocks l ≡ Some b) × (slice_get origin.blocks o ≡ Some c) × IsBlockFrom origins b c

-- both functions are there, or neither
abbrev pub AreFuncsFrom : Option Origins → (copy origin : Option TacFunc) → Type 0
AreFuncsFrom (Some origins) (Some copy) (Some origin) = IsFuncFrom origins copy origin
AreFuncsFrom None None None = Unit {0}
AreFuncsFrom _ _ _ = ⊥

-- the copy covers the origin
pub record Covers (origins : List Origins) (copy origin : Program) : Type 0 where
  pub image : copy.image ≡ origin.image
  pub places : copy.places ≡ origin.places
  pub named : names copy ≡ names origin
  pub funcs : (f : ℕ) → AreFuncsFrom (slice_get origins f) (slice_get copy.funcs f) (slice_get origin.funcs f)

abbrev pub origin_of : Option Origins → ℕ → Option ℕ
origin_of None l = None
origin_of (Some origins) l = slice_get origins l

abbrev pub IsBlockOf : Option TacFunc → ℕ → Type 0
IsBlockOf None l = ⊥
IsBlockOf (Some f) l = l < length f.blocks

-- each block of the origin is the origin of some block
abbrev pub HasEachBlock : List Origins → (origin : Program) → Type 0
HasEachBlock origins origin = (f o : ℕ) → IsBlockOf (slice_get origin.funcs f) o → (l : ℕ) × (origin_of (slice_get origins f) l ≡ Some o)

-- a function of the copy has at most so many times the operations of its origin
abbrev pub AreWithin : (times : ℕ) → Option TacFunc → Option TacFunc → Type 0
AreWithin times (Some copy) (Some origin) = func_ops copy ≤ times * func_ops origin
AreWithin times copy origin = Unit {0}

-- each function of the copy has at most so many times the operations of its origin
abbrev pub AreFew : (times : ℕ) → (copy origin : Program) → Type 0
AreFew times copy origin = (f : ℕ) → AreWithin times (slice_get copy.funcs f) (slice_get origin.funcs f)

-- a copied program: the copy, the program it came from, and the origins of its labels
pub record CopiedProgram : Type 0 where
  pub tac : Program
  pub from : Program
  pub origins : List Origins

-- the numbers below n
abbrev pub upto : ℕ → List ℕ
upto zero = []
upto (suc n) = upto n ++ n ∷ []

-- each function's own labels
abbrev pub own_labels : List TacFunc → List Origins
own_labels funcs = map (λ f. upto (length f.blocks)) funcs

-- the origins of a copy's copy
abbrev pub origins_through : (first second : Origins) → Origins
origins_through first second = map (λ l. slice_index_or second l 0) first

abbrev pub all_through : (first second : List Origins) → List Origins
all_through (x ∷ xs) (y ∷ ys) = origins_through x y ∷ all_through xs ys
all_through _ _ = []
