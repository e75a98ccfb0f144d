-- What a run of a valid program keeps: its calls are of the program's functions, in blocks that are there.
use Rattle.std.specs.Prelude.{◌≡◌, ℕ, ◌+◌, ◌<◌, ◌≤◌, ℤ, List, [], ◌∷◌, Some, IsSomeAnd, length, slice_get}
use Rattle.std.specs.List.{All}
use Rattle.tac_core.specs.declared.code.End.{End}
use Rattle.tac_core.specs.declared.code.Block.{Block}
use Rattle.tac_core.specs.declared.code.TacFunc.{TacFunc}
use Rattle.tac_core.specs.Program.{Program}
use Rattle.tac_core.specs.Meaning.{Here, Waiting, State, In}
use Rattle.tac_core.specs.Rules.{IsRegister, IsGoodOp, IsGoodEnd, IsGoodFunc, IsValid}

-- a call of a function, with its registers, in a frame that ends within the memory
pub record IsCall (p : Program) (func base : ℕ) (regs : List ℤ) : Type 0 where
  pub f : TacFunc
  pub there : slice_get p.funcs func ≡ Some f
  pub good : IsGoodFunc (length p.places) p.funcs f
  pub regs_are : length regs ≡ f.regs
  pub fits : base + f.frame ≤ 1048576

-- the function has this block
abbrev pub IsBlock : Program → (func label : ℕ) → Type 0
IsBlock p func label = IsSomeAnd (slice_get p.funcs func) (λ f. label < length f.blocks)

-- the end may stand in a block of the function
abbrev pub IsGoodEndOf : Program → (func : ℕ) → End → Type 0
IsGoodEndOf p func e = IsSomeAnd (slice_get p.funcs func) (λ f. IsGoodEnd f.regs (length f.blocks) p.funcs e)

-- the call at hand stands in a block, with good operations left
pub record IsHere (p : Program) (here : Here) : Type 0 where
  pub call : IsCall p here.func here.base here.regs
  pub block : Block
  pub there : slice_get call.f.blocks here.label ≡ Some block
  pub ops : All (IsGoodOp call.f.regs (length p.places)) here.ops

-- a call that waits goes on in a block that is there
pub record IsWaiting (p : Program) (w : Waiting) : Type 0 where
  pub call : IsCall p w.func w.base w.regs
  pub dest : IsRegister (length w.regs) w.dest
  pub next : IsBlock p w.func w.next

abbrev pub AllWait : Program → List Waiting → Type 0
AllWait p [] = Unit {0}
AllWait p (w ∷ waiting) = IsWaiting p w × AllWait p waiting

-- a program that runs: the call at hand, the calls that wait, and the memory
pub record Running : Type 0 where
  pub program : Program
  pub here : Here
  pub waiting : List Waiting
  pub memory : List ℕ

abbrev pub state_of : Running → State
state_of r = In r.here r.waiting r.memory

pub record IsSound (r : Running) : Type 0 where
  pub valid : IsValid r.program
  pub here : IsHere r.program r.here
  pub waiting : AllWait r.program r.waiting
  pub deep : length r.waiting < 4096
