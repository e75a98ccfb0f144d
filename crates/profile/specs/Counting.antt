-- Which edge a step takes, which function it enters, and how often a run does so.
use Rattle.std.specs.Prelude.{◌≡◌, ℕ, ◌+◌, ◌<◌, ◌==◌, ◌&&◌, min, Bool, false, if◌then◌else◌, ℤ, List, [], ◌∷◌, Option, Some, None, length, slice_get}
use Rattle.ib_run.specs.Path.{one_if, count_of}
use Rattle.tac_core.specs.declared.code.TacOp.{TacOp}
use Rattle.tac_core.specs.declared.code.End.{End}
use Rattle.tac_core.specs.declared.code.End.TheVariants.{Jump, Branch, Call, Ret}
use Rattle.tac_core.specs.declared.code.Block.{Block}
use Rattle.tac_core.specs.declared.code.TacFunc.{TacFunc}
use Rattle.tac_core.specs.declared.counts.FuncCounts.{FuncCounts}
use Rattle.tac_core.specs.Program.{Program, main_of}
use Rattle.tac_core.specs.Meaning.{State, Lost, In, Here, Waiting, block_of, frame_of, overflows, reg_of, target_of, start_at, tac_step}
use Rattle.tac_core.specs.Counts.{HasEdge, edge_count, edges_of, entries_of}

-- an edge of a function, from one block to another
pub record Crossing : Type 0 where
  pub func : ℕ
  pub from : ℕ
  pub to : ℕ

-- the edge of a block that ends with a call is taken when the call returns
abbrev pub return_crosses : List Waiting → Option Crossing
return_crosses [] = None
return_crosses (w ∷ waiting) = Some (record { func = w.func; from = w.label; to = w.next })

abbrev pub end_crosses : End → (func label : ℕ) → List ℤ → List Waiting → Option Crossing
end_crosses (Jump l) func label regs waiting = Some (record { func = func; from = label; to = l })
end_crosses (Branch r y n) func label regs waiting = Some (record { func = func; from = label; to = target_of (reg_of regs r) y n })
end_crosses (Call d f args l) func label regs waiting = None
end_crosses (Ret r) func label regs waiting = return_crosses waiting

abbrev pub block_crosses : Option Block → Here → List Waiting → Option Crossing
block_crosses None here waiting = None
block_crosses (Some b) here waiting = end_crosses b.«end» here.func here.label here.regs waiting

abbrev pub crosses_behind : List TacOp → List TacFunc → Here → List Waiting → Option Crossing
crosses_behind [] funcs here waiting = block_crosses (block_of (slice_get funcs here.func) here.label) here waiting
crosses_behind (op ∷ ops) funcs here waiting = None

-- the edge that the step from a state takes
abbrev pub crossed : List TacFunc → State → Option Crossing
crossed funcs Lost = None
crossed funcs (In here waiting memory) = crosses_behind here.ops funcs here waiting

abbrev pub end_enters : List TacFunc → End → (func base : ℕ) → List Waiting → Option ℕ
end_enters funcs (Call d f args l) func base waiting =
    if overflows (length waiting) (base + frame_of (slice_get funcs func)) (frame_of (slice_get funcs f)) then None else Some f
end_enters funcs end' func base waiting = None

abbrev pub block_enters : Option Block → List TacFunc → Here → List Waiting → Option ℕ
block_enters None funcs here waiting = None
block_enters (Some b) funcs here waiting = end_enters funcs b.«end» here.func here.base waiting

abbrev pub enters_behind : List TacOp → List TacFunc → Here → List Waiting → Option ℕ
enters_behind [] funcs here waiting = block_enters (block_of (slice_get funcs here.func) here.label) funcs here waiting
enters_behind (op ∷ ops) funcs here waiting = None

-- the function that the step from a state enters
abbrev pub entered : List TacFunc → State → Option ℕ
entered funcs Lost = None
entered funcs (In here waiting memory) = enters_behind here.ops funcs here waiting

abbrev pub is_crossing : (f a b : ℕ) → Option Crossing → Bool
is_crossing f a b None = false
is_crossing f a b (Some c) = (c.func == f) && ((c.from == a) && (c.to == b))

abbrev pub is_entry : (f : ℕ) → Option ℕ → Bool
is_entry f None = false
is_entry f (Some g) = g == f

abbrev pub start_of : Program → State
start_of p = start_at p.funcs (main_of p) p.image

-- how often a run of n steps takes the edge of function f from a to b
unfoldable pub crossings : Program → (input : List ℕ) → (n : ℕ) → (f a b : ℕ) → ℕ
crossings p input n f a b = count_of (tac_step p.funcs p.places) (λ s. is_crossing f a b (crossed p.funcs s)) n (start_of p) input

-- how often it enters the function f; `main` is entered at its start
unfoldable pub entries : Program → (input : List ℕ) → (n : ℕ) → (f : ℕ) → ℕ
entries p input n f = one_if (f == main_of p) + count_of (tac_step p.funcs p.places) (λ s. is_entry f (entered p.funcs s)) n (start_of p) input

-- a count stays at the last value below 2 ^ 63
abbrev pub held : ℕ → ℕ
held n = min n 9223372036854775807

-- the counts are those of a run of n steps
pub record AreCounted (p : Program) (input : List ℕ) (n : ℕ) (counts : List FuncCounts) : Type 0 where
  pub entered_so : (f : ℕ) → f < length p.funcs → entries_of (slice_get counts f) ≡ held (entries p input n f)
  pub taken_so : (f : ℕ) (func : TacFunc) (a b : ℕ) → slice_get p.funcs f ≡ Some func → HasEdge func a b → edge_count a b (edges_of (slice_get counts f)) ≡ held (crossings p input n f a b)
