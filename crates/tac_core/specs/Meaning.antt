-- What a three-address program does, one operation or end of a block a step.
use Rattle.std.specs.Prelude.{ℕ, zero, suc, ◌+◌, ◌*◌, ◌/◌, List, [], ◌∷◌, Option, Some, None, Result, Ok, Err, ℤ, pos, negsuc, map, replicate, slice_get, slice_index_or, slice_set, Bool, true, false, ◌||◌, nat_lt, nat_le, length, unsigned_abs}
use Rattle.std.specs.Int.{w64, cast_unsigned, int_rem_euclid}
use Rattle.std.specs.Fmt.{signed_decimal}
use Rattle.ib_base.specs.declared.integers.Width.TheVariants.{W4}
use Rattle.ib_base.specs.Integers.{wrapped}
use Rattle.ib_mem.specs.Memory.{zeros, filled, cleared, stored}
use Rattle.ib_meaning.specs.declared.place.Place.{Place}
use Rattle.ib_meaning.specs.declared.fault.FaultKind.{FaultKind}
use Rattle.ib_meaning.specs.declared.fault.FaultKind.TheVariants.{BadAddress, StackOverflow}
use Rattle.ib_meaning.specs.Agreement.{Meaning, Returned, Faulted}
use Rattle.ib_meaning.specs.Machine.{Machine, Step, Goes, Stops, means}
use Rattle.ib_act.specs.declared.act.Act.{Act}
use Rattle.ib_act.specs.declared.act.Act.TheVariants.{Store, Get, PutByte, PutNumber}
use Rattle.tac_core.specs.declared.code.TacOp.{TacOp}
use Rattle.tac_core.specs.declared.code.End.{End}
use Rattle.tac_core.specs.declared.code.End.TheVariants.{Jump, Branch, Call, Ret}
use Rattle.tac_core.specs.declared.code.Block.{Block}
use Rattle.tac_core.specs.declared.code.TacFunc.{TacFunc}
use Rattle.ib_act.specs.Acts.{target, first_source, second_source, given, address, bytes_in}
use Rattle.tac_core.specs.Program.{Program, main_of}

-- what an operation does to the registers, the memory, the input that is left and the output
pub data Effect : Type 0 where
  Does : (regs : List ℤ) (memory left printed : List ℕ) → Effect
  Fails : (kind : FaultKind) → Effect

abbrev pub reg_of : List ℤ → ℕ → ℤ
reg_of regs r = slice_index_or regs r (pos 0)

-- the number in a register that may be missing
abbrev pub number_in : List ℤ → Option ℕ → ℤ
number_in regs None = pos 0
number_in regs (Some r) = reg_of regs r

abbrev pub set_in : List ℤ → Option ℕ → ℤ → List ℤ
set_in regs None v = regs
set_in regs (Some r) v = slice_set regs r v

abbrev pub writes : Option ℕ → Result ℤ FaultKind → (regs : List ℤ) (memory left : List ℕ) → Effect
writes to (Ok v) regs memory left = Does (set_in regs to v) memory left []
writes to (Err kind) regs memory left = Fails kind

abbrev pub stores : Option (List ℕ) → (regs : List ℤ) (left : List ℕ) → Effect
stores None regs left = Fails BadAddress
stores (Some memory) regs left = Does regs memory left []

abbrev pub takes : (to : ℕ) (regs : List ℤ) (memory left : List ℕ) → Effect
takes to regs memory [] = Does (slice_set regs to (negsuc 0)) memory [] []
takes to regs memory (x ∷ left) = Does (slice_set regs to (pos x)) memory left []

abbrev pub byte_of : ℤ → ℕ
byte_of v = unsigned_abs (int_rem_euclid v (pos 256))

-- an operation, from the numbers of its sources
abbrev pub effect_by : Act → (base : ℕ) (regs : List ℤ) (memory left : List ℕ) (x y : ℤ) → Effect
effect_by (Store width to offset from) base regs memory left x y = stores (stored memory (address x offset) (bytes_in width) (cast_unsigned w64 y)) regs left
effect_by (Get to) base regs memory left x y = takes to regs memory left
effect_by (PutByte from) base regs memory left x y = Does regs memory left (byte_of x ∷ [])
effect_by (PutNumber from) base regs memory left x y = Does regs memory left (signed_decimal x)
effect_by act base regs memory left x y = writes (target act) (given act base memory x y) regs memory left

unfoldable pub effect_of : Act → (base : ℕ) (regs : List ℤ) (memory left : List ℕ) → Effect
effect_of act base regs memory left =
    effect_by act base regs memory left (number_in regs (first_source act)) (number_in regs (second_source act))

-- the function that runs: its block, its frame's base, its registers, and what is left of the block
pub record Here : Type 0 where
  pub func : ℕ
  pub label : ℕ
  pub base : ℕ
  pub regs : List ℤ
  pub ops : List TacOp

-- a function that waits for a call: the block that called, where its result goes and which block is next
pub record Waiting : Type 0 where
  pub func : ℕ
  pub label : ℕ
  pub base : ℕ
  pub regs : List ℤ
  pub dest : Option ℕ
  pub next : ℕ

-- Lost is where a function or a block is missing; it stays so
pub data State : Type 0 where
  Lost : State
  In : (here : Here) (waiting : List Waiting) (memory : List ℕ) → State

-- the block of a label in a function
abbrev pub block_of : Option TacFunc → ℕ → Option Block
block_of None l = None
block_of (Some f) l = slice_get f.blocks l

abbrev pub frame_of : Option TacFunc → ℕ
frame_of None = 0
frame_of (Some f) = f.frame

abbrev pub enter : Option Block → (func label base : ℕ) → List ℤ → List Waiting → List ℕ → State
enter None func label base regs waiting memory = Lost
enter (Some b) func label base regs waiting memory =
    In (record { func = func; label = label; base = base; regs = regs; ops = b.ops }) waiting memory

-- the start of a block
abbrev pub go : List TacFunc → (func label base : ℕ) → List ℤ → List Waiting → List ℕ → State
go funcs func label base regs waiting memory =
    enter (block_of (slice_get funcs func) label) func label base regs waiting memory

abbrev pub set_all : List ℤ → List ℕ → List ℤ → List ℤ
set_all regs [] values = regs
set_all regs (p ∷ ps) [] = regs
set_all regs (p ∷ ps) (v ∷ vs) = set_all (slice_set regs p v) ps vs

-- a register is 0 unless it is a parameter
abbrev pub first_regs : Option TacFunc → List ℤ → List ℤ
first_regs None values = []
first_regs (Some f) values = set_all (replicate f.regs (pos 0)) f.params values

-- a function begins, in a frame of zeros
abbrev pub call : List TacFunc → (func base : ℕ) → List ℤ → List Waiting → List ℕ → State
call funcs func base values waiting memory =
    go funcs func 0 base (first_regs (slice_get funcs func) values) waiting (cleared memory base (frame_of (slice_get funcs func)))

abbrev pub max_depth : ℕ
max_depth = 4096

-- one call more would be too deep, or its frame would not end within the memory
abbrev pub overflows : (calls : ℕ) (base frame : ℕ) → Bool
overflows calls base frame = nat_le max_depth (suc calls) || nat_lt 1048576 (base + frame)

abbrev pub place_of : List Place → ℕ → Place
place_of places s = slice_index_or places s (record { line = 1; col = 1 })

-- goes on behind an operation
abbrev pub after_act : Effect → Place → Here → List TacOp → List Waiting → List ℕ → Step State
after_act (Does regs memory left' printed) place here rest waiting left =
    Goes (In (record here { regs = regs; ops = rest }) waiting memory) left' printed
after_act (Fails kind) place here rest waiting left = Stops (Faulted place kind) left []

abbrev pub target_of : ℤ → (yes' no' : ℕ) → ℕ
target_of (pos zero) yes' no' = no'
target_of _ yes' no' = yes'

abbrev pub do_return : List TacFunc → ℤ → List Waiting → List ℕ → List ℕ → Step State
do_return funcs v [] memory left = Stops (Returned (wrapped W4 v)) left []
do_return funcs v (w ∷ waiting) memory left = Goes (go funcs w.func w.next w.base (set_in w.regs w.dest v) waiting memory) left []

abbrev pub do_call : Bool → State → Place → List ℕ → Step State
do_call true callee place left = Stops (Faulted place StackOverflow) left []
do_call false callee place left = Goes callee left []

abbrev pub do_end_of : List TacFunc → End → Place → (func label base : ℕ) → List ℤ → List Waiting → List ℕ → List ℕ → Step State
do_end_of funcs (Jump l) place func label base regs waiting memory left = Goes (go funcs func l base regs waiting memory) left []
do_end_of funcs (Branch r y n) place func label base regs waiting memory left =
    Goes (go funcs func (target_of (reg_of regs r) y n) base regs waiting memory) left []
do_end_of funcs (Call d f args l) place func label base regs waiting memory left =
    let top = base + frame_of (slice_get funcs func) in
    do_call (overflows (length waiting) top (frame_of (slice_get funcs f)))
    (call funcs f top (map (reg_of regs) args) (record { func = func; label = label; base = base; regs = regs; dest = d; next = l } ∷ waiting) memory)
    place left
do_end_of funcs (Ret r) place func label base regs waiting memory left = do_return funcs (number_in regs r) waiting memory left

abbrev pub do_end : List TacFunc → List Place → Option Block → Here → List Waiting → List ℕ → List ℕ → Step State
do_end funcs places None here waiting memory left = Goes Lost left []
do_end funcs places (Some b) here waiting memory left =
    do_end_of funcs b.«end» (place_of places b.end_stmt) here.func here.label here.base here.regs waiting memory left

abbrev pub do_next : List TacOp → List TacFunc → List Place → Here → List Waiting → List ℕ → List ℕ → Step State
do_next [] funcs places here waiting memory left =
    do_end funcs places (block_of (slice_get funcs here.func) here.label) here waiting memory left
do_next (op ∷ rest) funcs places here waiting memory left =
    after_act (effect_of op.act here.base here.regs memory left) (place_of places op.stmt) here rest waiting left

abbrev pub tac_step : List TacFunc → List Place → Machine State
tac_step funcs places Lost left = Goes Lost left []
tac_step funcs places (In here waiting memory) left = do_next here.ops funcs places here waiting memory left

-- where the first frame starts: behind the image, at a multiple of 16
abbrev pub first_frame : (image : ℕ) → ℕ
first_frame image = 4096 + 16 * ((image + 15) / 16)

unfoldable pub first_memory : List ℕ → List ℕ
first_memory image = filled (zeros 1048576) 4096 image

abbrev pub start_at : List TacFunc → (func : ℕ) → (image : List ℕ) → State
start_at funcs func image = call funcs func (first_frame (length image)) [] [] (first_memory image)

-- the meaning of a three-address program
unfoldable pub tac_meaning : Program → Meaning
tac_meaning p = means (tac_step p.funcs p.places) (start_at p.funcs (main_of p) p.image)
