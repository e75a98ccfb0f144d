-- One operation: what it reads and writes, and its effect, from its sources' values alone.
use Rattle.std.specs.Prelude.{ℕ, zero, ℤ, pos, Bool, true, false, List, [], ◌∷◌, ◌++◌, map, Option, Some, None, Result, Ok, Err, if◌then◌else◌}
use Rattle.std.specs.Fmt.{signed_decimal}
use Rattle.ib_base.specs.declared.integers.Width.{Width}
use Rattle.ib_meaning.specs.declared.fault.FaultKind.{FaultKind}
use Rattle.ib_meaning.specs.declared.fault.FaultKind.TheVariants.{BadAddress, StackOverflow}
use Rattle.ib_mem.specs.Memory.{can_access}
use Rattle.ib_act.specs.declared.act.Act.{Act}
use Rattle.ib_act.specs.declared.act.Act.TheVariants.{Store, Get, PutByte, PutNumber}
use Rattle.ib_act.specs.Acts.{address, bytes_in, first_source, second_source, given, target as act_target}
use Rattle.wide_core.specs.Bytes.{byte_of}
use Rattle.wide_core.specs.declared.code.Loc.{Loc}
use Rattle.wide_core.specs.declared.code.Loc.TheVariants.{Reg, Slot}
use Rattle.wide_core.specs.declared.code.Tagged.{Tagged}
use Rattle.wide_core.specs.declared.code.Tagged.TheVariants.{Clear, Mark}
use Rattle.wide_core.specs.declared.code.WideAct.{WideAct}
use Rattle.wide_core.specs.declared.code.WideAct.TheVariants.{Do, Spill, Reload, Check, Jump, Branch, BranchZero, Call, Return}
use Rattle.wide_core.specs.declared.code.WideOp.{WideOp}
use Rattle.wide_core.specs.declared.tags.Done.{Done}
use Rattle.wide_core.specs.declared.tags.Done.TheVariants.{Value, Marked, Report}
use Rattle.wide_core.specs.Tagged.{number_of, least_mark, evaluated}

abbrev pub reg_if : Option ℕ → List Loc
reg_if None = []
reg_if (Some r) = Reg r ∷ []

abbrev pub reg_of : Option ℕ → Option Loc
reg_of None = None
reg_of (Some r) = Some (Reg r)

-- the registers and slots that it reads, in order
abbrev pub sources : WideAct → List Loc
sources (Do act) = reg_if (first_source act) ++ reg_if (second_source act)
sources (Spill to from) = Reg from ∷ []
sources (Reload to from) = Slot from ∷ []
sources (Check from) = Reg from ∷ []
sources (Jump to) = []
sources (Branch from to) = Reg from ∷ []
sources (BranchZero from to) = Reg from ∷ []
sources (Call result func next args) = map (λ r. Reg r) args
sources (Return from) = reg_if from

-- the register or slot that it writes; a call's result is written when it returns
abbrev pub target : WideAct → Option Loc
target (Do act) = reg_of (act_target act)
target (Spill to from) = Some (Slot to)
target (Reload to from) = Some (Reg to)
target (Call result func next args) = result
target act = None

-- where control goes: to a word of the function, or into another function, behind which it goes on at the word `next`
pub data Exit : Type 0 where
  To : (word : ℕ) → Exit
  Into : (func next : ℕ) (result : Option Loc) (args : List ℤ) → Exit

-- what an operation of a word does once all of the word's operations have read
pub data Effect : Type 0 where
  Nothing : Effect
  Write : (to : Loc) (value : Tagged) → Effect
  Save : (width : Width) (address value : ℤ) → Effect
  Take : (to : ℕ) → Effect
  Print : (text : List ℕ) → Effect
  Go : (exit : Exit) → Effect
  Leave : (z : ℤ) → Effect
  Stop : (number : ℕ) (kind : FaultKind) → Effect

-- the first and the second source's number; a source that is not there is 0
abbrev pub first_of : List ℤ → ℤ
first_of [] = pos 0
first_of (x ∷ xs) = x

abbrev pub second_of : List ℤ → ℤ
second_of [] = pos 0
second_of (x ∷ xs) = first_of xs

abbrev pub own_by : Act → (base : ℕ) (memory : List ℕ) (x y : ℤ) → Result ℤ FaultKind
own_by (Store width to offset from) base memory x y = if can_access (address x offset) (bytes_in width) then Ok y else Err BadAddress
own_by act base memory x y = given act base memory x y

-- what it gives by itself, from its sources' numbers: its value, or its own fault; `base` is the frame's, and `room`
-- tells of a function whether there is room for a call of it
abbrev pub own : WideAct → (base : ℕ) (memory : List ℕ) (room : ℕ → Bool) → List ℤ → Result ℤ FaultKind
own (Do act) base memory room numbers = own_by act base memory (first_of numbers) (second_of numbers)
own (Call result func next args) base memory room numbers = if room func then Ok (pos 0) else Err StackOverflow
own act base memory room numbers = Ok (first_of numbers)

abbrev pub is_zero : ℤ → Bool
is_zero (pos zero) = true
is_zero z = false

abbrev pub writes : Option ℕ → ℤ → Effect
writes None v = Nothing
writes (Some to) v = Write (Reg to) (Clear v)

abbrev pub does_act : Act → (x v : ℤ) → Effect
does_act (Store width to offset from) x v = Save width (address x offset) v
does_act (Get to) x v = Take to
does_act (PutByte from) x v = Print (byte_of v ∷ [])
does_act (PutNumber from) x v = Print (signed_decimal v)
does_act act x v = writes (act_target act) v

-- what it does with its value, where nothing is marked and nothing faults
abbrev pub does : WideAct → List ℤ → ℤ → Effect
does (Do act) numbers v = does_act act (first_of numbers) v
does (Spill to from) numbers v = Write (Slot to) (Clear v)
does (Reload to from) numbers v = Write (Reg to) (Clear v)
does (Check from) numbers v = Nothing
does (Jump to) numbers v = Go (To to)
does (Branch from to) numbers v = if is_zero v then Nothing else Go (To to)
does (BranchZero from to) numbers v = if is_zero v then Go (To to) else Nothing
does (Call result func next args) numbers v = Go (Into func next result numbers)
does (Return from) numbers v = Leave v

-- a mark goes where the value would; what writes nothing is not flagged, and would report it
abbrev pub keeps_mark : Option Loc → ℕ → FaultKind → Effect
keeps_mark None number kind = Stop number kind
keeps_mark (Some to) number kind = Write to (Mark number kind)

abbrev pub shown : WideAct → List ℤ → Done → Effect
shown act numbers (Value v) = does act numbers v
shown act numbers (Marked number kind) = keeps_mark (target act) number kind
shown act numbers (Report number kind) = Stop number kind

abbrev pub value_of : List Tagged → Tagged
value_of [] = Clear (pos 0)
value_of (t ∷ ts) = t

-- what is at hand for the operations of a word: the frame's base, the memory, and for which functions there is room
pub record Around : Type 0 where
  pub base : ℕ
  pub memory : List ℕ
  pub room : ℕ → Bool

abbrev pub by_rule : WideAct → WideOp → Around → List Tagged → Effect
by_rule act op around values =
    let numbers = map number_of values in
    shown act numbers (evaluated op.flagged op.number (least_mark values) (own act around.base around.memory around.room numbers))

-- one operation, from its sources' values: by the tag rule, but for the two that copy number and mark alike
abbrev pub effect_by : WideAct → WideOp → Around → List Tagged → Effect
effect_by (Spill to from) op around values = Write (Slot to) (value_of values)
effect_by (Reload to from) op around values = Write (Reg to) (value_of values)
effect_by act op around values = by_rule act op around values

unfoldable pub effect_on : WideOp → Around → List Tagged → Effect
effect_on op around values = effect_by op.act op around values
