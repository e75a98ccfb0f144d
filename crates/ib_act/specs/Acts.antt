-- One operation: what it reads and writes, and the value that it gives, from its sources' numbers.
use Rattle.std.specs.Prelude.{◌≡◌, ℕ, ◌≤◌, ℤ, pos, negsuc, ◌+ℤ◌, ◌-ℤ◌, ◌*ℤ◌, ◌≤ℤ◌, int_le, int_lt, Bool, List, Option, Some, None, Result, Ok, Err, ◌&&◌, if◌then◌else◌}
use Rattle.std.specs.Int.{w64, int_bit_and, int_bit_or, int_bit_xor}
use Rattle.ib_base.specs.declared.integers.Width.{Width}
use Rattle.ib_base.specs.declared.integers.Width.TheVariants.{W1, W4, W8}
use Rattle.ib_base.specs.declared.integers.Cmp.{Cmp}
use Rattle.ib_base.specs.declared.integers.Cmp.TheVariants.{Eq, Ne, Lt, Le}
use Rattle.ib_base.specs.Integers.{wrapped, quotient, remainder, shifted_left, shifted_right, compared}
use Rattle.ib_mem.specs.Memory.{loaded}
use Rattle.ib_meaning.specs.declared.fault.FaultKind.{FaultKind}
use Rattle.ib_meaning.specs.declared.fault.FaultKind.TheVariants.{BadAddress, Bounds as OutOfBounds}
use Rattle.ib_act.specs.declared.act.Size.{Size}
use Rattle.ib_act.specs.declared.act.Size.TheVariants.{Four, Eight}
use Rattle.ib_act.specs.declared.act.Act.{Act}
use Rattle.ib_act.specs.declared.act.Act.TheVariants.{Const, Mov, Add, Sub, And, Or, Xor, ShiftLeft, ShiftRight, Equal, NotEqual, Less, LessEqual, ExtByte, ExtFour, FrameAddress, Bounds, Mul, Div, Rem, Load, Store, Get, PutByte, PutNumber}

abbrev pub width_of : Size → Width
width_of Four = W4
width_of Eight = W8

abbrev pub bytes_in : Width → ℕ
bytes_in W1 = 1
bytes_in W4 = 4
bytes_in W8 = 8

-- the register that it writes
abbrev pub target : Act → Option ℕ
target (Const to value) = Some to
target (Mov to from) = Some to
target (Add size to left right) = Some to
target (Sub size to left right) = Some to
target (And to left right) = Some to
target (Or to left right) = Some to
target (Xor to left right) = Some to
target (ShiftLeft size to left right) = Some to
target (ShiftRight size to left right) = Some to
target (Equal to left right) = Some to
target (NotEqual to left right) = Some to
target (Less to left right) = Some to
target (LessEqual to left right) = Some to
target (ExtByte to from) = Some to
target (ExtFour to from) = Some to
target (FrameAddress to offset) = Some to
target (Bounds to from bound) = Some to
target (Mul size to left right) = Some to
target (Div size to left right) = Some to
target (Rem size to left right) = Some to
target (Load width to base offset) = Some to
target (Store width base offset from) = None
target (Get to) = Some to
target (PutByte from) = None
target (PutNumber from) = None

-- the registers that it reads
abbrev pub first_source : Act → Option ℕ
first_source (Const to value) = None
first_source (Mov to from) = Some from
first_source (Add size to left right) = Some left
first_source (Sub size to left right) = Some left
first_source (And to left right) = Some left
first_source (Or to left right) = Some left
first_source (Xor to left right) = Some left
first_source (ShiftLeft size to left right) = Some left
first_source (ShiftRight size to left right) = Some left
first_source (Equal to left right) = Some left
first_source (NotEqual to left right) = Some left
first_source (Less to left right) = Some left
first_source (LessEqual to left right) = Some left
first_source (ExtByte to from) = Some from
first_source (ExtFour to from) = Some from
first_source (FrameAddress to offset) = None
first_source (Bounds to from bound) = Some from
first_source (Mul size to left right) = Some left
first_source (Div size to left right) = Some left
first_source (Rem size to left right) = Some left
first_source (Load width to base offset) = Some base
first_source (Store width base offset from) = Some base
first_source (Get to) = None
first_source (PutByte from) = Some from
first_source (PutNumber from) = Some from

abbrev pub second_source : Act → Option ℕ
second_source (Add size to left right) = Some right
second_source (Sub size to left right) = Some right
second_source (And to left right) = Some right
second_source (Or to left right) = Some right
second_source (Xor to left right) = Some right
second_source (ShiftLeft size to left right) = Some right
second_source (ShiftRight size to left right) = Some right
second_source (Equal to left right) = Some right
second_source (NotEqual to left right) = Some right
second_source (Less to left right) = Some right
second_source (LessEqual to left right) = Some right
second_source (Mul size to left right) = Some right
second_source (Div size to left right) = Some right
second_source (Rem size to left right) = Some right
second_source (Store width base offset from) = Some from
second_source act = None

-- an access reaches at most 2 ^ 20 bytes from its base
abbrev pub IsOffset : ℤ → Type 0
IsOffset offset = (negsuc 1048575 ≤ℤ offset) × (offset ≤ℤ pos 1048576)

-- the numbers that it holds are in range: an access's offset, and a bound
abbrev pub HasGoodNumber : Act → Type 0
HasGoodNumber (Load width to base offset) = IsOffset offset
HasGoodNumber (Store width base offset from) = IsOffset offset
HasGoodNumber (Bounds to from bound) = pos 1 ≤ℤ bound
HasGoodNumber act = Unit {0}

abbrev pub truth : Bool → ℤ
truth b = if b then pos 1 else pos 0

-- a quotient or remainder is of the operands wrapped to the size
abbrev pub of_wrapped : (Width → ℤ → ℤ → Result ℤ FaultKind) → Size → ℤ → ℤ → Result ℤ FaultKind
of_wrapped rule size a b = rule (width_of size) (wrapped (width_of size) a) (wrapped (width_of size) b)

-- the address that an access reaches
abbrev pub address : ℤ → ℤ → ℤ
address base offset = wrapped W8 (base +ℤ offset)

abbrev pub read_as : Width → Option ℕ → Result ℤ FaultKind
read_as width None = Err BadAddress
read_as width (Some n) = Ok (wrapped width (pos n))

abbrev pub in_bounds : ℤ → ℤ → Result ℤ FaultKind
in_bounds index bound = if int_le (pos 0) index && int_lt index bound then Ok index else Err OutOfBounds

-- the value that it gives, or its fault, from its first and its second source's numbers; `base` is the frame's
abbrev pub given : Act → (base : ℕ) (memory : List ℕ) (x y : ℤ) → Result ℤ FaultKind
given (Const to value) base memory x y = Ok value
given (Mov to from) base memory x y = Ok x
given (Add size to left right) base memory x y = Ok (wrapped (width_of size) (x +ℤ y))
given (Sub size to left right) base memory x y = Ok (wrapped (width_of size) (x -ℤ y))
given (And to left right) base memory x y = Ok (int_bit_and w64 x y)
given (Or to left right) base memory x y = Ok (int_bit_or w64 x y)
given (Xor to left right) base memory x y = Ok (int_bit_xor w64 x y)
given (ShiftLeft size to left right) base memory x y = Ok (shifted_left (width_of size) (wrapped (width_of size) x) y)
given (ShiftRight size to left right) base memory x y = Ok (shifted_right (width_of size) (wrapped (width_of size) x) y)
given (Equal to left right) base memory x y = Ok (truth (compared Eq x y))
given (NotEqual to left right) base memory x y = Ok (truth (compared Ne x y))
given (Less to left right) base memory x y = Ok (truth (compared Lt x y))
given (LessEqual to left right) base memory x y = Ok (truth (compared Le x y))
given (ExtByte to from) base memory x y = Ok (wrapped W1 x)
given (ExtFour to from) base memory x y = Ok (wrapped W4 x)
given (FrameAddress to offset) base memory x y = Ok (address (pos base) offset)
given (Bounds to from bound) base memory x y = in_bounds x bound
given (Mul size to left right) base memory x y = Ok (wrapped (width_of size) (x *ℤ y))
given (Div size to left right) base memory x y = of_wrapped quotient size x y
given (Rem size to left right) base memory x y = of_wrapped remainder size x y
given (Load width to from offset) base memory x y = read_as width (loaded memory (address x offset) (bytes_in width))
given act base memory x y = Ok x
