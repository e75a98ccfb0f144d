-- What a run does, written as what is done next.
use Rattle.std.specs.Prelude.{ℕ, zero, suc, ℤ, pos, negsuc, List, [], ◌∷◌, ◌++◌, Result, Ok, Err, slice_index_or, slice_set, unsigned_abs}
use Rattle.std.specs.Int.{w64, cast_unsigned}
use Rattle.std.specs.Fmt.{signed_decimal}
use Rattle.ib_base.specs.declared.integers.Width.TheVariants.{W1}
use Rattle.ib_base.specs.Integers.{wrapped}
use Rattle.ib_mem.specs.Memory.{loaded, stored}
use Rattle.ib_meaning.specs.declared.place.Place.{Place}
use Rattle.ib_meaning.specs.declared.fault.FaultKind.{FaultKind}
use Rattle.ib_meaning.specs.Agreement.{Report, More, Over, Faulted}
use Rattle.c_typed.specs.declared.types.ValueType.{ValueType}
use Rattle.c_typed.specs.declared.expr.Storage.{Storage}
use Rattle.c_typed.specs.declared.expr.Storage.TheVariants.{Global, Frame}
use Rattle.c_typed.specs.Program.{Program}
use Rattle.c_typed.specs.ValueTypes.{size_of}
use Rattle.c_typed.specs.Values.{converted, further, accessed}

pub record State : Type 0 where
  -- what is left of it
  pub budget : ℕ
  -- how many calls are open, that of `main` among them
  pub depth : ℕ
  -- where the frame begins and ends
  pub base : ℕ
  pub top : ℕ
  -- the variables of the environment
  pub slots : List ℤ
  pub memory : List ℕ
  -- the input that is left, and what was printed
  pub left : List ℕ
  pub out : List ℕ

abbrev pub Step : Type 0
Step = State → Report

-- what gives an A to the step that is next
abbrev pub Doing : Type 0 → Type 0
Doing A = (A → Step) → Step

infixl 10 ◌>>=◌
abbrev pub ◌>>=◌ : {A B : Type 0} → Doing A → (A → Doing B) → Doing B
m >>= f = λ k. m (λ a. f a k)

infixl 10 ◌>>◌
abbrev pub ◌>>◌ : {A B : Type 0} → Doing A → Doing B → Doing B
m >> f = λ k. m (λ a. f k)

abbrev pub pure : {A : Type 0} → A → Doing A
pure a = λ k. k a

abbrev pub state : Doing State
state = λ k s. k s s

abbrev pub put : State → Doing (Unit {0})
put s = λ k _. k tt s

-- where the budget is spent
abbrev pub stop : Step
stop s = More s.out s.left

abbrev pub fault : Place → FaultKind → Step
fault at kind s = Over (Faulted at kind) s.out s.left

-- the value, or the fault of the statement that stands there
abbrev pub or_fault : {A : Type 0} → Place → Result A FaultKind → Doing A
or_fault at (Ok a) k = k a
or_fault at (Err kind) k = fault at kind

-- one unit of the budget
abbrev pub spend_of : (budget : ℕ) → Step → Step
spend_of zero k s = stop s
spend_of (suc rest) k s = k (record s { budget = rest })

abbrev pub spend : Step → Step
spend k s = spend_of s.budget k s

abbrev pub get_slot : ℕ → Doing ℤ
get_slot n = do
  s ← state
  pure (slice_index_or s.slots n (pos 0))

abbrev pub set_slot : ℕ → ℤ → Doing ℤ
set_slot n v = do
  s ← state
  put (record s { slots = slice_set s.slots n v })
  pure v

abbrev pub storage : Program → (base : ℕ) → Storage → ℤ
storage p base (Global n) = pos (slice_index_or p.globals n 0)
storage p base (Frame offset) = further (pos base) (pos offset)

abbrev pub address_of : Program → Storage → Doing ℤ
address_of p of = do
  s ← state
  pure (storage p s.base of)

abbrev pub load : Place → ValueType → ℤ → Doing ℤ
load at ty address = do
  s ← state
  n ← or_fault at (accessed (loaded s.memory address (size_of ty)))
  pure (converted ty (pos n))

abbrev pub store : Place → ValueType → ℤ → ℤ → Doing ℤ
store at ty address v = do
  s ← state
  memory ← or_fault at (accessed (stored s.memory address (size_of ty) (cast_unsigned w64 v)))
  put (record s { memory = memory })
  pure v

-- -1 at the end of the input
abbrev pub next_of : List ℕ → ℤ
next_of [] = negsuc 0
next_of (byte ∷ rest) = pos byte

abbrev pub behind : List ℕ → List ℕ
behind [] = []
behind (byte ∷ rest) = rest

abbrev pub get_byte : Doing ℤ
get_byte = do
  s ← state
  put (record s { left = behind s.left })
  pure (next_of s.left)

abbrev pub print : List ℕ → Doing (Unit {0})
print bytes = do
  s ← state
  put (record s { out = s.out ++ bytes })

abbrev pub put_byte : ℤ → Doing ℤ
put_byte v = do
  print (unsigned_abs (wrapped W1 v) ∷ [])
  pure (wrapped W1 v)

abbrev pub put_number : ℤ → Doing ℤ
put_number v = do
  print (signed_decimal v)
  pure (pos 0)
