-- What the planned effects of a word come to: where control goes, the text, the input, registers and slots, the memory.
use Rattle.std.specs.Prelude.{◌≡◌, ℕ, suc, ℤ, pos, negsuc, Bool, true, false, Option, Some, None, List, [], ◌∷◌, ◌++◌, if◌then◌else◌}
use Rattle.std.specs.Fmt.{signed_decimal}
use Rattle.ib_base.specs.World.{World}
use Rattle.wide_core.specs.declared.code.Loc.{Loc}
use Rattle.wide_core.specs.declared.code.Loc.TheVariants.{Reg}
use Rattle.wide_core.specs.declared.code.Tagged.{Tagged}
use Rattle.wide_core.specs.declared.code.Tagged.TheVariants.{Clear}
use Rattle.wide_core.specs.Places.{put}
use Rattle.wide_core.specs.Word.{byte_from, behind_byte, saved}
use Rattle.wide_sim.specs.declared.planned.Planned.{Planned}
use Rattle.wide_sim.specs.declared.planned.Planned.TheVariants.{Write, Save, Take, PutByte, PutNumber, Jump, Call, Return, Report}
use Rattle.std.specs.List.{list_all}
use Rattle.wide_sim.specs.Fits.{planned_fits}
use Rattle.ib_meaning.specs.Agreement.{IsPrefix}
use Rattle.ib_run.specs.OverHost.{OverHost}

-- the effect that says where control goes: the first report, or else the last control operation's
abbrev pub turn_after : Planned → List Planned → Planned
turn_after turn [] = turn
turn_after turn (Report number kind ∷ fs) = Report number kind
turn_after turn (Jump to ∷ fs) = turn_after (Jump to) fs
turn_after turn (Call result func next args ∷ fs) = turn_after (Call result func next args) fs
turn_after turn (Return z ∷ fs) = turn_after (Return z) fs
turn_after turn (f ∷ fs) = turn_after turn fs

-- the effects before the first report
abbrev pub before_report : List Planned → List Planned
before_report [] = []
before_report (Report number kind ∷ fs) = []
before_report (f ∷ fs) = f ∷ before_report fs

abbrev pub text_of : Planned → List ℕ
text_of (PutByte byte) = byte ∷ []
text_of (PutNumber z) = signed_decimal z
text_of f = []

abbrev pub text : List Planned → List ℕ
text [] = []
text (f ∷ fs) = text_of f ++ text fs

-- with the byte that it takes, where it takes one
abbrev pub hear : List ℕ → Planned → Planned
hear left (Take to) = Write (Reg to) (Clear (byte_from left))
hear left f = f

abbrev pub left_behind : Planned → List ℕ → List ℕ
left_behind (Take to) left = behind_byte left
left_behind f left = left

abbrev pub heard : List ℕ → List Planned → List Planned
heard left [] = []
heard left (f ∷ fs) = hear left f ∷ heard (left_behind f left) fs

abbrev pub left_after : List Planned → List ℕ → List ℕ
left_after [] left = left
left_after (f ∷ fs) left = left_after fs (left_behind f left)

abbrev pub written : Planned → (Loc → Tagged) → Loc → Tagged
written (Write to value) places = put to value places
written f places = places

abbrev pub places_after : List Planned → (Loc → Tagged) → Loc → Tagged
places_after [] places = places
places_after (f ∷ fs) places = places_after fs (written f places)

abbrev pub stored_by : Planned → List ℕ → List ℕ
stored_by (Save width address value) memory = saved width address value memory
stored_by f memory = memory

abbrev pub memory_after : List Planned → List ℕ → List ℕ
memory_after [] memory = memory
memory_after (f ∷ fs) memory = memory_after fs (stored_by f memory)

-- with this input the effects became those, and printed their text
pub record Hears (fs gs : List Planned) (input left out : List ℕ) : Type 0 where
  pub given : heard input fs ≡ gs
  pub rest : left_after fs input ≡ left
  pub prints : out ≡ text fs

-- the same of one effect
pub record HearsOne (f g : Planned) (input left out : List ℕ) : Type 0 where
  pub given : hear input f ≡ g
  pub rest : left_behind f input ≡ left
  pub prints : out ≡ text_of f

-- it takes a byte or prints
abbrev pub asks : Planned → Bool
asks (Take to) = true
asks (PutByte byte) = true
asks (PutNumber z) = true
asks f = false

-- how many of the effects do
abbrev pub asking : List Planned → ℕ
asking [] = 0
asking (f ∷ fs) = if asks f then suc (asking fs) else asking fs

-- a beginning of the text was printed, and nothing was taken
pub record PrintsSome (text input left out : List ℕ) : Type 0 where
  pub begins : IsPrefix out text
  pub kept : left ≡ input

-- over a host the effects became those, which write no more
pub record Asked (fs gs : List Planned) (before after : World) : Type 0 where
  pub over : OverHost (Hears fs gs) before after
  pub fits : (regs slots : ℕ) → list_all (planned_fits regs slots) fs ≡ true → list_all (planned_fits regs slots) gs ≡ true

-- the same of one effect
pub record AskedOne (f g : Planned) (before after : World) : Type 0 where
  pub over : OverHost (HearsOne f g) before after
  pub fits : (regs slots : ℕ) → planned_fits regs slots f ≡ true → planned_fits regs slots g ≡ true

abbrev pub number_of_byte : Option ℕ → ℤ
number_of_byte None = negsuc 0
number_of_byte (Some byte) = pos byte

abbrev pub is_report : Planned → Bool
is_report (Report number kind) = true
is_report f = false
