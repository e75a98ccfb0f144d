-- One word: all its operations read before any of them acts.
use Rattle.std.specs.Prelude.{ℕ, ℤ, pos, negsuc, Bool, List, [], ◌∷◌, ◌++◌, map, if◌then◌else◌}
use Rattle.std.specs.Option.{unwrap_or}
use Rattle.std.specs.Int.{w64, cast_unsigned}
use Rattle.ib_base.specs.declared.integers.Width.{Width}
use Rattle.ib_meaning.specs.declared.fault.FaultKind.{FaultKind}
use Rattle.ib_mem.specs.Memory.{stored}
use Rattle.ib_act.specs.Acts.{bytes_in}
use Rattle.wide_core.specs.declared.code.Loc.{Loc}
use Rattle.wide_core.specs.declared.code.Loc.TheVariants.{Reg}
use Rattle.wide_core.specs.declared.code.Tagged.{Tagged}
use Rattle.wide_core.specs.declared.code.Tagged.TheVariants.{Clear}
use Rattle.wide_core.specs.declared.code.WideOp.{WideOp}
use Rattle.wide_core.specs.Operation.{Around, Effect, Nothing, Write, Save, Take, Print, Go, Leave, Stop, Exit, sources, effect_on}
use Rattle.wide_core.specs.Places.{put}

-- what the effects of a word change: registers and slots, the memory, the input that is left, and what the word printed
pub record Flow : Type 0 where
  pub places : Loc → Tagged
  pub memory : List ℕ
  pub left : List ℕ
  pub out : List ℕ

-- how a word comes out: control goes on, goes elsewhere, leaves the call with a number, or the machine stops with a report
pub data Outcome : Type 0 where
  Through : (s : Flow) → Outcome
  Gone : (exit : Exit) (s : Flow) → Outcome
  Left : (z : ℤ) (s : Flow) → Outcome
  Stopped : (number : ℕ) (kind : FaultKind) (s : Flow) → Outcome

-- what stands where the word comes out so
abbrev pub flow_of : Outcome → Flow
flow_of (Through s) = s
flow_of (Gone exit s) = s
flow_of (Left z s) = s
flow_of (Stopped number kind s) = s

-- the operation's effect, read from the state before the word
abbrev pub effect : Around → (Loc → Tagged) → WideOp → Effect
effect around places op = effect_on op around (map places (sources op.act))

abbrev pub effects : Around → (Loc → Tagged) → List WideOp → List Effect
effects around places ops = map (effect around places) ops

-- the next byte of the input, or -1
abbrev pub byte_from : List ℕ → ℤ
byte_from [] = negsuc 0
byte_from (byte ∷ left) = pos byte

abbrev pub behind_byte : List ℕ → List ℕ
behind_byte [] = []
behind_byte (byte ∷ left) = left

abbrev pub saved : Width → ℤ → ℤ → List ℕ → List ℕ
saved width address value memory = unwrap_or (stored memory address (bytes_in width) (cast_unsigned w64 value)) memory

abbrev pub apply : Effect → Flow → Flow
apply (Write to value) s = record s { places = put to value s.places }
apply (Save width address value) s = record s { memory = saved width address value s.memory }
apply (Take to) s = record s { places = put (Reg to) (Clear (byte_from s.left)) s.places; left = behind_byte s.left }
apply (Print text) s = record s { out = s.out ++ text }
apply e s = s

-- effects in slot order up to the first report, which stops the machine. Where a word has one place for control, the
-- control operation then acts in place of what is next; else nothing behind a control operation that leaves is done
abbrev pub acts : (one : Bool) → List Effect → (Flow → Outcome) → Flow → Outcome
acts one [] next s = next s
acts one (Stop number kind ∷ es) next s = Stopped number kind s
acts one (Go exit ∷ es) next s = if one then acts one es (λ t. Gone exit t) s else Gone exit s
acts one (Leave z ∷ es) next s = if one then acts one es (λ t. Left z t) s else Left z s
acts one (Nothing ∷ es) next s = acts one es next s
acts one (Write to value ∷ es) next s = acts one es next (apply (Write to value) s)
acts one (Save width address value ∷ es) next s = acts one es next (apply (Save width address value) s)
acts one (Take to ∷ es) next s = acts one es next (apply (Take to) s)
acts one (Print text ∷ es) next s = acts one es next (apply (Print text) s)

-- a word from a state, with the input that is left
unfoldable pub after_word : (one : Bool) → List WideOp → (base : ℕ) (room : ℕ → Bool) (places : Loc → Tagged) (memory left : List ℕ) → Outcome
after_word one ops base room places memory left =
    acts one (effects (record { base = base; memory = memory; room = room }) places ops) (λ s. Through s) (record { places = places; memory = memory; left = left; out = [] })

-- ---- which operations of a word are done

-- an operation with this effect and, where the word goes on behind it, these
abbrev pub done_with : (one : Bool) → Effect → WideOp → (more : List WideOp) → List WideOp
done_with one (Stop number kind) op more = []
done_with one (Go exit) op more = op ∷ (if one then more else [])
done_with one (Leave z) op more = op ∷ (if one then more else [])
done_with one e op more = op ∷ more

-- those before the first report and, where a word may leave early, none behind a control operation that leaves
abbrev pub done : (one : Bool) → (WideOp → Effect) → List WideOp → List WideOp
done one effect_of [] = []
done one effect_of (op ∷ ops) = done_with one (effect_of op) op (done one effect_of ops)
