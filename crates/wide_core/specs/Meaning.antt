-- What code means, word by word and cycle by cycle.
use Rattle.std.specs.Prelude.{ℕ, suc, ◌+◌, ℤ, pos, Bool, true, not, List, [], ◌∷◌, drop, length, slice_get, Option}
use Rattle.ib_base.specs.declared.integers.Width.TheVariants.{W4}
use Rattle.ib_base.specs.Integers.{wrapped}
use Rattle.ib_mem.specs.Memory.{cleared}
use Rattle.ib_meaning.specs.Agreement.{Meaning, Returned, Faulted}
use Rattle.ib_meaning.specs.Machine.{Machine, Step, Goes, Stops, means}
use Rattle.machine_desc.specs.declared.machine.OpClass.{OpClass}
use Rattle.wide_core.specs.declared.code.Loc.{Loc}
use Rattle.wide_core.specs.declared.code.Tagged.{Tagged}
use Rattle.wide_core.specs.declared.code.Tagged.TheVariants.{Clear}
use Rattle.wide_core.specs.declared.code.WideOp.{WideOp}
use Rattle.wide_core.specs.declared.code.Word.{Word}
use Rattle.wide_core.specs.declared.code.WideFunc.{WideFunc}
use Rattle.wide_core.specs.declared.code.RawCode.{RawCode}
use Rattle.wide_core.specs.Cycle.{Timed, Times, by_cycles, any_late, times_after}
use Rattle.wide_core.specs.Operation.{Around, To, Into}
use Rattle.wide_core.specs.Parts.{home_of, words_of, frame_of, params_of, number_of_main, first_memory, first_base, overflows}
use Rattle.wide_core.specs.Places.{put, put_if}
use Rattle.wide_core.specs.Word.{Flow, Outcome, Through, Gone, Left, Stopped, after_word, done, effect, flow_of}

-- ---- word by word

-- a call: its function, where its frame begins, its words that are left, and what its registers and slots hold
pub record Call : Type 0 where
  pub func : ℕ
  pub base : ℕ
  pub rest : List Word
  pub places : Loc → Tagged

-- a call that waits for one that it made, whose result goes to a place
pub record Waiting : Type 0 where
  pub call : Call
  pub result : Option Loc

pub record Running : Type 0 where
  pub call : Call
  pub waiting : List Waiting
  pub memory : List ℕ

abbrev pub func_of : RawCode → ℕ → Option WideFunc
func_of code func = slice_get code.funcs func

-- where the frame of the next call would begin
abbrev pub next_base : RawCode → Call → ℕ
next_base code call = call.base + frame_of (func_of code call.func)

-- there is room for a call of the function
abbrev pub has_room : RawCode → Running → ℕ → Bool
has_room code s func = not (overflows (length s.waiting) (next_base code s.call) (frame_of (func_of code func)))

-- the arguments in the parameters' places
abbrev pub put_all : List Loc → List ℤ → (Loc → Tagged) → Loc → Tagged
put_all [] values places = places
put_all (param ∷ params) [] places = places
put_all (param ∷ params) (value ∷ values) places = put_all params values (put param (Clear value) places)

-- a call as it begins: all registers and slots are 0 and clear, but for the parameters
abbrev pub entered : RawCode → (func base : ℕ) → List ℤ → Call
entered code func base args = record {
  func = func;
  base = base;
  rest = words_of (func_of code func);
  places = put_all (params_of (func_of code func)) args (λ loc. Clear (pos 0));
}

-- a call begins, in a frame of zeros
abbrev pub enter : RawCode → (func base : ℕ) → List ℤ → List Waiting → (memory : List ℕ) → Running
enter code func base args waiting memory = record {
  call = entered code func base args;
  waiting = waiting;
  memory = cleared memory base (frame_of (func_of code func));
}

abbrev pub resume : Waiting → ℤ → Call
resume w z = record {
  func = w.call.func;
  base = w.call.base;
  rest = w.call.rest;
  places = put_if w.result (Clear z) w.call.places;
}

-- a call returns; the machine ends with the call that it began with
abbrev pub leave : List Waiting → ℤ → Flow → Step Running
leave [] z s = Stops (Returned (wrapped W4 z)) s.left s.out
leave (w ∷ waiting) z s = Goes (record { call = resume w z; waiting = waiting; memory = s.memory }) s.left s.out

-- the call at hand behind a word, at these words
abbrev pub moved : Call → List Word → (Loc → Tagged) → Call
moved call rest places = record { func = call.func; base = call.base; rest = rest; places = places }

abbrev pub words_from : RawCode → Call → ℕ → List Word
words_from code call at = drop at (words_of (func_of code call.func))

abbrev pub next_step : RawCode → Running → List Word → Outcome → Step Running
next_step code r rest (Through s) =
    Goes (record { call = moved r.call rest s.places; waiting = r.waiting; memory = s.memory }) s.left s.out
next_step code r rest (Gone (To at) s) =
    Goes (record { call = moved r.call (words_from code r.call at) s.places; waiting = r.waiting; memory = s.memory }) s.left s.out
next_step code r rest (Gone (Into func next result args) s) =
    Goes (enter code func (next_base code r.call) args
    (record { call = moved r.call (words_from code r.call next) s.places; result = result } ∷ r.waiting) s.memory)
    s.left s.out
next_step code r rest (Left z s) = leave r.waiting z s
next_step code r rest (Stopped number kind s) = Stops (Faulted (home_of code number) kind) s.left s.out

-- the machine where it is over: the call at hand stays at its word, with what the word wrote
abbrev pub at_end : Running → Flow → Running
at_end r s = record { call = moved r.call r.call.rest s.places; waiting = r.waiting; memory = s.memory }

-- what the operations of a word find around them
abbrev pub around_of : RawCode → Running → Around
around_of code r = record { base = r.call.base; memory = r.memory; room = has_room code r }

-- where a word has one place for control, which acts behind all other operations, or where it may leave early
module _ (one : Bool) where
  -- a word of the call at hand
  abbrev pub outcome_by : RawCode → Running → List WideOp → List ℕ → Outcome
  outcome_by code r ops left = after_word one ops r.call.base (has_room code r) r.call.places r.memory left

  -- its operations that are done
  abbrev pub done_by : RawCode → Running → List WideOp → List WideOp
  done_by code r ops = done one (effect (around_of code r) r.call.places) ops

  abbrev pub step_by : RawCode → List Word → Running → List ℕ → Step Running
  step_by code [] r left = Goes r left []
  step_by code (word ∷ rest) r left = next_step code r rest (outcome_by code r word.ops left)

  -- one word; behind the last one the machine stays where it is
  abbrev pub words_by : RawCode → Machine Running
  words_by code r left = step_by code r.call.rest r left

-- of code whose words have one place for control
unfoldable pub word_step : RawCode → Machine Running
word_step code = words_by true code

-- the call of `main` as it begins
unfoldable pub word_start : RawCode → Running
word_start code = enter code (number_of_main code.funcs) (first_base (length code.image)) [] [] (first_memory code.image)

unfoldable pub word_meaning : RawCode → Meaning
word_meaning code = means (word_step code) (word_start code)

-- ---- cycle by cycle

-- the times of the call at hand, and of the calls that wait
pub record Clock : Type 0 where
  pub top : Times
  pub waiting : List Times

abbrev pub first_ops : List Word → List WideOp
first_ops [] = []
first_ops (word ∷ words) = word.ops

abbrev pub late : Running → Clock → ℕ → Bool
late r clock now = any_late clock.top now (first_ops r.call.rest)

-- what a return gives is ready at the next cycle
abbrev pub resumed : Times → List Times → List Waiting → ℕ → Clock
resumed top [] waiting soon = record { top = top; waiting = [] }
resumed top (times ∷ more) [] soon = record { top = times; waiting = more }
resumed top (times ∷ more) (w ∷ waiting) soon = record { top = put_if w.result soon times; waiting = more }

-- and so is what a call passes: a call begins with everything ready, and its first word can be done in the next cycle
abbrev pub clock_after : Outcome → Times → List Times → List Waiting → ℕ → Clock
clock_after (Gone (Into func next result args) s) top more waiting soon = record { top = λ loc. 0; waiting = top ∷ more }
clock_after (Left z s) top more waiting soon = resumed top more waiting soon
clock_after outcome top more waiting soon = record { top = top; waiting = more }

-- a state of the machine by cycles
abbrev pub Wide : Type 0
Wide = Timed Running Clock

module _ (one : Bool) (latency : OpClass → ℕ) (code : RawCode) where
  -- of the call at hand, behind its word: set by the operations that are done
  abbrev pub ready_by : Running → Times → ℕ → Times
  ready_by r top now = times_after latency now (done_by one code r (first_ops r.call.rest)) top

  abbrev pub times_by : Running → Clock → ℕ → List ℕ → Clock
  times_by r clock now left =
      clock_after (outcome_by one code r (first_ops r.call.rest) left) (ready_by r clock.top now) clock.waiting r.waiting (suc now)

  abbrev pub cycle_by : Machine Wide
  cycle_by = by_cycles (words_by one code) late times_by

  -- behind a cycle with which it is over
  abbrev pub end_by : Wide → (left : List ℕ) → Wide
  end_by c left = record {
    word = at_end c.word (flow_of (outcome_by one code c.word (first_ops c.word.call.rest) left));
    ready = record { top = ready_by c.word c.ready.top c.now; waiting = c.ready.waiting };
    now = suc c.now;
  }

module _ (latency : OpClass → ℕ) (code : RawCode) where
  -- one cycle
  unfoldable pub wide_step : Machine Wide
  wide_step = cycle_by true latency code

  -- where the machine stands for good behind its last cycle, which began here
  unfoldable pub wide_end : Wide → (left : List ℕ) → Wide
  wide_end = end_by true latency code

  -- `main` as it begins, everything ready, in cycle 0
  unfoldable pub wide_start : Wide
  wide_start = record { word = word_start code; ready = record { top = λ loc. 0; waiting = [] }; now = 0 }

  unfoldable pub wide_meaning : Meaning
  wide_meaning = means wide_step wide_start
