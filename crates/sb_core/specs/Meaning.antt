-- What a program of superblocks means: items in source order, without marks, one a step.
use Rattle.std.specs.Prelude.{ℕ, ◌+◌, ℤ, pos, Bool, not, List, [], ◌∷◌, length, slice_get, Option, Some, None}
use Rattle.ib_base.specs.declared.integers.Width.TheVariants.{W4}
use Rattle.ib_base.specs.Integers.{wrapped}
use Rattle.ib_mem.specs.Memory.{cleared}
use Rattle.ib_meaning.specs.declared.place.Place.{Place}
use Rattle.ib_meaning.specs.Agreement.{Meaning, Returned, Faulted}
use Rattle.ib_meaning.specs.Machine.{Machine, Step, Goes, Stops, means}
use Rattle.wide_core.specs.declared.code.Loc.{Loc}
use Rattle.wide_core.specs.declared.code.Loc.TheVariants.{Reg}
use Rattle.wide_core.specs.declared.code.WideOp.{WideOp}
use Rattle.wide_core.specs.Operation.{To, Into}
use Rattle.wide_core.specs.Parts.{home_in}
use Rattle.wide_core.specs.Places.{put, put_if}
use Rattle.sb_order.specs.Superblock.{Plain, Event, End, ByExit, ByReturn, ByFault, plain}
use Rattle.tac_core.specs.declared.code.TacFunc.{TacFunc}
use Rattle.tac_core.specs.Meaning.{frame_of, overflows, first_frame, first_memory}
use Rattle.tac_core.specs.Program.{main_of}
use Rattle.sb_core.specs.Program.{SuperblockProgram, items_at}

-- a call: its function, where its frame begins, the items of its superblock that are left, and what its registers hold
pub record Call : Type 0 where
  pub func : ℕ
  pub base : ℕ
  pub rest : List WideOp
  pub places : Loc → ℤ

-- a call that waits for one that it made: where the result goes, and which superblock is next
pub record Waiting : Type 0 where
  pub func : ℕ
  pub base : ℕ
  pub places : Loc → ℤ
  pub result : Option Loc
  pub next : ℕ

pub record Running : Type 0 where
  pub call : Call
  pub waiting : List Waiting
  pub memory : List ℕ

-- the arguments in the parameters' registers
abbrev pub put_all : List ℕ → List ℤ → (Loc → ℤ) → Loc → ℤ
put_all [] values places = places
put_all (param ∷ params) [] places = places
put_all (param ∷ params) (value ∷ values) places = put_all params values (put (Reg param) value places)

abbrev pub params_of : Option TacFunc → List ℕ
params_of None = []
params_of (Some f) = f.params

-- what the items of a call find, with the input that is left
abbrev pub found : Running → (left : List ℕ) → Plain
found r left = record { places = r.call.places; memory = r.memory; left = left; out = [] }

module _ (p : SuperblockProgram) where
  abbrev pub func_at : ℕ → Option TacFunc
  func_at func = slice_get p.copied.tac.funcs func

  -- where the frame of the next call would begin
  abbrev pub next_base : Call → ℕ
  next_base call = call.base + frame_of (func_at call.func)

  -- there is room for a call of the function
  abbrev pub has_room : Running → ℕ → Bool
  has_room r func = not (overflows (length r.waiting) (next_base r.call) (frame_of (func_at func)))

  -- a call at the superblock with this head
  abbrev pub at_head : (func base head : ℕ) → (Loc → ℤ) → Call
  at_head func base head places = record { func = func; base = base; rest = items_at p.all func head; places = places }

  -- a call begins, with registers of 0 but for the parameters, in a frame of zeros
  abbrev pub enter : (func base : ℕ) → List ℤ → List Waiting → (memory : List ℕ) → Running
  enter func base args waiting memory = record {
    call = at_head func base 0 (put_all (params_of (func_at func)) args (λ loc. pos 0));
    waiting = waiting;
    memory = cleared memory base (frame_of (func_at func));
  }

  -- a call returns; the machine ends with the call that it began with
  abbrev pub leave : List Waiting → ℤ → Plain → Step Running
  leave [] z s = Stops (Returned (wrapped W4 z)) s.left s.out
  leave (w ∷ waiting) z s =
      Goes (record { call = at_head w.func w.base w.next (put_if w.result z w.places); waiting = waiting; memory = s.memory }) s.left s.out

  -- behind items that came to the event, with these left behind them; `home` tells the place of a number
  abbrev pub behind : (home : ℕ → Place) → (rest : List WideOp) → Running → Event → Step Running
  behind home rest r (End s) = Goes (record {
    call = record { func = r.call.func; base = r.call.base; rest = rest; places = s.places };
    waiting = r.waiting;
    memory = s.memory;
  }) s.left s.out
  behind home rest r (ByExit (To head) s) =
      Goes (record { call = at_head r.call.func r.call.base head s.places; waiting = r.waiting; memory = s.memory }) s.left s.out
  behind home rest r (ByExit (Into func next result args) s) =
      Goes (enter func (next_base r.call) args
      (record { func = r.call.func; base = r.call.base; places = s.places; result = result; next = next } ∷ r.waiting) s.memory)
      s.left s.out
  behind home rest r (ByReturn z s) = leave r.waiting z s
  behind home rest r (ByFault number kind s) = Stops (Faulted (home number) kind) s.left s.out

  abbrev pub do_item : List WideOp → Machine Running
  do_item [] r left = Goes r left []
  do_item (op ∷ rest) r left = behind (λ number. op.home) rest r (plain r.call.base (has_room r) (op ∷ []) (found r left))

  -- one item; behind the last one the machine stays where it is
  abbrev pub item_step : Machine Running
  item_step r left = do_item r.call.rest r left

  abbrev pub do_items : List WideOp → Machine Running
  do_items [] r left = Goes r left []
  do_items (op ∷ rest) r left =
      behind (home_in (op ∷ rest)) [] r (plain r.call.base (has_room r) (op ∷ rest) (found r left))

  -- what is left of a superblock, at once
  abbrev pub superblock_step : Machine Running
  superblock_step r left = do_items r.call.rest r left

  -- the call of `main` as it begins
  abbrev pub start : Running
  start =
      enter (main_of p.copied.tac) (first_frame (length p.copied.tac.image)) [] [] (first_memory p.copied.tac.image)

-- the meaning of a program of superblocks
unfoldable pub superblock_meaning : SuperblockProgram → Meaning
superblock_meaning p = means (item_step p) (start p)

-- the same, by superblocks
unfoldable pub meaning_by_superblocks : SuperblockProgram → Meaning
meaning_by_superblocks p = means (superblock_step p) (start p)
