-- What a typed program is lowered to.
use Rattle.std.specs.Prelude.{ℕ, suc, max, pos, List, [], ◌∷◌, ◌++◌, length, map, Option, Some, None}
use Rattle.ib_act.specs.declared.act.Act.TheVariants.{FrameAddress, Store}
use Rattle.ib_act.specs.Acts.{target, first_source, second_source}
use Rattle.c_typed.specs.declared.types.ValueType.{ValueType}
use Rattle.c_typed.specs.declared.program.Home.{Home}
use Rattle.c_typed.specs.declared.program.Home.TheVariants as h
use Rattle.c_typed.specs.declared.program.Param.{Param}
use Rattle.c_typed.specs.Tree.{Function}
use Rattle.c_typed.specs.Program as typed
use Rattle.c_typed.specs.Values.{width_of}
use Rattle.tac_core.specs.declared.code.End.{End}
use Rattle.tac_core.specs.declared.code.End.TheVariants.{Jump, Branch, Call, Ret}
use Rattle.tac_core.specs.declared.code.TacFunc.{TacFunc}
use Rattle.tac_core.specs.Program.{Program}
use Rattle.tac_lowered.specs.Code.{Code, nothing, does, ◌⨾◌}
use Rattle.tac_lowered.specs.Items.{Item, Do, Close, onward, items, blocks}
use Rattle.tac_lowered.specs.Statements.{low_stms}

-- ---- registers

-- behind a register that may be missing
abbrev pub up_to : Option ℕ → ℕ → ℕ
up_to None n = n
up_to (Some r) n = max (suc r) n

abbrev pub up_to_all : List ℕ → ℕ → ℕ
up_to_all [] n = n
up_to_all (r ∷ rs) n = max (suc r) (up_to_all rs n)

abbrev pub up_to_end : End → ℕ → ℕ
up_to_end (Jump l) n = n
up_to_end (Branch r there other) n = max (suc r) n
up_to_end (Call to f args next) n = up_to to (up_to_all args n)
up_to_end (Ret r) n = up_to r n

-- at least n, and behind each register that is named
abbrev pub registers : List Item → ℕ → ℕ
registers [] n = n
registers (Do s act ∷ is) n = up_to (target act) (up_to (first_source act) (up_to (second_source act) (registers is n)))
registers (Close s e ∷ is) n = up_to_end e (registers is n)

-- ---- functions

-- the registers that parameters come in: a slot, or one of its own
abbrev pub home_in : Home → (r : ℕ) → ℕ
home_in (h.Slot k) r = k
home_in (h.Frame offset) r = r

-- the first that is free behind it
abbrev pub behind_home : Home → (r : ℕ) → ℕ
behind_home (h.Slot k) r = r
behind_home (h.Frame offset) r = suc r

abbrev pub params_in : List Param → (r : ℕ) → List ℕ
params_in [] r = []
params_in (q ∷ qs) r = home_in q.home r ∷ params_in qs (behind_home q.home r)

-- the first that is free behind all of them
abbrev pub behind_params : List Param → (r : ℕ) → ℕ
behind_params [] r = r
behind_params (q ∷ qs) r = behind_params qs (behind_home q.home r)

module _ (p : typed.Program) where
  -- what belongs to no statement is of the place behind the last, 1:1
  abbrev pub nowhere : ℕ
  nowhere = length p.places

  -- into the frame, by way of a free register
  abbrev pub stored : ValueType → Home → (r free : ℕ) → Code
  stored ty (h.Slot k) r free = nothing
  stored ty (h.Frame offset) r free = does nowhere (FrameAddress free (pos offset)) ⨾ does nowhere (Store (width_of ty) free (pos 0) r)

  abbrev pub all_stored : List Param → (r free : ℕ) → Code
  all_stored [] r free = nothing
  all_stored (q ∷ qs) r free = stored q.ty q.home r free ⨾ all_stored qs (behind_home q.home r) free

  -- Registers: the slots, those that parameters in the frame come in, and those behind.
  abbrev pub free_in : Function → ℕ
  free_in f = behind_params f.params f.slots

  abbrev pub body_of : Function → Code
  body_of f = all_stored f.params f.slots (free_in f) ⨾ low_stms p f.body (free_in f)

  abbrev pub items_of : Function → List Item
  items_of f = items (body_of f) (record { on_break = 0; on_continue = 0 }) onward (record { label = 0; count = 0 })

  -- falling off its end gives 0
  abbrev pub lowered_function : Function → TacFunc
  lowered_function f = record {
    name = f.name;
    params = params_in f.params f.slots;
    regs = registers (items_of f) (free_in f);
    frame = f.frame;
    blocks = blocks nowhere (Ret None) (items_of f);
  }

abbrev pub lowered : typed.Program → Program
lowered p = record {
  image = p.image;
  places = p.places ++ record { line = 1; col = 1 } ∷ [];
  funcs = map (lowered_function p) p.functions;
}
