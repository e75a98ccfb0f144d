-- Operations one after the other, words one after the other, and which registers are live.
use Rattle.std.specs.Prelude.{ℕ, Bool, true, false, ◌&&◌, not, List, [], ◌∷◌, ◌++◌}
use Rattle.wide_core.specs.declared.code.WideAct.{WideAct}
use Rattle.wide_core.specs.declared.code.WideAct.TheVariants.{Jump, Branch, BranchZero, Call}
use Rattle.wide_core.specs.declared.code.WideOp.{WideOp}
use Rattle.wide_core.specs.Operation.{Exit, To, Into, Effect, Nothing, Write, Save, Take, Print, Go, Leave, Stop, Around}
use Rattle.wide_core.specs.Uses.{is_result}
use Rattle.wide_core.specs.Word.{Flow, Outcome, Through, Gone, Left, Stopped, effect, effects, apply, acts}

-- ---- in a call whose frame begins at `base`; `room` tells for which functions there is room

module _ (base : ℕ) (room : ℕ → Bool) where
  abbrev pub around : Flow → Around
  around s = record { base = base; memory = s.memory; room = room }

  abbrev pub one_effect : WideOp → Flow → Effect
  one_effect op s = effect (around s) s.places op

  abbrev pub goes_on : Effect → (Flow → Outcome) → Flow → Outcome
  goes_on (Go x) next s = Gone x s
  goes_on (Leave z) next s = Left z s
  goes_on (Stop n k) next s = Stopped n k s
  goes_on Nothing next s = next s
  goes_on (Write to v) next s = next (apply (Write to v) s)
  goes_on (Save w a v) next s = next (apply (Save w a v) s)
  goes_on (Take to) next s = next (apply (Take to) s)
  goes_on (Print text) next s = next (apply (Print text) s)

  -- operations one after the other
  abbrev pub flat : List WideOp → Flow → Outcome
  flat [] s = Through s
  flat (op ∷ ops) s = goes_on (one_effect op s) (flat ops) s

  -- words one after the other
  abbrev pub run_words : (one : Bool) → List (List WideOp) → (Flow → Outcome) → Flow → Outcome
  run_words one [] next s = next s
  run_words one (w ∷ ws) next s = acts one (effects (around s) s.places w) (run_words one ws next) s

-- ---- live registers, where those live at the heads are known

-- `heads w r` says that r is live at the superblock that begins at the word w
module _ (heads : ℕ → ℕ → Bool) where
  abbrev pub at_exit : Exit → ℕ → Bool
  at_exit (To w) r = heads w r
  at_exit (Into func next result args) r = not (is_result result r) && heads next r

  abbrev pub at_exits : WideAct → ℕ → Bool
  at_exits (Jump w) r = heads w r
  at_exits (Branch a w) r = heads w r
  at_exits (BranchZero a w) r = heads w r
  at_exits (Call result func next args) r = not (is_result result r) && heads next r
  at_exits act r = false

-- the operations of words, one after the other
abbrev pub joined : List (List WideOp) → List WideOp
joined [] = []
joined (ops ∷ cycles) = ops ++ joined cycles
