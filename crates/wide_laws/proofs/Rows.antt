-- Words and cycles of small code, worked out.
use Rattle.std.proofs.Common.{◌≡◌, ℕ, Bool, true, false, List, [], ◌∷◌, Some, pos, refl}
use Rattle.std.specs.Fmt.{signed_decimal}
use Rattle.std.specs.Prelude.{codes}
use Rattle.ib_meaning.specs.declared.place.Place.{Place}
use Rattle.ib_meaning.specs.Agreement.{More, Over, Returned, Meaning}
use Rattle.ib_meaning.specs.Machine.{means}
use Rattle.ib_base.specs.declared.integers.Width.TheVariants.{W4}
use Rattle.ib_base.specs.Integers.{wrapped}
use Rattle.ib_act.specs.declared.act.Size.TheVariants.{Eight}
use Rattle.ib_act.specs.declared.act.Act.TheVariants.{Const, Load, Mul, PutNumber, Store}
use Rattle.machine_desc.specs.Machine.{four_latency, four_units}
use Rattle.wide_core.specs.declared.code.Loc.TheVariants.{Reg}
use Rattle.wide_core.specs.declared.code.Tagged.TheVariants.{Clear}
use Rattle.wide_core.specs.declared.code.WideAct.{WideAct}
use Rattle.wide_core.specs.declared.code.WideAct.TheVariants.{Do, Branch, Return}
use Rattle.wide_core.specs.declared.code.WideOp.{WideOp}
use Rattle.wide_core.specs.declared.code.Word.{Word}
use Rattle.wide_core.specs.declared.code.WideFunc.{WideFunc}
use Rattle.wide_core.specs.declared.code.RawCode.{RawCode}
use Rattle.wide_core.specs.Operation.{effect_on}
use Rattle.wide_core.specs.Accesses.{Known, apart_at, at_head, learn, load_of, store_of}
use Rattle.wide_core.specs.Flat.{flat, run_words}
use Rattle.wide_core.specs.Valid.{broken, limits, loose_limits, rules_of_word}
use Rattle.wide_core.specs.Word.{Flow, Through, after_word, flow_of}
use Rattle.wide_core.specs.Meaning.{Wide, cycle_by, end_by, entered}

abbrev home : Place
home = record { line = 1; col = 1 }

abbrev early : ℕ → WideAct → WideOp
early number act = record { number = number; home = home; flagged = true; act = act }

abbrev plain : ℕ → WideAct → WideOp
plain number act = record { number = number; home = home; flagged = false; act = act }

abbrev word : List WideOp → Word
word ops = record { ops = ops }

-- a `main` of these words
abbrev code_of : List Word → RawCode
code_of words = record { image = []; funcs = record { name = codes "main"; params = []; frame = 0; slots = 0; words = words } ∷ [] }

-- as it begins, over a memory
abbrev start : RawCode → List ℕ → Wide
start code memory = record {
  word = record { call = entered code 0 4096 []; waiting = []; memory = memory };
  ready = record { top = λ loc. 0; waiting = [] };
  now = 0;
}

-- r0 is 0 and r1 is 1. The second word branches to the fourth word if r0 is not 0 and to the third if r1 is not; then it
-- would print, and set r1
abbrev two_branches : WideAct → RawCode
two_branches last =
    code_of (
    word (early 1 (Do (Const 0 (pos 0))) ∷ early 2 (Do (Const 1 (pos 1))) ∷ [])
    ∷ word (plain 3 (Branch 0 3) ∷ plain 4 (Branch 1 2) ∷ plain 5 (Do (PutNumber 1)) ∷ early 6 last ∷ [])
    ∷ word (plain 7 (Return (Some 1)) ∷ [])
    ∷ word (plain 8 (Return (Some 0)) ∷ [])
    ∷ [])

abbrev meaning : (one : Bool) → RawCode → List ℕ → Meaning
meaning one code memory = means (cycle_by one four_latency code) (start code memory)

-- where a word may leave early, nothing behind the branch that is taken is done
leaves_early : (memory : List ℕ) → meaning false (two_branches (Do (Const 1 (pos 9)))) memory [] 3 ≡ Over (Returned (wrapped W4 (pos 1))) [] []
unfolding after_word effect_on
leaves_early memory = refl

-- and what would have been written there is not waited for: not after 2 cycles, but after 3
not_yet : (memory : List ℕ) → meaning false (two_branches (Do (Mul Eight 1 1 1))) memory [] 2 ≡ More [] []
unfolding after_word effect_on
not_yet memory = refl

sets_no_time : (memory : List ℕ) → meaning false (two_branches (Do (Mul Eight 1 1 1))) memory [] 3 ≡ Over (Returned (wrapped W4 (pos 1))) [] []
unfolding after_word effect_on
sets_no_time memory = refl

-- with one place for control all that stands in the word is done: here r1 is ready 4 cycles later, and printed
abbrev one_branch : RawCode
one_branch =
    code_of (
    word (early 1 (Do (Const 0 (pos 0))) ∷ early 2 (Do (Const 1 (pos 1))) ∷ [])
    ∷ word (plain 4 (Branch 1 2) ∷ early 6 (Do (Mul Eight 1 1 1)) ∷ [])
    ∷ word (plain 7 (Return (Some 1)) ∷ early 8 (Do (Const 2 (pos 7))) ∷ [])
    ∷ [])

waits : (memory : List ℕ) → meaning true one_branch memory [] 5 ≡ More [] []
unfolding after_word effect_on
waits memory = refl

-- the machine stands where `main` returns: behind its end r2 holds what its last word wrote, and r0 what it held
abbrev at_return : List ℕ → Wide
at_return memory = record {
  word = record { call = record (entered one_branch 0 4096 []) { rest = word (plain 7 (Return (Some 1)) ∷ early 8 (Do (Const 2 (pos 7))) ∷ []) ∷ [] }; waiting = []; memory = memory };
  ready = record { top = λ loc. 0; waiting = [] };
  now = 5;
}

written_last : (memory : List ℕ) → (end_by true four_latency one_branch (at_return memory) []).word.call.places (Reg 2) ≡ Clear (pos 7)
unfolding after_word effect_on
written_last memory = refl

kept : (memory : List ℕ) → (end_by true four_latency one_branch (at_return memory) []).word.call.places (Reg 0) ≡ Clear (pos 0)
unfolding after_word effect_on
kept memory = refl

-- ---- one after the other, and in one word

abbrev shows_one : List WideOp
shows_one = early 1 (Do (Const 0 (pos 1))) ∷ plain 2 (Do (PutNumber 0)) ∷ []

abbrev empty_flow : List ℕ → Flow
empty_flow memory = record { places = λ loc. Clear (pos 0); memory = memory; left = []; out = [] }

-- what prints reads what was written before it
reads_in_turn : (memory : List ℕ) → (flow_of (flat 4096 (λ func. true) shows_one (empty_flow memory))).out ≡ signed_decimal (pos 1)
unfolding effect_on
reads_in_turn memory = refl

-- in one word it reads what stood before the word
reads_before : (memory : List ℕ) → (flow_of (run_words 4096 (λ func. true) true (shows_one ∷ []) (λ s. Through s) (empty_flow memory))).out ≡ signed_decimal (pos 0)
unfolding effect_on
reads_before memory = refl

-- ---- words without operations

no_word_is_empty : broken 5 (rules_of_word (limits 4 32 four_units) false []) ≡ record { line = 5; rule = 2 } ∷ []
no_word_is_empty = refl

some_are_empty : broken 5 (rules_of_word (loose_limits 4 32 four_units) false []) ≡ []
some_are_empty = refl

the_last_is_not : broken 5 (rules_of_word (loose_limits 4 32 four_units) true []) ≡ record { line = 5; rule = 4 } ∷ []
the_last_is_not = refl

-- ---- accesses

-- r0 is 4096 and r1 is 4100
abbrev bases : Known
bases = learn (early 2 (Do (Const 1 (pos 4100)))) (learn (early 1 (Do (Const 0 (pos 4096)))) at_head)

-- a store of four bytes at 4100 meets a load of 4100, and not one of 4096
meets_the_first : apart_at (store_of (Do (Store W4 0 (pos 4) 2))) (load_of (Do (Load W4 3 1 (pos 0)))) (bases 0) (bases 1) ≡ false
meets_the_first = refl

misses_the_second : apart_at (store_of (Do (Store W4 0 (pos 4) 2))) (load_of (Do (Load W4 3 0 (pos 0)))) (bases 0) (bases 0) ≡ true
misses_the_second = refl
