-- The code of a program agrees with it, is over soon, plain, and valid.
use Rattle.std.proofs.Common.{◌≡◌, ℕ, ◌+◌, ◌*◌, ◌≤◌, ℤ, pos, List, [], ◌∷◌, length, Result, Ok, Err, refl, sym, ap, ◌∙◌, arith}
use Rattle.ib_meaning.specs.declared.fault.FaultKind.{FaultKind}
use Rattle.ib_meaning.specs.declared.place.Place.{Place}
use Rattle.ib_meaning.specs.Agreement.{Agrees, Returned, Faulted, Report, Over, IsOver, IsSteady}
use Rattle.ib_meaning.specs.Machine.{run}
use Rattle.ib_meaning.proofs.Agreement.{agree_by_ahead, agree_trans, within_over}
use Rattle.ib_meaning.proofs.Machine.{means_steady}
use Rattle.wide_core.specs.declared.code.Loc.{Loc}
use Rattle.wide_core.specs.declared.code.RawCode.{RawCode}
use Rattle.wide_core.specs.declared.code.Tagged.{Tagged}
use Rattle.wide_core.specs.declared.code.Tagged.TheVariants.{Clear}
use Rattle.wide_core.specs.declared.code.Word.{Word}
use Rattle.machine_desc.specs.Laws.{four_is_table}
use Rattle.machine_desc.specs.Machine.{four_latency}
use Rattle.wide_core.specs.Meaning.{Running, word_step, word_start, word_meaning, wide_meaning}
use Rattle.wide_core.proofs.Cycles.{cycles_agree, cycles_within}
use Rattle.first_form.specs.declared.program.Program.{Program}
use Rattle.first_form.specs.declared.program.Stmt.{Stmt}
use Rattle.first_form.specs.declared.program.Stmt.TheVariants.{Declare, Assign, Print, Return as Give}
use Rattle.first_form.specs.Meaning.{Environment, done_with, run_body, source_meaning, initial_value, sum_value}
use Rattle.wide_core.specs.Valid.{IsValid}
use Rattle.first_code.specs.Plain.{IsPlain}
use Rattle.first_code.specs.Code.{main_code, body_slot, body_words, code_of}
use Rattle.first_code.proofs.Shows.{Shows, at}
use Rattle.first_code.proofs.Ints.{number_int}
use Rattle.first_code.proofs.Bodies.{GoodBody, body_shows}
use Rattle.first_code.proofs.Homes.{main_at_home}
use Rattle.first_code.proofs.Sizes.{IsSmall}
use Rattle.first_code.proofs.Straight.{Straight, body_straight, single_words}
use Rattle.first_code.proofs.Valid.{four, main_valid}

abbrev pub words_for : Program → List Word
words_for program = body_words 1 0 (length program.names) program.body

abbrev pub slots_for : Program → ℕ
slots_for program = body_slot (length program.names) program.body

pub straight : (program : Program) → GoodBody (length program.names) 0 program.body → Straight (slots_for program) 1 (words_for program)
straight program good = body_straight program.body (length program.names) (slots_for program) 1 0 (length program.names) (omega arith) (omega arith) good

abbrev all_clear : Loc → Tagged
all_clear loc = Clear (pos 0)

shows : (program : Program) → GoodBody (length program.names) 0 program.body → (input : List ℕ) → Shows (code_of program) (words_for program) all_clear input [] (source_meaning program input 0)
shows program good input =
    body_shows (code_of program) (length program.names) program.body 1 0 (length program.names) (λ variable. pos 0) all_clear input [] (omega arith)
    (record { held = λ variable h. refl; ints = λ variable. number_int 0 (omega arith) }) good
    (main_at_home (slots_for program) (words_for program) (straight program good))

-- code with one function starts at its first word
starts : (slots : ℕ) (words : List Word) → word_start (main_code slots words) ≡ at (main_code slots words) words all_clear
unfolding word_start
starts slots words = refl

word_run : (program : Program) (input : List ℕ) (n : ℕ) → word_meaning (code_of program) input n ≡ run (word_step (code_of program)) n (at (code_of program) (words_for program) all_clear) input []
unfolding word_meaning
word_run program input n =
    ap (λ (s : Running). run (word_step (code_of program)) n s input []) (starts (slots_for program) (words_for program))

words_steady : (code : RawCode) → IsSteady (word_meaning code)
unfolding word_meaning
words_steady code = means_steady (word_step code) (word_start code)

words_agree : (program : Program) → GoodBody (length program.names) 0 program.body → Agrees (source_meaning program) (word_meaning (code_of program))
words_agree program good =
    agree_by_ahead (source_meaning program) (word_meaning (code_of program)) (words_steady (code_of program))
    (λ input n. let s = shows program good input in (s.steps + n, omega arith, sym (word_run program input (s.steps + n) ∙ s.by n)))

pub code_agrees : (program : Program) → GoodBody (length program.names) 0 program.body → Agrees (source_meaning program) (wide_meaning four_latency (code_of program))
code_agrees program good = agree_trans (words_agree program good) (cycles_agree four_latency four_is_table.soon_ready (code_of program))

done_over : (place : Place) (value : Result ℤ FaultKind) (out left : List ℕ) (go : ℤ → Report) → ((z : ℤ) → IsOver (go z)) → IsOver (done_with place value out left go)
done_over place (Ok z) out left go over = over z
done_over place (Err kind) out left go over = record { finish = Faulted place kind; out = out; left = left; is = refl }

body_over : (body : List Stmt) (declared : ℕ) (env : Environment) (out left : List ℕ) → IsOver (run_body body declared env out left)
body_over [] declared env out left = record { finish = Returned (pos 0); out = out; left = left; is = refl }
body_over (Declare place value ∷ rest) declared env out left = done_over place (initial_value env value) out left _ (λ z. body_over rest _ _ out left)
body_over (Assign place variable value ∷ rest) declared env out left = done_over place (sum_value env value) out left _ (λ z. body_over rest _ _ out left)
body_over (Print place value ∷ rest) declared env out left = done_over place (sum_value env value) out left _ (λ z. body_over rest _ _ _ left)
body_over (Give place value ∷ rest) declared env out left = done_over place (sum_value env value) out left _ (λ z. record { finish = Returned z; out = out; left = left; is = refl })

-- 16 cycles a word are enough
pub code_over : (program : Program) → GoodBody (length program.names) 0 program.body → (input : List ℕ) (n : ℕ) → 16 * length (words_for program) ≤ n → IsOver (wide_meaning four_latency (code_of program) input n)
code_over program good input n enough =
    let s = shows program good input in
    let over = body_over program.body 0 (λ variable. pos 0) [] input in
    let few = s.few in
    let same : s.steps + 0 ≡ s.steps = omega arith in
    let words : word_meaning (code_of program) input s.steps ≡ Over over.finish over.out over.left =
    ap (word_meaning (code_of program) input) (sym same) ∙ word_run program input (s.steps + 0) ∙ s.by 0 ∙ over.is in
    record {
      finish = over.finish;
      out = over.out;
      left = over.left;
      is = within_over (cycles_within four_latency four_is_table.soon_ready (code_of program)) input s.steps n over.finish over.out over.left (omega arith) words;
    }

-- ---- what the code is

pub code_plain : (program : Program) → GoodBody (length program.names) 0 program.body → IsPlain (code_of program)
code_plain program good = record { funcs = (single_words (slots_for program) 1 (words_for program) (straight program good), tt) }

pub code_valid : (program : Program) → IsSmall program → IsValid four (code_of program)
code_valid program small =
    let slots = small.slots in
    main_valid (slots_for program) (words_for program) (omega arith) (straight program small.good)
