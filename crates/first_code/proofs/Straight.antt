-- The code is straight: one operation in each word, over two registers and its own slots, with numbers that rise by one.
use Rattle.std.proofs.Common.{◌≡◌, ℕ, suc, ◌+◌, ◌<◌, ◌≤◌, nat_lt, Bool, true, false, ◌&&◌, List, [], ◌∷◌, ◌++◌, length, Option, Some, None, refl, subst, arith}
use Rattle.std.specs.List.{list_all}
use Rattle.std.proofs.lemmas.Bool.Decides.{nat_tests}
use Rattle.ib_meaning.specs.declared.place.Place.{Place}
use Rattle.wide_core.specs.declared.code.WideAct.{WideAct}
use Rattle.ib_act.specs.declared.act.Act.TheVariants.{PutNumber}
use Rattle.wide_core.specs.declared.code.WideAct.TheVariants.{Do, Spill, Reload, Return}
use Rattle.wide_core.specs.declared.code.Word.{Word}
use Rattle.wide_core.specs.Cycle.{touched}
use Rattle.wide_core.specs.Valid.{has_good_number, is_within}
use Rattle.first_form.specs.declared.program.Addend.{Addend}
use Rattle.first_form.specs.declared.program.Multiplier.{Multiplier}
use Rattle.first_form.specs.declared.program.Stmt.{Stmt}
use Rattle.first_form.specs.declared.program.Stmt.TheVariants.{Declare, Assign, Print, Return as Give}
use Rattle.first_form.specs.declared.program.Sum.{Sum}
use Rattle.first_form.specs.declared.program.SumOp.{SumOp}
use Rattle.first_form.specs.declared.program.SumOp.TheVariants.{Plus, Minus}
use Rattle.first_form.specs.declared.program.TermOp.{TermOp}
use Rattle.first_form.specs.declared.program.TermOp.TheVariants.{Times, Over}
use Rattle.first_form.specs.FirstForm.{AreMultipliers, AreAddends, IsSum}
use Rattle.first_code.specs.declared.operand.Operand.{Operand}
use Rattle.first_code.specs.declared.operand.Operand.TheVariants.{InSlot, Constant}
use Rattle.first_code.specs.Operand.{operand_of, load}
use Rattle.first_code.specs.Code.{add_act, scale_act, operation, multiplication, product_code, product_slot, term_code, term_operand, term_slot, addition, total_code, total_operand, total_slot, sum_code, sum_operand, sum_slot, sum_into, stmt_code, word_of, words_of, body_words, body_slot}
use Rattle.first_code.specs.Plain.{AreSingle}
use Rattle.first_code.proofs.Shows.{op_of}
use Rattle.first_code.proofs.Bodies.{GoodBody, declared_few, sum_slot_grows}
use Rattle.first_code.proofs.Statements.{body_slot_grows}
use Rattle.first_code.proofs.Sums.{IsBelow, SlotBelow, ConstantBelow, factor_below, product_below, product_slot_grows, total_slot_grows}

-- ---- two registers, and so many slots

-- it names no word and no function, and its numbers are in range
abbrev pub is_straight : WideAct → Bool
is_straight (Do act) = has_good_number (Do act)
is_straight (Spill to from) = true
is_straight (Reload to from) = true
is_straight (Return from) = true
is_straight act = false

abbrev pub ActFits : ℕ → WideAct → Type 0
ActFits slots act = (list_all (is_within 32 slots) (touched act) && is_straight act) ≡ true

abbrev ActsFit : ℕ → List WideAct → Type 0
ActsFit slots [] = Unit {0}
ActsFit slots (act ∷ acts) = ActFits slots act × ActsFit slots acts

fit_append : (slots : ℕ) (xs ys : List WideAct) → ActsFit slots xs → ActsFit slots ys → ActsFit slots (xs ++ ys)
fit_append slots [] ys f g = g
fit_append slots (x ∷ xs) ys f g = (f.0, fit_append slots xs ys f.1 g)

less : (a b : ℕ) → a < b → nat_lt a b ≡ true
less a b h = grind (arith, nat_tests)

load_fits : (slots : ℕ) (x : Operand) → IsBelow slots x → ActFits slots (load 0 x) × ActFits slots (load 1 x)
load_fits slots (InSlot slot) (SlotBelow _ h) = (rw (less slot slots h) refl, rw (less slot slots h) refl)
load_fits slots (Constant z) (ConstantBelow _) = (refl, refl)

spill_fits : (slots slot : ℕ) → slot < slots → ActFits slots (Spill slot 0)
spill_fits slots slot h = rw (less slot slots h) refl

operation_fits : (slots slot : ℕ) (act : WideAct) (a b : Operand) → ActFits slots act → IsBelow slots a → IsBelow slots b → slot < slots → ActsFit slots (operation act a b slot)
operation_fits slots slot act a b f ha hb h = ((load_fits slots a ha).0, ((load_fits slots b hb).1, (f, (spill_fits slots slot h, tt))))

scale_fits : (slots : ℕ) (op : TermOp) → ActFits slots (scale_act op)
scale_fits slots Times = refl
scale_fits slots Over = refl

add_fits : (slots : ℕ) (op : SumOp) → ActFits slots (add_act op)
add_fits slots Plus = refl
add_fits slots Minus = refl

below_more : (slot slots : ℕ) (x : Operand) → slot ≤ slots → IsBelow slot x → IsBelow slots x
below_more slot slots (InSlot other) le (SlotBelow _ h) = SlotBelow other (omega arith)
below_more slot slots (Constant z) le (ConstantBelow _) = ConstantBelow z

product_fits : (declared slots : ℕ) (x : Operand) (slot : ℕ) (ms : List Multiplier) → declared ≤ slot → product_slot slot ms ≤ slots → IsBelow slot x → AreMultipliers declared ms → ActsFit slots (product_code x slot ms)
product_fits declared slots x slot [] le few below good = tt
product_fits declared slots x slot (m ∷ ms) le few below good =
    let grows = product_slot_grows (suc slot) ms in
    fit_append slots (multiplication x slot m) (product_code (InSlot slot) (suc slot) ms)
    (operation_fits slots slot (scale_act m.op) x (operand_of m.factor) (scale_fits slots m.op) (below_more slot slots x (omega arith) below) (below_more slot slots (operand_of m.factor) (omega arith) (factor_below declared slot m.factor le good.0)) (omega arith))
    (product_fits declared slots (InSlot slot) (suc slot) ms (omega arith) few (SlotBelow slot (omega arith)) good.1)

total_fits : (declared slots : ℕ) (x : Operand) (slot : ℕ) (rest : List Addend) → declared ≤ slot → total_slot slot rest ≤ slots → IsBelow slot x → AreAddends declared rest → ActsFit slots (total_code x slot rest)
total_fits declared slots x slot [] le few below good = tt
total_fits declared slots x slot (a ∷ rest) le few below good =
    let slot' : ℕ = term_slot slot a.term in
    let last : Operand = term_operand slot a.term in
    let grows = product_slot_grows slot a.term.rest in
    let more = total_slot_grows (suc slot') rest in
    let first_below = factor_below declared slot a.term.first le good.0.0 in
    fit_append slots (addition x slot a) (total_code (InSlot slot') (suc slot') rest)
    (fit_append slots (term_code slot a.term) (operation (add_act a.op) x last slot')
    (product_fits declared slots (operand_of a.term.first) slot a.term.rest le (omega arith) first_below good.0.1)
    (operation_fits slots slot' (add_act a.op) x last (add_fits slots a.op) (below_more slot slots x (omega arith) below) (below_more slot' slots last (omega arith) (product_below slot (operand_of a.term.first) a.term.rest first_below)) (omega arith)))
    (total_fits declared slots (InSlot slot') (suc slot') rest (omega arith) few (SlotBelow slot' (omega arith)) good.1)

total_below : (slot : ℕ) (x : Operand) (rest : List Addend) → IsBelow slot x → IsBelow (total_slot slot rest) (total_operand x slot rest)
total_below slot x [] below = below
total_below slot x (a ∷ rest) below = total_below (suc (term_slot slot a.term)) (InSlot (term_slot slot a.term)) rest (SlotBelow (term_slot slot a.term) (omega arith))

sum_into_fits : (declared slots slot : ℕ) (sum : Sum) (act : WideAct) → declared ≤ slot → sum_slot slot sum ≤ slots → IsSum declared sum → ActFits slots act → ActsFit slots (sum_into slot sum act)
sum_into_fits declared slots slot sum act le few good f =
    let slot' : ℕ = term_slot slot sum.first in
    let first : Operand = term_operand slot sum.first in
    let grows = product_slot_grows slot sum.first.rest in
    let more = total_slot_grows slot' sum.rest in
    let start_below = factor_below declared slot sum.first.first le good.0.0 in
    let first_below = product_below slot (operand_of sum.first.first) sum.first.rest start_below in
    fit_append slots (sum_code slot sum) (load 0 (sum_operand slot sum) ∷ act ∷ [])
    (fit_append slots (term_code slot sum.first) (total_code first slot' sum.rest)
    (product_fits declared slots (operand_of sum.first.first) slot sum.first.rest le (omega arith) start_below good.0.1)
    (total_fits declared slots first slot' sum.rest (omega arith) few first_below good.1))
    ((load_fits slots (sum_operand slot sum) (below_more (sum_slot slot sum) slots (sum_operand slot sum) few (total_below slot' first sum.rest first_below))).0, (f, tt))

-- words of one operation each that fits, with numbers that rise by one from this one on, of which the last returns
pub data Straight (slots : ℕ) : ℕ → List Word → Type 0 where
  LastWord : (number : ℕ) (place : Place) (from : Option ℕ) → ActFits slots (Return from) → Straight slots number (word_of number place (Return from) ∷ [])
  NextWord : (number : ℕ) (place : Place) (act : WideAct) (rest : List Word) → ActFits slots act → Straight slots (suc number) rest → Straight slots number (word_of number place act ∷ rest)

words_straight : (slots number : ℕ) (place : Place) (acts : List WideAct) (more : List Word) → ActsFit slots acts → Straight slots (number + length acts) more → Straight slots number (words_of number place acts ++ more)
words_straight slots number place [] more f h = let same : number + 0 ≡ number = omega arith in subst (λ (n : ℕ). Straight slots n more) same h
words_straight slots number place (act ∷ acts) more f h =
    let same : number + suc (length acts) ≡ suc number + length acts = omega arith in
    NextWord number place act (words_of (suc number) place acts ++ more) f.0 (words_straight slots (suc number) place acts more f.1 (subst (λ (n : ℕ). Straight slots n more) same h))

pub body_straight : (body : List Stmt) (names slots number declared slot : ℕ) → names ≤ slot → body_slot slot body ≤ slots → GoodBody names declared body → Straight slots number (body_words number declared slot body)
body_straight [] names slots number declared slot le few good = LastWord number (record { line = 1; col = 1 }) None refl
body_straight (Declare place None ∷ rest) names slots number declared slot le few good =
    let below = declared_few names (suc declared) rest good.1 in
    let grows = body_slot_grows slot rest in
    words_straight slots number place (stmt_code declared slot (Declare place None)) (body_words (number + length (stmt_code declared slot (Declare place None))) (suc declared) slot rest) (refl, (spill_fits slots declared (omega arith), tt))
    (body_straight rest names slots (number + 2) (suc declared) slot le few good.1)
body_straight (Declare place (Some sum) ∷ rest) names slots number declared slot le few good =
    let below = declared_few names (suc declared) rest good.1 in
    let grows = body_slot_grows (sum_slot slot sum) rest in
    let more = sum_slot_grows slot sum in
    words_straight slots number place (stmt_code declared slot (Declare place (Some sum))) (body_words (number + length (stmt_code declared slot (Declare place (Some sum)))) (suc declared) (sum_slot slot sum) rest) (sum_into_fits declared slots slot sum (Spill declared 0) (omega arith) (omega arith) good.0 (spill_fits slots declared (omega arith)))
    (body_straight rest names slots (number + length (stmt_code declared slot (Declare place (Some sum)))) (suc declared) (sum_slot slot sum) (omega arith) few good.1)
body_straight (Assign place variable sum ∷ rest) names slots number declared slot le few good =
    let below = declared_few names declared rest good.1 in
    let grows = body_slot_grows (sum_slot slot sum) rest in
    let more = sum_slot_grows slot sum in
    let known = good.0.0 in
    words_straight slots number place (stmt_code declared slot (Assign place variable sum)) (body_words (number + length (stmt_code declared slot (Assign place variable sum))) declared (sum_slot slot sum) rest) (sum_into_fits declared slots slot sum (Spill variable 0) (omega arith) (omega arith) good.0.1 (spill_fits slots variable (omega arith)))
    (body_straight rest names slots (number + length (stmt_code declared slot (Assign place variable sum))) declared (sum_slot slot sum) (omega arith) few good.1)
body_straight (Print place sum ∷ rest) names slots number declared slot le few good =
    let below = declared_few names declared rest good.1 in
    let grows = body_slot_grows (sum_slot slot sum) rest in
    let more = sum_slot_grows slot sum in
    words_straight slots number place (stmt_code declared slot (Print place sum)) (body_words (number + length (stmt_code declared slot (Print place sum))) declared (sum_slot slot sum) rest) (sum_into_fits declared slots slot sum (Do (PutNumber 0)) (omega arith) (omega arith) good.0 refl)
    (body_straight rest names slots (number + length (stmt_code declared slot (Print place sum))) declared (sum_slot slot sum) (omega arith) few good.1)
body_straight (Give place sum ∷ rest) names slots number declared slot le few good =
    let below = declared_few names declared rest good.1 in
    let grows = body_slot_grows (sum_slot slot sum) rest in
    let more = sum_slot_grows slot sum in
    words_straight slots number place (stmt_code declared slot (Give place sum)) (body_words (number + length (stmt_code declared slot (Give place sum))) declared (sum_slot slot sum) rest) (sum_into_fits declared slots slot sum (Return (Some 0)) (omega arith) (omega arith) good.0 refl)
    (body_straight rest names slots (number + length (stmt_code declared slot (Give place sum))) declared (sum_slot slot sum) (omega arith) few good.1)

-- ---- what straight words are

pub some_words : (slots number : ℕ) (words : List Word) → Straight slots number words → 1 ≤ length words
some_words slots _ _ (LastWord number place from f) = omega arith
some_words slots _ _ (NextWord number place act rest f h) = omega arith

pub single_words : (slots number : ℕ) (words : List Word) → Straight slots number words → AreSingle words
single_words slots _ _ (LastWord number place from f) = (record { op = op_of number place (Return from); alone = refl; unflagged = refl }, tt)
single_words slots _ _ (NextWord number place act rest f h) = (record { op = op_of number place act; alone = refl; unflagged = refl }, single_words slots (suc number) rest h)
