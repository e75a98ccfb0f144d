-- An operator's words: two operands come to registers, and its value goes to its slot.
use Rattle.std.proofs.Common.{◌≡◌, ℕ, suc, ℤ, List, [], ◌∷◌, ◌++◌, map, Result, Ok, Err, refl, ap, ◌∙◌, subst}
use Rattle.std.specs.Int.{w32}
use Rattle.std.proofs.lemmas.Int.{int_wrap_fits}
use Rattle.ib_base.specs.declared.integers.Width.TheVariants.{W4}
use Rattle.ib_base.specs.Integers.{wrapped, quotient}
use Rattle.ib_meaning.specs.declared.fault.FaultKind.{FaultKind}
use Rattle.ib_meaning.specs.declared.place.Place.{Place}
use Rattle.ib_meaning.specs.Agreement.{Report, Over, Faulted}
use Rattle.ib_meaning.specs.Machine.{Goes, Stops}
use Rattle.wide_core.specs.declared.code.Loc.{Loc}
use Rattle.wide_core.specs.declared.code.Loc.TheVariants.{Reg, Slot}
use Rattle.wide_core.specs.declared.code.RawCode.{RawCode}
use Rattle.wide_core.specs.declared.code.Tagged.{Tagged}
use Rattle.wide_core.specs.declared.code.Tagged.TheVariants.{Clear}
use Rattle.wide_core.specs.declared.code.WideAct.{WideAct}
use Rattle.ib_act.specs.declared.act.Act.TheVariants.{Const}
use Rattle.wide_core.specs.declared.code.WideAct.TheVariants.{Do, Spill, Reload}
use Rattle.wide_core.specs.declared.code.WideOp.{WideOp}
use Rattle.wide_core.specs.declared.code.Word.{Word}
use Rattle.wide_core.specs.Meaning.{word_step}
use Rattle.wide_core.specs.Parts.{home_of}
use Rattle.wide_core.specs.Operation.{Around, Effect, Write, Stop, sources, effect_on}
use Rattle.wide_core.specs.Places.{put}
use Rattle.first_form.specs.declared.program.SumOp.{SumOp}
use Rattle.first_form.specs.declared.program.SumOp.TheVariants.{Plus, Minus}
use Rattle.first_form.specs.declared.program.TermOp.{TermOp}
use Rattle.first_form.specs.declared.program.TermOp.TheVariants.{Times, Over as Divide}
use Rattle.first_form.specs.Meaning.{added_by, scaled_by, done_with}
use Rattle.first_code.specs.declared.operand.Operand.{Operand}
use Rattle.first_code.specs.declared.operand.Operand.TheVariants.{InSlot, Constant}
use Rattle.first_code.specs.Operand.{load}
use Rattle.first_code.specs.Code.{add_act, scale_act, operation, word_of, words_of}
use Rattle.first_code.proofs.Ints.{IsInt}
use Rattle.first_code.proofs.Shows.{Shows, at, op_of, one_step, go_silent, stop_here}

-- an operand has this value
pub data Holds (places : Loc → Tagged) : Operand → ℤ → Type 0 where
  HoldsSlot : (slot : ℕ) (z : ℤ) → places (Slot slot) ≡ Clear z → Holds places (InSlot slot) z
  HoldsConstant : (z : ℤ) → Holds places (Constant z) z

-- each operation of these words has its home
abbrev pub OpsAtHome : RawCode → List WideOp → Type 0
OpsAtHome code [] = Unit {0}
OpsAtHome code (op ∷ ops) = (home_of code op.number ≡ op.home) × OpsAtHome code ops

abbrev pub AtHome : RawCode → List Word → Type 0
AtHome code [] = Unit {0}
AtHome code (word ∷ words) = OpsAtHome code word.ops × AtHome code words

-- what an operator's operation does, where it comes to this
abbrev operated : ℕ → Result ℤ FaultKind → Effect
operated number (Ok z) = Write (Reg 0) (Clear z)
operated number (Err kind) = Stop number kind

-- on these two numbers the operation comes to this
pub record Operates (act : WideAct) (x y : ℤ) (value : Result ℤ FaultKind) : Type 0 where
  pub reads : sources act ≡ Reg 0 ∷ Reg 1 ∷ []
  pub effect : (number : ℕ) (place : Place) (around : Around) → effect_on (op_of number place act) around (Clear x ∷ Clear y ∷ []) ≡ operated number value

pub add_operates : (op : SumOp) (x y : ℤ) → Operates (add_act op) x y (added_by op x y)
unfolding effect_on
add_operates Plus x y = record { reads = refl; effect = λ number place around. refl }
add_operates Minus x y = record { reads = refl; effect = λ number place around. refl }

divide_operates : (x y : ℤ) → Operates (scale_act Divide) x y (quotient W4 (wrapped W4 x) (wrapped W4 y))
unfolding effect_on
divide_operates x y = record { reads = refl; effect = λ number place around. by_cases number place around (quotient W4 (wrapped W4 x) (wrapped W4 y)) refl }
  where
    by_cases : (number : ℕ) (place : Place) (around : Around) (q : Result ℤ FaultKind) → quotient W4 (wrapped W4 x) (wrapped W4 y) ≡ q → effect_on (op_of number place (scale_act Divide)) around (Clear x ∷ Clear y ∷ []) ≡ operated number q
    by_cases number place around (Ok z) e = rw e refl
    by_cases number place around (Err kind) e = rw e refl

pub scale_operates : (op : TermOp) (x y : ℤ) → IsInt x → IsInt y → Operates (scale_act op) x y (scaled_by op x y)
unfolding effect_on
scale_operates Times x y fx fy = record { reads = refl; effect = λ number place around. refl }
scale_operates Divide x y fx fy =
    let same : quotient W4 (wrapped W4 x) (wrapped W4 y) ≡ quotient W4 x y = ap (λ a. quotient W4 a (wrapped W4 y)) (int_wrap_fits w32 x fx) ∙ ap (λ b. quotient W4 x b) (int_wrap_fits w32 y fy) in
    subst (Operates (scale_act Divide) x y) same (divide_operates x y)

-- an operand comes to a register
loaded : (code : RawCode) (number register : ℕ) (place : Place) (rest : List Word) (places : Loc → Tagged) (x : Operand) (z : ℤ) (left : List ℕ) → Holds places x z → word_step code (at code (word_of number place (load register x) ∷ rest) places) left ≡ Goes (at code rest (put (Reg register) (Clear z) places)) left []
unfolding effect_on
loaded code number register place rest places (InSlot slot) z left (HoldsSlot _ _ e) =
    one_step code number place (Reload register slot) rest places left (Write (Reg register) (Clear z)) (λ around. ap (λ t. Write (Reg register) t) e)
loaded code number register place rest places (Constant z) _ left (HoldsConstant _) =
    one_step code number place (Do (Const register z)) rest places left (Write (Reg register) (Clear z)) (λ around. refl)

pub load_shows : (code : RawCode) (number register : ℕ) (place : Place) (rest : List Word) (places : Loc → Tagged) (x : Operand) (z : ℤ) (left out : List ℕ) (report : Report) → Holds places x z → Shows code rest (put (Reg register) (Clear z) places) left out report → Shows code (word_of number place (load register x) ∷ rest) places left out report
load_shows code number register place rest places x z left out report holds shows =
    go_silent code (word_of number place (load register x)) rest places (put (Reg register) (Clear z) places) left out report (loaded code number register place rest places x z left holds) shows

-- a register that was written holds the operand that it did
pub holds_behind_load : (places : Loc → Tagged) (register : ℕ) (t : Tagged) (x : Operand) (z : ℤ) → Holds places x z → Holds (put (Reg register) t places) x z
holds_behind_load places register t (InSlot slot) z (HoldsSlot _ _ e) = HoldsSlot slot z e
holds_behind_load places register t (Constant z) _ (HoldsConstant _) = HoldsConstant z

-- what registers and slots hold behind an operator
abbrev pub behind : (Loc → Tagged) → ℕ → ℤ → ℤ → ℤ → Loc → Tagged
behind places slot x y z = put (Slot slot) (Clear z) (put (Reg 0) (Clear z) (put (Reg 1) (Clear y) (put (Reg 0) (Clear x) places)))

-- on two operands in registers
operated_on : (act : WideAct) (places : Loc → Tagged) (x y : ℤ) (value : Result ℤ FaultKind) (number : ℕ) (place : Place) (around : Around) → Operates act x y value → effect_on (op_of number place act) around (map (put (Reg 1) (Clear y) (put (Reg 0) (Clear x) places)) (sources act)) ≡ operated number value
operated_on act places x y value number place around operates =
    ap (λ locs. effect_on (op_of number place act) around (map (put (Reg 1) (Clear y) (put (Reg 0) (Clear x) places)) locs)) operates.reads ∙ operates.effect number place around

act_step : (code : RawCode) (number : ℕ) (place : Place) (act : WideAct) (rest : List Word) (places : Loc → Tagged) (x y z : ℤ) (left : List ℕ) → Operates act x y (Ok z) → word_step code (at code (word_of number place act ∷ rest) (put (Reg 1) (Clear y) (put (Reg 0) (Clear x) places))) left ≡ Goes (at code rest (put (Reg 0) (Clear z) (put (Reg 1) (Clear y) (put (Reg 0) (Clear x) places)))) left []
act_step code number place act rest places x y z left operates =
    one_step code number place act rest (put (Reg 1) (Clear y) (put (Reg 0) (Clear x) places)) left (Write (Reg 0) (Clear z)) (λ around. operated_on act places x y (Ok z) number place around operates)

act_fault : (code : RawCode) (number : ℕ) (place : Place) (act : WideAct) (rest : List Word) (places : Loc → Tagged) (x y : ℤ) (kind : FaultKind) (left : List ℕ) → Operates act x y (Err kind) → word_step code (at code (word_of number place act ∷ rest) (put (Reg 1) (Clear y) (put (Reg 0) (Clear x) places))) left ≡ Stops (Faulted (home_of code number) kind) left []
act_fault code number place act rest places x y kind left operates =
    one_step code number place act rest (put (Reg 1) (Clear y) (put (Reg 0) (Clear x) places)) left (Stop number kind) (λ around. operated_on act places x y (Err kind) number place around operates)

spilled : (code : RawCode) (number slot : ℕ) (place : Place) (rest : List Word) (places : Loc → Tagged) (z : ℤ) (left : List ℕ) → places (Reg 0) ≡ Clear z → word_step code (at code (word_of number place (Spill slot 0) ∷ rest) places) left ≡ Goes (at code rest (put (Slot slot) (Clear z) places)) left []
unfolding effect_on
spilled code number slot place rest places z left e =
    one_step code number place (Spill slot 0) rest places left (Write (Slot slot) (Clear z)) (λ around. ap (λ t. Write (Slot slot) t) e)

pub spill_shows : (code : RawCode) (number slot : ℕ) (place : Place) (rest : List Word) (places : Loc → Tagged) (z : ℤ) (left out : List ℕ) (report : Report) → places (Reg 0) ≡ Clear z → Shows code rest (put (Slot slot) (Clear z) places) left out report → Shows code (word_of number place (Spill slot 0) ∷ rest) places left out report
spill_shows code number slot place rest places z left out report e shows =
    go_silent code (word_of number place (Spill slot 0)) rest places (put (Slot slot) (Clear z) places) left out report (spilled code number slot place rest places z left e) shows

-- an operator from its operands on: it leads to what follows from its value, or reports its fault
pub operation_shows : (code : RawCode) (number slot : ℕ) (place : Place) (act : WideAct) (a b : Operand) (more : List Word) (places : Loc → Tagged) (x y : ℤ) (value : Result ℤ FaultKind) (left out : List ℕ) (go : ℤ → Report) → Holds places a x → Holds places b y → Operates act x y value → AtHome code (words_of number place (operation act a b slot) ++ more) → ((z : ℤ) → value ≡ Ok z → Shows code more (behind places slot x y z) left out (go z)) → Shows code (words_of number place (operation act a b slot) ++ more) places left out (done_with place value out left go)
operation_shows code number slot place act a b more places x y (Ok z) left out go ha hb operates home after =
    load_shows code number 0 place _ places a x left out (go z) ha
    (load_shows code (suc number) 1 place _ (put (Reg 0) (Clear x) places) b y left out (go z) (holds_behind_load places 0 (Clear x) b y hb)
    (go_silent code (word_of (suc (suc number)) place act) _ (put (Reg 1) (Clear y) (put (Reg 0) (Clear x) places)) (put (Reg 0) (Clear z) (put (Reg 1) (Clear y) (put (Reg 0) (Clear x) places))) left out (go z)
    (act_step code (suc (suc number)) place act _ places x y z left operates)
    (spill_shows code (suc (suc (suc number))) slot place more (put (Reg 0) (Clear z) (put (Reg 1) (Clear y) (put (Reg 0) (Clear x) places))) z left out (go z) refl (after z refl))))
operation_shows code number slot place act a b more places x y (Err kind) left out go ha hb operates home after =
    let report : Report = Over (Faulted place kind) out left in
    load_shows code number 0 place _ places a x left out report ha
    (load_shows code (suc number) 1 place _ (put (Reg 0) (Clear x) places) b y left out report (holds_behind_load places 0 (Clear x) b y hb)
    (stop_here code (word_of (suc (suc number)) place act) (word_of (suc (suc (suc number))) place (Spill slot 0) ∷ more) (put (Reg 1) (Clear y) (put (Reg 0) (Clear x) places)) left out (Faulted place kind)
    (act_fault code (suc (suc number)) place act _ places x y kind left operates ∙ ap (λ (p : Place). Stops (Faulted p kind) left []) home.1.1.0.0)))
