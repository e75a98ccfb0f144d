-- The words of products and sums lead to their values.
use Rattle.std.proofs.Common.{◌≡◌, ℕ, suc, ◌+◌, ◌<◌, ◌≤◌, ℤ, pos, neg_ℤ, true, false, List, [], ◌∷◌, ◌++◌, length, Result, Ok, Err, refl, sym, ap, ◌∙◌, subst, append_assoc, arith}
use Rattle.std.specs.Prelude.{◌==◌, ◌-ℤ◌, ◌+ℤ◌, ◌*ℤ◌}
use Rattle.std.proofs.lemmas.Bool.Decides.{nat_tests}
use Rattle.ib_base.specs.declared.integers.Width.TheVariants.{W4}
use Rattle.ib_base.specs.Integers.{wrapped}
use Rattle.ib_meaning.specs.declared.fault.FaultKind.{FaultKind}
use Rattle.ib_meaning.specs.declared.place.Place.{Place}
use Rattle.ib_meaning.specs.Agreement.{Report}
use Rattle.wide_core.specs.declared.code.Loc.{Loc}
use Rattle.wide_core.specs.declared.code.Loc.TheVariants.{Slot}
use Rattle.wide_core.specs.declared.code.RawCode.{RawCode}
use Rattle.wide_core.specs.declared.code.Tagged.{Tagged}
use Rattle.wide_core.specs.declared.code.Tagged.TheVariants.{Clear}
use Rattle.wide_core.specs.declared.code.WideAct.{WideAct}
use Rattle.wide_core.specs.declared.code.Word.{Word}
use Rattle.first_form.specs.declared.program.Addend.{Addend}
use Rattle.first_form.specs.declared.program.Factor.{Factor}
use Rattle.first_form.specs.declared.program.Factor.TheVariants.{Variable, Number, Negative}
use Rattle.first_form.specs.declared.program.Multiplier.{Multiplier}
use Rattle.first_form.specs.declared.program.Sum.{Sum}
use Rattle.first_form.specs.declared.program.SumOp.{SumOp}
use Rattle.first_form.specs.declared.program.SumOp.TheVariants.{Plus, Minus}
use Rattle.first_form.specs.declared.program.Term.{Term}
use Rattle.first_form.specs.declared.program.TermOp.{TermOp}
use Rattle.first_form.specs.declared.program.TermOp.TheVariants.{Times, Over as Divide}
use Rattle.first_form.specs.FirstForm.{IsFactor, AreMultipliers, AreAddends, IsSum}
use Rattle.first_form.specs.Meaning.{Environment, with_value, added_by, scaled_by, factor_value, product, term_value, total, sum_value, done_with}
use Rattle.first_code.specs.declared.operand.Operand.{Operand}
use Rattle.first_code.specs.declared.operand.Operand.TheVariants.{InSlot, Constant}
use Rattle.first_code.specs.Operand.{operand_of}
use Rattle.first_code.specs.Code.{add_act, scale_act, operation, product_code, product_operand, product_slot, addition, term_code, term_operand, term_slot, total_code, total_operand, total_slot, sum_code, sum_operand, word_of, words_of}
use Rattle.first_code.proofs.Shows.{Shows}
use Rattle.first_code.proofs.Ints.{IsInt, wrapped_int, number_int, negative_int, quotient_int}
use Rattle.first_code.proofs.Operations.{Holds, HoldsSlot, HoldsConstant, AtHome, add_operates, scale_operates, behind, operation_shows}

-- ---- registers and slots

-- the declared variables are in their slots, and all values are `int`
pub record Kept (env : Environment) (declared : ℕ) (places : Loc → Tagged) : Type 0 where
  pub held : (variable : ℕ) → variable < declared → places (Slot variable) ≡ Clear (env variable)
  pub ints : (variable : ℕ) → IsInt (env variable)

-- the slots below this one hold what they did
pub record SameBelow (slot : ℕ) (old new : Loc → Tagged) : Type 0 where
  pub same : (other : ℕ) → other < slot → new (Slot other) ≡ old (Slot other)

pub same_self : (slot : ℕ) (places : Loc → Tagged) → SameBelow slot places places
same_self slot places = record { same = λ other h. refl }

pub same_trans : (slot slot' : ℕ) (a b c : Loc → Tagged) → slot ≤ slot' → SameBelow slot a b → SameBelow slot' b c → SameBelow slot a c
same_trans slot slot' a b c le f g = record { same = λ other h. g.same other (omega arith) ∙ f.same other h }

pub kept_below : (env : Environment) (declared slot : ℕ) (old new : Loc → Tagged) → declared ≤ slot → SameBelow slot old new → Kept env declared old → Kept env declared new
kept_below env declared slot old new le below kept = record {
  held = λ variable h. below.same variable (omega arith) ∙ kept.held variable h;
  ints = kept.ints;
}

-- an operand that is in no slot from this one on
pub data IsBelow (slot : ℕ) : Operand → Type 0 where
  SlotBelow : (other : ℕ) → other < slot → IsBelow slot (InSlot other)
  ConstantBelow : (z : ℤ) → IsBelow slot (Constant z)

pub holds_below : (slot : ℕ) (old new : Loc → Tagged) (x : Operand) (z : ℤ) → IsBelow slot x → SameBelow slot old new → Holds old x z → Holds new x z
holds_below slot old new (InSlot other) z (SlotBelow _ h) below (HoldsSlot _ _ e) = HoldsSlot other z (below.same other h ∙ e)
holds_below slot old new (Constant z) _ (ConstantBelow _) below (HoldsConstant _) = HoldsConstant z

other_slot : (a b : ℕ) → a < b → (a == b) ≡ false
other_slot a b h = grind (arith, nat_tests)

same_slot : (a : ℕ) → (a == a) ≡ true
same_slot a = grind (arith, nat_tests)

pub behind_same : (places : Loc → Tagged) (slot : ℕ) (x y z : ℤ) → SameBelow slot places (behind places slot x y z)
behind_same places slot x y z = record { same = λ other h. rw (other_slot other slot h) refl }

pub behind_holds : (places : Loc → Tagged) (slot : ℕ) (x y z : ℤ) → Holds (behind places slot x y z) (InSlot slot) z
behind_holds places slot x y z = HoldsSlot slot z (rw (same_slot slot) refl)

-- ---- values

scaled_int : (op : TermOp) (x y z : ℤ) → IsInt x → scaled_by op x y ≡ Ok z → IsInt z
scaled_int Times x y z f e = let same : wrapped W4 (x *ℤ y) ≡ z = cc in subst IsInt same (wrapped_int (x *ℤ y))
scaled_int Divide x y z f e = quotient_int x y z f e

added_int : (op : SumOp) (x y z : ℤ) → added_by op x y ≡ Ok z → IsInt z
added_int Plus x y z e = let same : wrapped W4 (x +ℤ y) ≡ z = cc in subst IsInt same (wrapped_int (x +ℤ y))
added_int Minus x y z e = let same : wrapped W4 (x -ℤ y) ≡ z = cc in subst IsInt same (wrapped_int (x -ℤ y))

factor_int : (env : Environment) (declared : ℕ) (places : Loc → Tagged) (factor : Factor) → Kept env declared places → IsFactor declared factor → IsInt (factor_value env factor)
factor_int env declared places (Variable variable) kept good = kept.ints variable
factor_int env declared places (Number n) kept good = number_int n good
factor_int env declared places (Negative n) kept good = negative_int n (omega arith)

factor_holds : (env : Environment) (declared : ℕ) (places : Loc → Tagged) (factor : Factor) → Kept env declared places → IsFactor declared factor → Holds places (operand_of factor) (factor_value env factor)
factor_holds env declared places (Variable variable) kept good = HoldsSlot variable (env variable) (kept.held variable good)
factor_holds env declared places (Number n) kept good = HoldsConstant (pos n)
factor_holds env declared places (Negative n) kept good = HoldsConstant (neg_ℤ (pos n))

pub factor_below : (declared slot : ℕ) (factor : Factor) → declared ≤ slot → IsFactor declared factor → IsBelow slot (operand_of factor)
factor_below declared slot (Variable variable) le good = SlotBelow variable (omega arith)
factor_below declared slot (Number n) le good = ConstantBelow (pos n)
factor_below declared slot (Negative n) le good = ConstantBelow (neg_ℤ (pos n))

-- ---- lists of words

pub words_split : (number : ℕ) (place : Place) (xs ys : List WideAct) (more : List Word) → words_of number place (xs ++ ys) ++ more ≡ words_of number place xs ++ (words_of (number + length xs) place ys ++ more)
words_split number place [] ys more = let same : number ≡ number + 0 = omega arith in ap (λ (n : ℕ). words_of n place ys ++ more) same
words_split number place (x ∷ xs) ys more =
    let same : suc number + length xs ≡ number + suc (length xs) = omega arith in
    ap (λ (ws : List Word). word_of number place x ∷ ws) (words_split (suc number) place xs ys more ∙ ap (λ (n : ℕ). words_of (suc number) place xs ++ (words_of n place ys ++ more)) same)

pub home_behind : (code : RawCode) (first rest : List Word) → AtHome code (first ++ rest) → AtHome code rest
home_behind code [] rest home = home
home_behind code (word ∷ words) rest home = home_behind code words rest home.1

pub done_along : (place : Place) (value : Result ℤ FaultKind) (out left : List ℕ) (then_value : ℤ → Result ℤ FaultKind) (go : ℤ → Report) → done_with place (with_value value then_value) out left go ≡ done_with place value out left (λ z. done_with place (then_value z) out left go)
done_along place (Ok z) out left then_value go = refl
done_along place (Err kind) out left then_value go = refl

pub product_slot_grows : (slot : ℕ) (ms : List Multiplier) → slot ≤ product_slot slot ms
product_slot_grows slot [] = omega arith
product_slot_grows slot (m ∷ ms) = let h = product_slot_grows (suc slot) ms in omega arith

pub total_slot_grows : (slot : ℕ) (rest : List Addend) → slot ≤ total_slot slot rest
total_slot_grows slot [] = omega arith
total_slot_grows slot (a ∷ rest) =
    let g = product_slot_grows slot a.term.rest in
    let h = total_slot_grows (suc (term_slot slot a.term)) rest in omega arith

pub product_below : (slot : ℕ) (x : Operand) (ms : List Multiplier) → IsBelow slot x → IsBelow (product_slot slot ms) (product_operand x slot ms)
product_below slot x [] below = below
product_below slot x (m ∷ ms) below = product_below (suc slot) (InSlot slot) ms (SlotBelow slot (omega arith))

-- ---- products and sums

-- What follows, at these words, shows the report of the value from each state in which the value is at its operand and
-- the slots below are as they were.
abbrev pub Follows : RawCode → (rest : List Word) (left out : List ℕ) (slot : ℕ) (places : Loc → Tagged) (operand : Operand) (value : Result ℤ FaultKind) (go : ℤ → Report) → Type 0
Follows code rest left out slot places operand value go =
    (new : Loc → Tagged) (y : ℤ) → value ≡ Ok y → IsInt y → Holds new operand y → SameBelow slot places new → Shows code rest new left out (go y)

module _ (code : RawCode) (place : Place) (env : Environment) (declared : ℕ) (more : List Word) (left out : List ℕ) where
  pub product_shows : (ms : List Multiplier) (number slot : ℕ) (x : Operand) (places : Loc → Tagged) (z : ℤ) (go : ℤ → Report) → Holds places x z → IsInt z → declared ≤ slot → Kept env declared places → AreMultipliers declared ms → AtHome code (words_of number place (product_code x slot ms) ++ more) → Follows code more left out slot places (product_operand x slot ms) (product env z ms) go → Shows code (words_of number place (product_code x slot ms) ++ more) places left out (done_with place (product env z ms) out left go)
  product_shows [] number slot x places z go holds int le kept good home after = after places z refl int holds (same_self slot places)
  product_shows (m ∷ ms) number slot x places z go holds int le kept good home after =
      let f : ℤ = factor_value env m.factor in
      let rest : List Word = words_of (suc (suc (suc (suc number)))) place (product_code (InSlot slot) (suc slot) ms) ++ more in
      subst (Shows code (words_of number place (product_code x slot (m ∷ ms)) ++ more) places left out) (sym (done_along place (scaled_by m.op z f) out left (λ y. product env y ms) go))
      (operation_shows code number slot place (scale_act m.op) x (operand_of m.factor) rest places z f (scaled_by m.op z f) left out (λ y. done_with place (product env y ms) out left go) holds (factor_holds env declared places m.factor kept good.0)
      (scale_operates m.op z f int (factor_int env declared places m.factor kept good.0)) home
      (λ y e. product_shows ms (suc (suc (suc (suc number)))) (suc slot) (InSlot slot) (behind places slot z f y) y go (behind_holds places slot z f y) (scaled_int m.op z f y int e) (omega arith)
      (kept_below env declared slot places (behind places slot z f y) le (behind_same places slot z f y) kept) good.1 home.1.1.1.1
      (λ new v ev iv hv same. after new v (ap (λ (r : Result ℤ FaultKind). with_value r (λ u. product env u ms)) e ∙ ev) iv hv
      (same_trans slot (suc slot) places (behind places slot z f y) new (omega arith) (behind_same places slot z f y) same))))

module _ (code : RawCode) (place : Place) (env : Environment) (declared : ℕ) (more : List Word) (left out : List ℕ) where
  pub total_shows : (rest : List Addend) (number slot : ℕ) (x : Operand) (places : Loc → Tagged) (z : ℤ) (go : ℤ → Report) → Holds places x z → IsInt z → IsBelow slot x → declared ≤ slot → Kept env declared places → AreAddends declared rest → AtHome code (words_of number place (total_code x slot rest) ++ more) → Follows code more left out slot places (total_operand x slot rest) (total env z rest) go → Shows code (words_of number place (total_code x slot rest) ++ more) places left out (done_with place (total env z rest) out left go)
  total_shows [] number slot x places z go holds int below le kept good home after = after places z refl int holds (same_self slot places)
  total_shows (a ∷ rest) number slot x places z go holds int below le kept good home after =
      let first : List WideAct = term_code slot a.term in
      let slot' : ℕ = term_slot slot a.term in
      let last : Operand = term_operand slot a.term in
      let second : List WideAct = operation (add_act a.op) x last slot' ++ total_code (InSlot slot') (suc slot') rest in
      let n : ℕ = number + length first in
      let regroup : addition x slot a ++ total_code (InSlot slot') (suc slot') rest ≡ first ++ second = append_assoc first (operation (add_act a.op) x last slot') (total_code (InSlot slot') (suc slot') rest) in
      let split = ap (λ (acts : List WideAct). words_of number place acts ++ more) regroup ∙ words_split number place first second more in
      let home' : AtHome code (words_of number place first ++ (words_of n place second ++ more)) = subst (AtHome code) split home in
      let home2 : AtHome code (words_of n place second ++ more) = home_behind code (words_of number place first) (words_of n place second ++ more) home' in
      let grows : slot ≤ slot' = product_slot_grows slot a.term.rest in
      let go' : ℤ → Report = λ y. done_with place (with_value (added_by a.op z y) (λ w. total env w rest)) out left go in
      subst (λ (ws : List Word). Shows code ws places left out (done_with place (total env z (a ∷ rest)) out left go)) (sym split)
      (subst (Shows code (words_of number place first ++ (words_of n place second ++ more)) places left out) (sym (done_along place (term_value env a.term) out left (λ y. with_value (added_by a.op z y) (λ w. total env w rest)) go))
      (product_shows code place env declared (words_of n place second ++ more) left out a.term.rest number slot (operand_of a.term.first) places (factor_value env a.term.first) go'
      (factor_holds env declared places a.term.first kept good.0.0) (factor_int env declared places a.term.first kept good.0.0) le kept good.0.1 home'
      (λ new y ey iy hy same.
      subst (Shows code (words_of n place second ++ more) new left out) (sym (done_along place (added_by a.op z y) out left (λ w. total env w rest) go))
      (operation_shows code n slot' place (add_act a.op) x last (words_of (suc (suc (suc (suc n)))) place (total_code (InSlot slot') (suc slot') rest) ++ more) new z y (added_by a.op z y) left out (λ w. done_with place (total env w rest) out left go)
      (holds_below slot places new x z below same holds) hy (add_operates a.op z y) home2
      (λ w ew. total_shows rest (suc (suc (suc (suc n)))) (suc slot') (InSlot slot') (behind new slot' z y w) w go (behind_holds new slot' z y w) (added_int a.op z y w ew) (SlotBelow slot' (omega arith)) (omega arith)
      (kept_below env declared slot' new (behind new slot' z y w) (omega arith) (behind_same new slot' z y w) (kept_below env declared slot places new le same kept)) good.1 home2.1.1.1.1
      (λ last' v ev iv hv same2. after last' v
      (ap (λ (r : Result ℤ FaultKind). with_value r (λ u. with_value (added_by a.op z u) (λ t. total env t rest))) ey ∙ ap (λ (r : Result ℤ FaultKind). with_value r (λ t. total env t rest)) ew ∙ ev) iv hv
      (same_trans slot slot' places new last' grows same (same_trans slot' (suc slot') new (behind new slot' z y w) last' (omega arith) (behind_same new slot' z y w) same2))))))))

  pub sum_shows : (sum : Sum) (number slot : ℕ) (places : Loc → Tagged) (go : ℤ → Report) → declared ≤ slot → Kept env declared places → IsSum declared sum → AtHome code (words_of number place (sum_code slot sum) ++ more) → Follows code more left out slot places (sum_operand slot sum) (sum_value env sum) go → Shows code (words_of number place (sum_code slot sum) ++ more) places left out (done_with place (sum_value env sum) out left go)
  sum_shows sum number slot places go le kept good home after =
      let term : Term = sum.first in
      let first : List WideAct = term_code slot term in
      let slot' : ℕ = term_slot slot term in
      let last : Operand = term_operand slot term in
      let second : List WideAct = total_code last slot' sum.rest in
      let n : ℕ = number + length first in
      let split = words_split number place first second more in
      let home' : AtHome code (words_of number place first ++ (words_of n place second ++ more)) = subst (AtHome code) split home in
      let grows : slot ≤ slot' = product_slot_grows slot term.rest in
      subst (λ (ws : List Word). Shows code ws places left out (done_with place (sum_value env sum) out left go)) (sym split)
      (subst (Shows code (words_of number place first ++ (words_of n place second ++ more)) places left out) (sym (done_along place (term_value env term) out left (λ z. total env z sum.rest) go))
      (product_shows code place env declared (words_of n place second ++ more) left out term.rest number slot (operand_of term.first) places (factor_value env term.first) (λ z. done_with place (total env z sum.rest) out left go)
      (factor_holds env declared places term.first kept good.0.0) (factor_int env declared places term.first kept good.0.0) le kept good.0.1 home'
      (λ new z ez iz hz same. total_shows sum.rest n slot' last new z go hz iz (product_below slot (operand_of term.first) term.rest (factor_below declared slot term.first le good.0.0)) (omega arith)
      (kept_below env declared slot places new le same kept) good.1 (home_behind code (words_of number place first) (words_of n place second ++ more) home')
      (λ new2 v ev iv hv same2. after new2 v (ap (λ (r : Result ℤ FaultKind). with_value r (λ u. total env u sum.rest)) ez ∙ ev) iv hv (same_trans slot slot' places new new2 grows same same2)))))
