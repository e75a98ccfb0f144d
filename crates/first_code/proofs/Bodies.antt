-- The words of statements show what the statements do.
use Rattle.std.proofs.Common.{◌≡◌, ◌≢◌, ℕ, suc, ◌+◌, ◌<◌, ◌≤◌, ℤ, pos, Bool, true, false, List, [], ◌∷◌, ◌++◌, length, Some, None, refl, sym, ap, ◌∙◌, subst, arith, cond}
use Rattle.std.specs.Prelude.{◌==◌}
use Rattle.std.specs.Int.{w32}
use Rattle.std.specs.Fmt.{signed_decimal}
use Rattle.std.proofs.lemmas.Int.{int_wrap_fits}
use Rattle.std.proofs.lemmas.Bool.Decides.{nat_tests}
use Rattle.ib_meaning.specs.declared.place.Place.{Place}
use Rattle.ib_meaning.specs.Agreement.{Report, Over, Returned}
use Rattle.ib_meaning.specs.Machine.{Goes, Stops}
use Rattle.wide_core.specs.declared.code.Loc.{Loc}
use Rattle.wide_core.specs.declared.code.Loc.TheVariants.{Reg, Slot}
use Rattle.wide_core.specs.declared.code.RawCode.{RawCode}
use Rattle.wide_core.specs.declared.code.Tagged.{Tagged}
use Rattle.wide_core.specs.declared.code.Tagged.TheVariants.{Clear}
use Rattle.wide_core.specs.declared.code.WideAct.{WideAct}
use Rattle.ib_act.specs.declared.act.Act.TheVariants.{PutNumber}
use Rattle.wide_core.specs.declared.code.WideAct.TheVariants.{Do, Spill, Return}
use Rattle.wide_core.specs.declared.code.Word.{Word}
use Rattle.wide_core.specs.Meaning.{word_step}
use Rattle.wide_core.specs.Operation.{Print as Prints, Leave, effect_on}
use Rattle.wide_core.specs.Places.{put}
use Rattle.first_form.specs.declared.program.Stmt.{Stmt}
use Rattle.first_form.specs.declared.program.Stmt.TheVariants.{Declare, Assign, Print, Return as Give}
use Rattle.first_form.specs.declared.program.Sum.{Sum}
use Rattle.first_form.specs.FirstForm.{IsSum, IsValue}
use Rattle.first_form.specs.Meaning.{Environment, assigned, sum_value, done_with, run_body}
use Rattle.first_code.specs.declared.operand.Operand.TheVariants.{Constant}
use Rattle.first_code.specs.Operand.{load}
use Rattle.first_code.specs.Code.{sum_code, sum_operand, sum_slot, sum_into, stmt_code, declared_after, word_of, words_of, body_words, term_slot}
use Rattle.first_code.proofs.Shows.{Shows, at, go_on, one_step, stop_here}
use Rattle.first_code.proofs.Ints.{IsInt, number_int}
use Rattle.first_code.proofs.Operations.{HoldsConstant, AtHome, load_shows, spill_shows}
use Rattle.first_code.proofs.Sums.{Kept, SameBelow, kept_below, words_split, home_behind, product_slot_grows, total_slot_grows, sum_shows}

-- each variable that is used was declared before, and each number is an `int`
abbrev pub GoodStmt : ℕ → Stmt → Type 0
GoodStmt declared (Declare place value) = IsValue declared value
GoodStmt declared (Assign place variable value) = (variable < declared) × IsSum declared value
GoodStmt declared (Print place value) = IsSum declared value
GoodStmt declared (Give place value) = IsSum declared value

-- statements that declare no more variables than there are names
abbrev pub GoodBody : (names declared : ℕ) → List Stmt → Type 0
GoodBody names declared [] = declared ≤ names
GoodBody names declared (stmt ∷ rest) = GoodStmt declared stmt × GoodBody names (declared_after declared stmt) rest

pub declared_few : (names declared : ℕ) (body : List Stmt) → GoodBody names declared body → declared ≤ names
declared_few names declared [] good = good
declared_few names declared (Declare place value ∷ rest) good = let h = declared_few names (suc declared) rest good.1 in omega arith
declared_few names declared (Assign place variable value ∷ rest) good = declared_few names declared rest good.1
declared_few names declared (Print place value ∷ rest) good = declared_few names declared rest good.1
declared_few names declared (Give place value ∷ rest) good = declared_few names declared rest good.1

pub sum_slot_grows : (slot : ℕ) (sum : Sum) → slot ≤ sum_slot slot sum
sum_slot_grows slot sum =
    let g = product_slot_grows slot sum.first.rest in
    let h = total_slot_grows (term_slot slot sum.first) sum.rest in omega arith

-- ---- a variable gets a value

assigned_int : (variable other : ℕ) (z : ℤ) (env : Environment) → IsInt z → IsInt (env other) → IsInt (assigned variable z env other)
assigned_int variable other z env fz fe = by_cases (other == variable)
  where
    by_cases : (b : Bool) → IsInt (cond b z (env other))
    by_cases true = fz
    by_cases false = fe

-- the slot of a variable that was declared, or of the next one
pub kept_assigned : (env : Environment) (declared declared' variable : ℕ) (z : ℤ) (places : Loc → Tagged) → ((other : ℕ) → other < declared' → other ≢ variable → other < declared) → IsInt z → Kept env declared places → Kept (assigned variable z env) declared' (put (Slot variable) (Clear z) places)
kept_assigned env declared declared' variable z places known int kept = record {
  held = λ other h. by_cases other h (other == variable) refl;
  ints = λ other. assigned_int variable other z env int (kept.ints other);
}
  where
    by_cases : (other : ℕ) → other < declared' → (b : Bool) → (other == variable) ≡ b → cond b (Clear z) (places (Slot other)) ≡ Clear (cond b z (env other))
    by_cases other h true e = refl
    by_cases other h false e = kept.held other (known other h (λ same. let bad : (other == variable) ≡ true = grind (arith, nat_tests) in cc))

-- ---- a value in register 0 is used

printed : (code : RawCode) (number : ℕ) (place : Place) (rest : List Word) (places : Loc → Tagged) (z : ℤ) (left : List ℕ) → places (Reg 0) ≡ Clear z → word_step code (at code (word_of number place (Do (PutNumber 0)) ∷ rest) places) left ≡ Goes (at code rest places) left (signed_decimal z)
unfolding effect_on
printed code number place rest places z left e =
    one_step code number place (Do (PutNumber 0)) rest places left (Prints (signed_decimal z)) (λ around. rw e refl)

returned : (code : RawCode) (number : ℕ) (place : Place) (rest : List Word) (places : Loc → Tagged) (z : ℤ) (left : List ℕ) → places (Reg 0) ≡ Clear z → IsInt z → word_step code (at code (word_of number place (Return (Some 0)) ∷ rest) places) left ≡ Stops (Returned z) left []
unfolding effect_on
returned code number place rest places z left e int =
    one_step code number place (Return (Some 0)) rest places left (Leave z) (λ around. rw e refl)
    ∙ ap (λ (r : ℤ). Stops (Returned r) left []) (int_wrap_fits w32 z int)

zero_int : IsInt (pos 0)
zero_int = number_int 0 (omega arith)

returned_none : (code : RawCode) (number : ℕ) (place : Place) (rest : List Word) (places : Loc → Tagged) (left : List ℕ) → word_step code (at code (word_of number place (Return None) ∷ rest) places) left ≡ Stops (Returned (pos 0)) left []
unfolding effect_on
returned_none code number place rest places left =
    one_step code number place (Return None) rest places left (Leave (pos 0)) (λ around. refl)
    ∙ ap (λ (r : ℤ). Stops (Returned r) left []) (int_wrap_fits w32 (pos 0) zero_int)

-- ---- statements

-- a sum whose value comes to register 0, and then an operation that uses it
sum_into_shows : (code : RawCode) (place : Place) (env : Environment) (declared : ℕ) (more : List Word) (left out : List ℕ) (sum : Sum) (act : WideAct) (number slot : ℕ) (places : Loc → Tagged) (go : ℤ → Report) → declared ≤ slot → Kept env declared places → IsSum declared sum → AtHome code (words_of number place (sum_into slot sum act) ++ more) → ((n : ℕ) (new : Loc → Tagged) (y : ℤ) → IsInt y → new (Reg 0) ≡ Clear y → SameBelow slot places new → Shows code (word_of n place act ∷ more) new left out (go y)) → Shows code (words_of number place (sum_into slot sum act) ++ more) places left out (done_with place (sum_value env sum) out left go)
sum_into_shows code place env declared more left out sum act number slot places go le kept good home uses =
    let first : List WideAct = sum_code slot sum in
    let second : List WideAct = load 0 (sum_operand slot sum) ∷ act ∷ [] in
    let n : ℕ = number + length first in
    let split = words_split number place first second more in
    subst (λ (ws : List Word). Shows code ws places left out (done_with place (sum_value env sum) out left go)) (sym split)
    (sum_shows code place env declared (words_of n place second ++ more) left out sum number slot places go le kept good (subst (AtHome code) split home)
    (λ new y ey iy hy same. load_shows code n 0 place (word_of (suc n) place act ∷ more) new (sum_operand slot sum) y left out (go y) hy
    (uses (suc n) (put (Reg 0) (Clear y) new) y iy refl (record { same = same.same }))))

module _ (code : RawCode) (names : ℕ) where
  pub body_shows : (body : List Stmt) (number declared slot : ℕ) (env : Environment) (places : Loc → Tagged) (left out : List ℕ) → names ≤ slot → Kept env declared places → GoodBody names declared body → AtHome code (body_words number declared slot body) → Shows code (body_words number declared slot body) places left out (run_body body declared env out left)
  body_shows [] number declared slot env places left out le kept good home =
      let place : Place = record { line = 1; col = 1 } in
      stop_here code (word_of number place (Return None)) [] places left out (Returned (pos 0)) (returned_none code number place [] places left)
  body_shows (Declare place None ∷ rest) number declared slot env places left out le kept good home =
      let more : List Word = body_words (number + 2) (suc declared) slot rest in
      let report : Report = run_body rest (suc declared) (assigned declared (pos 0) env) out left in
      load_shows code number 0 place (word_of (suc number) place (Spill declared 0) ∷ more) places (Constant (pos 0)) (pos 0) left out report (HoldsConstant (pos 0))
      (spill_shows code (suc number) declared place more (put (Reg 0) (Clear (pos 0)) places) (pos 0) left out report refl
      (body_shows rest (number + 2) (suc declared) slot (assigned declared (pos 0) env) _ left out le
      (kept_assigned env declared (suc declared) declared (pos 0) (put (Reg 0) (Clear (pos 0)) places) (λ other h ne. omega arith) zero_int (record { held = kept.held; ints = kept.ints })) good.1 home.1.1))
  body_shows (Declare place (Some sum) ∷ rest) number declared slot env places left out le kept good home =
      let number' : ℕ = number + length (stmt_code declared slot (Declare place (Some sum))) in
      let more : List Word = body_words number' (suc declared) (sum_slot slot sum) rest in
      let few : suc declared ≤ names = declared_few names (suc declared) rest good.1 in
      let grows = sum_slot_grows slot sum in
      let go : ℤ → Report = λ z. run_body rest (suc declared) (assigned declared z env) out left in
      sum_into_shows code place env declared more left out sum (Spill declared 0) number slot places go (omega arith) kept good.0 home
      (λ n new y iy e same. spill_shows code n declared place more new y left out (go y) e
      (body_shows rest number' (suc declared) (sum_slot slot sum) (assigned declared y env) (put (Slot declared) (Clear y) new) left out (omega arith)
      (kept_assigned env declared (suc declared) declared y new (λ other h ne. omega arith) iy (kept_below env declared slot places new (omega arith) same kept)) good.1
      (home_behind code (words_of number place (stmt_code declared slot (Declare place (Some sum)))) more home)))
  body_shows (Assign place variable sum ∷ rest) number declared slot env places left out le kept good home =
      let number' : ℕ = number + length (stmt_code declared slot (Assign place variable sum)) in
      let more : List Word = body_words number' declared (sum_slot slot sum) rest in
      let few : declared ≤ names = declared_few names declared rest good.1 in
      let grows = sum_slot_grows slot sum in
      let go : ℤ → Report = λ z. run_body rest declared (assigned variable z env) out left in
      sum_into_shows code place env declared more left out sum (Spill variable 0) number slot places go (omega arith) kept good.0.1 home
      (λ n new y iy e same. spill_shows code n variable place more new y left out (go y) e
      (body_shows rest number' declared (sum_slot slot sum) (assigned variable y env) (put (Slot variable) (Clear y) new) left out (omega arith)
      (kept_assigned env declared declared variable y new (λ other h ne. h) iy (kept_below env declared slot places new (omega arith) same kept)) good.1
      (home_behind code (words_of number place (stmt_code declared slot (Assign place variable sum))) more home)))
  body_shows (Print place sum ∷ rest) number declared slot env places left out le kept good home =
      let number' : ℕ = number + length (stmt_code declared slot (Print place sum)) in
      let more : List Word = body_words number' declared (sum_slot slot sum) rest in
      let few : declared ≤ names = declared_few names declared rest good.1 in
      let grows = sum_slot_grows slot sum in
      let go : ℤ → Report = λ z. run_body rest declared env (out ++ signed_decimal z) left in
      sum_into_shows code place env declared more left out sum (Do (PutNumber 0)) number slot places go (omega arith) kept good.0 home
      (λ n new y iy e same. go_on code (word_of n place (Do (PutNumber 0))) more new new left (signed_decimal y) out (go y) (printed code n place more new y left e)
      (body_shows rest number' declared (sum_slot slot sum) env new left (out ++ signed_decimal y) (omega arith)
      (kept_below env declared slot places new (omega arith) same kept) good.1
      (home_behind code (words_of number place (stmt_code declared slot (Print place sum))) more home)))
  body_shows (Give place sum ∷ rest) number declared slot env places left out le kept good home =
      let number' : ℕ = number + length (stmt_code declared slot (Give place sum)) in
      let more : List Word = body_words number' declared (sum_slot slot sum) rest in
      let few : declared ≤ names = declared_few names declared rest good.1 in
      sum_into_shows code place env declared more left out sum (Return (Some 0)) number slot places (λ z. Over (Returned z) out left) (omega arith) kept good.0 home
      (λ n new y iy e same. stop_here code (word_of n place (Return (Some 0))) more new left out (Returned y) (returned code n place more new y left e iy))
