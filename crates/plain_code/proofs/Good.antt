-- The operations of plain code are good: they name registers, slots, words and functions that are there.
use Rattle.std.proofs.Common.{◌≡◌, ℕ, zero, suc, ◌+◌, ◌-◌, ◌<◌, ◌≤◌, ◌==◌, ◌&&◌, T, nat_lt, Bool, true, false, List, [], ◌∷◌, ◌++◌, length, map, slice_get, Option, Some, None, if◌then◌else◌, pos, negsuc, refl, ap, ◌∙◌, arith, length-append}
use Rattle.std.specs.Prelude.{int_le}
use Rattle.std.specs.List.{All, list_all}
use Rattle.std.proofs.lemmas.List.{length-map}
use Rattle.std.proofs.lemmas.List.Elements.{All-head, All-tail}
use Rattle.std.proofs.lemmas.Bool.Decides.{nat_tests}
use Rattle.ib_meaning.specs.declared.place.Place.{Place}
use Rattle.ib_meaning.proofs.Facts.{both}
use Rattle.ib_act.specs.declared.act.Act.{Act}
use Rattle.ib_act.specs.declared.act.Act.TheVariants.{Const, Mov, Add, Sub, And, Or, Xor, ShiftLeft, ShiftRight, Equal, NotEqual, Less, LessEqual, ExtByte, ExtFour, FrameAddress, Bounds, Mul, Div, Rem, Load, Store, Get, PutByte, PutNumber}
use Rattle.ib_act.specs.Acts.{first_source, second_source, target, HasGoodNumber}
use Rattle.tac_core.specs.declared.code.TacOp.{TacOp}
use Rattle.tac_core.specs.declared.code.End.{End}
use Rattle.tac_core.specs.declared.code.End.TheVariants.{Jump as Leads, Branch as Parts, Call as Calls, Ret}
use Rattle.tac_core.specs.declared.code.Block.{Block}
use Rattle.tac_core.specs.declared.code.TacFunc.{TacFunc}
use Rattle.tac_core.specs.Meaning.{place_of}
use Rattle.tac_core.specs.Rules.{IsRegister, IsGoodAct, IsGoodOp, Takes, IsGoodEnd, IsGoodBlock}
use Rattle.wide_core.specs.declared.code.Loc.{Loc}
use Rattle.wide_core.specs.declared.code.Loc.TheVariants.{Reg, Slot}
use Rattle.wide_core.specs.declared.code.WideAct.{WideAct}
use Rattle.wide_core.specs.declared.code.WideAct.TheVariants.{Do, Spill, Reload, Jump, Branch, Call as CallTo, Return}
use Rattle.wide_core.specs.declared.code.WideFunc.{WideFunc}
use Rattle.wide_core.specs.Cycle.{target_if}
use Rattle.wide_core.specs.Operation.{reg_of as loc_of, sources}
use Rattle.wide_core.specs.Renamed.{act_moved, opt_moved, result_moved}
use Rattle.wide_core.specs.Uses.{opt_list, reads, writes_now}
use Rattle.wide_core.specs.Valid.{Scope, is_within, takes, has_good_number}
use Rattle.wide_laws.proofs.Renamed.{sources_moved}
use Rattle.plain_code.specs.Plain.{item, index, place, found_in, left_in, reload, reloads, spill, renamed, spread, spread_all, end_acts, rest_items, block_items, all_items, start}
use Rattle.plain_code.proofs.Numbers.{rest_long}
use Rattle.plain_code.proofs.Operations.{few_reads, few_read}
use Rattle.plain_code.proofs.OneEach.{EndsWell, ends_behind, ends_before_none, ends_one, ends_long, IsGood, AllGood, NoneGood, MoreGood, good_behind}

pub t_true : (b : Bool) → T b → b ≡ true
t_true true t = refl
t_true false t = absurd t

pub below : (a b : ℕ) → a < b → nat_lt a b ≡ true
below a b lt = grind (arith, nat_tests)

index_within : (r : ℕ) (xs : List ℕ) → index r xs ≤ length xs
index_within r [] = omega arith
index_within r (x ∷ xs) = by (r == x) (index_within r xs)
  where
    by : (b : Bool) → index r xs ≤ length xs → (if b then 0 else suc (index r xs)) ≤ suc (length xs)
    by true le = omega arith
    by false le = omega arith

-- ---- a renamed operation writes the renamed register, and its number is the same

record Keeps (from to : ℕ → ℕ) (act : Act) : Type 0 where
  target_is : target (act_moved from to act) ≡ opt_moved to (target act)
  number_is : has_good_number (Do (act_moved from to act)) ≡ has_good_number (Do act)

abbrev both_same : (from to : ℕ → ℕ) (act : Act) → target (act_moved from to act) ≡ opt_moved to (target act) → has_good_number (Do (act_moved from to act)) ≡ has_good_number (Do act) → Keeps from to act
both_same from to act t n = record { target_is = t; number_is = n }

moved_keeps : (from to : ℕ → ℕ) (act : Act) → Keeps from to act
moved_keeps from to = elim [ Const d v ↦ both_same from to (Const d v) refl refl | Mov d a ↦ both_same from to (Mov d a) refl refl | Add z d a b ↦ both_same from to (Add z d a b) refl refl | Sub z d a b ↦ both_same from to (Sub z d a b) refl refl | And d a b ↦ both_same from to (And d a b) refl refl | Or d a b ↦ both_same from to (Or d a b) refl refl | Xor d a b ↦ both_same from to (Xor d a b) refl refl | ShiftLeft z d a b ↦ both_same from to (ShiftLeft z d a b) refl refl | ShiftRight z d a b ↦ both_same from to (ShiftRight z d a b) refl refl | Equal d a b ↦ both_same from to (Equal d a b) refl refl | NotEqual d a b ↦ both_same from to (NotEqual d a b) refl refl | Less d a b ↦ both_same from to (Less d a b) refl refl | LessEqual d a b ↦ both_same from to (LessEqual d a b) refl refl | ExtByte d a ↦ both_same from to (ExtByte d a) refl refl | ExtFour d a ↦ both_same from to (ExtFour d a) refl refl | FrameAddress d o ↦ both_same from to (FrameAddress d o) refl refl | Bounds d a n ↦ both_same from to (Bounds d a n) refl refl | Mul z d a b ↦ both_same from to (Mul z d a b) refl refl | Div z d a b ↦ both_same from to (Div z d a b) refl refl | Rem z d a b ↦ both_same from to (Rem z d a b) refl refl | Load w d a o ↦ both_same from to (Load w d a o) refl refl | Store w a o b ↦ both_same from to (Store w a o b) refl refl | Get d ↦ both_same from to (Get d) refl refl | PutByte a ↦ both_same from to (PutByte a) refl refl | PutNumber a ↦ both_same from to (PutNumber a) refl refl ]

good_number : (act : Act) → HasGoodNumber act → has_good_number (Do act) ≡ true
good_number (Load w d a o) h = both _ _ (t_true (int_le (negsuc 1048575) o) h.0.le) (t_true (int_le o (pos 1048576)) h.1.le)
good_number (Store w a o b) h = both _ _ (t_true (int_le (negsuc 1048575) o) h.0.le) (t_true (int_le o (pos 1048576)) h.1.le)
good_number (Bounds d a n) h = t_true (int_le (pos 1) n) h.le
good_number act h = refl

-- ---- on a machine with so many registers, in a function with so many

module _ (regs count : ℕ) (enough : 8 ≤ regs) (words : ℕ) (funcs : List WideFunc) where
  abbrev low : ℕ
  low = regs - 8

  abbrev scope : Scope
  scope = record { regs = regs; slots = count - low; words = words; funcs = funcs }

  abbrev W : Loc → Bool
  W = is_within regs (count - low)

  pub place_within : (r : ℕ) → r < count → W (place low r) ≡ true
  place_within r lt = by (nat_lt r low) refl
    where
      by : (b : Bool) → nat_lt r low ≡ b → is_within regs (count - low) (if b then Reg r else Slot (r - low)) ≡ true
      by true e = grind (arith, nat_tests)
      by false e = grind (arith, nat_tests)

  found_within : (all : List ℕ) (r : ℕ) → length all ≤ 8 → index r all < length all → nat_lt (found_in low all r) regs ≡ true
  found_within all r few in_all = by (nat_lt r low) refl
    where
      by : (b : Bool) → nat_lt r low ≡ b → nat_lt (if b then r else low + index r all) regs ≡ true
      by true e = grind (arith, nat_tests)
      by false e = grind (arith, nat_tests)

  left_within : (r : ℕ) → nat_lt (left_in low r) regs ≡ true
  left_within r = by (nat_lt r low) refl
    where
      by : (b : Bool) → nat_lt r low ≡ b → nat_lt (if b then r else low) regs ≡ true
      by true e = grind (arith, nat_tests)
      by false e = grind (arith, nat_tests)

  -- a source stands among the sources, and is one of the function's
  data Sources (all : List ℕ) : List ℕ → Type 0 where
    NoSource : Sources all []
    OneSource : (r : ℕ) (rs : List ℕ) → r < count → index r all < length all → Sources all rs → Sources all (r ∷ rs)

  more_sources : (x : ℕ) (all rs : List ℕ) → Sources all rs → Sources (x ∷ all) rs
  more_sources x all [] NoSource = NoSource
  more_sources x all (r ∷ rs) (OneSource q qs lt within h) = OneSource r rs lt (by (r == x)) (more_sources x all rs h)
    where
      by : (b : Bool) → (if b then 0 else suc (index r all)) < suc (length all)
      by true = omega arith
      by false = omega arith

  data AllIn : List ℕ → Type 0 where
    NoneIn : AllIn []
    MoreIn : (r : ℕ) (rs : List ℕ) → r < count → AllIn rs → AllIn (r ∷ rs)

  sources_all : (all : List ℕ) → AllIn all → Sources all all
  sources_all [] NoneIn = NoSource
  sources_all (r ∷ rs) (MoreIn q qs lt h) =
      let own : (r == r) ≡ true = grind (arith, nat_tests) in
      OneSource r rs lt (rw own (omega arith)) (more_sources r rs rs (sources_all rs h))

  read_within : (all rs : List ℕ) → length all ≤ 8 → Sources all rs → list_all W (map (λ r. Reg (found_in low all r)) rs) ≡ true
  read_within all [] few NoSource = refl
  read_within all (r ∷ rs) few (OneSource q qs lt within h) = both _ _ (found_within all r few within) (read_within all rs few h)

  -- ---- reloads and spills

  reloads_good : (home : Place) (all rs : List ℕ) → length all ≤ 8 → Sources all rs → AllGood scope (reloads low home all rs)
  reloads_good home all [] few NoSource = NoneGood
  reloads_good home all (r ∷ rs) few (OneSource q qs lt within h) =
      good_behind scope (reload low home all r) (reloads low home all rs) (one (nat_lt r low) refl) (reloads_good home all rs few h)
    where
      one : (b : Bool) → nat_lt r low ≡ b → AllGood scope (if b then [] else (item home (Reload (low + index r all) (r - low)) ∷ []))
      one true e = NoneGood
      one false e =
          let to : nat_lt (low + index r all) regs ≡ true = grind (arith, nat_tests) in
          let from : nat_lt (r - low) (count - low) ≡ true = grind (arith, nat_tests) in
          MoreGood (item home (Reload (low + index r all) (r - low))) [] (record { within = rw (to, from) refl; goes = refl; calls = refl; number = refl }) NoneGood

  spill_good : (home : Place) (o : Option ℕ) → IsRegister count o → AllGood scope (spill low home o)
  spill_good home None lt = NoneGood
  spill_good home (Some r) lt = one (nat_lt r low) refl
    where
      one : (b : Bool) → nat_lt r low ≡ b → AllGood scope (if b then [] else (item home (Spill (r - low) low) ∷ []))
      one true e = NoneGood
      one false e =
          let from : nat_lt low regs ≡ true = grind (arith, nat_tests) in
          let to : nat_lt (r - low) (count - low) ≡ true = grind (arith, nat_tests) in
          MoreGood (item home (Spill (r - low) low)) [] (record { within = rw (to, from) refl; goes = refl; calls = refl; number = refl }) NoneGood

  spread_good : (at : ℕ → ℕ) (home : Place) (act : WideAct) → length (reads act) ≤ 8 → AllIn (reads act) → IsRegister count (writes_now act) → IsGood scope (renamed low at act) → AllGood scope (spread low at home act)
  spread_good at home act few all writes good =
      good_behind scope (reloads low home (reads act) (reads act)) (item home (renamed low at act) ∷ spill low home (writes_now act))
      (reloads_good home (reads act) (reads act) few (sources_all (reads act) all))
      (MoreGood (item home (renamed low at act)) (spill low home (writes_now act)) good (spill_good home (writes_now act) writes))

  -- ---- the operation itself

  list_all_append : (xs ys : List Loc) → list_all W xs ≡ true → list_all W ys ≡ true → list_all W (xs ++ ys) ≡ true
  list_all_append [] ys e f = f
  list_all_append (x ∷ xs) ys e f = by (W x) e (λ g. list_all_append xs ys g f)
    where
      by : (b : Bool) → (b && list_all W xs) ≡ true → (list_all W xs ≡ true → list_all W (xs ++ ys) ≡ true) → (b && list_all W (xs ++ ys)) ≡ true
      by true g more = more g
      by false g more = cc

  target_within : (o : Option ℕ) → list_all W (target_if (loc_of (opt_moved (left_in low) o))) ≡ true
  target_within None = refl
  target_within (Some d) = both _ _ (left_within d) refl

  sources_within : (at : ℕ → ℕ) (act : WideAct) → ((d n : ℕ) → act ≡ Reload d n → ⊥) → length (reads act) ≤ 8 → AllIn (reads act) → list_all W (sources (renamed low at act)) ≡ true
  sources_within at act other few all =
      ap (list_all W) (sources_moved (found_in low (reads act)) (left_in low) (place low) at act other) ∙ read_within (reads act) (reads act) few (sources_all (reads act) all)

  opt_in : (o : Option ℕ) → IsRegister count o → AllIn (opt_list o)
  opt_in None h = NoneIn
  opt_in (Some r) h = MoreIn r [] h NoneIn

  opts_in : (o p : Option ℕ) → IsRegister count o → IsRegister count p → AllIn (opt_list o ++ opt_list p)
  opts_in None p h g = opt_in p g
  opts_in (Some r) p h g = MoreIn r (opt_list p) h (opt_in p g)

  args_in : (args : List ℕ) → All (λ a. a < count) args → AllIn args
  args_in [] all = NoneIn
  args_in (a ∷ args) all = MoreIn a args (All-head (λ a. a < count) a args all) (args_in args (All-tail (λ a. a < count) a args all))

  act_good : (at : ℕ → ℕ) (home : Place) (act : Act) → IsGoodAct count act → AllGood scope (spread low at home (Do act))
  act_good at home act good =
      let two = few_reads (first_source act) (second_source act) in
      let few : length (reads (Do act)) ≤ 8 = omega arith in
      let all = opts_in (first_source act) (second_source act) good.first good.second in
      let keeps = moved_keeps (found_in low (reads (Do act))) (left_in low) act in
      spread_good at home (Do act) few all good.writes (record {
        within = list_all_append (target_if (loc_of (target (act_moved (found_in low (reads (Do act))) (left_in low) act)))) (sources (renamed low at (Do act)))
            (ap (λ o. list_all W (target_if (loc_of o))) keeps.target_is ∙ target_within (target act))
            (sources_within at (Do act) (λ d n e. cc) few all);
        goes = refl;
        calls = refl;
        number = keeps.number_is ∙ good_number act good.number;
      })

  -- ---- ends, blocks and functions

  module _ (at : ℕ → ℕ) (blocks : ℕ) (fs : List TacFunc) (there : (l : ℕ) → l < blocks → nat_lt (at l) words ≡ true) (called : (g k : ℕ) → Takes fs g k → takes (slice_get funcs g) k ≡ true) (few_args : (g k : ℕ) → Takes fs g k → k ≤ 8) where
    jump_good : (home : Place) (l : ℕ) → l < blocks → AllGood scope (item home (Jump (at l)) ∷ [])
    jump_good home l lt = MoreGood (item home (Jump (at l))) [] (record { within = refl; goes = there l lt; calls = refl; number = refl }) NoneGood

    branch_good : (home : Place) (r y : ℕ) → r < count → y < blocks → AllGood scope (spread low at home (Branch r y))
    branch_good home r y lt within =
        let all = MoreIn r [] lt NoneIn in
        spread_good at home (Branch r y) (omega arith) all tt (record {
          within = sources_within at (Branch r y) (λ d n e. cc) (omega arith) all;
          goes = there y within;
          calls = refl;
          number = refl;
        })

    result_within : (d : Option ℕ) → IsRegister count d → list_all W (target_if (result_moved (place low) (loc_of d))) ≡ true
    result_within None h = refl
    result_within (Some d) h = both _ _ (place_within d h) refl

    call_good : (home : Place) (d : Option ℕ) (g : ℕ) (args : List ℕ) (l : ℕ) → IsRegister count d → All (λ a. a < count) args → l < blocks → Takes fs g (length args) → AllGood scope (spread low at home (CallTo (loc_of d) g l args))
    call_good home d g args l dest args_are within takes' =
        let few = few_args g (length args) takes' in
        let all = args_in args args_are in
        spread_good at home (CallTo (loc_of d) g l args) few all tt (record {
          within = list_all_append (target_if (result_moved (place low) (loc_of d))) (sources (renamed low at (CallTo (loc_of d) g l args)))
              (result_within d dest) (sources_within at (CallTo (loc_of d) g l args) (λ e n f. cc) few all);
          goes = there l within;
          calls = ap (takes (slice_get funcs g)) (length-map args (found_in low args)) ∙ called g (length args) takes';
          number = refl;
        })

    return_good : (home : Place) (o : Option ℕ) → IsRegister count o → AllGood scope (spread low at home (Return o))
    return_good home o h =
        let one = few_read o in
        let few : length (opt_list o) ≤ 8 = omega arith in
        spread_good at home (Return o) few (opt_in o h) tt (record {
          within = sources_within at (Return o) (λ d n e. cc) few (opt_in o h);
          goes = refl;
          calls = refl;
          number = refl;
        })

    end_good : (home : Place) (e : End) → IsGoodEnd count blocks fs e → AllGood scope (spread_all low at home (end_acts e))
    end_good home (Leads l) good = jump_good home l good.1
    end_good home (Parts r y n) good = good_behind scope (spread low at home (Branch r y)) (item home (Jump (at n)) ∷ []) (branch_good home r y good.0 good.1.1) (jump_good home n good.2.1)
    end_good home (Calls d g args l) good = good_behind scope (spread low at home (CallTo (loc_of d) g l args)) [] (call_good home d g args l good.0 good.1 good.2.1 good.3) NoneGood
    end_good home (Ret o) good = good_behind scope (spread low at home (Return o)) [] (return_good home o good) NoneGood

    module _ (places : List Place) where
      rest_good : (ops : List TacOp) (b : Block) → All (IsGoodOp count (length places)) ops → IsGoodEnd count blocks fs b.«end» → AllGood scope (rest_items low places at ops b)
      rest_good [] b all e = end_good (place_of places b.end_stmt) b.«end» e
      rest_good (op ∷ ops) b all e =
          let first = All-head (IsGoodOp count (length places)) op ops all in
          good_behind scope (spread low at (place_of places op.stmt) (Do op.act)) (rest_items low places at ops b)
          (act_good at (place_of places op.stmt) op.act first.act) (rest_good ops b (All-tail (IsGoodOp count (length places)) op ops all) e)

      pub blocks_good : (bs : List Block) → All (IsGoodBlock count blocks (length places) fs) bs → AllGood scope (all_items low places at bs)
      blocks_good [] all = NoneGood
      blocks_good (b ∷ bs) all =
          let first = All-head (IsGoodBlock count blocks (length places) fs) b bs all in
          good_behind scope (block_items low places at b) (all_items low places at bs) (rest_good b.ops b first.ops first.ends)
          (blocks_good bs (All-tail (IsGoodBlock count blocks (length places) fs) b bs all))

-- ---- blocks have words, and end with a jump, a call or a return

module _ (low : ℕ) (places : List Place) (at : ℕ → ℕ) where
  end_well : (home : Place) (e : End) → EndsWell (spread_all low at home (end_acts e))
  end_well home (Leads l) = ends_one [] (item home (Jump (at l))) refl
  end_well home (Parts r y n) = ends_one (spread low at home (Branch r y)) (item home (Jump (at n))) refl
  end_well home (Calls d g args l) =
      ends_before_none (spread low at home (CallTo (loc_of d) g l args)) (ends_one (reloads low home args args) (item home (renamed low at (CallTo (loc_of d) g l args))) refl)
  end_well home (Ret o) =
      ends_before_none (spread low at home (Return o)) (ends_one (reloads low home (opt_list o) (opt_list o)) (item home (renamed low at (Return o))) refl)

  rest_well : (ops : List TacOp) (b : Block) → EndsWell (rest_items low places at ops b)
  rest_well [] b = end_well (place_of places b.end_stmt) b.«end»
  rest_well (op ∷ ops) b = ends_behind (spread low at (place_of places op.stmt) (Do op.act)) (rest_items low places at ops b) (rest_well ops b)

  pub blocks_well : (b : Block) (bs : List Block) → EndsWell (all_items low places at (b ∷ bs))
  blocks_well b [] = ends_before_none (block_items low places at b) (rest_well b.ops b)
  blocks_well b (c ∷ bs) = ends_behind (block_items low places at b) (all_items low places at (c ∷ bs)) (blocks_well c bs)

  -- a label's first word is one of the function's
  pub start_within : (bs : List Block) (l : ℕ) → l < length bs → start low places bs l < length (all_items low places at bs)
  start_within [] l lt = absurd (omega arith)
  start_within (b ∷ bs) zero lt =
      let some = ends_long (block_items low places at b) (rest_well b.ops b) in
      let both_long = length-append (block_items low places at b) (all_items low places at bs) in
      omega arith
  start_within (b ∷ bs) (suc l) lt =
      let behind = start_within bs l (omega arith) in
      let both_long = length-append (block_items low places at b) (all_items low places at bs) in
      let same = rest_long low places (λ l. 0) at b.ops b in
      omega arith
