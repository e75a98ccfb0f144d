-- A lowered function has at most eight registers more than the program has operations.
use Rattle.std.proofs.Common.{◌≡◌, ℕ, zero, suc, ◌+◌, ◌<◌, ◌≤◌, List, [], ◌∷◌, length, map, Bool, true, false, refl, ap, arith, Option, Some, None, ◌∙◌}
use Rattle.std.specs.Prelude.{slice_get, slice_index_or, ◌==◌, MatchOption}
use Rattle.std.specs.List.{All, sum_by}
use Rattle.std.proofs.lemmas.Bool.{eqb-true, eqb-false}
use Rattle.std.proofs.lemmas.List.Elements.{All-map}
use Rattle.std.proofs.lemmas.List.Sums.{sum_by-cons}
use Rattle.std.proofs.lemmas.Option.{slice_get_within, get_or_from_slice_get}
use Rattle.c_typed.specs.declared.types.ValueType.{ValueType}
use Rattle.c_typed.specs.declared.program.Home.{Home}
use Rattle.c_typed.specs.declared.program.Home.TheVariants as h
use Rattle.c_typed.specs.declared.program.Param.{Param}
use Rattle.c_typed.specs.Tree as t
use Rattle.c_typed.specs.Tree.{Exps, Maybe, Stm, Stms, Function}
use Rattle.c_typed.specs.Program.{Program, main_of}
use Rattle.c_kept.specs.Kept.{KeepsExps, KeepsPart, Returns, KeepsStm, KeepsStms, KeepsFunction, KeepsProgram}
use Rattle.tac_core.specs.Program.{func_ops, program_ops}
use Rattle.tac_lowered.specs.Items.{onward}
use Rattle.tac_lowered.specs.Expressions.{effects}
use Rattle.tac_lowered.specs.Statements.{low_stm, low_stms, returned, test_part}
use Rattle.tac_lowered.specs.Lowered.{behind_home, behind_params, stored, all_stored, free_in, body_of, items_of, lowered_function, lowered}
use Rattle.tac_lowered.specs.Slots.{given_in, declared, declared_in, HaveFewSlots}
use Rattle.tac_lowered.proofs.Costs.{counted_items}
use Rattle.tac_lowered.proofs.Entry.{params_behind}
use Rattle.tac_lowered.proofs.Least.{given_in_least, declared_least, declared_in_least, all_stored_least}
use Rattle.tac_lowered.proofs.Registers.{given_once, at_below, operand_low, low_below, tested_below}
use Rattle.tac_lowered.proofs.Spans.{least, least_test, Below, BelowTest, Spans, items_spans}

-- ---- statements: a variable that is declared has an operation of its own, and takes no register behind

module _ (n : ℕ) (p : Program) (kinds : List ValueType) where
  start_below : (all : Exps) → KeepsExps p kinds all → (s r : ℕ) → length kinds ≤ r → r + least (effects p all s r) + 2 ≤ n + given_in all → Below n (effects p all s r)
  start_below t.no_exp k s r le few = tt
  start_below (t.an_exp a t.no_exp) k s r le few = let e1 = given_once a in low_below n p kinds a k.0 s None r le (omega arith) (omega (arith, few, e1))
  start_below (t.an_exp a (t.an_exp b more)) k s r le few =
      let e1 = given_once a in
      let e2 = given_in_least p kinds (t.an_exp b more) k.1 s r in
      let e3 = given_in_least p kinds (t.an_exp a t.no_exp) (k.0, tt) s r in
      (low_below n p kinds a k.0 s None r le (omega arith) (omega (arith, few, e1, e2)), start_below (t.an_exp b more) k.1 s r le (omega (arith, few, e3)))

  part_below : (a : Maybe) → KeepsPart p kinds a → (s r : ℕ) → length kinds ≤ r → r + least_test (test_part p a s r) ≤ n → BelowTest n (test_part p a s r)
  part_below t.missing k s r le few = tt
  part_below (t.given a) k s r le few = tested_below n p kinds a k s r le few

  returned_below : (a : Maybe) (result : ValueType) → Returns p kinds result a → (s r : ℕ) → length kinds ≤ r → r + least (returned p a s r) < n → Below n (returned p a s r)
  returned_below t.missing result k s r le few = omega arith
  returned_below (t.given a) result k s r le few =
      let e1 = at_below n p kinds true a k.0 r le (omega (arith, few)) in
      (operand_low n p kinds true a s r (λ ht few. low_below n p kinds a k.0 s (Some r) r le ht few) (omega (arith, few)), omega (arith, e1))

  module _ (result : ValueType) where
    mutual
      stm_below : (b : Stm) (l : Bool) → KeepsStm p kinds result l b → (r : ℕ) → length kinds ≤ r → r + least (low_stm p b r) + 2 ≤ n + declared b → Below n (low_stm p b r)
      stm_below (t.block all) l k r le few = stms_below all l k r le few
      stm_below (t.empty s) l k r le few = tt
      stm_below (t.expression s a) l k r le few = low_below n p kinds a k s None r le (omega arith) (omega (arith, few))
      stm_below (t.if_then s a b) l k r le few =
          let e1 = declared_least p kinds result b l k.1 r in
          (tested_below n p kinds a k.0 s r le (omega (arith, few, e1)), stm_below b l k.1 r le (omega (arith, few)))
      stm_below (t.if_else s a b c) l k r le few =
          let e1 = declared_least p kinds result b l k.1 r in
          let e2 = declared_least p kinds result c l k.2 r in
          (tested_below n p kinds a k.0 s r le (omega (arith, few, e1, e2)), stm_below b l k.1 r le (omega (arith, few, e2)), stm_below c l k.2 r le (omega (arith, few, e1)))
      stm_below (t.while_loop s a b) l k r le few =
          let e1 = declared_least p kinds result b true k.1 r in
          (tested_below n p kinds a k.0 s r le (omega (arith, few, e1)), stm_below b true k.1 r le (omega (arith, few)), tt)
      stm_below (t.do_while s b a) l k r le few =
          let e1 = declared_least p kinds result b true k.0 r in
          (stm_below b true k.0 r le (omega (arith, few)), tested_below n p kinds a k.1 s r le (omega (arith, few, e1)))
      stm_below (t.for_loop s all a t.missing b) l k r le few =
          let e1 = declared_least p kinds result b true k.3 r in
          let e2 = given_in_least p kinds all k.0 s r in
          (start_below all k.0 s r le (omega (arith, few, e1)), (part_below a k.1 s r le (omega (arith, few, e1, e2)), stm_below b true k.3 r le (omega (arith, few, e2)), tt))
      stm_below (t.for_loop s all a (t.given c) b) l k r le few =
          let e1 = declared_least p kinds result b true k.3 r in
          let e2 = given_in_least p kinds all k.0 s r in
          (start_below all k.0 s r le (omega (arith, few, e1)), (part_below a k.1 s r le (omega (arith, few, e1, e2)), stm_below b true k.3 r le (omega (arith, few, e2)), low_below n p kinds c k.2 s None r le (omega arith) (omega (arith, few, e1, e2))))
      stm_below (t.break s) l k r le few = tt
      stm_below (t.continue s) l k r le few = tt
      stm_below (t.return s a) l k r le few = returned_below a result k s r le (omega (arith, few))
      stm_below (t.local s all) l k r le few = start_below all k s r le few

      stms_below : (all : Stms) (l : Bool) → KeepsStms p kinds result l all → (r : ℕ) → length kinds ≤ r → r + least (low_stms p all r) + 2 ≤ n + declared_in all → Below n (low_stms p all r)
      stms_below t.no_stm l k r le few = tt
      stms_below (t.a_stm a t.no_stm) l k r le few = stm_below a l k.0 r le (omega (arith, few))
      stms_below (t.a_stm a (t.a_stm b rest)) l k r le few =
          let e1 = declared_least p kinds result a l k.0 r in
          let e2 = declared_in_least p kinds result (t.a_stm b rest) l k.1 r in
          (stm_below a l k.0 r le (omega (arith, few, e2)), stms_below (t.a_stm b rest) l k.1 r le (omega (arith, few, e1)))

-- ---- parameters

module _ (n : ℕ) (p : Program) where
  stored_below : (ty : ValueType) (q : Home) (r free : ℕ) → behind_home q r ≤ n → free < n → Below n (stored p ty q r free)
  stored_below ty (h.Slot k) r free le lt = tt
  stored_below ty (h.Frame offset) r free le lt = (omega (arith, lt), omega (arith, le, lt))

  all_stored_below : (qs : List Param) (r free : ℕ) → behind_params qs r ≤ n → free < n → Below n (all_stored p qs r free)
  all_stored_below [] r free le lt = tt
  all_stored_below (q ∷ qs) r free le lt =
      let e1 = params_behind qs (behind_home q.home r) in
      (stored_below q.ty q.home r free (omega (arith, le, e1)) lt, all_stored_below qs (behind_home q.home r) free le lt)

-- ---- functions

module _ (p : Program) where
  -- At most one more than its parameters and operations. It is reached where the last variable is a difference of pointers:
  -- three operations take two registers behind that of the difference.
  pub few_in_function : (f : Function) → KeepsFunction p f → f.slots ≤ length f.params + declared_in f.body → (lowered_function p f).regs ≤ suc (length f.params + func_ops (lowered_function p f))
  few_in_function f k slots =
      let free = free_in p f in
      let S = all_stored p f.params f.slots free in
      let B = low_stms p f.body free in
      let n = length f.params + (least S + least B) + 2 in
      let e1 = all_stored_least p f.params f.slots free in
      let e2 = declared_in_least p k.kinds f.result f.body false k.body free in
      let e3 = params_behind f.params f.slots in
      let e4 = k.many in
      let below : Below n (body_of p f) = (
        all_stored_below n p f.params f.slots free (omega (arith, slots, e1, e2, e3)) (omega (arith, slots, e1, e2, e3)),
        stms_below n p k.kinds f.result f.body false k.body free (omega (arith, e3, e4)) (omega (arith, slots, e1, e3)),
      ) in
      let spans : Spans n (items_of p f) (least (body_of p f)) = items_spans n (body_of p f) (record { on_break = 0; on_continue = 0 }) onward (record { label = 0; count = 0 }) below in
      let e5 = spans.within free (omega (arith, slots, e1, e2, e3)) in
      let e6 = spans.many in
      let e7 = counted_items p f in
      omega (arith, e5, e6, e7)

  -- ---- programs

  each_has_one : (fs : List Function) → length fs ≤ sum_by func_ops (map (lowered_function p) fs)
  each_has_one [] = omega arith
  each_has_one (f ∷ fs) =
      let e0 = sum_by-cons func_ops (lowered_function p f) (map (lowered_function p) fs) in
      let e1 = counted_items p f in
      let e2 = each_has_one fs in
      omega (arith, e0, e1, e2)

  -- a function's operations, and one of each other's
  and_others : (fs : List Function) (i : ℕ) (d : Function) → i < length fs → func_ops (lowered_function p (slice_index_or fs i d)) + length fs ≤ suc (sum_by func_ops (map (lowered_function p) fs))
  and_others [] i d lt = let z : ⊥ = omega (arith, lt) in absurd z
  and_others (f ∷ fs) zero d lt =
      let e0 = sum_by-cons func_ops (lowered_function p f) (map (lowered_function p) fs) in
      let e1 = each_has_one fs in
      omega (arith, e0, e1)
  and_others (f ∷ fs) (suc i) d lt =
      let e0 = sum_by-cons func_ops (lowered_function p f) (map (lowered_function p) fs) in
      let e1 = counted_items p f in
      let e2 = and_others fs i d (omega (arith, lt)) in
      omega (arith, e0, e1, e2)

  module _ (sound : KeepsProgram p) (slots : HaveFewSlots p) where
    -- `main` has no parameters, and each other function has `main` beside it
    beside_main : (i : ℕ) (d : Function) → i < length p.functions → (m : Function) → slice_get p.functions (main_of p) ≡ Some m → m.params ≡ [] → (lowered_function p (slice_index_or p.functions i d)).regs ≤ 8 + program_ops (lowered p)
    beside_main i d lt m is_main none = go (i == main_of p) refl
      where
        f : Function
        f = slice_index_or p.functions i d

        few : (lowered_function p f).regs ≤ suc (length f.params + func_ops (lowered_function p f))
        few = few_in_function f (sound.functions i d lt) (slots i d lt)

        go : (b : Bool) → (i == main_of p) ≡ b → (lowered_function p f).regs ≤ 8 + program_ops (lowered p)
        go true e =
            let same : f ≡ m = ap (λ i. slice_index_or p.functions i d) (eqb-true i (main_of p) e) ∙ get_or_from_slice_get p.functions (main_of p) m d is_main in
            let e1 = few in
            let e2 = and_others p.functions i d lt in
            let e3 : length f.params ≡ 0 = ap (λ f. length f.params) same ∙ ap length none in
            omega (arith, e1, e2, e3, lt)
        go false e =
            let apart = eqb-false i (main_of p) e in
            let e1 = few in
            let e2 = and_others p.functions i d lt in
            let e3 = (sound.functions i d lt).few in
            let e4 = slice_get_within p.functions (main_of p) m is_main in
            let two : 2 ≤ length p.functions = omega (arith, lt, e4, apart) in
            omega (arith, e1, e2, e3, two)

    with_main : (i : ℕ) (d : Function) → i < length p.functions → (o : Option Function) → slice_get p.functions (main_of p) ≡ o → MatchOption o ⊥ (λ f. f.params ≡ []) → (lowered_function p (slice_index_or p.functions i d)).regs ≤ 8 + program_ops (lowered p)
    with_main i d lt None e h = absurd h
    with_main i d lt (Some m) e h = beside_main i d lt m e h

    -- A function has at most eight registers more than the program has operations, ends of blocks among them.
    pub few_registers : All (λ f. f.regs ≤ 8 + program_ops (lowered p)) (lowered p).funcs
    few_registers = All-map (λ f. f.regs ≤ 8 + program_ops (lowered p)) (lowered_function p) p.functions (λ i d lt. with_main i d lt (slice_get p.functions (main_of p)) refl sound.main)
