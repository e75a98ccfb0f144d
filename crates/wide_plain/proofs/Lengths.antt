-- The sizes are the lengths of what is made.
use Rattle.std.proofs.Common.{◌≡◌, ℕ, suc, ◌+◌, nat_lt, Bool, true, false, List, [], ◌∷◌, ◌++◌, length, Option, Some, None, refl, sym, ap, ◌∙◌, arith, length-append}
use Rattle.std.specs.Prelude.{if◌then◌else◌}
use Rattle.std.specs.List.{sum_by}
use Rattle.ib_meaning.specs.declared.place.Place.{Place}
use Rattle.ib_act.specs.declared.act.Act.{Act}
use Rattle.ib_act.specs.Acts.{first_source, second_source}
use Rattle.tac_core.specs.declared.code.TacOp.{TacOp}
use Rattle.tac_core.specs.declared.code.End.{End}
use Rattle.tac_core.specs.declared.code.End.TheVariants.{Jump, Branch, Call, Ret}
use Rattle.tac_core.specs.declared.code.Block.{Block}
use Rattle.wide_core.specs.declared.code.WideAct.{WideAct}
use Rattle.wide_core.specs.declared.code.WideAct.TheVariants.{Do, Jump as Goes, Branch as GoesIf, Call as Calls, Return}
use Rattle.wide_core.specs.Operation.{reg_of}
use Rattle.tac_core.specs.Meaning.{place_of}
use Rattle.std.proofs.lemmas.List.{append-nil}
use Rattle.std.proofs.lemmas.List.Sums.{sum_by-cons}
use Rattle.wide_core.specs.Uses.{opt_list, reads, writes_now}
use Rattle.plain_code.specs.Plain.{item, reload, reloads, spill, renamed, spread, spread_all, end_acts, rest_items, size}
use Rattle.wide_plain.specs.Sizes.{reg_size, opt_size, regs_size, act_size, end_size, op_size, block_size}

joined_long : (whole a b x y z : ℕ) → whole ≡ a + b → a ≡ x → b ≡ y + z → whole ≡ x + y + z
joined_long whole a b x y z e f g = omega arith

module _ (low : ℕ) (at : ℕ → ℕ) where
  by_test : {A : Type 0} (b : Bool) (x : A) → length (if b then [] else (x ∷ [])) ≡ (if b then 0 else 1)
  by_test true x = refl
  by_test false x = refl

  reload_size : (home : Place) (all : List ℕ) (r : ℕ) → length (reload low home all r) ≡ reg_size low r
  reload_size home all r = by_test (nat_lt r low) _

  reloads_size : (home : Place) (all rs : List ℕ) → length (reloads low home all rs) ≡ regs_size low rs
  reloads_size home all [] = refl
  reloads_size home all (r ∷ rs) =
      length-append (reload low home all r) (reloads low home all rs) ∙ ap (λ n. n + length (reloads low home all rs)) (reload_size home all r)
      ∙ ap (λ n. reg_size low r + n) (reloads_size home all rs)

  spill_size : (home : Place) (r : Option ℕ) → length (spill low home r) ≡ opt_size low r
  spill_size home None = refl
  spill_size home (Some r) = by_test (nat_lt r low) _

  opts_size : (a b : Option ℕ) → regs_size low (opt_list a ++ opt_list b) ≡ opt_size low a + opt_size low b
  opts_size None None = refl
  opts_size None (Some b) = omega arith
  opts_size (Some a) None = refl
  opts_size (Some a) (Some b) = omega arith

  spread_size : (home : Place) (act : WideAct) → length (spread low at home act) ≡ regs_size low (reads act) + suc (opt_size low (writes_now act))
  spread_size home act =
      let l = length-append (reloads low home (reads act) (reads act)) (item home (renamed low at act) ∷ spill low home (writes_now act)) in
      let r = reloads_size home (reads act) (reads act) in
      let s = spill_size home (writes_now act) in
      omega (arith, l, r, s)

  act_long : (home : Place) (act : Act) → length (spread low at home (Do act)) ≡ act_size low act
  act_long home act =
      let s = spread_size home (Do act) in
      let o = opts_size (first_source act) (second_source act) in
      omega (arith, s, o)

  -- an operation behind which nothing comes
  last_size : (home : Place) (act : WideAct) → length (spread low at home act ++ []) ≡ regs_size low (reads act) + suc (opt_size low (writes_now act))
  last_size home act = ap length (append-nil (spread low at home act)) ∙ spread_size home act

  end_long : (home : Place) (e : End) → length (spread_all low at home (end_acts e)) ≡ end_size low e
  end_long home (Jump l) = refl
  end_long home (Branch r y n) =
      let l = length-append (spread low at home (GoesIf r y)) (spread low at home (Goes n) ++ []) in
      let s = spread_size home (GoesIf r y) in
      let j : length (spread low at home (Goes n) ++ []) ≡ 1 = refl in
      omega (arith, l, s, j)
  end_long home (Call d f args l) = let s = last_size home (Calls (reg_of d) f l args) in omega (arith, s)
  end_long home (Ret None) = refl
  end_long home (Ret (Some r)) = let s = last_size home (Return (Some r)) in omega (arith, s)

  rest_long : (places : List Place) (ops : List TacOp) (b : Block) → length (rest_items low places at ops b) ≡ sum_by (op_size low) ops + end_size low b.«end»
  rest_long places [] b = let e = end_long (place_of places b.end_stmt) b.«end» in omega (arith, e)
  rest_long places (op ∷ ops) b =
      let rest = rest_items low places at ops b in
      joined_long (length (spread low at (place_of places op.stmt) (Do op.act) ++ rest)) (length (spread low at (place_of places op.stmt) (Do op.act))) (length rest)
      (op_size low op) (sum_by (op_size low) ops) (end_size low b.«end»)
      (length-append (spread low at (place_of places op.stmt) (Do op.act)) rest) (act_long (place_of places op.stmt) op.act) (rest_long places ops b)
      ∙ ap (λ n. n + end_size low b.«end») (sym (sum_by-cons (op_size low) op ops))

pub block_long : (low : ℕ) (places : List Place) (b : Block) → size low places b ≡ block_size low b
block_long low places b = rest_long low (λ l. 0) places b.ops b
