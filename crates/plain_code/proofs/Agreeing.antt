-- Plain code does what its lowered program does, within a bound.
use Rattle.std.proofs.Common.{◌≡◌, ℕ, suc, ◌+◌, ◌-◌, ◌*◌, ◌^◌, Bool, true, false, List, [], ◌∷◌, length, map, bytes_eq, if◌then◌else◌, refl, sym, ap₂, subst, arith}
use Rattle.std.proofs.lemmas.Slice.Eq.{bytes_eq-Decides}
use Rattle.ib_meaning.specs.declared.place.Place.{Place}
use Rattle.ib_meaning.specs.Agreement.{Agrees, Within}
use Rattle.ib_meaning.proofs.Agreement.{agree_trans, within_trans, within_weaker}
use Rattle.ib_meaning.proofs.Simulation.{simulates, simulates_within}
use Rattle.machine_desc.specs.declared.machine.OpClass.{OpClass}
use Rattle.machine_desc.specs.Machine.{IsTable}
use Rattle.tac_core.specs.declared.code.TacFunc.{TacFunc}
use Rattle.tac_core.specs.Program.{Program, main_in, main_of, main_name}
use Rattle.tac_core.specs.Rules.{IsValid}
use Rattle.tac_core.specs.Meaning.{tac_step, tac_meaning, start_at, first_frame, first_memory as tac_first_memory}
use Rattle.wide_core.specs.Meaning.{word_step, word_start, word_meaning, wide_meaning, enter}
use Rattle.wide_core.specs.Parts.{number_of_main, first_memory}
use Rattle.wide_core.proofs.Cycles.{cycles_agree, cycles_within}
use Rattle.plain_code.specs.Plain.{func_items, funcs_from, plain}
use Rattle.plain_code.proofs.Simulation.{Related, Nobody, IsFew, call_related, code, together}

same_either_way : (xs ys : List ℕ) → bytes_eq xs ys ≡ bytes_eq ys xs
same_either_way xs ys = by (bytes_eq xs ys) (bytes_eq ys xs) refl refl
  where
    by : (a b : Bool) → bytes_eq xs ys ≡ a → bytes_eq ys xs ≡ b → a ≡ b
    by true true e f = refl
    by false false e f = refl
    by true false e f = let g = (bytes_eq-Decides ys xs).1 (sym ((bytes_eq-Decides xs ys).0 e)) in cc
    by false true e f = let g = (bytes_eq-Decides xs ys).1 (sym ((bytes_eq-Decides ys xs).0 f)) in cc

same_memory : (image : List ℕ) → tac_first_memory image ≡ first_memory image
unfolding tac_first_memory first_memory
same_memory image = refl

main_same : (low : ℕ) (places : List Place) (n : ℕ) (fs : List TacFunc) → main_in (map (λ (f : TacFunc). f.name) fs) ≡ number_of_main (funcs_from low places n fs)
main_same low places n [] = refl
main_same low places n (f ∷ fs) =
    ap₂ (λ (b : Bool) k. if b then 0 else suc k) (same_either_way main_name f.name) (main_same low places (n + length (func_items low places f)) fs)

module _ (low : ℕ) (p : Program) (valid : IsValid p) where
  starts : Related low p valid (start_at p.funcs (main_of p) p.image) (word_start (code low p valid))
  unfolding word_start
  starts =
      subst (λ n. Related low p valid (start_at p.funcs (main_of p) p.image) (enter (code low p valid) n (first_frame (length p.image)) [] [] (first_memory p.image))) (main_same low p.places 1 p.funcs)
      (subst (λ memory. Related low p valid (start_at p.funcs (main_of p) p.image) (enter (code low p valid) (main_of p) (first_frame (length p.image)) [] [] memory)) (same_memory p.image)
      (call_related low p valid (main_of p) (first_frame (length p.image)) [] [] (tac_first_memory p.image) [] Nobody))

  words_agree : Agrees (tac_meaning p) (word_meaning (code low p valid))
  unfolding tac_meaning word_meaning
  words_agree = simulates (tac_step p.funcs p.places) (word_step (code low p valid)) (IsFew low p valid) (Related low p valid) (together low p valid) _ _ starts

  words_within : Within (λ n. 9 * n) (tac_meaning p) (word_meaning (code low p valid))
  unfolding tac_meaning word_meaning
  words_within = simulates_within (tac_step p.funcs p.places) (word_step (code low p valid)) (IsFew low p valid) (Related low p valid) (together low p valid) 9 (λ x few. few) _ _ starts

-- on every machine
module _ (width regs : ℕ) (units latency : OpClass → ℕ) (table : IsTable width regs units latency) (p : Program) (valid : IsValid p) where
  -- plain code does what its program does
  pub plain_agrees : Agrees (tac_meaning p) (wide_meaning latency (plain regs p))
  unfolding plain
  plain_agrees = agree_trans (words_agree (regs - 8) p valid) (cycles_agree latency table.soon_ready (code (regs - 8) p valid))

  -- what is done in k steps is done in so many cycles
  pub plain_within : Within (λ k. 2 ^ 8 * (k + 1)) (tac_meaning p) (wide_meaning latency (plain regs p))
  unfolding plain
  plain_within =
      within_weaker (λ n. let e : 2 ^ 8 ≡ 256 = refl in omega arith)
      (within_trans (words_within (regs - 8) p valid) (cycles_within latency table.soon_ready (code (regs - 8) p valid)))
