-- Registers are counted in any order.
use Rattle.std.proofs.Common.{◌≡◌, ℕ, suc, max, ◌+◌, ◌<◌, length, add-one, subst, List, [], ◌∷◌, ◌++◌, refl, sym, ap, ◌∙◌, arith, Option, Some, None}
use Rattle.ib_act.specs.Acts.{target, first_source, second_source}
use Rattle.std.proofs.Math.Seq.{drop-cons}
use Rattle.std.proofs.Math.ListN.{drop, get_or}
use Rattle.tac_core.specs.declared.code.End.{End}
use Rattle.tac_core.specs.declared.code.End.TheVariants.{Jump, Branch, Call, Ret}
use Rattle.tac_lowered.specs.Items.{Item, Do, Close}
use Rattle.tac_lowered.specs.Lowered.{up_to, up_to_all, up_to_end, registers}

pub max_swap : (a b n : ℕ) → max a (max b n) ≡ max b (max a n)
max_swap a b n = omega arith

pub all_later : (rs : List ℕ) (r n : ℕ) → up_to_all rs (max (suc r) n) ≡ max (suc r) (up_to_all rs n)
all_later [] r n = refl
all_later (q ∷ rs) r n = ap (max (suc q)) (all_later rs r n) ∙ max_swap (suc q) (suc r) (up_to_all rs n)

up_later : (r : Option ℕ) (q n : ℕ) → up_to r (max (suc q) n) ≡ max (suc q) (up_to r n)
up_later None q n = refl
up_later (Some r) q n = max_swap (suc r) (suc q) n

end_later : (e : End) (q n : ℕ) → up_to_end e (max (suc q) n) ≡ max (suc q) (up_to_end e n)
end_later (Jump l) q n = refl
end_later (Branch r there other) q n = max_swap (suc r) (suc q) n
end_later (Call to f args next) q n = ap (up_to to) (all_later args q n) ∙ up_later to q (up_to_all args n)
end_later (Ret r) q n = up_later r q n

registers_max : (is : List Item) (q n : ℕ) → registers is (max (suc q) n) ≡ max (suc q) (registers is n)
registers_max [] q n = refl
registers_max (Do s act ∷ is) q n =
    ap (λ k. up_to (target act) (up_to (first_source act) (up_to (second_source act) k))) (registers_max is q n)
    ∙ ap (λ k. up_to (target act) (up_to (first_source act) k)) (up_later (second_source act) q (registers is n))
    ∙ ap (up_to (target act)) (up_later (first_source act) q (up_to (second_source act) (registers is n)))
    ∙ up_later (target act) q (up_to (first_source act) (up_to (second_source act) (registers is n)))
registers_max (Close s e ∷ is) q n = ap (up_to_end e) (registers_max is q n) ∙ end_later e q (registers is n)

registers_up : (is : List Item) (r : Option ℕ) (n : ℕ) → registers is (up_to r n) ≡ up_to r (registers is n)
registers_up is None n = refl
registers_up is (Some r) n = registers_max is r n

registers_all : (is : List Item) (rs : List ℕ) (n : ℕ) → registers is (up_to_all rs n) ≡ up_to_all rs (registers is n)
registers_all is [] n = refl
registers_all is (r ∷ rs) n = registers_max is r (up_to_all rs n) ∙ ap (max (suc r)) (registers_all is rs n)

registers_end : (is : List Item) (e : End) (n : ℕ) → registers is (up_to_end e n) ≡ up_to_end e (registers is n)
registers_end is (Jump l) n = refl
registers_end is (Branch r there other) n = registers_max is r n
registers_end is (Call to f args next) n = registers_up is to (up_to_all args n) ∙ ap (up_to to) (registers_all is args n)
registers_end is (Ret r) n = registers_up is r n

-- registers of two lists of items, the second counted behind the first
pub registers_behind : (xs ys : List Item) (n : ℕ) → registers ys (registers xs n) ≡ registers (xs ++ ys) n
registers_behind [] ys n = refl
registers_behind (Do s act ∷ xs) ys n =
    registers_up ys (target act) (up_to (first_source act) (up_to (second_source act) (registers xs n)))
    ∙ ap (up_to (target act)) (registers_up ys (first_source act) (up_to (second_source act) (registers xs n)))
    ∙ ap (λ k. up_to (target act) (up_to (first_source act) k)) (registers_up ys (second_source act) (registers xs n))
    ∙ ap (λ k. up_to (target act) (up_to (first_source act) (up_to (second_source act) k))) (registers_behind xs ys n)
registers_behind (Close s e ∷ xs) ys n = registers_end ys e (registers xs n) ∙ ap (up_to_end e) (registers_behind xs ys n)

pub all_step : (rs : List ℕ) (i most next w : ℕ) → i < length rs → next ≡ max (suc (get_or rs i 0)) most → up_to_all (drop i rs) most ≡ w → up_to_all (drop (i + 1) rs) next ≡ w
all_step rs i most next w lt is so =
    subst (λ j. up_to_all (drop j rs) next ≡ w) (sym (add-one i))
    (ap (up_to_all (drop (suc i) rs)) is ∙ all_later (drop (suc i) rs) (get_or rs i 0) most ∙ ap (λ l. up_to_all l most) (sym (drop-cons rs i 0 lt)) ∙ so)
