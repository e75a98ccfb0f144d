-- Any order of the items that keeps what depends on what does the same.
use Rattle.std.proofs.Common.{◌≡◌, ℕ, ◌≤◌, Bool, true, false, ◌||◌, ◌==◌, List, [], ◌∷◌, ◌++◌, map, true≢false, Some, refl, sym, ◌∙◌, subst}
use mathlib.Core.Path.{fun_ext}
use Rattle.wide_core.specs.declared.code.WideOp.{WideOp}
use Rattle.wide_core.specs.Word.{Flow, apply}
use Rattle.wide_core.specs.Uses.{reads, in_list, is_target, written}
use Rattle.wide_core.specs.Flat.{one_effect, flat}
use Rattle.wide_core.specs.Every.{Every, Nil, Cons}
use Rattle.wide_core.specs.Accesses.{Known, base_in, learn}
use Rattle.sb_order.specs.Edges.{Item, items}
use Rattle.sb_order.specs.Order.{IsOperation, Free, Keeps, Empty, Bring}
use Rattle.sb_order.proofs.Closed.{eq_refl, is_the}
use Rattle.sb_order.proofs.Sorted.{false_by}
use Rattle.sb_order.proofs.Holds.{Holds, learned}
use Rattle.sb_order.proofs.Neighbours.{Both, swaps}
use Rattle.sb_order.proofs.Swap.{Like, like_refl, like_trans, goes_on_like}

-- all are operations of a superblock, and each item's base is what is known where it stands
pub data Truthful : Known → List Item → Type 0 where
  Silent : (k : Known) → Truthful k []
  Speak : (k : Known) (i : Item) (is : List Item) → IsOperation i.op → i.base ≡ base_in k (reads i.op.act) → Truthful (learn i.op k) is → Truthful k (i ∷ is)

pub truthful_items : (k : Known) {ops : List WideOp} → Every IsOperation ops → Truthful k (items k ops)
truthful_items k Nil = Silent k
truthful_items k (Cons op ops w ws) = Speak k (record { op = op; base = base_in k (reads op.act) }) (items (learn op k) ops) w refl (truthful_items (learn op k) ws)

-- what an operation does not write stays known
learn_other : (op : WideOp) (k : Known) (r : ℕ) → is_target (written op.act) r ≡ false → learn op k r ≡ k r
learn_other op k r e = rw e refl

pub base_other : (op : WideOp) (k : Known) (rs : List ℕ) → ((r : ℕ) → written op.act ≡ Some r → in_list r rs ≡ false) → base_in (learn op k) rs ≡ base_in k rs
base_other op k [] h = refl
base_other op k (r ∷ rs) h = learn_other op k r (false_by (is_target (written op.act) r) λ e. clash (h r (is_the (written op.act) r e)))
  where
    clash : ((r == r) || in_list r rs) ≡ false → ⊥
    clash e = let g : (r == r) ≡ true = eq_refl r in let f : (true || in_list r rs) ≡ false = (rw g at e) in true≢false f

learn_swap : (a i : WideOp) (k : Known) → ((r : ℕ) → written a.act ≡ Some r → is_target (written i.act) r ≡ false) → learn i (learn a k) ≡ learn a (learn i k)
learn_swap a i k h = fun_ext λ r. at r (is_target (written a.act) r) refl (is_target (written i.act) r) refl
  where
    at : (r : ℕ) (b : Bool) → is_target (written a.act) r ≡ b → (c : Bool) → is_target (written i.act) r ≡ c → learn i (learn a k) r ≡ learn a (learn i k) r
    at r true e true f = absurd (true≢false (sym f ∙ h r (is_the (written a.act) r e)))
    at r true e false f = simp (e, f)
    at r false e true f = simp (e, f)
    at r false e false f = simp (e, f)

module _ (heads : ℕ → ℕ → Bool) (base : ℕ) (low : base ≤ 1048576) (room : ℕ → Bool) where
  abbrev pub ops : List Item → List WideOp
  ops is = map (λ (i : Item). i.op) is

  pub base_first : {k : Known} {i : Item} {is : List Item} → Truthful k (i ∷ is) → i.base ≡ base_in k (reads i.op.act)
  base_first (Speak k i is w e t) = e

  pub is_first : {k : Known} {i : Item} {is : List Item} → Truthful k (i ∷ is) → IsOperation i.op
  is_first (Speak k i is w e t) = w

  pub truth_behind : {k : Known} {i : Item} {is : List Item} → Truthful k (i ∷ is) → Truthful (learn i.op k) is
  truth_behind (Speak k i is w e t) = t

  truth_front : {k : Known} {i : Item} {is js : List Item} → Truthful k (i ∷ is) → Truthful (learn i.op k) js → Truthful k (i ∷ js)
  truth_front {js = js} (Speak k i is w e t) u = Speak k i js w e u

  swap_truth : {k : Known} {i a : Item} {rest : List Item} → Free heads a i → Truthful k (i ∷ a ∷ rest) → Truthful k (a ∷ i ∷ rest)
  swap_truth f (Speak k i _ v c (Speak _ a rest w d t)) =
      Speak k a (i ∷ rest) w (d ∙ base_other i.op k (reads a.op.act) f.reads_of)
      (Speak (learn a.op k) i rest v (c ∙ sym (base_other a.op k (reads i.op.act) f.read_by))
      (subst (λ l. Truthful l rest) (sym (learn_swap a.op i.op k f.differ)) t))

  -- both are true, and the second does what the first does
  pub record AsTrue (k : Known) (is js : List Item) : Type 0 where
    pub truth : Truthful k js
    pub runs : (s : Flow) → Holds base k s → Like heads (flat base room (ops js) s) (flat base room (ops is) s)

  as_true_behind : {k : Known} {i : Item} {is js : List Item} → Truthful k (i ∷ is) → AsTrue (learn i.op k) is js → AsTrue k (i ∷ is) (i ∷ js)
  as_true_behind {k} {i} {is} {js} t a = record {
    truth = truth_front t a.truth;
    runs = λ s h. goes_on_like heads base room (one_effect base room i.op s) (flat base room (ops js)) (flat base room (ops is)) s (a.runs (apply (one_effect base room i.op s) s) (learned heads base room i.op s k (is_first t) h));
  }

  as_true_trans : {k : Known} {is js ks : List Item} → AsTrue k is js → AsTrue k js ks → AsTrue k is ks
  as_true_trans a b = record { truth = b.truth; runs = λ s h. like_trans heads base room (b.runs s h) (a.runs s h) }

  swapped : {k : Known} {i a : Item} {rest : List Item} → Free heads a i → Truthful k (i ∷ a ∷ rest) → AsTrue k (i ∷ a ∷ rest) (a ∷ i ∷ rest)
  swapped {k} {i} {a} {rest} f t = record {
    truth = swap_truth f t;
    runs = λ s h.
        let u = swap_truth f t in
        let b : Both heads base low room k a i = record { first = is_first u; second = is_first t; first_base = base_first u; second_base = base_first t } in
        swaps heads base low room a i (ops rest) k s b h f;
  }

  pull : {i : Item} {xs : List Item} (ys : List Item) (k : Known) → Every (λ (a : Item). Free heads a i) xs → Truthful k (i ∷ (xs ++ ys)) → AsTrue k (i ∷ (xs ++ ys)) (xs ++ i ∷ ys)
  pull {i} ys k Nil t = record { truth = t; runs = λ s h. like_refl heads base room (flat base room (i.op ∷ ops ys) s) }
  pull {i} ys k (Cons a xs f fs) t =
      let w = swapped f t in
      as_true_trans w (as_true_behind w.truth (pull ys (learn a.op k) fs (truth_behind w.truth)))

  pub reorder : {is js : List Item} → Keeps heads is js → (k : Known) → Truthful k is → AsTrue k is js
  reorder Empty k t = record { truth = t; runs = λ s h. like_refl heads base room (flat base room [] s) }
  reorder (Bring i is xs ys f r) k t =
      let a = as_true_behind t (reorder r (learn i.op k) (truth_behind t)) in
      as_true_trans a (pull ys k f a.truth)
