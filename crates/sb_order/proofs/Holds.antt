-- What is known of bases holds in each state of a run, and accesses that are known to be apart are.
use Rattle.std.proofs.Common.{◌≡◌, ℕ, ◌≤◌, Bool, true, false, ◌==◌, [], length, map, true≢false, T, Option, Some, Ok, refl, sym, ap, ◌∙◌, subst, arith, ℤ, pos, ◌+ℤ◌, int_le, w64, FitsSigned}
use Rattle.std.specs.Int.{int_wrap, cast_unsigned}
use Rattle.std.specs.Int.Signed.{le_z_yes}
use Rattle.std.proofs.lemmas.Int.{ints, int_wrap-add_left, SFits-int_wrap}
use Rattle.ib_act.specs.declared.act.Act.TheVariants.{Const, FrameAddress}
use Rattle.ib_act.specs.Acts.{address, bytes_in, IsOffset}
use Rattle.ib_mem.specs.Memory.{can_access}
use Rattle.wide_core.specs.declared.code.Loc.{Loc}
use Rattle.wide_core.specs.declared.code.Loc.TheVariants.{Reg}
use Rattle.wide_core.specs.declared.code.Tagged.{Tagged}
use Rattle.wide_core.specs.declared.code.Tagged.TheVariants.{Clear}
use Rattle.wide_core.specs.declared.code.WideAct.{WideAct}
use Rattle.wide_core.specs.declared.code.WideAct.TheVariants.{Do, Call}
use Rattle.wide_core.specs.declared.code.WideOp.{WideOp}
use Rattle.wide_core.specs.declared.tags.Done.TheVariants.{Value}
use Rattle.wide_core.specs.Tagged.{number_of, evaluated}
use Rattle.wide_core.specs.Places.{put}
use Rattle.wide_core.specs.Operation.{sources, Effect, Nothing, Write, Save, Take, Print, Go, Leave, Stop, effect_by, effect_on, shown}
use Rattle.wide_core.specs.Word.{Flow, apply}
use Rattle.wide_core.specs.Uses.{writes_now, is_target, written}
use Rattle.wide_core.specs.Flat.{around, one_effect}
use Rattle.wide_core.specs.Accesses.{Root, Number, Frame, Reaching, Base, Known, given_by, learn, same_root, disjoint}
use Rattle.sb_order.specs.Order.{InRange, IsOperation}
use Rattle.sb_order.proofs.Closed.{eq_same, both}
use Rattle.mem_laws.proofs.Stores.{kept_length, AreApart, FirstBelow, FirstAbove, IsNear, far_apart}
use Rattle.wide_laws.proofs.Suits.{Suits, AsWrite, AsTake, suits_on}

-- ---- what is known of a register

pub record IsNumber (z : ℤ) (t : Tagged) : Type 0 where
  pub is : t ≡ Clear z
  pub fits : FitsSigned w64 z

pub record IsInFrame (base : ℕ) (z : ℤ) (t : Tagged) : Type 0 where
  pub is : t ≡ Clear (address (pos base) z)
  pub fits : FitsSigned w64 z

-- nothing but which register it is
pub record IsItself (r q : ℕ) (z : ℤ) : Type 0 where
  pub same : q ≡ r
  pub none : z ≡ pos 0

module _ (base : ℕ) where
  abbrev pub Says : (r : ℕ) → Root → ℤ → Tagged → Type 0
  Says r Number z t = IsNumber z t
  Says r Frame z t = IsInFrame base z t
  Says r (Reaching n q) z t = IsItself r q z

  pub record Holds (k : Known) (s : Flow) : Type 0 where
    pub whole : 1048576 ≤ length s.memory
    pub says : (r : ℕ) → Says r (k r).root (k r).from (s.places (Reg r))

-- ---- accesses

apart_of : (a : ℤ) (m : ℕ) (b : ℤ) (n : ℕ) → disjoint a m b n ≡ true → AreApart a m b n
apart_of a m b n e = by_one (int_le (a +ℤ pos m) b) refl
  where
    by_one : (c : Bool) → int_le (a +ℤ pos m) b ≡ c → AreApart a m b n
    by_one true f = FirstBelow (le_z_yes (subst T (sym f) tt))
    by_one false f =
        let g : int_le (b +ℤ pos n) a ≡ true = (rw f at e) in FirstAbove (le_z_yes (subst T (sym g) tt))

moved_apart : (c a b x y : ℤ) (m n : ℕ) → x ≡ c +ℤ a → y ≡ c +ℤ b → AreApart a m b n → AreApart x m y n
moved_apart c a b x y m n e f (FirstBelow h) = FirstBelow (omega (arith, ints))
moved_apart c a b x y m n e f (FirstAbove h) = FirstAbove (omega (arith, ints))

near_number : (z o : ℤ) → FitsSigned w64 z → IsOffset o → IsNear (z +ℤ o)
near_number z o f i = let low = i.0 in let high = i.1 in record { least = omega (arith, ints); most = omega (arith, ints) }

near_frame : (base : ℕ) (z o : ℤ) → base ≤ 1048576 → FitsSigned w64 z → IsOffset o → IsNear (pos base +ℤ z +ℤ o)
near_frame base z o l f i = let low = i.0 in let high = i.1 in record { least = omega (arith, ints); most = omega (arith, ints) }

module _ (base : ℕ) (low : base ≤ 1048576) where
  -- an access from a register is where it is known to be
  pub far_of : (r q : ℕ) (f g : Root) (z y : ℤ) (t u : Tagged) (o p : ℤ) (n m : ℕ) → Says base r f z t → Says base q g y u → (r ≡ q → t ≡ u) → same_root f g ≡ true → disjoint (z +ℤ o) n (y +ℤ p) m ≡ true → IsOffset o → IsOffset p → can_access (address (number_of t) o) n ≡ true → can_access (address (number_of u) p) m ≡ true → AreApart (address (number_of t) o) n (address (number_of u) p) m
  far_of r q Number Number z y t u o p n m s v same e d i j c k =
      far_apart (z +ℤ o) (y +ℤ p) n m (address (number_of t) o) (address (number_of u) p) (ap (λ x. address (number_of x) o) s.is) (ap (λ x. address (number_of x) p) v.is)
      (near_number z o s.fits i) (near_number y p v.fits j) (apart_of (z +ℤ o) n (y +ℤ p) m d) c k
  far_of r q Frame Frame z y t u o p n m s v same e d i j c k =
      far_apart (pos base +ℤ z +ℤ o) (pos base +ℤ y +ℤ p) n m (address (number_of t) o) (address (number_of u) p)
      (ap (λ x. address (number_of x) o) s.is ∙ int_wrap-add_left w64 (pos base +ℤ z) o) (ap (λ x. address (number_of x) p) v.is ∙ int_wrap-add_left w64 (pos base +ℤ y) p)
      (near_frame base z o low s.fits i) (near_frame base y p low v.fits j)
      (moved_apart (pos base) (z +ℤ o) (y +ℤ p) (pos base +ℤ z +ℤ o) (pos base +ℤ y +ℤ p) n m (omega (arith, ints)) (omega (arith, ints)) (apart_of (z +ℤ o) n (y +ℤ p) m d)) c k
  far_of r q (Reaching a x) (Reaching b w) z y t u o p n m s v same e d i j c k =
      let g = both (a == b) (x == w) e in
      let x_is = s.same in
      let w_is = v.same in
      let l : r ≡ q = sym x_is ∙ eq_same x w g.1 ∙ w_is in
      let h : t ≡ u = same l in
      let z_is = s.none in
      let y_is = v.none in
      let c0 = int_wrap w64 (number_of t) in
      let fits = SFits-int_wrap w64 (number_of t) in
      far_apart (c0 +ℤ o) (c0 +ℤ p) n m (address (number_of t) o) (address (number_of u) p)
      (sym (int_wrap-add_left w64 (number_of t) o)) (ap (λ x. address (number_of x) p) (sym h) ∙ sym (int_wrap-add_left w64 (number_of t) p))
      (near_number c0 o fits i) (near_number c0 p fits j)
      (moved_apart c0 (z +ℤ o) (y +ℤ p) (c0 +ℤ o) (c0 +ℤ p) n m (omega (arith, ints)) (omega (arith, ints)) (apart_of (z +ℤ o) n (y +ℤ p) m d)) c k
  far_of r q Number Frame z y t u o p n m s v same e d i j c k = absurd (true≢false (sym e))
  far_of r q Number (Reaching b w) z y t u o p n m s v same e d i j c k = absurd (true≢false (sym e))
  far_of r q Frame Number z y t u o p n m s v same e d i j c k = absurd (true≢false (sym e))
  far_of r q Frame (Reaching b w) z y t u o p n m s v same e d i j c k = absurd (true≢false (sym e))
  far_of r q (Reaching a x) Number z y t u o p n m s v same e d i j c k = absurd (true≢false (sym e))
  far_of r q (Reaching a x) Frame z y t u o p n m s v same e d i j c k = absurd (true≢false (sym e))

-- ---- what an operation does not write

pub writes_written : (act : WideAct) (d : ℕ) → writes_now act ≡ Some d → written act ≡ Some d
writes_written (Call result func next args) d e = cc
writes_written act d e = e

pub put_other : (d r : ℕ) (v : Tagged) (f : Loc → Tagged) → (r == d) ≡ false → put (Reg d) v f (Reg r) ≡ f (Reg r)
put_other d r v f e = rw e refl

pub other_than : (o : Option ℕ) (d r : ℕ) → o ≡ Some d → is_target o r ≡ false → (r == d) ≡ false
other_than o d r e f = rw e at f

-- a value is the same whether its operation is flagged or not
pub value_either : (b : Bool) (n : ℕ) (z v : ℤ) → evaluated b n (Clear z) (Ok v) ≡ Value v
value_either true n z v = refl
value_either false n z v = refl

module _ (heads : ℕ → ℕ → Bool) (base : ℕ) (room : ℕ → Bool) where
  pub places_other : (act : WideAct) (s : Flow) (e : Effect) → Suits heads act e → (r : ℕ) → is_target (written act) r ≡ false → (apply e s).places (Reg r) ≡ s.places (Reg r)
  places_other act s Nothing u r h = refl
  places_other act s (Write to v) (AsWrite d v2 w en) r h = put_other d r v s.places (other_than (written act) d r (writes_written act d w) h)
  places_other act s (Save w a z) u r h = refl
  places_other act s (Take d) (AsTake d2 w en) r h = put_other d r _ s.places (other_than (written act) d r (writes_written act d w) h)
  places_other act s (Print text) u r h = refl
  places_other act s (Go x) u r h = refl
  places_other act s (Leave z) u r h = refl
  places_other act s (Stop n k) u r h = refl

  stays_whole : (s : Flow) (e : Effect) → 1048576 ≤ length s.memory → 1048576 ≤ length (apply e s).memory
  stays_whole s (Save w a z) h = kept_length s.memory a (bytes_in w) (cast_unsigned w64 z) h
  stays_whole s Nothing h = h
  stays_whole s (Write to v) h = h
  stays_whole s (Take d) h = h
  stays_whole s (Print text) h = h
  stays_whole s (Go x) h = h
  stays_whole s (Leave z) h = h
  stays_whole s (Stop n k) h = h

  put_here : (d r : ℕ) (v : Tagged) (f : Loc → Tagged) → (r == d) ≡ true → put (Reg d) v f (Reg r) ≡ v
  put_here d r v f e = rw e refl

  made_by : (act : WideAct) (op : WideOp) (n r : ℕ) (s : Flow) → InRange act → is_target (written act) r ≡ true → Says base r (given_by act n r).root (given_by act n r).from ((apply (effect_by act op (around base room s) (map s.places (sources act))) s).places (Reg r))
  made_by (Do (Const to v)) op n r s i h = record {
    is = ap (λ d. (apply (shown (Do (Const to v)) [] d) s).places (Reg r)) (value_either op.flagged op.number (pos 0) v) ∙ put_here to r (Clear v) s.places h;
    fits = i;
  }
  made_by (Do (FrameAddress to o)) op n r s i h = record {
    is = ap (λ d. (apply (shown (Do (FrameAddress to o)) [] d) s).places (Reg r)) (value_either op.flagged op.number (pos 0) (address (pos base) o)) ∙ put_here to r (Clear (address (pos base) o)) s.places h;
    fits = i;
  }
  made_by act op n r s i h = record { same = refl; none = refl }

  made_on : (op : WideOp) (r : ℕ) (s : Flow) → InRange op.act → is_target (written op.act) r ≡ true → Says base r (given_by op.act op.number r).root (given_by op.act op.number r).from ((apply (one_effect base room op s) s).places (Reg r))
  unfolding effect_on
  made_on op r s i h = made_by op.act op op.number r s i h

  pub suits : (op : WideOp) (s : Flow) → IsOperation op → Suits heads op.act (one_effect base room op s)
  suits op s w = suits_on heads op (around base room s) (map s.places (sources op.act)) w.item w.flag

  -- behind an operation what is known then holds
  pub learned : (op : WideOp) (s : Flow) (k : Known) → IsOperation op → Holds base k s → Holds base (learn op k) (apply (one_effect base room op s) s)
  learned op s k w h = record { whole = stays_whole s (one_effect base room op s) h.whole; says = λ r. by_one r (is_target (written op.act) r) refl }
    where
      by_one : (r : ℕ) (b : Bool) → is_target (written op.act) r ≡ b → Says base r (learn op k r).root (learn op k r).from ((apply (one_effect base room op s) s).places (Reg r))
      by_one r true e = subst (λ (x : Base). Says base r x.root x.from ((apply (one_effect base room op s) s).places (Reg r))) (sym (learn_this r e)) (made_on op r s w.in_range e)
        where
          learn_this : (r : ℕ) → is_target (written op.act) r ≡ true → learn op k r ≡ given_by op.act op.number r
          learn_this r e = rw e refl
      by_one r false e =
          subst (λ t. Says base r (learn op k r).root (learn op k r).from t) (sym (places_other op.act s (one_effect base room op s) (suits op s w) r e))
          (subst (λ (x : Base). Says base r x.root x.from (s.places (Reg r))) (sym (learn_that r e)) (h.says r))
        where
          learn_that : (r : ℕ) → is_target (written op.act) r ≡ false → learn op k r ≡ k r
          learn_that r e = rw e refl
