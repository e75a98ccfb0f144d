-- With true tables, edges lead where they have to.
use Rattle.std.proofs.Common.{◌≡◌, ◌⊎◌, inl, inr, ◌+◌, ◌<◌, ◌≤◌, ℕ, zero, suc, Bool, true, false, not, List, [], ◌∷◌, Option, Some, None, length, refl, sym, ap, ap₂, ◌∙◌, subst, ⊎_elim, arith}
use Rattle.std.specs.Prelude.{slice_get, ◌↔◌, ◌==◌, if◌then◌else◌}
use Rattle.std.proofs.lemmas.Bool.{cases_lt}
use Rattle.std.proofs.lemmas.Bool.Decides.{eqb_tells}
use Rattle.std.proofs.lemmas.Option.{slice_get_within, slice_get_past}
use Rattle.tac_core.specs.declared.code.End.{End}
use Rattle.tac_core.specs.declared.code.End.TheVariants.{Jump, Branch, Call, Ret}
use Rattle.tac_core.specs.declared.code.Block.{Block}
use Rattle.tac_core.specs.declared.code.TacFunc.{TacFunc}
use Rattle.tac_core.specs.Counts.{IsTargetOf, LeadsTo, HasEdge}
use Rattle.tac_core.specs.Traces.{Labels, StandsAt, ArePartition, AreChains}
use Rattle.tail_dup.specs.Duplicated.{IsBehind, IsFirst, IsSideEntered, AreCopies, tails, IsAlong, Keeps, IsLed, Kept, Moved, IsEndLed, IsBlockLed}
use Rattle.tail_dup.specs.Tables.{AreBefore, AreBlocks, AreAllBlocks, is_aside, HasEntrance, AreEntered, is_entered, AreCopyLabels, copied_label, leaves_it, led_by, led, led_end, led_block, AreTables}
use Rattle.tail_dup.proofs.Places.{same_label, prior, first_alone, behind_place}
use Rattle.tail_dup.proofs.Chained.{LeadsBy, leads_by, by_leads}
use Rattle.tail_dup.proofs.Tails.{IsIn, IsCopiedAt, in_tails, of_tails}

not_true : (b : Bool) → not b ≡ true → b ≡ true → ⊥
not_true true h e = cc
not_true false h e = cc

not_false : (b : Bool) → (b ≡ true → ⊥) → not b ≡ true
not_false true h = absurd (h refl)
not_false false h = refl

module _ (f : TacFunc) (chains : List Labels) (before : List (Option ℕ)) (h : AreChains f chains) (priors : AreBefore (length f.blocks) chains before) where
  abbrev n : ℕ
  n = length f.blocks

  -- the block before, known from the table
  prior_is : (l m c k : ℕ) → StandsAt chains l c k → StandsAt chains m c (suc k) → slice_get before m ≡ Some (Some l)
  prior_is l m c k s s' = priors.behind l m (record { chain = c; place = k; before = s; stands = s' })

  entered_at : (m from c k : ℕ) → StandsAt chains m c k → HasEdge f from m → is_aside (slice_get before m) from ≡ true → IsSideEntered f chains m
  entered_at m from c zero s edge aside =
      let none : slice_get before m ≡ Some None = priors.first m (record { chain = c; stands = s }) in
      let no' : false ≡ true = ap (λ z. is_aside z from) (sym none) ∙ aside in cc
  entered_at m from c (suc k) s edge aside =
      let p = prior chains m c k s in
      let is : slice_get before m ≡ Some (Some p.0) = prior_is p.0 m c k p.1 s in
      let other : not (p.0 == from) ≡ true = ap (λ z. is_aside z from) (sym is) ∙ aside in
      record {
        chain = c;
        place = k;
        leaves = from;
        stands = s;
        edge = edge;
        aside = λ at.
            let same : p.0 ≡ from = same_label chains p.0 from c k p.1 at in
            ⊎_elim (λ y. not_true (p.0 == from) other y.0) (λ no''. no''.1 same) (eqb_tells p.0 from);
      }

  pub entrance_side : (m : ℕ) → HasEntrance f.blocks before n m → IsSideEntered f chains m
  entrance_side m e =
      ⊎_elim
      (λ lt. let at = h.partition.somewhere m lt in entered_at m e.from at.0 at.1 at.2 e.leads e.aside)
      (λ ge.
      let many = priors.many in
      let none : slice_get before m ≡ None = slice_get_past before m (omega arith) in
      let no' : false ≡ true = ap (λ z. is_aside z e.from) (sym none) ∙ e.aside in cc)
      (cases_lt m n)

  pub side_entrance : (m : ℕ) → IsSideEntered f chains m → HasEntrance f.blocks before n m
  side_entrance m s =
      let p = prior chains m s.chain s.place s.stands in
      let is : slice_get before m ≡ Some (Some p.0) = prior_is p.0 m s.chain s.place p.1 s.stands in
      let edge = leads_by (slice_get f.blocks s.leaves) m s.edge in
      record {
        from = s.leaves;
        early = slice_get_within f.blocks s.leaves edge.found edge.is;
        leads = s.edge;
        aside = ap (λ z. is_aside z s.leaves) is
            ∙ not_false (p.0 == s.leaves) (λ e. s.aside (subst (λ z. StandsAt chains z s.chain s.place) (same_number p.0 s.leaves e) p.1));
      }
    where
      same_number : (a b : ℕ) → (a == b) ≡ true → a ≡ b
      same_number a b e = ⊎_elim (λ y. y.1) (λ no'. let both : true ≡ false = sym e ∙ no'.0 in cc) (eqb_tells a b)

  pub copies_are : (entered : List Bool) (copied : List ℕ) → AreEntered f.blocks before n entered → copied ≡ tails (is_entered entered) chains → AreCopies f chains copied
  copies_are entered copied e are = record {
    entered = is_entered entered;
    tells = λ m. (λ t. entrance_side m ((e.tells m).0 t), λ s. (e.tells m).1 (side_entrance m s));
    are = are;
  }

  module _ (copied : List ℕ) (copies : List (Option ℕ)) (chosen : AreCopies f chains copied) (labels : AreCopyLabels n copied (length copied) copies) where
    is_in : (t : ℕ) → IsIn (tails chosen.entered chains) t → IsIn copied t
    is_in t i = subst (λ z. IsIn z t) (sym chosen.are) i

    -- a copied block's label is a block's
    pub copied_within : (i m : ℕ) → slice_get copied i ≡ Some m → m < n
    copied_within i m is =
        let at = of_tails chosen.entered chains m (subst (λ z. IsIn z m) chosen.are (record { at = i; is = is })) in
        h.partition.within m at.chain at.place at.stands

    moved : (leaves : Option ℕ) (t : ℕ) → (Keeps chains leaves t → ⊥) → IsIn copied t → IsLed chains n copied leaves t (copied_label (slice_get copies t) t)
    moved leaves t not' i =
        let copy = labels.all i.at t (slice_get_within copied i.at t i.is) i.is in
        let at = labels.true' t copy.0 copy.1 in
        let label : copied_label (slice_get copies t) t ≡ n + at.0 = ap (λ z. copied_label z t) copy.1 ∙ at.2 in
        subst (IsLed chains n copied leaves t) (sym label) (Moved t at.0 not' at.1)

    -- the edge does not lead along the chain, so its target is copied
    abbrev IsCopiedBy : (leaves : Option ℕ) → ℕ → Type 0
    IsCopiedBy leaves t = (l c k : ℕ) → StandsAt chains l c k → StandsAt chains t c (suc k) → leaves_it leaves l ≡ false → IsIn copied t

    led_inside : (leaves : Option ℕ) (b : Bool) (t l c k : ℕ) → leaves_it leaves l ≡ b → StandsAt chains l c k → StandsAt chains t c (suc k) → IsCopiedBy leaves t → IsLed chains n copied leaves t (if b then t else copied_label (slice_get copies t) t)
    led_inside None true t l c k e s s' by = cc
    led_inside (Some a) true t l c k e s s' by =
        let same : a ≡ l = ⊎_elim (λ y. y.1) (λ no'. let both : true ≡ false = sym e ∙ no'.0 in cc) (eqb_tells a l) in
        Kept t (inr (record { chain = c; place = k; before = subst (λ z. StandsAt chains z c k) (sym same) s; stands = s' }))
    led_inside leaves false t l c k e s s' by =
        moved leaves t (λ keeps. not_kept leaves keeps e) (by l c k s s' e)
      where
        not_along : (a : ℕ) → IsBehind chains a t → (a == l) ≡ false → ⊥
        not_along a b e' =
            let at = behind_place chains n h.partition a t c k b s' in
            let same : a ≡ l = same_label chains a l c k at s in
            ⊎_elim (λ y. let both : true ≡ false = sym y.0 ∙ e' in cc) (λ no'. no'.1 same) (eqb_tells a l)

        not_kept : (leaves : Option ℕ) → Keeps chains leaves t → leaves_it leaves l ≡ false → ⊥
        not_kept leaves (inl first) e' = first_alone chains n h.partition t c k first s'
        not_kept None (inr along) e' = along
        not_kept (Some a) (inr along) e' = not_along a along e'

    led_at : (leaves : Option ℕ) (t c k : ℕ) → StandsAt chains t c k → IsCopiedBy leaves t → IsLed chains n copied leaves t (led before copies leaves t)
    led_at leaves t c zero s by =
        let first : IsFirst chains t = record { chain = c; stands = s } in
        let none : slice_get before t ≡ Some None = priors.first t first in
        subst (IsLed chains n copied leaves t) (sym (ap (λ z. led_by z (slice_get copies t) leaves t) none)) (Kept t (inl first))
    led_at leaves t c (suc k) s by =
        let p = prior chains t c k s in
        let is : slice_get before t ≡ Some (Some p.0) = prior_is p.0 t c k p.1 s in
        subst (IsLed chains n copied leaves t) (sym (ap (λ z. led_by z (slice_get copies t) leaves t) is))
        (led_inside leaves (leaves_it leaves p.0) t p.0 c k refl p.1 s by)

    led_to : (leaves : Option ℕ) (t : ℕ) → t < n → IsCopiedBy leaves t → IsLed chains n copied leaves t (led before copies leaves t)
    led_to leaves t lt by = let at = h.partition.somewhere t lt in led_at leaves t at.0 at.1 at.2 by

    end_led : (leaves : Option ℕ) (e : End) → AreBlocks n e → ((t : ℕ) → IsTargetOf e t → IsCopiedBy leaves t) → IsEndLed (IsLed chains n copied leaves) e (led_end before copies leaves e)
    end_led leaves (Jump t) there by = led_to leaves t (there t refl) (by t refl)
    end_led leaves (Branch r y m) there by = (refl, led_to leaves y (there y (inl refl)) (by y (inl refl)), led_to leaves m (there m (inr refl)) (by m (inr refl)))
    end_led leaves (Call d g args t) there by = (refl, refl, refl, led_to leaves t (there t refl) (by t refl))
    end_led leaves (Ret r) there by = refl

    block_led : (leaves : Option ℕ) (b : Block) → AreBlocks n b.«end» → ((t : ℕ) → IsTargetOf b.«end» t → IsCopiedBy leaves t) → IsBlockLed (IsLed chains n copied leaves) b (led_block before copies leaves b)
    block_led leaves b there by = record { ops = refl; end_stmt = refl; ends = end_led leaves b.«end» there by }

    -- an edge from elsewhere than the block before is a side entrance
    aside_copied : (a t l c k : ℕ) → HasEdge f a t → StandsAt chains l c k → StandsAt chains t c (suc k) → (a == l) ≡ false → IsIn copied t
    aside_copied a t l c k edge s s' other =
        is_in t (in_tails chosen.entered chains t c (suc k)
        ((chosen.tells t).1 (record {
          chain = c;
          place = k;
          leaves = a;
          stands = s';
          edge = edge;
          aside = λ at.
              let same : a ≡ l = same_label chains a l c k at s in
              ⊎_elim (λ y. let both : true ≡ false = sym y.0 ∙ other in cc) (λ no'. no'.1 same) (eqb_tells a l);
        }))
        s')

    pub given_led : (l : ℕ) (b : Block) → slice_get f.blocks l ≡ Some b → AreBlocks n b.«end» → IsBlockLed (IsLed chains n copied (Some l)) b (led_block before copies (Some l) b)
    given_led l b is there =
        block_led (Some l) b there (λ t target p c k s s' other. aside_copied l t p c k (by_leads (slice_get f.blocks l) b t is target) s s' other)

    pub copy_led : (i m : ℕ) (b : Block) → slice_get copied i ≡ Some m → slice_get f.blocks m ≡ Some b → AreBlocks n b.«end» → IsBlockLed (IsLed chains n copied None) b (led_block before copies None b)
    copy_led i m b in' is there = block_led None b there (λ t target p c k s s' other. behind_or_aside t p c k target s s')
      where
        at : IsCopiedAt chosen.entered chains m
        at = of_tails chosen.entered chains m (subst (λ z. IsIn z m) chosen.are (record { at = i; is = in' }))

        behind_or_aside : (t p c k : ℕ) → IsTargetOf b.«end» t → StandsAt chains p c k → StandsAt chains t c (suc k) → IsIn copied t
        behind_or_aside t p c k target s s' =
            ⊎_elim
            (λ y.
            let same : m ≡ p = y.1 in
            let one = h.partition.once p c k at.chain at.place s (subst (λ z. StandsAt chains z at.chain at.place) same at.stands) in
            let chain : c ≡ at.chain = one.0 in
            let place : k ≡ at.place = one.1 in
            is_in t (at.next t (subst (λ z. StandsAt chains t z (suc at.place)) chain (subst (λ z. StandsAt chains t c (suc z)) place s'))))
            (λ no'. aside_copied m t p c k (by_leads (slice_get f.blocks m) b t is target) s s' no'.0)
            (eqb_tells m p)

-- which blocks are copied, by what the code knows
pub chosen_by : (f : TacFunc) (chains : List Labels) (blocks : List Block) (before before' : List (Option ℕ)) (entered entered' : List Bool) (copied : List ℕ) → AreChains f chains → blocks ≡ f.blocks → AreBefore (length blocks) chains before → before' ≡ before → AreEntered blocks before' (length blocks) entered → entered' ≡ entered → copied ≡ tails (is_entered entered') chains → AreCopies f chains copied
chosen_by f chains blocks before before' entered entered' copied h read priors same e same' are =
    copies_are f chains before h (subst (λ z. AreBefore (length z) chains before) read priors) entered copied
    (subst (λ z. AreEntered z before (length z) entered) read (subst (λ z. AreEntered blocks z (length blocks) entered) same e))
    (are ∙ ap (λ z. tails (is_entered z) chains) same')
