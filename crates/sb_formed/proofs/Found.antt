-- The superblock at a head has the items of the chain that begins there.
use Rattle.std.proofs.Common.{◌≡◌, ◌≢◌, ℕ, zero, suc, ◌+◌, ◌<◌, Bool, true, false, ◌&&◌, List, [], ◌∷◌, ◌++◌, length, Some, refl, sym, ap, ap₂, ◌∙◌, subst, ⊎_elim, arith, if◌then◌else◌}
use Rattle.std.specs.Prelude.{slice_get, ◌==◌}
use Rattle.std.proofs.lemmas.Bool.{eq-eqb}
use Rattle.std.proofs.lemmas.Bool.Decides.{eqb_tells}
use Rattle.ib_meaning.specs.declared.place.Place.{Place}
use Rattle.wide_core.specs.declared.code.WideOp.{WideOp}
use Rattle.tac_core.specs.declared.code.TacFunc.{TacFunc}
use Rattle.tac_core.specs.Cover.{upto}
use Rattle.tac_core.specs.Traces.{Labels}
use Rattle.tac_core.proofs.Lists.{upto_get}
use Rattle.sb_core.specs.Program.{items_at}
use Rattle.sb_formed.specs.Formed.{Draft, Drafted, numbered, number_behind, all_numbered, chain_at, chain_drafts, drafted_chain, drafted_labels, drafted}

-- the drafts of the superblock with this head
abbrev drafts_at : List Drafted → (func head : ℕ) → List Draft
drafts_at [] func head = []
drafts_at (d ∷ ds) func head = if (d.func == func) && (d.head == head) then d.drafts else drafts_at ds func head

-- numbered from some number on
pub record AreNumbered (items : List WideOp) (drafts : List Draft) : Type 0 where
  pub from : ℕ
  pub are : items ≡ numbered from drafts

numbered_at : (n : ℕ) (ds : List Drafted) (func head : ℕ) → AreNumbered (items_at (all_numbered n ds) func head) (drafts_at ds func head)
numbered_at n [] func head = record { from = 0; are = refl }
numbered_at n (d ∷ ds) func head = by ((d.func == func) && (d.head == head)) (numbered_at (number_behind n d.drafts) ds func head)
  where
    by : (b : Bool) → AreNumbered (items_at (all_numbered (number_behind n d.drafts) ds) func head) (drafts_at ds func head) → AreNumbered (if b then numbered n d.drafts else items_at (all_numbered (number_behind n d.drafts) ds) func head) (if b then d.drafts else drafts_at ds func head)
    by true rest = record { from = n; are = refl }
    by false rest = rest

-- ---- the chain that begins with a label

pub record Begins (chains : List Labels) (l : ℕ) : Type 0 where
  pub chain : ℕ
  pub more : Labels
  pub at : chain_at chains l ≡ l ∷ more
  pub is : slice_get chains chain ≡ Some (l ∷ more)

begins_later : (chain : Labels) (chains : List Labels) (l : ℕ) → chain_at (chain ∷ chains) l ≡ chain_at chains l → Begins chains l → Begins (chain ∷ chains) l
begins_later chain chains l e b = record { chain = suc b.chain; more = b.more; at = e ∙ b.at; is = b.is }

pub begins : (chains : List Labels) (c l : ℕ) (ls : Labels) → slice_get chains c ≡ Some (l ∷ ls) → Begins chains l
begins [] c l ls e = cc
begins ([] ∷ chains) zero l ls e = cc
begins ([] ∷ chains) (suc c) l ls e = begins_later [] chains l refl (begins chains c l ls e)
begins ((m ∷ ms) ∷ chains) c l ls e =
    ⊎_elim
    (λ t. record {
      chain = 0;
      more = ms;
      at = ap (λ b. if b then m ∷ ms else chain_at chains l) t.0 ∙ ap (λ k. k ∷ ms) t.1;
      is = ap (λ k. Some (k ∷ ms)) t.1;
    })
    (λ f. begins_later (m ∷ ms) chains l (ap (λ b. if b then m ∷ ms else chain_at chains l) f.0) (later c e f.1 (λ k. begins chains k l ls)))
    (eqb_tells m l)
  where
    later : (c : ℕ) → slice_get ((m ∷ ms) ∷ chains) c ≡ Some (l ∷ ls) → m ≢ l → ((k : ℕ) → slice_get chains k ≡ Some (l ∷ ls) → Begins chains l) → Begins chains l
    later zero e ne rest = let first : m ≡ l = cc in absurd (ne first)
    later (suc c) e ne rest = rest c e

-- a chain is found by its first label
pub first_label : (chains : List Labels) (l m : ℕ) (ms : Labels) → chain_at chains l ≡ m ∷ ms → m ≡ l
first_label [] l m ms e = cc
first_label ([] ∷ chains) l m ms e = first_label chains l m ms e
first_label ((k ∷ ks) ∷ chains) l m ms e =
    ⊎_elim
    (λ t.
    let same : k ∷ ks ≡ m ∷ ms = sym (ap (λ b. if b then k ∷ ks else chain_at chains l) t.0) ∙ e in
    let one : k ≡ m = cc in
    sym one ∙ t.1)
    (λ f. first_label chains l m ms (sym (ap (λ b. if b then k ∷ ks else chain_at chains l) f.0) ∙ e))
    (eqb_tells k l)

-- ---- among the superblocks of all functions

module _ (places : List Place) where
  -- those of another function are passed
  passed : (i k h : ℕ) (f : TacFunc) (chains : List Labels) (labels : List ℕ) (ys : List Drafted) → (i == k) ≡ false → drafts_at (drafted_labels places i f chains labels ++ ys) k h ≡ drafts_at ys k h
  passed i k h f chains [] ys ne = refl
  passed i k h f chains (l ∷ ls) ys ne = by (chain_at chains l) (passed i k h f chains ls ys ne)
    where
      by : (chain : Labels) → drafts_at (drafted_labels places i f chains ls ++ ys) k h ≡ drafts_at ys k h → drafts_at ((drafted_chain places i f chain ++ drafted_labels places i f chains ls) ++ ys) k h ≡ drafts_at ys k h
      by [] rest = rest
      by (m ∷ ms) rest =
          ap (λ b. if b && (m == h) then chain_drafts places f (m ∷ ms) else drafts_at (drafted_labels places i f chains ls ++ ys) k h) ne ∙ rest

  found_in : (i h : ℕ) (f : TacFunc) (chains : List Labels) (more : Labels) → chain_at chains h ≡ h ∷ more → (labels : List ℕ) (j : ℕ) → slice_get labels j ≡ Some h → (ys : List Drafted) → drafts_at (drafted_labels places i f chains labels ++ ys) i h ≡ chain_drafts places f (h ∷ more)
  found_in i h f chains more at [] j is ys = cc
  found_in i h f chains more at (l ∷ ls) j is ys =
      by (rest j is (λ k e. found_in i h f chains more at ls k e ys)) (chain_at chains l) refl
    where
      rest : (j : ℕ) → slice_get (l ∷ ls) j ≡ Some h → ((k : ℕ) → slice_get ls k ≡ Some h → drafts_at (drafted_labels places i f chains ls ++ ys) i h ≡ chain_drafts places f (h ∷ more)) → l ≢ h → drafts_at (drafted_labels places i f chains ls ++ ys) i h ≡ chain_drafts places f (h ∷ more)
      rest zero is later ne = let same : l ≡ h = cc in absurd (ne same)
      rest (suc j) is later ne = later j is

      by : (l ≢ h → drafts_at (drafted_labels places i f chains ls ++ ys) i h ≡ chain_drafts places f (h ∷ more)) → (chain : Labels) → chain_at chains l ≡ chain → drafts_at ((drafted_chain places i f chain ++ drafted_labels places i f chains ls) ++ ys) i h ≡ chain_drafts places f (h ∷ more)
      by other [] e =
          other (λ same.
          let none : [] ≡ h ∷ more = sym e ∙ ap (chain_at chains) same ∙ at in
          cc)
      by other (m ∷ ms) e =
          let first = first_label chains l m ms e in
          let own : (i == i) ≡ true = eq-eqb i i refl in
          ⊎_elim
          (λ t.
          let same : l ≡ h = sym first ∙ t.1 in
          let chain : m ∷ ms ≡ h ∷ more = sym e ∙ ap (chain_at chains) same ∙ at in
          ap₂ (λ a b. if a && b then chain_drafts places f (m ∷ ms) else drafts_at (drafted_labels places i f chains ls ++ ys) i h) own t.0 ∙ ap (chain_drafts places f) chain)
          (λ n.
          ap₂ (λ a b. if a && b then chain_drafts places f (m ∷ ms) else drafts_at (drafted_labels places i f chains ls ++ ys) i h) own n.0
          ∙ other (λ same. n.1 (first ∙ same)))
          (eqb_tells m h)

  found_func : (i : ℕ) (funcs : List TacFunc) (traces : List (List Labels)) (k g h : ℕ) (f : TacFunc) (chains : List Labels) (more : Labels) → g ≡ i + k → slice_get funcs k ≡ Some f → slice_get traces k ≡ Some chains → h < length f.blocks → chain_at chains h ≡ h ∷ more → drafts_at (drafted places i funcs traces) g h ≡ chain_drafts places f (h ∷ more)
  found_func i [] traces k g h f chains more e fs cs lt at = cc
  found_func i (f' ∷ funcs) [] k g h f chains more e fs cs lt at = cc
  found_func i (f' ∷ funcs) (chains' ∷ traces) zero g h f chains more e fs cs lt at =
      let one : f' ≡ f = cc in
      let two : chains' ≡ chains = cc in
      let same : g ≡ i = omega arith in
      ap₂ (λ x y. drafts_at (drafted_labels places i x y (upto (length x.blocks)) ++ drafted places (suc i) funcs traces) g h) one two
      ∙ ap (λ n. drafts_at (drafted_labels places i f chains (upto (length f.blocks)) ++ drafted places (suc i) funcs traces) n h) same
      ∙ found_in i h f chains more at (upto (length f.blocks)) h (upto_get (length f.blocks) h lt) (drafted places (suc i) funcs traces)
  found_func i (f' ∷ funcs) (chains' ∷ traces) (suc k) g h f chains more e fs cs lt at =
      ⊎_elim
      (λ t. let same : i ≡ g = t.1 in absurd (omega arith))
      (λ n.
      passed i g h f' chains' (upto (length f'.blocks)) (drafted places (suc i) funcs traces) n.0
      ∙ found_func (suc i) funcs traces k g h f chains more (omega arith) fs cs lt at)
      (eqb_tells i g)

  -- the items at the head that begins a chain of a function
  pub found : (funcs : List TacFunc) (traces : List (List Labels)) (func h : ℕ) (f : TacFunc) (chains : List Labels) (more : Labels) → slice_get funcs func ≡ Some f → slice_get traces func ≡ Some chains → h < length f.blocks → chain_at chains h ≡ h ∷ more → AreNumbered (items_at (all_numbered 1 (drafted places 0 funcs traces)) func h) (chain_drafts places f (h ∷ more))
  found funcs traces func h f chains more fs cs lt at =
      subst (λ ds. AreNumbered (items_at (all_numbered 1 (drafted places 0 funcs traces)) func h) ds) (found_func 0 funcs traces func func h f chains more (omega arith) fs cs lt at)
      (numbered_at 1 (drafted places 0 funcs traces) func h)
