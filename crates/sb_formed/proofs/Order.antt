-- The superblocks of chains stand by function and rising head, and each head is one of them.
use Rattle.std.proofs.Common.{◌≡◌, ℕ, zero, suc, ◌+◌, ◌<◌, Bool, true, false, ◌||◌, ◌&&◌, List, [], ◌∷◌, ◌++◌, length, Some, refl, sym, ap, ap₂, ◌∙◌, subst, arith, nat_lt}
use Rattle.std.specs.Prelude.{slice_get, ◌==◌}
use Rattle.std.proofs.Math.Bool.{or-true}
use Rattle.std.proofs.lemmas.Bool.{eq-eqb}
use Rattle.std.proofs.lemmas.Bool.Decides.{nat_tests}
use Rattle.ib_meaning.specs.declared.place.Place.{Place}
use Rattle.wide_core.specs.Every.{Every, Nil, Cons}
use Rattle.tac_core.specs.declared.code.TacFunc.{TacFunc}
use Rattle.tac_core.specs.Cover.{upto}
use Rattle.tac_core.specs.Traces.{Labels}
use Rattle.tac_core.proofs.Lists.{upto_get}
use Rattle.sb_core.specs.Facts.{InOrder, OrderedNone, OrderedBy, stands_before, is_head}
use Rattle.sb_core.specs.Program.{SuperblockCode}
use Rattle.sb_formed.specs.Formed.{Drafted, number_behind, numbered, all_numbered, chain_at, chain_drafts, drafted_chain, drafted_labels, drafted}
use Rattle.sb_formed.proofs.Found.{first_label}

pub every_append : {A : Type 0} (P : A → Type 0) (xs ys : List A) → Every P xs → Every P ys → Every P (xs ++ ys)
every_append P [] ys Nil h = h
every_append P (x ∷ xs) ys (Cons _ _ g each) h = Cons x (xs ++ ys) g (every_append P xs ys each h)

every_weak : {A : Type 0} (P Q : A → Type 0) → ((x : A) → P x → Q x) → (xs : List A) → Every P xs → Every Q xs
every_weak P Q weak [] Nil = Nil
every_weak P Q weak (x ∷ xs) (Cons _ _ h each) = Cons x xs (weak x h) (every_weak P Q weak xs each)

-- ---- labels rise

data Rising : List ℕ → Type 0 where
  RisingNone : Rising []
  RisingBy : (l : ℕ) (ls : List ℕ) → Every (λ m. l < m) ls → Rising ls → Rising (l ∷ ls)

rising_on : (xs : List ℕ) (n : ℕ) → Rising xs → Every (λ x. x < n) xs → Rising (xs ++ n ∷ [])
rising_on [] n RisingNone Nil = RisingBy n [] Nil RisingNone
rising_on (x ∷ xs) n (RisingBy _ _ later rising) (Cons _ _ lt below) =
    RisingBy x (xs ++ n ∷ []) (every_append (λ m. x < m) xs (n ∷ []) later (Cons n [] lt Nil)) (rising_on xs n rising below)

upto_below : (n : ℕ) → Every (λ x. x < n) (upto n)
upto_below zero = Nil
upto_below (suc n) =
    every_append (λ x. x < suc n) (upto n) (n ∷ []) (every_weak (λ x. x < n) (λ x. x < suc n) (λ x lt. omega arith) (upto n) (upto_below n)) (Cons n [] (omega arith) Nil)

upto_rises : (n : ℕ) → Rising (upto n)
upto_rises zero = RisingNone
upto_rises (suc n) = rising_on (upto n) n (upto_rises n) (upto_below n)

-- ---- drafts in order

abbrev before : (func head : ℕ) → Drafted → Type 0
before func head d = (nat_lt func d.func || ((func == d.func) && nat_lt head d.head)) ≡ true

data Ordered : List Drafted → Type 0 where
  DraftedNone : Ordered []
  DraftedBy : (d : Drafted) (ds : List Drafted) → Every (before d.func d.head) ds → Ordered ds → Ordered (d ∷ ds)

same_func : (i l m : ℕ) → l < m → (nat_lt i i || ((i == i) && nat_lt l m)) ≡ true
same_func i l m lt = grind (arith, nat_tests)

other_func : (i j l m : ℕ) → i < j → (nat_lt i j || ((i == j) && nat_lt l m)) ≡ true
other_func i j l m lt = grind (arith, nat_tests)

every_numbered : (func head : ℕ) (b : SuperblockCode) → b.func ≡ func → b.head ≡ head → (n : ℕ) (ds : List Drafted) → Every (before func head) ds → Every (λ c. stands_before b c ≡ true) (all_numbered n ds)
every_numbered func head b ef eh n [] Nil = Nil
every_numbered func head b ef eh n (d ∷ ds) (Cons _ _ h each) =
    Cons (record { func = d.func; head = d.head; items = numbered n d.drafts }) (all_numbered (number_behind n d.drafts) ds)
    (ap₂ (λ x y. nat_lt x d.func || ((x == d.func) && nat_lt y d.head)) ef eh ∙ h) (every_numbered func head b ef eh (number_behind n d.drafts) ds each)

in_order : (n : ℕ) (ds : List Drafted) → Ordered ds → InOrder (all_numbered n ds)
in_order n [] DraftedNone = OrderedNone
in_order n (d ∷ ds) (DraftedBy _ _ later rest) =
    OrderedBy (record { func = d.func; head = d.head; items = numbered n d.drafts }) (all_numbered (number_behind n d.drafts) ds)
    (every_numbered d.func d.head (record { func = d.func; head = d.head; items = numbered n d.drafts }) refl refl (number_behind n d.drafts) ds later)
    (in_order (number_behind n d.drafts) ds rest)

module _ (places : List Place) where
  later_funcs : (i : ℕ) (f : TacFunc) (chains : List Labels) (labels : List ℕ) (k : ℕ) → k < i → (rest : List Drafted) → Every (λ (d : Drafted). k < d.func) rest → Every (λ (d : Drafted). k < d.func) (drafted_labels places i f chains labels ++ rest)
  later_funcs i f chains [] k lt rest each = each
  later_funcs i f chains (l ∷ ls) k lt rest each = by (chain_at chains l) (later_funcs i f chains ls k lt rest each)
    where
      by : (chain : Labels) → Every (λ (d : Drafted). k < d.func) (drafted_labels places i f chains ls ++ rest) → Every (λ (d : Drafted). k < d.func) ((drafted_chain places i f chain ++ drafted_labels places i f chains ls) ++ rest)
      by [] h = h
      by (m ∷ ms) h = Cons (record { func = i; head = m; drafts = chain_drafts places f (m ∷ ms) }) (drafted_labels places i f chains ls ++ rest) lt h

  funcs_from : (i k : ℕ) (funcs : List TacFunc) (traces : List (List Labels)) → k < i → Every (λ (d : Drafted). k < d.func) (drafted places i funcs traces)
  funcs_from i k [] traces lt = Nil
  funcs_from i k (f ∷ funcs) [] lt = Nil
  funcs_from i k (f ∷ funcs) (chains ∷ traces) lt =
      later_funcs i f chains (upto (length f.blocks)) k lt (drafted places (suc i) funcs traces) (funcs_from (suc i) k funcs traces (omega arith))

  later_labels : (i l : ℕ) (f : TacFunc) (chains : List Labels) (labels : List ℕ) (rest : List Drafted) → Every (λ m. l < m) labels → Every (λ (d : Drafted). i < d.func) rest → Every (before i l) (drafted_labels places i f chains labels ++ rest)
  later_labels i l f chains [] rest Nil others = every_weak (λ (d : Drafted). i < d.func) (before i l) (λ d lt. other_func i d.func l d.head lt) rest others
  later_labels i l f chains (k ∷ ks) rest (Cons _ _ lt later) others =
      by (chain_at chains k) refl (later_labels i l f chains ks rest later others)
    where
      by : (chain : Labels) → chain_at chains k ≡ chain → Every (before i l) (drafted_labels places i f chains ks ++ rest) → Every (before i l) ((drafted_chain places i f chain ++ drafted_labels places i f chains ks) ++ rest)
      by [] e h = h
      by (m ∷ ms) e h =
          let same : m ≡ k = first_label chains k m ms e in
          Cons (record { func = i; head = m; drafts = chain_drafts places f (m ∷ ms) }) (drafted_labels places i f chains ks ++ rest)
          (same_func i l m (omega arith)) h

  labels_ordered : (i : ℕ) (f : TacFunc) (chains : List Labels) (labels : List ℕ) (rest : List Drafted) → Rising labels → Every (λ (d : Drafted). i < d.func) rest → Ordered rest → Ordered (drafted_labels places i f chains labels ++ rest)
  labels_ordered i f chains [] rest RisingNone others ordered = ordered
  labels_ordered i f chains (l ∷ ls) rest (RisingBy _ _ later rising) others ordered =
      by (chain_at chains l) refl (later_labels i l f chains ls rest later others) (labels_ordered i f chains ls rest rising others ordered)
    where
      by : (chain : Labels) → chain_at chains l ≡ chain → Every (before i l) (drafted_labels places i f chains ls ++ rest) → Ordered (drafted_labels places i f chains ls ++ rest) → Ordered ((drafted_chain places i f chain ++ drafted_labels places i f chains ls) ++ rest)
      by [] e after h = h
      by (m ∷ ms) e after h =
          let same : m ≡ l = first_label chains l m ms e in
          DraftedBy (record { func = i; head = m; drafts = chain_drafts places f (m ∷ ms) }) (drafted_labels places i f chains ls ++ rest)
          (subst (λ k. Every (before i k) (drafted_labels places i f chains ls ++ rest)) (sym same) after) h

  funcs_ordered : (i : ℕ) (funcs : List TacFunc) (traces : List (List Labels)) → Ordered (drafted places i funcs traces)
  funcs_ordered i [] traces = DraftedNone
  funcs_ordered i (f ∷ funcs) [] = DraftedNone
  funcs_ordered i (f ∷ funcs) (chains ∷ traces) =
      labels_ordered i f chains (upto (length f.blocks)) (drafted places (suc i) funcs traces) (upto_rises (length f.blocks))
      (funcs_from (suc i) i funcs traces (omega arith)) (funcs_ordered (suc i) funcs traces)

  pub ordered : (funcs : List TacFunc) (traces : List (List Labels)) → InOrder (all_numbered 1 (drafted places 0 funcs traces))
  ordered funcs traces = in_order 1 (drafted places 0 funcs traces) (funcs_ordered 0 funcs traces)

-- ---- heads

abbrev has : List Drafted → (func head : ℕ) → Bool
has [] func head = false
has (d ∷ ds) func head = ((d.func == func) && (d.head == head)) || has ds func head

has_numbered : (n : ℕ) (ds : List Drafted) (func head : ℕ) → is_head (all_numbered n ds) func head ≡ has ds func head
has_numbered n [] func head = refl
has_numbered n (d ∷ ds) func head =
    ap (λ q. ((d.func == func) && (d.head == head)) || q) (has_numbered (number_behind n d.drafts) ds func head)

module _ (places : List Place) where
  has_later : (i k h : ℕ) (f : TacFunc) (chains : List Labels) (labels : List ℕ) (ys : List Drafted) → has ys k h ≡ true → has (drafted_labels places i f chains labels ++ ys) k h ≡ true
  has_later i k h f chains [] ys e = e
  has_later i k h f chains (l ∷ ls) ys e = by (chain_at chains l) (has_later i k h f chains ls ys e)
    where
      by : (chain : Labels) → has (drafted_labels places i f chains ls ++ ys) k h ≡ true → has ((drafted_chain places i f chain ++ drafted_labels places i f chains ls) ++ ys) k h ≡ true
      by [] rest = rest
      by (m ∷ ms) rest = ap (λ q. ((i == k) && (m == h)) || q) rest ∙ or-true ((i == k) && (m == h))

  has_in : (i h : ℕ) (f : TacFunc) (chains : List Labels) (more : Labels) → chain_at chains h ≡ h ∷ more → (labels : List ℕ) (j : ℕ) → slice_get labels j ≡ Some h → (ys : List Drafted) → has (drafted_labels places i f chains labels ++ ys) i h ≡ true
  has_in i h f chains more at [] j is ys = cc
  has_in i h f chains more at (l ∷ ls) zero is ys =
      let same : l ≡ h = cc in
      let whole : chain_at chains l ≡ h ∷ more = ap (chain_at chains) same ∙ at in
      ap (λ c. has ((drafted_chain places i f c ++ drafted_labels places i f chains ls) ++ ys) i h) whole
      ∙ ap₂ (λ a b. (a && b) || has (drafted_labels places i f chains ls ++ ys) i h) (eq-eqb i i refl) (eq-eqb h h refl)
  has_in i h f chains more at (l ∷ ls) (suc j) is ys = by (chain_at chains l) (has_in i h f chains more at ls j is ys)
    where
      by : (chain : Labels) → has (drafted_labels places i f chains ls ++ ys) i h ≡ true → has ((drafted_chain places i f chain ++ drafted_labels places i f chains ls) ++ ys) i h ≡ true
      by [] rest = rest
      by (m ∷ ms) rest = ap (λ q. ((i == i) && (m == h)) || q) rest ∙ or-true ((i == i) && (m == h))

  has_func : (i : ℕ) (funcs : List TacFunc) (traces : List (List Labels)) (k g h : ℕ) (f : TacFunc) (chains : List Labels) (more : Labels) → g ≡ i + k → slice_get funcs k ≡ Some f → slice_get traces k ≡ Some chains → h < length f.blocks → chain_at chains h ≡ h ∷ more → has (drafted places i funcs traces) g h ≡ true
  has_func i [] traces k g h f chains more e fs cs lt at = cc
  has_func i (f' ∷ funcs) [] k g h f chains more e fs cs lt at = cc
  has_func i (f' ∷ funcs) (chains' ∷ traces) zero g h f chains more e fs cs lt at =
      let one : f' ≡ f = cc in
      let two : chains' ≡ chains = cc in
      let same : g ≡ i = omega arith in
      ap₂ (λ x y. has (drafted_labels places i x y (upto (length x.blocks)) ++ drafted places (suc i) funcs traces) g h) one two
      ∙ ap (λ n. has (drafted_labels places i f chains (upto (length f.blocks)) ++ drafted places (suc i) funcs traces) n h) same
      ∙ has_in i h f chains more at (upto (length f.blocks)) h (upto_get (length f.blocks) h lt) (drafted places (suc i) funcs traces)
  has_func i (f' ∷ funcs) (chains' ∷ traces) (suc k) g h f chains more e fs cs lt at =
      has_later i g h f' chains' (upto (length f'.blocks)) (drafted places (suc i) funcs traces) (has_func (suc i) funcs traces k g h f chains more (omega arith) fs cs lt at)

  pub head_there : (funcs : List TacFunc) (traces : List (List Labels)) (func h : ℕ) (f : TacFunc) (chains : List Labels) (more : Labels) → slice_get funcs func ≡ Some f → slice_get traces func ≡ Some chains → h < length f.blocks → chain_at chains h ≡ h ∷ more → is_head (all_numbered 1 (drafted places 0 funcs traces)) func h ≡ true
  head_there funcs traces func h f chains more fs cs lt at =
      has_numbered 1 (drafted places 0 funcs traces) func h ∙ has_func 0 funcs traces func func h f chains more (omega arith) fs cs lt at
