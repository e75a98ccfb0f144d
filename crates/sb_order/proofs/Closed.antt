-- Edges to the next definition or chain member close to all pairs of items that depend on each other.
use Rattle.std.proofs.Common.{◌≡◌, ℕ, zero, suc, ◌+◌, ◌<◌, ◌≤◌, Bool, true, false, ◌&&◌, ◌||◌, not, ◌==◌, nat_le, nat_lt, List, [], ◌∷◌, true≢false, Option, Some, None, refl, sym, ap, subst, if◌then◌else◌, arith}
use Rattle.std.proofs.lemmas.Bool.Decides.{nat_tests}
use Rattle.machine_desc.specs.declared.machine.OpClass.{OpClass}
use Rattle.wide_core.specs.Classes.{class_of, is_control}
use Rattle.wide_core.specs.Uses.{reads, in_list, is_target, written}
use Rattle.wide_core.specs.Flat.{at_exits}
use Rattle.wide_core.specs.Every.{Every, Nil, Cons}
use Rattle.sb_order.specs.Edges.{Item, apart, is_member, no_member, unwritten, meet, Row, rows}
use Rattle.sb_order.specs.Schedule.{Spot, holds_at, kept, distinct, kept_from, edges_kept}

pub eq_same : (a b : ℕ) → (a == b) ≡ true → a ≡ b
eq_same a b h = grind (arith, nat_tests)

pub eq_refl : (a : ℕ) → (a == a) ≡ true
eq_refl a = grind (arith, nat_tests)

pub true_le : (a b : ℕ) → nat_le a b ≡ true → a ≤ b
true_le a b h = grind (arith, nat_tests)

pub true_lt : (a b : ℕ) → nat_lt a b ≡ true → a < b
true_lt a b h = grind (arith, nat_tests)

pub both : (a b : Bool) → (a && b) ≡ true → (a ≡ true) × (b ≡ true)
both true b e = (refl, e)
both false b e = cc

pub held : (h x : Bool) → (not h || x) ≡ true → h ≡ true → x ≡ true
held true x e g = e
held false x e g = cc

pub unheld : (h x : Bool) → (not h || not x) ≡ true → h ≡ true → x ≡ true → ⊥
unheld true true e g k = true≢false (sym e)
unheld true false e g k = true≢false (sym k)
unheld false x e g k = true≢false (sym g)

pub is_the : (o : Option ℕ) (r : ℕ) → is_target o r ≡ true → o ≡ Some r
is_the None r e = cc
is_the (Some d) r e = ap (λ x. Some x) (sym (eq_same r d e))

pub target_is : (o : Option ℕ) (r : ℕ) → o ≡ Some r → is_target o r ≡ true
target_is o r e = rw e (eq_refl r)

module _ (heads : ℕ → ℕ → Bool) (one : Bool) (width : ℕ) (units latency : OpClass → ℕ) (takes_time : (class : OpClass) → 1 ≤ latency class) (spot : ℕ → Spot) where
  abbrev pub C : Item → ℕ
  C i = (spot i.op.number).cycle

  abbrev pub S : Item → ℕ
  S i = (spot i.op.number).slot

  pub record Before (x y : Item) : Type 0 where
    pub cycles : C x ≤ C y
    pub slots : C x ≡ C y → S x < S y

  pub record Sooner (x y : Item) : Type 0 where
    pub cycles : C x < C y

  pub before_of : {x y : Item} → Sooner x y → Before x y
  before_of s = record { cycles = (let h = s.cycles in omega arith); slots = λ e. let h = s.cycles in absurd (omega arith) }

  before_trans : {x y z : Item} → Before x y → Before y z → Before x z
  before_trans {x} {y} {z} a b = record {
    cycles = let h = a.cycles in let g = b.cycles in omega arith;
    slots = λ e.
        let h = a.cycles in let g = b.cycles in
        let p : C x ≡ C y = omega arith in
        let q : C y ≡ C z = omega arith in
        let i = a.slots p in let j = b.slots q in omega arith;
  }

  sooner_left : {x y z : Item} → Sooner x y → Before y z → Sooner x z
  sooner_left a b = record { cycles = (let h = a.cycles in let g = b.cycles in omega arith) }

  -- whatever depends on what, through others too
  pub record Closed (x y : Item) : Type 0 where
    pub def_use : (r : ℕ) → written x.op.act ≡ Some r → in_list r (reads y.op.act) ≡ true → Sooner x y
    pub use_def : (r : ℕ) → written y.op.act ≡ Some r → in_list r (reads x.op.act) ≡ true → Before x y
    pub def_def : (r : ℕ) → written x.op.act ≡ Some r → written y.op.act ≡ Some r → Sooner x y
    pub store_load : apart x y ≡ false → Sooner x y
    pub load_store : apart y x ≡ false → Before x y
    pub chain : is_member x ≡ true → is_member y ≡ true → Before x y
    pub control : one ≡ true → is_control x.op.act ≡ true → is_member x ≡ true → is_member y ≡ true → Sooner x y
    pub exit_def : (r : ℕ) → written y.op.act ≡ Some r → at_exits heads x.op.act r ≡ true → Before x y
    pub exit_soon : one ≡ true → (r : ℕ) → written y.op.act ≡ Some r → at_exits heads x.op.act r ≡ true → Sooner x y
    pub def_exit : (r : ℕ) → written x.op.act ≡ Some r → at_exits heads y.op.act r ≡ true → Before x y
    pub apart_spots : C x ≡ C y → S x ≡ S y → ⊥

  pub data AllClosed : List Item → Type 0 where
    AllNone : AllClosed []
    AllMore : (x : Item) (xs : List Item) → Every (Closed x) xs → AllClosed xs → AllClosed (x ∷ xs)

  -- what stands between x and what is still to come
  data Passed (x : Item) : List Item → List Item → Type 0 where
    PassedNone : (ys : List Item) → Passed x [] ys
    PassedMore : (z : Item) (zs ys : List Item) → Closed x z → Every (Closed z) ys → Passed x zs ys → Passed x (z ∷ zs) ys

  passed_on : {x : Item} {zs : List Item} (y : Item) (ys : List Item) → Passed x zs (y ∷ ys) → Passed x zs ys
  passed_on y ys (PassedNone _) = PassedNone ys
  passed_on y ys (PassedMore z zs _ c (Cons _ _ d ds) p) = PassedMore z zs ys c ds (passed_on y ys p)

  -- one between that writes r
  record Writer (x : Item) (r : ℕ) (y : Item) : Type 0 where
    z : Item
    first : Closed x z
    second : Closed z y
    writes : written z.op.act ≡ Some r

  writer : {x : Item} {zs : List Item} (r : ℕ) (y : Item) (ys : List Item) → Passed x zs (y ∷ ys) → unwritten r zs ≡ false → Writer x r y
  writer r y ys (PassedNone _) e = absurd (true≢false e)
  writer {x} r y ys (PassedMore z zs _ c (Cons _ _ d ds) p) e = by_one (is_target (written z.op.act) r) refl (writer r y ys p)
    where
      by_one : (b : Bool) → is_target (written z.op.act) r ≡ b → (unwritten r zs ≡ false → Writer x r y) → Writer x r y
      by_one true h more = record { z = z; first = c; second = d; writes = is_the (written z.op.act) r h }
      by_one false h more = more (rw h at e)

  record Member (x y : Item) : Type 0 where
    z : Item
    first : Closed x z
    second : Closed z y
    is : is_member z ≡ true

  member : {x : Item} {zs : List Item} (y : Item) (ys : List Item) → Passed x zs (y ∷ ys) → no_member zs ≡ false → Member x y
  member y ys (PassedNone _) e = absurd (true≢false e)
  member {x} y ys (PassedMore z zs _ c (Cons _ _ d ds) p) e = by_one (is_member z) refl (member y ys p)
    where
      by_one : (b : Bool) → is_member z ≡ b → (no_member zs ≡ false → Member x y) → Member x y
      by_one true h more = record { z = z; first = c; second = d; is = h }
      by_one false h more = more (rw h at e)

  -- ---- one row of the eight

  abbrev row_at : ℕ → List Row → Row
  row_at n [] = record { holds = false; delay = 0 }
  row_at zero (row ∷ more) = row
  row_at (suc n) (row ∷ more) = row_at n more

  abbrev Holds : Spot → Spot → Row → Bool
  Holds = holds_at heads one width units latency

  row_kept : (p q : Spot) (n : ℕ) (l : List Row) → kept heads one width units latency p q l ≡ true → Holds p q (row_at n l) ≡ true
  row_kept p q n [] e = refl
  row_kept p q zero (row ∷ more) e = (both (Holds p q row) (kept heads one width units latency p q more) e).0
  row_kept p q (suc n) (row ∷ more) e = row_kept p q n more (both (Holds p q row) (kept heads one width units latency p q more) e).1

  record Far (p q : Spot) (delay : ℕ) : Type 0 where
    cycles : p.cycle + delay ≤ q.cycle
    slots : p.cycle ≡ q.cycle → p.slot < q.slot

  far : (p q : Spot) (row : Row) → Holds p q row ≡ true → row.holds ≡ true → Far p q row.delay
  far p q row e h =
      let b = both (nat_le (p.cycle + row.delay) q.cycle) (not (p.cycle == q.cycle) || nat_lt p.slot q.slot) (held row.holds (nat_le (p.cycle + row.delay) q.cycle && (not (p.cycle == q.cycle) || nat_lt p.slot q.slot)) e h) in
      record {
        cycles = true_le (p.cycle + row.delay) q.cycle b.0;
        slots = λ c. true_lt p.slot q.slot (held (p.cycle == q.cycle) (nat_lt p.slot q.slot) b.1 (subst (λ z. (p.cycle == z) ≡ true) c (eq_refl p.cycle)));
      }

  meets_at : (o : Option ℕ) (uses : ℕ → Bool) (m : List Item) (r : ℕ) → o ≡ Some r → uses r ≡ true → unwritten r m ≡ true → meet o uses m ≡ true
  meets_at o uses m r e u w = rw (e, u, w) refl

  module _ {x : Item} {zs : List Item} (y : Item) (ys : List Item) (p : Passed x zs (y ∷ ys)) (k : kept heads one width units latency (spot x.op.number) (spot y.op.number) (rows heads one latency x zs y) ≡ true) where
    edge : (n : ℕ) → (row_at n (rows heads one latency x zs y)).holds ≡ true → Far (spot x.op.number) (spot y.op.number) (row_at n (rows heads one latency x zs y)).delay
    edge n h = far (spot x.op.number) (spot y.op.number) (row_at n (rows heads one latency x zs y)) (row_kept (spot x.op.number) (spot y.op.number) n (rows heads one latency x zs y) k) h

    some : (n : ℕ) → (row_at n (rows heads one latency x zs y)).holds ≡ true → Before x y
    some n h = let f = edge n h in record { cycles = (let g = f.cycles in omega arith); slots = f.slots }

    soon : (n : ℕ) → (row_at n (rows heads one latency x zs y)).holds ≡ true → 1 ≤ (row_at n (rows heads one latency x zs y)).delay → Sooner x y
    soon n h l = let f = edge n h in record { cycles = (let g = f.cycles in omega arith) }

    closed_def_use : (r : ℕ) → written x.op.act ≡ Some r → in_list r (reads y.op.act) ≡ true → (b : Bool) → unwritten r zs ≡ b → Sooner x y
    closed_def_use r t u true e = soon 0 (meets_at (written x.op.act) (λ r. in_list r (reads y.op.act)) zs r t u e) (takes_time (class_of x.op.act))
    closed_def_use r t u false e = let w = writer r y ys p e in sooner_left (w.first.def_def r t w.writes) (before_of (w.second.def_use r w.writes u))

    closed_use_def : (r : ℕ) → written y.op.act ≡ Some r → in_list r (reads x.op.act) ≡ true → (b : Bool) → unwritten r zs ≡ b → Before x y
    closed_use_def r t u true e = some 1 (meets_at (written y.op.act) (λ r. in_list r (reads x.op.act)) zs r t u e)
    closed_use_def r t u false e = let w = writer r y ys p e in before_trans (w.first.use_def r w.writes u) (before_of (w.second.def_def r w.writes t))

    closed_def_def : (r : ℕ) → written x.op.act ≡ Some r → written y.op.act ≡ Some r → (b : Bool) → unwritten r zs ≡ b → Sooner x y
    closed_def_def r t u true e = soon 2 (meets_at (written x.op.act) (λ r. is_target (written y.op.act) r) zs r t (target_is (written y.op.act) r u) e) (omega arith)
    closed_def_def r t u false e = let w = writer r y ys p e in sooner_left (w.first.def_def r t w.writes) (before_of (w.second.def_def r w.writes u))

    closed_def_exit : (r : ℕ) → written x.op.act ≡ Some r → at_exits heads y.op.act r ≡ true → (b : Bool) → unwritten r zs ≡ b → Before x y
    closed_def_exit r t u true e = some 7 (meets_at (written x.op.act) (λ r. at_exits heads y.op.act r) zs r t u e)
    closed_def_exit r t u false e = let w = writer r y ys p e in before_trans (before_of (w.first.def_def r t w.writes)) (w.second.def_exit r w.writes u)

    all_three : (a b c : Bool) → a ≡ true → b ≡ true → c ≡ true → (a && (b && c)) ≡ true
    all_three a b c e f g = rw (e, f, g) refl

    closed_chain : is_member x ≡ true → is_member y ≡ true → (b : Bool) → no_member zs ≡ b → Before x y
    closed_chain m n true e = some 5 (all_three (is_member x) (is_member y) (no_member zs) m n e)
    closed_chain m n false e = let w = member y ys p e in before_trans (w.first.chain m w.is) (w.second.chain w.is n)

    one_if : (a : Bool) → a ≡ true → 1 ≤ (if a then 1 else 0)
    one_if a e = rw e (omega arith)

    closed_control : one ≡ true → is_control x.op.act ≡ true → is_member x ≡ true → is_member y ≡ true → (b : Bool) → no_member zs ≡ b → Sooner x y
    closed_control o c m n true e = soon 5 (all_three (is_member x) (is_member y) (no_member zs) m n e) (one_if (is_control x.op.act && one) (rw (c, o) refl))
    closed_control o c m n false e = let w = member y ys p e in sooner_left (w.first.control o c m w.is) (w.second.chain w.is n)

    closed_step : distinct heads one width units latency (spot x.op.number) (spot y.op.number) ≡ true → Closed x y
    closed_step d = record {
      def_use = λ r t u. closed_def_use r t u (unwritten r zs) refl;
      use_def = λ r t u. closed_use_def r t u (unwritten r zs) refl;
      def_def = λ r t u. closed_def_def r t u (unwritten r zs) refl;
      store_load = λ e. soon 3 (ap not e) (omega arith);
      load_store = λ e. some 4 (ap not e);
      chain = λ m n. closed_chain m n (no_member zs) refl;
      control = λ o c m n. closed_control o c m n (no_member zs) refl;
      exit_def = λ r t l. some 6 (meets_at (written y.op.act) (λ r. at_exits heads x.op.act r) [] r t l refl);
      exit_soon = λ o r t l. soon 6 (meets_at (written y.op.act) (λ r. at_exits heads x.op.act r) [] r t l refl) (one_if one o);
      def_exit = λ r t l. closed_def_exit r t l (unwritten r zs) refl;
      apart_spots = λ c s. unheld (C x == C y) (S x == S y) d (subst (λ z. (C x == z) ≡ true) c (eq_refl (C x))) (subst (λ z. (S x == z) ≡ true) s (eq_refl (S x)));
    }

  closed_first : {x : Item} {xs : List Item} → AllClosed (x ∷ xs) → Every (Closed x) xs × AllClosed xs
  closed_first (AllMore x xs c a) = (c, a)

  closed_from : (x : Item) (zs ys : List Item) → Passed x zs ys → kept_from heads one width units latency spot x zs ys ≡ true → AllClosed ys → Every (Closed x) ys
  closed_from x zs [] p e a = Nil
  closed_from x zs (y ∷ ys) p e a =
      let k = kept heads one width units latency (spot x.op.number) (spot y.op.number) (rows heads one latency x zs y) in
      let d = distinct heads one width units latency (spot x.op.number) (spot y.op.number) in
      let h = both (k && d) (kept_from heads one width units latency spot x (y ∷ zs) ys) e in
      let g = both k d h.0 in
      let c = closed_step y ys p g.0 g.1 in
      let b = closed_first a in
      Cons y ys c (closed_from x (y ∷ zs) ys (PassedMore y zs ys c b.0 (passed_on y ys p)) h.1 b.1)

  pub all_closed : (is : List Item) → edges_kept heads one width units latency spot is ≡ true → AllClosed is
  all_closed [] e = AllNone
  all_closed (x ∷ xs) e =
      let h = both (kept_from heads one width units latency spot x [] xs) (edges_kept heads one width units latency spot xs) e in
      let a = all_closed xs h.1 in AllMore x xs (closed_from x [] xs (PassedNone xs) h.0 a) a
