-- A carrier holds the mark of the first fault until the next member of the chain settles it.
use Rattle.std.proofs.Common.{◌≡◌, ℕ, ◌<◌, ◌≤◌, Bool, true, false, ◌&&◌, ◌||◌, not, ◌==◌, nat_lt, List, [], ◌∷◌, map, Some, Result, Ok, Err, if◌then◌else◌, refl, sym, ap, ap₂, ◌∙◌, subst, arith, ℤ, pos}
use Rattle.std.proofs.lemmas.Bool.Decides.{nat_tests}
use Rattle.ib_meaning.specs.declared.fault.FaultKind.{FaultKind}
use Rattle.ib_meaning.specs.FaultKind.{kind_number}
use Rattle.ib_act.specs.Acts.{target as act_target}
use Rattle.wide_core.specs.declared.code.Loc.{Loc}
use Rattle.wide_core.specs.declared.code.Loc.TheVariants.{Reg}
use Rattle.wide_core.specs.declared.code.Tagged.{Tagged}
use Rattle.wide_core.specs.declared.code.Tagged.TheVariants.{Clear, Mark}
use Rattle.wide_core.specs.declared.code.WideAct.{WideAct}
use Rattle.wide_core.specs.declared.code.WideAct.TheVariants.{Do, Spill, Reload}
use Rattle.wide_core.specs.declared.code.WideOp.{WideOp}
use Rattle.wide_core.specs.Classes.{is_register}
use Rattle.wide_core.specs.Tagged.{comes_before, first_mark, least_mark, number_of, evaluated}
use Rattle.wide_core.specs.Places.{put}
use Rattle.wide_core.specs.Operation.{reg_of, sources, target, Effect, Write, Stop, first_of, own, writes, does, keeps_mark, shown, Around, effect_by, effect_on}
use Rattle.wide_core.specs.Word.{Flow, Stopped, apply}
use Rattle.wide_core.specs.Uses.{reads, is_item, in_list, is_target, written}
use Rattle.wide_core.specs.Flat.{around, one_effect, goes_on, flat, at_exits}
use Rattle.sb_order.specs.Superblock.{put_at, meets, settles, needs}
use Rattle.sb_order.proofs.Closed.{eq_same, eq_refl, true_lt}
use Rattle.wide_laws.proofs.Suits.{always_writes, register_does}
use Rattle.sb_order.proofs.Neighbours.{sources_read}
use Rattle.sb_order.proofs.Swap.{SameWorld}

not_lt : (a b : ℕ) → b ≤ a → nat_lt a b ≡ false
not_lt a b h = by_one (nat_lt a b) refl
  where
    by_one : (c : Bool) → nat_lt a b ≡ c → nat_lt a b ≡ false
    by_one false e = e
    by_one true e = let g = true_lt a b e in absurd (omega arith)

is_lt : (a b : ℕ) → a < b → nat_lt a b ≡ true
is_lt a b h = grind (arith, nat_tests)

not_eq : (a b : ℕ) → a < b → (b == a) ≡ false
not_eq a b h = by_one (b == a) refl
  where
    by_one : (c : Bool) → (b == a) ≡ c → (b == a) ≡ false
    by_one false e = e
    by_one true e = let g = eq_same b a e in absurd (omega arith)

-- clear, the mark n k itself, or a mark with a greater number
pub data Later (n : ℕ) (k : FaultKind) : Tagged → Type 0 where
  IsClear : (z : ℤ) → Later n k (Clear z)
  IsIt : Later n k (Mark n k)
  IsAfter : (m : ℕ) (l : FaultKind) → n < m → Later n k (Mark m l)

later_if : (n : ℕ) (k : FaultKind) (b : Bool) (t u : Tagged) → Later n k t → Later n k u → Later n k (if b then t else u)
later_if n k true t u h g = h
later_if n k false t u h g = g

first_later : (n : ℕ) (k : FaultKind) (t u : Tagged) → Later n k t → Later n k u → Later n k (first_mark t u)
first_later n k (Clear z) u h g = g
first_later n k (Mark m l) (Clear z) h g = h
first_later n k (Mark m l) (Mark p q) h g = later_if n k (comes_before p q m l) (Mark p q) (Mark m l) g h

not_itself : (n : ℕ) (k : FaultKind) → comes_before n k n k ≡ false
not_itself n k = rw (not_lt n n (omega arith), eq_refl n, not_lt (kind_number k) (kind_number k) (omega arith)) refl

-- the mark itself comes first
first_left : (n : ℕ) (k : FaultKind) (u : Tagged) → Later n k u → first_mark (Mark n k) u ≡ Mark n k
first_left n k u (IsClear z) = refl
first_left n k u IsIt = rw (not_itself n k) refl
first_left n k u (IsAfter m l e) = rw (not_lt m n (omega arith), not_eq n m e) refl

first_right : (n : ℕ) (k : FaultKind) (t : Tagged) → Later n k t → first_mark t (Mark n k) ≡ Mark n k
first_right n k t (IsClear z) = refl
first_right n k t IsIt = rw (not_itself n k) refl
first_right n k t (IsAfter m l e) = rw (is_lt n m e) refl

pub or_right : (a b : Bool) → b ≡ true → (a || b) ≡ true
or_right true b e = refl
or_right false b e = e

pub or_left : (a b : Bool) → a ≡ true → (a || b) ≡ true
or_left true b e = refl
or_left false b e = cc

pub and_both : (a b : Bool) → a ≡ true → b ≡ true → (a && b) ≡ true
and_both a b e f = rw (e, f) refl

-- ---- what an operation needs

module _ (heads : ℕ → ℕ → Bool) (op : WideOp) (ops : List WideOp) (r : ℕ) where
  abbrev Front : Bool
  Front = in_list r (reads op.act) || at_exits heads op.act r

  abbrev Rest : Bool
  Rest = not (is_target (written op.act) r) && needs heads ops r

  pub needs_read : in_list r (reads op.act) ≡ true → needs heads (op ∷ ops) r ≡ true
  needs_read a = or_left Front Rest (or_left (in_list r (reads op.act)) (at_exits heads op.act r) a)

  pub needs_exit : at_exits heads op.act r ≡ true → needs heads (op ∷ ops) r ≡ true
  needs_exit a = or_left Front Rest (or_right (in_list r (reads op.act)) (at_exits heads op.act r) a)

  pub needs_behind : is_target (written op.act) r ≡ false → needs heads ops r ≡ true → needs heads (op ∷ ops) r ≡ true
  needs_behind w a = or_right Front Rest (and_both (not (is_target (written op.act) r)) (needs heads ops r) (ap not w) a)

-- register operations are flagged, the others are not, and all flagged ones have numbers behind n
pub data Behind (n : ℕ) : List WideOp → Type 0 where
  BehindNone : Behind n []
  BehindOne : (op : WideOp) (ops : List WideOp) → is_item op.act ≡ true → op.flagged ≡ is_register op.act → (is_register op.act ≡ true → n < op.number) → Behind n ops → Behind n (op ∷ ops)

behind_first : {n : ℕ} {op : WideOp} {ops : List WideOp} → Behind n (op ∷ ops) → (is_item op.act ≡ true) × (op.flagged ≡ is_register op.act) × (is_register op.act ≡ true → n < op.number)
behind_first (BehindOne op ops i f g b) = (i, f, g)

behind_rest : {n : ℕ} {op : WideOp} {ops : List WideOp} → Behind n (op ∷ ops) → Behind n ops
behind_rest (BehindOne op ops i f g b) = b

-- ---- what a register operation writes

pub record RegisterWrites (act : WideAct) : Type 0 where
  pub d : ℕ
  pub to : written act ≡ Some d
  pub value : (ns : List ℤ) (v : ℤ) → does act ns v ≡ Write (Reg d) (Clear v)
  pub mark : (m : ℕ) (l : FaultKind) → keeps_mark (target act) m l ≡ Write (Reg d) (Mark m l)

pub register_writes : (act : WideAct) → is_register act ≡ true → RegisterWrites act
register_writes (Do act) r =
    let w = always_writes act (act_target act) refl r in
    record {
      d = w.0;
      to = w.1;
      value = λ ns v. register_does act (first_of ns) v r ∙ ap (λ x. writes x v) w.1;
      mark = λ m l. ap (λ x. keeps_mark (reg_of x) m l) w.1;
    }
register_writes act r = cc

-- what a flagged register operation writes, from sources of which t is the least mark
record Wrote (n : ℕ) (k : FaultKind) (act : WideAct) (t : Tagged) (e : Effect) : Type 0 where
  to : ℕ
  value : Tagged
  target : written act ≡ Some to
  write : e ≡ Write (Reg to) value
  later : Later n k value
  carried : t ≡ Mark n k → value ≡ Mark n k

wrote : (n : ℕ) (k : FaultKind) (act : WideAct) (ns : List ℤ) (number : ℕ) (t : Tagged) (o : Result ℤ FaultKind) → is_register act ≡ true → Later n k t → n < number → Wrote n k act t (shown act ns (evaluated true number t o))
wrote n k act ns number (Mark m l) o r h b = let w = register_writes act r in record { to = w.d; value = Mark m l; target = w.to; write = w.mark m l; later = h; carried = λ g. g }
wrote n k act ns number (Clear z) (Ok v) r h b = let w = register_writes act r in record { to = w.d; value = Clear v; target = w.to; write = w.value ns v; later = IsClear v; carried = λ g. absurd cc }
wrote n k act ns number (Clear z) (Err l) r h b =
    let w = register_writes act r in record { to = w.d; value = Mark number l; target = w.to; write = w.mark number l; later = IsAfter number l b; carried = λ g. absurd cc }

-- an item is done by the tag rule
pub by_tags : (op : WideOp) (around : Around) (values : List Tagged) → is_item op.act ≡ true → effect_on op around values ≡ shown op.act (map number_of values) (evaluated op.flagged op.number (least_mark values) (own op.act around.base around.memory around.room (map number_of values)))
unfolding effect_on
by_tags op around values i = tags op.act i
  where
    tags : (act : WideAct) → is_item act ≡ true → effect_by act op around values ≡ shown act (map number_of values) (evaluated op.flagged op.number (least_mark values) (own act around.base around.memory around.room (map number_of values)))
    tags (Spill n a) i = cc
    tags (Reload d n) i = cc
    tags act i = refl

pub in_front : (x : ℕ) (xs : List ℕ) → in_list x (x ∷ xs) ≡ true
in_front x xs = rw (eq_refl x) refl

module _ (n : ℕ) (k : FaultKind) (f : Loc → Tagged) where
  abbrev values_of : List ℕ → List Tagged
  values_of rs = map f (map (λ r. Reg r) rs)

  least_later : (rs : List ℕ) → ((r : ℕ) → in_list r rs ≡ true → Later n k (f (Reg r))) → Later n k (least_mark (values_of rs))
  least_later [] h = IsClear (pos 0)
  least_later (x ∷ xs) h = first_later n k (f (Reg x)) (least_mark (values_of xs)) (h x (in_front x xs)) (least_later xs (λ r e. h r (or_right (r == x) (in_list r xs) e)))

  -- where a carrier is among them, the least mark is the carried one
  least_is : (c : ℕ → Bool) (rs : List ℕ) → ((r : ℕ) → c r ≡ true → f (Reg r) ≡ Mark n k) → ((r : ℕ) → in_list r rs ≡ true → Later n k (f (Reg r))) → meets c rs ≡ true → least_mark (values_of rs) ≡ Mark n k
  least_is c [] h g e = cc
  least_is c (x ∷ xs) h g e = by_one (c x) refl (least_is c xs h behind)
    where
      behind : (r : ℕ) → in_list r xs ≡ true → Later n k (f (Reg r))
      behind r a = g r (or_right (r == x) (in_list r xs) a)

      by_one : (b : Bool) → c x ≡ b → (meets c xs ≡ true → least_mark (values_of xs) ≡ Mark n k) → least_mark (values_of (x ∷ xs)) ≡ Mark n k
      by_one true b more = rw (h x b) (first_left n k (least_mark (values_of xs)) (least_later xs behind))
      by_one false b more = rw (more (rw b at e)) (first_right n k (f (Reg x)) (g x (in_front x xs)))

module _ (heads : ℕ → ℕ → Bool) (base : ℕ) (room : ℕ → Bool) (n : ℕ) (k : FaultKind) where
  -- the run stops with the mark, and nothing but registers has changed
  pub record StopsWith (ops : List WideOp) (s : Flow) : Type 0 where
    pub after : Flow
    pub stops : flat base room ops s ≡ Stopped n k after
    pub same : SameWorld after s

  carried_put : (r q : ℕ) (b : Bool) (v : Tagged) (c : ℕ → Bool) (f : Loc → Tagged) → ((r : ℕ) → c r ≡ true → f (Reg r) ≡ Mark n k) → (b ≡ true → v ≡ Mark n k) → put_at (Some r) b c q ≡ true → put (Reg r) v f (Reg q) ≡ Mark n k
  carried_put r q b v c f h g e = by_one (q == r) refl
    where
      by_one : (d : Bool) → (q == r) ≡ d → put (Reg r) v f (Reg q) ≡ Mark n k
      by_one true i = rw i (g (rw i at e))
      by_one false i = rw i (h q (rw i at e))

  pub later_put : (r q : ℕ) (v : Tagged) (f : Loc → Tagged) → Later n k v → ((q == r) ≡ false → Later n k (f (Reg q))) → Later n k (put (Reg r) v f (Reg q))
  later_put r q v f h g = by_one (q == r) refl
    where
      by_one : (d : Bool) → (q == r) ≡ d → Later n k (put (Reg r) v f (Reg q))
      by_one true i = rw i h
      by_one false i = rw i (g i)

  abbrev Carried : (ℕ → Bool) → Flow → Type 0
  Carried c s = (r : ℕ) → c r ≡ true → s.places (Reg r) ≡ Mark n k

  abbrev AllLater : List WideOp → Flow → Type 0
  AllLater ops s = (r : ℕ) → needs heads ops r ≡ true → Later n k (s.places (Reg r))

  abbrev Settled : List WideOp → Type 0
  Settled ops = (c : ℕ → Bool) (s : Flow) → settles c ops ≡ true → Behind n ops → Carried c s → AllLater ops s → StopsWith ops s

  pub settle : (ops : List WideOp) → Settled ops
  settle [] c s e b carried later = cc
  settle (op ∷ ops) c s e b carried later = by_one (is_register op.act) refl (settle ops)
    where
      read_later : (r : ℕ) → in_list r (reads op.act) ≡ true → Later n k (s.places (Reg r))
      read_later r a = later r (needs_read heads op ops r a)

      read : map s.places (sources op.act) ≡ values_of n k s.places (reads op.act)
      read = ap (map s.places) (sources_read op.act (behind_first b).0)

      is : one_effect base room op s ≡ shown op.act (map number_of (map s.places (sources op.act))) (evaluated op.flagged op.number (least_mark (map s.places (sources op.act))) (own op.act base s.memory room (map number_of (map s.places (sources op.act)))))
      is = by_tags op (around base room s) (map s.places (sources op.act)) (behind_first b).0

      registers : is_register op.act ≡ true → Settled ops → Wrote n k op.act (least_mark (map s.places (sources op.act))) (one_effect base room op s) → StopsWith (op ∷ ops) s
      registers i more w =
          let rest = more (put_at (written op.act) (meets c (reads op.act)) c) (apply (Write (Reg w.to) w.value) s) (rw i at e) (behind_rest b)
          (λ q g. carried_put w.to q (meets c (reads op.act)) w.value c s.places carried
          (λ m. w.carried (ap least_mark read ∙ least_is n k s.places c (reads op.act) carried read_later m)) (rw w.target at g))
          (λ q g. later_put w.to q w.value s.places w.later (λ d. later q (needs_behind heads op ops q (rw (w.target, d) refl) g))) in
          record {
            after = rest.after;
            stops = ap (λ x. goes_on base room x (flat base room ops) s) w.write ∙ rest.stops;
            same = record { memory = rest.same.memory; left = rest.same.left; out = rest.same.out };
          }

      by_one : (d : Bool) → is_register op.act ≡ d → Settled ops → StopsWith (op ∷ ops) s
      by_one true i more =
          let fl : op.flagged ≡ true = (behind_first b).1 ∙ i in
          let w = wrote n k op.act (map number_of (map s.places (sources op.act))) op.number (least_mark (map s.places (sources op.act))) (own op.act base s.memory room (map number_of (map s.places (sources op.act)))) i (subst (Later n k) (ap least_mark (sym read)) (least_later n k s.places (reads op.act) read_later)) ((behind_first b).2 i) in
          registers i more (subst (Wrote n k op.act (least_mark (map s.places (sources op.act)))) (sym (is ∙ ap (λ x. shown op.act (map number_of (map s.places (sources op.act))) (evaluated x op.number (least_mark (map s.places (sources op.act))) (own op.act base s.memory room (map number_of (map s.places (sources op.act)))))) fl)) w)
      by_one false i more =
          let fl : op.flagged ≡ false = (behind_first b).1 ∙ i in
          let m = ap least_mark read ∙ least_is n k s.places c (reads op.act) carried read_later (rw i at e) in
          let stop : one_effect base room op s ≡ Stop n k = is ∙ ap₂ (λ x t. shown op.act (map number_of (map s.places (sources op.act))) (evaluated x op.number t (own op.act base s.memory room (map number_of (map s.places (sources op.act)))))) fl m in
          record { after = s; stops = ap (λ x. goes_on base room x (flat base room ops) s) stop; same = record { memory = refl; left = refl; out = refl } }
