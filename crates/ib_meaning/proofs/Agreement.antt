-- Laws of agreement.
use Rattle.std.proofs.Common.{◌≡◌, ◌↔◌, ℕ, ◌≤◌, List, [], ◌++◌, refl, sym, ap, ◌∙◌, subst, append_assoc, arith}
use Rattle.std.proofs.lemmas.List.{append-nil}
use Rattle.std.specs.Prelude.{ℤ}
use Rattle.ib_meaning.specs.declared.place.Place.{Place}
use Rattle.ib_meaning.specs.declared.fault.FaultKind.{FaultKind}
use Rattle.ib_meaning.specs.Agreement.{Agrees, Both, Finish, Returned, Faulted, Report, More, Over, Meaning, out_of, IsPrefix, Keeps, IsSteady, Follows, HasOver, OutputsBegin, SameEnds, Within}

pub prefix_refl : (xs : List ℕ) → IsPrefix xs xs
prefix_refl xs = ([], append-nil xs)

pub prefix_trans : (xs ys zs : List ℕ) → IsPrefix xs ys → IsPrefix ys zs → IsPrefix xs zs
prefix_trans xs ys zs p q = (p.0 ++ q.0, sym (append_assoc xs p.0 q.0) ∙ ap (λ l. l ++ q.0) p.1 ∙ q.1)

pub keeps_refl : (p : Report) → Keeps p p
keeps_refl (More out left) = prefix_refl out
keeps_refl (Over finish out left) = refl

-- what was printed stays
pub keeps_out : (p q : Report) → Keeps p q → IsPrefix (out_of p) (out_of q)
keeps_out (More out left) q k = k
keeps_out (Over finish out left) q k = ([], append-nil out ∙ ap out_of (sym k))

pub keeps_trans : (p q r : Report) → Keeps p q → Keeps q r → Keeps p r
keeps_trans (More out left) q r k l = prefix_trans out (out_of q) (out_of r) k (keeps_out q r l)
keeps_trans (Over finish out left) q r k l = subst (λ x. Keeps x r) k l

pub keeps_along : (p q : Report) → p ≡ q → Keeps p q
keeps_along p q e = subst (λ x. Keeps p x) e (keeps_refl p)

pub follows_refl : (A : Meaning) → Follows A A
follows_refl A = record { by = λ input n. (n, keeps_refl (A input n)) }

pub follows_trans : {A B C : Meaning} → Follows A B → Follows B C → Follows A C
follows_trans {A} {B} {C} f g = record {
  by = λ input n.
      let a = f.by input n in
      let b = g.by input a.0 in
      (b.0, keeps_trans (A input n) (B input a.0) (C input b.0) a.1 b.1);
}

pub agree_refl : (A : Meaning) → Agrees A A
agree_refl A = Both (follows_refl A) (follows_refl A)

pub agree_sym : {A B : Meaning} → Agrees A B → Agrees B A
agree_sym (Both forth back) = Both back forth

pub agree_trans : {A B C : Meaning} → Agrees A B → Agrees B C → Agrees A C
agree_trans (Both f g) (Both h k) = Both (follows_trans f h) (follows_trans k g)

pub forth : {A B : Meaning} → Agrees A B → Follows A B
forth (Both f g) = f

pub back : {A B : Meaning} → Agrees A B → Follows B A
back (Both f g) = g

pub within_follows : {f : ℕ → ℕ} {A B : Meaning} → Within f A B → Follows A B
within_follows {f} w = record { by = λ input n. (f n, w.by input n (f n) (omega arith)) }

pub within_trans : {f g : ℕ → ℕ} {A B C : Meaning} → Within f A B → Within g B C → Within (λ n. g (f n)) A C
within_trans {f} {g} {A} {B} {C} v w = record {
  by = λ input n m le.
      keeps_trans (A input n) (B input (f n)) (C input m) (v.by input n (f n) (omega arith)) (w.by input (f n) m le);
}

-- the two say one thing again and again
abbrev pub Meets : Meaning → Meaning → Type 0
Meets A B = (input : List ℕ) (n : ℕ) → (i : ℕ) × (k : ℕ) × (n ≤ i) × (n ≤ k) × (A input i ≡ B input k)

pub meets_follows : (A B : Meaning) → IsSteady A → Meets A B → Follows A B
meets_follows A B steady meets = record {
  by = λ input n.
      let t = meets input n in
      (t.1, subst (λ r. Keeps (A input n) r) t.4 (steady.later input n t.0 t.2));
}

pub meets_sym : (A B : Meaning) → Meets A B → Meets B A
meets_sym A B meets input n = let t = meets input n in (t.1, t.0, t.3, t.2, sym t.4)

pub agree_by_meets : (A B : Meaning) → IsSteady A → IsSteady B → Meets A B → Agrees A B
agree_by_meets A B a b meets = Both (meets_follows A B a meets) (meets_follows B A b (meets_sym A B meets))

-- a meaning with a budget against a steady one: what the first says with n, the second says with n or more
pub agree_by_ahead : (A B : Meaning) → IsSteady B → ((input : List ℕ) (n : ℕ) → (m : ℕ) × (n ≤ m) × (A input n ≡ B input m)) → Agrees A B
agree_by_ahead A B steady ahead =
    Both (record { by = λ input n. let t = ahead input n in (t.0, keeps_along (A input n) (B input t.0) t.2) })
    (record {
      by = λ input n.
          let t = ahead input n in
          (n, subst (λ r. Keeps (B input n) r) (sym t.2) (steady.later input n t.0 t.1));
    })

-- the two say the same with each number
abbrev pub AreSame : Meaning → Meaning → Type 0
AreSame A B = (input : List ℕ) (n : ℕ) → A input n ≡ B input n

pub agree_by_same : (A B : Meaning) → AreSame A B → Agrees A B
agree_by_same A B same =
    Both (record { by = λ input n. (n, keeps_along (A input n) (B input n) (same input n)) })
    (record { by = λ input n. (n, keeps_along (B input n) (A input n) (sym (same input n))) })

over_kept : {A B : Meaning} → Follows A B → (input : List ℕ) (finish : Finish) (out left : List ℕ) → HasOver A input finish out left → HasOver B input finish out left
over_kept {A} {B} f input finish out left h =
    let t = f.by input h.0 in (t.0, subst (λ p. Keeps p (B input t.0)) h.1 t.1)

-- the same ends of every kind
pub same_ends : {A B : Meaning} → Agrees A B → SameEnds A B
same_ends (Both f g) input finish out left = (over_kept f input finish out left, over_kept g input finish out left)

begins : {A B : Meaning} → Follows A B → OutputsBegin A B
begins {A} {B} f input n = let t = f.by input n in (t.0, keeps_out (A input n) (B input t.0) t.1)

-- the four statements of agreement, each by itself: what B prints, A prints
pub prints : {A B : Meaning} → Agrees A B → OutputsBegin B A
prints (Both f g) = begins g

-- the same results, after the same output, with the same input left
pub ends : {A B : Meaning} → Agrees A B → (input : List ℕ) (result : ℤ) (out left : List ℕ) → HasOver A input (Returned result) out left ↔ HasOver B input (Returned result) out left
ends a input result out left = same_ends a input (Returned result) out left

-- the same faults of the same statements, after the same output, with the same input left
pub faults : {A B : Meaning} → Agrees A B → (input : List ℕ) (place : Place) (kind : FaultKind) (out left : List ℕ) → HasOver A input (Faulted place kind) out left ↔ HasOver B input (Faulted place kind) out left
faults a input place kind out left = same_ends a input (Faulted place kind) out left

-- what A prints, B prints
pub reaches : {A B : Meaning} → Agrees A B → OutputsBegin A B
reaches (Both f g) = begins f

-- and they are all of it
keeps_by_parts : (A B : Meaning) (input : List ℕ) → ((finish : Finish) (out left : List ℕ) → HasOver A input finish out left → HasOver B input finish out left) → ((n : ℕ) → (m : ℕ) × IsPrefix (out_of (A input n)) (out_of (B input m))) → (n : ℕ) (p : Report) → A input n ≡ p → (m : ℕ) × Keeps p (B input m)
keeps_by_parts A B input over printed n (More out left) e =
    let t = printed n in (t.0, subst (λ p. IsPrefix (out_of p) (out_of (B input t.0))) e t.1)
keeps_by_parts A B input over printed n (Over finish out left) e = over finish out left (n, e)

follows_by_parts : (A B : Meaning) → ((input : List ℕ) (finish : Finish) (out left : List ℕ) → HasOver A input finish out left → HasOver B input finish out left) → ((input : List ℕ) (n : ℕ) → (m : ℕ) × IsPrefix (out_of (A input n)) (out_of (B input m))) → Follows A B
follows_by_parts A B over printed = record { by = λ input n. keeps_by_parts A B input (over input) (printed input) n (A input n) refl }

pub agree_by_parts : (A B : Meaning) → SameEnds A B → OutputsBegin A B → OutputsBegin B A → Agrees A B
agree_by_parts A B over forth back =
    Both (follows_by_parts A B (λ input f o l. (over input f o l).0) forth) (follows_by_parts B A (λ input f o l. (over input f o l).1) back)

-- bounds
pub within_same : (A B : Meaning) → IsSteady B → AreSame A B → Within (λ n. n) A B
within_same A B steady same = record {
  by = λ input n m le. subst (λ p. Keeps p (B input m)) (sym (same input n)) (steady.later input n m le);
}

pub within_weaker : {f g : ℕ → ℕ} {A B : Meaning} → ((n : ℕ) → f n ≤ g n) → Within f A B → Within g A B
within_weaker {f} {g} le w = record { by = λ input n m h. let k = le n in w.by input n m (omega arith) }

-- a run that is over with n is over with f n, and so at no later number goes on
pub within_over : {f : ℕ → ℕ} {A B : Meaning} → Within f A B → (input : List ℕ) (n m : ℕ) (finish : Finish) (out left : List ℕ) → f n ≤ m → A input n ≡ Over finish out left → B input m ≡ Over finish out left
within_over {f} {A} {B} w input n m finish out left le e = subst (λ p. Keeps p (B input m)) e (w.by input n m le)

-- where B still goes on at f n, A goes on with n, and what it printed is a beginning
pub within_more : {f : ℕ → ℕ} {A B : Meaning} → Within f A B → (input : List ℕ) (n m : ℕ) (out left : List ℕ) → f n ≤ m → B input m ≡ More out left → (o : List ℕ) × (l : List ℕ) × (A input n ≡ More o l) × IsPrefix o out
within_more {f} {A} {B} w input n m out left le e = more (A input n) refl (subst (λ q. Keeps (A input n) q) e (w.by input n m le))
  where
    more : (p : Report) → A input n ≡ p → Keeps p (More out left) → (o : List ℕ) × (l : List ℕ) × (A input n ≡ More o l) × IsPrefix o out
    more (More o l) is k = (o, l, is, k)
    more (Over finish o l) is k = cc

pub ruleset agree_laws = (agree_trans, agree_sym, agree_refl)
