-- The chain from the end backwards.
use Rattle.std.proofs.Common.{◌≡◌, ◌≢◌, ℕ, zero, suc, ◌≤◌, Bool, true, false, ◌||◌, ◌&&◌, not, List, [], ◌∷◌, ◌++◌, length, Option, Some, None, Result, Ok, Err, drop, refl, sym, ap, ◌∙◌, subst, ⊎_elim, arith, if◌then◌else◌}
use Rattle.std.specs.Prelude.{◌==◌, slice_get, IfOk}
use Rattle.std.proofs.lemmas.Bool.{eq-eqb}
use Rattle.std.proofs.lemmas.Bool.Decides.{eqb_tells}
use Rattle.std.proofs.lemmas.List.{append-nil}
use Rattle.ib_act.specs.declared.act.Act.TheVariants.{Bounds, Div, Rem, Load, Store, Get, PutByte, PutNumber}
use Rattle.wide_core.specs.declared.code.WideAct.{WideAct}
use Rattle.wide_core.specs.declared.code.WideAct.TheVariants.{Do, Spill, Reload, Check, Jump, Branch, BranchZero, Call, Return}
use Rattle.wide_core.specs.declared.code.WideOp.{WideOp}
use Rattle.wide_core.specs.Classes.{is_register, traps}
use Rattle.wide_core.specs.Uses.{reads, in_list, written}
use Rattle.sb_order.specs.Superblock.{put_at, meets, settles, needs_check, check_of, checked}
use Rattle.sb_core.specs.Chain.{members, chain}
use Rattle.dep_graph.specs.Carriers.{has, without, through, carrying, backwards, AreBehind}

-- ---- tests

or_assoc : (a b d : Bool) → (a || (b || d)) ≡ ((a || b) || d)
or_assoc true b d = refl
or_assoc false b d = refl

or_twice : (p q : Bool) → (p || (p || q)) ≡ (p || q)
or_twice true q = refl
or_twice false q = refl

or_swap : (p q r : Bool) → (p || (q || r)) ≡ (q || (p || r))
or_swap true true r = refl
or_swap true false r = refl
or_swap false q r = refl

or_none : (a b : Bool) → (a || b) ≡ false → (a ≡ false) × (b ≡ false)
or_none true b e = cc
or_none false b e = (refl, e)

and_first : (a b : Bool) → (a && b) ≡ true → a ≡ true
and_first true b e = refl
and_first false b e = cc

-- ---- sets of carriers, as tests and as lists

meets_append : (c : ℕ → Bool) (xs ys : List ℕ) → meets c (xs ++ ys) ≡ (meets c xs || meets c ys)
meets_append c [] ys = refl
meets_append c (x ∷ xs) ys = ap (λ b. c x || b) (meets_append c xs ys) ∙ or_assoc (c x) (meets c xs) (meets c ys)

same_none : (b : Bool) (c : ℕ → Bool) (s : List ℕ) → meets (put_at None b c) s ≡ meets c s
same_none b c [] = refl
same_none b c (x ∷ xs) = ap (λ q. c x || q) (same_none b c xs)

not_equal : (x d : ℕ) → x ≢ d → (d == x) ≡ false
not_equal x d ne = ⊎_elim (λ t. absurd (ne (sym t.1))) (λ o. o.0) (eqb_tells d x)

absent : (d : ℕ) (ys : List ℕ) → in_list d ys ≡ false → without d ys ≡ ys
absent d [] e = refl
absent d (y ∷ ys) e =
    let h = or_none (d == y) (in_list d ys) e in
    ap (λ q. if q then without d ys else y ∷ without d ys) h.0 ∙ ap (λ l. y ∷ l) (absent d ys h.1)

-- where d is there, it carries what b says
abbrev by_list : (d : ℕ) (b : Bool) (c : ℕ → Bool) (s : List ℕ) → Bool
by_list d b c s = if in_list d s then b || meets c (without d s) else meets c s

here_too : (d : ℕ) (b : Bool) (c : ℕ → Bool) (xs : List ℕ) (q : Bool) → in_list d xs ≡ q → (b || (if q then b || meets c (without d xs) else meets c xs)) ≡ (b || meets c (without d xs))
here_too d b c xs true e = or_twice b (meets c (without d xs))
here_too d b c xs false e = ap (λ ys. b || meets c ys) (sym (absent d xs e))

further : (x d : ℕ) (b : Bool) (c : ℕ → Bool) (xs : List ℕ) (q : Bool) → (c x || (if q then b || meets c (without d xs) else meets c xs)) ≡ (if q then b || (c x || meets c (without d xs)) else (c x || meets c xs))
further x d b c xs true = or_swap (c x) b (meets c (without d xs))
further x d b c xs false = refl

changed : (d : ℕ) (b : Bool) (c : ℕ → Bool) (s : List ℕ) → meets (put_at (Some d) b c) s ≡ by_list d b c s
changed d b c [] = refl
changed d b c (x ∷ xs) =
    ⊎_elim
    (λ t.
    let there : (d == x) ≡ true = eq-eqb d x (sym t.1) in
    ap (λ q. (if q then b else c x) || meets (put_at (Some d) b c) xs) t.0 ∙ ap (λ q. b || q) (changed d b c xs)
    ∙ here_too d b c xs (in_list d xs) refl
    ∙ sym (ap (λ q. if q || in_list d xs then b || meets c (if q then without d xs else x ∷ without d xs) else meets c (x ∷ xs)) there))
    (λ o.
    let other : (d == x) ≡ false = not_equal x d o.1 in
    ap (λ q. (if q then b else c x) || meets (put_at (Some d) b c) xs) o.0 ∙ ap (λ q. c x || q) (changed d b c xs)
    ∙ further x d b c xs (in_list d xs)
    ∙ sym (ap (λ q. if q || in_list d xs then b || meets c (if q then without d xs else x ∷ without d xs) else meets c (x ∷ xs)) other))
    (eqb_tells x d)

through_meets : (w : Option ℕ) (c : ℕ → Bool) (from s : List ℕ) → meets (put_at w (meets c from) c) s ≡ meets c (through w from s)
through_meets None c from s = same_none (meets c from) c s
through_meets (Some d) c from s = changed d (meets c from) c s ∙ by (in_list d s)
  where
    by : (q : Bool) → (if q then meets c from || meets c (without d s) else meets c s) ≡ meets c (if q then from ++ without d s else s)
    by true = sym (meets_append c from (without d s))
    by false = refl

settles_is : (c : ℕ → Bool) (ops : List WideOp) → settles c ops ≡ meets c (carrying ops)
settles_is c [] = refl
settles_is c (op ∷ ops) =
    by (is_register op.act)
    (settles_is (put_at (written op.act) (meets c (reads op.act)) c) ops ∙ through_meets (written op.act) c (reads op.act) (carrying ops))
  where
    by : (q : Bool) → settles (put_at (written op.act) (meets c (reads op.act)) c) ops ≡ meets c (through (written op.act) (reads op.act) (carrying ops)) → (if q then settles (put_at (written op.act) (meets c (reads op.act)) c) ops else meets c (reads op.act)) ≡ meets c (if q then through (written op.act) (reads op.act) (carrying ops) else reads op.act)
    by true e = e
    by false e = refl

none_meets : (s : List ℕ) → meets (λ r. false) s ≡ false
none_meets [] = refl
none_meets (x ∷ xs) = none_meets xs

alone : (w : Option ℕ) (s : List ℕ) → meets (put_at w true (λ r. false)) s ≡ has w s
alone None s = same_none true (λ r. false) s ∙ none_meets s
alone (Some d) s = changed d true (λ r. false) s ∙ by (in_list d s)
  where
    by : (q : Bool) → (if q then true || meets (λ r. false) (without d s) else meets (λ r. false) s) ≡ q
    by true = refl
    by false = none_meets s

-- a check is there exactly where the register does not carry on
needed : (op : WideOp) (behind : List WideOp) → needs_check op behind ≡ (traps op.act && not (has (written op.act) (carrying behind)))
needed op behind =
    ap (λ q. traps op.act && not q) (settles_is (put_at (written op.act) true (λ r. false)) behind ∙ alone (written op.act) (carrying behind))

-- ---- steps

traps_not : (act : WideAct) → is_register act ≡ false → traps act ≡ false
traps_not (Do (Store width base offset from)) e = refl
traps_not (Do (Get to)) e = refl
traps_not (Do (PutByte from)) e = refl
traps_not (Do (PutNumber from)) e = refl
traps_not (Do act) e = cc
traps_not (Spill to from) e = refl
traps_not (Reload to from) e = refl
traps_not (Check from) e = refl
traps_not (Jump to) e = refl
traps_not (Branch from to) e = refl
traps_not (BranchZero from to) e = refl
traps_not (Call result func next args) e = refl
traps_not (Return from) e = refl

traps_writes : (act : WideAct) → traps act ≡ true → (w : ℕ) × (written act ≡ Some w)
traps_writes (Do (Bounds to from bound)) e = (to, refl)
traps_writes (Do (Div size to a b)) e = (to, refl)
traps_writes (Do (Rem size to a b)) e = (to, refl)
traps_writes (Do (Load width to base offset)) e = (to, refl)
traps_writes (Do act) e = cc
traps_writes (Spill to from) e = cc
traps_writes (Reload to from) e = cc
traps_writes (Check from) e = cc
traps_writes (Jump to) e = cc
traps_writes (Branch from to) e = cc
traps_writes (BranchZero from to) e = cc
traps_writes (Call result func next args) e = cc
traps_writes (Return from) e = cc

abbrev behind_of : WideOp → Bool → List WideOp → List WideOp
behind_of op q ops = op ∷ ((if q then check_of op (written op.act) else []) ++ checked ops)

checked_by : (op : WideOp) (ops : List WideOp) (q : Bool) → (traps op.act && not (has (written op.act) (carrying (checked ops)))) ≡ q → checked (op ∷ ops) ≡ behind_of op q ops
checked_by op ops q e = ap (λ b. behind_of op b ops) (needed op (checked ops) ∙ e)

chain_by : (op : WideOp) (ops : List WideOp) (q : Bool) → (traps op.act && not (has (written op.act) (carrying (checked ops)))) ≡ q → chain (op ∷ ops) ≡ members (behind_of op q ops)
chain_by op ops q e = ap members (checked_by op ops q e)

-- no check: the item alone
no_check : (op : WideOp) (ops : List WideOp) → (traps op.act && not (has (written op.act) (carrying (checked ops)))) ≡ false → checked (op ∷ ops) ≡ op ∷ checked ops
no_check op ops e = checked_by op ops false e

pub behind_none : (chained carriers : List ℕ) → chained ≡ [] → carriers ≡ [] → AreBehind [] chained carriers
behind_none chained carriers e h = record { members = e; carry = h }

pub behind_member : (op : WideOp) (items : List WideOp) (chained carriers new next : List ℕ) → is_register op.act ≡ false → new ≡ chained ++ op.number ∷ [] → next ≡ reads op.act → AreBehind items chained carriers → AreBehind (op ∷ items) new next
behind_member op items chained carriers new next plain grown from h =
    let calm : (traps op.act && not (has (written op.act) (carrying (checked items)))) ≡ false = ap (λ q. q && not (has (written op.act) (carrying (checked items)))) (traps_not op.act plain) in
    let one = no_check op items calm in
    let whole : chain (op ∷ items) ≡ op.number ∷ chain items =
    ap members one ∙ ap (λ q. if not q then op.number ∷ chain items else chain items) plain in
    let carry : carrying (checked (op ∷ items)) ≡ reads op.act =
    ap carrying one ∙ ap (λ q. if q then through (written op.act) (reads op.act) (carrying (checked items)) else reads op.act) plain in
    record {
      members = grown ∙ ap (λ l. l ++ op.number ∷ []) h.members ∙ sym (ap backwards whole);
      carry = from ∙ sym carry;
    }

pub behind_passed : (op : WideOp) (items : List WideOp) (chained carriers new next : List ℕ) → is_register op.act ≡ true → (traps op.act && not (has (written op.act) carriers)) ≡ false → new ≡ chained → next ≡ through (written op.act) (reads op.act) carriers → AreBehind items chained carriers → AreBehind (op ∷ items) new next
behind_passed op items chained carriers new next register calm same from h =
    let one = no_check op items (ap (λ l. traps op.act && not (has (written op.act) l)) (sym h.carry) ∙ calm) in
    let whole : chain (op ∷ items) ≡ chain items =
    ap members one ∙ ap (λ q. if not q then op.number ∷ chain items else chain items) register in
    let carry : carrying (checked (op ∷ items)) ≡ through (written op.act) (reads op.act) (carrying (checked items)) =
    ap carrying one ∙ ap (λ q. if q then through (written op.act) (reads op.act) (carrying (checked items)) else reads op.act) register in
    record {
      members = same ∙ h.members ∙ sym (ap backwards whole);
      carry = from ∙ ap (through (written op.act) (reads op.act)) h.carry ∙ sym carry;
    }

abbrev check_item : WideOp → ℕ → WideOp
check_item op w = record { number = suc op.number; home = op.home; flagged = false; act = Check w }

pub behind_checked : (op : WideOp) (items : List WideOp) (chained carriers new next : List ℕ) → is_register op.act ≡ true → (traps op.act && not (has (written op.act) carriers)) ≡ true → new ≡ chained ++ suc op.number ∷ [] → next ≡ reads op.act → AreBehind items chained carriers → AreBehind (op ∷ items) new next
behind_checked op items chained carriers new next register needs grown from h =
    let w = traps_writes op.act (and_first (traps op.act) (not (has (written op.act) carriers)) needs) in
    let both : (traps op.act && not (has (written op.act) (carrying (checked items)))) ≡ true =
    ap (λ l. traps op.act && not (has (written op.act) l)) (sym h.carry) ∙ needs in
    let one : checked (op ∷ items) ≡ op ∷ check_item op w.0 ∷ checked items =
    checked_by op items true both ∙ ap (λ o. op ∷ (check_of op o ++ checked items)) w.1 in
    let whole : chain (op ∷ items) ≡ suc op.number ∷ chain items =
    ap members one ∙ ap (λ q. if not q then op.number ∷ suc op.number ∷ chain items else suc op.number ∷ chain items) register in
    let carry : carrying (checked (op ∷ items)) ≡ reads op.act =
    ap carrying one ∙ ap (λ q. if q then through (written op.act) (reads op.act) (w.0 ∷ []) else reads op.act) register
    ∙ ap (λ o. through o (reads op.act) (w.0 ∷ [])) w.1
    ∙ ap (λ q. if q || false then reads op.act ++ (if q then [] else w.0 ∷ []) else w.0 ∷ []) (eq-eqb w.0 w.0 refl)
    ∙ append-nil (reads op.act) in
    record {
      members = grown ∙ ap (λ l. l ++ suc op.number ∷ []) h.members ∙ sym (ap backwards whole);
      carry = from ∙ sym carry;
    }

-- ---- loops from the end

drop_here : {X : Type 0} (xs : List X) (i : ℕ) (x : X) → slice_get xs i ≡ Some x → drop i xs ≡ x ∷ drop (suc i) xs
drop_here [] i x e = cc
drop_here (y ∷ xs) zero x e = let same : y ≡ x = cc in ap (λ z. z ∷ xs) same
drop_here (y ∷ xs) (suc i) x e = drop_here xs i x e

drop_all : {X : Type 0} (xs : List X) (n : ℕ) → length xs ≤ n → drop n xs ≡ []
drop_all [] zero le = refl
drop_all [] (suc n) le = refl
drop_all (x ∷ xs) zero le = absurd (omega arith)
drop_all (x ∷ xs) (suc n) le = drop_all xs n (omega arith)

pub behind_last : (items : List WideOp) (n : ℕ) (chained carriers : List ℕ) → length items ≤ n → chained ≡ [] → carriers ≡ [] → AreBehind (drop n items) chained carriers
behind_last items n chained carriers le e h =
    subst (λ xs. AreBehind xs chained carriers) (sym (drop_all items n le)) (record { members = e; carry = h })

pub behind_more : (items : List WideOp) (n k : ℕ) (x : WideOp) (a b c d : List ℕ) → n ≡ suc k → slice_get items k ≡ Some x → ((xs : List WideOp) → AreBehind xs a b → AreBehind (x ∷ xs) c d) → AreBehind (drop n items) a b → AreBehind (drop k items) c d
behind_more items n k x a b c d e is step h =
    subst (λ xs. AreBehind xs c d) (sym (drop_here items k x is)) (step (drop (suc k) items) (subst (λ m. AreBehind (drop m items) a b) e h))

pub back_last : (xs : List ℕ) (n : ℕ) (back : List ℕ) → length xs ≤ n → back ≡ [] → back ≡ backwards (drop n xs)
back_last xs n back le e = e ∙ sym (ap backwards (drop_all xs n le))

pub back_more : (xs : List ℕ) (n k x : ℕ) (back more : List ℕ) → n ≡ suc k → slice_get xs k ≡ Some x → more ≡ back ++ x ∷ [] → back ≡ backwards (drop n xs) → more ≡ backwards (drop k xs)
back_more xs n k x back more e is grown h =
    grown ∙ ap (λ l. l ++ x ∷ []) (h ∙ ap (λ m. backwards (drop m xs)) e) ∙ sym (ap backwards (drop_here xs k x is))

pub in_rest : (r : ℕ) (xs : List ℕ) (i x : ℕ) → slice_get xs i ≡ Some x → in_list r (drop i xs) ≡ ((r == x) || in_list r (drop (suc i) xs))
in_rest r xs i x is = ap (in_list r) (drop_here xs i x is)

pub without_rest : (r : ℕ) (xs : List ℕ) (i x : ℕ) → slice_get xs i ≡ Some x → without r (drop i xs) ≡ (if r == x then without r (drop (suc i) xs) else x ∷ without r (drop (suc i) xs))
without_rest r xs i x is = ap (without r) (drop_here xs i x is)

-- ---- turned round

backwards_last : (xs : List ℕ) (x : ℕ) → backwards (xs ++ x ∷ []) ≡ x ∷ backwards xs
backwards_last [] x = refl
backwards_last (y ∷ xs) x = ap (λ l. l ++ y ∷ []) (backwards_last xs x)

pub turned_twice : (xs : List ℕ) → backwards (backwards xs) ≡ xs
turned_twice [] = refl
turned_twice (x ∷ xs) = backwards_last (backwards xs) x ∙ ap (λ l. x ∷ l) (turned_twice xs)

pub ok_map : {X E : Type 0} {P Q : X → Type 0} (r : Result X E) → ((x : X) → P x → Q x) → IfOk r P → IfOk r Q
ok_map (Ok x) f h = f x h
ok_map (Err e) f h = h
