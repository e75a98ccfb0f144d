-- What the code of operators computes.
use Rattle.std.proofs.Common.{◌≡◌, ◌≢◌, ℕ, suc, ◌<◌, ◌≤◌, ℤ, pos, List, [], ◌++◌, length, Bool, true, false, refl, sym, ap, ◌∙◌, subst, arith, Option, Some, None, Result, Ok, Err, get_or-set_other, ◌*ℤ◌, ◌-ℤ◌, w64}
use Rattle.std.specs.Prelude.{slice_set, ◌==◌, if◌then◌else◌, ◌+ℤ◌}
use Rattle.std.proofs.lemmas.Bool.{eqb-true}
use Rattle.std.proofs.lemmas.Int.{int_wrap_fits, SFits-int_wrap}
use Rattle.std.proofs.lemmas.List.{set-get_or}
use Rattle.ib_base.specs.declared.integers.Width.TheVariants.{W8}
use Rattle.ib_base.specs.Integers.{wrapped, quotient}
use Rattle.ib_meaning.specs.declared.fault.FaultKind.{FaultKind}
use Rattle.ib_meaning.specs.Agreement.{Report}
use Rattle.ib_act.specs.declared.act.Act.{Act}
use Rattle.ib_act.specs.declared.act.Act.TheVariants.{Const, Mov, Add, Sub, Mul, Div}
use Rattle.ib_act.specs.declared.act.Size.TheVariants.{Eight}
use Rattle.ib_act.specs.Acts as acts
use Rattle.c_meaning.specs.Doing as e
use Rattle.c_meaning.specs.Doing.{Step, Doing, or_fault}
use Rattle.c_typed.specs.declared.operation.Rank.{Rank}
use Rattle.c_typed.specs.declared.operation.Rank.TheVariants as rk
use Rattle.c_typed.specs.declared.operation.Arithmetic.{Arithmetic}
use Rattle.c_typed.specs.declared.operation.Arithmetic.TheVariants as ar
use Rattle.c_typed.specs.declared.operation.Comparison.{Comparison}
use Rattle.c_typed.specs.declared.operation.Comparison.TheVariants as cm
use Rattle.c_typed.specs.declared.operation.Operation.{Operation}
use Rattle.c_typed.specs.declared.operation.Operation.TheVariants as op
use Rattle.c_typed.specs.Program as typed
use Rattle.c_typed.specs.Values as values
use Rattle.c_typed.specs.Values.{ranked, truth}
use Rattle.tac_core.specs.Meaning.{Does, effect_of, reg_of, set_in, writes}
use Rattle.tac_lowered.specs.Code.{Code, does, both, nothing}
use Rattle.tac_lowered.specs.Items.{Item, Open, goes, Next, onward, closes, Loop, items}
use Rattle.tac_lowered.specs.Operators.{moved, size_of, arithmetic, comparison, scaled, scaled_in, operated}
use Rattle.tac_lowered.proofs.Relation.{Spot, Lies, many, Match, Kept, Follows, Behind, Has}
use Rattle.tac_lowered.proofs.Gives.{set_match, set_same, nothing_follows, sets_follows, fault_follows, first_has, second_has, both_follows, target_room}

arithmetic_acts : (o : Arithmetic) (rank : Rank) (to x y base : ℕ) (regs : List ℤ) (memory left : List ℕ)
    → effect_of (arithmetic o (size_of (ranked rank)) to x y) base regs memory left ≡ writes (Some to) (values.arithmetic o (ranked rank) (reg_of regs x) (reg_of regs y)) regs memory left
unfolding effect_of
arithmetic_acts ar.Add rk.Int to x y base regs memory left = refl
arithmetic_acts ar.Sub rk.Int to x y base regs memory left = refl
arithmetic_acts ar.Mul rk.Int to x y base regs memory left = refl
arithmetic_acts ar.Div rk.Int to x y base regs memory left = refl
arithmetic_acts ar.Rem rk.Int to x y base regs memory left = refl
arithmetic_acts ar.ShiftLeft rk.Int to x y base regs memory left = refl
arithmetic_acts ar.ShiftRight rk.Int to x y base regs memory left = refl
arithmetic_acts ar.BitAnd rk.Int to x y base regs memory left = refl
arithmetic_acts ar.BitXor rk.Int to x y base regs memory left = refl
arithmetic_acts ar.BitOr rk.Int to x y base regs memory left = refl
arithmetic_acts ar.Add rk.Long to x y base regs memory left = refl
arithmetic_acts ar.Sub rk.Long to x y base regs memory left = refl
arithmetic_acts ar.Mul rk.Long to x y base regs memory left = refl
arithmetic_acts ar.Div rk.Long to x y base regs memory left = refl
arithmetic_acts ar.Rem rk.Long to x y base regs memory left = refl
arithmetic_acts ar.ShiftLeft rk.Long to x y base regs memory left = refl
arithmetic_acts ar.ShiftRight rk.Long to x y base regs memory left = refl
arithmetic_acts ar.BitAnd rk.Long to x y base regs memory left = refl
arithmetic_acts ar.BitXor rk.Long to x y base regs memory left = refl
arithmetic_acts ar.BitOr rk.Long to x y base regs memory left = refl

pub truth_same : (b : Bool) → acts.truth b ≡ truth b
truth_same true = refl
truth_same false = refl

comparison_acts : (o : Comparison) (to x y base : ℕ) (regs : List ℤ) (memory left : List ℕ)
    → effect_of (comparison o to x y) base regs memory left ≡ writes (Some to) (Ok (truth (values.comparison o (reg_of regs x) (reg_of regs y)))) regs memory left
unfolding effect_of
comparison_acts cm.Equal to x y base regs memory left = ap (λ z. writes (Some to) (Ok z) regs memory left) (truth_same (values.comparison cm.Equal (reg_of regs x) (reg_of regs y)))
comparison_acts cm.NotEqual to x y base regs memory left = ap (λ z. writes (Some to) (Ok z) regs memory left) (truth_same (values.comparison cm.NotEqual (reg_of regs x) (reg_of regs y)))
comparison_acts cm.Less to x y base regs memory left = ap (λ z. writes (Some to) (Ok z) regs memory left) (truth_same (values.comparison cm.Less (reg_of regs x) (reg_of regs y)))
comparison_acts cm.LessEqual to x y base regs memory left = ap (λ z. writes (Some to) (Ok z) regs memory left) (truth_same (values.comparison cm.LessEqual (reg_of regs x) (reg_of regs y)))
comparison_acts cm.Greater to x y base regs memory left = ap (λ z. writes (Some to) (Ok z) regs memory left) (truth_same (values.comparison cm.Greater (reg_of regs x) (reg_of regs y)))
comparison_acts cm.GreaterEqual to x y base regs memory left = ap (λ z. writes (Some to) (Ok z) regs memory left) (truth_same (values.comparison cm.GreaterEqual (reg_of regs x) (reg_of regs y)))

pub const_acts : (to : ℕ) (v : ℤ) (base : ℕ) (regs : List ℤ) (memory left : List ℕ) → effect_of (Const to v) base regs memory left ≡ Does (slice_set regs to v) memory left []
unfolding effect_of
const_acts to v base regs memory left = refl

pub mov_acts : (to x base : ℕ) (regs : List ℤ) (memory left : List ℕ) → effect_of (Mov to x) base regs memory left ≡ Does (slice_set regs to (reg_of regs x)) memory left []
unfolding effect_of
mov_acts to x base regs memory left = refl

pub add_acts : (to x y base : ℕ) (regs : List ℤ) (memory left : List ℕ) → effect_of (Add Eight to x y) base regs memory left ≡ Does (slice_set regs to (wrapped W8 (reg_of regs x +ℤ reg_of regs y))) memory left []
unfolding effect_of
add_acts to x y base regs memory left = refl

sub_acts : (to x y base : ℕ) (regs : List ℤ) (memory left : List ℕ) → effect_of (Sub Eight to x y) base regs memory left ≡ Does (slice_set regs to (wrapped W8 (reg_of regs x -ℤ reg_of regs y))) memory left []
unfolding effect_of
sub_acts to x y base regs memory left = refl

mul_acts : (to x y base : ℕ) (regs : List ℤ) (memory left : List ℕ) → effect_of (Mul Eight to x y) base regs memory left ≡ Does (slice_set regs to (wrapped W8 (reg_of regs x *ℤ reg_of regs y))) memory left []
unfolding effect_of
mul_acts to x y base regs memory left = refl

div_acts : (to x y base : ℕ) (regs : List ℤ) (memory left : List ℕ) → effect_of (Div Eight to x y) base regs memory left ≡ writes (Some to) (quotient W8 (wrapped W8 (reg_of regs x)) (wrapped W8 (reg_of regs y))) regs memory left
unfolding effect_of
div_acts to x y base regs memory left = refl

pub again : (z : ℤ) → wrapped W8 (wrapped W8 z) ≡ wrapped W8 z
again z = int_wrap_fits w64 (wrapped W8 z) (SFits-int_wrap w64 z)

times_one : (y : ℤ) → y *ℤ pos 1 ≡ y
times_one y = grind arith

module _ (C : Spot) where
  -- every register below r is as it was
  pub record Same (r : ℕ) (regs regs' : List ℤ) : Type 0 where
    pub by : (q : ℕ) → q < r → reg_of regs' q ≡ reg_of regs q

  pub same_kept : (r : ℕ) (regs regs' : List ℤ) → Same r regs regs' → Kept C r regs regs'
  same_kept r regs regs' s = record { by = λ q le lt. s.by q lt }

  pub same_all : (r : ℕ) (regs : List ℤ) → Same r regs regs
  same_all r regs = record { by = λ q lt. refl }

  pub same_set : (r s : ℕ) (v : ℤ) (regs regs' : List ℤ) → r ≤ s → Same r regs regs' → Same r regs (slice_set regs' s v)
  same_set r s v regs regs' le h = record { by = λ q lt. let ne : q ≢ s = omega arith in get_or-set_other regs' s q v (pos 0) ne ∙ h.by q lt }

  -- From the numbers x and y in two registers, code of statement s comes to g, and to the statement's fault where that is one.
  pub record Computes (a : Code) (to r s rx ry : ℕ) (x y : ℤ) (g : Result ℤ FaultKind) : Type 0 where
    pub by : (lp : Loop) (n : Next) (o : Open) (rest : List Item) → Has C o (items a lp n o ++ rest) → (k : ℤ → Step) (regs : List ℤ) (t : e.State) → Match C regs t → reg_of regs rx ≡ x → reg_of regs ry ≡ y
        → ((v : ℤ) (regs' : List ℤ) → g ≡ Ok v → Match C regs' t → Same r regs regs' → Behind C n (goes a (closes n) o) rest (slice_set regs' to v) t (k v t))
        → Follows C o (items a lp n o ++ rest) regs t (or_fault (typed.place_of C.p s) g k t)

  one_computes : (act : Act) (to r s rx ry : ℕ) (x y : ℤ) (g : Result ℤ FaultKind)
      → ((base : ℕ) (regs : List ℤ) (memory left : List ℕ) → reg_of regs rx ≡ x → reg_of regs ry ≡ y → effect_of act base regs memory left ≡ writes (Some to) g regs memory left)
      → Computes (does s act) to r s rx ry x y g
  one_computes act to r s rx ry x y g so = record { by = λ lp n o rest h k regs t mt ex ey next. ends lp n o rest h k regs t mt g (so t.base regs t.memory t.left ex ey) next }
    where
      ends : (lp : Loop) (n : Next) (o : Open) (rest : List Item) → Has C o (items (does s act) lp n o ++ rest) → (k : ℤ → Step) (regs : List ℤ) (t : e.State) → Match C regs t → (g : Result ℤ FaultKind) → effect_of act t.base regs t.memory t.left ≡ writes (Some to) g regs t.memory t.left
          → ((v : ℤ) (regs' : List ℤ) → g ≡ Ok v → Match C regs' t → Same r regs regs' → Behind C n (goes (does s act) (closes n) o) rest (slice_set regs' to v) t (k v t))
          → Follows C o (items (does s act) lp n o ++ rest) regs t (or_fault (typed.place_of C.p s) g k t)
      ends lp n o rest h k regs t mt (Ok v) eq next = sets_follows C s act lp n o rest regs (slice_set regs to v) t (k v t) h eq (next v regs refl mt (same_all r regs))
      ends lp n o rest h k regs t mt (Err kind) eq next = fault_follows C s act lp n o rest regs t kind h eq

  -- so many elements in bytes
  pub scaled_follows : (s r size j : ℕ) (lp : Loop) (o : Open) (rest : List Item) (regs : List ℤ) (t : e.State) (y : ℤ) (rep : Report) → Has C o (items (scaled s r size j) lp onward o ++ rest) → Match C regs t → many C ≤ r → j < r → reg_of regs j ≡ y → Lies W8 y
      → ((regs' : List ℤ) → Match C regs' t → Same r regs regs' → reg_of regs' (scaled_in r size j) ≡ values.scaled size y → Follows C (goes (scaled s r size j) false o) rest regs' t rep)
      → Follows C o (items (scaled s r size j) lp onward o ++ rest) regs t rep
  scaled_follows s r size j lp o rest regs t y rep h mt le lt ey fit next = go (size == 1) (λ e. eqb-true size 1 e) h next
    where
      code : Bool → Code
      code b = if b then nothing else both (does s (Const r (pos size))) (does s (Mul Eight r j r))

      go : (b : Bool) → (b ≡ true → size ≡ 1) → Has C o (items (code b) lp onward o ++ rest)
          → ((regs' : List ℤ) → Match C regs' t → Same r regs regs' → reg_of regs' (if b then j else r) ≡ values.scaled size y → Follows C (goes (code b) false o) rest regs' t rep)
          → Follows C o (items (code b) lp onward o ++ rest) regs t rep
      go true e h next = next regs mt (same_all r regs) (ey ∙ sym (ap (λ n. values.scaled n y) (e refl) ∙ ap (λ z. wrapped W8 z) (times_one y) ∙ fit))
      go false e h next =
          let a : Code = does s (Const r (pos size)) in
          let b : Code = does s (Mul Eight r j r) in
          let h1 = first_has C a b lp onward o rest h in
          let h2 = second_has C a b lp onward o rest h in
          let regs1 = slice_set regs r (pos size) in
          let in_regs = target_room C s (Const r (pos size)) lp onward o (items b lp onward (goes a false o) ++ rest) r refl h1 in
          let long : r < length regs = let e1 = mt.room in omega (arith, e1, in_regs) in
          let m1 = set_match C r (pos size) regs t le mt in
          let long1 : r < length regs1 = let e1 = m1.room in omega (arith, e1, in_regs) in
          let v = values.scaled size y in
          let s1 = same_set r r (pos size) regs regs (omega arith) (same_all r regs) in
          both_follows C a b lp onward o rest regs t rep
          (sets_follows C s (Const r (pos size)) lp onward o (items b lp onward (goes a false o) ++ rest) regs regs1 t rep h1 (const_acts r (pos size) t.base regs t.memory t.left)
          (sets_follows C s (Mul Eight r j r) lp onward (goes a false o) rest regs1 (slice_set regs1 r v) t rep h2
          (mul_acts r j r t.base regs1 t.memory t.left ∙ ap (λ z. Does (slice_set regs1 r (wrapped W8 (z *ℤ reg_of regs1 r))) t.memory t.left []) (s1.by j lt ∙ ey) ∙ ap (λ z. Does (slice_set regs1 r (wrapped W8 (y *ℤ z))) t.memory t.left []) (set_same C r (pos size) regs long))
          (next (slice_set regs1 r v) (set_match C r v regs1 t le m1) (same_set r r v regs regs1 (omega arith) s1) (set_same C r v regs1 long1))))

  pub scaled_below : (r size j : ℕ) → j < r → scaled_in r size j ≤ r
  scaled_below r size j lt = go (size == 1)
    where
      go : (b : Bool) → (if b then j else r) ≤ r
      go true = omega arith
      go false = omega arith

  -- an operator of registers, where a count is scaled first
  scaled_computes : (act : Act) (to r s size rx ry : ℕ) (x y : ℤ) (g : ℤ) (base_reg count_reg : ℕ) (count : ℤ) → many C ≤ r → base_reg < r → count_reg < r → Lies W8 count
      → ((regs : List ℤ) → reg_of regs rx ≡ x → reg_of regs ry ≡ y → reg_of regs count_reg ≡ count)
      → ((base : ℕ) (regs regs0 : List ℤ) (memory left : List ℕ) → reg_of regs0 rx ≡ x → reg_of regs0 ry ≡ y → reg_of regs base_reg ≡ reg_of regs0 base_reg → reg_of regs (scaled_in r size count_reg) ≡ values.scaled size count
      → effect_of act base regs memory left ≡ Does (slice_set regs to g) memory left [])
      → Computes (both (scaled s r size count_reg) (does s act)) to r s rx ry x y (Ok g)
  scaled_computes act to r s size rx ry x y g base_reg count_reg count le b_lt c_lt fit is_count so = record {
    by = λ lp n o rest h k regs t mt ex ey next.
        let a : Code = scaled s r size count_reg in
        let b : Code = does s act in
        both_follows C a b lp n o rest regs t (k g t)
        (scaled_follows s r size count_reg lp o (items b lp n (goes a false o) ++ rest) regs t count (k g t) (first_has C a b lp n o rest h) mt le c_lt (is_count regs ex ey) fit (λ regs1 m1 s1 e1.
        sets_follows C s act lp n (goes a false o) rest regs1 (slice_set regs1 to g) t (k g t) (second_has C a b lp n o rest h) (so t.base regs1 regs t.memory t.left ex ey (s1.by base_reg b_lt) e1)
        (next g regs1 refl m1 s1)));
  }

  pub operated_computes : (o : Operation) (s to r rx ry : ℕ) (x y : ℤ) → many C ≤ r → rx < r → ry < r → Lies W8 x → Lies W8 y → Computes (operated o s to r rx ry) to r s rx ry x y (values.operated o x y)
  operated_computes (op.Integer o rank) s to r rx ry x y le lx ly fx fy = one_computes (arithmetic o (size_of (ranked rank)) to rx ry) to r s rx ry x y (values.arithmetic o (ranked rank) x y) (λ base regs memory left ex ey.
      arithmetic_acts o rank to rx ry base regs memory left ∙ ap (λ z. writes (Some to) (values.arithmetic o (ranked rank) z (reg_of regs ry)) regs memory left) ex ∙ ap (λ z. writes (Some to) (values.arithmetic o (ranked rank) x z) regs memory left) ey)
  operated_computes (op.Compare o) s to r rx ry x y le lx ly fx fy = one_computes (comparison o to rx ry) to r s rx ry x y (Ok (truth (values.comparison o x y))) (λ base regs memory left ex ey.
      comparison_acts o to rx ry base regs memory left ∙ ap (λ z. writes (Some to) (Ok (truth (values.comparison o z (reg_of regs ry)))) regs memory left) ex ∙ ap (λ z. writes (Some to) (Ok (truth (values.comparison o x z))) regs memory left) ey)
  operated_computes (op.Advance size) s to r rx ry x y le lx ly fx fy =
      scaled_computes (Add Eight to rx (scaled_in r size ry)) to r s size rx ry x y (values.further x (values.scaled size y)) rx ry y le lx ly fy (λ regs ex ey. ey)
      (λ base regs regs0 memory left ex ey eb ec.
      add_acts to rx (scaled_in r size ry) base regs memory left ∙ ap (λ z. Does (slice_set regs to (wrapped W8 (z +ℤ reg_of regs (scaled_in r size ry)))) memory left []) (eb ∙ ex) ∙ ap (λ z. Does (slice_set regs to (wrapped W8 (x +ℤ z))) memory left []) ec)
  operated_computes (op.AdvanceBy size) s to r rx ry x y le lx ly fx fy =
      scaled_computes (Add Eight to ry (scaled_in r size rx)) to r s size rx ry x y (values.further y (values.scaled size x)) ry rx x le ly lx fx (λ regs ex ey. ex)
      (λ base regs regs0 memory left ex ey eb ec.
      add_acts to ry (scaled_in r size rx) base regs memory left ∙ ap (λ z. Does (slice_set regs to (wrapped W8 (z +ℤ reg_of regs (scaled_in r size rx)))) memory left []) (eb ∙ ey) ∙ ap (λ z. Does (slice_set regs to (wrapped W8 (y +ℤ z))) memory left []) ec)
  operated_computes (op.Retreat size) s to r rx ry x y le lx ly fx fy =
      scaled_computes (Sub Eight to rx (scaled_in r size ry)) to r s size rx ry x y (wrapped W8 (x -ℤ values.scaled size y)) rx ry y le lx ly fy (λ regs ex ey. ey)
      (λ base regs regs0 memory left ex ey eb ec.
      sub_acts to rx (scaled_in r size ry) base regs memory left ∙ ap (λ z. Does (slice_set regs to (wrapped W8 (z -ℤ reg_of regs (scaled_in r size ry)))) memory left []) (eb ∙ ex) ∙ ap (λ z. Does (slice_set regs to (wrapped W8 (x -ℤ z))) memory left []) ec)
  operated_computes (op.Distance size) s to r rx ry x y le lx ly fx fy = record {
    by = λ lp n o rest h k regs t mt ex ey next.
        let a : Code = does s (Sub Eight r rx ry) in
        let b : Code = does s (Const (suc r) (pos size)) in
        let c : Code = does s (Div Eight to r (suc r)) in
        let g = quotient W8 (wrapped W8 (x -ℤ y)) (wrapped W8 (pos size)) in
        let h1 = first_has C a (both b c) lp n o rest h in
        let h23 = second_has C a (both b c) lp n o rest h in
        let h2 = first_has C b c lp n (goes a false o) rest h23 in
        let h3 = second_has C b c lp n (goes a false o) rest h23 in
        let v1 = wrapped W8 (x -ℤ y) in
        let regs1 = slice_set regs r v1 in
        let regs2 = slice_set regs1 (suc r) (pos size) in
        let le2 : many C ≤ suc r = omega arith in
        let in1 = target_room C s (Sub Eight r rx ry) lp onward o (items (both b c) lp n (goes a false o) ++ rest) r refl h1 in
        let in2 = target_room C s (Const (suc r) (pos size)) lp onward (goes a false o) (items c lp n (goes b false (goes a false o)) ++ rest) (suc r) refl h2 in
        let m1 = set_match C r v1 regs t le mt in
        let m2 = set_match C (suc r) (pos size) regs1 t le2 m1 in
        let long : r < length regs = let e1 = mt.room in omega (arith, e1, in1) in
        let long1 : suc r < length regs1 = let e1 = m1.room in omega (arith, e1, in2) in
        let ne : r ≢ suc r = omega arith in
        let e_r : reg_of regs2 r ≡ v1 = get_or-set_other regs1 (suc r) r (pos size) (pos 0) ne ∙ set_same C r v1 regs long in
        let same2 = same_set r (suc r) (pos size) regs regs1 (omega arith) (same_set r r v1 regs regs (omega arith) (same_all r regs)) in
        let last = one_computes (Div Eight to r (suc r)) to r s r (suc r) v1 (pos size) g (λ base regs memory left e1 e2.
        div_acts to r (suc r) base regs memory left ∙ ap (λ z. writes (Some to) (quotient W8 (wrapped W8 z) (wrapped W8 (reg_of regs (suc r)))) regs memory left) e1
        ∙ ap (λ z. writes (Some to) (quotient W8 (wrapped W8 v1) (wrapped W8 z)) regs memory left) e2 ∙ ap (λ z. writes (Some to) (quotient W8 z (wrapped W8 (pos size))) regs memory left) (again (x -ℤ y))) in
        both_follows C a (both b c) lp n o rest regs t _
        (sets_follows C s (Sub Eight r rx ry) lp onward o _ regs regs1 t _ h1
        (sub_acts r rx ry t.base regs t.memory t.left ∙ ap (λ z. Does (slice_set regs r (wrapped W8 (z -ℤ reg_of regs ry))) t.memory t.left []) ex ∙ ap (λ z. Does (slice_set regs r (wrapped W8 (x -ℤ z))) t.memory t.left []) ey)
        (both_follows C b c lp n (goes a false o) rest regs1 t _
        (sets_follows C s (Const (suc r) (pos size)) lp onward (goes a false o) _ regs1 regs2 t _ h2 (const_acts (suc r) (pos size) t.base regs1 t.memory t.left)
        (last.by lp n (goes b false (goes a false o)) rest h3 k regs2 t m2 e_r (set_same C (suc r) (pos size) regs1 long1)
        (λ v regs3 eg m3 s3. next v regs3 eg m3 (record { by = λ q lt. s3.by q lt ∙ same2.by q lt }))))));
  }

  -- a value that is in a register, where it is wanted
  pub moved_follows : (s : ℕ) (to : Option ℕ) (j : ℕ) (lp : Loop) (n : Next) (o : Open) (rest : List Item) (regs : List ℤ) (t : e.State) (v : ℤ) (rep : Report) → Has C o (items (moved s to j) lp n o ++ rest) → reg_of regs j ≡ v
      → Behind C n (goes (moved s to j) (closes n) o) rest (set_in regs to v) t rep → Follows C o (items (moved s to j) lp n o ++ rest) regs t rep
  moved_follows s None j lp n o rest regs t v rep h e a = nothing_follows C n o rest regs t rep h a
  moved_follows s (Some to) j lp n o rest regs t v rep h e a = go (to == j) (λ b. eqb-true to j b) h a
    where
      code : Bool → Code
      code b = if b then nothing else does s (Mov to j)

      go : (b : Bool) → (b ≡ true → to ≡ j) → Has C o (items (code b) lp n o ++ rest) → Behind C n (goes (code b) (closes n) o) rest (slice_set regs to v) t rep → Follows C o (items (code b) lp n o ++ rest) regs t rep
      go true is h a =
          let same : slice_set regs to v ≡ regs = ap (λ i. slice_set regs i v) (is refl) ∙ ap (λ v. slice_set regs j v) (sym e) ∙ set-get_or regs j (pos 0) in
          nothing_follows C n o rest regs t rep h (subst (λ z. Behind C n (goes nothing (closes n) o) rest z t rep) same a)
      go false is h a = sets_follows C s (Mov to j) lp n o rest regs (slice_set regs to v) t rep h (mov_acts to j t.base regs t.memory t.left ∙ ap (λ z. Does (slice_set regs to z) t.memory t.left []) e) a
