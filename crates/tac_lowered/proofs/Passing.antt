-- Expressions in a row, arguments and calls.
use Rattle.std.proofs.Common.{◌≡◌, ℕ, suc, ◌+◌, ◌<◌, ◌≤◌, ◌%◌, ℤ, pos, List, [], ◌∷◌, ◌++◌, length, map, Bool, true, false, ◌&&◌, refl, sym, ap, ◌∙◌, subst, arith, Some, None}
use Rattle.std.specs.Prelude.{slice_get, slice_index_or}
use Rattle.std.proofs.lemmas.Option.{slice_get_within}
use Rattle.ib_meaning.proofs.Facts.{both_first, both_second}
use Rattle.c_meaning.specs.Doing as e
use Rattle.c_meaning.specs.Doing.{Step, Doing}
use Rattle.c_meaning.specs.Meaning.{evals}
use Rattle.c_typed.specs.declared.types.ValueType.{ValueType}
use Rattle.c_typed.specs.declared.program.Param.{Param}
use Rattle.c_typed.specs.Tree as t
use Rattle.c_typed.specs.Tree.{Exp, Exps, Function}
use Rattle.c_typed.specs.Program as typed
use Rattle.c_typed.specs.Values.{width_of}
use Rattle.tac_core.specs.declared.code.End.TheVariants.{Call}
use Rattle.tac_core.specs.Meaning.{reg_of, set_in, block_of, frame_of}
use Rattle.tac_lowered.specs.Code.{Code, both, calls}
use Rattle.tac_lowered.specs.Items.{Item, Close, Open, fresh, goes, onward, Loop, items, label_of}
use Rattle.tac_lowered.specs.Expressions.{low, low_all, effects, held, at, behind_operand, passed, is_quiet, are_quiet, width_in}
use Rattle.tac_lowered.specs.Lowered.{up_to_all, registers}
use Rattle.c_kept.specs.Kept.{KeepsExp, told, KeepsExps, Fill}
use Rattle.tac_lowered.proofs.Geometry.{found, with_before, up_least}
use Rattle.tac_lowered.proofs.Relation.{Spot, Lies, Back, Suit, kind_of, Match, Kept, Follows, Has, close_has}
use Rattle.tac_lowered.proofs.Gives.{Stays, plain_gives, kept_all, kept_on, first_has, second_has, both_follows}
use Rattle.tac_lowered.proofs.Constructs.{Lowers, Later, ev, plain_lowers}
use Rattle.tac_lowered.proofs.Operations.{begins_behind, after_later}
use Rattle.tac_lowered.proofs.Statements.{no_loss, told_in}
use Rattle.tac_lowered.proofs.Widths.{wider}

-- each of the registers is there
abbrev Rooms : (regs : ℕ) → List ℕ → Type 0
Rooms regs [] = Unit {0}
Rooms regs (r ∷ rs) = (r < regs) × Rooms regs rs

all_rooms : (rs : List ℕ) (n regs : ℕ) → up_to_all rs n ≤ regs → Rooms regs rs
all_rooms [] n regs le = tt
all_rooms (r ∷ rs) n regs le = (omega arith, all_rooms rs n regs (omega arith))

operand_behind : (b : Bool) (a : Exp) (r : ℕ) → r ≤ behind_operand b a r
operand_behind true (t.slot ty k) r = omega arith
operand_behind true a r = omega arith
operand_behind false a r = omega arith

module _ (C : Spot) where
  -- each of them is lowered
  abbrev pub AllLower : Exps → Type 0
  AllLower t.no_exp = Unit {0}
  AllLower (t.an_exp a rest) = Lowers C a × AllLower rest

  -- an operand's register has its value while what is behind it is done
  stays_on : (b : Bool) (a : Exp) → KeepsExp C.p C.kinds a → (r : ℕ) (v : ℤ) (regs : List ℤ) (u : e.State) → Stays C b (at b a r) r v regs u → Match C regs u
      → (regs' : List ℤ) (u' : e.State) → at b a r < C.F.regs → Kept C (behind_operand b a r) regs regs' → Match C regs' u' → (b ≡ true → u'.slots ≡ u.slots) → reg_of regs' (at b a r) ≡ v
  stays_on true (t.slot ty j) h r v regs u st mt regs' u' room kept mt' slots =
      let lt = slice_get_within C.kinds j ty h in
      mt'.same j lt ∙ ap (λ s. slice_index_or s j (pos 0)) (slots refl) ∙ sym (mt.same j lt) ∙ st.by regs u room (kept_all C (r + 1) regs) mt (λ _. refl)
  stays_on true a h r v regs u st mt regs' u' room kept mt' slots = st.by regs' u' room kept mt' slots
  stays_on false a h r v regs u st mt regs' u' room kept mt' slots = st.by regs' u' room kept mt' slots

  -- what holds behind the code of arguments
  record Passed (r : ℕ) (is_still : Bool) (d : ℕ) (regs : List ℤ) (t : e.State) (registers : List ℕ) (vs regs' : List ℤ) (u : e.State) : Type 0 where
    budget : u.budget ≤ d
    match' : Match C regs' u
    kept : Kept C r regs regs'
    still : is_still ≡ true → u.slots ≡ t.slots
    here : map (reg_of regs') registers ≡ vs

  args_follow : (all : Exps) (qs : List Param) → AllLower all → KeepsExps C.p C.kinds all → Fill C.p C.kinds all qs → (s r : ℕ) → C.free ≤ r → (lp : Loop) (o : Open) (rest : List Item) → Has C o (items (low_all C.p all s r) lp onward o ++ rest) → Rooms C.F.regs (passed all r)
      → (d : ℕ) → d ≤ C.c → (k : List ℤ → Step) (regs : List ℤ) (t : e.State) → t.budget ≤ d → Match C regs t
      → ((vs regs' : List ℤ) (u : e.State) → Passed r (are_quiet all) d regs t (passed all r) vs regs' u → Suit qs vs → Follows C (goes (low_all C.p all s r) false o) rest regs' u (k vs u))
      → Follows C o (items (low_all C.p all s r) lp onward o ++ rest) regs t (evals C.p C.call C.m all (typed.place_of C.p s) k t)
  args_follow t.no_exp [] lower keeps fill s r le lp o rest h rooms d dc k regs t q mt next = next [] regs t (record { budget = q; match' = mt; kept = kept_all C r regs; still = λ _. refl; here = refl }) tt
  args_follow t.no_exp (x ∷ qs) lower keeps fill s r le lp o rest h rooms d dc k regs t q mt next = absurd fill
  args_follow (t.an_exp a more) [] lower keeps fill s r le lp o rest h rooms d dc k regs t q mt next = absurd fill
  args_follow (t.an_exp a more) (x ∷ qs) lower keeps fill s r le lp o rest h rooms d dc k regs t q mt next =
      let A = held (are_quiet more) a (low C.p a s (Some r) r) in
      let r1 = behind_operand (are_quiet more) a r in
      let up = operand_behind (are_quiet more) a r in
      let B = low_all C.p more s r1 in
      let le1 : C.free ≤ r1 = omega (arith, up, le) in
      both_follows C A B lp onward o rest regs t _
      ((lower.0.puts (are_quiet more) s r le).by lp o (items B lp onward (goes A false o) ++ rest) (first_has C A B lp onward o rest h) d dc _ regs t q mt (λ v regs1 u1 f st.
      args_follow more qs lower.1 keeps.1 fill.1 s r1 le1 lp (goes A false o) rest (second_has C A B lp onward o rest h) rooms.1 d dc (λ vs. k (v ∷ vs)) regs1 u1 f.budget f.match' (λ vs regs2 u2 g suit.
      let ev' = stays_on (are_quiet more) a keeps.0 r v regs1 u1 st f.match' regs2 u2 rooms.0 g.kept g.match' g.still in
      next (v ∷ vs) regs2 u2 (record {
        budget = g.budget;
        match' = g.match';
        kept = kept_on C r r1 regs regs1 regs2 up f.kept g.kept;
        still = λ hq. g.still (both_second (is_quiet a) (are_quiet more) hq) ∙ f.still (both_first (is_quiet a) (are_quiet more) hq);
        here = ap (λ z. z ∷ map (reg_of regs2) (passed more r1)) ev' ∙ ap (λ zs. v ∷ zs) g.here;
      }) (wider (told a) (width_of x.ty) v (no_loss (told a) (width_of x.ty) fill.0) (wider (width_in a) (told a) v (told_in C.p C.kinds a keeps.0) f.lies), suit))))

  back_match : (regs : List ℤ) (t u : e.State) → Back t u → Match C regs t → Match C regs u
  back_match regs t u b h = record {
    slots = ap length b.slots ∙ h.slots;
    room = h.room;
    same = λ x lt. h.same x lt ∙ ap (λ s. slice_index_or s x (pos 0)) (sym b.slots);
    lies = λ x lt. subst (λ s. Lies (width_of (kind_of C x)) (slice_index_or s x (pos 0))) (sym b.slots) (h.lies x lt);
    top = b.top ∙ h.top ∙ ap (λ x. x + C.F.frame) (sym b.base);
    aligned = ap (λ x. x % 16) b.base ∙ h.aligned;
    above = let e1 = b.base in let e2 = h.above in omega (arith, e1, e2);
    depth = b.depth ∙ h.depth;
  }

  pub call_lowers : (ty : ValueType) (g : ℕ) (G : Function) (all : Exps) → slice_get C.p.functions g ≡ Some G → ty ≡ G.result → AllLower all → KeepsExps C.p C.kinds all → Fill C.p C.kinds all G.params → Lowers C (t.call ty g all)
  call_lowers ty g G all eg et lower keeps fill = plain_lowers C (t.call ty g all) refl refl (λ s to r le.
      let A = low_all C.p all s r in
      let K : Code = calls s to g (passed all r) in
      plain_gives C (both A K) to r (are_quiet all) (width_of ty) (ev C (t.call ty g all) s) refl (λ lp n o rest h d dc k regs t q mt next.
      let o1 = goes A false o in
      let out = label_of n (suc o1.label) in
      let h2 = second_has C A K lp n o rest h in
      let room : up_to_all (passed all r) (registers rest C.free) ≤ C.F.regs = let e1 = h2.room in let e2 = up_least to (up_to_all (passed all r) (registers rest C.free)) in omega (arith, e1, e2) in
      both_follows C A K lp n o rest regs t _
      (args_follow all G.params lower keeps fill s r le lp o (items K lp n o1 ++ rest) (first_has C A K lp n o rest h) (all_rooms (passed all r) (registers rest C.free) C.F.regs room) d dc _ regs t q mt (λ vs regs1 u f suit.
      let M = f.match' in
      let js = Close s (Call to g (passed all r) out) ∷ rest in
      let top16 : u.top % 16 ≡ 0 = let e1 = M.top in let e2 = M.aligned in let e3 = C.rounded in omega (arith, e1, e2, e3) in
      let above : 4096 ≤ u.top = let e1 = M.top in let e2 = M.above in omega (arith, e1, e2) in
      subst (λ at. Follows C o1 js regs1 u (C.call at g vs k u)) (sym (C.stands s))
      (C.known.by C.f o1.label (with_before C.n C.last h2.stands.before js) to g G eg (passed all r) out vs regs1 C.waiting d dc k u f.budget
      (ap (λ F. block_of F o1.label) C.there ∙ found C.n C.last C.F.blocks o1 js h2.stands) refl f.here suit M.depth (M.top ∙ ap (λ F. u.base + frame_of F) (sym C.there)) top16 above
      (λ v u' qu b lies.
      begins_behind C n (fresh o1) rest (set_in regs1 to v) u' (k v u') refl (close_has C o1 s (Call to g (passed all r) out) rest h2)
      (next v regs1 u' (record { budget = qu; match' = back_match regs1 u u' b M; kept = f.kept; still = λ hq. b.slots ∙ f.still hq; lies = subst (λ ty. Lies (width_of ty) v) (sym et) lies }))))))))

  -- ---- effects

  effects_follow : (all : Exps) → AllLower all → (s r : ℕ) → C.free ≤ r → (lp : Loop) (o : Open) (rest : List Item) → Has C o (items (effects C.p all s r) lp onward o ++ rest)
      → (d : ℕ) → d ≤ C.c → (k : List ℤ → Step) (regs : List ℤ) (t : e.State) → t.budget ≤ d → Match C regs t
      → ((vs regs' : List ℤ) (u : e.State) → Later C r (are_quiet all) d regs t regs' u → Follows C (goes (effects C.p all s r) false o) rest regs' u (k vs u))
      → Follows C o (items (effects C.p all s r) lp onward o ++ rest) regs t (evals C.p C.call C.m all (typed.place_of C.p s) k t)
  effects_follow t.no_exp lower s r le lp o rest h d dc k regs u q mt next = next [] regs u (record { budget = q; match' = mt; kept = kept_all C r regs; still = λ _. refl })
  effects_follow (t.an_exp a t.no_exp) lower s r le lp o rest h d dc k regs u q mt next =
      (lower.0.gives s None r le).by lp onward o rest h d dc (λ v. k (v ∷ [])) regs u q mt (λ v regs1 u f.
      next (v ∷ []) regs1 u (record { budget = f.budget; match' = f.match'; kept = f.kept; still = λ hq. f.still (both_first (is_quiet a) true hq) }))
  effects_follow (t.an_exp a (t.an_exp b more)) lower s r le lp o rest h d dc k regs u q mt next =
      let A = low C.p a s None r in
      let B = effects C.p (t.an_exp b more) s r in
      let qb = are_quiet (t.an_exp b more) in
      both_follows C A B lp onward o rest regs u _
      ((lower.0.gives s None r le).by lp onward o (items B lp onward (goes A false o) ++ rest) (first_has C A B lp onward o rest h) d dc (λ v. evals C.p C.call C.m (t.an_exp b more) (typed.place_of C.p s) (λ vs. k (v ∷ vs))) regs u q mt (λ v regs1 u1 f.
      effects_follow (t.an_exp b more) lower.1 s r le lp (goes A false o) rest (second_has C A B lp onward o rest h) d dc (λ vs. k (v ∷ vs)) regs1 u1 f.budget f.match' (λ vs regs2 u2 g.
      next (v ∷ vs) regs2 u2 (record {
        budget = g.budget;
        match' = g.match';
        kept = kept_on C r r regs regs1 regs2 (omega arith) f.kept g.kept;
        still = λ hq. g.still (both_second (is_quiet a) qb hq) ∙ f.still (both_first (is_quiet a) qb hq);
      }))))

  pub comma_lowers : (all : Exps) (a : Exp) → AllLower all → Lowers C a → Lowers C (t.comma all a)
  comma_lowers all a lower la = plain_lowers C (t.comma all a) refl refl (λ s to r le.
      let E = effects C.p all s r in
      let A = low C.p a s to r in
      plain_gives C (both E A) to r (are_quiet all && is_quiet a) (width_in a) (ev C (t.comma all a) s) refl (λ lp n o rest h d dc k regs t q mt next.
      both_follows C E A lp n o rest regs t _
      (effects_follow all lower s r le lp o (items A lp n (goes E false o) ++ rest) (first_has C E A lp n o rest h) d dc (λ _. ev C a s k) regs t q mt (λ vs regs1 u1 f.
      (la.gives s to r le).by lp n (goes E false o) rest (second_has C E A lp n o rest h) d dc k regs1 u1 f.budget f.match' (λ v regs2 u2 g.
      next v regs2 u2 (after_later C r (are_quiet all) (is_quiet a) (width_in a) d regs regs1 regs2 t u1 u2 v f g))))))
