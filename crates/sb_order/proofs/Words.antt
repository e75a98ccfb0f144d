-- A word does what its operations do one after the other.
use Rattle.std.proofs.Common.{◌≡◌, ℕ, ◌≤◌, Bool, true, false, ◌&&◌, List, [], ◌∷◌, ◌++◌, map, Some, if◌then◌else◌, ℤ, refl, sym, ◌∙◌, subst}
use Rattle.wide_core.specs.declared.code.Loc.TheVariants.{Reg}
use Rattle.wide_core.specs.declared.code.WideAct.{WideAct}
use Rattle.wide_core.specs.declared.code.WideAct.TheVariants.{Jump, Branch, BranchZero, Call}
use Rattle.wide_core.specs.declared.code.WideOp.{WideOp}
use Rattle.wide_core.specs.Classes.{is_register, can_go, is_control}
use Rattle.wide_core.specs.Operation.{sources, Exit, Effect, Nothing, Write, Save, Take, Print, Go, Leave, Stop}
use Rattle.wide_core.specs.Word.{Flow, Outcome, Through, Gone, Left, apply, acts, effects}
use Rattle.wide_core.specs.Uses.{reads, in_list, written}
use Rattle.wide_core.specs.Flat.{around, one_effect, goes_on, flat, run_words, at_exit, at_exits}
use Rattle.wide_core.specs.Every.{Every, Nil, Cons}
use Rattle.wide_core.specs.Accesses.{Known, learn, base_in}
use Rattle.sb_order.specs.Edges.{Item, apart, is_member}
use Rattle.sb_order.specs.Order.{IsOperation}
use Rattle.sb_order.proofs.Closed.{both}
use Rattle.wide_laws.proofs.Suits.{Suits, AsGo, AsLeave, written_on}
use Rattle.sb_order.proofs.Holds.{Holds, learned, suits, put_other, writes_written}
use Rattle.sb_order.proofs.Neighbours.{Both, stays, Stored, stored_on, not_true, exits, spared_other}
use Rattle.sb_order.proofs.Swap.{SameWorld, world_refl, Like, LikeThrough, LikeGone, LikeLeft, LikeStopped, like_refl}
use Rattle.sb_order.proofs.Reorder.{Truthful, Speak, base_other}
use Rattle.sb_order.proofs.Cut.{ends_control}

-- a stands before b in one word
pub record Beside (heads : ℕ → ℕ → Bool) (one : Bool) (a b : Item) : Type 0 where
  pub misses : (r : ℕ) → written a.op.act ≡ Some r → in_list r (reads b.op.act) ≡ false
  pub store_load : apart a b ≡ true
  pub control : one ≡ true → is_control a.op.act ≡ true → is_member b ≡ false
  pub spared : one ≡ true → (r : ℕ) → written b.op.act ≡ Some r → at_exits heads a.op.act r ≡ false

pub data IsWord (heads : ℕ → ℕ → Bool) (one : Bool) : List Item → Type 0 where
  EmptyWord : IsWord heads one []
  LongerWord : (a : Item) (bs : List Item) → Every (Beside heads one a) bs → IsWord heads one bs → IsWord heads one (a ∷ bs)

pub data AllWords (heads : ℕ → ℕ → Bool) (one : Bool) : List (List Item) → Type 0 where
  NoWords : AllWords heads one []
  MoreWords : (w : List Item) (ws : List (List Item)) → IsWord heads one w → AllWords heads one ws → AllWords heads one (w ∷ ws)

abbrev pub ops_of : List Item → List WideOp
ops_of is = map (λ (i : Item). i.op) is

abbrev pub all_of : List (List Item) → List Item
all_of [] = []
all_of (w ∷ ws) = w ++ all_of ws

abbrev pub words_ops : List (List Item) → List (List WideOp)
words_ops [] = []
words_ops (w ∷ ws) = ops_of w ∷ words_ops ws

go_control : (act : WideAct) → can_go act ≡ true → is_control act ≡ true
go_control (Jump w) e = refl
go_control (Branch a w) e = refl
go_control (BranchZero a w) e = refl
go_control (Call result func next args) e = refl
go_control act e = cc

go_is : (heads : ℕ → ℕ → Bool) (act : WideAct) (x : Exit) → Suits heads act (Go x) → is_control act ≡ true
go_is heads act x (AsGo x2 w can g) = go_control act can

leave_is : (heads : ℕ → ℕ → Bool) (act : WideAct) (z : ℤ) → Suits heads act (Leave z) → is_control act ≡ true
leave_is heads act z (AsLeave z2 w e) = ends_control act e

pub truth_is : {k : Known} {i : Item} {is : List Item} → Truthful k (i ∷ is) → IsOperation i.op × (i.base ≡ base_in k (reads i.op.act))
truth_is (Speak k i is w e t) = (w, e)

pub truth_rest : {k : Known} {i : Item} {is : List Item} → Truthful k (i ∷ is) → Truthful (learn i.op k) is
truth_rest (Speak k i is w e t) = t

module _ (heads : ℕ → ℕ → Bool) (base : ℕ) (low : base ≤ 1048576) (room : ℕ → Bool) (one : Bool) where
  -- what is known of all items of a word is known before it
  pub record Claims (k : Known) (i : Item) : Type 0 where
    pub operation : IsOperation i.op
    pub base_is : i.base ≡ base_in k (reads i.op.act)

  pub claims_past : {k : Known} {a : Item} {bs : List Item} → Every (Beside heads one a) bs → Every (Claims (learn a.op k)) bs → Every (Claims k) bs
  claims_past Nil Nil = Nil
  claims_past {k} {a} (Cons b bs h hs) (Cons _ _ c cs) =
      Cons b bs (record { operation = c.operation; base_is = c.base_is ∙ base_other a.op k (reads b.op.act) h.misses }) (claims_past hs cs)

  pub claims_word : {w : List Item} (rest : List Item) → IsWord heads one w → (k : Known) → Truthful k (w ++ rest) → Every (Claims k) w
  claims_word rest EmptyWord k t = Nil
  claims_word rest (LongerWord a bs h hs) k t =
      let c = truth_is t in Cons a bs (record { operation = c.0; base_is = c.1 }) (claims_past h (claims_word rest hs (learn a.op k) (truth_rest t)))

  -- the item's effect read before the word is what it is in its turn
  record Agrees (s0 s : Flow) (i : Item) : Type 0 where
    is : one_effect base room i.op s0 ≡ one_effect base room i.op s

  agree_refl : (s : Flow) (w : List Item) → Every (Agrees s s) w
  agree_refl s [] = Nil
  agree_refl s (a ∷ w) = Cons a w (record { is = refl }) (agree_refl s w)

  agree_past : {k : Known} {a : Item} {bs : List Item} (s0 s : Flow) (e : Effect) → Suits heads a.op.act e → Stored a.op.act (map s.places (sources a.op.act)) e → Holds base k s → Claims k a → Every (Beside heads one a) bs → Every (Claims k) bs → Every (Agrees s0 s) bs → Every (Agrees s0 (apply e s)) bs
  agree_past s0 s e u st h c Nil Nil Nil = Nil
  agree_past {k} {a} s0 s e u st h c (Cons b bs g gs) (Cons _ _ d ds) (Cons _ _ p ps) =
      let bo : Both heads base low room k a b = record { first = c.operation; second = d.operation; first_base = c.base_is; second_base = d.base_is } in
      Cons b bs (record { is = p.is ∙ sym (stays heads base low room a b s k bo h g.misses g.store_load e u st) }) (agree_past s0 s e u st h c gs ds ps)

  first_agrees : {s0 s : Flow} {a : Item} {bs : List Item} → Every (Agrees s0 s) (a ∷ bs) → one_effect base room a.op s0 ≡ one_effect base room a.op s
  first_agrees (Cons a bs p ps) = p.is

  rest_agrees : {s0 s : Flow} {a : Item} {bs : List Item} → Every (Agrees s0 s) (a ∷ bs) → Every (Agrees s0 s) bs
  rest_agrees (Cons a bs p ps) = ps

  abbrev Effects : Flow → List Item → List Effect
  Effects s0 w = effects (around base room s0) s0.places (ops_of w)

  -- what stands behind a control operation that leaves changes no register that is live there
  go_after : {a : Item} {bs : List Item} (x : Exit) (s0 t s : Flow) → one ≡ true → Every (Beside heads one a) bs → Suits heads a.op.act (Go x) → SameWorld t s → ((r : ℕ) → at_exit heads x r ≡ true → t.places (Reg r) ≡ s.places (Reg r)) → Like heads (acts one (Effects s0 bs) (λ y. Gone x y) t) (Gone x s)
  go_after x s0 t s o Nil u e l = LikeGone x t s e l
  go_after {a} x s0 t s o (Cons b bs g gs) u e l =
      let m = g.control o (go_is heads a.op.act x u) in
      let fr = both b.op.flagged (is_register b.op.act) (not_true heads base low room (b.op.flagged && is_register b.op.act) m) in
      let w = written_on b.op (around base room s0) (map s0.places (sources b.op.act)) fr.0 fr.1 in
      subst (λ y. Like heads (acts one (y ∷ Effects s0 bs) (λ z. Gone x z) t) (Gone x s)) (sym w.is)
      (go_after x s0 (apply (Write (Reg w.d) w.v) t) s o gs u (record { memory = e.memory; left = e.left; out = e.out })
      (λ r h. put_other w.d r w.v t.places (spared_other heads base low room (at_exits heads a.op.act) w.d r (g.spared o w.d (writes_written b.op.act w.d w.to)) (exits heads base low room a.op.act x u r h)) ∙ l r h))

  leave_after : {a : Item} {bs : List Item} (z : ℤ) (s0 t s : Flow) → one ≡ true → Every (Beside heads one a) bs → is_control a.op.act ≡ true → SameWorld t s → Like heads (acts one (Effects s0 bs) (λ y. Left z y) t) (Left z s)
  leave_after z s0 t s o Nil c e = LikeLeft z t s e
  leave_after {a} z s0 t s o (Cons b bs g gs) c e =
      let fr = both b.op.flagged (is_register b.op.act) (not_true heads base low room (b.op.flagged && is_register b.op.act) (g.control o c)) in
      let w = written_on b.op (around base room s0) (map s0.places (sources b.op.act)) fr.0 fr.1 in
      subst (λ y. Like heads (acts one (y ∷ Effects s0 bs) (λ x. Left z x) t) (Left z s)) (sym w.is)
      (leave_after z s0 (apply (Write (Reg w.d) w.v) t) s o gs c (record { memory = e.memory; left = e.left; out = e.out }))

  version : (b : Bool) {x y z : Outcome} → one ≡ b → (one ≡ true → Like heads x z) → Like heads y z → Like heads (if b then x else y) z
  version true e h g = h e
  version false e h g = g

  abbrev pub learn_all : List Item → Known → Known
  learn_all [] k = k
  learn_all (a ∷ w) k = learn_all w (learn a.op k)

  first_acts : (a : Item) (bs rest : List Item) (s0 s : Flow) (next : Flow → Outcome) → Every (Beside heads one a) bs → (e : Effect) → Suits heads a.op.act e → Like heads (acts one (Effects s0 bs) next (apply e s)) (flat base room (ops_of (bs ++ rest)) (apply e s)) → Like heads (acts one (e ∷ Effects s0 bs) next s) (goes_on base room e (flat base room (ops_of (bs ++ rest))) s)
  first_acts a bs rest s0 s next g (Stop n k) u more = LikeStopped n k s s (world_refl s)
  first_acts a bs rest s0 s next g (Go x) u more = version one refl (λ o. go_after x s0 s s o g u (world_refl s) (λ r l. refl)) (like_refl heads base room (Gone x s))
  first_acts a bs rest s0 s next g (Leave z) u more = version one refl (λ o. leave_after z s0 s s o g (leave_is heads a.op.act z u) (world_refl s)) (like_refl heads base room (Left z s))
  first_acts a bs rest s0 s next g Nothing u more = more
  first_acts a bs rest s0 s next g (Write r v) u more = more
  first_acts a bs rest s0 s next g (Save w x z) u more = more
  first_acts a bs rest s0 s next g (Take r) u more = more
  first_acts a bs rest s0 s next g (Print z) u more = more

  word_runs : {w : List Item} (rest : List Item) (k : Known) (s0 s : Flow) (next : Flow → Outcome) → IsWord heads one w → Truthful k (w ++ rest) → Holds base k s → Every (Agrees s0 s) w → ((t : Flow) → Holds base (learn_all w k) t → Like heads (next t) (flat base room (ops_of rest) t)) → Like heads (acts one (Effects s0 w) next s) (flat base room (ops_of (w ++ rest)) s)
  word_runs rest k s0 s next EmptyWord t h ag more = more s h
  word_runs rest k s0 s next (LongerWord a bs g gs) t h ag more =
      let c = truth_is t in
      let e = one_effect base room a.op s in
      let u = suits heads base room a.op s c.0 in
      let st = stored_on (map s.places (sources a.op.act)) a.op (around base room s) in
      let cs = claims_past g (claims_word rest gs (learn a.op k) (truth_rest t)) in
      let after = agree_past s0 s e u st h (record { operation = c.0; base_is = c.1 }) g cs (rest_agrees ag) in
      subst (λ x. Like heads (acts one (x ∷ Effects s0 bs) next s) (flat base room (ops_of (a ∷ (bs ++ rest))) s)) (sym (first_agrees ag))
      (first_acts a bs rest s0 s next g e u (word_runs rest (learn a.op k) s0 (apply e s) next gs (truth_rest t) (learned heads base room a.op s k c.0 h) after more))

  pub truth_all : (w rest : List Item) (k : Known) → Truthful k (w ++ rest) → Truthful (learn_all w k) rest
  truth_all [] rest k t = t
  truth_all (a ∷ w) rest k t = truth_all w rest (learn a.op k) (truth_rest t)

  -- words do what their operations do one after the other
  pub words_run : {ws : List (List Item)} (k : Known) (s : Flow) → AllWords heads one ws → Truthful k (all_of ws) → Holds base k s → Like heads (run_words base room one (words_ops ws) (λ t. Through t) s) (flat base room (ops_of (all_of ws)) s)
  words_run k s NoWords t h = LikeThrough s
  words_run k s (MoreWords w ws g gs) t h =
      word_runs (all_of ws) k s s (run_words base room one (words_ops ws) (λ t. Through t)) g t h (agree_refl s w) (λ x hx. words_run (learn_all w k) x gs (truth_all w (all_of ws) k t) hx)
