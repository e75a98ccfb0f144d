-- A typed program and what it is lowered to mean the same.
use Rattle.std.proofs.Common.{◌≡◌, ℕ, zero, suc, ◌+◌, ◌<◌, ◌≤◌, ◌%◌, ℤ, pos, List, [], ◌∷◌, ◌++◌, length, map, true, false, ◌||◌, refl, sym, ap, ◌∙◌, subst, arith, Option, Some, None}
use Rattle.std.specs.Prelude.{slice_get, replicate, codes, bytes_eq, if◌then◌else◌, MatchOption}
use Rattle.std.proofs.lemmas.List.{append-nil}
use Rattle.std.proofs.lemmas.Option.{slice_get_within, get_or_from_slice_get}
use Rattle.ib_base.specs.declared.integers.Width.TheVariants.{W4}
use Rattle.ib_base.specs.Integers.{wrapped}
use Rattle.ib_mem.specs.Memory.{cleared}
use Rattle.ib_meaning.specs.declared.place.Place.{Place}
use Rattle.ib_meaning.specs.Agreement.{Agrees, Keeps, Report, More, Over, Returned}
use Rattle.ib_meaning.specs.Machine as m
use Rattle.ib_meaning.proofs.Agreement.{agree_by_ahead}
use Rattle.c_meaning.specs.Doing as e
use Rattle.c_meaning.specs.Doing.{Step, Doing}
use Rattle.c_meaning.specs.Meaning as me
use Rattle.c_meaning.specs.Meaning.{Exits, execs, calls, entered, body_exits, slots_passed, source_meaning, run_main, ends}
use Rattle.c_typed.specs.Tree as t
use Rattle.c_typed.specs.Tree.{Exp, Stm, Stms, Function}
use Rattle.c_typed.specs.Program as typed
use Rattle.c_typed.specs.Values.{width_of}
use Rattle.tac_core.specs.declared.code.End.TheVariants.{Ret}
use Rattle.tac_core.specs.declared.code.TacFunc.{TacFunc}
use Rattle.tac_core.specs.Program as code
use Rattle.tac_core.specs.Meaning as tac
use Rattle.tac_core.specs.Meaning.{Waiting, tac_step, tac_meaning, set_all, do_return, first_regs}
use Rattle.tac_core.proofs.Steady.{tac_steady}
use Rattle.tac_lowered.specs.Bytes.{AreBytes, as_bytes, of_bytes}
use Rattle.tac_lowered.specs.Code.{Code}
use Rattle.tac_lowered.specs.Items.{Open, goes, onward, Loop, items}
use Rattle.tac_lowered.specs.Statements.{goes_on, go_on, low_stms}
use Rattle.tac_lowered.specs.Lowered.{params_in, nowhere, all_stored, free_in, body_of, items_of, lowered_function, lowered}
use Rattle.c_kept.specs.Kept.{KeepsStm, KeepsStms, KeepsFunction, KeepsProgram}
use Rattle.tac_lowered.proofs.Geometry.{whole, at_least}
use Rattle.tac_lowered.proofs.Relation.{IsMore, Reaches, Spot, Lies, Suit, Called, Match, Has, code_has, enters, ended, ended_last}
use Rattle.tac_lowered.proofs.Gives.{first_has, second_has, both_follows}
use Rattle.tac_lowered.proofs.Bytes.{bytes_are}
use Rattle.tac_lowered.proofs.Lowering.{lowers}
use Rattle.tac_lowered.proofs.Statements.{execs_do, zero_lies}
use Rattle.tac_lowered.proofs.Calls.{Bodies, called_more}
use Rattle.tac_lowered.proofs.Entry.{params_behind, Agreeing, passed_agree, first_agree, set_all_long, zeros_long, map_get, place_kept}
use Rattle.tac_lowered.proofs.Prologue.{Arrived, arrives, stores_all}

ff : false ≡ true → ⊥
ff h = cc

-- outside of loops nothing continues
mutual
  stays : (p : typed.Program) (kinds : List _) (result : _) (b : Stm) → KeepsStm p kinds result false b → goes_on b ≡ false
  stays p kinds result (t.block all) h = stay p kinds result all h
  stays p kinds result (t.empty s) h = refl
  stays p kinds result (t.expression s a) h = refl
  stays p kinds result (t.if_then s a b) h = stays p kinds result b h.1
  stays p kinds result (t.if_else s a b c) h = ap (λ z. z || goes_on c) (stays p kinds result b h.1) ∙ stays p kinds result c h.2
  stays p kinds result (t.while_loop s a b) h = refl
  stays p kinds result (t.do_while s b a) h = refl
  stays p kinds result (t.for_loop s all a c b) h = refl
  stays p kinds result (t.break s) h = refl
  stays p kinds result (t.continue s) h = absurd (ff h)
  stays p kinds result (t.return s a) h = refl
  stays p kinds result (t.local s all) h = refl

  stay : (p : typed.Program) (kinds : List _) (result : _) (all : Stms) → KeepsStms p kinds result false all → go_on all ≡ false
  stay p kinds result t.no_stm h = refl
  stay p kinds result (t.a_stm a rest) h = ap (λ z. z || go_on rest) (stays p kinds result a h.0) ∙ stay p kinds result rest h.1

module _ (p : typed.Program) (sound : KeepsProgram p) where
  abbrev pub funcs : List TacFunc
  funcs = map (lowered_function p) p.functions

  abbrev pub places : List Place
  places = p.places ++ record { line = 1; col = 1 } ∷ []

  keeps : (g : ℕ) (G : Function) → slice_get p.functions g ≡ Some G → KeepsFunction p G
  keeps g G eg = subst (λ G. KeepsFunction p G) (get_or_from_slice_get p.functions g G G eg) (sound.functions g G (slice_get_within p.functions g G eg))

  there : (g : ℕ) (G : Function) → slice_get p.functions g ≡ Some G → slice_get funcs g ≡ Some (lowered_function p G)
  there g G eg = map_get (lowered_function p) p.functions g G eg

  -- a function that is entered, below so many turns and calls
  module _ (n : ℕ) (known : (c : ℕ) → c < n → Called p funcs places c (calls p n)) (g : ℕ) (G : Function) (eg : slice_get p.functions g ≡ Some G) (d : ℕ) (dn : d < n) (waiting : List Waiting) where
    abbrev K : KeepsFunction p G
    K = keeps g G eg

    abbrev F : TacFunc
    F = lowered_function p G

    abbrev spot : Spot
    spot = record {
      funcs = funcs;
      places = places;
      f = g;
      F = F;
      there = there g G eg;
      n = nowhere p;
      last = Ret None;
      kinds = K.kinds;
      free = free_in p G;
      enough = let e1 = K.many in let e2 = params_behind G.params G.slots in omega (arith, e1, e2);
      waiting = waiting;
      p = p;
      call = calls p n;
      m = n;
      c = d;
      small = dn;
      known = known d dn;
      result = G.result;
      rounded = K.rounded;
      stands = λ s. place_kept p.places s (record { line = 1; col = 1 });
    }

    abbrev lp : Loop
    lp = record { on_break = 0; on_continue = 0 }

    abbrev first : Open
    first = record { label = 0; count = 0 }

    slots_in : G.slots ≤ F.regs
    slots_in = let e1 = at_least (items_of p G) (free_in p G) in let e2 = params_behind G.params G.slots in omega (arith, e1, e2)

    has : Has spot first (items (body_of p G) lp onward first ++ [])
    has = subst (λ is. Has spot first is) (sym (append-nil (items_of p G))) (record { stands = whole (nowhere p) (Ret None) (items_of p G); room = omega arith })

    pub enters_body : (vs : List ℤ) → Suit G.params vs → (k : ℤ → Step) (s : e.State) → s.budget ≤ d → s.depth ≡ length waiting → s.top % 16 ≡ 0 → 4096 ≤ s.top → s.top + G.frame ≤ 1048576
        → ((v : ℤ) (u : e.State) (S : tac.State) → u.budget ≤ d → Lies (width_of G.result) v → tac_step funcs places S u.left ≡ do_return funcs v waiting u.memory u.left → Reaches funcs places S u (k v u))
        → Reaches funcs places (tac.call funcs g s.top vs waiting s.memory) s (execs p (calls p n) n G.body (body_exits k) (entered G vs s))
    enters_body vs suit k s q depth rounded above small back =
        let a = enters spot first (items (body_of p G) lp onward first ++ []) regs0 t0 rep refl has
        (both_follows spot P B lp onward first [] regs0 t0 rep
        (stores_all spot G.frame G.params vs G.slots (free_in p G) K.params suit (omega (arith, K.many)) (omega arith) lp first (items B lp onward (goes P false first) ++ []) (first_has spot P B lp onward first [] has) regs0 t0 rep match0 arrived small
        (λ regs1 m1. (execs_do spot (lowers spot sound) G.body false K.body).by lp onward (goes P false first) [] (second_has spot P B lp onward first [] has) d (omega arith) (body_exits k) (record {
          next = λ regs2 u q2 m2. back (pos 0) u _ q2 (zero_lies (width_of G.result)) (ended_last spot (goes B false (goes P false first)) regs2 u last_has);
          on_break = λ h. absurd (ff h);
          on_continue = λ h. absurd (ff (sym (stay p K.kinds G.result G.body K.body) ∙ h));
          on_return = λ v st o is r regs2 u here q2 m2 e lies. back v u _ q2 lies (ended spot o st (Ret r) is regs2 u here ∙ ap (λ v. do_return funcs v waiting u.memory u.left) e);
        }) regs1 (entered G vs s) q m1))) in
        subst (λ S. Reaches funcs places S s rep) (sym starts) (record { by = a.by })
      where
        rep : Report
        rep = execs p (calls p n) n G.body (body_exits k) (entered G vs s)

        P : Code
        P = all_stored p G.params G.slots (free_in p G)

        B : Code
        B = low_stms p G.body (free_in p G)

        regs0 : List ℤ
        regs0 = set_all (replicate F.regs (pos 0)) (params_in G.params G.slots) vs

        t0 : e.State
        t0 = record (entered G vs s) { memory = cleared s.memory s.top G.frame }

        starts : tac.call funcs g s.top vs waiting s.memory ≡ tac.go funcs g 0 s.top regs0 waiting (cleared s.memory s.top G.frame)
        starts = ap (λ o. tac.go funcs g 0 s.top (first_regs o vs) waiting (cleared s.memory s.top (tac.frame_of o))) (there g G eg)

        agreeing : Agreeing K.kinds regs0 (slots_passed G.params vs (replicate G.slots (pos 0)))
        agreeing = passed_agree K.kinds G.frame G.params vs G.slots (replicate F.regs (pos 0)) (replicate G.slots (pos 0)) (omega (arith, K.many)) K.params suit (first_agree K.kinds F.regs G.slots (sym K.many) slots_in)

        match0 : Match spot regs0 t0
        match0 = record {
          slots = agreeing.long;
          room = set_all_long (replicate F.regs (pos 0)) (params_in G.params G.slots) vs ∙ zeros_long F.regs;
          same = agreeing.same;
          lies = agreeing.lies;
          top = refl;
          aligned = rounded;
          above = above;
          depth = ap suc depth;
        }

        arrived : Arrived G.params vs G.slots regs0
        arrived = arrives K.kinds G.frame G.params vs G.slots (replicate F.regs (pos 0)) K.params (omega (arith, K.many)) (let e1 = zeros_long F.regs in let e2 = at_least (items_of p G) (free_in p G) in omega (arith, e1, e2))

        last_has : Has spot (goes B false (goes P false first)) []
        last_has = code_has spot (body_of p G) lp onward first [] has

  pub bodies : (n : ℕ) → ((c : ℕ) → c < n → Called p funcs places c (calls p n)) → Bodies p funcs places n
  bodies n known = record { by = λ g G eg vs suit d dn k waiting s q depth rounded above small back. enters_body n known g G eg d dn waiting vs suit k s q depth rounded above small back }

  pub all_called : (n c : ℕ) → c < n → Called p funcs places c (calls p n)
  all_called zero c lt = let z : ⊥ = omega arith in absurd z
  all_called (suc n) c lt = called_more p funcs places (λ g G eg. ap tac.frame_of (there g G eg)) n (bodies n (all_called n)) c lt

  -- ---- programs

  main_same : (fs : List Function) → typed.main_in (map (λ f. f.name) fs) ≡ code.main_in (map (λ f. f.name) (map (lowered_function p) fs))
  main_same [] = refl
  main_same (f ∷ fs) = ap (λ z. if bytes_eq (codes "main") f.name then 0 else suc z) (main_same fs)

  main_there : (f : Function) × (slice_get p.functions (typed.main_of p) ≡ Some f) × (f.params ≡ [])
  main_there = go (slice_get p.functions (typed.main_of p)) refl sound.main
    where
      go : (o : Option Function) → slice_get p.functions (typed.main_of p) ≡ o → MatchOption o ⊥ (λ f. f.params ≡ []) → (f : Function) × (slice_get p.functions (typed.main_of p) ≡ Some f) × (f.params ≡ [])
      go None e h = absurd h
      go (Some f) e h = (f, e, h)

  -- from the start of `main`
  main_reaches : (input : List ℕ) (budget : ℕ) → Reaches funcs places (tac.call funcs (typed.main_of p) (typed.first_frame p) [] [] (me.first_memory p.image)) (me.start p input budget) (source_meaning p input budget)
  unfolding source_meaning
  main_reaches input budget =
      let f = main_there.0 in
      let K = keeps (typed.main_of p) f main_there.1 in
      let suit : Suit f.params [] = subst (λ qs. Suit qs []) (sym main_there.2) tt in
      let small : typed.first_frame p + f.frame ≤ 1048576 = let e1 = sound.image in let e2 = K.small in omega (arith, e1, e2) in
      let a = (bodies (suc budget) (all_called (suc budget))).by (typed.main_of p) f main_there.1 [] suit budget (omega arith) ends [] (me.start p input budget) (omega arith) refl (omega arith) (omega arith) small
      (λ v u S q lies step. record { by = λ bytes. (1, ap (λ z. m.continue (m.run (tac_step funcs places) 0) z u.out) step ∙ ap (λ out. Over (Returned (wrapped W4 v)) out u.left) (append-nil u.out), λ h. absurd h) }) in
      subst (λ o. Reaches funcs places (tac.call funcs (typed.main_of p) (typed.first_frame p) [] [] (me.first_memory p.image)) (me.start p input budget) (run_main p (suc budget) o (me.start p input budget))) (sym main_there.1) a

  memory_same : (image : List ℕ) → me.first_memory image ≡ tac.first_memory image
  unfolding me.first_memory tac.first_memory
  memory_same image = refl

  runs_as : (input : List ℕ) (j : ℕ) → tac_meaning (lowered p) input j ≡ m.run (tac_step funcs places) j (tac.call funcs (typed.main_of p) (typed.first_frame p) [] [] (me.first_memory p.image)) input []
  unfolding tac_meaning
  runs_as input j =
      ap (λ g. m.run (tac_step funcs places) j (tac.call funcs g (typed.first_frame p) [] [] (tac.first_memory p.image)) input []) (sym (main_same p.functions))
      ∙ ap (λ z. m.run (tac_step funcs places) j (tac.call funcs (typed.main_of p) (typed.first_frame p) [] [] z) input []) (sym (memory_same p.image))

  ahead : (input : List ℕ) → AreBytes input → (n : ℕ) → (j : ℕ) × (n ≤ j) × (source_meaning p input n ≡ tac_meaning (lowered p) input j)
  ahead input bytes n = go (source_meaning p input n) refl
    where
      r : (j : ℕ) × (m.run (tac_step funcs places) j (tac.call funcs (typed.main_of p) (typed.first_frame p) [] [] (me.first_memory p.image)) input [] ≡ source_meaning p input n) × (IsMore (source_meaning p input n) → n ≤ j)
      r = (main_reaches input n).by bytes

      same : tac_meaning (lowered p) input r.0 ≡ source_meaning p input n
      same = runs_as input r.0 ∙ r.1

      go : (rep : Report) → source_meaning p input n ≡ rep → (j : ℕ) × (n ≤ j) × (source_meaning p input n ≡ tac_meaning (lowered p) input j)
      go (More out left) e = (r.0, r.2 (subst (λ z. IsMore z) (sym e) tt), sym same)
      go (Over finish out left) e =
          let le : r.0 ≤ r.0 + n = omega arith in
          let k = (tac_steady (lowered p)).later input r.0 (r.0 + n) le in
          let k1 = subst (λ z. Keeps z (tac_meaning (lowered p) input (r.0 + n))) (same ∙ e) k in
          (r.0 + n, omega arith, e ∙ sym k1)

  -- the two meanings agree on every input of bytes, in all four parts
  pub lowered_agrees : Agrees (of_bytes (source_meaning p)) (of_bytes (tac_meaning (lowered p)))
  lowered_agrees =
      agree_by_ahead (of_bytes (source_meaning p)) (of_bytes (tac_meaning (lowered p))) (record { later = λ input n m le. (tac_steady (lowered p)).later (as_bytes input) n m le })
      (λ input n. ahead (as_bytes input) (bytes_are input) n)
