-- Superblocks do what the copied program does.
use Rattle.std.proofs.Common.{◌≡◌, ℕ, zero, suc, ◌+◌, ◌<◌, ◌≤◌, ◌⊎◌, inl, inr, Bool, true, false, not, List, [], ◌∷◌, ◌++◌, length, Option, Some, None, Ok, Err, ℤ, pos, negsuc, map, refl, sym, ap, ap₂, ◌∙◌, subst, ⊎_elim, arith, if◌then◌else◌}
use Rattle.std.specs.Prelude.{slice_get, replicate, MatchOption}
use Rattle.std.proofs.lemmas.Bool.Decides.{eqb_tells}
use Rattle.std.proofs.lemmas.List.{length-replicate}
use Rattle.ib_base.specs.declared.integers.Width.TheVariants.{W4}
use Rattle.ib_base.specs.Integers.{wrapped}
use Rattle.ib_mem.specs.Memory.{cleared}
use Rattle.ib_meaning.specs.declared.place.Place.{Place}
use Rattle.ib_meaning.specs.declared.fault.FaultKind.TheVariants.{StackOverflow}
use Rattle.ib_meaning.specs.Agreement.{Returned, Faulted}
use Rattle.ib_meaning.specs.Machine.{Step, Goes}
use Rattle.ib_meaning.proofs.Machine.{reach_one, halt_one, reach_trans}
use Rattle.ib_meaning.proofs.Simulation.{Replies}
use Rattle.wide_core.specs.declared.code.Loc.{Loc}
use Rattle.wide_core.specs.declared.code.Loc.TheVariants.{Reg}
use Rattle.wide_core.specs.declared.code.WideAct.{WideAct}
use Rattle.wide_core.specs.declared.code.WideAct.TheVariants.{Jump, Branch, BranchZero, Call as Calls, Return}
use Rattle.wide_core.specs.declared.code.WideOp.{WideOp}
use Rattle.wide_core.specs.Every.{Every, Nil, Cons}
use Rattle.wide_core.specs.Operation.{To, Nothing, Go, first_of as first_number, is_zero, sources, reg_of as loc_of}
use Rattle.wide_core.specs.Places.{put_if}
use Rattle.tac_core.specs.declared.code.TacOp.{TacOp}
use Rattle.tac_core.specs.declared.code.End.{End as BlockEnd}
use Rattle.tac_core.specs.declared.code.End.TheVariants.{Jump as TacJump, Branch as TacBranch, Call as TacCall, Ret}
use Rattle.tac_core.specs.declared.code.Block.{Block}
use Rattle.tac_core.specs.declared.code.TacFunc.{TacFunc}
use Rattle.tac_core.specs.Counts.{IsTargetOf}
use Rattle.tac_core.specs.Meaning as t
use Rattle.tac_core.specs.Meaning.{State, In, Effect, after_act, effect_of, reg_of, number_in, set_in, target_of, block_of, frame_of, overflows, place_of, go, do_end_of, do_return, do_call, do_end, do_next, first_regs, tac_step, start_at, first_frame, first_memory}
use Rattle.tac_core.specs.Program.{main_of}
use Rattle.tac_core.specs.Rules.{IsValid, IsGoodOp, IsGoodAct, IsGoodEnd, IsRegister}
use Rattle.tac_core.specs.Traces.{Labels, AreFormed, FormedProgram, StaysIn}
use Rattle.sb_order.specs.Superblock.{Event, plain, plain_on, plain_by}
use Rattle.sb_core.specs.Program.{SuperblockProgram, items_at}
use Rattle.sb_core.specs.Meaning.{Waiting, Running, found as found_by, at_head, enter, leave, behind, do_item, item_step, has_room, put_all, params_of, start}
use Rattle.sb_formed.specs.Formed.{Draft, first_of, op_draft, end_acts, end_drafts, chain_drafts, block_drafts, item, numbered, next_number, all_numbered, drafted}
use Rattle.sb_formed.proofs.Acts.{Same, Alike, Done, Faulty, act_alike}
use Rattle.sb_formed.proofs.Calls.{every_of, same_numbers, same_result, long_result, same_params, long_params, zeros}
use Rattle.sb_formed.proofs.Found.{begins, found}
use Rattle.sb_formed.proofs.Heads.{main_there, IsFormed, AtPlace, IsHead, good_block, leads, linked, straight, next_place, head_place, head_below, entry_head, is_formed}

-- a branch goes by whether the number is 0
decide : (v : ℤ) (y n : ℕ) → ((is_zero v ≡ true) × (target_of v y n ≡ n)) ⊎ ((is_zero v ≡ false) × (target_of v y n ≡ y))
decide (pos zero) y n = inl (refl, refl)
decide (pos (suc k)) y n = inr (refl, refl)
decide (negsuc k) y n = inr (refl, refl)

there_is : (P : TacFunc → Type 0) (o : Option TacFunc) → MatchOption o ⊥ P → (f : TacFunc) × (o ≡ Some f)
there_is P None h = absurd h
there_is P (Some f) h = (f, refl)

module _ (p : FormedProgram) (valid : IsValid p.copied.tac) (are : AreFormed p.copied.tac.funcs p.traces) where
  abbrev pub funcs : List TacFunc
  funcs = p.copied.tac.funcs

  abbrev pub homes : List Place
  homes = p.copied.tac.places

  abbrev pub code : SuperblockProgram
  code = record { copied = p.copied; all = all_numbered 1 (drafted p.copied.tac.places 0 p.copied.tac.funcs p.traces) }

  pub record InFunc (func : ℕ) (f : TacFunc) (chains : List Labels) : Type 0 where
    pub is : slice_get funcs func ≡ Some f
    pub traces : slice_get p.traces func ≡ Some chains
    pub formed : IsFormed funcs (length homes) f chains

  in_func : (func : ℕ) (f : TacFunc) → slice_get funcs func ≡ Some f → (chains : List Labels) × InFunc func f chains
  in_func func f e =
      let h = is_formed p valid are func f e in (h.0, record { is = e; traces = h.1; formed = h.2 })

  -- what is left where these operations of a block are left, and these labels of its chain
  abbrev pub left_drafts : TacFunc → Block → List TacOp → Labels → List Draft
  left_drafts f b ops more = map (op_draft homes) ops ++ (end_drafts homes b (first_of more) ++ chain_drafts homes f more)

  pub data AreBack : List t.Waiting → List Waiting → Type 0 where
    Nobody : AreBack [] []
    Another : (func label base : ℕ) (regs : List ℤ) (dest : Option ℕ) (next : ℕ) (at : Loc → ℤ) (f : TacFunc) (chains : List Labels) (ws : List t.Waiting) (vs : List Waiting) → InFunc func f chains → IsHead chains next → length regs ≡ f.regs → IsRegister (length regs) dest → Same regs at → AreBack ws vs → AreBack (record { func = func; label = label; base = base; regs = regs; dest = dest; next = next } ∷ ws) (record { func = func; base = base; places = at; result = loc_of dest; next = next } ∷ vs)

  as_many : (ws : List t.Waiting) (vs : List Waiting) → AreBack ws vs → length ws ≡ length vs
  as_many _ _ Nobody = refl
  as_many _ _ (Another func label base regs dest next at f chains ws vs i h l d s back) = ap suc (as_many ws vs back)

  -- the state of the copied program, and that of its superblocks
  abbrev pub here : (func label base : ℕ) → List ℤ → List TacOp → List t.Waiting → List ℕ → State
  here func label base regs ops ws memory = In (record { func = func; label = label; base = base; regs = regs; ops = ops }) ws memory

  abbrev pub there : (func base : ℕ) → List WideOp → (Loc → ℤ) → List Waiting → List ℕ → Running
  there func base rest at vs memory = record { call = record { func = func; base = base; rest = rest; places = at }; waiting = vs; memory = memory }

  pub data Related : ℕ → State → Running → Type 0 where
    Both : (func label base : ℕ) (regs : List ℤ) (ops : List TacOp) (f : TacFunc) (chains : List Labels) (b : Block) (more : Labels) (ws : List t.Waiting) (vs : List Waiting) (memory : List ℕ) (at : Loc → ℤ) (rest : List WideOp) (n : ℕ) → InFunc func f chains → AtPlace f chains label b more → length regs ≡ f.regs → Every (IsGoodOp f.regs (length homes)) ops → Same regs at → AreBack ws vs → rest ≡ numbered n (left_drafts f b ops more) → Related (length more) (here func label base regs ops ws memory) (there func base rest at vs memory)

  -- at a block of a chain, whose items stand next
  arrives : (func label base : ℕ) (f : TacFunc) (chains : List Labels) (b : Block) (more : Labels) (regs : List ℤ) (ws : List t.Waiting) (vs : List Waiting) (memory : List ℕ) (at : Loc → ℤ) (rest : List WideOp) (n : ℕ) → InFunc func f chains → AtPlace f chains label b more → length regs ≡ f.regs → Same regs at → AreBack ws vs → rest ≡ numbered n (chain_drafts homes f (label ∷ more)) → Related (length more) (go funcs func label base regs ws memory) (there func base rest at vs memory)
  arrives func label base f chains b more regs ws vs memory at rest n i place long same back e =
      let is : block_of (slice_get funcs func) label ≡ Some b = ap (λ o. block_of o label) i.is ∙ place.block in
      subst (λ o. Related (length more) (t.enter o func label base regs ws memory) (there func base rest at vs memory)) (sym is)
      (Both func label base regs b.ops f chains b more ws vs memory at rest n i place long
      (every_of (IsGoodOp f.regs (length homes)) b.ops (good_block funcs (length homes) f chains i.formed label b place.block).ops) same back
      (e ∙ ap (λ o. numbered n (block_drafts homes o (first_of more) (chain_drafts homes f more))) place.block))

  -- at a head
  enters : (func label base : ℕ) (f : TacFunc) (chains : List Labels) (regs : List ℤ) (ws : List t.Waiting) (vs : List Waiting) (memory : List ℕ) (at : Loc → ℤ) → InFunc func f chains → IsHead chains label → length regs ≡ f.regs → Same regs at → AreBack ws vs → (r : ℕ) × Related r (go funcs func label base regs ws memory) (record { call = at_head code func base label at; waiting = vs; memory = memory })
  enters func label base f chains regs ws vs memory at i head long same back =
      let first = begins chains head.chain label head.more head.is in
      let h : IsHead chains label = record { chain = first.chain; more = first.more; is = first.is } in
      let b = head_place funcs (length homes) f chains i.formed label h in
      let lt = head_below funcs (length homes) f chains i.formed label h in
      let items = found homes funcs p.traces func label f chains first.more i.is i.traces lt first.at in
      (length first.more, arrives func label base f chains b.0 first.more regs ws vs memory at (items_at code.all func label) items.from i b.1 long same back items.are)

  -- a function begins
  begins_call : (func base : ℕ) (f : TacFunc) (values : List ℤ) (ws : List t.Waiting) (vs : List Waiting) (memory : List ℕ) → slice_get funcs func ≡ Some f → AreBack ws vs → (r : ℕ) × Related r (t.call funcs func base values ws memory) (enter code func base values vs memory)
  begins_call func base f values ws vs memory e back =
      let i = in_func func f e in
      let regs : List ℤ = first_regs (slice_get funcs func) values in
      let at : Loc → ℤ = put_all f.params values (λ loc. pos 0) in
      let is : regs ≡ first_regs (Some f) values = ap (λ o. first_regs o values) e in
      let long : length regs ≡ f.regs = ap length is ∙ long_params f.params values (replicate f.regs (pos 0)) ∙ length-replicate f.regs (pos 0) in
      let same : Same regs at =
      λ r. same_params f.regs f.params values (replicate f.regs (pos 0)) (λ loc. pos 0) (every_of (λ k. k < f.regs) f.params i.1.formed.good.params) (length-replicate f.regs (pos 0)) (λ k. sym (zeros f.regs k)) r
      ∙ ap (λ l. reg_of l r) (sym is) in
      let m : List ℕ = cleared memory base (frame_of (slice_get funcs func)) in
      let h = enters func 0 base f i.0 regs ws vs m at i.1 (entry_head funcs (length homes) f i.0 i.1.formed) long same back in (
        h.0,
        subst (λ o. Related h.0 (t.call funcs func base values ws memory) (record {
          call = at_head code func base 0 (put_all (params_of o) values (λ loc. pos 0));
          waiting = vs;
          memory = m;
        })) (sym e) h.1,
      )

  -- at most two items a step
  abbrev pub IsFew : ℕ → Type 0
  IsFew k = k ≤ 2

  abbrev pub Reply : ℕ → Running → List ℕ → Step State → Type 0
  Reply rank u left step = Replies (item_step code) IsFew Related rank u left step

  one : (rank r : ℕ) (s : State) (u u' : Running) (left left' printed : List ℕ) → item_step code u left ≡ Goes u' left' printed → Related r s u' → Reply rank u left (Goes s left' printed)
  one rank r s u u' left left' printed e rel =
      inl (1, u', r, omega arith, omega arith, reach_one (item_step code) u u' left left' printed e, rel)

  two : (rank r : ℕ) (s : State) (u v u' : Running) (left : List ℕ) → item_step code u left ≡ Goes v left [] → item_step code v left ≡ Goes u' left [] → Related r s u' → Reply rank u left (Goes s left [])
  two rank r s u v u' left e f rel =
      inl (1 + 1, u', r, omega arith, omega arith, reach_trans (reach_one (item_step code) u v left left [] e) (reach_one (item_step code) v u' left left [] f), rel)

  -- an operation
  op_reply : (n : ℕ) (func label base : ℕ) (regs : List ℤ) (op : TacOp) (ops : List TacOp) (f : TacFunc) (chains : List Labels) (b : Block) (more : Labels) (ws : List t.Waiting) (vs : List Waiting) (memory : List ℕ) (at : Loc → ℤ) (rest : List WideOp) (left : List ℕ) → InFunc func f chains → AtPlace f chains label b more → length regs ≡ f.regs → Every (IsGoodOp f.regs (length homes)) ops → AreBack ws vs → (next : ℕ) (effect : Effect) (event : Event) → Alike n (length regs) left effect event → item_step code (there func base rest at vs memory) left ≡ behind code (λ number. place_of homes op.stmt) (numbered next (left_drafts f b ops more)) (there func base rest at vs memory) event → Reply (length more) (there func base rest at vs memory) left (after_act effect (place_of homes op.stmt) (record { func = func; label = label; base = base; regs = regs; ops = op ∷ ops }) ops ws left)
  op_reply n func label base regs op ops f chains b more ws vs memory at rest left i place long good back next _ _ (Done regs' memory' left' printed at' many same) e =
      one (length more) (length more) (here func label base regs' ops ws memory') (there func base rest at vs memory) (there func base (numbered next (left_drafts f b ops more)) at' vs memory') left left' printed e
      (Both func label base regs' ops f chains b more ws vs memory' at' (numbered next (left_drafts f b ops more)) next i place (many ∙ long) good same back refl)
  op_reply n func label base regs op ops f chains b more ws vs memory at rest left i place long good back next _ _ (Faulty kind memory' at') e =
      (1, omega arith, halt_one (item_step code) (there func base rest at vs memory) left left [] (Faulted (place_of homes op.stmt) kind) e)

  -- a return
  return_reply : (rank : ℕ) (u : Running) (v : ℤ) (memory left : List ℕ) (at : Loc → ℤ) (ws : List t.Waiting) (vs : List Waiting) → AreBack ws vs → item_step code u left ≡ leave code vs v (record { places = at; memory = memory; left = left; out = [] }) → Reply rank u left (do_return funcs v ws memory left)
  return_reply rank u v memory left at _ _ Nobody e =
      (1, omega arith, halt_one (item_step code) u left left [] (Returned (wrapped W4 v)) e)
  return_reply rank u v memory left at _ _ (Another func label base regs dest next held f chains ws vs i head long to same back) e =
      let r = enters func next base f chains (set_in regs dest v) ws vs memory (put_if (loc_of dest) v held) i head (long_result regs dest v ∙ long) (same_result regs held dest v to same) back in
      one rank r.0 (go funcs func next base (set_in regs dest v) ws memory) u
      (record { call = at_head code func base next (put_if (loc_of dest) v held); waiting = vs; memory = memory }) left left [] e r.1

  -- ---- the end of a block

  module _ (func label base : ℕ) (f : TacFunc) (chains : List Labels) (b : Block) (more : Labels) (regs : List ℤ) (ws : List t.Waiting) (vs : List Waiting) (memory : List ℕ) (at : Loc → ℤ) (rest : List WideOp) (left : List ℕ) (i : InFunc func f chains) (place : AtPlace f chains label b more) (long : length regs ≡ f.regs) (same : Same regs at) (back : AreBack ws vs) where
    abbrev now : Running
    now = there func base rest at vs memory

    abbrev home : Place
    home = place_of homes b.end_stmt

    -- at a head of the function
    abbrev at_label : ℕ → Running
    at_label l = record { call = at_head code func base l at; waiting = vs; memory = memory }

    abbrev drafts_by : BlockEnd → Labels → List Draft
    drafts_by e m = map (λ act. record { home = home; act = act }) (end_acts e (first_of m)) ++ chain_drafts homes f m

    abbrev op_of : ℕ → WideAct → WideOp
    op_of n act = record { number = n; home = home; flagged = false; act = act }

    abbrev IsRest : ℕ → Type 0
    IsRest n = rest ≡ numbered n (end_drafts homes b (first_of more) ++ chain_drafts homes f more)

    rest_is : (n : ℕ) (e : BlockEnd) (m : Labels) → IsRest n → b.«end» ≡ e → more ≡ m → rest ≡ numbered n (drafts_by e m)
    rest_is n e m er ee em = er ∙ ap₂ (λ x l. numbered n (drafts_by x l)) ee em

    good_end : (e : BlockEnd) → b.«end» ≡ e → IsGoodEnd f.regs (length f.blocks) funcs e
    good_end e ee =
        subst (IsGoodEnd f.regs (length f.blocks) funcs) ee (good_block funcs (length homes) f chains i.formed label b place.block).ends

    to_head_or : (e : BlockEnd) → b.«end» ≡ e → (l : ℕ) → IsTargetOf e l → IsHead chains l ⊎ (first_of more ≡ Some l)
    to_head_or e ee l is =
        leads funcs (length homes) f chains i.formed label l b more place (subst (λ x. IsTargetOf x l) (sym ee) is)

    place_by : (next : ℕ) (ls : Labels) → more ≡ next ∷ ls → AtPlace f chains label b (next ∷ ls)
    place_by next ls em = subst (λ m. AtPlace f chains label b m) em place

    to_next : (e : BlockEnd) → b.«end» ≡ e → (next : ℕ) (ls : Labels) → more ≡ next ∷ ls → IsTargetOf e next
    to_next e ee next ls em =
        subst (λ x. IsTargetOf x next) ee (linked funcs (length homes) f chains i.formed label next b ls (place_by next ls em))

    stays_in : (e : BlockEnd) → b.«end» ≡ e → (next : ℕ) (ls : Labels) → more ≡ next ∷ ls → StaysIn e
    stays_in e ee next ls em =
        subst StaysIn ee (straight funcs (length homes) f chains i.formed label next b ls (place_by next ls em))

    head_reply : (l : ℕ) → IsHead chains l → item_step code now left ≡ Goes (at_label l) left [] → Reply (length more) now left (Goes (go funcs func l base regs ws memory) left [])
    head_reply l h e =
        let r = enters func l base f chains regs ws vs memory at i h long same back in
        one (length more) r.0 (go funcs func l base regs ws memory) now (at_label l) left left [] e r.1

    along : (next : ℕ) (ls : Labels) → more ≡ next ∷ ls → (later : List WideOp) (n : ℕ) → later ≡ numbered n (chain_drafts homes f (next ∷ ls)) → Related (length ls) (go funcs func next base regs ws memory) (there func base later at vs memory)
    along next ls em later n e =
        let q = next_place funcs (length homes) f chains i.formed label next b ls (place_by next ls em) in
        arrives func next base f chains q.0 ls regs ws vs memory at later n i q.1 long same back e

    along_reply : (next : ℕ) (ls : Labels) → more ≡ next ∷ ls → (n : ℕ) → item_step code now left ≡ Goes (there func base (numbered n (chain_drafts homes f (next ∷ ls))) at vs memory) left [] → Reply (length more) now left (Goes (go funcs func next base regs ws memory) left [])
    along_reply next ls em n e =
        one (length more) (length ls) (go funcs func next base regs ws memory) now (there func base (numbered n (chain_drafts homes f (next ∷ ls))) at vs memory) left left [] e
        (along next ls em (numbered n (chain_drafts homes f (next ∷ ls))) n refl)

    jump_reply : (l n : ℕ) → b.«end» ≡ TacJump l → IsRest n → (m : Labels) → more ≡ m → Reply (length more) now left (Goes (go funcs func l base regs ws memory) left [])
    jump_reply l n ee er [] em =
        ⊎_elim (λ h. head_reply l h (ap (λ xs. do_item code xs now left) (rest_is n (TacJump l) [] er ee em)))
        (λ e.
        let none : None ≡ Some l = sym (ap first_of em) ∙ e in
        cc)
        (to_head_or (TacJump l) ee l refl)
    jump_reply l n ee er (next ∷ ls) em =
        let to : next ≡ l = to_next (TacJump l) ee next ls em in
        let fewer : length more ≡ suc (length ls) = ap length em in
        let rel = along next ls em rest n (rest_is n (TacJump l) (next ∷ ls) er ee em) in
        inr (length ls, omega arith, refl, refl, subst (λ k. Related (length ls) (go funcs func k base regs ws memory) now) to rel)

    -- a branch of either kind goes, or control goes on behind it
    branch_goes : (n r l : ℕ) (later : List WideOp) → rest ≡ op_of n (Branch r l) ∷ later → is_zero (reg_of regs r) ≡ false → item_step code now left ≡ Goes (at_label l) left []
    branch_goes n r l later e z =
        ap (λ xs. do_item code xs now left) e
        ∙ ap (λ q. behind code (λ number. home) later now (plain_on (if q then Nothing else Go (To l)) (plain base (has_room code now) []) (found_by now left))) (ap is_zero (same r) ∙ z)

    branch_passes : (n r l : ℕ) (later : List WideOp) → rest ≡ op_of n (Branch r l) ∷ later → is_zero (reg_of regs r) ≡ true → item_step code now left ≡ Goes (there func base later at vs memory) left []
    branch_passes n r l later e z =
        ap (λ xs. do_item code xs now left) e
        ∙ ap (λ q. behind code (λ number. home) later now (plain_on (if q then Nothing else Go (To l)) (plain base (has_room code now) []) (found_by now left))) (ap is_zero (same r) ∙ z)

    zero_goes : (n r l : ℕ) (later : List WideOp) → rest ≡ op_of n (BranchZero r l) ∷ later → is_zero (reg_of regs r) ≡ true → item_step code now left ≡ Goes (at_label l) left []
    zero_goes n r l later e z =
        ap (λ xs. do_item code xs now left) e
        ∙ ap (λ q. behind code (λ number. home) later now (plain_on (if q then Go (To l) else Nothing) (plain base (has_room code now) []) (found_by now left))) (ap is_zero (same r) ∙ z)

    zero_passes : (n r l : ℕ) (later : List WideOp) → rest ≡ op_of n (BranchZero r l) ∷ later → is_zero (reg_of regs r) ≡ false → item_step code now left ≡ Goes (there func base later at vs memory) left []
    zero_passes n r l later e z =
        ap (λ xs. do_item code xs now left) e
        ∙ ap (λ q. behind code (λ number. home) later now (plain_on (if q then Go (To l) else Nothing) (plain base (has_room code now) []) (found_by now left))) (ap is_zero (same r) ∙ z)

    abbrev Branched : (r y n : ℕ) → Type 0
    Branched r y n = Reply (length more) now left (Goes (go funcs func (target_of (reg_of regs r) y n) base regs ws memory) left [])

    -- control goes to this label
    went : (r y n l : ℕ) → target_of (reg_of regs r) y n ≡ l → Reply (length more) now left (Goes (go funcs func l base regs ws memory) left []) → Branched r y n
    went r y n l e h = subst (λ k. Reply (length more) now left (Goes (go funcs func k base regs ws memory) left [])) (sym e) h

    last_branch : (r y n k : ℕ) → b.«end» ≡ TacBranch r y n → IsRest k → more ≡ [] → Branched r y n
    last_branch r y n k ee er em =
        let items : rest ≡ op_of k (Branch r y) ∷ op_of (suc k) (Jump n) ∷ [] = rest_is k (TacBranch r y n) [] er ee em in
        let none : first_of more ≡ None = ap first_of em in
        ⊎_elim
        (λ z.
        ⊎_elim
        (λ h.
        let rel = enters func n base f chains regs ws vs memory at i h long same back in
        went r y n n z.1
        (two (length more) rel.0 (go funcs func n base regs ws memory) now (there func base (op_of (suc k) (Jump n) ∷ []) at vs memory) (at_label n) left
        (branch_passes k r y (op_of (suc k) (Jump n) ∷ []) items z.0) refl rel.1))
        (λ e.
        let no' : None ≡ Some n = sym none ∙ e in
        cc)
        (to_head_or (TacBranch r y n) ee n (inr refl)))
        (λ z.
        ⊎_elim (λ h. went r y n y z.1 (head_reply y h (branch_goes k r y (op_of (suc k) (Jump n) ∷ []) items z.0)))
        (λ e.
        let no' : None ≡ Some y = sym none ∙ e in
        cc)
        (to_head_or (TacBranch r y n) ee y (inl refl)))
        (decide (reg_of regs r) y n)

    inner_branch : (r y n k : ℕ) → b.«end» ≡ TacBranch r y n → IsRest k → (next : ℕ) (ls : Labels) → more ≡ next ∷ ls → Branched r y n
    inner_branch r y n k ee er next ls em =
        let good = good_end (TacBranch r y n) ee in
        let whole = rest_is k (TacBranch r y n) (next ∷ ls) er ee em in
        let first : first_of more ≡ Some next = ap first_of em in
        let later : List WideOp = numbered (suc k) (chain_drafts homes f (next ∷ ls)) in
        let by : Bool → List WideOp = λ q. numbered k (map (λ act. record { home = home; act = act }) (if q then BranchZero r n ∷ [] else Branch r y ∷ []) ++ chain_drafts homes f (next ∷ ls)) in
        ⊎_elim
        (λ t.
        let items : rest ≡ op_of k (BranchZero r n) ∷ later = whole ∙ ap by t.0 in
        let yes' : next ≡ y = sym t.1 in
        ⊎_elim
        (λ z.
        ⊎_elim (λ h. went r y n n z.1 (head_reply n h (zero_goes k r n later items z.0)))
        (λ e.
        let some : Some n ≡ Some next = sym e ∙ first in
        let one : n ≡ next = cc in
        absurd (good.3 (t.1 ∙ sym one)))
        (to_head_or (TacBranch r y n) ee n (inr refl)))
        (λ z. went r y n next (z.1 ∙ t.1) (along_reply next ls em (suc k) (zero_passes k r n later items z.0)))
        (decide (reg_of regs r) y n))
        (λ o.
        let items : rest ≡ op_of k (Branch r y) ∷ later = whole ∙ ap by o.0 in
        let no' : n ≡ next =
        ⊎_elim (λ e. absurd (o.1 (sym e))) (λ e. sym e) (to_next (TacBranch r y n) ee next ls em) in
        ⊎_elim
        (λ z. went r y n next (z.1 ∙ no') (along_reply next ls em (suc k) (branch_passes k r y later items z.0)))
        (λ z.
        ⊎_elim (λ h. went r y n y z.1 (head_reply y h (branch_goes k r y later items z.0)))
        (λ e.
        let some : Some y ≡ Some next = sym e ∙ first in
        let one : y ≡ next = cc in
        absurd (o.1 one))
        (to_head_or (TacBranch r y n) ee y (inl refl)))
        (decide (reg_of regs r) y n))
        (eqb_tells y next)

    branch_reply : (r y n k : ℕ) → b.«end» ≡ TacBranch r y n → IsRest k → (m : Labels) → more ≡ m → Branched r y n
    branch_reply r y n k ee er [] em = last_branch r y n k ee er em
    branch_reply r y n k ee er (next ∷ ls) em = inner_branch r y n k ee er next ls em

    -- a call ends its chain, so it goes on at a head
    call_head : (d : Option ℕ) (g : ℕ) (args : List ℕ) (l : ℕ) → b.«end» ≡ TacCall d g args l → (m : Labels) → more ≡ m → IsHead chains l
    call_head d g args l ee [] em =
        ⊎_elim (λ h. h)
        (λ e.
        let none : None ≡ Some l = sym (ap first_of em) ∙ e in
        cc)
        (to_head_or (TacCall d g args l) ee l refl)
    call_head d g args l ee (next ∷ ls) em = absurd (stays_in (TacCall d g args l) ee next ls em)

    abbrev top : ℕ
    top = base + frame_of (slice_get funcs func)

    called : (d : Option ℕ) (g : ℕ) (args : List ℕ) (l : ℕ) → b.«end» ≡ TacCall d g args l → (n : ℕ) (later : List WideOp) (o : Bool) → item_step code now left ≡ behind code (λ number. home) later now (plain_by (op_of n (Calls (loc_of d) g l args)) (map at (map (λ r. Reg r) args)) (if not o then Ok (pos 0) else Err StackOverflow) (plain base (has_room code now) []) (found_by now left)) → Reply (length more) now left (do_call o (t.call funcs g top (map (reg_of regs) args) (record { func = func; label = label; base = base; regs = regs; dest = d; next = l } ∷ ws) memory) home left)
    called d g args l ee n later true e = (1, omega arith, halt_one (item_step code) now left left [] (Faulted home StackOverflow) e)
    called d g args l ee n later false e =
        let good = good_end (TacCall d g args l) ee in
        let callee = there_is (λ h. length args ≡ length h.params) (slice_get funcs g) good.3 in
        let dest : IsRegister (length regs) d = subst (λ k. IsRegister k d) (sym long) good.0 in
        let back' = Another func label base regs d l at f chains ws vs i (call_head d g args l ee more refl) long dest same back in
        let rel = begins_call g top callee.0 (map (reg_of regs) args) (record { func = func; label = label; base = base; regs = regs; dest = d; next = l } ∷ ws) (record { func = func; base = base; places = at; result = loc_of d; next = l } ∷ vs) memory callee.1 back' in
        one (length more) rel.0 (t.call funcs g top (map (reg_of regs) args) (record { func = func; label = label; base = base; regs = regs; dest = d; next = l } ∷ ws) memory) now
        (enter code g top (map (reg_of regs) args) (record { func = func; base = base; places = at; result = loc_of d; next = l } ∷ vs) memory)
        left left []
        (e ∙ ap (λ xs. Goes (enter code g top xs (record { func = func; base = base; places = at; result = loc_of d; next = l } ∷ vs) memory) left []) (same_numbers regs at same args))
        rel.1

    call_reply : (d : Option ℕ) (g : ℕ) (args : List ℕ) (l n : ℕ) → b.«end» ≡ TacCall d g args l → IsRest n → Reply (length more) now left (do_end_of funcs (TacCall d g args l) home func label base regs ws memory left)
    call_reply d g args l n ee er =
        let later : List WideOp = numbered (suc n) (chain_drafts homes f more) in
        let op : WideOp = op_of n (Calls (loc_of d) g l args) in
        let items : rest ≡ op ∷ later = rest_is n (TacCall d g args l) more er ee refl in
        let frame : ℕ = frame_of (slice_get funcs g) in
        let many : length vs ≡ length ws = sym (as_many ws vs back) in
        called d g args l ee n later (overflows (length ws) top frame)
        (ap (λ xs. do_item code xs now left) items
        ∙ ap (λ k. behind code (λ number. home) later now (plain_by op (map at (map (λ r. Reg r) args)) (if not (overflows k top frame) then Ok (pos 0) else Err StackOverflow) (plain base (has_room code now) []) (found_by now left))) many)

    value_is : (r : Option ℕ) → first_number (map at (sources (Return r))) ≡ number_in regs r
    value_is None = refl
    value_is (Some r) = same r

    ret_reply : (r : Option ℕ) (n : ℕ) → b.«end» ≡ Ret r → IsRest n → Reply (length more) now left (do_return funcs (number_in regs r) ws memory left)
    ret_reply r n ee er =
        return_reply (length more) now (number_in regs r) memory left at ws vs back
        (ap (λ xs. do_item code xs now left) (rest_is n (Ret r) more er ee refl) ∙ ap (λ v. leave code vs v (found_by now left)) (value_is r))

    end_reply : (e : BlockEnd) → b.«end» ≡ e → (n : ℕ) → IsRest n → Reply (length more) now left (do_end_of funcs e home func label base regs ws memory left)
    end_reply (TacJump l) ee n er = jump_reply l n ee er more refl
    end_reply (TacBranch r y n') ee n er = branch_reply r y n' n ee er more refl
    end_reply (TacCall d g args l) ee n er = call_reply d g args l n ee er
    end_reply (Ret r) ee n er = ret_reply r n ee er

    -- an operation or the end
    next_reply : (ops : List TacOp) → Every (IsGoodOp f.regs (length homes)) ops → (n : ℕ) → rest ≡ numbered n (left_drafts f b ops more) → Reply (length more) now left (tac_step funcs homes (here func label base regs ops ws memory) left)
    next_reply [] Nil n e =
        let is : block_of (slice_get funcs func) label ≡ Some b = ap (λ o. block_of o label) i.is ∙ place.block in
        subst (λ o. Reply (length more) now left (do_end funcs homes o (record { func = func; label = label; base = base; regs = regs; ops = [] }) ws memory left)) (sym is)
        (end_reply b.«end» refl n e)
    next_reply (op ∷ ops) (Cons _ _ good goods) n e =
        let it : WideOp = item n (op_draft homes op) in
        op_reply n func label base regs op ops f chains b more ws vs memory at rest left i place long goods back
        (next_number n it.act) (effect_of op.act base regs memory left) (plain base (has_room code now) (it ∷ []) (found_by now left))
        (act_alike base (has_room code now) it op.act refl regs at memory left (subst (λ k. IsGoodAct k op.act) (sym long) good.act) same)
        (ap (λ xs. do_item code xs now left) e)

  pub replies : (rank : ℕ) (s : State) (u : Running) (left : List ℕ) → Related rank s u → Reply rank u left (tac_step funcs homes s left)
  replies _ _ _ left (Both func label base regs ops f chains b more ws vs memory at rest n i place long good same back e) =
      next_reply func label base f chains b more regs ws vs memory at rest left i place long same back ops good n e

  pub starts : (r : ℕ) × Related r (start_at funcs (main_of p.copied.tac) p.copied.tac.image) (start code)
  starts =
      let h = main_there p.copied.tac valid.main in
      begins_call (main_of p.copied.tac) (first_frame (length p.copied.tac.image)) h.0 [] [] [] (first_memory p.copied.tac.image) h.1 Nobody
