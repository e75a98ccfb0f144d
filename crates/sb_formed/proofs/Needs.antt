-- What a chain needs is live where it begins.
use Rattle.std.proofs.Common.{◌≡◌, ◌≢◌, ℕ, suc, Bool, true, false, ◌||◌, ◌&&◌, not, ◌⊎◌, inl, inr, List, [], ◌∷◌, ◌++◌, Option, Some, None, map, refl, sym, ap, ◌∙◌, subst, ⊎_elim, arith, if◌then◌else◌}
use Rattle.std.specs.Prelude.{slice_get, ◌==◌}
use Rattle.std.specs.List.{Contains}
use Rattle.std.proofs.lemmas.Bool.{eq-eqb, eqb-true}
use Rattle.std.proofs.lemmas.List.Elements.{All-nil, All-cons}
use Rattle.ib_meaning.specs.declared.place.Place.{Place}
use Rattle.ib_act.specs.Acts.{target, first_source, second_source}
use Rattle.wide_core.specs.declared.code.WideAct.{WideAct}
use Rattle.wide_core.specs.declared.code.WideAct.TheVariants.{Do, Branch, BranchZero, Call}
use Rattle.wide_core.specs.Operation.{reg_of}
use Rattle.wide_core.specs.Uses.{opt_list, reads, in_list, is_target, is_result, written}
use Rattle.wide_core.proofs.Both.{both_first, both_second}
use Rattle.tac_core.specs.declared.code.TacOp.{TacOp}
use Rattle.tac_core.specs.declared.code.End.{End}
use Rattle.tac_core.specs.declared.code.End.TheVariants.{Jump as TacJump, Branch as TacBranch, Call as TacCall, Ret}
use Rattle.tac_core.specs.declared.code.Block.{Block}
use Rattle.tac_core.specs.declared.code.TacFunc.{TacFunc}
use Rattle.tac_core.specs.Counts.{IsTargetOf}
use Rattle.tac_core.specs.Live.{EndReads, EndWrites, UsedIn, AtFirst, Later, Passes, IsLive, UsedInside, UsedAtEnd, UsedBehind}
use Rattle.tac_core.specs.Traces.{Labels, StaysIn}
use Rattle.sb_order.specs.Superblock.{needs}
use Rattle.sb_core.specs.Facts.{TellsLive}
use Rattle.sb_formed.specs.Formed.{Draft, op_draft, end_acts, end_drafts, chain_drafts, block_drafts, numbered, next_number}
use Rattle.sb_formed.proofs.Heads.{IsFormed, AtPlace, linked, straight, next_place}

or_cases : (a b : Bool) → (a || b) ≡ true → (a ≡ true) ⊎ (b ≡ true)
or_cases true b e = inl refl
or_cases false b e = inr e

never : false ≡ true → ⊥
never e = cc

in_opt : (q : Option ℕ) (r : ℕ) → in_list r (opt_list q) ≡ true → q ≡ Some r
in_opt None r e = absurd (never e)
in_opt (Some k) r e =
    ⊎_elim (λ h. ap Some (sym (eqb-true r k h))) (λ h. absurd (never h)) (or_cases (r == k) false e)

in_opts : (p q : Option ℕ) (r : ℕ) → in_list r (opt_list p ++ opt_list q) ≡ true → (p ≡ Some r) ⊎ (q ≡ Some r)
in_opts None q r e = inr (in_opt q r e)
in_opts (Some k) q r e =
    ⊎_elim (λ h. inl (ap Some (sym (eqb-true r k h)))) (λ h. inr (in_opt q r h)) (or_cases (r == k) (in_list r (opt_list q)) e)

in_args : (args : List ℕ) (r : ℕ) → in_list r args ≡ true → Contains args r
in_args [] r e = absurd (never e)
in_args (a ∷ args) r e =
    ⊎_elim (λ h. (0, omega arith, sym (eqb-true r a h)))
    (λ h.
    let c = in_args args r h in
    let lt = c.1 in
    (suc c.0, omega arith, c.2))
    (or_cases (r == a) (in_list r args) e)

missed : (q : Option ℕ) (r : ℕ) → not (is_target q r) ≡ true → q ≢ Some r
missed None r e is = cc
missed (Some d) r e is =
    let same : d ≡ r = cc in
    let yes' : (r == d) ≡ true = eq-eqb r d (sym same) in
    never (sym (ap not yes') ∙ e)

no_result : (d : Option ℕ) (r : ℕ) → not (is_result (reg_of d) r) ≡ true → d ≡ Some r → ⊥
no_result None r e is = cc
no_result (Some d) r e is =
    let same : d ≡ r = cc in
    let yes' : (r == d) ≡ true = eq-eqb r d (sym same) in
    never (sym (ap not yes') ∙ e)

abbrev drafts_at : Place → List WideAct → List Draft
drafts_at home acts = map (λ act. let d : Draft = record { home = home; act = act } in d) acts

module _ (heads : ℕ → ℕ → Bool) (r : ℕ) where
  -- operations use the register, or what stands behind them needs it
  data OpsNeed (ops : List TacOp) (ds : List Draft) : Type 0 where
    Used : UsedIn r ops → OpsNeed ops ds
    Passed : (k : ℕ) → Passes r ops → needs heads (numbered k ds) r ≡ true → OpsNeed ops ds

  module _ (homes : List Place) where
    ops_need : (n : ℕ) (ops : List TacOp) (ds : List Draft) → needs heads (numbered n (map (op_draft homes) ops ++ ds)) r ≡ true → OpsNeed ops ds
    ops_need n [] ds e = Passed n (All-nil (λ (op : TacOp). target op.act ≢ Some r)) e
    ops_need n (op ∷ ops) ds e =
        let next = next_number n (Do op.act) in
        let behind : Bool = needs heads (numbered next (map (op_draft homes) ops ++ ds)) r in
        ⊎_elim
        (λ h.
        ⊎_elim (λ g. Used (AtFirst op ops (in_opts (first_source op.act) (second_source op.act) r g))) (λ g. absurd (never g))
        (or_cases (in_list r (reads (Do op.act))) false h))
        (λ h. on (missed (target op.act) r (both_first (not (is_target (target op.act) r)) behind h)) (ops_need next ops ds (both_second (not (is_target (target op.act) r)) behind h)))
        (or_cases (in_list r (reads (Do op.act)) || false) (not (is_target (target op.act) r) && behind) e)
      where
        on : target op.act ≢ Some r → OpsNeed ops ds → OpsNeed (op ∷ ops) ds
        on other (Used u) = Used (Later op ops other u)
        on other (Passed k ps g) = Passed k (All-cons (λ (q : TacOp). target q.act ≢ Some r) op ops other ps) g

  -- the end reads the register, or it is live at a target, or what stands behind it along the chain needs it
  data EndNeeds (e : End) (next : Option ℕ) (ds : List Draft) : Type 0 where
    ReadsIt : EndReads e r → EndNeeds e next ds
    LiveAt : (to : ℕ) → IsTargetOf e to → (EndWrites e r → ⊥) → heads to r ≡ true → EndNeeds e next ds
    Further : (k m : ℕ) → next ≡ Some m → (EndWrites e r → ⊥) → needs heads (numbered k ds) r ≡ true → EndNeeds e next ds

  last_needs : (home : Place) (e : End) (n : ℕ) → needs heads (numbered n (drafts_at home (end_acts e None) ++ [])) r ≡ true → EndNeeds e None []
  last_needs home (TacJump l) n e =
      ⊎_elim (λ h. LiveAt l refl (λ w. w) h) (λ h. absurd (never h)) (or_cases (heads l r) false e)
  last_needs home (TacBranch q y z) n e =
      ⊎_elim
      (λ h.
      ⊎_elim
      (λ g. ⊎_elim (λ k. ReadsIt (sym (eqb-true r q k))) (λ k. absurd (never k)) (or_cases (r == q) false g))
      (λ g. LiveAt y (inl refl) (λ w. w) g) (or_cases ((r == q) || false) (heads y r) h))
      (λ h. ⊎_elim (λ g. LiveAt z (inr refl) (λ w. w) g) (λ g. absurd (never g)) (or_cases (heads z r) false h))
      (or_cases (((r == q) || false) || heads y r) (heads z r || false) e)
  last_needs home (TacCall d g args l) n e =
      ⊎_elim
      (λ h.
      ⊎_elim (λ k. ReadsIt (in_args args r k))
      (λ k. LiveAt l refl (no_result d r (both_first (not (is_result (reg_of d) r)) (heads l r) k)) (both_second (not (is_result (reg_of d) r)) (heads l r) k))
      (or_cases (in_list r args) (not (is_result (reg_of d) r) && heads l r) h))
      (λ h. absurd (never (both_second (not (is_target (written (Call (reg_of d) g l args)) r)) false h)))
      (or_cases (in_list r args || (not (is_result (reg_of d) r) && heads l r)) (not (is_target (written (Call (reg_of d) g l args)) r) && false) e)
  last_needs home (Ret q) n e =
      ⊎_elim
      (λ h. ⊎_elim (λ k. ReadsIt (in_opt q r k)) (λ k. absurd (never k)) (or_cases (in_list r (opt_list q)) false h))
      (λ h. absurd (never h)) (or_cases (in_list r (opt_list q) || false) false e)

  inner_needs : (home : Place) (e : End) (m n : ℕ) (ds : List Draft) → StaysIn e → needs heads (numbered n (drafts_at home (end_acts e (Some m)) ++ ds)) r ≡ true → EndNeeds e (Some m) ds
  inner_needs home (TacJump l) m n ds stays e = Further n m refl (λ w. w) e
  inner_needs home (TacBranch q y z) m n ds stays e = by (y == m) e
    where
      by : (b : Bool) → needs heads (numbered n (drafts_at home (if b then BranchZero q z ∷ [] else Branch q y ∷ []) ++ ds)) r ≡ true → EndNeeds (TacBranch q y z) (Some m) ds
      by true e =
          ⊎_elim
          (λ h.
          ⊎_elim
          (λ g. ⊎_elim (λ k. ReadsIt (sym (eqb-true r q k))) (λ k. absurd (never k)) (or_cases (r == q) false g))
          (λ g. LiveAt z (inr refl) (λ w. w) g) (or_cases ((r == q) || false) (heads z r) h))
          (λ h. Further (suc n) m refl (λ w. w) h)
          (or_cases (((r == q) || false) || heads z r) (needs heads (numbered (suc n) ds) r) e)
      by false e =
          ⊎_elim
          (λ h.
          ⊎_elim
          (λ g. ⊎_elim (λ k. ReadsIt (sym (eqb-true r q k))) (λ k. absurd (never k)) (or_cases (r == q) false g))
          (λ g. LiveAt y (inl refl) (λ w. w) g) (or_cases ((r == q) || false) (heads y r) h))
          (λ h. Further (suc n) m refl (λ w. w) h)
          (or_cases (((r == q) || false) || heads y r) (needs heads (numbered (suc n) ds) r) e)
  inner_needs home (TacCall d g args l) m n ds stays e = absurd stays
  inner_needs home (Ret q) m n ds stays e = absurd stays

module _ (funcs : List TacFunc) (homes : List Place) (places : ℕ) (f : TacFunc) (chains : List Labels) (formed : IsFormed funcs places f chains) (heads : ℕ → ℕ → Bool) (tells : TellsLive f heads) (r : ℕ) where
  end_live : (label : ℕ) (b : Block) (next : Option ℕ) (ds : List Draft) → slice_get f.blocks label ≡ Some b → Passes r b.ops → ((k m : ℕ) → next ≡ Some m → needs heads (numbered k ds) r ≡ true → IsTargetOf b.«end» m × IsLive f r m) → EndNeeds heads r b.«end» next ds → IsLive f r label
  end_live label b next ds is passes rest (ReadsIt h) = UsedAtEnd label b is passes h
  end_live label b next ds is passes rest (LiveAt to target other h) = UsedBehind label b to is passes other target ((tells to r).0 h)
  end_live label b next ds is passes rest (Further k m e other h) =
      let q = rest k m e h in UsedBehind label b m is passes other q.0 q.1

  ops_live : (label : ℕ) (b : Block) (ds : List Draft) → slice_get f.blocks label ≡ Some b → ((k : ℕ) → Passes r b.ops → needs heads (numbered k ds) r ≡ true → IsLive f r label) → OpsNeed heads r b.ops ds → IsLive f r label
  ops_live label b ds is rest (Used u) = UsedInside label b is u
  ops_live label b ds is rest (Passed k passes h) = rest k passes h

  pub chain_live : (n label : ℕ) (b : Block) (more : Labels) → AtPlace f chains label b more → needs heads (numbered n (chain_drafts homes f (label ∷ more))) r ≡ true → IsLive f r label
  chain_live n label b [] at e =
      ops_live label b (end_drafts homes b None ++ []) at.block
      (λ k passes h. end_live label b None [] at.block passes (λ j m none live. absurd (never live)) (last_needs heads r _ b.«end» k h))
      (ops_need heads r homes n b.ops (end_drafts homes b None ++ []) (subst (λ o. needs heads (numbered n (block_drafts homes o None [])) r ≡ true) at.block e))
  chain_live n label b (next ∷ more) at e =
      let q = next_place funcs places f chains formed label next b more at in
      let behind : List Draft = chain_drafts homes f (next ∷ more) in
      ops_live label b (end_drafts homes b (Some next) ++ behind) at.block
      (λ k passes h.
      end_live label b (Some next) behind at.block passes
      (λ j m is live.
      let same : next ≡ m = cc in
      subst (λ x. IsTargetOf b.«end» x × IsLive f r x) same (linked funcs places f chains formed label next b more at, chain_live j next q.0 more q.1 live))
      (inner_needs heads r _ b.«end» next k behind (straight funcs places f chains formed label next b more at) h))
      (ops_need heads r homes n b.ops (end_drafts homes b (Some next) ++ behind) (subst (λ o. needs heads (numbered n (block_drafts homes o (Some next) behind)) r ≡ true) at.block e))
