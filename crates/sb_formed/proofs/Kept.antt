-- The superblocks of chains keep what superblocks keep.
use Rattle.std.proofs.Common.{◌≡◌, ℕ, suc, ◌+◌, ◌<◌, Bool, true, false, ◌⊎◌, inl, inr, List, [], ◌∷◌, ◌++◌, length, Option, Some, None, refl, sym, ap, ◌∙◌, subst, ⊎_elim, arith, if◌then◌else◌}
use Rattle.std.specs.Prelude.{slice_get, ◌==◌}
use Rattle.std.proofs.lemmas.Bool.Decides.{eqb_tells}
use Rattle.std.proofs.lemmas.Option.{slice_get_cases}
use Rattle.ib_meaning.specs.declared.place.Place.{Place}
use Rattle.wide_core.specs.declared.code.WideAct.{WideAct}
use Rattle.wide_core.specs.declared.code.WideAct.TheVariants.{Jump, Branch, BranchZero, Call, Return}
use Rattle.wide_core.specs.declared.code.WideOp.{WideOp}
use Rattle.wide_core.specs.Every.{Every, Nil, Cons}
use Rattle.wide_core.specs.Operation.{reg_of}
use Rattle.tac_core.specs.declared.code.End.{End}
use Rattle.tac_core.specs.declared.code.End.TheVariants.{Jump as TacJump, Branch as TacBranch, Call as TacCall, Ret}
use Rattle.tac_core.specs.declared.code.Block.{Block}
use Rattle.tac_core.specs.declared.code.TacFunc.{TacFunc}
use Rattle.tac_core.specs.Cover.{upto}
use Rattle.tac_core.specs.Counts.{IsTargetOf}
use Rattle.tac_core.specs.Rules.{IsValid, IsGoodEnd}
use Rattle.tac_core.specs.Traces.{Labels, AreFormed, FormedProgram, StaysIn}
use Rattle.sb_order.specs.Order.{EndsLast, InRange}
use Rattle.sb_order.specs.Superblock.{needs}
use Rattle.sb_core.specs.Facts.{is_source, IsStraight, FitsFunc, is_head, leads_to_heads, IsGood, IsSuperblockOf, AreSuperblocks}
use Rattle.sb_core.specs.Program.{SuperblockCode}
use Rattle.sb_formed.specs.Formed.{Drafted, first_of, end_acts, numbered, number_behind, all_numbered, chain_at, chain_drafts, drafted_chain, drafted_labels, drafted, formed}
use Rattle.sb_formed.proofs.Found.{begins}
use Rattle.sb_formed.proofs.Heads.{IsFormed, AtPlace, IsHead, good_block, leads, linked, straight, head_place, head_below, entry_head, is_formed}
use Rattle.sb_formed.proofs.Needs.{chain_live}
use Rattle.sb_formed.proofs.Order.{every_append, ordered, head_there}
use Rattle.sb_formed.proofs.Straight.{rises, all_rise, behind_grows, items_each, ends_last, sources}

-- what is found by a label is one of the chains
of_chains : (chains : List Labels) (l m : ℕ) (ms : Labels) → chain_at chains l ≡ m ∷ ms → (c : ℕ) × (slice_get chains c ≡ Some (m ∷ ms))
of_chains [] l m ms e = cc
of_chains ([] ∷ chains) l m ms e = let h = of_chains chains l m ms e in (suc h.0, h.1)
of_chains ((k ∷ ks) ∷ chains) l m ms e = by (k == l) refl (λ g. of_chains chains l m ms g)
  where
    by : (q : Bool) → (k == l) ≡ q → (chain_at chains l ≡ m ∷ ms → (c : ℕ) × (slice_get chains c ≡ Some (m ∷ ms))) → (c : ℕ) × (slice_get ((k ∷ ks) ∷ chains) c ≡ Some (m ∷ ms))
    by true is rest = (0, ap Some (sym (ap (λ q. if q then k ∷ ks else chain_at chains l) is) ∙ e))
    by false is rest = let h = rest (sym (ap (λ q. if q then k ∷ ks else chain_at chains l) is) ∙ e) in (suc h.0, h.1)

-- ---- the ends of blocks

module _ (funcs : List TacFunc) (places : ℕ) (f : TacFunc) (chains : List Labels) (formed' : IsFormed funcs places f chains) where
  good_acts : (e : End) (next : Option ℕ) → IsGoodEnd f.regs (length f.blocks) funcs e → Every (IsGood funcs) (end_acts e next)
  good_acts (TacJump l) None good = Cons (Jump l) [] tt Nil
  good_acts (TacJump l) (Some next) good = Nil
  good_acts (TacBranch r y z) None good = Cons (Branch r y) (Jump z ∷ []) tt (Cons (Jump z) [] tt Nil)
  good_acts (TacBranch r y z) (Some next) good = by (y == next)
    where
      by : (q : Bool) → Every (IsGood funcs) (if q then BranchZero r z ∷ [] else Branch r y ∷ [])
      by true = Cons (BranchZero r z) [] tt Nil
      by false = Cons (Branch r y) [] tt Nil
  good_acts (TacCall d g args l) next good = Cons (Call (reg_of d) g l args) [] good.3 Nil
  good_acts (Ret r) next good = Cons (Return r) [] tt Nil

  module _ (is_head_at : ℕ → Bool) (heads : (l : ℕ) → IsHead chains l → is_head_at l ≡ true) where
    abbrev Leads : WideAct → Type 0
    Leads act = leads_to_heads is_head_at act ≡ true

    -- a target is a head, but for the next block of the chain
    head_at : (next : Option ℕ) (l : ℕ) → (next ≡ Some l → ⊥) → IsHead chains l ⊎ (next ≡ Some l) → is_head_at l ≡ true
    head_at next l other (inl h) = heads l h
    head_at next l other (inr e) = absurd (other e)

    last_leads : (e : End) → ((l : ℕ) → IsTargetOf e l → IsHead chains l ⊎ (None ≡ Some l)) → Every Leads (end_acts e None)
    last_leads (TacJump l) to = Cons (Jump l) [] (head_at None l (λ e. cc) (to l refl)) Nil
    last_leads (TacBranch r y z) to =
        Cons (Branch r y) (Jump z ∷ []) (head_at None y (λ e. cc) (to y (inl refl))) (Cons (Jump z) [] (head_at None z (λ e. cc) (to z (inr refl))) Nil)
    last_leads (TacCall d g args l) to = Cons (Call (reg_of d) g l args) [] (head_at None l (λ e. cc) (to l refl)) Nil
    last_leads (Ret r) to = Cons (Return r) [] refl Nil

    inner_leads : (e : End) (next : ℕ) → StaysIn e → IsTargetOf e next → IsGoodEnd f.regs (length f.blocks) funcs e → ((l : ℕ) → IsTargetOf e l → IsHead chains l ⊎ (Some next ≡ Some l)) → Every Leads (end_acts e (Some next))
    inner_leads (TacJump l) next stays to' good to = Nil
    inner_leads (TacBranch r y z) next stays to' good to =
        ⊎_elim
        (λ t.
        subst (λ q. Every Leads (if q then BranchZero r z ∷ [] else Branch r y ∷ [])) (sym t.0)
        (Cons (BranchZero r z) []
        (head_at (Some next) z (λ e. let same : next ≡ z = cc in good.3 (t.1 ∙ same)) (to z (inr refl))) Nil))
        (λ o.
        subst (λ q. Every Leads (if q then BranchZero r z ∷ [] else Branch r y ∷ [])) (sym o.0)
        (Cons (Branch r y) [] (head_at (Some next) y (λ e. let same : next ≡ y = cc in o.1 (sym same)) (to y (inl refl))) Nil))
        (eqb_tells y next)
    inner_leads (TacCall d g args l) next stays to' good to = absurd stays
    inner_leads (Ret r) next stays to' good to = absurd stays

    leads_of : (label : ℕ) (b : Block) (more : Labels) → AtPlace f chains label b more → Every Leads (end_acts b.«end» (first_of more))
    leads_of label b [] at = last_leads b.«end» (λ l is. leads funcs places f chains formed' label l b [] at is)
    leads_of label b (next ∷ more) at =
        inner_leads b.«end» next (straight funcs places f chains formed' label next b more at) (linked funcs places f chains formed' label next b more at)
        (good_block funcs places f chains formed' label b at.block).ends (λ l is. leads funcs places f chains formed' label l b (next ∷ more) at is)

module _ (p : FormedProgram) (valid : IsValid p.copied.tac) (are : AreFormed p.copied.tac.funcs p.traces) where
  abbrev funcs : List TacFunc
  funcs = p.copied.tac.funcs

  abbrev homes : List Place
  homes = p.copied.tac.places

  abbrev all : List SuperblockCode
  all = all_numbered 1 (drafted p.copied.tac.places 0 p.copied.tac.funcs p.traces)

  abbrev InRanges : List WideOp → Type 0
  InRanges items = Every (λ (op : WideOp). InRange op.act) items

  -- a superblock of a chain of the program
  record IsOfChain (d : Drafted) : Type 0 where
    f : TacFunc
    chains : List Labels
    more : Labels
    is : slice_get funcs d.func ≡ Some f
    traces : slice_get p.traces d.func ≡ Some chains
    head : IsHead chains d.head
    first : head.more ≡ more
    drafts : d.drafts ≡ chain_drafts homes f (d.head ∷ more)

  -- its superblock keeps what one keeps by itself
  straight_by : (d : Drafted) → IsOfChain d → (n : ℕ) → 0 < n → InRanges (numbered n d.drafts) → IsStraight (numbered n d.drafts)
  straight_by d c n lt ranges =
      let i = is_formed p valid are d.func c.f c.is in
      let same : Some i.0 ≡ Some c.chains = sym i.1 ∙ c.traces in
      let one : i.0 ≡ c.chains = cc in
      let formed' : IsFormed funcs (length homes) c.f c.chains = subst (λ cs. IsFormed funcs (length homes) c.f cs) one i.2 in
      let b = head_place funcs (length homes) c.f c.chains formed' d.head c.head in
      let at : AtPlace c.f c.chains d.head b.0 c.more = subst (λ m. AtPlace c.f c.chains d.head b.0 m) c.first b.1 in
      record {
        rises = rises 0 n d.drafts lt;
        sources = subst (λ ds. Every (λ (op : WideOp). is_source op.act ≡ true) (numbered n ds)) (sym c.drafts) (sources funcs homes (length homes) c.f c.chains formed' n d.head b.0 c.more at);
        in_range = ranges;
        last = subst (λ ds. EndsLast (numbered n ds)) (sym c.drafts) (ends_last funcs homes (length homes) c.f c.chains formed' n d.head b.0 c.more at);
      }

  -- and what one of a program keeps
  superblock_by : (d : Drafted) → IsOfChain d → (n : ℕ) → 0 < n → InRanges (numbered n d.drafts) → IsSuperblockOf funcs all (record { func = d.func; head = d.head; items = numbered n d.drafts })
  superblock_by d c n lt ranges =
      let i = is_formed p valid are d.func c.f c.is in
      let same : Some i.0 ≡ Some c.chains = sym i.1 ∙ c.traces in
      let one : i.0 ≡ c.chains = cc in
      let formed' : IsFormed funcs (length homes) c.f c.chains = subst (λ cs. IsFormed funcs (length homes) c.f cs) one i.2 in
      let b = head_place funcs (length homes) c.f c.chains formed' d.head c.head in
      let at : AtPlace c.f c.chains d.head b.0 c.more = subst (λ m. AtPlace c.f c.chains d.head b.0 m) c.first b.1 in
      let heads : (l : ℕ) → IsHead c.chains l → is_head all d.func l ≡ true =
      λ l h.
      let g = begins c.chains h.chain l h.more h.is in
      head_there homes funcs p.traces d.func l c.f c.chains g.more c.is c.traces (head_below funcs (length homes) c.f c.chains formed' l h) g.at in
      let fits : FitsFunc (Some c.f) (record { func = d.func; head = d.head; items = numbered n d.drafts }) =
      λ live tells. record {
        fits = λ r need. (tells d.head r).1 (chain_live funcs homes (length homes) c.f c.chains formed' live tells r n d.head b.0 c.more at (subst (λ ds. needs live (numbered n ds) r ≡ true) c.drafts need));
      } in
      record {
        straight = straight_by d c n lt ranges;
        fits = subst (λ o. FitsFunc o (record { func = d.func; head = d.head; items = numbered n d.drafts })) (sym c.is) fits;
        targets =
            subst (λ ds. Every (λ (op : WideOp). leads_to_heads (is_head all d.func) op.act ≡ true) (numbered n ds)) (sym c.drafts)
            (items_each funcs homes (length homes) c.f c.chains formed' (λ act. leads_to_heads (is_head all d.func) act ≡ true) (λ op good. refl)
            (leads_of funcs (length homes) c.f c.chains formed' (is_head all d.func) heads) n d.head b.0 c.more at);
        good =
            subst (λ ds. Every (λ (op : WideOp). IsGood funcs op.act) (numbered n ds)) (sym c.drafts)
            (items_each funcs homes (length homes) c.f c.chains formed' (IsGood funcs) (λ op good. good.act.number)
            (λ l k m place. good_acts funcs (length homes) c.f c.chains formed' k.«end» (first_of m) (good_block funcs (length homes) c.f c.chains formed' l k place.block).ends)
            n d.head b.0 c.more at);
      }

  of_chain : (func : ℕ) (f : TacFunc) (chains : List Labels) (l m : ℕ) (ms : Labels) → slice_get funcs func ≡ Some f → slice_get p.traces func ≡ Some chains → chain_at chains l ≡ m ∷ ms → IsOfChain (record { func = func; head = m; drafts = chain_drafts homes f (m ∷ ms) })
  of_chain func f chains l m ms is traces e =
      let c = of_chains chains l m ms e in record {
        f = f;
        chains = chains;
        more = ms;
        is = is;
        traces = traces;
        head = record { chain = c.0; more = ms; is = c.1 };
        first = refl;
        drafts = refl;
      }

  labels_are : (func : ℕ) (f : TacFunc) (chains : List Labels) → slice_get funcs func ≡ Some f → slice_get p.traces func ≡ Some chains → (labels : List ℕ) → Every IsOfChain (drafted_labels homes func f chains labels)
  labels_are func f chains is traces [] = Nil
  labels_are func f chains is traces (l ∷ ls) = by (chain_at chains l) refl (labels_are func f chains is traces ls)
    where
      by : (chain : Labels) → chain_at chains l ≡ chain → Every IsOfChain (drafted_labels homes func f chains ls) → Every IsOfChain (drafted_chain homes func f chain ++ drafted_labels homes func f chains ls)
      by [] e rest = rest
      by (m ∷ ms) e rest =
          Cons (record { func = func; head = m; drafts = chain_drafts homes f (m ∷ ms) }) (drafted_labels homes func f chains ls) (of_chain func f chains l m ms is traces e) rest

  funcs_are : (i : ℕ) (fs : List TacFunc) (css : List (List Labels)) → ((k g : ℕ) (f : TacFunc) → g ≡ i + k → slice_get fs k ≡ Some f → slice_get funcs g ≡ Some f) → ((k g : ℕ) (cs : List Labels) → g ≡ i + k → slice_get css k ≡ Some cs → slice_get p.traces g ≡ Some cs) → Every IsOfChain (drafted homes i fs css)
  funcs_are i [] css of_funcs of_traces = Nil
  funcs_are i (f ∷ fs) [] of_funcs of_traces = Nil
  funcs_are i (f ∷ fs) (cs ∷ css) of_funcs of_traces =
      every_append IsOfChain (drafted_labels homes i f cs (upto (length f.blocks))) (drafted homes (suc i) fs css)
      (labels_are i f cs (of_funcs 0 i f (omega arith) refl) (of_traces 0 i cs (omega arith) refl) (upto (length f.blocks)))
      (funcs_are (suc i) fs css (λ k g h e is. of_funcs (suc k) g h (omega arith) is) (λ k g h e is. of_traces (suc k) g h (omega arith) is))

  all_are : (n : ℕ) (ds : List Drafted) → 0 < n → Every IsOfChain ds → Every (λ (b : SuperblockCode). InRanges b.items) (all_numbered n ds) → Every (IsSuperblockOf funcs all) (all_numbered n ds)
  all_are n [] lt Nil Nil = Nil
  all_are n (d ∷ ds) lt (Cons _ _ c each) (Cons _ _ ranges rest) =
      let grows = behind_grows n d.drafts in
      Cons (record { func = d.func; head = d.head; items = numbered n d.drafts }) (all_numbered (number_behind n d.drafts) ds) (superblock_by d c n lt ranges)
      (all_are (number_behind n d.drafts) ds (omega arith) each rest)

  -- the superblock of a chain that begins with a label
  pub chain_straight : (func l : ℕ) (f : TacFunc) (chains : List Labels) (ms : Labels) (n : ℕ) → slice_get funcs func ≡ Some f → slice_get p.traces func ≡ Some chains → chain_at chains l ≡ l ∷ ms → 0 < n → InRanges (numbered n (chain_drafts homes f (l ∷ ms))) → IsStraight (numbered n (chain_drafts homes f (l ∷ ms)))
  chain_straight func l f chains ms n is traces e lt ranges =
      straight_by (record { func = func; head = l; drafts = chain_drafts homes f (l ∷ ms) }) (of_chain func f chains l l ms is traces e) n lt ranges

  entries : (func : ℕ) → func < length funcs → is_head all func 0 ≡ true
  entries func lt =
      ⊎_elim
      (λ c.
      let i = is_formed p valid are func c.0 c.2 in
      let h = entry_head funcs (length homes) c.0 i.0 i.2 in
      let g = begins i.0 h.chain 0 h.more h.is in
      head_there homes funcs p.traces func 0 c.0 i.0 g.more c.2 i.1 i.2.good.entry g.at)
      (λ c. let le = c.0 in absurd (omega arith))
      (slice_get_cases funcs func).1

  -- constants are in range by their type, which definitions do not see
  pub formed_keeps : Every (λ (b : SuperblockCode). InRanges b.items) (formed p).all → AreSuperblocks p.copied.tac.funcs (formed p).all
  unfolding formed
  formed_keeps ranges = record {
    entries = entries;
    order = ordered homes funcs p.traces;
    rises = all_rise 0 1 (drafted homes 0 funcs p.traces) (omega arith);
    each = all_are 1 (drafted homes 0 funcs p.traces) (omega arith) (funcs_are 0 funcs p.traces (λ k g f e is. let same : g ≡ k = omega arith in ap (slice_get funcs) same ∙ is) (λ k g cs e is. let same : g ≡ k = omega arith in ap (slice_get p.traces) same ∙ is)) ranges;
  }
