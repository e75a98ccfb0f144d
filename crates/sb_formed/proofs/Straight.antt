-- What holds of each act of a chain, its numbers, and its last item.
use Rattle.std.proofs.Common.{◌≡◌, ℕ, suc, ◌<◌, ◌≤◌, Bool, true, false, List, [], ◌∷◌, ◌++◌, Option, Some, None, map, refl, sym, subst, arith, if◌then◌else◌}
use Rattle.std.specs.Prelude.{◌==◌}
use Rattle.ib_meaning.specs.declared.place.Place.{Place}
use Rattle.wide_core.specs.declared.code.WideAct.{WideAct}
use Rattle.wide_core.specs.declared.code.WideAct.TheVariants.{Do, Jump, Branch, BranchZero, Call, Return}
use Rattle.wide_core.specs.declared.code.WideOp.{WideOp}
use Rattle.wide_core.specs.Classes.{traps}
use Rattle.wide_core.specs.Every.{Every, Nil, Cons}
use Rattle.wide_core.specs.Operation.{reg_of}
use Rattle.tac_core.specs.declared.code.TacOp.{TacOp}
use Rattle.tac_core.specs.declared.code.End.{End}
use Rattle.tac_core.specs.declared.code.End.TheVariants.{Jump as TacJump, Branch as TacBranch, Call as TacCall, Ret}
use Rattle.tac_core.specs.declared.code.Block.{Block}
use Rattle.tac_core.specs.declared.code.TacFunc.{TacFunc}
use Rattle.tac_core.specs.Rules.{IsGoodOp}
use Rattle.tac_core.specs.Traces.{Labels, StaysIn}
use Rattle.sb_order.specs.Superblock.{Rises, RisesNot, RisesBy, last_number}
use Rattle.sb_order.specs.Order.{EndsLast, TheLast, NotLast}
use Rattle.sb_core.specs.Facts.{is_source}
use Rattle.sb_core.specs.Program.{all_items}
use Rattle.sb_formed.specs.Formed.{Draft, Drafted, first_of, op_draft, end_acts, end_drafts, chain_drafts, block_drafts, item, numbered, next_number, number_behind, all_numbered}
use Rattle.sb_formed.proofs.Calls.{every_of}
use Rattle.sb_formed.proofs.Order.{every_append}
use Rattle.sb_formed.proofs.Heads.{IsFormed, AtPlace, good_block, straight, next_place}

-- ---- numbers

-- the number of a check lies before the next number
last_below : (n : ℕ) (d : Draft) → last_number (item n d) < next_number n d.act
last_below n d = by (traps d.act)
  where
    by : (b : Bool) → (if b then suc n else n) < (if b then suc (suc n) else suc n)
    by true = omega arith
    by false = omega arith

-- numbers rise through numbered drafts and on through what stands behind them
pub rises_on : (m n : ℕ) (ds : List Draft) (behind : List WideOp) → m < n → ((k : ℕ) → k < number_behind n ds → Rises k behind) → Rises m (numbered n ds ++ behind)
rises_on m n [] behind lt rest = rest m lt
rises_on m n (d ∷ ds) behind lt rest =
    RisesBy m (item n d) (numbered (next_number n d.act) ds ++ behind) lt refl
    (rises_on (last_number (item n d)) (next_number n d.act) ds behind (last_below n d) rest)

pub rises : (m n : ℕ) (ds : List Draft) → m < n → Rises m (numbered n ds)
rises m n [] lt = RisesNot m
rises m n (d ∷ ds) lt =
    RisesBy m (item n d) (numbered (next_number n d.act) ds) lt refl
    (rises (last_number (item n d)) (next_number n d.act) ds (last_below n d))

pub all_rise : (m n : ℕ) (ds : List Drafted) → m < n → Rises m (all_items (all_numbered n ds))
all_rise m n [] lt = RisesNot m
all_rise m n (d ∷ ds) lt =
    rises_on m n d.drafts (all_items (all_numbered (number_behind n d.drafts) ds)) lt (λ k below. all_rise k (number_behind n d.drafts) ds below)

pub behind_grows : (n : ℕ) (ds : List Draft) → n ≤ number_behind n ds
behind_grows n [] = omega arith
behind_grows n (d ∷ ds) =
    let step = last_below n d in
    let own = by (traps d.act) in
    let rest = behind_grows (next_number n d.act) ds in
    omega arith
  where
    by : (b : Bool) → n ≤ (if b then suc (suc n) else suc n)
    by true = omega arith
    by false = omega arith

-- ---- each act

abbrev HasAct : (WideAct → Type 0) → WideOp → Type 0
HasAct P op = P op.act

numbered_each : (P : WideAct → Type 0) (n : ℕ) (ds : List Draft) → Every (λ (d : Draft). P d.act) ds → Every (λ (op : WideOp). P op.act) (numbered n ds)
numbered_each P n [] Nil = Nil
numbered_each P n (d ∷ ds) (Cons _ _ h each) =
    Cons (item n d) (numbered (next_number n d.act) ds) h (numbered_each P (next_number n d.act) ds each)

module _ (funcs : List TacFunc) (homes : List Place) (places : ℕ) (f : TacFunc) (chains : List Labels) (formed : IsFormed funcs places f chains) where
  module _ (P : WideAct → Type 0) (of_ops : (op : TacOp) → IsGoodOp f.regs places op → P (Do op.act)) (of_ends : (label : ℕ) (b : Block) (more : Labels) → AtPlace f chains label b more → Every P (end_acts b.«end» (first_of more))) where
    ops_each : (ops : List TacOp) → Every (IsGoodOp f.regs places) ops → Every (λ (d : Draft). P d.act) (map (op_draft homes) ops)
    ops_each [] Nil = Nil
    ops_each (op ∷ ops) (Cons _ _ good each) = Cons (op_draft homes op) (map (op_draft homes) ops) (of_ops op good) (ops_each ops each)

    acts_each : (home : Place) (acts : List WideAct) → Every P acts → Every (λ (d : Draft). P d.act) (map (λ act. let d : Draft = record { home = home; act = act } in d) acts)
    acts_each home [] Nil = Nil
    acts_each home (a ∷ acts) (Cons _ _ h each) =
        Cons (record { home = home; act = a }) (map (λ act. let d : Draft = record { home = home; act = act } in d) acts) h (acts_each home acts each)

    block_each : (label : ℕ) (b : Block) (more : Labels) → AtPlace f chains label b more → Every (λ (d : Draft). P d.act) (chain_drafts homes f more) → Every (λ (d : Draft). P d.act) (chain_drafts homes f (label ∷ more))
    block_each label b more at rest =
        subst (λ o. Every (λ (d : Draft). P d.act) (block_drafts homes o (first_of more) (chain_drafts homes f more))) (sym at.block)
        (every_append (λ (d : Draft). P d.act) (map (op_draft homes) b.ops) (end_drafts homes b (first_of more) ++ chain_drafts homes f more)
        (ops_each b.ops (every_of (IsGoodOp f.regs places) b.ops (good_block funcs places f chains formed label b at.block).ops))
        (every_append (λ (d : Draft). P d.act) (end_drafts homes b (first_of more)) (chain_drafts homes f more) (acts_each _ (end_acts b.«end» (first_of more)) (of_ends label b more at)) rest))

    chain_each : (label : ℕ) (b : Block) (more : Labels) → AtPlace f chains label b more → Every (λ (d : Draft). P d.act) (chain_drafts homes f (label ∷ more))
    chain_each label b [] at = block_each label b [] at Nil
    chain_each label b (next ∷ more) at =
        let q = next_place funcs places f chains formed label next b more at in
        block_each label b (next ∷ more) at (chain_each next q.0 more q.1)

    pub items_each : (n label : ℕ) (b : Block) (more : Labels) → AtPlace f chains label b more → Every (λ (op : WideOp). P op.act) (numbered n (chain_drafts homes f (label ∷ more)))
    items_each n label b more at = numbered_each P n (chain_drafts homes f (label ∷ more)) (chain_each label b more at)

  -- ---- the last item always leaves, and no other

  ops_last : (n : ℕ) (ops : List TacOp) (ds : List Draft) → ((k : ℕ) → EndsLast (numbered k ds)) → EndsLast (numbered n (map (op_draft homes) ops ++ ds))
  ops_last n [] ds rest = rest n
  ops_last n (op ∷ ops) ds rest =
      NotLast (item n (op_draft homes op)) (numbered (next_number n (Do op.act)) (map (op_draft homes) ops ++ ds)) refl (ops_last (next_number n (Do op.act)) ops ds rest)

  abbrev op_at : Place → ℕ → WideAct → WideOp
  op_at home n act = record { number = n; home = home; flagged = false; act = act }

  abbrev drafts_at : Place → List WideAct → List Draft
  drafts_at home acts = map (λ act. let d : Draft = record { home = home; act = act } in d) acts

  last_end : (home : Place) (e : End) (n : ℕ) → EndsLast (numbered n (drafts_at home (end_acts e None) ++ []))
  last_end home (TacJump l) n = TheLast (op_at home n (Jump l)) refl
  last_end home (TacBranch r y z) n =
      NotLast (op_at home n (Branch r y)) (op_at home (suc n) (Jump z) ∷ []) refl (TheLast (op_at home (suc n) (Jump z)) refl)
  last_end home (TacCall d g args l) n = TheLast (op_at home n (Call (reg_of d) g l args)) refl
  last_end home (Ret r) n = TheLast (op_at home n (Return r)) refl

  inner_end : (home : Place) (e : End) (next n : ℕ) (ds : List Draft) → StaysIn e → ((k : ℕ) → EndsLast (numbered k ds)) → EndsLast (numbered n (drafts_at home (end_acts e (Some next)) ++ ds))
  inner_end home (TacJump l) next n ds stays rest = rest n
  inner_end home (TacBranch r y z) next n ds stays rest = by (y == next)
    where
      by : (q : Bool) → EndsLast (numbered n (drafts_at home (if q then BranchZero r z ∷ [] else Branch r y ∷ []) ++ ds))
      by true = NotLast (op_at home n (BranchZero r z)) (numbered (suc n) ds) refl (rest (suc n))
      by false = NotLast (op_at home n (Branch r y)) (numbered (suc n) ds) refl (rest (suc n))
  inner_end home (TacCall d g args l) next n ds stays rest = absurd stays
  inner_end home (Ret r) next n ds stays rest = absurd stays

  pub ends_last : (n label : ℕ) (b : Block) (more : Labels) → AtPlace f chains label b more → EndsLast (numbered n (chain_drafts homes f (label ∷ more)))
  ends_last n label b [] at =
      subst (λ o. EndsLast (numbered n (block_drafts homes o None []))) (sym at.block)
      (ops_last n b.ops (end_drafts homes b None ++ []) (λ k. last_end _ b.«end» k))
  ends_last n label b (next ∷ more) at =
      let q = next_place funcs places f chains formed label next b more at in
      subst (λ o. EndsLast (numbered n (block_drafts homes o (Some next) (chain_drafts homes f (next ∷ more))))) (sym at.block)
      (ops_last n b.ops (end_drafts homes b (Some next) ++ chain_drafts homes f (next ∷ more))
      (λ k. inner_end _ b.«end» next k (chain_drafts homes f (next ∷ more)) (straight funcs places f chains formed label next b more at)
      (λ j. ends_last j next q.0 more q.1)))

  -- ---- no checks and no slots

  sources_of : (e : End) (next : Option ℕ) → Every (λ act. is_source act ≡ true) (end_acts e next)
  sources_of (TacJump l) None = Cons (Jump l) [] refl Nil
  sources_of (TacJump l) (Some next) = Nil
  sources_of (TacBranch r y z) None = Cons (Branch r y) (Jump z ∷ []) refl (Cons (Jump z) [] refl Nil)
  sources_of (TacBranch r y z) (Some next) = by (y == next)
    where
      by : (q : Bool) → Every (λ act. is_source act ≡ true) (if q then BranchZero r z ∷ [] else Branch r y ∷ [])
      by true = Cons (BranchZero r z) [] refl Nil
      by false = Cons (Branch r y) [] refl Nil
  sources_of (TacCall None g args l) next = Cons (Call None g l args) [] refl Nil
  sources_of (TacCall (Some d) g args l) next = Cons (Call (reg_of (Some d)) g l args) [] refl Nil
  sources_of (Ret r) next = Cons (Return r) [] refl Nil

  pub sources : (n label : ℕ) (b : Block) (more : Labels) → AtPlace f chains label b more → Every (λ (op : WideOp). is_source op.act ≡ true) (numbered n (chain_drafts homes f (label ∷ more)))
  sources n label b more at =
      items_each (λ act. is_source act ≡ true) (λ op good. refl) (λ l c m place. sources_of c.«end» (first_of m)) n label b more at
