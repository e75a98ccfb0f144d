-- The superblocks of a copied program's chains.
use Rattle.std.specs.Prelude.{ℕ, suc, ◌==◌, List, [], ◌∷◌, ◌++◌, map, length, Option, Some, None, if◌then◌else◌, slice_get}
use Rattle.ib_meaning.specs.declared.place.Place.{Place}
use Rattle.wide_core.specs.declared.code.WideAct.{WideAct}
use Rattle.wide_core.specs.declared.code.WideAct.TheVariants.{Do, Jump, Branch, BranchZero, Call, Return}
use Rattle.wide_core.specs.declared.code.WideOp.{WideOp}
use Rattle.wide_core.specs.Classes.{is_register, traps}
use Rattle.wide_core.specs.Operation.{reg_of}
use Rattle.tac_core.specs.declared.code.TacOp.{TacOp}
use Rattle.tac_core.specs.declared.code.End.{End}
use Rattle.tac_core.specs.declared.code.End.TheVariants.{Jump as Jumps, Branch as Branches, Call as Calls, Ret}
use Rattle.tac_core.specs.declared.code.Block.{Block}
use Rattle.tac_core.specs.declared.code.TacFunc.{TacFunc}
use Rattle.tac_core.specs.Cover.{upto}
use Rattle.tac_core.specs.Meaning.{place_of}
use Rattle.tac_core.specs.Traces.{Labels, FormedProgram}
use Rattle.sb_core.specs.Program.{SuperblockCode, SuperblockProgram}

-- ---- items that have no number yet

pub record Draft : Type 0 where
  pub home : Place
  pub act : WideAct

-- how the end of a block is written, where its chain goes on with a block, or ends here. A jump along the chain gives no item
abbrev pub end_acts : End → (next : Option ℕ) → List WideAct
end_acts (Jumps l) None = Jump l ∷ []
end_acts (Jumps l) (Some next) = []
end_acts (Branches r y n) None = Branch r y ∷ Jump n ∷ []
end_acts (Branches r y n) (Some next) = if y == next then BranchZero r n ∷ [] else Branch r y ∷ []
end_acts (Calls d f args l) next = Call (reg_of d) f l args ∷ []
end_acts (Ret r) next = Return r ∷ []

abbrev pub first_of : Labels → Option ℕ
first_of [] = None
first_of (l ∷ ls) = Some l

module _ (places : List Place) where
  abbrev pub op_draft : TacOp → Draft
  op_draft op = record { home = place_of places op.stmt; act = Do op.act }

  abbrev pub end_drafts : Block → (next : Option ℕ) → List Draft
  end_drafts b next = map (λ act. record { home = place_of places b.end_stmt; act = act }) (end_acts b.«end» next)

  -- a block, and what stands behind it
  abbrev pub block_drafts : Option Block → (next : Option ℕ) → (behind : List Draft) → List Draft
  block_drafts None next behind = behind
  block_drafts (Some b) next behind = map op_draft b.ops ++ (end_drafts b next ++ behind)

  -- the blocks of a chain, one behind the other
  abbrev pub chain_drafts : TacFunc → Labels → List Draft
  chain_drafts f [] = []
  chain_drafts f (l ∷ ls) = block_drafts (slice_get f.blocks l) (first_of ls) (chain_drafts f ls)

-- ---- numbers

-- the number behind an operation's, and behind a trapping operation's check's
abbrev pub next_number : ℕ → WideAct → ℕ
next_number n act = if traps act then suc (suc n) else suc n

-- exactly the register operations are flagged
abbrev pub item : ℕ → Draft → WideOp
item n d = record { number = n; home = d.home; flagged = is_register d.act; act = d.act }

-- numbered from n on; the number behind a trapping operation is left free
abbrev pub numbered : ℕ → List Draft → List WideOp
numbered n [] = []
numbered n (d ∷ ds) = item n d ∷ numbered (next_number n d.act) ds

abbrev pub number_behind : ℕ → List Draft → ℕ
number_behind n [] = n
number_behind n (d ∷ ds) = number_behind (next_number n d.act) ds

-- ---- superblocks

pub record Drafted : Type 0 where
  pub func : ℕ
  pub head : ℕ
  pub drafts : List Draft

-- the chain that begins with the label, empty where none does
abbrev pub chain_at : List Labels → ℕ → Labels
chain_at [] l = []
chain_at ([] ∷ chains) l = chain_at chains l
chain_at ((m ∷ ms) ∷ chains) l = if m == l then m ∷ ms else chain_at chains l

module _ (places : List Place) where
  abbrev pub drafted_chain : (func : ℕ) → TacFunc → Labels → List Drafted
  drafted_chain func f [] = []
  drafted_chain func f (l ∷ ls) = record { func = func; head = l; drafts = chain_drafts places f (l ∷ ls) } ∷ []

  -- of the labels in order, those that begin a chain
  abbrev pub drafted_labels : (func : ℕ) → TacFunc → List Labels → List ℕ → List Drafted
  drafted_labels func f chains [] = []
  drafted_labels func f chains (l ∷ ls) = drafted_chain func f (chain_at chains l) ++ drafted_labels func f chains ls

  -- functions from this number on, each by rising head
  abbrev pub drafted : (func : ℕ) → List TacFunc → List (List Labels) → List Drafted
  drafted func (f ∷ fs) (chains ∷ traces) = drafted_labels func f chains (upto (length f.blocks)) ++ drafted (suc func) fs traces
  drafted func fs traces = []

-- numbers rise over all superblocks
abbrev pub all_numbered : ℕ → List Drafted → List SuperblockCode
all_numbered n [] = []
all_numbered n (d ∷ ds) =
    record { func = d.func; head = d.head; items = numbered n d.drafts } ∷ all_numbered (number_behind n d.drafts) ds

-- the superblocks of the chains, numbered from 1 on
unfoldable pub formed : FormedProgram → SuperblockProgram
formed p = record {
  copied = p.copied;
  all = all_numbered 1 (drafted p.copied.tac.places 0 p.copied.tac.funcs p.traces);
}
