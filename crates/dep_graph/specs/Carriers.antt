-- Of which registers the next member of the chain reads a carrier, from the end backwards.
use Rattle.std.specs.Prelude.{◌≡◌, ℕ, Bool, false, ◌==◌, List, [], ◌∷◌, ◌++◌, Option, Some, None, if◌then◌else◌}
use Rattle.wide_core.specs.declared.code.WideOp.{WideOp}
use Rattle.wide_core.specs.Classes.{is_register}
use Rattle.wide_core.specs.Uses.{reads, in_list, written}
use Rattle.sb_order.specs.Superblock.{checked}
use Rattle.sb_core.specs.Chain.{chain}

abbrev pub has : Option ℕ → List ℕ → Bool
has None rs = false
has (Some r) rs = in_list r rs

abbrev pub without : ℕ → List ℕ → List ℕ
without r [] = []
without r (q ∷ qs) = if r == q then without r qs else q ∷ without r qs

-- before an operation: what it reads in place of what it writes
abbrev pub through : Option ℕ → (reads behind : List ℕ) → List ℕ
through None reads behind = behind
through (Some w) reads behind = if in_list w behind then reads ++ without w behind else behind

-- those that carry on to the first member
abbrev pub carrying : List WideOp → List ℕ
carrying [] = []
carrying (op ∷ ops) = if is_register op.act then through (written op.act) (reads op.act) (carrying ops) else reads op.act

abbrev pub backwards : List ℕ → List ℕ
backwards [] = []
backwards (x ∷ xs) = backwards xs ++ x ∷ []

-- what is known of the items behind: their chain, the last member first, and what carries on to its first member
pub record AreBehind (items : List WideOp) (chained carriers : List ℕ) : Type 0 where
  pub members : chained ≡ backwards (chain items)
  pub carry : carriers ≡ carrying (checked items)
