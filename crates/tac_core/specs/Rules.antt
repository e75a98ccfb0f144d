-- The rules that a valid program keeps.
use Rattle.std.specs.Prelude.{◌≡◌, ◌≢◌, ℕ, ◌%◌, ◌<◌, ◌≤◌, nat_le, ◌&&◌, ◌||◌, Bool, IsTrue, List, [], ◌∷◌, Option, length, slice_get, IfSome, MatchOption}
use Rattle.std.specs.List.{All, AllPairs, Any}
use Rattle.ib_act.specs.declared.act.Act.{Act}
use Rattle.tac_core.specs.declared.code.TacOp.{TacOp}
use Rattle.tac_core.specs.declared.code.End.{End}
use Rattle.tac_core.specs.declared.code.End.TheVariants.{Jump, Branch, Call, Ret}
use Rattle.tac_core.specs.declared.code.Block.{Block}
use Rattle.tac_core.specs.declared.code.TacFunc.{TacFunc}
use Rattle.ib_act.specs.Acts.{target, first_source, second_source, HasGoodNumber}
use Rattle.tac_core.specs.Program.{Program, main_name}

-- a register that may be missing is one of the function's
abbrev pub IsRegister : (regs : ℕ) → Option ℕ → Type 0
IsRegister regs r = IfSome r (λ r. r < regs)

pub record IsGoodAct (regs : ℕ) (act : Act) : Type 0 where
  pub writes : IsRegister regs (target act)
  pub first : IsRegister regs (first_source act)
  pub second : IsRegister regs (second_source act)
  pub number : HasGoodNumber act

-- its registers and its statement are there
pub record IsGoodOp (regs places : ℕ) (op : TacOp) : Type 0 where
  pub stmt : op.stmt < places
  pub act : IsGoodAct regs op.act

-- an edge leads to a block other than the entry
abbrev pub IsTarget : (blocks : ℕ) → ℕ → Type 0
IsTarget blocks l = (0 < l) × (l < blocks)

-- the called function is there and has as many parameters as there are arguments
abbrev pub Takes : List TacFunc → (func count : ℕ) → Type 0
Takes funcs func count = MatchOption (slice_get funcs func) ⊥ (λ f. count ≡ length f.params)

abbrev pub IsGoodEnd : (regs blocks : ℕ) → List TacFunc → End → Type 0
IsGoodEnd regs blocks funcs (Jump l) = IsTarget blocks l
IsGoodEnd regs blocks funcs (Branch r y n) = (r < regs) × IsTarget blocks y × IsTarget blocks n × (y ≢ n)
IsGoodEnd regs blocks funcs (Call d f args l) =
    IsRegister regs d × All (λ a. a < regs) args × IsTarget blocks l × Takes funcs f (length args)
IsGoodEnd regs blocks funcs (Ret r) = IsRegister regs r

pub record IsGoodBlock (regs blocks places : ℕ) (funcs : List TacFunc) (b : Block) : Type 0 where
  pub few : length b.ops ≤ 512
  pub ops : All (IsGoodOp regs places) b.ops
  pub ends : IsGoodEnd regs blocks funcs b.«end»
  pub stmt : b.end_stmt < places

abbrev pub is_letter : ℕ → Bool
is_letter b = (nat_le 65 b && nat_le b 90) || ((nat_le 97 b && nat_le b 122) || (nat_le 95 b && nat_le b 95))

abbrev pub is_digit : ℕ → Bool
is_digit b = nat_le 48 b && nat_le b 57

-- a name: a letter or `_`, then letters, digits and `_`
abbrev pub IsName : List ℕ → Type 0
IsName [] = ⊥
IsName (b ∷ bs) = IsTrue (is_letter b) × All (λ c. IsTrue (is_letter c || is_digit c)) bs

-- no two parameters are one register
abbrev pub AreDistinct : List ℕ → Type 0
AreDistinct params = AllPairs (λ a b. a ≢ b) params

pub record IsGoodFunc (places : ℕ) (funcs : List TacFunc) (f : TacFunc) : Type 0 where
  pub named : IsName f.name
  pub entry : 0 < length f.blocks
  pub few : length f.params ≤ 8
  pub params : All (λ r. r < f.regs) f.params
  pub distinct : AreDistinct f.params
  pub frame : f.frame ≤ 262144
  pub aligned : f.frame % 16 ≡ 0
  pub blocks : All (IsGoodBlock f.regs (length f.blocks) places funcs) f.blocks

abbrev pub NamesDiffer : List TacFunc → Type 0
NamesDiffer funcs = AllPairs (λ f g. f.name ≢ g.name) funcs

-- it has this name and no parameters
abbrev pub IsMain : TacFunc → Type 0
IsMain f = (f.name ≡ main_name) × (f.params ≡ [])

-- the rules, by the number of the image's bytes, the number of places, and the functions
pub record KeepsRules (image places : ℕ) (funcs : List TacFunc) : Type 0 where
  pub small : image ≤ 524288
  pub each : All (IsGoodFunc places funcs) funcs
  pub differ : NamesDiffer funcs
  pub main : Any IsMain funcs

abbrev pub IsValid : Program → Type 0
IsValid p = KeepsRules (length p.image) (length p.places) p.funcs
