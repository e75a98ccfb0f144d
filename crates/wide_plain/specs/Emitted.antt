-- What words are added to those of a function, and where its labels stand.
use Rattle.std.specs.Prelude.{◌≡◌, ℕ, ◌+◌, ◌≤◌, List, ◌++◌, length, slice_index_or}
use Rattle.std.specs.List.{All}
use Rattle.ib_meaning.specs.declared.place.Place.{Place}
use Rattle.tac_core.specs.declared.code.End.{End}
use Rattle.tac_core.specs.declared.code.End.TheVariants.{Jump, Branch, Call, Ret}
use Rattle.tac_core.specs.declared.code.Block.{Block}
use Rattle.tac_core.specs.declared.code.TacFunc.{TacFunc}
use Rattle.plain_code.specs.Plain.{Item, numbered, start}
use Rattle.wide_plain.specs.declared.emitter.Emitter.{Emitter}
use Rattle.wide_plain.specs.declared.starts.Starts.{Starts}

-- the words of these operations, numbered on, are added
pub record Emits (items : List Item) (before after : Emitter) : Type 0 where
  pub words : after.words ≡ before.words ++ numbered before.number items
  pub next : after.number ≡ before.number + length items

-- the first word of a label
abbrev pub word_of : Starts → ℕ → ℕ
word_of starts l = slice_index_or starts.of l starts.behind

pub record AreStarts (low : ℕ) (blocks : List Block) (starts : Starts) : Type 0 where
  pub each : (places : List Place) (l : ℕ) → word_of starts l ≡ start low places blocks l

-- how many registers an end passes
abbrev pub args_of : End → ℕ
args_of (Jump l) = 0
args_of (Branch r y n) = 0
args_of (Call d f args l) = length args
args_of (Ret r) = 0

-- no call has more arguments than there are registers to carry them
abbrev pub PassesFew : Block → Type 0
PassesFew b = args_of b.«end» ≤ 8

abbrev pub PassFew : List TacFunc → Type 0
PassFew funcs = All (λ f. All PassesFew f.blocks) funcs
