-- What a code maker appends.
use Rattle.std.specs.Prelude.{◌≡◌, ℕ, suc, ◌+◌, ◌≤◌, List, [], ◌∷◌, ◌++◌, length}
use Rattle.wide_core.specs.declared.code.WideAct.{WideAct}
use Rattle.first_code.specs.declared.maker.CodeMaker.{CodeMaker}
use Rattle.first_form.specs.declared.program.Program.{Program}
use Rattle.first_form.specs.declared.program.Stmt.{Stmt}
use Rattle.first_form.specs.declared.kind.Word.{Word as Spelling}
use Rattle.first_form.specs.FirstForm.{AreProgram}
use Rattle.first_code.specs.Code.{words_of, body_words, body_slot, declared_after}

-- the operations were appended, each in a word of its own, and the next free slot is this one
pub record Makes (old new : CodeMaker) (acts : List WideAct) (slot : ℕ) : Type 0 where
  pub words : new.words ≡ old.words ++ words_of (suc (length old.words)) old.place acts
  pub next : new.slot ≡ slot
  pub same_place : new.place ≡ old.place

-- numbers of operations and slots stay numbers of 32 bits
pub record HasRoom (old : CodeMaker) (acts : List WideAct) (slot : ℕ) : Type 0 where
  pub numbers : length old.words + length acts ≤ 4294967295
  pub slots : slot ≤ 4294967295

-- all statements were appended, and the return behind them
pub record MakesBody (old new : CodeMaker) (body : List Stmt) : Type 0 where
  pub words : new.words ≡ old.words ++ body_words (suc (length old.words)) 0 old.slot body
  pub next : new.slot ≡ body_slot old.slot body

pub record HasBodyRoom (old : CodeMaker) (body : List Stmt) : Type 0 where
  pub numbers : length old.words + length (body_words (suc (length old.words)) 0 old.slot body) ≤ 4294967295
  pub slots : body_slot old.slot body ≤ 4294967295

-- behind each statement, at most so many variables are declared
abbrev pub DeclaresFew : ℕ → ℕ → List Stmt → Type 0
DeclaresFew most declared [] = declared ≤ most
DeclaresFew most declared (stmt ∷ rest) = DeclaresFew most (declared_after declared stmt) rest

-- a program that few tokens spell
pub record IsShort (program : Program) : Type 0 where
  pub words : List Spelling
  pub few : length words ≤ 65536
  pub spelled : AreProgram words program
