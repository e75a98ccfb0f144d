-- What allocation needs of the words of a schedule: who stands beside whom, and that nobody feels what another one does.
use Rattle.std.specs.Prelude.{◌≡◌, ℕ, Bool, true, false, List, [], ◌∷◌, Some}
use Rattle.wide_core.specs.declared.code.WideOp.{WideOp}
use Rattle.wide_core.specs.Classes.{is_register, is_control}
use Rattle.wide_core.specs.Word.{Flow, apply}
use Rattle.wide_core.specs.Uses.{reads, in_list, written}
use Rattle.wide_core.specs.Flat.{one_effect, at_exits}
use Rattle.wide_core.specs.Every.{Every}

-- b stands behind a in a word: it does not read what a writes, and may be done where a has left
pub record NextTo (heads : ℕ → ℕ → Bool) (one : Bool) (a b : WideOp) : Type 0 where
  pub misses : (d : ℕ) → written a.act ≡ Some d → in_list d (reads b.act) ≡ false
  pub flagged : one ≡ true → is_control a.act ≡ true → b.flagged ≡ true
  pub register : one ≡ true → is_control a.act ≡ true → is_register b.act ≡ true
  pub spared : one ≡ true → (d : ℕ) → written b.act ≡ Some d → at_exits heads a.act d ≡ false

pub data Sits (heads : ℕ → ℕ → Bool) (one : Bool) : List WideOp → Type 0 where
  SitsNone : Sits heads one []
  SitsOp : (op : WideOp) (ops : List WideOp) → Every (NextTo heads one op) ops → Sits heads one ops → Sits heads one (op ∷ ops)

pub data SitsAll (heads : ℕ → ℕ → Bool) (one : Bool) : List (List WideOp) → Type 0 where
  SitsNoWord : SitsAll heads one []
  SitsWord : (ops : List WideOp) (words : List (List WideOp)) → Sits heads one ops → SitsAll heads one words → SitsAll heads one (ops ∷ words)

module _ (base : ℕ) (room : ℕ → Bool) where
  abbrev pub through : List WideOp → Flow → Flow
  through [] s = s
  through (op ∷ ops) s = through ops (apply (one_effect base room op s) s)

  -- each operation's effect is the same, read before or behind those that stand before it in its word
  pub data Turns : List WideOp → Flow → Type 0 where
    TurnsNone : (s : Flow) → Turns [] s
    TurnsOp : (op : WideOp) (ops : List WideOp) (s : Flow) → Every (λ (b : WideOp). one_effect base room b s ≡ one_effect base room b (apply (one_effect base room op s) s)) ops → Turns ops (apply (one_effect base room op s) s) → Turns (op ∷ ops) s

  pub data TurnsAll : List (List WideOp) → Flow → Type 0 where
    TurnsNoWord : (s : Flow) → TurnsAll [] s
    TurnsWord : (ops : List WideOp) (words : List (List WideOp)) (s : Flow) → Turns ops s → TurnsAll words (through ops s) → TurnsAll (ops ∷ words) s
