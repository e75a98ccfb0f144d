-- Code as it is before any scheduling: one operation in each word, none of them flagged.
use Rattle.std.specs.Prelude.{◌≡◌, false, List, [], ◌∷◌}
use Rattle.wide_core.specs.declared.code.RawCode.{RawCode}
use Rattle.wide_core.specs.declared.code.WideFunc.{WideFunc}
use Rattle.wide_core.specs.declared.code.WideOp.{WideOp}
use Rattle.wide_core.specs.declared.code.Word.{Word}

pub record IsSingle (word : Word) : Type 0 where
  pub op : WideOp
  pub alone : word.ops ≡ op ∷ []
  pub unflagged : op.flagged ≡ false

abbrev pub AreSingle : List Word → Type 0
AreSingle [] = Unit {0}
AreSingle (word ∷ words) = IsSingle word × AreSingle words

abbrev pub ArePlain : List WideFunc → Type 0
ArePlain [] = Unit {0}
ArePlain (func ∷ funcs) = AreSingle func.words × ArePlain funcs

pub record IsPlain (code : RawCode) : Type 0 where
  pub funcs : ArePlain code.funcs
