-- What a host tells of the outside, and how its calls change it.
use Rattle.std.specs.Prelude.{◌≡◌, ◌≢◌, ℕ, ◌+◌, ◌<◌, ◌≤◌, Bool, true, false, List, [], ◌∷◌, ◌++◌, length, Option, Some, None, IfSome, IsSomeAnd}
use Rattle.std.specs.Option.{option_map}
use Rattle.std.specs.Ordering.{nat_cmp}
use Rattle.std.specs.Cmp.Lexicographic.{slice_cmp}
use Rattle.std.specs.FinMap.{FinMap, get, insert}
use Rattle.std.specs.Io.KnownBytes.{append_known}

-- contents by the bytes of the files' names
abbrev pub Files : Type 0
Files = FinMap (slice_cmp nat_cmp) (List ℕ)

-- the files, and the names of the writes of files that failed, in their order
pub record Disk : Type 0 where
  pub files : Files
  pub failed : List (List ℕ)

-- what a host tells, with `None` for what it does not tell: the files, the input left, the output and the notes
pub record World : Type 0 where
  pub disk : Option Disk
  pub input : Option (List ℕ)
  pub output : Option (List ℕ)
  pub notes : Option (List ℕ)

-- of the input nothing but its end, once it was seen
abbrev pub end_seen : Bool → Option (List ℕ)
end_seen true = Some []
end_seen false = None

-- nothing is told but this of the input
abbrev pub silent : Option (List ℕ) → World
silent input = record { disk = None; input = input; output = None; notes = None }

-- where files are told, the one of this name has this content
abbrev pub HasFile : World → List ℕ → List ℕ → Type 0
HasFile w name content = IfSome w.disk (λ disk. get disk.files name ≡ Some content)

-- files are told, and none has this name
abbrev pub LacksFile : World → List ℕ → Type 0
LacksFile w name = IsSomeAnd w.disk (λ disk. get disk.files name ≡ None)

-- the first list begins the second
abbrev pub Begins : List ℕ → List ℕ → Type 0
Begins part whole = (rest : List ℕ) × (whole ≡ part ++ rest)

-- the whole content, or its first bytes, one more than the limit, where it is longer than that
pub record IsBeginning (content : List ℕ) (limit : ℕ) (bytes : List ℕ) : Type 0 where
  pub whole : length bytes ≤ limit → bytes ≡ content
  pub begins : Begins bytes content
  pub length_is : limit < length bytes → length bytes ≡ limit + 1

-- where files are told, the one of this name is longer than the limit, and these are its first bytes, one more than that
pub record BeginsFile (w : World) (name : List ℕ) (limit : ℕ) (bytes : List ℕ) : Type 0 where
  pub content : List ℕ
  pub there : HasFile w name content
  pub begins : Begins bytes content
  pub long : length bytes ≡ limit + 1

-- the same, but for more output
abbrev pub printed : World → List ℕ → World
printed w bytes = record w { output = append_known w.output bytes }

-- the same, but for more notes
abbrev pub noted : World → List ℕ → World
noted w bytes = record w { notes = append_known w.notes bytes }

-- a beginning of some bytes was appended
pub record AppendsPart (old new whole : List ℕ) : Type 0 where
  pub part : List ℕ
  pub begins : Begins part whole
  pub appended : new ≡ old ++ part

-- a beginning of some bytes was printed, and nothing else changed
pub record PrintsPart (old new : World) (whole : List ℕ) : Type 0 where
  pub part : List ℕ
  pub begins : Begins part whole
  pub world : new ≡ printed old part

-- the same of notes
pub record NotesPart (old new : World) (whole : List ℕ) : Type 0 where
  pub part : List ℕ
  pub begins : Begins part whole
  pub world : new ≡ noted old part

-- the disk with another content of one file
abbrev pub with_content : List ℕ → List ℕ → Disk → Disk
with_content name content disk = record disk { files = insert disk.files name content }

-- the same, but for one file
abbrev pub with_file : World → List ℕ → List ℕ → World
with_file w name content = record w { disk = option_map (with_content name content) w.disk }

-- a write of a file failed: nothing is told of that file, and its name was appended to the failed ones
pub record SpoilsDisk (old new : Disk) (name : List ℕ) : Type 0 where
  pub failed : new.failed ≡ old.failed ++ name ∷ []
  pub others : (other : List ℕ) → other ≢ name → get new.files other ≡ get old.files other

-- the same, where a disk is told
abbrev pub Spoils : Option Disk → Option Disk → List ℕ → Type 0
Spoils None new name = new ≡ None
Spoils (Some old) None name = ⊥
Spoils (Some old) (Some new) name = SpoilsDisk old new name

-- a write of a file failed, and nothing else changed
pub record SpoilsFile (old new : World) (name : List ℕ) : Type 0 where
  pub rest : new ≡ record old { disk = new.disk }
  pub disk : Spoils old.disk new.disk name

-- the first byte of the input, where it is told, or the end; the end is told from then on, also by a host that tells no
-- byte
abbrev pub GivesByte : Option (List ℕ) → Option ℕ → Option (List ℕ) → Type 0
GivesByte None None left = left ≡ Some []
GivesByte None (Some byte) left = left ≡ None
GivesByte (Some []) byte left = (byte ≡ None) × (left ≡ Some [])
GivesByte (Some (first ∷ rest)) byte left = (byte ≡ Some first) × (left ≡ Some rest)

-- a byte was taken from the input, and nothing else changed
pub record TakesByte (old new : World) (byte : Option ℕ) : Type 0 where
  pub rest : new ≡ record old { input = new.input }
  pub taken : GivesByte old.input byte new.input
