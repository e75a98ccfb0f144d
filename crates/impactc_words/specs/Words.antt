-- The commands that words ask for.
use Rattle.std.specs.Prelude.{◌≡◌, ◌≤◌, ℕ, Bool, true, false, not, ◌==◌, List, [], ◌∷◌, ◌++◌, Option, Some, None, codes, decimal, if◌then◌else◌}
use Rattle.impactc_words.specs.declared.part.Part.{Part}
use Rattle.impactc_words.specs.declared.part.Part.TheVariants.{File, Profile, Machine, Cycles, To}
use Rattle.impactc_words.specs.declared.options.Which.{Which}
use Rattle.impactc_words.specs.declared.options.Which.TheVariants.{Narrow, Four, Eight}
use Rattle.impactc_words.specs.declared.words.Command.{Command}
use Rattle.impactc_words.specs.declared.words.Command.TheVariants.{Check, Interp, Run}

-- a value, a file's name among them, is not empty and does not begin with `-`
abbrev pub is_value : List ℕ → Bool
is_value [] = false
is_value (first ∷ rest) = not (first == 45)

-- the name of an option
abbrev pub option_name : Part → Option (List ℕ)
option_name File = None
option_name Profile = Some (codes "--profile")
option_name Machine = Some (codes "--machine")
option_name Cycles = Some (codes "--cycles")
option_name To = Some (codes "--to")

-- a part of a command, with the text that is given for it
pub record Argument : Type 0 where
  pub part : Part
  pub text : List ℕ

-- how words spell arguments: a file by itself, and an option by its name, with its value in the next word or behind `=`
pub data Spell : List (List ℕ) → List Argument → Type 0 where
  Nothing : Spell [] []
  ByItself : (text : List ℕ) (words : List (List ℕ)) (rest : List Argument) → is_value text ≡ true →
      Spell words rest → Spell (text ∷ words) (record { part = File; text = text } ∷ rest)
  InTwo : (part : Part) (name text : List ℕ) (words : List (List ℕ)) (rest : List Argument) → option_name part ≡ Some name → is_value text ≡ true →
      Spell words rest → Spell (name ∷ text ∷ words) (record { part = part; text = text } ∷ rest)
  InOne : (part : Part) (name text word : List ℕ) (words : List (List ℕ)) (rest : List Argument) → option_name part ≡ Some name → is_value text ≡ true →
      word ≡ name ++ 61 ∷ text → Spell words rest → Spell (word ∷ words) (record { part = part; text = text } ∷ rest)

-- what is given for each part
pub record Parts : Type 0 where
  pub file : Option (List ℕ)
  pub profile : Option (List ℕ)
  pub machine : Option (List ℕ)
  pub cycles : Option (List ℕ)
  pub to : Option (List ℕ)

abbrev pub given : Parts → Part → Option (List ℕ)
given parts File = parts.file
given parts Profile = parts.profile
given parts Machine = parts.machine
given parts Cycles = parts.cycles
given parts To = parts.to

abbrev pub only_file : List ℕ → Parts
only_file file = record { file = Some file; profile = None; machine = None; cycles = None; to = None }

abbrev pub is_same : Part → Part → Bool
is_same File File = true
is_same Profile Profile = true
is_same Machine Machine = true
is_same Cycles Cycles = true
is_same To To = true
is_same part other = false

-- the texts that arguments give for a part, in their order
abbrev pub texts_for : Part → List Argument → List (List ℕ)
texts_for part [] = []
texts_for part (argument ∷ rest) = if is_same argument.part part then argument.text ∷ texts_for part rest else texts_for part rest

abbrev pub listed : Option (List ℕ) → List (List ℕ)
listed None = []
listed (Some text) = text ∷ []

-- the words give these parts, each of them once at most, in any order
pub record Give (words : List (List ℕ)) (parts : Parts) : Type 0 where
  pub arguments : List Argument
  pub spelled : Spell words arguments
  pub once : (part : Part) → texts_for part arguments ≡ listed (given parts part)

-- ---- values of options

abbrev pub machine_name : Which → List ℕ
machine_name Narrow = codes "narrow"
machine_name Four = codes "four"
machine_name Eight = codes "eight"

-- the machine that is named, and the one of four where none is
abbrev pub IsMachine : Option (List ℕ) → Which → Type 0
IsMachine None machine = machine ≡ Four
IsMachine (Some text) machine = text ≡ machine_name machine

-- how many cycles are given, in decimal without leading zeros, and 100,000,000 where none are
abbrev pub IsCycles : Option (List ℕ) → ℕ → Type 0
IsCycles None cycles = cycles ≡ 100000000
IsCycles (Some text) cycles = (text ≡ decimal cycles) × ((1 ≤ cycles) × (cycles ≤ 1000000000000))

-- ---- commands

-- the word that a command begins with
abbrev pub command_name : Command → List ℕ
command_name (Check file) = codes "check"
command_name (Interp file) = codes "interp"
command_name (Run file) = codes "run"

-- the file that a command reads
abbrev pub input_of : Command → List ℕ
input_of (Check file) = file
input_of (Interp file) = file
input_of (Run file) = file

-- a command's parts
abbrev pub HasParts : Command → Parts → Type 0
HasParts (Check file) parts = parts ≡ only_file file
HasParts (Interp file) parts = parts ≡ only_file file
HasParts (Run file) parts = parts ≡ only_file file

-- no command has this name and these parts
abbrev pub IsNone : (name : List ℕ) → Parts → Type 0
IsNone name parts = (command : Command) → name ≡ command_name command → HasParts command parts → ⊥

-- the words ask for the command
pub record AskFor (words : List (List ℕ)) (command : Command) : Type 0 where
  pub rest : List (List ℕ)
  pub parts : Parts
  pub name : words ≡ command_name command ∷ rest
  pub give : Give rest parts
  pub has : HasParts command parts

-- the words ask for the command, or for none
abbrev pub Ask : List (List ℕ) → Option Command → Type 0
Ask words (Some command) = AskFor words command
Ask words None = (command : Command) → AskFor words command → ⊥
