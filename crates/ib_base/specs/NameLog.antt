-- What a list of names that has no bytes stands for.
use Rattle.std.specs.Prelude.{ℕ, List, [], ◌∷◌, Option, Some, None}
use Rattle.ib_base.specs.declared.name_log.Letter.{Letter, Letter', Held-Letter-rest-1, None', Some'}
use Rattle.ib_base.specs.declared.name_log.Entry.{Entry, Entry', Held-Entry-earlier-1, None' as no_entry, Some' as an_entry}

abbrev mutual
  pub from_letter : Letter → List ℕ
  from_letter (Letter' marker rest byte) = byte ∷ from_held rest

  pub from_held : Held-Letter-rest-1 → List ℕ
  from_held None' = []
  from_held (Some' letter) = from_letter letter

-- the bytes of a name
abbrev pub letters : Option Letter → List ℕ
letters None = []
letters (Some letter) = from_letter letter

abbrev mutual
  pub from_entry : Entry → List (List ℕ)
  from_entry (Entry' marker earlier name) = letters name.value ∷ held_entries earlier

  pub held_entries : Held-Entry-earlier-1 → List (List ℕ)
  held_entries no_entry = []
  held_entries (an_entry entry) = from_entry entry

-- the names, the newest first
abbrev pub names : Option Entry → List (List ℕ)
names None = []
names (Some entry) = from_entry entry
