-- When two meanings agree.
use Rattle.std.specs.Prelude.{◌≡◌, ◌↔◌, ℕ, ◌≤◌, List, ◌++◌, ℤ}
use Rattle.ib_meaning.specs.declared.place.Place.{Place}
use Rattle.ib_meaning.specs.declared.fault.FaultKind.{FaultKind}

-- how a run is over: with a result, or with a fault of a statement, which its place names
pub data Finish : Type 0 where
  Returned : (result : ℤ) → Finish
  Faulted : (place : Place) (kind : FaultKind) → Finish

-- what a run has shown after some number of steps, cycles or budget units: what it printed and the input that it left
pub data Report : Type 0 where
  More : (out left : List ℕ) → Report
  Over : (finish : Finish) (out left : List ℕ) → Report

-- a report for each input and number
abbrev pub Meaning : Type 0
Meaning = List ℕ → ℕ → Report

abbrev pub out_of : Report → List ℕ
out_of (More out left) = out
out_of (Over finish out left) = out

abbrev pub left_of : Report → List ℕ
left_of (More out left) = left
left_of (Over finish out left) = left

abbrev pub IsPrefix : List ℕ → List ℕ → Type 0
IsPrefix xs ys = (zs : List ℕ) × (xs ++ zs ≡ ys)

-- the run is over
pub record IsOver (report : Report) : Type 0 where
  pub finish : Finish
  pub out : List ℕ
  pub left : List ℕ
  pub is : report ≡ Over finish out left

-- what p says, q says too: what was printed is a beginning, and an end stays as it is
abbrev pub Keeps : Report → Report → Type 0
Keeps (More out left) q = IsPrefix out (out_of q)
Keeps (Over finish out left) q = q ≡ Over finish out left

-- a greater number says more
pub record IsSteady (A : Meaning) : Type 0 where
  pub later : (input : List ℕ) (n m : ℕ) → n ≤ m → Keeps (A input n) (A input m)

-- what A says with some number, B says with some number
pub record Follows (A B : Meaning) : Type 0 where
  pub by : (input : List ℕ) (n : ℕ) → (m : ℕ) × Keeps (A input n) (B input m)

-- each says what the other says; a `data` of one constructor, since a search chains it and does not open it
pub data Agrees (A B : Meaning) : Type 0 where
  Both : Follows A B → Follows B A → Agrees A B

-- with some number A is over so, after this output and with this input left
abbrev pub HasOver : Meaning → List ℕ → Finish → List ℕ → List ℕ → Type 0
HasOver A input finish out left = (n : ℕ) × (A input n ≡ Over finish out left)

-- each output of A begins some output of B
abbrev pub OutputsBegin : Meaning → Meaning → Type 0
OutputsBegin A B = (input : List ℕ) (n : ℕ) → (m : ℕ) × IsPrefix (out_of (A input n)) (out_of (B input m))

-- the same ends, results and faults alike
abbrev pub SameEnds : Meaning → Meaning → Type 0
SameEnds A B = (input : List ℕ) (finish : Finish) (out left : List ℕ) → HasOver A input finish out left ↔ HasOver B input finish out left

-- from the number f n on, B has said what A says with n
pub record Within (f : ℕ → ℕ) (A B : Meaning) : Type 0 where
  pub by : (input : List ℕ) (n m : ℕ) → f n ≤ m → Keeps (A input n) (B input m)
