-- The beginning of a list.
use Rattle.std.proofs.Common.{◌≡◌, ℕ, ◌+◌, ◌<◌, ◌≤◌, List, [], length, take, drop, Option, Result, Ok, Err, OnErr, sym, refl, arith}
use Rattle.std.proofs.lemmas.List.{take-append-drop, append-nil, length-take}
use Rattle.ib_base.specs.World.{World, Begins, HasFile, IsBeginning, BeginsFile, silent, PrintsPart, NotesPart}

pub begins_take : (n : ℕ) (xs : List ℕ) → Begins (take n xs) xs
begins_take n xs = (drop n xs, sym (take-append-drop n xs))

pub begins_none : (xs : List ℕ) → Begins [] xs
begins_none xs = (xs, refl)

pub is_whole : (content : List ℕ) (limit : ℕ) → length content ≤ limit → IsBeginning content limit content
is_whole content limit fits = record {
  whole = λ h. refl;
  begins = ([], sym (append-nil content));
  length_is = λ h. absurd (omega arith);
}

pub is_part : (content : List ℕ) (limit : ℕ) → limit < length content → IsBeginning content limit (take (limit + 1) content)
is_part content limit longer =
    let long : length (take (limit + 1) content) ≡ limit + 1 = omega (arith, length-take (limit + 1) content) in
    record {
      whole = λ h. absurd (omega (arith, long));
      begins = begins_take (limit + 1) content;
      length_is = λ h. long;
    }

-- what is read of a file that is longer than the limit
pub begins_file : (w : World) (name content : List ℕ) (limit : ℕ) (bytes : List ℕ) → HasFile w name content → IsBeginning content limit bytes → limit < length bytes → BeginsFile w name limit bytes
begins_file w name content limit bytes there is long = record { content = content; there = there; begins = is.begins; long = is.length_is long }

-- what a failed call of a host that tells nothing has written
pub silent_prints : (input : Option (List ℕ)) (bytes : List ℕ) → PrintsPart (silent input) (silent input) bytes
silent_prints input bytes = record { part = []; begins = begins_none bytes; world = refl }

pub silent_notes : (input : Option (List ℕ)) (bytes : List ℕ) → NotesPart (silent input) (silent input) bytes
silent_notes input bytes = record { part = []; begins = begins_none bytes; world = refl }

pub on_err : {T E P : Type 0} (result : Result T E) → P → OnErr result P
on_err (Ok x) p = tt
on_err (Err e) p = p

-- what such a host has read of a file that is longer than the limit
pub silent_begins : (input : Option (List ℕ)) (name : List ℕ) (limit : ℕ) (bytes : List ℕ) → length bytes ≤ limit + 1 → limit < length bytes → BeginsFile (silent input) name limit bytes
silent_begins input name limit bytes most longer = record { content = bytes; there = tt; begins = ([], sym (append-nil bytes)); long = omega arith }
