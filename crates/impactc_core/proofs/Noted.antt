-- A note that was tried.
use Rattle.std.proofs.Common.{◌≡◌, ◌⊎◌, inl, inr, ℕ, List, Result, Ok, Err, codes, refl, sym, ◌∙◌, subst}
use Rattle.ib_base.specs.World.{World}
use Rattle.impactc_core.specs.declared.core_err.CoreErr.{CoreErr}
use Rattle.impactc_core.specs.declared.core_err.CoreErr.TheVariants.{Usage as BadWords, Source, HostFault as Host, NoMemory as Memory, TooLarge as Large}
use Rattle.impactc_core.specs.declared.status.Status.{Status}
use Rattle.impactc_core.specs.declared.status.Status.TheVariants.{HostFault, NoMemory}
use Rattle.impactc_core.specs.declared.success.Success.{Success}
use Rattle.impactc_core.proofs.Plain.{success_plain}
use Rattle.impactc_core.specs.Answers.{IsPlain, LeavesNote, NoteFor}
use Rattle.impactc_core.specs.Notes.{refusal_note, status_of, note_of}
use Rattle.impactc_core.specs.Work.{Leaves, status_behind}

plain_says : (work : Result Success CoreErr) (status : Status) (whole : List ℕ) → IsPlain status → status ≡ status_of work → whole ≡ note_of work → NoteFor work status whole
plain_says work HostFault whole plain e w = absurd plain
plain_says work NoMemory whole plain e w = absurd plain
plain_says work status whole plain e w = (w, e)

plain_behind : (status failed : Status) → IsPlain status → status_behind status failed ≡ failed
plain_behind HostFault failed plain = absurd plain
plain_behind NoMemory failed plain = absurd plain
plain_behind status failed plain = refl

-- the note of an answer
pub text_left : (work : Result Success CoreErr) (old new : World) (result : Status) → IsPlain (status_of work) → Leaves (note_of work) (status_of work) old new result → LeavesNote work old new result
text_left work old new result plain leaves = by_cases leaves.comes
  where
    by_cases : ((result ≡ status_of work) × (leaves.note ≡ note_of work)) ⊎ ((result ≡ status_behind (status_of work) HostFault) ⊎ (result ≡ status_behind (status_of work) NoMemory)) → LeavesNote work old new result
    by_cases (inl h) = record {
      whole = note_of work;
      note = leaves.note;
      says = plain_says work result (note_of work) (subst IsPlain (sym h.0) plain) h.0 refl;
      begins = leaves.begins;
      exact = λ p. h.1;
      world = leaves.world;
    }
    by_cases (inr (inl e)) =
        let failed : result ≡ HostFault = e ∙ plain_behind (status_of work) HostFault plain in
        record {
          whole = note_of work;
          note = leaves.note;
          says = subst (λ (s : Status). NoteFor work s (note_of work)) (sym failed) (refl, inr plain);
          begins = leaves.begins;
          exact = λ p. absurd (subst IsPlain failed p);
          world = leaves.world;
        }
    by_cases (inr (inr e)) =
        let failed : result ≡ NoMemory = e ∙ plain_behind (status_of work) NoMemory plain in
        record {
          whole = note_of work;
          note = leaves.note;
          says = subst (λ (s : Status). NoteFor work s (note_of work)) (sym failed) (inr (refl, plain));
          begins = leaves.begins;
          exact = λ p. absurd (subst IsPlain failed p);
          world = leaves.world;
        }

no_memory : (result : Status) → (P : Type 0) → ((result ≡ NoMemory) × P) ⊎ ((result ≡ NoMemory) ⊎ (result ≡ NoMemory)) → result ≡ NoMemory
no_memory result P (inl h) = h.0
no_memory result P (inr (inl e)) = e
no_memory result P (inr (inr e)) = e

-- the note of want of memory
pub no_memory_left : (work : Result Success CoreErr) (old new : World) (result : Status) → Leaves (codes "out of memory\n") NoMemory old new result → LeavesNote work old new result
no_memory_left work old new result leaves =
    let is : result ≡ NoMemory = no_memory result _ leaves.comes in
    record {
      whole = refusal_note Memory;
      note = leaves.note;
      says = subst (λ (s : Status). NoteFor work s (refusal_note Memory)) (sym is) (inl refl);
      begins = leaves.begins;
      exact = λ p. absurd (subst IsPlain is p);
      world = leaves.world;
    }

host_fault : (result : Status) → (P : Type 0) → ((result ≡ HostFault) × P) ⊎ ((result ≡ HostFault) ⊎ (result ≡ HostFault)) → result ≡ HostFault
host_fault result P (inl h) = h.0
host_fault result P (inr (inl e)) = e
host_fault result P (inr (inr e)) = e

fault_left : (old new : World) (result : Status) → Leaves (codes "host fault\n") HostFault old new result → LeavesNote (Err Host) old new result
fault_left old new result leaves =
    let is : result ≡ HostFault = host_fault result _ leaves.comes in
    record {
      whole = refusal_note Host;
      note = leaves.note;
      says = subst (λ (s : Status). NoteFor (Err Host) s (refusal_note Host)) (sym is) (refl, inl refl);
      begins = leaves.begins;
      exact = λ p. absurd (subst IsPlain is p);
      world = leaves.world;
    }

-- the note of a failing host
pub host_fault_left : (work : Result Success CoreErr) (old new : World) (result : Status) → status_of work ≡ HostFault → Leaves (codes "host fault\n") HostFault old new result → LeavesNote work old new result
host_fault_left (Ok success) old new result e leaves = absurd (subst IsPlain e (success_plain success))
host_fault_left (Err BadWords) old new result e leaves = cc
host_fault_left (Err (Source file place fault)) old new result e leaves = cc
host_fault_left (Err Host) old new result e leaves = fault_left old new result leaves
host_fault_left (Err Memory) old new result e leaves = cc
host_fault_left (Err (Large limit)) old new result e leaves = cc
