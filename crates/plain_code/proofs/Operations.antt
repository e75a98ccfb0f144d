-- What the words of an operation do: at most four of them do what the operation does.
use Rattle.std.proofs.Common.{◌≡◌, ℕ, suc, ◌+◌, ◌<◌, ◌≤◌, List, [], ◌∷◌, ◌++◌, length, slice_set, Option, Some, None, ℤ, refl, sym, ap, ◌∙◌, subst, arith, append_assoc}
use Rattle.ib_meaning.specs.declared.place.Place.{Place}
use Rattle.ib_meaning.specs.Agreement.{Faulted}
use Rattle.ib_meaning.specs.Machine.{Goes, Stops, Reaches, Halts}
use Rattle.ib_meaning.proofs.Machine.{reach_one, halt_one, reach_trans, reach_halt}
use Rattle.ib_act.specs.declared.act.Act.{Act}
use Rattle.ib_act.specs.Acts.{first_source, second_source, target}
use Rattle.tac_core.specs.Rules.{IsRegister}
use Rattle.tac_core.specs.Meaning.{Effect as TacEffect, Does, Fails, effect_of}
use Rattle.wide_core.specs.declared.code.Loc.{Loc}
use Rattle.wide_core.specs.declared.code.Loc.TheVariants.{Reg}
use Rattle.wide_core.specs.declared.code.Tagged.{Tagged}
use Rattle.wide_core.specs.declared.code.Tagged.TheVariants.{Clear}
use Rattle.wide_core.specs.declared.code.WideAct.TheVariants.{Do}
use Rattle.wide_core.specs.declared.code.RawCode.{RawCode}
use Rattle.wide_core.specs.Meaning.{Running, Waiting, word_step, has_room}
use Rattle.wide_core.specs.Operation.{Effect, Write, Take}
use Rattle.wide_core.specs.Places.{put}
use Rattle.wide_core.specs.Renamed.{effect_moved}
use Rattle.wide_core.specs.Uses.{opt_list, reads}
use Rattle.wide_core.specs.Word.{byte_from, behind_byte}
use Rattle.plain_code.specs.Plain.{Item, item, place, left_in, reloads, spill, renamed}
use Rattle.plain_code.proofs.Alike.{Alike, Sets, Stores, Takes, Prints, Faults, alike}
use Rattle.plain_code.proofs.Numbers.{Homed, homed_rest, homed_first}
use Rattle.plain_code.proofs.Places.{Held, set_long}
use Rattle.plain_code.proofs.Words.{at_words, does_one, loaded, renamed_word, settles}

-- an operation's words, before what follows
pub regroup : (a : List Item) (x : Item) (s r m : List Item) → ((a ++ x ∷ s) ++ r) ++ m ≡ a ++ x ∷ (s ++ (r ++ m))
regroup a x s r m =
    ap (λ z. z ++ m) (append_assoc a (x ∷ s) r) ∙ append_assoc a (x ∷ (s ++ r)) m ∙ ap (λ z. a ++ x ∷ z) (append_assoc s r m)

pub few_reads : (a b : Option ℕ) → length (opt_list a ++ opt_list b) ≤ 2
few_reads None None = omega arith
few_reads None (Some q) = omega arith
few_reads (Some r) None = omega arith
few_reads (Some r) (Some q) = omega arith

pub few_read : (a : Option ℕ) → length (opt_list a) ≤ 1
few_read None = omega arith
few_read (Some r) = omega arith

-- ---- one operation

module _ (code : RawCode) (low : ℕ) (at : ℕ → ℕ) (func base : ℕ) (ws : List Waiting) where
  -- the machine stands behind an operation's words, at these
  pub record Behind (k : ℕ) (r : Running) (left : List ℕ) (regs' : List ℤ) (memory' left' printed : List ℕ) (ys : List Item) : Type 0 where
    pub m : ℕ
    pub g : Loc → Tagged
    pub reach : Reaches (word_step code) k r left printed (at_words code func base m ys g ws memory') left'
    pub homed : Homed code m ys
    pub held : Held low regs' g

  -- what the words of an operation with this effect do, with so many words at most
  abbrev pub Acts : ℕ → TacEffect → Place → Running → List ℕ → List ℤ → List Item → Type 0
  Acts most (Does regs' memory' left' printed) home r left regs ys =
      (k : ℕ) × (1 ≤ k) × (k ≤ most) × (length regs' ≡ length regs) × Behind k r left regs' memory' left' printed ys
  Acts most (Fails kind) home r left regs ys = (k : ℕ) × (k ≤ most) × Halts (word_step code) k r left [] (Faulted home kind) left

  module _ (home : Place) (regs : List ℤ) (memory left : List ℕ) (m : ℕ) (ys : List Item) (f : Loc → Tagged) where
    abbrev R : Act → Option ℕ → Running
    R act o = at_words code func base m (item home (renamed low at (Do act)) ∷ (spill low home o ++ ys)) f ws memory

    abbrev Moves : Act → Option ℕ → Effect → Type 0
    Moves act o e = word_step code (R act o) left ≡ does_one code func base m (spill low home o ++ ys) (item home (renamed low at (Do act))) f ws memory left (effect_moved (left_in low) (place low) at e)

    -- what is written settles in its place
    written : (act : Act) (d : ℕ) (v : ℤ) (left' : List ℕ) → d < length regs → Held low regs f → Homed code m (item home (renamed low at (Do act)) ∷ (spill low home (Some d) ++ ys)) → word_step code (R act (Some d)) left ≡ Goes (at_words code func base (suc m) (spill low home (Some d) ++ ys) (put (Reg (left_in low d)) (Clear v) f) ws memory) left' [] → Acts 2 (Does (slice_set regs d v) memory left' []) home (R act (Some d)) left regs ys
    written act d v left' lt held homed e =
        let rest = homed_rest code m (item home (renamed low at (Do act))) (spill low home (Some d) ++ ys) homed in
        let s = settles code low home regs func base ws memory left' d v (suc m) ys f lt held rest in
        let few = s.few in (
          1 + s.k,
          omega arith,
          omega arith,
          set_long regs d v,
          record {
            m = s.m;
            g = s.g;
            reach = reach_trans (reach_one (word_step code) _ _ left left' [] e) s.reach;
            homed = s.homed;
            held = s.held;
          },
        )

    abbrev Done : Act → Option ℕ → TacEffect → Effect → Type 0
    Done act o te we = target act ≡ o → Moves act o we → IsRegister (length regs) o → Held low regs f → Homed code m (item home (renamed low at (Do act)) ∷ (spill low home o ++ ys)) → Acts 2 te home (R act o) left regs ys

    sets : (act : Act) (o : Option ℕ) (d : ℕ) (v : ℤ) → target act ≡ Some d → Done act o (Does (slice_set regs d v) memory left []) (Write (Reg d) (Clear v))
    sets act None d v t e moves good held homed = cc
    sets act (Some q) d v t e moves good held homed =
        let same : q ≡ d = (let both : Some q ≡ Some d = sym e ∙ t in cc) in
        subst (λ z. Acts 2 (Does (slice_set regs z v) memory left []) home (R act (Some q)) left regs ys) same
        (written act q v left good held homed (moves ∙ ap (λ z. Goes (at_words code func base (suc m) (spill low home (Some q) ++ ys) (put (Reg (left_in low z)) (Clear v) f) ws memory) left []) (sym same)))

    takes : (act : Act) (o : Option ℕ) (d : ℕ) → target act ≡ Some d → Done act o (Does (slice_set regs d (byte_from left)) memory (behind_byte left) []) (Take d)
    takes act None d t e moves good held homed = cc
    takes act (Some q) d t e moves good held homed =
        let same : q ≡ d = (let both : Some q ≡ Some d = sym e ∙ t in cc) in
        subst (λ z. Acts 2 (Does (slice_set regs z (byte_from left)) memory (behind_byte left) []) home (R act (Some q)) left regs ys) same
        (written act q (byte_from left) (behind_byte left) good held homed (moves ∙ ap (λ z. Goes (at_words code func base (suc m) (spill low home (Some q) ++ ys) (put (Reg (left_in low z)) (Clear (byte_from left)) f) ws memory) (behind_byte left) []) (sym same)))

    -- what writes no register needs no spill
    silent : (act : Act) (memory' printed : List ℕ) → Held low regs f → Homed code m (item home (renamed low at (Do act)) ∷ ys) → word_step code (R act None) left ≡ Goes (at_words code func base (suc m) ys f ws memory') left printed → Acts 2 (Does regs memory' left printed) home (R act None) left regs ys
    silent act memory' printed held homed e = (
      1,
      omega arith,
      omega arith,
      refl,
      record {
        m = suc m;
        g = f;
        reach = reach_one (word_step code) _ _ left left printed e;
        homed = homed_rest code m (item home (renamed low at (Do act))) ys homed;
        held = held;
      },
    )

    pub acted : (act : Act) (o : Option ℕ) (te : TacEffect) (we : Effect) → Alike m act regs memory left te we → Done act o te we
    acted act o te we (Sets d v t) e moves good held homed = sets act o d v t e moves good held homed
    acted act o te we (Takes d t) e moves good held homed = takes act o d t e moves good held homed
    acted act None te we (Stores width a v memory' t is) e moves good held homed =
        silent act memory' [] held homed (moves ∙ ap (λ z. Goes (at_words code func base (suc m) ys f ws z) left []) is)
    acted act (Some q) te we (Stores width a v memory' t is) e moves good held homed = cc
    acted act None te we (Prints text t) e moves good held homed = silent act memory text held homed moves
    acted act (Some q) te we (Prints text t) e moves good held homed = cc
    acted act o te we (Faults kind) e moves good held homed = (
      1,
      omega arith,
      halt_one (word_step code) _ left left [] (Faulted home kind)
          (moves ∙ ap (λ z. Stops (Faulted z kind) left []) (homed_first code m (item home (renamed low at (Do act))) (spill low home o ++ ys) homed)),
    )

  -- behind the reloads
  later : (te : TacEffect) (home : Place) (j : ℕ) (r t : Running) (left : List ℕ) (regs : List ℤ) (ys : List Item) → j ≤ 2 → Reaches (word_step code) j r left [] t left → Acts 2 te home t left regs ys → Acts 4 te home r left regs ys
  later (Does regs' memory' left' printed) home j r t left regs ys few reach a =
      let k = a.0 in let l1 = a.1 in let l2 = a.2 in (
        j + k,
        omega arith,
        omega arith,
        a.3,
        record {
          m = a.4.m;
          g = a.4.g;
          reach = reach_trans reach a.4.reach;
          homed = a.4.homed;
          held = a.4.held;
        },
      )
  later (Fails kind) home j r t left regs ys few reach a =
      let k = a.0 in let l1 = a.1 in
      (j + k, omega arith, reach_halt reach a.2)

  -- all words of an operation
  pub op_acts : (act : Act) (home : Place) (regs : List ℤ) (memory left : List ℕ) (n : ℕ) (ys : List Item) (f : Loc → Tagged) → IsRegister (length regs) (target act) → Held low regs f → Homed code n (reloads low home (reads (Do act)) (reads (Do act)) ++ item home (renamed low at (Do act)) ∷ (spill low home (target act) ++ ys)) → Acts 4 (effect_of act base regs memory left) home (at_words code func base n (reloads low home (reads (Do act)) (reads (Do act)) ++ item home (renamed low at (Do act)) ∷ (spill low home (target act) ++ ys)) f ws memory) left regs ys
  op_acts act home regs memory left n ys f good held homed =
      let xs = item home (renamed low at (Do act)) ∷ (spill low home (target act) ++ ys) in
      let l = loaded code low home (reads (Do act)) regs func base ws memory left n xs f held homed in
      let room = has_room code (at_words code func base l.m xs l.f ws memory) in
      let two = few_reads (first_source act) (second_source act) in
      let few = l.few in
      later (effect_of act base regs memory left) home l.k _ _ left regs ys (omega arith) l.reach
      (acted home regs memory left l.m ys l.f act (target act) (effect_of act base regs memory left) _
      (alike l.m home base room regs memory act left) refl
      (renamed_word code low at (Do act) func base l.m home (spill low home (target act) ++ ys) regs l.f ws memory left (λ d s e. cc) l.got)
      good l.held l.homed)
