-- Effects one after the other: where control goes, and which stand before a report.
use Rattle.std.proofs.Common.{Bool, true, false, ◌||◌, ◌≡◌, ℕ, ℤ, ◌+◌, ◌<◌, ◌≤◌, List, [], ◌∷◌, ◌++◌, length, take, drop, get_or, refl, sym, ap, ◌∙◌, append_assoc}
use Rattle.std.proofs.lemmas.List.{append-nil, at_drop_more, at_drop_all, take_more}
use Rattle.ib_base.specs.declared.integers.Width.{Width}
use Rattle.wide_core.specs.declared.code.Loc.{Loc}
use Rattle.wide_core.specs.declared.code.Tagged.{Tagged}
use Rattle.std.specs.List.{list_all, list_any}
use Rattle.wide_core.specs.Valid.{Scope}
use Rattle.wide_core.proofs.Both.{both, both_first, both_second}
use Rattle.wide_sim.specs.Fits.{planned_fits}
use Rattle.wide_sim.specs.Planned.{effect_of}
use Rattle.wide_sim.specs.EffectFits.{effect_fits}
use Rattle.wide_sim.proofs.Fits.{is_leaving}
use Rattle.wide_sim.specs.declared.planned.Planned.{Planned}
use Rattle.wide_sim.specs.declared.planned.Planned.TheVariants.{Idle, Write, Save, Take, PutByte, PutNumber, Jump, Call, Return, Report}
use Rattle.wide_sim.specs.Effects.{turn_after, before_report, is_report, written, stored_by, places_after, memory_after}

pub report_first : (f : Planned) (fs : List Planned) → is_report f ≡ true → before_report (f ∷ fs) ≡ []
report_first (Report number kind) fs h = refl
report_first Idle fs h = cc
report_first (Write to value) fs h = cc
report_first (Save width address value) fs h = cc
report_first (Take to) fs h = cc
report_first (PutByte byte) fs h = cc
report_first (PutNumber z) fs h = cc
report_first (Jump to) fs h = cc
report_first (Call result func next args) fs h = cc
report_first (Return z) fs h = cc

pub other_first : (f : Planned) (fs : List Planned) → is_report f ≡ false → before_report (f ∷ fs) ≡ f ∷ before_report fs
other_first (Report number kind) fs h = cc
other_first Idle fs h = refl
other_first (Write to value) fs h = refl
other_first (Save width address value) fs h = refl
other_first (Take to) fs h = refl
other_first (PutByte byte) fs h = refl
other_first (PutNumber z) fs h = refl
other_first (Jump to) fs h = refl
other_first (Call result func next args) fs h = refl
other_first (Return z) fs h = refl

module _ (fs : List Planned) (i : ℕ) (f : Planned) (lt : i < length fs) (is : f ≡ get_or fs i f) where
  pub report_here : is_report f ≡ true → before_report fs ≡ take i fs ++ before_report (drop i fs) → take i fs ≡ before_report fs
  report_here h so_far =
      sym (so_far
      ∙ ap (λ l. take i fs ++ l) (at_drop_more before_report fs i f lt ∙ ap (λ g. before_report (g ∷ drop (i + 1) fs)) (sym is) ∙ report_first f (drop (i + 1) fs) h)
      ∙ append-nil (take i fs))

  pub report_later : is_report f ≡ false → before_report fs ≡ take i fs ++ before_report (drop i fs) → before_report fs ≡ take (i + 1) fs ++ before_report (drop (i + 1) fs)
  report_later h so_far =
      so_far
      ∙ ap (λ l. take i fs ++ l) (at_drop_more before_report fs i f lt ∙ ap (λ g. before_report (g ∷ drop (i + 1) fs)) (sym is) ∙ other_first f (drop (i + 1) fs) h)
      ∙ sym (append_assoc (take i fs) (f ∷ []) (before_report (drop (i + 1) fs)))
      ∙ ap (λ l. l ++ before_report (drop (i + 1) fs)) (ap (λ g. take i fs ++ g ∷ []) is ∙ sym (take_more fs i f lt))

-- only a write writes, and only a save saves
pub written_by_others : (f : Planned) (places : Loc → Tagged) → ((to : Loc) (value : Tagged) → f ≡ Write to value → ⊥) → places ≡ written f places
written_by_others (Write to value) places no_write = absurd (no_write to value refl)
written_by_others Idle places no_write = refl
written_by_others (Save width address value) places no_write = refl
written_by_others (Take to) places no_write = refl
written_by_others (PutByte byte) places no_write = refl
written_by_others (PutNumber z) places no_write = refl
written_by_others (Jump to) places no_write = refl
written_by_others (Call result func next args) places no_write = refl
written_by_others (Return z) places no_write = refl
written_by_others (Report number kind) places no_write = refl

pub saved_by_others : (f : Planned) (memory : List ℕ) → ((width : Width) (address value : ℤ) → f ≡ Save width address value → ⊥) → memory ≡ stored_by f memory
saved_by_others (Save width address value) memory no_save = absurd (no_save width address value refl)
saved_by_others Idle memory no_save = refl
saved_by_others (Write to value) memory no_save = refl
saved_by_others (Take to) memory no_save = refl
saved_by_others (PutByte byte) memory no_save = refl
saved_by_others (PutNumber z) memory no_save = refl
saved_by_others (Jump to) memory no_save = refl
saved_by_others (Call result func next args) memory no_save = refl
saved_by_others (Return z) memory no_save = refl
saved_by_others (Report number kind) memory no_save = refl

module _ (fs : List Planned) (i : ℕ) (d : Planned) (lt : i < length fs) where
  pub places_step : (places after : Loc → Tagged) → after ≡ written (get_or fs i d) places → places_after (drop (i + 1) fs) after ≡ places_after (drop i fs) places
  places_step places after is =
      ap (λ p. places_after (drop (i + 1) fs) p) is ∙ sym (at_drop_more (λ rest. places_after rest places) fs i d lt)

  pub memory_step : (memory after : List ℕ) → after ≡ stored_by (get_or fs i d) memory → memory_after (drop (i + 1) fs) after ≡ memory_after (drop i fs) memory
  memory_step memory after is =
      ap (λ m. memory_after (drop (i + 1) fs) m) is ∙ sym (at_drop_more (λ rest. memory_after rest memory) fs i d lt)

pub places_end : (fs : List Planned) (i : ℕ) (places : Loc → Tagged) → length fs ≤ i → places_after (drop i fs) places ≡ places
places_end fs i places le = at_drop_all (λ rest. places_after rest places) fs i le

-- ---- what holds of all effects holds of the last one that counts

pub turn_of_all : (test : Planned → Bool) (fs : List Planned) (turn : Planned) → test turn ≡ true → list_all test fs ≡ true → test (turn_after turn fs) ≡ true
turn_of_all test [] turn t h = t
turn_of_all test (Idle ∷ fs) turn t h = turn_of_all test fs turn t (both_second (test Idle) _ h)
turn_of_all test (Write to value ∷ fs) turn t h = turn_of_all test fs turn t (both_second (test (Write to value)) _ h)
turn_of_all test (Save width address value ∷ fs) turn t h = turn_of_all test fs turn t (both_second (test (Save width address value)) _ h)
turn_of_all test (Take to ∷ fs) turn t h = turn_of_all test fs turn t (both_second (test (Take to)) _ h)
turn_of_all test (PutByte byte ∷ fs) turn t h = turn_of_all test fs turn t (both_second (test (PutByte byte)) _ h)
turn_of_all test (PutNumber z ∷ fs) turn t h = turn_of_all test fs turn t (both_second (test (PutNumber z)) _ h)
turn_of_all test (Jump to ∷ fs) turn t h = turn_of_all test fs (Jump to) (both_first (test (Jump to)) _ h) (both_second (test (Jump to)) _ h)
turn_of_all test (Call result func next args ∷ fs) turn t h = turn_of_all test fs (Call result func next args) (both_first (test (Call result func next args)) _ h) (both_second (test (Call result func next args)) _ h)
turn_of_all test (Return z ∷ fs) turn t h = turn_of_all test fs (Return z) (both_first (test (Return z)) _ h) (both_second (test (Return z)) _ h)
turn_of_all test (Report number kind ∷ fs) turn t h = both_first (test (Report number kind)) _ h

-- ---- of effects that stay within what the function has

module _ (scope : Scope) (room : ℕ → Bool) (places : Loc → Tagged) where
  abbrev fits : Planned → Bool
  fits f = effect_fits scope room (effect_of places f)

  pub planned_fit : (f : Planned) → fits f ≡ true → planned_fits scope.regs scope.slots f ≡ true
  planned_fit (Idle) h = refl
  planned_fit (Write to value) h = h
  planned_fit (Save width address value) h = refl
  planned_fit (Take to) h = h
  planned_fit (PutByte byte) h = refl
  planned_fit (PutNumber z) h = refl
  planned_fit (Jump to) h = refl
  planned_fit (Call result func next args) h = refl
  planned_fit (Return z) h = refl
  planned_fit (Report number kind) h = refl

  pub all_planned_fit : (fs : List Planned) → list_all fits fs ≡ true → list_all (planned_fits scope.regs scope.slots) fs ≡ true
  all_planned_fit [] h = refl
  all_planned_fit (f ∷ fs) h = both (planned_fits scope.regs scope.slots f) _ (planned_fit f (both_first (fits f) _ h)) (all_planned_fit fs (both_second (fits f) _ h))

or_false : (a : Bool) → (a || false) ≡ true → a ≡ true
or_false true h = refl
or_false false h = h

-- where an effect sends control elsewhere or stops, control does not go on
module _ (places : Loc → Tagged) where
  abbrev goes : Planned → Bool
  goes f = is_leaving (effect_of places f)

  pub turn_goes : (fs : List Planned) (turn : Planned) → (goes turn || list_any goes fs) ≡ true → goes (turn_after turn fs) ≡ true
  turn_goes [] turn h = or_false (goes turn) h
  turn_goes (Idle ∷ fs) turn h = turn_goes fs turn h
  turn_goes (Write to value ∷ fs) turn h = turn_goes fs turn h
  turn_goes (Save width address value ∷ fs) turn h = turn_goes fs turn h
  turn_goes (Take to ∷ fs) turn h = turn_goes fs turn h
  turn_goes (PutByte byte ∷ fs) turn h = turn_goes fs turn h
  turn_goes (PutNumber z ∷ fs) turn h = turn_goes fs turn h
  turn_goes (Jump to ∷ fs) turn h = turn_goes fs (Jump to) refl
  turn_goes (Call result func next args ∷ fs) turn h = turn_goes fs (Call result func next args) refl
  turn_goes (Return z ∷ fs) turn h = turn_goes fs (Return z) refl
  turn_goes (Report number kind ∷ fs) turn h = refl
