-- What a host printed and gave, effect by effect.
use Rattle.std.proofs.Common.{Bool, true, false, ◌≡◌, ℕ, zero, suc, ℤ, ◌+◌, ◌<◌, ◌≤◌, List, [], ◌∷◌, ◌++◌, length, get_or, take, drop, set, add-one, Option, Some, None, refl, sym, ap, ◌∙◌, subst, append_assoc, arith}
use Rattle.std.specs.Prelude.{if◌then◌else◌}
use Rattle.std.specs.Fmt.{signed_decimal}
use Rattle.std.proofs.lemmas.List.{append-nil, drop-set-lt, take_more, take_more_set}
use Rattle.std.proofs.Math.Seq.{drop-cons}
use Rattle.ib_meaning.specs.Agreement.{IsPrefix}
use Rattle.ib_base.specs.World.{World, printed, PrintsPart, TakesByte}
use Rattle.ib_run.specs.OverHost.{OverHost, Takes}
use Rattle.ib_run.proofs.OverHost.{over_join, over_none, over_part, over_printed, over_same, over_taken, over_weaken}
use Rattle.wide_core.specs.declared.code.Loc.TheVariants.{Reg}
use Rattle.wide_core.specs.declared.code.Tagged.TheVariants.{Clear}
use Rattle.wide_sim.specs.declared.planned.Planned.{Planned}
use Rattle.wide_sim.specs.declared.planned.Planned.TheVariants.{Idle, Write, Save, Take, PutByte, PutNumber, Jump, Call, Return, Report}
use Rattle.wide_sim.specs.Effects.{asks, asking, text_of, text, hear, left_behind, heard, left_after, Asked, AskedOne, Hears, HearsOne, PrintsSome, number_of_byte}
use Rattle.wide_core.proofs.Both.{both, both_first}
use Rattle.std.specs.List.{list_all, list_any}
use Rattle.wide_sim.specs.Fits.{planned_fits}
use Rattle.wide_sim.specs.Quiet.{is_quiet_plan}
use Rattle.wide_sim.proofs.Places.{all_at, all_join, all_left, all_right}

-- ---- one effect

module _ (f : Planned) (before after : World) (same : (input : List ℕ) → hear input f ≡ f) (kept : (input : List ℕ) → left_behind f input ≡ input) where
  -- what takes nothing, and prints this
  quiet_asked : (bytes : List ℕ) → bytes ≡ text_of f → OverHost (λ input left out. (input ≡ left) × (out ≡ bytes)) before after → AskedOne f f before after
  quiet_asked bytes is over = record {
    over = over_weaken (λ input left out. (input ≡ left) × (out ≡ bytes)) (HearsOne f f) before after over
        (λ input left out h. record { given = same input; rest = kept input ∙ h.0; prints = h.1 ∙ is });
    fits = λ regs slots h. h;
  }

  printed_asked : after ≡ printed before (text_of f) → AskedOne f f before after
  printed_asked is = quiet_asked (text_of f) refl (over_printed before after (text_of f) is)

idle_asked : (f : Planned) (w : World) → [] ≡ text_of f → ((input : List ℕ) → hear input f ≡ f) → ((input : List ℕ) → left_behind f input ≡ input) → AskedOne f f w w
idle_asked f w is same kept = quiet_asked f w w same kept [] is (over_same w w refl)

pub byte_printed : (f : Planned) (byte : ℕ) (before after : World) → f ≡ PutByte byte → after ≡ printed before (byte ∷ []) → AskedOne f f before after
byte_printed f byte before after is world =
    subst (λ (h : Planned). AskedOne h h before after) (sym is) (printed_asked (PutByte byte) before after (λ input. refl) (λ input. refl) world)

pub number_printed : (f : Planned) (z : ℤ) (before after : World) → f ≡ PutNumber z → after ≡ printed before (signed_decimal z) → AskedOne f f before after
number_printed f z before after is world =
    subst (λ (h : Planned). AskedOne h h before after) (sym is) (printed_asked (PutNumber z) before after (λ input. refl) (λ input. refl) world)

-- what neither takes nor prints
pub others_asked : (f : Planned) (w : World) → ((to : ℕ) → f ≡ Take to → ⊥) → ((byte : ℕ) → f ≡ PutByte byte → ⊥) → ((z : ℤ) → f ≡ PutNumber z → ⊥) → AskedOne f f w w
others_asked Idle w a b c = idle_asked Idle w refl (λ input. refl) (λ input. refl)
others_asked (Write to value) w a b c = idle_asked (Write to value) w refl (λ input. refl) (λ input. refl)
others_asked (Save width address value) w a b c = idle_asked (Save width address value) w refl (λ input. refl) (λ input. refl)
others_asked (Take to) w a b c = absurd (a to refl)
others_asked (PutByte byte) w a b c = absurd (b byte refl)
others_asked (PutNumber z) w a b c = absurd (c z refl)
others_asked (Jump to) w a b c = idle_asked (Jump to) w refl (λ input. refl) (λ input. refl)
others_asked (Call result func next args) w a b c = idle_asked (Call result func next args) w refl (λ input. refl) (λ input. refl)
others_asked (Return z) w a b c = idle_asked (Return z) w refl (λ input. refl) (λ input. refl)
others_asked (Report number kind) w a b c = idle_asked (Report number kind) w refl (λ input. refl) (λ input. refl)

byte_heard : (to : ℕ) (byte : Option ℕ) (input left out : List ℕ) → Takes byte input left → out ≡ [] → HearsOne (Take to) (Write (Reg to) (Clear (number_of_byte byte))) input left out
byte_heard to None input left out t quiet = record {
  given = ap (λ i. hear i (Take to)) t.0;
  rest = ap (λ i. left_behind (Take to) i) t.0 ∙ sym t.1;
  prints = quiet;
}
byte_heard to (Some byte) input left out t quiet = record {
  given = ap (λ i. hear i (Take to)) t;
  rest = ap (λ i. left_behind (Take to) i) t;
  prints = quiet;
}

-- what takes a byte
pub taken_asked : (to : ℕ) (byte : Option ℕ) (before after : World) → TakesByte before after byte → AskedOne (Take to) (Write (Reg to) (Clear (number_of_byte byte))) before after
taken_asked to byte before after t = record {
  over = over_weaken (λ input left out. Takes byte input left × (out ≡ [])) (HearsOne (Take to) (Write (Reg to) (Clear (number_of_byte byte)))) before after
      (over_taken before after byte t) (λ input left out h. byte_heard to byte input left out h.0 h.1);
  fits = λ regs slots h. h;
}

-- ---- a beginning

pub printed_some : (before after : World) (whole bytes : List ℕ) → bytes ≡ whole → PrintsPart before after bytes → OverHost (PrintsSome whole) before after
printed_some before after whole bytes is p =
    over_weaken (λ input left out. (input ≡ left) × IsPrefix out bytes) (PrintsSome whole) before after (over_part before after bytes p)
    (λ input left out h. record { begins = subst (λ (b : List ℕ). IsPrefix out b) is h.1; kept = sym h.0 })

pub some_of : (f g : Planned) (before after : World) → f ≡ g → OverHost (PrintsSome (text_of g)) before after → OverHost (PrintsSome (text_of f)) before after
some_of f g before after is over = subst (λ (h : Planned). OverHost (PrintsSome (text_of h)) before after) (sym is) over

pub nothing_printed : (text : List ℕ) (before after : World) → after ≡ before → OverHost (PrintsSome text) before after
nothing_printed text before after is =
    subst (λ w. OverHost (PrintsSome text) before w) (sym is) (over_none (PrintsSome text) (λ left. record { begins = (text, refl); kept = refl }) before)

-- ---- how many ask

-- where none asks, nothing is taken
nothing_taken : (fs : List Planned) (input : List ℕ) → asking fs ≡ 0 → left_after fs input ≡ input
nothing_taken [] input h = refl
nothing_taken (Take to ∷ fs) input h = absurd (omega arith)
nothing_taken (PutByte byte ∷ fs) input h = absurd (omega arith)
nothing_taken (PutNumber z ∷ fs) input h = absurd (omega arith)
nothing_taken (Idle ∷ fs) input h = nothing_taken fs input h
nothing_taken (Write to value ∷ fs) input h = nothing_taken fs input h
nothing_taken (Save width address value ∷ fs) input h = nothing_taken fs input h
nothing_taken (Jump to ∷ fs) input h = nothing_taken fs input h
nothing_taken (Call result func next args ∷ fs) input h = nothing_taken fs input h
nothing_taken (Return z ∷ fs) input h = nothing_taken fs input h
nothing_taken (Report number kind ∷ fs) input h = nothing_taken fs input h

asking_more : (fs : List Planned) (f : Planned) (b : Bool) → asks f ≡ b → asking (f ∷ fs) ≡ (if b then suc (asking fs) else asking fs)
asking_more fs f b h = ap (λ b. if b then suc (asking fs) else asking fs) h

one_asks : (f : Planned) (fs : List Planned) (b : Bool) → asks f ≡ b → 1 ≤ asking fs → 1 ≤ asking (f ∷ fs)
one_asks f fs true is some = let e = asking_more fs f true is in omega arith
one_asks f fs false is some = let e = asking_more fs f false is in omega arith

some_asks : (fs : List Planned) (i : ℕ) (d : Planned) → i < length fs → asks (get_or fs i d) ≡ true → 1 ≤ asking fs
some_asks [] i d lt h = absurd (omega arith)
some_asks (f ∷ fs) zero d lt h = let e = asking_more fs f true h in omega arith
some_asks (f ∷ fs) (suc i) d lt h = one_asks f fs (asks f) refl (some_asks fs i d (omega arith) h)

-- before one that asks none does, where no more than one does
none_first : (f : Planned) (fs : List Planned) (i : ℕ) (b : Bool) → asks f ≡ b → 1 ≤ asking fs → asking (f ∷ fs) ≤ 1 → (asking fs ≤ 1 → asking (take i fs) ≡ 0) → asking (f ∷ take i fs) ≡ 0
none_first f fs i true is some few none = let e = asking_more fs f true is in absurd (omega arith)
none_first f fs i false is some few none = let e = asking_more fs f false is in asking_more (take i fs) f false is ∙ none (omega arith)

none_before : (fs : List Planned) (i : ℕ) (d : Planned) → i < length fs → asks (get_or fs i d) ≡ true → asking fs ≤ 1 → asking (take i fs) ≡ 0
none_before [] i d lt h few = absurd (omega arith)
none_before (f ∷ fs) zero d lt h few = refl
none_before (f ∷ fs) (suc i) d lt h few = none_first f fs i (asks f) refl (some_asks fs i d (omega arith) h) few (none_before fs i d (omega arith) h)

-- ---- one effect further

pub asked_none : (w : World) → Asked [] [] w w
asked_none w = record {
  over = over_none (Hears [] []) (λ left. record { given = refl; rest = refl; prints = refl }) w;
  fits = λ regs slots h. h;
}

text_more : (fs : List Planned) (f : Planned) → text (fs ++ f ∷ []) ≡ text fs ++ text_of f
text_more [] f = append-nil (text_of f)
text_more (g ∷ fs) f = ap (λ t. text_of g ++ t) (text_more fs f) ∙ sym (append_assoc (text_of g) (text fs) (text_of f))

heard_more : (fs : List Planned) (f : Planned) (input : List ℕ) → heard input (fs ++ f ∷ []) ≡ heard input fs ++ hear (left_after fs input) f ∷ []
heard_more [] f input = refl
heard_more (g ∷ fs) f input = ap (λ gs. hear input g ∷ gs) (heard_more fs f (left_behind g input))

left_more : (fs : List Planned) (f : Planned) (input : List ℕ) → left_after (fs ++ f ∷ []) input ≡ left_behind f (left_after fs input)
left_more [] f input = refl
left_more (g ∷ fs) f input = left_more fs f (left_behind g input)

pub asked_more : (fs gs : List Planned) (f g : Planned) (before middle after : World) → Asked fs gs before middle → AskedOne f g middle after → Asked (fs ++ f ∷ []) (gs ++ g ∷ []) before after
asked_more fs gs f g before middle after all one = record {
  over = over_join (Hears fs gs) (HearsOne f g) (Hears (fs ++ f ∷ []) (gs ++ g ∷ [])) before middle after all.over one.over
      (λ input rest left out more h k. record {
        given = heard_more fs f input ∙ ap (λ hs. hs ++ hear (left_after fs input) f ∷ []) h.given
            ∙ ap (λ l. gs ++ hear l f ∷ []) h.rest
            ∙ ap (λ e. gs ++ e ∷ []) k.given;
        rest = left_more fs f input ∙ ap (λ l. left_behind f l) h.rest ∙ k.rest;
        prints = ap (λ o. o ++ more) h.prints ∙ ap (λ o. text fs ++ o) k.prints ∙ sym (text_more fs f);
      });
  fits = λ regs slots h.
      all_join (planned_fits regs slots) gs (g ∷ []) (all.fits regs slots (all_left (planned_fits regs slots) fs (f ∷ []) h))
      (both (planned_fits regs slots g) true (one.fits regs slots (both_first (planned_fits regs slots f) true (all_right (planned_fits regs slots) fs (f ∷ []) h))) refl);
}

-- ---- the effects of a plan one after the other, of which those before i are asked already

same_at : (plan old : List Planned) (i : ℕ) (d : Planned) → i < length plan → i < length old → drop i plan ≡ drop i old → get_or plan i d ≡ get_or old i d
same_at plan old i d lt lt_old is =
    ap (λ fs. get_or fs 0 d) (sym (drop-cons plan i d lt)) ∙ ap (λ fs. get_or fs 0 d) is ∙ ap (λ fs. get_or fs 0 d) (drop-cons old i d lt_old)

same_behind : (plan old : List Planned) (i : ℕ) (d g : Planned) → i < length plan → i < length old → drop i plan ≡ drop i old → drop (i + 1) (set plan i g) ≡ drop (i + 1) old
same_behind plan old i d g lt lt_old is =
    drop-set-lt (i + 1) plan i g (omega arith)
    ∙ ap (λ n. drop n plan) (add-one i)
    ∙ ap (λ fs. drop 1 fs) (sym (drop-cons plan i d lt) ∙ is ∙ drop-cons old i d lt_old)
    ∙ ap (λ n. drop n old) (sym (add-one i))

text_at : (fs : List Planned) (i : ℕ) (d : Planned) → i < length fs → text fs ≡ text (take i fs) ++ (text_of (get_or fs i d) ++ text (drop (suc i) fs))
text_at [] i d lt = absurd (omega arith)
text_at (f ∷ fs) zero d lt = refl
text_at (f ∷ fs) (suc i) d lt =
    ap (λ t. text_of f ++ t) (text_at fs i d (omega arith)) ∙ sym (append_assoc (text_of f) (text (take i fs)) (text_of (get_or fs i d) ++ text (drop (suc i) fs)))

module _ (plan old : List Planned) (i : ℕ) (d : Planned) (before middle : World) (lt : i < length plan) (len : length plan ≡ length old) (rest : drop i plan ≡ drop i old) (asked : Asked (take i old) (take i plan) before middle) where
  here : get_or plan i d ≡ get_or old i d
  here = same_at plan old i d lt (omega arith) rest

  pub asked_step : (g : Planned) (after : World) → AskedOne (get_or plan i d) g middle after → Asked (take (i + 1) old) (take (i + 1) (set plan i g)) before after
  asked_step g after one =
      let all = asked_more (take i old) (take i plan) (get_or plan i d) g before middle after asked one in
      subst (λ (gs : List Planned). Asked (take (i + 1) old) gs before after) (sym (take_more_set plan i g lt))
      (subst (λ (fs : List Planned). Asked fs (take i plan ++ g ∷ []) before after) (ap (λ (f : Planned). take i old ++ f ∷ []) here ∙ sym (take_more old i d (omega arith))) all)

  pub rest_step : (g : Planned) → drop (i + 1) (set plan i g) ≡ drop (i + 1) old
  rest_step g = same_behind plan old i d g lt (omega arith) rest

  -- it breaks off at an effect that asks, and no other one does
  pub some_step : (after : World) → asks (get_or plan i d) ≡ true → asking old ≤ 1 → OverHost (PrintsSome (text_of (get_or plan i d))) middle after → OverHost (PrintsSome (text old)) before after
  some_step after one few some =
      over_join (Hears (take i old) (take i plan)) (PrintsSome (text_of (get_or plan i d))) (PrintsSome (text old)) before middle after asked.over some
      (λ input rest left out more h p. record {
        begins = (
          p.begins.0 ++ text (drop (suc i) old),
          append_assoc out more (p.begins.0 ++ text (drop (suc i) old))
              ∙ ap (λ l. out ++ l) (sym (append_assoc more p.begins.0 (text (drop (suc i) old))) ∙ ap (λ l. l ++ text (drop (suc i) old)) (p.begins.1 ∙ ap text_of here))
              ∙ ap (λ o. o ++ (text_of (get_or old i d) ++ text (drop (suc i) old))) h.prints
              ∙ sym (text_at old i d (omega arith)),
        );
        kept = p.kept ∙ sym h.rest ∙ nothing_taken (take i old) input (none_before old i d (omega arith) (ap asks (sym here) ∙ one) few);
      })

-- ---- what asks for nothing

-- effects of which none asks stay, take nothing and print nothing
record Rests (fs : List Planned) (input : List ℕ) : Type 0 where
  pub given : heard input fs ≡ fs
  pub rest : left_after fs input ≡ input
  pub prints : text fs ≡ []

rests_more : (f : Planned) (fs : List Planned) (input : List ℕ) → hear input f ≡ f → left_behind f input ≡ input → text_of f ≡ [] → Rests fs input → Rests (f ∷ fs) input
rests_more f fs input same kept quiet r = record {
  given = ap (λ g. g ∷ heard (left_behind f input) fs) same ∙ ap (λ l. f ∷ heard l fs) kept ∙ ap (λ gs. f ∷ gs) r.given;
  rest = ap (λ l. left_after fs l) kept ∙ r.rest;
  prints = ap (λ t. t ++ text fs) quiet ∙ r.prints;
}

rests : (fs : List Planned) (input : List ℕ) → list_any asks fs ≡ false → Rests fs input
rests [] input h = record { given = refl; rest = refl; prints = refl }
rests (Take to ∷ fs) input h = cc
rests (PutByte byte ∷ fs) input h = cc
rests (PutNumber z ∷ fs) input h = cc
rests (Idle ∷ fs) input h = rests_more Idle fs input refl refl refl (rests fs input h)
rests (Write to value ∷ fs) input h = rests_more (Write to value) fs input refl refl refl (rests fs input h)
rests (Save width address value ∷ fs) input h = rests_more (Save width address value) fs input refl refl refl (rests fs input h)
rests (Jump to ∷ fs) input h = rests_more (Jump to) fs input refl refl refl (rests fs input h)
rests (Call result func next args ∷ fs) input h = rests_more (Call result func next args) fs input refl refl refl (rests fs input h)
rests (Return z ∷ fs) input h = rests_more (Return z) fs input refl refl refl (rests fs input h)
rests (Report number kind ∷ fs) input h = rests_more (Report number kind) fs input refl refl refl (rests fs input h)

pub none_asked : (fs : List Planned) (w : World) → list_any asks fs ≡ false → Asked fs fs w w
none_asked fs w h = record {
  over = over_none (Hears fs fs) (λ left. let r = rests fs left h in record { given = r.given; rest = r.rest; prints = sym r.prints }) w;
  fits = λ regs slots fit. fit;
}

pub quiet_at : (plan old : List Planned) (i : ℕ) (d : Planned) → i < length plan → length plan ≡ length old → drop i plan ≡ drop i old → list_all is_quiet_plan old ≡ true → is_quiet_plan (get_or plan i d) ≡ true
quiet_at plan old i d lt len rest quiet =
    ap is_quiet_plan (same_at plan old i d lt (omega arith) rest) ∙ all_at is_quiet_plan old i d (omega arith) quiet
