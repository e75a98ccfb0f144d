-- The chains of a duplicate are chains, and control enters them at their first blocks alone.
use Rattle.std.proofs.Common.{◌≡◌, ◌⊎◌, inl, inr, ◌+◌, ◌-◌, ◌<◌, ◌≤◌, ◌++◌, ℕ, zero, suc, List, [], ◌∷◌, Option, Some, None, length, refl, sym, ap, ◌∙◌, subst, ⊎_elim, arith}
use Rattle.std.specs.Prelude.{slice_get, map}
use Rattle.std.proofs.lemmas.Bool.{cases_lt}
use Rattle.std.proofs.lemmas.Option.{slice_get_within}
use Rattle.tac_core.specs.declared.code.End.{End}
use Rattle.tac_core.specs.declared.code.End.TheVariants.{Jump, Branch, Call, Ret}
use Rattle.tac_core.specs.declared.code.Block.{Block}
use Rattle.tac_core.specs.declared.code.TacFunc.{TacFunc}
use Rattle.tac_core.specs.Counts.{IsTargetOf, LeadsTo, HasEdge}
use Rattle.tac_core.specs.Traces.{Labels, apart, StandsAt, ArePartition, StaysIn, GoesOn, AreChains, HasNoSideEntrance}
use Rattle.tail_dup.specs.Duplicated.{IsFirst, IsBehind, IsAlong, Keeps, IsLed, Kept, Moved, IsEndLed, IsBlockLed, IsDuplicated, labels_behind, chains_with}
use Rattle.tac_core.proofs.Lists.{slice_get_front}
use Rattle.tail_dup.proofs.Places.{found_at, behind_get, alone_begun, StandsAlone, stands_in, in_front, alone_behind, behind_label, behind_is, first_alone, behind_place}

-- a block's end, where it leads
pub record LeadsBy (block : Option Block) (t : ℕ) : Type 0 where
  pub found : Block
  pub is : block ≡ Some found
  pub leads : IsTargetOf found.«end» t

pub leads_by : (block : Option Block) (t : ℕ) → LeadsTo block t → LeadsBy block t
leads_by None t h = absurd h
leads_by (Some b) t h = record { found = b; is = refl; leads = h }

pub by_leads : (block : Option Block) (b : Block) (t : ℕ) → block ≡ Some b → IsTargetOf b.«end» t → LeadsTo block t
by_leads block b t is h = subst (λ z. LeadsTo z t) (sym is) h

-- a target of the copy is where a target of the origin leads
pub record IsLedTo (Leads : ℕ → ℕ → Type 0) (given : End) (t' : ℕ) : Type 0 where
  pub target : ℕ
  pub is : IsTargetOf given target
  pub leads : Leads target t'

pub led_target : (Leads : ℕ → ℕ → Type 0) (e e' : End) (t' : ℕ) → IsEndLed Leads e e' → IsTargetOf e' t' → IsLedTo Leads e t'
led_target Leads (Jump t) (Jump u) t' h is = record { target = t; is = refl; leads = subst (Leads t) (sym is) h }
led_target Leads (Branch r y n) (Branch r' y' n') t' h is =
    ⊎_elim
    (λ e. record { target = y; is = inl refl; leads = subst (Leads y) (sym e) h.1 })
    (λ e. record { target = n; is = inr refl; leads = subst (Leads n) (sym e) h.2 })
    is
led_target Leads (Call d f args t) (Call d' f' args' u) t' h is = record { target = t; is = refl; leads = subst (Leads t) (sym is) h.3 }
led_target Leads (Ret r) (Ret r') t' h is = absurd is
led_target Leads _ _ t' h is = absurd h

-- a target of the origin leads to one of the copy
pub record HasLed (Leads : ℕ → ℕ → Type 0) (t : ℕ) (copy : End) : Type 0 where
  pub target : ℕ
  pub is : IsTargetOf copy target
  pub leads : Leads t target

pub target_led : (Leads : ℕ → ℕ → Type 0) (e e' : End) (t : ℕ) → IsEndLed Leads e e' → IsTargetOf e t → HasLed Leads t e'
target_led Leads (Jump u) (Jump t') t h is = record { target = t'; is = refl; leads = subst (λ z. Leads z t') (sym is) h }
target_led Leads (Branch r y n) (Branch r' y' n') t h is =
    ⊎_elim
    (λ e. record { target = y'; is = inl refl; leads = subst (λ z. Leads z y') (sym e) h.1 })
    (λ e. record { target = n'; is = inr refl; leads = subst (λ z. Leads z n') (sym e) h.2 })
    is
target_led Leads (Call d f args u) (Call d' f' args' t') t h is = record { target = t'; is = refl; leads = subst (λ z. Leads z t') (sym is) h.3 }
target_led Leads (Ret r) (Ret r') t h is = absurd is
target_led Leads _ _ t h is = absurd h

stays : (Leads : ℕ → ℕ → Type 0) (e e' : End) → IsEndLed Leads e e' → StaysIn e → StaysIn e'
stays Leads (Jump t) (Jump u) h s = tt
stays Leads (Branch r y n) (Branch r' y' n') h s = tt
stays Leads (Call d f args t) (Call d' f' args' u) h s = absurd s
stays Leads (Ret r) (Ret r') h s = absurd s
stays Leads _ _ h s = absurd h

goes_in : (block block' : Option Block) (b c : Block) (Leads : ℕ → ℕ → Type 0) → block ≡ Some b → block' ≡ Some c → IsBlockLed Leads b c → GoesOn block → GoesOn block'
goes_in block block' b c Leads is is' h goes =
    subst GoesOn (sym is') (stays Leads b.«end» c.«end» h.ends (subst GoesOn is goes))

-- an edge along a chain is still there
kept_along : (chains : List Labels) (blocks : ℕ) (copies : List ℕ) (l m t' : ℕ) → IsBehind chains l m → IsLed chains blocks copies (Some l) m t' → t' ≡ m
kept_along chains blocks copies l _ _ b (Kept u keeps) = refl
kept_along chains blocks copies l _ _ b (Moved u i not' is) = absurd (not' (inr b))

module _ (f g : TacFunc) (chains : List Labels) (copies : List ℕ) (h : AreChains f chains) (is : IsDuplicated f chains copies g) where
  abbrev n : ℕ
  n = length f.blocks

  abbrev made : List Labels
  made = chains_with chains n copies

  abbrev behind : List ℕ
  behind = labels_behind n (length copies)

  below : (l c k : ℕ) → StandsAt made l c k → l < n + length copies
  below l c k s =
      ⊎_elim
      (λ front. let lt : l < n = h.partition.within l c k front in omega arith)
      (λ (alone : StandsAlone behind (length chains) l c k).
      let at = behind_is n (length copies) alone.at l alone.is in
      let lt : alone.at < length copies = at.0 in
      let same : l ≡ n + alone.at = at.1 in
      omega arith)
      (stands_in chains behind l c k s)

  somewhere : (l : ℕ) → l < n + length copies → (c : ℕ) × (k : ℕ) × StandsAt made l c k
  somewhere l lt =
      ⊎_elim
      (λ front. let t = h.partition.somewhere l front in (t.0, t.1, in_front chains (apart behind) l t.0 t.1 t.2))
      (λ ge.
      let j : ℕ = l - n in
      let at : n + j ≡ l = omega arith in
      (length chains + j, 0, alone_behind chains behind l j (behind_label n (length copies) j (omega arith) ∙ ap Some at)))
      (cases_lt l n)

  apart_from : (l c k c' k' : ℕ) → StandsAt chains l c k → StandsAlone behind (length chains) l c' k' → ⊥
  apart_from l c k c' k' s alone =
      let lt : l < n = h.partition.within l c k s in
      let at = behind_is n (length copies) alone.at l alone.is in
      let same : l ≡ n + alone.at = at.1 in
      absurd (omega arith)

  both_alone : (l c k c' k' : ℕ) → StandsAlone behind (length chains) l c k → StandsAlone behind (length chains) l c' k' → (c ≡ c') × (k ≡ k')
  both_alone l c k c' k' a b =
      let first : l ≡ n + a.at = (behind_is n (length copies) a.at l a.is).1 in
      let second : l ≡ n + b.at = (behind_is n (length copies) b.at l b.is).1 in
      let at = a.chain in
      let at' = b.chain in
      (omega arith, a.front ∙ sym b.front)

  once : (l c k c' k' : ℕ) → StandsAt made l c k → StandsAt made l c' k' → (c ≡ c') × (k ≡ k')
  once l c k c' k' s s' = which (stands_in chains behind l c k s) (stands_in chains behind l c' k' s')
    where
      which : StandsAt chains l c k ⊎ StandsAlone behind (length chains) l c k → StandsAt chains l c' k' ⊎ StandsAlone behind (length chains) l c' k' → (c ≡ c') × (k ≡ k')
      which (inl a) (inl b) = h.partition.once l c k c' k' a b
      which (inl a) (inr b) = absurd (apart_from l c k c' k' a b)
      which (inr a) (inl b) = absurd (apart_from l c' k' c k b a)
      which (inr a) (inr b) = both_alone l c k c' k' a b

  -- what stands behind another block stands in a given chain
  given_inside : (m c k : ℕ) → StandsAt made m c (suc k) → StandsAt chains m c (suc k)
  given_inside m c k s =
      ⊎_elim (λ front. front) (λ (alone : StandsAlone behind (length chains) m c (suc k)). let e : suc k ≡ 0 = alone.front in absurd (omega arith)) (stands_in chains behind m c (suc k) s)

  given_before : (l m c k : ℕ) → StandsAt made l c k → StandsAt chains m c (suc k) → StandsAt chains l c k
  given_before l m c k s inside =
      ⊎_elim (λ front. front)
      (λ (alone : StandsAlone behind (length chains) l c k).
      let lt : c < length chains = slice_get_within chains c inside.chain inside.is in
      let at = alone.chain in
      absurd (omega arith))
      (stands_in chains behind l c k s)

  begun : (c : ℕ) (chain : Labels) → slice_get made c ≡ Some chain → 0 < length chain
  begun c chain there =
      ⊎_elim
      (λ below'. h.begun c chain (sym (slice_get_front chains (apart behind) c below') ∙ there))
      (λ ge. alone_begun behind (c - length chains) chain (sym (behind_get chains (apart behind) c (c - length chains) (omega arith)) ∙ there))
      (cases_lt c (length chains))

  linked : (l m c k : ℕ) → StandsAt made l c k → StandsAt made m c (suc k) → HasEdge g l m
  linked l m c k s s' =
      let inside = given_inside m c k s' in
      let before = given_before l m c k s inside in
      let edge = leads_by (slice_get f.blocks l) m (h.linked l m c k before inside) in
      let t = is.given l edge.found edge.is in
      let led = target_led (IsLed chains n copies (Some l)) edge.found.«end» t.0.«end» m t.2.ends edge.leads in
      let same : led.target ≡ m = kept_along chains n copies l m led.target (record { chain = c; place = k; before = before; stands = inside }) led.leads in
      by_leads (slice_get g.blocks l) t.0 m t.1 (subst (IsTargetOf t.0.«end») same led.is)

  straight : (l m c k : ℕ) → StandsAt made l c k → StandsAt made m c (suc k) → GoesOn (slice_get g.blocks l)
  straight l m c k s s' =
      let inside = given_inside m c k s' in
      let before = given_before l m c k s inside in
      let edge = leads_by (slice_get f.blocks l) m (h.linked l m c k before inside) in
      let t = is.given l edge.found edge.is in
      goes_in (slice_get f.blocks l) (slice_get g.blocks l) edge.found t.0 (IsLed chains n copies (Some l)) edge.is t.1 t.2 (h.straight l m c k before inside)

  pub made_chains : AreChains g made
  made_chains = record {
    partition = record {
      within = λ l c k s. let lt = below l c k s in let long = is.long in omega arith;
      somewhere = λ l lt. let long = is.long in somewhere l (omega arith);
      once = once;
    };
    begun = begun;
    linked = linked;
    straight = straight;
  }

  kept_inside : (leaves : Option ℕ) (t c k : ℕ) → StandsAt chains t c (suc k) → Keeps chains leaves t → (l : ℕ) × (leaves ≡ Some l) × StandsAt chains l c k
  kept_inside leaves t c k inside (inl first) = absurd (first_alone chains n h.partition t c k first inside)
  kept_inside None t c k inside (inr along) = absurd along
  kept_inside (Some l) t c k inside (inr along) = (l, refl, behind_place chains n h.partition l t c k along inside)

  -- what leads into the middle of a chain stands before it
  led_inside : (leaves : Option ℕ) (t m c k : ℕ) → StandsAt chains m c (suc k) → IsLed chains n copies leaves t m → (l : ℕ) × (leaves ≡ Some l) × StandsAt chains l c k
  led_inside leaves _ _ c k inside (Kept u keeps) = kept_inside leaves u c k inside keeps
  led_inside leaves _ _ c k inside (Moved u i not' copied) =
      let lt : n + i < n = h.partition.within (n + i) c (suc k) inside in
      absurd (omega arith)

  -- a block of the duplicate, with what its edges leave
  record IsOfGiven (a : ℕ) (c : Block) : Type 0 where
    leaves : Option ℕ
    block : Block
    led : IsBlockLed (IsLed chains n copies leaves) block c
    own : (l : ℕ) → leaves ≡ Some l → l ≡ a

  of_given : ((i m : ℕ) → slice_get copies i ≡ Some m → m < n) → (a : ℕ) (c : Block) → slice_get g.blocks a ≡ Some c → IsOfGiven a c
  of_given under a c there =
      ⊎_elim
      (λ lt.
      let block = found_at f.blocks a lt in
      let t = is.given a block.0 block.1 in
      let both : Some t.0 ≡ Some c = sym t.1 ∙ there in
      let same : t.0 ≡ c = cc in
      record { leaves = Some a; block = block.0; led = subst (IsBlockLed (IsLed chains n copies (Some a)) block.0) same t.2; own = λ l e. let s : Some a ≡ Some l = e in cc })
      (λ ge.
      let within : a < length g.blocks = slice_get_within g.blocks a c there in
      let long = is.long in
      let i : ℕ = a - n in
      let at : a ≡ n + i = omega arith in
      let copy = found_at copies i (omega arith) in
      let block = found_at f.blocks copy.0 (under i copy.0 copy.1) in
      let t = is.copied i copy.0 block.0 copy.1 block.1 in
      let both : Some t.0 ≡ Some c = sym t.1 ∙ ap (λ z. slice_get g.blocks z) (sym at) ∙ there in
      let same : t.0 ≡ c = cc in
      record { leaves = None; block = block.0; led = subst (IsBlockLed (IsLed chains n copies None) block.0) same t.2; own = λ l e. cc })
      (cases_lt a n)

  pub made_entered : ((i m : ℕ) → slice_get copies i ≡ Some m → m < n) → HasNoSideEntrance g made
  made_entered under a m c k s edge =
      let inside = given_inside m c k s in
      let leads = leads_by (slice_get g.blocks a) m edge in
      let given = of_given under a leads.found leads.is in
      let led = led_target (IsLed chains n copies given.leaves) given.block.«end» leads.found.«end» m given.led.ends leads.leads in
      let t = led_inside given.leaves led.target m c k inside led.leads in
      in_front chains (apart behind) a c k (subst (λ z. StandsAt chains z c k) (given.own t.0 t.1) t.2)
