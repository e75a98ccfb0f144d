-- What happens over a host, one thing after the other.
use Rattle.std.proofs.Common.{◌≡◌, ℕ, List, [], ◌∷◌, ◌++◌, Option, Some, None, refl, sym, ap, ◌∙◌, subst, append_assoc}
use Rattle.std.proofs.lemmas.List.{append-nil}
use Rattle.std.specs.Io.KnownBytes.{append_known}
use Rattle.std.specs.Prelude.{IfSome}
use Rattle.ib_base.specs.World.{World, printed, PrintsPart, TakesByte, GivesByte}
use Rattle.ib_meaning.specs.Agreement.{IsPrefix}
use Rattle.ib_run.specs.OverHost.{told, IsEndOf, OverHost, Takes}

append_none : (known : Option (List ℕ)) → known ≡ append_known known []
append_none None = refl
append_none (Some xs) = ap (λ ys. Some ys) (sym (append-nil xs))

append_twice : (known : Option (List ℕ)) (a b : List ℕ) → append_known (append_known known a) b ≡ append_known known (a ++ b)
append_twice None a b = refl
append_twice (Some xs) a b = ap (λ ys. Some ys) (append_assoc xs a b)

abbrev with_output : World → Option (List ℕ) → Option (List ℕ) → World
with_output w input output = record w { input = input; output = output }

told_none : (w : World) → w ≡ told w w.input []
told_none w = ap (with_output w w.input) (append_none w.output)

told_twice : (before middle after : World) (a b : List ℕ) → middle ≡ told before middle.input a → after ≡ told middle after.input b → after ≡ told before after.input (a ++ b)
told_twice before middle after a b first second =
    second ∙ ap (λ (w : World). told w after.input b) first ∙ ap (with_output before after.input) (append_twice before.output a b)

end_none : (known : Option (List ℕ)) → IsEndOf known known
end_none None = tt
end_none (Some left) = ([], refl)

end_trans : (a b c : Option (List ℕ)) → IsEndOf a b → IsEndOf b c → IsEndOf a c
end_trans None b c first second = tt
end_trans (Some whole) None c first second = absurd first
end_trans (Some whole) (Some rest) None first second = absurd second
end_trans (Some whole) (Some rest) (Some left) first second =
    (first.0 ++ second.0, first.1 ∙ ap (λ l. first.0 ++ l) second.1 ∙ sym (append_assoc first.0 second.0 left))

end_of_same : (whole left : Option (List ℕ)) → left ≡ whole → IsEndOf whole left
end_of_same whole left is = subst (λ l. IsEndOf whole l) (sym is) (end_none whole)

-- nothing happened
pub over_none : (P : (input left out : List ℕ) → Type 0) → ((left : List ℕ) → P left left []) → (w : World) → OverHost P w w
over_none P holds w = record { out = []; world = told_none w; ends = end_none w.input; from = λ left has. (left, has, holds left) }

pub over_weaken : (P Q : (input left out : List ℕ) → Type 0) (before after : World) → OverHost P before after → ((input left out : List ℕ) → P input left out → Q input left out) → OverHost Q before after
over_weaken P Q before after over weaker = record {
  out = over.out;
  world = over.world;
  ends = over.ends;
  from = λ left has. let f = over.from left has in (f.0, f.1, weaker f.0 left over.out f.2);
}

-- one after the other
pub over_join : (P Q R : (input left out : List ℕ) → Type 0) (before middle after : World) → OverHost P before middle → OverHost Q middle after → ((input rest left out more : List ℕ) → P input rest out → Q rest left more → R input left (out ++ more)) → OverHost R before after
over_join P Q R before middle after first second joined = record {
  out = first.out ++ second.out;
  world = told_twice before middle after first.out second.out first.world second.world;
  ends = end_trans before.input middle.input after.input first.ends second.ends;
  from = λ left has.
      let s = second.from left has in
      let f = first.from s.0 s.1 in
      (f.0, f.1, joined f.0 s.0 left first.out second.out f.2 s.2);
}

-- the whole was printed
pub over_printed : (before after : World) (bytes : List ℕ) → after ≡ printed before bytes → OverHost (λ input left out. (input ≡ left) × (out ≡ bytes)) before after
over_printed before after bytes is = record {
  out = bytes;
  world = is ∙ ap (λ i. with_output before i (append_known before.output bytes)) (sym (ap (λ (w : World). w.input) is));
  ends = end_of_same before.input after.input (ap (λ (w : World). w.input) is);
  from = λ left has. (left, subst (λ i. IfSome i (λ known. known ≡ left)) (ap (λ (w : World). w.input) is) has, (refl, refl));
}

-- a beginning was printed
pub over_part : (before after : World) (bytes : List ℕ) → PrintsPart before after bytes → OverHost (λ input left out. (input ≡ left) × IsPrefix out bytes) before after
over_part before after bytes p =
    over_weaken (λ input left out. (input ≡ left) × (out ≡ p.part)) (λ input left out. (input ≡ left) × IsPrefix out bytes) before after
    (over_printed before after p.part p.world)
    (λ input left out h. (h.0, subst (λ o. IsPrefix o bytes) (sym h.1) (p.begins.0, sym p.begins.1)))

byte_taken : (known : Option (List ℕ)) (byte : Option ℕ) (now : Option (List ℕ)) → GivesByte known byte now → (left : List ℕ) → IfSome now (λ k. k ≡ left) → (input : List ℕ) × IfSome known (λ k. k ≡ input) × Takes byte input left
byte_taken None None now g left has = ([], tt, (refl, sym (subst (λ n. IfSome n (λ k. k ≡ left)) g has)))
byte_taken None (Some byte) now g left has = (byte ∷ left, tt, refl)
byte_taken (Some []) None now g left has = ([], refl, (refl, sym (subst (λ n. IfSome n (λ k. k ≡ left)) g.1 has)))
byte_taken (Some []) (Some byte) now g left has = absurd (let e = g.0 in cc)
byte_taken (Some (first ∷ rest)) None now g left has = absurd (let e = g.0 in cc)
byte_taken (Some (first ∷ rest)) (Some byte) now g left has =
    let same : Some byte ≡ Some first = g.0 in
    let is : byte ≡ first = cc in
    (byte ∷ left, ap₂ is (subst (λ n. IfSome n (λ k. k ≡ left)) g.1 has), refl)
  where
    ap₂ : {byte first : ℕ} {rest left : List ℕ} → byte ≡ first → rest ≡ left → first ∷ rest ≡ byte ∷ left
    ap₂ e f = cc

end_taken : (known : Option (List ℕ)) (byte : Option ℕ) (now : Option (List ℕ)) → GivesByte known byte now → IsEndOf known now
end_taken None byte now g = tt
end_taken (Some []) byte now g = subst (λ n. IsEndOf (Some []) n) (sym g.1) ([], refl)
end_taken (Some (first ∷ rest)) byte now g = subst (λ n. IsEndOf (Some (first ∷ rest)) n) (sym g.1) (first ∷ [], refl)

-- a byte was taken
pub over_taken : (before after : World) (byte : Option ℕ) → TakesByte before after byte → OverHost (λ input left out. Takes byte input left × (out ≡ [])) before after
over_taken before after byte t = record {
  out = [];
  world = t.rest ∙ ap (with_output before after.input) (append_none before.output);
  ends = end_taken before.input byte after.input t.taken;
  from = λ left has. let f = byte_taken before.input byte after.input t.taken left has in (f.0, f.1, (f.2, refl));
}

-- the world is the same
pub over_same : (before after : World) → after ≡ before → OverHost (λ input left out. (input ≡ left) × (out ≡ [])) before after
over_same before after is =
    subst (λ w. OverHost (λ input left out. (input ≡ left) × (out ≡ [])) before w) (sym is)
    (over_none (λ input left out. (input ≡ left) × (out ≡ [])) (λ left. (refl, refl)) before)
