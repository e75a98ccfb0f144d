-- A copy of a copy is a copy.
use Rattle.std.proofs.Common.{◌≡◌, min, ◌⊎◌, inl, inr, ◌+◌, ◌++◌, get_or, take, ℕ, zero, suc, ◌<◌, ◌≤◌, List, [], ◌∷◌, Option, Some, None, length, refl, sym, ap, ap₂, ◌∙◌, subst, ⊎_elim, arith}
use Rattle.std.specs.Prelude.{slice_get, slice_index_or}
use Rattle.std.specs.Option.{option_map}
use Rattle.std.proofs.lemmas.List.{length-map}
use Rattle.std.proofs.Math.Seq.{take-nil}
use Rattle.std.proofs.lemmas.Bool.{cases_lt}
use Rattle.std.proofs.lemmas.Option.{slice_get-map, slice_get_cases, slice_get_within, get_or_from_slice_get}
use Rattle.tac_core.specs.declared.code.End.{End}
use Rattle.tac_core.specs.declared.code.End.TheVariants.{Jump, Branch, Call, Ret}
use Rattle.tac_core.specs.declared.code.Block.{Block}
use Rattle.tac_core.specs.declared.code.TacFunc.{TacFunc}
use Rattle.tac_core.specs.Program.{Program}
use Rattle.tac_core.specs.Cover.{Origins, IsFrom, IsEndFrom, IsBlockFrom, IsFuncFrom, AreFuncsFrom, Covers, origins_through, all_through}

from_through : (xs ys : Origins) (l m o : ℕ) → IsFrom xs l m → IsFrom ys m o → IsFrom (origins_through xs ys) l o
from_through xs ys l m o h g =
    slice_get-map (λ l. slice_index_or ys l 0) xs l ∙ ap (option_map (λ l. slice_index_or ys l 0)) h ∙ ap Some (get_or_from_slice_get ys m o 0 g)

end_through : (xs ys : Origins) (a b c : End) → IsEndFrom xs a b → IsEndFrom ys b c → IsEndFrom (origins_through xs ys) a c
end_through xs ys (Jump l) (Jump m) (Jump o) h g = from_through xs ys l m o h g
end_through xs ys (Jump l) (Jump m) _ h g = absurd g
end_through xs ys (Branch r y n) (Branch r' y' n') (Branch r2 y2 n2) h g =
    (h.0 ∙ g.0, from_through xs ys y y' y2 h.1 g.1, from_through xs ys n n' n2 h.2 g.2)
end_through xs ys (Branch r y n) (Branch r' y' n') _ h g = absurd g
end_through xs ys (Call d f args l) (Call d' f' args' m) (Call d2 f2 args2 o) h g =
    (h.0 ∙ g.0, h.1 ∙ g.1, h.2 ∙ g.2, from_through xs ys l m o h.3 g.3)
end_through xs ys (Call d f args l) (Call d' f' args' m) _ h g = absurd g
end_through xs ys (Ret r) (Ret r') (Ret r2) h g = h ∙ g
end_through xs ys (Ret r) (Ret r') _ h g = absurd g
end_through xs ys _ _ _ h g = absurd h

block_through : (xs ys : Origins) (a b c : Block) → IsBlockFrom xs a b → IsBlockFrom ys b c → IsBlockFrom (origins_through xs ys) a c
block_through xs ys a b c h g = record {
  ops = h.ops ∙ g.ops;
  end_stmt = h.end_stmt ∙ g.end_stmt;
  ends = end_through xs ys a.«end» b.«end» c.«end» h.ends g.ends;
}

abbrev IsEach : Origins → TacFunc → TacFunc → ℕ → ℕ → Type 0
IsEach os copy origin l o = (b : Block) × (c : Block) × (slice_get copy.blocks l ≡ Some b) × (slice_get origin.blocks o ≡ Some c) × IsBlockFrom os b c

-- the label between
between : (xs ys : Origins) (l o : ℕ) (x : Option ℕ) → slice_get xs l ≡ x → IsFrom (origins_through xs ys) l o → (m : ℕ) × (slice_get xs l ≡ Some m) × (slice_index_or ys m 0 ≡ o)
between xs ys l o None is h =
    let e = sym (ap (option_map (λ l. slice_index_or ys l 0)) is) ∙ sym (slice_get-map (λ l. slice_index_or ys l 0) xs l) ∙ h in cc
between xs ys l o (Some m) is h =
    let e : Some (slice_index_or ys m 0) ≡ Some o = sym (ap (option_map (λ l. slice_index_or ys l 0)) is) ∙ sym (slice_get-map (λ l. slice_index_or ys l 0) xs l) ∙ h in
    (m, is, cc)

each_through : (xs ys : Origins) (a b c : TacFunc) → IsFuncFrom xs a b → IsFuncFrom ys b c → (l o : ℕ) → IsFrom (origins_through xs ys) l o → IsEach (origins_through xs ys) a c l o
each_through xs ys a b c h g l o from =
    let t = between xs ys l o (slice_get xs l) refl from in
    let u = h.each l t.0 t.1 in
    let within : t.0 < length b.blocks = slice_get_within b.blocks t.0 u.1 u.3 in
    let long = g.long in
    ⊎_elim
    (λ p.
    let same : p.0 ≡ o = sym (get_or_from_slice_get ys t.0 p.0 0 p.2) ∙ t.2 in
    let to : IsFrom ys t.0 o = p.2 ∙ ap Some same in
    let v = g.each t.0 o to in
    let mid : Some u.1 ≡ Some v.0 = sym u.3 ∙ v.2 in
    let one : u.1 ≡ v.0 = cc in
    (u.0, v.1, u.2, v.3, block_through xs ys u.0 v.0 v.1 (subst (λ z. IsBlockFrom xs u.0 z) one u.4) v.4))
    (λ p. let le : length ys ≤ t.0 = p.0 in absurd (omega arith))
    (slice_get_cases ys t.0).1

func_through : (xs ys : Origins) (a b c : TacFunc) → IsFuncFrom xs a b → IsFuncFrom ys b c → IsFuncFrom (origins_through xs ys) a c
func_through xs ys a b c h g = record {
  params = h.params ∙ g.params;
  regs = h.regs ∙ g.regs;
  frame = h.frame ∙ g.frame;
  long = length-map xs (λ l. slice_index_or ys l 0) ∙ h.long;
  entry = from_through xs ys 0 0 0 h.entry g.entry;
  each = each_through xs ys a b c h g;
}

abbrev both : Option Origins → Option Origins → Option Origins
both (Some xs) (Some ys) = Some (origins_through xs ys)
both _ _ = None

through_get : (all more : List Origins) (f : ℕ) → slice_get (all_through all more) f ≡ both (slice_get all f) (slice_get more f)
through_get [] more f = refl
through_get (x ∷ xs) [] f = none (slice_get (x ∷ xs) f)
  where
    none : (o : Option Origins) → None ≡ both o None
    none None = refl
    none (Some o) = refl
through_get (x ∷ xs) (y ∷ ys) zero = refl
through_get (x ∷ xs) (y ∷ ys) (suc f) = through_get xs ys f

at_through : (x y : Option Origins) (a b c : Option TacFunc) → AreFuncsFrom x a b → AreFuncsFrom y b c → AreFuncsFrom (both x y) a c
at_through (Some xs) (Some ys) (Some a) (Some b) (Some c) h g = func_through xs ys a b c h g
at_through (Some xs) (Some ys) (Some a) (Some b) None h g = absurd g
at_through (Some xs) None (Some a) (Some b) c h g = absurd g
at_through (Some xs) y (Some a) None c h g = absurd h
at_through (Some xs) y None b c h g = absurd h
at_through None None None None None h g = tt
at_through None None None None (Some c) h g = absurd g
at_through None (Some ys) None None c h g = absurd g
at_through None y None (Some b) c h g = absurd h
at_through None y (Some a) b c h g = absurd h

pub covers_trans : (all more : List Origins) (a b c : Program) → Covers all a b → Covers more b c → Covers (all_through all more) a c
covers_trans all more a b c h g = record {
  image = h.image ∙ g.image;
  places = h.places ∙ g.places;
  named = h.named ∙ g.named;
  funcs = λ f. rw (through_get all more f) (at_through (slice_get all f) (slice_get more f) (slice_get a.funcs f) (slice_get b.funcs f) (slice_get c.funcs f) (h.funcs f) (g.funcs f));
}

pub through_more : (xs ys : List Origins) (i : ℕ) (d e : Origins) → i < length xs → i < length ys → all_through (take (i + 1) xs) (take (i + 1) ys) ≡ all_through (take i xs) (take i ys) ++ origins_through (get_or xs i d) (get_or ys i e) ∷ []
through_more [] ys i d e lt mt = absurd (omega arith)
through_more (x ∷ xs) [] i d e lt mt = absurd (omega arith)
through_more (x ∷ xs) (y ∷ ys) zero d e lt mt = refl
through_more (x ∷ xs) (y ∷ ys) (suc i) d e lt mt =
    let s : suc i + 1 ≡ suc (i + 1) = omega arith in
    ap (λ k. all_through (take k (x ∷ xs)) (take k (y ∷ ys))) s
    ∙ ap (λ l. origins_through x y ∷ l) (through_more xs ys i d e (omega arith) (omega arith))

pub through_done : (xs ys : List Origins) (n : ℕ) → (length xs ≤ n) ⊎ (length ys ≤ n) → all_through (take n xs) (take n ys) ≡ all_through xs ys
through_done [] ys n h = simp (take-nil)
through_done (x ∷ xs) [] n h = simp (take-nil) (nothing (take n (x ∷ xs)))
  where
    nothing : (l : List Origins) → all_through l [] ≡ []
    nothing [] = refl
    nothing (z ∷ zs) = refl
through_done (x ∷ xs) (y ∷ ys) zero h = ⊎_elim (λ l. absurd (omega arith)) (λ l. absurd (omega arith)) h
through_done (x ∷ xs) (y ∷ ys) (suc n) h =
    ap (λ l. origins_through x y ∷ l) (through_done xs ys n (⊎_elim (λ l. inl (omega arith)) (λ l. inr (omega arith)) h))

shorter : (a b n : ℕ) → min a b ≤ n → (a ≤ n) ⊎ (b ≤ n)
shorter a b n h = ⊎_elim (λ lt. inl (omega arith)) (λ le. inr (omega arith)) (cases_lt a b)

pub through_min : (xs ys : List Origins) (n : ℕ) → min (length xs) (length ys) ≤ n → all_through (take n xs) (take n ys) ≡ all_through xs ys
through_min xs ys n h = through_done xs ys n (shorter (length xs) (length ys) n h)

-- a step of a loop that joins origins function by function
pub through_step : (xs ys : List Origins) (i : ℕ) (x y x' y' list : Origins) (before after : List Origins) → i < length xs → i < length ys → x ≡ get_or xs i x → y ≡ get_or ys i y → x' ≡ x → y' ≡ y → list ≡ origins_through x' y' → before ≡ all_through (take i xs) (take i ys) → after ≡ before ++ list ∷ [] → after ≡ all_through (take (i + 1) xs) (take (i + 1) ys)
through_step xs ys i x y x' y' list before after lt mt at at' read read' made so grown =
    grown ∙ ap₂ (λ a b. a ++ b ∷ []) so (made ∙ ap₂ origins_through (read ∙ at) (read' ∙ at')) ∙ sym (through_more xs ys i x y lt mt)
