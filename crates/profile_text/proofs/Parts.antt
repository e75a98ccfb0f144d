-- The parts between separators, and the lines of a file.
use Rattle.std.proofs.Common.{◌≡◌, ℕ, ◌<◌, ◌≤◌, ◌+◌, Bool, true, false, suc, List, [], ◌∷◌, ◌++◌, length, take, drop, get_or, refl, sym, ap, ◌∙◌, append_assoc, add-one, Option, Some, None, map}
use Rattle.std.specs.Prelude.{if◌then◌else◌, ◌==◌, ◌&&◌}
use Rattle.std.proofs.lemmas.List.{at_drop_more, at_drop_all, take_more, take_all}
use Rattle.profile_text.specs.declared.line.Line.{Line}
use Rattle.profile_text.specs.declared.line.Line.TheVariants.{Other}
use Rattle.profile_text.specs.Lines.{begun, parts, line_of, line_of_fields}
use Rattle.profile_text.specs.Grammar.{malformed_from, may_follow, is_end, is_empty}
use Rattle.profile_text.specs.Matching.{front, lines_in}

-- bytes before the first part
abbrev pub grown : List ℕ → List (List ℕ) → List (List ℕ)
grown bs [] = bs ∷ []
grown bs (part ∷ parts) = (bs ++ part) ∷ parts

pub append_nil : {X : Type 0} (bs : List X) → bs ++ [] ≡ bs
append_nil [] = refl
append_nil (b ∷ bs) = ap (λ x. b ∷ x) (append_nil bs)

grown_begun : (bs : List ℕ) (b : ℕ) (ps : List (List ℕ)) → grown bs (begun b ps) ≡ grown (bs ++ b ∷ []) ps
grown_begun bs b [] = refl
grown_begun bs b (p ∷ ps) = ap (λ x. x ∷ ps) (sym (append_assoc bs (b ∷ []) p))

-- there is a first part
pub record Some_parts (ps : List (List ℕ)) : Type 0 where
  pub first : List ℕ
  pub rest : List (List ℕ)
  pub are : ps ≡ first ∷ rest

begun_some : (b : ℕ) (ps : List (List ℕ)) → Some_parts (begun b ps)
begun_some b [] = record { first = b ∷ []; rest = []; are = refl }
begun_some b (p ∷ ps) = record { first = b ∷ p; rest = ps; are = refl }

chosen_some : (t : Bool) (b : ℕ) (ps : List (List ℕ)) → Some_parts (if t then [] ∷ ps else begun b ps)
chosen_some true b ps = record { first = []; rest = ps; are = refl }
chosen_some false b ps = begun_some b ps

pub parts_some : (c : ℕ) (bs : List ℕ) → Some_parts (parts c bs)
parts_some c [] = record { first = []; rest = []; are = refl }
parts_some c (b ∷ bs) = chosen_some (b == c) b (parts c bs)

pub parts_at : (c b : ℕ) (bs : List ℕ) → (b == c) ≡ true → parts c (b ∷ bs) ≡ [] ∷ parts c bs
parts_at c b bs same = rw same refl

pub parts_off : (c b : ℕ) (bs : List ℕ) → (b == c) ≡ false → parts c (b ∷ bs) ≡ begun b (parts c bs)
parts_off c b bs other = rw other refl

grown_none : (ps : List (List ℕ)) → Some_parts ps → ps ≡ grown [] ps
grown_none ps some = rw some.are refl

pub cut_begins : (c : ℕ) (bs : List ℕ) → parts c bs ≡ grown [] (parts c bs)
cut_begins c bs = grown_none (parts c bs) (parts_some c bs)

at_next : (c : ℕ) (bs : List ℕ) (i b : ℕ) → i < length bs → b ≡ get_or bs i b → parts c (drop i bs) ≡ parts c (b ∷ drop (i + 1) bs)
at_next c bs i b lt at = at_drop_more (parts c) bs i b lt ∙ ap (λ x. parts c (x ∷ drop (i + 1) bs)) (sym at)

pub cut_goes_on : (c : ℕ) (bs : List ℕ) (i b : ℕ) → i < length bs → b ≡ get_or bs i b → (b == c) ≡ false → parts c bs ≡ grown (take i bs) (parts c (drop i bs)) → parts c bs ≡ grown (take (i + 1) bs) (parts c (drop (i + 1) bs))
cut_goes_on c bs i b lt at other so =
    let more : take (i + 1) bs ≡ take i bs ++ b ∷ [] = take_more bs i b lt ∙ ap (λ x. take i bs ++ x ∷ []) (sym at) in
    so ∙ ap (grown (take i bs)) (at_next c bs i b lt at ∙ parts_off c b (drop (i + 1) bs) other) ∙ grown_begun (take i bs) b (parts c (drop (i + 1) bs))
    ∙ ap (λ x. grown x (parts c (drop (i + 1) bs))) (sym more)

pub cut_found : (c : ℕ) (bs : List ℕ) (i b : ℕ) → i < length bs → b ≡ get_or bs i b → (b == c) ≡ true → parts c bs ≡ grown (take i bs) (parts c (drop i bs)) → parts c bs ≡ take i bs ∷ parts c (drop (i + 1) bs)
cut_found c bs i b lt at same so =
    so ∙ ap (grown (take i bs)) (at_next c bs i b lt at ∙ parts_at c b (drop (i + 1) bs) same)
    ∙ ap (λ x. x ∷ parts c (drop (i + 1) bs)) (append_nil (take i bs))

pub cut_ends : (c : ℕ) (bs : List ℕ) (i : ℕ) → length bs ≤ i → parts c bs ≡ grown (take i bs) (parts c (drop i bs)) → parts c bs ≡ bs ∷ []
cut_ends c bs i le so =
    so ∙ ap (grown (take i bs)) (at_drop_all (parts c) bs i le) ∙ ap (λ x. x ∷ []) (append_nil (take i bs) ∙ take_all i bs le)

-- ---- what stands behind a first part

five : (a b c d : List ℕ) (ps : List (List ℕ)) → Some_parts ps → line_of_fields (a ∷ b ∷ c ∷ d ∷ ps) ≡ Other
five a b c d ps some = rw some.are refl

pub five_fields : (a b c d bs : List ℕ) → line_of_fields (a ∷ b ∷ c ∷ d ∷ parts 32 bs) ≡ Other
five_fields a b c d bs = five a b c d (parts 32 bs) (parts_some 32 bs)

pub front_more : (piece : List ℕ) (ps : List (List ℕ)) → Some_parts ps → map line_of (front (piece ∷ ps)) ≡ line_of piece ∷ map line_of (front ps)
front_more piece ps some = rw some.are refl

pub lines_more : (bytes piece bs : List ℕ) → parts 10 bytes ≡ piece ∷ parts 10 bs → lines_in bytes ≡ line_of piece ∷ lines_in bs
lines_more bytes piece bs e = ap (λ x. map line_of (front x)) e ∙ front_more piece (parts 10 bs) (parts_some 10 bs)

pub lines_none : (bytes piece : List ℕ) → parts 10 bytes ≡ piece ∷ [] → lines_in bytes ≡ []
lines_none bytes piece e = ap (λ x. map line_of (front x)) e

pub step : (n : ℕ) (before : Option Line) (piece : List ℕ) (ps : List (List ℕ)) → Some_parts ps → malformed_from n before (piece ∷ ps) ≡ (if may_follow before (line_of piece) then malformed_from (suc n) (Some (line_of piece)) ps else Some n)
step n before piece ps some = rw some.are refl

pub malformed_step : (n : ℕ) (before : Option Line) (bytes piece bs : List ℕ) → parts 10 bytes ≡ piece ∷ parts 10 bs → malformed_from n before (parts 10 bytes) ≡ (if may_follow before (line_of piece) then malformed_from (suc n) (Some (line_of piece)) (parts 10 bs) else Some n)
malformed_step n before bytes piece bs e = ap (malformed_from n before) e ∙ step n before piece (parts 10 bs) (parts_some 10 bs)

pub malformed_more : (n : ℕ) (before : Option Line) (bytes piece bs : List ℕ) → parts 10 bytes ≡ piece ∷ parts 10 bs → may_follow before (line_of piece) ≡ true → malformed_from (n + 1) (Some (line_of piece)) (parts 10 bs) ≡ malformed_from n before (parts 10 bytes)
malformed_more n before bytes piece bs e fits = ap (λ m. malformed_from m (Some (line_of piece)) (parts 10 bs)) (add-one n) ∙ sym (malformed_step n before bytes piece bs e ∙ rw fits refl)

pub malformed_here : (n : ℕ) (before : Option Line) (bytes piece bs : List ℕ) → parts 10 bytes ≡ piece ∷ parts 10 bs → may_follow before (line_of piece) ≡ false → Some n ≡ malformed_from n before (parts 10 bytes)
malformed_here n before bytes piece bs e fits = sym (malformed_step n before bytes piece bs e ∙ rw fits refl)

pub malformed_last : (n : ℕ) (before : Option Line) (left : List ℕ) → parts 10 left ≡ left ∷ [] → (is_end before && is_empty left) ≡ true → None ≡ malformed_from n before (parts 10 left)
malformed_last n before left e whole = sym (ap (malformed_from n before) e ∙ rw whole refl)

pub malformed_end : (n : ℕ) (before : Option Line) (left : List ℕ) → parts 10 left ≡ left ∷ [] → (is_end before && is_empty left) ≡ false → Some n ≡ malformed_from n before (parts 10 left)
malformed_end n before left e part = sym (ap (malformed_from n before) e ∙ rw part refl)

pub many_fields : (line a r b s c t d u : List ℕ) → parts 32 line ≡ a ∷ parts 32 r → parts 32 r ≡ b ∷ parts 32 s → parts 32 s ≡ c ∷ parts 32 t → parts 32 t ≡ d ∷ parts 32 u → Other ≡ line_of_fields (parts 32 line)
many_fields line a r b s c t d u e f g h =
    sym (ap line_of_fields (e ∙ ap (λ x. a ∷ x) (f ∙ ap (λ x. b ∷ x) (g ∙ ap (λ x. c ∷ x) h))) ∙ five_fields a b c d u)
