-- What a line can say, by how it is spelled.
use Rattle.std.proofs.Common.{◌≡◌, ℕ, Bool, true, false, List, [], ◌∷◌, refl, subst, Option, Some, None, codes}
use Rattle.std.specs.Prelude.{if◌then◌else◌, ◌&&◌, nat_lt, bytes_eq}
use Rattle.std.proofs.lemmas.Slice.Eq.{bytes_eq-Decides}
use Rattle.profile_text.specs.declared.line.Line.{Line}
use Rattle.profile_text.specs.declared.line.Line.TheVariants.{Header, Func, Edge, End, Other}
use Rattle.profile_text.specs.Numbers.{number_of}
use Rattle.profile_text.specs.Lines.{parts, is_name, is_count, header_line, end_line, func_of, edge_of, line_of_fields, line_of}
use Rattle.profile_text.specs.ProfileText.{spaced}
use Rattle.profile_text.proofs.Spelling.{joined_parts, and_first, and_second}

pub data Says : List ℕ → Line → Type 0 where
  SaysHeader : Says header_line Header
  SaysEnd : Says end_line End
  SaysOther : (bs : List ℕ) → Says bs Other
  SaysFunc : (a b c : List ℕ) (m n : ℕ) → number_of b ≡ Some m → number_of c ≡ Some n → is_count n ≡ true → Says (spaced (codes "func" ∷ a ∷ b ∷ c ∷ [])) (Func a m n)
  SaysEdge : (a b c : List ℕ) (l m n : ℕ) → number_of a ≡ Some l → number_of b ≡ Some m → number_of c ≡ Some n → nat_lt 0 n ≡ true → is_count n ≡ true → Says (spaced (codes "edge" ∷ a ∷ b ∷ c ∷ [])) (Edge l m n)

func_tested : (a b c : List ℕ) (m n : ℕ) (t : Bool) → number_of b ≡ Some m → number_of c ≡ Some n → (t ≡ true → is_count n ≡ true) → Says (spaced (codes "func" ∷ a ∷ b ∷ c ∷ [])) (if t then Func a m n else Other)
func_tested a b c m n true e f h = SaysFunc a b c m n e f (h refl)
func_tested a b c m n false e f h = SaysOther _

func_says : (a b c : List ℕ) (m n : Option ℕ) → number_of b ≡ m → number_of c ≡ n → Says (spaced (codes "func" ∷ a ∷ b ∷ c ∷ [])) (func_of a m n)
func_says a b c (Some m) (Some n) e f = func_tested a b c m n (is_name a && is_count n) e f (and_second (is_name a) (is_count n))
func_says a b c (Some m) None e f = SaysOther _
func_says a b c None (Some n) e f = SaysOther _
func_says a b c None None e f = SaysOther _

edge_tested : (a b c : List ℕ) (l m n : ℕ) (t : Bool) → number_of a ≡ Some l → number_of b ≡ Some m → number_of c ≡ Some n → (t ≡ true → nat_lt 0 n ≡ true) → (t ≡ true → is_count n ≡ true) → Says (spaced (codes "edge" ∷ a ∷ b ∷ c ∷ [])) (if t then Edge l m n else Other)
edge_tested a b c l m n true e f g h k = SaysEdge a b c l m n e f g (h refl) (k refl)
edge_tested a b c l m n false e f g h k = SaysOther _

edge_says : (a b c : List ℕ) (l m n : Option ℕ) → number_of a ≡ l → number_of b ≡ m → number_of c ≡ n → Says (spaced (codes "edge" ∷ a ∷ b ∷ c ∷ [])) (edge_of l m n)
edge_says a b c (Some l) (Some m) (Some n) e f g = edge_tested a b c l m n (nat_lt 0 n && is_count n) e f g (and_first (nat_lt 0 n) (is_count n)) (and_second (nat_lt 0 n) (is_count n))
edge_says a b c (Some l) (Some m) None e f g = SaysOther _
edge_says a b c (Some l) None n e f g = SaysOther _
edge_says a b c None m n e f g = SaysOther _

four : (w a b c : List ℕ) (f e : Bool) → (f ≡ true → codes "func" ≡ w) → (e ≡ true → codes "edge" ≡ w) → Says (spaced (w ∷ a ∷ b ∷ c ∷ [])) (if f then func_of a (number_of b) (number_of c) else if e then edge_of (number_of a) (number_of b) (number_of c) else Other)
four w a b c true e wf we = subst (λ x. Says (spaced (x ∷ a ∷ b ∷ c ∷ [])) (func_of a (number_of b) (number_of c))) (wf refl) (func_says a b c (number_of b) (number_of c) refl refl)
four w a b c false true wf we = subst (λ x. Says (spaced (x ∷ a ∷ b ∷ c ∷ [])) (edge_of (number_of a) (number_of b) (number_of c))) (we refl) (edge_says a b c (number_of a) (number_of b) (number_of c) refl refl refl)
four w a b c false false wf we = SaysOther _

fields_say : (ps : List (List ℕ)) → Says (spaced ps) (line_of_fields ps)
fields_say [] = SaysOther _
fields_say (w ∷ []) = SaysOther _
fields_say (w ∷ a ∷ []) = SaysOther _
fields_say (w ∷ a ∷ b ∷ []) = SaysOther _
fields_say (w ∷ a ∷ b ∷ c ∷ []) = four w a b c (bytes_eq (codes "func") w) (bytes_eq (codes "edge") w) (bytes_eq-Decides (codes "func") w).0 (bytes_eq-Decides (codes "edge") w).0
fields_say (w ∷ a ∷ b ∷ c ∷ d ∷ ps) = SaysOther _

whole : (bs : List ℕ) (h e : Bool) (l : Line) → (h ≡ true → header_line ≡ bs) → (e ≡ true → end_line ≡ bs) → Says bs l → Says bs (if h then Header else if e then End else l)
whole bs true e l eh ee s = subst (λ x. Says x Header) (eh refl) SaysHeader
whole bs false true l eh ee s = subst (λ x. Says x End) (ee refl) SaysEnd
whole bs false false l eh ee s = s

pub says : (bs : List ℕ) → Says bs (line_of bs)
says bs =
    whole bs (bytes_eq header_line bs) (bytes_eq end_line bs) (line_of_fields (parts 32 bs)) (bytes_eq-Decides header_line bs).0 (bytes_eq-Decides end_line bs).0
    (subst (λ x. Says x (line_of_fields (parts 32 bs))) (joined_parts 32 bs) (fields_say (parts 32 bs)))
