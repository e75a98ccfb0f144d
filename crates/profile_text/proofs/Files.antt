-- A file is refused, or it is the text of the counts that it gives.
use Rattle.std.proofs.Common.{◌≡◌, ℕ, Bool, true, false, List, [], ◌∷◌, ◌++◌, refl, sym, ap, ◌∙◌, subst, append_assoc, Option, Some, None, map}
use Rattle.std.specs.Prelude.{if◌then◌else◌}
use Rattle.tac_core.specs.declared.code.TacFunc.{TacFunc}
use Rattle.tac_core.specs.declared.counts.FuncCounts.{FuncCounts}
use Rattle.tac_core.specs.Program.{Program}
use Rattle.tac_core.specs.Rules.{IsValid}
use Rattle.profile_text.specs.declared.error.ProfErr.{ProfErr}
use Rattle.profile_text.specs.declared.error.ProfErr.TheVariants.{Malformed, Mismatch, NoMemory}
use Rattle.profile_text.specs.declared.line.Line.{Line}
use Rattle.profile_text.specs.declared.line.Line.TheVariants.{Header}
use Rattle.profile_text.specs.Lines.{parts, end_line, header_line, line_of}
use Rattle.profile_text.specs.Grammar.{may_follow, malformed_from, malformed_at}
use Rattle.profile_text.specs.Matching.{mismatch_from, mismatch_at, mismatch_behind, front, lines_in, behind, counts_in}
use Rattle.profile_text.specs.ProfileText.{joined, edge_line, funcs_lines, profile_lines, profile_text, IsProfile, Refuses}
use Rattle.profile_text.specs.Reading.{Misreads}
use Rattle.profile_text.proofs.Parts.{step, front_more}
use Rattle.profile_text.proofs.Spelling.{joined_parts, joined_lines}
use Rattle.profile_text.proofs.Saying.{Says, SaysHeader, SaysEnd, SaysOther, SaysFunc, SaysEdge, says}
use Rattle.profile_text.proofs.Good.{AreGood, good_of, good_counts, good_labels, are_good}
use Rattle.profile_text.proofs.Whole.{IsWhole, Small, closing, whole_from}
use Rattle.profile_text.proofs.Written.{IsTaken, Named, funcs_taken, parts_profile}

-- ---- what fits and matches is the text of its counts

header_first : (piece : List ℕ) (line : Line) → Says piece line → may_follow None line ≡ true → (piece ≡ header_line) × (line ≡ Header)
header_first piece line SaysHeader may = (refl, refl)
header_first piece line SaysEnd may = absurd (cc)
header_first piece line (SaysOther bs) may = absurd (cc)
header_first piece line (SaysFunc a b c m n e f g) may = absurd (cc)
header_first piece line (SaysEdge a b c l m n e f g h k) may = absurd (cc)

must : (t : Bool) (r : Option ℕ) (n : ℕ) → (if t then r else Some n) ≡ None → (t ≡ true) × (r ≡ None)
must true r n h = (refl, h)
must false r n h = absurd (cc)

pub record IsText (fs : List TacFunc) (pieces : List (List ℕ)) (lines : List Line) : Type 0 where
  pub text : pieces ≡ profile_lines fs (counts_in (behind lines)) ++ [] ∷ []
  pub good : AreGood fs (counts_in (behind lines))

first_edges : (before : Option Line) (fs : List TacFunc) (pieces : List (List ℕ)) (lines : List Line) → IsWhole before None fs pieces lines → pieces ≡ funcs_lines fs (counts_in lines) ++ closing
first_edges before fs pieces lines w = w.text ∙ ap (λ x. map edge_line x ++ (funcs_lines fs (counts_in lines) ++ closing)) w.edges

pieces_text : (fs : List TacFunc) (pieces : List (List ℕ)) → Small fs → malformed_from 1 None pieces ≡ None → mismatch_behind fs (map line_of (front pieces)) ≡ None → IsText fs pieces (map line_of (front pieces))
pieces_text fs [] small mal mis = absurd (cc)
pieces_text fs (p ∷ []) small mal mis = absurd (cc)
pieces_text fs (p ∷ q ∷ ps) small mal mis =
    let t = must (may_follow None (line_of p)) (malformed_from 2 (Some (line_of p)) (q ∷ ps)) 1 mal in
    let h = header_first p (line_of p) (says p) t.0 in
    let w = whole_from (q ∷ ps) 2 2 (Some (line_of p)) None fs small t.1 mis in
    record {
      text = ap (λ x. x ∷ q ∷ ps) h.0 ∙ ap (λ x. header_line ∷ x) (first_edges (Some (line_of p)) fs (q ∷ ps) (map line_of (front (q ∷ ps))) w ∙ sym (append_assoc (funcs_lines fs (counts_in (map line_of (front (q ∷ ps))))) (end_line ∷ []) ([] ∷ [])));
      good = w.funcs;
    }

pub is_profile : (p : Program) (bytes : List ℕ) → Small p.funcs → malformed_at bytes ≡ None → mismatch_at p.funcs bytes ≡ None → IsProfile p (counts_in (behind (lines_in bytes))) bytes
unfolding malformed_at mismatch_at profile_text
is_profile p bytes small mal mis =
    let t = pieces_text p.funcs (parts 10 bytes) small mal mis in
    let counts = counts_in (behind (lines_in bytes)) in
    record {
      text = sym (joined_parts 10 bytes) ∙ ap (joined 10) t.text ∙ joined_lines (profile_lines p.funcs counts);
      matches = good_of p.funcs counts t.good;
      counted = good_counts p.funcs counts t.good;
      labels = good_labels p.funcs counts t.good;
      blocks = small;
    }

-- ---- the text of counts is taken, and gives them

pub record IsRead (p : Program) (counts : List FuncCounts) (bytes : List ℕ) : Type 0 where
  pub fits : malformed_at bytes ≡ None
  pub matches : mismatch_at p.funcs bytes ≡ None
  pub counts_so : counts_in (behind (lines_in bytes)) ≡ counts

abbrev Pieces : Program → List FuncCounts → List (List ℕ) → Type 0
Pieces p counts pieces = (malformed_from 1 None pieces ≡ None) × (mismatch_behind p.funcs (map line_of (front pieces)) ≡ None) × (counts_in (behind (map line_of (front pieces))) ≡ counts)

header_taken : (p : Program) (counts : List FuncCounts) (rest : List (List ℕ)) → IsTaken 2 2 (Some Header) None p.funcs rest [] counts → Pieces p counts (header_line ∷ rest)
header_taken p counts rest t =
    let lines = front_more header_line rest t.some in
    (step 1 None header_line rest t.some ∙ t.fits, ap (mismatch_behind p.funcs) lines ∙ t.matches, ap (λ x. counts_in (behind x)) lines ∙ t.counts)

names_of : (p : Program) → IsValid p → Named p.funcs
names_of p valid = λ k f lt. (valid.each k f lt).named

pub is_read : (p : Program) (counts : List FuncCounts) (bytes : List ℕ) → IsValid p → IsProfile p counts bytes → IsRead p counts bytes
unfolding malformed_at mismatch_at profile_text
is_read p counts bytes valid is =
    let good = are_good p.funcs counts is.matches.many is.matches.there is.counted is.labels in
    let names = names_of p valid in
    let pieces : parts 10 bytes ≡ header_line ∷ (funcs_lines p.funcs counts ++ closing) = ap (parts 10) is.text ∙ parts_profile p.funcs counts good names is.blocks ∙ ap (λ x. header_line ∷ x) (append_assoc (funcs_lines p.funcs counts) (end_line ∷ []) ([] ∷ [])) in
    let t = subst (Pieces p counts) (sym pieces) (header_taken p counts (funcs_lines p.funcs counts ++ closing) (funcs_taken p.funcs counts good names is.blocks 2 2 (Some Header) None refl)) in
    record { fits = t.0; matches = t.1; counts_so = t.2 }

-- ---- what a reader answers

pub not_malformed : (p : Program) (counts : List FuncCounts) (bytes : List ℕ) (n : ℕ) → IsValid p → malformed_at bytes ≡ Some n → IsProfile p counts bytes → ⊥
not_malformed p counts bytes n valid mal is = let r = is_read p counts bytes valid is in absurd (cc r.fits)

pub refused_so : (p : Program) (bytes : List ℕ) (e : ProfErr) → malformed_at bytes ≡ None → Misreads (λ fs. mismatch_at p.funcs bytes) e → Refuses p bytes e
refused_so p bytes (Malformed n) mal mis = absurd mis
refused_so p bytes (Mismatch n) mal mis = (mal, mis [])
refused_so p bytes NoMemory mal mis = tt

pub only_memory : (p : Program) (counts : List FuncCounts) (bytes : List ℕ) (e : ProfErr) → IsValid p → Misreads (λ fs. mismatch_at p.funcs bytes) e → IsProfile p counts bytes → e ≡ NoMemory
only_memory p counts bytes (Malformed n) valid mis is = absurd mis
only_memory p counts bytes (Mismatch n) valid mis is = let r = is_read p counts bytes valid is in absurd (cc (r.matches, mis []))
only_memory p counts bytes NoMemory valid mis is = refl

-- ---- the same, of the functions that a reader was given

pub behind_first : (funcs : List TacFunc) (bytes left : List ℕ) {line : Line} → lines_in bytes ≡ line ∷ lines_in left → mismatch_at funcs bytes ≡ mismatch_from 2 None funcs (lines_in left)
unfolding mismatch_at
behind_first funcs bytes left e = ap (mismatch_behind funcs) e

pub no_lines : (funcs : List TacFunc) (bytes : List ℕ) → lines_in bytes ≡ [] → mismatch_at funcs bytes ≡ Some 1
unfolding mismatch_at
no_lines funcs bytes e = ap (mismatch_behind funcs) e

pub refused_by : (p : Program) (funcs : List TacFunc) (bytes : List ℕ) (e : ProfErr) → funcs ≡ p.funcs → malformed_at bytes ≡ None → Misreads (λ fs. mismatch_at funcs bytes) e → Refuses p bytes e
refused_by p funcs bytes e same mal mis = refused_so p bytes e mal (subst (λ x. Misreads (λ fs. mismatch_at x bytes) e) same mis)

pub memory_by : (p : Program) (funcs : List TacFunc) (counts : List FuncCounts) (bytes : List ℕ) (e : ProfErr) → IsValid p → funcs ≡ p.funcs → Misreads (λ fs. mismatch_at funcs bytes) e → IsProfile p counts bytes → e ≡ NoMemory
memory_by p funcs counts bytes e valid same mis is = only_memory p counts bytes e valid (subst (λ x. Misreads (λ fs. mismatch_at x bytes) e) same mis) is

pub profile_by : (p : Program) (funcs : List TacFunc) (bytes : List ℕ) (counts : List FuncCounts) → funcs ≡ p.funcs → Small funcs → malformed_at bytes ≡ None → mismatch_at funcs bytes ≡ None → counts ≡ counts_in (behind (lines_in bytes)) → IsProfile p counts bytes
profile_by p funcs bytes counts same small mal mis given =
    subst (λ c. IsProfile p c bytes) (sym given) (is_profile p bytes (subst (λ x. Small x) same small) mal (subst (λ x. mismatch_at x bytes ≡ None) same mis))

pub read_by : (p : Program) (counts read : List FuncCounts) (bytes : List ℕ) → IsValid p → read ≡ counts_in (behind (lines_in bytes)) → IsProfile p counts bytes → read ≡ counts
read_by p counts read bytes valid given is = given ∙ (is_read p counts bytes valid is).counts_so
