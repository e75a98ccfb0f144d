-- The work of any command that its source is refused to, or that breaks off.
use Rattle.std.proofs.Common.{◌≡◌, inl, ℕ, List, Some, Result, Err, refl, sym, subst}
use Rattle.std.specs.Prelude.{IsErrOf}
use Rattle.ib_base.specs.World.{World}
use Rattle.impactc_words.specs.declared.words.Command.{Command}
use Rattle.impactc_words.specs.declared.words.Command.TheVariants.{Check, Interp, Run}
use Rattle.impactc_words.specs.Words.{input_of}
use Rattle.impactc_core.specs.declared.core_err.CoreErr.{CoreErr}
use Rattle.impactc_core.specs.declared.core_err.CoreErr.TheVariants.{Usage as BadWords, Source, HostFault as Host, NoMemory as Memory, TooLarge as Large}
use Rattle.impactc_core.specs.declared.core_err.Limit.TheVariants.{Source as SourceBytes, Nesting, Globals, Frame, Operations}
use Rattle.impactc_core.specs.declared.front.SourceErr.{SourceErr}
use Rattle.impactc_core.specs.declared.front.SourceErr.TheVariants.{Fault, TooLarge as PastLimit, NoMemory as NoMemoryLeft}
use Rattle.impactc_core.specs.declared.success.Success.{Success}
use Rattle.impactc_core.specs.Answers.{IsPlain, MayChange, RefusesInput, Works}
use Rattle.impactc_core.specs.Notes.{status_of}
use Rattle.impactc_core.specs.Sources.{IsSource, IsRefused}
use Rattle.impactc_core.specs.Work.{IsReadErr, IsBreak, Refuses, of_file}

-- what gives no program is no failure of the host
pub no_host_fault : (file : List ℕ) (error : SourceErr) → IsErrOf {T = Success} (Err (of_file file error)) Host → ⊥
no_host_fault file (Fault place fault) e = cc
no_host_fault file (PastLimit limit) e = cc
no_host_fault file NoMemoryLeft e = cc

breaks_plainly : (refusal : CoreErr) → IsBreak refusal → IsPlain (status_of (Err refusal)) → ⊥
breaks_plainly BadWords is plain = absurd is
breaks_plainly (Source name place reason) is plain = absurd is
breaks_plainly Host is plain = plain
breaks_plainly Memory is plain = plain
breaks_plainly (Large limit) is plain = absurd is

-- every command refuses a source that has no program
takes : (command : Command) (refusal : CoreErr) (w : World) → IsRefused (input_of command) refusal w → RefusesInput command refusal w
takes (Check file) refusal w is = is
takes (Interp file) refusal w is = is
takes (Run file) refusal w is = inl is

module _ (command : Command) (old : World) where
  abbrev Refused : CoreErr → World → Type 0
  Refused refusal new = Works (Some command) (Err refusal) old new

  -- a source that gives no program
  pub works_refused : (content : List ℕ) (error : SourceErr) → IsSource (input_of command) old content → Refuses content error → Refused (of_file (input_of command) error) old
  works_refused content (Fault place fault) source why = record {
    may = inl refl;
    cause = λ plain. (takes command _ old (refl, record { content = content; source = source; has_fault = why }), refl);
  }
  works_refused content (PastLimit limit) source why = record {
    may = inl refl;
    cause = λ plain. (takes command _ old (record { content = content; there = source.there; past = why }), refl);
  }
  works_refused content NoMemoryLeft source why = record { may = inl refl; cause = λ plain. absurd plain }

  -- a source that was not read
  unread : (refusal : CoreErr) → IsReadErr (input_of command) old refusal → Refused refusal old
  unread BadWords is = absurd is
  unread (Source name place fault) is = absurd is
  unread Host is = record { may = inl refl; cause = λ plain. absurd plain }
  unread Memory is = record { may = inl refl; cause = λ plain. absurd plain }
  unread (Large SourceBytes) is = record {
    may = inl refl;
    cause = λ plain. (takes command _ old (record { content = is.1.content; there = is.1.there; past = is.1.large }), refl);
  }
  unread (Large Nesting) is = let e = is.0 in cc
  unread (Large Globals) is = let e = is.0 in cc
  unread (Large Frame) is = let e = is.0 in cc
  unread (Large Operations) is = let e = is.0 in cc

  pub works_unread : (refusal : CoreErr) (new : World) → IsReadErr (input_of command) old refusal → new ≡ old → Refused refusal new
  works_unread refusal new is same = subst (λ (w : World). Refused refusal w) (sym same) (unread refusal is)

  -- a run that broke off
  pub works_broken : (refusal : CoreErr) (new : World) → IsBreak refusal → MayChange (Some command) old new → Refused refusal new
  works_broken refusal new is part = record { may = part; cause = λ plain. absurd (breaks_plainly refusal is plain) }

-- a source that was read, which changed nothing
pub still_source : (file content bytes : List ℕ) (old mid : World) → IsSource file old content → bytes ≡ content → mid ≡ old → IsSource file mid bytes
still_source file content bytes old mid source same world =
    subst (λ (w : World). IsSource file w bytes) (sym world) (subst (λ (b : List ℕ). IsSource file old b) (sym same) source)

-- work behind a call that changed nothing
pub works_behind : (command : Command) (work : Result Success CoreErr) (old mid new : World) → mid ≡ old → Works (Some command) work mid new → Works (Some command) work old new
works_behind command work old mid new same works = subst (λ (w : World). Works (Some command) work w new) same works
