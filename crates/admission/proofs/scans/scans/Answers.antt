-- The scans one after another: what each closure answers is the check of its stage.
use Rattle.std.proofs.Common.{sym, ◌∙◌}
use Rattle.rules.specs.Grounds.{bad_blank, bad_routine, bad_entry}
use Rattle.rules.specs.Sheet.{listing, word, described, marked, routine, depth, routines, entry}
use Rattle.sheets.specs.internal.Words.{word_of}
use Rattle.sheets.proofs.Judged.{kept}
use Rattle.slices.specs.Checks.{first_broken}
use Rattle.addresses.specs.internal.Parts.{EntriesFit, without_banks}
use Rattle.admission.specs.internal.Stages.{Blanks, Routines, Entries, Addresses, stage_checks, scans_of}
use Rattle.admission.proofs.Answer.{start_tested, entries_fit}
use Rattle.admission.proofs.Stopping.{stopped, went_on}
use Rattle.admission.proofs.scans.scans.Goals as goal

pub returns-in_err-scan : goal.returns-in_err-scan
unfolding scans_of first_broken bad_blank bad_routine bad_entry described marked routine depth routines entry word word_of
returns-in_err-scan c =
    let a = c.args in
    let L = listing a.opcodes.now a.arguments.now a.sheet.now a.list.now in
    stopped c.from_residual.result _ _ _ (c.in_err-scan.ensures (stage_checks Blanks L) (λ k r h p. p)) c.from_residual.ensures.1

pub returns-in_err-scan-2 : goal.returns-in_err-scan-2
unfolding scans_of first_broken bad_blank bad_routine bad_entry described marked routine depth routines entry word word_of
returns-in_err-scan-2 c =
    let a = c.args in
    let L = listing a.opcodes.now a.arguments.now a.sheet.now a.list.now in
    let blanks = c.in_ok-scan.ensures (stage_checks Blanks L) (λ k r h p. p) in
    went_on blanks (stopped c.from_residual-in_err-scan-2.result _ _ _ (c.in_err-scan-2.ensures (stage_checks Routines L) (λ k r h p. p)) c.from_residual-in_err-scan-2.ensures.1)

pub returns-in_err-refuse_if : goal.returns-in_err-refuse_if
unfolding scans_of first_broken bad_blank bad_routine bad_entry described marked routine depth routines entry word word_of
returns-in_err-refuse_if c =
    let a = c.args in
    let L = listing a.opcodes.now a.arguments.now a.sheet.now a.list.now in
    let blanks = c.in_ok-scan.ensures (stage_checks Blanks L) (λ k r h p. p) in
    let routines_named = c.in_ok-scan-2.ensures (stage_checks Routines L) (λ k r h p. p) in
    went_on blanks (went_on routines_named (stopped c.from_residual-in_err-refuse_if.result _ _ _ (c.in_err-refuse_if.ensures ∙ start_tested L _ c.entry_of.ensures) c.from_residual-in_err-refuse_if.ensures.1))

pub scan-requires-3-clause-few : goal.scan-requires-3-clause-few
unfolding routines
scan-requires-3-clause-few c = c.requires

pub returns-in_err-scan-3 : goal.returns-in_err-scan-3
unfolding scans_of first_broken bad_blank bad_routine bad_entry described marked routine depth routines entry word word_of
returns-in_err-scan-3 c =
    let a = c.args in
    let L = listing a.opcodes.now a.arguments.now a.sheet.now a.list.now in
    let blanks = c.in_ok-scan.ensures (stage_checks Blanks L) (λ k r h p. p) in
    let routines_named = c.in_ok-scan-2.ensures (stage_checks Routines L) (λ k r h p. p) in
    let begins = c.in_ok-refuse_if.ensures ∙ start_tested L _ c.entry_of.ensures in
    went_on blanks (went_on routines_named (went_on begins (stopped c.from_residual-in_err-scan-3.result _ _ _ (c.in_err-scan-3.ensures (stage_checks Entries L) (λ k r h p. p)) c.from_residual-in_err-scan-3.ensures.1)))

pub scan-requires-4-clause-callable : goal.scan-requires-4-clause-callable
unfolding scans_of first_broken bad_blank bad_routine bad_entry described marked routine depth routines entry word word_of
scan-requires-4-clause-callable c =
    let a = c.args in
    let L = listing a.opcodes.now a.arguments.now a.sheet.now a.list.now in
    let entries = c.in_ok-scan-3.ensures (stage_checks Entries L) (λ k r h p. p) in
    let fit : EntriesFit (without_banks a.sheet.now a.list.now) = entries_fit L (sym entries ∙ kept) in
    record { at = λ x. fit }

pub returns : goal.returns
unfolding scans_of first_broken bad_blank bad_routine bad_entry described marked routine depth routines entry word word_of
returns c =
    let a = c.args in
    let L = listing a.opcodes.now a.arguments.now a.sheet.now a.list.now in
    let blanks = c.in_ok-scan.ensures (stage_checks Blanks L) (λ k r h p. p) in
    let routines_named = c.in_ok-scan-2.ensures (stage_checks Routines L) (λ k r h p. p) in
    let begins = c.in_ok-refuse_if.ensures ∙ start_tested L _ c.entry_of.ensures in
    let entries = c.in_ok-scan-3.ensures (stage_checks Entries L) (λ k r h p. p) in
    went_on blanks (went_on routines_named (went_on begins (went_on entries (c.scan-4.ensures (stage_checks Addresses L) (λ k r h p. p)))))
