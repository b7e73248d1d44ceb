-- The lengths, or what the scans answer.
use Rattle.std.proofs.Common.{sym, ◌∙◌}
use Rattle.rules.specs.Sheet.{listing}
use Rattle.sheets.proofs.Judged.{kept, length_kept, length_broken}
use Rattle.admission.specs.internal.Stages.{stages_of}
use Rattle.admission.proofs.Answer.{few_routines}
use Rattle.admission.proofs.Stopping.{stopped, went_on}
use Rattle.admission.proofs.scans.admit.Goals as goal

pub returns-in_err-listing_sizes : goal.returns-in_err-listing_sizes
unfolding stages_of
returns-in_err-listing_sizes c =
    stopped c.from_residual.result _ _ _ (length_broken _ ∙ c.in_err-listing_sizes.ensures) c.from_residual.ensures.1

pub scans-requires : goal.scans-requires
scans-requires c =
    let a = c.args in
    let L = listing a.opcodes.now a.arguments.now a.sheet.now a.list.now in
    few_routines L (sym c.in_ok-listing_sizes.ensures ∙ length_kept)

pub returns : goal.returns
unfolding stages_of
returns c = went_on (kept ∙ sym length_kept ∙ c.in_ok-listing_sizes.ensures) c.scans.ensures
