-- What the run's outcome says, written behind what stands there.
use Rattle.report.proofs.DeskTexts.{ran_text_of}
use Rattle.pages.proofs.Pages.{written_same}
use Rattle.report.proofs.run_program.Goals as goal

pub returns : goal.returns
returns c =
    let a = c.args in
    written_same c.ran_line.ensures (ran_text_of a.opcodes.now a.arguments.now _ c.start_state.ensures c.run-report.ensures.computed)
