use Rattle.reading.proofs.OneRow.{one_row}
use Rattle.words.specs.Program.{program_of}
use Rattle.words.proofs.Counts.{forms_count}
use Rattle.source.proofs.Printed.{reads_printed}
use Rattle.source.proofs.AllValid.{program_valid}
use Rattle.source.proofs.cesca_assemble.Goals as goal

pub returns : goal.returns
returns c =
    record {
      assembles = c.assemble.ensures;
      reads_printed = reads_printed _;
      one_row = one_row;
      counted = λ n. forms_count _ _ 0;
      all_counted = unfold program_of in forms_count _ _ 0;
      valid = program_valid _;
    }
