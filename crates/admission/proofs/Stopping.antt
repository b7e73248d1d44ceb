-- Stages one after another: the first that finds a broken rule is the answer.
-- Assumes nothing.
use Rattle.std.proofs.Common.{◌≡◌, ℕ, Result, Ok, Err, ◌∙◌}
use Rattle.std.specs.Result.{IsErrAnd}
use Rattle.rules.specs.internal.Scans.{or_else}
use Rattle.rules.proofs.Scanning.{or_hit, or_pass}
use Rattle.sheets.specs.declared.grounds.Ground.{Ground}
use Rattle.sheets.specs.Grounds.{answer_of}
use Rattle.sheets.proofs.Judged.{refused, kept, passed_on}

pub stopped : (r : Result Unit Ground) (g : Ground) (n rest : ℕ) → answer_of (Err g) ≡ n → IsErrAnd r (λ (k : Ground). k ≡ g) → answer_of r ≡ or_else n rest
stopped r g n rest e p = passed_on r g p ∙ or_hit rest e (refused g)

pub went_on : {n x rest : ℕ} → answer_of (Ok tt) ≡ n → x ≡ rest → x ≡ or_else n rest
went_on e q = or_pass e kept q
