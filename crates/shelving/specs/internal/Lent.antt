-- A listing by its four parts as they were lent.
-- Assumes nothing.
use Rattle.rules.specs.Sheet.{Listing, listing}
use Rattle.shelving.specs.declared.Parts.{Parts}

abbrev pub lent : Parts → Listing
lent p = listing p.opcodes.now p.arguments.now p.sheet.now p.list.now
