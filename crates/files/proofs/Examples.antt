-- The examples, computed.
-- Assumes nothing.
use mathlib.Core.Path.{◌≡◌, refl}
use mathlib.Core.List.{[]}
use Rattle.slices.specs.Lists.{mapped}
use Rattle.examples.specs.Listings.{A}
use Rattle.groups.specs.Fields.{got, field_in, numbers_in}
use Rattle.groups.specs.Groups.{groups_up_to, groups_of, row_of, number_in}
use Rattle.rules.specs.Sheet.{word, routines}
use Rattle.files.specs.Examples.{file_a, cases, computed, Worked}
use Rattle.files.specs.File.{used_below, address_numbers, file_of, column, word_column, listing_of, at_last, listing_in}

file_of_a : file_of A ≡ file_a
unfolding file_of row_of groups_of groups_up_to used_below address_numbers word routines
file_of_a = refl

opens_to_a : listing_in file_a ≡ got A []
unfolding listing_in field_in numbers_in number_in listing_of column word_column at_last used_below word
opens_to_a = refl

refusals : mapped computed cases ≡ cases
unfolding listing_in field_in numbers_in number_in listing_of column word_column at_last used_below word
refusals = refl

pub worked : Worked
worked = record { file_of_a = file_of_a; opens_to_a = opens_to_a; refusals = refusals }
