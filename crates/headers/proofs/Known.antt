-- The table of known headers under one claim: each file's header says what the table says. Assumes nothing.
use mathlib.Core.Path.{◌≡◌, refl}
use mathlib.Core.List.{map}
use Rattle.std.specs.Prelude.{Option}
use Rattle.text.specs.Read.{read_digits}
use Rattle.headers.specs.declared.Header.{Header}
use Rattle.headers.specs.Header.{past, number_from, field_from, header_field, maximum_at, header_of}
use Rattle.headers.specs.Known.{Case, table}

abbrev asked : Case → Option Header
asked c = header_of c.depth c.file

abbrev answered : Case → Option Header
answered c = c.header

pub known : map asked table ≡ map answered table
unfolding read_digits past number_from field_from header_field maximum_at header_of
known = refl
