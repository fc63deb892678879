-- The code's releases and listings.
use Rattle.std.specs.Prelude.{ℕ, ◌-◌, List, ◌++◌, length, replicate}
use Rattle.records.specs.declared.Record.{Record}
use Rattle.records.specs.declared.Records.{Records}
use Rattle.records.specs.declared.Releases.{Releases}
use Rattle.records.specs.Records.{empty_record, max_records}
use Rattle.records.specs.Releases.{none_released}

abbrev pub flagged : List ℕ → Releases
flagged fs = record { flags = fs }

unfoldable pub no_releases : Releases
no_releases = flagged none_released

-- a listing of records, as a whole value
abbrev pub listed : List Record → Records
listed rs = record { held = rs ++ replicate (max_records - length rs) empty_record; count = length rs }
