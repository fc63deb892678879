-- The code's records.
use Rattle.std.specs.Prelude.{ℕ, ◌+◌, min, List, take, set, replicate}
use Rattle.records.specs.declared.Record.{Record}
use Rattle.records.specs.declared.Records.{Records}
use Rattle.records.specs.Records.{empty_record, max_records}

-- how many records are held: a count above the limit is read as the limit
abbrev pub size_of : Records → ℕ
size_of e = min e.count max_records

-- the records held
abbrev pub records_in : Records → List Record
records_in e = take (size_of e) e.held

unfoldable pub no_records : Records
no_records = record { held = replicate max_records empty_record; count = 0 }

-- the record after those held
abbrev pub with_record : Records → Record → Records
with_record e r = record { held = set e.held (size_of e) r; count = size_of e + 1 }
