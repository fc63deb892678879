-- Tables of names.
use Rattle.std.specs.Prelude.{ℕ, cond, ◌&&◌, List, [], leb, length, slice_get, slice_range, vec_len}
use Rattle.std.specs.Prelude.{Option, Some, None}
use Rattle.xml_document.specs.declared.names.Names.{Names}
use Rattle.xml_document.specs.declared.names.Span.{Span}

-- how many names have a number: 1 to that
abbrev pub name_count : Names → ℕ
name_count t = vec_len t.spans

-- the bytes of a pool from one place to another; none where it has no such places
abbrev pub span_bytes : List ℕ → Option Span → List ℕ
span_bytes pool None = []
span_bytes pool (Some s) = cond (leb s.start s.end && leb s.end (length pool)) (slice_range pool s.start s.end) []

-- the name whose number is n + 1; empty where there is none
abbrev pub nth_name : Names → ℕ → List ℕ
nth_name t n = span_bytes t.pool.items (slice_get t.spans.items n)
