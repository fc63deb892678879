-- What `read_to_end` appends to no bytes are those that `take` lets through, where the reader's are known.
use Rattle.std.proofs.Common.{ℕ, ◌≡◌, List, [], ◌++◌, take, Option, None, Some, IfSome}
use Rattle.std.specs.Option.{option_map}
use Rattle.inputs.proofs.read_up_to.Goals as goal

bytes_taken : (known : Option (List ℕ)) (n : ℕ) (bytes : List ℕ)
    → IfSome (option_map (take n) known) (λ xs. bytes ≡ [] ++ xs) → IfSome known (λ xs. bytes ≡ take n xs)
bytes_taken None n bytes h = h
bytes_taken (Some xs) n bytes h = h

pub returns-clause-bytes : goal.returns-clause-bytes
returns-clause-bytes g c =
    bytes_taken (g.R.Read.remaining c.args.reader) c.args.most c.read_to_end.new.buf.items
    (rw (c.take.ensures.inner, c.take.ensures.limit, c.new-bytes.ensures.items) at c.in_ok-read_to_end.ensures.bytes)
