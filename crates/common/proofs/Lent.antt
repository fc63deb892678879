-- Values as they are lent, for showing that a call can be made.
use denote.Ref.{Bor}
use denote.MutBor.{MutBor}

-- lent to be read, and to be written
abbrev pub lent : {A : Type 0} → A → Bor A
lent x = record { ref_ptr = (0, 0); now = x }

abbrev pub lent_to_write : {A : Type 0} → A → MutBor A
lent_to_write x = record { ref_ptr = (0, 0); ghost_name = 0; now = x }
