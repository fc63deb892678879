-- The refusals, each number by one name.
use Rattle.std.specs.Prelude.{ℕ}

-- kind above 11
abbrev pub bad_kind : ℕ
bad_kind = 1

-- bad operand, axis, test, name or unused field: its place
abbrev pub bad_field : ℕ
bad_field = 2

-- nesting above 32
abbrev pub too_deep : ℕ
too_deep = 3

-- rule not 1 to 59
abbrev pub no_rule : ℕ
no_rule = 4

-- left (1) not held, or right (2) not held or of the other sort
abbrev pub bad_side : ℕ
bad_side = 5

-- premise (1, 2) not a held step, or used where the rule has none
abbrev pub bad_premise : ℕ
bad_premise = 6

-- the rule doesn't yield it
abbrev pub not_yielded : ℕ
not_yielded = 7

-- document: no rows, too many, else the first bad row
abbrev pub bad_document : ℕ
bad_document = 8

-- context (1) outside, or row (2) not a held path
abbrev pub bad_argument : ℕ
bad_argument = 9

-- a line of the wrong form
abbrev pub wrong_form : ℕ
wrong_form = 10

-- terms full
abbrev pub terms_full : ℕ
terms_full = 11

-- row held already: its number
abbrev pub already_held : ℕ
already_held = 12

-- steps full
abbrev pub steps_full : ℕ
steps_full = 13

-- marks shorter than the document
abbrev pub short_marks : ℕ
short_marks = 14

-- more visits needed than the limit
abbrev pub limit_passed : ℕ
limit_passed = 15

-- the buffer shorter than the bundle: the length needed
abbrev pub short_buffer : ℕ
short_buffer = 16

-- a 65th name, or a file that can't be opened
abbrev pub bad_name : ℕ
bad_name = 17

-- a text outside the grammar: the place of the first byte that can't continue it
abbrev pub outside_grammar : ℕ
outside_grammar = 18

-- a name not in the list: its first byte's place
abbrev pub unlisted_name : ℕ
unlisted_name = 19

-- no such point, or a name in use or 0 when setting: the name
abbrev pub bad_point : ℕ
bad_point = 20

-- eight points held
abbrev pub points_full : ℕ
points_full = 21

-- edition not the next one: the one due
abbrev pub not_next : ℕ
not_next = 22

-- row (1) or step (2) not as described
abbrev pub bad_record : ℕ
bad_record = 23

-- register full, or a return to a point that would drop a row or step in use
abbrev pub full_or_in_use : ℕ
full_or_in_use = 24

-- a list of more than 64, or not as many steps as old rows
abbrev pub bad_lists : ℕ
bad_lists = 25

-- an old row whose step isn't as it must be: its place
abbrev pub not_covered : ℕ
not_covered = 26

-- no record at the place: the place
abbrev pub no_record : ℕ
no_record = 27
