-- The code's refusals: the number of each, by its name, and its value, 0 where it has none.
use Rattle.std.specs.Prelude.{ℕ, ◌<◌, ◌≡◌, Result, MatchResult}
use Rattle.common.specs.declared.refusal.Refusal.{Refusal}
use Rattle.common.specs.declared.refusal.Refusal.TheVariants as Cases
use Rattle.common.specs.Refusals.{bad_kind, bad_field, too_deep, no_rule, bad_side}
use Rattle.common.specs.Refusals.{bad_premise, not_yielded, bad_document, bad_argument}
use Rattle.common.specs.Refusals.{wrong_form, terms_full, already_held, steps_full, short_marks}
use Rattle.common.specs.Refusals.{limit_passed, short_buffer, bad_name, outside_grammar}
use Rattle.common.specs.Refusals.{unlisted_name, bad_point, points_full, not_next, bad_record}
use Rattle.common.specs.Refusals.{full_or_in_use, bad_lists, not_covered, no_record}

abbrev pub refusal_number : Refusal → ℕ
refusal_number Cases.BadKind = bad_kind
refusal_number (Cases.BadField n) = bad_field
refusal_number Cases.TooDeep = too_deep
refusal_number Cases.NoRule = no_rule
refusal_number (Cases.BadSide n) = bad_side
refusal_number (Cases.BadPremise n) = bad_premise
refusal_number Cases.NotYielded = not_yielded
refusal_number (Cases.BadDocument n) = bad_document
refusal_number (Cases.BadArgument n) = bad_argument
refusal_number Cases.WrongForm = wrong_form
refusal_number Cases.TermsFull = terms_full
refusal_number (Cases.AlreadyHeld n) = already_held
refusal_number Cases.StepsFull = steps_full
refusal_number Cases.ShortMarks = short_marks
refusal_number Cases.LimitPassed = limit_passed
refusal_number (Cases.ShortBuffer n) = short_buffer
refusal_number (Cases.BadName n) = bad_name
refusal_number (Cases.OutsideGrammar n) = outside_grammar
refusal_number (Cases.UnlistedName n) = unlisted_name
refusal_number (Cases.BadPoint n) = bad_point
refusal_number Cases.PointsFull = points_full
refusal_number (Cases.NotNext n) = not_next
refusal_number (Cases.BadRecord n) = bad_record
refusal_number Cases.FullOrInUse = full_or_in_use
refusal_number Cases.BadLists = bad_lists
refusal_number (Cases.NotCovered n) = not_covered
refusal_number (Cases.NoRecord n) = no_record

abbrev pub refusal_value : Refusal → ℕ
refusal_value Cases.BadKind = 0
refusal_value (Cases.BadField n) = n
refusal_value Cases.TooDeep = 0
refusal_value Cases.NoRule = 0
refusal_value (Cases.BadSide n) = n
refusal_value (Cases.BadPremise n) = n
refusal_value Cases.NotYielded = 0
refusal_value (Cases.BadDocument n) = n
refusal_value (Cases.BadArgument n) = n
refusal_value Cases.WrongForm = 0
refusal_value Cases.TermsFull = 0
refusal_value (Cases.AlreadyHeld n) = n
refusal_value Cases.StepsFull = 0
refusal_value Cases.ShortMarks = 0
refusal_value Cases.LimitPassed = 0
refusal_value (Cases.ShortBuffer n) = n
refusal_value (Cases.BadName n) = n
refusal_value (Cases.OutsideGrammar n) = n
refusal_value (Cases.UnlistedName n) = n
refusal_value (Cases.BadPoint n) = n
refusal_value Cases.PointsFull = 0
refusal_value (Cases.NotNext n) = n
refusal_value (Cases.BadRecord n) = n
refusal_value Cases.FullOrInUse = 0
refusal_value Cases.BadLists = 0
refusal_value (Cases.NotCovered n) = n
refusal_value (Cases.NoRecord n) = n

-- the place n, counted from 1, is refused; where n is 0 nothing is
abbrev pub RefusedAt : (ℕ → Refusal) → (n : ℕ) → Result (Unit {0}) Refusal → Type 0
RefusedAt refusal n r = MatchResult r (λ done. n ≡ 0) (λ e. (e ≡ refusal n) × (0 < n))
