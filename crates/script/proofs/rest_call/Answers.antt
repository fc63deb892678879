-- `rest_call` meets its contract.
use mathlib.Core.Path.{sym, subst}
use mathlib.Core.List.{[]}
use Rattle.lines.specs.Line.{newline}
use Rattle.lines.proofs.First.{First, Before, first}
use Rattle.script.specs.Words.{Rest}
use Rattle.script.proofs.Calls.{no_numbers_call, numbers_call}
use Rattle.script.proofs.Rests.{any_bytes, no_bytes}
use Rattle.script.proofs.rest_call.Goals as goal

pub returns-in_err-length : goal.returns-in_err-length
returns-in_err-length c =
    let a = c.args in
    let rest = c.rest.result.now in
    let none = subst (First newline rest) (sym c.in_err-length.ensures) (first newline rest) in
    rw c.from_residual.ensures
    (λ word s made. no_numbers_call word Rest s a.bytes.now a.at (rw (← c.rest.ensures) (no_bytes rest none)))

pub returns : goal.returns
returns c =
    let a = c.args in
    let rest = c.rest.result.now in
    let i = c.in_ok-length.length in
    let there = subst (First newline rest) (sym c.in_ok-length.ensures) (first newline rest) in
    λ word s made. numbers_call word Rest s a.bytes.now a.at [] _
    (any_bytes a.bytes.now a.at i (subst (λ t. Before newline t i) c.rest.ensures there)) _ made
