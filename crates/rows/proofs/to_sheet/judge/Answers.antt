use mathlib.Core.Path.{sym, ◌∙◌}
use native.Mathlib.Omega.{arith}
use borrow.Author.Tests.{not-true, not-false}
use Rattle.rows.proofs.Judging.{judged-unread, judged-twice, readable, judged-high, judged-many, judged-off, judged-rows}
use Rattle.rows.proofs.to_sheet.judge.Goals as goal

pub returns-in_default : goal.returns-in_default
returns-in_default c = judged-unread c.args.text.now (sym c.survey_of.ensures ∙ c.in_default.is)

pub returns-then-not-finals_once : goal.returns-then-not-finals_once
returns-then-not-finals_once c = judged-twice c.args.text.now c.in-Some.s (sym c.survey_of.ensures ∙ c.in-Some.is) (sym c.finals_once.ensures ∙ c.if-not-finals_once.true)

pub returns-then-s : goal.returns-then-s
returns-then-s c =
    let read = readable c.args.text.now c.in-Some.s (sym c.survey_of.ensures ∙ c.in-Some.is) (sym c.finals_once.ensures ∙ c.if-not-finals_once.false) in
    judged-high c.args.text.now c.in-Some.s read c.if-s.true

pub returns-then-s-ge-LINKS_PAST : goal.returns-then-s-ge-LINKS_PAST
returns-then-s-ge-LINKS_PAST c =
    let read = readable c.args.text.now c.in-Some.s (sym c.survey_of.ensures ∙ c.in-Some.is) (sym c.finals_once.ensures ∙ c.if-not-finals_once.false) in
    judged-many c.args.text.now c.in-Some.s read c.if-s-ge-LINKS_PAST.true

pub returns-then-not-s : goal.returns-then-not-s
returns-then-not-s c =
    let s = c.in-Some.s in
    let read = readable c.args.text.now s (sym c.survey_of.ensures ∙ c.in-Some.is) (sym c.finals_once.ensures ∙ c.if-not-finals_once.false) in
    judged-off c.args.text.now s read (omega (arith, c.if-s.false)) c.if-s-ge-LINKS_PAST.false (not-true _ c.if-not-s.true)

pub returns : goal.returns
returns c =
    let s = c.in-Some.s in
    let read = readable c.args.text.now s (sym c.survey_of.ensures ∙ c.in-Some.is) (sym c.finals_once.ensures ∙ c.if-not-finals_once.false) in
    judged-rows c.args.text.now s read (omega (arith, c.if-s.false)) c.if-s-ge-LINKS_PAST.false (not-false _ c.if-not-s.false)
