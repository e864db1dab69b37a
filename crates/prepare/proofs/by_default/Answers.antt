use Rattle.std.proofs.Common.{rules, refl}
use Rattle.std.proofs.lemmas.Result.{err_from_is_err_and}
use Rattle.prepare.specs.Outcome.{sound_sized}
use Rattle.prepare.specs.SoundOutcome.{default_no_page, default_sound, default_not_sent}
use Rattle.prepare.proofs.by_default.Goals as goal

pub returns-then-not-is_page : goal.returns-then-not-is_page
returns-then-not-is_page c = search (rules, default_no_page)

pub send-requires : goal.send-requires
send-requires c = search (rules, sound_sized)

pub returns-in_err-changes-in-Ok : goal.returns-in_err-changes-in-Ok
returns-in_err-changes-in-Ok c =
    let told = err_from_is_err_and c.from_residual.result c.from_residual.ensures.1 in
    let found = c.in-Ok.ensures.answer in
    let why = c.in_err-changes-in-Ok in
    rw (told.1, told.2)
    (default_not_sent _ _ _ _ _ _ _ c.is_page.ensures why.field-0.0 c.if-not-is_page.false found refl why.ensures.answer why.ensures.real)

pub returns-in_ok-changes-in-Ok : goal.returns-in_ok-changes-in-Ok
returns-in_ok-changes-in-Ok c =
    let found = c.in-Ok.ensures.answer in
    let sent = c.in_ok-changes-in-Ok.ensures.answer in
    default_sound _ _ _ _ _ _ _ c.is_page.ensures c.if-not-is_page.false found refl sent c.whole.ensures
