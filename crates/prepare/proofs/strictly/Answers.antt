use Rattle.std.proofs.Common.{rules, refl}
use Rattle.prepare.specs.Outcome.{sound_sized, prepared_no_page, prepared_refused, prepared_sent}
use Rattle.prepare.proofs.strictly.Goals as goal

pub returns-then-not-is_page : goal.returns-then-not-is_page
returns-then-not-is_page c = search (rules, prepared_no_page)

pub returns-in_err-examine : goal.returns-in_err-examine
returns-in_err-examine c = search (rules, prepared_refused)

pub send-requires : goal.send-requires
send-requires c = search (rules, sound_sized)

pub returns : goal.returns
returns c =
    let found = c.in_ok-examine.ensures.answer in
    prepared_sent _ _ _ _ _ _ c.is_page.ensures c.if-not-is_page.false found refl c.send.ensures.answer
