use Rattle.std.proofs.Common.{rules, refl}
use Rattle.prepare.specs.DefaultOutcome.{few, default_refused, default_short, can_send, default_sent}
use Rattle.prepare.proofs.sort_and_send.Goals as goal

pub returns-in_err-going : goal.returns-in_err-going
returns-in_err-going c = search (rules, default_refused)

pub room_missing-requires : goal.room_missing-requires
room_missing-requires c = search (rules, few)

pub returns-in_err-room_missing : goal.returns-in_err-room_missing
returns-in_err-room_missing c =
    let a = c.args in
    let t = a.terms.now in
    let found = c.in_ok-going.ensures.answer in
    search (rules, default_short t.page a.file.now t.transfer.now t.cheque.now a.out.now a.notes.now a.list.now found refl)

pub file-requires : goal.file-requires
file-requires c = can_send _ _ _ _ _ _ _ c.in_ok-going.ensures.answer refl c.in_ok-room_missing.ensures

pub returns : goal.returns
returns c = default_sent _ _ _ _ _ _ _ c.in_ok-going.ensures.answer refl c.in_ok-room_missing.ensures c.file.ensures
