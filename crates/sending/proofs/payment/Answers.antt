use Rattle.std.proofs.Common.{ap}
use Rattle.laws.specs.Found.{or_zero}
use Rattle.sending.specs.Turns.{paid_out}
use Rattle.sending.proofs.payment.Goals as goal

pub returns : goal.returns
returns c =
    let a = c.args in
    let put = c.t_record-have.ensures in
    paid_out a.page a.rec.now a.k (or_zero a.rule) a.next a.out.now a.notes.now a.list.now (ap or_zero c.in_default.is) put.output put.noted
