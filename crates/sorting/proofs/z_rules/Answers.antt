use Rattle.std.proofs.Common.{ap, ◌∙◌, arith, lit<}
use Rattle.payments.specs.Rules.{key_of}
use Rattle.judge.specs.Found.{broken, failed, passed}
use Rattle.sorting.specs.Frame.{fit, t_there}
use Rattle.sorting.proofs.Answers.{z_lies, z_same}
use Rattle.sorting.proofs.z_rules.Goals as goal

pub whole-requires : goal.whole-requires
whole-requires c = (lit< tt, t_there c.args.file.now c.args.n c.requires.0 1 (omega arith) (fit c.args.file.now c.args.n c.requires.0).some)

pub overflow_add-n : goal.overflow_add-n
overflow_add-n c = omega (arith, (fit c.args.file.now c.args.n c.requires.0).most)

pub overflow_add-n-2 : goal.overflow_add-n-2
overflow_add-n-2 c = omega (arith, (fit c.args.file.now c.args.n c.requires.0).most)

pub run-requires : goal.run-requires
run-requires c =
    let a = c.args in
    z_lies a.terms.now.page a.file.now a.terms.now.transfer.now a.terms.now.cheque.now a.n c.requires.0

pub returns-in-Some : goal.returns-in-Some
returns-in-Some c =
    let a = c.args in
    failed _ (c.in-Some.ensures ∙ ap broken (z_same _ _ _ _ a.n c.requires.0 (c.key-key.ensures.bytes ∙ ap key_of c.whole.ensures) c.requires.1))

pub returns-in-None : goal.returns-in-None
returns-in-None c =
    let a = c.args in
    passed _ (c.in-None.ensures ∙ ap broken (z_same _ _ _ _ a.n c.requires.0 (c.key-key.ensures.bytes ∙ ap key_of c.whole.ensures) c.requires.1))
