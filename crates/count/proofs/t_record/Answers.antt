use Rattle.std.proofs.Common.{◌≤◌, rules, arith}
use Rattle.forwarding.specs.Found.{t_in, t_short}
use Rattle.count.specs.Counting.{count_field, few_field}
use Rattle.count.proofs.t_record.Goals as goal

pub part-requires : goal.part-requires
part-requires c = t_in c.loop-k.k (search rules) (search rules) c.text.ensures c.args.rec.now (search rules)

pub field-n-requires : goal.field-n-requires
field-n-requires c = t_short c.loop-k.k (search rules) (search rules) c.text.ensures c.args.rec.now c.part.ensures.holds

few : (c : goal.After-field-n) → c.field-n.result ≤ 140
few c = few_field c.args.rec.now c.loop-k.k (search rules) (search rules) c.text.ensures c.part.ensures.holds c.field-n.ensures

pub overflow_add-n : goal.overflow_add-n
overflow_add-n c = omega (arith, few c)

pub loop-k-preserved : goal.loop-k-preserved
loop-k-preserved c = record {
  few = omega (arith, few c);
  below = count_field c.args.rec.now c.loop-k.k (search rules) (search rules) c.text.ensures c.part.ensures.holds c.loop-k.invariant.below c.field-n.ensures;
}
