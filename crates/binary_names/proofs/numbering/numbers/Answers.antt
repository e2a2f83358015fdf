use Rattle.std.proofs.Common.{◌≡◌, ℕ, suc, ◌+◌, List, length, get_or, ap, subst, ◌∙◌, arith}
use Rattle.je_scopes.specs.BinaryNames.{number_in}
use Rattle.name_sites.specs.View.{source_of}
use Rattle.binary_names.specs.Names.{AreCounted}
use Rattle.binary_names.proofs.Counting.{none_counted, numbers_more}
use Rattle.binary_names.proofs.numbering.numbers.Goals as goal

pub loop-at-init : goal.loop-at-init
loop-at-init c = record {
  counted = none_counted (source_of c.args.sites.now) c.new-counts.result c.new-counts.ensures;
  count = ap length c.new-numbers.ensures.items;
  numbers = λ k l. absurd (omega arith);
}

pub loop-at-preserved : goal.loop-at-preserved
loop-at-preserved c =
    let e : suc c.loop-at.at ≡ c.loop-at.at + 1 = omega arith in record {
      counted = subst (λ (k : ℕ). AreCounted (source_of c.args.sites.now) k c.next_number.new.counts) e c.in_ok-next_number.ensures.counted;
      count = omega (arith, c.in_ok-push.ensures.len, c.loop-at.invariant.count);
      numbers = λ k l. ap (λ (ns : List ℕ). get_or ns k 0) c.in_ok-push.ensures.items
          ∙ numbers_more (number_in (source_of c.args.sites.now)) c.loop-at.numbers.items c.loop-at.at c.in_ok-next_number.field-0 c.loop-at.invariant.count c.in_ok-next_number.ensures.number c.loop-at.invariant.numbers k l;
    }
