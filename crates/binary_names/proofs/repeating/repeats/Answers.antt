use Rattle.std.proofs.Common.{◌≡◌, Bool, true, false, nat_eq, not, refl, ap, ◌∙◌, arith}
use Rattle.std.specs.Prelude.{slice_get}
use Rattle.std.specs.List.{list_any}
use Rattle.binary_names.proofs.Earlier.{seen_more, flags_more}
use Rattle.binary_names.proofs.repeating.repeats.Goals as goal

not-not : (a b : Bool) → a ≡ not b → not a ≡ b
not-not true true e = absurd (cc)
not-not true false e = refl
not-not false true e = refl
not-not false false e = absurd (cc)

pub loop-number-preserved : goal.loop-number-preserved
loop-number-preserved c = record {
  count = omega (arith, c.in_ok-push.ensures.len, c.loop-number.invariant.count);
  seen = seen_more (λ n. list_any (nat_eq n) c.loop-number.seen.keys) (λ n. list_any (nat_eq n) c.insert_full.new.self.keys) c.args.numbers.now c.loop-number.number-index _ (omega arith) refl
      c.in_ok-is_new.ensures.updates.0 c.loop-number.invariant.seen;
  flags = λ k l. ap (λ fs. slice_get fs k) c.in_ok-push.ensures.items
      ∙ flags_more c.loop-number.flags.items c.args.numbers.now c.loop-number.number-index (not c.in_ok-is_new.is_new) c.loop-number.invariant.count
      (not-not c.in_ok-is_new.is_new (list_any (nat_eq _) c.loop-number.seen.keys) c.in_ok-is_new.ensures.added ∙ c.loop-number.invariant.seen _) c.loop-number.invariant.flags k l;
}
