use Rattle.std.proofs.Common.{◌≡◌, ℕ, ◌<◌, nat_eq, Some, length, get_or, take, sym, ap, subst, ◌∙◌, arith}
use Rattle.std.specs.Prelude.{slice_get}
use Rattle.std.specs.List.{list_any}
use Rattle.std.specs.Str.{bytes_eq}
use Rattle.std.proofs.lemmas.Result.{IfOk-weaker}
use Rattle.je_scopes.specs.BinaryNames.{binary_name}
use Rattle.je_scopes.specs.Faults.{below}
use Rattle.name_sites.specs.View.{source_of}
use Rattle.binary_names.specs.Names.{AreNamed}
use Rattle.binary_names.specs.Texts.{IsText}
use Rattle.binary_names.proofs.Earlier.{same_flag}
use Rattle.binary_names.proofs.Naming.{none_named, one_more}
use Rattle.binary_names.proofs.names.repeated_names.Goals as goal

pub loop-at-init : goal.loop-at-init
loop-at-init c = record {
  named = subst (AreNamed (source_of c.args.sites.now) c.new-texts.result) (sym c.new-names.ensures.items) (none_named (source_of c.args.sites.now) c.new-texts.result);
  count = ap length c.new-names.ensures.items;
}

pub loop-at-preserved : goal.loop-at-preserved
loop-at-preserved c = record {
  named = subst (AreNamed (source_of c.args.sites.now) c.add_name.new.texts) (sym c.in_ok-push.ensures.items)
      (one_more (source_of c.args.sites.now) c.loop-at.texts c.add_name.new.texts c.loop-at.names.items c.in_ok-name.name c.loop-at.invariant.named c.in_ok-name.ensures.stays
      (subst (λ (k : ℕ). IsText c.add_name.new.texts c.in_ok-name.name (binary_name (source_of c.args.sites.now) k)) (sym c.loop-at.invariant.count) c.in_ok-name.ensures.text));
  count = omega (arith, c.in_ok-push.ensures.len, c.loop-at.invariant.count);
}

pub returns-clause-flags : goal.returns-clause-flags
returns-clause-flags c =
    let n : length c.deref-2.result.now ≡ c.loop-at.at = ap length c.deref-2.ensures.value ∙ c.loop-at.invariant.count in
    let are : AreNamed (source_of c.args.sites.now) c.loop-at.texts c.deref-2.result.now = subst (AreNamed (source_of c.args.sites.now) c.loop-at.texts) (sym c.deref-2.ensures.value) c.loop-at.invariant.named in
    IfOk-weaker c.repeats.result (λ flags. (k : ℕ) → k < length c.deref-2.result.now → slice_get flags.items k ≡ Some (list_any (nat_eq (get_or c.deref-2.result.now k 0)) (take k c.deref-2.result.now)))
    (λ flags. (k : ℕ) → k < length (source_of c.args.sites.now).sites → slice_get flags.items k ≡ Some (list_any (λ d. bytes_eq (binary_name (source_of c.args.sites.now) d) (binary_name (source_of c.args.sites.now) k)) (below k)))
    (λ flags h k l.
    let m : k < length c.deref-2.result.now = omega (arith, l, n, c.len-at-end.ensures.count, c.loop-at.auto.at-end, c.loop-at-test.false) in
    h k m ∙ ap Some (same_flag (source_of c.args.sites.now) c.loop-at.texts c.deref-2.result.now c.loop-at.texts.once are k m))
    c.repeats.ensures.flags
