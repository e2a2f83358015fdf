use Rattle.std.proofs.Common.{◌≡◌, ◌<◌, ◌^◌, ℕ, Some, sym, ◌∙◌, subst, arith}
use Rattle.std.specs.Prelude.{slice_get, slice_index_or}
use Rattle.std.proofs.lemmas.Option.{slice_get-get_or}
use Rattle.je_core.specs.declared.types.ClassId.{ClassId}
use Rattle.je_classes.proofs.Reaching.{has-got}
use Rattle.class_tables.proofs.subclasses.with_each.Goals as goal

pub with-requires-clause-key : goal.with-requires-clause-key
with-requires-clause-key c =
    let xs = c.args.classes.now in
    let i = c.loop-class.class-index in
    let k : ClassId = slice_index_or xs i (record { 0 = 0 }) in
    let there : slice_get xs i ≡ Some k = slice_get-get_or xs i (record { 0 = 0 }) (omega arith) in
    subst (λ (n : ℕ). k.0 < 2 ^ n) (sym (c.loop-class.invariant.0.bits ∙ c.requires.bits)) (c.requires.few k (has-got xs i k there))
