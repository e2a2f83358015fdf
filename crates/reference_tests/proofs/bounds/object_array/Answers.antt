use Rattle.std.proofs.Common.{◌≡◌, ℕ, ◌+◌, min, ap, ◌∙◌, arith}
use Rattle.je_core.specs.declared.types.Base.TheVariants as base
use Rattle.je_core.specs.declared.types.ClassId.{ClassId}
use Rattle.je_classes.specs.Hierarchy.{object_class}
use Rattle.je_scopes.specs.SourceTypes.{of_class, no_source_types}
use Rattle.name_types.proofs.Bases.{plain_base}
use Rattle.name_types.proofs.Views.{rolled_is}
use Rattle.reference_tests.proofs.bounds.object_array.Goals as goal

pub returns : goal.returns
returns c =
    let few : c.args.dims ≡ min 255 (0 + c.args.dims) = omega arith in
    rolled_is _ ∙ plain_base (base.Class c.object_class.result) c.args.dims
    ∙ ap (λ (k : ClassId). of_class k.0 no_source_types c.args.dims) c.object_class.ensures
    ∙ ap (λ (n : ℕ). of_class object_class.0 no_source_types n) few
