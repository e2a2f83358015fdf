-- The result of a method that a class declares is the type of a variable, or `void`.
use Rattle.std.proofs.Common.{◌≡◌, ℕ, Some, ap, ◌∙◌, arith}
use Rattle.std.specs.Prelude.{true, false, ◌||◌}
use Rattle.je_core.specs.declared.types.Base.TheVariants as base
use Rattle.je_core.specs.declared.types.ClassId.{ClassId}
use Rattle.je_core.specs.declared.types.Ty.{Ty}
use Rattle.je_core.specs.Core.{CoreMethod, CoreProgram}
use Rattle.je_classes.proofs.Below.{or_true}
use Rattle.je_fitting.specs.Expressions.{is_constructor, method_at}
use Rattle.je_fitting.specs.Types.{is_variable_type, is_void}
use Rattle.je_scopes.specs.SourceTypes.{SourceType}
use Rattle.source_types.specs.Erasure.{erased}
use Rattle.typing_laws.proofs.Nodes.{erased-plain}
use Rattle.name_typing.specs.Program.{Program}
use Rattle.fitting_laws.specs.Methods.{HasMethods, IsResult, a_result, no_result}
use Rattle.fitting_laws.specs.Represented.{Represents}
use Rattle.fitting_laws.proofs.Sound.{sound-variable}
use Rattle.override_laws.specs.Fitting.{HasNoOthers}
use Rattle.override_laws.proofs.Overridden.{known}
use Rattle.override_laws.proofs.Standing.{declared-result}

module _ (p : Program) (q : CoreProgram) (represents : Represents p q) (has : HasMethods p q) (others : HasNoOthers p q) where
  result-type : (t : SourceType) → IsResult q p.heads 254 t →
      (is_void (erased p.heads t) || is_variable_type q (erased p.heads t)) ≡ true
  result-type t (a_result s) = or_true (is_void (erased p.heads t)) (is_variable_type q (erased p.heads t))
      (sound-variable q p.heads represents.heads (omega arith) s)
  result-type _ no_result = ap (λ (u : Ty). is_void u || is_variable_type q u) (erased-plain p.heads base.Void)

  module _ (c : ClassId) (at : ℕ) (m : CoreMethod) (there : method_at q c at ≡ Some m) (plain : is_constructor q m ≡ false) where
    pub declared-returns : (is_void m.returns || is_variable_type q m.returns) ≡ true
    declared-returns =
        let d = known p q has others c at m there plain in
        ap (λ (u : Ty). is_void u || is_variable_type q u) d.returns
        ∙ result-type d.method.result (declared-result p q has c.0 at d.method d.there d.plain)
