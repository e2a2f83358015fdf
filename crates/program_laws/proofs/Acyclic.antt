-- No class of a program is above itself, where no type of its headers is.
use Rattle.std.proofs.Common.{◌≡◌, ℕ, zero, suc, ◌<◌, ◌≤◌, List, refl, arith}
use Rattle.std.specs.Prelude.{false}
use Rattle.std.specs.List.{All, Contains}
use Rattle.je_core.specs.declared.types.ClassId.{ClassId}
use Rattle.je_core.specs.Core.{CoreProgram}
use Rattle.je_classes.specs.Hierarchy.{Below, is_below, supers_of as core_supers_of}
use Rattle.je_classes.proofs.Below.{below-to}
use Rattle.je_classes.proofs.Lists.{bool_cases}
use Rattle.je_scopes.specs.SourceTypes.{SourceType, SourceTypes, no_source_types, of_class}
use Rattle.source_types.specs.Erasure.{class_numbered}
use Rattle.source_types.specs.Heads.{ClassHead, supers_of}
use Rattle.source_types.specs.Laws.{IsAcyclic}
use Rattle.source_types.specs.Substitution.{all_substituted, substituted}
use Rattle.source_types.specs.Supertypes.{directly_above}
use Rattle.source_types.proofs.Above.{Above, here, up}
use Rattle.name_typing.specs.Program.{Program}
use Rattle.fitting_laws.specs.Methods.{HasMethods}
use Rattle.fitting_laws.proofs.Lists.{contains-in}
use Rattle.override_laws.specs.Fitting.{HasNoOthers}
use Rattle.override_laws.proofs.Lists.{contained, in-map}
use Rattle.override_laws.proofs.Overridden.{climb}
use Rattle.program_laws.proofs.Lists.{all-in}

depth-falls : (heads : List ClassHead) (acyclic : IsAcyclic heads) {s t : SourceType} → Above heads s t →
    acyclic.depth t ≤ acyclic.depth s
depth-falls heads acyclic here = omega arith
depth-falls heads acyclic (up {s = s} {t = t} {u = u} i w) =
    omega (arith, acyclic.falls s u i, depth-falls heads acyclic w)

module _ (p : Program) (q : CoreProgram) (has : HasMethods p q) (others : HasNoOthers p q) (acyclic : IsAcyclic p.heads)
    (c : ℕ) (s : ClassId) (named : Contains (core_supers_of q (class_numbered c)) s) (round : Below q s (class_numbered c)) where
  -- a way round, on which the depth of types falls
  record Turn (args : SourceTypes) : Type 0 where
    arguments : SourceTypes
    lower : acyclic.depth (of_class c arguments 0) < acyclic.depth (of_class c args 0)

  turn : (args : SourceTypes) → Turn args
  turn args =
      let above = others.supers c s named in
      let next = of_class s.0 (all_substituted c args above.arguments) 0 in
      let step : Contains (directly_above p.heads (of_class c args 0)) next =
      contains-in (directly_above p.heads (of_class c args 0)) next
      (in-map (substituted c args) (supers_of p.heads c) (of_class s.0 above.arguments 0)
      (contained (supers_of p.heads c) (of_class s.0 above.arguments 0) above.there)) in
      let back = climb p q has others round (all_substituted c args above.arguments) in
      record {
        arguments = back.arguments;
        lower = omega (arith, acyclic.falls (of_class c args 0) next step, depth-falls p.heads acyclic back.way);
      }

  no-round : (n : ℕ) (args : SourceTypes) → ¬ (acyclic.depth (of_class c args 0) ≤ n)
  no-round zero args few = absurd (omega (arith, few, (turn args).lower))
  no-round (suc n) args few = no-round n (turn args).arguments (omega (arith, few, (turn args).lower))

pub not-above-itself : (p : Program) (q : CoreProgram) → HasMethods p q → HasNoOthers p q → IsAcyclic p.heads → (c : ℕ) →
    All (λ s. is_below q s (class_numbered c) ≡ false) (core_supers_of q (class_numbered c))
not-above-itself p q has others acyclic c =
    all-in (λ s. is_below q s (class_numbered c) ≡ false) (core_supers_of q (class_numbered c)) (λ s named.
    bool_cases (λ b. b ≡ false) (is_below q s (class_numbered c))
    (λ h. absurd (no-round p q has others acyclic c s (contains-in (core_supers_of q (class_numbered c)) s named)
    (below-to q s (class_numbered c) h) (acyclic.depth (of_class c no_source_types 0)) no_source_types (omega arith)))
    (λ h. refl))
