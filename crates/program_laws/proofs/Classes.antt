-- The classes of a source fit.
use Rattle.std.specs.Prelude.{◌≡◌, true}
use Rattle.je_core.specs.Core.{CoreProgram}
use Rattle.je_classes.specs.Hierarchy.{class_at}
use Rattle.je_fitting.specs.Members.{InitializerFits, is_interface}
use Rattle.je_scopes.specs.Source.{Source}
use Rattle.source_types.specs.Erasure.{class_numbered}
use Rattle.elaborated_laws.specs.Elaborated.{IsElaborated}
use Rattle.elaborated_laws.proofs.HiddenFields.{hidden_fields_fit}
use Rattle.judged_laws.proofs.ClassSupers.{headers_stand}
use Rattle.program_laws.proofs.Sources.{heads-named}
use Rattle.program_laws.specs.Laws.{ClassesFit, InitializersFit}
use Rattle.program_laws.specs.Premises.{declared}
use Rattle.program_laws.proofs.Acyclic.{not-above-itself}
use Rattle.program_laws.proofs.Bodies.{code_fits, has-methods}
use Rattle.program_laws.proofs.Bridges.{one-bridge-each}
use Rattle.program_laws.proofs.BridgesFit.{bridges_fit}
use Rattle.program_laws.proofs.Lists.{all-in}
use Rattle.program_laws.proofs.Named.{named-classes}
use Rattle.program_laws.proofs.Round.{not-round-itself, outer-class, round-classes, top-class}
use Rattle.program_laws.proofs.Supers.{acyclic, has-no-others}

pub initializers_fit : (source : Source) (program : CoreProgram) (e : IsElaborated source program) → InitializersFit source program e
initializers_fit source program e sound c class le there bodies =
    let code = code_fits source program e sound c class le there bodies in
    all-in (InitializerFits program (class_numbered c)) class.initializers (λ i q. record {
      locals = code.initializer_locals i q;
      body = code.initializers i q;
    })

pub classes_fit : (source : Source) (program : CoreProgram) (e : IsElaborated source program) → ClassesFit source program e
classes_fit source program e sound c class le there bodies parts implementations =
    let h = parts.inheritance in
    let header = headers_stand source program e sound.sites (heads-named source program e sound) c class le there in
    record {
      superclass = header.superclass;
      interfaces = all-in (λ i. is_interface (class_at program i) ≡ true) class.interfaces header.interfaces;
      not_above_itself = not-above-itself (declared source program e) program (has-methods source program e sound) (has-no-others source program e sound) (acyclic source program e sound) c;
      not_round_itself = not-round-itself source program e sound c class le there;
      heads = named-classes source program e sound c class le there;
      round = round-classes source program e sound c class le there;
      top = top-class source program e sound c class le there;
      outer = outer-class source program e sound c class le there;
      hidden = λ guest. hidden_fields_fit source program e c class guest there;
      bridges = bridges_fit source program e sound c class le there implementations;
      one_bridge = one-bridge-each source program e c class le there;
      inherited = h.inherited;
      implements = h.implements;
      initializers = initializers_fit source program e sound c class le there bodies;
    }
