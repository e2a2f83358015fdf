-- The methods of the classes of a source fit.
use Rattle.std.proofs.Common.{◌≡◌, ◌<◌, ℕ, ◌≤◌, List, [], ◌∷◌, Option, Some, None, refl, sym, ap, ◌∙◌, subst, arith}
use Rattle.std.specs.Prelude.{Bool, true, false, not, ◌&&◌, ◌||◌, is_some, option_map, slice_get, nat_eq}
use Rattle.std.specs.List.{Contains}
use Rattle.std.proofs.lemmas.Bool.Decides.{nat_tests}
use Rattle.std.proofs.lemmas.Option.{none-some}
use Rattle.je_base.specs.declared.span.NameId.{NameId}
use Rattle.je_core.specs.declared.types.ClassId.{ClassId}
use Rattle.je_core.specs.Core.{CoreClass, CoreMethod, CoreProgram, CoreStmt}
use Rattle.je_classes.specs.Dispatch.{same_signature}
use Rattle.je_classes.specs.Hierarchy.{class_at, library_class, object_class, same_class}
use Rattle.je_classes.specs.Members.{In, is_name_of, methods_in, same_name}
use Rattle.je_classes.specs.Subtypes.{same_types}
use Rattle.je_classes.proofs.Lists.{bool_cases, contains-here}
use Rattle.je_fitting.specs.Classes.{SuperclassFits, none_above, one_above}
use Rattle.je_fitting.specs.Expressions.{is_constructor, is_interface_sort, method_at}
use Rattle.je_fitting.specs.Members.{BodyFits, IsOverridden, StandsFor, body_of, is_guest}
use Rattle.je_fitting.specs.Types.{is_variable_type, is_void}
use Rattle.je_fitting.proofs.Booleans.{two}
use Rattle.je_scopes.specs.Headers as headers
use Rattle.je_scopes.specs.Source.{Source}
use Rattle.je_scopes.specs.SourceTypes.{SourceType}
use Rattle.source_types.specs.Erasure.{class_numbered}
use Rattle.source_types.specs.Heads.{supers_of}
use Rattle.header_typing.specs.Supers.{class_in}
use Rattle.name_typing.specs.Accesses.{first_type}
use Rattle.class_typing.specs.Classes.{classes_of_types, superclass_if}
use Rattle.class_typing.specs.Programs.{library_count}
use Rattle.elaborated_laws.specs.Elaborated.{IsElaborated}
use Rattle.elaborated_laws.specs.Premises.{IsClassType}
use Rattle.elaborated_laws.proofs.Declared.{heads-are, library-many}
use Rattle.elaborated_laws.proofs.Lists.{in-got}
use Rattle.override_laws.proofs.Overridden.{methods_override_well}
use Rattle.program_laws.proofs.Sources.{heads-named, variables-sound}
use Rattle.program_laws.specs.Laws.{MethodsFit}
use Rattle.judged_laws.proofs.ClassSupers.{headers_stand}
use Rattle.judged_laws.specs.Parts.{SignatureStands}
use Rattle.judged_laws.proofs.ClassSignatures.{signatures_stand}
use Rattle.judged_laws.proofs.Good.{methods_are_good}
use Rattle.program_laws.specs.Premises.{BodiesStand, SourceIsSound, declared, named_first}
use Rattle.program_laws.proofs.Bodies.{code_fits, has-methods, represents}
use Rattle.program_laws.proofs.Lists.{all-in, clash}
use Rattle.program_laws.proofs.Supers.{acyclic, has-no-others}
use Rattle.program_laws.proofs.Signatures.{declared-returns}

-- ---- a constructor overrides nothing

named-alike : (x y : NameId) (o : Option CoreMethod) → x.0 ≡ y.0 → is_name_of x o ≡ is_name_of y o
named-alike x y None h = refl
named-alike x y (Some m) h = ap (nat_eq m.name.0) h

same-number : (x y : NameId) → same_name x y ≡ true → x.0 ≡ y.0
same-number x y h = grind (arith, nat_tests)

overrides-none : (program : CoreProgram) (m k : CoreMethod) → same_signature m k ≡ true → is_constructor program m ≡ true →
    ¬ (is_constructor program k ≡ false)
overrides-none program m k alike builds =
    let names = (two {a = same_name m.name k.name} {b = same_types m.params k.params} alike).0 in
    clash (is_constructor program k) (sym (named-alike m.name k.name _ (same-number m.name k.name names)) ∙ builds)

-- ---- the class above

first-named : (is_interface : Bool) (ts : List SourceType) → ((t : SourceType) → Contains ts t → IsClassType t) → (s : ClassId) →
    superclass_if is_interface (classes_of_types ts) ≡ Some s →
    superclass_if is_interface (classes_of_types ts) ≡ option_map class_numbered (class_in (first_type ts))
first-named true ts named s h = absurd (none-some s h)
first-named false [] named s h = absurd (none-some s h)
first-named false (t ∷ ts) named s h =
    let is = named t (contains-here t ts) in
    subst (λ u. superclass_if false (classes_of_types (u ∷ ts)) ≡ option_map class_numbered (class_in u)) (sym is.is) refl

not-object : (source : Source) (c : ℕ) → library_count source ≤ c → same_class (class_numbered c) object_class ≡ false
unfolding object_class library_class
not-object source c le = let many : library_count source ≡ 39 = library-many source in grind (arith, nat_tests, many)

no-body : (a n : Bool) → a ≡ true → ¬ (not (a || n) ≡ true)
no-body true n e h = absurd cc
no-body false n e h = absurd cc

guest-numbered : (source : Source) (c : ℕ) → library_count source ≤ c → is_guest (class_numbered c) ≡ true
guest-numbered source c le = let many : library_count source ≡ 39 = library-many source in grind (arith, nat_tests, many)

pub library-numbered : (source : Source) (id : ClassId) → id.0 < library_count source → is_guest id ≡ false
library-numbered source id l = let many : library_count source ≡ 39 = library-many source in grind (arith, nat_tests, many)

module _ (source : Source) (program : CoreProgram) (e : IsElaborated source program) (sound : SourceIsSound source program e)
    (c : ℕ) (class : CoreClass) (le : library_count source ≤ c) (there : class_at program (class_numbered c) ≡ Some class) where
  superclass-named : (s : ClassId) → class.superclass ≡ Some s → class.superclass ≡ named_first (declared source program e) c
  superclass-named s h =
      let p = declared source program e in
      let made = e.has.guests c class le there in
      let is = ap (λ (k : CoreClass). k.superclass) made.is in
      is ∙ first-named (headers.is_interface_sort (headers.site_at p.source.sites c).sort) (supers_of p.heads c)
      (λ t q. heads-named source program e sound c t le (subst (λ hs. Contains (supers_of hs c) t) (heads-are source e.first) q)) s (sym is ∙ h)

  signature-of : (m : CoreMethod) → In class.methods m → SignatureStands program class m
  signature-of m among =
      signatures_stand source program e sound.sites sound.words (variables-sound source program e sound) sound.types.heads c class le there m among

  module _ (bodies : BodiesStand source program e c) (m : CoreMethod) (among : In class.methods m) where
    -- where there is none above, the class is an interface, whose methods have no bodies
    body-by : (o : Option ClassId) → class.superclass ≡ o → SuperclassFits program (class_numbered c) class o → (s : CoreStmt) →
        m.body ≡ Some s → BodyFits program (body_of program (class_numbered c) m) class.superclass s
    body-by None _ (none_above h) s b =
        let interface : is_interface_sort class.kind.sort ≡ true =
        sym (ap (λ x. x || is_interface_sort class.kind.sort) (not-object source c le)) ∙ h in
        let known = signature-of m among in
        absurd (no-body m.flags.is_abstract m.flags.is_native (known.of_interface interface) (sym known.has_body ∙ ap is_some b))
    body-by (Some d) named (one_above h k) s b =
        subst (λ o. BodyFits program (body_of program (class_numbered c) m) o s) (sym (superclass-named d named))
        ((code_fits source program e sound c class le there bodies).bodies m s among b)

  overrides-well : (at : ℕ) (m : CoreMethod) → slice_get class.methods at ≡ Some m →
      (d : ClassId) (n : ℕ) (k : CoreMethod) → IsOverridden program (class_numbered c) m d n k → StandsFor program m k
  overrides-well at m here d n k o =
      bool_cases (λ x. is_constructor program m ≡ x → StandsFor program m k) (is_constructor program m)
      (λ _ builds. absurd (overrides-none program m k o.alike builds o.no_constructor))
      (λ _ plain. methods_override_well (declared source program e) program (represents source program e sound)
      (has-methods source program e sound) (has-no-others source program e sound) (acyclic source program e sound) c (ap is_some there) (methods_are_good source program e sound.sites sound.words c le) at m
      (ap (λ o. slice_get (methods_in o) at) there ∙ here) plain d n k o) refl

pub methods_fit : (source : Source) (program : CoreProgram) (e : IsElaborated source program) → MethodsFit source program e
methods_fit source program e sound c class le there bodies at m here =
    let among = in-got class.methods at m here in
    let code = code_fits source program e sound c class le there bodies in
    let signature = signature-of source program e sound c class le there m among in
    let p = declared source program e in
    let stands = represents source program e sound in
    let has = has-methods source program e sound in
    let others = has-no-others source program e sound in
    let found : method_at program (class_numbered c) at ≡ Some m = ap (λ o. slice_get (methods_in o) at) there ∙ here in
    record {
      params = code.params m among;
      result = bool_cases (λ x. is_constructor program m ≡ x → (is_void m.returns || is_variable_type program m.returns) ≡ true)
          (is_constructor program m)
          (λ _ builds. ap (λ b. b || is_variable_type program m.returns) (signature.constructor builds).result)
          (λ _ plain. declared-returns p program stands has others (class_numbered c) at m found plain) refl;
      throws = all-in (λ d. is_some (class_at program d) ≡ true) m.throws signature.throws;
      has_body = signature.has_body ∙ ap (λ g. g && not (m.flags.is_abstract || m.flags.is_native)) (sym (guest-numbered source c le));
      locals = code.locals m among;
      first_locals = code.first_locals m among;
      of_interface = signature.of_interface;
      constructor = signature.constructor;
      overrides = overrides-well source program e sound c class le there at m here;
      body = body-by source program e sound c class le there bodies m among class.superclass refl
          (headers_stand source program e sound.sites (heads-named source program e sound) c class le there).superclass;
    }
