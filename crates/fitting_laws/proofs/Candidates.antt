-- The methods and constructors that a call or a creation may choose: each is there, for what the type's class declares.
use Rattle.std.proofs.Common.{◌≡◌, ℕ, zero, suc, ◌≤◌, List, map, length, Some, refl, ap, ◌∙◌, subst, arith}
use Rattle.std.specs.Prelude.{true, false, slice_get}
use Rattle.je_base.specs.declared.span.NameId.{NameId}
use Rattle.je_base.specs.declared.span.Span.{Span}
use Rattle.je_core.specs.declared.types.Ty.{Ty}
use Rattle.je_core.specs.Core.{CoreProgram}
use Rattle.je_classes.specs.Hierarchy.{object_class}
use Rattle.je_classes.specs.Members.{In}
use Rattle.je_classes.specs.Subtypes.{class_type, is_subtype}
use Rattle.je_classes.proofs.Below.{same_class-refl}
use Rattle.je_classes.proofs.Sets.{filter-in}
use Rattle.je_scopes.specs.Headers.{same_name}
use Rattle.je_scopes.specs.Sites.{Site}
use Rattle.je_scopes.specs.SourceTypes.{SourceType, SourceTypes, no_source_types, plain, of_class, of_variable}
use Rattle.source_types.specs.Erasure.{class_numbered, erased}
use Rattle.source_types.specs.Heads.{ClassHead, object_type}
use Rattle.source_types.specs.Subtypes.{dims_of}
use Rattle.source_types.specs.Substitution.{substituted}
use Rattle.je_typing.specs.declared.fault.TypeRule.{TypeRule}
use Rattle.declarations.specs.Declarations.{DeclaredMethod}
use Rattle.overriding.specs.Methods.{Method, has_within, inherited, methods_in as methods_declared, name_of, put_in, seen_in}
use Rattle.overriding.specs.Overrides.{has_methods}
use Rattle.name_typing.specs.Program.{Program}
use Rattle.call_typing.specs.Laws.{Accepting, Applicable, IsChoice, none_accept, none_named, not_one, the_one}
use Rattle.call_typing.specs.Methods.{candidate_of, candidates, methods_in, methods_of}
use Rattle.call_typing.specs.Overloads.{Candidate, Choice, accepts, choice, chosen}
use Rattle.call_typing.proofs.Choices.{choice-right}
use Rattle.typing_laws.specs.Fitting.{Gives}
use Rattle.typing_laws.proofs.Subtypes.{erased_base, parts}
use Rattle.fitting_laws.specs.Methods.{HasMethods, IsResult}
use Rattle.fitting_laws.specs.Represented.{Represents}
use Rattle.fitting_laws.specs.Sound.{AreSound, IsSound, SameOrBelow, no_arguments, sound_class}
use Rattle.fitting_laws.proofs.Below.{below-below, same-or-below}
use Rattle.fitting_laws.proofs.Bounded.{variable-bound}
use Rattle.fitting_laws.proofs.Instances.{class-itself, erased-class-type}
use Rattle.fitting_laws.proofs.Lists.{mapped}
use Rattle.fitting_laws.proofs.Methods.{StandFor, put-for, put-result, within-seen}
use Rattle.fitting_laws.proofs.Sound.{sound-dims, substituted-put}

-- ---- what is chosen is a candidate, and accepts the arguments

pub record IsChosen (heads : List ClassHead) (ms : List Candidate) (types : List SourceType) (m : Candidate) : Type 0 where
  pub there : In ms m
  pub accepts : accepts heads types m ≡ true

pub chosen-is : (heads : List ClassHead) (sites : List Site) (c : ℕ) (ms : List Candidate) (types : List SourceType) (rule : TypeRule) (at : Span)
    → Gives (IsChosen heads ms types) (chosen rule at (choice heads sites c ms types))
unfolding chosen
chosen-is heads sites c ms types rule at = by (choice-right heads sites c ms types)
  where
    by : {x : Choice} → IsChoice heads (Accepting heads ms types) (Applicable heads sites c ms types) x → Gives (IsChosen heads ms types) (chosen rule at x)
    by (none_accept h) = tt
    by (none_named h k) = tt
    by (not_one h) = tt
    by (the_one b k) = record { there = b.member.0.0; accepts = b.member.0.1 }

module _ (p : Program) (q : CoreProgram) (represents : Represents p q) (has : HasMethods p q) where
  -- a method that may be called on a value of a type
  pub record Callable (t : SourceType) (m : Candidate) : Type 0 where
    pub declaration : DeclaredMethod
    pub there : slice_get (methods_declared (slice_get p.classes m.class)) m.place ≡ Some declaration
    pub plain : declaration.is_constructor ≡ false
    pub flags : m.flags ≡ declaration.flags
    pub own : m.declared ≡ declaration.result
    pub below : is_subtype q (erased p.heads t) (class_type (class_numbered m.class)) ≡ true
    pub sound : (u : SourceType) → In m.parameters u → IsSound q p.heads 255 u
    pub parameters : StandFor q p.heads m.parameters declaration.parameters
    pub result : IsResult q p.heads 255 m.result
    pub result_for : SameOrBelow q (erased p.heads m.result) (erased p.heads declaration.result)
    pub concrete : m.is_abstract ≡ false → declaration.flags.is_abstract ≡ false

  put-sound : (d : ℕ) (args : SourceTypes) → AreSound q p.heads 255 d 0 args → (us : List SourceType) → ((u : SourceType) → In us u → IsSound q p.heads 254 u) → (u : SourceType) → In (map (substituted d args) us) u → IsSound q p.heads 255 u
  put-sound d args given us sound u i =
      let m = mapped (substituted d args) us u i in
      subst (IsSound q p.heads 255) m.is (substituted-put q p.heads represents.heads represents.top d args given (sound m.from m.there)).sound

  has-within : (c : ℕ) (x : NameId) (k : Method) → In (methods_of p.heads p.classes x c) k → In (has_within p.heads p.classes (suc (length p.classes)) c) k
  unfolding inherited
  has-within c x k i = (filter-in (λ m. same_name (name_of m) x) (has_methods p.heads p.classes c) k i).there

  -- a method of a class, with type arguments put in
  of-class : (t : SourceType) (c n : ℕ) (args : SourceTypes) (x : NameId) (k : Method) → is_subtype q (erased p.heads t) (class_type (class_numbered c)) ≡ true → AreSound q p.heads 255 c 0 args
      → In (methods_of p.heads p.classes x c) k → Callable t (candidate_of (put_in (of_class c args n) k))
  of-class t c n args x k below given i =
      let within = has-within c x k i in
      let s = within-seen p q represents has (suc (length p.classes)) c k within in
      let sound = has.sound (suc (length p.classes)) c k within in
      let result = put-result p q represents has c args given k.result sound.result in
      record {
        declaration = k.declared;
        there = s.there;
        plain = s.plain;
        flags = refl;
        own = refl;
        below = below-below q represents.top (erased p.heads t) (class_type (class_numbered c)) (class_type (class_numbered k.holder)) below s.below;
        sound = put-sound c args given k.parameters sound.parameters;
        parameters = put-for p q represents has c args given k.parameters k.declared.parameters sound.parameters s.parameters;
        result = result.0;
        result_for = same-or-below q represents.top (erased p.heads (substituted c args k.result)) (erased p.heads k.result) (erased p.heads k.declared.result) result.1 s.result;
        concrete = s.concrete;
      }

  -- one of those of a class type, as another one sees them
  seen-of : (t : SourceType) (c n : ℕ) (args : SourceTypes) (x : NameId) (m : Method) → is_subtype q (erased p.heads t) (class_type (class_numbered c)) ≡ true → AreSound q p.heads 255 c 0 args
      → In (seen_in (methods_of p.heads p.classes x) (of_class c args n)) m → Callable t (candidate_of m)
  seen-of t c n args x m below given i =
      let r = mapped (put_in (of_class c args n)) _ m i in
      subst (λ (k : Method). Callable t (candidate_of k)) r.is (of-class t c n args x r.from below given (filter-in _ (methods_of p.heads p.classes x c) r.from r.there).there)

  given-of : {c n : ℕ} {args : SourceTypes} → IsSound q p.heads 255 (of_class c args n) → AreSound q p.heads 255 c 0 args
  given-of (sound_class h few given) = given

  -- Object's, of an array
  array-below : (t : SourceType) (n : ℕ) → dims_of t ≡ suc n → dims_of t ≤ 255 → is_subtype q (erased p.heads t) (class_type object_class) ≡ true
  unfolding is_subtype
  array-below t n e few = ap (λ (u : Ty). is_subtype q u (class_type object_class)) (parts p.heads represents.heads.bounds t few)
      ∙ ap (λ (i : ℕ). is_subtype q (record { base = erased_base p.heads (Rattle.source_types.specs.Subtypes.element_of t); dims = i }) (class_type object_class)) e
      ∙ same_class-refl object_class

  of-array : (t : SourceType) (n : ℕ) (x : NameId) (m : Method) → dims_of t ≡ suc n → dims_of t ≤ 255 → In (seen_in (methods_of p.heads p.classes x) object_type) m → Callable t (candidate_of m)
  of-array t n x m e few i = seen-of t object_class.0 0 no_source_types x m (array-below t n e few) no_arguments i

  method-callable : (t : SourceType) (x : NameId) (m : Method) → IsSound q p.heads 255 t → In (methods_in p.heads p.classes x t) m → Callable t (candidate_of m)
  method-callable (plain b zero) x m s i = elim i [ ]
  method-callable (of_class c args zero) x m s i =
      let r = mapped (put_in (of_class c args zero)) (methods_of p.heads p.classes x c) m i in
      subst (λ (k : Method). Callable (of_class c args zero) (candidate_of k)) r.is (of-class (of_class c args zero) c zero args x r.from
      (ap (λ (u : Ty). is_subtype q u (class_type (class_numbered c))) (erased-class-type q p.heads represents.heads c args) ∙ class-itself q (class_numbered c)) (given-of s) r.there)
  method-callable (of_variable c at zero) x m s i =
      let b = variable-bound q p.heads represents.heads represents.sound c at in
      seen-of (of_variable c at zero) b.class b.dims b.arguments x m b.below b.given (subst (λ (u : SourceType). In (seen_in (methods_of p.heads p.classes x) u) m) b.is i)
  method-callable (plain b (suc n)) x m s i = of-array (plain b (suc n)) n x m refl (sound-dims q p.heads (omega arith) s) i
  method-callable (of_class c args (suc n)) x m s i = of-array (of_class c args (suc n)) n x m refl (sound-dims q p.heads (omega arith) s) i
  method-callable (of_variable c at (suc n)) x m s i = of-array (of_variable c at (suc n)) n x m refl (sound-dims q p.heads (omega arith) s) i

  pub candidate-callable : (t : SourceType) (x : NameId) (m : Candidate) → IsSound q p.heads 255 t → In (candidates p.heads p.classes x t) m → Callable t m
  unfolding candidates
  candidate-callable t x m s i = let r = mapped candidate_of (methods_in p.heads p.classes x t) m i in subst (Callable t) r.is (method-callable t x r.from s r.there)
