-- The classes that the headers of a source name are there.
use Rattle.std.proofs.Common.{◌≡◌, ℕ, ◌<◌, ◌≤◌, List, [], ◌∷◌, Some, sym, ap, ◌∙◌, subst}
use Rattle.std.specs.Prelude.{Bool, true, false, is_some, slice_get, if◌then◌else◌}
use Rattle.std.specs.List.{All, Contains}
use Rattle.std.proofs.lemmas.List.Elements.{All-cons, All-nil}
use Rattle.std.proofs.lemmas.Option.{slice_get_within}
use Rattle.je_core.specs.declared.program.Head.{Head}
use Rattle.je_core.specs.declared.types.ClassId.{ClassId}
use Rattle.je_core.specs.Core.{CoreClass, CoreProgram}
use Rattle.je_ast.specs.Types.{TypeName}
use Rattle.je_classes.specs.Hierarchy.{class_at}
use Rattle.je_classes.proofs.Lists.{contains-here, contains-later}
use Rattle.je_scopes.specs.Headers.{heads_in, site_at}
use Rattle.je_scopes.specs.Source.{Source}
use Rattle.je_scopes.specs.SourceTypes.{SourceType, SourceTypes, of_class}
use Rattle.source_types.specs.Erasure.{class_numbered}
use Rattle.source_types.specs.Heads.{ClassHead, object_type, supers_in, supers_of}
use Rattle.declarations.specs.Declarations.{DeclaredClass, declared_class}
use Rattle.class_heads.specs.Headers.{is_whole}
use Rattle.fitting_laws.specs.Sound.{IsSound, sound_class}
use Rattle.class_typing.specs.Classes.{classes_of_types, declared_heads, heads_from}
use Rattle.class_typing.specs.Programs.{classes, library_count, plain_program, with_enum_methods}
use Rattle.elaborated_laws.specs.Elaborated.{IsElaborated, captured_by}
use Rattle.elaborated_laws.proofs.Classes.{classes-count}
use Rattle.elaborated_laws.proofs.Declared.{heads-are, hidden-there}
use Rattle.elaborated_laws.proofs.Guests.{guest-declared, within-sites}
use Rattle.elaborated_laws.proofs.Heads.{get-head}
use Rattle.program_laws.proofs.Sources.{heads-named}
use Rattle.program_laws.specs.Premises.{SourceIsSound, declared}
use Rattle.program_laws.proofs.Supers.{types-name}

sound-there : (program : CoreProgram) (heads : List ClassHead) (most c : ℕ) (args : SourceTypes) (n : ℕ) →
    IsSound program heads most (of_class c args n) → is_some (class_at program (class_numbered c)) ≡ true
sound-there program heads most c args n (sound_class there few are) = there

heads-there : (program : CoreProgram) (ts : List TypeName) (cs : List ClassId) →
    ((d : ClassId) → Contains cs d → is_some (class_at program d) ≡ true) →
    All (λ (h : Head). is_some (class_at program h.class) ≡ true) (heads_from ts cs)
heads-there program [] cs f = All-nil (λ (h : Head). is_some (class_at program h.class) ≡ true)
heads-there program (t ∷ ts) [] f = All-nil (λ (h : Head). is_some (class_at program h.class) ≡ true)
heads-there program (t ∷ ts) (c ∷ cs) f =
    All-cons (λ (h : Head). is_some (class_at program h.class) ≡ true) _ (heads_from ts cs) (f c (contains-here c cs))
    (heads-there program ts cs (λ d q. f d (contains-later c d cs q)))

behind-object : (b : Bool) (ts : List SourceType) (t : SourceType) → Contains ts t →
    Contains (if b then ts else object_type ∷ ts) t
behind-object true ts t q = q
behind-object false ts t q = contains-later object_type t ts q

module _ (source : Source) (program : CoreProgram) (e : IsElaborated source program) (sound : SourceIsSound source program e)
    (c : ℕ) (class : CoreClass) (le : library_count source ≤ c) (there : class_at program (class_numbered c) ≡ Some class) where
  abbrev own : DeclaredClass
  own = with_enum_methods source c (declared_class source c)

  is-declared : slice_get (classes source) c ≡ Some own
  is-declared = guest-declared source c le
      (within-sites source c le
      (subst (λ n. c < n) (e.has.count ∙ classes-count source) (slice_get_within program.classes c class there)))

  named-above : (t : SourceType) → Contains own.heads t → Contains (supers_of (declared source program e).heads c) t
  named-above t q =
      subst (λ ts. Contains ts t) (sym (ap supers_in (get-head source program e c own is-declared)))
      (behind-object (is_whole (classes source) c own) own.heads t q)

  class-there : (d : ClassId) → Contains (classes_of_types own.heads) d → is_some (class_at program d) ≡ true
  class-there d q =
      let heads = (declared source program e).heads in
      let named = types-name own.heads (λ t h. heads-named source program e sound c t le
      (subst (λ hs. Contains (supers_of hs c) t) (heads-are source e.first) (named-above t h))) d q in
      sound-there program heads 254 d.0 named.arguments 0
      (sound.types.heads.supers c (of_class d.0 named.arguments 0)
      (named-above (of_class d.0 named.arguments 0) named.there))

  heads-are-named : class.heads ≡ heads_from (heads_in (site_at source.sites c).written) (classes_of_types own.heads)
  unfolding plain_program
  heads-are-named =
      ap (λ (k : CoreClass). k.heads) (e.has.guests c class le there).is
      ∙ ap (λ o. heads_from (heads_in (site_at source.sites c).written) (declared_heads (declared source program e) (captured_by source e.first) c o))
      (hidden-there source (captured_by source e.first) c own is-declared)

  pub named-classes : All (λ (h : Head). is_some (class_at program h.class) ≡ true) class.heads
  named-classes =
      subst (All (λ (h : Head). is_some (class_at program h.class) ≡ true)) (sym heads-are-named)
      (heads-there program (heads_in (site_at source.sites c).written) (classes_of_types own.heads) class-there)
