-- What stands above a class may stand there: one class that may be extended, and interfaces.
use Rattle.std.proofs.Common.{◌≡◌, ℕ, ◌≤◌, ◌⊎◌, inl, inr, List, [], ◌∷◌, ◌++◌, map, Option, Some, None, refl, sym, ap, ◌∙◌}
use Rattle.std.specs.Prelude.{Bool, true, false, not, ◌||◌, if◌then◌else◌, nat_eq, option_map, slice_get}
use Rattle.je_core.specs.declared.program.Kind.{Kind}
use Rattle.je_ast.specs.Types.{TypeName, TypeNames, more_types, no_types}
use Rattle.je_ast.specs.Trees as tree
use Rattle.je_classes.specs.Hierarchy.{library_class, object_class}
use Rattle.je_classes.specs.Members.{In, first, further}
use Rattle.je_scopes.specs.Headers.{heads_in, is_guest, is_interface_sort, listed, no_span, site_at, with_superclass}
use Rattle.je_scopes.specs.Scope.{header}
use Rattle.je_scopes.specs.Sites.{Written, behind_new, declared, in_library}
use Rattle.je_scopes.specs.Source.{Source}
use Rattle.je_scopes.specs.SourceTypes.{SourceType, of_class, of_variable, plain}
use Rattle.source_types.specs.Heads.{ClassHead, head_at, object_type, supers_of}
use Rattle.source_types.specs.Heads as heads_of_all
use Rattle.source_types.proofs.Same.{and-left}
use Rattle.declarations.specs.Declarations.{DeclaredClass, declared_class, type_at}
use Rattle.je_typing.specs.Castable as castable
use Rattle.je_typing.specs.Judged.{gives}
use Rattle.je_typing.specs.declared.fault.TypeRule.TheVariants.{BadSuper}
use Rattle.header_typing.specs.Supers.{anonymous_super, head_of, is_interface, is_open_head, may_be_extended, superclass, superinterface}
use Rattle.class_heads.specs.Headers.{begins_with_class, class_heads, is_interface_in, is_whole}
use Rattle.class_heads.specs.Headers as class_head
use Rattle.library_declarations.specs.Library.{library_declared}
use Rattle.override_laws.proofs.Erasures.{holds}
use Rattle.signature_typing.specs.Signatures.{Setting, class_header, extends_if, interface_header, interfaces_from}
use Rattle.elaborated_laws.specs.Premises.{is_interface_written}
use Rattle.judged_laws.specs.Judged.{IsJudged, header_of}
use Rattle.judged_laws.specs.Laws.{signed}
use Rattle.class_typing.specs.Programs.{classes, heads, library_count, plain_program, with_enum_methods}
use Rattle.elaborated_laws.proofs.Came.{came}
use Rattle.elaborated_laws.proofs.Declared.{head-there, heads-at}
use Rattle.judged_laws.proofs.ClassDepth.{far, heads-kept}
use Rattle.judged_laws.proofs.Sorts.{kind-kept}

-- ---- types that are named, as headers are judged

module _ (hs : List ClassHead) where
  -- what stands above a class that is no interface: a class that may be extended, and interfaces behind it
  pub record IsOpen (ts : List SourceType) : Type 0 where
    pub above : SourceType
    pub interfaces : List SourceType
    pub are : ts ≡ above ∷ interfaces
    pub open_above : may_be_extended hs above ≡ true
    pub each : (t : SourceType) → In interfaces t → is_interface hs t ≡ true

  -- and of one that is
  abbrev pub AreInterfaces : List SourceType → Type 0
  AreInterfaces ts = (t : SourceType) → In ts t → is_interface hs t ≡ true

module _ (s : Setting) (c : ℕ) where
  abbrev means : TypeName → SourceType
  means t = s.means c header t

  interfaces-judged : (earlier : List SourceType) (ts : TypeNames) → interfaces_from s c earlier ts ≡ gives tt →
      AreInterfaces s.heads (map means (listed ts))
  unfolding superinterface
  interfaces-judged earlier no_types e u i = elim i [ ]
  interfaces-judged earlier (more_types t ts) e _ first =
      and-left (is_interface s.heads (means t)) _ (holds BadSuper _ _ (came _ _ tt (came _ _ tt e).is).rest)
  interfaces-judged earlier (more_types t ts) e u (further i) =
      interfaces-judged (earlier ++ means t ∷ []) ts (came _ _ tt e).rest u i

  superclass-judged : (t : TypeName) → extends_if s c (Some t) ≡ gives tt → may_be_extended s.heads (means t) ≡ true
  unfolding superclass
  superclass-judged t e = holds BadSuper _ _ (came _ _ tt e).rest

-- ---- heads and what is declared

module _ (source : Source) where
  interface-kept : (k : ℕ) → class_head.is_interface_in (slice_get (classes source) k) ≡ castable.is_interface_in (head_at (heads source) k)
  interface-kept k = by (slice_get (classes source) k) ∙ sym (ap castable.is_interface_in (heads-at source k))
    where
      by : (o : Option DeclaredClass) → class_head.is_interface_in o ≡ castable.is_interface_in (option_map (class_head.head_of (classes source) k) o)
      by None = refl
      by (Some d) = refl

  open-kept : (o : Option ClassHead) → is_open_head o ≡ true → castable.is_interface_in o ≡ false
  open-kept None e = absurd cc
  open-kept (Some h) e = by (is_interface_sort h.kind.sort) h.kind.is_final e
    where
      by : (i f : Bool) → not (i || f) ≡ true → i ≡ false
      by false f e = refl
      by true f e = absurd cc

  begins-open : (t : SourceType) (us : List SourceType) → may_be_extended (heads source) t ≡ true → begins_with_class (classes source) (t ∷ us) ≡ true
  begins-open (plain b n) us e = absurd cc
  begins-open (of_variable d at n) us e = absurd cc
  begins-open (of_class k args n) us e = ap not (interface-kept k ∙ open-kept (head_at (heads source) k) e)

  begins-interface : (ts : List SourceType) → AreInterfaces (heads source) ts → begins_with_class (classes source) ts ≡ false
  begins-interface [] h = refl
  begins-interface (t ∷ ts) h = by t (h t first)
    where
      by : (t : SourceType) → is_interface (heads source) t ≡ true → begins_with_class (classes source) (t ∷ ts) ≡ false
      by (plain b n) e = absurd cc
      by (of_variable d at n) e = absurd cc
      by (of_class k args n) e = ap not (interface-kept k ∙ e)

  object-open : may_be_extended (heads source) object_type ≡ true
  unfolding heads class_heads classes library_declared object_class library_class
  object-open = refl

  -- ---- a class of the source

  module _ (c : ℕ) (le : library_count source ≤ c) (there : slice_get (classes source) c ≡ Some (with_enum_methods source c (declared_class source c))) where
    abbrev pub named-by : List SourceType
    named-by = map (type_at source c header) (heads_in (site_at source.sites c).written)

    abbrev interface : Bool
    interface = is_interface_sort (site_at source.sites c).sort

    pub supers-by : supers_of (heads source) c
        ≡ (if interface || nat_eq c object_class.0 || begins_with_class (classes source) named-by then named-by else object_type ∷ named-by)
    unfolding declared_class
    supers-by =
        let own = with_enum_methods source c (declared_class source c) in
        ap heads_of_all.supers_in (head-there source c own there)
        ∙ ap (λ (k : Kind). if is_interface_sort k.sort || nat_eq c object_class.0 || begins_with_class (classes source) own.heads then own.heads else object_type ∷ own.heads)
        (kind-kept _ (declared_class source c) _)
        ∙ ap (λ ts. if interface || nat_eq c object_class.0 || begins_with_class (classes source) ts then ts else object_type ∷ ts)
        (heads-kept _ (declared_class source c) _)

    -- of an interface
    pub supers-of-interface : interface ≡ true → supers_of (heads source) c ≡ named-by
    supers-of-interface i = supers-by ∙ ap (λ b. if b || nat_eq c object_class.0 || begins_with_class (classes source) named-by then named-by else object_type ∷ named-by) i

    pub supers-of-class : interface ≡ false →
        supers_of (heads source) c ≡ (if begins_with_class (classes source) named-by then named-by else object_type ∷ named-by)
    supers-of-class i = supers-by
        ∙ ap (λ b. if b || nat_eq c object_class.0 || begins_with_class (classes source) named-by then named-by else object_type ∷ named-by) i
        ∙ ap (λ b. if b || begins_with_class (classes source) named-by then named-by else object_type ∷ named-by) (far source c le)

    pub open-supers : interface ≡ false → AreInterfaces (heads source) named-by ⊎ IsOpen (heads source) named-by → IsOpen (heads source) (supers_of (heads source) c)
    open-supers i (inl h) = record {
      above = object_type;
      interfaces = named-by;
      are = supers-of-class i ∙ ap (λ b. if b then named-by else object_type ∷ named-by) (begins-interface named-by h);
      open_above = object-open;
      each = h;
    }
    open-supers i (inr h) = record {
      above = h.above;
      interfaces = h.interfaces;
      are = supers-of-class i
          ∙ ap (λ b. if b then named-by else object_type ∷ named-by)
          (ap (begins_with_class (classes source)) h.are ∙ begins-open h.above h.interfaces h.open_above)
          ∙ h.are;
      open_above = h.open_above;
      each = h.each;
    }

-- ---- what headers without fault name

module _ (source : Source) (c : ℕ) (judged : IsJudged (signed source) c) where
  abbrev all-heads : List ClassHead
  all-heads = heads source

  abbrev meant : List TypeName → List SourceType
  meant ts = map (type_at source c header) ts

  -- an anonymous class names one class, of which there is a head
  anonymous-named : (t : TypeName) → header_of (signed source) c (behind_new no_span t tree.no_members) ≡ gives tt →
      (h : ClassHead) → head_of all-heads (type_at source c header t) ≡ Some h →
      AreInterfaces all-heads (meant (t ∷ [])) ⊎ IsOpen all-heads (meant (t ∷ []))
  unfolding anonymous_super plain_program
  anonymous-named t e h is =
      let final : castable.is_final_in (head_of all-heads (type_at source c header t)) ≡ false =
      not-true (castable.is_final_in (head_of all-heads (type_at source c header t))) (holds BadSuper _ _ (came _ _ tt e).rest) in
      by (is_interface_sort h.kind.sort) refl (sym (ap castable.is_final_in is) ∙ final)
    where
      not-true : (b : Bool) → not b ≡ true → b ≡ false
      not-true true k = absurd cc
      not-true false k = refl

      only : is_interface all-heads (type_at source c header t) ≡ true → (u : SourceType) → In (meant (t ∷ [])) u → is_interface all-heads u ≡ true
      only k _ first = k
      only k u (further i) = elim i [ ]

      by : (b : Bool) → is_interface_sort h.kind.sort ≡ b → h.kind.is_final ≡ false →
          AreInterfaces all-heads (meant (t ∷ [])) ⊎ IsOpen all-heads (meant (t ∷ []))
      by true i f = inl (only (ap castable.is_interface_in is ∙ i))
      by false i f = inr (record {
        above = type_at source c header t;
        interfaces = [];
        are = refl;
        open_above = ap is_open_head is ∙ ap (λ x. not (x || h.kind.is_final)) i ∙ ap not f;
        each = λ u k. elim k [ ];
      })

  class-named : (ms : _) (ps : _) (above : Option TypeName) (interfaces : TypeNames) → class_header (signed source) c ms ps above interfaces ≡ gives tt →
      AreInterfaces all-heads (meant (with_superclass above (listed interfaces))) ⊎ IsOpen all-heads (meant (with_superclass above (listed interfaces)))
  unfolding plain_program
  class-named ms ps None interfaces e =
      let bounds = came _ _ tt (came _ _ tt e).rest in
      inl (interfaces-judged (signed source) c [] interfaces (came _ _ tt bounds.rest).rest)
  class-named ms ps (Some t) interfaces e =
      let bounds = came _ _ tt (came _ _ tt e).rest in
      let above = came _ _ tt bounds.rest in
      inr (record {
        above = type_at source c header t;
        interfaces = meant (listed interfaces);
        are = refl;
        open_above = superclass-judged (signed source) c t above.is;
        each = interfaces-judged (signed source) c [] interfaces above.rest;
      })

  interface-named : (ms : _) (ps : _) (interfaces : TypeNames) → interface_header (signed source) c ms ps interfaces ≡ gives tt →
      AreInterfaces all-heads (meant (listed interfaces))
  unfolding plain_program
  interface-named ms ps interfaces e =
      interfaces-judged (signed source) c [] interfaces (came _ _ tt (came _ _ tt e).rest).rest

  -- where it names one behind `new`, there is a head
  abbrev pub HasHead : Written → Type 0
  HasHead w = (word : _) (t : TypeName) (body : _) → w ≡ behind_new word t body → (h : ClassHead) × (head_of all-heads (type_at source c header t) ≡ Some h)

  pub written-named : (w : Written) → is_guest w ≡ true → is_interface_written w ≡ false → HasHead w → header_of (signed source) c w ≡ gives tt →
      AreInterfaces all-heads (meant (heads_in w)) ⊎ IsOpen all-heads (meant (heads_in w))
  written-named in_library g i has e = absurd cc
  written-named (declared (tree.class_declaration ms id ps above interfaces body span)) g i has e = class-named ms ps above interfaces e
  written-named (declared (tree.interface_declaration ms id ps interfaces body span)) g i has e = absurd cc
  written-named (declared (tree.enum_declaration ms id constants span)) g i has e = inl (λ u k. elim k [ ])
  written-named (behind_new word t body) g i has e = let h = has word t body refl in anonymous-named t e h.0 h.1

  pub interfaces-named : (w : Written) → is_interface_written w ≡ true → header_of (signed source) c w ≡ gives tt →
      AreInterfaces all-heads (meant (heads_in w))
  interfaces-named in_library i e = absurd cc
  interfaces-named (declared (tree.class_declaration ms id ps above interfaces body span)) i e = absurd cc
  interfaces-named (declared (tree.interface_declaration ms id ps interfaces body span)) i e = interface-named ms ps interfaces e
  interfaces-named (declared (tree.enum_declaration ms id constants span)) i e = absurd cc
  interfaces-named (behind_new word t body) i e = absurd cc
