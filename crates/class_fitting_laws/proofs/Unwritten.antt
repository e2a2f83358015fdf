-- All members of a class come to what fits, with those that no source writes.
use Rattle.std.proofs.Common.{◌≡◌, ℕ, zero, suc, ◌+◌, List, [], ◌∷◌, length, map, Option, Some, None, refl, sym, ap, ◌∙◌, subst, inr, arith}
use Rattle.std.specs.Prelude.{Bool, true, false, ◌&&◌, codes, nat_eq, not, slice_get, take, if◌then◌else◌}
use Rattle.std.specs.List.{AllByRecursion, find}
use Rattle.std.proofs.lemmas.Bool.Decides.{nat_tests}
use Rattle.std.proofs.lemmas.List.Elements.{All-nil, recursion_from_All}
use Rattle.je_base.specs.declared.span.NameId.{NameId}
use Rattle.je_base.specs.declared.span.Span.{Span}
use Rattle.je_core.specs.declared.types.Base.{Base}
use Rattle.je_core.specs.declared.types.Base.TheVariants as base
use Rattle.je_core.specs.declared.types.ClassId.{ClassId}
use Rattle.je_core.specs.declared.types.Ty.{Ty}
use Rattle.je_core.specs.Core.{CoreProgram, cores, list_of}
use Rattle.je_ast.specs.declared.name.Identifier.{Identifier}
use Rattle.je_ast.specs.Trees.{Members}
use Rattle.je_ast.specs.Types.{TypeName}
use Rattle.je_classes.specs.Members.{names_constructors}
use Rattle.je_classes.specs.Subtypes.{same_base}
use Rattle.je_classes.proofs.Lists.{bool_cases}
use Rattle.je_fitting.specs.Expressions.{AllFit, Body}
use Rattle.je_fitting.specs.Expressions as fits
use Rattle.je_fitting.specs.Members.{AreVariables, BodyFits, a_block, behind_a_call, code_of as code_kind, head_call as a_head, local_types}
use Rattle.je_fitting.specs.Statements as block
use Rattle.je_fitting.specs.Types.{agrees, all_agree, holds_something, is_there, is_variable_type, is_void, types_of, void}
use Rattle.je_fitting.proofs.Booleans.{two}
use Rattle.je_scopes.specs.Headers.{constants_in, is_interface_sort, members_in, site_at}
use Rattle.je_scopes.specs.Sites.{Written, behind_new, declared, in_library, instance}
use Rattle.source_types.specs.Erasure.{class_numbered}
use Rattle.declarations.specs.Declarations.{is_enum_sort}
use Rattle.je_typing.specs.Judged.{gives}
use Rattle.name_typing.specs.Program.{Frame, Program}
use Rattle.call_typing.specs.Creations.{implicit_constructor_call}
use Rattle.call_typing.specs.Overloads.{Candidate}
use Rattle.body_typing.specs.Bodies.{Met, captures, makes, stands as stands_there, stands_behind_new}
use Rattle.body_typing.specs.Expressions.{Known}
use Rattle.class_typing.specs.Constructors.{chosen_for, declared_parameters, locals_from, no_cycle, unnamed_local}
use Rattle.class_typing.specs.Members.{MembersDone, anonymous_code, anonymous_constructor, class_members, class_span, default_code, default_constructor, enum_members, followed_by, is_without_constructor, members_from, nothing, number, scope_in, unwritten}
use Rattle.class_typing.specs.Places.{stands_at}
use Rattle.typing_laws.specs.Fitting.{Gives, with_texts}
use Rattle.typing_laws.proofs.Assignments.{agrees-itself}
use Rattle.fitting_laws.specs.Methods.{HasMethods}
use Rattle.fitting_laws.specs.Represented.{Represents}
use Rattle.fitting_laws.proofs.Gives.{behind, behind-given}
use Rattle.body_laws.proofs.Walk.{any}
use Rattle.class_fitting_laws.specs.Classes.{ClassStands}
use Rattle.class_fitting_laws.specs.Laws.{ClassMembersFit}
use Rattle.class_fitting_laws.specs.Unwritten.{EnumStands, IsHandedTo, UnwrittenStands}
use Rattle.body_laws.specs.Written.{MembersAreWritten}
use Rattle.class_fitting_laws.specs.Written.{MembersStand}
use Rattle.class_fitting_laws.proofs.Enums.{constants-made, methods-fit}
use Rattle.class_fitting_laws.proofs.Initializers.{Code, code-followed, no-code}
use Rattle.class_fitting_laws.proofs.Members.{members_fit}
use Rattle.class_fitting_laws.proofs.Methods.{only-method, same-some}

-- ---- types of variables

holds-value : (b : Base) (n : ℕ) → holds_something b ≡ true → is_void (record { base = b; dims = n }) ≡ false
holds-value b (suc n) h = let e : nat_eq (suc n) 0 ≡ false = grind (arith, nat_tests) in ap (λ x. x && same_base b base.Void) e
holds-value base.Bool zero h = refl
holds-value base.Byte zero h = refl
holds-value base.Short zero h = refl
holds-value base.Char zero h = refl
holds-value base.Int zero h = refl
holds-value base.Long zero h = refl
holds-value (base.Class c) zero h = refl
holds-value base.Null zero h = absurd cc
holds-value base.Void zero h = absurd cc

module _ (q : CoreProgram) where
  variable-itself : (all : List (List ℕ)) (t : Ty) → is_variable_type q t ≡ true → agrees (with_texts q all) t t ≡ true
  variable-itself all t h = agrees-itself (with_texts q all) t.base t.dims (holds-value t.base t.dims (two {a = is_there q t} h).1)

  -- locals as arguments
  locals-agree : (all : List (List ℕ)) (span : Span) (at : ℕ) (ts : List Ty) → AllByRecursion (λ t. is_variable_type q t ≡ true) ts → all_agree (with_texts q all) (types_of (list_of (cores (locals_from span at ts)))) ts ≡ true
  locals-agree all span at [] h = refl
  locals-agree all span at (t ∷ ts) h = ap (λ b. b && all_agree (with_texts q all) (types_of (list_of (cores (locals_from span (suc at) ts)))) ts) (variable-itself all t h.0) ∙ locals-agree all span (suc at) ts h.1

  locals-fit : (all : List (List ℕ)) (body : Body) (span : Span) (at : ℕ) (ts : List Ty) → ((i : ℕ) (t : Ty) → slice_get ts i ≡ Some t → slice_get body.locals (at + i) ≡ Some t) → AllFit (with_texts q all) body (cores (locals_from span at ts))
  locals-fit all body span at [] h = fits.no_more
  locals-fit all body span at (t ∷ ts) h = fits.one_more (fits.local (subst (λ (n : ℕ). slice_get body.locals n ≡ Some t) (let e : at + 0 ≡ at = omega arith in e) (h 0 t refl)))
      (locals-fit all body span (suc at) ts (λ i u e. subst (λ (n : ℕ). slice_get body.locals n ≡ Some u) (let f : at + suc i ≡ suc at + i = omega arith in f) (h (suc i) u e)))

unnamed-types : (no_name : NameId) (span : Span) (ts : List Ty) → local_types (map (unnamed_local no_name span) ts) ≡ ts
unnamed-types no_name span [] = refl
unnamed-types no_name span (t ∷ ts) = ap (λ us. t ∷ us) (unnamed-types no_name span ts)

take-all : {A : Type 0} (xs : List A) → take (length xs) xs ≡ xs
take-all [] = refl
take-all (x ∷ xs) = ap (λ ys. x ∷ ys) (take-all xs)

module _ (p : Program) (k : Known) (q : CoreProgram) (c : ℕ) (round : List Frame) (superclass : Option ClassId) (represents : Represents p q) (has : HasMethods p q) (stands : ClassStands p q c round) where
  abbrev Finished : MembersDone → Type 0
  Finished d = Code p k q c round superclass represents has stands d

  nothing-fits : Finished nothing
  nothing-fits = no-code p k q c round superclass represents has stands nothing refl refl

  -- ---- JLS 8.8.9

  default-fits : Gives Finished (default_constructor p k c round)
  default-fits = behind (λ t. Unit {0}) Finished (implicit_constructor_call p (scope_in p k c round instance None true).place (class_span p k c round)) (λ t. gives (default_code p k c round))
      (any (implicit_constructor_call p (scope_in p k c round instance None true).place (class_span p k c round)))
      (λ t _. only-method p k q c round superclass represents has stands (default_code p k c round) _ refl refl (record {
        params = All-nil _;
        locals = All-nil _;
        first_locals = λ _. refl;
        body = λ s e all h. subst (BodyFits (with_texts q all) _ superclass) (same-some _ s e) (a_block (block.block (All-nil _) block.no_statements));
      }))

  -- ---- JLS 15.9.5.1

  anonymous-code : (m : Candidate) → IsHandedTo p q superclass m → Finished (anonymous_code p k c round m)
  anonymous-code m h = only-method p k q c round superclass represents has stands (anonymous_code p k c round m) _ refl refl (record {
    params = h.variables;
    locals = subst (AreVariables q) (sym same-types) h.variables;
    first_locals = λ _. ap (take (length types)) same-types ∙ take-all types;
    body = λ s e all x. subst (BodyFits (with_texts q all) own-body superclass) (same-some _ s e)
        (behind_a_call (ap code_kind stands.constructors) (All-nil _)
        (a_head refl (fits.this refl) (inr h.above) h.there h.builds
        (locals-fit q all own-body span 0 types (λ i t f. ap (slice_get (local_types (map (unnamed_local (number p k c round []) span) types))) (let z : 0 + i ≡ i = omega arith in z) ∙ ap (λ (ts : List Ty). slice_get ts i) same-types ∙ f))
        (ap (all_agree (with_texts q all) (types_of (list_of (cores (locals_from span 0 types))))) h.params ∙ locals-agree q all span 0 types (recursion_from_All (λ t. is_variable_type q t ≡ true) types h.variables)))
        block.no_statements);
  })
    where
      span : Span
      span = class_span p k c round

      types : List Ty
      types = declared_parameters p m

      same-types : local_types (map (unnamed_local (number p k c round []) span) types) ≡ types
      same-types = unnamed-types (number p k c round []) span types

      own-body : Body
      own-body = record { class = class_numbered c; code = code_kind (names_constructors q (number p k c round (codes "new"))); is_static = false; locals = local_types (map (unnamed_local (number p k c round []) span) types); returns = Some void }

  anonymous-fits : (met : List Met) (own : Span) (of : TypeName) (written : Members) → UnwrittenStands p k q c superclass met (behind_new own of written) → (o : Option Met) → find (stands_at c) met ≡ o → Gives Finished (anonymous_constructor p k c round o)
  anonymous-fits met own of written h None e = nothing-fits
  anonymous-fits met own of written h (Some (captures d n at)) e = nothing-fits
  anonymous-fits met own of written h (Some (makes d n)) e = nothing-fits
  anonymous-fits met own of written h (Some (stands_there d s)) e = nothing-fits
  anonymous-fits met own of written h (Some (stands_behind_new d s word t es)) e = behind-given (λ m. Unit {0}) Finished (chosen_for p k s word t es) (λ chosen. gives (anonymous_code p k c round chosen)) (any (chosen_for p k s word t es))
      (λ m f _. anonymous-code m (h d s word t es m e f))

  -- ---- JLS 8.9

  enum-fits : (ids : List Identifier) → EnumStands q c (length ids) → Finished (enum_members p k c round ids)
  enum-fits ids h = record {
    initializers = λ i x. constants-made (number p k c round) p.source.texts c (class_span p k c round) ids q superclass h 0 ids (omega arith) i x;
    methods = λ m x. methods-fit (number p k c round) p.source.texts c (class_span p k c round) ids q superclass h (ap (λ b. b && true) represents.string) stands.constructors m x;
  }

  -- ---- what no source writes

  default-if : (b : Bool) → Gives Finished (if b then default_constructor p k c round else gives nothing)
  default-if true = default-fits
  default-if false = nothing-fits

  unwritten-fits : (met : List Met) (w : Written) → w ≡ (site_at p.source.sites c).written → UnwrittenStands p k q c superclass met w → Gives Finished (unwritten p k c round met w)
  unwritten-fits met in_library e h = nothing-fits
  unwritten-fits met (declared d) e h = bool_cases (λ b. is_enum_sort (site_at p.source.sites c).sort ≡ b → Gives Finished (if b then gives (enum_members p k c round (constants_in (site_at p.source.sites c).written))
      else if not (is_interface_sort (site_at p.source.sites c).sort) && is_without_constructor p k c round then default_constructor p k c round else gives nothing)) (is_enum_sort (site_at p.source.sites c).sort)
      (λ _ f. enum-fits (constants_in (site_at p.source.sites c).written) (h f)) (λ _ f. default-if (not (is_interface_sort (site_at p.source.sites c).sort) && is_without_constructor p k c round)) refl
  unwritten-fits met (behind_new own of written) e h = anonymous-fits met own of written h (find (stands_at c) met) refl

  members : (met : List Met) (hidden : ℕ) → MembersAreWritten (members_in (site_at p.source.sites c).written) → MembersStand p k q c round superclass hidden 0 (members_in (site_at p.source.sites c).written) → UnwrittenStands p k q c superclass met (site_at p.source.sites c).written → Gives Finished (class_members p k c round met hidden)
  unfolding class_members
  members met hidden lengths h u = behind Finished Finished (members_from p k c round hidden 0 (members_in (site_at p.source.sites c).written)) _ (members_fit p k q c round superclass represents has stands hidden 0 (members_in (site_at p.source.sites c).written) lengths h)
      (λ d f. behind Finished Finished (unwritten p k c round met (site_at p.source.sites c).written) _ (unwritten-fits met (site_at p.source.sites c).written refl u)
      (λ further g. behind (λ x. Unit {0}) Finished (no_cycle d.calls) (λ x. gives (followed_by d further)) (any (no_cycle d.calls)) (λ x _. code-followed p k q c round superclass represents has stands d further f g)))

pub class_members_fit : ClassMembersFit
class_members_fit p k q c round superclass represents has stands met hidden lengths h u = members p k q c round superclass represents has stands met hidden lengths h u
