-- Of each field that a class declares its members give a constant, or none.
use Rattle.std.proofs.Common.{◌≡◌, ℕ, suc, ◌+◌, ◌<◌, ◌≤◌, List, [], length, Option, Some, None, refl, sym, ap, ◌∙◌, subst, arith, length-append}
use Rattle.std.specs.Prelude.{Bool, true, false, not, ◌&&◌, if◌then◌else◌}
use Rattle.std.specs.List.{find}
use Rattle.std.proofs.lemmas.List.{length-map}
use Rattle.je_base.specs.declared.span.Span.{Span}
use Rattle.je_core.specs.Core.{Core}
use Rattle.je_ast.specs.declared.decl.Modifier.{Modifier}
use Rattle.je_ast.specs.declared.name.Identifier.{Identifier}
use Rattle.je_ast.specs.Trees.{ConstructorInvocation, Expression, MaybeBlock, MaybeExpression, Member, Members, Statements, Variables}
use Rattle.je_ast.specs.Trees as tree
use Rattle.je_ast.specs.Types.{FormalParameter, TypeName}
use Rattle.je_scopes.specs.Headers.{constants_in, is_interface_sort, members_in, site_at}
use Rattle.je_scopes.specs.Members.{field_sites, variable_sites}
use Rattle.je_scopes.specs.Sites.{Written, behind_new, declared, in_library}
use Rattle.declarations.specs.Declarations.{DeclaredField, DeclaredMethod, is_enum_sort}
use Rattle.je_typing.specs.Judged.{Judged, bind, faulty, gives}
use Rattle.je_typing.specs.Typed.{TypedNode}
use Rattle.name_typing.specs.Fields.{fields_of}
use Rattle.name_typing.specs.Program.{Constant, Frame, Program}
use Rattle.body_typing.specs.Bodies.{Done, Met}
use Rattle.body_typing.specs.Bodies as met_in
use Rattle.body_typing.specs.Expressions.{Known}
use Rattle.typing_laws.specs.Fitting.{Gives}
use Rattle.fitting_laws.proofs.Gives.{behind}
use Rattle.class_typing.specs.Constructors.{no_cycle}
use Rattle.class_typing.specs.Members.{Begun, BodyDone, MembersDone, class_members, fields_behind, followed_by, methods_behind, nothing, variable_count}
use Rattle.class_typing.specs.Members as walk
use Rattle.class_typing.specs.Places.{stands_at}
use Rattle.elaborated_laws.proofs.Lists.{placed}

-- ---- how many there are

abbrev pub field-count : Member → ℕ
field-count (tree.field ms t vs span) = variable_count vs
field-count m = 0

abbrev pub total : Members → ℕ
total tree.no_members = 0
total (tree.more_members m ms) = field-count m + total ms

variables-written : (ms : List Modifier) (t : TypeName) (vs : Variables) → length (variable_sites ms t vs) ≡ variable_count vs
variables-written ms t tree.no_variables = refl
variables-written ms t (tree.more_variables id dims e vs) = ap suc (variables-written ms t vs)

pub fields-written : (ms : Members) → length (field_sites ms) ≡ total ms
fields-written tree.no_members = refl
fields-written (tree.more_members (tree.field ms t vs span) rest) =
    length-append (variable_sites ms t vs) (field_sites rest)
    ∙ ap (λ n. n + length (field_sites rest)) (variables-written ms t vs)
    ∙ ap (λ n. variable_count vs + n) (fields-written rest)
fields-written (tree.more_members m rest) = let e : total rest ≡ 0 + total rest = omega arith in fields-written rest ∙ e

behind-fields : (at : ℕ) (m : Member) → fields_behind at m ≡ at + field-count m
behind-fields at (tree.field ms t vs span) = refl
behind-fields at m = omega arith

-- ---- what steps give

pub anything : {A : Type 0} (j : Judged A) → Gives (λ a. Unit {0}) j
anything (gives a) = tt
anything (faulty fault) = tt

abbrev Many : ℕ → MembersDone → Type 0
Many n d = length d.constants ≡ n

-- behind a step of which nothing is asked
then-many : {A : Type 0} (n : ℕ) (j : Judged A) (f : A → Judged MembersDone) → ((a : A) → Gives (Many n) (f a)) →
    Gives (Many n) (bind j f)
then-many n j f h = behind (λ a. Unit {0}) (Many n) j f (anything j) (λ a u. h a)

two-many : (m n : ℕ) (d rest : MembersDone) → Many m d → Many n rest → Many (m + n) (followed_by d rest)
two-many m n d rest h k = length-append d.constants rest.constants ∙ ap (λ i. i + length rest.constants) h ∙ ap (λ i. m + i) k

module _ (p : Program) (k : Known) (c : ℕ) (round : List Frame) where
  -- ---- fields

  one-constant : (f : DeclaredField) (at : ℕ) (id : Identifier) (e : Expression) (from : TypedNode) (n : Core) (is_static : Bool)
      (constant : Option Constant) → Many 1 (walk.field_code p k c round f at id e from n is_static constant)
  one-constant f at id e from n true (Some constant) = refl
  one-constant f at id e from n true None = refl
  one-constant f at id e from n false (Some constant) = refl
  one-constant f at id e from n false None = refl

  initialized-many : (at : ℕ) (id : Identifier) (e : Expression) (f : DeclaredField) →
      Gives (Many 1) (walk.initialized p k c round at id e (Some f))
  initialized-many at id e f =
      then-many 1 _ _ (λ from. then-many 1 _ _ (λ n. then-many 1 _ _
      (λ done. one-constant f at id e from n f.is_static _)))

  variable-many : (at : ℕ) (id : Identifier) (e : MaybeExpression) → at < length (fields_of p.classes c) →
      Gives (Many 1) (walk.variable p k c round at id e)
  variable-many at id tree.no_expression l = refl
  variable-many at id (tree.an_expression e) l =
      let f = placed (fields_of p.classes c) at l in
      subst (λ o. Gives (Many 1) (walk.initialized p k c round at id e o)) (sym f.is) (initialized-many at id e f.element)

  variables-many : (at : ℕ) (vs : Variables) → at + variable_count vs ≤ length (fields_of p.classes c) →
      Gives (Many (variable_count vs)) (walk.variables p k c round at vs)
  variables-many at tree.no_variables le = refl
  variables-many at (tree.more_variables id dims e vs) le =
      behind (Many 1) (Many (suc (variable_count vs))) (walk.variable p k c round at id e) _
      (variable-many at id e (omega (arith, le)))
      (λ d h. behind (Many (variable_count vs)) (Many (suc (variable_count vs))) (walk.variables p k c round (suc at) vs) _
      (variables-many (suc at) vs (omega (arith, le)))
      (λ rest r. let sum : 1 + variable_count vs ≡ suc (variable_count vs) = omega arith in
      two-many 1 (variable_count vs) d rest h r ∙ sum))

  -- ---- members

  method-many : (id : Identifier) (fs : List FormalParameter) (block : MaybeBlock) (m : Option DeclaredMethod) →
      Gives (Many 0) (walk.method p k c round id fs block m)
  method-many id fs block None = refl
  method-many id fs block (Some m) = then-many 0 _ _ (λ begun. then-many 0 _ _ (λ b. refl))

  constructor-many : (at : ℕ) (id : Identifier) (fs : List FormalParameter) (call : ConstructorInvocation) (opening : Span)
      (ss : Statements) (closing : Span) (m : Option DeclaredMethod) →
      Gives (Many 0) (walk.constructor p k c round at id fs call opening ss closing m)
  constructor-many at id fs call opening ss closing None = refl
  constructor-many at id fs call opening ss closing (Some m) =
      then-many 0 _ _ (λ b. then-many 0 _ _ (λ calls. then-many 0 _ _ (λ d. refl)))

  member-many : (fields methods : ℕ) (m : Member) → fields + field-count m ≤ length (fields_of p.classes c) →
      Gives (Many (field-count m)) (walk.one_member p k c round fields methods m)
  member-many fields methods (tree.member_type d) le = refl
  member-many fields methods (tree.field ms t vs span) le = variables-many fields vs le
  member-many fields methods (tree.method ms t id fs ts block span) le = method-many id fs block _
  member-many fields methods (tree.constructor ms id fs ts call opening ss closing span) le =
      constructor-many methods id fs call opening ss closing _
  member-many fields methods (tree.initializer word opening ss closing span) le = then-many 0 _ _ (λ d. refl)

  members-many : (fields methods : ℕ) (ms : Members) → fields + total ms ≤ length (fields_of p.classes c) →
      Gives (Many (total ms)) (walk.members_from p k c round fields methods ms)
  members-many fields methods tree.no_members le = refl
  members-many fields methods (tree.more_members m ms) le =
      behind (Many (field-count m)) (Many (field-count m + total ms)) (walk.one_member p k c round fields methods m) _
      (member-many fields methods m (omega (arith, le)))
      (λ d h. behind (Many (total ms)) (Many (field-count m + total ms))
      (walk.members_from p k c round (fields_behind fields m) (methods_behind methods m) ms) _
      (members-many (fields_behind fields m) (methods_behind methods m) ms (omega (arith, le, behind-fields fields m)))
      (λ rest r. two-many (field-count m) (total ms) d rest h r))

  -- ---- what no source writes

  anonymous-many : (m : Option Met) → Gives (Many 0) (walk.anonymous_constructor p k c round m)
  anonymous-many None = refl
  anonymous-many (Some (met_in.stands_behind_new d s word t es)) = then-many 0 _ _ (λ chosen. refl)
  anonymous-many (Some m) = refl

  unwritten-many : (met : List Met) (w : Written) → (site_at p.source.sites c).written ≡ w →
      (is_enum_sort (site_at p.source.sites c).sort ≡ false → constants_in w ≡ []) →
      Gives (Many (length (constants_in w))) (walk.unwritten p k c round met w)
  unwritten-many met in_library same h = refl
  unwritten-many met (behind_new word t ms) same h = anonymous-many (find (stands_at c) met)
  unwritten-many met (declared d) same h = by (is_enum_sort (site_at p.source.sites c).sort) refl
    where
      other : (b : Bool) → Gives (Many 0) (if b then walk.default_constructor p k c round else gives nothing)
      other true = then-many 0 _ _ (λ done. refl)
      other false = refl

      by : (b : Bool) → is_enum_sort (site_at p.source.sites c).sort ≡ b →
          Gives (Many (length (constants_in (declared d))))
          (if b then gives (walk.enum_members p k c round (constants_in (site_at p.source.sites c).written))
          else if not (is_interface_sort (site_at p.source.sites c).sort) && walk.is_without_constructor p k c round
          then walk.default_constructor p k c round else gives nothing)
      by true e = length-map (constants_in (site_at p.source.sites c).written) (walk.no_constant p k c round) ∙ ap (λ w. length (constants_in w)) same
      by false e = subst (λ ids. Gives (Many (length ids)) (if not (is_interface_sort (site_at p.source.sites c).sort) && walk.is_without_constructor p k c round
          then walk.default_constructor p k c round else gives nothing)) (sym (h e))
          (other (not (is_interface_sort (site_at p.source.sites c).sort) && walk.is_without_constructor p k c round))

  -- ---- the class

  pub class-many : (met : List Met) (hidden : ℕ) →
      hidden + total (members_in (site_at p.source.sites c).written) ≤ length (fields_of p.classes c) →
      (is_enum_sort (site_at p.source.sites c).sort ≡ false → constants_in (site_at p.source.sites c).written ≡ []) →
      Gives (Many (total (members_in (site_at p.source.sites c).written) + length (constants_in (site_at p.source.sites c).written)))
      (class_members p k c round met hidden)
  unfolding class_members
  class-many met hidden le h =
      let w = (site_at p.source.sites c).written in
      let n = total (members_in w) + length (constants_in w) in
      behind (Many (total (members_in w))) (Many n) (walk.members_from p k c round hidden 0 (members_in w)) _
      (members-many hidden 0 (members_in w) le)
      (λ d m. behind (Many (length (constants_in w))) (Many n) (walk.unwritten p k c round met w) _
      (unwritten-many met w refl h)
      (λ further f. then-many n (no_cycle d.calls) _
      (λ done. two-many (total (members_in w)) (length (constants_in w)) d further m f)))
