-- Of each method that a class writes its members give one with the erased types, in order.
use Rattle.std.proofs.Common.{◌≡◌, ℕ, zero, suc, ◌+◌, List, [], ◌∷◌, ◌++◌, Option, Some, None, refl, sym, ap, ◌∙◌, subst, arith}
use Rattle.std.specs.Prelude.{Bool, true, false, codes, drop, map, slice_get}
use Rattle.std.specs.List.{AllZip}
use Rattle.std.proofs.lemmas.List.{map-append}
use Rattle.je_base.specs.declared.span.NameId.{NameId}
use Rattle.je_base.specs.declared.span.Span.{Span}
use Rattle.je_core.specs.Core.{CoreMethod}
use Rattle.je_ast.specs.declared.name.Identifier.{Identifier}
use Rattle.je_ast.specs.Trees.{ConstructorInvocation, Expression, MaybeBlock, MaybeExpression, Member, Members, Statements, Variables}
use Rattle.je_ast.specs.Trees as tree
use Rattle.je_ast.specs.Types.{FormalParameter}
use Rattle.je_classes.specs.Members.{In, first}
use Rattle.je_classes.proofs.Sets.{in-left, in-right}
use Rattle.je_scopes.specs.Members.{MethodSite, method_sites, methods_before}
use Rattle.source_types.specs.Erasure.{erased}
use Rattle.source_types.specs.Heads.{ClassHead}
use Rattle.declarations.specs.Declarations.{DeclaredMethod}
use Rattle.je_typing.specs.Judged.{Judged, bind}
use Rattle.name_typing.specs.Fields.{field_at, member}
use Rattle.name_typing.specs.Program.{Constant, Frame, Program}
use Rattle.overriding.specs.Methods.{methods_in}
use Rattle.body_typing.specs.Expressions.{Known}
use Rattle.typing_laws.specs.Fitting.{Gives}
use Rattle.fitting_laws.proofs.Gives.{behind}
use Rattle.class_typing.specs.Members.{MembersDone, fields_behind, followed_by, methods_behind}
use Rattle.class_typing.specs.Members as walk
use Rattle.elaborated_laws.proofs.Constants.{anything}
use Rattle.elaborated_laws.proofs.Lists.{dropped, zipped-append}

-- a method of the core program as it is declared, where it is told which names are those of constructors
pub record MethodAlike (names : NameId → Bool) (heads : List ClassHead) (method : CoreMethod) (m : DeclaredMethod) : Type 0 where
  pub params : method.params ≡ map (erased heads) m.parameters
  pub returns : method.returns ≡ erased heads m.result
  pub flags : method.flags ≡ m.flags
  pub is_constructor : names method.name ≡ m.is_constructor
  pub name : names method.name ≡ false → method.name ≡ m.name.name

pub sites-split : (m : Member) (ms : Members) → method_sites (tree.more_members m ms) ≡ methods_before m [] ++ method_sites ms
sites-split (tree.method mods t id fs ts block span) ms = refl
sites-split (tree.constructor mods id fs ts call opening ss closing span) ms = refl
sites-split (tree.field mods t vs span) ms = refl
sites-split (tree.member_type d) ms = refl
sites-split (tree.initializer word opening ss closing span) ms = refl

pub true-false : {b : Bool} → b ≡ true → b ≡ false → ⊥
true-false h k = absurd cc

drop-next : {A : Type 0} (xs : List A) (k : ℕ) → drop (suc k) xs ≡ drop 1 (drop k xs)
drop-next [] zero = refl
drop-next [] (suc k) = refl
drop-next (x ∷ xs) zero = refl
drop-next (x ∷ xs) (suc k) = drop-next xs k

module _ (names : NameId → Bool) (f : MethodSite → DeclaredMethod) (p : Program) (k : Known) (c : ℕ) (round : List Frame) where
  abbrev all : List DeclaredMethod
  all = methods_in (slice_get p.classes c)

  abbrev pub Zipped : List MethodSite → MembersDone → Type 0
  Zipped sites d = AllZip (MethodAlike names p.heads) d.methods (map f sites)

  -- what is asked of a declared method, and of the name by which it stands in the core program
  pub record IsDeclaredAs (s : MethodSite) : Type 0 where
    pub constructor_kept : (f s).is_constructor ≡ s.is_constructor
    pub name_kept : (f s).name.name ≡ s.name.name
    pub name : s.is_constructor ≡ false → names s.name.name ≡ false

  then-zipped : {A : Type 0} (sites : List MethodSite) (j : Judged A) (g : A → Judged MembersDone) →
      ((a : A) → Gives (Zipped sites) (g a)) → Gives (Zipped sites) (bind j g)
  then-zipped sites j g h = behind (λ a. Unit {0}) (Zipped sites) j g (anything j) (λ a u. h a)

  -- ---- members without methods

  field-code-none : (d : _) (at : ℕ) (id : Identifier) (e : Expression) (from : _) (n : _) (is_static : Bool) (constant : Option Constant) →
      (walk.field_code p k c round d at id e from n is_static constant).methods ≡ []
  field-code-none d at id e from n true (Some constant) = refl
  field-code-none d at id e from n true None = refl
  field-code-none d at id e from n false (Some constant) = refl
  field-code-none d at id e from n false None = refl

  initialized-none : (at : ℕ) (id : Identifier) (e : Expression) (o : Option _) → Gives (Zipped []) (walk.initialized p k c round at id e o)
  initialized-none at id e None = tt
  initialized-none at id e (Some d) =
      then-zipped [] _ _ (λ from. then-zipped [] _ _ (λ n. then-zipped [] _ _
      (λ done. subst (λ ms. AllZip (MethodAlike names p.heads) ms []) (sym (field-code-none d at id e from n d.is_static _)) tt)))

  pub variables-none : (at : ℕ) (vs : Variables) → Gives (Zipped []) (walk.variables p k c round at vs)
  variables-none at tree.no_variables = tt
  variables-none at (tree.more_variables id dims e vs) =
      behind (Zipped []) (Zipped []) (walk.variable p k c round at id e) _ (one e)
      (λ d h. behind (Zipped []) (Zipped []) (walk.variables p k c round (suc at) vs) _ (variables-none (suc at) vs)
      (λ rest r. zipped-append (MethodAlike names p.heads) d.methods [] rest.methods [] h r))
    where
      one : (e : MaybeExpression) → Gives (Zipped []) (walk.variable p k c round at id e)
      one tree.no_expression = tt
      one (tree.an_expression e) = initialized-none at id e (field_at p.classes (member c at))

  -- ---- methods and constructors

  method-zipped : (id : Identifier) (fs : List FormalParameter) (block : MaybeBlock) (s : MethodSite) → names id.name ≡ (f s).is_constructor →
      id.name ≡ (f s).name.name → Gives (Zipped (s ∷ [])) (walk.method p k c round id fs block (Some (f s)))
  method-zipped id fs block s e same =
      then-zipped (s ∷ []) _ _ (λ begun. then-zipped (s ∷ []) _ _
      (λ b. (record { params = refl; returns = refl; flags = refl; is_constructor = e; name = λ plain. same }, tt)))

  constructor-zipped : (at : ℕ) (id : Identifier) (fs : List FormalParameter) (call : ConstructorInvocation) (opening : Span)
      (ss : Statements) (closing : Span) (s : MethodSite) → names (walk.number p k c round (codes "new")) ≡ true → (f s).is_constructor ≡ true →
      Gives (Zipped (s ∷ [])) (walk.constructor p k c round at id fs call opening ss closing (Some (f s)))
  constructor-zipped at id fs call opening ss closing s new e =
      then-zipped (s ∷ []) _ _ (λ b. then-zipped (s ∷ []) _ _ (λ calls. then-zipped (s ∷ []) _ _
      (λ d. (record { params = refl; returns = refl; flags = refl; is_constructor = new ∙ sym e; name = λ plain. absurd (true-false new plain) }, tt))))

  pub at-place : (methods : ℕ) (x : DeclaredMethod) (rest : List DeclaredMethod) → drop methods all ≡ x ∷ rest → slice_get all methods ≡ Some x
  at-place methods x rest e =
      let same : methods ≡ methods + 0 = omega arith in
      ap (slice_get all) same ∙ sym (dropped methods all 0) ∙ ap (λ xs. slice_get xs 0) e

  module _ (new : names (walk.number p k c round (codes "new")) ≡ true) where
    member-zipped : (fields methods : ℕ) (m : Member) (rest : List DeclaredMethod) → drop methods all ≡ map f (methods_before m []) ++ rest →
        ((s : MethodSite) → In (methods_before m []) s → IsDeclaredAs s) →
        Gives (Zipped (methods_before m [])) (walk.one_member p k c round fields methods m)
    member-zipped fields methods (tree.member_type d) rest e h = tt
    member-zipped fields methods (tree.field mods t vs span) rest e h = variables-none fields vs
    member-zipped fields methods (tree.method mods t id fs ts block span) rest e h =
        let s : MethodSite = record { is_constructor = false; modifiers = mods; name = id; result = t; formals = fs; throws = ts } in
        let is = h s first in
        let there : slice_get all methods ≡ Some (f s) = at-place methods (f s) rest e in
        subst (λ o. Gives (Zipped (s ∷ [])) (walk.method p k c round id fs block o)) (sym there)
        (method-zipped id fs block s (is.name refl ∙ sym is.constructor_kept) (sym is.name_kept))
    member-zipped fields methods (tree.constructor mods id fs ts call opening ss closing span) rest e h =
        let s : MethodSite = record { is_constructor = true; modifiers = mods; name = id; result = None; formals = fs; throws = ts } in
        let is = h s first in
        let there : slice_get all methods ≡ Some (f s) = at-place methods (f s) rest e in
        subst (λ o. Gives (Zipped (s ∷ [])) (walk.constructor p k c round methods id fs call opening ss closing o)) (sym there)
        (constructor-zipped methods id fs call opening ss closing s new is.constructor_kept)
    member-zipped fields methods (tree.initializer word opening ss closing span) rest e h = then-zipped [] _ _ (λ d. tt)

    pub behind-member : (methods : ℕ) (m : Member) (rest : List DeclaredMethod) → drop methods all ≡ map f (methods_before m []) ++ rest →
        drop (methods_behind methods m) all ≡ rest
    behind-member methods (tree.member_type d) rest e = e
    behind-member methods (tree.field mods t vs span) rest e = e
    behind-member methods (tree.method mods t id fs ts block span) rest e = drop-next all methods ∙ ap (drop 1) e
    behind-member methods (tree.constructor mods id fs ts call opening ss closing span) rest e = drop-next all methods ∙ ap (drop 1) e
    behind-member methods (tree.initializer word opening ss closing span) rest e = e

    pub members-zipped : (fields methods : ℕ) (ms : Members) → drop methods all ≡ map f (method_sites ms) →
        ((s : MethodSite) → In (method_sites ms) s → IsDeclaredAs s) →
        Gives (Zipped (method_sites ms)) (walk.members_from p k c round fields methods ms)
    members-zipped fields methods tree.no_members e h = tt
    members-zipped fields methods (tree.more_members m ms) e h =
        let split = sites-split m ms in
        let parts : drop methods all ≡ map f (methods_before m []) ++ map f (method_sites ms) =
        e ∙ ap (map f) split ∙ map-append f (methods_before m []) (method_sites ms) in
        let each = λ (s : MethodSite) (q : In (methods_before m [] ++ method_sites ms) s). h s (subst (λ ss. In ss s) (sym split) q) in
        subst (λ ss. Gives (Zipped ss) (walk.members_from p k c round fields methods (tree.more_members m ms))) (sym split)
        (behind (Zipped (methods_before m [])) (Zipped (methods_before m [] ++ method_sites ms)) (walk.one_member p k c round fields methods m) _
        (member-zipped fields methods m (map f (method_sites ms)) parts (λ s q. each s (in-left (method_sites ms) q)))
        (λ d z. behind (Zipped (method_sites ms)) (Zipped (methods_before m [] ++ method_sites ms))
        (walk.members_from p k c round (fields_behind fields m) (methods_behind methods m) ms) _
        (members-zipped (fields_behind fields m) (methods_behind methods m) ms (behind-member methods m (map f (method_sites ms)) parts)
        (λ s q. each s (in-right (methods_before m []) q)))
        (λ more w. subst (AllZip (MethodAlike names p.heads) (d.methods ++ more.methods)) (sym (map-append f (methods_before m []) (method_sites ms)))
        (zipped-append (MethodAlike names p.heads) d.methods (map f (methods_before m [])) more.methods (map f (method_sites ms)) z w))))
