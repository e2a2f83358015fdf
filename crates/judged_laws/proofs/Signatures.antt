-- Methods and constructors that a class writes stand as their signatures without fault say.
use Rattle.std.proofs.Common.{◌≡◌, ℕ, List, [], ◌∷◌, ◌++◌, drop, map, Some, None, refl, sym, ap, ◌∙◌, subst}
use Rattle.std.specs.Prelude.{Bool, true, false, not, ◌&&◌, ◌||◌, codes, if◌then◌else◌, is_some, slice_get}
use Rattle.std.specs.List.{AllZip}
use Rattle.std.proofs.lemmas.List.{map-append}
use Rattle.je_base.specs.declared.span.NameId.{NameId}
use Rattle.je_base.specs.declared.span.Span.{Span}
use Rattle.je_core.specs.declared.types.ClassId.{ClassId}
use Rattle.je_core.specs.Core.{CoreMethod}
use Rattle.je_ast.specs.declared.decl.Modifier.{Modifier}
use Rattle.je_ast.specs.declared.decl.ModifierKind.{ModifierKind}
use Rattle.je_ast.specs.declared.decl.ModifierKind.TheVariants as word
use Rattle.je_ast.specs.declared.name.Identifier.{Identifier}
use Rattle.je_ast.specs.Trees.{ConstructorInvocation, MaybeBlock, Member, Members, Statements}
use Rattle.je_ast.specs.Trees as tree
use Rattle.je_ast.specs.Types.{FormalParameter, QualifiedName}
use Rattle.je_classes.specs.Members.{In, first, further}
use Rattle.je_classes.proofs.Sets.{by_either, in-either, in-left, in-right}
use Rattle.je_fitting.specs.Types.{is_void}
use Rattle.je_scopes.specs.Members.{MethodSite, method_sites, methods_before}
use Rattle.je_scopes.specs.Sites.{has_static, is_static_word}
use Rattle.source_types.specs.Erasure.{erased}
use Rattle.declarations.specs.Declarations.{DeclaredMethod}
use Rattle.declarations.specs.Words.{has_abstract, has_native, is_native_word}
use Rattle.je_typing.specs.Judged.{Judged, bind, gives}
use Rattle.je_typing.specs.declared.fault.TypeRule.TheVariants.{BadBody, BadModifier}
use Rattle.member_rules.specs.Bodies.{bad_constructor, bad_method, has_no_body, is_there, same_bool}
use Rattle.member_rules.specs.Modifiers.{allows, bad_modifier}
use Rattle.member_rules.specs.declared.modifiers.Declared.TheVariants as what
use Rattle.overriding.specs.Methods.{methods_in}
use Rattle.name_typing.specs.Program.{Frame, Program}
use Rattle.body_typing.specs.Expressions.{Known}
use Rattle.statement_steps.specs.Returns.{Returning}
use Rattle.typing_laws.specs.Fitting.{Gives}
use Rattle.fitting_laws.proofs.Gives.{behind, weaker}
use Rattle.signature_typing.specs.Signatures.{Setting, in_interface, judged_member, members_from, own_body, own_name, place_behind}
use Rattle.class_typing.specs.Members.{BodyDone, Begun, MembersDone, fields_behind, methods_behind}
use Rattle.class_typing.specs.Members as walk
use Rattle.elaborated_laws.proofs.Came.{came}
use Rattle.elaborated_laws.proofs.Constants.{anything}
use Rattle.elaborated_laws.proofs.MethodWalk.{MethodAlike, Zipped, at-place, behind-member, sites-split, true-false, variables-none}
use Rattle.judged_laws.proofs.Modifiers.{none-has, none-refused, without-body}

-- a method of a class that is an interface, or none, where it is told which names are those of constructors
pub record Stands (names : NameId → Bool) (interface : Bool) (IsThere : ClassId → Type 0) (m : CoreMethod) : Type 0 where
  pub throws : (d : ClassId) → In m.throws d → IsThere d
  pub has_body : is_some m.body ≡ not (m.flags.is_abstract || m.flags.is_native)
  pub of_interface : interface ≡ true → m.flags.is_abstract ≡ true
  pub own : names m.name ≡ true → m.flags.is_static ≡ false
  pub concrete : names m.name ≡ true → m.flags.is_abstract ≡ false
  pub result : names m.name ≡ true → is_void m.returns ≡ true

abbrev pub AllStand : (NameId → Bool) → Bool → (ClassId → Type 0) → MembersDone → Type 0
AllStand names interface IsThere d = (m : CoreMethod) → In d.methods m → Stands names interface IsThere m

-- a method as it is declared, by its modifiers
pub record IsFlagged (interface : Bool) (s : MethodSite) (d : DeclaredMethod) : Type 0 where
  pub is_static : d.flags.is_static ≡ has_static s.modifiers
  pub is_abstract : d.flags.is_abstract ≡ (not s.is_constructor && (interface || has_abstract s.modifiers))
  pub is_native : d.flags.is_native ≡ has_native s.modifiers

other-bool : (a b : Bool) → same_bool a b ≡ false → a ≡ not b
other-bool true true e = absurd cc
other-bool true false e = refl
other-bool false true e = refl
other-bool false false e = absurd cc

grouped : (a b c : Bool) → not (a || (b || c)) ≡ not ((a || b) || c)
grouped true b c = refl
grouped false b c = refl

-- a test that would have given an offending place
not-given : (b : Bool) (span : Span) → (if b then Some span else None) ≡ None → b ≡ false
not-given true span e = absurd cc
not-given false span e = refl

own-class : (a b : Bool) (span : Span) → (if a || b then Some span else None) ≡ None → a ≡ false
own-class true b span e = absurd cc
own-class false b span e = refl

either-true : (a b : Bool) → a ≡ true → (a || b) ≡ true
either-true true b e = refl
either-true false b e = absurd cc

module _ (names : NameId → Bool) (f : MethodSite → DeclaredMethod) (p : Program) (k : Known) (c : ℕ) (round : List Frame)
    (s : Setting) (flagged : (m : MethodSite) → IsFlagged (in_interface s c) m (f m)) (IsThere : ClassId → Type 0)
    (thrown : (m : MethodSite) (d : ClassId) → In (walk.thrown_classes p k c round (f m).throws) d → IsThere d) where
  abbrev all : List DeclaredMethod
  all = methods_in (slice_get p.classes c)

  abbrev Done : MembersDone → Type 0
  Done = AllStand names (in_interface s c) IsThere

  then-stand : {A : Type 0} (j : Judged A) (g : A → Judged MembersDone) → ((a : A) → Gives Done (g a)) → Gives Done (bind j g)
  then-stand j g h = behind (λ a. Unit {0}) Done j g (anything j) (λ a u. h a)

  one-stands : (x : CoreMethod) → Stands names (in_interface s c) IsThere x → (m : CoreMethod) → In (x ∷ []) m → Stands names (in_interface s c) IsThere m
  one-stands x h _ first = h
  one-stands x h m (further i) = elim i [ ]

  -- ---- methods

  has-block : (returning : Returning) (b : Begun) (block : MaybeBlock) →
      Gives (λ (d : BodyDone). is_some d.body ≡ is_there block) (walk.body_if p k c round returning b block)
  has-block returning b tree.no_block = refl
  has-block returning b (tree.a_block opening ss closing) =
      behind (λ d. Unit {0}) (λ (d : BodyDone). is_some d.body ≡ true) _ _ (anything _) (λ d u. refl)

  module _ (mods : List Modifier) (id : Identifier) (site : MethodSite) (plain : site.is_constructor ≡ false) (are : site.modifiers ≡ mods) where
    method-flags : (block : MaybeBlock) → same_bool (is_there block) (in_interface s c || has_no_body mods) ≡ false →
        is_there block ≡ not ((f site).flags.is_abstract || (f site).flags.is_native)
    method-flags block e =
        let flags = flagged site in
        other-bool (is_there block) _ e ∙ ap (λ b. not (in_interface s c || b)) (without-body mods)
        ∙ grouped (in_interface s c) (has_abstract mods) (has_native mods)
        ∙ ap (λ ms. not ((in_interface s c || has_abstract ms) || has_native ms)) (sym are)
        ∙ ap (λ b. not ((not b && (in_interface s c || has_abstract site.modifiers)) || has_native site.modifiers)) (sym plain)
        ∙ ap (λ b. not (b || has_native site.modifiers)) (sym flags.is_abstract)
        ∙ ap (λ b. not ((f site).flags.is_abstract || b)) (sym flags.is_native)

    method-stands : (fs : List FormalParameter) (block : MaybeBlock) → names id.name ≡ false →
        same_bool (is_there block) (in_interface s c || has_no_body mods) ≡ false →
        Gives Done (walk.method p k c round id fs block (Some (f site)))
    method-stands fs block name e =
        then-stand _ _ (λ begun. behind (λ (d : BodyDone). is_some d.body ≡ is_there block) Done _ _ (has-block _ begun block)
        (λ b h. one-stands _ (record {
          throws = thrown site;
          has_body = h ∙ method-flags block e;
          of_interface = λ i. (flagged site).is_abstract ∙ ap (λ x. not x && (in_interface s c || has_abstract site.modifiers)) plain
              ∙ either-true (in_interface s c) (has_abstract site.modifiers) i;
          own = λ y. absurd (true-false y name);
          concrete = λ y. absurd (true-false y name);
          result = λ y. absurd (true-false y name);
        })))

  -- ---- constructors

  no-static : (place : _) (w : ModifierKind) → is_static_word w ≡ true → allows what.Constructor place w ≡ false
  no-static place word.Static e = refl
  no-static place word.Public e = absurd cc
  no-static place word.Protected e = absurd cc
  no-static place word.Private e = absurd cc
  no-static place word.Final e = absurd cc
  no-static place word.Abstract e = absurd cc
  no-static place word.Native e = absurd cc
  no-static place word.Override e = absurd cc

  no-native : (place : _) (w : ModifierKind) → is_native_word w ≡ true → allows what.Constructor place w ≡ false
  no-native place word.Native e = refl
  no-native place word.Static e = absurd cc
  no-native place word.Public e = absurd cc
  no-native place word.Protected e = absurd cc
  no-native place word.Private e = absurd cc
  no-native place word.Final e = absurd cc
  no-native place word.Abstract e = absurd cc
  no-native place word.Override e = absurd cc

  constructor-stands : (at : ℕ) (id : Identifier) (fs : List FormalParameter) (call : ConstructorInvocation) (opening : Span)
      (ss : Statements) (closing : Span) (site : MethodSite) → site.is_constructor ≡ true → in_interface s c ≡ false →
      has_static site.modifiers ≡ false → has_native site.modifiers ≡ false → is_void (erased p.heads (f site).result) ≡ true →
      Gives Done (walk.constructor p k c round at id fs call opening ss closing (Some (f site)))
  constructor-stands at id fs call opening ss closing site builds no-interface own bodied result =
      let flags = flagged site in
      let concrete : (f site).flags.is_abstract ≡ false =
      flags.is_abstract ∙ ap (λ x. not x && (in_interface s c || has_abstract site.modifiers)) builds in
      then-stand _ _ (λ b. then-stand _ _ (λ calls. then-stand _ _ (λ d. one-stands _ (record {
        throws = thrown site;
        has_body = sym (ap (λ x. not (x || (f site).flags.is_native)) concrete ∙ ap not (flags.is_native ∙ bodied));
        of_interface = λ i. absurd (true-false i no-interface);
        own = λ y. flags.is_static ∙ own;
        concrete = λ y. concrete;
        result = λ y. result;
      }))))

  -- ---- all members

  none-stand : (d : MembersDone) → Zipped names f p k c round [] d → Done d
  none-stand d z m i = by d.methods z i
    where
      by : (ms : List CoreMethod) → AllZip (MethodAlike names p.heads) ms (map f []) → In ms m → Stands names (in_interface s c) IsThere m
      by [] w j = elim j [ ]
      by (x ∷ ms) w j = absurd w

  abbrev constructor-site : List Modifier → Identifier → List FormalParameter → List QualifiedName → MethodSite
  constructor-site mods id fs ts =
      record { is_constructor = true; modifiers = mods; name = id; result = None; formals = fs; throws = ts }

  module _ (results : (mods : List Modifier) (id : Identifier) (fs : List FormalParameter) (ts : List QualifiedName) →
      is_void (erased p.heads (f (constructor-site mods id fs ts)).result) ≡ true) where
    constructor-judged : (mods : List Modifier) (id : Identifier) (fs : List FormalParameter) (ts : _) (call : ConstructorInvocation)
        (opening : Span) (ss : Statements) (closing span : Span) (at methods : ℕ) (rest : List DeclaredMethod) →
        drop methods all ≡ f (constructor-site mods id fs ts) ∷ rest →
        judged_member s c at (tree.constructor mods id fs ts call opening ss closing span) ≡ gives tt →
        Gives Done (walk.constructor p k c round methods id fs call opening ss closing (slice_get all methods))
    constructor-judged mods id fs ts call opening ss closing span at methods rest e j =
        let site = constructor-site mods id fs ts in
        let signature = came _ _ tt j in
        let modifiers = none-refused BadModifier (bad_modifier what.Constructor (own_body s c) mods) (came _ _ tt signature.is).is in
        let body = none-refused BadBody (bad_constructor (own_name s c) (in_interface s c) id) (came _ _ tt signature.rest).is in
        subst (λ o. Gives Done (walk.constructor p k c round methods id fs call opening ss closing o))
        (sym (at-place names f p k c round methods (f site) rest e))
        (constructor-stands methods id fs call opening ss closing site refl (own-class (in_interface s c) _ _ body)
        (none-has what.Constructor (own_body s c) is_static_word (no-static (own_body s c)) mods modifiers)
        (none-has what.Constructor (own_body s c) is_native_word (no-native (own_body s c)) mods modifiers)
        (results mods id fs ts))

    method-judged : (mods : List Modifier) (t : _) (id : Identifier) (fs : List FormalParameter) (ts : _) (block : MaybeBlock) (span : Span)
        (at methods : ℕ) (rest : List DeclaredMethod) →
        drop methods all ≡ f (record { is_constructor = false; modifiers = mods; name = id; result = t; formals = fs; throws = ts }) ∷ rest →
        names id.name ≡ false → judged_member s c at (tree.method mods t id fs ts block span) ≡ gives tt →
        Gives Done (walk.method p k c round id fs block (slice_get all methods))
    method-judged mods t id fs ts block span at methods rest e plain j =
        let site : MethodSite = record { is_constructor = false; modifiers = mods; name = id; result = t; formals = fs; throws = ts } in
        let signature = came _ _ tt j in
        let body = none-refused BadBody (bad_method (in_interface s c) mods id (is_there block)) (came _ _ tt signature.rest).is in
        subst (λ o. Gives Done (walk.method p k c round id fs block o)) (sym (at-place names f p k c round methods (f site) rest e))
        (method-stands mods id site refl refl fs block plain (not-given (same_bool (is_there block) _) id.span body))

    module _ (new : names (walk.number p k c round (codes "new")) ≡ true) where
      member-stands : (at fields methods : ℕ) (m : Member) (rest : List DeclaredMethod) → drop methods all ≡ map f (methods_before m []) ++ rest →
          ((x : MethodSite) → In (methods_before m []) x → x.is_constructor ≡ false → names x.name.name ≡ false) →
          judged_member s c at m ≡ gives tt → Gives Done (walk.one_member p k c round fields methods m)
      member-stands at fields methods (tree.member_type d) rest e h j = λ m i. elim i [ ]
      member-stands at fields methods (tree.field mods t vs span) rest e h j =
          weaker (Zipped names f p k c round []) Done _ (variables-none names f p k c round fields vs) none-stand
      member-stands at fields methods (tree.method mods t id fs ts block span) rest e h j =
          method-judged mods t id fs ts block span at methods rest e (h _ first refl) j
      member-stands at fields methods (tree.constructor mods id fs ts call opening ss closing span) rest e h j =
          constructor-judged mods id fs ts call opening ss closing span at methods rest e j
      member-stands at fields methods (tree.initializer word opening ss closing span) rest e h j =
          then-stand _ _ (λ d m i. elim i [ ])

      pub members-stand : (at fields methods : ℕ) (ms : Members) → drop methods all ≡ map f (method_sites ms) →
          ((x : MethodSite) → In (method_sites ms) x → x.is_constructor ≡ false → names x.name.name ≡ false) →
          members_from s c at ms ≡ gives tt → Gives Done (walk.members_from p k c round fields methods ms)
      members-stand at fields methods tree.no_members e h j = λ m i. elim i [ ]
      members-stand at fields methods (tree.more_members m ms) e h j =
          let split = sites-split m ms in
          let parts : drop methods all ≡ map f (methods_before m []) ++ map f (method_sites ms) =
          e ∙ ap (map f) split ∙ map-append f (methods_before m []) (method_sites ms) in
          let each = λ (x : MethodSite) (q : In (methods_before m [] ++ method_sites ms) x). h x (subst (λ xs. In xs x) (sym split) q) in
          let judged = came _ _ tt j in
          behind Done Done (walk.one_member p k c round fields methods m) _
          (member-stands at fields methods m (map f (method_sites ms)) parts (λ x q. each x (in-left (method_sites ms) q)) judged.is)
          (λ d z. behind Done Done (walk.members_from p k c round (fields_behind fields m) (methods_behind methods m) ms) _
          (members-stand (place_behind at m) (fields_behind fields m) (methods_behind methods m) ms
          (behind-member names f p k c round new methods m (map f (method_sites ms)) parts)
          (λ x q. each x (in-right (methods_before m []) q)) judged.rest)
          (λ more w x i. by_either (z x) (w x) (in-either d.methods i)))
