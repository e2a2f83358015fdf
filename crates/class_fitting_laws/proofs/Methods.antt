-- Methods and constructors that a class writes fit (JLS 8.4, 8.8).
use Rattle.std.proofs.Common.{◌≡◌, ℕ, zero, suc, ◌<◌, ◌≤◌, List, [], ◌∷◌, ◌++◌, length, get_or, map, Option, Some, None, refl, sym, ap, ◌∙◌, subst, arith}
use Rattle.std.specs.Prelude.{Bool, true, false, option_map, slice_get, take, if◌then◌else◌}
use Rattle.std.proofs.lemmas.List.{length-map}
use Rattle.std.proofs.lemmas.List.Elements.{All-cons, All-get_or, All-nil}
use Rattle.std.proofs.lemmas.Option.{none-some, slice_get-get_or, slice_get-map}
use Rattle.je_base.specs.declared.span.NameId.{NameId}
use Rattle.je_base.specs.declared.span.Span.{Span}
use Rattle.je_core.specs.declared.program.Local.{Local as LocalOf}
use Rattle.je_core.specs.declared.types.Base.TheVariants as base
use Rattle.je_core.specs.declared.types.ClassId.{ClassId}
use Rattle.je_core.specs.declared.types.Ty.{Ty}
use Rattle.je_core.specs.Core.{CoreMethod, CoreProgram, CoreStmt}
use Rattle.je_ast.specs.declared.name.Identifier.{Identifier}
use Rattle.je_ast.specs.Trees.{ConstructorInvocation, MaybeBlock, Statements}
use Rattle.je_ast.specs.Trees as tree
use Rattle.je_ast.specs.Types.{FormalParameter}
use Rattle.je_classes.specs.Members.{In, first as at_first, further as and_further, names_constructors}
use Rattle.je_fitting.specs.Expressions.{Body}
use Rattle.je_fitting.specs.Members.{AreVariables, BodyFits, a_block, code_of as code_kind, local_types}
use Rattle.je_fitting.specs.Statements.{no_targets}
use Rattle.je_fitting.specs.Types.{is_variable_type}
use Rattle.je_scopes.specs.Sites.{context_of}
use Rattle.je_scopes.specs.SourceTypes.{SourceType, of_class, of_variable, plain}
use Rattle.plain_programs.specs.Nodes.{every_expression}
use Rattle.source_types.specs.Erasure.{class_numbered, erased}
use Rattle.source_types.specs.Subtypes.{dims_of}
use Rattle.declarations.specs.Declarations.{DeclaredMethod}
use Rattle.overriding.specs.Methods.{methods_in}
use Rattle.je_typing.specs.declared.fault.TypeRule.TheVariants.{LocalTwice}
use Rattle.je_typing.specs.Judged.{gives}
use Rattle.je_typing.specs.Typed.{is_void}
use Rattle.name_typing.specs.Instances.{is_instance}
use Rattle.name_typing.specs.Program.{Frame, LocalVariable, Program}
use Rattle.statement_steps.specs.Returns.{a_value, no_value}
use Rattle.body_typing.specs.Bodies.{Done, Met, Progress, block_of, local_of, with_local, with_number}
use Rattle.body_typing.specs.Expressions.{Known}
use Rattle.body_typing.specs.FinalVariables.{Scope}
use Rattle.body_typing.specs.Statements.{statements}
use Rattle.class_typing.specs.Members.{Begun, BodyDone, MembersDone, body_if, code_of, method, method_code, nothing_met, parameters, returning_of, scope_in}
use Rattle.typing_laws.specs.Fitting.{Gives, stands_once, with_texts}
use Rattle.typing_laws.proofs.Nodes.{erased-plain}
use Rattle.fitting_laws.specs.Methods.{HasMethods}
use Rattle.fitting_laws.specs.Represented.{Represents}
use Rattle.fitting_laws.specs.Sound.{IsSound}
use Rattle.fitting_laws.proofs.Gives.{behind, behind-check, weaker}
use Rattle.fitting_laws.proofs.Lists.{in-one}
use Rattle.fitting_laws.proofs.Sound.{sound-variable, wider}
use Rattle.body_laws.specs.Bodies.{BodyStands, IsInBody, Returns}
use Rattle.body_laws.specs.Fitting.{AreTyped, DoneFits}
use Rattle.body_laws.specs.Written.{BlockIsWritten, BodyIsWritten}
use Rattle.body_laws.proofs.Grows.{Grows, Knows, before, grows-not, grows-number, number-there, on}
use Rattle.body_laws.proofs.Scopes.{with-local}
use Rattle.body_laws.proofs.Typed.{typed-on}
use Rattle.body_laws.proofs.Walk.{Block, block-fits, walk-block}
use Rattle.class_fitting_laws.specs.Classes.{ClassStands}
use Rattle.class_fitting_laws.specs.Fitting.{CodeFits, MethodCodeFits}
use Rattle.class_fitting_laws.specs.Written.{MethodsStand}
use Rattle.class_fitting_laws.proofs.Initializers.{Code, by-given, for-each, no-code, own-locals, typed-locals}
use Rattle.class_fitting_laws.proofs.Scopes.{begins}

-- ---- the first of a list

pub same-some : {A : Type 0} (x y : A) → ◌≡◌ {A = Option A} (Some x) (Some y) → x ≡ y
same-some {A = A} x y e = ap or-first e
  where
    or-first : Option A → A
    or-first (Some z) = z
    or-first None = x

pub take-first : {A : Type 0} (xs ys : List A) → ((n : ℕ) (x : A) → slice_get xs n ≡ Some x → slice_get ys n ≡ Some x) → take (length xs) ys ≡ xs
take-first [] ys h = refl
take-first (x ∷ xs) [] h = absurd (none-some x (h 0 x refl))
take-first (x ∷ xs) (y ∷ ys) h = ap (λ z. z ∷ take (length xs) ys) (same-some y x (h 0 x refl)) ∙ ap (λ zs. x ∷ zs) (take-first xs ys (λ n z e. h (suc n) z e))

-- ---- the locals of a walk, by their types

local-at : (ls : List LocalOf) (n : ℕ) (t : Ty) → slice_get (local_types ls) n ≡ Some t → (l : LocalOf) × (slice_get ls n ≡ Some l) × (l.ty ≡ t)
local-at [] n t e = absurd (none-some t e)
local-at (l ∷ ls) zero t e = (l, refl, same-some l.ty t e)
local-at (l ∷ ls) (suc n) t e = local-at ls n t e

pub types-grow : {pr further : Progress} → Grows pr further → (n : ℕ) (t : Ty) → slice_get (local_types pr.locals) n ≡ Some t → slice_get (local_types further.locals) n ≡ Some t
types-grow {pr = pr} {further = further} g n t e =
    let l = local-at pr.locals n t e in
    slice_get-map (λ (x : LocalOf). x.ty) further.locals n ∙ ap (option_map (λ (x : LocalOf). x.ty)) (g.locals n l.0 l.1) ∙ ap Some l.2

-- ---- parameters

types-append : (ls ms : List LocalOf) → local_types (ls ++ ms) ≡ local_types ls ++ local_types ms
types-append [] ms = refl
types-append (l ∷ ls) ms = ap (λ ts. l.ty ∷ ts) (types-append ls ms)

append-one : {A : Type 0} (xs : List A) (y : A) (ys : List A) → (xs ++ y ∷ []) ++ ys ≡ xs ++ y ∷ ys
append-one [] y ys = refl
append-one (x ∷ xs) y ys = ap (λ zs. x ∷ zs) (append-one xs y ys)

module _ (p : Program) (k : Known) (q : CoreProgram) (c : ℕ) (round : List Frame) where
  -- what parameters come to: the first locals, which are in scope
  pub record ParametersStand (s : Scope) (pr : Progress) (ts : List SourceType) (b : Begun) : Type 0 where
    pub grows : Grows pr b.progress
    pub types : local_types b.progress.locals ≡ local_types pr.locals ++ map (erased p.heads) ts
    pub class : b.scope.place.here.class ≡ s.place.here.class
    pub classes : b.scope.place.here.local_classes ≡ s.place.here.local_classes
    pub scope : (body : Body) (start : Scope) (all : List Met) → Knows body all b.progress → ((t : SourceType) → In ts t → IsSound q p.heads 255 t) → IsInBody p k q body start s → IsInBody p k q body start b.scope

  none-left : (s : Scope) (pr : Progress) → ParametersStand s pr [] (record { scope = s; progress = pr })
  none-left s pr = record { grows = grows-not pr; types = sym (append-none (local_types pr.locals)); class = refl; classes = refl; scope = λ body start all knows sound h. h }
    where
      append-none : (ts : List Ty) → ts ++ [] ≡ ts
      append-none [] = refl
      append-none (t ∷ ts) = ap (λ us. t ∷ us) (append-none ts)

  module _ (f : FormalParameter) (t : SourceType) (s : Scope) (pr : Progress) where
    abbrev pub numbered : Progress
    numbered = with_number p.heads f.name.name t f.is_final f.name.span pr

    abbrev pub one-local : LocalVariable
    one-local = local_of f.name.name t f.is_final (length pr.locals) None

    one-more : (ts : List SourceType) (b : Begun) → ParametersStand (with_local f.is_final one-local s) numbered ts b → ParametersStand s pr (t ∷ ts) b
    one-more ts b h = record {
      grows = on (grows-number p.heads f.name.name t f.is_final f.name.span pr) h.grows;
      types = h.types ∙ ap (λ us. us ++ map (erased p.heads) ts) (types-append pr.locals _) ∙ append-one (local_types pr.locals) (erased p.heads t) (map (erased p.heads) ts);
      class = h.class;
      classes = h.classes;
      scope = λ body start all knows sound i. h.scope body start all knows (λ u m. sound u (and_further m))
          (with-local p k q body start f.is_final one-local s i (record { type = sound t at_first; constant = λ x e. absurd (none-some x e) }) (number-there p.heads f.name.name t f.is_final f.name.span pr (before h.grows knows)));
    }

  pub parameters-stand : (s : Scope) (pr : Progress) (fs : List FormalParameter) (ts : List SourceType) → length fs ≡ length ts → Gives (ParametersStand s pr ts) (parameters p k c round s pr fs ts)
  parameters-stand s pr [] [] e = none-left s pr
  parameters-stand s pr (f ∷ fs) (t ∷ ts) e = behind-check (ParametersStand s pr (t ∷ ts)) LocalTwice f.name.span _ _ (λ _.
      weaker (ParametersStand (with_local f.is_final (one-local f t s pr) s) (numbered f t s pr) ts) (ParametersStand s pr (t ∷ ts)) (parameters p k c round (with_local f.is_final (one-local f t s pr) s) (numbered f t s pr) fs ts)
      (parameters-stand (with_local f.is_final (one-local f t s pr) s) (numbered f t s pr) fs ts (same-length e)) (λ b h. one-more f t s pr ts b h))
    where
      same-length : {m n : ℕ} → suc m ≡ suc n → m ≡ n
      same-length e = omega (arith, e)
  parameters-stand s pr [] (t ∷ ts) e = absurd cc
  parameters-stand s pr (f ∷ fs) [] e = absurd cc

  -- ---- a method

  -- where `void` is returned
  void-is : (t : SourceType) → is_void t ≡ true → t ≡ plain base.Void 0
  void-is (plain base.Void zero) e = refl
  void-is (plain base.Bool zero) e = absurd cc
  void-is (plain base.Byte zero) e = absurd cc
  void-is (plain base.Short zero) e = absurd cc
  void-is (plain base.Char zero) e = absurd cc
  void-is (plain base.Int zero) e = absurd cc
  void-is (plain base.Long zero) e = absurd cc
  void-is (plain base.Null zero) e = absurd cc
  void-is (plain (base.Class d) zero) e = absurd cc
  void-is (plain b (suc n)) e = absurd cc
  void-is (of_class d ts n) e = absurd cc
  void-is (of_variable d at n) e = absurd cc

  abbrev pub body-with : NameId → DeclaredMethod → List Ty → Body
  body-with name m locals = record { class = class_numbered c; code = code_kind (names_constructors q name); is_static = m.flags.is_static; locals = locals; returns = Some (erased p.heads m.result) }

  pub returns-it : (name : NameId) (m : DeclaredMethod) (locals : List Ty) → dims_of m.result ≤ 255 → Returns (body-with name m locals) p.heads (returning_of m.result)
  returns-it name m locals few = by (is_void m.result) refl
    where
      by : (b : Bool) → is_void m.result ≡ b → Returns (body-with name m locals) p.heads (if b then no_value else a_value m.result)
      by true e = ap (λ (t : SourceType). Some (erased p.heads t)) (void-is m.result e) ∙ ap Some (erased-plain p.heads base.Void)
      by false e = (refl, few)

module _ (p : Program) (k : Known) (q : CoreProgram) (c : ℕ) (round : List Frame) (superclass : Option ClassId) (represents : Represents p q) (has : HasMethods p q) (stands : ClassStands p q c round) where
  abbrev Finished : MembersDone → Type 0
  Finished d = Code p k q c round superclass represents has stands d

  pub own-context : (b : Bool) → is_instance (context_of b) ≡ true → b ≡ false
  own-context false e = refl
  own-context true e = absurd cc

  erased-variables : (ts : List SourceType) → ((t : SourceType) → In ts t → IsSound q p.heads 255 t) → AreVariables q (map (erased p.heads) ts)
  erased-variables [] sound = All-nil _
  erased-variables (t ∷ ts) sound = All-cons (λ u. is_variable_type q u ≡ true) (erased p.heads t) (map (erased p.heads) ts)
      (sound-variable q p.heads represents.heads (omega arith) (sound t at_first)) (erased-variables ts (λ u i. sound u (and_further i)))

  -- parameters have types of variables, as the first locals
  parameters-typed : (body : Body) (s : Scope) (ts : List SourceType) (b : Begun) (final : Progress) → body.locals ≡ local_types final.locals → ParametersStand p k q c round s nothing_met ts b → Grows b.progress final
      → AreVariables q (map (erased p.heads) ts) → AreTyped q body 0 (length b.progress.locals)
  parameters-typed body s ts b final e begun grows variables n t from to at-n =
      let params = map (erased p.heads) ts in
      let within : n < length params = omega (arith, to, ap length begun.types, length-map b.progress.locals (λ (x : LocalOf). x.ty)) in
      let here = types-grow grows n (get_or params n t) (ap (λ (us : List Ty). slice_get us n) begun.types ∙ slice_get-get_or params n t within) in
      let same = same-some (get_or params n t) t (sym here ∙ ap (λ (us : List Ty). slice_get us n) (sym e) ∙ at-n) in
      subst (λ u. is_variable_type q u ≡ true) same (All-get_or (λ u. is_variable_type q u ≡ true) params n t within variables)

  -- the code of one method or constructor, from where its parameters are done
  pub one-method : (name : NameId) (span : Span) (m : DeclaredMethod) (s : Scope) (b : Begun) (final : Progress) (body : Option CoreStmt) → ParametersStand p k q c round s nothing_met m.parameters b → Grows b.progress final
      → ((t : SourceType) → In m.parameters t → IsSound q p.heads 255 t) → AreTyped q (body-with p k q c round name m (local_types final.locals)) (length b.progress.locals) (length final.locals)
      → ((t : CoreStmt) → body ≡ Some t → (texts : List (List ℕ)) → every_expression (stands_once texts) t ≡ true → BodyFits (with_texts q texts) (body-with p k q c round name m (local_types final.locals)) superclass t)
      → MethodCodeFits q (class_numbered c) superclass (code_of p k c round name span m final.locals body)
  one-method name span m s b final body begun grows sound typed fits = record {
    params = erased-variables m.parameters sound;
    locals = typed-locals q (body-with p k q c round name m (local_types final.locals)) final.locals refl (typed-on q (body-with p k q c round name m (local_types final.locals)) 0 (length b.progress.locals) (length final.locals)
        (parameters-typed (body-with p k q c round name m (local_types final.locals)) s m.parameters b final refl begun grows (erased-variables m.parameters sound)) typed);
    first_locals = λ _. take-first (map (erased p.heads) m.parameters) (local_types final.locals) (λ n x e. types-grow grows n x (ap (λ (ts : List Ty). slice_get ts n) begun.types ∙ e));
    body = fits;
  }

  pub only-method : (d : MembersDone) (m : CoreMethod) → d.initializers ≡ [] → d.methods ≡ m ∷ [] → MethodCodeFits q (class_numbered c) superclass m → CodeFits q (class_numbered c) superclass d
  only-method d m e f h = record {
    initializers = λ i x. (no-code p k q c round superclass represents has stands (record d { methods = [] }) e refl).initializers i x;
    methods = λ n x. subst (MethodCodeFits q (class_numbered c) superclass) (sym (in-one m n (subst (λ (ms : List CoreMethod). In ms n) f x))) h;
  }

  module _ (id : Identifier) (at : ℕ) (m : DeclaredMethod) (there : slice_get (methods_in (slice_get p.classes c)) at ≡ Some m) (few : dims_of m.result ≤ 255) where
    abbrev first : Scope
    first = scope_in p k c round (context_of m.flags.is_static) None false

    abbrev with-locals : List Ty → Body
    with-locals locals = body-with p k q c round id.name m locals

    in-body : (locals : List Ty) → IsInBody p k q (with-locals locals) first first
    in-body locals = begins p k q c round stands (with-locals locals) (context_of m.flags.is_static) None false refl (own-context m.flags.is_static) (λ e. absurd cc) (λ e. absurd cc)

    sound : (t : SourceType) → In m.parameters t → IsSound q p.heads 255 t
    sound t i = wider q p.heads (has.parameters c at m there t i)

    -- the body with the locals of a walk, by what was met in it
    abbrev Stands : Progress → Type 0
    Stands final = BodyStands p k q (with-locals (local_types final.locals)) first final.met

    abbrev Done-body : Begun → BodyDone → Type 0
    Done-body b d = Stands d.progress → Grows b.progress d.progress × AreTyped q (with-locals (local_types d.progress.locals)) (length b.progress.locals) (length d.progress.locals) × ((s : CoreStmt) → d.body ≡ Some s → (texts : List (List ℕ)) → every_expression (stands_once texts) s ≡ true
        → BodyFits (with_texts q texts) (with-locals (local_types d.progress.locals)) superclass s)

    abbrev Whichever : Type 0
    Whichever = (locals : List Ty) × (met : List Met) × BodyStands p k q (with-locals locals) first met

    abbrev Walked : Begun → Done → Type 0
    Walked b d = (i : Whichever) → Block p k q (with-locals i.0) first i.1 (returning_of m.result) represents has i.2 (returns-it p k q c round id.name m i.0 few) no_targets b.scope b.progress d

    walked : (b : Begun) (ss : Statements) → BodyIsWritten ss → Gives (Walked b) (statements p k (returning_of m.result) no_targets b.scope b.progress ss)
    walked b ss lengths = for-each (λ (i : Whichever) d. Block p k q (with-locals i.0) first i.1 (returning_of m.result) represents has i.2 (returns-it p k q c round id.name m i.0 few) no_targets b.scope b.progress d) (statements p k (returning_of m.result) no_targets b.scope b.progress ss)
        (λ i. walk-block p k q (with-locals i.0) first i.1 (returning_of m.result) represents has i.2 (returns-it p k q c round id.name m i.0 few) no_targets b.scope b.progress ss lengths)

    all-known : (d : Done) → Knows (with-locals (local_types d.progress.locals)) d.progress.met d.progress
    all-known d = record { locals = own-locals (with-locals (local_types d.progress.locals)) d.progress refl; met = λ x i. i }

    finished : (b : Begun) (d : Done) → ParametersStand p k q c round first nothing_met m.parameters b → Walked b d → Stands d.progress → DoneFits p k q (with-locals (local_types d.progress.locals)) first no_targets d
    finished b d begun w known =
        let own = local_types d.progress.locals in
        let done = w (own, d.progress.met, known) in
        done.1 (all-known d) (begun.scope (with-locals own) first d.progress.met (before done.0.grows (all-known d)) sound (in-body own))

    typed : (b : Begun) (d : Done) → ParametersStand p k q c round first nothing_met m.parameters b → Walked b d → Stands d.progress → AreTyped q (with-locals (local_types d.progress.locals)) (length b.progress.locals) (length d.progress.locals)
    typed b d begun w known =
        let own = local_types d.progress.locals in
        let done = w (own, d.progress.met, known) in
        done.0.typed (all-known d) (begun.scope (with-locals own) first d.progress.met (before done.0.grows (all-known d)) sound (in-body own))

    block-code : (b : Begun) (opening closing : Span) (d : Done) → ParametersStand p k q c round first nothing_met m.parameters b → Walked b d → Done-body b (record { body = Some (block_of opening closing d); progress = d.progress })
    block-code b opening closing d begun w known =
        let own = local_types d.progress.locals in (
          (w (own, d.progress.met, known)).0.grows,
          typed b d begun w known,
          λ s e texts h. subst (BodyFits (with_texts q texts) (with-locals own) superclass) (same-some (block_of opening closing d) s e)
              (a_block (block-fits p k q (with-locals own) first d.progress.met (returning_of m.result) represents has known (returns-it p k q c round id.name m own few) no_targets opening closing d
              (finished b d begun w known) texts (subst (λ (x : CoreStmt). every_expression (stands_once texts) x ≡ true) (sym (same-some (block_of opening closing d) s e)) h))),
        )

    body-fits : (b : Begun) (block : MaybeBlock) → BlockIsWritten block → ParametersStand p k q c round first nothing_met m.parameters b → Gives (Done-body b) (body_if p k c round (returning_of m.result) b block)
    body-fits b tree.no_block lengths begun = λ known. (grows-not b.progress, λ n t from to e. absurd (omega (arith, from, to)), λ s e texts h. absurd (none-some s e))
    body-fits b (tree.a_block opening ss closing) lengths begun = behind (Walked b) (Done-body b) (statements p k (returning_of m.result) no_targets b.scope b.progress ss) (λ d. gives (record { body = Some (block_of opening closing d); progress = d.progress }))
        (walked b ss lengths) (λ d w. block-code b opening closing d begun w)

    abbrev Coded : MembersDone → Type 0
    Coded d = MethodsStand p k q c round first d → Finished d

    coded : (fs : List FormalParameter) (block : MaybeBlock) → BlockIsWritten block → length fs ≡ length m.parameters → Gives Coded (method p k c round id fs block (Some m))
    coded fs block lengths e = behind (ParametersStand p k q c round first nothing_met m.parameters) Coded (parameters p k c round first nothing_met fs m.parameters) _ (parameters-stand p k q c round first nothing_met fs m.parameters e) (λ b begun.
        behind (Done-body b) Coded (body_if p k c round (returning_of m.result) b block) (λ d. gives (method_code p k c round id m d)) (body-fits b block lengths begun)
        (λ d f known. let done = f (known _ at_first) in only-method (method_code p k c round id m d) _ refl refl (one-method id.name id.span m first b d.progress d.body begun done.0 sound done.1 done.2)))

    pub method-fits : (fs : List FormalParameter) (block : MaybeBlock) → BlockIsWritten block → length fs ≡ length m.parameters → ((d : MembersDone) → method p k c round id fs block (Some m) ≡ gives d → MethodsStand p k q c round first d)
        → Gives Finished (method p k c round id fs block (Some m))
    method-fits fs block lengths e known = by-given (MethodsStand p k q c round first) Finished (method p k c round id fs block (Some m)) known (coded fs block lengths e)
