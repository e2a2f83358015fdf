-- What simple names mean fits (JLS 6.5.6.1).
use Rattle.std.proofs.Common.{◌≡◌, ℕ, zero, suc, ◌+◌, List, [], ◌∷◌, Option, Some, None, refl, sym, ap, ◌∙◌, subst, arith, eqb-true}
use Rattle.std.specs.Prelude.{Bool, true, false, ◌||◌, if◌then◌else◌, count_by, is_some, nat_eq}
use Rattle.std.specs.List.{find}
use Rattle.std.specs.Str.{bytes_eq}
use Rattle.std.proofs.lemmas.List.Elements.{All-cons, All-nil}
use Rattle.std.proofs.lemmas.Option.{none-some, same_Some}
use Rattle.je_base.specs.declared.span.NameId.{NameId}
use Rattle.je_base.specs.declared.span.Span.{Span}
use Rattle.je_core.specs.declared.expr.Use.{Use}
use Rattle.je_core.specs.declared.types.Ty.{Ty}
use Rattle.je_core.specs.Core.{Core, CoreProgram, form_of, node, ty_of}
use Rattle.je_core.specs.Core as core
use Rattle.je_classes.specs.Members.{In, Member, Found, first, further, nothing, one, several}
use Rattle.je_classes.specs.Subtypes.{class_type, is_subtype}
use Rattle.je_classes.proofs.Lists.{bool_cases}
use Rattle.je_fitting.specs.Expressions.{Body, Fits, are_there, field_at}
use Rattle.je_fitting.specs.Expressions as fits
use Rattle.je_fitting.proofs.Booleans.{two}
use Rattle.je_scopes.specs.Headers.{is_guest, same_name, site_at}
use Rattle.je_scopes.specs.SourceTypes.{SourceType, plain, of_class, of_variable}
use Rattle.plain_programs.specs.Nodes.{every}
use Rattle.source_types.specs.Erasure.{class_numbered, erased}
use Rattle.source_types.specs.Heads.{ClassHead}
use Rattle.source_types.specs.Supertypes.{supertypes}
use Rattle.declarations.specs.Declarations.{DeclaredField}
use Rattle.header_typing.specs.Supers.{own_type}
use Rattle.je_typing.specs.declared.fault.TypeRule.TheVariants.{NotFinalCapture, StaticContext, UnknownName}
use Rattle.je_typing.specs.Conversions.{span_of, token_of}
use Rattle.je_typing.specs.Judged.{bind, check, gives, need}
use Rattle.je_typing.specs.Typed.{TypedNode}
use Rattle.name_typing.specs.Fields.{field_at as declared_at, find_field, only_of_class, put_in, type_seen}
use Rattle.name_typing.specs.Instances.{has_instance}
use Rattle.name_typing.specs.Program.{Constant, Frame, LocalVariable, Place, Program, frames}
use Rattle.name_typing.specs.Variables.{Variable, a_field, a_local, class_of_frame, constant_form, constant_or, field_form, field_found, in_frame, local_named, local_or, no_variable, or_further, outwards, taken, typed_captured, typed_field, typed_local, unclear, uses_for, value_of, variable_named, variable_node}
use Rattle.typing_laws.specs.Fitting.{Gives, stands_once, with_texts}
use Rattle.typing_laws.proofs.Nodes.{erased-plain}
use Rattle.typing_laws.proofs.Texts.{string-erased}
use Rattle.fitting_laws.specs.Represented.{IsConstantOf, IsKept, IsReached, IsThere, LocalIsSound, NameIsReached, Represents, StandRound, StandsAt, a_constant, a_text, a_value, inside, outermost, reached}
use Rattle.fitting_laws.specs.Sound.{IsSound, IsType, a_type}
use Rattle.fitting_laws.specs.Values.{FitsBelow, IsValue}
use Rattle.fitting_laws.proofs.Fields.{named-field-fits, named-static-fits}
use Rattle.fitting_laws.proofs.Instances.{class-itself, field-fits, this-fits}
use Rattle.fitting_laws.proofs.Taken.{taken-by, taken-fits}

-- ---- what a name means, by the bodies round a place

-- the body so many classes outwards
pub data FrameAt : List Frame → ℕ → Frame → Type 0 where
  at_first : {f : Frame} {fs : List Frame} → FrameAt (f ∷ fs) zero f
  at_next : {f g : Frame} {fs : List Frame} {n : ℕ} → FrameAt fs n f → FrameAt (g ∷ fs) (suc n) f

pub frame-in : {fs : List Frame} {n : ℕ} {f : Frame} → FrameAt fs n f → In fs f
frame-in at_first = first
frame-in (at_next q) = further (frame-in q)

pub frame-class : {fs : List Frame} {n : ℕ} {f : Frame} → FrameAt fs n f → class_of_frame fs n ≡ f.class
frame-class at_first = refl
frame-class (at_next q) = frame-class q

data Means (p : Program) (x : NameId) : List Frame → ℕ → Variable → Type 0 where
  means_none : {fs : List Frame} {from : ℕ} → Means p x fs from no_variable
  means_unclear : {fs : List Frame} {from : ℕ} → Means p x fs from unclear
  means_local : {fs : List Frame} {from i k : ℕ} {f : Frame} {v : LocalVariable} → i ≡ k + from → FrameAt fs k f → In f.locals v → Means p x fs from (a_local i v)
  means_field : {fs : List Frame} {from i k : ℕ} {f : Frame} {m : Member} → i ≡ k + from → FrameAt fs k f → find_field p.heads p.classes (own_type p.heads f.class) x ≡ one m →
      Means p x fs from (a_field i m)

find-in : (test : LocalVariable → Bool) (vs : List LocalVariable) (v : LocalVariable) → find test vs ≡ Some v → In vs v
find-in test [] v e = absurd (none-some v e)
find-in test (u ∷ vs) v e = bool_cases (λ b. (if b then Some u else find test vs) ≡ Some v → In (u ∷ vs) v) (test u)
    (λ _ h. let same : u ≡ v = same_Some u v h in subst (λ (w : LocalVariable). In (u ∷ vs) w) same first) (λ _ h. further (find-in test vs v h)) e

module _ (p : Program) (x : NameId) where
  further-means : (g : Frame) (fs : List Frame) (from : ℕ) (v : Variable) → Means p x fs (suc from) v → Means p x (g ∷ fs) from v
  further-means g fs from _ means_none = means_none
  further-means g fs from _ means_unclear = means_unclear
  further-means g fs from _ (means_local e q r) = means_local (omega (arith, e)) (at_next q) r
  further-means g fs from _ (means_field e q r) = means_field (omega (arith, e)) (at_next q) r

  frame-means : (f : Frame) (fs : List Frame) (from : ℕ) (rest : Variable) → Means p x fs (suc from) rest → Means p x (f ∷ fs) from (or_further (in_frame p from x f) rest)
  frame-means f fs from rest r = by-local (local_named f.locals x) refl
    where
      by-field : (o : Found) → find_field p.heads p.classes (own_type p.heads f.class) x ≡ o → Means p x (f ∷ fs) from (or_further (field_found from o) rest)
      by-field nothing e = further-means f fs from rest r
      by-field several e = means_unclear
      by-field (one m) e = means_field (omega arith) at_first e

      by-local : (o : Option LocalVariable) → local_named f.locals x ≡ o
          → Means p x (f ∷ fs) from (or_further (local_or from o (field_found from (find_field p.heads p.classes (own_type p.heads f.class) x))) rest)
      by-local None e = by-field (find_field p.heads p.classes (own_type p.heads f.class) x) refl
      by-local (Some v) e = means_local (omega arith) at_first (find-in (λ (w : LocalVariable). same_name w.name x) f.locals v e)

  outwards-means : (fs : List Frame) (from : ℕ) → Means p x fs from (outwards p from x fs)
  outwards-means [] from = means_none
  outwards-means (f ∷ fs) from = frame-means f fs from (outwards p (suc from) x fs) (outwards-means fs (suc from))

  named-means : (place : Place) → Means p x (frames place) 0 (variable_named p place x)
  unfolding variable_named
  named-means place = outwards-means (frames place) 0

-- ---- constants

module _ (q : CoreProgram) (body : Body) (heads : List ClassHead) where
  pub constant-fits : (u : SourceType) (k : Constant) (uses : List Use) (ty : Ty) (span at : Span) → IsConstantOf u k → ty ≡ erased heads u → are_there q uses → IsType q heads u
      → IsValue q body heads (record { node = node (constant_form uses k) ty span at; type = u })
  constant-fits _ _ uses ty span at (a_value {b = b} {v = v} e) is there type = record {
    fits = record { node = λ texts h. fits.const (e ∙ ap (λ (x : Ty). Some x) (sym (is ∙ erased-plain heads b))) there; uses = there; type = is };
    type = type;
  }
  constant-fits _ _ uses ty span at (a_text {units = units}) is there type = record {
    fits = record { node = text-node; uses = there; type = is };
    type = type;
  }
    where
      text-node : (texts : List (List ℕ)) → every (stands_once texts) (node (core.Text units uses) ty span at) ≡ true → Fits (with_texts q texts) body (node (core.Text units uses) ty span at)
      text-node texts h = subst (λ (u : Ty). Fits (with_texts q texts) body (node (core.Text units uses) u span at)) (sym (is ∙ string-erased heads))
          (fits.text (eqb-true (count_by (λ u. bytes_eq u units) texts) 1 (two {a = nat_eq (count_by (λ u. bytes_eq u units) texts) 1} h).0) there)

  pub constant-or-value : (t : TypedNode) (uses : List Use) (k : Option Constant) → ((c : Constant) → k ≡ Some c → IsConstantOf t.type c × (ty_of t.node ≡ erased heads t.type) × are_there q uses × IsType q heads t.type)
      → (k ≡ None → IsValue q body heads t) → IsValue q body heads (constant_or uses t k)
  constant-or-value t uses None c v = v refl
  constant-or-value t uses (Some k) c v = let r = c k refl in constant-fits t.type k uses (ty_of t.node) (span_of t.node) (token_of t.node) r.0 r.1 r.2 r.3

-- a constant of a type is one of it as it is seen, too
seen-constant : (o : Option SourceType) (t : SourceType) (k : Constant) → IsConstantOf t k → IsConstantOf (put_in o t) k
seen-constant None t k c = c
seen-constant (Some (plain b n)) t k c = c
seen-constant (Some (of_variable d at n)) t k c = c
seen-constant (Some (of_class d args n)) _ _ (a_value e) = a_value e
seen-constant (Some (of_class d args n)) _ _ a_text = a_text

-- ---- the node of a variable, and its value

module _ (p : Program) (q : CoreProgram) (body : Body) (place : Place) (represents : Represents p q) (stands : StandsAt p q body place) where
  -- a local of the body
  local-fits : (v : LocalVariable) (at : Span) → In place.here.locals v → IsValue q body p.heads (typed_local p v at)
  local-fits v at i = record {
    fits = record { node = λ texts h. fits.local (stands.locals v i); uses = All-nil _; type = refl };
    type = a_type (stands.sound place.here v first i).type;
  }

  -- a local of an outer body that an instance keeps
  kept-fits : (n : ℕ) (v : LocalVariable) (at : Span) → IsKept p q body place n v → IsSound q p.heads 255 v.type → IsValue q body p.heads (typed_captured p place n v at)
  kept-fits n v at k s =
      let own = this-fits p q body place stands at k.this in
      let n' = field-fits q body _ (class_numbered place.here.class) _ k.field (erased p.heads v.type) at at own.node
      (ap (λ (u : Ty). is_subtype q u (class_type (class_numbered place.here.class))) own.type ∙ class-itself q (class_numbered place.here.class)) k.there k.own k.type in
      record { fits = record { node = n'.node; uses = All-nil _; type = refl }; type = a_type s }

  -- the class so many classes outwards is there
  frame-there : (g : Frame) (fs : List Frame) → IsThere q g.class → StandRound p q g.class fs → (n : ℕ) (f : Frame) → FrameAt (g ∷ fs) n f → IsThere q f.class
  frame-there g fs there round zero f (at_first) = there
  frame-there g _ there (inside {f = h} {fs = fs} next kept round) (suc n) f (at_next r) = frame-there h fs next round n f r
  frame-there g _ there outermost (suc n) f (at_next r) = elim r [ ]

  -- a field of the class so many classes outwards
  field-variable : (x : NameId) (n : ℕ) (m : Member) (f : DeclaredField) (at : Span) → Means p x (frames place) 0 (a_field n m) → declared_at p.classes m ≡ Some f
      → (f.is_static || has_instance n (frames place)) ≡ true → FitsBelow q body p.heads (typed_field p place n m f at)
  field-variable x n m f at (means_field {k = k} {f = g} e r found) there h =
      let at-n : FrameAt (frames place) n g = subst (λ (i : ℕ). FrameAt (frames place) i g) (let z : k ≡ n = omega (arith, e) in z) r in
      let found-n : find_field p.heads p.classes (own_type p.heads (class_of_frame (frames place) n)) x ≡ one m =
      subst (λ (c : ℕ). find_field p.heads p.classes (own_type p.heads c) x ≡ one m) (sym (frame-class at-n)) found in
      by found-n (subst (λ (c : ℕ). IsThere q c) (sym (frame-class at-n)) (frame-there place.here place.round stands.there stands.round n g at-n)) f.is_static refl h
    where
      by : find_field p.heads p.classes (own_type p.heads (class_of_frame (frames place) n)) x ≡ one m → IsThere q (class_of_frame (frames place) n)
          → (b : Bool) → f.is_static ≡ b → (b || has_instance n (frames place)) ≡ true
          → FitsBelow q body p.heads (record { node = node (field_form p place n m b at) (erased p.heads f.ty) at at; type = type_seen p.heads (own_type p.heads (class_of_frame (frames place) n)) m f })
      by found class-there true s h = named-static-fits p q body represents place stands n x m f at found there class-there s
      by found class-there false s h = named-field-fits p q body represents place stands n x m f at found there h s

  -- what a variable comes to
  module _ (x : NameId) (at : Span) (reach : NameIsReached p q body place x) where
    -- a local, a field, or a constant of an outer body, in whose place no field is
    pub data Named : Variable → TypedNode → Type 0 where
      named_local : {n : ℕ} {v : LocalVariable} {t : TypedNode} → LocalIsSound p q v → t.type ≡ v.type → IsValue q body p.heads t → Named (a_local n v) t
      named_field : {n : ℕ} {m : Member} {f : DeclaredField} {t : TypedNode} → declared_at p.classes m ≡ Some f → t.type ≡ type_seen p.heads (own_type p.heads (class_of_frame (frames place) n)) m f →
          FitsBelow q body p.heads t → Named (a_field n m) t
      named_constant : {n : ℕ} {v : LocalVariable} → is_some v.constant ≡ true → declared_at p.classes (record { class = class_numbered place.here.class; at = p.captured place.here.class (class_of_frame (frames place) (suc n)) v.number }) ≡ None →
          LocalIsSound p q v → Named (a_local (suc n) v) (typed_captured p place (suc n) v at)

    local-sound : (n : ℕ) (v : LocalVariable) → Means p x (frames place) 0 (a_local n v) → LocalIsSound p q v
    local-sound n v (means_local {f = f} e r i) = stands.sound f v (frame-in r) i

    here-local : (v : LocalVariable) → Means p x (frames place) 0 (a_local 0 v) → In place.here.locals v
    here-local v (means_local {k = zero} e at_first i) = i
    here-local v (means_local {k = suc k} e r i) = absurd (let z : 0 ≡ suc k + 0 = e in omega (arith, z))

    node-named : (v : Variable) → variable_named p place x ≡ v → Means p x (frames place) 0 v → Gives (Named v) (variable_node p place at v)
    unfolding variable_node bind check need
    node-named no_variable e r = tt
    node-named unclear e r = tt
    node-named (a_local zero v) e r = named_local (local-sound 0 v r) refl (local-fits v at (here-local v r))
    node-named (a_local (suc n) v) e r = by v.is_final
      where
        outer : IsReached p q body place (suc n) v → Named (a_local (suc n) v) (typed_captured p place (suc n) v at)
        outer (reached k) = named_local (local-sound (suc n) v r) refl (kept-fits (suc n) v at k (local-sound (suc n) v r).type)
        outer (a_constant k none) = named_constant k none (local-sound (suc n) v r)

        by : (b : Bool) → Gives (Named (a_local (suc n) v)) (bind (check NotFinalCapture at b) (λ u. gives (typed_captured p place (suc n) v at)))
        by true = outer (reach n v e)
        by false = tt
    node-named (a_field n m) e r = by (declared_at p.classes m) refl
      where
        further : (f : DeclaredField) → declared_at p.classes m ≡ Some f → (b : Bool) → (f.is_static || has_instance n (frames place)) ≡ b
            → Gives (Named (a_field n m)) (bind (check StaticContext at b) (λ u. gives (typed_field p place n m f at)))
        further f there true h = named_field there refl (field-variable x n m f at r there h)
        further f there false h = tt

        by : (o : Option DeclaredField) → declared_at p.classes m ≡ o
            → Gives (Named (a_field n m)) (bind (need UnknownName at o) (λ f. bind (check StaticContext at (f.is_static || has_instance n (frames place))) (λ u. gives (typed_field p place n m f at))))
        by None there = tt
        by (Some f) there = further f there (f.is_static || has_instance n (frames place)) refl

    pub named : Gives (Named (variable_named p place x)) (variable_node p place at (variable_named p place x))
    named = node-named (variable_named p place x) refl (named-means p x place)

    -- its value
    pub value-named : (v : Variable) (t : TypedNode) → Named v t → IsValue q body p.heads (value_of p at v t)
    value-named (a_local n v) t (named_local s is value) = constant-or-value q body p.heads t [] v.constant
        (λ c e. (subst (λ (u : SourceType). IsConstantOf u c) (sym is) (s.constant c e), value.fits.type, All-nil _, value.type)) (λ e. value)
    value-named (a_local (suc n) v) _ (named_constant k none s) = constant-or-value q body p.heads (typed_captured p place (suc n) v at) [] v.constant
        (λ c e. (s.constant c e, refl, All-nil _, a_type s.type)) (λ e. absurd (let no : false ≡ true = ap is_some (sym e) ∙ k in cc))
    value-named (a_field n m) t (named_field {f = f} there is below) =
        let value = taken-fits q body p.heads represents.heads t below in
        constant-or-value q body p.heads (taken p.heads t) (uses_for p m at) (p.constants m)
        (λ c e. (constant-of c (represents.constants m f c there e), value.fits.type, used (is_guest (site_at p.source.sites m.class.0).written), value.type)) (λ e. value)
      where
        constant-of : (c : Constant) → IsConstantOf f.ty c → IsConstantOf (taken p.heads t).type c
        constant-of c k = subst (λ (u : SourceType). IsConstantOf u c) (sym (taken-by q body p.heads (λ u. u.type ≡ t.type) t (λ e. refl) (λ e. refl)))
            (subst (λ (u : SourceType). IsConstantOf u c) (sym is) (seen-constant (only_of_class m.class.0 (supertypes p.heads (own_type p.heads (class_of_frame (frames place) n)))) f.ty c k))

        used : (b : Bool) → are_there q (if b then [] else record { class = m.class; field = m.at; span = at } ∷ [])
        used true = All-nil _
        used false = All-cons (λ (u : Use). is_some (field_at q u.class u.field) ≡ true) (record { class = m.class; field = m.at; span = at }) [] (ap is_some (represents.fields m f there).there) (All-nil _)
    value-named no_variable t k = elim k [ ]
    value-named unclear t k = elim k [ ]
