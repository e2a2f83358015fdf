-- The methods that a class has: each is declared by a class above it, with types above those that the class sees (JLS 8.4.8).
use Rattle.std.proofs.Common.{◌≡◌, ℕ, zero, suc, ◌+◌, List, [], ◌∷◌, ◌++◌, map, Some, refl, sym, ap, ◌∙◌, subst, inl, inr, arith, add-zero}
use Rattle.std.specs.Prelude.{Bool, true, false, not, ◌&&◌, ◌||◌, ◌⊎◌, if◌then◌else◌, filter, slice_get}
use Rattle.std.specs.List.{Contains}
use Rattle.je_core.specs.Core.{CoreProgram}
use Rattle.je_classes.specs.Hierarchy.{object_class}
use Rattle.je_classes.specs.Members.{In, first, further}
use Rattle.je_classes.specs.Subtypes.{class_type, is_subtype}
use Rattle.je_classes.proofs.Lists.{bool_cases}
use Rattle.je_classes.proofs.Sets.{by_either, filter-in, in-either}
use Rattle.je_scopes.specs.SourceTypes.{SourceType, SourceTypes, no_source_types, plain, of_class, of_variable}
use Rattle.source_types.specs.Erasure.{class_numbered, erased}
use Rattle.source_types.specs.Heads.{ClassHead, object_type, supers_of}
use Rattle.source_types.specs.Substitution.{substituted}
use Rattle.je_typing.specs.Castable.{is_interface}
use Rattle.declarations.specs.Declarations.{DeclaredMethod}
use Rattle.overriding.specs.Methods.{Method, abstract_in, has_method, has_within, inherited_by, inherited_from, is_empty, is_inheritable, is_overridden, joined, joined_over, methods_in, object_for, own, own_from, own_method, put_in, seen_in}
use Rattle.name_typing.specs.Program.{Program}
use Rattle.fitting_laws.specs.Methods.{HasMethods, IsResult, MethodIsSound, a_result, no_result}
use Rattle.fitting_laws.specs.Represented.{Represents}
use Rattle.fitting_laws.specs.Sound.{AreSound, IsSound, SameOrBelow, no_arguments, sound_class}
use Rattle.fitting_laws.proofs.Accesses.{directly-below, object-below}
use Rattle.fitting_laws.proofs.Below.{below-below, same-or-below}
use Rattle.fitting_laws.proofs.Instances.{class-itself, erased-class-type}
use Rattle.fitting_laws.proofs.Lists.{contains-in, in-cases, in-one, mapped}
use Rattle.fitting_laws.proofs.Sound.{all-wider, substituted-put}

-- ---- what a method is among those of a class

pub record Own (c at : ℕ) (ms : List DeclaredMethod) (m : Method) : Type 0 where
  pub place : ℕ
  pub declared : DeclaredMethod
  pub is : m ≡ own_method c (at + place) declared
  pub there : slice_get ms place ≡ Some declared
  pub plain : declared.is_constructor ≡ false

pub own-from : (c at : ℕ) (ms : List DeclaredMethod) (m : Method) → In (own_from c at ms) m → Own c at ms m
own-from c at [] m q = elim q [ ]
own-from c at (d ∷ ms) m q = bool_cases (λ b. d.is_constructor ≡ b → In (if b then own_from c (suc at) ms else own_method c at d ∷ own_from c (suc at) ms) m → Own c at (d ∷ ms) m) (d.is_constructor)
    (λ _ e r. later (own-from c (suc at) ms m r))
    (λ _ e r. here e r (λ x. later (own-from c (suc at) ms m x))) refl q
  where
    later : Own c (suc at) ms m → Own c at (d ∷ ms) m
    later o = record { place = suc o.place; declared = o.declared; is = o.is ∙ ap (λ (i : ℕ). own_method c i o.declared) (omega arith); there = o.there; plain = o.plain }

    here : d.is_constructor ≡ false → In (own_method c at d ∷ own_from c (suc at) ms) m → (In (own_from c (suc at) ms) m → Own c at (d ∷ ms) m) → Own c at (d ∷ ms) m
    here e r f = by_either (λ is. record { place = 0; declared = d; is = is ∙ ap (λ (i : ℕ). own_method c i d) (sym (add-zero at)); there = refl; plain = e }) f
        (in-cases (own_method c at d) m (own_from c (suc at) ms) r)

joined-in : (ms ns : List Method) (m : Method) → In (joined ms ns) m → In ms m ⊎ In ns m
joined-in ms [] m q = inl q
joined-in ms (n ∷ ns) m q = by_either
    (λ r. added (has_method ms n) r)
    (λ r. inr (further r)) (joined-in (if has_method ms n then ms else ms ++ n ∷ []) ns m q)
  where
    only : In (n ∷ []) m → In ms m ⊎ In (n ∷ ns) m
    only r = inr (subst (λ (k : Method). In (n ∷ ns) k) (sym (in-one n m r)) first)

    added : (b : Bool) → In (if b then ms else ms ++ n ∷ []) m → In ms m ⊎ In (n ∷ ns) m
    added true r = inl r
    added false r = by_either (λ x. inl x) only (in-either ms r)

pub record Among (f : SourceType → List Method) (ts : List SourceType) (m : Method) : Type 0 where
  pub type : SourceType
  pub there : In ts type
  pub has : In (f type) m

pub joined-over-in : (f : SourceType → List Method) (ms : List Method) (ts : List SourceType) (m : Method) → In (joined_over f ms ts) m → In ms m ⊎ Among f ts m
joined-over-in f ms [] m q = inl q
joined-over-in f ms (t ∷ ts) m q = by_either
    (λ r. by_either (λ x. inl x) (λ x. inr (record { type = t; there = first; has = x })) (joined-in ms (f t) m r))
    (λ (a : Among f ts m). inr (record { type = a.type; there = further a.there; has = a.has })) (joined-over-in f (joined ms (f t)) ts m q)

-- a method as a class type sees it
pub record SeenIn (f : ℕ → List Method) (t : SourceType) (m : Method) : Type 0 where
  pub class : ℕ
  pub arguments : SourceTypes
  pub dims : ℕ
  pub is : t ≡ of_class class arguments dims
  pub from : Method
  pub there : In (f class) from
  pub seen : m ≡ put_in (of_class class arguments dims) from

pub seen-in : (f : ℕ → List Method) (t : SourceType) (m : Method) → In (seen_in f t) m → SeenIn f t m
seen-in f (of_class c args n) m q =
    let r = mapped (put_in (of_class c args n)) (filter is_inheritable (f c)) m q in
    record { class = c; arguments = args; dims = n; is = refl; from = r.from; there = (filter-in is_inheritable (f c) r.from r.there).there; seen = sym r.is }
seen-in f (of_variable c at n) m q = elim q [ ]
seen-in f (plain b n) m q = elim q [ ]

-- ---- types that stand for others

pub data StandFor (q : CoreProgram) (heads : List ClassHead) : List SourceType → List SourceType → Type 0 where
  no_types : StandFor q heads [] []
  more_types : {u t : SourceType} {us ts : List SourceType} → SameOrBelow q (erased heads u) (erased heads t) → StandFor q heads us ts → StandFor q heads (u ∷ us) (t ∷ ts)

module _ (p : Program) (q : CoreProgram) (represents : Represents p q) (has : HasMethods p q) where
  -- a method that a class sees, and its declaration
  pub record Seen (c : ℕ) (m : Method) : Type 0 where
    pub below : is_subtype q (class_type (class_numbered c)) (class_type (class_numbered m.holder)) ≡ true
    pub there : slice_get (methods_in (slice_get p.classes m.holder)) m.place ≡ Some m.declared
    pub plain : m.declared.is_constructor ≡ false
    pub parameters : StandFor q p.heads m.parameters m.declared.parameters
    pub result : SameOrBelow q (erased p.heads m.result) (erased p.heads m.declared.result)
    pub concrete : m.is_abstract ≡ false → m.declared.flags.is_abstract ≡ false

  themselves : (ts : List SourceType) → StandFor q p.heads ts ts
  themselves [] = no_types
  themselves (t ∷ ts) = more_types (inl refl) (themselves ts)

  -- with arguments put in
  pub put-for : (d : ℕ) (args : SourceTypes) → AreSound q p.heads 255 d 0 args → (us ts : List SourceType) → ((t : SourceType) → In us t → IsSound q p.heads 254 t) → StandFor q p.heads us ts
      → StandFor q p.heads (map (substituted d args) us) ts
  put-for d args given _ _ sound no_types = no_types
  put-for d args given _ _ sound (more_types {u = u} {t = t} {us = us} {ts = ts} h k) =
      more_types (same-or-below q represents.top (erased p.heads (substituted d args u)) (erased p.heads u) (erased p.heads t) (substituted-put q p.heads represents.heads represents.top d args given (sound u first)).below h)
      (put-for d args given us ts (λ v i. sound v (further i)) k)

  pub put-result : (d : ℕ) (args : SourceTypes) → AreSound q p.heads 255 d 0 args → (u : SourceType) → IsResult q p.heads 254 u
      → IsResult q p.heads 255 (substituted d args u) × SameOrBelow q (erased p.heads (substituted d args u)) (erased p.heads u)
  put-result d args given u (a_result s) = let r = substituted-put q p.heads represents.heads represents.top d args given s in (a_result r.sound, r.below)
  put-result d args given _ no_result = (no_result, inl refl)

  own-seen : (c : ℕ) (m : Method) → Own c 0 (methods_in (slice_get p.classes c)) m → Seen c m
  own-seen c m o = subst (Seen c) (sym o.is) (record {
    below = class-itself q (class_numbered c);
    there = ap (slice_get (methods_in (slice_get p.classes c))) (let z : 0 + o.place ≡ o.place = omega arith in z) ∙ o.there;
    plain = o.plain;
    parameters = themselves o.declared.parameters;
    result = inl refl;
    concrete = λ e. e;
  })

  -- a method of a class above, as the one below sees it
  from-above : (c d : ℕ) (args : SourceTypes) (k : Method) → is_subtype q (class_type (class_numbered c)) (class_type (class_numbered d)) ≡ true → AreSound q p.heads 255 d 0 args → MethodIsSound q p.heads k
      → Seen d k → (b : Bool) (n : ℕ) → Seen c (abstract_in b (put_in (of_class d args n) k))
  from-above c d args k below given sound s b n = record {
    below = below-below q represents.top (class_type (class_numbered c)) (class_type (class_numbered d)) (class_type (class_numbered k.holder)) below s.below;
    there = s.there;
    plain = s.plain;
    parameters = put-for d args given k.parameters k.declared.parameters sound.parameters s.parameters;
    result = same-or-below q represents.top (erased p.heads (substituted d args k.result)) (erased p.heads k.result) (erased p.heads k.declared.result) (put-result d args given k.result sound.result).1 s.result;
    concrete = λ e. s.concrete (neither k.is_abstract b e);
  }
    where
      neither : (x y : Bool) → (x || y) ≡ false → x ≡ false
      neither false y e = refl
      neither true y e = absurd cc

  object-there : (b : Bool) (t : SourceType) → In (object_for b) t → t ≡ object_type
  object-there true t q = in-one object_type t q
  object-there false t q = elim q [ ]

  -- a type directly above
  record DirectlyAbove (c : ℕ) (t : SourceType) : Type 0 where
    class : ℕ
    arguments : SourceTypes
    is : t ≡ of_class class arguments 0
    below : is_subtype q (class_type (class_numbered c)) (class_type (class_numbered class)) ≡ true
    given : AreSound q p.heads 255 class 0 arguments

  pub arguments-sound : {c n : ℕ} {args : SourceTypes} → IsSound q p.heads 254 (of_class c args n) → AreSound q p.heads 255 c 0 args
  arguments-sound (sound_class h few given) = all-wider q p.heads given

  from-super : (c : ℕ) (t : SourceType) → Contains (supers_of p.heads c) t → DirectlyAbove c t
  from-super c t h =
      let s = represents.heads.supers c t h in
      record {
        class = s.class;
        arguments = s.arguments;
        is = s.is;
        below = sym (ap (is_subtype q (class_type (class_numbered c))) (ap (erased p.heads) s.is ∙ erased-class-type q p.heads represents.heads s.class s.arguments))
            ∙ directly-below q p.heads represents.heads represents.sound represents.object c t h;
        given = arguments-sound (subst (IsSound q p.heads 254) s.is (represents.sound.supers c t h));
      }

  directly-above : (c : ℕ) (t : SourceType) → In (inherited_from p.heads c) t → DirectlyAbove c t
  directly-above c t h = by_either (λ x. from-super c t (contains-in (supers_of p.heads c) t x))
      (λ x. record { class = object_class.0; arguments = no_source_types; is = object-there (is_interface p.heads c && is_empty (supers_of p.heads c)) t x; below = object-below q p.heads represents.heads represents.sound represents.object c; given = no_arguments })
      (in-either (supers_of p.heads c) h)

  abbrev class_or_zero : SourceType → ℕ
  class_or_zero (of_class c args n) = c
  class_or_zero t = 0

  inherited-seen : (n : ℕ) → ((c : ℕ) (m : Method) → In (has_within p.heads p.classes n c) m → Seen c m) → (c : ℕ) (m : Method)
      → In (inherited_by p.heads p.classes (has_within p.heads p.classes n) c) m → Seen c m
  inherited-seen n h c m i =
      let a = mapped (abstract_in (is_interface p.heads c)) _ m i in
      let kept = (filter-in (λ k. not (is_overridden p.heads (own p.classes c) k)) (joined_over (seen_in (has_within p.heads p.classes n)) [] (inherited_from p.heads c)) a.from a.there).there in
      by_either (λ x. elim x [ ]) (λ (g : Among (seen_in (has_within p.heads p.classes n)) (inherited_from p.heads c) a.from). subst (Seen c) a.is (of a.from (directly-above c g.type g.there) (seen-in (has_within p.heads p.classes n) g.type a.from g.has)))
      (joined-over-in (seen_in (has_within p.heads p.classes n)) [] (inherited_from p.heads c) a.from kept)
    where
      of : (k : Method) {t : SourceType} → DirectlyAbove c t → SeenIn (has_within p.heads p.classes n) t k → Seen c (abstract_in (is_interface p.heads c) k)
      of k d s =
          let same : of_class s.class s.arguments s.dims ≡ of_class d.class d.arguments 0 = sym s.is ∙ d.is in
          let there = subst (λ (e : ℕ). In (has_within p.heads p.classes n e) s.from) (ap class_or_zero same) s.there in
          subst (λ (x : Method). Seen c (abstract_in (is_interface p.heads c) x)) (sym (s.seen ∙ ap (λ (u : SourceType). put_in u s.from) same))
          (from-above c d.class d.arguments s.from d.below d.given (has.sound n d.class s.from there) (h d.class s.from there) (is_interface p.heads c) 0)

  pub within-seen : (n c : ℕ) (m : Method) → In (has_within p.heads p.classes n c) m → Seen c m
  within-seen zero c m q = elim q [ ]
  within-seen (suc n) c m q = by_either
      (λ x. own-seen c m (own-from c 0 (methods_in (slice_get p.classes c)) m x))
      (λ x. inherited-seen n (λ d k r. within-seen n d k r) c m x) (in-either (own p.classes c) q)
