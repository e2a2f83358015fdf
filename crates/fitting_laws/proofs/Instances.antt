-- `this` and the instances round it fit, as do their types.
use Rattle.std.proofs.Common.{◌≡◌, ℕ, zero, suc, ◌+◌, List, [], ◌∷◌, ◌++◌, length, Some, refl, sym, ap, ◌∙◌, subst, arith}
use Rattle.std.specs.Prelude.{true, false, is_some}
use Rattle.je_base.specs.declared.span.Span.{Span}
use Rattle.je_core.specs.declared.types.Base.{Base}
use Rattle.je_core.specs.declared.types.Base.TheVariants as base
use Rattle.je_core.specs.declared.types.ClassId.{ClassId}
use Rattle.je_core.specs.declared.types.Ty.{Ty}
use Rattle.je_core.specs.Core.{Core, CoreField, CoreProgram, node, ty_of}
use Rattle.je_core.specs.Core as core
use Rattle.je_classes.specs.Hierarchy.{Below, class_at, is_below, object_class, same_class}
use Rattle.je_classes.specs.Subtypes.{class_type, is_subtype}
use Rattle.je_classes.proofs.Below.{below-from, below-itself}
use Rattle.je_fitting.specs.Expressions.{Body, Fits, are_there, field_at}
use Rattle.je_fitting.specs.Expressions as fits
use Rattle.je_fitting.specs.Types.{is_there}
use Rattle.je_fitting.proofs.Booleans.{two}
use Rattle.je_scopes.specs.SourceTypes.{SourceType, SourceTypes, of_class, of_variable, source_types}
use Rattle.plain_programs.specs.Nodes.{every}
use Rattle.source_types.specs.Erasure.{class_numbered, erased}
use Rattle.source_types.specs.Heads.{ClassHead, bounds_in, head_at}
use Rattle.header_typing.specs.Supers.{own_type, variables_of}
use Rattle.name_typing.specs.Instances.{has_instance, instance_node, is_instance, outwards_from, this_node, ty_of_class}
use Rattle.name_typing.specs.Program.{Frame, Place, Program, frames}
use Rattle.name_typing.specs.Variables.{class_of_frame}
use Rattle.typing_laws.specs.Correspondence.{HasHeads}
use Rattle.typing_laws.specs.Fitting.{stands_once, with_texts}
use Rattle.typing_laws.proofs.Erased.{is_class_base}
use Rattle.je_typing.specs.Constants.{uses_of}
use Rattle.std.proofs.lemmas.List.Elements.{All-nil}
use Rattle.typing_laws.proofs.Subtypes.{class-base, erased_base, or-right, parts, variable-base}
use Rattle.fitting_laws.specs.Represented.{Represents, StandRound, StandsAt, inside}
use Rattle.fitting_laws.specs.Sound.{AreSound, HeadsAreSound, IsSound, a_type, more_arguments, no_arguments, sound_class, sound_variable}
use Rattle.fitting_laws.specs.Values.{IsValue}
use Rattle.fitting_laws.proofs.Below.{subtype-texts}
use Rattle.fitting_laws.proofs.Sound.{sound-variable}

-- ---- classes

module _ (p : CoreProgram) where
  pub class-below : (c d : ClassId) → Below p c d → is_subtype p (class_type c) (class_type d) ≡ true
  unfolding is_subtype
  class-below c d r = or-right (same_class d object_class) (is_below p c d) (below-from p r)

  pub class-itself : (c : ClassId) → is_subtype p (class_type c) (class_type c) ≡ true
  unfolding is_subtype
  class-itself c = or-right (same_class c object_class) (is_below p c c) (below-itself p c)

-- ---- the class with its own variables as arguments

abbrev pub at-dims : Base → ℕ → Ty
at-dims b n = record { base = b; dims = n }

module _ (p : CoreProgram) (heads : List ClassHead) (known : HasHeads p heads) where
  pub erased-class-type : (c : ℕ) (args : SourceTypes) → erased heads (of_class c args 0) ≡ class_type (class_numbered c)
  erased-class-type c args = parts heads known.bounds (of_class c args 0) (omega arith) ∙ ap (λ (b : Base). at-dims b 0) (class-base heads c args 0)

module _ (p : CoreProgram) (heads : List ClassHead) (known : HasHeads p heads) (sound : HeadsAreSound p heads) where
  class-reference : (b : Base) → is_class_base b ≡ true → is_subtype p (at-dims b 0) (at-dims b 0) ≡ true
  class-reference (base.Class c) h = class-itself p c
  class-reference base.Bool h = absurd cc
  class-reference base.Byte h = absurd cc
  class-reference base.Short h = absurd cc
  class-reference base.Char h = absurd cc
  class-reference base.Int h = absurd cc
  class-reference base.Long h = absurd cc
  class-reference base.Null h = absurd cc
  class-reference base.Void h = absurd cc

  variable-itself : (c at : ℕ) → is_subtype p (erased heads (of_variable c at 0)) (erased heads (of_variable c at 0)) ≡ true
  variable-itself c at =
      ap (λ (u : Ty). is_subtype p u u) (parts heads known.bounds (of_variable c at 0) (omega arith))
      ∙ class-reference (erased_base heads (of_variable c at 0)) (variable-base p heads known c at 0)

  pub variable-there : (c at : ℕ) → is_there p (erased heads (of_variable c at 0)) ≡ true
  variable-there c at = ap (is_there p) (known.variables c at) ∙ (two (sound-variable p heads known (omega arith) (sound.bounds c at))).0

  -- so many variables from one on
  abbrev variables-from : ℕ → ℕ → ℕ → List SourceType
  variables-from c at zero = []
  variables-from c at (suc n) = of_variable c at 0 ∷ variables-from c (suc at) n

  one-more : (c at n : ℕ) → variables-from c at n ++ of_variable c (at + n) 0 ∷ [] ≡ variables-from c at (suc n)
  one-more c at zero = ap (λ (i : ℕ). of_variable c i 0 ∷ []) (omega arith)
  one-more c at (suc n) = ap (λ (ts : List SourceType). of_variable c at 0 ∷ ts) (ap (λ (i : ℕ). variables-from c (suc at) n ++ of_variable c i 0 ∷ []) (omega arith) ∙ one-more c (suc at) n)

  variables-are : (c n : ℕ) → variables_of c n ≡ variables-from c 0 n
  variables-are c zero = refl
  variables-are c (suc n) =
      ap (λ (ts : List SourceType). ts ++ of_variable c n 0 ∷ []) (variables-are c n)
      ∙ ap (λ (i : ℕ). variables-from c 0 n ++ of_variable c i 0 ∷ []) (omega arith)
      ∙ one-more c 0 n

  from-sound : (c at n : ℕ) → AreSound p heads 255 c at (source_types (variables-from c at n))
  from-sound c at zero = no_arguments
  from-sound c at (suc n) = more_arguments (sound_variable (variable-there c at) (omega arith)) (variable-itself c at) (from-sound c (suc at) n)

  pub own-sound : (c : ℕ) → is_some (class_at p (class_numbered c)) ≡ true → IsSound p heads 255 (own_type heads c)
  own-sound c there = sound_class there (omega arith)
      (subst (λ (ts : List SourceType). AreSound p heads 255 c 0 (source_types ts)) (sym (variables-are c (length (bounds_in (head_at heads c))))) (from-sound c 0 (length (bounds_in (head_at heads c)))))

-- ---- nodes

module _ (q : CoreProgram) (body : Body) where
  -- a node that fits, of a type
  pub record FitsWith (n : Core) (t : Ty) : Type 0 where
    pub node : (texts : List (List ℕ)) → every (stands_once texts) n ≡ true → Fits (with_texts q texts) body n
    pub uses : are_there q (uses_of n)
    pub type : ty_of n ≡ t

  -- a field of a node
  pub field-fits : (o : Core) (c : ClassId) (at : ℕ) (f : CoreField) (t : Ty) (span token : Span)
      → ((texts : List (List ℕ)) → every (stands_once texts) o ≡ true → Fits (with_texts q texts) body o)
      → is_subtype q (ty_of o) (class_type c) ≡ true → field_at q c at ≡ Some f → f.is_static ≡ false → f.ty ≡ t
      → FitsWith (node (core.Field o c at) t span token) t
  field-fits o c at f t span token fit below there own e = record {
    node = λ texts h. subst (λ (u : Ty). Fits (with_texts q texts) body (node (core.Field o c at) u span token)) e
        (fits.field (fit texts h) (subtype-texts q texts (ty_of o) (class_type c) ∙ below) there own);
    uses = All-nil _;
    type = refl;
  }

module _ (p : Program) (q : CoreProgram) (body : Body) (place : Place) (stands : StandsAt p q body place) where
  pub this-fits : (at : Span) → body.is_static ≡ false → FitsWith q body (this_node place at) (ty_of_class place.here.class)
  this-fits at own = record {
    node = λ texts h. subst (λ (c : ClassId). Fits (with_texts q texts) body (node core.This (class_type c) at at)) stands.class (fits.this own);
    uses = All-nil _;
    type = refl;
  }

  outwards-fits : (at : Span) (n : ℕ) (object : Core) (g : Frame) (fs : List Frame) → FitsWith q body object (ty_of_class g.class) → StandRound p q g.class fs → has_instance n (g ∷ fs) ≡ true
      → FitsWith q body (outwards_from p at object g.class n fs) (ty_of_class (class_of_frame (g ∷ fs) n))
  outwards-fits at zero object g fs fit round h = fit
  outwards-fits at (suc n) object g [] fit round h = let none : false ≡ true = (two {a = is_instance g.context} h).1 in absurd cc
  outwards-fits at (suc n) object g (f ∷ fs) fit (inside there kept round) h =
      let further = (two {a = is_instance g.context} h).1 in
      let outer = kept (first-instance n f fs further) in
      outwards-fits at n (node (core.Field object (class_numbered g.class) (p.outer g.class)) (ty_of_class f.class) at at) f fs
      (field-fits q body object (class_numbered g.class) (p.outer g.class) outer.field (ty_of_class f.class) at at fit.node
      (ap (λ (u : Ty). is_subtype q u (class_type (class_numbered g.class))) fit.type ∙ class-itself q (class_numbered g.class)) outer.there outer.own outer.type)
      round further
    where
      first-instance : (n : ℕ) (f : Frame) (fs : List Frame) → has_instance n (f ∷ fs) ≡ true → is_instance f.context ≡ true
      first-instance zero f fs h = h
      first-instance (suc n) f fs h = (two {a = is_instance f.context} h).0

  here-instance : (n : ℕ) → has_instance n (frames place) ≡ true → is_instance place.here.context ≡ true
  here-instance zero h = h
  here-instance (suc n) h = (two {a = is_instance place.here.context} h).0

  pub instance-fits : (at : Span) (n : ℕ) → has_instance n (frames place) ≡ true → FitsWith q body (instance_node p place n at) (ty_of_class (class_of_frame (frames place) n))
  instance-fits at zero h = this-fits at (stands.this h)
  instance-fits at (suc n) h = outwards-fits at (suc n) (this_node place at) place.here place.round (this-fits at (stands.this (here-instance (suc n) h))) stands.round h

  -- the class so many classes outwards is there
  round-there : (n : ℕ) (g : Frame) (fs : List Frame) → is_some (class_at q (class_numbered g.class)) ≡ true → StandRound p q g.class fs → has_instance n (g ∷ fs) ≡ true
      → is_some (class_at q (class_numbered (class_of_frame (g ∷ fs) n))) ≡ true
  round-there zero g fs there round h = there
  round-there (suc n) g [] there round h = let none : false ≡ true = (two {a = is_instance g.context} h).1 in absurd cc
  round-there (suc n) g (f ∷ fs) there (inside next kept round) h = round-there n f fs next round (two {a = is_instance g.context} h).1

  module _ (represents : Represents p q) where
    -- as a value of the class with its own variables
    pub own-value : (n : ℕ) (o : Core) → is_some (class_at q (class_numbered (class_of_frame (frames place) n))) ≡ true
        → FitsWith q body o (ty_of_class (class_of_frame (frames place) n)) → IsValue q body p.heads (record { node = o; type = own_type p.heads (class_of_frame (frames place) n) })
    own-value n o there fit = record {
      fits = record { node = fit.node; uses = fit.uses; type = fit.type ∙ sym (erased-class-type q p.heads represents.heads (class_of_frame (frames place) n) _) };
      type = a_type (own-sound q p.heads represents.heads represents.sound (class_of_frame (frames place) n) there);
    }

    -- the instance so many classes outwards
    pub outer-value : (at : Span) (n : ℕ) → has_instance n (frames place) ≡ true → IsValue q body p.heads (record { node = instance_node p place n at; type = own_type p.heads (class_of_frame (frames place) n) })
    outer-value at n h = own-value n (instance_node p place n at) (round-there n place.here place.round stands.there stands.round h) (instance-fits at n h)
