-- Sound types: their erasures, and what is put in for type variables.
use Rattle.std.proofs.Common.{◌≡◌, ℕ, zero, suc, ◌+◌, ◌≤◌, List, [], Option, Some, None, refl, sym, ap, ◌∙◌, subst, inl, inr, arith, min, add-zero, zero-add}
use Rattle.std.specs.Prelude.{Bool, true, false, nat_eq, if◌then◌else◌}
use Rattle.std.specs.List.{Contains}
use Rattle.std.proofs.lemmas.Bool.Decides.{nat_tests}
use Rattle.std.proofs.lemmas.Option.{none-some, same_Some}
use Rattle.je_core.specs.declared.types.Base.{Base}
use Rattle.je_core.specs.declared.types.Base.TheVariants as base
use Rattle.je_core.specs.declared.types.Ty.{Ty}
use Rattle.je_core.specs.Core.{CoreProgram}
use Rattle.je_classes.specs.Hierarchy.{object_class, supers_of}
use Rattle.je_classes.specs.Subtypes.{is_subtype}
use Rattle.je_classes.proofs.Lists.{contains-cases}
use Rattle.je_classes.proofs.Sets.{by_either}
use Rattle.je_fitting.specs.Types.{holds_something, is_there, is_there_base, is_variable_type}
use Rattle.je_fitting.proofs.Booleans.{both}
use Rattle.je_scopes.specs.SourceTypes.{SourceType, SourceTypes, plain, of_class, of_variable}
use Rattle.source_types.specs.Erasure.{class_numbered, erased}
use Rattle.source_types.specs.Heads.{ClassHead, bound_of, supers_of as heads_supers}
use Rattle.source_types.specs.Substitution.{all_substituted, argument_at, array_over, in_place, substituted}
use Rattle.source_types.specs.Subtypes.{dims_of, element_of}
use Rattle.source_types.specs.Supertypes.{directly_above}
use Rattle.source_types.proofs.Above.{Above, here, up}
use Rattle.je_typing.specs.Typed.{is_primitive_base}
use Rattle.typing_laws.specs.Correspondence.{HasHeads}
use Rattle.typing_laws.proofs.Erased.{is_class_base}
use Rattle.typing_laws.proofs.Subtypes.{class-base, contains-none, erased_base, from-map, parts, plain-base, variable-base}
use Rattle.fitting_laws.specs.Sound.{AreSound, HeadsAreSound, IsSound, IsType, SameOrBelow, a_type, more_arguments, no_arguments, of_null, of_void, sound_class, sound_primitive, sound_variable}
use Rattle.fitting_laws.proofs.Below.{arrays-below, below-below}

module _ (p : CoreProgram) (heads : List ClassHead) where
  -- ---- dimensions

  pub sound-dims : {most : ℕ} {t : SourceType} → most ≤ 255 → IsSound p heads most t → dims_of t ≤ 255
  sound-dims m (sound_primitive h few) = few
  sound-dims m (sound_class h few args) = few
  sound-dims {most = most} m (sound_variable {n = n} h few) = omega (arith, m, few)

  pub type-dims : {t : SourceType} → IsType p heads t → dims_of t ≤ 255
  type-dims (a_type s) = sound-dims (omega arith) s
  type-dims of_null = omega arith
  type-dims of_void = omega arith

  mutual
    -- with more dimensions
    pub wider : {t : SourceType} → IsSound p heads 254 t → IsSound p heads 255 t
    wider (sound_primitive h few) = sound_primitive h few
    wider (sound_class h few args) = sound_class h few (all-wider args)
    wider (sound_variable {n = n} h few) = sound_variable h (omega (arith, few))

    pub all-wider : {c at : ℕ} {ts : SourceTypes} → AreSound p heads 254 c at ts → AreSound p heads 255 c at ts
    all-wider no_arguments = no_arguments
    all-wider (more_arguments s h args) = more_arguments (wider s) h (all-wider args)

module _ (p : CoreProgram) (heads : List ClassHead) (known : HasHeads p heads) where
  -- ---- erasures are types of variables

  variable-type : (t : Ty) → is_there p t ≡ true → holds_something t.base ≡ true → is_variable_type p t ≡ true
  variable-type t h k = both h k

  primitive-there : (b : Base) → is_primitive_base b ≡ true → (is_there_base p b ≡ true) × (holds_something b ≡ true)
  primitive-there base.Bool h = (refl, refl)
  primitive-there base.Byte h = (refl, refl)
  primitive-there base.Short h = (refl, refl)
  primitive-there base.Char h = (refl, refl)
  primitive-there base.Int h = (refl, refl)
  primitive-there base.Long h = (refl, refl)
  primitive-there base.Null h = absurd cc
  primitive-there base.Void h = absurd cc
  primitive-there (base.Class c) h = absurd cc

  holds-class : (b : Base) → is_class_base b ≡ true → holds_something b ≡ true
  holds-class (base.Class c) h = refl
  holds-class base.Bool h = absurd cc
  holds-class base.Byte h = absurd cc
  holds-class base.Short h = absurd cc
  holds-class base.Char h = absurd cc
  holds-class base.Int h = absurd cc
  holds-class base.Long h = absurd cc
  holds-class base.Null h = absurd cc
  holds-class base.Void h = absurd cc

  -- the base is that of the element
  base-of : (t : SourceType) → dims_of t ≤ 255 → erased_base heads t ≡ erased_base heads (element_of t)
  base-of t few = ap (λ (u : Ty). u.base) (parts heads known.bounds t few)

  by-base : (b : Base) (t : Ty) → t.base ≡ b → is_there_base p b ≡ true → holds_something b ≡ true → is_variable_type p t ≡ true
  by-base b t e h k = variable-type t (ap (is_there_base p) e ∙ h) (ap holds_something e ∙ k)

  pub sound-variable : {most : ℕ} {t : SourceType} → most ≤ 255 → IsSound p heads most t → is_variable_type p (erased heads t) ≡ true
  sound-variable m (sound_primitive {b = b} {n = n} h few) = let k = primitive-there b h in by-base b (erased heads (plain b n)) (plain-base heads b n) k.0 k.1
  sound-variable m (sound_class {c = c} {args = args} {n = n} h few s) = by-base (base.Class (class_numbered c)) (erased heads (of_class c args n)) (class-base heads c args n) h refl
  sound-variable {most = most} m (sound_variable {c = c} {at = at} {n = n} h few) =
      by-base (erased_base heads (of_variable c at 0)) (erased heads (of_variable c at n)) (base-of (of_variable c at n) (omega (arith, m, few))) h
      (holds-class (erased_base heads (of_variable c at 0)) (variable-base p heads known c at 0))

  -- ---- arrays

  over-element : (t : SourceType) (n : ℕ) → element_of (array_over t n) ≡ element_of t
  over-element (plain b m) n = refl
  over-element (of_class c ts m) n = refl
  over-element (of_variable c at m) n = refl

  over-dims : (t : SourceType) (n : ℕ) → dims_of (array_over t n) ≡ min 255 (dims_of t + n)
  over-dims (plain b m) n = refl
  over-dims (of_class c ts m) n = refl
  over-dims (of_variable c at m) n = refl

  pub over-sound : {t : SourceType} (n : ℕ) → IsSound p heads 255 t → IsSound p heads 255 (array_over t n)
  over-sound n (sound_primitive h few) = sound_primitive h (omega arith)
  over-sound n (sound_class h few args) = sound_class h (omega arith) args
  over-sound n (sound_variable h few) = sound_variable h (omega arith)

  abbrev at-dims : Base → ℕ → Ty
  at-dims b n = record { base = b; dims = n }

  -- an argument under dimensions is below its variable under them
  over-below : (t : SourceType) (c at n : ℕ) → dims_of t ≤ 255 → n ≤ 254 → is_subtype p (erased heads t) (erased heads (of_variable c at 0)) ≡ true
      → is_subtype p (erased heads (array_over t n)) (erased heads (of_variable c at n)) ≡ true
  over-below t c at n few less h =
      let own : erased heads t ≡ at-dims (erased_base heads (element_of t)) (dims_of t) = parts heads known.bounds t few in
      let variable : erased heads (of_variable c at 0) ≡ at-dims (erased_base heads (of_variable c at 0)) 0 = parts heads known.bounds (of_variable c at 0) (omega arith) in
      let few-over : dims_of (array_over t n) ≤ 255 = subst (λ (i : ℕ). i ≤ 255) (sym (over-dims t n)) (omega arith) in
      let over : erased heads (array_over t n) ≡ at-dims (erased_base heads (element_of t)) (min 255 (dims_of t + n)) =
      parts heads known.bounds (array_over t n) few-over
      ∙ ap (λ (i : ℕ). at-dims (erased_base heads (element_of (array_over t n))) i) (over-dims t n)
      ∙ ap (λ (u : SourceType). at-dims (erased_base heads u) (min 255 (dims_of t + n))) (over-element t n) in
      let variable-over : erased heads (of_variable c at n) ≡ at-dims (erased_base heads (of_variable c at 0)) n = parts heads known.bounds (of_variable c at n) (omega (arith, less)) in
      ap (λ (u : Ty). is_subtype p u (erased heads (of_variable c at n))) over
      ∙ ap (is_subtype p (at-dims (erased_base heads (element_of t)) (min 255 (dims_of t + n)))) variable-over
      ∙ arrays-below p (erased_base heads (element_of t)) (erased_base heads (of_variable c at 0)) (dims_of t) n
      (sym (ap (λ (u : Ty). is_subtype p u (erased heads (of_variable c at 0))) own ∙ ap (is_subtype p (at-dims (erased_base heads (element_of t)) (dims_of t))) variable) ∙ h) less

  -- ---- what is put in for type variables

  -- an argument at a place
  pub record IsArgument (c at : ℕ) (t : SourceType) : Type 0 where
    pub sound : IsSound p heads 255 t
    pub below : is_subtype p (erased heads t) (erased heads (of_variable c at 0)) ≡ true

  argument-from : {c : ℕ} (from : ℕ) {args : SourceTypes} → AreSound p heads 255 c from args → (at : ℕ) (t : SourceType) → argument_at args at ≡ Some t → IsArgument c (from + at) t
  argument-from from no_arguments at t e = absurd (none-some t e)
  argument-from {c = c} from (more_arguments {t = u} s h args) zero t e =
      let q : u ≡ t = same_Some u t e in
      subst (IsArgument c (from + 0)) q (record { sound = s; below = subst (λ (i : ℕ). is_subtype p (erased heads u) (erased heads (of_variable c i 0)) ≡ true) (sym (add-zero from)) h })
  argument-from {c = c} from (more_arguments s h args) (suc at) t e = subst (λ (i : ℕ). IsArgument c i t) (let q : suc from + at ≡ from + suc at = omega arith in q) (argument-from (suc from) args at t e)

  pub argument-at : {c : ℕ} {args : SourceTypes} → AreSound p heads 255 c 0 args → (at : ℕ) (t : SourceType) → argument_at args at ≡ Some t → IsArgument c at t
  argument-at {c = c} args at t e = subst (λ (i : ℕ). IsArgument c i t) (zero-add at) (argument-from 0 args at t e)

  -- what stands in the place of a type
  pub record PutIn (t u : SourceType) : Type 0 where
    pub sound : IsSound p heads 255 u
    pub below : SameOrBelow p (erased heads u) (erased heads t)

  pub itself : {t : SourceType} → IsSound p heads 254 t → PutIn t t
  itself s = record { sound = wider p heads s; below = inl refl }

  erased-class : (c : ℕ) (ts us : SourceTypes) (n : ℕ) → n ≤ 255 → erased heads (of_class c ts n) ≡ erased heads (of_class c us n)
  erased-class c ts us n few =
      parts heads known.bounds (of_class c ts n) few
      ∙ ap (λ (b : Base). at-dims b n) (class-base heads c ts 0 ∙ sym (class-base heads c us 0))
      ∙ sym (parts heads known.bounds (of_class c us n) few)

  module _ (top : supers_of p object_class ≡ []) (c : ℕ) (args : SourceTypes) (given : AreSound p heads 255 c 0 args) where
    variable-put : (d at n : ℕ) → is_there p (erased heads (of_variable d at 0)) ≡ true → n ≤ 254 → (b : Bool) → nat_eq d c ≡ b
        → PutIn (of_variable d at n) (if b then in_place (argument_at args at) d at n else of_variable d at n)
    variable-put d at n h few false e = itself (sound_variable h few)
    variable-put d at n h few true e = by (argument_at args at) refl
      where
        by : (o : Option SourceType) → argument_at args at ≡ o → PutIn (of_variable d at n) (in_place o d at n)
        by None q = itself (sound_variable h few)
        by (Some t) q =
            let a = argument-at given at t q in
            let same : c ≡ d = grind (arith, nat_tests) in
            let below = subst (λ (i : ℕ). is_subtype p (erased heads t) (erased heads (of_variable i at 0)) ≡ true) same a.below in
            record { sound = over-sound n a.sound; below = inr (over-below t d at n (sound-dims p heads (omega arith) a.sound) few below) }

    below-variable : (s t u : Ty) → SameOrBelow p s t → is_subtype p t u ≡ true → is_subtype p s u ≡ true
    below-variable s t u (inl e) k = subst (λ (x : Ty). is_subtype p x u ≡ true) (sym e) k
    below-variable s t u (inr h) k = below-below p top s t u h k

    mutual
      pub substituted-put : {t : SourceType} → IsSound p heads 254 t → PutIn t (substituted c args t)
      substituted-put (sound_primitive h few) = itself (sound_primitive h few)
      substituted-put (sound_class {c = d} {args = ts} {n = n} h few s) = record {
        sound = sound_class h few (all-put s);
        below = inl (erased-class d (all_substituted c args ts) ts n few);
      }
      substituted-put (sound_variable {c = d} {at = at} {n = n} h few) = variable-put d at n h few (nat_eq d c) refl

      pub all-put : {d at : ℕ} {ts : SourceTypes} → AreSound p heads 254 d at ts → AreSound p heads 255 d at (all_substituted c args ts)
      all-put no_arguments = no_arguments
      all-put (more_arguments {c = d} {at = at} {t = t} s h args') =
          let q = substituted-put s in
          more_arguments q.sound (below-variable (erased heads (substituted c args t)) (erased heads t) (erased heads (of_variable d at 0)) q.below h) (all-put args')

  -- ---- the types above a sound one

  module _ (top : supers_of p object_class ≡ []) (sound : HeadsAreSound p heads) where
    pub directly-sound : (s t : SourceType) → IsSound p heads 255 s → Contains (directly_above heads s) t → IsSound p heads 255 t
    directly-sound (of_class c args zero) t (sound_class h few given) q =
        let w = from-map (substituted c args) (heads_supers heads c) t q in
        subst (IsSound p heads 255) w.2 (substituted-put top c args given (sound.supers c w.0 w.1)).sound
    directly-sound (of_variable c at zero) t s q = by_either (λ e. subst (IsSound p heads 255) e (wider p heads (sound.bounds c at))) (λ r. absurd (contains-none t r)) (contains-cases (bound_of heads c at) t [] q)
    directly-sound (of_class c args (suc n)) t s q = absurd (contains-none t q)
    directly-sound (of_variable c at (suc n)) t s q = absurd (contains-none t q)
    directly-sound (plain b n) t s q = absurd (contains-none t q)

    pub above-sound : {s t : SourceType} → Above heads s t → IsSound p heads 255 s → IsSound p heads 255 t
    above-sound here s = s
    above-sound (up {s = s} {u = u} q r) k = above-sound r (directly-sound s u k q)
