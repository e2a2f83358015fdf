-- Where a field that is found stands: its class is above the type, in the core program too.
use Rattle.std.proofs.Common.{◌≡◌, ℕ, zero, suc, List, [], ◌∷◌, Option, Some, None, refl, sym, ap, ◌∙◌, subst, inl, inr, arith}
use Rattle.std.specs.Prelude.{true, ◌⊎◌, if◌then◌else◌}
use Rattle.std.specs.List.{Contains}
use Rattle.je_base.specs.declared.span.NameId.{NameId}
use Rattle.je_core.specs.declared.types.Base.{Base}
use Rattle.je_core.specs.declared.types.Base.TheVariants as base
use Rattle.je_core.specs.declared.types.ClassId.{ClassId}
use Rattle.je_core.specs.declared.types.Ty.{Ty}
use Rattle.je_core.specs.Core.{CoreProgram}
use Rattle.je_classes.specs.Members.{Member, Found, nothing, one, several, joined, same_member}
use Rattle.je_classes.specs.Subtypes.{class_type, is_subtype}
use Rattle.je_classes.proofs.Lists.{bool_cases, contains-here, contains-later}
use Rattle.je_classes.proofs.Sets.{by_either}
use Rattle.je_scopes.specs.Headers.{same_name}
use Rattle.je_scopes.specs.SourceTypes.{SourceType, SourceTypes, plain, of_class, of_variable}
use Rattle.source_types.specs.Erasure.{class_numbered, erased}
use Rattle.source_types.specs.Heads.{ClassHead}
use Rattle.source_types.specs.Supertypes.{directly_above, most_steps}
use Rattle.source_types.proofs.Above.{Above, here, up}
use Rattle.declarations.specs.Declarations.{DeclaredClass}
use Rattle.name_typing.specs.Fields.{can_inherit, field_from, field_within, fields_of, find_field, inheriting, joined_over, own_field, own_or_inherited}
use Rattle.typing_laws.specs.Correspondence.{HasHeads}
use Rattle.typing_laws.proofs.Erased.{is_class_base}
use Rattle.typing_laws.proofs.Subtypes.{above-below, class-base, contains-none, erased_base, parts, variable-base}
use Rattle.fitting_laws.proofs.Instances.{class-below, erased-class-type}

-- ---- one member among several

one-same : (m n : Member) → one m ≡ one n → m ≡ n
one-same m n e = cc

joined-one : (f g : Found) (m : Member) → joined f g ≡ one m → (f ≡ one m) ⊎ (g ≡ one m)
joined-one nothing g m e = inr e
joined-one (one k) nothing m e = inl e
joined-one (one k) (one n) m e = bool_cases (λ b. (if b then one k else several) ≡ one m → (one k ≡ one m) ⊎ (one n ≡ one m)) (same_member k n) (λ _ h. inl h) (λ _ h. absurd cc) e
joined-one (one k) several m e = absurd cc
joined-one several g m e = absurd cc

record Among (f : SourceType → Found) (ts : List SourceType) (m : Member) : Type 0 where
  type : SourceType
  there : Contains ts type
  has : f type ≡ one m

among : (f : SourceType → Found) (ts : List SourceType) (m : Member) → joined_over f ts ≡ one m → Among f ts m
among f [] m e = absurd cc
among f (t ∷ ts) m e = by_either
    (λ h. record { type = t; there = contains-here t ts; has = h })
    (λ h. let a = among f ts m h in record { type = a.type; there = contains-later t a.type ts a.there; has = a.has })
    (joined-one (f t) (joined_over f ts) m e)

module _ (heads : List ClassHead) (classes : List DeclaredClass) (x : NameId) where
  -- the type of the member's class, above the type
  pub record Stands (t : SourceType) (m : Member) : Type 0 where
    pub class : ℕ
    pub arguments : SourceTypes
    pub is : m.class ≡ class_numbered class
    pub way : Above heads t (of_class class arguments 0)

  from-class : (c at : ℕ) (fs : List _) (m : Member) → field_from c at fs x ≡ Some m → m.class ≡ class_numbered c
  from-class c at [] m e = absurd cc
  from-class c at (f ∷ fs) m e = bool_cases (λ b. (if b then Some (record { class = class_numbered c; at = at }) else field_from c (suc at) fs x) ≡ Some m → m.class ≡ class_numbered c) (same_name f.name.name x)
      (λ _ h. let same : record { class = class_numbered c; at = at } ≡ m = cc in ap (λ (k : Member). k.class) (sym same)) (λ _ h. from-class c (suc at) fs m h) e

  own-stands : (t : SourceType) (m : Member) → own_field classes x t ≡ Some m → Stands t m
  own-stands (of_class c args zero) m e = record { class = c; arguments = args; is = from-class c 0 (fields_of classes c) m e; way = here }
  own-stands (of_class c args (suc n)) m e = absurd cc
  own-stands (of_variable c at n) m e = absurd cc
  own-stands (plain b n) m e = absurd cc

  inherited-one : (f : Found) (m : Member) → inheriting classes f ≡ one m → f ≡ one m
  inherited-one nothing m e = absurd cc
  inherited-one several m e = absurd cc
  inherited-one (one k) m e = bool_cases (λ b. (if b then one k else nothing) ≡ one m → one k ≡ one m) (can_inherit classes k) (λ _ h. h) (λ _ h. absurd cc) e

  within-stands : (n : ℕ) (t : SourceType) (m : Member) → field_within heads classes n x t ≡ one m → Stands t m
  within-stands zero t m e = absurd cc
  within-stands (suc n) t m e = by (λ u k. within-stands n u m k) (own_field classes x t) refl e
    where
      by : ((u : SourceType) → field_within heads classes n x u ≡ one m → Stands u m) → (o : Option Member) → own_field classes x t ≡ o
          → own_or_inherited o (joined_over (λ u. inheriting classes (field_within heads classes n x u)) (directly_above heads t)) ≡ one m → Stands t m
      by above (Some k) q h = own-stands t m (q ∙ ap (λ (i : Member). Some i) (one-same k m h))
      by above None q h =
          let a = among (λ u. inheriting classes (field_within heads classes n x u)) (directly_above heads t) m h in
          let s = above a.type (inherited-one (field_within heads classes n x a.type) m a.has) in
          record { class = s.class; arguments = s.arguments; is = s.is; way = up a.there s.way }

  pub found-stands : (t : SourceType) (m : Member) → find_field heads classes t x ≡ one m → Stands t m
  unfolding find_field
  found-stands t m e = within-stands (suc (most_steps heads)) t m e

-- ---- in the core program

module _ (p : CoreProgram) (heads : List ClassHead) (known : HasHeads p heads) where
  abbrev at-dims : Base → ℕ → Ty
  at-dims b n = record { base = b; dims = n }

  class-type-of : (b : Base) → is_class_base b ≡ true → (c : ClassId) × (b ≡ base.Class c)
  class-type-of (base.Class c) h = (c, refl)
  class-type-of base.Bool h = absurd cc
  class-type-of base.Byte h = absurd cc
  class-type-of base.Short h = absurd cc
  class-type-of base.Char h = absurd cc
  class-type-of base.Int h = absurd cc
  class-type-of base.Long h = absurd cc
  class-type-of base.Null h = absurd cc
  class-type-of base.Void h = absurd cc

  same-class : {c d : ClassId} → base.Class c ≡ base.Class d → c ≡ d
  same-class {c = c} e = ap (λ b. class_or c b) e
    where
      class_or : ClassId → Base → ClassId
      class_or c (base.Class d) = d
      class_or c b = c

  by-class : (t : SourceType) (c : ClassId) (d : ℕ) (args : SourceTypes) → erased heads t ≡ class_type c → Above heads t (of_class d args 0)
      → is_subtype p (erased heads t) (class_type (class_numbered d)) ≡ true
  by-class t c d args is way =
      let k = above-below p heads known way c (ap (λ (u : Ty). u.base) is) in
      let same : k.class ≡ class_numbered d = same-class (sym k.is ∙ class-base heads d args 0) in
      ap (λ (u : Ty). is_subtype p u (class_type (class_numbered d))) is
      ∙ subst (λ (e : ClassId). is_subtype p (class_type c) (class_type e) ≡ true) same (class-below p c k.class k.way)

  -- a type is below each class type above it
  pub above-class : (t : SourceType) (d : ℕ) (args : SourceTypes) → Above heads t (of_class d args 0) → is_subtype p (erased heads t) (class_type (class_numbered d)) ≡ true
  above-class (of_class c ts zero) d args way = by-class (of_class c ts 0) (class_numbered c) d args (erased-class-type p heads known c ts) way
  above-class (of_variable c at zero) d args way =
      let k = class-type-of (erased_base heads (of_variable c at 0)) (variable-base p heads known c at 0) in
      by-class (of_variable c at 0) k.0 d args (parts heads known.bounds (of_variable c at 0) (omega arith) ∙ ap (λ (b : Base). at-dims b 0) k.1) way
  above-class (of_class c ts (suc n)) d args (up q way) = absurd (contains-none _ q)
  above-class (of_variable c at (suc n)) d args (up q way) = absurd (contains-none _ q)
  above-class (plain b n) d args (up q way) = absurd (contains-none _ q)
