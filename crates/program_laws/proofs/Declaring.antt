-- By which classes the methods are declared that a class has, and those above it (JLS 8.4.8).
use Rattle.std.proofs.Common.{◌≡◌, ℕ, zero, suc, List, [], refl, sym, ap, ◌∙◌, subst}
use Rattle.std.specs.Prelude.{Bool, true, false, not, ◌&&◌, filter, slice_get}
use Rattle.std.specs.List.{Contains}
use Rattle.std.proofs.lemmas.Option.{same_Some}
use Rattle.je_core.specs.Core.{CoreProgram}
use Rattle.je_classes.specs.Hierarchy.{Below, above, same}
use Rattle.je_classes.specs.Members.{In}
use Rattle.je_classes.proofs.Sets.{by_either, filter-in, in-either}
use Rattle.je_fitting.proofs.Booleans.{is_not}
use Rattle.je_scopes.specs.SourceTypes.{SourceType, SourceTypes, of_class, same_source_type}
use Rattle.source_types.specs.Erasure.{class_numbered}
use Rattle.source_types.specs.Heads.{supers_of}
use Rattle.source_types.specs.Substitution.{all_substituted, substituted}
use Rattle.source_types.specs.Supertypes.{directly_above, supertypes}
use Rattle.source_types.proofs.Above.{Above, above-to, here, up}
use Rattle.source_types.proofs.Same.{same-refl}
use Rattle.declarations.specs.Declarations.{DeclaredClass}
use Rattle.header_typing.specs.Supers.{class_in, own_type}
use Rattle.je_typing.specs.Castable.{is_interface}
use Rattle.overriding.specs.Methods.{Method, abstract_in, has_within, inherited_from, is_another_class, is_empty, is_overridden, joined_over, methods_above, methods_in, object_for, own, seen_in, types_above}
use Rattle.name_typing.specs.Program.{Program}
use Rattle.fitting_laws.specs.Represented.{Represents}
use Rattle.fitting_laws.proofs.Lists.{Mapped, contains-in, mapped}
use Rattle.fitting_laws.proofs.Methods.{Among, SeenIn, joined-over-in, own-from, seen-in}
use Rattle.override_laws.proofs.Erasures.{neither}
use Rattle.override_laws.proofs.Lists.{any-in, contained, flat-in}

same-class : {c d n m : ℕ} {ts us : SourceTypes} → of_class c ts n ≡ of_class d us m → c ≡ d
same-class {c = c} {d = d} e = same_Some c d (ap class_in e)

-- no interface has the methods of Object by its type alone
none-of-object : (b : Bool) → b ≡ false → (t : SourceType) → ¬ In (object_for b) t
none-of-object false e t i = elim i [ ]
none-of-object true e t i = absurd cc

-- a method that a class declares itself
pub record IsOwn (classes : List DeclaredClass) (c : ℕ) (m : Method) : Type 0 where
  pub holder : m.holder ≡ c
  pub plain : m.declared.is_constructor ≡ false

pub is-own : (classes : List DeclaredClass) (c : ℕ) (m : Method) → In (own classes c) m → IsOwn classes c m
is-own classes c m i =
    let o = own-from c 0 (methods_in (slice_get classes c)) m i in
    record {
      holder = ap (λ (k : Method). k.holder) o.is;
      plain = ap (λ (k : Method). k.declared.is_constructor) o.is ∙ o.plain;
    }

module _ (p : Program) (q : CoreProgram) (represents : Represents p q) where
  -- ---- types above a class

  record ClassAbove (c : ℕ) (t : SourceType) : Type 0 where
    class : ℕ
    arguments : SourceTypes
    is : t ≡ of_class class arguments 0
    below : Below q (class_numbered c) (class_numbered class)

  way-below : {s t : SourceType} → Above p.heads s t → (c : ℕ) (args : SourceTypes) → s ≡ of_class c args 0 →
      ClassAbove c t
  way-below here c args is = record { class = c; arguments = args; is = is; below = same }
  way-below (up {s = s} {t = t} {u = u} i r) c args is =
      let step = mapped (substituted c args) (supers_of p.heads c) u
      (contained (directly_above p.heads (of_class c args 0)) u
      (subst (λ x. Contains (directly_above p.heads x) u) is i)) in
      let named = represents.heads.supers c step.from (contains-in (supers_of p.heads c) step.from step.there) in
      let next = way-below r named.class (all_substituted c args named.arguments)
      (sym step.is ∙ ap (substituted c args) named.is) in
      record {
        class = next.class;
        arguments = next.arguments;
        is = next.is;
        below = above {d = class_numbered next.class} named.above next.below;
      }

  type-above : (c : ℕ) (t : SourceType) → is_interface p.heads c ≡ false → In (types_above p.heads c) t → ClassAbove c t
  type-above c t plain i = by_either
      (λ r. let among = (filter-in (is_another_class c) (supertypes p.heads (own_type p.heads c)) t r).there in
      way-below (above-to p.heads (own_type p.heads c) t
      (any-in (λ u. same_source_type u t) (supertypes p.heads (own_type p.heads c)) t among (same-refl t))) c _ refl)
      (λ r. absurd (none-of-object (is_interface p.heads c) plain t r))
      (in-either (filter (is_another_class c) (supertypes p.heads (own_type p.heads c))) i)

  -- ---- methods above a class that is no interface

  pub record DeclaredAbove (c : ℕ) (m : Method) : Type 0 where
    pub below : Below q (class_numbered c) (class_numbered m.holder)
    pub plain : m.declared.is_constructor ≡ false

  pub method-above : (c : ℕ) (m : Method) → is_interface p.heads c ≡ false → In (methods_above p.heads p.classes c) m →
      DeclaredAbove c m
  unfolding methods_above
  method-above c m plain i =
      let f = flat-in (seen_in (own p.classes)) (types_above p.heads c) m i in
      let s = seen-in (own p.classes) f.one m f.has in
      let t = type-above c f.one plain f.there in
      let o = is-own p.classes s.class s.from s.there in
      let holder : m.holder ≡ t.class =
      ap (λ (k : Method). k.holder) s.seen ∙ o.holder ∙ same-class (sym s.is ∙ t.is) in
      record {
        below = subst (λ d. Below q (class_numbered c) (class_numbered d)) (sym holder) t.below;
        plain = ap (λ (k : Method). k.declared.is_constructor) s.seen ∙ o.plain;
      }

  -- ---- methods with bodies that a class has

  -- those that each class has by so many steps are declared by classes above it
  abbrev AllBelow : ℕ → Type 0
  AllBelow k = (d : ℕ) (n : Method) → In (has_within p.heads p.classes k d) n → n.is_abstract ≡ false →
      Below q (class_numbered d) (class_numbered n.holder)

  from-super : (k c : ℕ) (t : SourceType) (m : Method) → Contains (supers_of p.heads c) t → m.is_abstract ≡ false →
      AllBelow k → SeenIn (has_within p.heads p.classes k) t m → Below q (class_numbered c) (class_numbered m.holder)
  from-super k c t m named concrete all s =
      let a = represents.heads.supers c t named in
      let higher = all s.class s.from s.there (sym (ap (λ (n : Method). n.is_abstract) s.seen) ∙ concrete) in
      subst (λ d. Below q (class_numbered c) (class_numbered d)) (sym (ap (λ (n : Method). n.holder) s.seen))
      (above a.above
      (subst (λ d. Below q (class_numbered d) (class_numbered s.from.holder)) (same-class (sym s.is ∙ a.is)) higher))

  -- what the types directly above have by so many steps, and what of it the class doesn't override
  abbrev all-above : ℕ → ℕ → List Method
  all-above k c = joined_over (seen_in (has_within p.heads p.classes k)) [] (inherited_from p.heads c)

  abbrev kept-above : ℕ → ℕ → List Method
  kept-above k c = filter (λ n. not (is_overridden p.heads (own p.classes c) n)) (all-above k c)

  of-type : (k c : ℕ) (n : Method) → n.is_abstract ≡ false → is_interface p.heads c ≡ false → AllBelow k →
      Among (seen_in (has_within p.heads p.classes k)) (inherited_from p.heads c) n →
      Below q (class_numbered c) (class_numbered n.holder)
  of-type k c n concrete plain all g = by_either
      (λ x. from-super k c g.type n (contains-in (supers_of p.heads c) g.type x) concrete all
      (seen-in (has_within p.heads p.classes k) g.type n g.has))
      (λ x. absurd (none-of-object (is_interface p.heads c && is_empty (supers_of p.heads c))
      (ap (λ b. b && is_empty (supers_of p.heads c)) plain) g.type x))
      (in-either (supers_of p.heads c) g.there)

  from-above : (k c : ℕ) (m : Method) → m.is_abstract ≡ false → AllBelow k →
      Mapped (abstract_in (is_interface p.heads c)) (kept-above k c) m →
      Below q (class_numbered c) (class_numbered m.holder)
  from-above k c m concrete all a =
      let both = neither a.from.is_abstract (is_interface p.heads c)
      (is_not (ap (λ (n : Method). n.is_abstract) a.is ∙ concrete)) in
      subst (λ d. Below q (class_numbered c) (class_numbered d)) (ap (λ (n : Method). n.holder) a.is)
      (by_either (λ x. elim x [ ]) (of-type k c a.from both.0 both.1 all)
      (joined-over-in (seen_in (has_within p.heads p.classes k)) [] (inherited_from p.heads c) a.from
      (filter-in (λ n. not (is_overridden p.heads (own p.classes c) n)) (all-above k c) a.from a.there).there))

  pub has-below : (k : ℕ) → AllBelow k
  has-below zero c m i concrete = elim i [ ]
  has-below (suc k) c m i concrete = by_either
      (λ r. subst (λ d. Below q (class_numbered c) (class_numbered d)) (sym (is-own p.classes c m r).holder) same)
      (λ r. from-above k c m concrete (λ d n x. has-below k d n x)
      (mapped (abstract_in (is_interface p.heads c)) (kept-above k c) m r))
      (in-either (own p.classes c) i)
