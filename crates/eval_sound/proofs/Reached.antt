-- The method that an object's class has for a named one stands in the class or above it, and is no constructor.
use Rattle.std.proofs.Common.{◌≡◌, ℕ, zero, suc, Option, Some, None, refl, sym, ap, subst, ◌∙◌, arith}
use Rattle.std.specs.Prelude.{Bool, true, false, not, ◌||◌, nat_eq, if◌then◌else◌}
use Rattle.std.specs.List.{Contains}
use Rattle.std.proofs.lemmas.Bool.Decides.{nat_tests}
use Rattle.std.proofs.lemmas.Option.{same_Some}
use Rattle.je_core.specs.declared.program.Sort.{Sort}
use Rattle.je_core.specs.declared.program.Sort.TheVariants as sort
use Rattle.je_core.specs.declared.types.ClassId.{ClassId}
use Rattle.je_core.specs.Core.{CoreMethod, CoreClass, CoreProgram}
use Rattle.je_classes.specs.Dispatch.{same_signature, is_own, own_from, unless_abstract, placed, is_interface_class, next_above, own_or_above, implemented_upwards, implemented, bridged, implemented_or_private, bridged_or, dispatched}
use Rattle.je_classes.specs.Hierarchy.{class_at, with_superclass, supers_in, supers_of, Below, same, above, object_class}
use Rattle.je_classes.specs.Members.{Member, same_name, is_private, method_of, names_constructors}
use Rattle.je_classes.proofs.Below.{below-to}
use Rattle.je_classes.proofs.Lists.{contains-here}
use Rattle.je_fitting.specs.Classes.{can_be_extended, BridgeFits, SuperclassFits, none_above, one_above}
use Rattle.je_fitting.specs.Expressions.{method_at, is_constructor, is_interface_sort, can_be_made}
use Rattle.je_fitting.specs.Program.{FitsProgram}
use Rattle.je_fitting.proofs.Booleans.{two}
use Rattle.je_sound.proofs.Dispatched.{IsBridge, is-bridge, is-implemented, class-fits}
use Rattle.je_sound.proofs.Members.{no-interface}

-- ---- above

not-interface : (s : Sort) → is_interface_sort s ≡ false → is_interface_class s ≡ false
not-interface sort.Interface e = absurd cc
not-interface _ e = refl

module _ (p : CoreProgram) (f : FitsProgram p) where
  -- a class's superclass is there, and no interface
  record Super (class : ClassId) (s : ClassId) : Type 0 where
    c : CoreClass
    there : class_at p s ≡ Some c
    plain : is_interface_sort c.kind.sort ≡ false
    up : Contains (supers_of p class) s

  super-there : (class : ClassId) (c : CoreClass) (s : ClassId) → class_at p class ≡ Some c → c.superclass ≡ Some s → Super class s
  super-there class c s there e = by c.superclass refl (class-fits p f class c there).superclass e
    where
      extended : (o : Option CoreClass) → class_at p s ≡ o → can_be_extended o ≡ true → Super class s
      extended None q h = absurd cc
      extended (Some k) q h = record {
        c = k;
        there = q;
        plain = left (is_interface_sort k.kind.sort) k.kind.is_final h;
        up = subst (λ o. Contains (supers_in o) s) (sym there) (subst (λ o. Contains (with_superclass o c.interfaces) s) (sym e) (contains-here s c.interfaces));
      }
        where
          left : (x y : Bool) → not (x || y) ≡ true → x ≡ false
          left true y g = absurd cc
          left false y g = refl

      by : (o : Option ClassId) → c.superclass ≡ o → SuperclassFits p class c o → o ≡ Some s → Super class s
      by _ q (none_above h) g = absurd cc
      by _ q (one_above {s = d} h k) g = let one : d ≡ s = same_Some d s g in extended (class_at p s) refl (subst (λ (x : ClassId). can_be_extended (class_at p x) ≡ true) one k)

  module _ (m : CoreMethod) (r : Member) where
    none-up : (n : ℕ) → implemented_upwards p n m None ≡ Some r → ⊥
    none-up zero e = absurd cc
    none-up (suc n) e = absurd cc

    placed-here : (class : ClassId) (k : ℕ × CoreMethod) → unless_abstract k.1 (record { class = class; at = k.0 }) ≡ Some r → Below p class r.class
    placed-here class k e = by k.1.flags.is_abstract e
      where
        by : (b : Bool) → (if b then None else Some (let x : Member = record { class = class; at = k.0 } in x)) ≡ Some r → Below p class r.class
        by true h = absurd cc
        by false h = subst (λ (x : Member). Below p class x.class) (same_Some _ r h) same

    below-upwards : (n : ℕ) (class : ClassId) (c : CoreClass) → class_at p class ≡ Some c → is_interface_sort c.kind.sort ≡ false → implemented_upwards p n m (Some class) ≡ Some r → Below p class r.class
    below-upwards zero class c there plain e = absurd cc
    below-upwards (suc n) class c there plain e = by (own_from m 0 c.methods) refl (sym (ap (own_or_above (implemented_upwards p n m) m class) there) ∙ e) (below-upwards n)
      where
        higher : (o : Option ClassId) → c.superclass ≡ o → implemented_upwards p n m o ≡ Some r →
            ((d : ClassId) (k : CoreClass) → class_at p d ≡ Some k → is_interface_sort k.kind.sort ≡ false → implemented_upwards p n m (Some d) ≡ Some r → Below p d r.class) → Below p class r.class
        higher None q h more = absurd (none-up n h)
        higher (Some s) q h more = let u = super-there class c s there q in above u.up (more s u.c u.there u.plain h)

        by : (o : Option (ℕ × CoreMethod)) → own_from m 0 c.methods ≡ o → placed class (own_from m 0 c.methods) (implemented_upwards p n m (next_above c)) ≡ Some r →
            ((d : ClassId) (k : CoreClass) → class_at p d ≡ Some k → is_interface_sort k.kind.sort ≡ false → implemented_upwards p n m (Some d) ≡ Some r → Below p d r.class) → Below p class r.class
        by (Some k) q h more = placed-here class k (sym (ap (λ o. placed class o (implemented_upwards p n m (next_above c))) q) ∙ h)
        by None q h more =
            let up : implemented_upwards p n m (next_above c) ≡ Some r = sym (ap (λ o. placed class o (implemented_upwards p n m (next_above c))) q) ∙ h in
            let next : next_above c ≡ c.superclass = ap (λ b. if b then Some object_class else c.superclass) (not-interface c.kind.sort plain) in
            higher c.superclass refl (sym (ap (implemented_upwards p n m) next) ∙ up) more

  -- ---- no constructor

  same-kind : (k named : CoreMethod) → same_name k.name named.name ≡ true → is_constructor p named ≡ false → is_constructor p k ≡ false
  same-kind k named e h =
      let t : nat_eq k.name.0 named.name.0 ≡ true = e in
      let one : k.name ≡ named.name = grind (arith, nat_tests) in
      ap (names_constructors p) one ∙ h

  pub record Reached (own : ClassId) (named : CoreMethod) (r : Member) (by : CoreMethod) : Type 0 where
    pub below : Below p own r.class
    pub plain : is_constructor p by ≡ false

  module _ (own class : ClassId) (o : CoreClass) (at : ℕ) (named : CoreMethod) (there : class_at p own ≡ Some o) (made : can_be_made o ≡ true) (up : Below p own class)
      (is : method_at p class at ≡ Some named) (method : is_constructor p named ≡ false) (r : Member) (k : CoreMethod) (found : method_of p r ≡ Some k) where
    abbrev member : Member
    member = record { class = class; at = at }

    over-bridge : IsBridge (BridgeFits p own) member r → Reached own named r k
    over-bridge b =
        let from : b.fits.from ≡ named = same_Some _ _ (sym b.fits.from_there ∙ ap (method_of p) b.from ∙ is) in
        let to : b.fits.to ≡ k = same_Some _ _ (sym b.fits.to_there ∙ ap (method_of p) b.to ∙ found) in
        let alike : same_name b.fits.from.name b.fits.to.name ≡ true = b.fits.name in
        let t : nat_eq b.fits.from.name.0 b.fits.to.name.0 ≡ true = alike in
        let one : b.fits.from.name ≡ b.fits.to.name = grind (arith, nat_tests) in
        record {
          below = subst (λ (x : Member). Below p own x.class) b.to (below-to p own b.bridge.by.0 b.fits.to_above);
          plain = subst (λ (x : CoreMethod). is_constructor p x ≡ false) to (ap (names_constructors p) (sym one) ∙ ap (λ (x : CoreMethod). is_constructor p x) from ∙ method);
        }

    itself-private : unless_abstract named member ≡ Some r → Reached own named r k
    itself-private e = by named.flags.is_abstract e
      where
        by : (b : Bool) → (if b then None else Some member) ≡ Some r → Reached own named r k
        by true h = absurd cc
        by false h =
            let one : member ≡ r = same_Some _ _ h in
            let it : named ≡ k = same_Some _ _ (sym is ∙ ap (method_of p) one ∙ found) in
            record { below = subst (λ (x : Member). Below p own x.class) one up; plain = subst (λ (x : CoreMethod). is_constructor p x ≡ false) it method }

    by-name : implemented p own named ≡ Some r → Reached own named r k
    unfolding implemented
    by-name e =
        let i = is-implemented p named own r e in
        let alike = (two {a = is_own i.by} {b = same_signature i.by named} i.passes).1 in
        let names : same_name i.by.name named.name ≡ true = (two alike).0 in
        let it : i.by ≡ k = same_Some _ _ (sym i.there ∙ found) in
        record {
          below = below-upwards named r _ own o there (no-interface o made) e;
          plain = subst (λ (x : CoreMethod). is_constructor p x ≡ false) it (same-kind i.by named names method);
        }

    reached-by : (x : Option Member) → bridged (class_at p own) member ≡ x → bridged_or x (implemented_or_private p own member (method_of p member)) ≡ Some r → Reached own named r k
    reached-by None q e = by (is_private named) (ap (implemented_or_private p own member) (sym is) ∙ e)
      where
        by : (b : Bool) → (if b then unless_abstract named member else implemented p own named) ≡ Some r → Reached own named r k
        by true h = itself-private h
        by false h = by-name h
    reached-by (Some y) q e = over-bridge (is-bridge (BridgeFits p own) o.bridges member r (class-fits p f own o there).bridges (sym (ap (λ z. bridged z member) there) ∙ q ∙ e))

    pub reached : dispatched p own member ≡ Some r → Reached own named r k
    unfolding dispatched
    reached e = reached-by (bridged (class_at p own) member) refl e
