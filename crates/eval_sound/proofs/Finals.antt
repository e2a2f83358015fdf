-- Final classes of the library whose objects are no instances: what fits such a class's type is an object of the class itself.
use Rattle.std.proofs.Common.{◌≡◌, ℕ, List, Option, Some, None, refl, sym, ap, subst, ◌∙◌, inl, inr, arith}
use Rattle.std.specs.Prelude.{Bool, true, false, ◌||◌, ◌⊎◌, slice_get, nat_lt, if◌then◌else◌}
use Rattle.std.specs.List.{Contains, list_any}
use Rattle.std.proofs.lemmas.List.Elements.{All-contains}
use Rattle.std.proofs.lemmas.Option.{same_Some}
use Rattle.je_base.specs.declared.span.NameId.{NameId}
use Rattle.je_core.specs.declared.object.Obj.{Obj}
use Rattle.je_core.specs.declared.object.Obj.TheVariants.{Instance, Array, Text, Builder, Row, Cap}
use Rattle.je_core.specs.declared.types.ClassId.{ClassId}
use Rattle.je_core.specs.declared.types.Ty.{Ty}
use Rattle.je_core.specs.declared.value.ObjId.{ObjId}
use Rattle.je_core.specs.declared.value.Value.{Value}
use Rattle.je_core.specs.declared.value.Value.TheVariants.{Ref}
use Rattle.je_core.specs.Core.{CoreClass, CoreProgram}
use Rattle.je_classes.specs.Hierarchy.{class_at, with_superclass, supers_in, supers_of, same_class, is_below, Below, same, above, object_class}
use Rattle.je_classes.specs.Subtypes.{class_type, array_of}
use Rattle.je_classes.proofs.Below.{below-to}
use Rattle.je_classes.proofs.Lists.{contains-cases}
use Rattle.je_fitting.specs.Classes.{can_be_extended, is_interface, SuperclassFits, one_above}
use Rattle.je_fitting.specs.Members.{is_guest}
use Rattle.je_fitting.specs.Types.{agrees}
use Rattle.je_fitting.proofs.ClassesDecided.{at-place}
use Rattle.je_java.specs.World.{World, class_in, type_in}
use Rattle.je_sound.specs.Objects.{has_instances, throwable_class, token_class, IsObject, an_instance, ObjectFits}
use Rattle.je_sound.specs.Values.{ValueFits}
use Rattle.je_sound.specs.Worlds.{Sound}
use Rattle.je_sound.proofs.Dispatched.{class-fits}
use Rattle.je_sound.proofs.Library.{there-too}
use Rattle.je_sound.proofs.Members.{classes-agree, array-agrees}
use Rattle.library_classes.specs.Library.{all_due}
use Rattle.library_fits.proofs.Rounds.{IsRound, round-above}
use Rattle.library_fits.proofs.Table.{apart}
use Rattle.eval_sound.proofs.Operators.{either-way}
use Rattle.eval_sound.proofs.Types.{Known}

-- a final class, and the classes of which one is Throwable only if it is among those above it
pub record FinalDue (number : List ℕ → NameId) (k : ClassId) : Type 0 where
  pub class : CoreClass
  pub there : slice_get (all_due number) k.0 ≡ Some class
  pub final : can_be_extended (Some class) ≡ false
  pub plain : is_interface (Some class) ≡ false
  pub round : List ClassId
  pub is_round : IsRound number k round
  pub not_throwable : list_any (same_class throwable_class) round ≡ false
  pub not_object : same_class k object_class ≡ false
  pub bare : (is_guest k || same_class k object_class || same_class k token_class) ≡ false

-- an object of a class that has no instances
pub record ObjectOf (p : CoreProgram) (objects : List Obj) (k : ClassId) (o : ObjId) : Type 0 where
  pub object : Obj
  pub there : slice_get objects o.0 ≡ Some object
  pub kind : IsObject p object
  pub class : class_in (Some object) ≡ Some k
  pub no_instance : ¬ (has_instances p k ≡ true)

module _ (p : CoreProgram) (known : Known p) (k : ClassId) (due : FinalDue known.library.number k) where
  not-thrown : is_below p k throwable_class ≡ false
  not-thrown = by (is_below p k throwable_class) refl
    where
      by : (b : Bool) → is_below p k throwable_class ≡ b → b ≡ false
      by false q = refl
      by true q = apart (round-above p known.library k due.round due.is_round (below-to p k throwable_class q)) due.not_throwable

  no-instance : ¬ (has_instances p k ≡ true)
  no-instance e = either-way (is_guest k || same_class k object_class || same_class k token_class) (is_below p k throwable_class) e (λ q. apart q due.bare) (λ q. apart q not-thrown)

  -- no class has it above itself
  there : class_at p k ≡ Some due.class
  there = there-too p known.library k due.class due.there

  no-super : (d : ClassId) → ¬ Contains (supers_of p d) k
  no-super d q = by (class_at p d) refl q
    where
      interface-no : (c : CoreClass) → class_at p d ≡ Some c → ¬ Contains c.interfaces k
      interface-no c e h = apart (All-contains (λ i. is_interface (class_at p i) ≡ true) c.interfaces k (class-fits p known.whole d c e).interfaces h) (ap is_interface there ∙ due.plain)

      of-class : (c : CoreClass) → class_at p d ≡ Some c → (o : Option ClassId) → SuperclassFits p d c o → ¬ Contains (with_superclass o c.interfaces) k
      of-class c e None f h = interface-no c e h
      of-class c e (Some s) (one_above g x) h = by-case (contains-cases s k c.interfaces h)
        where
          by-case : ¬ ((s ≡ k) ⊎ Contains c.interfaces k)
          by-case (inl z) = apart (subst (λ (y : ClassId). can_be_extended (class_at p y) ≡ true) z x) (ap can_be_extended there ∙ due.final)
          by-case (inr z) = interface-no c e z

      by : (o : Option CoreClass) → class_at p d ≡ o → ¬ Contains (supers_in o) k
      by None e h = absurd (omega (arith, h.1))
      by (Some c) e h = of-class c e c.superclass (class-fits p known.whole d c e).superclass h

  below-itself : {c d : ClassId} → Below p c d → d ≡ k → c ≡ k
  below-itself same e = e
  below-itself (above {c = c} {d = d} i r) e = absurd (no-super c (subst (λ (x : ClassId). Contains (supers_of p c) x) (below-itself r e) i))

  only-itself : (c : ClassId) → agrees p (class_type c) (class_type k) ≡ true → c ≡ k
  only-itself c e = by (classes-agree p c k e)
    where
      by : (same_class k object_class ≡ true) ⊎ (is_below p c k ≡ true) → c ≡ k
      by (inl q) = apart q due.not_object
      by (inr q) = below-itself (below-to p c k q) refl

  -- what fits the class's type
  pub object-of : (world : World) (o : ObjId) → Sound p world → ValueFits p world.objects (class_type k) (Ref o) → ObjectOf p world.objects k o
  object-of world o s f = by (slice_get world.objects o.0) refl f.has
    where
      kind : (x : Obj) → slice_get world.objects o.0 ≡ Some x → IsObject p x
      kind x q = (at-place (ObjectFits p world.objects) world.objects o.0 x s.objects q).kind

      typed : (c : ClassId) → Some (class_type c) ≡ Some f.own → c ≡ k
      typed c q = only-itself c (subst (λ (u : Ty). agrees p u (class_type k) ≡ true) (sym (same_Some (class_type c) f.own q)) f.agree)

      of-array : (element : Ty) (b : Bool) → ¬ ((if b then Some (array_of element) else None) ≡ Some f.own)
      of-array element true h = apart (array-agrees p element k (subst (λ (u : Ty). agrees p u (class_type k) ≡ true) (sym (same_Some (array_of element) f.own h)) f.agree)) due.not_object
      of-array element false h = absurd cc

      of-instance : (c : ClassId) (slots : List Value) → IsObject p (Instance c slots) → has_instances p c ≡ true
      of-instance c slots (an_instance there made has) = has

      by : (x : Option Obj) → slice_get world.objects o.0 ≡ x → type_in x ≡ Some f.own → ObjectOf p world.objects k o
      by None q h = absurd cc
      by (Some (Instance c slots)) q h = absurd (no-instance (subst (λ (x : ClassId). has_instances p x ≡ true) (typed c h) (of-instance c slots (kind _ q))))
      by (Some (Array element slots)) q h = absurd (of-array element (nat_lt element.dims 255) h)
      by (Some (Text units)) q h = record { object = Text units; there = q; kind = kind _ q; class = ap Some (typed _ h); no_instance = no-instance }
      by (Some (Builder units)) q h = record { object = Builder units; there = q; kind = kind _ q; class = ap Some (typed _ h); no_instance = no-instance }
      by (Some (Row c slots)) q h = record { object = Row c slots; there = q; kind = kind _ q; class = ap Some (typed c h); no_instance = no-instance }
      by (Some (Cap device c)) q h = record { object = Cap device c; there = q; kind = kind _ q; class = ap Some (typed c h); no_instance = no-instance }
