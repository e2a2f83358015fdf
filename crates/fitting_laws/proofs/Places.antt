-- What may be assigned where it stands.
use Rattle.std.proofs.Common.{◌≡◌, ℕ, Option, Some, None, refl, ap, ◌∙◌, subst, inl, inr, arith}
use Rattle.std.specs.Prelude.{Bool, true, not, ◌&&◌, nat_eq}
use Rattle.std.proofs.lemmas.Bool.Decides.{nat_tests}
use Rattle.je_core.specs.declared.types.ClassId.{ClassId}
use Rattle.je_core.specs.Core.{Core, CoreForm, CoreProgram, MaybeCore, form_of}
use Rattle.je_core.specs.Core as core
use Rattle.je_classes.specs.Members.{Member}
use Rattle.je_fitting.specs.Expressions.{Body, IsPlace, is_this}
use Rattle.je_fitting.specs.Expressions as fits
use Rattle.je_fitting.proofs.Booleans.{is_false, three, two}
use Rattle.declarations.specs.Declarations.{DeclaredField}
use Rattle.je_typing.specs.Assignments.{is_place}
use Rattle.je_typing.specs.Typed.{TypedNode}
use Rattle.name_typing.specs.Fields.{field_at as declared_at}
use Rattle.name_typing.specs.Program.{Program}
use Rattle.source_types.specs.Erasure.{class_numbered}
use Rattle.body_typing.specs.FinalVariables.{Scope, builds, may_assign_field, may_be_assigned, starts}
use Rattle.typing_laws.proofs.Subtypes.{either}
use Rattle.fitting_laws.specs.Names.{IsTarget, ScopeStands}
use Rattle.fitting_laws.specs.Represented.{Represents}
use Rattle.fitting_laws.specs.Values.{FitsBelow, IsValue}

module _ (p : Program) (q : CoreProgram) (body : Body) (is_blank : Member → Bool) (s : Scope) (represents : Represents p q) (stands : ScopeStands p q body is_blank s) where
  same-class : (c : ClassId) → nat_eq c.0 s.place.here.class ≡ true → body.class ≡ c
  same-class c e = let n : s.place.here.class ≡ c.0 = grind (arith, nat_tests) in stands.place.class ∙ ap class_numbered n

  field-place : (o : Core) (c : ClassId) (at : ℕ) (f : Option DeclaredField) → declared_at p.classes (record { class = c; at = at }) ≡ f
      → may_assign_field p is_blank s (builds p is_blank s && is_this o) (record { class = c; at = at }) f ≡ true → IsPlace q body (core.Field o c at)
  field-place o c at None e h = absurd cc
  field-place o c at (Some f) e h = either (IsPlace q body (core.Field o c at)) (not f.is_final) _ h
      (λ k. let d = represents.fields (record { class = c; at = at }) f e in fits.a_field d.there (d.is_final ∙ is_false k))
      (λ k. let r = three {a = builds p is_blank s && is_this o} k in let b = two {a = builds p is_blank s} r.0 in
      subst (λ (d : ClassId). IsPlace q body (core.Field o d at)) (same-class c r.2) (fits.an_own_field b.1 (stands.builds b.0)))

  static-place : (o : MaybeCore) (c : ClassId) (at : ℕ) (f : Option DeclaredField) → declared_at p.classes (record { class = c; at = at }) ≡ f
      → may_assign_field p is_blank s (starts p is_blank s) (record { class = c; at = at }) f ≡ true → IsPlace q body (core.Static o c at)
  static-place o c at None e h = absurd cc
  static-place o c at (Some f) e h = either (IsPlace q body (core.Static o c at)) (not f.is_final) _ h
      (λ k. let d = represents.fields (record { class = c; at = at }) f e in fits.a_static d.there (d.is_final ∙ is_false k))
      (λ k. let r = three {a = starts p is_blank s} k in subst (λ (d : ClassId). IsPlace q body (core.Static o d at)) (same-class c r.2) (fits.an_own_static (stands.starts r.0)))

  pub place-stands : (form : CoreForm) → may_be_assigned p is_blank s form ≡ true → is_place form ≡ true → IsPlace q body form
  place-stands (core.Local n) h k = fits.a_local
  place-stands (core.Index a i) h k = fits.an_element
  place-stands (core.Field o c at) h k = field-place o c at (declared_at p.classes (record { class = c; at = at })) refl h
  place-stands (core.Static o c at) h k = static-place o c at (declared_at p.classes (record { class = c; at = at })) refl h
  place-stands (core.Const v uses) h k = absurd cc
  place-stands (core.Text units uses) h k = absurd cc
  place-stands core.This h k = absurd cc
  place-stands (core.Length a) h k = absurd cc
  place-stands (core.Assign a v) h k = absurd cc
  place-stands (core.Update a o v old) h k = absurd cc
  place-stands (core.Unary o e) h k = absurd cc
  place-stands (core.Binary o a b) h k = absurd cc
  place-stands (core.And a b) h k = absurd cc
  place-stands (core.Or a b) h k = absurd cc
  place-stands (core.Choose c a b) h k = absurd cc
  place-stands (core.Convert e) h k = absurd cc
  place-stands (core.Cast e) h k = absurd cc
  place-stands (core.InstanceOf e t) h k = absurd cc
  place-stands (core.Concat a b) h k = absurd cc
  place-stands (core.CallVirtual o c n args) h k = absurd cc
  place-stands (core.CallExact o c n args) h k = absurd cc
  place-stands (core.New c n args captures word) h k = absurd cc
  place-stands (core.NewArray lengths) h k = absurd cc
  place-stands (core.ArrayOf values) h k = absurd cc

  pub value-target : (t : TypedNode) → IsValue q body p.heads t → IsTarget p q body is_blank s t
  value-target t v h k = (inl v, place-stands (form_of t.node) h k)

  pub below-target : (t : TypedNode) → FitsBelow q body p.heads t → IsTarget p q body is_blank s t
  below-target t v h k = (inr v, place-stands (form_of t.node) h k)
