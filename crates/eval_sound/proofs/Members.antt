-- Where a method stands, and what has a body.
use Rattle.std.proofs.Common.{◌≡◌, ℕ, Option, Some, None, refl, sym, ap, subst, ◌∙◌}
use Rattle.std.specs.Prelude.{Bool, true, false, not, ◌&&◌, ◌||◌, slice_get, is_some}
use Rattle.std.proofs.lemmas.Option.{same_Some}
use Rattle.je_core.specs.declared.types.ClassId.{ClassId}
use Rattle.je_core.specs.Core.{CoreStmt, CoreMethod, CoreClass, CoreProgram}
use Rattle.je_classes.specs.Hierarchy.{class_at}
use Rattle.je_classes.specs.Members.{methods_in}
use Rattle.je_fitting.specs.Expressions.{method_at, is_constructor}
use Rattle.je_fitting.specs.Members.{is_guest, MethodFits}
use Rattle.je_fitting.specs.Program.{FitsProgram, PartFits, method_fits, a_method, is_method}
use Rattle.je_fitting.proofs.Booleans.{two}
use Rattle.eval_sound.specs.Premises.{IsOfLibrary, NoneNative}

-- ---- where a method stands

pub record MethodClass (p : CoreProgram) (class : ClassId) (at : ℕ) (m : CoreMethod) : Type 0 where
  pub the_class : CoreClass
  pub there : class_at p class ≡ Some the_class
  pub its : slice_get the_class.methods at ≡ Some m
  pub fits : MethodFits p class the_class m

pub method-class : (p : CoreProgram) (f : FitsProgram p) (class : ClassId) (at : ℕ) (m : CoreMethod) → method_at p class at ≡ Some m → MethodClass p class at m
method-class p f class at m e = by (class_at p class) refl e
  where
    of-part : (c : CoreClass) → slice_get c.methods at ≡ Some m → PartFits p class c (a_method at) → MethodFits p class c m
    of-part c q (method_fits {m = k} h fits) = subst (MethodFits p class c) (same_Some k m (sym h ∙ q)) fits

    by : (o : Option CoreClass) → class_at p class ≡ o → slice_get (methods_in o) at ≡ Some m → MethodClass p class at m
    by None q h = absurd cc
    by (Some c) q h = record { the_class = c; there = q; its = h; fits = of-part c h ((f class c q).parts (a_method at) (is_method h)) }

-- a body is a guest's
pub guest-of-body : (p : CoreProgram) (f : FitsProgram p) (class : ClassId) (at : ℕ) (m : CoreMethod) (b : CoreStmt) → method_at p class at ≡ Some m → m.body ≡ Some b → is_guest class ≡ true
guest-of-body p f class at m b is e =
    let h = method-class p f class at m is in
    let guest : (is_guest class && not (m.flags.is_abstract || m.flags.is_native)) ≡ true = sym h.fits.has_body ∙ ap is_some e in
    (two {a = is_guest class} {b = not (m.flags.is_abstract || m.flags.is_native)} guest).0

-- A concrete method without a body is of the library, where none is native.
pub bodiless : (p : CoreProgram) (f : FitsProgram p) → NoneNative p → (class : ClassId) (at : ℕ) (m : CoreMethod) → method_at p class at ≡ Some m → m.flags.is_abstract ≡ false → m.body ≡ None → IsOfLibrary p class at m
bodiless p f none class at m is concrete e = record { there = is; of_library = guest (is_guest class) refl; concrete = concrete }
  where
    has : is_some m.body ≡ (is_guest class && not (m.flags.is_abstract || m.flags.is_native))
    has = (method-class p f class at m is).fits.has_body

    no-flags : not (m.flags.is_abstract || m.flags.is_native) ≡ true
    no-flags = ap (λ b. not (b || m.flags.is_native)) concrete ∙ ap not (none class at m is)

    guest : (b : Bool) → is_guest class ≡ b → b ≡ false
    guest false q = refl
    guest true q =
        let z : false ≡ true = sym (ap is_some e) ∙ has ∙ ap (λ b. b && not (m.flags.is_abstract || m.flags.is_native)) q ∙ no-flags in
        absurd cc

-- the same of a constructor, which is never abstract
pub bodiless-constructor : (p : CoreProgram) (f : FitsProgram p) → NoneNative p → (class : ClassId) (at : ℕ) (m : CoreMethod) → method_at p class at ≡ Some m → is_constructor p m ≡ true → m.body ≡ None → IsOfLibrary p class at m
bodiless-constructor p f none class at m is con e = bodiless p f none class at m is ((method-class p f class at m is).fits.constructor con).concrete e
