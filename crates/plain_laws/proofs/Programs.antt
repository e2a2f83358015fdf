-- A program that fits and breaks no rule is plain.
use Rattle.std.proofs.Common.{◌≡◌, ℕ, List, Option, Some, None, refl, sym, ap, ◌∙◌, subst, arith}
use Rattle.std.specs.Prelude.{Bool, true, false, not, ◌&&◌, ◌||◌, slice_get}
use Rattle.std.proofs.lemmas.Option.{none-some, same_Some}
use Rattle.je_core.specs.declared.types.ClassId.{ClassId}
use Rattle.je_core.specs.Core.{CoreField, CoreMethod, CoreClass, CoreProgram, CoreStmt}
use Rattle.je_classes.specs.Fields.{fields_in}
use Rattle.je_classes.specs.Hierarchy.{class_at}
use Rattle.je_classes.specs.Members.{methods_in}
use Rattle.je_classes.proofs.Lists.{bool_cases}
use Rattle.je_fitting.proofs.ClassesDecided.{at-place}
use Rattle.je_fitting.specs.Expressions.{field_at, is_constructor, method_at, starts}
use Rattle.je_fitting.specs.Members.{InitializerFits, MethodFits, body_of, code_of, initializer_body, initializer_code, is_guest}
use Rattle.je_fitting.specs.Classes.{ClassFits}
use Rattle.je_fitting.specs.Program.{FitsProgram, PartFits, itself, a_method, itself_fits, method_fits, is_itself, is_method}
use Rattle.library_classes.specs.Library.{LibraryStands}
use Rattle.plain_programs.specs.Nodes.{every_expression}
use Rattle.plain_programs.specs.Plain.{IsBody, IsPlain, of_method, of_initializer, assigns_static}
use Rattle.taming_db.specs.Rows.{Row}
use Rattle.rule_breaks.specs.declared.rules.ConfinementRule.TheVariants as kind
use Rattle.static_rules.specs.StaticRules.{class_breaks, method_breaks, static_breaks, static_field_breaks}
use Rattle.use_laws.specs.Laws.{IsPlainBody, IsUnbroken, UsesArePlain}
use Rattle.use_laws.proofs.Plain.{left, right, not-tested}
use Rattle.use_laws.proofs.Programs.{of-class, of-one, unbroken_uses}
use Rattle.plain_laws.specs.Laws.{UnbrokenIsPlain}
use Rattle.plain_laws.proofs.Library.{class-due, field-final, no-body, no-initializer, not-native}
use Rattle.plain_laws.proofs.Statics.{StaticsAreFinal, body_assigns_none, statement_assigns_none}
use Rattle.plain_laws.proofs.Tamed.{tame_is_not_wild}
use Rattle.plain_laws.proofs.Texts.{strings_are_not_wild}

-- ---- what stands where

-- a method that is there, of a class that is there
record IsThere (p : CoreProgram) (class : ClassId) (at : ℕ) (m : CoreMethod) : Type 0 where
  c : CoreClass
  there : class_at p class ≡ Some c
  method : slice_get c.methods at ≡ Some m

method-there : (p : CoreProgram) (class : ClassId) (at : ℕ) (m : CoreMethod) → method_at p class at ≡ Some m → IsThere p class at m
method-there p class at m e = by (class_at p class) refl e
  where
    by : (o : Option CoreClass) → class_at p class ≡ o → slice_get (methods_in o) at ≡ Some m → IsThere p class at m
    by None q h = absurd (none-some m h)
    by (Some c) q h = record { c = c; there = q; method = h }

record HasField (p : CoreProgram) (class : ClassId) (at : ℕ) (f : CoreField) : Type 0 where
  c : CoreClass
  there : class_at p class ≡ Some c
  field : slice_get c.fields at ≡ Some f

field-there : (p : CoreProgram) (class : ClassId) (at : ℕ) (f : CoreField) → field_at p class at ≡ Some f → HasField p class at f
field-there p class at f e = by (class_at p class) refl e
  where
    by : (o : Option CoreClass) → class_at p class ≡ o → slice_get (fields_in o) at ≡ Some f → HasField p class at f
    by None q h = absurd (none-some f h)
    by (Some c) q h = record { c = c; there = q; field = h }

final-where : (own blank held : Bool) → (own && (not blank || not held)) ≡ false → own ≡ true → blank ≡ true
final-where own true held h k = refl
final-where true false held h k = absurd cc
final-where false false held h k = absurd cc

starts-none : (b : Bool) → starts (code_of b) ≡ false
starts-none true = refl
starts-none false = refl

module _ (p : CoreProgram) (rows : List Row) (library : LibraryStands p) (fits : FitsProgram p) (u : IsUnbroken (static_breaks p rows)) (uses : UsesArePlain p) where
  -- ---- static state

  class-unbroken : (class : ClassId) (c : CoreClass) → is_guest class ≡ true → class_at p class ≡ Some c → IsUnbroken (class_breaks p rows class c)
  unfolding static_breaks
  class-unbroken class c g e = of-class (class_breaks p rows) 0 p.classes u class.0 c e class (omega arith) g

  none-native : (class : ClassId) (at : ℕ) (m : CoreMethod) → method_at p class at ≡ Some m → m.flags.is_native ≡ false
  none-native class at m e = let t = method-there p class at m e in bool_cases (λ b. is_guest class ≡ b → m.flags.is_native ≡ false) (is_guest class)
      (λ _ g. not-tested m.flags.is_native kind.NativeMethod m.span (left _ _ (of-one method_breaks t.c.methods (right _ _ (class-unbroken class t.c g t.there)) at m t.method)))
      (λ _ g. not-native library.number t.c (class-due p library class t.c g t.there) at m t.method) refl

  statics-final : StaticsAreFinal p
  statics-final class at f e own = let t = field-there p class at f e in bool_cases (λ b. is_guest class ≡ b → f.is_final ≡ true) (is_guest class)
      (λ _ g. final-where f.is_static f.is_final _ (not-tested _ kind.StaticField f.span (of-one (static_field_breaks p rows) t.c.fields (left _ _ (class-unbroken class t.c g t.there)) at f t.field)) own)
      (λ _ g. field-final library.number t.c (class-due p library class t.c g t.there) at f t.field) refl

  method-fits : (class : ClassId) (c : CoreClass) (at : ℕ) (m : CoreMethod) → class_at p class ≡ Some c → slice_get c.methods at ≡ Some m → MethodFits p class c m
  method-fits class c at m there e = by ((fits class c there).parts (a_method at) (is_method e))
    where
      by : PartFits p class c (a_method at) → MethodFits p class c m
      by (method_fits {m = k} h fit) = subst (MethodFits p class c) (same_Some k m (sym h ∙ e)) fit

  class-fits : (class : ClassId) (c : CoreClass) → class_at p class ≡ Some c → ClassFits p class c
  class-fits class c there = by ((fits class c there).parts itself is_itself)
    where
      by : PartFits p class c itself → ClassFits p class c
      by (itself_fits fit) = fit

  none-assigned : (b : Bool) (s : CoreStmt) → IsBody p b s → b ≡ false → every_expression (λ f. not (assigns_static f)) s ≡ true
  none-assigned _ _ (of_method class c at m s there e h) later =
      body_assigns_none p (body_of p class m) statics-final (starts-none (is_constructor p m)) s ((method-fits class c at m there e).body s h)
  none-assigned _ _ (of_initializer class c at i there e) later =
      statement_assigns_none p (initializer_body class i) statics-final (ap (λ b. starts (initializer_code b)) later) i.body
      (at-place (InitializerFits p class) c.initializers at i (class-fits class c there).initializers e).body

  -- ---- what bodies use

  body-plain : (b : Bool) (s : CoreStmt) → IsBody p b s → IsPlainBody p s
  body-plain _ _ (of_method class c at m s there e h) = bool_cases (λ b. is_guest class ≡ b → IsPlainBody p s) (is_guest class)
      (λ _ g. uses.methods class c at m s g there e h)
      (λ _ g. absurd (none-some s (sym (no-body library.number c (class-due p library class c g there) at m e) ∙ h))) refl
  body-plain _ _ (of_initializer class c at i there e) = bool_cases (λ b. is_guest class ≡ b → IsPlainBody p i.body) (is_guest class)
      (λ _ g. uses.initializers class c at i g there e)
      (λ _ g. absurd (no-initializer library.number c (class-due p library class c g there) at i e)) refl

  plain : IsPlain p
  plain = record {
    no_native = none-native;
    no_finally = λ starts s b. (body-plain starts s b).no_finally;
    no_static_assigned = λ s b. none-assigned false s b refl;
    no_wild_named = λ starts s b. (body-plain starts s b).no_wild_named;
    no_wild_joined = λ starts s b. (body-plain starts s b).no_wild_joined;
    no_wild_implements = uses.implements;
  }

pub unbroken_is_plain : UnbrokenIsPlain
unbroken_is_plain p rows library fits enabled statics broken =
    plain p rows library fits statics (unbroken_uses p rows (tame_is_not_wild rows enabled) (strings_are_not_wild p library) broken)
