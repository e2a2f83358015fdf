-- A small program passes the tests, and what passes is small.
use Rattle.std.proofs.Common.{◌≡◌, ℕ, ◌<◌, ◌^◌, length, arith, true}
use Rattle.std.proofs.lemmas.Bool.Decides.{nat_tests}
use Rattle.std.proofs.lemmas.List.Elements.{All-weaker}
use Rattle.std.proofs.lemmas.List.Sums.{AllPass-from_list_all, list_all-from_AllPass}
use Rattle.je_core.specs.Core.{CoreInitializer, CoreMethod, CoreClass, CoreProgram}
use Rattle.je_fitting.proofs.Booleans.{three, seven, both}
use Rattle.je_types.specs.Limits.{ClassIsSmall, IsSmall}
use Rattle.je_types.specs.way.Small.{begins_few_locals, has_few_locals, is_few, is_small, is_small_class, number_of_statics}

few : (n : ℕ) → is_few n ≡ true → n < 2 ^ 31
few n e = grind (arith, nat_tests)

is_few_where : (n : ℕ) → n < 2 ^ 31 → is_few n ≡ true
is_few_where n l = grind (arith, nat_tests)

small_class : (c : CoreClass) → is_small_class c ≡ true → ClassIsSmall c
small_class c e =
    let q = seven e in
    record {
      heads = few (length c.heads) q.0;
      interfaces = few (length c.interfaces) q.1;
      fields = few (length c.fields) q.2;
      initializers = few (length c.initializers) q.3;
      methods = few (length c.methods) q.4;
      method_locals = All-weaker (λ m. has_few_locals m ≡ true) (λ (m : CoreMethod). length m.locals < 2 ^ 31) (λ m. few (length m.locals)) c.methods
          (AllPass-from_list_all has_few_locals c.methods q.5);
      initializer_locals = All-weaker (λ i. begins_few_locals i ≡ true) (λ (i : CoreInitializer). length i.locals < 2 ^ 31) (λ i. few (length i.locals)) c.initializers
          (AllPass-from_list_all begins_few_locals c.initializers q.6);
    }

class_passes : (c : CoreClass) → ClassIsSmall c → is_small_class c ≡ true
class_passes c s =
    both (both (both (both (both (both (is_few_where (length c.heads) s.heads) (is_few_where (length c.interfaces) s.interfaces))
    (is_few_where (length c.fields) s.fields)) (is_few_where (length c.initializers) s.initializers)) (is_few_where (length c.methods) s.methods))
    (list_all-from_AllPass has_few_locals c.methods
    (All-weaker (λ (m : CoreMethod). length m.locals < 2 ^ 31) (λ m. has_few_locals m ≡ true) (λ m. is_few_where (length m.locals)) c.methods s.method_locals)))
    (list_all-from_AllPass begins_few_locals c.initializers
    (All-weaker (λ (i : CoreInitializer). length i.locals < 2 ^ 31) (λ i. begins_few_locals i ≡ true) (λ i. is_few_where (length i.locals)) c.initializers s.initializer_locals))

pub what_passes : (p : CoreProgram) → is_small p ≡ true → IsSmall p
what_passes p e =
    let q = three e in
    record {
      classes = few (length p.classes) q.0;
      each = All-weaker (λ c. is_small_class c ≡ true) ClassIsSmall small_class p.classes (AllPass-from_list_all is_small_class p.classes q.1);
      statics = few (number_of_statics p) q.2;
    }

pub small_passes : (p : CoreProgram) → IsSmall p → is_small p ≡ true
small_passes p s =
    both (both (is_few_where (length p.classes) s.classes)
    (list_all-from_AllPass is_small_class p.classes (All-weaker ClassIsSmall (λ c. is_small_class c ≡ true) class_passes p.classes s.each)))
    (is_few_where (number_of_statics p) s.statics)
