-- The constant strings of the classes of a source stand once among the texts of the program.
use Rattle.std.proofs.Common.{◌≡◌, ℕ, ◌+◌, ◌-◌, List, ◌++◌, sym, ap, ◌∙◌, subst, arith}
use Rattle.std.specs.Prelude.{drop, flat_map, slice_get}
use Rattle.je_core.specs.Core.{CoreClass, CoreProgram}
use Rattle.je_classes.specs.Members.{In}
use Rattle.je_classes.proofs.Sets.{in-left, in-right}
use Rattle.je_scopes.specs.Source.{Source}
use Rattle.class_typing.specs.Programs.{library_count}
use Rattle.class_typing.specs.Texts.{TextAt, body_texts, class_texts, field_texts, initializer_texts, method_texts, texts}
use Rattle.elaborated_laws.specs.Elaborated.{IsElaborated}
use Rattle.elaborated_laws.specs.Laws.{TextsStand}
use Rattle.elaborated_laws.specs.TextsOnce.{TextsStandOnce}
use Rattle.elaborated_laws.proofs.Lists.{dropped, in-got}
use Rattle.elaborated_laws.proofs.Texts.{in-flat, text-once}
use Rattle.elaborated_laws.proofs.TextsInCode.{AreOnce, once-statement, once-value}

module _ (all : List (List ℕ)) (class : CoreClass) (once : AreOnce all (class_texts class)) where
  abbrev of-fields : List TextAt
  of-fields = flat_map field_texts class.fields

  abbrev of-initializers : List TextAt
  of-initializers = flat_map initializer_texts class.initializers

  abbrev of-methods : List TextAt
  of-methods = flat_map method_texts class.methods

  class-once : TextsStandOnce all class
  class-once = record {
    fields = λ f q. once-value all f.constant
        (λ t r. once t (in-left of-methods (in-left of-initializers (in-flat field_texts class.fields f t q r))));
    initializers = λ i q. once-statement all i.body
        (λ t r. once t (in-left of-methods (in-right of-fields (in-flat initializer_texts class.initializers i t q r))));
    methods = λ m s q e. once-statement all s
        (λ t r. once t (in-right (of-fields ++ of-initializers) (in-flat method_texts class.methods m t q
        (subst (λ o. In (body_texts o) t) (sym e) r))));
  }

pub texts_stand : (source : Source) (program : CoreProgram) (e : IsElaborated source program) → TextsStand source program e
texts_stand source program e c class le there =
    let n = library_count source in
    let place : n + (c - n) ≡ c = omega (arith, le) in
    let among : In (drop n program.classes) class =
    in-got (drop n program.classes) (c - n) class
    (dropped n program.classes (c - n) ∙ ap (slice_get program.classes) place ∙ there) in
    subst (λ ts. TextsStandOnce ts class) (sym e.texts)
    (class-once (texts (drop n program.classes)) class (λ t q. text-once (drop n program.classes) class t among q))
