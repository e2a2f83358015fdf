-- String concatenation fits where its operands do.
use Rattle.std.proofs.Common.{◌≡◌, ℕ, List, ◌++◌, Option, Some, None, refl, sym, ap, ◌∙◌}
use Rattle.std.specs.Prelude.{Bool, true, false, not, ◌||◌, count_by, nat_eq}
use Rattle.std.specs.Str.{bytes_eq}
use Rattle.std.proofs.lemmas.Bool.{eqb-true, eq-eqb}
use Rattle.je_base.specs.declared.span.Span.{Span}
use Rattle.je_core.specs.declared.expr.Use.{Use}
use Rattle.je_core.specs.declared.types.Ty.{Ty}
use Rattle.je_core.specs.Core.{Core, CoreProgram, node, ty_of}
use Rattle.je_core.specs.Core as core
use Rattle.je_classes.specs.Subtypes.{same_type}
use Rattle.je_classes.proofs.Same.{same_base-refl}
use Rattle.je_fitting.specs.Expressions.{Body, Fits, are_there}
use Rattle.je_fitting.specs.Expressions as fits
use Rattle.je_fitting.specs.Operators.{joins}
use Rattle.je_fitting.specs.Types.{string}
use Rattle.je_fitting.proofs.Booleans.{two, both, is_not}
use Rattle.je_scopes.specs.SourceTypes.{SourceType}
use Rattle.plain_programs.specs.Nodes.{every}
use Rattle.source_types.proofs.Same.{same-equal}
use Rattle.source_types.specs.Erasure.{erased}
use Rattle.source_types.specs.Heads.{ClassHead}
use Rattle.je_typing.specs.declared.fault.TypeRule.TheVariants.{BadOperand}
use Rattle.je_typing.specs.Constants.{joined_texts, spelled, uses_of}
use Rattle.je_typing.specs.Judged.{bind, check, gives}
use Rattle.je_typing.specs.Operators.{concat_node, concatenation, text_or}
use Rattle.je_typing.specs.Typed.{TypedNode, is_string, is_void, string_type}
use Rattle.typing_laws.specs.Fitting.{BoundsFit, FitsAs, Gives, stands_once, with_texts}
use Rattle.typing_laws.specs.Laws.{ConcatenationsFit}
use Rattle.typing_laws.proofs.Erased.{erased-not-void}
use Rattle.typing_laws.proofs.Nodes.{no-uses, uses-together}

or-true : (b : Bool) → (b || true) ≡ true
or-true true = refl
or-true false = refl

same_type-same : (t : Ty) → same_type t t ≡ true
same_type-same t = both (eq-eqb t.dims t.dims refl) (same_base-refl t.base)

pub string-erased : (heads : List ClassHead) → erased heads string_type ≡ string
unfolding erased
string-erased heads = refl

pub string-typed : (heads : List ClassHead) (t : SourceType) → is_string t ≡ true → same_type (erased heads t) string ≡ true
string-typed heads t e = ap (λ (u : SourceType). same_type (erased heads u) string) (same-equal t string_type e) ∙ ap (λ (u : Ty). same_type u string) (string-erased heads) ∙ same_type-same string

-- where one is a String, and neither is `void`
joins-them : (heads : List ClassHead) → BoundsFit heads → (s t : SourceType) → (is_string s || is_string t) ≡ true → (is_void s || is_void t) ≡ false → joins (erased heads s) (erased heads t) ≡ true
joins-them heads bounds s t one none =
    let sides = neither (is_void s) (is_void t) none in
    both (both (some (is_string s) (is_string t) (string-typed heads s) (string-typed heads t) one) (is_not (erased-not-void heads bounds s sides.0))) (is_not (erased-not-void heads bounds t sides.1))
  where
    neither : (a b : Bool) → (a || b) ≡ false → (a ≡ false) × (b ≡ false)
    neither false false h = (refl, refl)
    neither true b h = absurd cc
    neither false true h = absurd cc

    some : (a b : Bool) {c d : Bool} → (a ≡ true → c ≡ true) → (b ≡ true → d ≡ true) → (a || b) ≡ true → (c || d) ≡ true
    some true b {c = c} {d = d} f g h = ap (λ x. x || d) (f refl)
    some false true {c = c} {d = d} f g h = ap (λ x. c || x) (g refl) ∙ or-true c
    some false false f g h = absurd cc

module _ (p : CoreProgram) (body : Body) (heads : List ClassHead) (at span : Span) (left right : TypedNode) (bounds : BoundsFit heads) (l : FitsAs p body heads left) (r : FitsAs p body heads right) where
  abbrev joined : Core
  joined = node (core.Concat left.node right.node) string span at

  joined-fits : joins (ty_of left.node) (ty_of right.node) ≡ true → (texts : List (List ℕ)) → every (stands_once texts) joined ≡ true → Fits (with_texts p texts) body joined
  joined-fits j texts h = let sides = two {a = every (stands_once texts) left.node} h in fits.concat (l.node texts sides.0) (r.node texts sides.1) j

  text-fits : (units : List ℕ) (uses : List Use) → are_there p uses → (texts : List (List ℕ)) → every (stands_once texts) (node (core.Text units uses) string span at) ≡ true
      → Fits (with_texts p texts) body (node (core.Text units uses) string span at)
  text-fits units uses k texts h = fits.text (eqb-true (count_by (λ t. bytes_eq t units) texts) 1 (two {a = nat_eq (count_by (λ t. bytes_eq t units) texts) 1} h).0) k

  or-fits : (units : Option (List ℕ)) (uses : List Use) → are_there p uses → joins (ty_of left.node) (ty_of right.node) ≡ true → FitsAs p body heads (record { node = text_or units uses span at joined; type = string_type })
  or-fits None uses k j = record { node = joined-fits j; uses = no-uses p body heads; type = sym (string-erased heads) }
  or-fits (Some units) uses k j = record { node = text-fits units uses k; uses = k; type = sym (string-erased heads) }

  concatenation-fits : (is_string left.type || is_string right.type) ≡ true → Gives (FitsAs p body heads) (concatenation at span left right)
  unfolding concatenation bind check
  concatenation-fits one = by (is_void left.type || is_void right.type) refl
    where
      by : (x : Bool) → (is_void left.type || is_void right.type) ≡ x
          → Gives (FitsAs p body heads) (bind (check BadOperand at (not x)) (λ u. gives (record { node = concat_node at span left.node right.node; type = string_type })))
      by true e = tt
      by false e = or-fits (joined_texts (spelled left.node) (spelled right.node)) (uses_of left.node ++ uses_of right.node) (uses-together p body heads (uses_of left.node) (uses_of right.node) l.uses r.uses)
          (ap (λ (u : Ty). joins u (ty_of right.node)) l.type ∙ ap (joins (erased heads left.type)) r.type ∙ joins-them heads bounds left.type right.type one e)

pub concatenations_fit : (p : CoreProgram) (body : Body) (heads : List ClassHead) → ConcatenationsFit p body heads
concatenations_fit p body heads at span left right bounds one l r = concatenation-fits p body heads at span left right bounds l r one
