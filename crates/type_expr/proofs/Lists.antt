-- A list of expressions, one after the other.
use Rattle.std.proofs.Common.{◌≡◌, ℕ, ◌+◌, ◌<◌, ◌≤◌, List, [], ◌∷◌, ◌++◌, length, drop, get_or, map, refl, ap, sym, ◌∙◌, append_assoc}
use Rattle.std.proofs.lemmas.List.{drop_all, drop_more}
use Rattle.je_base.specs.declared.span.Span.{Span}
use Rattle.je_ast.specs.declared.expr.Expr.{Expr}
use Rattle.je_ast.specs.Spans.{span_of}
use Rattle.je_ast.specs.Trees.{Expression, Expressions, no_expressions, more_expressions}
use Rattle.je_ast.specs.View.{view, views_of}
use Rattle.je_scopes.specs.SourceTypes.{SourceType}
use Rattle.je_typing.specs.declared.fault.Refusal.{Refusal}
use Rattle.je_typing.specs.Answers.{IsFault}
use Rattle.je_typing.specs.Judged.{Judged, gives, faulty, bind}
use Rattle.je_typing.proofs.Walks.{bind_faults}
use Rattle.body_scopes.specs.declared.scope.Scope.{Scope}
use Rattle.body_walks.specs.declared.bodies.Bodies.{Bodies}
use Rattle.operator_steps.specs.declared.part.Part.{Part}
use Rattle.operator_steps.specs.Parts.{part_seen}
use Rattle.typed_nodes.specs.declared.typed.TypedExpr.{TypedExpr}
use Rattle.typed_nodes.specs.Seen.{seen}
use Rattle.body_typing.specs.Expressions.{Purpose, initial, part, read}
use Rattle.type_expr.specs.Walk.{elements_for_in, lengths_in, value_in, values_in}
use Rattle.type_expr.specs.way.Lists.{parts_in}

-- what stands behind those that are done
abbrev pub behind : {B : Type 0} → List B → Judged (List B) → Judged (List B)
behind done rest = bind rest (λ bs. gives (done ++ bs))

behind-none : {B : Type 0} (rest : Judged (List B)) → behind [] rest ≡ rest
unfolding bind
behind-none (gives bs) = refl
behind-none (faulty f) = refl

append-none : {B : Type 0} (bs : List B) → bs ++ [] ≡ bs
append-none [] = refl
append-none (b ∷ bs) = ap (λ (cs : List _). b ∷ cs) (append-none bs)

all-done : {B : Type 0} (done : List B) → behind done (gives []) ≡ gives done
unfolding bind
all-done done = ap gives (append-none done)

behind-more : {B : Type 0} (done : List B) (b : B) (rest : Judged (List B)) →
    behind done (bind rest (λ bs. gives (b ∷ bs))) ≡ behind (done ++ b ∷ []) rest
unfolding bind
behind-more done b (gives bs) = ap gives (sym (append_assoc done (b ∷ []) bs))
behind-more done b (faulty f) = refl

one-done : {A B : Type 0} (f : A → B) (done : List B) (v : Judged A) (a : A) (rest : Judged (List B)) → v ≡ gives a →
    behind done (bind v (λ t. bind rest (λ bs. gives (f t ∷ bs)))) ≡ behind (done ++ f a ∷ []) rest
unfolding bind
one-done f done v a rest e = rw e (behind-more done (f a) rest)

one-faults : {A B : Type 0} (g : A → Judged (List B)) (done : List B) (v : Judged A) (r : Refusal) → IsFault v r → IsFault (behind done (bind v g)) r
one-faults g done v r h = bind_faults (bind v g) _ r (bind_faults v g r h)

next-is : (es : List Expr) (i : ℕ) (e : Expr) → i < length es → e ≡ get_or es i e → views_of (drop i es) ≡ more_expressions (view e) (views_of (drop (i + 1) es))
next-is es i e h q = ap views_of (drop_more es i e h) ∙ ap (λ (x : Expr). more_expressions (view x) (views_of (drop (i + 1) es))) (sym q)

map-more : {X B : Type 0} (see : X → B) (xs : List X) (y : X) → map see (xs ++ y ∷ []) ≡ map see xs ++ see y ∷ []
map-more see [] y = refl
map-more see (x ∷ xs) y = ap (λ (bs : List _). see x ∷ bs) (map-more see xs y)

-- `walk` judges a list, each expression by `one`, which comes to what `made` makes of it
module _ {A B X : Type 0} (walk : Expressions → Judged (List B)) (one : Expression → Judged A) (made : Expression → A → B) (see : X → B)
    (none : walk no_expressions ≡ gives [])
    (more : (e : Expression) (es : Expressions) → walk (more_expressions e es) ≡ bind (one e) (λ a. bind (walk es) (λ bs. gives (made e a ∷ bs))))
    (es : List Expr) where
  pub walk_begins : (done : List X) → done ≡ [] → walk (views_of es) ≡ behind (map see done) (walk (views_of (drop 0 es)))
  walk_begins done q = rw q (sym (behind-none (walk (views_of es))))

  pub walk_on : (i : ℕ) (e : Expr) (a : A) (done ready : List X) (y : X) → i < length es → e ≡ get_or es i e →
      walk (views_of es) ≡ behind (map see done) (walk (views_of (drop i es))) → one (view e) ≡ gives a → see y ≡ made (view e) a → ready ≡ done ++ y ∷ [] →
      walk (views_of es) ≡ behind (map see ready) (walk (views_of (drop (i + 1) es)))
  walk_on i e a done ready y h q so g s r =
      so ∙ ap (behind (map see done)) (ap walk (next-is es i e h q) ∙ more (view e) (views_of (drop (i + 1) es)))
      ∙ one-done (made (view e)) (map see done) (one (view e)) a (walk (views_of (drop (i + 1) es))) g
      ∙ ap (λ (b : B). behind (map see done ++ b ∷ []) (walk (views_of (drop (i + 1) es)))) (sym s)
      ∙ ap (λ (bs : List B). behind bs (walk (views_of (drop (i + 1) es)))) (sym (ap (map see) r ∙ map-more see done y))

  pub walk_faults : (i : ℕ) (e : Expr) (done : List X) (r : Refusal) → i < length es → e ≡ get_or es i e →
      walk (views_of es) ≡ behind (map see done) (walk (views_of (drop i es))) → IsFault (one (view e)) r → IsFault (walk (views_of es)) r
  walk_faults i e done r h q so f =
      rw (so ∙ ap (behind (map see done)) (ap walk (next-is es i e h q) ∙ more (view e) (views_of (drop (i + 1) es))))
      (one-faults _ (map see done) (one (view e)) r f)

  pub walk_ends : (i : ℕ) (done : List X) → length es ≤ i → walk (views_of es) ≡ behind (map see done) (walk (views_of (drop i es))) →
      walk (views_of es) ≡ gives (map see done)
  walk_ends i done h so = so ∙ ap (behind (map see done)) (ap (λ (ds : List Expr). walk (views_of ds)) (drop_all i es h) ∙ none) ∙ all-done (map see done)

-- values that are read
module _ (b : Bodies) (s : Scope) (es : List Expr) where
  pub values_begin : (done : List TypedExpr) → done ≡ [] → values_in b s (views_of es) ≡ behind (map seen done) (values_in b s (views_of (drop 0 es)))
  values_begin = walk_begins (values_in b s) (value_in b s read) (λ e t. t) seen refl (λ e rest. refl) es

  pub values_on : (i : ℕ) (e : Expr) (done ready : List TypedExpr) (y : TypedExpr) → i < length es → e ≡ get_or es i e →
      values_in b s (views_of es) ≡ behind (map seen done) (values_in b s (views_of (drop i es))) → value_in b s read (view e) ≡ gives (seen y) →
      ready ≡ done ++ y ∷ [] → values_in b s (views_of es) ≡ behind (map seen ready) (values_in b s (views_of (drop (i + 1) es)))
  values_on i e done ready y h q so g r =
      walk_on (values_in b s) (value_in b s read) (λ e t. t) seen refl (λ e rest. refl) es i e (seen y) done ready y h q so g refl r

  pub values_fault : (i : ℕ) (e : Expr) (done : List TypedExpr) (r : Refusal) → i < length es → e ≡ get_or es i e →
      values_in b s (views_of es) ≡ behind (map seen done) (values_in b s (views_of (drop i es))) → IsFault (value_in b s read (view e)) r →
      IsFault (values_in b s (views_of es)) r
  values_fault = walk_faults (values_in b s) (value_in b s read) (λ e t. t) seen refl (λ e rest. refl) es

  pub values_end : (i : ℕ) (done : List TypedExpr) → length es ≤ i →
      values_in b s (views_of es) ≡ behind (map seen done) (values_in b s (views_of (drop i es))) → values_in b s (views_of es) ≡ gives (map seen done)
  values_end = walk_ends (values_in b s) (value_in b s read) (λ e t. t) seen refl (λ e rest. refl) es

pub ruleset value_lists = (values_begin, values_on, values_fault, values_end)

-- parts of one purpose
module _ (b : Bodies) (s : Scope) (p : Purpose) (es : List Expr) where
  pub parts_begin : (done : List Part) → done ≡ [] → parts_in b s p (views_of es) ≡ behind (map part_seen done) (parts_in b s p (views_of (drop 0 es)))
  parts_begin = walk_begins (parts_in b s p) (value_in b s p) (λ e t. part (span_of e) t) part_seen refl (λ e rest. refl) es

  pub parts_on : (i : ℕ) (e : Expr) (done ready : List Part) (y : Part) → i < length es → e ≡ get_or es i e →
      parts_in b s p (views_of es) ≡ behind (map part_seen done) (parts_in b s p (views_of (drop i es))) → value_in b s p (view e) ≡ gives (seen y.value) →
      y.span ≡ span_of (view e) → ready ≡ done ++ y ∷ [] →
      parts_in b s p (views_of es) ≡ behind (map part_seen ready) (parts_in b s p (views_of (drop (i + 1) es)))
  parts_on i e done ready y h q so g is r =
      walk_on (parts_in b s p) (value_in b s p) (λ e t. part (span_of e) t) part_seen refl (λ e rest. refl) es i e (seen y.value) done ready y h q so g
      (ap (λ (written : Span). part written (seen y.value)) is) r

  pub parts_fault : (i : ℕ) (e : Expr) (done : List Part) (r : Refusal) → i < length es → e ≡ get_or es i e →
      parts_in b s p (views_of es) ≡ behind (map part_seen done) (parts_in b s p (views_of (drop i es))) → IsFault (value_in b s p (view e)) r →
      IsFault (parts_in b s p (views_of es)) r
  parts_fault = walk_faults (parts_in b s p) (value_in b s p) (λ e t. part (span_of e) t) part_seen refl (λ e rest. refl) es

  pub parts_end : (i : ℕ) (done : List Part) → length es ≤ i →
      parts_in b s p (views_of es) ≡ behind (map part_seen done) (parts_in b s p (views_of (drop i es))) →
      parts_in b s p (views_of es) ≡ gives (map part_seen done)
  parts_end = walk_ends (parts_in b s p) (value_in b s p) (λ e t. part (span_of e) t) part_seen refl (λ e rest. refl) es

pub ruleset part_lists = (parts_begin, parts_on, parts_fault, parts_end)

-- elements and lengths are parts of one purpose
pub elements_are : (b : Bodies) (s : Scope) (t : SourceType) (es : Expressions) → parts_in b s (initial t) es ≡ elements_for_in b s t es
elements_are b s t no_expressions = refl
elements_are b s t (more_expressions e es) = rw (elements_are b s t es) refl

pub lengths_are : (b : Bodies) (s : Scope) (es : Expressions) → parts_in b s read es ≡ lengths_in b s es
lengths_are b s no_expressions = refl
lengths_are b s (more_expressions e es) = rw (lengths_are b s es) refl
