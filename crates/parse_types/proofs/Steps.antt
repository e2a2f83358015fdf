-- The loops of the reading functions, at a count n of which i are used.
use Rattle.std.proofs.Common.{◌≡◌, ℕ, zero, suc, ◌+◌, ◌-◌, ◌<◌, ◌≤◌, Some, None, List, [], ◌∷◌, ◌++◌, map, max, sub-one, refl, arith}
use Rattle.std.proofs.lemmas.List.{map_push}
use Rattle.je_base.specs.declared.span.Span.{Span}
use Rattle.je_token.specs.declared.keyword.Keyword.{Keyword}
use Rattle.je_token.specs.declared.keyword.Keyword.TheVariants as word
use Rattle.je_token.specs.declared.symbol.Symbol.TheVariants as symbol
use Rattle.je_token.specs.declared.token.Token.{Token}
use Rattle.je_ast.specs.declared.name.Identifier.{Identifier}
use Rattle.je_ast.specs.declared.name.Name.{Name}
use Rattle.std.specs.Str.{bytes_eq}
use Rattle.je_ast.specs.declared.ty_name.TyName.{TyName}
use Rattle.je_ast.specs.declared.decl.Formal.{Formal}
use Rattle.je_ast.specs.declared.decl.TypeParam.{TypeParam}
use Rattle.je_ast.specs.declared.decl.Modifier.{Modifier}
use Rattle.je_ast.specs.Height.{formals_height, parameters_height, type_height_if}
use Rattle.je_ast.specs.Types.{QualifiedName, name_view, FormalParameter, formal_view, TypeParameter, parameter_view, TypeName, no_types, type_names, type_view, type_views_of, type_height, types_height}
use Rattle.je_ast.specs.Spans.{join}
use Rattle.parse_laws.specs.way.Tokens.{Read, with, ◌>>=◌, behind, behind_word, closes_at}
use Rattle.parse_laws.specs.way.Types.{part_at, parts_at, name_at, more_names_at, pair_at, dims_at, more_dims_at, type_argument_at, type_arguments_at, reference_layer, reference_at, type_layer, type_at, formal_at, more_formals_at, parameter_at, more_parameters_at, superclass_at, references_at, more_references_at, modifier_at, more_modifiers_at, same_text}

pub parts_step : (n i : ℕ) (front : List Identifier) (s : Span) (ts : List Token) → i < n →
    parts_at (n - i) front s ts ≡ with (part_at ts) (λ x. parts_at (n - (i + 1)) (front ++ x.0 ∷ []) (join s x.0.span) x.1) (record { parts = front; span = s }, ts)
unfolding parts_at
parts_step n i front s ts lt =
    let eq : n - i ≡ suc (n - (i + 1)) = omega arith in
    rw eq refl

pub parts_none : (n i : ℕ) (front : List Identifier) (s : Span) (ts : List Token) → n ≤ i → parts_at (n - i) front s ts ≡ (record { parts = front; span = s }, ts)
unfolding parts_at
parts_none n i front s ts le =
    let eq : n - i ≡ 0 = omega arith in
    rw eq refl

pub names_step : (n i : ℕ) (front : List QualifiedName) (ts : List Token) → i < n →
    more_names_at (n - i) front ts ≡ with (behind symbol.Comma ts) (λ mid. name_at mid >>= λ x. more_names_at (n - (i + 1)) (front ++ x.0 ∷ []) x.1) (Some (front, ts))
unfolding more_names_at
names_step n i front ts lt =
    let eq : n - i ≡ suc (n - (i + 1)) = omega arith in
    rw eq refl

pub names_none : (n i : ℕ) (front : List QualifiedName) (ts : List Token) → n ≤ i → more_names_at (n - i) front ts ≡ Some (front, ts)
unfolding more_names_at
names_none n i front ts le =
    let eq : n - i ≡ 0 = omega arith in
    rw eq refl

pub dims_step : (n i count : ℕ) (s : Span) (ts : List Token) → i < n →
    more_dims_at (n - i) count s ts ≡ with (pair_at ts) (λ x. more_dims_at (n - (i + 1)) (suc count) (join s x.0) x.1) (count, s, ts)
unfolding more_dims_at
dims_step n i count s ts lt =
    let eq : n - i ≡ suc (n - (i + 1)) = omega arith in
    rw eq refl

pub dims_none : (n i count : ℕ) (s : Span) (ts : List Token) → n ≤ i → more_dims_at (n - i) count s ts ≡ (count, s, ts)
unfolding more_dims_at
dims_none n i count s ts le =
    let eq : n - i ≡ 0 = omega arith in
    rw eq refl

pub names_push : (ns : List Name) (n : Name) → map name_view (ns ++ n ∷ []) ≡ map name_view ns ++ name_view n ∷ []
names_push ns n = map_push name_view ns n

pub dims_stop : (s : Span) (ts : List Token) → behind symbol.OpenBracket ts ≡ None → dims_at s ts ≡ (0, s, ts)
unfolding dims_at more_dims_at
dims_stop s [] none = refl
dims_stop s (t ∷ ts) none = rw none refl

pub type_at_zero : (ts : List Token) → type_at 0 ts ≡ None
unfolding type_at
type_at_zero ts = refl

pub type_at_step : (b : ℕ) (ts : List Token) → 0 < b → type_at b ts ≡ type_layer (type_at (b - 1)) ts
unfolding type_at
type_at_step zero ts h = absurd (omega arith)
type_at_step (suc b) ts h = rw sub-one refl

pub reference_at_zero : (ts : List Token) → reference_at 0 ts ≡ None
unfolding reference_at
reference_at_zero ts = refl

pub reference_at_step : (b : ℕ) (ts : List Token) → 0 < b → reference_at b ts ≡ reference_layer (type_at (b - 1)) ts
unfolding reference_at
reference_at_step zero ts h = absurd (omega arith)
reference_at_step (suc b) ts h = rw sub-one refl

pub arguments_step : (p : List Token → Read TypeName) (n i : ℕ) (front : List TypeName) (ts : List Token) → i < n →
    type_arguments_at p (n - i) front ts ≡ (type_argument_at p ts >>= λ x.
    with (behind symbol.Comma x.1) (λ mid. type_arguments_at p (n - (i + 1)) (front ++ x.0 ∷ []) mid)
    (closes_at x.1 >>= λ c. Some (type_names (front ++ x.0 ∷ []), c.0, c.1)))
unfolding type_arguments_at
arguments_step p n i front ts lt =
    let eq : n - i ≡ suc (n - (i + 1)) = omega arith in
    rw eq refl

pub arguments_none : (p : List Token → Read TypeName) (n i : ℕ) (front : List TypeName) (ts : List Token) → n ≤ i → type_arguments_at p (n - i) front ts ≡ None
unfolding type_arguments_at
arguments_none p n i front ts le =
    let eq : n - i ≡ 0 = omega arith in
    rw eq refl

pub types_push : (ts : List TyName) (t : TyName) → map type_view (ts ++ t ∷ []) ≡ map type_view ts ++ type_view t ∷ []
types_push ts t = map_push type_view ts t

pub types_height_push : (ts : List TypeName) (t : TypeName) → types_height (type_names (ts ++ t ∷ [])) ≡ max (types_height (type_names ts)) (type_height t)
types_height_push [] t = omega arith
types_height_push (u ∷ ts) t = omega (arith, types_height_push ts t)

pub views_height_push : (ts us : List TyName) (t : TyName) → us ≡ ts ++ t ∷ [] → types_height (type_views_of us) ≡ max (types_height (type_views_of ts)) (type_height (type_view t))
views_height_push ts us t pushed = rw (pushed, types_push ts t) (types_height_push (map type_view ts) (type_view t))

pub formals_step : (n i h : ℕ) (front : List FormalParameter) (ts : List Token) → i < n →
    more_formals_at (n - i) h front ts ≡ (formal_at h ts >>= λ x.
    with (behind symbol.Comma x.1) (λ mid. more_formals_at (n - (i + 1)) h (front ++ x.0 ∷ []) mid)
    (behind symbol.CloseParen x.1 >>= λ rest. Some (front ++ x.0 ∷ [], rest)))
unfolding more_formals_at
formals_step n i h front ts lt =
    let eq : n - i ≡ suc (n - (i + 1)) = omega arith in
    rw eq refl

pub formals_none : (n i h : ℕ) (front : List FormalParameter) (ts : List Token) → n ≤ i → more_formals_at (n - i) h front ts ≡ None
unfolding more_formals_at
formals_none n i h front ts le =
    let eq : n - i ≡ 0 = omega arith in
    rw eq refl

pub formals_push : (fs : List Formal) (f : Formal) → map formal_view (fs ++ f ∷ []) ≡ map formal_view fs ++ formal_view f ∷ []
formals_push fs f = map_push formal_view fs f

pub formals_height_push : (fs : List FormalParameter) (f : FormalParameter) → formals_height (fs ++ f ∷ []) ≡ max (formals_height fs) (type_height f.declared)
formals_height_push [] f = omega arith
formals_height_push (g ∷ fs) f = omega (arith, formals_height_push fs f)

pub parameters_step : (n i h : ℕ) (front : List TypeParameter) (ts : List Token) → i < n →
    more_parameters_at (n - i) h front ts ≡ (parameter_at h ts >>= λ x.
    with (behind symbol.Comma x.1) (λ mid. more_parameters_at (n - (i + 1)) h (front ++ x.0 ∷ []) mid)
    (closes_at x.1 >>= λ c. Some (front ++ x.0 ∷ [], c.1)))
unfolding more_parameters_at
parameters_step n i h front ts lt =
    let eq : n - i ≡ suc (n - (i + 1)) = omega arith in
    rw eq refl

pub parameters_none : (n i h : ℕ) (front : List TypeParameter) (ts : List Token) → n ≤ i → more_parameters_at (n - i) h front ts ≡ None
unfolding more_parameters_at
parameters_none n i h front ts le =
    let eq : n - i ≡ 0 = omega arith in
    rw eq refl

pub parameters_push : (ps : List TypeParam) (p : TypeParam) → map parameter_view (ps ++ p ∷ []) ≡ map parameter_view ps ++ parameter_view p ∷ []
parameters_push ps p = map_push parameter_view ps p

pub parameters_height_push : (ps : List TypeParameter) (p : TypeParameter) → parameters_height (ps ++ p ∷ []) ≡ max (parameters_height ps) (type_height_if p.bound)
parameters_height_push [] p = omega arith
parameters_height_push (q ∷ ps) p = omega (arith, parameters_height_push ps p)

pub references_step : (n i h : ℕ) (front : List TypeName) (ts : List Token) → i < n →
    more_references_at (n - i) h front ts ≡ (reference_at h ts >>= λ x.
    with (behind symbol.Comma x.1) (λ mid. more_references_at (n - (i + 1)) h (front ++ x.0 ∷ []) mid) (Some (type_names (front ++ x.0 ∷ []), x.1)))
unfolding more_references_at
references_step n i h front ts lt =
    let eq : n - i ≡ suc (n - (i + 1)) = omega arith in
    rw eq refl

pub references_none : (n i h : ℕ) (front : List TypeName) (ts : List Token) → n ≤ i → more_references_at (n - i) h front ts ≡ None
unfolding more_references_at
references_none n i h front ts le =
    let eq : n - i ≡ 0 = omega arith in
    rw eq refl

pub modifiers_step : (names : List (List ℕ)) (n i : ℕ) (front : List Modifier) (ts : List Token) → i < n →
    more_modifiers_at names (n - i) front ts ≡ with (modifier_at names ts) (λ x. more_modifiers_at names (n - (i + 1)) (front ++ x.0 ∷ []) x.1) (front, ts)
unfolding more_modifiers_at
modifiers_step names n i front ts lt =
    let eq : n - i ≡ suc (n - (i + 1)) = omega arith in
    rw eq refl

pub modifiers_none : (names : List (List ℕ)) (n i : ℕ) (front : List Modifier) (ts : List Token) → n ≤ i → more_modifiers_at names (n - i) front ts ≡ (front, ts)
unfolding more_modifiers_at
modifiers_none names n i front ts le =
    let eq : n - i ≡ 0 = omega arith in
    rw eq refl

pub same_bytes : (xs ys : List ℕ) → bytes_eq xs ys ≡ same_text xs ys
same_bytes [] [] = refl
same_bytes [] (y ∷ ys) = refl
same_bytes (x ∷ xs) [] = refl
same_bytes (x ∷ xs) (y ∷ ys) = rw (same_bytes xs ys) refl

pub superclass_absent : (h : ℕ) (ts : List Token) → behind_word word.Extends ts ≡ None → superclass_at h ts ≡ Some (None, ts)
unfolding superclass_at
superclass_absent h ts none = rw none refl

pub references_absent : (w : Keyword) (h : ℕ) (ts : List Token) → behind_word w ts ≡ None → references_at w h ts ≡ Some (no_types, ts)
unfolding references_at
references_absent w h ts none = rw none refl

pub parameter_views_height_push : (ps qs : List TypeParam) (p : TypeParam) → qs ≡ ps ++ p ∷ [] →
    parameters_height (map parameter_view qs) ≡ max (parameters_height (map parameter_view ps)) (type_height_if (parameter_view p).bound)
parameter_views_height_push ps qs p pushed = rw (pushed, parameters_push ps p) (parameters_height_push (map parameter_view ps) (parameter_view p))
