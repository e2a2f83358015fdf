-- What looks past a name, brackets or a type is behind what is read there.
use Rattle.std.proofs.Common.{◌≡◌, ℕ, zero, suc, ◌+◌, ◌-◌, ◌<◌, ◌≤◌, Option, Some, None, option_map, List, [], ◌∷◌, ◌++◌, length, false, refl, ap, arith, sub-one, if◌then◌else◌}
use Rattle.je_base.specs.declared.span.Span.{Span}
use Rattle.je_token.specs.declared.symbol.Symbol.TheVariants as symbol
use Rattle.je_token.specs.declared.token.Token.{Token}
use Rattle.je_ast.specs.declared.name.Identifier.{Identifier}
use Rattle.je_ast.specs.declared.ty_name.Primitive.{Primitive}
use Rattle.je_ast.specs.Types.{QualifiedName, TypeName, TypeNames, class_type, primitive, no_types}
use Rattle.je_ast.specs.Spans.{join}
use Rattle.je_grammar.specs.Tokens.{first_span}
use Rattle.je_grammar.specs.Types.{is_plain_primitive}
use Rattle.parse_laws.specs.way.Tokens.{Read, with, ◌>>=◌, behind, identifier_at, closes_at}
use Rattle.parse_laws.specs.way.Types.{part_at, parts_at, name_at, pair_at, more_dims_at, dims_at, primitive_at, primitive_type_at, with_dims, type_argument_at, type_arguments_at, reference_layer, type_layer, type_at, past_type_at, past_name_at, past_dims_at}
use Rattle.parse_types.proofs.Steps.{dims_stop}
use Rattle.parse_types.specs.way.LookPast.{past_parts_at, past_pairs_at, past_argument_at, past_arguments_at}

with_alike : {A B D : Type 0} (see : B → D) (o : Option A) (k l : A → B) (x y : B) → ((a : A) → see (k a) ≡ see (l a)) → see x ≡ see y → see (with o k x) ≡ see (with o l y)
with_alike see None k l x y same other = other
with_alike see (Some a) k l x y same other = same a

with_seen : {A B D : Type 0} (see : B → D) (o : Option A) (k : A → B) (l : A → D) (x : B) (y : D) → ((a : A) → see (k a) ≡ l a) → see x ≡ y → see (with o k x) ≡ with o l y
with_seen see None k l x y same other = other
with_seen see (Some a) k l x y same other = same a

bind_seen : {A B D : Type 0} (see : B → D) (o : Option A) (k : A → Option B) (l : A → Option D) → ((a : A) → option_map see (k a) ≡ l a) → option_map see (o >>= k) ≡ (o >>= l)
bind_seen see None k l same = refl
bind_seen see (Some a) k l same = same a

bind_on : {A B D : Type 0} (see : A → D) (o : Option A) (k : A → Option B) (l : D → Option B) → ((a : A) → k a ≡ l (see a)) → (o >>= k) ≡ (option_map see o >>= l)
bind_on see None k l same = refl
bind_on see (Some a) k l same = same a

-- names
parts_alike : (n : ℕ) (f g : List Identifier) (s t : Span) (ts : List Token) → (parts_at n f s ts).1 ≡ (parts_at n g t ts).1
unfolding parts_at
parts_alike zero f g s t ts = refl
parts_alike (suc n) f g s t ts =
    with_alike (λ (r : QualifiedName × List Token). r.1) (part_at ts) _ _ _ _ (λ a. parts_alike n (f ++ a.0 ∷ []) (g ++ a.0 ∷ []) (join s a.0.span) (join t a.0.span) a.1) refl

pub past_name_is : (ts : List Token) → past_name_at ts ≡ (identifier_at ts >>= λ x. Some (past_parts_at (length ts) x.1))
unfolding past_name_at name_at past_parts_at
past_name_is ts = bind_seen (λ (r : QualifiedName × List Token). r.1) (identifier_at ts) _ _ (λ a. ap Some (parts_alike (length ts) (a.0 ∷ []) [] a.0.span (first_span a.1) a.1))

pub past_parts_step : (n i : ℕ) (ts : List Token) → i < n → past_parts_at (n - i) ts ≡ with (part_at ts) (λ x. past_parts_at (n - (i + 1)) x.1) ts
unfolding past_parts_at parts_at
past_parts_step n i ts lt =
    let eq : n - i ≡ suc (n - (i + 1)) = omega arith in
    rw eq (with_seen (λ (r : QualifiedName × List Token). r.1) (part_at ts) _ (λ x. past_parts_at (n - (i + 1)) x.1) _ ts
    (λ a. parts_alike (n - (i + 1)) ([] ++ a.0 ∷ []) [] (join (first_span ts) a.0.span) (first_span a.1) a.1) refl)

pub past_parts_none : (n i : ℕ) (ts : List Token) → n ≤ i → past_parts_at (n - i) ts ≡ ts
unfolding past_parts_at parts_at
past_parts_none n i ts le =
    let eq : n - i ≡ 0 = omega arith in
    rw eq refl

-- brackets
dims_alike : (n c d : ℕ) (s t : Span) (ts : List Token) → (more_dims_at n c s ts).2 ≡ (more_dims_at n d t ts).2
unfolding more_dims_at
dims_alike zero c d s t ts = refl
dims_alike (suc n) c d s t ts =
    with_alike (λ (r : ℕ × Span × List Token). r.2) (pair_at ts) _ _ _ _ (λ a. dims_alike n (suc c) (suc d) (join s a.0) (join t a.0) a.1) refl

pub past_dims_is : (ts : List Token) → past_dims_at ts ≡ past_pairs_at (length ts) ts
unfolding past_dims_at dims_at past_pairs_at
past_dims_is ts = refl

pub past_pairs_step : (n i : ℕ) (ts : List Token) → i < n → past_pairs_at (n - i) ts ≡ with (pair_at ts) (λ x. past_pairs_at (n - (i + 1)) x.1) ts
unfolding past_pairs_at more_dims_at
past_pairs_step n i ts lt =
    let eq : n - i ≡ suc (n - (i + 1)) = omega arith in
    rw eq (with_seen (λ (r : ℕ × Span × List Token). r.2) (pair_at ts) _ (λ x. past_pairs_at (n - (i + 1)) x.1) _ ts
    (λ a. dims_alike (n - (i + 1)) 1 0 (join (first_span ts) a.0) (first_span a.1) a.1) refl)

pub past_pairs_none : (n i : ℕ) (ts : List Token) → n ≤ i → past_pairs_at (n - i) ts ≡ ts
unfolding past_pairs_at more_dims_at
past_pairs_none n i ts le =
    let eq : n - i ≡ 0 = omega arith in
    rw eq refl

behind_dims : (s : Span) (ts : List Token) → (dims_at s ts).2 ≡ past_dims_at ts
unfolding dims_at past_dims_at
behind_dims s ts = dims_alike (length ts) 0 0 s (first_span ts) ts

-- types
bind_alike : {A B D : Type 0} (see : B → D) (o : Option A) (k l : A → Option B) → ((a : A) → option_map see (k a) ≡ option_map see (l a)) → option_map see (o >>= k) ≡ option_map see (o >>= l)
bind_alike see None k l same = refl
bind_alike see (Some a) k l same = same a

abbrev behind_them : TypeNames × Span × List Token → List Token
behind_them r = r.2

abbrev behind_it : TypeName × List Token → List Token
behind_it r = r.1

arguments_alike : (p : List Token → Read TypeName) (n : ℕ) (f g : List TypeName) (ts : List Token) → option_map behind_them (type_arguments_at p n f ts) ≡ option_map behind_them (type_arguments_at p n g ts)
unfolding type_arguments_at
arguments_alike p zero f g ts = refl
arguments_alike p (suc n) f g ts =
    bind_alike behind_them (type_argument_at p ts) _ _ (λ x. with_alike (option_map behind_them) (behind symbol.Comma x.1) _ _ _ _
    (λ mid. arguments_alike p n (f ++ x.0 ∷ []) (g ++ x.0 ∷ []) mid) (bind_alike behind_them (closes_at x.1) _ _ (λ c. refl)))

pub past_arguments_none : (h n i : ℕ) (ts : List Token) → n ≤ i → past_arguments_at h (n - i) ts ≡ None
unfolding past_arguments_at type_arguments_at
past_arguments_none h n i ts le =
    let eq : n - i ≡ 0 = omega arith in
    rw eq refl

map_bind_on : {A B C D : Type 0} (see : A → D) (shown : B → C) (o : Option A) (k : A → Option B) (l : D → Option C) → ((a : A) → option_map shown (k a) ≡ l (see a)) → option_map shown (o >>= k) ≡ (option_map see o >>= l)
map_bind_on see shown None k l same = refl
map_bind_on see shown (Some a) k l same = same a

pub past_arguments_step : (h n i : ℕ) (ts : List Token) → i < n → past_arguments_at h (n - i) ts ≡ (past_argument_at h ts >>= λ rest.
    with (behind symbol.Comma rest) (λ mid. past_arguments_at h (n - (i + 1)) mid) (closes_at rest >>= λ c. Some c.1))
unfolding past_arguments_at past_argument_at type_arguments_at
past_arguments_step h n i ts lt =
    let eq : n - i ≡ suc (n - (i + 1)) = omega arith in
    rw eq (map_bind_on behind_it behind_them (type_argument_at (type_at h) ts) _
    (λ rest. with (behind symbol.Comma rest) (λ mid. past_arguments_at h (n - (i + 1)) mid) (closes_at rest >>= λ c. Some c.1))
    (λ x. with_seen (option_map behind_them) (behind symbol.Comma x.1) _ (λ mid. past_arguments_at h (n - (i + 1)) mid) _ _
    (λ mid. arguments_alike (type_at h) (n - (i + 1)) ([] ++ x.0 ∷ []) [] mid) (bind_seen behind_them (closes_at x.1) _ (λ c. Some c.1) (λ c. refl))))

pub past_type_zero : (ts : List Token) → past_type_at 0 ts ≡ None
unfolding past_type_at type_at
past_type_zero ts = refl

-- behind a class type
abbrev past_reference_at : ℕ → List Token → Option (List Token)
past_reference_at h ts = past_name_at ts >>= λ n.
    with (behind symbol.Less n) (λ mid. past_arguments_at h (length mid) mid >>= λ rest. Some (past_dims_at rest)) (Some (past_dims_at n))

after_arguments : (n : QualifiedName × List Token) (o : Option (TypeNames × Span × List Token)) →
    option_map behind_it ((o >>= λ us. Some (class_type n.0 us.0 0 (join n.0.span us.1), us.2)) >>= λ x. Some (with_dims x)) ≡ (option_map behind_them o >>= λ rest. Some (past_dims_at rest))
after_arguments n None = refl
after_arguments n (Some us) = ap Some (behind_dims (join n.0.span us.1) us.2)

after_name : (h : ℕ) (n : QualifiedName × List Token) (o : Option (List Token)) →
    option_map behind_it (with o (λ mid. type_arguments_at (type_at h) (length mid) [] mid >>= λ us. Some (class_type n.0 us.0 0 (join n.0.span us.1), us.2)) (Some (class_type n.0 no_types 0 n.0.span, n.1)) >>= λ x. Some (with_dims x))
    ≡ with o (λ mid. past_arguments_at h (length mid) mid >>= λ rest. Some (past_dims_at rest)) (Some (past_dims_at n.1))
unfolding past_arguments_at
after_name h n None = ap Some (behind_dims n.0.span n.1)
after_name h n (Some mid) = after_arguments n (type_arguments_at (type_at h) (length mid) [] mid)

on_name : (h : ℕ) (o : Read QualifiedName) →
    option_map behind_it ((o >>= λ n. with (behind symbol.Less n.1) (λ mid. type_arguments_at (type_at h) (length mid) [] mid >>= λ us. Some (class_type n.0 us.0 0 (join n.0.span us.1), us.2)) (Some (class_type n.0 no_types 0 n.0.span, n.1))) >>= λ x. Some (with_dims x))
    ≡ (option_map (λ x. x.1) o >>= λ n. with (behind symbol.Less n) (λ mid. past_arguments_at h (length mid) mid >>= λ rest. Some (past_dims_at rest)) (Some (past_dims_at n)))
on_name h None = refl
on_name h (Some n) = after_name h n (behind symbol.Less n.1)

reference_past : (h : ℕ) (ts : List Token) → option_map behind_it (reference_layer (type_at h) ts >>= λ x. Some (with_dims x)) ≡ past_reference_at h ts
unfolding reference_layer past_name_at
reference_past h ts = on_name h (name_at ts)

pub past_type_step : (b : ℕ) (ts : List Token) → 0 < b → past_type_at b ts ≡ with (primitive_at ts) (λ x. Some (past_dims_at x.1)) (past_reference_at (b - 1) ts)
unfolding past_type_at type_at type_layer primitive_type_at
past_type_step zero ts h = absurd (omega arith)
past_type_step (suc b) ts h = rw sub-one (with_seen (option_map behind_it) (primitive_at ts) _ (λ x. Some (past_dims_at x.1)) _ (past_reference_at b ts) (λ x. ap Some (behind_dims (first_span ts) x.1)) (reference_past b ts))

-- type arguments
with_same : {A B D : Type 0} (see : B → D) (o : Option A) (k : A → B) (x : B) (d : D) → ((a : A) → see (k a) ≡ d) → see x ≡ d → see (with o k x) ≡ d
with_same see None k x d same other = other
with_same see (Some a) k x d same other = same a

has_pairs : (p : Primitive) (n c : ℕ) (s : Span) (ts : List Token) → is_plain_primitive (primitive p (more_dims_at n (suc c) s ts).0 (more_dims_at n (suc c) s ts).1) ≡ false
unfolding more_dims_at
has_pairs p zero c s ts = refl
has_pairs p (suc n) c s ts =
    with_same (λ (d : ℕ × Span × List Token). is_plain_primitive (primitive p d.0 d.1)) (pair_at ts) _ _ false (λ a. has_pairs p n (suc c) (join s a.0) a.1) refl

on_pair : (p : Primitive) (s : Span) (us : List Token) (n : ℕ) (o : Read Span) (d : ℕ × Span × List Token) → d ≡ with o (λ x. more_dims_at n 1 (join s x.0) x.1) (0, s, us) →
    option_map behind_it (if is_plain_primitive (primitive p d.0 d.1) then None else Some (primitive p d.0 d.1, d.2)) ≡ with o (λ c. Some d.2) None
on_pair p s us n None d is = rw is refl
on_pair p s us n (Some x) d is = rw (is, has_pairs p n 0 (join s x.0) x.1) refl

after_primitive : (p : Primitive) (s : Span) (ts : List Token) →
    option_map behind_it (if is_plain_primitive (primitive p (dims_at s ts).0 (dims_at s ts).1) then None else Some (primitive p (dims_at s ts).0 (dims_at s ts).1, (dims_at s ts).2)) ≡ with (pair_at ts) (λ c. Some (dims_at s ts).2) None
unfolding dims_at more_dims_at
after_primitive p s [] = refl
after_primitive p s (t ∷ ts) = on_pair p s (t ∷ ts) (length ts) (pair_at (t ∷ ts)) _ refl

class_arguments : (n : QualifiedName × List Token) (o : Option (TypeNames × Span × List Token)) →
    ((o >>= λ us. Some (class_type n.0 us.0 0 (join n.0.span us.1), us.2)) >>= (λ x. Some (with_dims x)) >>= λ x. if is_plain_primitive x.0 then None else Some x)
    ≡ ((o >>= λ us. Some (class_type n.0 us.0 0 (join n.0.span us.1), us.2)) >>= λ x. Some (with_dims x))
class_arguments n None = refl
class_arguments n (Some us) = refl

class_name : (h : ℕ) (n : QualifiedName × List Token) (o : Option (List Token)) →
    (with o (λ mid. type_arguments_at (type_at h) (length mid) [] mid >>= λ us. Some (class_type n.0 us.0 0 (join n.0.span us.1), us.2)) (Some (class_type n.0 no_types 0 n.0.span, n.1)) >>= (λ x. Some (with_dims x)) >>= λ x. if is_plain_primitive x.0 then None else Some x)
    ≡ (with o (λ mid. type_arguments_at (type_at h) (length mid) [] mid >>= λ us. Some (class_type n.0 us.0 0 (join n.0.span us.1), us.2)) (Some (class_type n.0 no_types 0 n.0.span, n.1)) >>= λ x. Some (with_dims x))
class_name h n None = refl
class_name h n (Some mid) = class_arguments n (type_arguments_at (type_at h) (length mid) [] mid)

class_on : (h : ℕ) (o : Read QualifiedName) →
    ((o >>= λ n. with (behind symbol.Less n.1) (λ mid. type_arguments_at (type_at h) (length mid) [] mid >>= λ us. Some (class_type n.0 us.0 0 (join n.0.span us.1), us.2)) (Some (class_type n.0 no_types 0 n.0.span, n.1))) >>= (λ x. Some (with_dims x)) >>= λ x. if is_plain_primitive x.0 then None else Some x)
    ≡ ((o >>= λ n. with (behind symbol.Less n.1) (λ mid. type_arguments_at (type_at h) (length mid) [] mid >>= λ us. Some (class_type n.0 us.0 0 (join n.0.span us.1), us.2)) (Some (class_type n.0 no_types 0 n.0.span, n.1))) >>= λ x. Some (with_dims x))
class_on h None = refl
class_on h (Some n) = class_name h n (behind symbol.Less n.1)

never_plain : (h : ℕ) (ts : List Token) → (reference_layer (type_at h) ts >>= (λ x. Some (with_dims x)) >>= λ x. if is_plain_primitive x.0 then None else Some x) ≡ (reference_layer (type_at h) ts >>= λ x. Some (with_dims x))
unfolding reference_layer
never_plain h ts = class_on h (name_at ts)

argument_on : (s : Span) (o : Read Primitive) (r : Read TypeName) → (r >>= λ x. if is_plain_primitive x.0 then None else Some x) ≡ r →
    option_map behind_it (with o (λ x. Some (primitive_type_at x.0 s x.1)) r >>= λ x. if is_plain_primitive x.0 then None else Some x)
    ≡ with o (λ x. with (pair_at x.1) (λ c. option_map behind_it (with o (λ x. Some (primitive_type_at x.0 s x.1)) r)) None) (option_map behind_it (with o (λ x. Some (primitive_type_at x.0 s x.1)) r))
unfolding primitive_type_at
argument_on s None r never = ap (option_map behind_it) never
argument_on s (Some x) r never = after_primitive x.0 s x.1

abbrev nowhere : Option (List Token)
nowhere = None

none_pair : (o : Read Span) → nowhere ≡ with o (λ c. nowhere) nowhere
none_pair None = refl
none_pair (Some x) = refl

none_on : (o : Read Primitive) → nowhere ≡ with o (λ x. with (pair_at x.1) (λ c. nowhere) nowhere) nowhere
none_on None = refl
none_on (Some x) = none_pair (pair_at x.1)

pub past_argument_is : (h : ℕ) (ts : List Token) → past_argument_at h ts ≡ with (primitive_at ts) (λ x. with (pair_at x.1) (λ c. past_type_at h ts) None) (past_type_at h ts)
unfolding past_argument_at past_type_at type_argument_at type_at type_layer
past_argument_is zero ts = none_on (primitive_at ts)
past_argument_is (suc h) ts = argument_on (first_span ts) (primitive_at ts) (reference_layer (type_at h) ts >>= λ x. Some (with_dims x)) (never_plain h ts)

pub past_dims_stop : (ts : List Token) → behind symbol.OpenBracket ts ≡ None → past_dims_at ts ≡ ts
unfolding past_dims_at
past_dims_stop ts none = ap (λ (d : ℕ × Span × List Token). d.2) (dims_stop (first_span ts) ts none)
